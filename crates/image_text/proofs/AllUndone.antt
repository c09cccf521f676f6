-- The present code with its patches undone.
use Rattle.std.proofs.Common.{◌≡◌, ℕ, ◌+◌, ◌≤◌, ℤ, List, [], ◌∷◌, ◌++◌, length, map, refl, sym, ap, subst, ◌∙◌, append_assoc}
use Rattle.std.proofs.lemmas.List.{append-nil}
use Rattle.bridge_patch.specs.declared.image.Change.{Change}
use Rattle.image_runs.specs.Printed.{Patch, Part, patched, all_patched, with_part, with_parts}
use Rattle.image_text.specs.Printing.{patch_of, ArePartsOf, AllStood, PartsStood}
use Rattle.image_text.specs.Undone.{put_back, all_undone, changes_undone}
use Rattle.image_text.proofs.PutBack.{length-patched, patched-patched, put_back-within, length-put_back, put_back-append}

-- the bytes that parts appended
abbrev pub joined : List Part → List ℕ
joined [] = []
joined (x ∷ xs) = x.bytes ++ joined xs

-- the places of patches lie below an end
abbrev Within : ℕ → List (ℕ × ℤ × ℤ) → Type 0
Within n [] = Unit {0}
Within n (q ∷ qs) = (q.0 + 4 ≤ n) × Within n qs

within : (n : ℕ) (qs : List (ℕ × ℤ × ℤ)) (code : List ℕ) → length code ≡ n → AllStood (map patch_of qs) code → Within n qs
within n [] code len h = tt
within n (q ∷ qs) code len h =
    let le : q.0 + 4 ≤ n = subst (λ (m : ℕ). q.0 + 4 ≤ m) len h.0 in
    (le, within n qs (patched q.0 q.2 code) (length-patched q.0 q.2 code h.0 ∙ len) h.2)

length-all_patched : (qs : List (ℕ × ℤ × ℤ)) (code : List ℕ) → AllStood (map patch_of qs) code → length (all_patched (map patch_of qs) code) ≡ length code
length-all_patched [] code h = refl
length-all_patched (q ∷ qs) code h = length-all_patched qs (patched q.0 q.2 code) h.2 ∙ length-patched q.0 q.2 code h.0

-- what was patched is undone
all_undone-all_patched : (qs : List (ℕ × ℤ × ℤ)) (code : List ℕ) → AllStood (map patch_of qs) code → all_undone qs (all_patched (map patch_of qs) code) ≡ code
all_undone-all_patched [] code h = refl
all_undone-all_patched (q ∷ qs) code h =
    let le : q.0 + 4 ≤ length (patched q.0 q.2 code) = subst (λ (m : ℕ). q.0 + 4 ≤ m) (sym (length-patched q.0 q.2 code h.0)) h.0 in
    ap (put_back q.0 q.1) (all_undone-all_patched qs (patched q.0 q.2 code) h.2)
    ∙ put_back-within q.0 q.1 (patched q.0 q.2 code) le
    ∙ patched-patched q.0 q.1 q.2 code h.0 h.1

length-all_undone : (n : ℕ) (qs : List (ℕ × ℤ × ℤ)) (code : List ℕ) → length code ≡ n → Within n qs → length (all_undone qs code) ≡ n
length-all_undone n [] code len h = len
length-all_undone n (q ∷ qs) code len h =
    let rest : length (all_undone qs code) ≡ n = length-all_undone n qs code len h.1 in
    length-put_back q.0 q.1 (all_undone qs code) (subst (λ (m : ℕ). q.0 + 4 ≤ m) (sym rest) h.0) ∙ rest

-- what was appended later stays
all_undone-append : (n : ℕ) (qs : List (ℕ × ℤ × ℤ)) (code more : List ℕ) → length code ≡ n → Within n qs → all_undone qs (code ++ more) ≡ all_undone qs code ++ more
all_undone-append n [] code more len h = refl
all_undone-append n (q ∷ qs) code more len h =
    let rest : length (all_undone qs code) ≡ n = length-all_undone n qs code len h.1 in
    ap (put_back q.0 q.1) (all_undone-append n qs code more len h.1)
    ∙ put_back-append q.0 q.1 (all_undone qs code) more (subst (λ (m : ℕ). q.0 + 4 ≤ m) (sym rest) h.0)

-- a part with more behind it
part_undone : (qs : List (ℕ × ℤ × ℤ)) (code more : List ℕ) → AllStood (map patch_of qs) code → all_undone qs (all_patched (map patch_of qs) code ++ more) ≡ code ++ more
part_undone qs code more h =
    all_undone-append (length code) qs (all_patched (map patch_of qs) code) more (length-all_patched qs code h) (within (length code) qs code refl h)
    ∙ ap (λ (l : List ℕ). l ++ more) (all_undone-all_patched qs code h)

pub changes_undone-with_parts : (at : ℕ) (xs : List Part) (cs : List Change) (code : List ℕ) → ArePartsOf at xs cs → PartsStood code xs → changes_undone cs (with_parts code xs) ≡ code ++ joined xs
changes_undone-with_parts at [] [] code h s = sym (append-nil code)
changes_undone-with_parts at [] (c ∷ cs) code h s = absurd h
changes_undone-with_parts at (x ∷ xs) [] code h s = absurd h
changes_undone-with_parts at (x ∷ xs) (c ∷ cs) code h s =
    let same : x.patches ≡ map patch_of c.patches = h.0.patches in
    let stood : AllStood (map patch_of c.patches) (code ++ x.bytes) = subst (λ (ps : List Patch). AllStood ps (code ++ x.bytes)) same s.0 in
    ap (all_undone c.patches) (changes_undone-with_parts (at + length x.bytes) xs cs (with_part code x) h.1 s.1)
    ∙ ap (λ (ps : List Patch). all_undone c.patches (all_patched ps (code ++ x.bytes) ++ joined xs)) same
    ∙ part_undone c.patches (code ++ x.bytes) (joined xs) stood
    ∙ append_assoc code x.bytes (joined xs)
