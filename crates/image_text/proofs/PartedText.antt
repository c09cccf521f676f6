-- Bytes and rows that are parted among changes are those of the parts.
use Rattle.std.proofs.Common.{◌≡◌, ◌≢◌, ℕ, ◌+◌, ℤ, Bool, true, false, cond, eqb, List, [], ◌∷◌, ◌++◌, length, take, drop, map, refl, sym, ap, ◌∙◌, arith}
use Rattle.std.specs.List.{AllByRecursion, flat_map}
use Rattle.std.proofs.lemmas.Bool.{eq-eqb, ne_eqb}
use Rattle.std.proofs.lemmas.List.{take_at, drop_at}
use Rattle.std.proofs.Math.Seq.{take-length}
use Rattle.trace_ops.specs.declared.trace.TraceSet.{TraceSet}
use Rattle.guard_exit.specs.declared.row.ExitRow.{ExitRow}
use Rattle.trace_text.specs.PieceWriting.{trace_name}
use Rattle.bridge_patch.specs.declared.image.Change.{Change}
use Rattle.image_runs.specs.Printed.{Part, Printed, with_parts}
use Rattle.image_text.specs.declared.image.Compiled.{Compiled}
use Rattle.image_text.specs.Hex.{hex_lines}
use Rattle.image_text.specs.Texts.{patch_text, patches_text, attach_text, base_text, entries_text, exits_text, part_text, parts_text, image_text}
use Rattle.image_text.specs.Parted.{run_of, changed_patches, change_text, changes_text, parted_text}
use Rattle.image_text.specs.Printing.{patch_of, IsPartOf, ArePartsOf, AreOnce, IsPrinted}
use Rattle.image_text.specs.Undone.{changes_undone}
use Rattle.image_text.proofs.AllUndone.{joined, changes_undone-with_parts}

-- the rows of parts
abbrev rows_in : List Part → List ExitRow
rows_in xs = flat_map (λ (x : Part). x.rows) xs

run_of-other : (b c : ℕ) (rs more : List ExitRow) → c ≢ b → AllByRecursion (λ (r : ExitRow). r.id.trace ≡ c) rs → run_of b more ≡ 0 → run_of b (rs ++ more) ≡ 0
run_of-other b c [] more ne h e = e
run_of-other b c (r ∷ rs) more ne h e =
    let t : eqb r.id.trace b ≡ false = ne_eqb r.id.trace b (λ s. ne (sym h.0 ∙ s)) in
    ap (λ (x : Bool). cond x (run_of b (rs ++ more) + 1) 0) t

run_of-own : (b : ℕ) (rs more : List ExitRow) → AllByRecursion (λ (r : ExitRow). r.id.trace ≡ b) rs → run_of b more ≡ 0 → run_of b (rs ++ more) ≡ length rs
run_of-own b [] more h e = e
run_of-own b (r ∷ rs) more h e =
    let t : eqb r.id.trace b ≡ true = eq-eqb r.id.trace b h.0 in
    let rest : run_of b (rs ++ more) ≡ length rs = run_of-own b rs more h.1 e in
    ap (λ (x : Bool). cond x (run_of b (rs ++ more) + 1) 0) t ∙ omega (arith, rest)

run_of-later : (b at : ℕ) (xs : List Part) (cs : List Change) → ArePartsOf at xs cs → AllByRecursion (λ (y : Part). y.bridge ≢ b) xs → run_of b (rows_in xs) ≡ 0
run_of-later b at [] cs h ne = refl
run_of-later b at (x ∷ xs) [] h ne = absurd h
run_of-later b at (x ∷ xs) (c ∷ cs) h ne =
    run_of-other b x.bridge x.rows (rows_in xs) ne.0 h.0.rows (run_of-later b (at + length x.bytes) xs cs h.1 ne.1)

patches_text-map : (qs : List (ℕ × ℤ × ℤ)) → changed_patches qs ≡ patches_text (map patch_of qs)
patches_text-map [] = refl
patches_text-map (q ∷ qs) = ap (λ (l : List ℕ). patch_text q.0 q.2 ++ l) (patches_text-map qs)

change_text-part_text : (set : TraceSet) (at : ℕ) (x : Part) (c : Change) → IsPartOf at x c → change_text set c x.bytes x.rows ≡ part_text set at x
unfolding change_text
change_text-part_text set at x c h =
    let head : attach_text (trace_name set c.bridge) c.from (length x.bytes) ≡ attach_text (trace_name set x.bridge) at (length x.bytes) =
    ap (λ (b : ℕ). attach_text (trace_name set b) c.from (length x.bytes)) h.bridge ∙ ap (λ (n : ℕ). attach_text (trace_name set x.bridge) n (length x.bytes)) h.from in
    ap (λ (l : List ℕ). ((l ++ hex_lines x.bytes) ++ exits_text set x.rows) ++ changed_patches c.patches) head
    ∙ ap (λ (l : List ℕ). ((attach_text (trace_name set x.bridge) at (length x.bytes) ++ hex_lines x.bytes) ++ exits_text set x.rows) ++ l) (patches_text-map c.patches ∙ ap patches_text (sym h.patches))

changes_text-parts_text : (set : TraceSet) (at : ℕ) (xs : List Part) (cs : List Change) → ArePartsOf at xs cs → AreOnce xs → changes_text set (joined xs) (rows_in xs) cs ≡ parts_text set at xs
changes_text-parts_text set at [] [] h o = refl
changes_text-parts_text set at [] (c ∷ cs) h o = absurd h
changes_text-parts_text set at (x ∷ xs) [] h o = absurd h
changes_text-parts_text set at (x ∷ xs) (c ∷ cs) h o =
    let len : length x.bytes ≡ c.len = sym h.0.len in
    let run : length x.rows ≡ run_of c.bridge (x.rows ++ rows_in xs) =
    sym (ap (λ (b : ℕ). run_of b (x.rows ++ rows_in xs)) h.0.bridge ∙ run_of-own x.bridge x.rows (rows_in xs) h.0.rows (run_of-later x.bridge (at + length x.bytes) xs cs h.1 o.0)) in
    let n : ℕ = run_of c.bridge (x.rows ++ rows_in xs) in
    let bytes : take c.len (x.bytes ++ joined xs) ≡ x.bytes = take_at x.bytes (joined xs) c.len len in
    let behind : drop c.len (x.bytes ++ joined xs) ≡ joined xs = drop_at x.bytes (joined xs) c.len len in
    let rows : take n (x.rows ++ rows_in xs) ≡ x.rows = take_at x.rows (rows_in xs) n run in
    let later : drop n (x.rows ++ rows_in xs) ≡ rows_in xs = drop_at x.rows (rows_in xs) n run in
    let more : List ℕ = changes_text set (drop c.len (x.bytes ++ joined xs)) (drop n (x.rows ++ rows_in xs)) cs in
    ap (λ (l : List ℕ). change_text set c l (take n (x.rows ++ rows_in xs)) ++ more) bytes
    ∙ ap (λ (l : List ExitRow). change_text set c x.bytes l ++ more) rows
    ∙ ap (λ (l : List ℕ). change_text set c x.bytes x.rows ++ changes_text set l (drop n (x.rows ++ rows_in xs)) cs) behind
    ∙ ap (λ (l : List ExitRow). change_text set c x.bytes x.rows ++ changes_text set (joined xs) l cs) later
    ∙ ap (λ (l : List ℕ). l ++ changes_text set (joined xs) (rows_in xs) cs) (change_text-part_text set at x c h.0)
    ∙ ap (λ (l : List ℕ). part_text set at x ++ l) (changes_text-parts_text set (at + length x.bytes) xs cs h.1 o.1)

-- base and parts, one behind the other
whole : (set : TraceSet) (im : Printed) (compiled : Compiled) (changes : List Change) → length im.base ≡ compiled.bytes → length im.rows ≡ compiled.exits → ArePartsOf (length im.base) im.parts changes → AreOnce im.parts
    → parted_text set compiled im.entries (im.base ++ joined im.parts) (im.rows ++ rows_in im.parts) changes ≡ image_text set im
unfolding parted_text
whole set im compiled changes eb er h o =
    let bytes : take compiled.bytes (im.base ++ joined im.parts) ≡ im.base = take_at im.base (joined im.parts) compiled.bytes eb in
    let behind : drop compiled.bytes (im.base ++ joined im.parts) ≡ joined im.parts = drop_at im.base (joined im.parts) compiled.bytes eb in
    let rows : take compiled.exits (im.rows ++ rows_in im.parts) ≡ im.rows = take_at im.rows (rows_in im.parts) compiled.exits er in
    let later : drop compiled.exits (im.rows ++ rows_in im.parts) ≡ rows_in im.parts = drop_at im.rows (rows_in im.parts) compiled.exits er in
    let all : List ℕ → List ExitRow → List ℕ → List ℕ = λ b r m. ((base_text b ++ entries_text set im.entries) ++ exits_text set r) ++ m in
    ap (λ (b : List ℕ). all b (take compiled.exits (im.rows ++ rows_in im.parts)) (changes_text set (drop compiled.bytes (im.base ++ joined im.parts)) (drop compiled.exits (im.rows ++ rows_in im.parts)) changes)) bytes
    ∙ ap (λ (r : List ExitRow). all im.base r (changes_text set (drop compiled.bytes (im.base ++ joined im.parts)) (drop compiled.exits (im.rows ++ rows_in im.parts)) changes)) rows
    ∙ ap (λ (b : List ℕ). all im.base im.rows (changes_text set b (drop compiled.exits (im.rows ++ rows_in im.parts)) changes)) behind
    ∙ ap (λ (r : List ExitRow). all im.base im.rows (changes_text set (joined im.parts) r changes)) later
    ∙ ap (λ (m : List ℕ). all im.base im.rows m) (changes_text-parts_text set (length im.base) im.parts changes h o)

pub parted_text-image_text : (set : TraceSet) (im : Printed) (compiled : Compiled) (entries : List (ℕ × ℕ)) (code bytes : List ℕ) (exits : List ExitRow) (changes : List Change)
    → IsPrinted im compiled entries code exits changes → bytes ≡ changes_undone changes code → parted_text set compiled entries bytes exits changes ≡ image_text set im
parted_text-image_text set im compiled entries code bytes exits changes p e =
    let all : take (length im.parts) im.parts ≡ im.parts = take-length im.parts in
    let now : code ≡ with_parts im.base im.parts = sym p.now ∙ ap (with_parts im.base) all in
    let rows : exits ≡ im.rows ++ rows_in im.parts = sym p.exits_now ∙ ap (λ (xs : List Part). im.rows ++ rows_in xs) all in
    let first : bytes ≡ im.base ++ joined im.parts = e ∙ ap (changes_undone changes) now ∙ changes_undone-with_parts (length im.base) im.parts changes im.base p.parts_of p.stood in
    ap (λ (es : List (ℕ × ℕ)). parted_text set compiled es bytes exits changes) (sym p.entered)
    ∙ ap (λ (b : List ℕ). parted_text set compiled im.entries b exits changes) first
    ∙ ap (λ (r : List ExitRow). parted_text set compiled im.entries (im.base ++ joined im.parts) r changes) rows
    ∙ whole set im compiled changes p.bytes p.rows p.parts_of p.once
