-- A line that is read is spelled so.
use Rattle.std.proofs.Common.{◌≡◌, ℕ, Bool, true, false, cond, eqb, List, [], ◌∷◌, ◌++◌, map, Option, Some, None, refl, sym, ap, subst, ◌∙◌, append_assoc, inl, inr, ◌⊎◌}
use Rattle.std.specs.Prelude.{codes}
use Rattle.std.specs.Str.{bytes_eq}
use Rattle.std.specs.List.{AllByRecursion}
use Rattle.std.proofs.lemmas.Bool.{eqb-true}
use Rattle.std.proofs.lemmas.List.{append-nil}
use Rattle.text_lines.specs.Words.{is_name}
use Rattle.lists.specs.Binds.{◌>>=◌}
use Rattle.lists.proofs.Options.{bind_some}
use Rattle.lists.proofs.Bools.{if_some, cond_some, chosen, bytes_same}
use Rattle.std.proofs.lemmas.Option.{same_Some}
use Rattle.text_lines.specs.Reading.{word_at, name_at, key_at, ended}
use Rattle.trace_ops.specs.declared.trace.Kind.{Kind}
use Rattle.trace_ops.specs.declared.trace.Kind.TheVariants.{Int, Ref}
use Rattle.descr_table.specs.declared.form.Form.{Form}
use Rattle.descr_table.specs.declared.form.Form.TheVariants.{Size, Field, Array, Call, Function, Object, Items}
use Rattle.descr_table.specs.declared.form.Given.{Given}
use Rattle.descr_table.specs.declared.form.Part.{Part}
use Rattle.descr_table.specs.Words.{kind_at, result_at, kind_of_letter, letters_at, some_kinds, kinds_of, some_names, names_at, reads_at, onward, reads_of, listed, writes_of, given_of, part_of, parts_at, items_at, array_of}
use Rattle.descr_table.specs.Form.{size_rest, size_at, field_rest, field_at, array_at, call_at, function_at, prebuilt_at, body_at, function_or_prebuilt, form_at}
use Rattle.descr_table.specs.Spelling.{kind_letter, kind_word, kinds_word, result_word, listed_words, SpellsParts, SpellsItems, Spells, IsReadName, IsForm}

abbrev Words : Type 0
Words = List (List ℕ)

abbrev AreNames : Words → Type 0
AreNames ns = AllByRecursion (λ n. is_name n ≡ true) ns

-- ---- steps

name_takes : (ws : Words) (x : List ℕ × Words) → name_at ws ≡ Some x → (ws ≡ x.0 ∷ x.1) × (is_name x.0 ≡ true)
unfolding name_at
name_takes [] x e = absurd cc
name_takes (w ∷ ws) x e =
    let g = if_some (is_name w) (w, ws) x e in
    subst (λ (y : List ℕ × Words). (w ∷ ws ≡ y.0 ∷ y.1) × (is_name y.0 ≡ true)) g.1 (refl, g.0)

key_takes : (key : List ℕ) (ws rest : Words) → key_at key ws ≡ Some rest → ws ≡ key ∷ rest
unfolding key_at
key_takes key [] rest e = absurd cc
key_takes key (w ∷ ws) rest e =
    let g = if_some (bytes_eq w key) ws rest e in
    let same : w ≡ key = bytes_same w key g.0 in
    rw (same, g.1) refl

word_takes : (ws : Words) (x : List ℕ × Words) → word_at ws ≡ Some x → ws ≡ x.0 ∷ x.1
word_takes [] x e = absurd cc
word_takes (w ∷ ws) x e = let same : (w, ws) ≡ x = same_Some (w, ws) x e in ap (λ (y : List ℕ × Words). y.0 ∷ y.1) same

ended_takes : {A : Type 0} (x y : A) (ws : Words) → ended x ws ≡ Some y → (ws ≡ []) × (x ≡ y)
ended_takes x y [] e = (refl, cc)
ended_takes x y (w ∷ ws) e = absurd cc

abbrev SpellsKind : Words → Kind × Words → Type 0
SpellsKind ws x = ws ≡ kind_word x.0 ∷ x.1

kind_step : (w : List ℕ) (ws : Words) (k : Kind) (x : Kind × Words) → bytes_eq w (kind_word k) ≡ true → (k, ws) ≡ x → SpellsKind (w ∷ ws) x
kind_step w ws k x e same = subst (SpellsKind (w ∷ ws)) same (ap (λ (v : List ℕ). v ∷ ws) (bytes_same w (kind_word k) e))

kind_takes : (ws : Words) (x : Kind × Words) → kind_at ws ≡ Some x → SpellsKind ws x
unfolding kind_at
kind_takes [] x e = absurd cc
kind_takes (w ∷ ws) x e =
    elim (chosen (bytes_eq w (codes "i")) (Some (Int, ws)) (cond (bytes_eq w (codes "r")) (Some (Ref, ws)) None) (Some x) e) [
      | inl h ↦ kind_step w ws Int x h.0 (same_Some (Int, ws) x h.1)
      | inr h ↦ let g = if_some (bytes_eq w (codes "r")) (Ref, ws) x h.1 in kind_step w ws Ref x g.0 g.1
    ]

abbrev Gives : Type 0
Gives = Option Kind × Words

abbrev SpellsResult : Words → Gives → Type 0
SpellsResult ws x = ws ≡ result_word x.0 ∷ x.1

abbrev gives : Option Kind → Words → Gives
gives k ws = (k, ws)

result_step : (w : List ℕ) (ws : Words) (k : Option Kind) (x : Gives) → bytes_eq w (result_word k) ≡ true → gives k ws ≡ x → SpellsResult (w ∷ ws) x
result_step w ws k x e same = subst (SpellsResult (w ∷ ws)) same (ap (λ (v : List ℕ). v ∷ ws) (bytes_same w (result_word k) e))

result_takes : (ws : Words) (x : Gives) → result_at ws ≡ Some x → SpellsResult ws x
unfolding result_at
result_takes [] x e = absurd cc
result_takes (w ∷ ws) x e =
    elim (chosen (bytes_eq w (codes "i")) (Some (gives (Some Int) ws)) (cond (bytes_eq w (codes "r")) (Some (gives (Some Ref) ws)) (cond (bytes_eq w (codes "n")) (Some (gives None ws)) None)) (Some x) e) [
      | inl h ↦ result_step w ws (Some Int) x h.0 (same_Some (gives (Some Int) ws) x h.1)
      | inr r ↦ elim (chosen (bytes_eq w (codes "r")) (Some (gives (Some Ref) ws)) (cond (bytes_eq w (codes "n")) (Some (gives None ws)) None) (Some x) r.1) [
        | inl h ↦ result_step w ws (Some Ref) x h.0 (same_Some (gives (Some Ref) ws) x h.1)
        | inr h ↦ let g = if_some (bytes_eq w (codes "n")) (gives None ws) x h.1 in result_step w ws None x g.0 g.1
      ]
    ]

-- ---- lists

letter_takes : (c : ℕ) (k : Kind) → kind_of_letter c ≡ Some k → c ≡ kind_letter k
letter_takes c k e =
    elim (chosen (eqb c 105) (Some Int) (cond (eqb c 114) (Some Ref) None) (Some k) e) [
      | inl h ↦ let same : Int ≡ k = same_Some Int k h.1 in eqb-true c 105 h.0 ∙ ap kind_letter same
      | inr h ↦ let g = if_some (eqb c 114) Ref k h.1 in eqb-true c 114 g.0 ∙ ap kind_letter g.1
    ]

letters_take : (s ks : List Kind) (cs : List ℕ) → letters_at s cs ≡ Some ks → (front : List Kind) × (ks ≡ s ++ front) × (cs ≡ map kind_letter front)
unfolding letters_at
letters_take s ks [] e = ([], sym (same_Some s ks e) ∙ sym (append-nil s), refl)
letters_take s ks (c ∷ cs) e =
    let a = bind_some (kind_of_letter c) (λ k. letters_at (s ++ k ∷ []) cs) ks e in
    let r = letters_take (s ++ a.0 ∷ []) ks cs a.2 in
    let first : c ≡ kind_letter a.0 = letter_takes c a.0 a.1 in
    (a.0 ∷ r.0, r.1 ∙ append_assoc s (a.0 ∷ []) r.0, cc (first, r.2))

some_kinds_take : (o : Option (List Kind)) (ks : List Kind) → some_kinds o ≡ Some ks → (k : Kind) × (more : List Kind) × (ks ≡ k ∷ more) × (o ≡ Some ks)
some_kinds_take None ks e = absurd cc
some_kinds_take (Some []) ks e = absurd cc
some_kinds_take (Some (k ∷ more)) ks e = (k, more, sym (same_Some (k ∷ more) ks e), e)

kinds_take : (w : List ℕ) (ks : List Kind) → kinds_of w ≡ Some ks → w ≡ kinds_word ks
unfolding kinds_of
kinds_take w ks e =
    elim (chosen (bytes_eq w (codes "-")) (Some []) (some_kinds (letters_at [] w)) (Some ks) e) [
      | inl h ↦ let none : [] ≡ ks = same_Some [] ks h.1 in bytes_same w (codes "-") h.0 ∙ ap kinds_word none
      | inr h ↦
          let a = some_kinds_take (letters_at [] w) ks h.1 in
          let b = letters_take [] ks w a.3 in
          let all : b.0 ≡ a.0 ∷ a.1 = sym b.1 ∙ a.2 in
          b.2 ∙ ap (map kind_letter) all ∙ ap kinds_word (sym a.2)
    ]

names_take : (s ns ws : Words) → names_at s ws ≡ Some ns → (ns ≡ s ++ ws) × AreNames ws
unfolding names_at
names_take s ns [] e = (sym (same_Some s ns e) ∙ sym (append-nil s), tt)
names_take s ns (w ∷ ws) e =
    let g = cond_some (is_name w) (names_at (s ++ w ∷ []) ws) ns e in
    let r = names_take (s ++ w ∷ []) ns ws g.1 in
    (r.0 ∙ append_assoc s (w ∷ []) ws, (g.0, r.1))

abbrev TakesReads : Words → Words → Words → Type 0
TakesReads s ns ws = (front : Words) × (ns ≡ s ++ front) × (ws ≡ front ++ onward (codes "writes") ws) × AllByRecursion IsReadName front

reads_take : (s ns ws : Words) → reads_at s ws ≡ Some ns → TakesReads s ns ws
unfolding reads_at onward
reads_take s ns [] e = ([], sym (same_Some s ns e) ∙ sym (append-nil s), refl, tt)
reads_take s ns (w ∷ ws) e =
    elim (chosen (bytes_eq w (codes "writes")) (Some s) (cond (is_name w) (reads_at (s ++ w ∷ []) ws) None) (Some ns) e) [
      | inl h ↦ ([], sym (same_Some s ns h.1) ∙ sym (append-nil s), rw h.0 refl, tt)
      | inr h ↦
          let g = cond_some (is_name w) (reads_at (s ++ w ∷ []) ws) ns h.1 in
          let r = reads_take (s ++ w ∷ []) ns ws g.1 in
          let rest : w ∷ ws ≡ w ∷ (r.0 ++ onward (codes "writes") ws) = ap (λ (x : Words). w ∷ x) r.2 in
          (w ∷ r.0, r.1 ∙ append_assoc s (w ∷ []) r.0, rw h.0 rest, ((h.0, g.0), r.3))
    ]

some_names_take : (o : Option Words) (ns : Words) → some_names o ≡ Some ns → (n : List ℕ) × (more : Words) × (ns ≡ n ∷ more) × (o ≡ Some ns)
some_names_take None ns e = absurd cc
some_names_take (Some []) ns e = absurd cc
some_names_take (Some (n ∷ more)) ns e = (n, more, sym (same_Some (n ∷ more) ns e), e)

-- the words from `writes` on begin with it
onward_takes : (ws : Words) → (onward (codes "writes") ws ≡ []) ⊎ ((rest : Words) × (onward (codes "writes") ws ≡ codes "writes" ∷ rest))
unfolding onward
onward_takes [] = inl refl
onward_takes (w ∷ ws) = by_key (bytes_eq w (codes "writes")) refl (onward_takes ws) where
  by_key : (b : Bool) → bytes_eq w (codes "writes") ≡ b → (onward (codes "writes") ws ≡ []) ⊎ ((rest : Words) × (onward (codes "writes") ws ≡ codes "writes" ∷ rest))
      → (cond b (w ∷ ws) (onward (codes "writes") ws) ≡ []) ⊎ ((rest : Words) × (cond b (w ∷ ws) (onward (codes "writes") ws) ≡ codes "writes" ∷ rest))
  by_key true e others = inr (ws, ap (λ (v : List ℕ). v ∷ ws) (bytes_same w (codes "writes") e))
  by_key false e others = others

listed_takes : (ws : Words) (vs : Words) → (ws ≡ []) ⊎ ((rest : Words) × (ws ≡ codes "writes" ∷ rest)) → listed ws ≡ Some vs → (ws ≡ listed_words (codes "writes") vs) × AreNames vs
listed_takes ws vs (inl h) e =
    let none : [] ≡ vs = same_Some [] vs (sym (ap listed h) ∙ e) in
    subst (λ (x : Words). (ws ≡ listed_words (codes "writes") x) × AreNames x) none (h, tt)
listed_takes ws vs (inr h) e =
    let a = some_names_take (names_at [] h.0) vs (sym (ap listed h.1) ∙ e) in
    let b = names_take [] vs h.0 a.3 in
    let all : h.0 ≡ a.0 ∷ a.1 = sym b.0 ∙ a.2 in
    let words : ws ≡ listed_words (codes "writes") vs = h.1 ∙ ap (λ (x : Words). codes "writes" ∷ x) all ∙ ap (listed_words (codes "writes")) (sym a.2) in
    (words, subst AreNames (sym b.0) b.1)

writes_take : (ws vs : Words) → writes_of ws ≡ Some vs → (onward (codes "writes") ws ≡ listed_words (codes "writes") vs) × AreNames vs
unfolding writes_of
writes_take ws vs e = listed_takes (onward (codes "writes") ws) vs (onward_takes ws) e

abbrev TakesLists : Words → Words → Type 0
TakesLists ws rs = (ws ≡ listed_words (codes "reads") rs ++ onward (codes "writes") ws) × AllByRecursion IsReadName rs

reads_of_take : (ws rs : Words) → reads_of ws ≡ Some rs → TakesLists ws rs
unfolding reads_of onward
reads_of_take [] rs e = subst (TakesLists []) (same_Some [] rs e) (refl, tt)
reads_of_take (w ∷ ws) rs e =
    elim (chosen (bytes_eq w (codes "writes")) (Some []) (cond (bytes_eq w (codes "reads")) (some_names (reads_at [] ws)) None) (Some rs) e) [
      | inl h ↦ let P : Words → Type 0 = λ x. TakesLists (w ∷ ws) x in subst P (same_Some [] rs h.1) (rw h.0 refl, tt)
      | inr h ↦
          let g = cond_some (bytes_eq w (codes "reads")) (some_names (reads_at [] ws)) rs h.1 in
          let a = some_names_take (reads_at [] ws) rs g.1 in
          let b = reads_take [] rs ws a.3 in
          let front : b.0 ≡ a.0 ∷ a.1 = sym b.1 ∙ a.2 in
          let key : w ∷ ws ≡ codes "reads" ∷ ws = ap (λ (v : List ℕ). v ∷ ws) (bytes_same w (codes "reads") g.0) in
          let rest : ws ≡ (a.0 ∷ a.1) ++ onward (codes "writes") ws = b.2 ∙ ap (λ (x : Words). x ++ onward (codes "writes") ws) front in
          let all : w ∷ ws ≡ listed_words (codes "reads") rs ++ onward (codes "writes") ws = key ∙ ap (λ (x : Words). codes "reads" ∷ x) rest ∙ ap (λ (x : Words). listed_words (codes "reads") x ++ onward (codes "writes") ws) (sym a.2) in
          (rw h.0 all, subst (AllByRecursion IsReadName) (sym b.1) b.3)
    ]

-- ---- prebuilt objects

abbrev part : List ℕ → Given → Part
part n x = record { name = n; value = x }

part_takes : (n q v : List ℕ) (p : Part) → part_of n q v ≡ Some p → (n ≡ p.name) × (q ≡ codes "=") × (given_of v ≡ Some p.value) × (is_name p.name ≡ true)
part_takes n q v p e =
    let g = cond_some (is_name n) (cond (bytes_eq q (codes "=")) (given_of v >>= λ x. Some (part n x)) None) p e in
    let h = cond_some (bytes_eq q (codes "=")) (given_of v >>= λ x. Some (part n x)) p g.1 in
    let b = bind_some (given_of v) (λ x. Some (part n x)) p h.1 in
    let is : part n b.0 ≡ p = same_Some (part n b.0) p b.2 in
    (ap (λ (x : Part). x.name) is, bytes_same q (codes "=") h.0, b.1 ∙ ap (λ (x : Part). Some x.value) is, sym (ap (λ (x : Part). is_name x.name) is) ∙ g.0)

abbrev TakesParts : List Part → List Part → Words → Type 0
TakesParts s ps ws = (front : List Part) × (ps ≡ s ++ front) × SpellsParts ws front × AllByRecursion (λ p. is_name p.name ≡ true) front

parts_take : (s ps : List Part) (ws : Words) → parts_at s ws ≡ Some ps → TakesParts s ps ws
unfolding parts_at
parts_take s ps [] e = ([], sym (same_Some s ps e) ∙ sym (append-nil s), tt, tt)
parts_take s ps (n ∷ []) e = absurd cc
parts_take s ps (n ∷ q ∷ []) e = absurd cc
parts_take s ps (n ∷ q ∷ v ∷ ws) e =
    let a = bind_some (part_of n q v) (λ p. parts_at (s ++ p ∷ []) ws) ps e in
    let t = part_takes n q v a.0 a.1 in
    let r = parts_take (s ++ a.0 ∷ []) ps ws a.2 in
    (a.0 ∷ r.0, r.1 ∙ append_assoc s (a.0 ∷ []) r.0, (t.0, t.1, t.2, r.2), (t.3, r.3))

abbrev TakesItems : List Given → List Given → Words → Type 0
TakesItems s xs ws = (x : Given) × (more : List Given) × (xs ≡ s ++ x ∷ more) × SpellsItems ws (x ∷ more)

items_take : (s xs : List Given) (ws : Words) → items_at s ws ≡ Some xs → TakesItems s xs ws
unfolding items_at
items_take s xs [] e = absurd cc
items_take s xs (v ∷ []) e = absurd cc
items_take s xs (v ∷ m ∷ ws) e =
    let a = bind_some (given_of v) (λ x. cond (bytes_eq m (codes ",")) (items_at (s ++ x ∷ []) ws) (cond (bytes_eq m (codes "]")) (ended (s ++ x ∷ []) ws) None)) xs e in
    elim (chosen (bytes_eq m (codes ",")) (items_at (s ++ a.0 ∷ []) ws) (cond (bytes_eq m (codes "]")) (ended (s ++ a.0 ∷ []) ws) None) (Some xs) a.2) [
      | inl h ↦
          let r = items_take (s ++ a.0 ∷ []) xs ws h.1 in
          (a.0, r.0 ∷ r.1, r.2 ∙ append_assoc s (a.0 ∷ []) (r.0 ∷ r.1), (a.1, bytes_same m (codes ",") h.0, r.3))
      | inr h ↦
          let g = cond_some (bytes_eq m (codes "]")) (ended (s ++ a.0 ∷ []) ws) xs h.1 in
          let t = ended_takes (s ++ a.0 ∷ []) xs ws g.1 in
          (a.0, [], sym t.1, (a.1, bytes_same m (codes "]") g.0, t.0))
    ]

array_takes_items : (ws : Words) (xs : List Given) → array_of ws ≡ Some xs → SpellsItems ws xs
unfolding array_of
array_takes_items [] xs e = absurd cc
array_takes_items (w ∷ ws) xs e =
    let P : List Given → Type 0 = λ x. SpellsItems (w ∷ ws) x in
    elim (chosen (bytes_eq w (codes "]")) (ended [] ws) (items_at [] (w ∷ ws)) (Some xs) e) [
      | inl h ↦
          let t = ended_takes [] xs ws h.1 in
          let all : w ∷ ws ≡ codes "]" ∷ [] = cc (bytes_same w (codes "]") h.0, t.0) in
          subst P t.1 all
      | inr h ↦ let r = items_take [] xs (w ∷ ws) h.1 in subst P (sym r.2) r.3
    ]

-- ---- forms

abbrev Takes : List ℕ → Words → Form → Type 0
Takes key ws f = Spells (key ∷ ws) f × IsForm f

array_takes : (ws : Words) (f : Form) → array_at ws ≡ Some f → Takes (codes "array") ws f
unfolding array_at
array_takes ws f e =
    let a = bind_some (name_at ws) (λ name. kind_at name.1 >>= λ kind. ended (Array name.0 kind.0) kind.1) f e in
    let b = bind_some (kind_at a.0.1) (λ kind. ended (Array a.0.0 kind.0) kind.1) f a.2 in
    let c = ended_takes (Array a.0.0 b.0.0) f b.0.1 b.2 in
    let n = name_takes ws a.0 a.1 in
    let k = kind_takes a.0.1 b.0 b.1 in
    let same : codes "array" ∷ ws ≡ codes "array" ∷ a.0.0 ∷ kind_word b.0.0 ∷ [] = cc (n.0, k, c.0) in
    subst (Takes (codes "array") ws) c.1 (same, n.1)

function_takes : (ws : Words) (f : Form) → function_at ws ≡ Some f → Takes (codes "function") ws f
unfolding function_at
function_takes ws f e =
    let a = bind_some (name_at ws) (λ name. ended (Function name.0) name.1) f e in
    let c = ended_takes (Function a.0.0) f a.0.1 a.2 in
    let n = name_takes ws a.0 a.1 in
    let same : codes "function" ∷ ws ≡ codes "function" ∷ a.0.0 ∷ [] = cc (n.0, c.0) in
    subst (Takes (codes "function") ws) c.1 (same, n.1)

size_rest_takes : (n : List ℕ) (ws : Words) (f : Form) → is_name n ≡ true → size_rest n ws ≡ Some f → Takes (codes "size") (n ∷ ws) f
size_rest_takes n [] f h e = let is : Size n None ≡ f = same_Some (Size n None) f e in subst (Takes (codes "size") (n ∷ [])) is (refl, (h, tt))
size_rest_takes n (w ∷ ws) f h e =
    let a = bind_some (key_at (codes "vtable") (w ∷ ws)) (λ rest. name_at rest >>= λ vtable. ended (Size n (Some vtable.0)) vtable.1) f e in
    let b = bind_some (name_at a.0) (λ vtable. ended (Size n (Some vtable.0)) vtable.1) f a.2 in
    let c = ended_takes (Size n (Some b.0.0)) f b.0.1 b.2 in
    let k = key_takes (codes "vtable") (w ∷ ws) a.0 a.1 in
    let v = name_takes a.0 b.0 b.1 in
    let same : codes "size" ∷ n ∷ w ∷ ws ≡ codes "size" ∷ n ∷ codes "vtable" ∷ b.0.0 ∷ [] = cc (k, v.0, c.0) in
    subst (Takes (codes "size") (n ∷ w ∷ ws)) c.1 (same, (h, v.1))

size_takes : (ws : Words) (f : Form) → size_at ws ≡ Some f → Takes (codes "size") ws f
unfolding size_at
size_takes ws f e =
    let a = bind_some (name_at ws) (λ name. size_rest name.0 name.1) f e in
    let n = name_takes ws a.0 a.1 in
    subst (λ (x : Words). Takes (codes "size") x f) (sym n.0) (size_rest_takes a.0.0 a.0.1 f n.1 a.2)

field_rest_takes : (n s : List ℕ) (k : Kind) (ws : Words) (f : Form) → is_name n ≡ true → is_name s ≡ true → field_rest n s k ws ≡ Some f
    → Takes (codes "field") (n ∷ codes "of" ∷ s ∷ kind_word k ∷ ws) f
field_rest_takes n s k [] f h i e = let is : Field n s k false ≡ f = same_Some (Field n s k false) f e in subst (Takes (codes "field") (n ∷ codes "of" ∷ s ∷ kind_word k ∷ [])) is (refl, (h, i))
field_rest_takes n s k (w ∷ ws) f h i e =
    let a = bind_some (key_at (codes "immutable") (w ∷ ws)) (λ rest. ended (Field n s k true) rest) f e in
    let c = ended_takes (Field n s k true) f a.0 a.2 in
    let key = key_takes (codes "immutable") (w ∷ ws) a.0 a.1 in
    let same : codes "field" ∷ n ∷ codes "of" ∷ s ∷ kind_word k ∷ w ∷ ws ≡ codes "field" ∷ n ∷ codes "of" ∷ s ∷ kind_word k ∷ codes "immutable" ∷ [] = cc (key, c.0) in
    subst (Takes (codes "field") (n ∷ codes "of" ∷ s ∷ kind_word k ∷ w ∷ ws)) c.1 (same, (h, i))

field_takes : (ws : Words) (f : Form) → field_at ws ≡ Some f → Takes (codes "field") ws f
unfolding field_at
field_takes ws f e =
    let a = bind_some (name_at ws) (λ name. key_at (codes "of") name.1 >>= λ rest. name_at rest >>= λ size. kind_at size.1 >>= λ kind. field_rest name.0 size.0 kind.0 kind.1) f e in
    let b = bind_some (key_at (codes "of") a.0.1) (λ rest. name_at rest >>= λ size. kind_at size.1 >>= λ kind. field_rest a.0.0 size.0 kind.0 kind.1) f a.2 in
    let c = bind_some (name_at b.0) (λ size. kind_at size.1 >>= λ kind. field_rest a.0.0 size.0 kind.0 kind.1) f b.2 in
    let d = bind_some (kind_at c.0.1) (λ kind. field_rest a.0.0 c.0.0 kind.0 kind.1) f c.2 in
    let n = name_takes ws a.0 a.1 in
    let o = key_takes (codes "of") a.0.1 b.0 b.1 in
    let s = name_takes b.0 c.0 c.1 in
    let k = kind_takes c.0.1 d.0 d.1 in
    let same : a.0.0 ∷ codes "of" ∷ c.0.0 ∷ kind_word d.0.0 ∷ d.0.1 ≡ ws = cc (n.0, o, s.0, k) in
    subst (λ (x : Words). Takes (codes "field") x f) same (field_rest_takes a.0.0 c.0.0 d.0.0 d.0.1 f n.1 s.1 d.2)

-- the steps of a call's line
abbrev after_reads : List ℕ → List Kind → Gives → Words → Option Form
after_reads n args g reads = writes_of g.1 >>= λ writes. Some (Call n args g.0 reads writes)

abbrev after_gives : List ℕ → List Kind → Gives → Option Form
after_gives n args g = reads_of g.1 >>= λ reads. after_reads n args g reads

abbrev after_result : List ℕ → List Kind → Words → Option Form
after_result n args rest = result_at rest >>= λ g. after_gives n args g

abbrev after_args : List ℕ → List Kind → Words → Option Form
after_args n args ws = key_at (codes "result") ws >>= λ rest. after_result n args rest

abbrev after_letters : List ℕ → List ℕ × Words → Option Form
after_letters n l = kinds_of l.0 >>= λ args. after_args n args l.1

abbrev after_key : List ℕ → Words → Option Form
after_key n rest = word_at rest >>= λ l. after_letters n l

abbrev after_name : List ℕ × Words → Option Form
after_name x = key_at (codes "args") x.1 >>= λ rest. after_key x.0 rest

call_takes : (ws : Words) (f : Form) → call_at ws ≡ Some f → Takes (codes "calldescr") ws f
unfolding call_at
call_takes ws f e =
    let a = bind_some (name_at ws) (λ x. after_name x) f e in
    let b = bind_some (key_at (codes "args") a.0.1) (λ x. after_key a.0.0 x) f a.2 in
    let c = bind_some (word_at b.0) (λ x. after_letters a.0.0 x) f b.2 in
    let d = bind_some (kinds_of c.0.0) (λ x. after_args a.0.0 x c.0.1) f c.2 in
    let g = bind_some (key_at (codes "result") c.0.1) (λ x. after_result a.0.0 d.0 x) f d.2 in
    let h = bind_some (result_at g.0) (λ x. after_gives a.0.0 d.0 x) f g.2 in
    let r = bind_some (reads_of h.0.1) (λ x. after_reads a.0.0 d.0 h.0 x) f h.2 in
    let w = bind_some (writes_of h.0.1) (λ x. Some (Call a.0.0 d.0 h.0.0 r.0 x)) f r.2 in
    let is : Call a.0.0 d.0 h.0.0 r.0 w.0 ≡ f = same_Some (Call a.0.0 d.0 h.0.0 r.0 w.0) f w.2 in
    let n = name_takes ws a.0 a.1 in
    let args = key_takes (codes "args") a.0.1 b.0 b.1 in
    let letters = word_takes b.0 c.0 c.1 in
    let kinds = kinds_take c.0.0 d.0 d.1 in
    let result = key_takes (codes "result") c.0.1 g.0 g.1 in
    let kind = result_takes g.0 h.0 h.1 in
    let rd = reads_of_take h.0.1 r.0 r.1 in
    let wr = writes_take h.0.1 w.0 w.1 in
    let lists : h.0.1 ≡ listed_words (codes "reads") r.0 ++ listed_words (codes "writes") w.0 = rd.0 ∙ ap (λ (x : Words). listed_words (codes "reads") r.0 ++ x) wr.0 in
    let same : codes "calldescr" ∷ ws ≡ codes "calldescr" ∷ a.0.0 ∷ codes "args" ∷ kinds_word d.0 ∷ codes "result" ∷ result_word h.0.0 ∷ (listed_words (codes "reads") r.0 ++ listed_words (codes "writes") w.0) = cc (n.0, args, letters, kinds, result, kind, lists) in
    subst (Takes (codes "calldescr") ws) is (same, (n.1, rd.1, wr.1))

body_takes : (n s : List ℕ) (ws : Words) (o : Option Words) (f : Form) → key_at (codes "[") ws ≡ o → is_name n ≡ true → is_name s ≡ true → body_at n s ws o ≡ Some f → Takes (codes "prebuilt") (n ∷ s ∷ ws) f
body_takes n s ws None f k h i e =
    let a = bind_some (parts_at [] ws) (λ x. Some (Object n s x)) f e in
    let is : Object n s a.0 ≡ f = same_Some (Object n s a.0) f a.2 in
    let p = parts_take [] a.0 ws a.1 in
    let spelled : SpellsParts ws a.0 = subst (λ (x : List Part). SpellsParts ws x) (sym p.1) p.2 in
    let names : AllByRecursion (λ p. is_name p.name ≡ true) a.0 = subst (AllByRecursion (λ p. is_name p.name ≡ true)) (sym p.1) p.3 in
    subst (Takes (codes "prebuilt") (n ∷ s ∷ ws)) is ((ws, refl, spelled), (h, i, names))
body_takes n s ws (Some rest) f k h i e =
    let a = bind_some (array_of rest) (λ x. Some (Items n s x)) f e in
    let is : Items n s a.0 ≡ f = same_Some (Items n s a.0) f a.2 in
    let open_ = key_takes (codes "[") ws rest k in
    subst (Takes (codes "prebuilt") (n ∷ s ∷ ws)) is ((rest, ap (λ (x : Words). codes "prebuilt" ∷ n ∷ s ∷ x) open_, array_takes_items rest a.0 a.1), (h, i))

prebuilt_takes : (ws : Words) (f : Form) → prebuilt_at ws ≡ Some f → Takes (codes "prebuilt") ws f
unfolding prebuilt_at
prebuilt_takes ws f e =
    let a = bind_some (name_at ws) (λ name. name_at name.1 >>= λ of. body_at name.0 of.0 of.1 (key_at (codes "[") of.1)) f e in
    let b = bind_some (name_at a.0.1) (λ of. body_at a.0.0 of.0 of.1 (key_at (codes "[") of.1)) f a.2 in
    let n = name_takes ws a.0 a.1 in
    let o = name_takes a.0.1 b.0 b.1 in
    let same : a.0.0 ∷ b.0.0 ∷ b.0.1 ≡ ws = cc (n.0, o.0) in
    subst (λ (x : Words). Takes (codes "prebuilt") x f) same (body_takes a.0.0 b.0.0 b.0.1 (key_at (codes "[") b.0.1) f refl n.1 o.1 b.2)

keyed : {A : Type 0} (k key : List ℕ) (x y z : A) → cond (bytes_eq k key) x y ≡ z → ((k ≡ key) × (x ≡ z)) ⊎ (y ≡ z)
keyed k key x y z e = elim (chosen (bytes_eq k key) x y z e) [ inl h ↦ inl (bytes_same k key h.0, h.1) | inr h ↦ inr h.1 ]

with_key : (k key : List ℕ) (ws : Words) (f : Form) → k ≡ key → Takes key ws f → Takes k ws f
with_key k key ws f same t = subst (λ (x : List ℕ). Takes x ws f) (sym same) t

last_takes : (k : List ℕ) (ws : Words) (f : Form) → function_or_prebuilt k ws ≡ Some f → Takes k ws f
last_takes k ws f e =
    elim (keyed k (codes "function") (function_at ws) (cond (bytes_eq k (codes "prebuilt")) (prebuilt_at ws) None) (Some f) e) [
      | inl h ↦ with_key k (codes "function") ws f h.0 (function_takes ws f h.1)
      | inr r ↦ elim (keyed k (codes "prebuilt") (prebuilt_at ws) None (Some f) r) [
        | inl h ↦ with_key k (codes "prebuilt") ws f h.0 (prebuilt_takes ws f h.1)
        | inr none ↦ absurd cc
      ]
    ]

pub form_takes : (ws : Words) (f : Form) → form_at ws ≡ Some f → Spells ws f × IsForm f
unfolding form_at
form_takes [] f e = absurd cc
form_takes (k ∷ ws) f e =
    let r3 = cond (bytes_eq k (codes "calldescr")) (call_at ws) (function_or_prebuilt k ws) in
    let r2 = cond (bytes_eq k (codes "array")) (array_at ws) r3 in
    let r1 = cond (bytes_eq k (codes "field")) (field_at ws) r2 in
    elim (keyed k (codes "size") (size_at ws) r1 (Some f) e) [
      | inl h ↦ with_key k (codes "size") ws f h.0 (size_takes ws f h.1)
      | inr e1 ↦ elim (keyed k (codes "field") (field_at ws) r2 (Some f) e1) [
        | inl h ↦ with_key k (codes "field") ws f h.0 (field_takes ws f h.1)
        | inr e2 ↦ elim (keyed k (codes "array") (array_at ws) r3 (Some f) e2) [
          | inl h ↦ with_key k (codes "array") ws f h.0 (array_takes ws f h.1)
          | inr e3 ↦ elim (keyed k (codes "calldescr") (call_at ws) (function_or_prebuilt k ws) (Some f) e3) [
            | inl h ↦ with_key k (codes "calldescr") ws f h.0 (call_takes ws f h.1)
            | inr e4 ↦ last_takes k ws f e4
          ]
        ]
      ]
    ]
