-- What is spelled is read.
use Rattle.std.proofs.Common.{◌≡◌, ℕ, Bool, true, false, List, [], ◌∷◌, ◌++◌, map, Option, Some, None, refl, sym, ap, ◌∙◌, append_assoc}
use Rattle.std.specs.Prelude.{codes}
use Rattle.std.specs.Str.{bytes_eq}
use Rattle.std.specs.List.{AllByRecursion}
use Rattle.std.proofs.lemmas.List.{append-nil}
use Rattle.std.proofs.lemmas.Slice.Eq.{bytes_eq-Decides}
use Rattle.text_lines.specs.Words.{is_name, is_letter}
use Rattle.text_lines.specs.Numbers.{integer_of, decimal_of, decimal_behind}
use Rattle.lists.specs.Binds.{◌>>=◌}
use Rattle.text_lines.specs.Reading.{name_at, key_at}
use Rattle.trace_ops.specs.declared.trace.Kind.{Kind}
use Rattle.trace_ops.specs.declared.trace.Kind.TheVariants.{Int, Ref}
use Rattle.descr_table.specs.declared.form.Form.{Form}
use Rattle.descr_table.specs.declared.form.Form.TheVariants.{Size, Field, Array, Call, Function, Object, Items}
use Rattle.descr_table.specs.declared.form.Given.{Given}
use Rattle.descr_table.specs.declared.form.Part.{Part}
use Rattle.descr_table.specs.Words.{kind_at, result_at, letters_at, some_kinds, kinds_of, some_names, names_at, reads_at, onward, reads_of, listed, writes_of, given_of, part_of, parts_at, items_at, array_of}
use Rattle.descr_table.specs.Form.{size_at, field_at, array_at, call_at, function_at, prebuilt_at, body_at, form_at}
use Rattle.descr_table.specs.Spelling.{kind_letter, kind_word, kinds_word, result_word, listed_words, SpellsParts, SpellsItems, Spells, IsReadName, IsForm}

abbrev Words : Type 0
Words = List (List ℕ)

abbrev AreNames : Words → Type 0
AreNames ns = AllByRecursion (λ n. is_name n ≡ true) ns

name_again : (n : List ℕ) (ws : Words) → is_name n ≡ true → name_at (n ∷ ws) ≡ Some (n, ws)
unfolding name_at
name_again n ws h = rw h refl

kind_again : (k : Kind) (ws : Words) → kind_at (kind_word k ∷ ws) ≡ Some (k, ws)
unfolding kind_at
kind_again Int ws = refl
kind_again Ref ws = refl

result_again : (k : Option Kind) (ws : Words) → result_at (result_word k ∷ ws) ≡ Some (k, ws)
unfolding result_at
result_again None ws = refl
result_again (Some Int) ws = refl
result_again (Some Ref) ws = refl

letters_again : (s ks : List Kind) → letters_at s (map kind_letter ks) ≡ Some (s ++ ks)
unfolding letters_at
letters_again s [] = ap Some (sym (append-nil s))
letters_again s (Int ∷ ks) = letters_again (s ++ Int ∷ []) ks ∙ ap Some (append_assoc s (Int ∷ []) ks)
letters_again s (Ref ∷ ks) = letters_again (s ++ Ref ∷ []) ks ∙ ap Some (append_assoc s (Ref ∷ []) ks)

pub kinds_again : (ks : List Kind) → kinds_of (kinds_word ks) ≡ Some ks
unfolding kinds_of
kinds_again [] = refl
kinds_again (Int ∷ ks) = ap some_kinds (letters_again [] (Int ∷ ks))
kinds_again (Ref ∷ ks) = ap some_kinds (letters_again [] (Ref ∷ ks))

names_again : (s ns : Words) → AreNames ns → names_at s ns ≡ Some (s ++ ns)
unfolding names_at
names_again s [] h = ap Some (sym (append-nil s))
names_again s (n ∷ ns) h = rw h.0 (names_again (s ++ n ∷ []) ns h.1 ∙ ap Some (append_assoc s (n ∷ []) ns))

reads_again : (s ns vs : Words) → AllByRecursion IsReadName ns → reads_at s (ns ++ listed_words (codes "writes") vs) ≡ Some (s ++ ns)
unfolding reads_at
reads_again s [] [] h = ap Some (sym (append-nil s))
reads_again s [] (v ∷ vs) h = ap Some (sym (append-nil s))
reads_again s (n ∷ ns) vs h = rw (h.0.0, h.0.1) (reads_again (s ++ n ∷ []) ns vs h.1 ∙ ap Some (append_assoc s (n ∷ []) ns))

onward_again : (ns vs : Words) → AllByRecursion IsReadName ns → onward (codes "writes") (ns ++ listed_words (codes "writes") vs) ≡ listed_words (codes "writes") vs
unfolding onward
onward_again [] [] h = refl
onward_again [] (v ∷ vs) h = refl
onward_again (n ∷ ns) vs h = rw h.0.0 (onward_again ns vs h.1)

abbrev lists : Words → Words → Words
lists reads writes = listed_words (codes "reads") reads ++ listed_words (codes "writes") writes

reads_of_again : (reads writes : Words) → AllByRecursion IsReadName reads → reads_of (lists reads writes) ≡ Some reads
unfolding reads_of
reads_of_again [] [] h = refl
reads_of_again [] (v ∷ vs) h = refl
reads_of_again (r ∷ rs) writes h = ap some_names (reads_again [] (r ∷ rs) writes h)

listed_again : (vs : Words) → AreNames vs → listed (listed_words (codes "writes") vs) ≡ Some vs
listed_again [] h = refl
listed_again (v ∷ vs) h = ap some_names (names_again [] (v ∷ vs) h)

onward_lists : (reads writes : Words) → AllByRecursion IsReadName reads → onward (codes "writes") (lists reads writes) ≡ listed_words (codes "writes") writes
unfolding onward
onward_lists [] writes h = onward_again [] writes tt
onward_lists (r ∷ rs) writes h = onward_again (r ∷ rs) writes h

writes_of_again : (reads writes : Words) → AllByRecursion IsReadName reads → AreNames writes → writes_of (lists reads writes) ≡ Some writes
unfolding writes_of
writes_of_again reads writes h i = ap listed (onward_lists reads writes h) ∙ listed_again writes i

part_again : (n q v : List ℕ) (p : Part) → n ≡ p.name → q ≡ codes "=" → given_of v ≡ Some p.value → is_name p.name ≡ true → part_of n q v ≡ Some p
part_again n q v p a b e h = rw (a, b, h, e) refl

parts_again : (s : List Part) (ws : Words) (ps : List Part) → SpellsParts ws ps → AllByRecursion (λ p. is_name p.name ≡ true) ps → parts_at s ws ≡ Some (s ++ ps)
unfolding parts_at
parts_again s [] [] h i = ap Some (sym (append-nil s))
parts_again s [] (p ∷ ps) h i = absurd h
parts_again s (n ∷ []) ps h i = absurd h
parts_again s (n ∷ q ∷ []) ps h i = absurd h
parts_again s (n ∷ q ∷ v ∷ ws) [] h i = absurd h
parts_again s (n ∷ q ∷ v ∷ ws) (p ∷ ps) h i =
    ap (λ (o : Option Part). o >>= λ x. parts_at (s ++ x ∷ []) ws) (part_again n q v p h.0 h.1 h.2 i.0)
    ∙ parts_again (s ++ p ∷ []) ws ps h.3 i.1 ∙ ap Some (append_assoc s (p ∷ []) ps)

items_again : (s : List Given) (ws : Words) (x : Given) (xs : List Given) → SpellsItems ws (x ∷ xs) → items_at s ws ≡ Some (s ++ x ∷ xs)
unfolding items_at
items_again s [] x xs h = absurd h
items_again s (v ∷ []) x xs h = absurd h
items_again s (v ∷ m ∷ ws) x [] h = rw (h.0, h.1, h.2) refl
items_again s (v ∷ m ∷ ws) x (y ∷ ys) h = rw (h.0, h.1) (items_again (s ++ x ∷ []) ws y ys h.2 ∙ ap Some (append_assoc s (x ∷ []) (y ∷ ys)))

-- a bracket is no value and no name
no_value : given_of (codes "]") ≡ None
unfolding given_of is_name is_letter integer_of decimal_of decimal_behind
no_value = refl

no_name : is_name (codes "[") ≡ false
unfolding is_name is_letter
no_name = refl

not_closed : (b : Bool) (v : List ℕ) (x : Given) → bytes_eq v (codes "]") ≡ b → given_of v ≡ Some x → b ≡ false
not_closed false v x e h = refl
not_closed true v x e h =
    let same : v ≡ codes "]" = (bytes_eq-Decides v (codes "]")).0 e in
    let bad : Some x ≡ None = sym h ∙ ap given_of same ∙ no_value in
    absurd cc

not_open : (b : Bool) (n : List ℕ) → bytes_eq n (codes "[") ≡ b → is_name n ≡ true → b ≡ false
not_open false n e h = refl
not_open true n e h =
    let same : n ≡ codes "[" = (bytes_eq-Decides n (codes "[")).0 e in
    let bad : true ≡ false = sym h ∙ ap is_name same ∙ no_name in
    absurd cc

array_of_again : (ws : Words) (xs : List Given) → SpellsItems ws xs → array_of ws ≡ Some xs
unfolding array_of
array_of_again ws [] h = rw h refl
array_of_again [] (x ∷ xs) h = absurd h
array_of_again (v ∷ []) (x ∷ xs) h = absurd h
array_of_again (v ∷ m ∷ ws) (x ∷ []) h = rw (not_closed (bytes_eq v (codes "]")) v x refl h.0) (items_again [] (v ∷ m ∷ ws) x [] h)
array_of_again (v ∷ m ∷ ws) (x ∷ y ∷ ys) h = rw (not_closed (bytes_eq v (codes "]")) v x refl h.0) (items_again [] (v ∷ m ∷ ws) x (y ∷ ys) h)

no_bracket : (ws : Words) (ps : List Part) → SpellsParts ws ps → AllByRecursion (λ p. is_name p.name ≡ true) ps → key_at (codes "[") ws ≡ None
unfolding key_at
no_bracket [] ps h i = refl
no_bracket (n ∷ []) ps h i = absurd h
no_bracket (n ∷ q ∷ []) ps h i = absurd h
no_bracket (n ∷ q ∷ v ∷ ws) [] h i = absurd h
no_bracket (n ∷ q ∷ v ∷ ws) (p ∷ ps) h i = rw (not_open (bytes_eq n (codes "[")) n refl (ap is_name h.0 ∙ i.0)) refl

pub form_again : (ws : Words) (f : Form) → Spells ws f → IsForm f → form_at ws ≡ Some f
unfolding form_at size_at field_at array_at call_at function_at prebuilt_at key_at
form_again ws (Size n None) h i = rw (h, name_again n [] i.0) refl
form_again ws (Size n (Some v)) h i = rw (h, name_again n (codes "vtable" ∷ v ∷ []) i.0, name_again v [] i.1) refl
form_again ws (Field n s k false) h i = rw (h, name_again n (codes "of" ∷ s ∷ kind_word k ∷ []) i.0, name_again s (kind_word k ∷ []) i.1, kind_again k []) refl
form_again ws (Field n s k true) h i = rw (h, name_again n (codes "of" ∷ s ∷ kind_word k ∷ codes "immutable" ∷ []) i.0, name_again s (kind_word k ∷ codes "immutable" ∷ []) i.1, kind_again k (codes "immutable" ∷ [])) refl
form_again ws (Array n k) h i = rw (h, name_again n (kind_word k ∷ []) i, kind_again k []) refl
form_again ws (Call n args gives reads writes) h i =
    rw (h, name_again n (codes "args" ∷ kinds_word args ∷ codes "result" ∷ result_word gives ∷ lists reads writes) i.0, kinds_again args, result_again gives (lists reads writes), reads_of_again reads writes i.1, writes_of_again reads writes i.1 i.2) refl
form_again ws (Function n) h i = rw (h, name_again n [] i) refl
form_again ws (Object n s ps) h i =
    rw (h.1, name_again n (s ∷ h.0) i.0, name_again s h.0 i.1) (ap (body_at n s h.0) (no_bracket h.0 ps h.2 i.2) ∙ ap (λ (o : Option (List Part)). o >>= λ x. Some (Object n s x)) (parts_again [] h.0 ps h.2 i.2))
form_again ws (Items n a xs) h i =
    rw (h.1, name_again n (a ∷ codes "[" ∷ h.0) i.0, name_again a (codes "[" ∷ h.0) i.1) (ap (λ (o : Option (List Given)). o >>= λ x. Some (Items n a x)) (array_of_again h.0 xs h.2))
