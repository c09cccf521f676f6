-- A name that is looked up stands for the first place that has it.
use Rattle.std.proofs.Common.{◌≡◌, ℕ, suc, ◌+◌, Bool, true, false, cond, List, [], ◌∷◌, Option, Some, None, refl, sym, ap, ◌∙◌, arith}
use Rattle.std.specs.Prelude.{slice_get, is_some}
use Rattle.std.specs.Str.{bytes_eq}
use Rattle.lists.proofs.Bools.{bytes_same}
use Rattle.indexmap.specs.IndexMap.{insert_entry}
use Rattle.session_text.specs.Names.{look, with_first_if, firsts_from, is_named, first_from}

abbrev Entries : Type 0
Entries = List (List ℕ × ℕ)

-- the first of two
abbrev or_else : Option ℕ → Option ℕ → Option ℕ
or_else None y = y
or_else (Some x) y = Some x

abbrev when : Bool → ℕ → Option ℕ
when true k = Some k
when false k = None

or_else-none : (x : Option ℕ) → or_else x None ≡ x
or_else-none None = refl
or_else-none (Some x) = refl

none_of : (b : Bool) (x : ℕ) (o : Option ℕ) → cond b (Some x) o ≡ None → (b ≡ false) × (o ≡ None)
none_of true x o e = absurd cc
none_of false x o e = (refl, e)

-- a new name stands behind the others
look-insert_entry : (q n : List ℕ) (k : ℕ) (es : Entries) → look n es ≡ None → look q (insert_entry bytes_eq es n k) ≡ or_else (look q es) (when (bytes_eq q n) k)
look-insert_entry q n k [] e = elim (bytes_eq q n) as (λ b. cond b (Some k) None ≡ when b k) [ true ↦ refl | false ↦ refl ]
look-insert_entry q n k (x ∷ es) e =
    let a = none_of (bytes_eq n x.0) x.1 (look n es) e in
    rw a.0 (elim (bytes_eq q x.0) as (λ b. cond b (Some x.1) (look q (insert_entry bytes_eq es n k)) ≡ or_else (cond b (Some x.1) (look q es)) (when (bytes_eq q n) k)) [ true ↦ refl | false ↦ look-insert_entry q n k es a.1 ])

there : (q n : List ℕ) (k j : ℕ) (b : Bool) (es : Entries) → look n es ≡ Some j → bytes_eq q n ≡ b → look q es ≡ or_else (look q es) (when b k)
there q n k j true es e h =
    let same : q ≡ n = bytes_same q n h in
    rw (same, e) refl
there q n k j false es e h = sym (or_else-none (look q es))

look-with_first_by : (q n : List ℕ) (k : ℕ) (o : Option ℕ) (es : Entries) → look n es ≡ o → look q (cond (is_some o) es (insert_entry bytes_eq es n k)) ≡ or_else (look q es) (when (bytes_eq q n) k)
look-with_first_by q n k None es e = look-insert_entry q n k es e
look-with_first_by q n k (Some j) es e = there q n k j (bytes_eq q n) es e refl

look-with_first_if : (q : List ℕ) (o : Option (List ℕ)) (k : ℕ) (es : Entries) → look q (with_first_if o k es) ≡ or_else (look q es) (when (is_named q o) k)
look-with_first_if q None k es = sym (or_else-none (look q es))
look-with_first_if q (Some n) k es = look-with_first_by q n k (look n es) es refl

or_else-when : (x y : Option ℕ) (b : Bool) (k : ℕ) → or_else (or_else x (when b k)) y ≡ or_else x (cond b (Some k) y)
or_else-when None y true k = refl
or_else-when None y false k = refl
or_else-when (Some x) y b k = refl

look-firsts_from : (q : List ℕ) (k : ℕ) (os : List (Option (List ℕ))) (es : Entries) → look q (firsts_from k os es) ≡ or_else (look q es) (first_from k q os)
unfolding firsts_from first_from
look-firsts_from q k [] es = sym (or_else-none (look q es))
look-firsts_from q k (o ∷ os) es =
    look-firsts_from q (k + 1) os (with_first_if o k es)
    ∙ ap (λ x. or_else x (first_from (k + 1) q os)) (look-with_first_if q o k es)
    ∙ or_else-when (look q es) (first_from (k + 1) q os) (is_named q o) k

pub look_is_first : (q : List ℕ) (os : List (Option (List ℕ))) → look q (firsts_from 0 os []) ≡ first_from 0 q os
look_is_first q os = look-firsts_from q 0 os []

-- at the first place stands that name
abbrev NamedAt : List ℕ → ℕ → List (Option (List ℕ)) → ℕ → Type 0
NamedAt q k os j = (i : ℕ) × (j ≡ k + i) × (o : Option (List ℕ)) × (slice_get os i ≡ Some o) × (is_named q o ≡ true)

here_or : (q : List ℕ) (k j : ℕ) (b : Bool) (o : Option (List ℕ)) (os : List (Option (List ℕ))) → is_named q o ≡ b → (first_from (k + 1) q os ≡ Some j → NamedAt q (k + 1) os j) → cond b (Some k) (first_from (k + 1) q os) ≡ Some j → NamedAt q k (o ∷ os) j
here_or q k j true o os h f e =
    let is : k ≡ j = cc in
    (0, omega (arith, is), o, refl, h)
here_or q k j false o os h f e =
    let r = f e in
    (suc r.0, omega (arith, r.1), r.2, r.3, r.4)

named_at : (q : List ℕ) (k j : ℕ) (os : List (Option (List ℕ))) → first_from k q os ≡ Some j → NamedAt q k os j
unfolding first_from
named_at q k j [] e = absurd cc
named_at q k j (o ∷ os) e = here_or q k j (is_named q o) o os refl (named_at q (k + 1) j os) e

-- what a name stands for is there
pub found_at : (q : List ℕ) (j : ℕ) (os : List (Option (List ℕ))) → look q (firsts_from 0 os []) ≡ Some j → (o : Option (List ℕ)) × (slice_get os j ≡ Some o) × (is_named q o ≡ true)
found_at q j os e =
    let r = named_at q 0 j os (sym (look_is_first q os) ∙ e) in
    let at : r.0 ≡ j = omega (arith, r.1) in
    (r.2, ap (slice_get os) (sym at) ∙ r.3, r.4)
