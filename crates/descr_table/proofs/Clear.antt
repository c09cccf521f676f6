-- What a line that isn't refused passes.
use Rattle.std.proofs.Common.{◌≡◌, ℕ, ◌+◌, ◌<◌, ◌≤◌, Bool, true, false, cond, ltb, leb, List, [], ◌∷◌, Option, Some, None, refl}
use Rattle.std.specs.Prelude.{not}
use Rattle.std.specs.List.{list_any, AllByRecursion}
use Rattle.std.proofs.lemmas.Bool.{ltb-true, leb-true, lt-ltb, le-leb, or_parts}
use Rattle.lists.proofs.Bools.{or_false}
use Rattle.text_lines.specs.Reading.{first_of}
use Rattle.trace_ops.specs.declared.table.Table.{Table}
use Rattle.trace_ops.specs.declared.table.What.{What}
use Rattle.trace_ops.specs.declared.table.What.TheVariants as what
use Rattle.descr_table.specs.declared.form.Form.{Form}
use Rattle.descr_table.specs.declared.fault.Refusal.{Refusal}
use Rattle.descr_table.specs.declared.fault.Refusal.TheVariants.{Syntax, Twice, UnknownName, BadInitial, Limit}
use Rattle.descr_table.specs.Known.{names_of}
use Rattle.descr_table.specs.Meaning.{is_misplaced, is_twice, is_unknown, is_bad_initial, or_else, full, over, over_bytes, bytes_of, limit_at, refusal_at, refusal}

abbrev Names : Type 0
Names = List (List ℕ)

abbrev tests : Bool → Bool → Bool → Bool → Option Refusal
tests a b c d = first_of ((a, Syntax) ∷ (b, Twice) ∷ (c, UnknownName) ∷ (d, BadInitial) ∷ [])

-- none of the refusals
pub record IsClear (f : Form) (d : Names) (t : Table) : Type 0 where
  pub placed : is_misplaced f t ≡ false
  pub new : is_twice f (names_of t) ≡ false
  pub known : is_unknown f (names_of t) d ≡ false
  pub fits : is_bad_initial f (names_of t) t ≡ false
  pub few : limit_at f (names_of t) t (bytes_of t) ≡ None

clear_by : (a b c d : Bool) (l : Option Refusal) → or_else (tests a b c d) l ≡ None → (a ≡ false) × (b ≡ false) × (c ≡ false) × (d ≡ false) × (l ≡ None)
clear_by true b c d l e = absurd cc
clear_by false true c d l e = absurd cc
clear_by false false true d l e = absurd cc
clear_by false false false true l e = absurd cc
clear_by false false false false l e = (refl, refl, refl, refl, e)

pub clear : (f : Form) (d : Names) (t : Table) → refusal f d t ≡ None → IsClear f d t
unfolding refusal_at
clear f d t e =
    let h = clear_by (is_misplaced f t) (is_twice f (names_of t)) (is_unknown f (names_of t) d) (is_bad_initial f (names_of t) t) (limit_at f (names_of t) t (bytes_of t)) e in
    record { placed = h.0; new = h.1; known = h.2; fits = h.3; few = h.4 }

refused_by : (a b c d : Bool) (l : Option Refusal) → a ≡ false → b ≡ false → c ≡ false → d ≡ false → l ≡ None → or_else (tests a b c d) l ≡ None
refused_by a b c d l e f g h i = rw (e, f, g, h) i

pub not_refused : (f : Form) (d : Names) (t : Table) → IsClear f d t → refusal f d t ≡ None
unfolding refusal_at
not_refused f d t h = refused_by (is_misplaced f t) (is_twice f (names_of t)) (is_unknown f (names_of t) d) (is_bad_initial f (names_of t) t) (limit_at f (names_of t) t (bytes_of t)) h.placed h.new h.known h.fits h.few

-- ---- tests

pub false_not : (b : Bool) → b ≡ true → not b ≡ false
false_not b e = rw e refl

pub none_of : {X : Type 0} (p : X → Bool) (xs : List X) → list_any p xs ≡ false → AllByRecursion (λ x. p x ≡ false) xs
none_of p [] e = tt
none_of p (x ∷ xs) e = let h = or_parts (p x) (list_any p xs) e in (h.0, none_of p xs h.1)

pub of_none : {X : Type 0} (p : X → Bool) (xs : List X) → AllByRecursion (λ x. p x ≡ false) xs → list_any p xs ≡ false
of_none p [] h = refl
of_none p (x ∷ xs) h = or_false (p x) (list_any p xs) h.0 (of_none p xs h.1)

-- ---- limits

pub else_none : (a b : Option Refusal) → or_else a b ≡ None → (a ≡ None) × (b ≡ None)
else_none None b e = (refl, e)
else_none (Some x) b e = absurd cc

pub none_else : (a b : Option Refusal) → a ≡ None → b ≡ None → or_else a b ≡ None
none_else a b e f = rw (e, f) refl

test_none : (b : Bool) (r : Refusal) → cond b None (Some r) ≡ None → b ≡ true
test_none true r e = refl
test_none false r e = absurd cc

pub full_none : (w : What) (limit n : ℕ) → full w limit n ≡ None → n < limit
full_none w limit n e = ltb-true n limit (test_none (ltb n limit) (Limit w (limit + 1)) e)

pub over_none : (w : What) (limit n : ℕ) → over w limit n ≡ None → n ≤ limit
over_none w limit n e = leb-true n limit (test_none (leb n limit) (Limit w (limit + 1)) e)

pub none_full : (w : What) (limit n : ℕ) → n < limit → full w limit n ≡ None
none_full w limit n lt = rw (lt-ltb n limit lt) refl

pub none_over : (w : What) (limit n : ℕ) → n ≤ limit → over w limit n ≡ None
none_over w limit n le = rw (le-leb n limit le) refl

pub bytes_none : (n : ℕ) → over_bytes n ≡ None → n ≤ 32768
bytes_none n e = bytes_by (leb n 32768) n refl e where
  bytes_by : (b : Bool) (n : ℕ) → leb n 32768 ≡ b → cond b None (Some (Limit what.Prebuilt n)) ≡ None → n ≤ 32768
  bytes_by true n h e = leb-true n 32768 h
  bytes_by false n h e = absurd cc

pub none_bytes : (n : ℕ) → n ≤ 32768 → over_bytes n ≡ None
none_bytes n le = rw (le-leb n 32768 le) refl
