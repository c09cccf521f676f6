-- What the tests of known boxes say.
use Rattle.std.proofs.Common.{◌≡◌, Bool, true, false, not, ◌&&◌, IsTrue, List, [], ◌∷◌, ◌++◌, Option, Some, None, refl, sym, subst, ◌∙◌, inl, inr, slice_index_or, zero, suc, arith, if◌then◌else◌}
use Rattle.std.specs.List.{All, Contains, flat_map, list_all}
use Rattle.std.specs.Option.{option_to_list}
use Rattle.std.proofs.lemmas.List.Elements.{Contains-append_cases, All-nil, All-cons, All-head, All-tail, All-append, Contains-append_left, Contains-append_right}
use Rattle.std.proofs.lemmas.Map.Views.{list_any-from_Contains, Contains-from_any}
use Rattle.std.proofs.lemmas.Bool.{and_parts}
use Rattle.std.proofs.lemmas.List.{get_or_default}
use Rattle.trace_ops.specs.declared.trace.BoxId.{BoxId}
use Rattle.trace_ops.specs.declared.trace.Arg.{Arg}
use Rattle.trace_ops.specs.declared.trace.Arg.TheVariants as arg
use Rattle.trace_ops.specs.declared.trace.Frame.{Frame}
use Rattle.trace_ops.specs.declared.trace.Op.{Op}
use Rattle.trace_ops.specs.contracts.trace.BoxIdEq.TheImpl.Laws as box_laws
use Rattle.trace_ops.specs.Equality.{EqualityDecides}
use Rattle.trace_ops.specs.Parts.{boxes_of_arg}
use Rattle.trace_ops.specs.Rules.{boxes_in}
use Rattle.trace_ops.specs.Lawful.{AreDistinct}
use Rattle.trace_check.specs.Boxes.{knows, knows_arg, knows_args, knows_frames, knows_all, lacks, repeats}

pub known : (seen : List BoxId) (b : BoxId) → Contains seen b → knows seen b ≡ true
known seen b h = list_any-from_Contains box_laws.lawful.laws b seen h

pub lacked : (seen : List BoxId) (b : BoxId) → knows seen b ≡ false → ¬ Contains seen b
lacked seen b e h = let t : true ≡ false = sym (known seen b h) ∙ e in absurd cc

-- a test over lists of lists tells of all their elements
pub all_flat : {X B : Type 0} (P : B → Type 0) (f : X → List B) (q : X → Bool) → ((x : X) → q x ≡ true → All P (f x)) → (xs : List X) → list_all q xs ≡ true → All P (flat_map f xs)
all_flat P f q each [] e = All-nil P
all_flat P f q each (x ∷ xs) e =
    let parts = and_parts (q x) (list_all q xs) e in
    All-append P (f x) (flat_map f xs) (each x parts.0) (all_flat P f q each xs parts.1)

all_front : {B : Type 0} (P : B → Type 0) (xs ys : List B) → All P (xs ++ ys) → All P xs
all_front P [] ys h = All-nil P
all_front P (x ∷ xs) ys h = All-cons P x xs (All-head P x (xs ++ ys) h) (all_front P xs ys (All-tail P x (xs ++ ys) h))

all_back : {B : Type 0} (P : B → Type 0) (xs ys : List B) → All P (xs ++ ys) → All P ys
all_back P [] ys h = h
all_back P (x ∷ xs) ys h = all_back P xs ys (All-tail P x (xs ++ ys) h)

both : (a b : Bool) → a ≡ true → b ≡ true → (a && b) ≡ true
both true true e f = refl
both true false e f = f
both false b e f = e

pub flat_all : {X B : Type 0} (P : B → Type 0) (f : X → List B) (q : X → Bool) → ((x : X) → All P (f x) → q x ≡ true) → (xs : List X) → All P (flat_map f xs) → list_all q xs ≡ true
flat_all P f q each [] h = refl
flat_all P f q each (x ∷ xs) h =
    both (q x) (list_all q xs) (each x (all_front P (f x) (flat_map f xs) h)) (flat_all P f q each xs (all_back P (f x) (flat_map f xs) h))

known_arg : (seen : List BoxId) (a : Arg) → All (Contains seen) (boxes_of_arg a) → knows_arg seen a ≡ true
known_arg seen (arg.Of b) h = known seen b (All-head (Contains seen) b [] h)
known_arg seen (arg.Const z) h = refl
known_arg seen arg.Null h = refl
known_arg seen (arg.Class k) h = refl
known_arg seen (arg.Func k) h = refl
known_arg seen (arg.Ptr k) h = refl

known_args : (seen : List BoxId) (args : List Arg) → All (Contains seen) (flat_map boxes_of_arg args) → knows_args seen args ≡ true
known_args seen args h = flat_all (Contains seen) boxes_of_arg (knows_arg seen) (known_arg seen) args h

abbrev of_frame : Frame → List BoxId
of_frame f = flat_map boxes_of_arg f.slots

module _ (law : EqualityDecides) where
  pub contained : (seen : List BoxId) (b : BoxId) → knows seen b ≡ true → Contains seen b
  contained seen b e = Contains-from_any (λ x y. (law.box x y).0) b seen e

  arg_known : (seen : List BoxId) (a : Arg) → knows_arg seen a ≡ true → All (Contains seen) (boxes_of_arg a)
  arg_known seen (arg.Of b) e = All-cons (Contains seen) b [] (contained seen b e) (All-nil (Contains seen))
  arg_known seen (arg.Const z) e = All-nil (Contains seen)
  arg_known seen arg.Null e = All-nil (Contains seen)
  arg_known seen (arg.Class k) e = All-nil (Contains seen)
  arg_known seen (arg.Func k) e = All-nil (Contains seen)
  arg_known seen (arg.Ptr k) e = All-nil (Contains seen)

  args_known : (seen : List BoxId) (args : List Arg) → knows_args seen args ≡ true → All (Contains seen) (flat_map boxes_of_arg args)
  args_known seen args e = all_flat (Contains seen) boxes_of_arg (knows_arg seen) (arg_known seen) args e

  -- all boxes of an operation are known exactly where the test says so
  pub all_known : (seen : List BoxId) (op : Op) (r : Bool) → r ≡ knows_all seen op → (IsTrue r → All (Contains seen) (boxes_in op)) × (All (Contains seen) (boxes_in op) → IsTrue r)
  all_known seen op r e = (λ t. forth (and_parts (knows_args seen op.args) (knows_frames seen op.snapshot) (sym e ∙ t)), λ h. e ∙ back h)
    where
      forth : (knows_args seen op.args ≡ true) × (knows_frames seen op.snapshot ≡ true) → All (Contains seen) (boxes_in op)
      forth h = All-append (Contains seen) (flat_map boxes_of_arg op.args) (flat_map of_frame op.snapshot) (args_known seen op.args h.0) (all_flat (Contains seen) of_frame (λ (f : Frame). knows_args seen f.slots) (λ f. args_known seen f.slots) op.snapshot h.1)

      back : All (Contains seen) (boxes_in op) → knows_all seen op ≡ true
      back h = both (knows_args seen op.args) (knows_frames seen op.snapshot) (known_args seen op.args (all_front (Contains seen) (flat_map boxes_of_arg op.args) (flat_map of_frame op.snapshot) h)) (flat_all (Contains seen) of_frame (λ (f : Frame). knows_args seen f.slots) (λ f. known_args seen f.slots) op.snapshot (all_back (Contains seen) (flat_map boxes_of_arg op.args) (flat_map of_frame op.snapshot) h))

  -- a result is none of the known boxes exactly where the test says so
  pub lacked_all : (seen : List BoxId) (made : Option BoxId) (r : Bool) → r ≡ lacks seen made → (IsTrue r → All (λ b. ¬ Contains seen b) (option_to_list made)) × (All (λ b. ¬ Contains seen b) (option_to_list made) → IsTrue r)
  lacked_all seen None r e = (λ t. All-nil (λ b. ¬ Contains seen b), λ h. e)
  lacked_all seen (Some b) r e = elim (knows seen b) as (λ k. knows seen b ≡ k → r ≡ not k → (IsTrue r → All (λ b. ¬ Contains seen b) (b ∷ [])) × (All (λ b. ¬ Contains seen b) (b ∷ []) → IsTrue r)) [
    | true ↦ λ k n. (λ t. absurd (let f : true ≡ false = sym t ∙ n in cc), λ h. absurd (All-head (λ b. ¬ Contains seen b) b [] h (contained seen b k)))
    | false ↦ λ k n. (λ t. All-cons (λ b. ¬ Contains seen b) b [] (lacked seen b k) (All-nil (λ b. ¬ Contains seen b)), λ h. n)
  ] refl e

  single : (b : BoxId) → Contains (b ∷ []) b
  single b = contained (b ∷ []) b (list_any-single b)
    where
      list_any-single : (b : BoxId) → knows (b ∷ []) b ≡ true
      list_any-single b = rw (box_laws.lawful.laws.refl b) refl

  -- boxes of which none repeats are distinct, and none of them is known before
  pub distinct : (seen bs : List BoxId) → repeats seen bs ≡ false → AreDistinct bs × All (λ b. ¬ Contains seen b) bs
  unfolding repeats
  distinct seen [] e = (tt, All-nil (λ b. ¬ Contains seen b))
  distinct seen (b ∷ bs) e = elim (knows seen b) as (λ t. knows seen b ≡ t → (if t then true else repeats (seen ++ b ∷ []) bs) ≡ false → AreDistinct (b ∷ bs) × All (λ b. ¬ Contains seen b) (b ∷ bs)) [
    | true ↦ λ k f. absurd cc
    | false ↦ λ k f.
        let rest = distinct (seen ++ b ∷ []) bs f in (
          ((λ (h : Contains bs b). rest.1 h.0 b h.1 (subst (λ (x : BoxId). Contains (seen ++ b ∷ []) x) (sym h.2) (Contains-append_right seen (b ∷ []) b (single b)))), rest.0),
          All-cons (λ b. ¬ Contains seen b) b bs (lacked seen b k) (λ i d lt h. rest.1 i d lt (Contains-append_left seen (b ∷ []) _ h)),
        )
  ] refl e

  -- where one repeats, they aren't distinct, or one is known before
  pub repeated : (seen bs : List BoxId) → repeats seen bs ≡ true → AreDistinct bs → All (λ b. ¬ Contains seen b) bs → ⊥
  unfolding repeats
  repeated seen [] e d a = absurd cc
  repeated seen (b ∷ bs) e d a = elim (knows seen b) as (λ t. knows seen b ≡ t → (if t then true else repeats (seen ++ b ∷ []) bs) ≡ true → ⊥) [
    | true ↦ λ k f. All-head (λ b. ¬ Contains seen b) b bs a (contained seen b k)
    | false ↦ λ k f. repeated (seen ++ b ∷ []) bs f d.1 (apart (All-tail (λ b. ¬ Contains seen b) b bs a))
  ] refl e
    where
      of_one : (x : BoxId) → Contains (b ∷ []) x → b ≡ x
      of_one x (zero, lt, e) = e
      of_one x (suc k, lt, e) = absurd (omega (arith, lt))

      apart : All (λ b. ¬ Contains seen b) bs → All (λ c. ¬ Contains (seen ++ b ∷ []) c) bs
      apart h i c lt k = elim (Contains-append_cases seen (b ∷ []) _ k) [
        | inl before ↦ h i c lt before
        | inr here ↦ d.0 (i, lt, get_or_default bs i b c lt ∙ sym (of_one (slice_index_or bs i c) here))
      ]

  pub are_distinct : (bs : List BoxId) → repeats [] bs ≡ false → AreDistinct bs
  are_distinct bs e = (distinct [] bs e).0

  pub not_distinct : (bs : List BoxId) → repeats [] bs ≡ true → AreDistinct bs → ⊥
  not_distinct bs e d = repeated [] bs e d (λ i b lt h. absurd (omega (arith, h.1)))
