-- What is asked where pieces are made, and what is given.
use Rattle.std.proofs.Common.{◌≡◌, ℕ, zero, suc, ◌+◌, ◌-◌, ◌*◌, ◌<◌, ◌≤◌, Bool, true, false, if◌then◌else◌, ◌==◌, List, [], ◌∷◌, ◌++◌, Option, Some, None, length, map, take, get_or, slice_get, refl, sym, ap, ◌∙◌, subst, arith}
use Rattle.std.specs.Option.{IsSomeAnd}
use Rattle.std.specs.List.{AllByRecursion, flat_map}
use Rattle.std.proofs.lemmas.Bool.Decides.{Decides-eqb}
use Rattle.std.proofs.lemmas.List.{take_more}
use Rattle.std.proofs.lemmas.Option.{slice_get_within}
use Rattle.lists.proofs.Eaches.{each_parts}
use Rattle.lists.proofs.Options.{some_same, none_some}
use Rattle.trace_ops.specs.declared.trace.BoxId.{BoxId}
use Rattle.trace_ops.specs.declared.trace.Trace.{Trace}
use Rattle.trace_ops.specs.declared.trace.TraceSet.{TraceSet}
use Rattle.trace_ops.specs.declared.piece.Half.{Half}
use Rattle.trace_ops.specs.declared.piece.Half.TheVariants as half
use Rattle.trace_ops.specs.declared.piece.PieceId.{PieceId}
use Rattle.trace_ops.specs.declared.piece.Piece.{Piece}
use Rattle.trace_ops.specs.declared.piece.Entry.{Entry}
use Rattle.trace_ops.specs.InRange.{IsInRange}
use Rattle.trace_ops.specs.Sound.{RepeatsInputs}
use Rattle.trace_ops.specs.Weights.{own_weight, trace_weight, weight_of}
use Rattle.trace_ops.specs.WellFormed.{IsWellFormed}
use Rattle.trace_meaning.specs.Recorded.{inputs_of}
use Rattle.opt_meaning.specs.Admits.{plain_entry}
use Rattle.loop_peel.specs.Going.{goal_at}
use Rattle.loop_peel.specs.Peeling.{IsLoop, IsBridge, IsPieceOf, kept_if, kept_at, guard_of, loop_entry}
use Rattle.loop_peel.specs.Serving.{weight_above, CanEnter}
use Rattle.loop_peel.proofs.Passed.{Passed, is_piece}
use Rattle.loop_peel.proofs.Plainly.{loop_enters, loop_repeats}
use Rattle.loop_peel.proofs.Weighing.{weight_in_all}

-- A piece

few_boxes : (set : TraceSet) (p : ℕ) (e : Entry) (P : Trace → Type 0) (o : Option Trace) → weight_of set ≤ 131072 → slice_get set.traces p ≡ o → IsSomeAnd o P → CanEnter set p e → length e.label + length e.shapes ≤ 262208
few_boxes set p e P None light at h enter = absurd h
few_boxes set p e P (Some t) light at h enter =
    let a : trace_weight set p ≤ weight_of set = weight_in_all set p (slice_get_within set.traces p t at) in
    let b : length e.label + length e.shapes ≤ 2 * weight_above set p + 64 = enter.bounded.boxes in
    omega (arith, light, a, b)

pub label_few : (set : TraceSet) (p : ℕ) (e : Entry) (P : Trace → Type 0) → weight_of set ≤ 131072 → IsSomeAnd (slice_get set.traces p) P → CanEnter set p e → length e.label < 1073741824
label_few set p e P light h enter = let few = few_boxes set p e P (slice_get set.traces p) light refl h enter in omega (arith, few)

pub shapes_few : (set : TraceSet) (p : ℕ) (e : Entry) (P : Trace → Type 0) → weight_of set ≤ 131072 → IsSomeAnd (slice_get set.traces p) P → CanEnter set p e → length e.shapes < 1073741824
shapes_few set p e P light h enter = let few = few_boxes set p e P (slice_get set.traces p) light refl h enter in omega (arith, few)

made_at : (set : TraceSet) (p : ℕ) (h : Half) (e : Entry) → IsInRange set → IsWellFormed set → weight_of set ≤ 131072 → CanEnter set p e
    → (o : Option Trace) → slice_get set.traces p ≡ o → IsSomeAnd o (RepeatsInputs (record { trace = p; half = h }) e.label)
    → (piece : Piece) (guards : List (ℕ × Entry)) (at_end : Entry) → Passed set (record { trace = p; half = h }) e (goal_at set p) piece guards at_end
    → IsPieceOf set p h e (record { piece = piece; entry = e; guards = guards; at_end = at_end })
made_at set p h e range well light enter None at r piece guards at_end k = absurd r
made_at set p h e range well light enter (Some t) at r piece guards at_end k = is_piece set p t h e range well light at enter r piece guards at_end k

pub piece_made : (set : TraceSet) (p : ℕ) (h : Half) (e : Entry) → IsInRange set → IsWellFormed set → weight_of set ≤ 131072 → CanEnter set p e
    → IsSomeAnd (slice_get set.traces p) (RepeatsInputs (record { trace = p; half = h }) e.label)
    → (s : TraceSet) → s ≡ set → (to : PieceId) → to ≡ goal_at s p
    → (piece : Piece) (guards : List (ℕ × Entry)) (at_end : Entry) → Passed set (record { trace = p; half = h }) e to piece guards at_end
    → IsPieceOf set p h e (record { piece = piece; entry = e; guards = guards; at_end = at_end })
piece_made set p h e range well light enter repeats s same to is piece guards at_end k =
    made_at set p h e range well light enter (slice_get set.traces p) refl repeats piece guards at_end
    (subst (λ (q : PieceId). Passed set (record { trace = p; half = h }) e q piece guards at_end) (is ∙ ap (λ (z : TraceSet). goal_at z p) same) k)

-- A loop

loop_at : (set : TraceSet) (p : ℕ) → IsInRange set → IsWellFormed set → (o : Option Trace) → slice_get set.traces p ≡ o → IsSomeAnd o (λ (t : Trace). IsLoop t.origin) → CanEnter set p (loop_entry set p)
loop_at set p range well None at h = absurd h
loop_at set p range well (Some t) at h = loop_enters set p t range well at h

repeats_at : (set : TraceSet) (p : ℕ) (id : PieceId) (o : Option Trace) → slice_get set.traces p ≡ o → IsSomeAnd o (λ (t : Trace). IsLoop t.origin) → IsSomeAnd o (RepeatsInputs id (loop_entry set p).label)
repeats_at set p id None at h = absurd h
repeats_at set p id (Some t) at h = loop_repeats set p t id at

plain_is : (set s : TraceSet) (p : ℕ) (inputs : List BoxId) (e : Entry) → s ≡ set → inputs ≡ inputs_of (slice_get s.traces p) → e ≡ plain_entry inputs → loop_entry set p ≡ e
plain_is set s p inputs e same are is = sym (is ∙ ap plain_entry are ∙ ap (λ (z : TraceSet). plain_entry (inputs_of (slice_get z.traces p))) same)

pub loop_may : (set s : TraceSet) (p : ℕ) (inputs : List BoxId) (e : Entry) → s ≡ set → inputs ≡ inputs_of (slice_get s.traces p) → e ≡ plain_entry inputs
    → IsInRange set → IsWellFormed set → IsSomeAnd (slice_get set.traces p) (λ (t : Trace). IsLoop t.origin) → CanEnter set p e
loop_may set s p inputs e same are is range well loop = subst (CanEnter set p) (plain_is set s p inputs e same are is) (loop_at set p range well (slice_get set.traces p) refl loop)

pub loop_may_repeat : (set s : TraceSet) (p : ℕ) (id : PieceId) (inputs : List BoxId) (e : Entry) → s ≡ set → inputs ≡ inputs_of (slice_get s.traces p) → e ≡ plain_entry inputs
    → IsSomeAnd (slice_get set.traces p) (λ (t : Trace). IsLoop t.origin) → IsSomeAnd (slice_get set.traces p) (RepeatsInputs id e.label)
loop_may_repeat set s p id inputs e same are is loop = subst (λ (x : Entry). IsSomeAnd (slice_get set.traces p) (RepeatsInputs id x.label)) (plain_is set s p inputs e same are is) (repeats_at set p id (slice_get set.traces p) refl loop)

pub entry_is : (set s : TraceSet) (p : ℕ) (inputs : List BoxId) (e : Entry) → s ≡ set → inputs ≡ inputs_of (slice_get s.traces p) → e ≡ plain_entry inputs → e ≡ loop_entry set p
entry_is set s p inputs e same are is = sym (plain_is set s p inputs e same are is)

-- A bridge

never_repeats : (id : PieceId) (label : List BoxId) (o : Option Trace) → IsSomeAnd o (λ (t : Trace). IsLoop t.origin → ⊥) → IsSomeAnd o (RepeatsInputs id label)
never_repeats id label None h = absurd h
never_repeats id label (Some t) h = λ pre loop. absurd (h loop)

pub bridge_repeats : (set : TraceSet) (p : ℕ) (id : PieceId) (label : List BoxId) → IsBridge set p → IsSomeAnd (slice_get set.traces p) (RepeatsInputs id label)
bridge_repeats set p id label h = never_repeats id label (slice_get set.traces p) h

kept_one : (P : Half × Entry → Type 0) (n : ℕ) (x : Half × ℕ × Entry) → x.1 ≡ n → AllByRecursion P (kept_if n x) → P (x.0, x.2)
kept_one P n x e h = (subst (λ (b : Bool). AllByRecursion P (if b then (x.0, x.2) ∷ [] else [])) ((Decides-eqb x.1 n).1 e) h).0

pub kept_enters : (P : Half × Entry → Type 0) (n : ℕ) (parent : List (Half × ℕ × Entry)) (i : ℕ) (x : Half × ℕ × Entry) → slice_get parent i ≡ Some x → x.1 ≡ n → AllByRecursion P (kept_at n parent) → P (x.0, x.2)
kept_enters P n [] i x at e h = absurd (none_some at)
kept_enters P n (y ∷ parent) zero x at e h = kept_one P n x e (subst (λ z. AllByRecursion P (kept_if n z)) (some_same at) (each_parts P (kept_if n y) (kept_at n parent) h).0)
kept_enters P n (y ∷ parent) (suc i) x at e h = kept_enters P n parent i x at e (each_parts P (kept_if n y) (kept_at n parent) h).1

pub get_is : {X : Type 0} (xs : List X) (n : ℕ) (x : X) → n < length xs → x ≡ get_or xs n x → slice_get xs n ≡ Some x
get_is [] n x lt is = absurd (omega (arith, lt))
get_is (y ∷ xs) zero x lt is = ap Some (sym is)
get_is (y ∷ xs) (suc n) x lt is = get_is xs n x (omega (arith, lt)) is

pub took_more : {X : Type 0} (xs : List X) (n : ℕ) (x : X) → n < length xs → x ≡ get_or xs n x → take n xs ++ x ∷ [] ≡ take (n + 1) xs
took_more xs n x lt is = sym (take_more xs n x lt ∙ ap (λ z. take n xs ++ z ∷ []) (sym is))

pub guard_same : (set s : TraceSet) (p n : ℕ) → s ≡ set → n ≡ guard_of (slice_get s.traces p) → guard_of (slice_get set.traces p) ≡ n
guard_same set s p n same is = sym (is ∙ ap (λ (z : TraceSet). guard_of (slice_get z.traces p)) same)
