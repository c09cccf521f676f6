-- Rules by number, and walks over operations and traces.
use Rattle.std.proofs.Common.{◌≡◌, ℕ, zero, suc, ◌+◌, ◌-◌, ◌<◌, ◌≤◌, false, List, [], ◌∷◌, ◌++◌, length, take, Option, Some, None, refl, sym, ap, subst, ◌∙◌, append_assoc, append-nil, arith, inl, inr}
use Rattle.std.specs.Prelude.{slice_get, max}
use Rattle.std.specs.List.{All, Contains, flat_map}
use Rattle.std.specs.Option.{option_map, option_and_then, option_to_list}
use Rattle.std.proofs.lemmas.Option.{slice_get_within, slice_get-map}
use Rattle.std.proofs.lemmas.Bool.{cases_lt}
use Rattle.std.proofs.lemmas.List.{take_all}
use Rattle.trace_ops.specs.declared.trace.BoxId.{BoxId}
use Rattle.trace_ops.specs.declared.trace.Op.{Op}
use Rattle.trace_ops.specs.declared.trace.Trace.{Trace}
use Rattle.trace_ops.specs.declared.trace.TraceSet.{TraceSet}
use Rattle.trace_ops.specs.Rules.{known_before, HasDistinctInputs}
use Rattle.trace_ops.specs.Weights.{parent_named, parent_of, parent_at}
use Rattle.trace_ops.specs.WellFormed.{IsWellFormed}
use Rattle.trace_check.specs.declared.rule.Rule.{Rule}
use Rattle.trace_check.specs.declared.rule.Rule.TheVariants as rule
use Rattle.trace_ops.specs.Lawful.{AreDistinct}
use Rattle.trace_check.specs.Boxes.{lacks, repeats}
use Rattle.trace_ops.specs.Equality.{EqualityDecides}
use Rattle.trace_check.specs.Walking.{flat, up, ArePlaced, HoldBelow, IsNewAt}
use Rattle.trace_check.specs.Faults.{number_of, Holds, HoldAll, IsSound, IsFirstRule, IsFirstFault}
use Rattle.trace_check.proofs.Knowing.{lacked_all, are_distinct}

all_rules : List Rule
all_rules = rule.DistinctInputs ∷ rule.NewResult ∷ rule.KnownBoxes ∷ rule.Arguments ∷ rule.ResultKind ∷ rule.DescrClass ∷ rule.OverflowGuards ∷ rule.Frames ∷ rule.End ∷ rule.Label ∷ rule.JumpTarget ∷ rule.Parent ∷ rule.BridgeInputs ∷ rule.Order ∷ []

at_number : (r : Rule) → slice_get all_rules (number_of r - 1) ≡ Some r
unfolding all_rules
at_number rule.DistinctInputs = refl
at_number rule.NewResult = refl
at_number rule.KnownBoxes = refl
at_number rule.Arguments = refl
at_number rule.ResultKind = refl
at_number rule.DescrClass = refl
at_number rule.OverflowGuards = refl
at_number rule.Frames = refl
at_number rule.End = refl
at_number rule.Label = refl
at_number rule.JumpTarget = refl
at_number rule.Parent = refl
at_number rule.BridgeInputs = refl
at_number rule.Order = refl

pub some_same : {A : Type 0} (x y : A) → ◌≡◌ {A = Option A} (Some x) (Some y) → x ≡ y
some_same x y e = cc

-- a rule is told by its number
pub number_same : (q r : Rule) → number_of q ≡ number_of r → q ≡ r
number_same q r e = some_same q r (sym (at_number q) ∙ ap (λ n. slice_get all_rules (n - 1)) e ∙ at_number r)

pub number_within : (r : Rule) → (1 ≤ number_of r) × (number_of r ≤ 14)
number_within rule.DistinctInputs = (omega arith, omega arith)
number_within rule.NewResult = (omega arith, omega arith)
number_within rule.KnownBoxes = (omega arith, omega arith)
number_within rule.Arguments = (omega arith, omega arith)
number_within rule.ResultKind = (omega arith, omega arith)
number_within rule.DescrClass = (omega arith, omega arith)
number_within rule.OverflowGuards = (omega arith, omega arith)
number_within rule.Frames = (omega arith, omega arith)
number_within rule.End = (omega arith, omega arith)
number_within rule.Label = (omega arith, omega arith)
number_within rule.JumpTarget = (omega arith, omega arith)
number_within rule.Parent = (omega arith, omega arith)
number_within rule.BridgeInputs = (omega arith, omega arith)
number_within rule.Order = (omega arith, omega arith)

pub none_below : (set : TraceSet) (i : ℕ) (t : Trace) (k : ℕ) → HoldBelow set i t k 1
none_below set i t k q lt = absurd (omega (arith, lt, (number_within q).0))

pub one_more : (set : TraceSet) (i : ℕ) (t : Trace) (k n : ℕ) (r : Rule) → HoldBelow set i t k n → number_of r ≡ n → Holds set i t k r → HoldBelow set i t k (n + 1)
one_more set i t k n r before e here q lt = elim (cases_lt (number_of q) n) [
  | inl less ↦ before q less
  | inr le ↦ let same : number_of r ≡ number_of q = omega (arith, lt, le, e) in subst (λ (p : Rule). Holds set i t k p) (number_same r q same) here
]

pub all_hold : (set : TraceSet) (i : ℕ) (t : Trace) (k n : ℕ) → 15 ≤ n → HoldBelow set i t k n → HoldAll set i t k
all_hold set i t k n le before r = before r (omega (arith, le, (number_within r).1))

pub first_fails : (set : TraceSet) (i : ℕ) (t : Trace) (k n : ℕ) (r : Rule) → HoldBelow set i t k n → number_of r ≡ n → ¬ Holds set i t k r → IsFirstRule set i t k r
first_fails set i t k n r before e bad = record { fails = bad; smaller = λ q lt. before q (subst (λ m. number_of q < m) e lt) }

-- inputs that repeat fail at the first operation
pub repeated_inputs : (set : TraceSet) (i : ℕ) (t : Trace) → ¬ HasDistinctInputs t → IsFirstFault set i t 0 rule.DistinctInputs
repeated_inputs set i t bad = record {
  first = record { fails = λ h. bad (h.1 refl); smaller = λ q lt. none_below set i t 0 q lt };
  before = λ j lt. absurd (omega (arith, lt));
}

results_more : (ops : List Op) (k : ℕ) (o : Op) → slice_get ops k ≡ Some o → flat_map (λ (op : Op). option_to_list op.result) (take (k + 1) ops) ≡ flat_map (λ (op : Op). option_to_list op.result) (take k ops) ++ option_to_list o.result
results_more [] k o e = absurd cc
results_more (x ∷ xs) zero o e =
    let same : x ≡ o = cc in
    subst (λ (y : Op). flat_map (λ (op : Op). option_to_list op.result) (x ∷ []) ≡ option_to_list y.result) same (append-nil (option_to_list x.result))
results_more (x ∷ xs) (suc k) o e =
    let more : suc k + 1 ≡ suc (k + 1) = omega arith in
    rw more (ap (λ (r : List BoxId). option_to_list x.result ++ r) (results_more xs k o e) ∙ sym (append_assoc (option_to_list x.result) (flat_map (λ (op : Op). option_to_list op.result) (take k xs)) (option_to_list o.result)))

pub known_more : (t : Trace) (k : ℕ) (o : Op) (seen new : List BoxId) → Some o ≡ slice_get t.ops k → seen ≡ known_before t k → new ≡ seen ++ option_to_list o.result → new ≡ known_before t (k + 1)
known_more t k o seen new at d e =
    e ∙ ap (λ (x : List BoxId). x ++ option_to_list o.result) d
    ∙ append_assoc t.inputs (flat_map (λ (op : Op). option_to_list op.result) (take k t.ops)) (option_to_list o.result)
    ∙ ap (λ (r : List BoxId). t.inputs ++ r) (sym (results_more t.ops k o (sym at)))

results_past : (ops : List Op) (k : ℕ) → length ops ≤ k → take (k + 1) ops ≡ take k ops
results_past ops k le = take_all (k + 1) ops (omega (arith, le)) ∙ sym (take_all k ops le)

past_end : {A : Type 0} (xs : List A) (k : ℕ) → slice_get xs k ≡ None → length xs ≤ k
past_end [] k e = omega arith
past_end (x ∷ xs) zero e = absurd cc
past_end (x ∷ xs) (suc k) e = omega (arith, past_end xs k e)

pub known_past : (t : Trace) (k : ℕ) (seen : List BoxId) → None ≡ slice_get t.ops k → seen ≡ known_before t k → seen ≡ known_before t (k + 1)
known_past t k seen at d = d ∙ ap (λ (ops : List Op). t.inputs ++ flat_map (λ (op : Op). option_to_list op.result) ops) (sym (results_past t.ops k (past_end t.ops k (sym at))))

-- where all rules hold the result is new
pub is_lacked : EqualityDecides → (set : TraceSet) (i : ℕ) (t : Trace) (k : ℕ) (seen : List BoxId) → seen ≡ known_before t k → HoldAll set i t k → IsNewAt t k seen
is_lacked law set i t k seen d h o at = (lacked_all law seen o.result (lacks seen o.result) refl).1 (subst (λ s. All (λ b. ¬ Contains s b) (option_to_list o.result)) (sym d) ((h rule.NewResult).0 o at))

abbrev pub HoldUpTo : TraceSet → ℕ → Trace → ℕ → Type 0
HoldUpTo set i t k = (j : ℕ) → j < k → HoldAll set i t j

pub hold_more : (set : TraceSet) (i : ℕ) (t : Trace) (k : ℕ) → HoldUpTo set i t k → HoldAll set i t k → HoldUpTo set i t (k + 1)
hold_more set i t k before here j lt = elim (cases_lt j k) [
  | inl less ↦ before j less
  | inr le ↦ let same : k ≡ j = omega (arith, lt, le) in subst (λ (n : ℕ). HoldAll set i t n) same here
]

no_op : {P : Type 0} (t : Trace) (k : ℕ) (o : Op) → length t.ops ≤ k → slice_get t.ops k ≡ Some o → P
no_op t k o le e = absurd (omega (arith, le, slice_get_within t.ops k o e))

pub all_sound : (set : TraceSet) (i : ℕ) (t : Trace) (k : ℕ) → max 1 (length t.ops) ≤ k → HoldUpTo set i t k → IsSound set i t
all_sound set i t k le before j r = elim (cases_lt j k) [
  | inl less ↦ before j less r
  | inr more ↦ ((λ op at. no_op t j op (omega (arith, le, more)) at), (λ e. absurd (omega (arith, le, more, e))))
]

pub walked : (set : TraceSet) (i : ℕ) (t : Trace) (k : ℕ) (r : Rule) → HoldUpTo set i t k → IsFirstRule set i t k r → IsFirstFault set i t k r
walked set i t k r before here = record { first = here; before = before }

abbrev pub SoundUpTo : TraceSet → ℕ → Type 0
SoundUpTo set i = (j : ℕ) (t : Trace) → j < i → slice_get set.traces j ≡ Some t → IsSound set j t

pub sound_more : (set : TraceSet) (i : ℕ) (t : Trace) → slice_get set.traces i ≡ Some t → SoundUpTo set i → IsSound set i t → SoundUpTo set (i + 1)
sound_more set i t at before here j u lt e = elim (cases_lt j i) [
  | inl less ↦ before j u less e
  | inr le ↦
      let same : i ≡ j = omega (arith, lt, le) in
      let one : t ≡ u = some_same t u (sym at ∙ ap (slice_get set.traces) same ∙ e) in
      subst (λ (n : ℕ). IsSound set n u) same (subst (λ (x : Trace). IsSound set i x) one here)
]

-- traces that are all sound make a well-formed set
pub well_formed : (set : TraceSet) (n : ℕ) → length set.traces ≤ n → SoundUpTo set n → IsWellFormed set
well_formed set n le before = record {
  inputs_distinct = λ i t at. (sound i t at 0 rule.DistinctInputs).1 refl;
  results_new = λ i t at k op here. (sound i t at k rule.NewResult).0 op here;
  boxes_known = λ i t at k op here. (sound i t at k rule.KnownBoxes).0 op here;
  arguments_fit = λ i t at k op here. (sound i t at k rule.Arguments).0 op here;
  results_fit = λ i t at k op here. (sound i t at k rule.ResultKind).0 op here;
  descrs_fit = λ i t at k op here. (sound i t at k rule.DescrClass).0 op here;
  overflow_is_guarded = λ i t at k op here. (sound i t at k rule.OverflowGuards).0 op here;
  guards_have_frames = λ i t at k op here. (sound i t at k rule.Frames).0 op here;
  has_operations = λ i t at. (sound i t at 0 rule.End).1 refl;
  ends_at_end = λ i t at k op here. (sound i t at k rule.End).0 op here;
  jumps_fit = λ i t at k op here. (sound i t at k rule.JumpTarget).0 op here;
  parents_there = λ i t at. (sound i t at 0 rule.Parent).1 refl;
  inputs_fit = λ i t at. (sound i t at 0 rule.BridgeInputs).1 refl;
  ordered = λ i t at. (sound i t at 0 rule.Order).1 refl;
}
  where
    sound : (i : ℕ) (t : Trace) → slice_get set.traces i ≡ Some t → IsSound set i t
    sound i t at = before i t (omega (arith, le, slice_get_within set.traces i t at)) at

flat_map_get : (set : TraceSet) (k : ℕ) → flat (option_map (λ (t : Trace). parent_named set.traces t.origin) (slice_get set.traces k)) ≡ parent_at set k
flat_map_get set k = at (slice_get set.traces k)
  where
    at : (o : Option Trace) → flat (option_map (λ (t : Trace). parent_named set.traces t.origin) o) ≡ parent_of set.traces o
    at None = refl
    at (Some t) = refl

-- the table of parents gives the parent
pub up_above : (set : TraceSet) (parents : List (Option ℕ)) (o : Option ℕ) → ArePlaced set parents → up parents o ≡ option_and_then (parent_at set) o
up_above set parents None e = refl
up_above set parents (Some k) e = ap (λ ps. flat (slice_get ps k)) e ∙ ap flat (slice_get-map (λ (t : Trace). parent_named set.traces t.origin) set.traces k) ∙ flat_map_get set k

pub begun : EqualityDecides → (t : Trace) (bs seen : List BoxId) → bs ≡ t.inputs → repeats [] bs ≡ false → seen ≡ bs → HasDistinctInputs t × (seen ≡ known_before t 0)
begun law t bs seen e f g = (subst AreDistinct e (are_distinct law bs f), g ∙ e ∙ sym (append-nil t.inputs))

pub walked_all : (set : TraceSet) (i : ℕ) (t : Trace) (k n : ℕ) (ops : List Op) → ops ≡ t.ops → n ≡ max (length ops) 1 → n ≤ k → HoldUpTo set i t k → IsSound set i t
walked_all set i t k n ops same e le before = let l : length ops ≡ length t.ops = ap length same in all_sound set i t k (omega (arith, l, e, le)) before

pub well_formed_at : (set : TraceSet) (n : ℕ) (ts : List Trace) → ts ≡ set.traces → length ts ≤ n → SoundUpTo set n → IsWellFormed set
well_formed_at set n ts same le before = well_formed set n (subst (λ (us : List Trace). length us ≤ n) same le) before
