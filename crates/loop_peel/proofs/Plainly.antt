-- A loop may begin with nothing known.
use Rattle.std.proofs.Common.{◌≡◌, ℕ, ◌+◌, ◌*◌, ◌≤◌, List, [], ◌∷◌, ◌++◌, Option, Some, length, map, slice_get, refl, sym, ap, ◌∙◌, subst, arith}
use Rattle.std.specs.Option.{IsSomeAnd}
use Rattle.std.specs.List.{All, AllByRecursion, Contains, flat_map}
use Rattle.std.proofs.lemmas.List.Elements.{All-nil, All-from_recursion, All-contains_itself}
use Rattle.lists.proofs.Alls.{all_at}
use Rattle.trace_ops.specs.declared.trace.BoxId.{BoxId}
use Rattle.trace_ops.specs.declared.trace.Arg.{Arg}
use Rattle.trace_ops.specs.declared.trace.Arg.TheVariants.{Of}
use Rattle.trace_ops.specs.declared.trace.Trace.{Trace}
use Rattle.trace_ops.specs.declared.trace.TraceSet.{TraceSet}
use Rattle.trace_ops.specs.declared.piece.Half.{Half}
use Rattle.trace_ops.specs.declared.piece.Val.{Val}
use Rattle.trace_ops.specs.declared.piece.Val.TheVariants.{Known}
use Rattle.trace_ops.specs.declared.piece.PieceId.{PieceId}
use Rattle.trace_ops.specs.InRange.{IsInRange, IsTraceWithin, most_inputs}
use Rattle.trace_ops.specs.Kinds.{kind_of_val, NamesVal}
use Rattle.trace_ops.specs.Lawful.{IsNumbered, AreDistinct, boxes_of_entry, IsLawful}
use Rattle.trace_ops.specs.Parts.{boxes_of_val}
use Rattle.trace_ops.specs.Sound.{AreApart, constants_in_val, RepeatsInputs}
use Rattle.trace_ops.specs.WellFormed.{IsWellFormed}
use Rattle.trace_meaning.specs.Recorded.{inputs_of}
use Rattle.opt_meaning.specs.Admits.{plain_entry}
use Rattle.opt_pass.specs.Counting.{constants_of, AreAtMost}
use Rattle.loop_peel.specs.Peeling.{IsLoop, loop_entry}
use Rattle.loop_peel.specs.Serving.{weight_above, CanEnter}

abbrev known : BoxId → Val
known b = Known (Of b)

boxes_are : (bs : List BoxId) → flat_map boxes_of_val (map known bs) ≡ bs
boxes_are [] = refl
boxes_are (b ∷ bs) = ap (λ z. b ∷ z) (boxes_are bs)

append_none : {X : Type 0} (xs : List X) → xs ++ [] ≡ xs
append_none [] = refl
append_none (x ∷ xs) = ap (λ z. x ∷ z) (append_none xs)

none_behind : {X : Type 0} (xs : List X) → ((xs ++ []) ++ []) ++ [] ≡ xs
none_behind xs = append_none ((xs ++ []) ++ []) ∙ append_none (xs ++ []) ∙ append_none xs

no_constants : (bs : List BoxId) → flat_map constants_in_val (map known bs) ≡ []
no_constants [] = refl
no_constants (b ∷ bs) = no_constants bs

each_known : (P : Val → Type 0) → ((b : BoxId) → P (known b)) → (bs : List BoxId) → AllByRecursion P (map known bs)
each_known P f [] = tt
each_known P f (b ∷ bs) = (f b, each_known P f bs)

kinds_are : (bs : List BoxId) → map kind_of_val (map known bs) ≡ map (λ (b : BoxId). Some b.kind) bs
kinds_are [] = refl
kinds_are (b ∷ bs) = ap (λ z. Some b.kind ∷ z) (kinds_are bs)

pub plain_lawful : (set : TraceSet) (bs : List BoxId) → AreDistinct bs → IsLawful set (plain_entry bs)
plain_lawful set bs apart = record {
  label_distinct = apart;
  boxes_in_label = subst (All (Contains bs)) (sym (none_behind (flat_map boxes_of_val (map known bs)) ∙ boxes_are bs)) (All-contains_itself bs);
  values_numbered = All-from_recursion (IsNumbered 0) (map known bs) (each_known (IsNumbered 0) (λ b. tt) bs);
  parts_numbered = All-nil _;
  stores_numbered = All-nil _;
  shapes_lawful = All-nil _;
  stores_lawful = All-nil _;
  facts_lawful = All-nil _;
  values_named = All-from_recursion (NamesVal set.table) (map known bs) (each_known (NamesVal set.table) (λ b. tt) bs);
  parts_named = All-nil _;
  stores_named = All-nil _;
}

none_among : (some : List Arg) → All (Contains []) some → length some ≤ 0
none_among [] h = omega arith
none_among (a ∷ some) h = absurd (omega (arith, (all_at (Contains []) (a ∷ some) 0 a h refl).1))

at_most_none : (n : ℕ) (xs : List Arg) → xs ≡ [] → AreAtMost n xs
at_most_none n xs e some apart among = let few : length some ≤ 0 = none_among some (subst (λ z. All (Contains z) some) e among) in omega (arith, few)

-- of a loop of a lawful set
pub loop_enters : (set : TraceSet) (p : ℕ) (t : Trace) → IsInRange set → IsWellFormed set → slice_get set.traces p ≡ Some t → IsLoop t.origin → CanEnter set p (loop_entry set p)
loop_enters set p t range well at loop =
    let inputs : inputs_of (slice_get set.traces p) ≡ t.inputs = ap inputs_of at in
    let few : length t.inputs ≤ 64 = subst (λ z. length t.inputs ≤ most_inputs z) loop (all_at IsTraceWithin set.traces p t range.traces_within at).inputs in
    record {
      lawful = plain_lawful set (inputs_of (slice_get set.traces p)) (subst AreDistinct (sym inputs) (well.inputs_distinct p t at));
      values = kinds_are (inputs_of (slice_get set.traces p));
      bounded = record {
        cost = omega arith;
        boxes = let same : length (inputs_of (slice_get set.traces p)) ≡ length t.inputs = ap length inputs in omega (arith, few, same);
        constants = at_most_none (16 * weight_above set p) (constants_of (loop_entry set p)) (none_behind (flat_map constants_in_val (map known (inputs_of (slice_get set.traces p)))) ∙ no_constants (inputs_of (slice_get set.traces p)));
      };
    }

pub loop_repeats : (set : TraceSet) (p : ℕ) (t : Trace) (id : PieceId) → slice_get set.traces p ≡ Some t → RepeatsInputs id (loop_entry set p).label t
loop_repeats set p t id at pre loop = ap (λ z. map (λ (b : BoxId). b.kind) (inputs_of z)) at
