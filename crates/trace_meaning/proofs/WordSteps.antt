-- A recorded operation gives words where it takes words.
use Rattle.std.proofs.Common.{◌≡◌, ℕ, ◌<◌, ◌≤◌, ◌^◌, Bool, true, false, Option, Some, None, List, [], ◌∷◌, length, slice_get, refl, sym, ap, ◌∙◌, subst, arith}
use Rattle.std.specs.List.{All}
use Rattle.std.proofs.lemmas.Option.{same_Some}
use Rattle.std.proofs.lemmas.List.Elements.{All-nil, All-cons, All-head, All-tail}
use Rattle.lists.proofs.Alls.{all_at}
use Rattle.trace_ops.specs.declared.facts.Part.{Part}
use Rattle.trace_ops.specs.declared.facts.Part.TheVariants as part
use Rattle.trace_ops.specs.declared.trace.BoxId.{BoxId}
use Rattle.trace_ops.specs.declared.trace.Arg.{Arg}
use Rattle.trace_ops.specs.declared.trace.Arg.TheVariants as arg
use Rattle.trace_ops.specs.declared.trace.Op.{Op}
use Rattle.trace_ops.specs.declared.table.SizeRow.{SizeRow}
use Rattle.trace_ops.specs.declared.table.Table.{Table}
use Rattle.trace_ops.specs.Facts.{part_of}
use Rattle.trace_ops.specs.InRange.{IsTableInRange}
use Rattle.trace_ops.specs.Constants.{ArgHasWord}
use Rattle.trace_meaning.specs.declared.value.Value.{Value}
use Rattle.trace_meaning.specs.declared.value.Value.TheVariants as v
use Rattle.trace_meaning.specs.World.{World}
use Rattle.trace_meaning.specs.Boxes.{Boxes, BoxesDecide, same_box, value_in, bind, bind_all, arg_value, with_first, all_values}
use Rattle.trace_meaning.specs.Objects.{listed}
use Rattle.trace_meaning.specs.Passing.{passes}
use Rattle.trace_meaning.specs.Performing.{Done, Gave, Bad, Waited, Misfitted, perform}
use Rattle.trace_meaning.specs.Legs.{Wrong, Turn, On, Off}
use Rattle.trace_meaning.specs.Recorded.{Rec, recorded_step, recorded_result, recorded_plain, recorded_failure, recorded_guard, recorded_part, recorded_with, values_of, slots_of}
use Rattle.trace_meaning.specs.Sound.{HasWord, MayHaveWord, HoldsWords}
use Rattle.trace_meaning.specs.Worded.{FieldsAreFew, BoxesHaveWords, LeaveHasWords, AllMayHaveWords, DoneHasWords, WordLaws}
use Rattle.trace_meaning.proofs.BoxLaws.{value_in-bind_same, value_in-bind_other}
use Rattle.trace_meaning.proofs.WordOperations.{perform-words}

-- Values of arguments

both : (x : Option Value) (xs : Option (List Value)) → MayHaveWord x → AllMayHaveWords xs → AllMayHaveWords (with_first x xs)
both (Some x) (Some xs) h k = All-cons HasWord x xs h k
both (Some x) None h k = tt
both None xs h k = tt

box_word : (boxes : Boxes) (b : BoxId) → BoxesHaveWords boxes → (x : Option Value) → value_in boxes b ≡ x → MayHaveWord x
box_word boxes b h None e = tt
box_word boxes b h (Some x) e = h b x e

pub values-words : (boxes : Boxes) (args : List Arg) → BoxesHaveWords boxes → All ArgHasWord args → AllMayHaveWords (all_values (arg_value (value_in boxes)) args)
values-words boxes [] h k = All-nil HasWord
values-words boxes (arg.Of b ∷ args) h k = both (value_in boxes b) (all_values (arg_value (value_in boxes)) args) (box_word boxes b h (value_in boxes b) refl) (values-words boxes args h (All-tail ArgHasWord (arg.Of b) args k))
values-words boxes (arg.Const z ∷ args) h k = both (Some (v.Int z)) (all_values (arg_value (value_in boxes)) args) (All-head ArgHasWord (arg.Const z) args k) (values-words boxes args h (All-tail ArgHasWord (arg.Const z) args k))
values-words boxes (arg.Null ∷ args) h k = both (Some v.Null) (all_values (arg_value (value_in boxes)) args) tt (values-words boxes args h (All-tail ArgHasWord arg.Null args k))
values-words boxes (arg.Ptr n ∷ args) h k = both (Some (v.Obj n)) (all_values (arg_value (value_in boxes)) args) tt (values-words boxes args h (All-tail ArgHasWord (arg.Ptr n) args k))
values-words boxes (arg.Class n ∷ args) h k = values-words boxes args h (All-tail ArgHasWord (arg.Class n) args k)
values-words boxes (arg.Func n ∷ args) h k = values-words boxes args h (All-tail ArgHasWord (arg.Func n) args k)

-- Boxes that get values

module _ (decides : BoxesDecide) where
  one_bound : (b c : BoxId) (x y : Value) (boxes : Boxes) (t : Bool) → same_box c b ≡ t → value_in (bind b x boxes) c ≡ Some y → HasWord x → BoxesHaveWords boxes → HasWord y
  one_bound b c x y boxes true t e word h =
      let own : value_in (bind b x boxes) c ≡ Some x = ap (value_in (bind b x boxes)) ((decides c b).0 t) ∙ value_in-bind_same decides b x boxes in
      subst HasWord (same_Some x y (sym own ∙ e)) word
  one_bound b c x y boxes false t e word h = h c y (sym (value_in-bind_other decides b c x boxes (λ s. apart t ((decides c b).1 s))) ∙ e)
    where
      apart : same_box c b ≡ false → same_box c b ≡ true → ⊥
      apart f g = let no : false ≡ true = sym f ∙ g in cc

  pub bind-words : (b : BoxId) (x : Value) (boxes : Boxes) → HasWord x → BoxesHaveWords boxes → BoxesHaveWords (bind b x boxes)
  bind-words b x boxes word h = λ c y e. one_bound b c x y boxes (same_box c b) refl e word h

  pub bind_all-words : (boxes : Boxes) (bs : List BoxId) (vs : List Value) → BoxesHaveWords boxes → All HasWord vs → BoxesHaveWords (bind_all boxes bs vs)
  bind_all-words boxes [] vs h k = h
  bind_all-words boxes (b ∷ bs) [] h k = h
  bind_all-words boxes (b ∷ bs) (x ∷ xs) h k = bind_all-words (bind b x boxes) bs xs (bind-words b x boxes (All-head HasWord x xs k) h) (All-tail HasWord x xs k)

  pub word-laws : WordLaws
  word-laws = record { operations = perform-words; values = values-words; binds = bind-words; binds_all = bind_all-words }

pub no-boxes : BoxesHaveWords []
no-boxes = λ b x e. absurd (cc)

-- Operations

abbrev pub TurnHasWords : Turn Rec → Type 0
TurnHasWords (On s) = BoxesHaveWords s.boxes × HoldsWords s.world
TurnHasWords (Off l) = LeaveHasWords l

wrong_words : (w : World) → HoldsWords w → LeaveHasWords (Wrong w)
wrong_words w h = (All-nil HasWord, h)

module _ (decides : BoxesDecide) (t : Table) (few : FieldsAreFew t) (op : Op) (s : Rec) (boxes : BoxesHaveWords s.boxes) (world : HoldsWords s.world) where
  result_words : (to : Option BoxId) (x : Option Value) (w : World) → MayHaveWord x → HoldsWords w → TurnHasWords (recorded_result to s x w)
  result_words (Some b) (Some x) w word k = (bind-words decides b x s.boxes word boxes, k)
  result_words (Some b) None w word k = wrong_words w k
  result_words None x w word k = (boxes, k)

  plain_words : (to : Option BoxId) (d : Done) → DoneHasWords d → TurnHasWords (recorded_plain to s d)
  plain_words to (Gave x w) k = result_words to x w k.0 k.1
  plain_words to Bad k = wrong_words s.world world
  plain_words to (Waited w) k = (All-nil HasWord, k)
  plain_words to (Misfitted w) k = (All-nil HasWord, k)

  failure_words : (vs : Option (List Value)) → AllMayHaveWords vs → TurnHasWords (recorded_failure s vs)
  failure_words None k = wrong_words s.world world
  failure_words (Some vs) k = (k, world)

  guard_words : (x : Option Bool) → All ArgHasWord (slots_of op.snapshot) → TurnHasWords (recorded_guard op s x)
  guard_words None k = wrong_words s.world world
  guard_words (Some true) k = (boxes, world)
  guard_words (Some false) k = failure_words (values_of s (slots_of op.snapshot)) (values-words s.boxes (slots_of op.snapshot) boxes k)

  part_words : (p : Part) (vs : List Value) → All ArgHasWord (slots_of op.snapshot) → All HasWord vs → TurnHasWords (recorded_part p t op s vs)
  part_words part.Jump vs k h = (h, world)
  part_words part.Finish vs k h = (h, world)
  part_words part.Guard vs k h = guard_words (passes op.code op.args vs s.world) k
  part_words part.OverflowGuard vs k h = guard_words (passes op.code op.args vs s.world) k
  part_words part.Plain vs k h = plain_words op.result (perform t op.code op.descr op.args vs s.world) (perform-words t op.code op.descr op.args vs s.world few world h)
  part_words part.Overflowing vs k h = plain_words op.result (perform t op.code op.descr op.args vs s.world) (perform-words t op.code op.descr op.args vs s.world few world h)

  with_words : (vs : Option (List Value)) → All ArgHasWord (slots_of op.snapshot) → AllMayHaveWords vs → TurnHasWords (recorded_with t op s vs)
  with_words None k h = wrong_words s.world world
  with_words (Some vs) k h = part_words (part_of op.code) vs k h

  pub step_words : All ArgHasWord op.args → All ArgHasWord (slots_of op.snapshot) → TurnHasWords (recorded_step t op s)
  step_words args slots = with_words (values_of s op.args) slots (values-words s.boxes op.args boxes args)

-- Tables in range

abbrev IsSmallRow : Option SizeRow → Type 0
IsSmallRow None = Unit {0}
IsSmallRow (Some r) = length r.fields ≤ 64

small_row : (rows : List SizeRow) (k : ℕ) → All (λ (r : SizeRow). length r.fields ≤ 64) rows → (r : Option SizeRow) → slice_get rows k ≡ r → IsSmallRow r
small_row rows k h None e = tt
small_row rows k h (Some r) e = all_at (λ (r : SizeRow). length r.fields ≤ 64) rows k r h e

few_listed : (r : Option SizeRow) → IsSmallRow r → length (listed r) < 2 ^ 63
few_listed None h = omega arith
few_listed (Some r) h = let few : length r.fields ≤ 64 = h in omega arith

pub fields-few : (t : Table) → IsTableInRange t → FieldsAreFew t
fields-few t range k = few_listed (slice_get t.sizes k) (small_row t.sizes k range.within.fields (slice_get t.sizes k) refl)
