-- One operation of a trace leaves values of their kinds.
use Rattle.std.proofs.Common.{◌≡◌, ℕ, ◌+◌, Bool, true, false, Option, Some, None, List, [], ◌∷◌, ◌++◌, ◌∙◌, length, map, refl, ap, sym, subst, arith}
use Rattle.std.specs.List.{All}
use Rattle.std.specs.Option.{option_map, option_to_list}
use Rattle.std.proofs.lemmas.List.Elements.{All-nil, All-cons, All-head, All-tail, All-append}
use Rattle.std.proofs.lemmas.List.{append-nil}
use Rattle.trace_ops.specs.declared.code.OpCode.{OpCode}
use Rattle.trace_ops.specs.declared.code.OpCode.TheVariants as code
use Rattle.trace_ops.specs.declared.facts.Part.{Part}
use Rattle.trace_ops.specs.declared.facts.Part.TheVariants as part
use Rattle.trace_ops.specs.declared.trace.BoxId.{BoxId}
use Rattle.trace_ops.specs.declared.trace.Arg.{Arg}
use Rattle.trace_ops.specs.declared.trace.Frame.{Frame}
use Rattle.trace_ops.specs.declared.trace.Op.{Op}
use Rattle.trace_ops.specs.declared.table.Table.{Table}
use Rattle.trace_ops.specs.Facts.{part_of, gives_of}
use Rattle.trace_ops.specs.Classes.{guarding, is_guard}
use Rattle.trace_ops.specs.Kinds.{kind_of_arg, NamesArg}
use Rattle.trace_ops.specs.InRange.{NamesOperation}
use Rattle.trace_ops.specs.Rules.{ends, TakesItsArguments, GivesItsKind, CitesItsDescr, slots_of_guard}
use Rattle.trace_meaning.specs.declared.value.Value.{Value}
use Rattle.trace_meaning.specs.World.{World}
use Rattle.trace_meaning.specs.Boxes.{BoxesDecide, HasValue, bind}
use Rattle.trace_meaning.specs.Legs.{Leave, Fails, Jumps, Finishes, Waits, Misfits, Wrong, Turn, On, Off}
use Rattle.trace_meaning.specs.Passing.{passes}
use Rattle.trace_meaning.specs.Performing.{Done, Gave, Bad, Waited, Misfitted, perform}
use Rattle.trace_meaning.specs.Recorded.{Rec, slots_of, values_of, recorded_result, recorded_plain, recorded_failure, recorded_guard, recorded_part, recorded_with, recorded_step}
use Rattle.trace_meaning.specs.Kinds.{IsValueOf, BoxesHold, IsThere}
use Rattle.trace_meaning.specs.Kinds.{AreOfKinds}
use Rattle.trace_meaning.proofs.Valued.{own_value, all_kept}
use Rattle.trace_meaning.proofs.OfKind.{BoxesHold-more, BoxesHold-bind, AreOfKinds-there, AreOfKinds-all_values}
use Rattle.trace_meaning.specs.Holding.{Holds, IsGiven, DoneHolds}
use Rattle.trace_meaning.proofs.HoldingOperations.{DoneHolds-perform}

-- the rules that an operation of a set keeps
pub record IsLawful (t : Table) (op : Op) : Type 0 where
  pub names : NamesOperation t op
  pub takes : TakesItsArguments t op
  pub gives : GivesItsKind op
  pub cites : CitesItsDescr t op

-- a guard gives nothing
guard_gives : (operation : OpCode) → is_guard operation ≡ true → gives_of operation ≡ None
guard_gives code.GuardTrue h = refl
guard_gives code.GuardFalse h = refl
guard_gives code.GuardValue h = refl
guard_gives code.GuardNonnull h = refl
guard_gives code.GuardIsnull h = refl
guard_gives code.GuardClass h = refl
guard_gives code.GuardNonnullClass h = refl
guard_gives code.GuardNoOverflow h = refl
guard_gives code.GuardOverflow h = refl
guard_gives code.GuardNoException h = refl
guard_gives code.SetfieldGc h = refl
guard_gives code.SetarrayitemGc h = refl
guard_gives code.CallN h = refl
guard_gives code.Jump h = refl
guard_gives code.Finish h = refl
guard_gives _ h = absurd (cc)

abbrev pub one_if : Bool → ℕ
one_if true = 1
one_if false = 0

-- what goes on behind the operation
pub record GoesOn (t : Table) (op : Op) (s u : Rec) : Type 0 where
  pub boxes : BoxesHold (length u.world.objects) u.boxes
  pub world : Holds t u.world
  pub guards : u.guards ≡ s.guards + one_if (is_guard op.code)
  -- what had a value has one, and the result too; and the operation is no end
  pub known : (bs : List BoxId) → All (HasValue s.boxes) bs → All (HasValue u.boxes) (bs ++ option_to_list op.result)
  pub no_end : ends (part_of op.code) ≡ false

-- a guard fails with values of its slots' kinds
pub record FailsIn (t : Table) (op : Op) (s : Rec) (n : ℕ) (vs : List Value) (w : World) : Type 0 where
  pub world : Holds t w
  pub number : n ≡ s.guards
  pub guard : is_guard op.code ≡ true
  pub values : AreOfKinds (length w.objects) (map kind_of_arg (slots_of_guard op)) vs

-- a jump leaves with values of its arguments' kinds
pub record JumpsOut (t : Table) (op : Op) (vs : List Value) (w : World) : Type 0 where
  pub world : Holds t w
  pub jump : part_of op.code ≡ part.Jump
  pub values : AreOfKinds (length w.objects) (map kind_of_arg op.args) vs

abbrev pub LeaveHolds : Table → Op → Rec → Leave → Type 0
LeaveHolds t op s (Fails n vs w) = FailsIn t op s n vs w
LeaveHolds t op s (Jumps vs w) = JumpsOut t op vs w
LeaveHolds t op s (Finishes vs w) = Holds t w × All (IsThere (length w.objects)) vs
LeaveHolds t op s (Waits w) = Holds t w
LeaveHolds t op s (Misfits w) = Holds t w
LeaveHolds t op s (Wrong w) = Holds t w

abbrev pub TurnHolds : Table → Op → Rec → Turn Rec → Type 0
TurnHolds t op s (On u) = GoesOn t op s u
TurnHolds t op s (Off l) = LeaveHolds t op s l

pub slots_named : (P : Arg → Type 0) (frames : List Frame) → All (λ (f : Frame). All P f.slots) frames → All P (slots_of frames)
slots_named P [] h = All-nil P
slots_named P (f ∷ frames) h =
    let Q : Frame → Type 0 = λ g. All P g.slots in
    All-append P f.slots (slots_of frames) (All-head Q f frames h) (slots_named P frames (All-tail Q f frames h))

module _ (decides : BoxesDecide) (t : Table) (op : Op) (s : Rec) (law : IsLawful t op) (world : Holds t s.world) (boxes : BoxesHold (length s.world.objects) s.boxes) where
  none_more : (bs : List BoxId) → op.result ≡ None → All (HasValue s.boxes) bs → All (HasValue s.boxes) (bs ++ option_to_list op.result)
  none_more bs none h =
      let P : List BoxId → Type 0 = λ l. All (HasValue s.boxes) l in
      let Q : Option BoxId → Type 0 = λ r. All (HasValue s.boxes) (bs ++ option_to_list r) in
      subst Q (sym none) (subst P (sym (append-nil bs)) h)

  one_more : (b : BoxId) (x : Value) (bs : List BoxId) → op.result ≡ Some b → All (HasValue s.boxes) bs → All (HasValue (bind b x s.boxes)) (bs ++ option_to_list op.result)
  one_more b x bs one h =
      let P : BoxId → Type 0 = HasValue (bind b x s.boxes) in
      let Q : Option BoxId → Type 0 = λ r. All P (bs ++ option_to_list r) in
      subst Q (sym one) (All-append P bs (b ∷ []) (all_kept decides b x s.boxes bs h) (All-cons P b [] (own_value decides b x s.boxes) (All-nil P)))

  no_result : gives_of op.code ≡ None → op.result ≡ None
  no_result none = nothing op.result (law.gives ∙ none)
    where
      nothing : (r : Option BoxId) → option_map (λ (b : BoxId). b.kind) r ≡ None → r ≡ None
      nothing None h = refl
      nothing (Some b) h = absurd (cc)

  result_holds : (to : Option BoxId) (x : Option Value) (w : World) → op.result ≡ to → ends (part_of op.code) ≡ false → option_map (λ (b : BoxId). b.kind) to ≡ gives_of op.code → is_guard op.code ≡ false → DoneHolds t s.world (gives_of op.code) (Gave x w) → TurnHolds t op s (recorded_result to s x w)
  result_holds (Some b) (Some x) w own no_end ek none h =
      let one : IsValueOf (length w.objects) b.kind x = subst (λ k. IsGiven (length w.objects) k (Some x)) (sym ek) h.1 in
      let count : one_if (is_guard op.code) ≡ 0 = ap one_if none in
      record {
        boxes = BoxesHold-bind decides (length w.objects) b x s.boxes one (BoxesHold-more (length s.world.objects) (length w.objects) s.boxes h.0.more boxes);
        world = h.0.holds;
        guards = omega arith;
        known = λ bs k. one_more b x bs own k;
        no_end = no_end;
      }
  result_holds (Some b) None w own no_end ek none h = h.0.holds
  result_holds None x w own no_end ek none h =
      let count : one_if (is_guard op.code) ≡ 0 = ap one_if none in
      record {
        boxes = BoxesHold-more (length s.world.objects) (length w.objects) s.boxes h.0.more boxes;
        world = h.0.holds;
        guards = omega arith;
        known = λ bs k. none_more bs own k;
        no_end = no_end;
      }

  plain_holds : (to : Option BoxId) (d : Done) → op.result ≡ to → ends (part_of op.code) ≡ false → option_map (λ (b : BoxId). b.kind) to ≡ gives_of op.code → is_guard op.code ≡ false → DoneHolds t s.world (gives_of op.code) d → TurnHolds t op s (recorded_plain to s d)
  plain_holds to (Gave x w) own no_end ek none h = result_holds to x w own no_end ek none h
  plain_holds to Bad own no_end ek none h = world
  plain_holds to (Waited w) own no_end ek none h = h.holds
  plain_holds to (Misfitted w) own no_end ek none h = h.holds

  failure_holds : (vs : Option (List Value)) → is_guard op.code ≡ true → values_of s (slots_of op.snapshot) ≡ vs → TurnHolds t op s (recorded_failure s vs)
  failure_holds None one e = world
  failure_holds (Some vs) one e = record {
    world = world;
    number = refl;
    guard = one;
    values = AreOfKinds-all_values t (length s.world.objects) s.boxes world.prebuilts boxes (slots_of op.snapshot) vs (slots_named (NamesArg t) op.snapshot law.names.2) e;
  }

  guard_holds : (x : Option Bool) → ends (part_of op.code) ≡ false → is_guard op.code ≡ true → TurnHolds t op s (recorded_guard op s x)
  guard_holds None no_end one = world
  guard_holds (Some true) no_end one = let count : one_if (is_guard op.code) ≡ 1 = ap one_if one in record { boxes = boxes; world = world; guards = omega arith; known = λ bs k. none_more bs (no_result (guard_gives op.code one)) k; no_end = no_end }
  guard_holds (Some false) no_end one = failure_holds (values_of s (slots_of op.snapshot)) one refl

  part_holds : (p : Part) (vs : List Value) → part_of op.code ≡ p → AreOfKinds (length s.world.objects) (map kind_of_arg op.args) vs → TurnHolds t op s (recorded_part p t op s vs)
  part_holds part.Jump vs ep hv = record { world = world; jump = ep; values = hv }
  part_holds part.Finish vs ep hv = (world, AreOfKinds-there (length s.world.objects) (map kind_of_arg op.args) vs hv)
  part_holds part.Guard vs ep hv = guard_holds (passes op.code op.args vs s.world) (ap ends ep) (ap guarding ep)
  part_holds part.OverflowGuard vs ep hv = guard_holds (passes op.code op.args vs s.world) (ap ends ep) (ap guarding ep)
  part_holds part.Plain vs ep hv = plain_holds op.result (perform t op.code op.descr op.args vs s.world) refl (ap ends ep) law.gives (ap guarding ep) (DoneHolds-perform t s.world world op.code op.descr op.args vs law.takes law.cites hv)
  part_holds part.Overflowing vs ep hv = plain_holds op.result (perform t op.code op.descr op.args vs s.world) refl (ap ends ep) law.gives (ap guarding ep) (DoneHolds-perform t s.world world op.code op.descr op.args vs law.takes law.cites hv)

  with_holds : (vs : Option (List Value)) → values_of s op.args ≡ vs → TurnHolds t op s (recorded_with t op s vs)
  with_holds None e = world
  with_holds (Some vs) e = part_holds (part_of op.code) vs refl (AreOfKinds-all_values t (length s.world.objects) s.boxes world.prebuilts boxes op.args vs law.names.0 e)

  pub TurnHolds-recorded_step : TurnHolds t op s (recorded_step t op s)
  TurnHolds-recorded_step = with_holds (values_of s op.args) refl
