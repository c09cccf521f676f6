-- Where one leg of a recorded run can begin, so can the next; and inside it boxes keep their kinds.
use Rattle.std.proofs.Common.{◌≡◌, ℕ, zero, suc, Option, Some, None, List, [], ◌∷◌, ◌++◌, length, map, slice_get, refl, ap, sym, ◌∙◌, subst, take}
use Rattle.std.specs.List.{All}
use Rattle.std.proofs.lemmas.List.Elements.{All-head, All-tail}
use Rattle.lists.proofs.Alls.{all_at}
use Rattle.trace_ops.specs.declared.facts.Part.{Part}
use Rattle.trace_ops.specs.declared.facts.Part.TheVariants as part
use Rattle.trace_ops.specs.declared.trace.Kind.{Kind}
use Rattle.trace_ops.specs.declared.trace.Kind.TheVariants as kind
use Rattle.trace_ops.specs.declared.trace.BoxId.{BoxId}
use Rattle.trace_ops.specs.declared.trace.Op.{Op}
use Rattle.trace_ops.specs.declared.trace.Trace.{Trace}
use Rattle.trace_ops.specs.declared.trace.TraceSet.{TraceSet}
use Rattle.trace_ops.specs.Kinds.{kind_of_arg}
use Rattle.trace_ops.specs.Rules.{JumpsRightly, guard_op, slots_of_guard}
use Rattle.trace_ops.specs.Constants.{HasWords}
use Rattle.trace_ops.specs.InRange.{IsInRange}
use Rattle.trace_ops.specs.WellFormed.{IsWellFormed}
use Rattle.trace_meaning.specs.declared.value.Value.{Value}
use Rattle.trace_meaning.specs.declared.value.Value.TheVariants as v
use Rattle.trace_meaning.specs.Values.{kind_of_value}
use Rattle.trace_meaning.specs.World.{World, failed}
use Rattle.trace_meaning.specs.Boxes.{Boxes, BoxesDecide, HasValue}
use Rattle.trace_meaning.specs.Cuts.{Cuts, seen_bridge}
use Rattle.trace_meaning.specs.Legs.{Leave, Fails, Jumps, Finishes, Waits, Misfits, Wrong, Turn, On, Off, go_on, drive, then_turn, drive_to, At, into_leg, land, leg}
use Rattle.trace_meaning.specs.Recorded.{Rec, recorded, recorded_step, ops_of, inputs_of, ops_at, begin_at, jump_target}
use Rattle.trace_meaning.specs.Kinds.{IsValueOf, IsThere, BoxesHold}
use Rattle.trace_meaning.specs.Sound.{HasWord, HoldsWords, CanBegin, CanGo}
use Rattle.trace_meaning.specs.Worded.{FieldsAreFew, BoxesHaveWords, LeaveHasWords}
use Rattle.trace_meaning.specs.Keeping.{AreOfKind, KeepsKinds}
use Rattle.trace_meaning.proofs.Bridges.{seen-is_bridge}
use Rattle.trace_meaning.specs.Kinds.{AreOfKinds}
use Rattle.trace_meaning.proofs.OfKind.{BoxesHold-bound_to, AreOfKinds-there}
use Rattle.trace_meaning.specs.Holding.{Holds}
use Rattle.trace_meaning.proofs.HoldingSteps.{LeaveHolds, TurnHolds, TurnHolds-recorded_step}
use Rattle.trace_meaning.proofs.HoldingRuns.{IsInside, known_behind, begins_known, guards_in, guard_there, not_empty, bridge_receives, jump_fits, there, lawful, is_last, goes_on}
use Rattle.trace_meaning.proofs.WordSteps.{TurnHasWords, bind_all-words, no-boxes, step_words, fields-few}
use Rattle.trace_meaning.proofs.WordRuns.{OpWords, trace_words}

-- Kinds of values

own_kind : (n : ℕ) (k : Kind) (x : Value) → IsValueOf n k x → kind_of_value x ≡ k
own_kind n kind.Int (v.Int z) h = refl
own_kind n kind.Int v.Null h = absurd h
own_kind n kind.Int (v.Obj o) h = absurd h
own_kind n kind.Ref (v.Int z) h = absurd h
own_kind n kind.Ref v.Null h = refl
own_kind n kind.Ref (v.Obj o) h = refl

kinds_are : (n : ℕ) (bs : List BoxId) (xs : List Value) → AreOfKinds n (map (λ (b : BoxId). Some b.kind) bs) xs → map kind_of_value xs ≡ map (λ (b : BoxId). b.kind) bs
kinds_are n [] [] h = refl
kinds_are n [] (x ∷ xs) h = absurd h
kinds_are n (b ∷ bs) [] h = absurd h
kinds_are n (b ∷ bs) (x ∷ xs) h = λ i. own_kind n b.kind x h.0 i ∷ kinds_are n bs xs h.1 i

are_kinds : (n : ℕ) (bs : List BoxId) (xs : List Value) → map kind_of_value xs ≡ map (λ (b : BoxId). b.kind) bs → All (IsThere n) xs → AreOfKinds n (map (λ (b : BoxId). Some b.kind) bs) xs
are_kinds n [] [] e h = tt
are_kinds n [] (x ∷ xs) e h = absurd (cc)
are_kinds n (b ∷ bs) [] e h = absurd (cc)
are_kinds n (b ∷ bs) (x ∷ xs) e h =
    let first : kind_of_value x ≡ b.kind = cc in
    let others : map kind_of_value xs ≡ map (λ (c : BoxId). c.kind) bs = cc in
    (subst (λ k. IsValueOf n k x) first (All-head (IsThere n) x xs h), are_kinds n bs xs others (All-tail (IsThere n) x xs h))

module _ (decides : BoxesDecide) (set : TraceSet) (cuts : Cuts) (range : IsInRange set) (well : IsWellFormed set) (constants : HasWords set) where
  few : FieldsAreFew set.table
  few = fields-few set.table range.table

  can : (q : ℕ) (vs : List Value) (w : World) → Holds set.table w → HoldsWords w → All HasWord vs → AreOfKinds (length w.objects) (map (λ (b : BoxId). Some b.kind) (inputs_of (slice_get set.traces q))) vs → CanBegin set q vs w
  can q vs w h words vwords hv = record {
    world = record { prebuilts = h.prebuilts; kinds = h.objects; words = words };
    kinds = kinds_are (length w.objects) (inputs_of (slice_get set.traces q)) vs hv;
    there = AreOfKinds-there (length w.objects) (map (λ (b : BoxId). Some b.kind) (inputs_of (slice_get set.traces q))) vs hv;
    words = vwords;
  }

  into_can : (p n : ℕ) (tr : Trace) (op : Op) (vs : List Value) (w : World) (seen : Option ℕ) → Holds set.table w → HoldsWords w → All HasWord vs → slice_get set.traces p ≡ Some tr → guard_op tr n ≡ Some op → AreOfKinds (length w.objects) (map kind_of_arg (slots_of_guard op)) vs → seen_bridge set.traces cuts p n w.failures ≡ seen → CanGo (CanBegin set) (into_leg p n vs w seen)
  into_can p n tr op vs w None h words vwords et eg hv es = tt
  into_can p n tr op vs w (Some q) h words vwords et eg hv es =
      let fit : map kind_of_arg (slots_of_guard op) ≡ map (λ (b : BoxId). Some b.kind) (inputs_of (slice_get set.traces q)) = bridge_receives decides set cuts range well p n tr op q (slice_get set.traces q) et eg refl (seen-is_bridge set.traces cuts p n w.failures q es).0 in
      can q vs (failed w) (record { prebuilts = h.prebuilts; objects = h.objects }) (record { words = words.words; short = words.short; answers = words.answers; calls = words.calls }) vwords (subst (λ ks. AreOfKinds (length w.objects) ks vs) fit hv)

  module _ (p : ℕ) (before rest : List Op) (op : Op) (tr : Trace) (et : slice_get set.traces p ≡ Some tr) (place : tr.ops ≡ before ++ op ∷ rest) where
    leaves : (s : Rec) (l : Leave) → s.guards ≡ length (guards_in before) → LeaveHolds set.table op s l → LeaveHasWords l → CanGo (CanBegin set) (land (recorded set cuts) p l)
    leaves s (Fails n vs w) count h words =
        let found : guard_op tr n ≡ Some op =
        ap (guard_op tr) (h.number ∙ count) ∙ ap (λ (l : List Op). slice_get (guards_in l) (length (guards_in before))) place ∙ guard_there before rest op h.guard in
        into_can p n tr op vs w (seen_bridge set.traces cuts p n w.failures) h.world words.1 words.0 et found h.values refl
    leaves s (Jumps vs w) count h words =
        let right : JumpsRightly part.Jump set p op = subst (λ (x : Part). JumpsRightly x set p op) h.jump (well.jumps_fit p tr et (length before) op (there decides set cuts range well p before rest op tr et place)) in
        can (jump_target set p) vs w h.world words.1 words.0 (subst (λ ks. AreOfKinds (length w.objects) ks vs) (jump_fits decides set cuts range well p op (is_last decides set cuts range well p before rest op tr et place h.jump) right) h.values)
    leaves s (Finishes vs w) count h words = tt
    leaves s (Waits w) count h words = tt
    leaves s (Misfits w) count h words = tt
    leaves s (Wrong w) count h words = tt

    turned : (s : Rec) (turn : Turn Rec) → s.guards ≡ length (guards_in before) → All (HasValue s.boxes) (known_behind set p before) → TurnHolds set.table op s turn → TurnHasWords turn
        → ((u : Rec) → IsInside set p rest u → BoxesHaveWords u.boxes → HoldsWords u.world → CanGo (CanBegin set) (land (recorded set cuts) p (drive (recorded_step set.table) (λ s. s.world) rest u)))
        → CanGo (CanBegin set) (land (recorded set cuts) p (go_on turn (drive (recorded_step set.table) (λ s. s.world) rest)))
    turned s (On u) count known h words more = more u (goes_on decides set cuts range well p before rest op tr et place s u count known h) words.0 words.1
    turned s (Off l) count known h words more = leaves s l count h words

  one_more : (p : ℕ) (op : Op) (rest : List Op) (s : Rec) (x : Option Trace) → slice_get set.traces p ≡ x → IsInside set p (op ∷ rest) s → BoxesHaveWords s.boxes → HoldsWords s.world
      → ((u : Rec) → IsInside set p rest u → BoxesHaveWords u.boxes → HoldsWords u.world → CanGo (CanBegin set) (land (recorded set cuts) p (drive (recorded_step set.table) (λ s. s.world) rest u)))
      → CanGo (CanBegin set) (land (recorded set cuts) p (drive (recorded_step set.table) (λ s. s.world) (op ∷ rest) s))
  one_more p op rest s None et h boxes words more = absurd (not_empty h.before rest op (sym (ap (λ (x : Option Trace). ops_of x) et) ∙ h.place))
  one_more p op rest s (Some tr) et h boxes words more =
      let place : tr.ops ≡ h.before ++ op ∷ rest = sym (ap (λ (x : Option Trace). ops_of x) et) ∙ h.place in
      let one = all_at OpWords tr.ops (length h.before) op (trace_words set constants p (Some tr) et) (there decides set cuts range well p h.before rest op tr et place) in
      turned p h.before rest op tr et place s (recorded_step set.table op s) h.guards h.known (TurnHolds-recorded_step decides set.table op s (lawful decides set cuts range well p h.before rest op tr et place) h.world h.boxes)
      (step_words decides set.table few op s boxes words one.0 one.1) more

  driven : (p : ℕ) (rest : List Op) (s : Rec) → IsInside set p rest s → BoxesHaveWords s.boxes → HoldsWords s.world → CanGo (CanBegin set) (land (recorded set cuts) p (drive (recorded_step set.table) (λ s. s.world) rest s))
  driven p [] s h boxes words = tt
  driven p (op ∷ rest) s h boxes words = one_more p op rest s (slice_get set.traces p) refl h boxes words (driven p rest)

  pub legs-can_begin : (p : ℕ) (vs : List Value) (w : World) → CanBegin set p vs w → CanGo (CanBegin set) (leg (recorded set cuts) (At p vs w))
  legs-can_begin p vs w h =
      let kinds = are_kinds (length w.objects) (inputs_of (slice_get set.traces p)) vs h.kinds h.there in
      driven p (ops_at set p) (begin_at set p vs w)
      (record { before = []; place = refl; guards = refl; boxes = BoxesHold-bound_to decides (length w.objects) (inputs_of (slice_get set.traces p)) vs kinds; world = record { prebuilts = h.world.prebuilts; objects = h.world.kinds }; known = begins_known decides set p vs (length w.objects) kinds; more = λ e. refl })
      (bind_all-words decides [] (inputs_of (slice_get set.traces p)) vs no-boxes h.words) h.world.words

  -- Inside a leg

  of_kind : (n : ℕ) (boxes : Boxes) → BoxesHold n boxes → AreOfKind boxes
  of_kind n boxes h = λ b x e. own_kind n b.kind x (h b x e)

  turn_kinds : (p : ℕ) (before rest : List Op) (op : Op) (tr : Trace) (et : slice_get set.traces p ≡ Some tr) (place : tr.ops ≡ before ++ op ∷ rest) (n : ℕ) (s r : Rec) (turn : Turn Rec) → s.guards ≡ length (guards_in before) → All (HasValue s.boxes) (known_behind set p before) → TurnHolds set.table op s turn
      → ((u : Rec) → IsInside set p rest u → drive_to (recorded_step set.table) (take n rest) u ≡ On r → AreOfKind r.boxes)
      → then_turn turn (drive_to (recorded_step set.table) (take n rest)) ≡ On r → AreOfKind r.boxes
  turn_kinds p before rest op tr et place n s r (On u) count known h more e = more u (goes_on decides set cuts range well p before rest op tr et place s u count known h) e
  turn_kinds p before rest op tr et place n s r (Off l) count known h more e = absurd (cc)

  one_kinds : (p : ℕ) (op : Op) (rest : List Op) (n : ℕ) (s r : Rec) (x : Option Trace) → slice_get set.traces p ≡ x → IsInside set p (op ∷ rest) s
      → ((u : Rec) → IsInside set p rest u → drive_to (recorded_step set.table) (take n rest) u ≡ On r → AreOfKind r.boxes)
      → drive_to (recorded_step set.table) (op ∷ take n rest) s ≡ On r → AreOfKind r.boxes
  one_kinds p op rest n s r None et h more e = absurd (not_empty h.before rest op (sym (ap (λ (x : Option Trace). ops_of x) et) ∙ h.place))
  one_kinds p op rest n s r (Some tr) et h more e =
      let place : tr.ops ≡ h.before ++ op ∷ rest = sym (ap (λ (x : Option Trace). ops_of x) et) ∙ h.place in
      turn_kinds p h.before rest op tr et place n s r (recorded_step set.table op s) h.guards h.known (TurnHolds-recorded_step decides set.table op s (lawful decides set cuts range well p h.before rest op tr et place) h.world h.boxes) more e

  stays : (p : ℕ) (rest : List Op) (s r : Rec) → IsInside set p rest s → ◌≡◌ {A = Turn Rec} (On s) (On r) → AreOfKind r.boxes
  stays p rest s r h e = let same : s ≡ r = cc in subst (λ (u : Rec). AreOfKind u.boxes) same (of_kind (length s.world.objects) s.boxes h.boxes)

  inside_kinds : (p : ℕ) (rest : List Op) (n : ℕ) (s r : Rec) → IsInside set p rest s → drive_to (recorded_step set.table) (take n rest) s ≡ On r → AreOfKind r.boxes
  inside_kinds p rest zero s r h e = stays p rest s r h e
  inside_kinds p [] (suc n) s r h e = stays p [] s r h e
  inside_kinds p (op ∷ rest) (suc n) s r h e = one_kinds p op rest n s r (slice_get set.traces p) refl h (λ u g f. inside_kinds p rest n u r g f) e

  pub legs-keep_kinds : (p : ℕ) (vs : List Value) (w : World) → CanBegin set p vs w → KeepsKinds set.table (inputs_of (slice_get set.traces p)) (ops_at set p) vs w
  legs-keep_kinds p vs w h n r e =
      let kinds = are_kinds (length w.objects) (inputs_of (slice_get set.traces p)) vs h.kinds h.there in
      inside_kinds p (ops_at set p) n (begin_at set p vs w) r
      (record { before = []; place = refl; guards = refl; boxes = BoxesHold-bound_to decides (length w.objects) (inputs_of (slice_get set.traces p)) vs kinds; world = record { prebuilts = h.world.prebuilts; objects = h.world.kinds }; known = begins_known decides set p vs (length w.objects) kinds; more = λ e. refl }) e
