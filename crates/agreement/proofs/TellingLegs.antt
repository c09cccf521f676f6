-- Legs tell of all operations that they have passed.
use Rattle.std.proofs.Common.{◌≡◌, ℕ, zero, suc, ◌+◌, Bool, true, false, Option, Some, None, List, [], ◌∷◌, ◌++◌, length, map, take, drop, slice_get, refl, sym, ap, ◌∙◌, subst, append_assoc, arith}
use Rattle.std.specs.List.{All, Contains, AllByRecursion, flat_map}
use Rattle.std.specs.Option.{option_to_list}
use Rattle.std.proofs.Math.Seq.{take-append_seam}
use Rattle.std.proofs.lemmas.List.{append-nil, take-append-drop, length-append}
use Rattle.std.proofs.lemmas.List.Concat.{flat_map-append}
use Rattle.std.proofs.lemmas.List.Elements.{All-head, Contains-append_left, Contains-append_right}
use Rattle.lists.proofs.Options.{some_same, none_some}
use Rattle.lists.proofs.Places.{get_map}
use Rattle.lists.proofs.Appends.{get_before, get_middle}
use Rattle.trace_ops.specs.declared.facts.Part.{Part}
use Rattle.trace_ops.specs.declared.facts.Part.TheVariants as part
use Rattle.trace_ops.specs.declared.table.Table.{Table}
use Rattle.trace_ops.specs.declared.table.ShapeOf.{ShapeOf}
use Rattle.trace_ops.specs.declared.trace.BoxId.{BoxId}
use Rattle.trace_ops.specs.declared.trace.Op.{Op}
use Rattle.trace_ops.specs.declared.trace.Trace.{Trace}
use Rattle.trace_ops.specs.declared.trace.TraceSet.{TraceSet}
use Rattle.trace_ops.specs.Classes.{is_plain, plain}
use Rattle.trace_ops.specs.Facts.{part_of}
use Rattle.trace_ops.specs.Rules.{known_before, GivesNewBox, ends}
use Rattle.trace_ops.specs.WellFormed.{IsWellFormed}
use Rattle.trace_meaning.specs.declared.value.Value.{Value}
use Rattle.trace_meaning.specs.World.{World}
use Rattle.trace_meaning.specs.Boxes.{Boxes, BindingLaws, value_in, bind, bound_to}
use Rattle.trace_meaning.specs.Growing.{extent, extents, GrowsIn}
use Rattle.trace_meaning.specs.Laws.{RecordedRuns}
use Rattle.trace_meaning.specs.Legs.{Leave, Jumps, Turn, On, Off, go_on, drive, then_turn, drive_to}
use Rattle.trace_meaning.specs.Passing.{passes}
use Rattle.trace_meaning.specs.Performing.{Done, Gave, Bad, Waited, Misfitted, perform}
use Rattle.trace_meaning.specs.Recorded.{Rec, recorded, recorded_result, recorded_plain, recorded_failure, recorded_guard, recorded_part, recorded_with, recorded_step, values_of, slots_of, ops_of, inputs_of, ops_at, begin_at}
use Rattle.agreement.specs.Growing.{Extends}
use Rattle.agreement.specs.Telling.{Tells, LegsTell, JumpsTell}
use Rattle.agreement.proofs.Further.{KindsKept, kinds-same}
use Rattle.agreement.proofs.Telling.{guard_told, plain_told, nothing_told, tells-later}

-- Objects that come behind others

got_of : {X Y : Type 0} (f : X → Y) (xs : List X) (n : ℕ) (y : Y) → slice_get (map f xs) n ≡ Some y → (x : X) × (slice_get xs n ≡ Some x) × (f x ≡ y)
got_of f [] n y e = absurd (none_some e)
got_of f (x ∷ xs) zero y e = (x, refl, some_same e)
got_of f (x ∷ xs) (suc n) y e = got_of f xs n y e

kept_by : (w u : World) (more : List (ShapeOf × ℕ)) → extents u ≡ extents w ++ more → KindsKept w u
kept_by w u more e = λ n c at.
    let there : slice_get (extents w) n ≡ Some (extent c) = get_map extent w.objects n c at in
    let later : slice_get (extents u) n ≡ Some (extent c) = ap (λ l. slice_get l n) e ∙ get_before (extents w) more n (extent c) there in
    let s = got_of extent u.objects n (extent c) later in
    (s.0, s.1, sym (ap (λ (x : ShapeOf × ℕ). x.0) s.2))

kinds-twice : (a b c : World) → KindsKept a b → KindsKept b c → KindsKept a c
kinds-twice a b c f g = λ n x at. let s = f n x at in let s2 = g n s.0 s.1 in (s2.0, s2.1, s.2 ∙ s2.2)

pub grows_on : RecordedRuns → (set : TraceSet) (op : Op) (s r : Rec) → recorded_step set.table op s ≡ On r → KindsKept s.world r.world
grows_on runs set op s r e =
    let on : GrowsIn (recorded set []) s.world (On r) = subst (λ x. GrowsIn (recorded set []) s.world x) e ((runs set []).1.steps op s) in
    kept_by s.world r.world on.added on.objects

-- One operation that goes on

-- how it went
data Went (t : Table) (op : Op) (s r : Rec) : Type 0 where
  passed : (vs : List Value) → values_of s op.args ≡ Some vs → is_plain op.code ≡ false → passes op.code op.args vs s.world ≡ Some true → r ≡ record s { guards = s.guards + 1 } → Went t op s r
  gave : (vs : List Value) (b : BoxId) (x : Value) (u : World) → values_of s op.args ≡ Some vs → is_plain op.code ≡ true → op.result ≡ Some b → perform t op.code op.descr op.args vs s.world ≡ Gave (Some x) u → r ≡ record s { boxes = bind b x s.boxes; world = u } → Went t op s r
  nothing : (u : World) → is_plain op.code ≡ true → op.result ≡ None → r ≡ record s { world = u } → Went t op s r

on_same : {S : Type 0} {a b : S} → On a ≡ On b → a ≡ b
on_same e = cc

off_on : {S : Type 0} {l : Leave} {b : S} → Off l ≡ On b → ⊥
off_on e = cc

module _ (t : Table) (op : Op) (s r : Rec) where
  failing : (vs : Option (List Value)) → recorded_failure s vs ≡ On r → ⊥
  failing None e = off_on e
  failing (Some vs) e = off_on e

  guarding : (vs : List Value) → values_of s op.args ≡ Some vs → is_plain op.code ≡ false → (x : Option Bool) → passes op.code op.args vs s.world ≡ x → recorded_guard op s x ≡ On r → Went t op s r
  guarding vs are guards None is e = absurd (off_on e)
  guarding vs are guards (Some true) is e = passed vs are guards is (sym (on_same e))
  guarding vs are guards (Some false) is e = absurd (failing (values_of s (slots_of op.snapshot)) e)

  giving : (vs : List Value) → values_of s op.args ≡ Some vs → is_plain op.code ≡ true → (u : World) (b : Option BoxId) (x : Option Value) → op.result ≡ b → perform t op.code op.descr op.args vs s.world ≡ Gave x u → recorded_result b s x u ≡ On r → Went t op s r
  giving vs are plain u (Some b) (Some x) is done e = gave vs b x u are plain is done (sym (on_same e))
  giving vs are plain u (Some b) None is done e = absurd (off_on e)
  giving vs are plain u None x is done e = nothing u plain is (sym (on_same e))

  doing : (vs : List Value) → values_of s op.args ≡ Some vs → is_plain op.code ≡ true → (d : Done) → perform t op.code op.descr op.args vs s.world ≡ d → recorded_plain op.result s d ≡ On r → Went t op s r
  doing vs are plain (Gave x u) done e = giving vs are plain u op.result x refl done e
  doing vs are plain Bad done e = absurd (off_on e)
  doing vs are plain (Waited u) done e = absurd (off_on e)
  doing vs are plain (Misfitted u) done e = absurd (off_on e)

  by_part : (vs : List Value) → values_of s op.args ≡ Some vs → (p : Part) → part_of op.code ≡ p → recorded_part p t op s vs ≡ On r → Went t op s r
  by_part vs are part.Jump is e = absurd (off_on e)
  by_part vs are part.Finish is e = absurd (off_on e)
  by_part vs are part.Guard is e = guarding vs are (ap plain is) (passes op.code op.args vs s.world) refl e
  by_part vs are part.OverflowGuard is e = guarding vs are (ap plain is) (passes op.code op.args vs s.world) refl e
  by_part vs are part.Plain is e = doing vs are (ap plain is) (perform t op.code op.descr op.args vs s.world) refl e
  by_part vs are part.Overflowing is e = doing vs are (ap plain is) (perform t op.code op.descr op.args vs s.world) refl e

  with_values : (vs : Option (List Value)) → values_of s op.args ≡ vs → recorded_with t op s vs ≡ On r → Went t op s r
  with_values None are e = absurd (off_on e)
  with_values (Some vs) are e = by_part vs are (part_of op.code) refl e

  went : recorded_step t op s ≡ On r → Went t op s r
  went e = with_values (values_of s op.args) refl e

-- Boxes that have no value yet

abbrev results : List Op → List BoxId
results ops = flat_map (λ (op : Op). option_to_list op.result) ops

-- no other box than these has a value
abbrev HaveNone : List BoxId → Boxes → Type 0
HaveNone known boxes = (c : BoxId) → ¬ Contains known c → value_in boxes c ≡ None

-- what each operation gives is new
abbrev AreNew : List BoxId → List Op → Type 0
AreNew known [] = Unit {0}
AreNew known (op ∷ ops) = ((b : BoxId) → op.result ≡ Some b → ¬ Contains known b) × AreNew (known ++ option_to_list op.result) ops

new-left : (known : List BoxId) (xs ys : List Op) → AreNew known (xs ++ ys) → AreNew known xs
new-left known [] ys h = tt
new-left known (x ∷ xs) ys h = (h.0, new-left (known ++ option_to_list x.result) xs ys h.1)

in_push : (known : List BoxId) (b : BoxId) → Contains (known ++ b ∷ []) b
in_push known b = Contains-append_right known (b ∷ []) b (0, omega arith, refl)

module _ (laws : BindingLaws) where
  begun : (bs : List BoxId) (vs : List Value) → HaveNone bs (bound_to bs vs)
  begun bs vs = λ c away. laws.all_other [] bs vs c away

  none-more : (known : List BoxId) (b : BoxId) (x : Value) (boxes : Boxes) → HaveNone known boxes → HaveNone (known ++ b ∷ []) (bind b x boxes)
  none-more known b x boxes h = λ c away.
      laws.other b c x boxes (λ same. away (subst (λ d. Contains (known ++ b ∷ []) d) (sym same) (in_push known b)))
      ∙ h c (λ has. away (Contains-append_left known (b ∷ []) c has))

  extends-new : (known : List BoxId) (b : BoxId) (x : Value) (boxes : Boxes) → HaveNone known boxes → ¬ Contains known b → Extends (value_in boxes) (value_in (bind b x boxes))
  extends-new known b x boxes h away = λ c y e.
      laws.other b c x boxes (λ same. none_some (sym (h b away) ∙ ap (value_in boxes) (sym same) ∙ e)) ∙ e

  -- One operation

  record Told (t : Table) (known : List BoxId) (op : Op) (s r : Rec) : Type 0 where
    more : Extends (value_in s.boxes) (value_in r.boxes)
    none : HaveNone (known ++ option_to_list op.result) r.boxes
    tells : Tells t r op

  -- what is known of more boxes
  none-any : (known : List BoxId) (boxes : Boxes) (more : List BoxId) → HaveNone known boxes → HaveNone (known ++ more) boxes
  none-any known boxes more h = λ c away. h c (λ has. away (Contains-append_left known more c has))

  told : (t : Table) (known : List BoxId) (op : Op) (s r : Rec) → HaveNone known s.boxes → ((b : BoxId) → op.result ≡ Some b → ¬ Contains known b) → Went t op s r → Told t known op s r
  told t known op s r none new (passed vs are guards is e) = subst (λ m. Told t known op s m) (sym e) (record {
    more = λ b x h. h;
    none = none-any known s.boxes (option_to_list op.result) none;
    tells = guard_told t (record s { guards = s.guards + 1 }) op vs are guards is;
  })
  told t known op s r none new (gave vs b x u are plain is done e) =
      let more = extends-new known b x s.boxes none (new b is) in
      let m : Rec = record s { boxes = bind b x s.boxes; world = u } in
      subst (λ z. Told t known op s z) (sym e) (record {
        more = more;
        none = subst (λ l. HaveNone (known ++ l) (bind b x s.boxes)) (sym (ap option_to_list is)) (none-more known b x s.boxes none);
        tells = plain_told t s m op vs b x u (values-later s m more op vs are) plain is done (laws.same b x s.boxes);
      })
    where
      values-later : (s m : Rec) → Extends (value_in s.boxes) (value_in m.boxes) → (op : Op) (vs : List Value) → values_of s op.args ≡ Some vs → values_of m op.args ≡ Some vs
      values-later s m more op vs are = Rattle.agreement.proofs.Further.all_values-extends (value_in s.boxes) (value_in m.boxes) more op.args vs are
  told t known op s r none new (nothing u plain is e) = subst (λ z. Told t known op s z) (sym e) (record {
    more = λ b x h. h;
    none = none-any known s.boxes (option_to_list op.result) none;
    tells = nothing_told t (record s { world = u }) op plain is;
  })

  -- Operations, one after another

  module _ (runs : RecordedRuns) (set : TraceSet) where
    abbrev t : Table
    t = set.table

    record AllTold (ops : List Op) (s r : Rec) : Type 0 where
      more : Extends (value_in s.boxes) (value_in r.boxes)
      kinds : KindsKept s.world r.world
      tells : AllByRecursion (Tells t r) ops

    next_told : (known : List BoxId) (op : Op) (ops : List Op) (s m r : Rec) → recorded_step t op s ≡ On m → Told t known op s m → AllTold ops m r → AllTold (op ∷ ops) s r
    next_told known op ops s m r step one rest =
        let kinds = grows_on runs set op s m step in
        record {
          more = λ b x h. rest.more b x (one.more b x h);
          kinds = kinds-twice s.world m.world r.world kinds rest.kinds;
          tells = (tells-later t m r rest.more rest.kinds op one.tells, rest.tells);
        }

    turned : (known : List BoxId) (op : Op) (ops : List Op) (s r : Rec) → HaveNone known s.boxes → AreNew known (op ∷ ops) → (turn : Turn Rec) → recorded_step t op s ≡ turn
        → ((m : Rec) → HaveNone (known ++ option_to_list op.result) m.boxes → drive_to (recorded_step t) ops m ≡ On r → AllTold ops m r)
        → then_turn turn (drive_to (recorded_step t) ops) ≡ On r → AllTold (op ∷ ops) s r
    turned known op ops s r none new (On m) step rest e =
        let one = told t known op s m none new.0 (went t op s m step) in
        next_told known op ops s m r step one (rest m one.none e)
    turned known op ops s r none new (Off l) step rest e = absurd (off_on e)

    all_told : (known : List BoxId) (ops : List Op) (s r : Rec) → HaveNone known s.boxes → AreNew known ops → drive_to (recorded_step t) ops s ≡ On r → AllTold ops s r
    all_told known [] s r none new e = subst (λ m. AllTold [] s m) (on_same e) (record { more = λ b x h. h; kinds = kinds-same s.world; tells = tt })
    all_told known (op ∷ ops) s r none new e = turned known op ops s r none new (recorded_step t op s) refl (λ m one f. all_told (known ++ option_to_list op.result) ops m r one new.1 f) e

-- New results, by the rule of well-formed traces

pushed : (inputs : List BoxId) (before : List Op) (op : Op) → (inputs ++ results before) ++ option_to_list op.result ≡ inputs ++ results (before ++ op ∷ [])
pushed inputs before op =
    append_assoc inputs (results before) (option_to_list op.result)
    ∙ ap (λ l. inputs ++ (results before ++ l)) (sym (append-nil (option_to_list op.result)))
    ∙ ap (λ l. inputs ++ l) (sym (flat_map-append (λ (o : Op). option_to_list o.result) before (op ∷ [])))

in_option : (b : BoxId) (o : Option BoxId) (P : BoxId → Type 0) → o ≡ Some b → All P (option_to_list o) → P b
in_option b None P e h = absurd (none_some e)
in_option b (Some c) P e h = subst P (some_same e) (All-head P c [] h)

new_from : (one : Trace) → ((k : ℕ) (op : Op) → slice_get one.ops k ≡ Some op → GivesNewBox one k op) → (before ops : List Op) → one.ops ≡ before ++ ops → AreNew (one.inputs ++ results before) ops
new_from one rule before [] e = tt
new_from one rule before (op ∷ ops) e =
    let at : slice_get one.ops (length before) ≡ Some op = ap (λ l. slice_get l (length before)) e ∙ get_middle before op ops in
    let taken : take (length before) one.ops ≡ before = ap (take (length before)) e ∙ take-append_seam before (op ∷ ops) in
    let known : known_before one (length before) ≡ one.inputs ++ results before = ap (λ l. one.inputs ++ results l) taken in (
      λ b gives. subst (λ l. ¬ Contains l b) known (in_option b op.result (λ c. ¬ Contains (known_before one (length before)) c) gives (rule (length before) op at)),
      subst (λ l. AreNew l ops) (sym (pushed one.inputs before op)) (new_from one rule (before ++ op ∷ []) ops (e ∙ sym (append_assoc before (op ∷ []) ops))),
    )

new_in : (one : Trace) → ((k : ℕ) (op : Op) → slice_get one.ops k ≡ Some op → GivesNewBox one k op) → AreNew one.inputs one.ops
new_in one rule = subst (λ l. AreNew l one.ops) (append-nil one.inputs) (new_from one rule [] one.ops refl)

new_at : (set : TraceSet) → IsWellFormed set → (p : ℕ) (x : Option Trace) → slice_get set.traces p ≡ x → AreNew (inputs_of x) (ops_of x)
new_at set well p None e = tt
new_at set well p (Some one) e = new_in one (well.results_new p one e)

module _ (laws : BindingLaws) (runs : RecordedRuns) (set : TraceSet) (well : IsWellFormed set) (p : ℕ) (vs : List Value) (w : World) where
  abbrev inputs : List BoxId
  inputs = inputs_of (slice_get set.traces p)

  -- as far as the first operations have gone
  first_told : (before rest : List Op) (r : Rec) → ops_at set p ≡ before ++ rest → drive_to (recorded_step set.table) before (begin_at set p vs w) ≡ On r → AllByRecursion (Tells set.table r) before
  first_told before rest r whole e =
      let new : AreNew inputs (before ++ rest) = subst (λ l. AreNew inputs l) whole (new_at set well p (slice_get set.traces p) refl) in
      (all_told laws runs set inputs before (begin_at set p vs w) r (begun laws inputs vs) (new-left inputs before rest new) e).tells

pub legs_tell : BindingLaws → RecordedRuns → LegsTell
legs_tell laws runs set well p n vs w r e = first_told laws runs set well p vs w (take n (ops_at set p)) (drop n (ops_at set p)) r (sym (take-append-drop n (ops_at set p))) e

-- Jumps

off_values : {S : Type 0} {us vs : List Value} {w u : World} → (let x : Turn S = Off (Jumps us w) in x) ≡ Off (Jumps vs u) → us ≡ vs
off_values e = cc

off_world : {S : Type 0} {us vs : List Value} {w u : World} → (let x : Turn S = Off (Jumps us w) in x) ≡ Off (Jumps vs u) → w ≡ u
off_world e = cc

-- an operation that leaves by a jump
record Jumped (op : Op) (s : Rec) (us : List Value) (u : World) : Type 0 where
  part : part_of op.code ≡ part.Jump
  values : values_of s op.args ≡ Some us
  world : s.world ≡ u

module _ (t : Table) (op : Op) (s : Rec) (us : List Value) (u : World) where
  failure_no : (x : Option (List Value)) → recorded_failure s x ≡ Off (Jumps us u) → ⊥
  failure_no None e = cc
  failure_no (Some vs) e = cc

  guard_no : (x : Option Bool) → recorded_guard op s x ≡ Off (Jumps us u) → ⊥
  guard_no None e = cc
  guard_no (Some true) e = cc
  guard_no (Some false) e = failure_no (values_of s (slots_of op.snapshot)) e

  result_no : (b : Option BoxId) (x : Option Value) (w : World) → recorded_result b s x w ≡ Off (Jumps us u) → ⊥
  result_no (Some b) (Some x) w e = cc
  result_no (Some b) None w e = cc
  result_no None x w e = cc

  plain_no : (d : Done) → recorded_plain op.result s d ≡ Off (Jumps us u) → ⊥
  plain_no (Gave x w) e = result_no op.result x w e
  plain_no Bad e = cc
  plain_no (Waited w) e = cc
  plain_no (Misfitted w) e = cc

  jump_part : (vs : List Value) → values_of s op.args ≡ Some vs → (p : Part) → part_of op.code ≡ p → recorded_part p t op s vs ≡ Off (Jumps us u) → Jumped op s us u
  jump_part vs are part.Jump is e = record { part = is; values = are ∙ ap Some (off_values e); world = off_world e }
  jump_part vs are part.Finish is e = absurd (cc)
  jump_part vs are part.Guard is e = absurd (guard_no (passes op.code op.args vs s.world) e)
  jump_part vs are part.OverflowGuard is e = absurd (guard_no (passes op.code op.args vs s.world) e)
  jump_part vs are part.Plain is e = absurd (plain_no (perform t op.code op.descr op.args vs s.world) e)
  jump_part vs are part.Overflowing is e = absurd (plain_no (perform t op.code op.descr op.args vs s.world) e)

  jump_with : (vs : Option (List Value)) → values_of s op.args ≡ vs → recorded_with t op s vs ≡ Off (Jumps us u) → Jumped op s us u
  jump_with None are e = absurd (cc)
  jump_with (Some vs) are e = jump_part vs are (part_of op.code) refl e

  jumped : recorded_step t op s ≡ Off (Jumps us u) → Jumped op s us u
  jumped e = jump_with (values_of s op.args) refl e

-- where operations leave by a jump
record Left (t : Table) (ops : List Op) (s : Rec) (us : List Value) (u : World) : Type 0 where
  before : List Op
  jump : Op
  rest : List Op
  whole : ops ≡ before ++ jump ∷ rest
  state : Rec
  stands : drive_to (recorded_step t) before s ≡ On state
  leaves : recorded_step t jump state ≡ Off (Jumps us u)

left_behind : (t : Table) (op : Op) (ops : List Op) (s m : Rec) (us : List Value) (u : World) → recorded_step t op s ≡ On m → Left t ops m us u → Left t (op ∷ ops) s us u
left_behind t op ops s m us u step h = record {
  before = op ∷ h.before;
  jump = h.jump;
  rest = h.rest;
  whole = ap (λ l. op ∷ l) h.whole;
  state = h.state;
  stands = ap (λ x. then_turn x (drive_to (recorded_step t) h.before)) step ∙ h.stands;
  leaves = h.leaves;
}

left_turned : (t : Table) (op : Op) (ops : List Op) (s : Rec) (us : List Value) (u : World) (turn : Turn Rec) → recorded_step t op s ≡ turn
    → ((m : Rec) → drive (recorded_step t) (λ x. x.world) ops m ≡ Jumps us u → Left t ops m us u)
    → go_on turn (drive (recorded_step t) (λ x. x.world) ops) ≡ Jumps us u → Left t (op ∷ ops) s us u
left_turned t op ops s us u (On m) step rest e = left_behind t op ops s m us u step (rest m e)
left_turned t op ops s us u (Off l) step rest e = record { before = []; jump = op; rest = ops; whole = refl; state = s; stands = refl; leaves = step ∙ ap Off e }

left : (t : Table) (ops : List Op) (s : Rec) (us : List Value) (u : World) → drive (recorded_step t) (λ x. x.world) ops s ≡ Jumps us u → Left t ops s us u
left t [] s us u e = absurd (cc)
left t (op ∷ ops) s us u e = left_turned t op ops s us u (recorded_step t op s) refl (λ m f. left t ops m us u f) e

nothing_behind : (ops before rest : List Op) (op : Op) → ops ≡ before ++ op ∷ rest → length before + 1 ≡ length ops → rest ≡ []
nothing_behind ops before [] op e long = refl
nothing_behind ops before (x ∷ xs) op e long =
    let all : length ops ≡ length before + length (op ∷ x ∷ xs) = ap length e ∙ length-append before (op ∷ x ∷ xs) in
    absurd (omega (arith, all, long))

last_at : (set : TraceSet) → IsWellFormed set → (p : ℕ) (x : Option Trace) → slice_get set.traces p ≡ x → (before rest : List Op) (op : Op) → ops_of x ≡ before ++ op ∷ rest → part_of op.code ≡ part.Jump → rest ≡ []
last_at set well p None e before rest op whole jumps = absurd (none_some (ap (λ l. slice_get l (length before)) whole ∙ get_middle before op rest))
last_at set well p (Some one) e before rest op whole jumps =
    let at : slice_get one.ops (length before) ≡ Some op = ap (λ l. slice_get l (length before)) whole ∙ get_middle before op rest in
    nothing_behind one.ops before rest op whole ((well.ends_at_end p one e (length before) op at).0 (ap ends jumps))

pub jumps_tell : BindingLaws → RecordedRuns → JumpsTell
jumps_tell laws runs set well p vs us w u e =
    let h = left set.table (ops_at set p) (begin_at set p vs w) us u e in
    let j = jumped set.table h.jump h.state us u h.leaves in
    let none = last_at set well p (slice_get set.traces p) refl h.before h.rest h.jump h.whole j.part in
    record {
      before = h.before;
      jump = h.jump;
      whole = h.whole ∙ ap (λ l. h.before ++ h.jump ∷ l) none;
      jumps = j.part;
      state = h.state;
      stands = h.stands;
      values = j.values;
      world = j.world;
      tells = first_told laws runs set well p vs w h.before (h.jump ∷ h.rest) h.state h.whole h.stands;
    }
