-- A return behind a finish's stub shows the value with which its piece is left.
use Rattle.std.proofs.Common.{◌≡◌, ℕ, ◌<◌, List, [], ◌∷◌, length, map, Option, Some, None, refl, sym, ap, ◌∙◌, subst, ℤ, pos}
use Rattle.std.specs.Prelude.{slice_get}
use Rattle.std.specs.Option.{option_map}
use Rattle.lists.proofs.Options.{some_same, none_some}
use Rattle.trace_ops.specs.Kinds.{kind_of_arg}
use Rattle.trace_ops.specs.Pieces.{finished}
use Rattle.trace_ops.specs.declared.table.Table.{Table}
use Rattle.trace_ops.specs.declared.trace.BoxId.{BoxId}
use Rattle.trace_ops.specs.declared.trace.Kind.{Kind}
use Rattle.trace_ops.specs.declared.trace.Kind.TheVariants as kind
use Rattle.trace_ops.specs.declared.trace.Arg.{Arg}
use Rattle.trace_ops.specs.declared.trace.Arg.TheVariants as arg
use Rattle.trace_ops.specs.declared.piece.OptOp.{OptOp}
use Rattle.trace_ops.specs.declared.piece.OptOp.TheVariants as opt
use Rattle.trace_ops.specs.declared.piece.PieceId.{PieceId}
use Rattle.target_base.specs.Arena.{Arena}
use Rattle.target_base.specs.declared.place.Place.{Place}
use Rattle.guard_exit.specs.declared.row.ExitRow.{ExitRow}
use Rattle.trace_meaning.specs.declared.value.Value.{Value}
use Rattle.trace_meaning.specs.declared.value.Value.TheVariants as v
use Rattle.trace_meaning.specs.declared.value.Object.{Object}
use Rattle.trace_meaning.specs.declared.state.RecState.TheVariants as state
use Rattle.trace_meaning.specs.Kinds.{AreOfKinds, ObjectsHold}
use Rattle.trace_meaning.specs.Legs.{Finishes}
use Rattle.trace_meaning.specs.Observed.{first_value}
use Rattle.trace_meaning.specs.Values.{kind_of_value}
use Rattle.opt_meaning.specs.Pieces.{ops_at, last_of}
use Rattle.arena_objects.specs.Layout.{address_of, word_of}
use Rattle.arena_objects.specs.Standing.{IsPart, Stands}
use Rattle.arena_objects.specs.ReadBack.{or_zero, reference_to, objects_in}
use Rattle.arena_objects.specs.Walked.{AddressesNumber, addresses_found, number_in}
use Rattle.arena_objects.specs.Laws.{ReferencesAreTold, ReferencesAreRead, ObjectsAreReadBack, KindsInRange, WalkFinds}
use Rattle.resume_rebuild.specs.Rebuilding.{sources, value_as, slot_of_arg, place_in, word_in, found_addresses}
use Rattle.x64_machine.specs.State.{State}
use Rattle.asm_select.specs.Chosen.{Setting, address_in}
use Rattle.asm_select.specs.Reached.{PrebuiltsStand}
use Rattle.asm_select.specs.Valued.{value, MayHold}
use Rattle.asm_select.specs.Ended.{ArgsStand, AreParts}
use Rattle.asm_select.specs.Exited.{saved_at}
use Rattle.image_runs.specs.Session.{Shows}
use Rattle.image_model.specs.Modelled.{IsLeftSo}
use Rattle.session_host.specs.Entries.{stray_in}
use Rattle.session_host.specs.Showing.{kinds_at, words_at, stray_box, store_in, finish_of, finish_value, finished_unless, finished_at, shown_by, shown_of}
use Rattle.session_host.specs.Laws.{placed_at, finished_boxes, FinishesShow}
use Rattle.session_host.proofs.OfKind.{first_kind}
use Rattle.session_host.proofs.Saved.{no_stray_box, row_stands}
use Rattle.session_host.proofs.Exits.{prebuilt_word, op_same}

pub record FinishLaws : Type 0 where
  pub told : ReferencesAreTold
  pub read : ReferencesAreRead
  pub number : AddressesNumber
  pub back : ObjectsAreReadBack
  pub kinds : KindsInRange
  pub walk : WalkFinds

module _ (l : FinishLaws) (t : Table) (objects : List Object) (arena : Arena) (st : Stands t objects arena) where
  -- a value's word is read back by its kind
  value_back : (k : Kind) (x : Value) (w : ℤ) → w ≡ word_of (address_of objects) x → IsPart (length objects) x → kind_of_value x ≡ k → value_as (addresses_found t arena) k w ≡ x
  value_back kind.Int (v.Int z) w e p h = ap v.Int e
  value_back kind.Int v.Null w e p h = absurd (cc)
  value_back kind.Int (v.Obj n) w e p h = absurd (cc)
  value_back kind.Ref (v.Int z) w e p h = absurd (cc)
  value_back kind.Ref v.Null w e p h =
      ap (λ (y : ℤ). reference_to (number_in y (addresses_found t arena))) e ∙ ap reference_to (l.number t arena (word_of (address_of objects) v.Null)) ∙ l.read t objects arena v.Null st refl p
  value_back kind.Ref (v.Obj n) w e p h =
      ap (λ (y : ℤ). reference_to (number_in y (addresses_found t arena))) e ∙ ap reference_to (l.number t arena (word_of (address_of objects) (v.Obj n))) ∙ l.read t objects arena (v.Obj n) st refl p

  module _ (st2 : Setting) (table : st2.table ≡ t) (s u : State) (same : s.arena ≡ arena) (saved : (p : Place) → MayHold p → saved_at s p ≡ value u p) (hold : (b : ℕ) → MayHold (st2.at b)) (prebuilts : PrebuiltsStand t objects) where
    -- what is shown of a finish's argument is the value with which the piece is left
    abbrev IsShown : ExitRow → Arg → Value → Type 0
    IsShown row a x = (stray_box t s row ≡ None) × (slot_of_arg (addresses_found t s.arena) (sources t [] row.places s.frame s.arena) a ≡ x)

    no_stray : (row : ExitRow) → row.places ≡ [] → stray_box t s row ≡ None
    no_stray row e = ap (λ (p : List (BoxId × Place)). stray_in t s.arena (kinds_at p) (words_at s.frame p)) e

    found_same : (a : Arg) (row : ExitRow) → slot_of_arg (addresses_found t s.arena) (sources t [] row.places s.frame s.arena) a ≡ slot_of_arg (addresses_found t arena) (sources t [] row.places s.frame arena) a
    found_same a row = ap (λ (x : Arena). slot_of_arg (addresses_found t x) (sources t [] row.places s.frame x) a) same

    box_shown : (row : ExitRow) (b : BoxId) (x : Value) → row.places ≡ map (placed_at st2.at) (b ∷ []) → value u (st2.at b.number) ≡ word_of (address_of objects) x → IsPart (length objects) x → kind_of_value x ≡ b.kind → IsShown row (arg.Of b) x
    box_shown row b x places e p k =
        let kinds : map (λ (y : Value). Some (kind_of_value y)) (x ∷ []) ≡ map (λ (c : BoxId). Some c.kind) (b ∷ []) = ap (λ (y : Kind). Some y ∷ []) k in
        let none = no_stray_box l.told t objects arena st st2.at s u saved hold (b ∷ []) (x ∷ []) (e, tt) (p, tt) kinds in
        let stand = row_stands l.told t objects arena st st2.at s u saved hold (b ∷ []) (x ∷ []) (e, tt) (p, tt) kinds in
        let stray : stray_box t s row ≡ None = ap (λ (y : List (BoxId × Place)). stray_in t s.arena (kinds_at y) (words_at s.frame y)) places ∙ ap (λ (y : Arena). stray_in t y (kinds_at (map (placed_at st2.at) (b ∷ []))) (words_at s.frame (map (placed_at st2.at) (b ∷ [])))) same ∙ none in
        let word : word_in s.frame (place_in row.places b.number) ≡ word_of (address_of objects) x = ap (λ (y : List (BoxId × Place)). word_in s.frame (place_in y b.number)) places ∙ stand.0.word in
        (stray, found_same (arg.Of b) row ∙ value_back b.kind x (word_in s.frame (place_in row.places b.number)) word p k)

    arg_shown : (row : ExitRow) (a : Arg) (x : Value) (vs : List Value) → row.places ≡ map (placed_at st2.at) (finished_boxes (Some a)) → ((k : ℕ) → Some a ≡ Some (arg.Ptr k) → k < length t.prebuilts)
        → ArgsStand st2 (address_of objects) u (a ∷ []) (x ∷ vs) → IsPart (length objects) x → Some (kind_of_value x) ≡ kind_of_arg a → IsShown row a x
    arg_shown row (arg.Of b) x vs places named h p k = box_shown row b x places h.0 p (some_same k)
    arg_shown row (arg.Const z) x vs places named h p k = (no_stray row places, found_same (arg.Const z) row ∙ int_is x h.0 (some_same k))
      where
        int_is : (y : Value) → z ≡ word_of (address_of objects) y → kind_of_value y ≡ kind.Int → v.Int z ≡ y
        int_is (v.Int m) e f = ap v.Int e
        int_is v.Null e f = absurd (cc)
        int_is (v.Obj m) e f = absurd (cc)
    arg_shown row arg.Null x vs places named h p k = (no_stray row places, found_same arg.Null row ∙ value_back kind.Ref x (pos 0) h.0 p (some_same k))
    arg_shown row (arg.Class n) x vs places named h p k = absurd (none_some (sym k))
    arg_shown row (arg.Func n) x vs places named h p k = absurd (none_some (sym k))
    arg_shown row (arg.Ptr n) x vs places named h p k =
        let pre = prebuilts n (named n refl) in
        let first : or_zero (slice_get (found_addresses t arena) n) ≡ pos (address_in t n) = prebuilt_word l.walk t objects arena n st pre.0 ∙ ap pos pre.1 in
        let given : pos (address_in t n) ≡ word_of (address_of objects) x = ap (λ (y : Table). pos (address_in y n)) (sym table) ∙ h.0 in
        (no_stray row places, found_same (arg.Ptr n) row ∙ value_back kind.Ref x (or_zero (slice_get (found_addresses t arena) n)) (first ∙ given) p (some_same k))

    -- the whole value
    abbrev ShowsAll : ExitRow → Option Arg → List Value → Type 0
    ShowsAll row a vs = (stray_box t s row ≡ None) × (finish_value t s row a ≡ first_value vs)

    pub all_shown : (row : ExitRow) (a : Option Arg) (vs : List Value) → row.places ≡ map (placed_at st2.at) (finished_boxes a) → ((k : ℕ) → a ≡ Some (arg.Ptr k) → k < length t.prebuilts)
        → ArgsStand st2 (address_of objects) u (finished a) vs → AreParts (length objects) vs → AreOfKinds (length objects) (map kind_of_arg (finished a)) vs → ShowsAll row a vs
    all_shown row None [] places named h parts kinds = (no_stray row places, refl)
    all_shown row None (x ∷ vs) places named h parts kinds = absurd h
    all_shown row (Some a) [] places named h parts kinds = absurd h
    all_shown row (Some a) (x ∷ vs) places named h parts kinds =
        let z = arg_shown row a x vs places named h parts.0 (first_kind (length objects) (kind_of_arg a) x vs kinds) in
        (z.0, ap Some z.1)

pub finishes_show : FinishLaws → FinishesShow
finishes_show l set whole ps settings bytes q j a vs w c s row end range table named last row_is prebuilt (u, (own, found, left, calls), saved, same) shows =
    let t = set.table in
    let st = settings q in
    let objects = w.objects in
    let one : own ≡ opt.Finish a = op_same (ops_at whole q) j own (opt.Finish a) found named in
    let now = subst (λ (x : OptOp). IsLeftSo st x (Finishes vs w) u) one left in
    let arena : Stands t objects s.arena = subst (λ (x : Table). Stands x objects s.arena) table (subst (Stands st.table objects) (sym same.arena) now.arena) in
    let prebuilts : PrebuiltsStand t objects = subst (λ (x : Table). PrebuiltsStand x objects) table now.prebuilts in
    let kinded : ObjectsHold t objects = subst (λ (x : Table). ObjectsHold x objects) table now.kinds.world.objects in
    let read : objects_in t s.arena ≡ objects = l.back t objects s.arena arena kinded (l.kinds t objects s.arena range arena) in
    let z = all_shown l t objects s.arena arena st table s u refl saved row_is.hold prebuilts row a vs row_is.places prebuilt now.with now.parts now.kinds.values in
    let here_is : shown_of t ps row s ≡ Some (finished_at t s row a) =
    ap (λ (g : Option ℕ). shown_by t ps row g s) row_is.guard
    ∙ ap (λ (x : PieceId). option_map (finished_at t s row) (finish_of (last_of (ops_at ps x)))) row_is.id
    ∙ ap (λ (o : Option OptOp). option_map (finished_at t s row) (finish_of o)) last in
    some_same (sym shows ∙ here_is)
    ∙ ap (finished_unless t s row a) z.0
    ∙ ap (λ (x : Option Value). Shows (state.Finished x) (store_in t s.arena)) z.1
    ∙ ap (λ (os : List Object). Shows (state.Finished (first_value vs)) (record { objects = os })) read
