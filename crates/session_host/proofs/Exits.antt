-- A return behind a failed guard's stub shows what the guard rebuilds.
use Rattle.std.proofs.Common.{◌≡◌, ◌⊎◌, inl, inr, ℕ, zero, suc, ◌+◌, ◌*◌, ◌<◌, ◌≤◌, Bool, true, false, List, [], ◌∷◌, length, map, Option, Some, None, refl, sym, ap, ◌∙◌, subst, arith, ℤ, pos}
use Rattle.std.specs.Prelude.{◌==◌, nat_le, slice_get, option_and_then, is_some}
use Rattle.std.specs.List.{All, AllZip}
use Rattle.std.specs.Option.{option_map}
use Rattle.std.proofs.lemmas.Bool.{le-leb, lt-leb}
use Rattle.std.proofs.lemmas.List.Elements.{All-head, All-tail}
use Rattle.lists.proofs.Bools.{if_some}
use Rattle.lists.proofs.Options.{some_same, none_some}
use Rattle.trace_ops.specs.Parts.{parts_of}
use Rattle.trace_ops.specs.declared.table.Table.{Table}
use Rattle.trace_ops.specs.declared.trace.BoxId.{BoxId}
use Rattle.trace_ops.specs.declared.trace.Arg.{Arg}
use Rattle.trace_ops.specs.declared.trace.Arg.TheVariants as arg
use Rattle.trace_ops.specs.declared.piece.OptOp.{OptOp}
use Rattle.trace_ops.specs.declared.piece.OptOp.TheVariants as opt
use Rattle.trace_ops.specs.declared.piece.Pending.{Pending}
use Rattle.trace_ops.specs.declared.piece.PieceId.{PieceId}
use Rattle.trace_ops.specs.declared.piece.Snapshot.{Snapshot}
use Rattle.trace_ops.specs.declared.piece.Val.TheVariants.{Known}
use Rattle.target_base.specs.Arena.{Arena}
use Rattle.target_base.specs.declared.place.Place.{Place}
use Rattle.trace_meaning.specs.declared.value.Value.{Value}
use Rattle.trace_meaning.specs.declared.value.Value.TheVariants as v
use Rattle.trace_meaning.specs.declared.value.Object.{Object}
use Rattle.trace_meaning.specs.declared.state.RecFrame.{RecFrame}
use Rattle.trace_meaning.specs.declared.state.RecState.TheVariants as state
use Rattle.trace_meaning.specs.Boxes.{Boxes, BoxesDecide, BindingLaws, same_box, value_in, bind, bind_all, bound_to, arg_value}
use Rattle.trace_meaning.specs.Kept.{alone}
use Rattle.trace_meaning.specs.Kinds.{ObjectsHold}
use Rattle.trace_meaning.specs.Legs.{Fails}
use Rattle.trace_meaning.specs.Objects.{place_within}
use Rattle.trace_meaning.specs.Values.{kind_of_value}
use Rattle.trace_meaning.specs.World.{World}
use Rattle.opt_meaning.specs.Pieces.{ops_at}
use Rattle.opt_meaning.specs.Rebuilding.{snapshot_of, snapshot_in}
use Rattle.arena_objects.specs.Layout.{words_in, words_before, address_of}
use Rattle.arena_objects.specs.Standing.{Stands}
use Rattle.arena_objects.specs.Making.{bytes_left}
use Rattle.arena_objects.specs.ReadBack.{or_zero, objects_in}
use Rattle.arena_objects.specs.Starting.{TablesListFields}
use Rattle.arena_objects.specs.declared.walk.Found.{Found}
use Rattle.arena_objects.specs.Walk.{object_at, as_found}
use Rattle.arena_objects.specs.Laws.{ReferencesAreTold, ObjectsAreReadBack, KindsInRange, TakenIsThere, WalkFinds}
use Rattle.resume_rebuild.specs.Rebuilding.{Sources, arg_word, found_addresses, sources_of, asked_for, rebuilt_arena, rebuilt_frames}
use Rattle.resume_rebuild.specs.Standing.{BoxStands, IsNamed}
use Rattle.resume_rebuild.specs.Laws.{RebuildsFromParts}
use Rattle.x64_machine.specs.State.{State}
use Rattle.asm_select.specs.Chosen.{Setting}
use Rattle.asm_select.specs.Ended.{BoxesStand, LeavesWith}
use Rattle.image_runs.specs.Session.{Shows}
use Rattle.image_model.specs.Ready.{LeavesKinds}
use Rattle.image_model.specs.Modelled.{IsLeftSo}
use Rattle.session_host.specs.Entries.{or_else, stray_in}
use Rattle.session_host.specs.Showing.{kinds_at, words_at, stray_box, has_spot, stray_base, first_stray, stray_at, store_in, exited_if, exited_unless, exited_at, shown_by, shown_of}
use Rattle.session_host.specs.Laws.{ExitsShow}
use Rattle.session_host.proofs.Saved.{no_stray_box, row_stands}
use Rattle.session_host.proofs.Bases.{BaseStands, rebuilt_bases}
use Rattle.session_host.proofs.OfKind.{kinds_same}

pub record ExitLaws : Type 0 where
  pub told : ReferencesAreTold
  pub back : ObjectsAreReadBack
  pub kinds : KindsInRange
  pub there : TakenIsThere
  pub walk : WalkFinds
  pub lists : TablesListFields
  pub parts : RebuildsFromParts
  pub decide : BoxesDecide
  pub binds : BindingLaws

-- ---- boxes that have got values

bound_cases : BoxesDecide → BindingLaws → (b c : BoxId) (x y : Value) (es : Boxes) → value_in (bind b x es) c ≡ Some y → ((c ≡ b) × (y ≡ x)) ⊎ (value_in es c ≡ Some y)
bound_cases decide binding b c x y es h = by (same_box c b) refl
  where
    by : (t : Bool) → same_box c b ≡ t → ((c ≡ b) × (y ≡ x)) ⊎ (value_in es c ≡ Some y)
    by true e =
        let same : c ≡ b = (decide c b).0 e in
        inl (same, some_same (sym h ∙ ap (value_in (bind b x es)) same ∙ binding.same b x es))
    by false e = inr (sym (binding.other b c x es (λ same. absurd (let other : same_box c b ≡ true = (decide c b).1 same in cc))) ∙ h)

bound_hold : BoxesDecide → BindingLaws → (P : BoxId → Value → Type 0) (es : Boxes) (bs : List BoxId) (vs : List Value) → ((c : BoxId) (y : Value) → value_in es c ≡ Some y → P c y) → AllZip P bs vs → (c : BoxId) (y : Value) → value_in (bind_all es bs vs) c ≡ Some y → P c y
bound_hold decide binding P es [] [] held h c y e = held c y e
bound_hold decide binding P es [] (x ∷ vs) held h c y e = absurd h
bound_hold decide binding P es (b ∷ bs) [] held h c y e = absurd h
bound_hold decide binding P es (b ∷ bs) (x ∷ xs) held h c y e =
    bound_hold decide binding P (bind b x es) bs xs (λ d z g. one d z (bound_cases decide binding b d x z es g)) h.1 c y e
  where
    one : (d : BoxId) (z : Value) → ((d ≡ b) × (z ≡ x)) ⊎ (value_in es d ≡ Some z) → P d z
    one d z (inl same) = subst (λ w. P d w) (sym same.1) (subst (λ w. P w x) (sym same.0) h.0)
    one d z (inr there) = held d z there

-- ---- the addresses of objects

found_at : (a : ℕ) (os : List Object) (k : ℕ) → k < length os → slice_get (map (λ (f : Found). pos f.at) (as_found a os)) k ≡ Some (pos (a + 8 * words_before os k))
found_at a [] k lt = absurd (omega (arith, lt))
found_at a (o ∷ os) zero lt = (let same : a ≡ a + 8 * 0 = omega arith in ap (λ (n : ℕ). Some (pos n)) same)
found_at a (o ∷ os) (suc k) lt =
    let same : a + 8 * words_in o + 8 * words_before os k ≡ a + 8 * (words_in o + words_before os k) = omega arith in
    found_at (a + 8 * words_in o) os k (omega (arith, lt)) ∙ ap (λ (n : ℕ). Some (pos n)) same

pub prebuilt_word : WalkFinds → (t : Table) (objects : List Object) (arena : Arena) (k : ℕ) → Stands t objects arena → k < length objects → or_zero (slice_get (found_addresses t arena) k) ≡ pos (address_of objects k)
prebuilt_word walk t objects arena k st lt =
    ap (λ (fs : List Found). or_zero (slice_get (map (λ (f : Found). pos f.at) fs) k)) (walk t objects arena st) ∙ ap or_zero (found_at 0x10000000 objects k lt)

-- ---- bases

module _ (l : ExitLaws) (t : Table) (objects : List Object) (arena : Arena) (st : Stands t objects arena) (read : objects_in t arena ≡ objects) (known : Sources) (box : BoxId → Option Value) (before : known.before ≡ found_addresses t arena)
    (boxes : (b : BoxId) (x : Value) → box b ≡ Some x → BoxStands objects known.places known.frame b x) where
  -- the base is this object, and its word is the address
  abbrev IsBase : ℕ → ℤ → Type 0
  IsBase m w = (m < length objects) × (w ≡ pos (address_of objects m))

  base_is : (virtuals : ℕ) (a : Arg) (m : ℕ) → IsNamed (length objects) virtuals (Known a) → arg_value box a ≡ Some (v.Obj m) → IsBase m (arg_word known a)
  base_is virtuals (arg.Of b) m named e = (let z = boxes b (v.Obj m) e in (z.part, z.word))
  base_is virtuals (arg.Const z) m named e = absurd (let wrong : v.Int z ≡ v.Obj m = some_same e in cc)
  base_is virtuals arg.Null m named e = absurd (let wrong : v.Null ≡ v.Obj m = some_same e in cc)
  base_is virtuals (arg.Class k) m named e = absurd (none_some e)
  base_is virtuals (arg.Func k) m named e = absurd (none_some e)
  base_is virtuals (arg.Ptr k) m named e =
      let same : v.Obj k ≡ v.Obj m = some_same e in
      let one : k ≡ m = cc in
      let word : or_zero (slice_get known.before k) ≡ pos (address_of objects k) = ap (λ (xs : List ℤ). or_zero (slice_get xs k)) before ∙ prebuilt_word l.walk t objects arena k st named in
      subst (λ (n : ℕ). IsBase n (arg_word known (arg.Ptr k))) one (named, word)

  spot_is : (p : Pending) (m : ℕ) (o : Object) (i : ℕ) (w : ℤ) → IsBase m w → slice_get objects m ≡ Some o → place_within t p.spot o ≡ Some i → has_spot t arena p.spot (object_at t arena w) ≡ true
  spot_is p m o i w base e q =
      let found : object_at t arena w ≡ Some m = ap (object_at t arena) base.1 ∙ l.told t objects arena m st base.0 in
      ap (has_spot t arena p.spot) found
      ∙ ap (λ (os : List Object). is_some (option_and_then (place_within t p.spot) (slice_get os m))) read
      ∙ ap (λ (x : Option Object). is_some (option_and_then (place_within t p.spot) x)) e
      ∙ ap is_some q

  pub no_stray_base : (virtuals : ℕ) (ps : List Pending) → All (λ (p : Pending). IsNamed (length objects) virtuals (Known p.base)) ps → All (BaseStands t box objects) ps → stray_base t arena (arg_word known) ps ≡ None
  no_stray_base virtuals [] named stand = refl
  no_stray_base virtuals (p ∷ ps) named stand =
      let N : Pending → Type 0 = λ x. IsNamed (length objects) virtuals (Known x.base) in
      let here = All-head (BaseStands t box objects) p ps stand in
      let base = base_is virtuals p.base here.0 (All-head N p ps named) here.1 in
      let spot = here.2 base.0 in
      let has = spot_is p here.0 spot.0 spot.1 (arg_word known p.base) base spot.2 spot.3 in
      ap (λ (b : Bool). or_else b (arg_word known p.base) (stray_base t arena (arg_word known) ps)) has
      ∙ no_stray_base virtuals ps (All-tail N p ps named) (All-tail (BaseStands t box objects) p ps stand)

-- ---- at a guard

record AtGuard (st : Setting) (snap : Snapshot) (vs : List Value) (w : World) (u : State) : Type 0 where
  boxes : BoxesStand st.at (address_of w.objects) u (parts_of snap) vs
  kinds : map (λ (x : Value). Some (kind_of_value x)) vs ≡ map (λ (b : BoxId). Some b.kind) (parts_of snap)
  objects : ObjectsHold st.table w.objects

at_guard : (st : Setting) (op : OptOp) (n : ℕ) (snap : Snapshot) (vs : List Value) (w : World) (u : State) → snapshot_of n op ≡ Some snap → LeavesWith st op (Fails n vs w) u → LeavesKinds st.table op (Fails n vs w) → AtGuard st snap vs w u
at_guard st (opt.Plain operation r args d) n snap vs w u e with kinds = absurd (none_some e)
at_guard st (opt.Jump to args) n snap vs w u e with kinds = absurd (none_some e)
at_guard st (opt.Finish value) n snap vs w u e with kinds = absurd (none_some e)
at_guard st (opt.Guard operation args m own) n snap vs w u e with kinds =
    let same : own ≡ snap = (if_some (m == n) own snap e).1 in
    record {
      boxes = subst (λ (x : Snapshot). BoxesStand st.at (address_of w.objects) u (parts_of x) vs) same with.1;
      kinds = kinds_same (length w.objects) (parts_of own) vs kinds.values ∙ ap (λ (x : Snapshot). map (λ (b : BoxId). Some b.kind) (parts_of x)) same;
      objects = kinds.world.objects;
    }
at_guard st (opt.Exit m own) n snap vs w u e with kinds =
    let same : own ≡ snap = (if_some (m == n) own snap e).1 in
    record {
      boxes = subst (λ (x : Snapshot). BoxesStand st.at (address_of w.objects) u (parts_of x) vs) same with.1;
      kinds = kinds_same (length w.objects) (parts_of own) vs kinds.values ∙ ap (λ (x : Snapshot). map (λ (b : BoxId). Some b.kind) (parts_of x)) same;
      objects = kinds.world.objects;
    }

pub op_same : (ops : List OptOp) (j : ℕ) (a b : OptOp) → slice_get ops j ≡ Some a → slice_get ops j ≡ Some b → a ≡ b
op_same ops j a b e f = some_same (sym e ∙ f)

-- ---- the end

pub exits_show : ExitLaws → ExitsShow
exits_show l set whole ps settings bytes q j n op snap vs w c s row r end range table named snap_op snap_in row_is can meant holds (u, (own, found, left, calls), saved, same) shows =
    let t = set.table in
    let st = settings q in
    let objects = w.objects in
    let one : own ≡ op = op_same (ops_at whole q) j own op found named in
    let now = subst (λ (x : OptOp). IsLeftSo st x (Fails n vs w) u) one left in
    let here = at_guard st op n snap vs w u snap_op now.with now.kinds in
    let arena : Stands t objects s.arena = subst (λ (x : Table). Stands x objects s.arena) table (subst (Stands st.table objects) (sym same.arena) now.arena) in
    let kinded : ObjectsHold t objects = subst (λ (x : Table). ObjectsHold x objects) table here.objects in
    let read : objects_in t s.arena ≡ objects = l.back t objects s.arena arena kinded (l.kinds t objects s.arena range arena) in
    let no_box : stray_box t s row ≡ None =
    subst (λ (p : List (BoxId × Place)). stray_in t s.arena (kinds_at p) (words_at s.frame p) ≡ None) (sym row_is.places)
    (no_stray_box l.told t objects s.arena arena st.at s u saved row_is.hold (parts_of snap) vs here.boxes now.parts here.kinds) in
    let stand : AllZip (BoxStands objects row.places s.frame) (parts_of snap) vs =
    subst (λ (p : List (BoxId × Place)). AllZip (BoxStands objects p s.frame) (parts_of snap) vs) (sym row_is.places)
    (row_stands l.told t objects s.arena arena st.at s u saved row_is.hold (parts_of snap) vs here.boxes now.parts here.kinds) in
    let box : BoxId → Option Value = value_in (bound_to (parts_of snap) vs) in
    let known = sources_of t snap row.places s.frame s.arena in
    let boxes = bound_hold l.decide l.binds (BoxStands objects row.places s.frame) [] (parts_of snap) vs (λ b x none. absurd (none_some none)) stand in
    let no_base : stray_base t s.arena (arg_word known) snap.pending ≡ None =
    no_stray_base l t objects s.arena arena read known box refl boxes (length snap.shapes) snap.pending can.bases (rebuilt_bases t box snap (alone w) r meant) in
    let none : stray_at t s row snap ≡ None = ap (λ (o : Option ℤ). first_stray o (stray_base t s.arena (arg_word known) snap.pending)) no_box ∙ no_base in
    let here_is : shown_of t ps row s ≡ Some (exited_at t s row n snap) =
    ap (λ (g : Option ℕ). shown_by t ps row g s) row_is.guard
    ∙ ap (λ (x : PieceId). option_map (exited_at t s row n) (snapshot_in (ops_at ps x) n)) row_is.id
    ∙ ap (option_map (exited_at t s row n)) snap_in in
    let end_is : end ≡ exited_if (nat_le (asked_for snap) (bytes_left s.arena)) t s row n snap = some_same (sym shows ∙ here_is) ∙ ap (exited_unless t s row n snap) none in
    record {
      shown = λ enough. (let room : asked_for snap + s.arena.taken ≤ 8 * length s.arena.words = omega (arith, enough, l.there t objects s.arena arena) in
          let z = l.parts t snap vs w row.places s.frame s.arena r (l.lists t range) arena stand can room meant in
          let after : objects_in t (rebuilt_arena t snap row.places s.frame s.arena) ≡ r.objects = l.back t r.objects (rebuilt_arena t snap row.places s.frame s.arena) z.0 holds (l.kinds t r.objects (rebuilt_arena t snap row.places s.frame s.arena) range z.0) in
          end_is
          ∙ ap (λ (b : Bool). exited_if b t s row n snap) (le-leb (asked_for snap) (bytes_left s.arena) enough)
          ∙ ap (λ (x : PieceId). Shows (state.Exited x.trace n (rebuilt_frames t snap row.places s.frame s.arena)) (store_in t (rebuilt_arena t snap row.places s.frame s.arena))) row_is.id
          ∙ ap (λ (fs : List RecFrame). Shows (state.Exited q.trace n fs) (store_in t (rebuilt_arena t snap row.places s.frame s.arena))) z.1
          ∙ ap (λ (os : List Object). Shows (state.Exited q.trace n r.frames) (record { objects = os })) after);
      full = λ less. end_is ∙ ap (λ (b : Bool). exited_if b t s row n snap) (lt-leb (asked_for snap) (bytes_left s.arena) less);
    }
