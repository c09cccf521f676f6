-- The row by which an activation returns is that of the operation at which its piece was left.
use Rattle.std.proofs.Common.{◌≡◌, inl, inr, ℕ, zero, suc, ◌+◌, ◌-◌, ◌↔◌, Bool, true, false, cond, List, [], ◌∷◌, ◌++◌, length, Option, Some, None, refl, sym, ap, ◌∙◌, subst, arith}
use Rattle.std.specs.Prelude.{◌==◌, slice_get, IsTrue}
use Rattle.std.specs.List.{Contains, flat_map}
use Rattle.std.proofs.lemmas.Bool.{eqb-true, eq-eqb}
use Rattle.lists.specs.Has.{Has}
use Rattle.lists.proofs.Bools.{if_some}
use Rattle.lists.proofs.Options.{some_same, none_some}
use Rattle.trace_ops.specs.declared.trace.Arg.{Arg}
use Rattle.trace_ops.specs.declared.trace.TraceSet.{TraceSet}
use Rattle.trace_ops.specs.declared.piece.PieceId.{PieceId}
use Rattle.trace_ops.specs.declared.piece.OptOp.{OptOp}
use Rattle.trace_ops.specs.declared.piece.OptOp.TheVariants as opt
use Rattle.trace_ops.specs.declared.piece.Piece.{Piece}
use Rattle.trace_ops.specs.declared.piece.Snapshot.{Snapshot}
use Rattle.trace_ops.specs.Parts.{parts_of}
use Rattle.trace_ops.specs.Pieces.{guards_of, is_end}
use Rattle.trace_ops.specs.Sound.{AreApart}
use Rattle.trace_meaning.specs.declared.value.Value.{Value}
use Rattle.trace_meaning.specs.World.{World}
use Rattle.trace_meaning.specs.Legs.{Leave, Fails, Jumps, Finishes, Waits, Misfits, Wrong}
use Rattle.opt_meaning.specs.Pieces.{ops_at}
use Rattle.opt_meaning.specs.Rebuilding.{snapshot_of, snapshot_in, or_later}
use Rattle.guard_exit.specs.declared.row.ExitRow.{ExitRow}
use Rattle.x64_machine.specs.State.{State}
use Rattle.asm_select.specs.Valued.{MayHold}
use Rattle.asm_select.specs.Chosen.{Where, Setting}
use Rattle.asm_select.specs.Ended.{LeavesWith}
use Rattle.bridge_patch.specs.Pieces.{Placed, exits_in, boxes_at, finished_boxes, rows_of_op, all_rows, displacement_of}
use Rattle.image_runs.specs.Session.{Calls}
use Rattle.image_runs.specs.Following.{guard_of}
use Rattle.image_model.specs.Modelled.{GoneAt}
use Rattle.session_host.specs.Showing.{finish_of}
use Rattle.image_built.specs.Built.{keyed}
use Rattle.image_built.specs.Running.{IsExitOf, Of_guard, Of_finish}
use Rattle.image_built.proofs.Splitting.{keys_in}
use Rattle.image_built.proofs.Rowing.{has_of, contains_of, has_right, op_of, piece_of_row}
use Rattle.image_built.proofs.Placing.{Setup, Made, spot, op_at}

-- ---- the guards of a piece

has_guard : (n : ℕ) (op : OptOp) (snap : Snapshot) (rest : List ℕ) → snapshot_of n op ≡ Some snap → Has (guards_of op ++ rest) n
has_guard n (opt.Plain operation r args d) snap rest e = absurd (none_some e)
has_guard n (opt.Guard operation args m own) snap rest e = inl (eqb-true m n (if_some (m == n) own snap e).0)
has_guard n (opt.Exit m own) snap rest e = inl (eqb-true m n (if_some (m == n) own snap e).0)
has_guard n (opt.Jump to args) snap rest e = absurd (none_some e)
has_guard n (opt.Finish value) snap rest e = absurd (none_some e)

guards_have : (ops : List OptOp) (j n : ℕ) (op : OptOp) (snap : Snapshot) → slice_get ops j ≡ Some op → snapshot_of n op ≡ Some snap → Has (flat_map guards_of ops) n
guards_have [] j n op snap e is = absurd (none_some e)
guards_have (o ∷ ops) zero n op snap e is = has_guard n o snap (flat_map guards_of ops) (ap (snapshot_of n) (some_same e) ∙ is)
guards_have (o ∷ ops) (suc j) n op snap e is = has_right (guards_of o) (flat_map guards_of ops) n (guards_have ops j n op snap e is)

apart_behind : (o : OptOp) (xs : List ℕ) → AreApart (guards_of o ++ xs) → AreApart xs
apart_behind (opt.Plain operation r args d) xs h = h
apart_behind (opt.Guard operation args m own) xs h = h.1
apart_behind (opt.Exit m own) xs h = h.1
apart_behind (opt.Jump to args) xs h = h
apart_behind (opt.Finish value) xs h = h

-- behind another guard
found_behind : (m n : ℕ) (own snap : Snapshot) (xs : List ℕ) (later : Option Snapshot) → ¬ Contains xs m → Has xs n → later ≡ Some snap → or_later (cond (m == n) (Some own) None) later ≡ Some snap
found_behind m n own snap xs later apart has e = by (m == n) refl
  where
    by : (b : Bool) → (m == n) ≡ b → or_later (cond b (Some own) None) later ≡ Some snap
    by true q = absurd (apart (contains_of xs m (subst (Has xs) (sym (eqb-true m n q)) has)))
    by false q = e

found_first : (o : OptOp) (ops : List OptOp) (n : ℕ) (snap : Snapshot) → AreApart (guards_of o ++ flat_map guards_of ops) → Has (flat_map guards_of ops) n → snapshot_in ops n ≡ Some snap → or_later (snapshot_of n o) (snapshot_in ops n) ≡ Some snap
found_first (opt.Plain operation r args d) ops n snap apart has e = e
found_first (opt.Guard operation args m own) ops n snap apart has e = found_behind m n own snap (flat_map guards_of ops) (snapshot_in ops n) apart.0 has e
found_first (opt.Exit m own) ops n snap apart has e = found_behind m n own snap (flat_map guards_of ops) (snapshot_in ops n) apart.0 has e
found_first (opt.Jump to args) ops n snap apart has e = e
found_first (opt.Finish value) ops n snap apart has e = e

-- a guard that stands once is the one that is found
snapshot_found : (ops : List OptOp) (j n : ℕ) (op : OptOp) (snap : Snapshot) → AreApart (flat_map guards_of ops) → slice_get ops j ≡ Some op → snapshot_of n op ≡ Some snap → snapshot_in ops n ≡ Some snap
snapshot_found [] j n op snap apart e is = absurd (none_some e)
snapshot_found (o ∷ ops) zero n op snap apart e is = ap (λ (x : Option Snapshot). or_later x (snapshot_in ops n)) (ap (snapshot_of n) (some_same e) ∙ is)
snapshot_found (o ∷ ops) (suc j) n op snap apart e is =
    found_first o ops n snap apart (guards_have ops j n op snap e is) (snapshot_found ops j n op snap (apart_behind o (flat_map guards_of ops) apart) e is)

-- ---- the row of an operation

-- of a guard
record IsGuardRow (at : Where) (id : PieceId) (n : ℕ) (mine : OptOp) (row : ExitRow) : Type 0 where
  snap : Snapshot
  is : snapshot_of n mine ≡ Some snap
  named : row.id ≡ id
  places : row.places ≡ boxes_at at (parts_of snap)

guard_at : (at : Where) (id : PieceId) (exit place n m : ℕ) (mine : OptOp) (own : Snapshot) (row : ExitRow) → ((m ≡ n) → snapshot_of n mine ≡ Some own)
    → record { exit = exit; id = id; guard = Some m; at = place; places = boxes_at at (parts_of own) } ≡ row → row.guard ≡ Some n → IsGuardRow at id n mine row
guard_at at id exit place n m mine own row is e g = record {
  snap = own;
  is = is (some_same (ap (λ (r : ExitRow). r.guard) e ∙ g));
  named = sym (ap (λ (r : ExitRow). r.id) e);
  places = sym (ap (λ (r : ExitRow). r.places) e);
}

guard_row : (at : Where) (id : PieceId) (exit place n : ℕ) (mine : OptOp) (row : ExitRow) → Has (rows_of_op at id exit place mine) row → row.guard ≡ Some n → IsGuardRow at id n mine row
guard_row at id exit place n (opt.Plain operation r args d) row h g = absurd h
guard_row at id exit place n (opt.Guard operation args m own) row (inl e) g =
    guard_at at id exit place n m (opt.Guard operation args m own) own row (λ same. ap (λ (b : Bool). cond b (Some own) None) (eq-eqb m n same)) e g
guard_row at id exit place n (opt.Guard operation args m own) row (inr h) g = absurd h
guard_row at id exit place n (opt.Exit m own) row (inl e) g =
    guard_at at id exit place n m (opt.Exit m own) own row (λ same. ap (λ (b : Bool). cond b (Some own) None) (eq-eqb m n same)) e g
guard_row at id exit place n (opt.Exit m own) row (inr h) g = absurd h
guard_row at id exit place n (opt.Jump to args) row h g = absurd h
guard_row at id exit place n (opt.Finish value) row (inl e) g = absurd (none_some (ap (λ (r : ExitRow). r.guard) e ∙ g))
guard_row at id exit place n (opt.Finish value) row (inr h) g = absurd h

-- of a finish
record IsFinishRowOf (at : Where) (id : PieceId) (mine : OptOp) (row : ExitRow) : Type 0 where
  value : Option Arg
  is : mine ≡ opt.Finish value
  named : row.id ≡ id
  places : row.places ≡ boxes_at at (finished_boxes value)

finish_row : (at : Where) (id : PieceId) (exit place : ℕ) (mine : OptOp) (row : ExitRow) → Has (rows_of_op at id exit place mine) row → row.guard ≡ None → IsFinishRowOf at id mine row
finish_row at id exit place (opt.Plain operation r args d) row h g = absurd h
finish_row at id exit place (opt.Guard operation args m own) row (inl e) g = absurd (none_some (sym (ap (λ (r : ExitRow). r.guard) e ∙ g)))
finish_row at id exit place (opt.Guard operation args m own) row (inr h) g = absurd h
finish_row at id exit place (opt.Exit m own) row (inl e) g = absurd (none_some (sym (ap (λ (r : ExitRow). r.guard) e ∙ g)))
finish_row at id exit place (opt.Exit m own) row (inr h) g = absurd h
finish_row at id exit place (opt.Jump to args) row h g = absurd h
finish_row at id exit place (opt.Finish value) row (inl e) g =
    record { value = value; is = refl; named = sym (ap (λ (r : ExitRow). r.id) e); places = sym (ap (λ (r : ExitRow). r.places) e) }
finish_row at id exit place (opt.Finish value) row (inr h) g = absurd h

row_named : (at : Where) (id : PieceId) (exit place : ℕ) (mine : OptOp) (row : ExitRow) → Has (rows_of_op at id exit place mine) row → row.id ≡ id
row_named at id exit place (opt.Plain operation r args d) row h = absurd h
row_named at id exit place (opt.Guard operation args m own) row (inl e) = sym (ap (λ (r : ExitRow). r.id) e)
row_named at id exit place (opt.Guard operation args m own) row (inr h) = absurd h
row_named at id exit place (opt.Exit m own) row (inl e) = sym (ap (λ (r : ExitRow). r.id) e)
row_named at id exit place (opt.Exit m own) row (inr h) = absurd h
row_named at id exit place (opt.Jump to args) row h = absurd h
row_named at id exit place (opt.Finish value) row (inl e) = sym (ap (λ (r : ExitRow). r.id) e)
row_named at id exit place (opt.Finish value) row (inr h) = absurd h

-- ---- how an operation is left

data OffBy : OptOp → Leave → Type 0 where
  At_guard : (op : OptOp) (n : ℕ) (vs : List Value) (w : World) (snap : Snapshot) → snapshot_of n op ≡ Some snap → OffBy op (Fails n vs w)
  At_jump : (to : PieceId) (args : List Arg) (vs : List Value) (w : World) → OffBy (opt.Jump to args) (Jumps vs w)
  At_finish : (value : Option Arg) (vs : List Value) (w : World) → OffBy (opt.Finish value) (Finishes vs w)

off_by : (st : Setting) (op : OptOp) (l : Leave) (t : State) → LeavesWith st op l t → OffBy op l
off_by st (opt.Plain operation r args d) (Fails m vs w) t h = absurd h
off_by st (opt.Plain operation r args d) (Jumps vs w) t h = absurd h
off_by st (opt.Plain operation r args d) (Finishes vs w) t h = absurd h
off_by st (opt.Plain operation r args d) (Waits w) t h = absurd h
off_by st (opt.Plain operation r args d) (Misfits w) t h = absurd h
off_by st (opt.Plain operation r args d) (Wrong w) t h = absurd h
off_by st (opt.Guard operation args n snap) (Fails m vs w) t h = At_guard (opt.Guard operation args n snap) m vs w snap (ap (λ (b : Bool). cond b (Some snap) None) (eq-eqb n m (sym h.0)))
off_by st (opt.Guard operation args n snap) (Jumps vs w) t h = absurd h
off_by st (opt.Guard operation args n snap) (Finishes vs w) t h = absurd h
off_by st (opt.Guard operation args n snap) (Waits w) t h = absurd h
off_by st (opt.Guard operation args n snap) (Misfits w) t h = absurd h
off_by st (opt.Guard operation args n snap) (Wrong w) t h = absurd h
off_by st (opt.Exit n snap) (Fails m vs w) t h = At_guard (opt.Exit n snap) m vs w snap (ap (λ (b : Bool). cond b (Some snap) None) (eq-eqb n m (sym h.0)))
off_by st (opt.Exit n snap) (Jumps vs w) t h = absurd h
off_by st (opt.Exit n snap) (Finishes vs w) t h = absurd h
off_by st (opt.Exit n snap) (Waits w) t h = absurd h
off_by st (opt.Exit n snap) (Misfits w) t h = absurd h
off_by st (opt.Exit n snap) (Wrong w) t h = absurd h
off_by st (opt.Jump to args) (Fails m vs w) t h = absurd h
off_by st (opt.Jump to args) (Jumps vs w) t h = At_jump to args vs w
off_by st (opt.Jump to args) (Finishes vs w) t h = absurd h
off_by st (opt.Jump to args) (Waits w) t h = absurd h
off_by st (opt.Jump to args) (Misfits w) t h = absurd h
off_by st (opt.Jump to args) (Wrong w) t h = absurd h
off_by st (opt.Finish value) (Fails m vs w) t h = absurd h
off_by st (opt.Finish value) (Jumps vs w) t h = absurd h
off_by st (opt.Finish value) (Finishes vs w) t h = At_finish value vs w
off_by st (opt.Finish value) (Waits w) t h = absurd h
off_by st (opt.Finish value) (Misfits w) t h = absurd h
off_by st (opt.Finish value) (Wrong w) t h = absurd h

-- ---- a row and where the piece was left

abbrev EndsOnce : List OptOp → Type 0
EndsOnce ops = (k : ℕ) (op : OptOp) → slice_get ops k ≡ Some op → IsTrue (is_end op) ↔ (k + 1 ≡ length ops)

-- two ends are one operation
one_end : (ops : List OptOp) (i j : ℕ) (a b : OptOp) → EndsOnce ops → slice_get ops i ≡ Some a → slice_get ops j ≡ Some b → IsTrue (is_end a) → IsTrue (is_end b) → a ≡ b
one_end ops i j a b ends e f x y =
    let m : i + 1 ≡ length ops = (ends i a e).0 x in
    let n : j + 1 ≡ length ops = (ends j b f).0 y in
    let same : i ≡ j = omega (arith, m, n) in
    some_same (sym e ∙ ap (slice_get ops) same ∙ f)

last_end : (ops : List OptOp) (j : ℕ) (op : OptOp) → EndsOnce ops → slice_get ops j ≡ Some op → IsTrue (is_end op) → slice_get ops (length ops - 1) ≡ Some op
last_end ops j op ends e x =
    let n : j + 1 ≡ length ops = (ends j op e).0 x in
    let same : length ops - 1 ≡ j = omega (arith, n) in
    ap (slice_get ops) same ∙ e

finish_ends : (mine : OptOp) (value : Option Arg) → mine ≡ opt.Finish value → IsTrue (is_end mine)
finish_ends mine value e = ap is_end e

exit_by : (st : Setting) (id : PieceId) (ops : List OptOp) (exit place i j : ℕ) (mine op : OptOp) (l : Leave) (row : ExitRow)
    → AreApart (flat_map guards_of ops) → EndsOnce ops → ((b : ℕ) → MayHold (st.at b))
    → slice_get ops i ≡ Some mine → slice_get ops j ≡ Some op → OffBy op l → Has (rows_of_op st.at id exit place mine) row → row.guard ≡ guard_of l → IsExitOf st ops id j l row
exit_by st id ops exit place i j mine op l row apart ends hold here e (At_guard o n vs w snap is) has g =
    let z = guard_row st.at id exit place n mine row has g in
    let found = snapshot_found ops j n op snap apart e is in
    let same : z.snap ≡ snap = some_same (sym (snapshot_found ops i n mine z.snap apart here z.is) ∙ found) in
    Of_guard n vs w op snap row e is found (record { id = z.named; guard = g; places = z.places ∙ ap (λ (s : Snapshot). boxes_at st.at (parts_of s)) same; hold = hold })
exit_by st id ops exit place i j mine op l row apart ends hold here e (At_jump to args vs w) has g =
    let z = finish_row st.at id exit place mine row has g in
    let same : mine ≡ opt.Jump to args = one_end ops i j mine (opt.Jump to args) ends here e (finish_ends mine z.value z.is) refl in
    absurd (none_some (sym (ap (λ (x : OptOp). finish_of (Some x)) (sym z.is ∙ same))))
exit_by st id ops exit place i j mine op l row apart ends hold here e (At_finish value vs w) has g =
    let z = finish_row st.at id exit place mine row has g in
    let same : mine ≡ opt.Finish value = one_end ops i j mine (opt.Finish value) ends here e (finish_ends mine z.value z.is) refl in
    let values : z.value ≡ value = some_same (ap (λ (x : OptOp). finish_of (Some x)) (sym z.is ∙ same)) in
    Of_finish vs w value row e (last_end ops j (opt.Finish value) ends e refl) (record { id = z.named; guard = g; places = z.places ∙ ap (λ (v : Option Arg). boxes_at st.at (finished_boxes v)) values; hold = hold })

-- the rows tell where pieces are left
abbrev pub TellsExits : TraceSet → List Piece → (PieceId → Setting) → List ExitRow → Type 0
TellsExits set whole settings rows =
    (q : PieceId) (j : ℕ) (l : Leave) (c : Calls) (s : State) (row : ExitRow) → Contains rows row → row.id ≡ q → row.guard ≡ guard_of l
    → GoneAt (settings q) (ops_at whole q) j l c s → ((settings q).table ≡ set.table) × IsExitOf (settings q) (ops_at whole q) q j l row

pub tells_exits : (set : TraceSet) (whole : Setup) (ps : List Piece) (placed : List Placed) → Made set whole ps placed → TellsExits set whole.pieces whole.settings (all_rows placed)
tells_exits set whole ps placed m q j l c s row has named guard gone =
    let z = piece_of_row placed row (has_of (all_rows placed) row has) in
    let pl = z.pl in
    let p = pl.piece.id in
    let y = spot set whole ps z.before z.after pl (subst (Made set whole ps) z.here m) in
    let o = op_of pl.setting.at p (displacement_of pl) pl.exit 0 pl.piece.ops row z.has in
    let exit = pl.exit + exits_in o.done in
    let place = displacement_of pl (0 + length o.done) in
    let same : p ≡ q = sym (row_named pl.setting.at p exit place o.op row o.has) ∙ named in
    let own : GoneAt (whole.settings p) (ops_at whole.pieces p) j l c s = subst (λ (x : PieceId). GoneAt (whole.settings x) (ops_at whole.pieces x) j l c s) (sym same) gone in
    let left = own.1 in
    let found : slice_get pl.piece.ops j ≡ Some left.0 = ap (λ (ops : List OptOp). slice_get ops j) (sym y.wholly) ∙ left.1 in
    let st = keyed (keys_in z.before) pl.setting in
    let one : IsExitOf st pl.piece.ops p j l row =
    exit_by st p pl.piece.ops exit place (length o.done) j o.op left.0 l row y.lawful.sound.formed.guards_distinct y.lawful.sound.formed.ends_once y.chosen.hold (op_at pl.piece.ops o.done o.rest o.op o.split) found
    (off_by (whole.settings p) left.0 l own.0 left.2.with) o.has guard in
    let there : IsExitOf (whole.settings p) (ops_at whole.pieces p) p j l row =
    subst (λ (ops : List OptOp). IsExitOf (whole.settings p) ops p j l row) (sym y.wholly) (subst (λ (x : Setting). IsExitOf x pl.piece.ops p j l row) (sym y.setting) one) in
    let table : (whole.settings p).table ≡ set.table = ap (λ (x : Setting). x.table) y.setting ∙ y.chosen.table in
    subst (λ (x : PieceId). ((whole.settings x).table ≡ set.table) × IsExitOf (whole.settings x) (ops_at whole.pieces x) x j l row) same (table, there)
