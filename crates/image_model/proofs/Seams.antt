-- Behind a jump that was taken: a stub, or another piece.
use Rattle.std.proofs.Common.{◌≡◌, ℕ, ◌+◌, ◌^◌, ◌<◌, List, [], ◌∷◌, refl, sym, ap, ◌∙◌, subst, ℤ, Option, Some, None}
use Rattle.std.specs.Prelude.{slice_get}
use Rattle.target_base.specs.Arena.{Arena}
use Rattle.std.specs.List.{AllZip}
use Rattle.lists.proofs.Zips.{zip_weaker}
use Rattle.trace_ops.specs.Words.{IsWord}
use Rattle.trace_ops.specs.Parts.{parts_of}
use Rattle.trace_ops.specs.Pieces.{finished}
use Rattle.trace_ops.specs.declared.table.Table.{Table}
use Rattle.trace_ops.specs.declared.trace.Arg.{Arg}
use Rattle.trace_ops.specs.declared.trace.BoxId.{BoxId}
use Rattle.trace_ops.specs.declared.trace.TraceSet.{TraceSet}
use Rattle.trace_ops.specs.declared.piece.Piece.{Piece}
use Rattle.trace_ops.specs.declared.piece.PieceId.{PieceId}
use Rattle.trace_ops.specs.declared.piece.OptOp.{OptOp}
use Rattle.trace_ops.specs.declared.piece.OptOp.TheVariants as opt
use Rattle.target_base.specs.declared.place.Place.{Place}
use Rattle.target_base.specs.declared.place.Place.TheVariants.{In, Word}
use Rattle.trace_meaning.specs.declared.value.Value.{Value}
use Rattle.trace_meaning.specs.World.{World, failed}
use Rattle.trace_meaning.specs.Legs.{Leave, Fails, Jumps, Finishes, Waits, Misfits, Wrong}
use Rattle.opt_meaning.specs.Pieces.{ops_at, label_at, begin_at}
use Rattle.guard_exit.specs.Codes.{stub_code}
use Rattle.arena_objects.specs.Layout.{address_of, word_of}
use Rattle.arena_objects.specs.Standing.{Stands}
use Rattle.x64_machine.specs.State.{State, target}
use Rattle.asm_select.specs.declared.operand.Operand.{Operand}
use Rattle.asm_select.specs.declared.operand.Operand.TheVariants.{At, Imm}
use Rattle.asm_select.specs.Slots.{puts, sizes_of}
use Rattle.asm_select.specs.Valued.{value, IsFit}
use Rattle.asm_select.specs.Chosen.{Where, Setting, operand_of}
use Rattle.asm_select.specs.Reached.{PrebuiltsStand, SameArena, read}
use Rattle.asm_select.specs.Ended.{BoxesStand, ArgsStand, PlacesStand, LeavesWith}
use Rattle.asm_select.specs.Exited.{shown_by, StubExits, LabelHolds, LabelStands}
use Rattle.image_runs.specs.Session.{Calls, Host}
use Rattle.image_runs.specs.Image.{moved, Exits}
use Rattle.image_model.specs.Ready.{StaysReady}
use Rattle.image_model.specs.Modelled.{HoldsAt, IsLeftSo, LeftAt, model_of}

value_moved : (n : ℕ) (t : State) (p : Place) → value (moved n t) p ≡ value t p
value_moved n t (In r) = refl
value_moved n t (Word k) = refl

fit_moved : (n : ℕ) (t : State) → IsFit t → IsFit (moved n t)
fit_moved n t h = record {
  regs = h.regs;
  frame = h.frame;
  words = λ p. subst IsWord (sym (value_moved n t p)) (h.words p);
  base = h.base;
  stack = h.stack;
  top = h.top;
}

read_moved : (n : ℕ) (t : State) (o : Operand) → read (moved n t) o ≡ read t o
read_moved n t (At p) = value_moved n t p
read_moved n t (Imm w) = refl

boxes_moved : (at : Where) (addresses : ℕ → ℕ) (n : ℕ) (t : State) (bs : List BoxId) (vs : List Value) → BoxesStand at addresses t bs vs → BoxesStand at addresses (moved n t) bs vs
boxes_moved at addresses n t bs vs h = zip_weaker (λ (b : BoxId) (x : Value). value t (at b.number) ≡ word_of addresses x) (λ (b : BoxId) (x : Value). value (moved n t) (at b.number) ≡ word_of addresses x) (λ b x k. value_moved n t (at b.number) ∙ k) bs vs h

places_moved : (addresses : ℕ → ℕ) (n : ℕ) (t : State) (ps : List Place) (vs : List Value) → PlacesStand addresses t ps vs → PlacesStand addresses (moved n t) ps vs
places_moved addresses n t ps vs h = zip_weaker (λ (p : Place) (x : Value). value t p ≡ word_of addresses x) (λ (p : Place) (x : Value). value (moved n t) p ≡ word_of addresses x) (λ p x k. value_moved n t p ∙ k) ps vs h

args_moved : (st : Setting) (addresses : ℕ → ℕ) (n : ℕ) (t : State) (args : List Arg) (vs : List Value) → ArgsStand st addresses t args vs → ArgsStand st addresses (moved n t) args vs
args_moved st addresses n t args vs h = zip_weaker (λ (a : Arg) (x : Value). read t (operand_of st a) ≡ word_of addresses x) (λ (a : Arg) (x : Value). read (moved n t) (operand_of st a) ≡ word_of addresses x) (λ a x k. read_moved n t (operand_of st a) ∙ k) args vs h

leaves_moved : (st : Setting) (op : OptOp) (l : Leave) (n : ℕ) (t : State) → LeavesWith st op l t → LeavesWith st op l (moved n t)
leaves_moved st (opt.Plain operation r args d) (Fails k vs w) n t h = h
leaves_moved st (opt.Plain operation r args d) (Jumps vs w) n t h = h
leaves_moved st (opt.Plain operation r args d) (Finishes vs w) n t h = h
leaves_moved st (opt.Plain operation r args d) (Waits w) n t h = h
leaves_moved st (opt.Plain operation r args d) (Misfits w) n t h = h
leaves_moved st (opt.Plain operation r args d) (Wrong w) n t h = h
leaves_moved st (opt.Guard operation args m snap) (Fails k vs w) n t h = (h.0, boxes_moved st.at (address_of w.objects) n t (parts_of snap) vs h.1)
leaves_moved st (opt.Guard operation args m snap) (Jumps vs w) n t h = h
leaves_moved st (opt.Guard operation args m snap) (Finishes vs w) n t h = h
leaves_moved st (opt.Guard operation args m snap) (Waits w) n t h = h
leaves_moved st (opt.Guard operation args m snap) (Misfits w) n t h = h
leaves_moved st (opt.Guard operation args m snap) (Wrong w) n t h = h
leaves_moved st (opt.Exit m snap) (Fails k vs w) n t h = (h.0, boxes_moved st.at (address_of w.objects) n t (parts_of snap) vs h.1)
leaves_moved st (opt.Exit m snap) (Jumps vs w) n t h = h
leaves_moved st (opt.Exit m snap) (Finishes vs w) n t h = h
leaves_moved st (opt.Exit m snap) (Waits w) n t h = h
leaves_moved st (opt.Exit m snap) (Misfits w) n t h = h
leaves_moved st (opt.Exit m snap) (Wrong w) n t h = h
leaves_moved st (opt.Jump to args) (Fails k vs w) n t h = h
leaves_moved st (opt.Jump to args) (Jumps vs w) n t h = places_moved (address_of w.objects) n t st.to vs h
leaves_moved st (opt.Jump to args) (Finishes vs w) n t h = h
leaves_moved st (opt.Jump to args) (Waits w) n t h = h
leaves_moved st (opt.Jump to args) (Misfits w) n t h = h
leaves_moved st (opt.Jump to args) (Wrong w) n t h = h
leaves_moved st (opt.Finish value) (Fails k vs w) n t h = h
leaves_moved st (opt.Finish value) (Jumps vs w) n t h = h
leaves_moved st (opt.Finish value) (Finishes vs w) n t h = args_moved st (address_of w.objects) n t (finished value) vs h
leaves_moved st (opt.Finish value) (Waits w) n t h = h
leaves_moved st (opt.Finish value) (Misfits w) n t h = h
leaves_moved st (opt.Finish value) (Wrong w) n t h = h

left_moved : (st : Setting) (op : OptOp) (l : Leave) (n : ℕ) (t : State) → IsLeftSo st op l t → IsLeftSo st op l (moved n t)
left_moved st op l n t h = record { fit = fit_moved n t h.fit; arena = h.arena; prebuilts = h.prebuilts; parts = h.parts; with = leaves_moved st op l n t h.with; kinds = h.kinds }

-- ---- a stub

pub stubs_exit : StubExits → (host : Host) (set : TraceSet) (whole ps : List Piece) (settings : PieceId → Setting) (q : PieceId) (j : ℕ) (l : Leave) (c : Calls) (at common exit n : ℕ) (to : ℤ) (t : State)
    → LeftAt (settings q) (ops_at whole q) j l c t → exit < 2 ^ 32 → n ≡ 0x40000000 + at → target (0x40000000 + (at + sizes_of (puts (stub_code to exit)))) to ≡ 0x40000000 + common
    → Exits (model_of host set whole settings ps) q j l c at common exit to (moved n t)
stubs_exit law host set whole ps settings q j l c at common exit n to t (op, named, left, calls) small here goes =
    let x = law at common exit to (moved n t) small (fit_moved n t left.fit) here goes in
    record {
      path = x.path;
      few = x.few;
      t = x.t;
      spots = λ f. absurd f;
      along = x.along;
      returned = x.returned;
      number = x.number;
      gone = (moved n t, (op, named, left_moved (settings q) op l n t left, calls), x.places, x.same);
    }

-- ---- another piece

jump_places : (st : Setting) (op : OptOp) (vs : List Value) (w : World) (t : State) → LeavesWith st op (Jumps vs w) t → PlacesStand (address_of w.objects) t st.to vs
jump_places st (opt.Plain operation r args d) vs w t h = absurd h
jump_places st (opt.Guard operation args m snap) vs w t h = absurd h
jump_places st (opt.Exit m snap) vs w t h = absurd h
jump_places st (opt.Jump to args) vs w t h = h
jump_places st (opt.Finish value) vs w t h = absurd h

pub jumps_hold : LabelHolds → LabelStands → (whole ps : List Piece) (settings : PieceId → Setting) (q r : PieceId) (j : ℕ) (vs : List Value) (w : World) (c : Calls) (n : ℕ) (t : State)
    → (settings r).table ≡ (settings q).table → AllZip (λ (p : Place) (b : BoxId). (settings r).at b.number ≡ p) (settings q).to (label_at ps r)
    → LeftAt (settings q) (ops_at whole q) j (Jumps vs w) c t → StaysReady (settings r).table (ops_at whole r) (begin_at ps r vs w)
    → HoldsAt (settings r) (ops_at whole r) 0 (begin_at ps r vs w) c (moved n t)
jumps_hold holds stands whole ps settings q r j vs w c n t table label (op, named, left, calls) ready =
    let st = settings r in
    let there = places_moved (address_of w.objects) n t (settings q).to vs (jump_places (settings q) op vs w t left.with) in
    let boxes = stands st (settings q).to (label_at ps r) (address_of w.objects) vs (moved n t) label there in
    let arena = subst (λ (x : Table). Stands x w.objects t.arena) (sym table) left.arena in
    let prebuilts = subst (λ (x : Table). PrebuiltsStand x w.objects) (sym table) left.prebuilts in
    (holds st (label_at ps r) (ops_at whole r) vs w (moved n t) (fit_moved n t left.fit) arena prebuilts left.parts boxes, calls, ready)

-- ---- a bridge

shown_boxes : (st : Setting) (op : OptOp) (k : ℕ) (vs : List Value) (w : World) (t : State) → LeavesWith st op (Fails k vs w) t → BoxesStand st.at (address_of w.objects) t (shown_by op) vs
shown_boxes st (opt.Plain operation r args d) k vs w t h = absurd h
shown_boxes st (opt.Guard operation args m snap) k vs w t h = h.1
shown_boxes st (opt.Exit m snap) k vs w t h = h.1
shown_boxes st (opt.Jump to args) k vs w t h = absurd h
shown_boxes st (opt.Finish value) k vs w t h = absurd h

brought : (to from : Where) (addresses : ℕ → ℕ) (t u : State) (shown label : List BoxId) (vs : List Value) → AllZip (λ (a b : BoxId). value u (to b.number) ≡ value t (from a.number)) shown label → BoxesStand from addresses t shown vs → BoxesStand to addresses u label vs
brought to from addresses t u [] [] vs e h = h
brought to from addresses t u (a ∷ shown) (b ∷ label) (x ∷ vs) e h = (e.0 ∙ h.0, brought to from addresses t u shown label vs e.1 h.1)
brought to from addresses t u [] (b ∷ label) vs e h = absurd e
brought to from addresses t u (a ∷ shown) [] vs e h = absurd e
brought to from addresses t u (a ∷ shown) (b ∷ label) [] e h = absurd h

abbrev op_or : OptOp → Option OptOp → OptOp
op_or d None = d
op_or d (Some op) = op

pub guards_hold : LabelHolds → (whole ps : List Piece) (settings : PieceId → Setting) (q r : PieceId) (j k : ℕ) (op : OptOp) (vs : List Value) (w : World) (c : Calls) (t u : State)
    → (settings r).table ≡ (settings q).table → slice_get (ops_at whole q) j ≡ Some op → LeftAt (settings q) (ops_at whole q) j (Fails k vs w) c t
    → IsFit u → SameArena t u → AllZip (λ (a b : BoxId). value u ((settings r).at b.number) ≡ value t ((settings q).at a.number)) (shown_by op) (label_at ps r)
    → StaysReady (settings r).table (ops_at whole r) (begin_at ps r vs (failed w)) → HoldsAt (settings r) (ops_at whole r) 0 (begin_at ps r vs (failed w)) c u
guards_hold holds whole ps settings q r j k op vs w c t u table there (op2, named, left, calls) fit same moves ready =
    let st = settings r in
    let one : op2 ≡ op = ap (op_or op) (sym named ∙ there) in
    let with = subst (λ (x : OptOp). LeavesWith (settings q) x (Fails k vs w) t) one left.with in
    let boxes = brought st.at (settings q).at (address_of w.objects) t u (shown_by op) (label_at ps r) vs moves (shown_boxes (settings q) op k vs w t with) in
    let arena = subst (λ (x : Table). Stands x w.objects u.arena) (sym table) (subst (λ (a : Arena). Stands (settings q).table w.objects a) (sym same.arena) left.arena) in
    let prebuilts = subst (λ (x : Table). PrebuiltsStand x w.objects) (sym table) left.prebuilts in
    (holds st (label_at ps r) (ops_at whole r) vs (failed w) u fit arena prebuilts left.parts boxes, record { log = calls.log; answers = calls.answers }, ready)
