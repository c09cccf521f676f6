-- Each row of an image tells what is shown.
use Rattle.std.proofs.Common.{◌≡◌, ℕ, ◌+◌, ◌-◌, Bool, true, false, cond, ◌==◌, List, [], ◌∷◌, ◌++◌, Option, Some, None, length, refl, ap, sym, ◌∙◌, subst, arith, inl, inr}
use Rattle.std.specs.Prelude.{slice_get, ◌↔◌, IsTrue}
use Rattle.std.specs.List.{Contains, flat_map}
use Rattle.std.proofs.lemmas.Bool.{eqb-true, eq-eqb}
use Rattle.lists.specs.Has.{Has}
use Rattle.lists.proofs.Membership.{has_left, has_right, has_at, has_map}
use Rattle.trace_ops.specs.InRange.{IsTableInRange}
use Rattle.trace_ops.specs.Parts.{boxes_of, boxes_of_arg, parts_of}
use Rattle.trace_ops.specs.Pieces.{guards_of, is_end}
use Rattle.trace_ops.specs.Sound.{AreApart, IsFormed, IsSound}
use Rattle.trace_ops.specs.declared.trace.BoxId.{BoxId}
use Rattle.trace_ops.specs.declared.trace.Arg.{Arg}
use Rattle.trace_ops.specs.declared.trace.TraceSet.{TraceSet}
use Rattle.trace_ops.specs.declared.piece.PieceId.{PieceId}
use Rattle.trace_ops.specs.declared.piece.Snapshot.{Snapshot}
use Rattle.trace_ops.specs.declared.piece.OptOp.{OptOp}
use Rattle.trace_ops.specs.declared.piece.OptOp.TheVariants as opt
use Rattle.trace_ops.specs.declared.piece.Piece.{Piece}
use Rattle.trace_meaning.specs.Boxes.{BoxesDecide}
use Rattle.guard_exit.specs.declared.row.ExitRow.{ExitRow}
use Rattle.opt_meaning.specs.Pieces.{all_pieces, ops_at, last_of}
use Rattle.opt_meaning.specs.Rebuilding.{snapshot_of, or_later, snapshot_in}
use Rattle.resume_numbering.specs.Uses.{Guarded, guarded_by, guarded}
use Rattle.resume_rebuild.specs.Guarding.{PlacesTellKinds}
use Rattle.session_host.specs.Showing.{finish_of}
use Rattle.bridge_patch.specs.declared.image.PieceHere.{PieceHere}
use Rattle.bridge_patch.specs.Pieces.{Placed, rows_of_op, all_rows, boxes_at, finished_boxes}
use Rattle.bridge_patch.specs.Image.{Imaged, AreHere, IsHere}
use Rattle.opt_set.specs.Optimised.{Optimised, OptimisedAreSound}
use Rattle.set_in_image.specs.Placing.{IsPlaced}
use Rattle.run_session.specs.Keeping.{RebuildsBy, Serves, IsServed}
use Rattle.run_session.proofs.Served.{TellsNames, AreOnce, Standing, standing, served, piece_of, each_of, heres_once, has_of, contains_of}
use Rattle.run_session.proofs.Rows.{piece_of_row, op_of_row, ops_at_once}
use Rattle.run_session.proofs.Parts.{UsesSnapshot, each_placed, parts_apart}
use Rattle.run_session.proofs.Rebuilds.{rebuilds_by}

-- ---- the snapshot of a guard

guard_has : (ops : List OptOp) (op : OptOp) (n : ℕ) → Has ops op → Has (guards_of op) n → Has (flat_map guards_of ops) n
guard_has [] op n h w = absurd h
guard_has (x ∷ ops) op n (inl e) w = has_left (guards_of x) (flat_map guards_of ops) n (subst (λ (y : OptOp). Has (guards_of y) n) (sym e) w)
guard_has (x ∷ ops) op n (inr h) w = has_right (guards_of x) (flat_map guards_of ops) n (guard_has ops op n h w)

-- an operation behind one that isn't guard n
past : (n : ℕ) (x : OptOp) (ops : List OptOp) (snap : Snapshot) → (Has (guards_of x) n → ⊥) → snapshot_in ops n ≡ Some snap → snapshot_in (x ∷ ops) n ≡ Some snap
past n (opt.Plain code res args descr) ops snap other e = e
past n (opt.Jump to args) ops snap other e = e
past n (opt.Finish value) ops snap other e = e
past n (opt.Guard code args m s) ops snap other e = by (m == n) refl
  where
    by : (b : Bool) → (m == n) ≡ b → or_later (cond b (Some s) None) (snapshot_in ops n) ≡ Some snap
    by true q = absurd (other (inl (eqb-true m n q)))
    by false q = e
past n (opt.Exit m s) ops snap other e = by (m == n) refl
  where
    by : (b : Bool) → (m == n) ≡ b → or_later (cond b (Some s) None) (snapshot_in ops n) ≡ Some snap
    by true q = absurd (other (inl (eqb-true m n q)))
    by false q = e

apart_later : (x : OptOp) (more : List ℕ) → AreApart (guards_of x ++ more) → AreApart more
apart_later (opt.Plain code res args descr) more h = h
apart_later (opt.Jump to args) more h = h
apart_later (opt.Finish value) more h = h
apart_later (opt.Guard code args m s) more h = h.1
apart_later (opt.Exit m s) more h = h.1

apart_first : (x : OptOp) (more : List ℕ) (n : ℕ) → AreApart (guards_of x ++ more) → Has more n → Has (guards_of x) n → ⊥
apart_first (opt.Plain code res args descr) more n h w z = z
apart_first (opt.Jump to args) more n h w z = z
apart_first (opt.Finish value) more n h w z = z
apart_first (opt.Guard code args m s) more n h w (inl e) = h.0 (contains_of more m (subst (Has more) (sym e) w))
apart_first (opt.Guard code args m s) more n h w (inr z) = z
apart_first (opt.Exit m s) more n h w (inl e) = h.0 (contains_of more m (subst (Has more) (sym e) w))
apart_first (opt.Exit m s) more n h w (inr z) = z

snapshot_once : (ops : List OptOp) (op : OptOp) (n : ℕ) (snap : Snapshot) → AreApart (flat_map guards_of ops) → Has ops op → Has (guards_of op) n → snapshot_of n op ≡ Some snap → snapshot_in ops n ≡ Some snap
snapshot_once [] op n snap apart h w e = absurd h
snapshot_once (x ∷ ops) op n snap apart (inl same) w e = ap (λ (o : Option Snapshot). or_later o (snapshot_in ops n)) (ap (snapshot_of n) same ∙ e)
snapshot_once (x ∷ ops) op n snap apart (inr h) w e =
    past n x ops snap (apart_first x (flat_map guards_of ops) n apart (guard_has ops op n h w)) (snapshot_once ops op n snap (apart_later x (flat_map guards_of ops) apart) h w e)

guarded_has : (ops : List OptOp) (op : OptOp) (g : Guarded) → Has ops op → Has (guarded_by op) g → Has (guarded ops) g
guarded_has [] op g h w = absurd h
guarded_has (x ∷ ops) op g (inl e) w = has_left (guarded_by x) (guarded ops) g (subst (λ (y : OptOp). Has (guarded_by y) g) (sym e) w)
guarded_has (x ∷ ops) op g (inr h) w = has_right (guarded_by x) (guarded ops) g (guarded_has ops op g h w)

-- ---- the finish of a piece

finish_last : (ops : List OptOp) (value : Option Arg) → ((k : ℕ) (op : OptOp) → slice_get ops k ≡ Some op → IsTrue (is_end op) ↔ (k + 1 ≡ length ops)) → Has ops (opt.Finish value) → finish_of (last_of ops) ≡ Some value
finish_last ops value ends h =
    let at = has_at ops (opt.Finish value) h in
    let last : at.0 + 1 ≡ length ops = (ends at.0 (opt.Finish value) at.1).0 refl in
    let place : length ops - 1 ≡ at.0 = omega (arith, last) in
    ap finish_of (ap (slice_get ops) place ∙ at.1)

-- ---- a placed piece

here_of : (pls : List Placed) (heres : List PieceHere) (pl : Placed) → AreHere pls heres → Has pls pl → (here : PieceHere) × Has heres here × IsHere pl here
here_of [] heres pl are h = absurd h
here_of (x ∷ pls) [] pl are h = absurd are
here_of (x ∷ pls) (here ∷ heres) pl are (inl e) = (here, inl refl, subst (λ (y : Placed). IsHere y here) e are.0)
here_of (x ∷ pls) (here ∷ heres) pl are (inr h) = let r = here_of pls heres pl are.1 h in (r.0, inr r.1, r.2)

-- what is known of a piece of an image
record KnownPiece (set : TraceSet) (ps : List Piece) (heres : List PieceHere) (pl : Placed) : Type 0 where
  label_of : PieceId → Option (List BoxId)
  formed : IsFormed set label_of pl.piece
  ops : ops_at ps pl.piece.id ≡ pl.piece.ops
  here : PieceHere
  there : Has heres here
  is : IsHere pl here
  once : (h : PieceHere) → Contains heres h → h.id ≡ pl.piece.id → here ≡ h

module _ (decide : BoxesDecide) (kinds : PlacesTellKinds) (set : TraceSet) (range : IsTableInRange set.table) (ps : List Piece) (heres : List PieceHere) (pl : Placed) (known : KnownPiece set ps heres pl) where
  -- a guard or an exit
  guard_serves : (op : OptOp) (n : ℕ) (snap : Snapshot) (exit at : ℕ) → Has pl.piece.ops op → Has (guards_of op) n → snapshot_of n op ≡ Some snap → Has (guarded_by op) (record { guard = n; snap = snap }) → UsesSnapshot op snap
      → Serves set.table ps heres (record { exit = exit; id = pl.piece.id; guard = Some n; at = at; places = boxes_at pl.setting.at (parts_of snap) }) (Some n)
  guard_serves op n snap exit at h w e g uses =
      let found = snapshot_once pl.piece.ops op n snap known.formed.guards_distinct h w e in
      let place = has_at (guarded pl.piece.ops) (record { guard = n; snap = snap }) (guarded_has pl.piece.ops op (record { guard = n; snap = snap }) h g) in
      let own : RebuildsBy set.table known.here.table n snap = rebuilds_by set.table known.here.table pl.piece place.0 (record { guard = n; snap = snap }) range known.is.table known.formed.rows_named.snapshots place.1 in
      let stands = has_at pl.piece.ops op h in
      let apart = parts_apart decide pl.setting.at pl.piece stands.0 op snap known.formed.boxes_numbered (known.formed.boxes_defined stands.0 op stands.1) uses in (
        snap,
        ap (λ (ops : List OptOp). snapshot_in ops n) known.ops ∙ found,
        record {
          here = known.here;
          there = contains_of heres known.here known.there;
          named = known.is.id;
          each = λ x c same. subst (λ (y : PieceHere). RebuildsBy set.table y.table n snap) (known.once x c same) own;
          placed = kinds (boxes_at pl.setting.at (parts_of snap)) snap apart (each_placed decide pl.setting.at snap);
        },
      )

  finish_serves : (value : Option Arg) (exit : ℕ) → Has pl.piece.ops (opt.Finish value)
      → Serves set.table ps heres (record { exit = exit; id = pl.piece.id; guard = None; at = 0; places = boxes_at pl.setting.at (finished_boxes value) }) None
  finish_serves value exit h = (value, ap (λ (ops : List OptOp). finish_of (last_of ops)) known.ops ∙ finish_last pl.piece.ops value known.formed.ends_once h)

  op_serves : (op : OptOp) (exit at : ℕ) (row : ExitRow) → Has pl.piece.ops op → Has (rows_of_op pl.setting.at pl.piece.id exit at op) row → Serves set.table ps heres row row.guard
  op_serves (opt.Plain code res args descr) exit at row h w = absurd w
  op_serves (opt.Jump to args) exit at row h w = absurd w
  op_serves (opt.Guard code args n snap) exit at row h (inr w) = absurd w
  op_serves (opt.Exit n snap) exit at row h (inr w) = absurd w
  op_serves (opt.Finish value) exit at row h (inr w) = absurd w
  op_serves (opt.Guard code args n snap) exit at row h (inl e) =
      subst (λ (r : ExitRow). Serves set.table ps heres r r.guard) e
      (guard_serves (opt.Guard code args n snap) n snap exit at h (inl refl) (ap (λ (b : Bool). cond b (Some snap) None) (eq-eqb n n refl)) (inl refl) (λ b z. has_right (flat_map boxes_of_arg args) (boxes_of snap ++ []) b (has_left (boxes_of snap) [] b z)))
  op_serves (opt.Exit n snap) exit at row h (inl e) =
      subst (λ (r : ExitRow). Serves set.table ps heres r r.guard) e
      (guard_serves (opt.Exit n snap) n snap exit at h (inl refl) (ap (λ (b : Bool). cond b (Some snap) None) (eq-eqb n n refl)) (inl refl) (λ b z. has_left (boxes_of snap) [] b z))
  op_serves (opt.Finish value) exit at row h (inl e) = subst (λ (r : ExitRow). Serves set.table ps heres r r.guard) e (finish_serves value exit h)

-- ---- the image

known_piece : TellsNames → (set : TraceSet) (ps : List Piece) (image : Imaged) → (s : Standing set ps image) (pl : Placed) → Has s.placed pl → KnownPiece set ps image.pieces pl
known_piece names set ps image s pl h =
    let there : Has ps pl.piece = subst (λ (l : List Piece). Has l pl.piece) s.pieces (has_map piece_of s.placed pl h) in
    let r = here_of s.placed image.pieces pl s.heres h in record {
      label_of = s.label_of;
      formed = (each_of (IsSound set s.label_of) ps pl.piece s.sound there).formed;
      ops = ops_at_once names ps pl.piece s.once there;
      here = r.0;
      there = r.1;
      is = r.2;
      once = λ x c e. heres_once names s.placed image.pieces r.0 x (subst AreOnce (sym s.pieces) s.once) s.heres r.1 (has_of image.pieces x c) (r.2.id ∙ sym e);
    }

rows_serve : TellsNames → BoxesDecide → PlacesTellKinds → (set : TraceSet) (ps : List Piece) (image : Imaged) → Standing set ps image
    → (row : ExitRow) → Contains image.exits row → Serves set.table ps image.pieces row row.guard
rows_serve names decide kinds set ps image s row c =
    let w : Has (all_rows s.placed) row = subst (λ (l : List ExitRow). Has l row) s.exits (has_of image.exits row c) in
    let p = piece_of_row s.placed row w in
    let o = op_of_row p.pl.setting.at p.pl.piece.id _ p.pl.exit 0 p.pl.piece.ops row p.has in
    op_serves decide kinds set s.range ps image.pieces p.pl (known_piece names set ps image s p.pl p.there) o.op o.exit o.place row o.there o.has

-- the pieces of an optimised set are served in their image
pub placed_serves : TellsNames → BoxesDecide → PlacesTellKinds → OptimisedAreSound → (set : TraceSet) (o : Optimised) (image : Imaged) → IsPlaced set o image → IsServed set.table (all_pieces o.traces) image
placed_serves names decide kinds sounds set o image p =
    let s = standing names sounds set o image p in
    served names set (all_pieces o.traces) image s (rows_serve names decide kinds set (all_pieces o.traces) image s)
