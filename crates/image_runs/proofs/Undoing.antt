-- The code with chosen attachments undone is an image of the others.
use Rattle.std.proofs.Common.{◌≡◌, ℕ, ◌+◌, Bool, true, false, cond, List, [], ◌∷◌, ◌++◌, length, refl, sym, ap, ◌∙◌, subst, inl, inr, arith, Option, Some, None}
use Rattle.std.specs.Prelude.{option_and_then}
use Rattle.std.specs.List.{Contains}
use Rattle.lists.specs.Has.{Has}
use Rattle.x64_machine.specs.State.{target}
use Rattle.asm_select.specs.Slots.{Slot, Jumps, sizes_of, size_of}
use Rattle.trace_ops.specs.declared.piece.PieceId.{PieceId}
use Rattle.trace_ops.specs.declared.piece.OptOp.{OptOp}
use Rattle.trace_ops.specs.declared.trace.Trace.{Trace}
use Rattle.image_runs.specs.Bridges.{attached_bridge}
use Rattle.guard_exit.specs.declared.row.ExitRow.{ExitRow}
use Rattle.image_runs.specs.Reached.{IsJumpOf}
use Rattle.image_runs.specs.Selection.{Exit, Guarded, Jumping, Finishing, Inside, Model, Placed, exit_of}
use Rattle.image_runs.specs.Image.{Image, ToStub, ToBridge, ToPiece, GuardLeads, Leads, JumpAt, IsImage}
use Rattle.image_runs.specs.Undone.{kept_bridges, undone, Undoes}
use Rattle.image_runs.proofs.Attachment.{none_no, value_or, exit_no, guard_in}
use Rattle.image_runs.proofs.Bytes.{length-bytes}
use Rattle.trace_meaning.specs.Cuts.{is_bridge_of}
use Rattle.opt_meaning.specs.Pieces.{ops_at, bridge_piece}

abbrev truth_no : Bool → ℕ
truth_no true = 1
truth_no false = 0

abbrev if_kept : (ℕ → Bool) → Option ℕ → Option ℕ
if_kept keeps None = None
if_kept keeps (Some b) = cond (keeps b) (Some b) None

none_kept : (g : List Trace) (keeps : ℕ → Bool) (bs : List ℕ) (p n : ℕ) → ((b : ℕ) → Has bs b → is_bridge_of g p n b ≡ true → keeps b ≡ false) → attached_bridge g (kept_bridges keeps bs) p n ≡ None
none_kept g keeps [] p n h = refl
none_kept g keeps (c ∷ cs) p n h = by_keep (keeps c) (is_bridge_of g p n c) refl refl (none_kept g keeps cs p n (λ b i e. h b (inr i) e))
  where
    by_keep : (x y : Bool) → keeps c ≡ x → is_bridge_of g p n c ≡ y → attached_bridge g (kept_bridges keeps cs) p n ≡ None → attached_bridge g (cond x (c ∷ kept_bridges keeps cs) (kept_bridges keeps cs)) p n ≡ None
    by_keep false y k i rest = rest
    by_keep true true k i rest = absurd (let z : 1 ≡ 0 = ap truth_no (sym k ∙ h c (inl refl) i) in omega (arith, z))
    by_keep true false k i rest = ap (λ (b : Bool). cond b (Some c) (attached_bridge g (kept_bridges keeps cs) p n)) i ∙ rest

attached_kept : (g : List Trace) (keeps : ℕ → Bool) (bs : List ℕ) (p n : ℕ) → ((b c : ℕ) → Has bs b → Has bs c → is_bridge_of g p n b ≡ true → is_bridge_of g p n c ≡ true → b ≡ c) → attached_bridge g (kept_bridges keeps bs) p n ≡ if_kept keeps (attached_bridge g bs p n)
attached_kept g keeps [] p n one = refl
attached_kept g keeps (c ∷ cs) p n one = by_keep (keeps c) (is_bridge_of g p n c) refl refl (attached_kept g keeps cs p n (λ x y i j e f. one x y (inr i) (inr j) e f))
  where
    by_keep : (x y : Bool) → keeps c ≡ x → is_bridge_of g p n c ≡ y → attached_bridge g (kept_bridges keeps cs) p n ≡ if_kept keeps (attached_bridge g cs p n) → attached_bridge g (cond x (c ∷ kept_bridges keeps cs) (kept_bridges keeps cs)) p n ≡ if_kept keeps (cond y (Some c) (attached_bridge g cs p n))
    by_keep true true k i rest = ap (λ (b : Bool). cond b (Some c) (attached_bridge g (kept_bridges keeps cs) p n)) i ∙ ap (λ (b : Bool). cond b (Some c) None) (sym k)
    by_keep true false k i rest = ap (λ (b : Bool). cond b (Some c) (attached_bridge g (kept_bridges keeps cs) p n)) i ∙ rest
    by_keep false true k i rest = none_kept g keeps cs p n (λ b j e. ap keeps (one b c (inr j) (inl refl) e i) ∙ k) ∙ ap (λ (b : Bool). cond b (Some c) None) (sym k)
    by_keep false false k i rest = rest

in_kept : (keeps : ℕ → Bool) (bs : List ℕ) (b : ℕ) → Has (kept_bridges keeps bs) b → Has bs b
in_kept keeps [] b h = h
in_kept keeps (c ∷ cs) b h = by_keep (keeps c) (in_kept keeps cs b) h
  where
    by_keep : (x : Bool) → (Has (kept_bridges keeps cs) b → Has cs b) → Has (cond x (c ∷ kept_bridges keeps cs) (kept_bridges keeps cs)) b → Has (c ∷ cs) b
    by_keep true go (inl e) = inl e
    by_keep true go (inr i) = inr (go i)
    by_keep false go i = inr (go i)

module _ (m : Model) (g : Image) (bs : List ℕ) (rows : List ExitRow) (image : IsImage m g bs rows) (keeps : ℕ → Bool) (by : Jumps) (z : Undoes m g bs keeps by) where
  abbrev old : Image
  old = undone g by

  abbrev left : List ℕ
  left = kept_bridges keeps bs

  stub_same : (pl : Placed) (j next : ℕ) → by (pl.key + j) ≡ g.by (pl.key + j) → ToStub m g pl j next → ToStub m old pl j next
  stub_same pl j next same y = record { goes = ap (target next) same ∙ y.goes; here = y.here; exits = y.exits }

  bridge_same : (pl : Placed) (j n : ℕ) (r : PieceId) (next : ℕ) → by (pl.key + j) ≡ g.by (pl.key + j) → ToBridge m g pl j n r next → ToBridge m old pl j n r next
  bridge_same pl j n r next same y = record { to = y.to; there = y.there; named = y.named; goes = ap (target next) same ∙ y.goes; enters = y.enters }

  piece_same : (pl : Placed) (j next : ℕ) → by (pl.key + j) ≡ g.by (pl.key + j) → ToPiece m g pl j next → ToPiece m old pl j next
  piece_same pl j next same y = record { to = y.to; there = y.there; named = y.named; goes = ap (target next) same ∙ y.goes; enters = y.enters }

  guard_same : (pl : Placed) (j n next : ℕ) → by (pl.key + j) ≡ g.by (pl.key + j) → (o : Option PieceId) → GuardLeads m g pl j n next o → GuardLeads m old pl j n next o
  guard_same pl j n next same None y = stub_same pl j next same y
  guard_same pl j n next same (Some r) y = bridge_same pl j n r next same y

  leads_old : (pl : Placed) → Contains g.placed pl → (done rest : List OptOp) (op : OptOp) (front behind : List Slot) (x : Slot) → ops_at m.pieces pl.id ≡ done ++ op ∷ rest → g.slots ≡ front ++ x ∷ behind → IsJumpOf x (pl.key + length done)
      → (e : Exit) → exit_of op ≡ e → Leads m g bs pl (length done) (0x40000000 + (sizes_of front + size_of x)) e → Leads m old left pl (length done) (0x40000000 + (sizes_of front + size_of x)) e
  leads_old pl there done rest op front behind x ops split jump (Guarded n) is y = subst (λ (o : Option ℕ). GuardLeads m old pl (length done) n (0x40000000 + (sizes_of front + size_of x)) (option_and_then (bridge_piece m.pieces pl.id.half) o)) (sym (attached_kept m.set.traces keeps bs pl.id.trace n (z.one pl.id.trace n))) (by_bridge (attached_bridge m.set.traces bs pl.id.trace n) refl y)
    where
      number_is : (i : ℕ) → exit_of op ≡ Guarded i → i ≡ n
      number_is i f = ap guard_in (sym f ∙ is)

      kept_one : (i b c : ℕ) → keeps b ≡ true → exit_of op ≡ Guarded i → attached_bridge m.set.traces bs pl.id.trace i ≡ Some c → attached_bridge m.set.traces bs pl.id.trace n ≡ Some b → keeps c ≡ true
      kept_one i b c k f h e = ap keeps (ap (value_or b) (sym h ∙ ap (attached_bridge m.set.traces bs pl.id.trace) (number_is i f) ∙ e)) ∙ k

      none_one : (i c : ℕ) → exit_of op ≡ Guarded i → attached_bridge m.set.traces bs pl.id.trace i ≡ Some c → attached_bridge m.set.traces bs pl.id.trace n ≡ None → keeps c ≡ true
      none_one i c f h e = absurd (let k : 0 ≡ 1 = ap none_no (sym h ∙ ap (attached_bridge m.set.traces bs pl.id.trace) (number_is i f) ∙ e) in omega (arith, k))

      by_keep : (b : ℕ) (w : Bool) → keeps b ≡ w → attached_bridge m.set.traces bs pl.id.trace n ≡ Some b → GuardLeads m g pl (length done) n (0x40000000 + (sizes_of front + size_of x)) (option_and_then (bridge_piece m.pieces pl.id.half) (Some b)) → GuardLeads m old pl (length done) n (0x40000000 + (sizes_of front + size_of x)) (option_and_then (bridge_piece m.pieces pl.id.half) (cond w (Some b) None))
      by_keep b true k e u =
          guard_same pl (length done) n (0x40000000 + (sizes_of front + size_of x)) (z.same pl there done rest op ops (λ i c f h. kept_one i b c k f h e)) (option_and_then (bridge_piece m.pieces pl.id.half) (Some b)) u
      by_keep b false k e u = z.stubs pl there done rest op n b front behind x ops is e k split jump

      by_bridge : (o : Option ℕ) → attached_bridge m.set.traces bs pl.id.trace n ≡ o → GuardLeads m g pl (length done) n (0x40000000 + (sizes_of front + size_of x)) (option_and_then (bridge_piece m.pieces pl.id.half) o) → GuardLeads m old pl (length done) n (0x40000000 + (sizes_of front + size_of x)) (option_and_then (bridge_piece m.pieces pl.id.half) (if_kept keeps o))
      by_bridge None e u = guard_same pl (length done) n (0x40000000 + (sizes_of front + size_of x)) (z.same pl there done rest op ops (λ i c f h. none_one i c f h e)) None u
      by_bridge (Some b) e u = by_keep b (keeps b) refl e u
  leads_old pl there done rest op front behind x ops split jump Jumping is y =
      piece_same pl (length done) _ (z.same pl there done rest op ops (λ n b e f. absurd (let k : 2 ≡ 1 = ap exit_no (sym is ∙ e) in omega (arith, k)))) y
  leads_old pl there done rest op front behind x ops split jump Finishing is y =
      stub_same pl (length done) _ (z.same pl there done rest op ops (λ n b e f. absurd (let k : 3 ≡ 1 = ap exit_no (sym is ∙ e) in omega (arith, k)))) y
  leads_old pl there done rest op front behind x ops split jump Inside is y = tt

  abbrev jump_old : (e : ℕ) → JumpAt g e → JumpAt old e
  jump_old e j = record { front = j.front; slot = j.slot; behind = j.behind; split = j.split; jump = j.jump }

  -- the code with chosen attachments undone is an image of the others
  pub undone_is_image : IsImage m old left rows
  undone_is_image = record {
    have = z.have;
    small = omega (arith, image.small, length-bytes g.by g.slots, length-bytes by g.slots);
    pieces = λ pl there. (let y = image.pieces pl there in record {
      here = y.here;
      does = y.does;
      exits = y.exits;
      leads = λ done rest op front behind x ops split jump. leads_old pl there done rest op front behind x ops split jump (exit_of op) refl (y.leads done rest op front behind x ops split jump);
    });
    common = image.common;
    rows_are = record {
      each = λ row inside of_guard. (let y = image.rows_are.each row inside of_guard in (y.0, y.1, jump_old y.0 y.2, y.3, y.4));
      guards = λ e n x is. image.rows_are.guards e n (record { front = x.front; slot = x.slot; behind = x.behind; split = x.split; jump = x.jump }) is;
      finishes = λ e x is. image.rows_are.finishes e (record { front = x.front; slot = x.slot; behind = x.behind; split = x.split; jump = x.jump }) is;
      one = image.rows_are.one;
    };
    closed = record {
      targets = image.closed.targets;
      bridges = λ q r n b h i e f. image.closed.bridges q r n b h (in_kept keeps bs b i) e f;
    };
  }
