-- An attachment keeps the image.
use Rattle.std.proofs.Common.{◌≡◌, ℕ, ◌+◌, Bool, true, false, cond, List, [], ◌∷◌, ◌++◌, length, refl, sym, ap, ◌∙◌, subst, inl, inr, ◌⊎◌, arith, ℤ, Option, Some, None}
use Rattle.std.specs.Prelude.{option_and_then}
use Rattle.std.specs.List.{Contains}
use Rattle.std.proofs.lemmas.List.Elements.{Contains-append_left, Contains-append_right, Contains-append_cases}
use Rattle.lists.specs.Has.{Has}
use Rattle.x64_encode.specs.declared.instr.Instr.TheVariants as instr
use Rattle.x64_machine.specs.State.{State, target}
use Rattle.asm_select.specs.Slots.{Slot, Put, sizes_of, size_of, puts}
use Rattle.guard_exit.specs.Codes.{stub_code, common_code}
use Rattle.trace_meaning.specs.World.{World, failed}
use Rattle.trace_meaning.specs.Legs.{Leave as Left, Fails, Jumps, Finishes, Waits, Misfits, Wrong, Turn, On, Off}
use Rattle.trace_ops.specs.declared.piece.PieceId.{PieceId}
use Rattle.trace_ops.specs.declared.piece.OptOp.{OptOp}
use Rattle.opt_meaning.specs.Step.{Opt, opt_step}
use Rattle.trace_ops.specs.declared.trace.Trace.{Trace}
use Rattle.image_runs.specs.Bridges.{attached_bridge, attached_piece}
use Rattle.guard_exit.specs.declared.row.ExitRow.{ExitRow}
use Rattle.image_runs.specs.Counted.{IsGuards}
use Rattle.image_runs.specs.Session.{Calls, Answered, Resumes, Stops}
use Rattle.image_runs.specs.Reached.{IsJumpOf}
use Rattle.image_runs.specs.Selection.{Exit, Guarded, Jumping, Finishing, Inside, Model, Placed, ComesOff, CallsHost, AnswerDoes, Does, PieceDoes, joined, code_of, start_of, exit_of}
use Rattle.image_runs.specs.Image.{Image, HasSlots, moved, Exits, ToStub, ToBridge, ToPiece, GuardLeads, Leads, IsPlaced, JumpAt, RowOf, RowsAre, IsImage, disp_in}
use Rattle.trace_ops.specs.declared.piece.Piece.{Piece}
use Rattle.image_runs.specs.Attached.{widened}
use Rattle.image_runs.specs.Attachment.{IsKey, SameKey, Attaches}
use Rattle.image_runs.proofs.Attaching.{has_grown, jump_grown}
use Rattle.image_runs.proofs.Ways.{weaker}
use Rattle.image_runs.proofs.Bytes.{sizes-append}
use Rattle.trace_meaning.specs.Cuts.{is_bridge_of}
use Rattle.image_runs.proofs.KeptPieces.{ops_same, begin_same, target_same}
use Rattle.opt_meaning.specs.Pieces.{ops_at, bridge_piece}

-- a slot of a list that was appended to is an old one, or an appended one
pub data Where (xs ys front behind : List Slot) (x : Slot) : Type 0 where
  Old : (back : List Slot) → xs ≡ front ++ x ∷ back → Where xs ys front behind x
  New : (head : List Slot) → ys ≡ head ++ x ∷ behind → front ≡ xs ++ head → Where xs ys front behind x

abbrev head_of : Slot → List Slot → Slot
head_of d [] = d
head_of d (x ∷ xs) = x

abbrev tail_of : List Slot → List Slot
tail_of [] = []
tail_of (x ∷ xs) = xs

abbrev longer : (y : Slot) (xs ys front behind : List Slot) (x : Slot) → Where xs ys front behind x → Where (y ∷ xs) ys (y ∷ front) behind x
longer y xs ys front behind x (Old back e) = Old back (ap (λ (l : List Slot). y ∷ l) e)
longer y xs ys front behind x (New head e f) = New head e (ap (λ (l : List Slot). y ∷ l) f)

pub slot_in : (xs ys front behind : List Slot) (x : Slot) → xs ++ ys ≡ front ++ x ∷ behind → Where xs ys front behind x
slot_in [] ys front behind x e = New front e refl
slot_in (y ∷ xs) ys [] behind x e =
    let h : y ≡ x = ap (head_of x) e in
    Old xs (ap (λ (z : Slot). z ∷ xs) h)
slot_in (y ∷ xs) ys (z ∷ front) behind x e =
    let h : y ≡ z = ap (head_of y) e in
    let w = longer y xs ys front behind x (slot_in xs ys front behind x (ap tail_of e)) in
    subst (λ (u : Slot). Where (y ∷ xs) ys (u ∷ front) behind x) h w

abbrev pub exit_no : Exit → ℕ
exit_no (Guarded n) = 1
exit_no Jumping = 2
exit_no Finishing = 3
exit_no Inside = 4

abbrev pub guard_in : Exit → ℕ
guard_in (Guarded n) = n
guard_in e = 0

guard_no : {k n : ℕ} → Guarded k ≡ Guarded n → k ≡ n
guard_no e = ap guard_in e

-- ---- what is attached

abbrev pub none_no : Option ℕ → ℕ
none_no None = 1
none_no (Some y) = 0

abbrev pub value_or : ℕ → Option ℕ → ℕ
value_or d None = d
value_or d (Some y) = y

attached_more : (b : List Trace) (bs : List ℕ) (bridge p n : ℕ) → is_bridge_of b p n bridge ≡ false → attached_bridge b (bs ++ bridge ∷ []) p n ≡ attached_bridge b bs p n
attached_more b [] bridge p n e = ap (λ (x : Bool). cond x (Some bridge) None) e
attached_more b (c ∷ cs) bridge p n e = ap (λ (o : Option ℕ). cond (is_bridge_of b p n c) (Some c) o) (attached_more b cs bridge p n e)

attached_now : (b : List Trace) (bs : List ℕ) (bridge p n : ℕ) → is_bridge_of b p n bridge ≡ true → attached_bridge b bs p n ≡ None → attached_bridge b (bs ++ bridge ∷ []) p n ≡ Some bridge
attached_now b [] bridge p n e h = ap (λ (x : Bool). cond x (Some bridge) None) e
attached_now b (c ∷ cs) bridge p n e h = by_case (attached_now b cs bridge p n e) (is_bridge_of b p n c) h
  where
    by_case : (attached_bridge b cs p n ≡ None → attached_bridge b (cs ++ bridge ∷ []) p n ≡ Some bridge) → (x : Bool) → cond x (Some c) (attached_bridge b cs p n) ≡ None → cond x (Some c) (attached_bridge b (cs ++ bridge ∷ []) p n) ≡ Some bridge
    by_case go true k = absurd (let z : 0 ≡ 1 = ap none_no k in omega (arith, z))
    by_case go false k = go k

-- the first attached one is among those that are attached
pub attached_in : (b : List Trace) (bs : List ℕ) (p n x : ℕ) → attached_bridge b bs p n ≡ Some x → Has bs x
attached_in b [] p n x e = absurd (let z : 1 ≡ 0 = ap none_no e in omega (arith, z))
attached_in b (c ∷ cs) p n x e = by_case (attached_in b cs p n x) (is_bridge_of b p n c) e
  where
    by_case : (attached_bridge b cs p n ≡ Some x → Has cs x) → (y : Bool) → cond y (Some c) (attached_bridge b cs p n) ≡ Some x → Has (c ∷ cs) x
    by_case go true k = inl (ap (value_or c) k)
    by_case go false k = inr (go k)

module _ (m : Model) (p : List Piece) (g h : Image) (bs : List ℕ) (bridge : ℕ) (rows news : List ExitRow) (image : IsImage m g bs rows) (z : Attaches m p g h bs bridge rows news) where
  abbrev wide : Model
  wide = widened m p

  abbrev all : List ℕ
  all = bs ++ bridge ∷ []

  -- ---- what selection showed of a piece

  comes_wide : (pl : Placed) (j : ℕ) (op : OptOp) (xs : List Slot) (q : ℕ) (s : State) (c : Calls) (l : Left) → ComesOff m pl j op xs q s c l → ComesOff wide pl j op xs q s c l
  comes_wide pl j op xs q s c l y = record { slot = y.slot; behind = y.behind; reach = y.reach; kind = y.kind }

  calls_wide : (pl : Placed) (j : ℕ) (xs more : List Slot) (q : ℕ) (s : State) (c : Calls) (w : World) (turn : Turn Opt) → CallsHost m pl j xs more q s c w turn → CallsHost wide pl j xs more q s c w turn
  calls_wide pl j xs more q s c w turn y = record {
    register = y.register;
    rest = y.rest;
    reach = weaker q xs (Put (instr.CallReg y.register) ∷ y.rest) s (λ t k. (k.0, k.1, record { entry = k.2.entry; stopped = k.2.stopped; stops = k.2.stops; answered = λ o a. answer_wide k.0 k.2.stopped o (k.2.answered o a) })) y.reach;
  }
    where
      answer_wide : (at : ℕ) (s : State) (o : Answered) → AnswerDoes m pl j (at + size_of (Put (instr.CallReg y.register))) y.rest more w turn s o → AnswerDoes wide pl j (at + size_of (Put (instr.CallReg y.register))) y.rest more w turn s o
      answer_wide at s (Resumes d u) a = a
      answer_wide at s (Stops d end) a = a

  does_wide : (pl : Placed) (j : ℕ) (op : OptOp) (xs more : List Slot) (q : ℕ) (s : State) (c : Calls) (u : World) (turn : Turn Opt) → Does m pl j op xs more q s c u turn → Does wide pl j op xs more q s c u turn
  does_wide pl j op xs more q s c u (On after) (inl r) = inl r
  does_wide pl j op xs more q s c u (On after) (inr y) = inr (calls_wide pl j xs more q s c u (On after) y)
  does_wide pl j op xs more q s c u (Off (Fails n vs w)) y = comes_wide pl j op xs q s c (Fails n vs w) y
  does_wide pl j op xs more q s c u (Off (Jumps vs w)) y = comes_wide pl j op xs q s c (Jumps vs w) y
  does_wide pl j op xs more q s c u (Off (Finishes vs w)) y = comes_wide pl j op xs q s c (Finishes vs w) y
  does_wide pl j op xs more q s c u (Off (Waits w)) y = calls_wide pl j xs more q s c u (Off (Waits w)) y
  does_wide pl j op xs more q s c u (Off (Misfits w)) y = calls_wide pl j xs more q s c u (Off (Misfits w)) y
  does_wide pl j op xs more q s c u (Off (Wrong w)) y = tt

  piece_wide : (pl : Placed) → Contains g.placed pl → PieceDoes m pl → PieceDoes wide pl
  piece_wide pl there y =
      let same = ops_same p m.pieces pl.id (z.kept.placed pl there) in record {
        some = (y.some.0, y.some.1, same ∙ y.some.2);
        counts = ap length same ∙ y.counts;
        each = λ done rest op before more xs env c s ops codes eq holds at. does_wide pl (length before) op (xs ++ joined more) (joined more) (start_of pl + sizes_of (joined before)) s c env.world (opt_step m.set.table op env) (y.each done rest op before more xs env c s (sym same ∙ ops) codes eq holds at);
        ends = λ done op env after ops e. y.ends done op env after (sym same ∙ ops) e;
      }

  -- ---- where jumps lead

  key_of : (pl : Placed) → Contains g.placed pl → (done rest : List OptOp) (op : OptOp) → ops_at m.pieces pl.id ≡ done ++ op ∷ rest → IsKey m g (pl.key + length done)
  key_of pl there done rest op ops = record { pl = pl; there = there; done = done; op = op; rest = rest; ops = ops; key = refl }

  stub_wide : (pl : Placed) (j next : ℕ) → SameKey g h (pl.key + j) → h.by (pl.key + j) ≡ g.by (pl.key + j) → ToStub m g pl j next → ToStub wide h pl j next
  stub_wide pl j next same by y =
      let e = pl.key + j in
      let code : (n : ℕ) → stub_code (h.leap e) (h.number e) ≡ stub_code (g.leap e) (g.number e) = λ n. ap (λ (k : ℤ). stub_code k (h.number e)) same.leap ∙ ap (stub_code (g.leap e)) same.number in
      record {
        goes = ap (target next) by ∙ y.goes ∙ ap (λ (k : ℕ). 0x40000000 + k) (sym same.stub);
        here = subst (λ (k : ℕ). HasSlots h.slots k (puts (stub_code (h.leap e) (h.number e)))) (sym same.stub) (subst (λ xs. HasSlots h.slots (g.stub e) (puts xs)) (sym (code 0)) (has_grown g h z.grown (g.stub e) (puts (stub_code (g.leap e) (g.number e))) y.here));
        exits = λ l c n t left at. exits_wide l c n t (y.exits l c n t left (at ∙ ap (λ (k : ℕ). 0x40000000 + k) same.stub));
      }
    where
      exits_wide : (l : Left) (c : Calls) (n : ℕ) (t : State) → Exits m pl.id j l c (g.stub (pl.key + j)) g.common (g.number (pl.key + j)) (g.leap (pl.key + j)) (moved n t) → Exits wide pl.id j l c (h.stub (pl.key + j)) h.common (h.number (pl.key + j)) (h.leap (pl.key + j)) (moved n t)
      exits_wide l c n t x =
          let a : Exits wide pl.id j l c (g.stub (pl.key + j)) g.common (g.number (pl.key + j)) (g.leap (pl.key + j)) (moved n t) = record { path = x.path; few = x.few; t = x.t; spots = x.spots; along = x.along; returned = x.returned; number = x.number; gone = x.gone } in
          subst (λ (k : ℕ). Exits wide pl.id j l c k h.common (h.number (pl.key + j)) (h.leap (pl.key + j)) (moved n t)) (sym same.stub)
          (subst (λ (k : ℕ). Exits wide pl.id j l c (g.stub (pl.key + j)) k (h.number (pl.key + j)) (h.leap (pl.key + j)) (moved n t)) (sym z.common)
          (subst (λ (k : ℕ). Exits wide pl.id j l c (g.stub (pl.key + j)) g.common k (h.leap (pl.key + j)) (moved n t)) (sym same.number)
          (subst (λ (k : ℤ). Exits wide pl.id j l c (g.stub (pl.key + j)) g.common (g.number (pl.key + j)) k (moved n t)) (sym same.leap) a)))

  bridge_wide : (pl : Placed) (j n : ℕ) (r : PieceId) (next : ℕ) → h.by (pl.key + j) ≡ g.by (pl.key + j) → ToBridge m g pl j n r next → ToBridge wide h pl j n r next
  bridge_wide pl j n r next by y = record {
    to = y.to;
    there = z.grown.placed y.to y.there;
    named = y.named;
    goes = ap (target next) by ∙ y.goes;
    enters = λ vs w c a t left at. weaker y.to.at (code_of y.to) (joined y.to.codes) (moved a t) (λ u k. subst (λ (env : Opt). m.holds y.to.id 0 env c u) (sym (begin_same p m.pieces y.to.id vs (failed w) (z.kept.placed y.to y.there))) k) (y.enters vs w c a t left at);
  }

  to_piece_wide : (pl : Placed) → Contains g.placed pl → (j next : ℕ) → h.by (pl.key + j) ≡ g.by (pl.key + j) → ToPiece m g pl j next → ToPiece wide h pl j next
  to_piece_wide pl there j next by y = record {
    to = y.to;
    there = z.grown.placed y.to y.there;
    named = y.named ∙ sym (target_same p m.pieces pl.id (z.kept.placed pl there));
    goes = ap (target next) by ∙ y.goes;
    enters = λ vs w c a t left at. subst (λ (env : Opt). m.holds y.to.id 0 env c (moved a t)) (sym (begin_same p m.pieces y.to.id vs w (z.kept.placed y.to y.there))) (y.enters vs w c a t left at);
  }

  guard_wide : (pl : Placed) (j n next : ℕ) → SameKey g h (pl.key + j) → h.by (pl.key + j) ≡ g.by (pl.key + j) → (o : Option PieceId) → GuardLeads m g pl j n next o → GuardLeads wide h pl j n next o
  guard_wide pl j n next same by None y = stub_wide pl j next same by y
  guard_wide pl j n next same by (Some r) y = bridge_wide pl j n r next by y

  -- a guard of which another bridge, or none, was attached
  other_piece : (q : PieceId) (n : ℕ) → is_bridge_of m.set.traces q.trace n bridge ≡ false → attached_piece m.set.traces p all q n ≡ attached_piece m.set.traces m.pieces bs q n
  other_piece q n e = ap (option_and_then (bridge_piece p q.half)) (attached_more m.set.traces bs bridge q.trace n e) ∙ same (attached_bridge m.set.traces bs q.trace n) refl
    where
      same : (o : Option ℕ) → attached_bridge m.set.traces bs q.trace n ≡ o → option_and_then (bridge_piece p q.half) o ≡ option_and_then (bridge_piece m.pieces q.half) o
      same None f = refl
      same (Some b) f = z.kept.bridges q.half b (attached_in m.set.traces bs q.trace n b f)

  this_piece : (q : PieceId) (n : ℕ) → is_bridge_of m.set.traces q.trace n bridge ≡ true → attached_piece m.set.traces p all q n ≡ bridge_piece p q.half bridge
  this_piece q n e = ap (option_and_then (bridge_piece p q.half)) (attached_now m.set.traces bs bridge q.trace n e (z.free q n e))

  leads_wide : (pl : Placed) → (there : Contains g.placed pl) (done rest : List OptOp) (op : OptOp) (front back : List Slot) (x : Slot) → ops_at m.pieces pl.id ≡ done ++ op ∷ rest → g.slots ≡ front ++ x ∷ back → IsJumpOf x (pl.key + length done)
      → (e : Exit) → exit_of op ≡ e → Leads m g bs pl (length done) (0x40000000 + (sizes_of front + size_of x)) e → Leads wide h all pl (length done) (0x40000000 + (sizes_of front + size_of x)) e
  leads_wide pl there done rest op front back x ops split jump (Guarded n) is y = by_bridge (is_bridge_of m.set.traces pl.id.trace n bridge) refl
    where
      by_bridge : (b : Bool) → is_bridge_of m.set.traces pl.id.trace n bridge ≡ b → GuardLeads wide h pl (length done) n (0x40000000 + (sizes_of front + size_of x)) (attached_piece m.set.traces p all pl.id n)
      by_bridge true e = subst (GuardLeads wide h pl (length done) n (0x40000000 + (sizes_of front + size_of x))) (sym (this_piece pl.id n e)) (z.copies pl there done rest op n front back x ops is e split jump)
      by_bridge false e =
          let key = key_of pl there done rest op ops in
          let here = (image.pieces pl there).exits done rest op ops in
          let by = z.by (pl.key + length done) key (λ k f. ap (λ (i : ℕ). is_bridge_of m.set.traces (g.owner (pl.key + length done)).trace i bridge) (guard_no (sym f ∙ here.0 ∙ is)) ∙ ap (λ (q : PieceId). is_bridge_of m.set.traces q.trace n bridge) here.1 ∙ e) in
          subst (GuardLeads wide h pl (length done) n (0x40000000 + (sizes_of front + size_of x))) (sym (other_piece pl.id n e)) (guard_wide pl (length done) n (0x40000000 + (sizes_of front + size_of x)) (z.keys (pl.key + length done) key) by (attached_piece m.set.traces m.pieces bs pl.id n) y)
  leads_wide pl there done rest op front back x ops split jump Jumping is y =
      let key = key_of pl there done rest op ops in
      let here = (image.pieces pl there).exits done rest op ops in
      to_piece_wide pl there (length done) _ (z.by (pl.key + length done) key (λ k f. absurd (let n : 2 ≡ 1 = ap exit_no (sym is ∙ sym here.0 ∙ f) in omega (arith, n)))) y
  leads_wide pl there done rest op front back x ops split jump Finishing is y =
      let key = key_of pl there done rest op ops in
      let here = (image.pieces pl there).exits done rest op ops in
      stub_wide pl (length done) _ (z.keys (pl.key + length done) key) (z.by (pl.key + length done) key (λ k f. absurd (let n : 3 ≡ 1 = ap exit_no (sym is ∙ sym here.0 ∙ f) in omega (arith, n)))) y
  leads_wide pl there done rest op front back x ops split jump Inside is y = tt

  placed_wide : (pl : Placed) → Contains g.placed pl → IsPlaced wide h all pl
  placed_wide pl there =
      let y = image.pieces pl there in
      let same = ops_same p m.pieces pl.id (z.kept.placed pl there) in record {
        here = has_grown g h z.grown pl.at (code_of pl) y.here;
        does = piece_wide pl there y.does;
        exits = λ done rest op ops. (let k = z.keys (pl.key + length done) (key_of pl there done rest op (sym same ∙ ops)) in let x = y.exits done rest op (sym same ∙ ops) in (k.exit ∙ x.0, k.owner ∙ x.1));
        leads = λ done rest op front behind x ops split jump. leads_where done rest op front behind x (sym same ∙ ops) jump (slot_in g.slots z.grown.more front behind x (sym z.grown.slots ∙ split));
      }
    where
      leads_where : (done rest : List OptOp) (op : OptOp) (front behind : List Slot) (x : Slot) → ops_at m.pieces pl.id ≡ done ++ op ∷ rest → IsJumpOf x (pl.key + length done) → Where g.slots z.grown.more front behind x → Leads wide h all pl (length done) (0x40000000 + (sizes_of front + size_of x)) (exit_of op)
      leads_where done rest op front behind x ops jump (Old back e) = leads_wide pl there done rest op front back x ops e jump (exit_of op) refl ((image.pieces pl there).leads done rest op front back x ops e jump)
      leads_where done rest op front behind x ops jump (New head e f) = absurd (z.away (pl.key + length done) head behind x e jump (key_of pl there done rest op ops))

  -- ---- rows

  row_left : (e : ℕ) (guard : Option ℕ) (row : ExitRow) → IsKey m g e → RowOf g rows e guard row → RowOf h (rows ++ news) e guard row
  row_left e guard row key r =
      let same = z.keys e key in
      (Contains-append_left rows news row r.0, r.1 ∙ sym same.number, r.2 ∙ sym same.owner, r.3)

  row_right : (e : ℕ) (guard : Option ℕ) (row : ExitRow) → RowOf h news e guard row → RowOf h (rows ++ news) e guard row
  row_right e guard row r = (Contains-append_right rows news row r.0, r.1, r.2, r.3)

  rows_wide : RowsAre h (rows ++ news)
  rows_wide = record {
    each = λ row inside of_guard. each_row row of_guard (Contains-append_cases rows news row inside);
    guards = λ e n x is. guards_row e n x is (slot_in g.slots z.grown.more x.front x.behind x.slot (sym z.grown.slots ∙ x.split));
    finishes = λ e x is. finishes_row e x is (slot_in g.slots z.grown.more x.front x.behind x.slot (sym z.grown.slots ∙ x.split));
    one = λ a b ia ib e. one_row a b e (Contains-append_cases rows news a ia) (Contains-append_cases rows news b ib);
  }
    where
      each_row : (row : ExitRow) → IsGuards row → Contains rows row ⊎ Contains news row → (e n : ℕ) × (x : JumpAt h e) × (row.at ≡ sizes_of x.front + disp_in x.slot) × (h.exit e ≡ Guarded n)
      each_row row of_guard (inl i) =
          let y = image.rows_are.each row i of_guard in
          (y.0, y.1, jump_grown g h z.grown y.0 y.2, y.3, (z.keys y.0 (z.owned y.0 y.2)).exit ∙ y.4)
      each_row row of_guard (inr i) = z.rows_more.each row i of_guard

      guards_row : (e n : ℕ) (x : JumpAt h e) → h.exit e ≡ Guarded n → Where g.slots z.grown.more x.front x.behind x.slot → (row : ExitRow) × (row.at ≡ sizes_of x.front + disp_in x.slot) × RowOf h (rows ++ news) e (Some n) row
      guards_row e n x is (Old back split) =
          let old : JumpAt g e = record { front = x.front; slot = x.slot; behind = back; split = split; jump = x.jump } in
          let key = z.owned e old in
          let y = image.rows_are.guards e n old (sym (z.keys e key).exit ∙ is) in
          (y.0, y.1, row_left e (Some n) y.0 key y.2)
      guards_row e n x is (New head split front) =
          let y = z.rows_more.guards e n head x.behind x.slot split x.jump is in
          (y.0, y.1 ∙ omega (arith, ap sizes_of front, sizes-append g.slots head), row_right e (Some n) y.0 y.2)

      finishes_row : (e : ℕ) (x : JumpAt h e) → h.exit e ≡ Finishing → Where g.slots z.grown.more x.front x.behind x.slot → (row : ExitRow) × RowOf h (rows ++ news) e None row
      finishes_row e x is (Old back split) =
          let old : JumpAt g e = record { front = x.front; slot = x.slot; behind = back; split = split; jump = x.jump } in
          let key = z.owned e old in
          let y = image.rows_are.finishes e old (sym (z.keys e key).exit ∙ is) in
          (y.0, row_left e None y.0 key y.1)
      finishes_row e x is (New head split front) =
          let y = z.rows_more.finishes e head x.behind x.slot split x.jump is in
          (y.0, row_right e None y.0 y.1)

      one_row : (a b : ExitRow) → a.exit ≡ b.exit → Contains rows a ⊎ Contains news a → Contains rows b ⊎ Contains news b → a ≡ b
      one_row a b e (inl i) (inl j) = image.rows_are.one a b i j e
      one_row a b e (inl i) (inr j) = absurd (z.rows_more.apart a b i j e)
      one_row a b e (inr i) (inl j) = absurd (z.rows_more.apart b a j i (sym e))
      one_row a b e (inr i) (inr j) = z.rows_more.one a b i j e

  -- an attachment keeps the image
  pub attachment_is_image : IsImage wide h all (rows ++ news)
  attachment_is_image = record {
    have = z.have;
    small = z.small;
    pieces = λ pl there. piece_where pl (z.pieces pl there);
    common = subst (λ (k : ℕ). HasSlots h.slots k (puts common_code)) (sym z.common) (has_grown g h z.grown g.common (puts common_code) image.common);
    rows_are = rows_wide;
    closed = z.closed;
  }
    where
      piece_where : (pl : Placed) → Contains g.placed pl ⊎ IsPlaced wide h all pl → IsPlaced wide h all pl
      piece_where pl (inl there) = placed_wide pl there
      piece_where pl (inr new) = new
