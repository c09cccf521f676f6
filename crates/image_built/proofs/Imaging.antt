-- What is compiled is an image.
use Rattle.std.proofs.Common.{◌≡◌, inl, inr, ℕ, zero, suc, ◌+◌, ◌-◌, ◌*◌, ◌<◌, ◌≤◌, ◌^◌, List, [], ◌∷◌, ◌++◌, length, refl, sym, ap, ◌∙◌, subst, arith, Option, Some, None, cond, true}
use Rattle.std.specs.Prelude.{option_and_then}
use Rattle.std.specs.Option.{unwrap_or}
use Rattle.std.specs.List.{AllByRecursion, Contains}
use Rattle.std.proofs.lemmas.List.{length-append}
use Rattle.lists.specs.Has.{Has}
use Rattle.trace_ops.specs.declared.trace.TraceSet.{TraceSet}
use Rattle.trace_ops.specs.declared.piece.PieceId.{PieceId}
use Rattle.trace_ops.specs.declared.piece.OptOp.{OptOp}
use Rattle.trace_ops.specs.declared.piece.OptOp.TheVariants as opt
use Rattle.trace_ops.specs.declared.piece.Piece.{Piece}
use Rattle.trace_ops.specs.Pieces.{FitsLabel}
use Rattle.trace_ops.specs.declared.trace.Trace.{Trace}
use Rattle.trace_meaning.specs.Cuts.{is_bridge_of}
use Rattle.opt_meaning.specs.Pieces.{last_of, named_by, jump_target, piece_at, bridge_piece, id_if}
use Rattle.guard_exit.specs.Codes.{stub_code, common_code}
use Rattle.guard_exit.specs.declared.row.ExitRow.{ExitRow}
use Rattle.asm_select.specs.declared.told.Told.TheVariants as tell
use Rattle.asm_select.specs.Slots.{Slot, Jumps, puts, sizes_of, size_of, HaveRows}
use Rattle.asm_select.specs.Chosen.{all_code}
use Rattle.asm_select.specs.Laid.{has_stub, AreNear, ChosenHaveRows, ExitsHaveRows}
use Rattle.code_layout.specs.Leading.{way, led_bytes}
use Rattle.bridge_patch.specs.Pieces.{Placed, body_of, start_of, stubs_of, end_of, exits_in, stubs_from, spelled, bytes_in, all_bytes, AreLaid, all_rows}
use Rattle.bridge_patch.specs.Attached.{guard_of}
use Rattle.bridge_patch.specs.Bridged.{bridge_on}
use Rattle.bridge_patch.specs.Image.{label_in}
use Rattle.image_runs.specs.Session.{Host}
use Rattle.image_runs.specs.Reached.{IsJumpOf}
use Rattle.image_runs.specs.Bridges.{attached_bridge, attached_piece}
use Rattle.image_runs.specs.Selection.{PieceDoes}
use Rattle.image_runs.specs.Selection as runs
use Rattle.image_runs.specs.Image.{code_in, Leads, GuardLeads, IsPlaced, IsHere, IsImage}
use Rattle.image_model.specs.Modelled.{model_of}
use Rattle.image_model.specs.Laws.{HostServes, SelectedPiecesDo, StubsExit, JumpsHold, GuardsHold}
use Rattle.image_built.specs.Built.{keyed, slots_of, slots_from, all_slots, run_of, runs_from, by_of, to_all, image_of}
use Rattle.image_built.proofs.Leading.{length-led, led-append, led-puts, spelled_long, sizes-append}
use Rattle.image_built.proofs.Aiming.{way_near, by_near, led_is}
use Rattle.image_built.proofs.Choosing.{is_off, chosen_first}
use Rattle.image_built.proofs.Stubbing.{puts-append, stubs_least}
use Rattle.image_built.proofs.Splitting.{keys_in, tells, pieces_bytes, slots_end, last_most}
use Rattle.image_built.proofs.Locating.{common_size}
use Rattle.image_built.proofs.Naming.{some_is, all_here, all_at, found, reaches}
use Rattle.image_built.proofs.Rowing.{has_of}
use Rattle.image_built.proofs.Placing.{Setup, IsSet, HasMoves, IsBridged, Made, few_last, are_in, Spot, spot, selected, here_in, end_within}
use Rattle.image_built.proofs.Reaching.{GuardTo, Stubbed, Bridged, guard_leads, leads_on, all_low, all_aim, leads_stub, leads_piece, run_there}
use Rattle.image_built.proofs.Bridging.{leads_bridge}
use Rattle.image_built.proofs.Telling.{says_exit, says_owner, rows_are}
use Rattle.image_built.proofs.Reaching as reaching

-- ---- the bytes

-- each exit has a stub of at least 16 bytes
pub bytes_room : (at exit end last : ℕ) (pls : List Placed) → AreLaid at exit pls end last → 16 * last ≤ 16 * exit + length (all_bytes pls)
bytes_room at exit end last [] h = omega (arith, h.1)
bytes_room at exit end last (pl ∷ pls) h =
    let stubs = stubs_from (stubs_of pl) pl.exit (exits_in pl.piece.ops) in
    let code = led_bytes pl.to (start_of pl) (body_of pl) in
    omega (arith, bytes_room (end_of pl) (exit + exits_in pl.piece.ops) end last pls h.2, length-append (bytes_in pl) (all_bytes pls), length-append (spelled pl.front) (code ++ spelled stubs), length-append code (spelled stubs), spelled_long stubs, stubs_least (stubs_of pl) pl.exit (exits_in pl.piece.ops))

-- the slots have these bytes
pub all_led : (placed : List Placed) (end last : ℕ) → AreLaid (length (spelled common_code)) 0 placed end last → last ≤ 2 ^ 31 → led_bytes (to_all placed) 0 (all_slots placed) ≡ spelled common_code ++ all_bytes placed
all_led placed end last laid few =
    let to = to_all placed in
    let n : 0 + sizes_of (puts common_code) ≡ length (spelled common_code) = omega (arith, common_size) in
    led-append to 0 (puts common_code) (slots_from 0 placed)
    ∙ ap (λ (l : List ℕ). l ++ led_bytes to (0 + sizes_of (puts common_code)) (slots_from 0 placed)) (led-puts to 0 common_code)
    ∙ ap (λ (p : ℕ). spelled common_code ++ led_bytes to p (slots_from 0 placed)) n
    ∙ ap (λ (l : List ℕ). spelled common_code ++ l) (pieces_bytes to 0 (length (spelled common_code)) 0 end last placed few laid (tells [] placed))

pub few_exits : (placed : List Placed) (end last : ℕ) (bytes : List ℕ) → AreLaid (length (spelled common_code)) 0 placed end last → bytes ≡ spelled common_code ++ all_bytes placed → length bytes < 2 ^ 31 → last ≤ 2 ^ 31
few_exits placed end last bytes laid e short = omega (arith, bytes_room (length (spelled common_code)) 0 end last placed laid, ap length e, length-append (spelled common_code) (all_bytes placed), short)

pub slots_short : (placed : List Placed) (end last : ℕ) (bytes : List ℕ) → AreLaid (length (spelled common_code)) 0 placed end last → bytes ≡ spelled common_code ++ all_bytes placed → length bytes < 2 ^ 31 → sizes_of (all_slots placed) < 2 ^ 31
slots_short placed end last bytes laid e short =
    omega (arith, length-led (to_all placed) 0 (all_slots placed), ap length (all_led placed end last laid (few_exits placed end last bytes laid e short)), ap length e, short)

pub code_is : (set : TraceSet) (whole : Setup) (ps : List Piece) (placed : List Placed) → Made set whole ps placed → code_in (image_of placed) ≡ spelled common_code ++ all_bytes placed
code_is set whole ps placed m =
    led_is (by_of (to_all placed) 0 (all_slots placed)) (to_all placed) 0 (all_slots placed) (all_aim set whole ps placed m) ∙ all_led placed m.end m.last m.laid (few_last set whole ps placed m)

-- ---- the rows of instructions

rows-append : (by : Jumps) (xs ys : List Slot) → HaveRows by xs → HaveRows by ys → HaveRows by (xs ++ ys)
rows-append by [] ys a b = b
rows-append by (x ∷ xs) ys a b = (a.0, rows-append by xs ys a.1 b)

stub_rows : ExitsHaveRows → (by : Jumps) (p e n : ℕ) → e + n ≤ 2 ^ 31 → p + 16 * n < 2 ^ 31 → HaveRows by (puts (stubs_from p e n))
stub_rows rows by p e zero le room = tt
stub_rows rows by p e (suc n) le room =
    let code = stub_code (way (p + 16) 0) e in
    subst (HaveRows by) (sym (puts-append code (stubs_from (p + 16) (e + 1) n)))
    (rows-append by (puts code) (puts (stubs_from (p + 16) (e + 1) n)) (rows by (way (p + 16) 0) e (way_near (p + 16) 0 (omega (arith, room)) (omega arith)) (omega (arith, le))).0 (stub_rows rows by (p + 16) (e + 1) n (omega (arith, le)) (omega (arith, room))))

piece_rows : ChosenHaveRows → ExitsHaveRows → (set : TraceSet) (by : Jumps) (b : ℕ) (pl : Placed) → AreNear by → IsSet set pl → HasMoves pl → pl.exit + exits_in pl.piece.ops ≤ 2 ^ 31 → end_of pl < 2 ^ 31 → HaveRows by (slots_of b pl)
piece_rows chosen exits set by b pl near c front few room =
    let ops = pl.piece.ops in
    let code = all_code (keyed b pl.setting) b tell.Nothing ops in
    let stubs = puts (stubs_from (stubs_of pl) pl.exit (exits_in ops)) in
    let first = front by in
    let second = chosen by (keyed b pl.setting) b tell.Nothing ops c.serves near c.hold (chosen_first b pl.setting tell.Nothing ops c.chosen) in
    rows-append by (puts pl.front) (code ++ stubs) first (rows-append by code stubs second (stub_rows exits by (stubs_of pl) pl.exit (exits_in ops) few room))

pieces_rows : ChosenHaveRows → ExitsHaveRows → (set : TraceSet) (by : Jumps) (b at exit end last : ℕ) (pls : List Placed) → AreNear by → AllByRecursion (IsSet set) pls → AllByRecursion HasMoves pls → last ≤ 2 ^ 31 → AreLaid at exit pls end last → at + sizes_of (slots_from b pls) < 2 ^ 31 → HaveRows by (slots_from b pls)
pieces_rows chosen exits set by b at exit end last [] near c f few h room = tt
pieces_rows chosen exits set by b at exit end last (pl ∷ pls) near c f few h room =
    let d = b + length pl.piece.ops in
    let most = last_most (end_of pl) (exit + exits_in pl.piece.ops) end last pls h.2 in
    let mine : pl.exit + exits_in pl.piece.ops ≤ 2 ^ 31 = omega (arith, h.1, most, few) in
    let ends = slots_end b pl mine in
    let sizes = sizes-append (slots_of b pl) (slots_from d pls) in
    rows-append by (slots_of b pl) (slots_from d pls) (piece_rows chosen exits set by b pl near c.0 f.0 mine (omega (arith, ends, sizes, h.0, room)))
    (pieces_rows chosen exits set by d (end_of pl) (exit + exits_in pl.piece.ops) end last pls near c.1 f.1 few h.2 (omega (arith, ends, sizes, h.0, room)))

pub have_rows : ChosenHaveRows → ExitsHaveRows → (set : TraceSet) (whole : Setup) (ps : List Piece) (placed : List Placed) → Made set whole ps placed → HaveRows (by_of (to_all placed) 0 (all_slots placed)) (all_slots placed)
have_rows chosen exits set whole ps placed m =
    let by = by_of (to_all placed) 0 (all_slots placed) in
    let z : 0 + sizes_of (all_slots placed) ≡ sizes_of (all_slots placed) = omega arith in
    let near = by_near (to_all placed) 0 (all_slots placed) (all_low set whole ps placed m) (omega (arith, m.short, z)) in
    let few = (few_last set whole ps placed m) in
    let room : length (spelled common_code) + sizes_of (slots_from 0 placed) < 2 ^ 31 = omega (arith, m.short, sizes-append (puts common_code) (slots_from 0 placed), common_size) in
    rows-append by (puts common_code) (slots_from 0 placed) (exits by (way 0 0) 0 (way_near 0 0 (omega arith) (omega arith)) (omega arith)).1
    (pieces_rows chosen exits set by 0 (length (spelled common_code)) 0 m.end m.last placed near m.chosen m.fronts few m.laid room)

-- ---- each piece

-- the laws of the crates below
pub record Relies (host : Host) : Type 0 where
  pub chosen : ChosenHaveRows
  pub exits : ExitsHaveRows
  pub does : SelectedPiecesDo host
  pub stubs : StubsExit host
  pub jumps : JumpsHold
  pub bridges : GuardsHold

pub attached_same : (traces : List Trace) (bs : List ℕ) (p n : ℕ) → attached_bridge traces bs p n ≡ bridge_on traces bs p n
attached_same traces [] p n = refl
attached_same traces (b ∷ bs) p n = ap (λ (o : Option ℕ). cond (is_bridge_of traces p n b) (Some b) o) (attached_same traces bs p n)

-- the piece of the bridge
bridge_there : (set : TraceSet) (whole : Setup) (ps : List Piece) (placed : List Placed) (pl : Placed) (op : OptOp) (b : ℕ) → Made set whole ps placed → IsBridged set placed pl op b → bridge_piece ps pl.piece.id.half b ≡ Some (record { trace = b; half = pl.piece.id.half })
bridge_there set whole ps placed pl op b m z =
    let q : PieceId = record { trace = b; half = pl.piece.id.half } in
    let y = spot set whole ps z.before z.after z.to (subst (Made set whole ps) z.here m) in
    let at : piece_at ps q ≡ Some z.to.piece = ap (piece_at ps) (sym z.named) ∙ y.at in
    ap (id_if q) at

leads_guard : (host : Host) → Relies host → (set : TraceSet) (whole : Setup) (ps : List Piece) (before after : List Placed) (pl : Placed) (done rest : List OptOp) (op : OptOp) (n : ℕ) (front behind : List Slot) (x : Slot)
    → Made set whole ps (before ++ pl ∷ after) → pl.piece.ops ≡ done ++ op ∷ rest → all_slots (before ++ pl ∷ after) ≡ front ++ x ∷ behind → IsJumpOf x (keys_in before + length done) → guard_of op ≡ Some n → has_stub op ≡ true → is_off op ≡ true
    → GuardTo set whole.bridges (before ++ pl ∷ after) pl op (length done) n
    → GuardLeads (model_of host set whole.pieces whole.settings ps) (image_of (before ++ pl ∷ after)) (run_of (keys_in before) pl) (length done) n (0x40000000 + (sizes_of front + size_of x)) (attached_piece set.traces ps whole.bridges pl.piece.id n)
leads_guard host r set whole ps before after pl done rest op n front behind x m e split j guard has off (Stubbed is to) =
    let none : attached_piece set.traces ps whole.bridges pl.piece.id n ≡ None = ap (option_and_then (bridge_piece ps pl.piece.id.half)) (attached_same set.traces whole.bridges pl.piece.id.trace n ∙ is) in
    subst (GuardLeads (model_of host set whole.pieces whole.settings ps) (image_of (before ++ pl ∷ after)) (run_of (keys_in before) pl) (length done) n (0x40000000 + (sizes_of front + size_of x))) (sym none)
    (leads_stub host r.stubs set whole ps before after pl done rest op front behind x m e has off to split j)
leads_guard host r set whole ps before after pl done rest op n front behind x m e split j guard has off (Bridged b is z to) =
    let some : attached_piece set.traces ps whole.bridges pl.piece.id n ≡ Some (record { trace = b; half = pl.piece.id.half }) =
    ap (option_and_then (bridge_piece ps pl.piece.id.half)) (attached_same set.traces whole.bridges pl.piece.id.trace n ∙ is) ∙ bridge_there set whole ps (before ++ pl ∷ after) pl op b m z in
    subst (GuardLeads (model_of host set whole.pieces whole.settings ps) (image_of (before ++ pl ∷ after)) (run_of (keys_in before) pl) (length done) n (0x40000000 + (sizes_of front + size_of x))) (sym some)
    (leads_bridge host r.bridges set whole ps before after pl done rest op n b front behind x m e guard z to split j)

leads_by : (host : Host) → Relies host → (set : TraceSet) (whole : Setup) (ps : List Piece) (before after : List Placed) (pl : Placed) (done rest : List OptOp) (op : OptOp) (front behind : List Slot) (x : Slot)
    → Made set whole ps (before ++ pl ∷ after) → pl.piece.ops ≡ done ++ op ∷ rest → all_slots (before ++ pl ∷ after) ≡ front ++ x ∷ behind → IsJumpOf x (keys_in before + length done)
    → Leads (model_of host set whole.pieces whole.settings ps) (image_of (before ++ pl ∷ after)) whole.bridges (run_of (keys_in before) pl) (length done) (0x40000000 + (sizes_of front + size_of x)) (runs.exit_of op)
leads_by host r set whole ps before after pl done rest (opt.Plain operation s args d) front behind x m e split j = tt
leads_by host r set whole ps before after pl done rest (opt.Guard operation args n snap) front behind x m e split j =
    let op = opt.Guard operation args n snap in
    leads_guard host r set whole ps before after pl done rest op n front behind x m e split j refl refl refl (guard_leads set whole ps before after pl done rest op n m e refl (all_here (reaching.Leads set whole.bridges (before ++ pl ∷ after)) before after pl m.leads done rest op e))
leads_by host r set whole ps before after pl done rest (opt.Exit n snap) front behind x m e split j =
    let op = opt.Exit n snap in
    leads_guard host r set whole ps before after pl done rest op n front behind x m e split j refl refl refl (guard_leads set whole ps before after pl done rest op n m e refl (all_here (reaching.Leads set whole.bridges (before ++ pl ∷ after)) before after pl m.leads done rest op e))
leads_by host r set whole ps before after pl done rest (opt.Jump to args) front behind x m e split j = leads_piece host r.jumps set whole ps before after pl done rest to args front behind x m e split j
leads_by host r set whole ps before after pl done rest (opt.Finish value) front behind x m e split j =
    leads_stub host r.stubs set whole ps before after pl done rest (opt.Finish value) front behind x m e refl refl (all_here (reaching.Leads set whole.bridges (before ++ pl ∷ after)) before after pl m.leads done rest (opt.Finish value) e) split j

abbrev IsPlacedIn : (host : Host) (set : TraceSet) (whole : Setup) (ps : List Piece) (placed : List Placed) → runs.Placed → Type 0
IsPlacedIn host set whole ps placed run = IsPlaced (model_of host set whole.pieces whole.settings ps) (image_of placed) whole.bridges run

placed_in : (host : Host) → Relies host → (set : TraceSet) (whole : Setup) (ps : List Piece) (before after : List Placed) (pl : Placed) → HostServes host set.table → Made set whole ps (before ++ pl ∷ after) → IsPlacedIn host set whole ps (before ++ pl ∷ after) (run_of (keys_in before) pl)
placed_in host r set whole ps before after pl serves m =
    let all = before ++ pl ∷ after in
    let settings = whole.settings in
    let b = keys_in before in
    let h = are_in set whole ps all m in
    let s = spot set whole ps before after pl m in
    let low : end_of pl < 2 ^ 31 = omega (arith, end_within before after pl h, m.short) in record {
      here = here_in before after pl h;
      does = r.does set whole.pieces ps settings (run_of b pl) serves (selected set whole ps settings b pl s low);
      exits = λ done rest op e. (says_exit before after pl done rest op (sym s.ops ∙ e), says_owner before after pl done rest op (sym s.ops ∙ e));
      leads = λ done rest op front behind x e split j. leads_by host r set whole ps before after pl done rest op front behind x m (sym s.ops ∙ e) split j;
    }

-- the piece that a run is of
pub record RunOf (b : ℕ) (pls : List Placed) (run : runs.Placed) : Type 0 where
  pub before : List Placed
  pub pl : Placed
  pub after : List Placed
  pub here : pls ≡ before ++ pl ∷ after
  pub is : run ≡ run_of (b + keys_in before) pl

run_split : (b : ℕ) (pls : List Placed) (run : runs.Placed) → Has (runs_from b pls) run → RunOf b pls run
run_split b [] run h = absurd h
run_split b (pl ∷ pls) run (inl e) =
    let n : b ≡ b + 0 = omega arith in
    record { before = []; pl = pl; after = pls; here = refl; is = sym e ∙ ap (λ (k : ℕ). run_of k pl) n }
run_split b (pl ∷ pls) run (inr h) =
    let z = run_split (b + length pl.piece.ops) pls run h in
    let n : b + length pl.piece.ops + keys_in z.before ≡ b + (length pl.piece.ops + keys_in z.before) = omega arith in
    record { before = pl ∷ z.before; pl = z.pl; after = z.after; here = ap (λ (l : List Placed). pl ∷ l) z.here; is = z.is ∙ ap (λ (k : ℕ). run_of k z.pl) n }

pub run_is : (placed : List Placed) (run : runs.Placed) → Contains (runs_from 0 placed) run → RunOf 0 placed run
run_is placed run c = run_split 0 placed run (has_of (runs_from 0 placed) run c)

pub each_placed : (host : Host) → Relies host → (set : TraceSet) (whole : Setup) (ps : List Piece) (placed : List Placed) → HostServes host set.table → Made set whole ps placed → (run : runs.Placed) → Contains (runs_from 0 placed) run → IsPlacedIn host set whole ps placed run
each_placed host r set whole ps placed serves m run c =
    let z = run_is placed run c in
    let made = subst (Made set whole ps) z.here m in
    let n : 0 + keys_in z.before ≡ keys_in z.before = omega arith in
    let is : run_of (keys_in z.before) z.pl ≡ run = ap (λ (k : ℕ). run_of k z.pl) (sym n) ∙ sym z.is in
    subst (IsPlacedIn host set whole ps placed) is (subst (λ (l : List Placed). IsPlacedIn host set whole ps l (run_of (keys_in z.before) z.pl)) (sym z.here) (placed_in host r set whole ps z.before z.after z.pl serves made))

-- ---- nothing leads out

itself : (before after : List Placed) (pl : Placed) → IsHere (image_of (before ++ pl ∷ after)) pl.piece.id
itself before after pl = (run_of (keys_in before) pl, run_there before after pl, refl)

target_by : (set : TraceSet) (whole : Setup) (ps : List Piece) (before after : List Placed) (pl : Placed) (b : ℕ) (o : Option OptOp) → Made set whole ps (before ++ pl ∷ after) → Spot set whole ps whole.settings b pl → last_of pl.piece.ops ≡ o
    → IsHere (image_of (before ++ pl ∷ after)) (unwrap_or (option_and_then named_by o) pl.piece.id)
target_by set whole ps before after pl b None m s e = itself before after pl
target_by set whole ps before after pl b (Some (opt.Plain operation r args d)) m s e = itself before after pl
target_by set whole ps before after pl b (Some (opt.Guard operation args n snap)) m s e = itself before after pl
target_by set whole ps before after pl b (Some (opt.Exit n snap)) m s e = itself before after pl
target_by set whole ps before after pl b (Some (opt.Jump to args)) m s e =
    let all = before ++ pl ∷ after in
    let r = reaches ps args to (all_at (FitsLabel (label_in ps)) pl.piece.ops (length pl.piece.ops - 1) (opt.Jump to args) s.fits e) in
    let z = leads_on set whole ps all args to m r in
    let f = z.there in
    subst (λ (l : List Placed). IsHere (image_of l) to) (sym f.here) (subst (IsHere (image_of (f.before ++ f.pl ∷ f.after))) (sym f.named) (itself f.before f.after f.pl))
target_by set whole ps before after pl b (Some (opt.Finish value)) m s e = itself before after pl

target_in : (set : TraceSet) (whole : Setup) (ps : List Piece) (before after : List Placed) (pl : Placed) → Made set whole ps (before ++ pl ∷ after) → IsHere (image_of (before ++ pl ∷ after)) (jump_target ps pl.piece.id)
target_in set whole ps before after pl m =
    let all = before ++ pl ∷ after in
    let s = spot set whole ps before after pl m in
    let made = target_by set whole ps before after pl (keys_in before) (last_of pl.piece.ops) m s refl in
    subst (λ (l : List OptOp). IsHere (image_of all) (unwrap_or (option_and_then named_by (last_of l)) pl.piece.id)) (sym s.ops) made

targets : (set : TraceSet) (whole : Setup) (ps : List Piece) (placed : List Placed) → Made set whole ps placed → (q : PieceId) → IsHere (image_of placed) q → IsHere (image_of placed) (jump_target ps q)
targets set whole ps placed m q h =
    let z = run_is placed h.0 h.1 in
    let made = subst (Made set whole ps) z.here m in
    let same : z.pl.piece.id ≡ q = ap (λ (x : runs.Placed). x.id) (sym z.is) ∙ h.2 in
    subst (λ (p : PieceId). IsHere (image_of placed) (jump_target ps p)) same (subst (λ (l : List Placed). IsHere (image_of l) (jump_target ps z.pl.piece.id)) (sym z.here) (target_in set whole ps z.before z.after z.pl made))

-- and the pieces of bridges are here
bridge_here : (set : TraceSet) (whole : Setup) (ps : List Piece) (placed : List Placed) (q r : PieceId) (o : Option Piece) → Made set whole ps placed → piece_at ps q ≡ o → id_if q o ≡ Some r → IsHere (image_of placed) r
bridge_here set whole ps placed q r None m e is = absurd (cc)
bridge_here set whole ps placed q r (Some p) m e is =
    let f = found m.names placed q p (subst (λ (l : List Piece). piece_at l q ≡ Some p) (sym m.pieces) e) in
    let same : f.pl.piece.id ≡ r = sym f.named ∙ some_is is in
    subst (λ (l : List Placed). IsHere (image_of l) r) (sym f.here) (subst (IsHere (image_of (f.before ++ f.pl ∷ f.after))) same (itself f.before f.after f.pl))

-- ---- the image

pub image_is : (host : Host) → Relies host → (set : TraceSet) (whole : Setup) (ps : List Piece) (placed : List Placed) (rows : List ExitRow) → HostServes host set.table → Made set whole ps placed → rows ≡ all_rows placed
    → IsImage (model_of host set whole.pieces whole.settings ps) (image_of placed) whole.bridges rows
image_is host r set whole ps placed rows serves m e =
    let long : length (code_in (image_of placed)) ≡ sizes_of (all_slots placed) =
    ap length (led_is (by_of (to_all placed) 0 (all_slots placed)) (to_all placed) 0 (all_slots placed) (all_aim set whole ps placed m)) ∙ length-led (to_all placed) 0 (all_slots placed) in
    subst (IsImage (model_of host set whole.pieces whole.settings ps) (image_of placed) whole.bridges) (sym e) (record {
      have = have_rows r.chosen r.exits set whole ps placed m;
      small = omega (arith, long, m.short);
      pieces = each_placed host r set whole ps placed serves m;
      common = ([], slots_from 0 placed, refl, refl);
      rows_are = rows_are set whole ps placed m;
      closed = record { targets = targets set whole ps placed m; bridges = λ q x n b here has is p. bridge_here set whole ps placed (record { trace = b; half = q.half }) x (piece_at ps (record { trace = b; half = q.half })) m refl p };
    })
