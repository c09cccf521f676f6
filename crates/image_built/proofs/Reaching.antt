-- Where the jumps of an image lead.
use Rattle.std.proofs.Common.{◌≡◌, inl, inr, ℕ, ◌+◌, ◌*◌, ◌<◌, ◌^◌, true, List, [], ◌∷◌, ◌++◌, length, map, append_assoc, refl, sym, ap, ◌∙◌, subst, arith, Option, Some, None, ℤ, pos}
use Rattle.std.specs.Prelude.{slice_get}
use Rattle.std.specs.List.{AllZip, Contains}
use Rattle.lists.specs.Has.{Has}
use Rattle.target_base.specs.declared.place.Place.{Place}
use Rattle.trace_ops.specs.declared.trace.TraceSet.{TraceSet}
use Rattle.trace_ops.specs.declared.trace.BoxId.{BoxId}
use Rattle.trace_ops.specs.declared.trace.Arg.{Arg}
use Rattle.trace_ops.specs.declared.piece.PieceId.{PieceId}
use Rattle.trace_ops.specs.declared.piece.OptOp.{OptOp}
use Rattle.trace_ops.specs.declared.piece.OptOp.TheVariants as opt
use Rattle.trace_ops.specs.declared.piece.Piece.{Piece}
use Rattle.trace_ops.specs.Pieces.{FitsLabel}
use Rattle.trace_ops.specs.Kinds.{kind_of_arg}
use Rattle.trace_ops.specs.declared.trace.Kind.{Kind}
use Rattle.trace_ops.specs.declared.table.Table.{Table}
use Rattle.trace_meaning.specs.declared.value.Value.{Value}
use Rattle.trace_meaning.specs.World.{World}
use Rattle.trace_meaning.specs.Legs.{Leave, Jumps as Jumping}
use Rattle.opt_meaning.specs.Step.{opt_begin}
use Rattle.opt_meaning.specs.Pieces.{piece_at, ops_at, label_of, label_at, begin_at}
use Rattle.guard_exit.specs.Codes.{stub_code}
use Rattle.x64_machine.specs.State.{State, target}
use Rattle.asm_select.specs.declared.told.Told.TheVariants as tell
use Rattle.asm_select.specs.Slots.{Slot, Jumps, puts, sizes_of, size_of}
use Rattle.asm_select.specs.Chosen.{Setting, all_code}
use Rattle.asm_select.specs.Laid.{has_stub}
use Rattle.code_layout.specs.Leading.{way}
use Rattle.bridge_patch.specs.Pieces.{Placed, stubs_of, stub_of, exit_of, exits_in, start_in}
use Rattle.bridge_patch.specs.Attached.{begin_in, behind_guard, guard_of, AllLeadNow}
use Rattle.bridge_patch.specs.Bridged.{bridge_on}
use Rattle.bridge_patch.specs.Image.{label_in}
use Rattle.image_runs.specs.Session.{Calls, Host}
use Rattle.image_runs.specs.Reached.{IsJumpOf}
use Rattle.image_runs.specs.Selection.{Model}
use Rattle.image_runs.specs.Selection as runs
use Rattle.image_runs.specs.Image.{Image, HasSlots, Exits, ToStub, ToPiece, moved}
use Rattle.image_model.specs.Ready.{kinds_left, AreKinded, StaysReady}
use Rattle.image_model.specs.Modelled.{LeftAt, model_of}
use Rattle.image_model.specs.Laws.{StubsExit, JumpsHold}
use Rattle.image_built.specs.Built.{keyed, slots_from, all_slots, run_of, runs_from, by_of, to_all, image_of}
use Rattle.image_built.proofs.Leading.{KeysAre, keys_weaker, sizes-append, sizes-puts}
use Rattle.image_built.proofs.Aiming.{Aims, aims, Low, lead_at, target_is}
use Rattle.image_built.proofs.Choosing.{is_off}
use Rattle.image_built.proofs.Stubbing.{stub_at, stub_size, exits-append, exits_one}
use Rattle.image_built.proofs.Splitting.{keys_in, by_key-split, body_size}
use Rattle.image_built.proofs.Locating.{Located, all_located, AreIn, all_once, in_front, slots_around, stands_in, front_long}
use Rattle.image_built.proofs.Naming.{AreOnce, piece_of, at_split, some_is, all_here, all_at, Found, found, Reaches, reaches, last_jump}
use Rattle.image_built.proofs.Rowing.{contains_of, exit_at}
use Rattle.image_built.proofs.Placing.{StayReady, Setup, IsBridged, Made, are_in, Spot, spot, end_within, within_ops, op_at, end_last, start_same, stub_place}

-- ---- below 2^31

abbrev pub Leads : TraceSet → List ℕ → List Placed → Placed → Type 0
Leads set bs placed pl = AllLeadNow set.traces bs placed pl

-- the piece to which a jump goes
pub record LeadsOn (set : TraceSet) (whole : Setup) (ps : List Piece) (placed : List Placed) (args : List Arg) (to : PieceId) : Type 0 where
  pub piece : Piece
  pub kinds : map kind_of_arg args ≡ map (λ (b : BoxId). Some b.kind) piece.label
  pub long : length args ≡ length piece.label
  pub there : Found placed to piece
  pub made : Made set whole ps (there.before ++ there.pl ∷ there.after)

pub leads_on : (set : TraceSet) (whole : Setup) (ps : List Piece) (placed : List Placed) (args : List Arg) (to : PieceId) → Made set whole ps placed → Reaches ps args to → LeadsOn set whole ps placed args to
leads_on set whole ps placed args to m r =
    let f = found m.names placed to r.piece (subst (λ (l : List Piece). piece_at l to ≡ Some r.piece) (sym m.pieces) r.at) in
    record { piece = r.piece; kinds = r.kinds; long = r.long; there = f; made = subst (Made set whole ps) f.here m }

start_low : (set : TraceSet) (whole : Setup) (ps : List Piece) (placed : List Placed) (args : List Arg) (to : PieceId) → Made set whole ps placed → LeadsOn set whole ps placed args to → start_in placed to < 2 ^ 31
start_low set whole ps placed args to m z =
    let f = z.there in
    let n = end_within f.before f.after f.pl (are_in set whole ps (f.before ++ f.pl ∷ f.after) z.made) in
    omega (arith, f.start, n, z.made.short)

stub_low : (set : TraceSet) (whole : Setup) (ps : List Piece) (before after : List Placed) (pl : Placed) (done rest : List OptOp) (op : OptOp) → Made set whole ps (before ++ pl ∷ after) → pl.piece.ops ≡ done ++ op ∷ rest → stub_of pl (length done) < 2 ^ 31
stub_low set whole ps before after pl done rest op m e =
    omega (arith, stub_place pl done rest op e, end_within before after pl (are_in set whole ps (before ++ pl ∷ after) m), m.short, ap exits_in e, exits-append done (op ∷ rest))

fits : (set : TraceSet) (whole : Setup) (ps : List Piece) (settings : PieceId → Setting) (b : ℕ) (pl : Placed) (done rest : List OptOp) (to : PieceId) (args : List Arg) → Spot set whole ps settings b pl → pl.piece.ops ≡ done ++ opt.Jump to args ∷ rest → Reaches ps args to
fits set whole ps settings b pl done rest to args s e = reaches ps args to (all_at (FitsLabel (label_in ps)) pl.piece.ops (length done) (opt.Jump to args) s.fits (op_at pl.piece.ops done rest (opt.Jump to args) e))

-- a guard leads to its stub, or in front of its bridge's piece
pub data GuardTo (set : TraceSet) (bs : List ℕ) (placed : List Placed) (pl : Placed) (op : OptOp) (k n : ℕ) : Type 0 where
  Stubbed : bridge_on set.traces bs pl.piece.id.trace n ≡ None → pl.to k ≡ stub_of pl k → GuardTo set bs placed pl op k n
  Bridged : (b : ℕ) → bridge_on set.traces bs pl.piece.id.trace n ≡ Some b → (z : IsBridged set placed pl op b) → pl.to k ≡ z.to.at → GuardTo set bs placed pl op k n

-- where the piece of a bridge begins
bridge_begins : (set : TraceSet) (whole : Setup) (ps : List Piece) (placed : List Placed) (pl : Placed) (op : OptOp) (b : ℕ) → Made set whole ps placed → (z : IsBridged set placed pl op b) → begin_in placed (record { trace = b; half = pl.piece.id.half }) ≡ z.to.at
bridge_begins set whole ps placed pl op b m z =
    let once = subst (λ (l : List Placed). AreOnce (map piece_of l)) z.here (subst AreOnce (sym m.pieces) m.once) in
    let here = at_split m.names 0 whole.settings z.before z.after z.to once in
    ap (λ (l : List Placed). begin_in l (record { trace = b; half = pl.piece.id.half })) z.here ∙ ap (begin_in (z.before ++ z.to ∷ z.after)) (sym z.named) ∙ here.begins

guard_by : (set : TraceSet) (whole : Setup) (ps : List Piece) (before after : List Placed) (pl : Placed) (done rest : List OptOp) (op : OptOp) (n : ℕ) (o : Option ℕ) → Made set whole ps (before ++ pl ∷ after) → pl.piece.ops ≡ done ++ op ∷ rest → guard_of op ≡ Some n → bridge_on set.traces whole.bridges pl.piece.id.trace n ≡ o
    → pl.to (length done) ≡ behind_guard (stub_of pl (length done)) (before ++ pl ∷ after) pl.piece.id.half o → GuardTo set whole.bridges (before ++ pl ∷ after) pl op (length done) n
guard_by set whole ps before after pl done rest op n None m e g is to = Stubbed is to
guard_by set whole ps before after pl done rest op n (Some b) m e g is to =
    let z = m.bridged before after pl done rest op n b refl e g is in
    Bridged b is z (to ∙ bridge_begins set whole ps (before ++ pl ∷ after) pl op b m z)

pub guard_leads : (set : TraceSet) (whole : Setup) (ps : List Piece) (before after : List Placed) (pl : Placed) (done rest : List OptOp) (op : OptOp) (n : ℕ) → Made set whole ps (before ++ pl ∷ after) → pl.piece.ops ≡ done ++ op ∷ rest → guard_of op ≡ Some n
    → pl.to (length done) ≡ behind_guard (stub_of pl (length done)) (before ++ pl ∷ after) pl.piece.id.half (bridge_on set.traces whole.bridges pl.piece.id.trace n) → GuardTo set whole.bridges (before ++ pl ∷ after) pl op (length done) n
guard_leads set whole ps before after pl done rest op n m e g to = guard_by set whole ps before after pl done rest op n (bridge_on set.traces whole.bridges pl.piece.id.trace n) m e g refl to

pub bridge_low : (set : TraceSet) (whole : Setup) (ps : List Piece) (placed : List Placed) (pl : Placed) (op : OptOp) (b : ℕ) → Made set whole ps placed → (z : IsBridged set placed pl op b) → z.to.at < 2 ^ 31
bridge_low set whole ps placed pl op b m z =
    let made = subst (Made set whole ps) z.here m in
    omega (arith, end_within z.before z.after z.to (are_in set whole ps (z.before ++ z.to ∷ z.after) made), made.short)

guard_low : (set : TraceSet) (whole : Setup) (ps : List Piece) (before after : List Placed) (pl : Placed) (done rest : List OptOp) (op : OptOp) (n : ℕ) → Made set whole ps (before ++ pl ∷ after) → pl.piece.ops ≡ done ++ op ∷ rest → GuardTo set whole.bridges (before ++ pl ∷ after) pl op (length done) n → pl.to (length done) < 2 ^ 31
guard_low set whole ps before after pl done rest op n m e (Stubbed is to) = omega (arith, to, stub_low set whole ps before after pl done rest op m e)
guard_low set whole ps before after pl done rest op n m e (Bridged b is z to) = omega (arith, to, bridge_low set whole ps (before ++ pl ∷ after) pl op b m z)

pub to_low : (set : TraceSet) (whole : Setup) (ps : List Piece) (before after : List Placed) (pl : Placed) (done rest : List OptOp) (op : OptOp) → Made set whole ps (before ++ pl ∷ after) → pl.piece.ops ≡ done ++ op ∷ rest → is_off op ≡ true → pl.to (length done) < 2 ^ 31
to_low set whole ps before after pl done rest (opt.Plain operation r args d) m e off = absurd (cc)
to_low set whole ps before after pl done rest (opt.Guard operation args n snap) m e off =
    guard_low set whole ps before after pl done rest (opt.Guard operation args n snap) n m e (guard_leads set whole ps before after pl done rest (opt.Guard operation args n snap) n m e refl (all_here (Leads set whole.bridges (before ++ pl ∷ after)) before after pl m.leads done rest (opt.Guard operation args n snap) e))
to_low set whole ps before after pl done rest (opt.Exit n snap) m e off =
    guard_low set whole ps before after pl done rest (opt.Exit n snap) n m e (guard_leads set whole ps before after pl done rest (opt.Exit n snap) n m e refl (all_here (Leads set whole.bridges (before ++ pl ∷ after)) before after pl m.leads done rest (opt.Exit n snap) e))
to_low set whole ps before after pl done rest (opt.Jump to args) m e off =
    let all = before ++ pl ∷ after in
    let s = spot set whole ps before after pl m in
    let goes = all_here (Leads set whole.bridges all) before after pl m.leads done rest (opt.Jump to args) e in
    let z = leads_on set whole ps all args to m (fits set whole ps whole.settings (keys_in before) pl done rest to args s e) in
    omega (arith, goes.0, start_low set whole ps all args to m z)
to_low set whole ps before after pl done rest (opt.Finish value) m e off =
    omega (arith, all_here (Leads set whole.bridges (before ++ pl ∷ after)) before after pl m.leads done rest (opt.Finish value) e, stub_low set whole ps before after pl done rest (opt.Finish value) m e)

-- the place to which operation k of a piece leads
pub to_split : (before after : List Placed) (pl : Placed) (k : ℕ) → k < length pl.piece.ops → to_all (before ++ pl ∷ after) (keys_in before + k) ≡ pl.to k
to_split before after pl k lt = by_key-split 0 (λ (x : Placed) (i : ℕ). x.to i) before after pl k lt

low_located : (set : TraceSet) (whole : Setup) (ps : List Piece) (placed : List Placed) → Made set whole ps placed → (e : ℕ) → Located placed e → Low (to_all placed) e
low_located set whole ps placed m e h =
    let made = subst (Made set whole ps) h.here m in
    let k = length h.done in
    let same : to_all placed e ≡ h.pl.to k = ap (λ (l : List Placed). to_all l e) h.here ∙ ap (to_all (h.before ++ h.pl ∷ h.after)) h.key ∙ to_split h.before h.after h.pl k (within_ops h.pl.piece.ops h.done h.rest h.op h.split) in
    omega (arith, same, to_low set whole ps h.before h.after h.pl h.done h.rest h.op made h.split h.off)

pub all_low : (set : TraceSet) (whole : Setup) (ps : List Piece) (placed : List Placed) → Made set whole ps placed → KeysAre (Low (to_all placed)) (all_slots placed)
all_low set whole ps placed m = keys_weaker (Located placed) (Low (to_all placed)) (all_slots placed) (low_located set whole ps placed m) (all_located placed)

pub all_aim : (set : TraceSet) (whole : Setup) (ps : List Piece) (placed : List Placed) → Made set whole ps placed → Aims (by_of (to_all placed) 0 (all_slots placed)) (to_all placed) 0 (all_slots placed)
all_aim set whole ps placed m = aims (to_all placed) 0 (all_slots placed) (all_once placed (are_in set whole ps placed m))

-- each jump leads to its place
pub goes_to : (by : Jumps) (to : ℕ → ℕ) (slots front behind : List Slot) (x : Slot) (e : ℕ) → Aims by to 0 slots → slots ≡ front ++ x ∷ behind → IsJumpOf x e → to e < 2 ^ 31 → sizes_of slots < 2 ^ 31
    → target (0x40000000 + (sizes_of front + size_of x)) (by e) ≡ 0x40000000 + to e
goes_to by to slots front behind x e aimed split j low short =
    let z : 0 + (sizes_of front + size_of x) ≡ sizes_of front + size_of x = omega arith in
    subst (λ (n : ℕ). target (0x40000000 + n) (by e) ≡ 0x40000000 + to e) z (lead_at by to 0 e front behind x (subst (Aims by to 0) split aimed) j low (omega (arith, short, ap sizes_of split, sizes-append front (x ∷ behind))))

-- ---- to stubs

regroup : (a b c d e f g : List Slot) → a ++ ((b ++ (c ++ (d ++ (e ++ f)))) ++ g) ≡ (a ++ (b ++ (c ++ d))) ++ (e ++ (f ++ g))
regroup a b c d e f g =
    let h = e ++ (f ++ g) in
    ap (λ l. a ++ l) (append_assoc b (c ++ (d ++ (e ++ f))) g ∙ ap (λ l. b ++ l) (append_assoc c (d ++ (e ++ f)) g ∙ ap (λ l. c ++ l) (append_assoc d (e ++ f) g ∙ ap (λ l. d ++ l) (append_assoc e f g))))
    ∙ sym (append_assoc a (b ++ (c ++ d)) h ∙ ap (λ l. a ++ l) (append_assoc b (c ++ d) h ∙ ap (λ l. b ++ l) (append_assoc c d h)))

pub stub_in : (before after : List Placed) (pl : Placed) (done rest : List OptOp) (op : OptOp) → AreIn (before ++ pl ∷ after) → pl.piece.ops ≡ done ++ op ∷ rest → has_stub op ≡ true
    → HasSlots (all_slots (before ++ pl ∷ after)) (stub_of pl (length done)) (puts (stub_code (way (stub_of pl (length done) + 16) 0) (exit_of pl (length done))))
stub_in before after pl done rest op h e has =
    let b = keys_in before in
    let k = length done in
    let i = exits_in done in
    let ops = pl.piece.ops in
    let code = all_code (keyed b pl.setting) b tell.Nothing ops in
    let more = slots_from (b + length ops) after in
    let s = stands_in before after pl h in
    let lt : i < exits_in ops = omega (arith, ap exits_in e, exits-append done (op ∷ rest), exits_one op rest has) in
    let z = stub_at (stubs_of pl) pl.exit (exits_in ops) i lt s.most in
    let place : stub_of pl k ≡ stubs_of pl + 16 * i = stub_place pl done rest op e in
    let number : exit_of pl k ≡ pl.exit + i = exit_at pl done rest op e in
    let x = puts (stub_code (way (stubs_of pl + 16 * i + 16) 0) (pl.exit + i)) in
    let front = in_front before ++ (puts pl.front ++ (code ++ z.before)) in
    let split = slots_around before after pl ∙ ap (λ (l : List Slot). in_front before ++ ((puts pl.front ++ (code ++ l)) ++ more)) z.split ∙ regroup (in_front before) (puts pl.front) code z.before x z.behind more in
    let size : stubs_of pl + 16 * i ≡ sizes_of front =
    omega (arith, sizes-append (in_front before) (puts pl.front ++ (code ++ z.before)), sizes-append (puts pl.front) (code ++ z.before), sizes-append code z.before, z.place, sizes-puts pl.front, body_size b pl, front_long before after pl h) in
    subst (λ (n : ℕ). HasSlots (all_slots (before ++ pl ∷ after)) (stub_of pl k) (puts (stub_code (way (stub_of pl k + 16) 0) n))) (sym number)
    (subst (λ (n : ℕ). HasSlots (all_slots (before ++ pl ∷ after)) n (puts (stub_code (way (n + 16) 0) (pl.exit + i)))) (sym place) (front, z.behind ++ more, split, size))

-- what an image says of a key, in place of which these are known
pub to_stub : (m : Model) (g : Image) (pl : runs.Placed) (j next stub number : ℕ) (leap : ℤ)
    → g.stub (pl.key + j) ≡ stub → g.leap (pl.key + j) ≡ leap → g.number (pl.key + j) ≡ number → target next (g.by (pl.key + j)) ≡ 0x40000000 + stub → HasSlots g.slots stub (puts (stub_code leap number))
    → ((l : Leave) (c : Calls) (n : ℕ) (t : State) → m.left pl.id j l c t → n ≡ 0x40000000 + stub → Exits m pl.id j l c stub g.common number leap (moved n t))
    → ToStub m g pl j next
to_stub m g pl j next stub number leap es el en goes here exits =
    let e = pl.key + j in record {
      goes = goes ∙ ap (λ (n : ℕ). 0x40000000 + n) (sym es);
      here = subst (λ (s : ℕ). HasSlots g.slots s (puts (stub_code (g.leap e) (g.number e)))) (sym es) (subst (λ (d : ℤ). HasSlots g.slots stub (puts (stub_code d (g.number e)))) (sym el) (subst (λ (n : ℕ). HasSlots g.slots stub (puts (stub_code leap n))) (sym en) here));
      exits = λ l c n t left at.
          subst (λ (s : ℕ). Exits m pl.id j l c s g.common (g.number e) (g.leap e) (moved n t)) (sym es)
          (subst (λ (d : ℤ). Exits m pl.id j l c stub g.common (g.number e) d (moved n t)) (sym el)
          (subst (λ (x : ℕ). Exits m pl.id j l c stub g.common x leap (moved n t)) (sym en) (exits l c n t left (at ∙ ap (λ (x : ℕ). 0x40000000 + x) es))));
    }

common_target : (stub number : ℕ) → stub + 16 < 2 ^ 31 → number < 2 ^ 31 → target (0x40000000 + (stub + sizes_of (puts (stub_code (way (stub + 16) 0) number)))) (way (stub + 16) 0) ≡ 0x40000000 + 0
common_target stub number low few =
    ap (λ (n : ℕ). target (0x40000000 + (stub + n)) (way (stub + 16) 0)) (stub_size (way (stub + 16) 0) number few) ∙ target_is (stub + 16) 0 low (omega arith)

pub leads_stub : (host : Host) → StubsExit host → (set : TraceSet) (whole : Setup) (ps : List Piece) (before after : List Placed) (pl : Placed) (done rest : List OptOp) (op : OptOp) (front behind : List Slot) (x : Slot)
    → Made set whole ps (before ++ pl ∷ after) → pl.piece.ops ≡ done ++ op ∷ rest → has_stub op ≡ true → is_off op ≡ true → pl.to (length done) ≡ stub_of pl (length done)
    → all_slots (before ++ pl ∷ after) ≡ front ++ x ∷ behind → IsJumpOf x (keys_in before + length done)
    → ToStub (model_of host set whole.pieces whole.settings ps) (image_of (before ++ pl ∷ after)) (run_of (keys_in before) pl) (length done) (0x40000000 + (sizes_of front + size_of x))
leads_stub host exit set whole ps before after pl done rest op front behind x m e has off to split j =
    let all = before ++ pl ∷ after in
    let g = image_of all in
    let b = keys_in before in
    let k = length done in
    let h = are_in set whole ps all m in
    let lt = within_ops pl.piece.ops done rest op e in
    let stub = stub_of pl k in
    let number = exit_of pl k in
    let settings = whole.settings in
    let s = stands_in before after pl h in
    let more : exits_in pl.piece.ops ≡ exits_in done + (1 + exits_in rest) = ap exits_in e ∙ exits-append done (op ∷ rest) ∙ ap (λ (n : ℕ). exits_in done + n) (exits_one op rest has) in
    let room : stub + 16 < 2 ^ 31 = omega (arith, stub_place pl done rest op e, end_within before after pl h, m.short, more) in
    let few : number < 2 ^ 31 = omega (arith, exit_at pl done rest op e, s.most, more) in
    let low : to_all all (b + k) < 2 ^ 31 = omega (arith, to_split before after pl k lt, to, room) in
    let goes = goes_to g.by (to_all all) (all_slots all) front behind x (b + k) (all_aim set whole ps all m) split j low m.short in
    let there : to_all all (b + k) ≡ stub = to_split before after pl k lt ∙ to in
    to_stub (model_of host set whole.pieces settings ps) g (run_of b pl) k (0x40000000 + (sizes_of front + size_of x)) stub number (way (stub + 16) 0)
    (by_key-split 0 stub_of before after pl k lt)
    (by_key-split (pos 0) (λ (y : Placed) (n : ℕ). way (stub_of y n + 16) 0) before after pl k lt)
    (by_key-split 0 exit_of before after pl k lt)
    (goes ∙ ap (λ (n : ℕ). 0x40000000 + n) there)
    (stub_in before after pl done rest op h e has)
    (λ l c n t left at. exit set whole.pieces ps settings pl.piece.id k l c stub 0 number n (way (stub + 16) 0) t left (omega (arith, few)) at (common_target stub number room few))

-- ---- to pieces

pub runs_has : (b : ℕ) (before after : List Placed) (pl : Placed) → Has (runs_from b (before ++ pl ∷ after)) (run_of (b + keys_in before) pl)
runs_has b [] after pl =
    let n : b ≡ b + 0 = omega arith in
    inl (ap (λ (k : ℕ). run_of k pl) n)
runs_has b (x ∷ before) after pl =
    let n : b + length x.piece.ops + keys_in before ≡ b + (length x.piece.ops + keys_in before) = omega arith in
    inr (subst (λ (k : ℕ). Has (runs_from (b + length x.piece.ops) (before ++ pl ∷ after)) (run_of k pl)) n (runs_has (b + length x.piece.ops) before after pl))

pub run_there : (before after : List Placed) (pl : Placed) → Contains (runs_from 0 (before ++ pl ∷ after)) (run_of (keys_in before) pl)
run_there before after pl =
    let z : 0 + keys_in before ≡ keys_in before = omega arith in
    contains_of (runs_from 0 (before ++ pl ∷ after)) (run_of (keys_in before) pl) (subst (λ (k : ℕ). Has (runs_from 0 (before ++ pl ∷ after)) (run_of k pl)) z (runs_has 0 before after pl))

at_places : (f : BoxId → Place) (label : List BoxId) → AllZip (λ (p : Place) (x : BoxId). f x ≡ p) (map f label) label
at_places f [] = tt
at_places f (b ∷ label) = (refl, at_places f label)

-- the places to which a jump brings its arguments are those of the label
places_meet : (set : TraceSet) (whole : Setup) (ps : List Piece) (settings : PieceId → Setting) (b c : ℕ) (pl to : Placed) → Spot set whole ps settings b pl → Spot set whole ps settings c to → pl.setting.to ≡ map (λ (x : BoxId). to.setting.at x.number) to.piece.label
    → AllZip (λ (p : Place) (x : BoxId). (settings to.piece.id).at x.number ≡ p) (settings pl.piece.id).to (label_at ps to.piece.id)
places_meet set whole ps settings b c pl to s z targets =
    let r = to.piece.id in
    let label : label_at ps r ≡ to.piece.label = ap label_of z.at in
    let places : map (λ (x : BoxId). to.setting.at x.number) to.piece.label ≡ (settings pl.piece.id).to = sym targets ∙ ap (λ (d : Setting). d.to) (sym s.setting) in
    subst (λ (l : List BoxId). AllZip (λ (p : Place) (x : BoxId). (settings r).at x.number ≡ p) (settings pl.piece.id).to l) (sym label)
    (subst (λ (l : List Place). AllZip (λ (p : Place) (x : BoxId). (settings r).at x.number ≡ p) l to.piece.label) places
    (subst (λ (d : Setting). AllZip (λ (p : Place) (x : BoxId). d.at x.number ≡ p) (map (λ (x : BoxId). to.setting.at x.number) to.piece.label) to.piece.label) (sym z.setting) (at_places (λ (x : BoxId). to.setting.at x.number) to.piece.label)))

-- and the piece stays ready from them
ready_there : (set : TraceSet) (whole : Setup) (ps : List Piece) (settings : PieceId → Setting) (b c : ℕ) (pl to : Placed) (done rest : List OptOp) (target : PieceId) (args : List Arg) (vs : List Value) (w : World) (calls : Calls) (t : State) → StayReady set ps → Spot set whole ps settings b pl → Spot set whole ps settings c to → pl.piece.ops ≡ done ++ opt.Jump target args ∷ rest
    → map kind_of_arg args ≡ map (λ (x : BoxId). Some x.kind) to.piece.label → LeftAt (settings pl.piece.id) (ops_at whole.pieces pl.piece.id) (length done) (Jumping vs w) calls t → StaysReady (settings to.piece.id).table (ops_at whole.pieces to.piece.id) (begin_at ps to.piece.id vs w)
ready_there set whole ps settings b c pl to done rest target args vs w calls t ready s z e kinds (op, got, so, had) =
    let r = to.piece.id in
    let known : slice_get (ops_at whole.pieces pl.piece.id) (length done) ≡ Some (opt.Jump target args) = ap (λ (l : List OptOp). slice_get l (length done)) s.wholly ∙ op_at pl.piece.ops done rest (opt.Jump target args) e in
    let same : op ≡ opt.Jump target args = some_is (sym got ∙ known) in
    let from : (settings pl.piece.id).table ≡ set.table = ap (λ (d : Setting). d.table) s.setting ∙ s.chosen.table in
    let there : set.table ≡ (settings r).table = sym (ap (λ (d : Setting). d.table) z.setting ∙ z.chosen.table) in
    let left : AreKinded (settings pl.piece.id).table (map kind_of_arg args) vs w = subst (λ (o : OptOp). AreKinded (settings pl.piece.id).table (kinds_left o) vs w) same so.kinds in
    let passed : AreKinded set.table (map (λ (x : BoxId). Some x.kind) to.piece.label) vs w =
    subst (λ (ks : List (Option Kind)). AreKinded set.table ks vs w) kinds (subst (λ (d : Table). AreKinded d (map kind_of_arg args) vs w) from left) in
    subst (λ (d : Table). StaysReady d (ops_at whole.pieces r) (begin_at ps r vs w)) there
    (subst (λ (l : List OptOp). StaysReady set.table l (begin_at ps r vs w)) (sym z.wholly)
    (subst (λ (l : List BoxId). StaysReady set.table to.piece.ops (opt_begin l vs w)) (sym (ap label_of z.at)) (ready r to.piece vs w z.at passed)))

pub leads_piece : (host : Host) → JumpsHold → (set : TraceSet) (whole : Setup) (ps : List Piece) (before after : List Placed) (pl : Placed) (done rest : List OptOp) (to : PieceId) (args : List Arg) (front behind : List Slot) (x : Slot)
    → Made set whole ps (before ++ pl ∷ after) → pl.piece.ops ≡ done ++ opt.Jump to args ∷ rest → all_slots (before ++ pl ∷ after) ≡ front ++ x ∷ behind → IsJumpOf x (keys_in before + length done)
    → ToPiece (model_of host set whole.pieces whole.settings ps) (image_of (before ++ pl ∷ after)) (run_of (keys_in before) pl) (length done) (0x40000000 + (sizes_of front + size_of x))
leads_piece host hold set whole ps before after pl done rest to args front behind x m e split j =
    let all = before ++ pl ∷ after in
    let g = image_of all in
    let b = keys_in before in
    let k = length done in
    let settings = whole.settings in
    let s = spot set whole ps before after pl m in
    let leads = all_here (Leads set whole.bridges all) before after pl m.leads done rest (opt.Jump to args) e in
    let z = leads_on set whole ps all args to m (fits set whole ps settings b pl done rest to args s e) in
    let f = z.there in
    let there = spot set whole ps f.before f.after f.pl z.made in
    let lt = within_ops pl.piece.ops done rest (opt.Jump to args) e in
    let low : to_all all (b + k) < 2 ^ 31 = omega (arith, to_split before after pl k lt, leads.0, start_low set whole ps all args to m z) in
    let goes = goes_to g.by (to_all all) (all_slots all) front behind x (b + k) (all_aim set whole ps all m) split j low m.short in
    let last = end_last pl.piece.ops done rest (opt.Jump to args) s.lawful.sound.formed.ends_once e refl in
    let at : to_all all (b + k) ≡ runs.start_of (run_of (keys_in f.before) f.pl) = to_split before after pl k lt ∙ leads.0 ∙ f.start ∙ sym (start_same (keys_in f.before) f.pl) in
    let table : (settings f.pl.piece.id).table ≡ (settings pl.piece.id).table =
    ap (λ (d : Setting). d.table) there.setting ∙ there.chosen.table ∙ sym s.chosen.table ∙ ap (λ (d : Setting). d.table) (sym s.setting) in
    let kinds = z.kinds ∙ ap (λ (p : Piece). map (λ (x : BoxId). Some x.kind) p.label) (sym f.piece) in
    let meet = places_meet set whole ps settings b (keys_in f.before) pl f.pl s there (leads.1 ∙ f.places) in record {
      to = run_of (keys_in f.before) f.pl;
      there = subst (λ (l : List Placed). Contains (runs_from 0 l) (run_of (keys_in f.before) f.pl)) (sym f.here) (run_there f.before f.after f.pl);
      named = sym f.named ∙ sym (last_jump ps pl.piece.id pl.piece done to args s.at last);
      goes = goes ∙ ap (λ (n : ℕ). 0x40000000 + n) at;
      enters = λ vs w c a t left place. hold whole.pieces ps settings pl.piece.id f.pl.piece.id k vs w c a t table meet left (ready_there set whole ps settings b (keys_in f.before) pl f.pl done rest to args vs w c t m.ready s there e kinds left);
    }
