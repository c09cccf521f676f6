-- A piece of an image, and all that is known of it.
use Rattle.std.proofs.Common.{◌≡◌, ℕ, suc, ◌+◌, ◌*◌, ◌<◌, ◌≤◌, ◌^◌, ◌↔◌, List, [], ◌∷◌, ◌++◌, length, map, take, append_assoc, refl, sym, ap, ◌∙◌, subst, arith, Some, Bool, true, false, cond, Option}
use Rattle.std.specs.Prelude.{slice_get, IsTrue}
use Rattle.std.specs.List.{All, AllByRecursion, AllZip}
use Rattle.trace_ops.specs.declared.trace.TraceSet.{TraceSet}
use Rattle.trace_ops.specs.declared.piece.PieceId.{PieceId}
use Rattle.trace_ops.specs.declared.piece.OptOp.{OptOp}
use Rattle.trace_ops.specs.declared.piece.OptOp.TheVariants as opt
use Rattle.trace_ops.specs.declared.piece.Piece.{Piece}
use Rattle.trace_ops.specs.declared.trace.BoxId.{BoxId}
use Rattle.trace_ops.specs.InRange.{IsTableInRange}
use Rattle.trace_ops.specs.Pieces.{is_end, FitsLabel}
use Rattle.trace_ops.specs.Sound.{IsSound}
use Rattle.trace_meaning.specs.declared.value.Value.{Value}
use Rattle.trace_meaning.specs.World.{World}
use Rattle.opt_meaning.specs.Step.{opt_begin}
use Rattle.opt_meaning.specs.Pieces.{piece_at, ops_of, ops_at, same_piece}
use Rattle.guard_exit.specs.Codes.{common_code}
use Rattle.asm_select.specs.declared.told.Told.TheVariants as tell
use Rattle.target_base.specs.declared.place.Place.{Place}
use Rattle.linear_scan.specs.Placing.{AreDistinct}
use Rattle.asm_select.specs.Slots.{Slot, Jumps, HaveRows, puts, sizes_of}
use Rattle.asm_select.specs.Exited.{shown_by}
use Rattle.asm_select.specs.Chosen.{Setting, all_code}
use Rattle.asm_select.specs.Valued.{MayHold}
use Rattle.asm_select.specs.Reached.{AreApart}
use Rattle.asm_select.specs.Ended.{TableServes}
use Rattle.asm_select.specs.Asked.{AreSafe, AreChosen}
use Rattle.code_layout.specs.Chosen.{ChosenJumps}
use Rattle.bridge_patch.specs.Pieces.{Placed, start_of, stubs_of, end_of, stub_of, exits_in, stubs_from, spelled, AreLaid, label_at}
use Rattle.bridge_patch.specs.Attached.{AllLeadNow, entry_code, IsMoved, guard_of}
use Rattle.bridge_patch.specs.Bridged.{bridge_on}
use Rattle.bridge_patch.specs.Image.{label_in, KeepsItsGuard}
use Rattle.image_runs.specs.Selection.{joined, code_of}
use Rattle.image_runs.specs.Selection as runs
use Rattle.image_runs.specs.Image.{HasSlots}
use Rattle.image_model.specs.Ready.{AreKinded, StaysReady}
use Rattle.image_model.specs.Staying.{SoundPiecesStayReady}
use Rattle.image_model.specs.Laws.{codes_from, closes, IsSelected}
use Rattle.image_built.specs.Built.{keyed, slots_of, slots_from, all_slots, run_of}
use Rattle.image_built.proofs.Leading.{sizes-append, sizes-puts}
use Rattle.image_built.proofs.Choosing.{joined-codes, chosen_first}
use Rattle.image_built.proofs.Splitting.{keys_in, body_size, slots_end, stubs_room}
use Rattle.image_built.proofs.Locating.{AreIn, in_front, slots_around, stands_in, front_long}
use Rattle.image_built.proofs.Naming.{TellsNames, AreOnce, piece_of, all_here, map-around, get_middle, at_split, some_is}
use Rattle.image_built.proofs.Rowing.{take_front}

-- each piece stays ready from values of the kinds of its label
abbrev pub StayReady : TraceSet → List Piece → Type 0
StayReady set ps =
    (q : PieceId) (p : Piece) (vs : List Value) (w : World) → piece_at ps q ≡ Some p → AreKinded set.table (map (λ (b : BoxId). Some b.kind) p.label) vs w → StaysReady set.table p.ops (opt_begin p.label vs w)

-- the piece of a name is one of them
named_if : (P : Piece → Type 0) (x p : Piece) (o : Option Piece) (b : Bool) → P x → (o ≡ Some p → P p) → cond b (Some x) o ≡ Some p → P p
named_if P x p o true one more e = subst P (some_is e) one
named_if P x p o false one more e = more e

pub each_named : (P : Piece → Type 0) (ps : List Piece) (q : PieceId) (p : Piece) → AllByRecursion P ps → piece_at ps q ≡ Some p → P p
each_named P [] q p h e = absurd (cc)
each_named P (x ∷ ps) q p h e = named_if P x p (piece_at ps q) (same_piece q x.id) h.0 (each_named P ps q p h.1) e

-- a whole of pieces, among them those of bridges to come, the setting of each, and the bridges that are attached now
pub record Setup : Type 0 where
  pub pieces : List Piece
  pub settings : PieceId → Setting
  pub bridges : List ℕ

-- how the instructions of a piece's operations are chosen
pub record IsSet (set : TraceSet) (pl : Placed) : Type 0 where
  pub table : pl.setting.table ≡ set.table
  pub serves : TableServes pl.setting.table
  pub hold : (b : ℕ) → MayHold (pl.setting.at b)
  pub apart : AreApart pl.setting.at pl.piece.ops
  pub safe : AreSafe pl.setting.at pl.piece.ops
  pub chosen : AreChosen pl.setting 0 tell.Nothing pl.piece.ops

-- a piece is sound, wherever it jumps
pub record IsLawful (set : TraceSet) (p : Piece) : Type 0 where
  pub label_of : PieceId → Option (List BoxId)
  pub sound : IsSound set label_of p

-- what stands in front of a piece has rows
abbrev pub HasMoves : Placed → Type 0
HasMoves pl = (by : Jumps) → HaveRows by (puts pl.front)

-- the places of the boxes that a guard shows
abbrev pub shown_at : Placed → OptOp → List Place
shown_at pl op = map (λ (b : BoxId). pl.setting.at b.number) (shown_by op)

-- A guard's bridge has a piece of the same half, in front of which the words that the guard shows are moved to the label's places.
pub record IsBridged (set : TraceSet) (placed : List Placed) (pl : Placed) (op : OptOp) (b : ℕ) : Type 0 where
  pub before : List Placed
  pub to : Placed
  pub after : List Placed
  pub here : placed ≡ before ++ to ∷ after
  pub named : to.piece.id ≡ record { trace = b; half = pl.piece.id.half }
  pub front : to.front ≡ entry_code (shown_at pl op) (label_at to)
  pub moved : AllZip (IsMoved (shown_at pl op)) (shown_at pl op) (label_at to)
  pub distinct : AreDistinct (label_at to)
  pub kinds : map (λ (x : BoxId). x.kind) to.piece.label ≡ map (λ (x : BoxId). x.kind) (shown_by op)

-- so does each guard that has one
abbrev pub AreBridged : TraceSet → List ℕ → List Placed → Type 0
AreBridged set bs placed =
    (before after : List Placed) (pl : Placed) (done rest : List OptOp) (op : OptOp) (n b : ℕ)
    → placed ≡ before ++ pl ∷ after → pl.piece.ops ≡ done ++ op ∷ rest → guard_of op ≡ Some n → bridge_on set.traces bs pl.piece.id.trace n ≡ Some b → IsBridged set placed pl op b

pub stay_ready : SoundPiecesStayReady → (set : TraceSet) (ps : List Piece) → IsTableInRange set.table → AllByRecursion (IsLawful set) ps → StayReady set ps
stay_ready stays set ps range sound q p vs w e h = (let z = each_named (IsLawful set) ps q p sound e in stays set z.label_of p vs w range z.sound h)

-- pieces in the code, as they are compiled or attached
pub record Made (set : TraceSet) (whole : Setup) (ps : List Piece) (placed : List Placed) : Type 0 where
  pub names : TellsNames
  pub jumps : ChosenJumps
  pub pieces : map piece_of placed ≡ ps
  pub end : ℕ
  pub last : ℕ
  pub laid : AreLaid (length (spelled common_code)) 0 placed end last
  pub chosen : AllByRecursion (IsSet set) placed
  pub leads : AllByRecursion (AllLeadNow set.traces whole.bridges placed) placed
  pub short : sizes_of (all_slots placed) < 2 ^ 31
  pub once : AreOnce ps
  pub sound : AllByRecursion (IsLawful set) ps
  pub fits : AllByRecursion (λ (p : Piece). All (FitsLabel (label_in ps)) p.ops) ps
  pub guards : AllByRecursion (λ (p : Piece). All KeepsItsGuard p.ops) ps
  pub ready : StayReady set ps
  pub fronts : AllByRecursion HasMoves placed
  pub bridged : AreBridged set whole.bridges placed
  -- the whole of the pieces has these as they are, and so have the settings
  pub within : (q : PieceId) (p : Piece) → piece_at ps q ≡ Some p → ops_at whole.pieces q ≡ p.ops
  pub settled : (before after : List Placed) (pl : Placed) → placed ≡ before ++ pl ∷ after → whole.settings pl.piece.id ≡ keyed (keys_in before) pl.setting

chosen_codes : (set : TraceSet) (pls : List Placed) → AllByRecursion (IsSet set) pls → AllByRecursion (λ (pl : Placed). AreChosen pl.setting 0 tell.Nothing pl.piece.ops) pls
chosen_codes set [] h = tt
chosen_codes set (pl ∷ pls) h = (h.0.chosen, chosen_codes set pls h.1)

pub few_last : (set : TraceSet) (whole : Setup) (ps : List Piece) (placed : List Placed) (m : Made set whole ps placed) → m.last ≤ 2 ^ 31
few_last set whole ps placed m = omega (arith, stubs_room (length (spelled common_code)) 0 m.end m.last 0 placed m.laid, m.short, sizes-append (puts common_code) (slots_from 0 placed))

pub are_in : (set : TraceSet) (whole : Setup) (ps : List Piece) (placed : List Placed) → Made set whole ps placed → AreIn placed
are_in set whole ps placed m = record {
  end = m.end;
  last = m.last;
  laid = m.laid;
  few = few_last set whole ps placed m;
  chosen = chosen_codes set placed m.chosen;
  jumps = m.jumps;
}

-- what is known of one of them
pub record Spot (set : TraceSet) (whole : Setup) (ps : List Piece) (settings : PieceId → Setting) (b : ℕ) (pl : Placed) : Type 0 where
  pub at : piece_at ps pl.piece.id ≡ Some pl.piece
  pub ops : ops_at ps pl.piece.id ≡ pl.piece.ops
  pub wholly : ops_at whole.pieces pl.piece.id ≡ pl.piece.ops
  pub setting : settings pl.piece.id ≡ keyed b pl.setting
  pub chosen : IsSet set pl
  pub lawful : IsLawful set pl.piece
  pub fits : All (FitsLabel (label_in ps)) pl.piece.ops
  pub guards : All KeepsItsGuard pl.piece.ops

pub spot : (set : TraceSet) (whole : Setup) (ps : List Piece) (before after : List Placed) (pl : Placed) → Made set whole ps (before ++ pl ∷ after) → Spot set whole ps whole.settings (keys_in before) pl
spot set whole ps before after pl m =
    let here = at_split m.names 0 whole.settings before after pl (subst AreOnce (sym m.pieces) m.once) in
    let at : piece_at ps pl.piece.id ≡ Some pl.piece = subst (λ (l : List Piece). piece_at l pl.piece.id ≡ Some pl.piece) m.pieces here.at in
    let around : map piece_of before ++ pl.piece ∷ map piece_of after ≡ ps = sym (map-around piece_of before after pl) ∙ m.pieces in
    let of = λ (P : Piece → Type 0) (h : AllByRecursion P ps). all_here P (map piece_of before) (map piece_of after) pl.piece (subst (AllByRecursion P) (sym around) h) in record {
      at = at;
      ops = ap ops_of at;
      wholly = m.within pl.piece.id pl.piece at;
      setting = m.settled before after pl refl;
      chosen = all_here (IsSet set) before after pl m.chosen;
      lawful = of (IsLawful set) m.sound;
      fits = of (λ (p : Piece). All (FitsLabel (label_in ps)) p.ops) m.fits;
      guards = of (λ (p : Piece). All KeepsItsGuard p.ops) m.guards;
    }

-- ---- where it ends

pub end_within : (before after : List Placed) (pl : Placed) → AreIn (before ++ pl ∷ after) → end_of pl ≤ sizes_of (all_slots (before ++ pl ∷ after))
end_within before after pl h =
    let b = keys_in before in
    let s = stands_in before after pl h in
    let rest = slots_from (b + length pl.piece.ops) after in
    omega (arith, slots_end b pl s.most, front_long before after pl h, ap sizes_of (slots_around before after pl), sizes-append (in_front before) (slots_of b pl ++ rest), sizes-append (slots_of b pl) rest)

-- ---- its operations

pub length_middle : {X : Type 0} (xs ys : List X) (x : X) → length (xs ++ x ∷ ys) ≡ length xs + suc (length ys)
length_middle [] ys x = omega arith
length_middle (z ∷ xs) ys x = omega (arith, length_middle xs ys x)

pub within_ops : (ops done rest : List OptOp) (op : OptOp) → ops ≡ done ++ op ∷ rest → length done < length ops
within_ops ops done rest op e = omega (arith, ap length e, length_middle done rest op)

pub op_at : (ops done rest : List OptOp) (op : OptOp) → ops ≡ done ++ op ∷ rest → slice_get ops (length done) ≡ Some op
op_at ops done rest op e = ap (λ (l : List OptOp). slice_get l (length done)) e ∙ get_middle done op rest

some_op : (ops : List OptOp) → 0 < length ops → (op : OptOp) × (more : List OptOp) × (ops ≡ op ∷ more)
some_op [] lt = absurd (omega (arith, lt))
some_op (op ∷ more) lt = (op, more, refl)

closes_is : (op : OptOp) → IsTrue (is_end op) → IsTrue (closes op)
closes_is (opt.Plain operation r args d) h = h
closes_is (opt.Guard operation args n snap) h = h
closes_is (opt.Exit n snap) h = h
closes_is (opt.Jump to args) h = h
closes_is (opt.Finish value) h = h

end_closes : (ops done : List OptOp) (op : OptOp) → ((k : ℕ) (x : OptOp) → slice_get ops k ≡ Some x → IsTrue (is_end x) ↔ (k + 1 ≡ length ops)) → ops ≡ done ++ op ∷ [] → IsTrue (closes op)
end_closes ops done op ends e =
    let last : length done + 1 ≡ length ops = omega (arith, ap length e, length_middle done [] op) in
    closes_is op ((ends (length done) op (op_at ops done [] op e)).1 last)

-- an end is the last operation
pub end_last : (ops done rest : List OptOp) (op : OptOp) → ((k : ℕ) (x : OptOp) → slice_get ops k ≡ Some x → IsTrue (is_end x) ↔ (k + 1 ≡ length ops)) → ops ≡ done ++ op ∷ rest → IsTrue (is_end op) → ops ≡ done ++ op ∷ []
end_last ops done [] op ends e h = e
end_last ops done (x ∷ rest) op ends e h =
    let last : length done + 1 ≡ length ops = (ends (length done) op (op_at ops done (x ∷ rest) op e)).0 h in
    absurd (omega (arith, last, ap length e, length_middle done (x ∷ rest) op))

-- ---- it is selected

pub start_same : (b : ℕ) (pl : Placed) → runs.start_of (run_of b pl) ≡ start_of pl
start_same b pl = ap (λ (n : ℕ). pl.at + n) (sizes-puts pl.front)

pub selected : (set : TraceSet) (whole : Setup) (ps : List Piece) (settings : PieceId → Setting) (b : ℕ) (pl : Placed) → Spot set whole ps settings b pl → end_of pl < 2 ^ 31 → IsSelected set whole.pieces ps settings (run_of b pl)
selected set whole ps settings b pl s short =
    let q = pl.piece.id in
    let st = keyed b pl.setting in
    let found = some_op pl.piece.ops s.lawful.sound.formed.has_an_end in record {
      same = s.ops ∙ sym s.wholly;
      table = ap (λ (c : Setting). c.table) s.setting ∙ s.chosen.table;
      serves = subst (λ (c : Setting). TableServes c.table) (sym s.setting) s.chosen.serves;
      hold = λ n. subst (λ (c : Setting). MayHold (c.at n)) (sym s.setting) (s.chosen.hold n);
      apart = subst (λ (l : List OptOp). AreApart (settings q).at l) (sym s.wholly) (subst (λ (c : Setting). AreApart c.at pl.piece.ops) (sym s.setting) s.chosen.apart);
      safe = subst (λ (l : List OptOp). AreSafe (settings q).at l) (sym s.wholly) (subst (λ (c : Setting). AreSafe c.at pl.piece.ops) (sym s.setting) s.chosen.safe);
      chosen = subst (λ (l : List OptOp). AreChosen (settings q) b tell.Nothing l) (sym s.wholly) (subst (λ (c : Setting). AreChosen c b tell.Nothing pl.piece.ops) (sym s.setting) (chosen_first b pl.setting tell.Nothing pl.piece.ops s.chosen.chosen));
      codes = ap (λ (c : Setting). codes_from c b tell.Nothing pl.piece.ops) (sym s.setting) ∙ ap (λ (l : List OptOp). codes_from (settings q) b tell.Nothing l) (sym s.wholly);
      small = omega (arith, start_same b pl, ap sizes_of (joined-codes st b tell.Nothing pl.piece.ops), body_size b pl, short);
      some = (found.0, found.1, s.wholly ∙ found.2);
      closed = λ done op e. end_closes pl.piece.ops done op s.lawful.sound.formed.ends_once (sym s.wholly ∙ e);
    }

-- ---- its slots stand

pub here_in : (before after : List Placed) (pl : Placed) → AreIn (before ++ pl ∷ after) → HasSlots (all_slots (before ++ pl ∷ after)) pl.at (code_of (run_of (keys_in before) pl))
here_in before after pl h =
    let b = keys_in before in
    let ops = pl.piece.ops in
    let st = keyed b pl.setting in
    let code = all_code st b tell.Nothing ops in
    let stubs = puts (stubs_from (stubs_of pl) pl.exit (exits_in ops)) in
    let rest = slots_from (b + length ops) after in
    let inner : (puts pl.front ++ (code ++ stubs)) ++ rest ≡ (puts pl.front ++ joined (codes_from st b tell.Nothing ops)) ++ (stubs ++ rest) =
    append_assoc (puts pl.front) (code ++ stubs) rest
    ∙ ap (λ (l : List Slot). puts pl.front ++ l) (append_assoc code stubs rest)
    ∙ sym (append_assoc (puts pl.front) code (stubs ++ rest))
    ∙ ap (λ (l : List Slot). (puts pl.front ++ l) ++ (stubs ++ rest)) (sym (joined-codes st b tell.Nothing ops)) in
    (in_front before, stubs ++ rest, slots_around before after pl ∙ ap (λ (l : List Slot). in_front before ++ l) inner, front_long before after pl h)

-- and so does the stub of an operation that has one
pub stub_place : (pl : Placed) (done rest : List OptOp) (op : OptOp) → pl.piece.ops ≡ done ++ op ∷ rest → stub_of pl (length done) ≡ stubs_of pl + 16 * exits_in done
stub_place pl done rest op e =
    ap (λ (l : List OptOp). stubs_of pl + 16 * exits_in (take (length done) l)) e
    ∙ ap (λ (l : List OptOp). stubs_of pl + 16 * exits_in l) (take_front done (op ∷ rest))
