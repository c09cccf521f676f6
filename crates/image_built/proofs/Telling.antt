-- The rows of an image's exits are those of its jumps.
use Rattle.std.proofs.Common.{◌≡◌, inl, inr, ℕ, ◌+◌, true, List, ◌∷◌, ◌++◌, length, refl, sym, ap, ◌∙◌, subst, arith, Option, Some, None}
use Rattle.std.specs.Prelude.{slice_get}
use Rattle.std.specs.List.{All, Contains}
use Rattle.lists.specs.Has.{Has}
use Rattle.trace_ops.specs.declared.trace.TraceSet.{TraceSet}
use Rattle.trace_ops.specs.declared.piece.Half.TheVariants.{Pre}
use Rattle.trace_ops.specs.declared.piece.PieceId.{PieceId}
use Rattle.trace_ops.specs.declared.piece.OptOp.{OptOp}
use Rattle.trace_ops.specs.declared.piece.OptOp.TheVariants as opt
use Rattle.trace_ops.specs.declared.piece.Piece.{Piece}
use Rattle.guard_exit.specs.declared.row.ExitRow.{ExitRow}
use Rattle.guard_exit.specs.Codes.{common_code}
use Rattle.asm_select.specs.Slots.{sizes_of}
use Rattle.asm_select.specs.Chosen.{Where}
use Rattle.code_layout.specs.Leading.{JumpIs}
use Rattle.code_layout.specs.Chosen.{has_jump}
use Rattle.bridge_patch.specs.Pieces.{Placed, exit_of, exits_in, rows_of_op, rows_from, rows_of, all_rows, displacement_of, spelled}
use Rattle.bridge_patch.specs.Image.{KeepsItsGuard}
use Rattle.image_runs.specs.Counted.{IsGuards}
use Rattle.image_runs.specs.Selection.{Exit, Guarded, Jumping, Finishing, Inside}
use Rattle.image_runs.specs.Selection as runs
use Rattle.image_runs.specs.Image.{JumpAt, RowOf, RowsAre, disp_in}
use Rattle.image_built.specs.Built.{all_slots, exit_if, image_of}
use Rattle.image_built.proofs.Leading.{KeysAre, key_at, around, is_at, is_one}
use Rattle.image_built.proofs.Splitting.{keys_in, by_key-split}
use Rattle.image_built.proofs.Locating.{Located, all_located, all_once, jump_in}
use Rattle.image_built.proofs.Naming.{all_at}
use Rattle.image_built.proofs.Rowing.{has_of, contains_of, row_here, OpOf, op_of, piece_of_row, row_of_piece, all_rise, one_row, exit_at}
use Rattle.image_built.proofs.Placing.{Setup, Made, are_in, spot, within_ops, op_at}

-- ---- what an image says of the key of an operation

pub says_exit : (before after : List Placed) (pl : Placed) (done rest : List OptOp) (op : OptOp) → pl.piece.ops ≡ done ++ op ∷ rest → (image_of (before ++ pl ∷ after)).exit (keys_in before + length done) ≡ runs.exit_of op
says_exit before after pl done rest op e =
    by_key-split Inside (λ (x : Placed) (k : ℕ). exit_if (slice_get x.piece.ops k)) before after pl (length done) (within_ops pl.piece.ops done rest op e)
    ∙ ap exit_if (op_at pl.piece.ops done rest op e)

pub says_owner : (before after : List Placed) (pl : Placed) (done rest : List OptOp) (op : OptOp) → pl.piece.ops ≡ done ++ op ∷ rest → (image_of (before ++ pl ∷ after)).owner (keys_in before + length done) ≡ pl.piece.id
says_owner before after pl done rest op e = by_key-split (record { trace = 0; half = Pre }) (λ (x : Placed) (k : ℕ). x.piece.id) before after pl (length done) (within_ops pl.piece.ops done rest op e)

pub says_number : (before after : List Placed) (pl : Placed) (done rest : List OptOp) (op : OptOp) → pl.piece.ops ≡ done ++ op ∷ rest → (image_of (before ++ pl ∷ after)).number (keys_in before + length done) ≡ exit_of pl (length done)
says_number before after pl done rest op e = by_key-split 0 exit_of before after pl (length done) (within_ops pl.piece.ops done rest op e)

-- ---- operations and their rows

abbrev number_in : Exit → ℕ
number_in (Guarded n) = n
number_in Jumping = 0
number_in Finishing = 0
number_in Inside = 0

-- a guard that is kept has a jump
pub guard_jumps : (op : OptOp) (n : ℕ) → runs.exit_of op ≡ Guarded n → KeepsItsGuard op → has_jump op ≡ true
guard_jumps (opt.Plain operation r args d) n e keeps = absurd (cc)
guard_jumps (opt.Guard operation args m snap) n e keeps = keeps
guard_jumps (opt.Exit m snap) n e keeps = refl
guard_jumps (opt.Jump to args) n e keeps = absurd (cc)
guard_jumps (opt.Finish value) n e keeps = absurd (cc)

-- the row of a guard, or of a finish
pub record RowFor (at : Where) (id : PieceId) (exit place : ℕ) (op : OptOp) (guard : Option ℕ) : Type 0 where
  pub row : ExitRow
  pub has : Has (rows_of_op at id exit place op) row
  pub number : row.exit ≡ exit
  pub owner : row.id ≡ id
  pub told : row.guard ≡ guard

pub guard_row : (at : Where) (id : PieceId) (exit place : ℕ) (op : OptOp) (n : ℕ) → runs.exit_of op ≡ Guarded n → (r : RowFor at id exit place op (Some n)) × (r.row.at ≡ place)
guard_row at id exit place (opt.Plain operation r args d) n e = absurd (cc)
guard_row at id exit place (opt.Guard operation args m snap) n e = (record { row = _; has = inl refl; number = refl; owner = refl; told = ap (λ (x : Exit). Some (number_in x)) e }, refl)
guard_row at id exit place (opt.Exit m snap) n e = (record { row = _; has = inl refl; number = refl; owner = refl; told = ap (λ (x : Exit). Some (number_in x)) e }, refl)
guard_row at id exit place (opt.Jump to args) n e = absurd (cc)
guard_row at id exit place (opt.Finish value) n e = absurd (cc)

finish_row : (at : Where) (id : PieceId) (exit place : ℕ) (op : OptOp) → runs.exit_of op ≡ Finishing → RowFor at id exit place op None
finish_row at id exit place (opt.Plain operation r args d) e = absurd (cc)
finish_row at id exit place (opt.Guard operation args m snap) e = absurd (cc)
finish_row at id exit place (opt.Exit m snap) e = absurd (cc)
finish_row at id exit place (opt.Jump to args) e = absurd (cc)
finish_row at id exit place (opt.Finish value) e = record { row = _; has = inl refl; number = refl; owner = refl; told = refl }

no_guard : {A : Type 0} {n : ℕ} (o : Option ℕ) → None ≡ o → o ≡ Some n → A
no_guard o a b = absurd (cc)

-- a row that has a guard is that of a guard
row_guard : (at : Where) (id : PieceId) (exit place : ℕ) (op : OptOp) (row : ExitRow) → Has (rows_of_op at id exit place op) row → IsGuards row → (n : ℕ) × (runs.exit_of op ≡ Guarded n) × (row.at ≡ place)
row_guard at id exit place (opt.Plain operation r args d) row h is = absurd h
row_guard at id exit place (opt.Guard operation args n snap) row (inl e) is = (n, refl, ap (λ (r : ExitRow). r.at) (sym e))
row_guard at id exit place (opt.Guard operation args n snap) row (inr h) is = absurd h
row_guard at id exit place (opt.Exit n snap) row (inl e) is = (n, refl, ap (λ (r : ExitRow). r.at) (sym e))
row_guard at id exit place (opt.Exit n snap) row (inr h) is = absurd h
row_guard at id exit place (opt.Jump to args) row h is = absurd h
row_guard at id exit place (opt.Finish value) row (inl e) is = no_guard row.guard (ap (λ (r : ExitRow). r.guard) e) is.1
row_guard at id exit place (opt.Finish value) row (inr h) is = absurd h

-- ---- each row of a guard has a jump

abbrev HasJump : List Placed → ExitRow → Type 0
HasJump placed row = (e n : ℕ) × (x : JumpAt (image_of placed) e) × (row.at ≡ sizes_of x.front + disp_in x.slot) × ((image_of placed).exit e ≡ Guarded n)

jump_at : (placed : List Placed) (row : ExitRow) (e n : ℕ) → JumpIs e row.at 0 (all_slots placed) → (image_of placed).exit e ≡ Guarded n → HasJump placed row
jump_at placed row e n j is =
    let a = around e row.at 0 (all_slots placed) j in
    (e, n, record { front = a.front; slot = a.slot; behind = a.behind; split = a.split; jump = a.jump }, omega (arith, a.place), is)

pub keeps_at : (ops done rest : List OptOp) (op : OptOp) → All KeepsItsGuard ops → ops ≡ done ++ op ∷ rest → KeepsItsGuard op
keeps_at ops done rest op all e = all_at KeepsItsGuard ops (length done) op all (op_at ops done rest op e)

each_in : (set : TraceSet) (whole : Setup) (ps : List Piece) (before after : List Placed) (pl : Placed) (row : ExitRow) → Made set whole ps (before ++ pl ∷ after) → All KeepsItsGuard pl.piece.ops → OpOf pl.setting.at pl.piece.id (displacement_of pl) pl.exit 0 pl.piece.ops row → IsGuards row → HasJump (before ++ pl ∷ after) row
each_in set whole ps before after pl row m guards o is =
    let k = length o.done in
    let all = before ++ pl ∷ after in
    let z : 0 + k ≡ k = omega arith in
    let r = row_guard pl.setting.at pl.piece.id (pl.exit + exits_in o.done) (displacement_of pl (0 + k)) o.op row o.has is in
    let place : displacement_of pl k ≡ row.at = ap (displacement_of pl) (sym z) ∙ sym r.2 in
    let jump = jump_in before after pl o.done o.rest o.op (are_in set whole ps all m) o.split (guard_jumps o.op r.0 r.1 (keeps_at pl.piece.ops o.done o.rest o.op guards o.split)) in
    jump_at all row (keys_in before + k) r.0 (subst (λ (at : ℕ). JumpIs (keys_in before + k) at 0 (all_slots all)) place jump) (says_exit before after pl o.done o.rest o.op o.split ∙ r.1)

each : (set : TraceSet) (whole : Setup) (ps : List Piece) (placed : List Placed) → Made set whole ps placed → (row : ExitRow) → Contains (all_rows placed) row → IsGuards row → HasJump placed row
each set whole ps placed m row has is =
    let p = piece_of_row placed row (has_of (all_rows placed) row has) in
    let made = subst (Made set whole ps) p.here m in
    let s = spot set whole ps p.before p.after p.pl made in
    let o = op_of p.pl.setting.at p.pl.piece.id (displacement_of p.pl) p.pl.exit 0 p.pl.piece.ops row p.has in
    subst (λ (l : List Placed). HasJump l row) (sym p.here) (each_in set whole ps p.before p.after p.pl row made s.guards o is)

-- ---- each jump of a guard has a row

abbrev pub ofs : (placed : List Placed) (e : ℕ) → (n : Option ℕ) → ExitRow → Type 0
ofs placed e guard row = RowOf (image_of placed) (all_rows placed) e guard row

pub row_of : (before after : List Placed) (pl : Placed) (done rest : List OptOp) (op : OptOp) (guard : Option ℕ) → pl.piece.ops ≡ done ++ op ∷ rest
    → (r : RowFor pl.setting.at pl.piece.id (pl.exit + exits_in done) (displacement_of pl (0 + length done)) op guard) → ofs (before ++ pl ∷ after) (keys_in before + length done) guard r.row
row_of before after pl done rest op guard e r =
    let all = before ++ pl ∷ after in
    let here = row_here pl.setting.at pl.piece.id (displacement_of pl) pl.exit 0 done rest op r.row r.has in
    let mine : Has (rows_of pl) r.row = subst (λ (l : List OptOp). Has (rows_from pl.setting.at pl.piece.id (displacement_of pl) pl.exit 0 l) r.row) (sym e) here in
    (contains_of (all_rows all) r.row (row_of_piece before after pl r.row mine), r.number ∙ sym (exit_at pl done rest op e) ∙ sym (says_number before after pl done rest op e), r.owner ∙ sym (says_owner before after pl done rest op e), r.told)

pub located_at : (placed : List Placed) (e : ℕ) → JumpAt (image_of placed) e → Located placed e
located_at placed e x = key_at (Located placed) x.front x.behind x.slot e (subst (KeysAre (Located placed)) x.split (all_located placed)) x.jump

pub exit_located : (placed : List Placed) (e : ℕ) (h : Located placed e) → (image_of placed).exit e ≡ runs.exit_of h.op
exit_located placed e h =
    ap (λ (l : List Placed). (image_of l).exit e) h.here ∙ ap (λ (k : ℕ). (image_of (h.before ++ h.pl ∷ h.after)).exit k) h.key ∙ says_exit h.before h.after h.pl h.done h.rest h.op h.split

row_located : (placed : List Placed) (e : ℕ) (h : Located placed e) (guard : Option ℕ) (row : ExitRow) → ofs (h.before ++ h.pl ∷ h.after) (keys_in h.before + length h.done) guard row → ofs placed e guard row
row_located placed e h guard row r =
    subst (λ (l : List Placed). ofs l e guard row) (sym h.here) (subst (λ (k : ℕ). ofs (h.before ++ h.pl ∷ h.after) k guard row) (sym h.key) r)

guards : (set : TraceSet) (whole : Setup) (ps : List Piece) (placed : List Placed) → Made set whole ps placed → (e n : ℕ) (x : JumpAt (image_of placed) e) → (image_of placed).exit e ≡ Guarded n
    → (row : ExitRow) × (row.at ≡ sizes_of x.front + disp_in x.slot) × ofs placed e (Some n) row
guards set whole ps placed m e n x is =
    let h = located_at placed e x in
    let k = length h.done in
    let all = h.before ++ h.pl ∷ h.after in
    let kind : runs.exit_of h.op ≡ Guarded n = sym (exit_located placed e h) ∙ is in
    let made = subst (Made set whole ps) h.here m in
    let s = spot set whole ps h.before h.after h.pl made in
    let r = guard_row h.pl.setting.at h.pl.piece.id (h.pl.exit + exits_in h.done) (displacement_of h.pl (0 + k)) h.op n kind in
    let jump = jump_in h.before h.after h.pl h.done h.rest h.op (are_in set whole ps all made) h.split (guard_jumps h.op n kind (keeps_at h.pl.piece.ops h.done h.rest h.op s.guards h.split)) in
    let there : JumpIs e (displacement_of h.pl k) 0 (all_slots placed) =
    subst (λ (l : List Placed). JumpIs e (displacement_of h.pl k) 0 (all_slots l)) (sym h.here) (subst (λ (i : ℕ). JumpIs i (displacement_of h.pl k) 0 (all_slots all)) (sym h.key) jump) in
    let mine : JumpIs e (0 + (sizes_of x.front + disp_in x.slot)) 0 (all_slots placed) = subst (JumpIs e (0 + (sizes_of x.front + disp_in x.slot)) 0) (sym x.split) (is_at e 0 x.front x.behind x.slot x.jump) in
    let same = is_one e (displacement_of h.pl k) (0 + (sizes_of x.front + disp_in x.slot)) 0 (all_slots placed) (all_once placed (are_in set whole ps placed m)) there mine in
    let z : 0 + k ≡ k = omega arith in
    let zero_more : 0 + (sizes_of x.front + disp_in x.slot) ≡ sizes_of x.front + disp_in x.slot = omega arith in
    (r.0.row, r.1 ∙ ap (displacement_of h.pl) z ∙ same ∙ zero_more, row_located placed e h (Some n) r.0.row (row_of h.before h.after h.pl h.done h.rest h.op (Some n) h.split r.0))

finishes : (placed : List Placed) (e : ℕ) → JumpAt (image_of placed) e → (image_of placed).exit e ≡ Finishing → (row : ExitRow) × ofs placed e None row
finishes placed e x is =
    let h = located_at placed e x in
    let k = length h.done in
    let r = finish_row h.pl.setting.at h.pl.piece.id (h.pl.exit + exits_in h.done) (displacement_of h.pl (0 + k)) h.op (sym (exit_located placed e h) ∙ is) in
    (r.row, row_located placed e h None r.row (row_of h.before h.after h.pl h.done h.rest h.op None h.split r))

pub rows_are : (set : TraceSet) (whole : Setup) (ps : List Piece) (placed : List Placed) → Made set whole ps placed → RowsAre (image_of placed) (all_rows placed)
rows_are set whole ps placed m = record {
  each = each set whole ps placed m;
  guards = guards set whole ps placed m;
  finishes = finishes placed;
  one = λ a b ha hb e. one_row 0 (all_rows placed) a b (all_rise (length (spelled common_code)) 0 m.end m.last placed m.laid) (has_of (all_rows placed) a ha) (has_of (all_rows placed) b hb) e;
}
