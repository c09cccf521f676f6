-- What an attachment appends and patches is the part of a printed image.
use Rattle.std.proofs.Common.{◌≡◌, ◌≢◌, ◌⊎◌, inl, inr, ℕ, zero, suc, ◌+◌, ◌<◌, ◌≤◌, ◌^◌, Bool, true, false, cond, List, [], ◌∷◌, ◌++◌, length, map, append_assoc, Option, Some, None, refl, sym, ap, ◌∙◌, subst, arith, ℤ}
use Rattle.std.specs.Prelude.{slice_get, option_and_then, nat_eq}
use Rattle.std.specs.List.{AllByRecursion}
use Rattle.std.proofs.lemmas.Bool.{eqb-true}
use Rattle.lists.specs.Has.{Has}
use Rattle.trace_ops.specs.declared.trace.TraceSet.{TraceSet}
use Rattle.trace_ops.specs.declared.piece.Half.{Half}
use Rattle.trace_ops.specs.declared.piece.PieceId.{PieceId}
use Rattle.trace_ops.specs.declared.piece.OptOp.{OptOp}
use Rattle.trace_ops.specs.declared.piece.Piece.{Piece}
use Rattle.opt_meaning.specs.Pieces.{same_piece}
use Rattle.guard_exit.specs.declared.row.ExitRow.{ExitRow}
use Rattle.guard_exit.specs.Codes.{common_code}
use Rattle.asm_select.specs.Slots.{Slot, Put, Leave, Go, Jumps, puts, sizes_of, size_of}
use Rattle.asm_select.specs.Chosen.{Setting}
use Rattle.code_layout.specs.Leading.{way}
use Rattle.bridge_patch.specs.Pieces.{Placed, end_of, exits_in, spelled, AreLaid, all_rows, displacement_of}
use Rattle.bridge_patch.specs.Image.{Imaged}
use Rattle.bridge_patch.specs.Bridged.{is_from}
use Rattle.bridge_patch.specs.Attached.{led_on, is_copy_at, guard_of, begin_in}
use Rattle.image_runs.specs.Reached.{IsJumpOf}
use Rattle.image_runs.specs.Session.{Host}
use Rattle.image_runs.specs.Image.{Image, disp_in}
use Rattle.image_runs.specs.Attachment.{Attaches}
use Rattle.image_model.specs.Modelled.{model_of}
use Rattle.image_model.specs.Laws.{HostServes}
use Rattle.image_built.specs.Built.{slots_from, all_slots, by_of, to_all, image_of}
use Rattle.image_built.proofs.Leading.{sizes-append}
use Rattle.image_built.proofs.Splitting.{keys_in, slots_from-append}
use Rattle.image_built.proofs.Naming.{piece_of, some_is}
use Rattle.image_built.proofs.Rowing.{has_of}
use Rattle.image_built.proofs.Placing.{Setup, Made, are_in, spot, within_ops, op_at, few_last}
use Rattle.image_built.proofs.Imaging.{Relies}
use Rattle.image_built.proofs.Attaching.{Joins, after, keys_led}
use Rattle.image_built.proofs.Joining.{slots_after, rows_after, KeyAt, key_same, key_is, by_same, exit_guard}
use Rattle.std.specs.Prelude.{◌-◌, drop}
use Rattle.std.specs.List.{AllZip}
use Rattle.std.proofs.lemmas.Bool.{eq-eqb}
use Rattle.std.proofs.lemmas.List.{length-append, append_cancel_left, drop_at}
use Rattle.code_layout.specs.Leading.{led_bytes, JumpIs, JumpsOnce}
use Rattle.asm_select.specs.Slots.{bytes_of, instr_of}
use Rattle.x64_encode.specs.Form.{spelling}
use Rattle.bridge_patch.specs.declared.image.PieceHere.{PieceHere}
use Rattle.bridge_patch.specs.Pieces.{all_bytes, bytes_in, start_of, body_of, stubs_of, stubs_from}
use Rattle.bridge_patch.specs.Image.{AreHere}
use Rattle.bridge_patch.specs.Attached.{copies_among, begin_among, IsPatch, IsChanged}
use Rattle.image_runs.specs.Printed.{Patch}
use Rattle.image_runs.specs.Patched.{with_jump, Copy, IsCopy, patch_of, with_copies, IsPart}
use Rattle.image_built.specs.Attached.{part_of, to_patch}
use Rattle.image_built.proofs.Leading.{around, is_at, is_left, length-led}
use Rattle.image_built.proofs.Aiming.{Aims, aims, led_is}
use Rattle.image_built.proofs.Locating.{all_once, jump_in}
use Rattle.image_built.proofs.Telling.{guard_jumps, keeps_at, guard_row, row_of}
use Rattle.image_built.proofs.Growing.{row_at, copy_row, has_copy, from_guard}
use Rattle.image_built.proofs.Imaging.{all_led}
use Rattle.image_built.proofs.Joined.{grown, attaches, owned, key_of, more_apart, to_kept}
use Rattle.image_built.proofs.Parting.{same_end, AreLow, all_patched_end, one_jump, one_key, aim_at, jump_size, by_alike, key_behind, lt_or, key_found}

-- ---- lists

placed_same : {X : Type 0} (xs : List X) (k : ℕ) (x : X) → slice_get xs k ≡ Some x → (done : List X) × (rest : List X) × (xs ≡ done ++ x ∷ rest) × (length done ≡ k)
placed_same [] k x e = absurd (cc)
placed_same (y ∷ xs) zero x e = ([], xs, ap (λ z. z ∷ xs) (some_is e), refl)
placed_same (y ∷ xs) (suc k) x e = (let z = placed_same xs k x e in (y ∷ z.0, z.1, ap (λ l. y ∷ l) z.2, ap suc z.3))

length-bytes : (by : Jumps) (xs : List Slot) → length (bytes_of by xs) ≡ sizes_of xs
length-bytes by [] = refl
length-bytes by (Put i ∷ xs) = length-append (spelling i) (bytes_of by xs) ∙ ap (λ (n : ℕ). length (spelling i) + n) (length-bytes by xs)
length-bytes by (Leave c k ∷ xs) = omega (arith, length-bytes by xs)
length-bytes by (Go k ∷ xs) = omega (arith, length-bytes by xs)

bytes-append : (by : Jumps) (xs ys : List Slot) → bytes_of by (xs ++ ys) ≡ bytes_of by xs ++ bytes_of by ys
bytes-append by [] ys = refl
bytes-append by (x ∷ xs) ys = ap (λ (l : List ℕ). spelling (instr_of by x) ++ l) (bytes-append by xs ys) ∙ sym (append_assoc (spelling (instr_of by x)) (bytes_of by xs) (bytes_of by ys))

all_bytes-append : (xs ys : List Placed) → all_bytes (xs ++ ys) ≡ all_bytes xs ++ all_bytes ys
all_bytes-append [] ys = refl
all_bytes-append (x ∷ xs) ys = ap (λ (l : List ℕ). bytes_in x ++ l) (all_bytes-append xs ys) ∙ sym (append_assoc (bytes_in x) (all_bytes xs) (all_bytes ys))

one_long : (pl : Placed) (to : ℕ → ℕ) → length (bytes_in (record pl { to = to })) ≡ length (bytes_in pl)
one_long pl to =
    let stubs = spelled (stubs_from (stubs_of pl) pl.exit (exits_in pl.piece.ops)) in
    let a = led_bytes to (start_of pl) (body_of pl) in
    let b = led_bytes pl.to (start_of pl) (body_of pl) in
    omega (arith, length-append (spelled pl.front) (a ++ stubs), length-append (spelled pl.front) (b ++ stubs), length-append a stubs, length-append b stubs, length-led to (start_of pl) (body_of pl), length-led pl.to (start_of pl) (body_of pl))

led_long : (set : TraceSet) (bridge : ℕ) (news pls : List Placed) → length (all_bytes (map (led_on set.traces bridge news) pls)) ≡ length (all_bytes pls)
led_long set bridge news [] = refl
led_long set bridge news (pl ∷ pls) =
    let f = led_on set.traces bridge news in
    omega (arith, length-append (bytes_in (f pl)) (all_bytes (map f pls)), length-append (bytes_in pl) (all_bytes pls), one_long pl (f pl).to, led_long set bridge news pls)

laid_unled : (set : TraceSet) (bridge : ℕ) (news : List Placed) (at exit end last : ℕ) (pls ys : List Placed) → AreLaid at exit (map (led_on set.traces bridge news) pls ++ ys) end last → AreLaid at exit (pls ++ ys) end last
laid_unled set bridge news at exit end last [] ys h = h
laid_unled set bridge news at exit end last (pl ∷ pls) ys h = (h.0, h.1, laid_unled set bridge news (end_of pl) (exit + exits_in pl.piece.ops) end last pls ys h.2)

here_behind : (set : TraceSet) (bridge : ℕ) (news pls ys : List Placed) (hs ms : List PieceHere) → AreHere pls hs → AreHere (map (led_on set.traces bridge news) pls ++ ys) (hs ++ ms) → AreHere ys ms
here_behind set bridge news [] ys [] ms a b = b
here_behind set bridge news [] ys (h ∷ hs) ms a b = absurd a
here_behind set bridge news (pl ∷ pls) ys [] ms a b = absurd a
here_behind set bridge news (pl ∷ pls) ys (h ∷ hs) ms a b = here_behind set bridge news pls ys hs ms a.1 b.1

begin_same : (pls : List Placed) (heres : List PieceHere) (q : PieceId) → AreHere pls heres → begin_among heres q ≡ begin_in pls q
begin_same [] [] q h = refl
begin_same [] (x ∷ heres) q h = absurd h
begin_same (pl ∷ pls) [] q h = absurd h
begin_same (pl ∷ pls) (here ∷ heres) q h =
    ap (λ (i : PieceId). cond (same_piece q i) here.at (begin_among heres q)) h.0.id
    ∙ ap (λ (n : ℕ). cond (same_piece q pl.piece.id) n (begin_among heres q)) h.0.begins
    ∙ ap (λ (n : ℕ). cond (same_piece q pl.piece.id) pl.at n) (begin_same pls heres q h.1)

-- ---- copies that are patched

-- the last copy of a key tells where it leads
data Told (cs : List Copy) (by : Jumps) (e : ℕ) : Type 0 where
  Patched : (c : Copy) → Has cs c → c.key ≡ e → with_copies cs by e ≡ c.after → Told cs by e
  Left : ((c : Copy) → Has cs c → c.key ≢ e) → with_copies cs by e ≡ by e → Told cs by e

told_if : (c : Copy) (cs : List Copy) (by : Jumps) (e : ℕ) (t : Bool) → nat_eq e c.key ≡ t → Told cs (with_jump c.key c.after by) e → Told (c ∷ cs) by e
told_if c cs by e t is (Patched d has key after) = Patched d (inr has) key after
told_if c cs by e true is (Left none same) = Patched c (inl refl) (sym (eqb-true e c.key is)) (same ∙ ap (λ (b : Bool). cond b c.after (by e)) is)
told_if c cs by e false is (Left none same) =
    Left (λ d has. others d has) (same ∙ ap (λ (b : Bool). cond b c.after (by e)) is)
  where
    others : (d : Copy) → Has (c ∷ cs) d → d.key ≢ e
    others d (inl s) k = (let yes : nat_eq e c.key ≡ true = eq-eqb e c.key (sym (ap (λ (x : Copy). x.key) s ∙ k)) in absurd (cc))
    others d (inr w) k = none d w k

told : (cs : List Copy) (by : Jumps) (e : ℕ) → Told cs by e
told [] by e = Left (λ c has. absurd has) refl
told (c ∷ cs) by e = told_if c cs by e (nat_eq e c.key) refl (told cs (with_jump c.key c.after by) e)

module _ (host : Host) (r : Relies host) (set : TraceSet) (whole : List Piece) (settings : PieceId → Setting) (bridge : ℕ) (pieces : List Piece) (placed : List Placed) (old new : Imaged) (z : Joins set bridge pieces placed old new)
    (m : Made set (record { pieces = whole; settings = settings; bridges = old.attached }) (map piece_of placed) placed)
    (next : Made set (record { pieces = whole; settings = settings; bridges = new.attached }) (map piece_of (after set bridge z.grown.news placed)) (after set bridge z.grown.news placed)) (serves : HostServes host set.table) (c : IsChanged set bridge pieces old new) where
  abbrev news : List Placed
  news = z.grown.news

  abbrev f : Placed → Placed
  f = led_on set.traces bridge news

  abbrev ps : List Piece
  ps = map piece_of placed

  abbrev all : List Placed
  all = after set bridge news placed

  abbrev qs : List Piece
  qs = map piece_of all

  abbrev unled : List Placed
  unled = placed ++ news

  abbrev now : Setup
  now = record { pieces = whole; settings = settings; bridges = old.attached }

  abbrev then : Setup
  then = record { pieces = whole; settings = settings; bridges = new.attached }

  abbrev g : Image
  g = image_of placed

  abbrev h : Image
  h = image_of all

  abbrev more : List Slot
  more = slots_from (keys_in placed) news

  -- where all jumps lead before a patch
  abbrev by : Jumps
  by = by_of (to_all unled) 0 (all_slots all)

  once : JumpsOnce (all_slots all)
  once = all_once all (are_in set then qs all next)

  slots_all : all_slots all ≡ all_slots placed ++ more
  slots_all = slots_after set bridge news placed

  slots_unled : all_slots unled ≡ all_slots all
  slots_unled =
      let n : 0 + keys_in placed ≡ keys_in placed = omega arith in
      ap (λ (l : List Slot). puts common_code ++ l) (slots_from-append 0 placed news ∙ ap (λ (k : ℕ). slots_from 0 placed ++ slots_from k news) n)
      ∙ sym (append_assoc (puts common_code) (slots_from 0 placed) more) ∙ sym slots_all

  to_unled : (e : ℕ) → KeyAt placed e → to_all unled e ≡ to_all placed e
  to_unled e k =
      let there : KeyAt unled e = record { before = k.before; pl = k.pl; more = k.more ++ news; here = ap (λ (l : List Placed). l ++ news) k.here ∙ append_assoc k.before (k.pl ∷ k.more) news; k = k.k; within = k.within; key = k.key } in
      key_is 0 (λ (pl : Placed) (j : ℕ). pl.to j) unled e there ∙ sym (key_is 0 (λ (pl : Placed) (j : ℕ). pl.to j) placed e k)

  before_is : (e : ℕ) (front behind : List Slot) (y : Slot) → g.slots ≡ front ++ y ∷ behind → IsJumpOf y e → by e ≡ g.by e
  before_is e front behind y split j =
      let k = key_of host r set whole settings bridge pieces placed old new z m next serves e (owned host r set whole settings bridge pieces placed old new z m next serves e (record { front = front; slot = y; behind = behind; split = split; jump = j })) in
      ap (λ (xs : List Slot). by_of (to_all unled) 0 xs e) slots_all ∙ by_same (to_all unled) (to_all placed) e 0 (all_slots placed) more (to_unled e k) (more_apart host r set whole settings bridge pieces placed old new z m next serves e k)

  to_copy : (e : ℕ) (k : KeyAt placed e) → is_copy_at set.traces bridge k.pl k.k ≡ true → to_all all e ≡ begin_in news (record { trace = bridge; half = k.pl.piece.id.half })
  to_copy e k is = key_same 0 (λ (pl : Placed) (j : ℕ). pl.to j) set bridge news placed e k ∙ ap (λ (b : Bool). cond b (begin_in news (record { trace = bridge; half = k.pl.piece.id.half })) (k.pl.to k.k)) is

  -- the new pieces, as they are kept
  new_heres : AreHere news c.heres
  new_heres = here_behind set bridge news placed news old.pieces c.heres z.here.heres (subst (AreHere all) c.pieces_here z.grown.image_of.heres)

  -- ---- a copy

  record CopyFor (row : ExitRow) (patch : ℕ × ℤ × ℤ) (cp : Copy) : Type 0 where
    is : IsCopy (all_slots all) cp
    place : row.at ≡ sizes_of cp.front + disp_in cp.slot
    low : row.at + 4 ≤ sizes_of (all_slots placed)
    key : KeyAt placed cp.key
    copy : is_copy_at set.traces bridge key.pl key.k ≡ true
    half : key.pl.piece.id.half ≡ row.id.half
    patch_is : to_patch patch ≡ patch_of cp
    to_there : cp.after ≡ patch.2

  jump_all : (e at : ℕ) → JumpIs e at 0 (all_slots placed) → JumpIs e at 0 (all_slots all)
  jump_all e at j = subst (JumpIs e at 0) (sym slots_all) (is_left e at 0 (all_slots placed) more j)

  -- the jump of a guard that is kept
  guard_jump : (before behind : List Placed) (pl : Placed) (done rest : List OptOp) (op : OptOp) (n : ℕ) → placed ≡ before ++ pl ∷ behind → pl.piece.ops ≡ done ++ op ∷ rest → guard_of op ≡ Some n → JumpIs (keys_in before + length done) (displacement_of pl (length done)) 0 (all_slots placed)
  guard_jump before behind pl done rest op n e split is =
      let made = subst (Made set now ps) e m in
      let s = spot set now ps before behind pl made in
      let jump = jump_in before behind pl done rest op (are_in set now ps (before ++ pl ∷ behind) made) split (guard_jumps op n (exit_guard op n is) (keeps_at pl.piece.ops done rest op s.guards split)) in
      subst (λ (l : List Placed). JumpIs (keys_in before + length done) (displacement_of pl (length done)) 0 (all_slots l)) (sym e) jump

  copy_for : (row : ExitRow) (patch : ℕ × ℤ × ℤ) → Has (copies_among set.traces bridge old.exits) row → IsPatch bridge old.bytes c.heres row patch → (cp : Copy) × CopyFor row patch cp
  copy_for row patch has p =
      let y = row_at set.traces bridge placed row (subst (λ (rows : List ExitRow). Has (copies_among set.traces bridge rows) row) z.here.exits has) in
      let cr = copy_row set.traces bridge old.exits row has in
      let k = length y.done in
      let from : is_from set.traces bridge y.pl.piece.id.trace (guard_of y.op) ≡ true = ap (is_from set.traces bridge y.pl.piece.id.trace) (sym y.tells.told) ∙ ap (λ (q : PieceId). is_from set.traces bridge q.trace row.guard) (sym y.tells.owner) ∙ cr.from in
      let q = from_guard set.traces bridge y.pl.piece.id.trace (guard_of y.op) from in
      let jump = guard_jump y.before y.after y.pl y.done y.rest y.op q.0 y.here y.split q.1 in
      let e = keys_in y.before + k in
      let n : 0 + k ≡ k = omega arith in
      let at : row.at ≡ displacement_of y.pl k = y.tells.place_is ∙ ap (displacement_of y.pl) n in
      let here = around e (displacement_of y.pl k) 0 (all_slots placed) jump in
      let a = around e (displacement_of y.pl k) 0 (all_slots all) (jump_all e (displacement_of y.pl k) jump) in
      let alone = one_jump e a.front a.behind a.slot (subst JumpsOnce a.split once) a.jump in
      let place : row.at ≡ sizes_of a.front + disp_in a.slot = omega (arith, at, a.place) in
      let cp : Copy = record { key = e; before = patch.1; after = patch.2; front = a.front; slot = a.slot; behind = a.behind } in (
        cp,
        record {
          is = record { split = a.split; jump = a.jump; front = alone.0; behind = alone.1 };
          place = place;
          low = omega (arith, at, here.place, jump_size here.slot e here.jump, ap sizes_of here.split, sizes-append here.front (here.slot ∷ here.behind));
          key = record { before = y.before; pl = y.pl; more = y.after; here = y.here; k = k; within = within_ops y.pl.piece.ops y.done y.rest y.op y.split; key = refl };
          copy = ap (λ (o : Option OptOp). is_from set.traces bridge y.pl.piece.id.trace (option_and_then guard_of o)) (op_at y.pl.piece.ops y.done y.rest y.op y.split) ∙ from;
          half = ap (λ (i : PieceId). i.half) (sym y.tells.owner);
          patch_is = ap (λ (i : ℕ). record { at = i; before = patch.1; after = patch.2 }) (p.at ∙ place);
          to_there = refl;
        },
      )

  -- ---- all copies

  record CopyOf (cp : Copy) : Type 0 where
    row : ExitRow
    patch : ℕ × ℤ × ℤ
    patched : IsPatch bridge old.bytes c.heres row patch
    made : CopyFor row patch cp

  record RowHas (list : List Copy) (row : ExitRow) : Type 0 where
    cp : Copy
    has : Has list cp
    is : IsCopy (all_slots all) cp
    place : row.at ≡ sizes_of cp.front + disp_in cp.slot

  record Copies (rows : List ExitRow) (patches : List (ℕ × ℤ × ℤ)) : Type 0 where
    list : List Copy
    are : AllByRecursion (IsCopy (all_slots all)) list
    patches_are : map to_patch patches ≡ map patch_of list
    low : AreLow (sizes_of (all_slots placed)) patches
    back : (cp : Copy) → Has list cp → CopyOf cp
    forth : (row : ExitRow) → Has rows row → RowHas list row

  copies_for : (rows : List ExitRow) (patches : List (ℕ × ℤ × ℤ)) → ((row : ExitRow) → Has rows row → Has (copies_among set.traces bridge old.exits) row) → AllZip (IsPatch bridge old.bytes c.heres) rows patches → Copies rows patches
  copies_for [] [] has p = record { list = []; are = tt; patches_are = refl; low = tt; back = λ cp w. absurd w; forth = λ row w. absurd w }
  copies_for [] (q ∷ patches) has p = absurd p
  copies_for (row ∷ rows) [] has p = absurd p
  copies_for (row ∷ rows) (patch ∷ patches) has p =
      let one = copy_for row patch (has row (inl refl)) p.0 in
      let y = copies_for rows patches (λ x w. has x (inr w)) p.1 in
      record {
        list = one.0 ∷ y.list;
        are = (one.1.is, y.are);
        patches_are = ap (λ (x : Patch). x ∷ map to_patch patches) one.1.patch_is ∙ ap (λ (l : List Patch). patch_of one.0 ∷ l) y.patches_are;
        low = (low_of row patch one.0 p.0 one.1, y.low);
        back = back one.0 y.list (record { row = row; patch = patch; patched = p.0; made = one.1 }) y.back;
        forth = forth row rows one.0 y.list (record { cp = one.0; has = inl refl; is = one.1.is; place = one.1.place }) y.forth;
      }
    where
      low_of : (row : ExitRow) (patch : ℕ × ℤ × ℤ) (cp : Copy) → IsPatch bridge old.bytes c.heres row patch → CopyFor row patch cp → patch.0 + 4 ≤ sizes_of (all_slots placed)
      low_of row patch cp p y = omega (arith, p.at, y.low)

      back : (d : Copy) (list : List Copy) → CopyOf d → ((cp : Copy) → Has list cp → CopyOf cp) → (cp : Copy) → Has (d ∷ list) cp → CopyOf cp
      back d list one more cp (inl e) = subst CopyOf e one
      back d list one more cp (inr w) = more cp w

      forth : (r : ExitRow) (rows : List ExitRow) (d : Copy) (list : List Copy) → RowHas (d ∷ list) r → ((row : ExitRow) → Has rows row → RowHas list row) → (row : ExitRow) → Has (r ∷ rows) row → RowHas (d ∷ list) row
      forth r rows d list one more row (inl e) = subst (RowHas (d ∷ list)) e one
      forth r rows d list one more row (inr w) = (let y = more row w in record { cp = y.cp; has = inr y.has; is = y.is; place = y.place })

  copies : Copies (copies_among set.traces bridge old.exits) c.change.patches
  copies = copies_for (copies_among set.traces bridge old.exits) c.change.patches (λ row w. w) c.patches

  -- ---- where all jumps lead behind the patches

  aimed : Aims h.by (to_all all) 0 (all_slots all)
  aimed = aims (to_all all) 0 (all_slots all) once

  patched_to : (e : ℕ) (cp : Copy) → Has copies.list cp → cp.key ≡ e → h.by e ≡ cp.after
  patched_to e cp has same =
      let y = copies.back cp has in
      let cf = y.made in
      let q : PieceId = record { trace = bridge; half = y.row.id.half } in
      let aim = aim_at h.by (to_all all) 0 cp.key cp.front cp.behind cp.slot (subst (Aims h.by (to_all all) 0) cf.is.split aimed) cf.is.jump in
      let place : 0 + (sizes_of cp.front + size_of cp.slot) ≡ y.row.at + 4 = omega (arith, cf.place, jump_size cp.slot cp.key cf.is.jump) in
      let to : to_all all cp.key ≡ begin_among c.heres q = to_copy cp.key cf.key cf.copy ∙ ap (λ (i : Half). begin_in news (record { trace = bridge; half = i })) cf.half ∙ sym (begin_same news c.heres q new_heres) in
      ap h.by (sym same) ∙ aim ∙ ap (λ (n : ℕ). way n (to_all all cp.key)) place ∙ ap (way (y.row.at + 4)) to ∙ sym y.patched.after ∙ sym cf.to_there

  -- a copy of the guard has a patch
  copied : (e : ℕ) (k : KeyAt placed e) (o : Option OptOp) → slice_get k.pl.piece.ops k.k ≡ o → is_from set.traces bridge k.pl.piece.id.trace (option_and_then guard_of o) ≡ true → (cp : Copy) × Has copies.list cp × (cp.key ≡ e)
  copied e k None is from = absurd (cc)
  copied e k (Some op) is from =
      let q = from_guard set.traces bridge k.pl.piece.id.trace (guard_of op) from in
      let s = placed_same k.pl.piece.ops k.k op is in
      let pl = k.pl in
      let d = s.0 in
      let key : e ≡ keys_in k.before + length d = k.key ∙ ap (λ (n : ℕ). keys_in k.before + n) (sym s.3) in
      let rf = guard_row pl.setting.at pl.piece.id (pl.exit + exits_in d) (displacement_of pl (0 + length d)) op q.0 (exit_guard op q.0 q.1) in
      let of = row_of k.before k.more pl d s.1 op (Some q.0) s.2 rf.0 in
      let row = rf.0.row in
      let in_rows : Has old.exits row = subst (λ (l : List ExitRow). Has l row) (sym (z.here.exits ∙ ap all_rows k.here)) (has_of (all_rows (k.before ++ pl ∷ k.more)) row of.0) in
      let from_row : is_from set.traces bridge row.id.trace row.guard ≡ true = ap (λ (i : PieceId). is_from set.traces bridge i.trace row.guard) rf.0.owner ∙ ap (is_from set.traces bridge pl.piece.id.trace) (rf.0.told ∙ sym q.1) ∙ from in
      let y = copies.forth row (has_copy set.traces bridge old.exits row from_row in_rows) in
      let n : 0 + length d ≡ length d = omega arith in
      let at : row.at ≡ displacement_of pl (length d) = rf.1 ∙ ap (displacement_of pl) n in
      let mine = jump_all (keys_in k.before + length d) (displacement_of pl (length d)) (guard_jump k.before k.more pl d s.1 op q.0 k.here s.2 q.1) in
      let theirs = subst (JumpIs y.cp.key (0 + (sizes_of y.cp.front + disp_in y.cp.slot)) 0) (sym y.is.split) (is_at y.cp.key 0 y.cp.front y.cp.behind y.cp.slot y.is.jump) in
      let place : 0 + (sizes_of y.cp.front + disp_in y.cp.slot) ≡ displacement_of pl (length d) = omega (arith, y.place, at) in
      (y.cp, y.has, one_key y.cp.key (keys_in k.before + length d) (displacement_of pl (length d)) 0 (all_slots all) (subst (λ (i : ℕ). JumpIs y.cp.key i 0 (all_slots all)) place theirs) mine ∙ sym key)

  to_low : (e : ℕ) (k : KeyAt placed e) (t : Bool) → is_copy_at set.traces bridge k.pl k.k ≡ t → ((cp : Copy) → Has copies.list cp → cp.key ≢ e) → to_all all e ≡ to_all unled e
  to_low e k true is none = (let y = copied e k (slice_get k.pl.piece.ops k.k) refl is in absurd (none y.0 y.1 y.2))
  to_low e k false is none = to_kept host r set whole settings bridge pieces placed old new z m next serves e k is ∙ sym (to_unled e k)

  to_either : (e : ℕ) → (e < keys_in placed ⊎ keys_in placed ≤ e) → ((cp : Copy) → Has copies.list cp → cp.key ≢ e) → to_all all e ≡ to_all unled e
  to_either e (inl lt) none = (let k = key_found placed e lt in to_low e k (is_copy_at set.traces bridge k.pl k.k) refl none)
  to_either e (inr le) none =
      let j = e - keys_in placed in
      let a : e ≡ keys_in (map f placed) + j = omega (arith, le, keys_led set bridge news placed) in
      let b : e ≡ keys_in placed + j = omega (arith, le) in
      ap (to_all all) a ∙ key_behind 0 (λ (pl : Placed) (i : ℕ). pl.to i) (map f placed) news j ∙ sym (ap (to_all unled) b ∙ key_behind 0 (λ (pl : Placed) (i : ℕ). pl.to i) placed news j)

  now_by : (e : ℕ) → Told copies.list by e → h.by e ≡ with_copies copies.list by e
  now_by e (Patched cp has key leads) = patched_to e cp has key ∙ sym leads
  now_by e (Left none same) = by_alike (to_all all) (to_all unled) e 0 (all_slots all) (to_either e (lt_or e (keys_in placed)) none) ∙ sym same

  -- ---- bytes

  few : next.last ≤ 2 ^ 31
  few = few_last set then qs all next

  old_long : length old.bytes ≡ sizes_of (all_slots placed)
  old_long = ap length z.here.code ∙ sym (ap length (all_led placed m.end m.last m.laid (few_last set now ps placed m))) ∙ length-led (to_all placed) 0 (all_slots placed)

  spelled_unled : bytes_of by (all_slots all) ≡ spelled common_code ++ all_bytes unled
  spelled_unled =
      led_is by (to_all unled) 0 (all_slots all) (aims (to_all unled) 0 (all_slots all) once)
      ∙ ap (led_bytes (to_all unled) 0) (sym slots_unled)
      ∙ all_led unled next.end next.last (laid_unled set bridge news (length (spelled common_code)) 0 next.end next.last placed news next.laid) few

  new_bytes : bytes_of by more ≡ all_bytes news
  new_bytes =
      let whole_is : bytes_of by (all_slots placed) ++ bytes_of by more ≡ old.bytes ++ all_bytes news =
      sym (bytes-append by (all_slots placed) more) ∙ ap (bytes_of by) (sym slots_all) ∙ spelled_unled ∙ ap (λ (l : List ℕ). spelled common_code ++ l) (all_bytes-append placed news)
      ∙ sym (append_assoc (spelled common_code) (all_bytes placed) (all_bytes news)) ∙ ap (λ (l : List ℕ). l ++ all_bytes news) (sym z.here.code) in
      same_end (bytes_of by (all_slots placed)) (bytes_of by more) old.bytes (all_bytes news) (length-bytes by (all_slots placed) ∙ sym old_long) whole_is

  appended : c.appended ≡ all_bytes news
  appended =
      let n = length old.bytes in
      let front = spelled common_code ++ all_bytes (map f placed) in
      let low : AreLow n c.change.patches = subst (λ (k : ℕ). AreLow k c.change.patches) (sym old_long) copies.low in
      let long : length front ≡ n = omega (arith, length-append (spelled common_code) (all_bytes (map f placed)), led_long set bridge news placed, ap length z.here.code, length-append (spelled common_code) (all_bytes placed)) in
      let code : new.bytes ≡ front ++ all_bytes news = z.grown.image_of.code ∙ ap (λ (l : List ℕ). spelled common_code ++ l) (all_bytes-append (map f placed) news) ∙ sym (append_assoc (spelled common_code) (all_bytes (map f placed)) (all_bytes news)) in
      sym (drop_at old.bytes c.appended n refl)
      ∙ sym (all_patched_end n c.change.patches (old.bytes ++ c.appended) low (omega (arith, length-append old.bytes c.appended)))
      ∙ ap (drop n) (sym c.bytes ∙ code)
      ∙ drop_at front (all_bytes news) n long

  -- ---- all of it

  pub new_rows : c.rows ≡ all_rows news
  new_rows = append_cancel_left old.exits c.rows (all_rows news) (sym c.exits ∙ z.grown.image_of.exits ∙ rows_after set bridge news placed ∙ ap (λ (l : List ExitRow). l ++ all_rows news) (sym z.here.exits))

  pub is_part : IsPart g h (grown host r set whole settings bridge pieces placed old new z m next serves) (part_of set bridge pieces old new c)
  is_part = record {
    by = by;
    old = before_is;
    copies = copies.list;
    are = copies.are;
    bytes = appended ∙ sym new_bytes;
    patches = copies.patches_are;
    now = λ e. now_by e (told copies.list by e);
  }

  -- so it is an attachment with its part
  abbrev pub IsAttached : List ℕ → List ExitRow → List ExitRow → List Placed → Type 0
  IsAttached bs rows news l = (a : Attaches (model_of host set whole settings ps) (map piece_of l) g (image_of l) bs bridge rows news) × IsPart g (image_of l) a.grown (part_of set bridge pieces old new c)

  pub is_attached : IsAttached old.attached (all_rows placed) (all_rows news) all
  unfolding attaches
  is_attached = (attaches host r set whole settings bridge pieces placed old new z m next serves, is_part)
