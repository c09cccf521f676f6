-- The code of placed pieces, of which the copies of a guard are patched.
use Rattle.std.proofs.Common.{◌≡◌, ◌≢◌, ℕ, ◌+◌, ◌<◌, ◌^◌, Bool, true, false, cond, List, [], ◌∷◌, ◌++◌, length, Some, refl, sym, ap, ◌∙◌, subst, arith, inl, inr, ◌⊎◌, append_assoc, length-append, ℤ}
use Rattle.std.specs.Prelude.{map, slice_get, option_and_then}
use Rattle.std.specs.List.{All, AllByRecursion, AllZip}
use Rattle.trace_ops.specs.declared.trace.Trace.{Trace}
use Rattle.trace_ops.specs.declared.trace.TraceSet.{TraceSet}
use Rattle.trace_ops.specs.declared.piece.Half.{Half}
use Rattle.trace_ops.specs.declared.piece.OptOp.{OptOp}
use Rattle.guard_exit.specs.declared.row.ExitRow.{ExitRow}
use Rattle.asm_select.specs.declared.told.Told.TheVariants as tell
use Rattle.asm_select.specs.Slots.{Slot}
use Rattle.code_layout.specs.Leading.{way, led_bytes, JumpIs, JumpsOnce, patched}
use Rattle.code_layout.specs.Laws.{JumpsArePatched}
use Rattle.code_layout.specs.Chosen.{ChosenJumps}
use Rattle.bridge_patch.specs.declared.image.PieceHere.{PieceHere}
use Rattle.bridge_patch.specs.Pieces.{Placed, body_of, start_of, stubs_of, end_of, exits_in, spelled, stubs_from, bytes_in, all_bytes, rows_from, displacement_of, rows_of, all_rows, AreLaid}
use Rattle.bridge_patch.specs.Image.{KeepsItsGuard}
use Rattle.bridge_patch.specs.Bridged.{is_from}
use Rattle.bridge_patch.specs.Attached.{IsStanding, IsPatch, all_patched, begin_in, begin_among, copies_among, guard_of, is_copy_at, led_on}
use Rattle.bridge_patch.proofs.Stubs.{spelled_long}
use Rattle.bridge_patch.proofs.Building.{Laws, piece_long}
use Rattle.bridge_patch.proofs.Compiled.{in_middle}
use Rattle.bridge_patch.proofs.Seating.{from_some}
use Rattle.bridge_patch.proofs.Allowed.{laid_between}
use Rattle.bridge_patch.proofs.Repatched.{NoCopies, OneCopy, OneRow, led_same, jump_among, no_rows, one_row, copies_append}
use Rattle.bridge_patch.proofs.Copies.{copies_in, not_copy, copy_here, copy_elsewhere, guard_jumps}

-- ---- lists

zip_none : {A B : Type 0} (R : A → B → Type 0) (ys : List B) → AllZip R [] ys → ys ≡ []
zip_none R [] h = refl
zip_none R (y ∷ ys) h = absurd h

pub record OneBeside {A B : Type 0} (R : A → B → Type 0) (x : A) (ys : List B) : Type 0 where
  pub y : B
  pub are : ys ≡ y ∷ []
  pub holds : R x y

zip_one : {A B : Type 0} (R : A → B → Type 0) (x : A) (ys : List B) → AllZip R (x ∷ []) ys → OneBeside R x ys
zip_one R x [] h = absurd h
zip_one R x (y ∷ []) h = record { y = y; are = refl; holds = h.0 }
zip_one R x (y ∷ z ∷ zs) h = absurd h.1

pub record TwoBeside {A B : Type 0} (R : A → B → Type 0) (xs ys : List A) (zs : List B) : Type 0 where
  pub first : List B
  pub second : List B
  pub are : zs ≡ first ++ second
  pub one : AllZip R xs first
  pub two : AllZip R ys second

zip_append : {A B : Type 0} (R : A → B → Type 0) (xs ys : List A) (zs : List B) → AllZip R (xs ++ ys) zs → TwoBeside R xs ys zs
zip_append R [] ys zs h = record { first = []; second = zs; are = refl; one = tt; two = h }
zip_append R (x ∷ xs) ys [] h = absurd h
zip_append R (x ∷ xs) ys (z ∷ zs) h =
    let t = zip_append R xs ys zs h.1 in
    record { first = z ∷ t.first; second = t.second; are = ap (λ (l : List _). z ∷ l) t.are; one = (h.0, t.one); two = t.two }

patched_append : (ps qs : List (ℕ × ℤ × ℤ)) (code : List ℕ) → all_patched (ps ++ qs) code ≡ all_patched qs (all_patched ps code)
patched_append [] qs code = refl
patched_append (p ∷ ps) qs code = patched_append ps qs (patched p.0 p.2 code)

regroup : (a f c s b : List ℕ) → a ++ ((f ++ (c ++ s)) ++ b) ≡ (a ++ f) ++ (c ++ (s ++ b))
regroup a f c s b = ap (λ (l : List ℕ). a ++ l) (append_assoc f (c ++ s) b ∙ ap (λ (l : List ℕ). f ++ l) (append_assoc c s b)) ∙ sym (append_assoc a f (c ++ (s ++ b)))

-- ---- one piece

patch_one : JumpsArePatched → (to next : ℕ → ℕ) (k at start : ℕ) (xs : List Slot) (before behind : List ℕ) → length before ≡ start → ((j : ℕ) → j ≢ k → next j ≡ to j) → JumpsOnce xs → JumpIs k at start xs
    → before ++ (led_bytes next start xs ++ behind) ≡ patched at (way (at + 4) (next k)) (before ++ (led_bytes to start xs ++ behind))
patch_one law to next k at start xs before behind e same once jump =
    subst (λ (n : ℕ). before ++ (led_bytes next n xs ++ behind) ≡ patched at (way (at + 4) (next k)) (before ++ (led_bytes to n xs ++ behind))) e
    (law to next k at xs before behind same once (subst (λ (n : ℕ). JumpIs k at n xs) (sym e) jump))

if_false : (b : Bool) (x y : ℕ) → b ≡ false → cond b x y ≡ y
if_false b x y e = ap (λ (c : Bool). cond c x y) e

if_true : (b : Bool) (x y : ℕ) → b ≡ true → cond b x y ≡ x
if_true b x y e = ap (λ (c : Bool). cond c x y) e

-- where the displacement of a copy's jump stands
pub record CopyJumps (pl : Placed) (k : ℕ) : Type 0 where
  pub once : JumpsOnce (body_of pl)
  pub at : ℕ
  pub is : JumpIs k at (start_of pl) (body_of pl)
  pub noted : displacement_of pl k ≡ at

pub copy_jumps : ChosenJumps → (set : TraceSet) (registers words : ℕ) (pl : Placed) (done rest : List OptOp) (op : OptOp) (n : ℕ) → IsStanding set registers words pl → pl.piece.ops ≡ done ++ op ∷ rest → guard_of op ≡ Some n → CopyJumps pl (length done)
copy_jumps chosen set registers words pl done rest op n st split g =
    let theirs = chosen pl.setting 0 tell.Nothing pl.piece.ops st.chosen in
    let keeps = in_middle KeepsItsGuard done rest op (subst (All KeepsItsGuard) split st.can.guards) in
    let (at, is) = theirs.each done rest op (start_of pl) split (guard_jumps op n g keeps) in
    let zero_more : 0 + length done ≡ length done = omega arith in
    let here : JumpIs (length done) at (start_of pl) (body_of pl) = subst (λ (k : ℕ). JumpIs k at (start_of pl) (body_of pl)) zero_more is in record {
      once = theirs.once;
      at = at;
      is = here;
      noted = jump_among (length done) at 0 (start_of pl) (body_of pl) here theirs.once;
    }

-- where the bridge's piece of a half begins
abbrev pub Begins : ℕ → List PieceHere → List Placed → Type 0
Begins bridge heres news = (h : Half) → begin_among heres (record { trace = bridge; half = h }) ≡ begin_in news (record { trace = bridge; half = h })

unpatched : (traces : List Trace) (bridge : ℕ) (news : List Placed) (pl : Placed) (old : List ℕ) (heres : List PieceHere) (code : List ℕ) (patches : List (ℕ × ℤ × ℤ))
    → NoCopies traces bridge pl.piece.id.trace pl.piece.ops → AllZip (IsPatch bridge old heres) (copies_among traces bridge (rows_of pl)) patches
    → (all_patched patches code ≡ code) × (bytes_in (led_on traces bridge news pl) ≡ bytes_in pl)
unpatched traces bridge news pl old heres code patches none z =
    let next = led_on traces bridge news pl in
    let rows = no_rows traces bridge pl.setting.at pl.piece.id (displacement_of pl) pl.exit 0 pl.piece.ops none in
    let empty = zip_none (IsPatch bridge old heres) patches (subst (λ (l : List ExitRow). AllZip (IsPatch bridge old heres) l patches) rows z) in
    let same : (k : ℕ) → next.to k ≡ pl.to k = λ k. if_false (is_copy_at traces bridge pl k) (begin_in news (record { trace = bridge; half = pl.piece.id.half })) (pl.to k) (not_copy traces bridge pl.piece.id.trace pl.piece.ops k none) in
    (ap (λ (l : List (ℕ × ℤ × ℤ)). all_patched l code) empty, ap (λ (l : List ℕ). spelled pl.front ++ (l ++ spelled (stubs_from (stubs_of pl) pl.exit (exits_in pl.piece.ops)))) (led_same next.to pl.to (start_of pl) (body_of pl) same))

repatched : JumpsArePatched → ChosenJumps → (set : TraceSet) (registers words bridge : ℕ) (news : List Placed) (pl : Placed) (old : List ℕ) (heres : List PieceHere) (before behind : List ℕ) (patches : List (ℕ × ℤ × ℤ))
    → IsStanding set registers words pl → length before ≡ pl.at → Begins bridge heres news
    → OneCopy set.traces bridge pl.piece.id.trace pl.piece.ops → AllZip (IsPatch bridge old heres) (copies_among set.traces bridge (rows_of pl)) patches
    → all_patched patches (before ++ (bytes_in pl ++ behind)) ≡ before ++ (bytes_in (led_on set.traces bridge news pl) ++ behind)
repatched law chosen set registers words bridge news pl old heres before behind patches st here begins o z =
    let traces = set.traces in
    let trace = pl.piece.id.trace in
    let next = led_on traces bridge news pl in
    let k = length o.done in
    let (n, g) = from_some traces bridge trace (guard_of o.op) o.copy in
    let jump = copy_jumps chosen set registers words pl o.done o.rest o.op n st o.split g in
    let r = subst (λ (ops : List OptOp). OneRow traces bridge pl.piece.id.half (displacement_of pl (0 + k)) (rows_from pl.setting.at pl.piece.id (displacement_of pl) pl.exit 0 ops)) (sym o.split)
    (one_row traces bridge pl.setting.at pl.piece.id (displacement_of pl) pl.exit 0 o.done o.rest o.op o.before o.copy o.behind) in
    let p = zip_one (IsPatch bridge old heres) r.row patches (subst (λ (l : List ExitRow). AllZip (IsPatch bridge old heres) l patches) r.are z) in
    let zero_more : 0 + k ≡ k = omega arith in
    let at : r.row.at ≡ jump.at = r.at_is ∙ ap (displacement_of pl) zero_more ∙ jump.noted in
    let to : next.to k ≡ begin_in news (record { trace = bridge; half = pl.piece.id.half }) =
    if_true (is_copy_at traces bridge pl k) (begin_in news (record { trace = bridge; half = pl.piece.id.half })) (pl.to k)
    (ap (λ (ops : List OptOp). is_from traces bridge trace (option_and_then guard_of (slice_get ops k))) o.split ∙ copy_here traces bridge trace o.done o.rest o.op o.copy) in
    let same : (j : ℕ) → j ≢ k → next.to j ≡ pl.to j = λ j away.
    if_false (is_copy_at traces bridge pl j) (begin_in news (record { trace = bridge; half = pl.piece.id.half })) (pl.to j)
    (ap (λ (ops : List OptOp). is_from traces bridge trace (option_and_then guard_of (slice_get ops j))) o.split ∙ copy_elsewhere traces bridge trace o.done o.rest o.op j o.before o.behind away) in
    let stubs = spelled (stubs_from (stubs_of pl) pl.exit (exits_in pl.piece.ops)) in
    let front = spelled pl.front in
    let long : length (before ++ front) ≡ start_of pl = length-append before front ∙ ap (λ (m : ℕ). m + length front) here ∙ ap (λ (m : ℕ). pl.at + m) (spelled_long pl.front) in
    let code = before ++ (bytes_in pl ++ behind) in
    let way_is : p.y.2 ≡ way (jump.at + 4) (next.to k) =
    p.holds.after ∙ ap (λ (h : Half). way (r.row.at + 4) (begin_among heres (record { trace = bridge; half = h }))) r.half_is ∙ ap (λ (m : ℕ). way (r.row.at + 4) m) (begins pl.piece.id.half ∙ sym to) ∙ ap (λ (m : ℕ). way (m + 4) (next.to k)) at in
    ap (λ (l : List (ℕ × ℤ × ℤ)). all_patched l code) p.are
    ∙ ap (λ (m : ℕ). patched m p.y.2 code) (p.holds.at ∙ at)
    ∙ ap (λ (v : ℤ). patched jump.at v code) way_is
    ∙ ap (patched jump.at (way (jump.at + 4) (next.to k))) (regroup before front (led_bytes pl.to (start_of pl) (body_of pl)) stubs behind)
    ∙ sym (patch_one law pl.to next.to k jump.at (start_of pl) (body_of pl) (before ++ front) (stubs ++ behind) long same jump.once jump.is)
    ∙ sym (regroup before front (led_bytes next.to (start_of pl) (body_of pl)) stubs behind)

piece_patched : JumpsArePatched → ChosenJumps → (set : TraceSet) (registers words bridge : ℕ) (news : List Placed) (pl : Placed) (old : List ℕ) (heres : List PieceHere) (before behind : List ℕ) (patches : List (ℕ × ℤ × ℤ))
    → IsStanding set registers words pl → length before ≡ pl.at → Begins bridge heres news → AllZip (IsPatch bridge old heres) (copies_among set.traces bridge (rows_of pl)) patches
    → all_patched patches (before ++ (bytes_in pl ++ behind)) ≡ before ++ (bytes_in (led_on set.traces bridge news pl) ++ behind)
piece_patched law chosen set registers words bridge news pl old heres before behind patches st here begins z =
    by (copies_in set.traces bridge pl.piece.id.trace pl.piece.ops st.can.sound.formed.guards_distinct)
  where
    by : NoCopies set.traces bridge pl.piece.id.trace pl.piece.ops ⊎ OneCopy set.traces bridge pl.piece.id.trace pl.piece.ops
        → all_patched patches (before ++ (bytes_in pl ++ behind)) ≡ before ++ (bytes_in (led_on set.traces bridge news pl) ++ behind)
    by (inl none) =
        let u = unpatched set.traces bridge news pl old heres (before ++ (bytes_in pl ++ behind)) patches none z in
        u.0 ∙ ap (λ (l : List ℕ). before ++ (l ++ behind)) (sym u.1)
    by (inr o) = repatched law chosen set registers words bridge news pl old heres before behind patches st here begins o z

-- ---- all pieces

pub code_patched : JumpsArePatched → ChosenJumps → Laws → (set : TraceSet) (registers words bridge : ℕ) (news pls : List Placed) (old : List ℕ) (heres : List PieceHere) (before behind : List ℕ) (patches : List (ℕ × ℤ × ℤ)) (at exit end last : ℕ)
    → AllByRecursion (IsStanding set registers words) pls → AreLaid at exit pls end last → last < 2 ^ 31 → length before ≡ at → Begins bridge heres news
    → AllZip (IsPatch bridge old heres) (copies_among set.traces bridge (all_rows pls)) patches
    → all_patched patches (before ++ (all_bytes pls ++ behind)) ≡ before ++ (all_bytes (map (led_on set.traces bridge news) pls) ++ behind)
code_patched law chosen laws set registers words bridge news [] old heres before behind patches at exit end last st laid few here begins z =
    ap (λ (l : List (ℕ × ℤ × ℤ)). all_patched l (before ++ behind)) (zip_none (IsPatch bridge old heres) patches z)
code_patched law chosen laws set registers words bridge news (pl ∷ pls) old heres before behind patches at exit end last st laid few here begins z =
    let t = zip_append (IsPatch bridge old heres) (copies_among set.traces bridge (rows_of pl)) (copies_among set.traces bridge (all_rows pls)) patches
    (subst (λ (l : List ExitRow). AllZip (IsPatch bridge old heres) l patches) (copies_append set.traces bridge (rows_of pl) (all_rows pls)) z) in
    let next = led_on set.traces bridge news pl in
    let rest = all_bytes pls in
    let more = all_bytes (map (led_on set.traces bridge news) pls) in
    let first = piece_patched law chosen set registers words bridge news pl old heres before (rest ++ behind) t.first st.0 (here ∙ sym laid.0) begins t.one in
    let between = laid_between (end_of pl) (exit + exits_in pl.piece.ops) pls end last laid.2 in
    let long : length (before ++ bytes_in next) ≡ end_of pl = omega (arith, length-append before (bytes_in next), here, laid.0, laid.1, between.0, few, piece_long laws next (omega (arith, laid.1, between.0, few))) in
    let second = code_patched law chosen laws set registers words bridge news pls old heres (before ++ bytes_in next) behind t.second (end_of pl) (exit + exits_in pl.piece.ops) end last st.1 laid.2 few long begins t.two in
    ap (λ (l : List (ℕ × ℤ × ℤ)). all_patched l (before ++ ((bytes_in pl ++ rest) ++ behind))) t.are
    ∙ patched_append t.first t.second (before ++ ((bytes_in pl ++ rest) ++ behind))
    ∙ ap (λ (l : List ℕ). all_patched t.second (all_patched t.first (before ++ l))) (append_assoc (bytes_in pl) rest behind)
    ∙ ap (all_patched t.second) (first ∙ sym (append_assoc before (bytes_in next) (rest ++ behind)))
    ∙ second
    ∙ append_assoc before (bytes_in next) (more ++ behind)
    ∙ ap (λ (l : List ℕ). before ++ l) (sym (append_assoc (bytes_in next) more behind))
