-- Which operation a key is of, and where its jump stands.
use Rattle.std.proofs.Common.{◌≡◌, ℕ, suc, ◌+◌, ◌<◌, ◌≤◌, ◌^◌, true, List, [], ◌∷◌, ◌++◌, length, append_assoc, refl, sym, ap, ◌∙◌, subst, arith}
use Rattle.std.specs.List.{AllByRecursion}
use Rattle.trace_ops.specs.declared.piece.OptOp.{OptOp}
use Rattle.guard_exit.specs.Codes.{common_code}
use Rattle.asm_select.specs.declared.told.Told.TheVariants as tell
use Rattle.asm_select.specs.Slots.{Slot, puts, sizes_of}
use Rattle.asm_select.specs.Chosen.{all_code}
use Rattle.asm_select.specs.Asked.{AreChosen}
use Rattle.code_layout.specs.Leading.{JumpIs, JumpsOnce}
use Rattle.code_layout.specs.Chosen.{has_jump, ChosenJumps}
use Rattle.bridge_patch.specs.Pieces.{Placed, body_of, start_of, stubs_of, exits_in, stubs_from, spelled, displacement_of, AreLaid}
use Rattle.image_built.specs.Built.{keyed, slots_of, slots_from, all_slots}
use Rattle.image_built.proofs.Leading.{KeysAre, keys-append, keys-puts, keys_weaker, once-append, once-puts, is_left, is_right, is-rekeyed, place_is, sizes-append, sizes-puts, spelled_long}
use Rattle.image_built.proofs.Choosing.{first-keyed, chosen_first, is_off, IsOff, all_keys}
use Rattle.image_built.proofs.Splitting.{keys_in, keys_in-append, slots_from-append, Stands, stands}

-- the key is that of an operation which is left
pub record Located (pls : List Placed) (e : ℕ) : Type 0 where
  pub before : List Placed
  pub pl : Placed
  pub after : List Placed
  pub here : pls ≡ before ++ pl ∷ after
  pub done : List OptOp
  pub op : OptOp
  pub rest : List OptOp
  pub split : pl.piece.ops ≡ done ++ op ∷ rest
  pub key : e ≡ keys_in before + length done
  pub off : is_off op ≡ true

located : (before pls : List Placed) → KeysAre (Located (before ++ pls)) (slots_from (keys_in before) pls)
located before [] = tt
located before (pl ∷ pls) =
    let b = keys_in before in
    let all = before ++ pl ∷ pls in
    let ops = pl.piece.ops in
    let code = all_code (keyed b pl.setting) b tell.Nothing ops in
    let stubs = stubs_from (stubs_of pl) pl.exit (exits_in ops) in
    let of : (e : ℕ) → IsOff b ops e → Located all e = λ e h. record { before = before; pl = pl; after = pls; here = refl; done = h.done; op = h.op; rest = h.rest; split = h.split; key = h.key; off = h.off } in
    let mine = keys_weaker (IsOff b ops) (Located all) code of (all_keys (keyed b pl.setting) b tell.Nothing ops) in
    let here = keys-append (Located all) (puts pl.front) (code ++ puts stubs) (keys-puts (Located all) pl.front) (keys-append (Located all) code (puts stubs) mine (keys-puts (Located all) stubs)) in
    let same : (before ++ pl ∷ []) ++ pls ≡ all = append_assoc before (pl ∷ []) pls in
    let n : keys_in (before ++ pl ∷ []) ≡ b + length ops = omega (arith, keys_in-append before (pl ∷ [])) in
    let more = subst (λ (k : ℕ). KeysAre (Located all) (slots_from k pls)) n (subst (λ (l : List Placed). KeysAre (Located l) (slots_from (keys_in (before ++ pl ∷ [])) pls)) same (located (before ++ pl ∷ []) pls)) in
    keys-append (Located all) (slots_of b pl) (slots_from (b + length ops) pls) here more

pub all_located : (pls : List Placed) → KeysAre (Located pls) (all_slots pls)
all_located pls = keys-append (Located pls) (puts common_code) (slots_from 0 pls) (keys-puts (Located pls) common_code) (located [] pls)

-- ---- no key twice

-- what is known of the pieces that stand one behind the other
pub record AreIn (placed : List Placed) : Type 0 where
  pub end : ℕ
  pub last : ℕ
  pub laid : AreLaid (length (spelled common_code)) 0 placed end last
  pub few : last ≤ 2 ^ 31
  pub chosen : AllByRecursion (λ (pl : Placed). AreChosen pl.setting 0 tell.Nothing pl.piece.ops) placed
  pub jumps : ChosenJumps

once_piece : ChosenJumps → (b : ℕ) (pl : Placed) → AreChosen pl.setting 0 tell.Nothing pl.piece.ops → JumpsOnce (slots_of b pl) × KeysAre (IsOff b pl.piece.ops) (slots_of b pl)
once_piece theirs b pl chosen =
    let ops = pl.piece.ops in
    let code = all_code (keyed b pl.setting) b tell.Nothing ops in
    let stubs = stubs_from (stubs_of pl) pl.exit (exits_in ops) in
    let P = IsOff b ops in
    let once = (theirs (keyed b pl.setting) b tell.Nothing ops (chosen_first b pl.setting tell.Nothing ops chosen)).once in
    let mine = all_keys (keyed b pl.setting) b tell.Nothing ops in
    let free = keys_weaker (IsOff b ops) (λ (k : ℕ). ⊥ → ⊥) code (λ k h z. z) mine in
    let back = once-append (λ (k : ℕ). ⊥) code (puts stubs) once (once-puts stubs) free (keys-puts (λ (k : ℕ). ⊥) stubs) in
    let keys = keys-append (IsOff b ops) code (puts stubs) mine (keys-puts (IsOff b ops) stubs) in
    (once-append (IsOff b ops) (puts pl.front) (code ++ puts stubs) (once-puts pl.front) back (keys-puts (λ (k : ℕ). IsOff b ops k → ⊥) pl.front) keys, keys-append (IsOff b ops) (puts pl.front) (code ++ puts stubs) (keys-puts (IsOff b ops) pl.front) keys)

off_least : (b : ℕ) (ops : List OptOp) (e : ℕ) → IsOff b ops e → b ≤ e
off_least b ops e h = omega (arith, h.key)

off_most : (b : ℕ) (ops : List OptOp) (e : ℕ) → IsOff b ops e → e < b + length ops
off_most b ops e h = omega (arith, h.key, ap length h.split, length_middle h.done h.rest h.op)
  where
    length_middle : {X : Type 0} (xs ys : List X) (x : X) → length (xs ++ x ∷ ys) ≡ length xs + suc (length ys)
    length_middle [] ys x = omega arith
    length_middle (z ∷ xs) ys x = omega (arith, length_middle xs ys x)

pub once_from : ChosenJumps → (b : ℕ) (pls : List Placed) → AllByRecursion (λ (pl : Placed). AreChosen pl.setting 0 tell.Nothing pl.piece.ops) pls → JumpsOnce (slots_from b pls) × KeysAre (λ (e : ℕ). b ≤ e) (slots_from b pls)
once_from theirs b [] h = (tt, tt)
once_from theirs b (pl ∷ pls) h =
    let ops = pl.piece.ops in
    let c = b + length ops in
    let here = once_piece theirs b pl h.0 in
    let more = once_from theirs c pls h.1 in
    let out = keys_weaker (IsOff b ops) (λ (e : ℕ). c ≤ e → ⊥) (slots_of b pl) (λ e k le. absurd (omega (arith, off_most b ops e k, le))) here.1 in (
      once-append (λ (e : ℕ). c ≤ e) (slots_of b pl) (slots_from c pls) here.0 more.0 out more.1,
      keys-append (λ (e : ℕ). b ≤ e) (slots_of b pl) (slots_from c pls) (keys_weaker (IsOff b ops) (λ (e : ℕ). b ≤ e) (slots_of b pl) (off_least b ops) here.1)
          (keys_weaker (λ (e : ℕ). c ≤ e) (λ (e : ℕ). b ≤ e) (slots_from c pls) (λ e le. omega (arith, le)) more.1),
    )

pub all_once : (pls : List Placed) → AreIn pls → JumpsOnce (all_slots pls)
all_once pls h =
    let more = once_from h.jumps 0 pls h.chosen in
    once-append (λ (e : ℕ). 0 ≤ e) (puts common_code) (slots_from 0 pls) (once-puts common_code) more.0 (keys-puts (λ (e : ℕ). 0 ≤ e → ⊥) common_code) more.1

-- ---- where things stand

pub common_size : sizes_of (puts common_code) ≡ length (spelled common_code)
common_size = sizes-puts common_code ∙ sym (spelled_long common_code)

-- the slots in front of a piece
abbrev pub in_front : List Placed → List Slot
in_front before = puts common_code ++ slots_from 0 before

pub slots_around : (before after : List Placed) (pl : Placed) → all_slots (before ++ pl ∷ after) ≡ in_front before ++ (slots_of (keys_in before) pl ++ slots_from (keys_in before + length pl.piece.ops) after)
slots_around before after pl =
    let b = keys_in before in
    let z : 0 + b ≡ b = omega arith in
    ap (λ (l : List Slot). puts common_code ++ l) (slots_from-append 0 before (pl ∷ after) ∙ ap (λ (k : ℕ). slots_from 0 before ++ slots_from k (pl ∷ after)) z)
    ∙ sym (append_assoc (puts common_code) (slots_from 0 before) (slots_of b pl ++ slots_from (b + length pl.piece.ops) after))

pub stands_in : (before after : List Placed) (pl : Placed) → AreIn (before ++ pl ∷ after) → Stands (length (spelled common_code)) 0 0 before pl (2 ^ 31)
stands_in before after pl h =
    let s = stands (length (spelled common_code)) 0 h.end h.last 0 before after pl h.few h.laid in
    record { place = s.place; least = s.least; most = omega (arith, s.most, h.few) }

pub front_long : (before after : List Placed) (pl : Placed) → AreIn (before ++ pl ∷ after) → pl.at ≡ sizes_of (in_front before)
front_long before after pl h =
    let s = stands_in before after pl h in
    omega (arith, s.place, sizes-append (puts common_code) (slots_from 0 before), common_size)

pub chosen_in : (before after : List Placed) (pl : Placed) → AllByRecursion (λ (x : Placed). AreChosen x.setting 0 tell.Nothing x.piece.ops) (before ++ pl ∷ after) → AreChosen pl.setting 0 tell.Nothing pl.piece.ops
chosen_in [] after pl h = h.0
chosen_in (x ∷ before) after pl h = chosen_in before after pl h.1

-- the jump of an operation, at the place that rows tell
pub jump_in : (before after : List Placed) (pl : Placed) (done rest : List OptOp) (op : OptOp) → AreIn (before ++ pl ∷ after) → pl.piece.ops ≡ done ++ op ∷ rest → has_jump op ≡ true
    → JumpIs (keys_in before + length done) (displacement_of pl (length done)) 0 (all_slots (before ++ pl ∷ after))
jump_in before after pl done rest op h e j =
    let b = keys_in before in
    let k = length done in
    let code = all_code (keyed b pl.setting) b tell.Nothing pl.piece.ops in
    let stubs = stubs_from (stubs_of pl) pl.exit (exits_in pl.piece.ops) in
    let theirs = h.jumps pl.setting 0 tell.Nothing pl.piece.ops (chosen_in before after pl h.chosen) in
    let found = theirs.each done rest op (start_of pl) e j in
    let z : 0 + k ≡ k = omega arith in
    let local : JumpIs k found.0 (start_of pl) (body_of pl) = subst (λ (m : ℕ). JumpIs m found.0 (start_of pl) (body_of pl)) z found.1 in
    let told : displacement_of pl k ≡ found.0 = place_is k found.0 0 (start_of pl) (body_of pl) theirs.once local in
    let coded = subst (λ (l : List Slot). JumpIs (b + k) found.0 (start_of pl) l) (sym (first-keyed b pl.setting tell.Nothing pl.piece.ops)) (is-rekeyed b k found.0 (start_of pl) (body_of pl) local) in
    let start : start_of pl ≡ pl.at + sizes_of (puts pl.front) = omega (arith, sizes-puts pl.front) in
    let piece = is_right (b + k) found.0 pl.at (start_of pl) (puts pl.front) (code ++ puts stubs) start (is_left (b + k) found.0 (start_of pl) code (puts stubs) coded) in
    let more = is_left (b + k) found.0 pl.at (slots_of b pl) (slots_from (b + length pl.piece.ops) after) piece in
    let at : pl.at ≡ 0 + sizes_of (in_front before) = omega (arith, front_long before after pl h) in
    let whole = is_right (b + k) found.0 0 pl.at (in_front before) (slots_of b pl ++ slots_from (b + length pl.piece.ops) after) at more in
    subst (λ (m : ℕ). JumpIs (b + k) m 0 (all_slots (before ++ pl ∷ after))) (sym told) (subst (λ (l : List Slot). JumpIs (b + k) found.0 0 l) (sym (slots_around before after pl)) whole)
