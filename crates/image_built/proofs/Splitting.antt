-- A piece among the pieces of an image.
use Rattle.std.proofs.Common.{◌≡◌, ℕ, ◌+◌, ◌-◌, ◌*◌, ◌<◌, ◌≤◌, ◌^◌, Bool, true, false, cond, nat_lt, lt-ltb, le-ltb, List, [], ◌∷◌, ◌++◌, length, append_assoc, refl, sym, ap, ◌∙◌, subst, arith}
use Rattle.std.proofs.lemmas.List.{length-append}
use Rattle.trace_ops.specs.declared.piece.OptOp.{OptOp}
use Rattle.asm_select.specs.declared.told.Told.TheVariants as tell
use Rattle.asm_select.specs.Slots.{Slot, puts, sizes_of}
use Rattle.asm_select.specs.Chosen.{all_code}
use Rattle.code_layout.specs.Leading.{led_bytes}
use Rattle.code_layout.specs.Emitting.{total_size}
use Rattle.bridge_patch.specs.Pieces.{Placed, body_of, start_of, stubs_of, end_of, exits_in, stubs_from, spelled, bytes_in, all_bytes, AreLaid}
use Rattle.image_built.specs.Built.{keyed, slots_of, slots_from, by_key}
use Rattle.image_built.proofs.Leading.{KeysAre, sizes-append, sizes-puts, led-append, led-puts, led-rekeyed, sizes_same, keys_weaker}
use Rattle.image_built.proofs.Choosing.{first-keyed, IsOff, all_keys}
use Rattle.image_built.proofs.Stubbing.{stubs_long, stubs_least}

-- how many operations pieces have
abbrev pub keys_in : List Placed → ℕ
keys_in [] = 0
keys_in (pl ∷ pls) = length pl.piece.ops + keys_in pls

pub keys_in-append : (xs ys : List Placed) → keys_in (xs ++ ys) ≡ keys_in xs + keys_in ys
keys_in-append [] ys = omega arith
keys_in-append (x ∷ xs) ys = omega (arith, keys_in-append xs ys)

if_true : {X : Type 0} (b : Bool) (x y : X) → b ≡ true → cond b x y ≡ x
if_true true x y h = refl
if_true false x y h = absurd (cc)

if_false : {X : Type 0} (b : Bool) (x y : X) → b ≡ false → cond b x y ≡ y
if_false true x y h = absurd (cc)
if_false false x y h = refl

pub by_key-split : {X : Type 0} (none : X) (f : Placed → ℕ → X) (before after : List Placed) (pl : Placed) (k : ℕ) → k < length pl.piece.ops → by_key none f (before ++ pl ∷ after) (keys_in before + k) ≡ f pl k
by_key-split none f [] after pl k lt =
    let n : 0 + k ≡ k = omega arith in
    ap (λ (e : ℕ). by_key none f (pl ∷ after) e) n ∙ if_true (nat_lt k (length pl.piece.ops)) _ _ (lt-ltb k (length pl.piece.ops) lt)
by_key-split none f (x ∷ before) after pl k lt =
    let e = length x.piece.ops + keys_in before + k in
    let less : e - length x.piece.ops ≡ keys_in before + k = omega arith in
    if_false (nat_lt e (length x.piece.ops)) _ _ (le-ltb e (length x.piece.ops) (omega arith))
    ∙ ap (by_key none f (before ++ pl ∷ after)) less
    ∙ by_key-split none f before after pl k lt

pub slots_from-append : (b : ℕ) (xs ys : List Placed) → slots_from b (xs ++ ys) ≡ slots_from b xs ++ slots_from (b + keys_in xs) ys
slots_from-append b [] ys =
    let n : b ≡ b + 0 = omega arith in
    ap (λ (k : ℕ). slots_from k ys) n
slots_from-append b (x ∷ xs) ys =
    let c = b + length x.piece.ops in
    let n : c + keys_in xs ≡ b + (length x.piece.ops + keys_in xs) = omega arith in
    ap (λ (l : List Slot). slots_of b x ++ l) (slots_from-append c xs ys)
    ∙ ap (λ (k : ℕ). slots_of b x ++ (slots_from c xs ++ slots_from k ys)) n
    ∙ sym (append_assoc (slots_of b x) (slots_from c xs) (slots_from (b + (length x.piece.ops + keys_in xs)) ys))

-- ---- sizes

pub body_size : (b : ℕ) (pl : Placed) → sizes_of (all_code (keyed b pl.setting) b tell.Nothing pl.piece.ops) ≡ sizes_of (body_of pl)
body_size b pl = sizes_same b (body_of pl) _ (first-keyed b pl.setting tell.Nothing pl.piece.ops)

-- what is in front of the stubs
pub front_size : (b : ℕ) (pl : Placed) → sizes_of (puts pl.front ++ all_code (keyed b pl.setting) b tell.Nothing pl.piece.ops) ≡ total_size pl.front + sizes_of (body_of pl)
front_size b pl =
    sizes-append (puts pl.front) (all_code (keyed b pl.setting) b tell.Nothing pl.piece.ops)
    ∙ ap (λ (n : ℕ). n + sizes_of (all_code (keyed b pl.setting) b tell.Nothing pl.piece.ops)) (sizes-puts pl.front)
    ∙ ap (λ (n : ℕ). total_size pl.front + n) (body_size b pl)

pub slots_size : (b : ℕ) (pl : Placed) → sizes_of (slots_of b pl) ≡ total_size pl.front + (sizes_of (body_of pl) + total_size (stubs_from (stubs_of pl) pl.exit (exits_in pl.piece.ops)))
slots_size b pl =
    let code = all_code (keyed b pl.setting) b tell.Nothing pl.piece.ops in
    let stubs = stubs_from (stubs_of pl) pl.exit (exits_in pl.piece.ops) in
    sizes-append (puts pl.front) (code ++ puts stubs)
    ∙ ap (λ (n : ℕ). n + sizes_of (code ++ puts stubs)) (sizes-puts pl.front)
    ∙ ap (λ (n : ℕ). total_size pl.front + n) (sizes-append code (puts stubs))
    ∙ ap (λ (n : ℕ). total_size pl.front + (n + sizes_of (puts stubs))) (body_size b pl)
    ∙ ap (λ (n : ℕ). total_size pl.front + (sizes_of (body_of pl) + n)) (sizes-puts stubs)

pub slots_end : (b : ℕ) (pl : Placed) → pl.exit + exits_in pl.piece.ops ≤ 2 ^ 31 → pl.at + sizes_of (slots_of b pl) ≡ end_of pl
slots_end b pl le = omega (arith, slots_size b pl, stubs_long (stubs_of pl) pl.exit (exits_in pl.piece.ops) le)

-- exits have numbers one behind the other, each at most that of the last
pub last_most : (at exit end last : ℕ) (pls : List Placed) → AreLaid at exit pls end last → exit ≤ last
last_most at exit end last [] h = omega (arith, h.1)
last_most at exit end last (pl ∷ pls) h = omega (arith, last_most (end_of pl) (exit + exits_in pl.piece.ops) end last pls h.2)

-- each has a stub
pub stubs_room : (at exit end last b : ℕ) (pls : List Placed) → AreLaid at exit pls end last → 16 * last ≤ 16 * exit + sizes_of (slots_from b pls)
stubs_room at exit end last b [] h = omega (arith, h.1)
stubs_room at exit end last b (pl ∷ pls) h =
    let c = b + length pl.piece.ops in
    omega (arith, stubs_room (end_of pl) (exit + exits_in pl.piece.ops) end last c pls h.2, sizes-append (slots_of b pl) (slots_from c pls), slots_size b pl, stubs_least (stubs_of pl) pl.exit (exits_in pl.piece.ops))

-- where a piece stands, and the number of its first exit
pub record Stands (at exit b : ℕ) (before : List Placed) (pl : Placed) (last : ℕ) : Type 0 where
  pub place : pl.at ≡ at + sizes_of (slots_from b before)
  pub least : exit ≤ pl.exit
  pub most : pl.exit + exits_in pl.piece.ops ≤ last

pub stands : (at exit end last b : ℕ) (before after : List Placed) (pl : Placed) → last ≤ 2 ^ 31 → AreLaid at exit (before ++ pl ∷ after) end last → Stands at exit b before pl last
stands at exit end last b [] after pl le h = record {
  place = omega (arith, h.0);
  least = omega (arith, h.1);
  most = omega (arith, h.1, last_most (end_of pl) (exit + exits_in pl.piece.ops) end last after h.2);
}
stands at exit end last b (x ∷ before) after pl le h =
    let c = b + length x.piece.ops in
    let more = stands (end_of x) (exit + exits_in x.piece.ops) end last c before after pl le h.2 in
    let most = last_most (end_of x) (exit + exits_in x.piece.ops) end last (before ++ pl ∷ after) h.2 in
    let here = slots_end b x (omega (arith, h.1, most, le)) in
    record {
      place = omega (arith, more.place, here, h.0, sizes-append (slots_of b x) (slots_from c before));
      least = omega (arith, more.least);
      most = more.most;
    }

-- ---- bytes

-- these places are those of the pieces' operations, of which the first has this key
abbrev pub Tells : (ℕ → ℕ) → ℕ → List Placed → Type 0
Tells to b [] = Unit {0}
Tells to b (pl ∷ pls) = ((k : ℕ) → k < length pl.piece.ops → to (b + k) ≡ pl.to k) × Tells to (b + length pl.piece.ops) pls

pub tells : (before pls : List Placed) → Tells (by_key 0 (λ (pl : Placed) (k : ℕ). pl.to k) (before ++ pls)) (keys_in before) pls
tells before [] = tt
tells before (pl ∷ pls) =
    let f : Placed → ℕ → ℕ = λ pl k. pl.to k in
    let more = tells (before ++ pl ∷ []) pls in
    let same : (before ++ pl ∷ []) ++ pls ≡ before ++ pl ∷ pls = append_assoc before (pl ∷ []) pls in
    let n : keys_in (before ++ pl ∷ []) ≡ keys_in before + length pl.piece.ops = omega (arith, keys_in-append before (pl ∷ [])) in
    (λ k lt. by_key-split 0 f before pls pl k lt, subst (λ (m : ℕ). Tells (by_key 0 f (before ++ pl ∷ pls)) m pls) n (subst (λ (l : List Placed). Tells (by_key 0 f l) (keys_in (before ++ pl ∷ [])) pls) same more))

-- the keys of a piece are those of its operations
off_short : (k : ℕ) (ops : List OptOp) (e : ℕ) → IsOff k ops e → e < k + length ops
off_short k ops e h = omega (arith, h.key, ap length h.split, length-append h.done (h.op ∷ h.rest))

pub short_keys : (b : ℕ) (pl : Placed) → KeysAre (λ (e : ℕ). e < length pl.piece.ops) (body_of pl)
short_keys b pl =
    keys_weaker (IsOff 0 pl.piece.ops) (λ (e : ℕ). e < length pl.piece.ops) (body_of pl) (λ e h. (let lt = off_short 0 pl.piece.ops e h in omega (arith, lt))) (all_keys pl.setting 0 tell.Nothing pl.piece.ops)

pub piece_bytes : (to : ℕ → ℕ) (b p : ℕ) (pl : Placed) → p ≡ pl.at → ((k : ℕ) → k < length pl.piece.ops → to (b + k) ≡ pl.to k) → led_bytes to p (slots_of b pl) ≡ bytes_in pl
piece_bytes to b p pl e h =
    let code = all_code (keyed b pl.setting) b tell.Nothing pl.piece.ops in
    let stubs = stubs_from (stubs_of pl) pl.exit (exits_in pl.piece.ops) in
    let start : p + sizes_of (puts pl.front) ≡ start_of pl = omega (arith, e, sizes-puts pl.front) in
    let keys = keys_weaker (λ (i : ℕ). i < length pl.piece.ops) (λ (i : ℕ). to (b + i) ≡ pl.to i) (body_of pl) h (short_keys b pl) in
    led-append to p (puts pl.front) (code ++ puts stubs)
    ∙ ap (λ (l : List ℕ). l ++ led_bytes to (p + sizes_of (puts pl.front)) (code ++ puts stubs)) (led-puts to p pl.front)
    ∙ ap (λ (q : ℕ). spelled pl.front ++ led_bytes to q (code ++ puts stubs)) start
    ∙ ap (λ (l : List ℕ). spelled pl.front ++ l) (led-append to (start_of pl) code (puts stubs))
    ∙ ap (λ (l : List ℕ). spelled pl.front ++ (led_bytes to (start_of pl) code ++ l)) (led-puts to (start_of pl + sizes_of code) stubs)
    ∙ ap (λ (l : List Slot). spelled pl.front ++ (led_bytes to (start_of pl) l ++ spelled stubs)) (first-keyed b pl.setting tell.Nothing pl.piece.ops)
    ∙ ap (λ (l : List ℕ). spelled pl.front ++ (l ++ spelled stubs)) (led-rekeyed pl.to to b (start_of pl) (body_of pl) keys)

pub pieces_bytes : (to : ℕ → ℕ) (b at exit end last : ℕ) (pls : List Placed) → last ≤ 2 ^ 31 → AreLaid at exit pls end last → Tells to b pls → led_bytes to at (slots_from b pls) ≡ all_bytes pls
pieces_bytes to b at exit end last [] le h t = refl
pieces_bytes to b at exit end last (pl ∷ pls) le h t =
    let c = b + length pl.piece.ops in
    let most = last_most (end_of pl) (exit + exits_in pl.piece.ops) end last pls h.2 in
    let next : at + sizes_of (slots_of b pl) ≡ end_of pl = omega (arith, h.0, slots_end b pl (omega (arith, h.1, most, le))) in
    led-append to at (slots_of b pl) (slots_from c pls)
    ∙ ap (λ (l : List ℕ). l ++ led_bytes to (at + sizes_of (slots_of b pl)) (slots_from c pls)) (piece_bytes to b at pl (sym h.0) t.0)
    ∙ ap (λ (q : ℕ). bytes_in pl ++ led_bytes to q (slots_from c pls)) next
    ∙ ap (λ (l : List ℕ). bytes_in pl ++ l) (pieces_bytes to c (end_of pl) (exit + exits_in pl.piece.ops) end last pls le h.2 t.1)
