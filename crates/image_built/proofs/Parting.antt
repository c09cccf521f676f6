-- The bytes of an attachment: what it appends and patches is the part of a printed image.
use Rattle.std.proofs.Common.{◌≡◌, ◌≢◌, ◌⊎◌, inl, inr, ℕ, ◌+◌, ◌<◌, ◌≤◌, Bool, true, false, cond, List, [], ◌∷◌, ◌++◌, length, refl, sym, ap, ◌∙◌, subst, arith, ℤ}
use Rattle.std.specs.Prelude.{nat_eq}
use Rattle.std.specs.List.{AllByRecursion}
use Rattle.std.proofs.lemmas.Bool.{eqb-true}
use Rattle.asm_select.specs.Slots.{Slot, Put, Leave, Go, Jumps, sizes_of, size_of}
use Rattle.code_layout.specs.Leading.{way}
use Rattle.bridge_patch.specs.Pieces.{Placed}
use Rattle.image_runs.specs.Reached.{IsJumpOf}
use Rattle.image_runs.specs.Image.{disp_in}
use Rattle.image_built.specs.Built.{by_key, by_of}
use Rattle.image_built.proofs.Splitting.{keys_in}
use Rattle.image_built.proofs.Joining.{KeyAt}
use Rattle.std.specs.Prelude.{nat_lt, ◌-◌, take, drop}
use Rattle.std.specs.Int.{to_le_bytes, cast_unsigned, w32}
use Rattle.std.proofs.lemmas.Bool.{le-ltb, ltb-true, ltb-false}
use Rattle.std.proofs.lemmas.List.{length-append, length-take-le, length-drop}
use Rattle.std.proofs.lemmas.Slice.{drop-append-drop}
use Rattle.code_layout.specs.Leading.{patched, led_bytes, JumpIs, JumpsOnce}
use Rattle.code_layout.specs.Leading as layout
use Rattle.bridge_patch.specs.Attached.{all_patched}
use Rattle.image_runs.specs.Patched.{IsAway}
use Rattle.image_built.proofs.Aiming.{Aims}

-- ---- lists

pub same_end : {X : Type 0} (xs ys us vs : List X) → length xs ≡ length us → xs ++ ys ≡ us ++ vs → ys ≡ vs
same_end [] ys [] vs n e = e
same_end [] ys (u ∷ us) vs n e = absurd (omega (arith, n))
same_end (x ∷ xs) ys [] vs n e = absurd (omega (arith, n))
same_end (x ∷ xs) ys (u ∷ us) vs n e = same_end xs ys us vs (omega (arith, n)) (tail e)
  where
    tail : {X : Type 0} {x y : X} {xs ys : List X} → x ∷ xs ≡ y ∷ ys → xs ≡ ys
    tail e = cc

-- ---- patches

patched_long : (at : ℕ) (v : ℤ) (code : List ℕ) → at + 4 ≤ length code → length (patched at v code) ≡ length code
patched_long at v code le =
    let bytes = to_le_bytes w32 (cast_unsigned w32 v) in
    let four : length bytes ≡ 4 = refl in
    let long : length (patched at v code) ≡ length (take at code ++ bytes) + length (drop (at + 4) code) = length-append (take at code ++ bytes) (drop (at + 4) code) in
    omega (arith, long, length-append (take at code) bytes, length-take-le at code (omega (arith, le)), length-drop (at + 4) code, four, le)

patched_end : (at n : ℕ) (v : ℤ) (code : List ℕ) → at + 4 ≤ n → n ≤ length code → drop n (patched at v code) ≡ drop n code
patched_end at n v code low le =
    let bytes = to_le_bytes w32 (cast_unsigned w32 v) in
    let four : length bytes ≡ 4 = refl in
    drop-append-drop (at + 4) code (take at code ++ bytes) n low (omega (arith, length-append (take at code) bytes, length-take-le at code (omega (arith, le, low)), four))

abbrev pub AreLow : ℕ → List (ℕ × ℤ × ℤ) → Type 0
AreLow n ps = AllByRecursion (λ (p : ℕ × ℤ × ℤ). p.0 + 4 ≤ n) ps

pub all_patched_end : (n : ℕ) (ps : List (ℕ × ℤ × ℤ)) (code : List ℕ) → AreLow n ps → n ≤ length code → drop n (all_patched ps code) ≡ drop n code
all_patched_end n [] code low le = refl
all_patched_end n (p ∷ ps) code low le =
    let long = patched_long p.0 p.2 code (omega (arith, low.0, le)) in
    all_patched_end n ps (patched p.0 p.2 code) low.1 (omega (arith, long, le)) ∙ patched_end p.0 n p.2 code low.0 le

-- ---- one jump a key

apart_away : (e k : ℕ) (front behind : List Slot) (x : Slot) → layout.IsAway k (front ++ x ∷ behind) → IsJumpOf x e → e ≢ k
apart_away e k [] behind (Put i) a j = absurd j
apart_away e k [] behind (Leave c m) a j = λ s. a.0 (j ∙ s)
apart_away e k [] behind (Go m) a j = λ s. a.0 (j ∙ s)
apart_away e k (Put i ∷ front) behind x a j = apart_away e k front behind x a j
apart_away e k (Leave c m ∷ front) behind x a j = apart_away e k front behind x a.1 j
apart_away e k (Go m ∷ front) behind x a j = apart_away e k front behind x a.1 j

away_same : (k e : ℕ) (xs : List Slot) → k ≡ e → layout.IsAway k xs → IsAway e xs
away_same k e [] s a = tt
away_same k e (Put i ∷ xs) s a = away_same k e xs s a
away_same k e (Leave c m ∷ xs) s a = (λ t. a.0 (t ∙ sym s), away_same k e xs s a.1)
away_same k e (Go m ∷ xs) s a = (λ t. a.0 (t ∙ sym s), away_same k e xs s a.1)

pub one_jump : (e : ℕ) (front behind : List Slot) (x : Slot) → JumpsOnce (front ++ x ∷ behind) → IsJumpOf x e → IsAway e front × IsAway e behind
one_jump e [] behind (Put i) once j = absurd j
one_jump e [] behind (Leave c k) once j = (tt, away_same k e behind j once.0)
one_jump e [] behind (Go k) once j = (tt, away_same k e behind j once.0)
one_jump e (Put i ∷ front) behind x once j = one_jump e front behind x once j
one_jump e (Leave c k ∷ front) behind x once j = (let z = one_jump e front behind x once.1 j in ((λ s. apart_away e k front behind x once.0 j (sym s), z.0), z.1))
one_jump e (Go k ∷ front) behind x once j = (let z = one_jump e front behind x once.1 j in ((λ s. apart_away e k front behind x once.0 j (sym s), z.0), z.1))

-- and one key a place
jump_after : (e at p : ℕ) (xs : List Slot) → JumpIs e at p xs → p < at
jump_after e at p [] j = absurd j
jump_after e at p (Put i ∷ xs) j = (let z = jump_after e at (p + size_of (Put i)) xs j in omega (arith, z))
jump_after e at p (Leave c k ∷ xs) (inl j) = omega (arith, j.1)
jump_after e at p (Leave c k ∷ xs) (inr j) = (let z = jump_after e at (p + 6) xs j in omega (arith, z))
jump_after e at p (Go k ∷ xs) (inl j) = omega (arith, j.1)
jump_after e at p (Go k ∷ xs) (inr j) = (let z = jump_after e at (p + 5) xs j in omega (arith, z))

pub one_key : (a b at p : ℕ) (xs : List Slot) → JumpIs a at p xs → JumpIs b at p xs → a ≡ b
one_key a b at p [] i j = absurd i
one_key a b at p (Put x ∷ xs) i j = one_key a b at (p + size_of (Put x)) xs i j
one_key a b at p (Leave c k ∷ xs) (inl i) (inl j) = sym i.0 ∙ j.0
one_key a b at p (Leave c k ∷ xs) (inl i) (inr j) = absurd (omega (arith, i.1, jump_after b at (p + 6) xs j))
one_key a b at p (Leave c k ∷ xs) (inr i) (inl j) = absurd (omega (arith, j.1, jump_after a at (p + 6) xs i))
one_key a b at p (Leave c k ∷ xs) (inr i) (inr j) = one_key a b at (p + 6) xs i j
one_key a b at p (Go k ∷ xs) (inl i) (inl j) = sym i.0 ∙ j.0
one_key a b at p (Go k ∷ xs) (inl i) (inr j) = absurd (omega (arith, i.1, jump_after b at (p + 5) xs j))
one_key a b at p (Go k ∷ xs) (inr i) (inl j) = absurd (omega (arith, j.1, jump_after a at (p + 5) xs i))
one_key a b at p (Go k ∷ xs) (inr i) (inr j) = one_key a b at (p + 5) xs i j

-- the displacement of a jump
pub aim_at : (by : Jumps) (to : ℕ → ℕ) (p e : ℕ) (front behind : List Slot) (x : Slot) → Aims by to p (front ++ x ∷ behind) → IsJumpOf x e → by e ≡ way (p + (sizes_of front + size_of x)) (to e)
aim_at by to p e [] behind (Put i) h j = absurd j
aim_at by to p e [] behind (Leave c k) h j = subst (λ (m : ℕ). by m ≡ way (p + 6) (to m)) j h.0
aim_at by to p e [] behind (Go k) h j = subst (λ (m : ℕ). by m ≡ way (p + 5) (to m)) j h.0
aim_at by to p e (Put i ∷ front) behind x h j =
    let n : p + size_of (Put i) + (sizes_of front + size_of x) ≡ p + (size_of (Put i) + sizes_of front + size_of x) = omega arith in
    aim_at by to (p + size_of (Put i)) e front behind x h j ∙ ap (λ (m : ℕ). way m (to e)) n
aim_at by to p e (Leave c k ∷ front) behind x h j =
    let n : p + 6 + (sizes_of front + size_of x) ≡ p + (6 + sizes_of front + size_of x) = omega arith in
    aim_at by to (p + 6) e front behind x h.1 j ∙ ap (λ (m : ℕ). way m (to e)) n
aim_at by to p e (Go k ∷ front) behind x h j =
    let n : p + 5 + (sizes_of front + size_of x) ≡ p + (5 + sizes_of front + size_of x) = omega arith in
    aim_at by to (p + 5) e front behind x h.1 j ∙ ap (λ (m : ℕ). way m (to e)) n

pub jump_size : (x : Slot) (e : ℕ) → IsJumpOf x e → size_of x ≡ disp_in x + 4
jump_size (Put i) e j = absurd j
jump_size (Leave c k) e j = refl
jump_size (Go k) e j = refl

-- jumps that lead to the same place
one_led : (b : Bool) (d : ℕ → ℤ) (to also : ℕ) (x y : ℤ) → (b ≡ true → to ≡ also) → x ≡ y → cond b (d to) x ≡ cond b (d also) y
one_led true d to also x y f e = ap d (f refl)
one_led false d to also x y f e = e

pub by_alike : (to also : ℕ → ℕ) (e p : ℕ) (xs : List Slot) → to e ≡ also e → by_of to p xs e ≡ by_of also p xs e
by_alike to also e p [] same = refl
by_alike to also e p (Put i ∷ xs) same = by_alike to also e (p + size_of (Put i)) xs same
by_alike to also e p (Leave c k ∷ xs) same = one_led (nat_eq e k) (way (p + 6)) (to k) (also k) (by_of to (p + 6) xs e) (by_of also (p + 6) xs e) (λ t. ap to (sym (eqb-true e k t)) ∙ same ∙ ap also (eqb-true e k t)) (by_alike to also e (p + 6) xs same)
by_alike to also e p (Go k ∷ xs) same = one_led (nat_eq e k) (way (p + 5)) (to k) (also k) (by_of to (p + 5) xs e) (by_of also (p + 5) xs e) (λ t. ap to (sym (eqb-true e k t)) ∙ same ∙ ap also (eqb-true e k t)) (by_alike to also e (p + 5) xs same)

-- ---- keys

if_false : {X : Type 0} (b : Bool) (x y : X) → b ≡ false → cond b x y ≡ y
if_false true x y h = absurd (cc)
if_false false x y h = refl

pub key_behind : {X : Type 0} (none : X) (F : Placed → ℕ → X) (xs ys : List Placed) (j : ℕ) → by_key none F (xs ++ ys) (keys_in xs + j) ≡ by_key none F ys j
key_behind none F [] ys j = (let n : 0 + j ≡ j = omega arith in ap (by_key none F ys) n)
key_behind none F (x ∷ xs) ys j =
    let e = length x.piece.ops + keys_in xs + j in
    let less : e - length x.piece.ops ≡ keys_in xs + j = omega arith in
    if_false (nat_lt e (length x.piece.ops)) _ _ (le-ltb e (length x.piece.ops) (omega arith)) ∙ ap (by_key none F (xs ++ ys)) less ∙ key_behind none F xs ys j

either_key : (x : Placed) (xs : List Placed) (e : ℕ) → (e < length x.piece.ops ⊎ length x.piece.ops ≤ e) → (length x.piece.ops ≤ e → KeyAt xs (e - length x.piece.ops)) → KeyAt (x ∷ xs) e
either_key x xs e (inl lt) more = record { before = []; pl = x; more = xs; here = refl; k = e; within = lt; key = omega arith }
either_key x xs e (inr le) more = (let z = more le in record { before = x ∷ z.before; pl = z.pl; more = z.more; here = ap (λ (l : List Placed). x ∷ l) z.here; k = z.k; within = z.within; key = omega (arith, z.key, le) })

pub lt_or : (a b : ℕ) → (a < b) ⊎ (b ≤ a)
lt_or a b = elim (nat_lt a b) as (λ t. nat_lt a b ≡ t → (a < b) ⊎ (b ≤ a)) [ true ↦ λ t. inl (ltb-true a b t) | false ↦ λ t. inr (ltb-false a b t) ] refl

pub key_found : (xs : List Placed) (e : ℕ) → e < keys_in xs → KeyAt xs e
key_found [] e lt = absurd (omega (arith, lt))
key_found (x ∷ xs) e lt = either_key x xs e (lt_or e (length x.piece.ops)) (λ le. key_found xs (e - length x.piece.ops) (omega (arith, lt, le)))
