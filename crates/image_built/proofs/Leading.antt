-- Slots one behind the other, their bytes, and where their jumps lead.
use Rattle.std.proofs.Common.{◌≡◌, inl, inr, ℕ, ◌+◌, Bool, true, false, cond, nat_eq, List, [], ◌∷◌, ◌++◌, length, map, append_assoc, refl, sym, ap, ◌∙◌, subst, arith}
use Rattle.std.proofs.lemmas.Bool.{eq-eqb, ne_eqb}
use Rattle.std.proofs.lemmas.List.{length-append}
use Rattle.x64_encode.specs.declared.instr.Instr.{Instr}
use Rattle.x64_encode.specs.declared.instr.Instr.TheVariants.{Jcc, Jmp}
use Rattle.x64_encode.specs.Form.{spelling}
use Rattle.asm_select.specs.Slots.{Slot, Put, Leave, Go, size_of, sizes_of, puts}
use Rattle.code_layout.specs.Leading.{way, led_bytes, jumps_at, JumpIs, IsAway, JumpsOnce}
use Rattle.code_layout.specs.Emitting.{total_size}
use Rattle.bridge_patch.specs.Pieces.{spelled, place_among}
use Rattle.image_runs.specs.Reached.{IsJumpOf}
use Rattle.image_runs.specs.Image.{disp_in}
use Rattle.image_built.proofs.Rekeying.{rekeyed}

-- ---- sizes

pub sizes-append : (xs ys : List Slot) → sizes_of (xs ++ ys) ≡ sizes_of xs + sizes_of ys
sizes-append [] ys = omega arith
sizes-append (x ∷ xs) ys = omega (arith, sizes-append xs ys)

pub sizes-puts : (is : List Instr) → sizes_of (puts is) ≡ total_size is
sizes-puts [] = refl
sizes-puts (i ∷ is) = ap (λ (n : ℕ). length (spelling i) + n) (sizes-puts is)

pub spelled_long : (is : List Instr) → length (spelled is) ≡ total_size is
spelled_long [] = refl
spelled_long (i ∷ is) = length-append (spelling i) (spelled is) ∙ ap (λ (n : ℕ). length (spelling i) + n) (spelled_long is)

pub length-led : (to : ℕ → ℕ) (p : ℕ) (xs : List Slot) → length (led_bytes to p xs) ≡ sizes_of xs
length-led to p [] = refl
length-led to p (Put i ∷ xs) = length-append (spelling i) (led_bytes to (p + size_of (Put i)) xs) ∙ ap (λ (n : ℕ). length (spelling i) + n) (length-led to (p + size_of (Put i)) xs)
length-led to p (Leave c k ∷ xs) = omega (arith, length-led to (p + 6) xs)
length-led to p (Go k ∷ xs) = omega (arith, length-led to (p + 5) xs)

sizes-rekeyed : (n : ℕ) (xs : List Slot) → sizes_of (map (rekeyed n) xs) ≡ sizes_of xs
sizes-rekeyed n [] = refl
sizes-rekeyed n (Put i ∷ xs) = ap (λ (m : ℕ). length (spelling i) + m) (sizes-rekeyed n xs)
sizes-rekeyed n (Leave c k ∷ xs) = ap (λ (m : ℕ). 6 + m) (sizes-rekeyed n xs)
sizes-rekeyed n (Go k ∷ xs) = ap (λ (m : ℕ). 5 + m) (sizes-rekeyed n xs)

pub sizes_same : (n : ℕ) (xs ys : List Slot) → ys ≡ map (rekeyed n) xs → sizes_of ys ≡ sizes_of xs
sizes_same n xs ys e = ap sizes_of e ∙ sizes-rekeyed n xs

-- ---- keys

-- each jump's key is such a one
abbrev pub KeysAre : (ℕ → Type 0) → List Slot → Type 0
KeysAre P [] = Unit {0}
KeysAre P (Put i ∷ xs) = KeysAre P xs
KeysAre P (Leave c k ∷ xs) = P k × KeysAre P xs
KeysAre P (Go k ∷ xs) = P k × KeysAre P xs

pub keys-append : (P : ℕ → Type 0) (xs ys : List Slot) → KeysAre P xs → KeysAre P ys → KeysAre P (xs ++ ys)
keys-append P [] ys a b = b
keys-append P (Put i ∷ xs) ys a b = keys-append P xs ys a b
keys-append P (Leave c k ∷ xs) ys a b = (a.0, keys-append P xs ys a.1 b)
keys-append P (Go k ∷ xs) ys a b = (a.0, keys-append P xs ys a.1 b)

pub keys-puts : (P : ℕ → Type 0) (is : List Instr) → KeysAre P (puts is)
keys-puts P [] = tt
keys-puts P (i ∷ is) = keys-puts P is

pub keys_weaker : (P Q : ℕ → Type 0) (xs : List Slot) → ((k : ℕ) → P k → Q k) → KeysAre P xs → KeysAre Q xs
keys_weaker P Q [] f a = tt
keys_weaker P Q (Put i ∷ xs) f a = keys_weaker P Q xs f a
keys_weaker P Q (Leave c k ∷ xs) f a = (f k a.0, keys_weaker P Q xs f a.1)
keys_weaker P Q (Go k ∷ xs) f a = (f k a.0, keys_weaker P Q xs f a.1)

pub keys-rekeyed : (P : ℕ → Type 0) (n : ℕ) (xs : List Slot) → KeysAre (λ k. P (n + k)) xs → KeysAre P (map (rekeyed n) xs)
keys-rekeyed P n [] a = tt
keys-rekeyed P n (Put i ∷ xs) a = keys-rekeyed P n xs a
keys-rekeyed P n (Leave c k ∷ xs) a = (a.0, keys-rekeyed P n xs a.1)
keys-rekeyed P n (Go k ∷ xs) a = (a.0, keys-rekeyed P n xs a.1)

pub key_at : (P : ℕ → Type 0) (front behind : List Slot) (x : Slot) (e : ℕ) → KeysAre P (front ++ x ∷ behind) → IsJumpOf x e → P e
key_at P [] behind (Put i) e a j = absurd j
key_at P [] behind (Leave c k) e a j = subst P j a.0
key_at P [] behind (Go k) e a j = subst P j a.0
key_at P (Put i ∷ front) behind x e a j = key_at P front behind x e a j
key_at P (Leave c k ∷ front) behind x e a j = key_at P front behind x e a.1 j
key_at P (Go k ∷ front) behind x e a j = key_at P front behind x e a.1 j

-- ---- bytes

pub led-append : (to : ℕ → ℕ) (p : ℕ) (xs ys : List Slot) → led_bytes to p (xs ++ ys) ≡ led_bytes to p xs ++ led_bytes to (p + sizes_of xs) ys
led-append to p [] ys =
    let n : p ≡ p + 0 = omega arith in
    ap (λ (q : ℕ). led_bytes to q ys) n
led-append to p (Put i ∷ xs) ys =
    let q = p + size_of (Put i) in
    let n : q + sizes_of xs ≡ p + (size_of (Put i) + sizes_of xs) = omega arith in
    ap (λ (l : List ℕ). spelling i ++ l) (led-append to q xs ys ∙ ap (λ (m : ℕ). led_bytes to q xs ++ led_bytes to m ys) n)
    ∙ sym (append_assoc (spelling i) (led_bytes to q xs) (led_bytes to (p + (size_of (Put i) + sizes_of xs)) ys))
led-append to p (Leave c k ∷ xs) ys =
    let q = p + 6 in
    let n : q + sizes_of xs ≡ p + (6 + sizes_of xs) = omega arith in
    let i = Jcc c (way (p + 6) (to k)) in
    ap (λ (l : List ℕ). spelling i ++ l) (led-append to q xs ys ∙ ap (λ (m : ℕ). led_bytes to q xs ++ led_bytes to m ys) n)
    ∙ sym (append_assoc (spelling i) (led_bytes to q xs) (led_bytes to (p + (6 + sizes_of xs)) ys))
led-append to p (Go k ∷ xs) ys =
    let q = p + 5 in
    let n : q + sizes_of xs ≡ p + (5 + sizes_of xs) = omega arith in
    let i = Jmp (way (p + 5) (to k)) in
    ap (λ (l : List ℕ). spelling i ++ l) (led-append to q xs ys ∙ ap (λ (m : ℕ). led_bytes to q xs ++ led_bytes to m ys) n)
    ∙ sym (append_assoc (spelling i) (led_bytes to q xs) (led_bytes to (p + (5 + sizes_of xs)) ys))

pub led-puts : (to : ℕ → ℕ) (p : ℕ) (is : List Instr) → led_bytes to p (puts is) ≡ spelled is
led-puts to p [] = refl
led-puts to p (i ∷ is) = ap (λ (l : List ℕ). spelling i ++ l) (led-puts to (p + size_of (Put i)) is)

-- with other keys, which lead to the same places
pub led-rekeyed : (to all : ℕ → ℕ) (n p : ℕ) (xs : List Slot) → KeysAre (λ k. all (n + k) ≡ to k) xs → led_bytes all p (map (rekeyed n) xs) ≡ led_bytes to p xs
led-rekeyed to all n p [] a = refl
led-rekeyed to all n p (Put i ∷ xs) a = ap (λ (l : List ℕ). spelling i ++ l) (led-rekeyed to all n (p + size_of (Put i)) xs a)
led-rekeyed to all n p (Leave c k ∷ xs) a =
    ap (λ (m : ℕ). spelling (Jcc c (way (p + 6) m)) ++ led_bytes all (p + 6) (map (rekeyed n) xs)) a.0
    ∙ ap (λ (l : List ℕ). spelling (Jcc c (way (p + 6) (to k))) ++ l) (led-rekeyed to all n (p + 6) xs a.1)
led-rekeyed to all n p (Go k ∷ xs) a =
    ap (λ (m : ℕ). spelling (Jmp (way (p + 5) m)) ++ led_bytes all (p + 5) (map (rekeyed n) xs)) a.0
    ∙ ap (λ (l : List ℕ). spelling (Jmp (way (p + 5) (to k))) ++ l) (led-rekeyed to all n (p + 5) xs a.1)

-- ---- no key twice

away_of : (P : ℕ → Type 0) (e : ℕ) (xs : List Slot) → KeysAre P xs → (P e → ⊥) → IsAway e xs
away_of P e [] a never = tt
away_of P e (Put i ∷ xs) a never = away_of P e xs a never
away_of P e (Leave c k ∷ xs) a never = (λ s. never (subst P s a.0), away_of P e xs a.1 never)
away_of P e (Go k ∷ xs) a never = (λ s. never (subst P s a.0), away_of P e xs a.1 never)

away-append : (e : ℕ) (xs ys : List Slot) → IsAway e xs → IsAway e ys → IsAway e (xs ++ ys)
away-append e [] ys a b = b
away-append e (Put i ∷ xs) ys a b = away-append e xs ys a b
away-append e (Leave c k ∷ xs) ys a b = (a.0, away-append e xs ys a.1 b)
away-append e (Go k ∷ xs) ys a b = (a.0, away-append e xs ys a.1 b)

pub once-append : (P : ℕ → Type 0) (xs ys : List Slot) → JumpsOnce xs → JumpsOnce ys → KeysAre (λ k. P k → ⊥) xs → KeysAre P ys → JumpsOnce (xs ++ ys)
once-append P [] ys a b never all = b
once-append P (Put i ∷ xs) ys a b never all = once-append P xs ys a b never all
once-append P (Leave c k ∷ xs) ys a b never all = (away-append k xs ys a.0 (away_of P k ys all never.0), once-append P xs ys a.1 b never.1 all)
once-append P (Go k ∷ xs) ys a b never all = (away-append k xs ys a.0 (away_of P k ys all never.0), once-append P xs ys a.1 b never.1 all)

pub once-puts : (is : List Instr) → JumpsOnce (puts is)
once-puts [] = tt
once-puts (i ∷ is) = once-puts is

-- ---- where a jump stands

pub is_left : (k at p : ℕ) (xs ys : List Slot) → JumpIs k at p xs → JumpIs k at p (xs ++ ys)
is_left k at p [] ys j = absurd j
is_left k at p (Put i ∷ xs) ys j = is_left k at (p + size_of (Put i)) xs ys j
is_left k at p (Leave c e ∷ xs) ys (inl j) = inl j
is_left k at p (Leave c e ∷ xs) ys (inr j) = inr (is_left k at (p + 6) xs ys j)
is_left k at p (Go e ∷ xs) ys (inl j) = inl j
is_left k at p (Go e ∷ xs) ys (inr j) = inr (is_left k at (p + 5) xs ys j)

pub is_right : (k at p q : ℕ) (xs ys : List Slot) → q ≡ p + sizes_of xs → JumpIs k at q ys → JumpIs k at p (xs ++ ys)
is_right k at p q [] ys e j =
    let n : q ≡ p = omega (arith, e) in
    subst (λ (m : ℕ). JumpIs k at m ys) n j
is_right k at p q (Put i ∷ xs) ys e j = is_right k at (p + size_of (Put i)) q xs ys (omega (arith, e)) j
is_right k at p q (Leave c m ∷ xs) ys e j = inr (is_right k at (p + 6) q xs ys (omega (arith, e)) j)
is_right k at p q (Go m ∷ xs) ys e j = inr (is_right k at (p + 5) q xs ys (omega (arith, e)) j)

pub is-rekeyed : (n k at p : ℕ) (xs : List Slot) → JumpIs k at p xs → JumpIs (n + k) at p (map (rekeyed n) xs)
is-rekeyed n k at p [] j = absurd j
is-rekeyed n k at p (Put i ∷ xs) j = is-rekeyed n k at (p + size_of (Put i)) xs j
is-rekeyed n k at p (Leave c e ∷ xs) (inl j) = inl (ap (λ (m : ℕ). n + m) j.0, j.1)
is-rekeyed n k at p (Leave c e ∷ xs) (inr j) = inr (is-rekeyed n k at (p + 6) xs j)
is-rekeyed n k at p (Go e ∷ xs) (inl j) = inl (ap (λ (m : ℕ). n + m) j.0, j.1)
is-rekeyed n k at p (Go e ∷ xs) (inr j) = inr (is-rekeyed n k at (p + 5) xs j)

none_away : (k at p : ℕ) (xs : List Slot) → IsAway k xs → JumpIs k at p xs → ⊥
none_away k at p [] a j = j
none_away k at p (Put i ∷ xs) a j = none_away k at (p + size_of (Put i)) xs a j
none_away k at p (Leave c e ∷ xs) a (inl j) = a.0 j.0
none_away k at p (Leave c e ∷ xs) a (inr j) = none_away k at (p + 6) xs a.1 j
none_away k at p (Go e ∷ xs) a (inl j) = a.0 j.0
none_away k at p (Go e ∷ xs) a (inr j) = none_away k at (p + 5) xs a.1 j

pub is_one : (k a b p : ℕ) (xs : List Slot) → JumpsOnce xs → JumpIs k a p xs → JumpIs k b p xs → a ≡ b
is_one k a b p [] once i j = absurd i
is_one k a b p (Put x ∷ xs) once i j = is_one k a b (p + size_of (Put x)) xs once i j
is_one k a b p (Leave c e ∷ xs) once (inl i) (inl j) = i.1 ∙ sym j.1
is_one k a b p (Leave c e ∷ xs) once (inl i) (inr j) = absurd (none_away k b (p + 6) xs (subst (λ (m : ℕ). IsAway m xs) i.0 once.0) j)
is_one k a b p (Leave c e ∷ xs) once (inr i) (inl j) = absurd (none_away k a (p + 6) xs (subst (λ (m : ℕ). IsAway m xs) j.0 once.0) i)
is_one k a b p (Leave c e ∷ xs) once (inr i) (inr j) = is_one k a b (p + 6) xs once.1 i j
is_one k a b p (Go e ∷ xs) once (inl i) (inl j) = i.1 ∙ sym j.1
is_one k a b p (Go e ∷ xs) once (inl i) (inr j) = absurd (none_away k b (p + 5) xs (subst (λ (m : ℕ). IsAway m xs) i.0 once.0) j)
is_one k a b p (Go e ∷ xs) once (inr i) (inl j) = absurd (none_away k a (p + 5) xs (subst (λ (m : ℕ). IsAway m xs) j.0 once.0) i)
is_one k a b p (Go e ∷ xs) once (inr i) (inr j) = is_one k a b (p + 5) xs once.1 i j

-- the slots around the jump
pub record Around (k at p : ℕ) (xs : List Slot) : Type 0 where
  pub front : List Slot
  pub slot : Slot
  pub behind : List Slot
  pub split : xs ≡ front ++ slot ∷ behind
  pub jump : IsJumpOf slot k
  pub place : at ≡ p + (sizes_of front + disp_in slot)

further : (k at p : ℕ) (x : Slot) (xs : List Slot) → Around k at (p + size_of x) xs → Around k at p (x ∷ xs)
further k at p x xs a = record {
  front = x ∷ a.front;
  slot = a.slot;
  behind = a.behind;
  split = ap (λ (l : List Slot). x ∷ l) a.split;
  jump = a.jump;
  place = omega (arith, a.place);
}

pub around : (k at p : ℕ) (xs : List Slot) → JumpIs k at p xs → Around k at p xs
around k at p [] j = absurd j
around k at p (Put i ∷ xs) j = further k at p (Put i) xs (around k at (p + size_of (Put i)) xs j)
around k at p (Leave c e ∷ xs) (inl j) = record { front = []; slot = Leave c e; behind = xs; split = refl; jump = j.0; place = omega (arith, j.1) }
around k at p (Leave c e ∷ xs) (inr j) = further k at p (Leave c e) xs (around k at (p + 6) xs j)
around k at p (Go e ∷ xs) (inl j) = record { front = []; slot = Go e; behind = xs; split = refl; jump = j.0; place = omega (arith, j.1) }
around k at p (Go e ∷ xs) (inr j) = further k at p (Go e) xs (around k at (p + 5) xs j)

pub is_at : (k p : ℕ) (front behind : List Slot) (x : Slot) → IsJumpOf x k → JumpIs k (p + (sizes_of front + disp_in x)) p (front ++ x ∷ behind)
is_at k p [] behind (Put i) j = absurd j
is_at k p [] behind (Leave c e) j = inl (j, omega arith)
is_at k p [] behind (Go e) j = inl (j, omega arith)
is_at k p (Put i ∷ front) behind x j =
    let n : p + size_of (Put i) + (sizes_of front + disp_in x) ≡ p + (size_of (Put i) + sizes_of front + disp_in x) = omega arith in
    subst (λ (at : ℕ). JumpIs k at (p + size_of (Put i)) (front ++ x ∷ behind)) n (is_at k (p + size_of (Put i)) front behind x j)
is_at k p (Leave c e ∷ front) behind x j =
    let n : p + 6 + (sizes_of front + disp_in x) ≡ p + (6 + sizes_of front + disp_in x) = omega arith in
    inr (subst (λ (at : ℕ). JumpIs k at (p + 6) (front ++ x ∷ behind)) n (is_at k (p + 6) front behind x j))
is_at k p (Go e ∷ front) behind x j =
    let n : p + 5 + (sizes_of front + disp_in x) ≡ p + (5 + sizes_of front + disp_in x) = omega arith in
    inr (subst (λ (at : ℕ). JumpIs k at (p + 5) (front ++ x ∷ behind)) n (is_at k (p + 5) front behind x j))

-- ---- the place by which a row tells a jump

others : (k other p : ℕ) (xs : List Slot) → IsAway k xs → place_among k other (jumps_at p xs) ≡ other
others k other p [] a = refl
others k other p (Put i ∷ xs) a = others k other (p + size_of (Put i)) xs a
others k other p (Leave c e ∷ xs) a =
    let b : nat_eq e k ≡ false = ne_eqb e k a.0 in
    ap (λ (t : Bool). place_among k (cond t (p + 2) other) (jumps_at (p + 6) xs)) b ∙ others k other (p + 6) xs a.1
others k other p (Go e ∷ xs) a =
    let b : nat_eq e k ≡ false = ne_eqb e k a.0 in
    ap (λ (t : Bool). place_among k (cond t (p + 1) other) (jumps_at (p + 5) xs)) b ∙ others k other (p + 5) xs a.1

pub place_is : (k at other p : ℕ) (xs : List Slot) → JumpsOnce xs → JumpIs k at p xs → place_among k other (jumps_at p xs) ≡ at
place_is k at other p [] once j = absurd j
place_is k at other p (Put i ∷ xs) once j = place_is k at other (p + size_of (Put i)) xs once j
place_is k at other p (Leave c e ∷ xs) once (inl j) =
    let b : nat_eq e k ≡ true = eq-eqb e k j.0 in
    ap (λ (t : Bool). place_among k (cond t (p + 2) other) (jumps_at (p + 6) xs)) b ∙ others k (p + 2) (p + 6) xs (subst (λ (m : ℕ). IsAway m xs) j.0 once.0) ∙ sym j.1
place_is k at other p (Leave c e ∷ xs) once (inr j) = place_is k at (cond (nat_eq e k) (p + 2) other) (p + 6) xs once.1 j
place_is k at other p (Go e ∷ xs) once (inl j) =
    let b : nat_eq e k ≡ true = eq-eqb e k j.0 in
    ap (λ (t : Bool). place_among k (cond t (p + 1) other) (jumps_at (p + 5) xs)) b ∙ others k (p + 1) (p + 5) xs (subst (λ (m : ℕ). IsAway m xs) j.0 once.0) ∙ sym j.1
place_is k at other p (Go e ∷ xs) once (inr j) = place_is k at (cond (nat_eq e k) (p + 1) other) (p + 5) xs once.1 j
