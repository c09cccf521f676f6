-- What stands between a guard and the first operation of a bridge's piece: the places of the label, and the stores.
use Rattle.std.proofs.Common.{◌≡◌, ℕ, zero, suc, ◌+◌, ◌-◌, ◌*◌, ◌<◌, ◌≤◌, ◌^◌, ◌&&◌, not, Bool, true, false, cond, max, List, [], ◌∷◌, ◌++◌, length, drop, Some, None, refl, sym, ap, ◌∙◌, subst, arith, nat_lt, nat_eq, lt-ltb, ltb-true, ltb-false, eqb-true, ℤ, pos, get_or}
use Rattle.std.specs.Prelude.{slice_get, IsTrue, ◌-ℤ◌}
use Rattle.std.specs.List.{AllByRecursion, AllZip, Contains}
use Rattle.std.proofs.lemmas.Int.{ints}
use Rattle.trace_ops.specs.declared.piece.OptOp.{OptOp}
use Rattle.trace_ops.specs.declared.piece.Piece.{Piece}
use Rattle.target_base.specs.declared.reg.Reg.{Reg}
use Rattle.target_base.specs.declared.place.Place.{Place}
use Rattle.target_base.specs.declared.place.Place.TheVariants.{In, Word}
use Rattle.x64_encode.specs.declared.instr.Instr.{Instr}
use Rattle.x64_encode.specs.Fields.{disp, fits_bits, is_zero}
use Rattle.x64_encode.specs.Form.{spelling}
use Rattle.linear_scan.specs.Registers.{value_registers, IsValueRegister, is_kept, register}
use Rattle.linear_scan.specs.Living.{is_calling, end_of, LivesAcross}
use Rattle.linear_scan.specs.Placing.{words_used, AreDistinct, LabelPlaces, IsLabelPlace}
use Rattle.bridge_patch.specs.Attached.{store, entry_step, entry_code, IsMoved}
use Rattle.bridge_patch.specs.Bridging.{first_call, label_place, labels_from, label_behind}
use Rattle.code_layout.specs.Emitting.{total_size, AllHaveRows}

-- ---- frame words

pub words_least : (ps : List Place) → 16 ≤ words_used ps
words_least [] = omega arith
words_least (In r ∷ ps) = words_least ps
words_least (Word k ∷ ps) = omega (arith, words_least ps)

pub words_end : (i : ℕ) (ps : List Place) → length ps ≤ i → words_used (drop i ps) ≡ 16
words_end zero [] le = refl
words_end (suc i) [] le = refl
words_end zero (p ∷ ps) le = absurd (no (length ps) le)
  where
    no : (n : ℕ) → suc n ≤ 0 → ⊥
    no n h = omega (arith, h)
words_end (suc i) (p ∷ ps) le = words_end i ps (omega (arith, le))

some_inj : {X : Type 0} {x y : X} → Some x ≡ Some y → x ≡ y
some_inj e = cc

none_some : {X : Type 0} {x : X} → None ≡ Some x → ⊥
none_some e = cc

word_inj : {j k : ℕ} → Word j ≡ Word k → j ≡ k
word_inj e = cc

in_word : {r : Reg} {k : ℕ} → In r ≡ Word k → ⊥
in_word e = cc

pub word_below : (ps : List Place) (i k : ℕ) → slice_get ps i ≡ Some (Word k) → k < words_used ps
word_below [] i k e = absurd (none_some e)
word_below (In r ∷ ps) zero k e = absurd (in_word (some_inj e))
word_below (Word j ∷ ps) zero k e = let same : j ≡ k = word_inj (some_inj e) in omega (arith, same)
word_below (In r ∷ ps) (suc i) k e = word_below ps i k e
word_below (Word j ∷ ps) (suc i) k e = omega (arith, word_below ps i k e)

pub found_at : {X : Type 0} (xs : List X) (i : ℕ) (d : X) → i < length xs → slice_get xs i ≡ Some (get_or xs i d)
found_at [] i d lt = absurd (no i lt)
  where
    no : (i : ℕ) → i < 0 → ⊥
    no i h = omega (arith, h)
found_at (x ∷ xs) zero d lt = refl
found_at (x ∷ xs) (suc i) d lt = found_at xs i d (omega (arith, lt))

-- ---- the places of a label

pub labels_long : (ends : ℕ → ℕ) (call base b : ℕ) (ps : List Place) → length (labels_from ends call base b ps) ≡ length ps
labels_long ends call base b [] = refl
labels_long ends call base b (p ∷ ps) = ap suc (labels_long ends call base (b + 1) ps)

pub labels_same : (f g : ℕ → ℕ) (call base b m : ℕ) (ps : List Place) → ((i : ℕ) → i < m → f i ≡ g i) → b + length ps ≤ m → labels_from f call base b ps ≡ labels_from g call base b ps
labels_same f g call base b m [] same le = refl
labels_same f g call base b m (p ∷ ps) same le =
    ap (λ (e : ℕ). label_place base (nat_lt call e) p ∷ labels_from f call base (b + 1) ps) (same b (omega (arith, le)))
    ∙ ap (λ (l : List Place). label_place base (nat_lt call (g b)) p ∷ l) (labels_same f g call base (b + 1) m ps same (omega (arith, le)))

-- a label place and the guard's place from which it is
pub record From (ends : ℕ → ℕ) (call base b : ℕ) (ps : List Place) (i : ℕ) (q : Place) : Type 0 where
  pub p : Place
  pub here : slice_get ps i ≡ Some p
  pub so : q ≡ label_place base (nat_lt call (ends (b + i))) p

pub label_from : (ends : ℕ → ℕ) (call base b : ℕ) (ps : List Place) (i : ℕ) (q : Place) → slice_get (labels_from ends call base b ps) i ≡ Some q → From ends call base b ps i q
label_from ends call base b [] i q e = absurd (none_some e)
label_from ends call base b (p ∷ ps) zero q e =
    let n : b ≡ b + 0 = omega arith in
    record { p = p; here = refl; so = sym (some_inj e) ∙ ap (λ (k : ℕ). label_place base (nat_lt call (ends k)) p) n }
label_from ends call base b (p ∷ ps) (suc i) q e =
    let r = label_from ends call base (b + 1) ps i q e in
    let n : b + 1 + i ≡ b + suc i = omega arith in
    record { p = r.p; here = r.here; so = r.so ∙ ap (λ (k : ℕ). label_place base (nat_lt call (ends k)) r.p) n }

-- the guard's place, by the label's
abbrev back : ℕ → Place → Place
back base (In r) = In r
back base (Word k) = cond (nat_lt k base) (Word k) (In (record { 0 = k - base }))

back_word : (base k : ℕ) → k < base → back base (Word k) ≡ Word k
back_word base k lt = ap (λ (b : Bool). cond b (Word k) (In (record { 0 = k - base }))) (lt-ltb k base lt)

back_far : (base n : ℕ) (b : Bool) → nat_lt (base + n) base ≡ b → cond b (Word (base + n)) (In (record { 0 = base + n - base })) ≡ In (record { 0 = n })
back_far base n true e = absurd (omega (arith, ltb-true (base + n) base e))
back_far base n false e = let m : base + n - base ≡ n = omega arith in ap (λ (k : ℕ). In (record { 0 = k })) m

back_in : (base : ℕ) (b : Bool) (r : Reg) → back base (cond b (Word (base + r.0)) (In r)) ≡ In r
back_in base true r = back_far base r.0 (nat_lt (base + r.0) base) refl
back_in base false r = refl

back_of : (base : ℕ) (crosses : Bool) (p : Place) → ((k : ℕ) → p ≡ Word k → k < base) → back base (label_place base crosses p) ≡ p
back_of base crosses (In r) low = back_in base (crosses && not (is_kept r.0)) r
back_of base crosses (Word k) low = back_word base k (low k refl)

pub labels_distinct : (ends : ℕ → ℕ) (call : ℕ) (guards : List Place) → AreDistinct guards → AreDistinct (labels_from ends call (words_used guards) 0 guards)
labels_distinct ends call guards apart i j p q lt ei ej same =
    let base = words_used guards in
    let a = label_from ends call base 0 guards i p ei in
    let b = label_from ends call base 0 guards j q ej in
    let lowa : (k : ℕ) → a.p ≡ Word k → k < base = λ k e. word_below guards i k (a.here ∙ ap Some e) in
    let lowb : (k : ℕ) → b.p ≡ Word k → k < base = λ k e. word_below guards j k (b.here ∙ ap Some e) in
    let one : back base p ≡ a.p = ap (back base) a.so ∙ back_of base (nat_lt call (ends (0 + i))) a.p lowa in
    let two : back base q ≡ b.p = ap (back base) b.so ∙ back_of base (nat_lt call (ends (0 + j))) b.p lowb in
    apart i j a.p b.p lt a.here b.here (sym one ∙ ap (back base) same ∙ two)

-- ---- registers

-- a call is no earlier than the first
false_true : false ≡ true → ⊥
false_true e = cc

here_first : (b : Bool) (n : ℕ) → IsTrue b → cond b 0 (1 + n) ≤ 0
here_first true n h = omega arith
here_first false n h = absurd (false_true h)

later_first : (b : Bool) (n k : ℕ) → n ≤ k → cond b 0 (1 + n) ≤ suc k
later_first true n k le = omega arith
later_first false n k le = omega (arith, le)

pub first_least : (ops : List OptOp) (k : ℕ) (op : OptOp) → slice_get ops k ≡ Some op → IsTrue (is_calling op) → first_call ops ≤ k
first_least [] k op e t = absurd (none_some e)
first_least (x ∷ xs) zero op e t = here_first (is_calling x) (first_call xs) (subst (λ (y : OptOp). IsTrue (is_calling y)) (sym (some_inj e)) t)
first_least (x ∷ xs) (suc k) op e t = later_first (is_calling x) (first_call xs) k (first_least xs k op e t)

-- the registers of the places are for values
abbrev pub AreForValues : ℕ → List Place → Type 0
AreForValues registers guards = (i r : ℕ) → slice_get guards i ≡ Some (register r) → IsValueRegister registers r

abbrev pub AreLow : List Place → Type 0
AreLow guards = (i w : ℕ) → slice_get guards i ≡ Some (Word w) → 16 ≤ w

lawful_in : (registers : ℕ) (piece : Piece) (i base : ℕ) (r : Reg) (b : Bool) → 16 ≤ base → base < 2 ^ 30 → IsValueRegister registers r.0 → r.0 < 16 → (LivesAcross piece i → b ≡ true)
    → (k : Bool) → is_kept r.0 ≡ k → IsLabelPlace registers piece i (cond (b && not k) (Word (base + r.0)) (In r))
lawful_in registers piece i base r true le lt v few across true e = (v, λ h. e)
lawful_in registers piece i base r true le lt v few across false e = (omega (arith, le), omega (arith, lt, few))
lawful_in registers piece i base r false le lt v few across k e = (v, λ h. absurd (false_true (across h)))

all_below : (n : ℕ) (xs : List ℕ) (i r : ℕ) → AllByRecursion (λ (x : ℕ). x < n) xs → slice_get xs i ≡ Some r → r < n
all_below n [] i r h e = absurd (none_some e)
all_below n (x ∷ xs) zero r h e = subst (λ (y : ℕ). y < n) (some_inj e) h.0
all_below n (x ∷ xs) (suc i) r h e = all_below n xs i r h.1 e

pub below_sixteen : (registers r : ℕ) → IsValueRegister registers r → r < 16
below_sixteen registers r (i, lt, e) =
    all_below 16 value_registers i r (omega arith, (omega arith, (omega arith, (omega arith, (omega arith, (omega arith, (omega arith, (omega arith, (omega arith, (omega arith, (omega arith, (omega arith, tt)))))))))))) e

lawful_at : (registers : ℕ) (piece : Piece) (guards : List Place) (i : ℕ) (p : Place) → AreForValues registers guards → AreLow guards → words_used guards < 2 ^ 30
    → slice_get guards i ≡ Some p → IsLabelPlace registers piece i (label_place (words_used guards) (nat_lt (first_call piece.ops) (end_of piece i)) p)
lawful_at registers piece guards i (In r) v low lt e =
    let value = v i r.0 e in
    lawful_in registers piece i (words_used guards) r (nat_lt (first_call piece.ops) (end_of piece i)) (words_least guards) lt value (below_sixteen registers r.0 value)
    (λ h. lt-ltb (first_call piece.ops) (end_of piece i) (crossing h)) (is_kept r.0) refl
  where
    crossing : LivesAcross piece i → first_call piece.ops < end_of piece i
    crossing (k, op, here, calls, one, two) = omega (arith, first_least piece.ops k op here calls, two.1)
lawful_at registers piece guards i (Word w) v low lt e = (low i w e, omega (arith, word_below guards i w e, lt))

pub labels_lawful : (registers : ℕ) (piece : Piece) (guards : List Place) → AreForValues registers guards → AreLow guards → words_used guards < 2 ^ 30 → LabelPlaces registers piece (label_behind piece guards)
labels_lawful registers piece guards v low lt i p e =
    let a = label_from (end_of piece) (first_call piece.ops) (words_used guards) 0 guards i p e in
    let n : 0 + i ≡ i = omega arith in
    let so : p ≡ label_place (words_used guards) (nat_lt (first_call piece.ops) (end_of piece i)) a.p = a.so ∙ ap (λ (k : ℕ). label_place (words_used guards) (nat_lt (first_call piece.ops) (end_of piece k)) a.p) n in
    subst (IsLabelPlace registers piece i) (sym so) (lawful_at registers piece guards i a.p v low lt a.here)

-- ---- words of the label

word_few : (base n : ℕ) (b : Bool) (r : Reg) → r.0 < 16 → words_used (cond b (Word (base + r.0)) (In r) ∷ []) ≤ 16 + base
word_few base n true r lt = omega (arith, lt)
word_few base n false r lt = omega arith

words_cons : (p : Place) (ps : List Place) → words_used (p ∷ ps) ≡ max (words_used (p ∷ [])) (words_used ps)
words_cons (In r) ps = omega (arith, words_least ps)
words_cons (Word k) ps = omega (arith, words_least ps)

place_few : (base : ℕ) (crosses : Bool) (p : Place) → ((r : Reg) → p ≡ In r → r.0 < 16) → words_used (p ∷ []) ≤ base → 16 ≤ base → words_used (label_place base crosses p ∷ []) ≤ 16 + base
place_few base crosses (In r) lt le low = word_few base 0 (crosses && not (is_kept r.0)) r (lt r refl)
place_few base crosses (Word k) lt le low = omega (arith, le)

words_of_labels : (ends : ℕ → ℕ) (call base b : ℕ) (ps : List Place) → ((i : ℕ) (r : Reg) → slice_get ps i ≡ Some (In r) → r.0 < 16) → words_used ps ≤ base → words_used (labels_from ends call base b ps) ≤ 16 + base
words_of_labels ends call base b [] lt le = omega (arith, le)
words_of_labels ends call base b (p ∷ ps) lt le =
    let q = label_place base (nat_lt call (ends b)) p in
    let rest = labels_from ends call base (b + 1) ps in
    let one = words_cons p ps in
    let two = words_cons q rest in
    let first : words_used (q ∷ []) ≤ 16 + base = place_few base (nat_lt call (ends b)) p (λ r e. lt 0 r (ap Some e)) (omega (arith, one, le)) (omega (arith, words_least (p ∷ ps), le)) in
    omega (arith, two, first, words_of_labels ends call base (b + 1) ps (λ i r e. lt (suc i) r e) (omega (arith, one, le)))

pub labels_few : (registers : ℕ) (piece : Piece) (guards : List Place) → AreForValues registers guards → words_used (label_behind piece guards) ≤ 16 + words_used guards
labels_few registers piece guards v =
    words_of_labels (end_of piece) (first_call piece.ops) (words_used guards) 0 guards (λ i r e. below_sixteen registers r.0 (v i r.0 e)) (omega arith)

-- ---- where boxes are moved

moved_in : (guards : List Place) (base : ℕ) (b : Bool) (r : Reg) → 16 ≤ base + r.0 → ¬ Contains guards (Word (base + r.0)) → IsMoved guards (In r) (cond b (Word (base + r.0)) (In r))
moved_in guards base true r le away = (le, away)
moved_in guards base false r le away = refl

moved_one : (guards : List Place) (base : ℕ) (crosses : Bool) (p : Place) → 16 ≤ base → ((n : ℕ) → ¬ Contains guards (Word (base + n))) → IsMoved guards p (label_place base crosses p)
moved_one guards base crosses (In r) le away = moved_in guards base (crosses && not (is_kept r.0)) r (omega (arith, le)) (away r.0)
moved_one guards base crosses (Word k) le away = refl

moved_from : (guards : List Place) (ends : ℕ → ℕ) (call base b : ℕ) (ps : List Place) → 16 ≤ base → ((n : ℕ) → ¬ Contains guards (Word (base + n))) → AllZip (IsMoved guards) ps (labels_from ends call base b ps)
moved_from guards ends call base b [] le away = tt
moved_from guards ends call base b (p ∷ ps) le away = (moved_one guards base (nat_lt call (ends b)) p le away, moved_from guards ends call base (b + 1) ps le away)

no_far : (guards : List Place) (n : ℕ) → ¬ Contains guards (Word (words_used guards + n))
no_far guards n (i, lt, e) = omega (arith, word_below guards i (words_used guards + n) (found_at guards i (Word (words_used guards + n)) lt ∙ ap Some e))

pub labels_moved : (piece : Piece) (guards : List Place) → AllZip (IsMoved guards) guards (label_behind piece guards)
labels_moved piece guards = moved_from guards guards_end (first_call piece.ops) (words_used guards) 0 guards (words_least guards) (no_far guards)
  where
    guards_end : ℕ → ℕ
    guards_end = end_of piece

-- ---- the stores

disp_few : (z f : Bool) (d : ℤ) → length (disp (cond (z && false) 0 (cond f 1 2)) d) ≤ 4
disp_few true true d = omega arith
disp_few true false d = omega arith
disp_few false true d = omega arith
disp_few false false d = omega arith

store_short : (r : Reg) (k : ℕ) → length (spelling (store r k)) ≤ 7
store_short r k =
    let d = pos (8 * k) -ℤ pos 128 in
    omega (arith, disp_few (is_zero d) (fits_bits 7 d) d)

rows_step : (p q : Place) (rest : List Instr) → ((r : Reg) → p ≡ In r → r.0 < 16) → words_used (q ∷ []) ≤ 2 ^ 27 → AllHaveRows rest → AllHaveRows (entry_step p q ++ rest)
rows_step (In r) (In s) rest few le h = h
rows_step (In r) (Word k) rest few le h = (((omega arith, omega (arith, ints, le)), few r refl), h)
rows_step (Word j) (In s) rest few le h = h
rows_step (Word j) (Word k) rest few le h = h

pub entry_rows : (from to : List Place) → ((i : ℕ) (r : Reg) → slice_get from i ≡ Some (In r) → r.0 < 16) → words_used to ≤ 2 ^ 27 → AllHaveRows (entry_code from to)
entry_rows [] to few le = tt
entry_rows (p ∷ from) [] few le = tt
entry_rows (p ∷ from) (q ∷ to) few le = rows_step p q (entry_code from to) (λ r e. few 0 r (ap Some e)) (omega (arith, words_cons q to, le)) (entry_rows from to (λ i r e. few (suc i) r e) (omega (arith, words_cons q to, le)))

-- ---- at most 64 bytes

true_false : true ≡ false → ⊥
true_false e = cc

-- how many places are this register
abbrev held : ℕ → Place → ℕ
held n (In r) = cond (nat_eq r.0 n) 1 0
held n (Word k) = 0

abbrev count : ℕ → List Place → ℕ
count n [] = 0
count n (p ∷ ps) = held n p + count n ps

apart_tail : (p : Place) (ps : List Place) → AreDistinct (p ∷ ps) → AreDistinct ps
apart_tail p ps h i j a b lt ei ej = h (suc i) (suc j) a b (omega (arith, lt)) ei ej

abbrev IsOne : ℕ → Type 0
IsOne n = n ≡ 1

held_by : (n : ℕ) (r : Reg) (b : Bool) → nat_eq r.0 n ≡ b → IsOne (cond b 1 0) → In r ≡ register n
held_by n r true s e = ap (λ (k : ℕ). In (record { 0 = k })) (eqb-true r.0 n s)
held_by n r false s e = absurd (omega (arith, e))

held_is : (n : ℕ) (p : Place) → held n p ≡ 1 → p ≡ register n
held_is n (In r) e = held_by n r (nat_eq r.0 n) refl e
held_is n (Word k) e = absurd (omega (arith, e))

none_held : (k : ℕ) → k ≤ 1 → nat_eq k 1 ≡ false → k ≡ 0
none_held zero le e = refl
none_held (suc zero) le e = absurd (true_false e)
none_held (suc (suc k)) le e = absurd (omega (arith, le))

one_few : (b : Bool) → cond b 1 0 ≤ 1
one_few true = omega arith
one_few false = omega arith

held_few : (n : ℕ) (p : Place) → held n p ≤ 1
held_few n (In r) = one_few (nat_eq r.0 n)
held_few n (Word k) = omega arith

-- where a register is one of the places, it is at some place
found_if : (n : ℕ) (p : Place) (ps : List Place) (b : Bool) → nat_eq (held n p) 1 ≡ b → (held n p ≡ 0 → (i : ℕ) × (slice_get ps i ≡ Some (register n))) → (i : ℕ) × (slice_get (p ∷ ps) i ≡ Some (register n))
found_if n p ps true e later = (0, ap Some (held_is n p (eqb-true (held n p) 1 e)))
found_if n p ps false e later =
    let r = later (none_held (held n p) (held_few n p) e) in
    (suc r.0, r.1)

counted : (n : ℕ) (ps : List Place) → 1 ≤ count n ps → (i : ℕ) × (slice_get ps i ≡ Some (register n))
counted n [] le = absurd (omega (arith, le))
counted n (p ∷ ps) le = found_if n p ps (nat_eq (held n p) 1) refl (λ e. counted n ps (omega (arith, le, e)))

once_if : (n : ℕ) (p : Place) (ps : List Place) (b c : Bool) → nat_eq (held n p) 1 ≡ b → nat_lt 0 (count n ps) ≡ c → AreDistinct (p ∷ ps) → count n ps ≤ 1 → held n p + count n ps ≤ 1
once_if n p ps true true e f h le =
    let r = counted n ps (ltb-true 0 (count n ps) f) in
    let one : held n p ≡ 1 = eqb-true (held n p) 1 e in
    absurd (h 0 (suc r.0) p (register n) (omega arith) refl r.1 (held_is n p one))
once_if n p ps true false e f h le = omega (arith, ltb-false 0 (count n ps) f, held_few n p)
once_if n p ps false c e f h le = omega (arith, none_held (held n p) (held_few n p) e, le)

count_once : (n : ℕ) (ps : List Place) → AreDistinct ps → count n ps ≤ 1
count_once n [] h = omega arith
count_once n (p ∷ ps) h = once_if n p ps (nat_eq (held n p) 1) (nat_lt 0 (count n ps)) refl refl h (count_once n ps (apart_tail p ps h))

-- the eight registers that calls lose
abbrev lost : Place → ℕ
lost p = held 0 p + held 1 p + held 2 p + held 6 p + held 7 p + held 8 p + held 9 p + held 10 p

abbrev Counts : ℕ → Type 0
Counts r = is_kept r ≡ false → 1 ≤ lost (register r)

all_at : (P : ℕ → Type 0) (xs : List ℕ) (i r : ℕ) → AllByRecursion P xs → slice_get xs i ≡ Some r → P r
all_at P [] i r h e = absurd (none_some e)
all_at P (x ∷ xs) zero r h e = subst P (some_inj e) h.0
all_at P (x ∷ xs) (suc i) r h e = all_at P xs i r h.1 e

lost_counts : (registers r : ℕ) → IsValueRegister registers r → Counts r
lost_counts registers r (i, lt, e) =
    all_at Counts value_registers i r
    ((λ k. omega arith), ((λ k. omega arith), ((λ k. omega arith), ((λ k. absurd (true_false k)), ((λ k. omega arith), ((λ k. omega arith), ((λ k. omega arith), ((λ k. omega arith), ((λ k. omega arith), ((λ k. absurd (true_false k)), ((λ k. absurd (true_false k)), ((λ k. absurd (true_false k)), tt)))))))))))) e

sizes_append : (a b : List Instr) → total_size (a ++ b) ≡ total_size a + total_size b
sizes_append [] b = omega arith
sizes_append (i ∷ a) b = omega (arith, sizes_append a b)

step_in : (base : ℕ) (r : Reg) (c k : Bool) → is_kept r.0 ≡ k → Counts r.0 → total_size (entry_step (In r) (cond (c && not k) (Word (base + r.0)) (In r))) ≤ 7 * lost (In r)
step_in base r true true e h = omega arith
step_in base r true false e h = omega (arith, store_short r (base + r.0), h e)
step_in base r false k e h = omega arith

step_size : (base : ℕ) (c : Bool) (p : Place) → ((r : Reg) → p ≡ In r → Counts r.0) → total_size (entry_step p (label_place base c p)) ≤ 7 * lost p
step_size base c (In r) h = step_in base r c (is_kept r.0) refl (h r refl)
step_size base c (Word k) h = omega arith

abbrev all_lost : List Place → ℕ
all_lost [] = 0
all_lost (p ∷ ps) = lost p + all_lost ps

lost_total : (ps : List Place) → all_lost ps ≡ count 0 ps + count 1 ps + count 2 ps + count 6 ps + count 7 ps + count 8 ps + count 9 ps + count 10 ps
lost_total [] = refl
lost_total (p ∷ ps) = omega (arith, lost_total ps)

entry_size : (ends : ℕ → ℕ) (call base b : ℕ) (ps : List Place) → ((i : ℕ) (r : Reg) → slice_get ps i ≡ Some (In r) → Counts r.0) → total_size (entry_code ps (labels_from ends call base b ps)) ≤ 7 * all_lost ps
entry_size ends call base b [] h = omega arith
entry_size ends call base b (p ∷ ps) h =
    let q = label_place base (nat_lt call (ends b)) p in
    let rest = labels_from ends call base (b + 1) ps in
    omega (arith, sizes_append (entry_step p q) (entry_code ps rest), step_size base (nat_lt call (ends b)) p (λ r e. h 0 r (ap Some e)), entry_size ends call base (b + 1) ps (λ i r e. h (suc i) r e))

pub entry_short : (registers : ℕ) (piece : Piece) (guards : List Place) → AreForValues registers guards → AreDistinct guards → total_size (entry_code guards (label_behind piece guards)) ≤ 64
entry_short registers piece guards v apart =
    omega (
      arith,
      entry_size (end_of piece) (first_call piece.ops) (words_used guards) 0 guards (λ i r e. lost_counts registers r.0 (v i r.0 e)),
      lost_total guards,
      count_once 0 guards apart,
      count_once 1 guards apart,
      count_once 2 guards apart,
      count_once 6 guards apart,
      count_once 7 guards apart,
      count_once 8 guards apart,
      count_once 9 guards apart,
      count_once 10 guards apart,
    )
