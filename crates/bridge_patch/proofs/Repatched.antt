-- In the code of placed pieces, patches lead the copies of a guard elsewhere, and change no other jump.
use Rattle.std.proofs.Common.{◌≡◌, ◌≢◌, ℕ, suc, ◌+◌, Bool, true, false, cond, nat_eq, eqb-true, eq-eqb, List, [], ◌∷◌, ◌++◌, length, Some, None, refl, sym, ap, ◌∙◌, subst, arith, inl, inr}
use Rattle.std.specs.List.{AllByRecursion, Contains, flat_map}
use Rattle.std.proofs.lemmas.List.Elements.{Contains-append_left, Contains-append_right}
use Rattle.trace_ops.specs.declared.trace.Trace.{Trace}
use Rattle.trace_ops.specs.declared.piece.Half.{Half}
use Rattle.trace_ops.specs.declared.piece.PieceId.{PieceId}
use Rattle.trace_ops.specs.declared.piece.OptOp.{OptOp}
use Rattle.trace_ops.specs.declared.piece.OptOp.TheVariants as opt
use Rattle.trace_ops.specs.Pieces.{guards_of}
use Rattle.x64_encode.specs.declared.instr.Instr.{Instr}
use Rattle.x64_encode.specs.declared.instr.Instr.TheVariants.{Jcc, Jmp}
use Rattle.x64_encode.specs.Form.{spelling}
use Rattle.guard_exit.specs.declared.row.ExitRow.{ExitRow}
use Rattle.asm_select.specs.Slots.{Slot, Put, Leave, Go, size_of}
use Rattle.asm_select.specs.Chosen.{Where}
use Rattle.asm_select.specs.Laid.{has_stub}
use Rattle.code_layout.specs.Leading.{way, led, led_bytes, jumps_at, JumpIs, IsAway, JumpsOnce}
use Rattle.bridge_patch.specs.Pieces.{place_among, rows_of_op, rows_from}
use Rattle.bridge_patch.specs.Bridged.{is_from}
use Rattle.bridge_patch.specs.Attached.{guard_of, copies_among}

false_true : false ≡ true → ⊥
false_true e = cc

none_some : {X : Type 0} {x : X} → None ≡ Some x → ⊥
none_some e = cc

some_inj : {X : Type 0} {x y : X} → Some x ≡ Some y → x ≡ y
some_inj e = cc

-- ---- other targets

led_one : (f g : ℕ → ℕ) (p : ℕ) (x : Slot) → ((k : ℕ) → f k ≡ g k) → led f p x ≡ led g p x
led_one f g p (Put i) same = refl
led_one f g p (Leave c k) same = ap (λ (n : ℕ). Jcc c (way (p + 6) n)) (same k)
led_one f g p (Go k) same = ap (λ (n : ℕ). Jmp (way (p + 5) n)) (same k)

pub led_same : (f g : ℕ → ℕ) (p : ℕ) (xs : List Slot) → ((k : ℕ) → f k ≡ g k) → led_bytes f p xs ≡ led_bytes g p xs
led_same f g p [] same = refl
led_same f g p (x ∷ xs) same = ap (λ (i : Instr). spelling i ++ led_bytes f (p + size_of x) xs) (led_one f g p x same) ∙ ap (λ (l : List ℕ). spelling (led g p x) ++ l) (led_same f g (p + size_of x) xs same)

-- ---- the place of a displacement

differ : (j k a b : ℕ) (s : Bool) → nat_eq j k ≡ s → j ≢ k → cond s a b ≡ b
differ j k a b true e n = absurd (n (eqb-true j k e))
differ j k a b false e n = refl

away_among : (k other p : ℕ) (xs : List Slot) → IsAway k xs → place_among k other (jumps_at p xs) ≡ other
away_among k other p [] h = refl
away_among k other p (Put i ∷ xs) h = away_among k other (p + size_of (Put i)) xs h
away_among k other p (Leave c j ∷ xs) h = ap (λ (n : ℕ). place_among k n (jumps_at (p + 6) xs)) (differ j k (p + 2) other (nat_eq j k) refl h.0) ∙ away_among k other (p + 6) xs h.1
away_among k other p (Go j ∷ xs) h = ap (λ (n : ℕ). place_among k n (jumps_at (p + 5) xs)) (differ j k (p + 1) other (nat_eq j k) refl h.0) ∙ away_among k other (p + 5) xs h.1

here_among : (j k a b : ℕ) (s : Bool) → nat_eq j k ≡ s → j ≡ k → cond s a b ≡ a
here_among j k a b true e n = refl
here_among j k a b false e n = absurd (no (sym e ∙ self j k n))
  where
    self : (j k : ℕ) → j ≡ k → nat_eq j k ≡ true
    self j k e = eq-eqb j k e

    no : false ≡ true → ⊥
    no e = cc

away_if : (j k : ℕ) (xs : List Slot) → j ≡ k → IsAway j xs → IsAway k xs
away_if j k xs e h = subst (λ (n : ℕ). IsAway n xs) e h

pub jump_among : (k at other p : ℕ) (xs : List Slot) → JumpIs k at p xs → JumpsOnce xs → place_among k other (jumps_at p xs) ≡ at
jump_among k at other p [] h once = absurd h
jump_among k at other p (Put i ∷ xs) h once = jump_among k at other (p + size_of (Put i)) xs h once
jump_among k at other p (Leave c j ∷ xs) (inl h) once =
    ap (λ (n : ℕ). place_among k n (jumps_at (p + 6) xs)) (here_among j k (p + 2) other (nat_eq j k) refl h.0) ∙ away_among k (p + 2) (p + 6) xs (away_if j k xs h.0 once.0) ∙ sym h.1
jump_among k at other p (Leave c j ∷ xs) (inr h) once = jump_among k at (cond (nat_eq j k) (p + 2) other) (p + 6) xs h once.1
jump_among k at other p (Go j ∷ xs) (inl h) once =
    ap (λ (n : ℕ). place_among k n (jumps_at (p + 5) xs)) (here_among j k (p + 1) other (nat_eq j k) refl h.0) ∙ away_among k (p + 1) (p + 5) xs (away_if j k xs h.0 once.0) ∙ sym h.1
jump_among k at other p (Go j ∷ xs) (inr h) once = jump_among k at (cond (nat_eq j k) (p + 1) other) (p + 5) xs h once.1

-- ---- the copies of a guard in a piece

-- no operation is a copy
abbrev pub NoCopies : List Trace → ℕ → ℕ → List OptOp → Type 0
NoCopies traces b p ops = AllByRecursion (λ (op : OptOp). is_from traces b p (guard_of op) ≡ false) ops

-- one is
pub record OneCopy (traces : List Trace) (b p : ℕ) (ops : List OptOp) : Type 0 where
  pub done : List OptOp
  pub op : OptOp
  pub rest : List OptOp
  pub split : ops ≡ done ++ op ∷ rest
  pub before : NoCopies traces b p done
  pub copy : is_from traces b p (guard_of op) ≡ true
  pub behind : NoCopies traces b p rest

pub copies_append : (traces : List Trace) (b : ℕ) (xs ys : List ExitRow) → copies_among traces b (xs ++ ys) ≡ copies_among traces b xs ++ copies_among traces b ys
copies_append traces b [] ys = refl
copies_append traces b (x ∷ xs) ys = by (is_from traces b x.id.trace x.guard) (copies_append traces b xs ys)
  where
    by : (c : Bool) → copies_among traces b (xs ++ ys) ≡ copies_among traces b xs ++ copies_among traces b ys
        → cond c (x ∷ copies_among traces b (xs ++ ys)) (copies_among traces b (xs ++ ys)) ≡ cond c (x ∷ copies_among traces b xs) (copies_among traces b xs) ++ copies_among traces b ys
    by true e = ap (λ (l : List ExitRow). x ∷ l) e
    by false e = e

if_false : (c : Bool) (x y : List ExitRow) → c ≡ false → cond c x y ≡ y
if_false c x y e = ap (λ (z : Bool). cond z x y) e

if_true : (c : Bool) (x y : List ExitRow) → c ≡ true → cond c x y ≡ x
if_true c x y e = ap (λ (z : Bool). cond z x y) e

no_row : (traces : List Trace) (b : ℕ) (at : Where) (id : PieceId) (exit place : ℕ) (op : OptOp) → is_from traces b id.trace (guard_of op) ≡ false → copies_among traces b (rows_of_op at id exit place op) ≡ []
no_row traces b at id exit place (opt.Plain operation r args d) e = refl
no_row traces b at id exit place (opt.Guard operation args n snap) e = if_false _ _ [] e
no_row traces b at id exit place (opt.Exit n snap) e = if_false _ _ [] e
no_row traces b at id exit place (opt.Jump to args) e = refl
no_row traces b at id exit place (opt.Finish value) e = refl

pub no_rows : (traces : List Trace) (b : ℕ) (at : Where) (id : PieceId) (place : ℕ → ℕ) (exit k : ℕ) (ops : List OptOp) → NoCopies traces b id.trace ops → copies_among traces b (rows_from at id place exit k ops) ≡ []
no_rows traces b at id place exit k [] h = refl
no_rows traces b at id place exit k (op ∷ ops) h =
    copies_append traces b (rows_of_op at id exit (place k) op) (rows_from at id place (exit + cond (has_stub op) 1 0) (k + 1) ops)
    ∙ ap (λ (l : List ExitRow). l ++ copies_among traces b (rows_from at id place (exit + cond (has_stub op) 1 0) (k + 1) ops)) (no_row traces b at id exit (place k) op h.0)
    ∙ no_rows traces b at id place (exit + cond (has_stub op) 1 0) (k + 1) ops h.1

-- the row of the one copy
pub record OneRow (traces : List Trace) (b : ℕ) (half : Half) (at : ℕ) (rows : List ExitRow) : Type 0 where
  pub row : ExitRow
  pub are : copies_among traces b rows ≡ row ∷ []
  pub at_is : row.at ≡ at
  pub half_is : row.id.half ≡ half

copy_row : (traces : List Trace) (b : ℕ) (at : Where) (id : PieceId) (exit place : ℕ) (op : OptOp) → is_from traces b id.trace (guard_of op) ≡ true → OneRow traces b id.half place (rows_of_op at id exit place op)
copy_row traces b at id exit place (opt.Plain operation r args d) e = absurd (false_true e)
copy_row traces b at id exit place (opt.Guard operation args n snap) e = record { row = _; are = if_true _ _ [] e; at_is = refl; half_is = refl }
copy_row traces b at id exit place (opt.Exit n snap) e = record { row = _; are = if_true _ _ [] e; at_is = refl; half_is = refl }
copy_row traces b at id exit place (opt.Jump to args) e = absurd (false_true e)
copy_row traces b at id exit place (opt.Finish value) e = absurd (false_true e)

pub one_row : (traces : List Trace) (b : ℕ) (at : Where) (id : PieceId) (place : ℕ → ℕ) (exit k : ℕ) (done rest : List OptOp) (op : OptOp)
    → NoCopies traces b id.trace done → is_from traces b id.trace (guard_of op) ≡ true → NoCopies traces b id.trace rest
    → OneRow traces b id.half (place (k + length done)) (rows_from at id place exit k (done ++ op ∷ rest))
one_row traces b at id place exit k [] rest op before copy behind =
    let r = copy_row traces b at id exit (place k) op copy in
    let more = rows_from at id place (exit + cond (has_stub op) 1 0) (k + 1) rest in
    let n : k ≡ k + 0 = omega arith in record {
      row = r.row;
      are = copies_append traces b (rows_of_op at id exit (place k) op) more ∙ ap (λ (l : List ExitRow). l ++ copies_among traces b more) r.are ∙ ap (λ (l : List ExitRow). r.row ∷ l) (no_rows traces b at id place (exit + cond (has_stub op) 1 0) (k + 1) rest behind);
      at_is = r.at_is ∙ ap place n;
      half_is = r.half_is;
    }
one_row traces b at id place exit k (d ∷ done) rest op before copy behind =
    let next = exit + cond (has_stub d) 1 0 in
    let r = one_row traces b at id place next (k + 1) done rest op before.1 copy behind in
    let more = rows_from at id place next (k + 1) (done ++ op ∷ rest) in
    let n : k + 1 + length done ≡ k + suc (length done) = omega arith in record {
      row = r.row;
      are = copies_append traces b (rows_of_op at id exit (place k) d) more ∙ ap (λ (l : List ExitRow). l ++ copies_among traces b more) (no_row traces b at id exit (place k) d before.0) ∙ r.are;
      at_is = r.at_is ∙ ap place n;
      half_is = r.half_is;
    }

-- ---- a guard is a piece's once

pub guard_among : (ops done rest : List OptOp) (op : OptOp) (n : ℕ) → ops ≡ done ++ op ∷ rest → guard_of op ≡ Some n → Contains (flat_map guards_of ops) n
guard_among ops done rest op n e g = subst (λ (l : List OptOp). Contains (flat_map guards_of l) n) (sym e) (at done)
  where
    here : (op : OptOp) → guard_of op ≡ Some n → Contains (guards_of op) n
    here (opt.Plain operation r args d) g = absurd (none_some g)
    here (opt.Guard operation args m snap) g = (0, omega arith, some_inj g)
    here (opt.Exit m snap) g = (0, omega arith, some_inj g)
    here (opt.Jump to args) g = absurd (none_some g)
    here (opt.Finish value) g = absurd (none_some g)

    at : (done : List OptOp) → Contains (flat_map guards_of (done ++ op ∷ rest)) n
    at [] = Contains-append_left (guards_of op) (flat_map guards_of rest) n (here op g)
    at (d ∷ ds) = Contains-append_right (guards_of d) (flat_map guards_of (ds ++ op ∷ rest)) n (at ds)
