-- The rows of exits.
use Rattle.std.proofs.Common.{◌≡◌, ◌⊎◌, inl, inr, ℕ, zero, suc, ◌+◌, ◌<◌, ◌≤◌, cond, List, [], ◌∷◌, ◌++◌, length, take, append_assoc, refl, sym, ap, ◌∙◌, subst, arith}
use Rattle.std.specs.Prelude.{slice_index_or}
use Rattle.std.specs.List.{Contains}
use Rattle.lists.specs.Has.{Has}
use Rattle.trace_ops.specs.declared.piece.PieceId.{PieceId}
use Rattle.trace_ops.specs.declared.piece.OptOp.{OptOp}
use Rattle.trace_ops.specs.declared.piece.OptOp.TheVariants as opt
use Rattle.guard_exit.specs.declared.row.ExitRow.{ExitRow}
use Rattle.asm_select.specs.Chosen.{Where}
use Rattle.asm_select.specs.Laid.{has_stub}
use Rattle.bridge_patch.specs.Pieces.{Placed, exits_in, exit_of, end_of, rows_of_op, rows_from, rows_of, all_rows, displacement_of, AreLaid}

-- ---- what a list has

pub has_of : {X : Type 0} (xs : List X) (x : X) → Contains xs x → Has xs x
has_of xs x c = at xs x c.0 c.1 c.2
  where
    at : {X : Type 0} (xs : List X) (x : X) (k : ℕ) → k < length xs → slice_index_or xs k x ≡ x → Has xs x
    at [] x k lt e = absurd (none k lt)
      where
        none : (k : ℕ) → k < 0 → ⊥
        none k lt = omega (arith, lt)
    at (y ∷ ys) x zero lt e = inl e
    at (y ∷ ys) x (suc k) lt e = inr (at ys x k (omega (arith, lt)) e)

pub contains_of : {X : Type 0} (xs : List X) (x : X) → Has xs x → Contains xs x
contains_of [] x h = absurd h
contains_of (y ∷ ys) x (inl e) = (0, omega arith, e)
contains_of (y ∷ ys) x (inr h) =
    let c = contains_of ys x h in
    (suc c.0, omega (arith, c.1), c.2)

pub has_left : {X : Type 0} (xs ys : List X) (x : X) → Has xs x → Has (xs ++ ys) x
has_left [] ys x h = absurd h
has_left (z ∷ xs) ys x (inl e) = inl e
has_left (z ∷ xs) ys x (inr h) = inr (has_left xs ys x h)

pub has_right : {X : Type 0} (xs ys : List X) (x : X) → Has ys x → Has (xs ++ ys) x
has_right [] ys x h = h
has_right (z ∷ xs) ys x h = inr (has_right xs ys x h)

pub has_cases : {X : Type 0} (xs ys : List X) (x : X) → Has (xs ++ ys) x → Has xs x ⊎ Has ys x
has_cases [] ys x h = inr h
has_cases (z ∷ xs) ys x (inl e) = inl (inl e)
has_cases (z ∷ xs) ys x (inr h) = elim (has_cases xs ys x h) [ inl w ↦ inl (inr w) | inr w ↦ inr w ]

-- ---- the row of an operation

pub row_here : (at : Where) (id : PieceId) (place : ℕ → ℕ) (exit k : ℕ) (done rest : List OptOp) (op : OptOp) (row : ExitRow) → Has (rows_of_op at id (exit + exits_in done) (place (k + length done)) op) row → Has (rows_from at id place exit k (done ++ op ∷ rest)) row
row_here at id place exit k [] rest op row h =
    let n : exit + 0 ≡ exit = omega arith in
    let m : k + 0 ≡ k = omega arith in
    let here : Has (rows_of_op at id exit (place k) op) row = subst (λ (i : ℕ). Has (rows_of_op at id i (place k) op) row) n (subst (λ (j : ℕ). Has (rows_of_op at id (exit + 0) (place j) op) row) m h) in
    has_left (rows_of_op at id exit (place k) op) (rows_from at id place (exit + cond (has_stub op) 1 0) (k + 1) rest) row here
row_here at id place exit k (x ∷ done) rest op row h =
    let next = exit + cond (has_stub x) 1 0 in
    let n : exit + (cond (has_stub x) 1 0 + exits_in done) ≡ next + exits_in done = omega arith in
    let m : k + suc (length done) ≡ k + 1 + length done = omega arith in
    let here = subst (λ (i : ℕ). Has (rows_of_op at id i (place (k + 1 + length done)) op) row) n (subst (λ (j : ℕ). Has (rows_of_op at id (exit + (cond (has_stub x) 1 0 + exits_in done)) (place j) op) row) m h) in
    has_right (rows_of_op at id exit (place k) x) (rows_from at id place next (k + 1) (done ++ op ∷ rest)) row (row_here at id place next (k + 1) done rest op row here)

-- the operation of a row
pub record OpOf (at : Where) (id : PieceId) (place : ℕ → ℕ) (exit k : ℕ) (ops : List OptOp) (row : ExitRow) : Type 0 where
  pub done : List OptOp
  pub op : OptOp
  pub rest : List OptOp
  pub split : ops ≡ done ++ op ∷ rest
  pub has : Has (rows_of_op at id (exit + exits_in done) (place (k + length done)) op) row

op_of_either : (at : Where) (id : PieceId) (place : ℕ → ℕ) (exit k : ℕ) (op : OptOp) (ops : List OptOp) (row : ExitRow)
    → (Has (rows_from at id place (exit + cond (has_stub op) 1 0) (k + 1) ops) row → OpOf at id place (exit + cond (has_stub op) 1 0) (k + 1) ops row)
    → Has (rows_of_op at id exit (place k) op) row ⊎ Has (rows_from at id place (exit + cond (has_stub op) 1 0) (k + 1) ops) row → OpOf at id place exit k (op ∷ ops) row
op_of_either at id place exit k op ops row more (inl w) =
    let n : exit ≡ exit + 0 = omega arith in
    let m : k ≡ k + 0 = omega arith in
    record { done = []; op = op; rest = ops; split = refl; has = subst (λ (i : ℕ). Has (rows_of_op at id i (place (k + 0)) op) row) n (subst (λ (j : ℕ). Has (rows_of_op at id exit (place j) op) row) m w) }
op_of_either at id place exit k op ops row more (inr w) =
    let next = exit + cond (has_stub op) 1 0 in
    let z = more w in
    let n : next + exits_in z.done ≡ exit + (cond (has_stub op) 1 0 + exits_in z.done) = omega arith in
    let m : k + 1 + length z.done ≡ k + suc (length z.done) = omega arith in
    record {
      done = op ∷ z.done;
      op = z.op;
      rest = z.rest;
      split = ap (λ (l : List OptOp). op ∷ l) z.split;
      has = subst (λ (i : ℕ). Has (rows_of_op at id i (place (k + suc (length z.done))) z.op) row) n (subst (λ (j : ℕ). Has (rows_of_op at id (next + exits_in z.done) (place j) z.op) row) m z.has);
    }

pub op_of : (at : Where) (id : PieceId) (place : ℕ → ℕ) (exit k : ℕ) (ops : List OptOp) (row : ExitRow) → Has (rows_from at id place exit k ops) row → OpOf at id place exit k ops row
op_of at id place exit k [] row h = absurd h
op_of at id place exit k (op ∷ ops) row h =
    let next = exit + cond (has_stub op) 1 0 in
    op_of_either at id place exit k op ops row (op_of at id place next (k + 1) ops row) (has_cases (rows_of_op at id exit (place k) op) (rows_from at id place next (k + 1) ops) row h)

-- the piece of a row
pub record PieceOf (pls : List Placed) (row : ExitRow) : Type 0 where
  pub before : List Placed
  pub pl : Placed
  pub after : List Placed
  pub here : pls ≡ before ++ pl ∷ after
  pub has : Has (rows_of pl) row

either_piece : (pl : Placed) (pls : List Placed) (row : ExitRow) → (Has (all_rows pls) row → PieceOf pls row) → Has (rows_of pl) row ⊎ Has (all_rows pls) row → PieceOf (pl ∷ pls) row
either_piece pl pls row more (inl w) = record { before = []; pl = pl; after = pls; here = refl; has = w }
either_piece pl pls row more (inr w) =
    let z = more w in
    record { before = pl ∷ z.before; pl = z.pl; after = z.after; here = ap (λ (l : List Placed). pl ∷ l) z.here; has = z.has }

pub piece_of_row : (pls : List Placed) (row : ExitRow) → Has (all_rows pls) row → PieceOf pls row
piece_of_row [] row h = absurd h
piece_of_row (pl ∷ pls) row h = either_piece pl pls row (piece_of_row pls row) (has_cases (rows_of pl) (all_rows pls) row h)

pub row_of_piece : (before after : List Placed) (pl : Placed) (row : ExitRow) → Has (rows_of pl) row → Has (all_rows (before ++ pl ∷ after)) row
row_of_piece [] after pl row h = has_left (rows_of pl) (all_rows after) row h
row_of_piece (x ∷ before) after pl row h = has_right (rows_of x) (all_rows (before ++ pl ∷ after)) row (row_of_piece before after pl row h)

-- ---- numbers rise

abbrev pub Rising : ℕ → List ExitRow → Type 0
Rising n [] = Unit {0}
Rising n (row ∷ rows) = (n ≤ row.exit) × Rising (row.exit + 1) rows

rising_less : (m n : ℕ) (rows : List ExitRow) → m ≤ n → Rising n rows → Rising m rows
rising_less m n [] le h = tt
rising_less m n (row ∷ rows) le h = (omega (arith, le, h.0), h.1)

op_rises : (at : Where) (id : PieceId) (exit place : ℕ) (op : OptOp) (more : List ExitRow) → Rising (exit + cond (has_stub op) 1 0) more → Rising exit (rows_of_op at id exit place op ++ more)
op_rises at id exit place (opt.Plain operation r args d) more h = rising_less exit (exit + 0) more (omega arith) h
op_rises at id exit place (opt.Guard operation args n snap) more h = (omega arith, h)
op_rises at id exit place (opt.Exit n snap) more h = (omega arith, h)
op_rises at id exit place (opt.Jump to args) more h = rising_less exit (exit + 0) more (omega arith) h
op_rises at id exit place (opt.Finish value) more h = (omega arith, h)

rows_rise : (at : Where) (id : PieceId) (place : ℕ → ℕ) (exit k : ℕ) (ops : List OptOp) (more : List ExitRow) → Rising (exit + exits_in ops) more → Rising exit (rows_from at id place exit k ops ++ more)
rows_rise at id place exit k [] more h = rising_less exit (exit + 0) more (omega arith) h
rows_rise at id place exit k (op ∷ ops) more h =
    let next = exit + cond (has_stub op) 1 0 in
    let n : exit + (cond (has_stub op) 1 0 + exits_in ops) ≡ next + exits_in ops = omega arith in
    let rest = rows_rise at id place next (k + 1) ops more (subst (λ (m : ℕ). Rising m more) n h) in
    subst (Rising exit) (sym (append_assoc (rows_of_op at id exit (place k) op) (rows_from at id place next (k + 1) ops) more)) (op_rises at id exit (place k) op (rows_from at id place next (k + 1) ops ++ more) rest)

pub all_rise : (at exit end last : ℕ) (pls : List Placed) → AreLaid at exit pls end last → Rising exit (all_rows pls)
all_rise at exit end last [] h = tt
all_rise at exit end last (pl ∷ pls) h =
    let more = all_rise (end_of pl) (exit + exits_in pl.piece.ops) end last pls h.2 in
    let n : exit + exits_in pl.piece.ops ≡ pl.exit + exits_in pl.piece.ops = omega (arith, h.1) in
    rising_less exit pl.exit (rows_of pl ++ all_rows pls) (omega (arith, h.1)) (rows_rise pl.setting.at pl.piece.id (displacement_of pl) pl.exit 0 pl.piece.ops (all_rows pls) (subst (λ (m : ℕ). Rising m (all_rows pls)) n more))

rising_most : (n : ℕ) (rows : List ExitRow) (a : ExitRow) → Rising n rows → Has rows a → n ≤ a.exit
rising_most n [] a h x = absurd x
rising_most n (row ∷ rows) a h (inl e) = omega (arith, h.0, ap (λ (r : ExitRow). r.exit) e)
rising_most n (row ∷ rows) a h (inr x) = omega (arith, h.0, rising_most (row.exit + 1) rows a h.1 x)

pub one_row : (n : ℕ) (rows : List ExitRow) (a b : ExitRow) → Rising n rows → Has rows a → Has rows b → a.exit ≡ b.exit → a ≡ b
one_row n [] a b h x y e = absurd x
one_row n (row ∷ rows) a b h (inl x) (inl y) e = sym x ∙ y
one_row n (row ∷ rows) a b h (inl x) (inr y) e = absurd (omega (arith, rising_most (row.exit + 1) rows b h.1 y, e, ap (λ (r : ExitRow). r.exit) x))
one_row n (row ∷ rows) a b h (inr x) (inl y) e = absurd (omega (arith, rising_most (row.exit + 1) rows a h.1 x, e, ap (λ (r : ExitRow). r.exit) y))
one_row n (row ∷ rows) a b h (inr x) (inr y) e = one_row (row.exit + 1) rows a b h.1 x y e

-- ---- how many exits are in front of an operation

pub take_front : {X : Type 0} (done rest : List X) → take (length done) (done ++ rest) ≡ done
take_front [] [] = refl
take_front [] (y ∷ rest) = refl
take_front (x ∷ done) rest = ap (λ l. x ∷ l) (take_front done rest)

pub exit_at : (pl : Placed) (done rest : List OptOp) (op : OptOp) → pl.piece.ops ≡ done ++ op ∷ rest → exit_of pl (length done) ≡ pl.exit + exits_in done
exit_at pl done rest op e = ap (λ (l : List OptOp). pl.exit + exits_in (take (length done) l)) e ∙ ap (λ (l : List OptOp). pl.exit + exits_in l) (take_front done (op ∷ rest))
