-- How large a piece is, by what the pass counts, and what the recorded operations weigh.
use Rattle.std.proofs.Common.{◌≡◌, ℕ, zero, suc, ◌+◌, ◌≤◌, List, [], ◌∷◌, ◌++◌, Option, Some, None, length, slice_get, sum_by, refl, ap, arith}
use Rattle.std.specs.List.{AllByRecursion}
use Rattle.std.proofs.lemmas.List.Sums.{sum_by-append, sum_by-cons}
use Rattle.lists.proofs.Options.{some_same, none_some}
use Rattle.trace_ops.specs.declared.trace.Op.{Op}
use Rattle.trace_ops.specs.declared.table.SizeRow.{SizeRow}
use Rattle.trace_ops.specs.declared.piece.OptOp.{OptOp}
use Rattle.trace_ops.specs.declared.piece.OptOp.TheVariants as opt
use Rattle.trace_ops.specs.Pieces.{args_of, jump_args}
use Rattle.trace_ops.specs.Weights.{operation_weight}
use Rattle.opt_pass.specs.Contract.{GoesOn, own_size}

-- Pieces

abbrev pub whole_size : OptOp → ℕ
whole_size op = 1 + length (args_of op)

goes_size : (x : OptOp) → GoesOn x → whole_size x ≤ own_size x
goes_size (opt.Plain c r a d) h = omega arith
goes_size (opt.Guard c a n s) h = omega arith
goes_size (opt.Exit n s) h = absurd h
goes_size (opt.Jump q a) h = absurd h
goes_size (opt.Finish v) h = absurd h

last_size : (x : OptOp) → whole_size x ≤ own_size x + jump_args x
last_size (opt.Plain c r a d) = omega arith
last_size (opt.Guard c a n s) = omega arith
last_size (opt.Exit n s) = omega arith
last_size (opt.Jump q a) = omega arith
last_size (opt.Finish v) = omega arith

front_size : (xs : List OptOp) → AllByRecursion GoesOn xs → sum_by whole_size xs ≤ sum_by own_size xs
front_size [] h = omega arith
front_size (x ∷ xs) h = omega (arith, goes_size x h.0, front_size xs h.1, sum_by-cons whole_size x xs, sum_by-cons own_size x xs)

-- a piece is as large as the pass counts, and has a jump's arguments besides
pub size_split : (front : List OptOp) (last : OptOp) → AllByRecursion GoesOn front → sum_by whole_size (front ++ last ∷ []) ≤ sum_by own_size (front ++ last ∷ []) + jump_args last
size_split front last goes =
    let c : sum_by whole_size (front ++ last ∷ []) ≡ sum_by whole_size front + sum_by whole_size (last ∷ []) = sum_by-append whole_size front (last ∷ []) in
    let d : sum_by own_size (front ++ last ∷ []) ≡ sum_by own_size front + sum_by own_size (last ∷ []) = sum_by-append own_size front (last ∷ []) in
    let e : sum_by whole_size (last ∷ []) ≡ 0 + whole_size last = refl in
    let f : sum_by own_size (last ∷ []) ≡ 0 + own_size last = refl in
    omega (arith, front_size front goes, last_size last, c, d, e, f)

-- Sums

pub term_in_sum : {X : Type 0} (f : X → ℕ) (xs : List X) (k : ℕ) (x : X) → slice_get xs k ≡ Some x → f x ≤ sum_by f xs
term_in_sum f [] k x e = absurd (none_some e)
term_in_sum f (y ∷ ys) zero x e = let n : f y ≡ f x = ap f (some_same e) in omega (arith, n, sum_by-cons f y ys)
term_in_sum f (y ∷ ys) (suc k) x e = omega (arith, term_in_sum f ys k x e, sum_by-cons f y ys)

-- an operation weighs more than it has arguments
pub op_in_weight : (sizes : List SizeRow) (ops : List Op) (k : ℕ) (op : Op) → slice_get ops k ≡ Some op → 1 + length op.args ≤ sum_by (operation_weight sizes) ops
op_in_weight sizes ops k op e = omega (arith, term_in_sum (operation_weight sizes) ops k op e)

-- each operation weighs something
pub few_ops : (sizes : List SizeRow) (ops : List Op) → length ops ≤ sum_by (operation_weight sizes) ops
few_ops sizes [] = omega arith
few_ops sizes (op ∷ ops) = omega (arith, few_ops sizes ops, sum_by-cons (operation_weight sizes) op ops)
