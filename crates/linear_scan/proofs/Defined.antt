-- Operations that use what is defined before them.
use Rattle.std.proofs.Common.{◌≡◌, ℕ, ◌+◌, ◌<◌, List, [], ◌∷◌, ◌++◌, length, ap, sym, subst, ◌∙◌, arith, length-append}
use Rattle.std.specs.List.{flat_map}
use Rattle.std.proofs.lemmas.List.{flat_map_more}
use Rattle.trace_ops.specs.declared.trace.BoxId.{BoxId}
use Rattle.trace_ops.specs.declared.trace.Arg.{Arg}
use Rattle.trace_ops.specs.declared.trace.Arg.TheVariants.{Of}
use Rattle.trace_ops.specs.declared.piece.Val.{Val}
use Rattle.trace_ops.specs.declared.piece.Val.TheVariants.{Known}
use Rattle.trace_ops.specs.declared.piece.OptOp.{OptOp}
use Rattle.trace_ops.specs.declared.table.ShapeOf.{ShapeOf}
use Rattle.trace_ops.specs.declared.piece.OptOp.TheVariants.{Exit}
use Rattle.trace_ops.specs.Parts.{boxes_of_arg, boxes_of_val}
use Rattle.trace_ops.specs.Pieces.{used_by, results_of}
use Rattle.linear_scan.specs.Living.{HaveNumbersBelow, UsesDefined}

pub below_join : (n : ℕ) (xs ys : List BoxId) → HaveNumbersBelow n xs → HaveNumbersBelow n ys → HaveNumbersBelow n (xs ++ ys)
below_join n [] ys h k = k
below_join n (x ∷ xs) ys h k = (h.0, below_join n xs ys h.1 k)

-- one more operation
pub defined_push : (n : ℕ) (ops : List OptOp) (op : OptOp) → UsesDefined n ops → HaveNumbersBelow (n + length (flat_map results_of ops)) (used_by op) → UsesDefined n (ops ++ op ∷ [])
defined_push n [] op d h = (subst (λ m. HaveNumbersBelow m (used_by op)) (omega arith) h, tt)
defined_push n (o ∷ ops) op d h =
    (d.0, defined_push (n + length (results_of o)) ops op d.1 (subst (λ m. HaveNumbersBelow m (used_by op)) (omega (arith, length-append (results_of o) (flat_map results_of ops))) h))

-- and its result
pub results_push : (ops : List OptOp) (op : OptOp) → length (flat_map results_of (ops ++ op ∷ [])) ≡ length (flat_map results_of ops) + length (results_of op)
results_push ops op = ap length (sym (flat_map_more results_of [] ops op)) ∙ length-append (flat_map results_of ops) (results_of op)

-- one more box in a list of values
pub values_push : (n : ℕ) (vals : List Val) (b : BoxId) → HaveNumbersBelow n (flat_map boxes_of_val vals) → b.number < n → HaveNumbersBelow n (flat_map boxes_of_val (vals ++ Known (Of b) ∷ []))
values_push n vals b h lt = subst (HaveNumbersBelow n) (flat_map_more boxes_of_val [] vals (Known (Of b))) (below_join n (flat_map boxes_of_val vals) (b ∷ []) h (lt, tt))

-- an operation over boxes before it is added: what it uses, and how many boxes there are then
pub defined_more : (n number : ℕ) (ops : List OptOp) (op : OptOp) (new : List OptOp) → UsesDefined n ops → n + length (flat_map results_of ops) ≡ number → new ≡ ops ++ op ∷ [] → HaveNumbersBelow number (used_by op) → UsesDefined n new
defined_more n number ops op new d count same below = subst (UsesDefined n) (sym same) (defined_push n ops op d (subst (λ m. HaveNumbersBelow m (used_by op)) (sym count) below))

pub results_more : (n number : ℕ) (ops : List OptOp) (op : OptOp) (new : List OptOp) → n + length (flat_map results_of ops) ≡ number → new ≡ ops ++ op ∷ [] → n + length (flat_map results_of new) ≡ number + length (results_of op)
results_more n number ops op new count same = omega (arith, ap (λ xs. length (flat_map results_of xs)) same, results_push ops op, count)

-- an operation over two boxes
pub two_below : (n : ℕ) (args : List Arg) (a b : BoxId) → args ≡ Of a ∷ Of b ∷ [] → a.number < n → b.number < n → HaveNumbersBelow n (flat_map boxes_of_arg args ++ [])
two_below n args a b e la lb = subst (λ xs. HaveNumbersBelow n (flat_map boxes_of_arg xs ++ [])) (sym e) (la, (lb, tt))

-- an exit whose snapshot has one virtual object with these parts
pub exit_below : (n guard : ℕ) (of : ShapeOf) (vals : List Val) → HaveNumbersBelow n (flat_map boxes_of_val vals)
    → HaveNumbersBelow n (used_by (Exit guard (record { frames = []; shapes = record { of = of; parts = vals } ∷ []; pending = [] })))
exit_below n guard of vals h = let none : HaveNumbersBelow n [] = tt in
    below_join n ((flat_map boxes_of_val vals ++ []) ++ []) [] (below_join n (flat_map boxes_of_val vals ++ []) [] (below_join n (flat_map boxes_of_val vals) [] h none) none) none
