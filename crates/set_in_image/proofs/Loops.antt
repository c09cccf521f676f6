-- The loops of a set.
use Rattle.std.proofs.Common.{◌≡◌, ◌≢◌, ℕ, suc, ◌+◌, true, List, [], ◌∷◌, ◌++◌, Option, Some, None, slice_get, refl, sym, ap, ◌∙◌, subst, arith}
use Rattle.std.specs.Option.{IsSomeAnd}
use Rattle.std.specs.List.{All, AllByRecursion, AllZip}
use Rattle.std.proofs.lemmas.List.Elements.{All-from_recursion}
use Rattle.lists.proofs.Eaches.{each_append}
use Rattle.trace_ops.specs.declared.code.OpCode.{OpCode}
use Rattle.trace_ops.specs.declared.code.OpCode.TheVariants as code
use Rattle.trace_ops.specs.declared.trace.Origin.{Origin}
use Rattle.trace_ops.specs.declared.trace.Origin.TheVariants as origin
use Rattle.trace_ops.specs.declared.trace.Trace.{Trace}
use Rattle.trace_ops.specs.declared.trace.TraceSet.{TraceSet}
use Rattle.trace_ops.specs.declared.piece.OptOp.{OptOp}
use Rattle.trace_ops.specs.declared.piece.OptOp.TheVariants as opt
use Rattle.trace_ops.specs.declared.piece.OptTrace.{OptTrace}
use Rattle.trace_ops.specs.declared.piece.Piece.{Piece}
use Rattle.opt_meaning.specs.Meeting.{Made, pieces_of}
use Rattle.code_layout.specs.Chosen.{can_fail}
use Rattle.bridge_patch.specs.Image.{ArePiecesOf, AreOfLoops, KeepsItsGuard, loop_if as image_loop_if, loops_from as image_loops_from}
use Rattle.opt_pass.specs.Contract.{KeepsNoException}
use Rattle.loop_peel.specs.Peeling.{IsLoop}
use Rattle.opt_set.specs.Optimised.{loop_if, loops_from, AreOfLoop, IsTraceAt, IsOwnPiece, OptimisedAreSound}
use Rattle.set_in_image.specs.Fitting.{LoopsCanCompile}
use Rattle.set_in_image.proofs.Things.{append_none}

-- Both lists of loops are the same

one_same : (o : Origin) (k : ℕ) → loop_if o k ≡ image_loop_if o k
one_same origin.Loop k = refl
one_same (origin.Bridge parent guard) k = refl

loops_same : (k : ℕ) (ts : List Trace) → loops_from k ts ≡ image_loops_from k ts
loops_same k [] = refl
loops_same k (t ∷ ts) = ap (λ l. l ++ loops_from (k + 1) ts) (one_same t.origin k) ∙ ap (λ l. image_loop_if t.origin k ++ l) (loops_same (k + 1) ts)

-- Each of them is a loop

abbrev IsLoopIn : (ℕ → Option Trace) → ℕ → Type 0
IsLoopIn f p = IsSomeAnd (f p) (λ (t : Trace). IsLoop t.origin)

one_loop : (f : ℕ → Option Trace) (k : ℕ) (t : Trace) → f k ≡ Some t → (o : Origin) → t.origin ≡ o → AllByRecursion (IsLoopIn f) (loop_if o k)
one_loop f k t at origin.Loop is = (subst (λ q. IsSomeAnd q (λ (x : Trace). IsLoop x.origin)) (sym at) is, tt)
one_loop f k t at (origin.Bridge parent guard) is = tt

are_loops : (f : ℕ → Option Trace) (k : ℕ) (ts : List Trace) → ((j : ℕ) (t : Trace) → slice_get ts j ≡ Some t → f (k + j) ≡ Some t) → AllByRecursion (IsLoopIn f) (loops_from k ts)
are_loops f k [] there = tt
are_loops f k (t ∷ ts) there =
    let none : k ≡ k + 0 = omega arith in
    each_append (IsLoopIn f) (loop_if t.origin k) (loops_from (k + 1) ts) (one_loop f k t (ap f none ∙ there 0 t refl) t.origin refl)
    (are_loops f (k + 1) ts (λ j x e. let next : k + 1 + j ≡ k + suc j = omega arith in ap f next ∙ there (suc j) x e))

-- So their entries are those of loops

pieces_so : (k : ℕ) (ps : List Piece) → AreOfLoop k ps → ArePiecesOf k ps
pieces_so k [] h = absurd h
pieces_so k (p ∷ []) h = h
pieces_so k (p ∷ q ∷ []) h = h
pieces_so k (p ∷ q ∷ r ∷ ps) h = absurd h

loop_so : (set : TraceSet) (k : ℕ) (o : OptTrace) (q : Option Trace) → slice_get set.traces k ≡ q → IsSomeAnd q (λ (t : Trace). IsLoop t.origin) → IsTraceAt set k o → ArePiecesOf k o.pieces
loop_so set k o None at loop h = absurd loop
loop_so set k o (Some t) at loop h = pieces_so k o.pieces (h.1 t at loop)

loops_so : (set : TraceSet) (ks : List ℕ) (os : List OptTrace) → AllByRecursion (IsLoopIn (slice_get set.traces)) ks → AllZip (IsTraceAt set) ks os → AreOfLoops ks os
loops_so set [] [] loops z = tt
loops_so set [] (o ∷ os) loops z = absurd z
loops_so set (k ∷ ks) [] loops z = absurd z
loops_so set (k ∷ ks) (o ∷ os) loops z = (loop_so set k o (slice_get set.traces k) refl loops.0 z.0, loops_so set ks os loops.1 z.1)

-- No guard on an exception is kept

fails_of : (operation : OpCode) → operation ≢ code.GuardNoException → can_fail operation ≡ true
fails_of code.IntAdd h = refl
fails_of code.IntSub h = refl
fails_of code.IntMul h = refl
fails_of code.IntAnd h = refl
fails_of code.IntOr h = refl
fails_of code.IntXor h = refl
fails_of code.IntLshift h = refl
fails_of code.IntRshift h = refl
fails_of code.UintRshift h = refl
fails_of code.IntLt h = refl
fails_of code.IntLe h = refl
fails_of code.IntEq h = refl
fails_of code.IntNe h = refl
fails_of code.IntGt h = refl
fails_of code.IntGe h = refl
fails_of code.UintLt h = refl
fails_of code.UintLe h = refl
fails_of code.UintGt h = refl
fails_of code.UintGe h = refl
fails_of code.IntIsZero h = refl
fails_of code.IntIsTrue h = refl
fails_of code.IntNeg h = refl
fails_of code.IntInvert h = refl
fails_of code.IntForceGeZero h = refl
fails_of code.SameAsI h = refl
fails_of code.SameAsR h = refl
fails_of code.PtrEq h = refl
fails_of code.PtrNe h = refl
fails_of code.IntAddOvf h = refl
fails_of code.IntSubOvf h = refl
fails_of code.IntMulOvf h = refl
fails_of code.GetfieldGcI h = refl
fails_of code.GetfieldGcR h = refl
fails_of code.SetfieldGc h = refl
fails_of code.GetarrayitemGcI h = refl
fails_of code.GetarrayitemGcR h = refl
fails_of code.SetarrayitemGc h = refl
fails_of code.ArraylenGc h = refl
fails_of code.New h = refl
fails_of code.NewWithVtable h = refl
fails_of code.NewArrayClear h = refl
fails_of code.CallI h = refl
fails_of code.CallR h = refl
fails_of code.CallN h = refl
fails_of code.GuardTrue h = refl
fails_of code.GuardFalse h = refl
fails_of code.GuardValue h = refl
fails_of code.GuardNonnull h = refl
fails_of code.GuardIsnull h = refl
fails_of code.GuardClass h = refl
fails_of code.GuardNonnullClass h = refl
fails_of code.GuardNoOverflow h = refl
fails_of code.GuardOverflow h = refl
fails_of code.GuardNoException h = absurd (h refl)
fails_of code.Jump h = refl
fails_of code.Finish h = refl

guard_so : (op : OptOp) → KeepsNoException op → KeepsItsGuard op
guard_so (opt.Plain operation result args d) h = tt
guard_so (opt.Guard operation args n snap) h = fails_of operation h
guard_so (opt.Exit n snap) h = tt
guard_so (opt.Jump to args) h = tt
guard_so (opt.Finish value) h = tt

guards_so : (ops : List OptOp) → AllByRecursion KeepsNoException ops → AllByRecursion KeepsItsGuard ops
guards_so [] h = tt
guards_so (op ∷ ops) h = (guard_so op h.0, guards_so ops h.1)

pub all_guards : (set : TraceSet) (ms : List Made) → AllByRecursion (IsOwnPiece set) ms → AllByRecursion (λ (p : Piece). All KeepsItsGuard p.ops) (pieces_of ms)
all_guards set [] own = tt
all_guards set (m ∷ ms) own = (All-from_recursion KeepsItsGuard m.piece.ops (guards_so m.piece.ops own.0.exceptions), all_guards set ms own.1)

-- The whole

pub can_compile : OptimisedAreSound → LoopsCanCompile
can_compile sound set o registers i none range light low high words = record {
  range = range;
  light = light;
  within = (low, high);
  each =
      subst (λ (ks : List ℕ). AreOfLoops ks o.traces) (loops_same 0 set.traces)
      (loops_so set (loops_from 0 set.traces) o.traces
      (are_loops (slice_get set.traces) 0 set.traces (λ j t e. let same : 0 + j ≡ j = omega arith in ap (slice_get set.traces) same ∙ e))
      (subst (λ (ks : List ℕ). AllZip (IsTraceAt set) ks o.traces) (ap (λ l. loops_from 0 set.traces ++ l) none ∙ append_none (loops_from 0 set.traces)) i.traces));
  sound = sound set o i;
  words = words;
  guards = subst (AllByRecursion (λ (p : Piece). All KeepsItsGuard p.ops)) (sym i.pieces) (all_guards set i.made i.holds.each);
}
