-- What operations of pieces leave of a world: calls come behind those that there are.
use Rattle.std.proofs.Common.{ℕ, zero, suc, Bool, true, false, Option, Some, None, List, [], ◌∷◌, ◌≡◌, refl, sym, arith}
use Rattle.std.proofs.lemmas.List.{append-nil}
use Rattle.trace_ops.specs.declared.trace.BoxId.{BoxId}
use Rattle.trace_ops.specs.declared.trace.TraceSet.{TraceSet}
use Rattle.trace_ops.specs.declared.table.Table.{Table}
use Rattle.trace_ops.specs.declared.piece.Snapshot.{Snapshot}
use Rattle.trace_ops.specs.declared.piece.PieceId.{PieceId}
use Rattle.trace_ops.specs.declared.piece.OptOp.{OptOp}
use Rattle.trace_ops.specs.declared.piece.OptOp.TheVariants as opt
use Rattle.trace_ops.specs.declared.piece.Piece.{Piece}
use Rattle.trace_ops.specs.Pieces.{finished}
use Rattle.trace_meaning.specs.declared.value.Value.{Value}
use Rattle.trace_meaning.specs.World.{World}
use Rattle.trace_meaning.specs.Cuts.{Cuts}
use Rattle.trace_meaning.specs.Passing.{passes}
use Rattle.trace_meaning.specs.Performing.{Done, Gave, Bad, Waited, Misfitted, perform}
use Rattle.trace_meaning.specs.Legs.{Leave, Fails, Jumps, Finishes, Waits, Misfits, Wrong, Turn, On, Off, In, Over, At, run, leg}
use Rattle.trace_meaning.specs.Growing.{IsLonger, extents, Grown, GrowsTo, OperationsGrow, GrowsIn, waiting_left, world_now, leg_world, StepsGrow, OnlyAdds, RunsGrow}
use Rattle.trace_meaning.specs.Observed.{world_left}
use Rattle.opt_meaning.specs.Step.{Opt, opt_values, resume_args, opt_result, opt_plain, opt_leave, opt_guard, opt_perform, opt_test, opt_step}
use Rattle.opt_meaning.specs.Pieces.{PiecesNow, ops_at, begin_at, pieces, seen_piece}
use Rattle.opt_meaning.specs.Observed.{pieces_world}

same : (w : World) → Grown w w 0
same w = record { calls = []; log = sym (append-nil w.log); used = []; answers = refl; answered = refl; added = []; objects = sym (append-nil (extents w)) }

abbrev TurnGrows : World → Turn Opt → Type 0
TurnGrows w (On s) = Grown w s.world 0
TurnGrows w (Off l) = Grown w (world_left l) (waiting_left l)

result_grows : (to : Option BoxId) (s : Opt) (x : Option Value) (w u : World) → Grown w u 0 → TurnGrows w (opt_result to s x u)
result_grows (Some b) s (Some x) w u h = h
result_grows (Some b) s None w u h = h
result_grows None s x w u h = h

plain_grows : (to : Option BoxId) (s : Opt) (d : Done) → GrowsTo s.world d → TurnGrows s.world (opt_plain to s d)
plain_grows to s (Gave x w) h = result_grows to s x s.world w h
plain_grows to s Bad h = same s.world
plain_grows to s (Waited w) h = h
plain_grows to s (Misfitted w) h = h

fail_grows : (n : ℕ) (s : Opt) (vs : Option (List Value)) → TurnGrows s.world (opt_leave (Fails n) s vs)
fail_grows n s None = same s.world
fail_grows n s (Some vs) = same s.world

jump_grows : (s : Opt) (vs : Option (List Value)) → TurnGrows s.world (opt_leave Jumps s vs)
jump_grows s None = same s.world
jump_grows s (Some vs) = same s.world

finish_grows : (s : Opt) (vs : Option (List Value)) → TurnGrows s.world (opt_leave Finishes s vs)
finish_grows s None = same s.world
finish_grows s (Some vs) = same s.world

guard_grows : (n : ℕ) (snap : Snapshot) (s : Opt) (x : Option Bool) → TurnGrows s.world (opt_guard n snap s x)
guard_grows n snap s None = same s.world
guard_grows n snap s (Some true) = same s.world
guard_grows n snap s (Some false) = fail_grows n s (opt_values s (resume_args snap))

module _ (law : OperationsGrow) where
  step_grows : (t : Table) (op : OptOp) (s : Opt) → TurnGrows s.world (opt_step t op s)
  step_grows t (opt.Plain operation to args d) s = made (opt_values s args)
    where
      made : (vs : Option (List Value)) → TurnGrows s.world (opt_perform t operation to args d s vs)
      made None = same s.world
      made (Some vs) = plain_grows to s (perform t operation d args vs s.world) (law t operation d args vs s.world)
  step_grows t (opt.Guard operation args n snap) s = tested (opt_values s args)
    where
      tested : (vs : Option (List Value)) → TurnGrows s.world (opt_test operation args n snap s vs)
      tested None = same s.world
      tested (Some vs) = guard_grows n snap s (passes operation args vs s.world)
  step_grows t (opt.Exit n snap) s = fail_grows n s (opt_values s (resume_args snap))
  step_grows t (opt.Jump to args) s = jump_grows s (opt_values s args)
  step_grows t (opt.Finish value) s = finish_grows s (opt_values s (finished value))

  module _ (set : TraceSet) (ps : List Piece) (cuts : Cuts) where
    turned : (s : Opt) (x : Turn Opt) → TurnGrows s.world x → GrowsIn (pieces set ps cuts) s.world x
    turned s (On u) h = h
    turned s (Off l) h = h

    pub pieces-steps_grow : StepsGrow (pieces set ps cuts)
    pieces-steps_grow = record { steps = λ op s. turned s (opt_step set.table op s) (step_grows set.table op s); begins = λ q vs w. refl }

module _ (set : TraceSet) (ps : List Piece) (cuts : Cuts) (grows : RunsGrow (pieces set ps cuts)) where
  same_world : (x : PiecesNow) → world_now (pieces set ps cuts) x ≡ pieces_world x
  same_world (In q rest s) = refl
  same_world (Over q l) = refl

  adds : (x : PiecesNow) (n : ℕ) → OnlyAdds (pieces_world x) (pieces_world (run (pieces set ps cuts) n x))
  adds x n = rw (sym (same_world x), sym (same_world (run (pieces set ps cuts) n x))) (grows.runs n x)

  pub leg-grows : (q : PieceId) (us : List Value) (u : World) → IsLonger u.log (leg_world (leg (pieces set ps cuts) (At q us u))).log
  leg-grows q us u = (grows.legs (At q us u)).0

  pub run-grows : (x : PiecesNow) (n : ℕ) → IsLonger (pieces_world x).log (pieces_world (run (pieces set ps cuts) n x)).log
  run-grows x n = (adds x n).0

  pub run-keeps : (x : PiecesNow) (n : ℕ) → IsLonger (extents (pieces_world x)) (extents (pieces_world (run (pieces set ps cuts) n x)))
  run-keeps x n = (adds x n).1
