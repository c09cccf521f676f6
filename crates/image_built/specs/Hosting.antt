-- The host of a session, in the arena, is as the laws ask of a host.
use Rattle.std.specs.Prelude.{ℕ, ◌≤◌, ◌^◌, List}
use Rattle.trace_ops.specs.Constants.{HasWords}
use Rattle.trace_ops.specs.InRange.{IsInRange}
use Rattle.trace_ops.specs.declared.trace.TraceSet.{TraceSet}
use Rattle.trace_ops.specs.declared.piece.Piece.{Piece}
use Rattle.image_runs.specs.Session.{Host}
use Rattle.image_runs.specs.Following.{AnswersMakeNone}
use Rattle.image_model.specs.Laws.{HostServes}
use Rattle.session_host.specs.Hosting.{host_of}
use Rattle.image_built.specs.Laws.{HostStarts}

-- a host serves each operation that asks it, starts machines rightly, and makes no instruction by an answer
pub record DoesAsAsked (host : Host) (set : TraceSet) : Type 0 where
  pub serves : HostServes host set.table
  pub starts : HostStarts host set
  pub quiet : AnswersMakeNone host

-- over a set in range whose constants are words, with arenas of at least 64 KiB and at most 16 MiB
abbrev pub ArenaHostsDo : Type 0
ArenaHostsDo = (set : TraceSet) (ps : List Piece) (arena_bytes : ℕ) → IsInRange set → HasWords set → 65536 ≤ arena_bytes → arena_bytes ≤ 2 ^ 24 → DoesAsAsked (host_of set ps arena_bytes) set
