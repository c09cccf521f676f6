-- The printed image of a set shows what its traces show: any list of events, with the host in the arena.
use Rattle.std.specs.Prelude.{◌≡◌, ℕ, ◌^◌, ◌≤◌, List, [], Option, length}
use Rattle.std.specs.List.{All, AllByRecursion}
use Rattle.trace_ops.specs.Constants.{ArgHasWord, HasWords}
use Rattle.trace_ops.specs.Sound.{IsSound, constants_in, snapshots_in}
use Rattle.trace_ops.specs.WellFormed.{IsWellFormed}
use Rattle.trace_ops.specs.declared.trace.BoxId.{BoxId}
use Rattle.trace_ops.specs.declared.trace.TraceSet.{TraceSet}
use Rattle.trace_ops.specs.declared.piece.OptTrace.{OptTrace}
use Rattle.trace_ops.specs.declared.piece.Piece.{Piece}
use Rattle.trace_ops.specs.declared.piece.PieceId.{PieceId}
use Rattle.trace_ops.specs.declared.piece.Snapshot.{Snapshot}
use Rattle.trace_meaning.specs.Sound.{AnswersWords}
use Rattle.opt_meaning.specs.Meeting.{Made, pieces_of}
use Rattle.opt_meaning.specs.Pieces.{all_pieces}
use Rattle.opt_promise.specs.Promise.{AreMade}
use Rattle.asm_select.specs.Chosen.{Setting}
use Rattle.bridge_patch.specs.Image.{Imaged}
use Rattle.image_runs.specs.Printed.{Printed, code_at, bridges_at}
use Rattle.image_runs.specs.Session.{Activation, Session, SessionRun}
use Rattle.session_host.specs.Hosting.{host_of}
use Rattle.image_built.specs.Attached.{Attached, IsPrintedWith, pieces_in, settings_with}
use Rattle.image_built.specs.Built.{settings_from}
use Rattle.image_built.specs.Laws.{Compiled, Keeps, IsPrinted}
use Rattle.image_built.specs.Running.{no_session}
use Rattle.image_shows.specs.Keeping.{KeepsToItsTrace}

-- the piece is sound, wherever it jumps
abbrev pub IsSoundPiece : TraceSet → Piece → Type 0
IsSoundPiece set p = (label_of : PieceId → Option (List BoxId)) × IsSound set label_of p

-- the integers in its snapshots are words
abbrev pub HasSnapshotWords : Piece → Type 0
HasSnapshotWords p = All (λ (s : Snapshot). All ArgHasWord (constants_in s)) (snapshots_in p)

-- the answers that an activation was given are words
abbrev pub IsGivenWords : Activation → Type 0
IsGivenWords act = All AnswersWords act.given

-- Compiled loops without attachments: each activation of a session keeps to its trace.
abbrev pub CompiledImagesShow : (set : TraceSet) (whole ps : List Piece) → (PieceId → Setting) → Printed → ℕ → Type 0
CompiledImagesShow set whole ps settings im arena_bytes =
    (other : PieceId → Setting) (loops : List OptTrace) (image : Imaged) (z : Compiled set loops image) (ms : List Made) (s : Session)
    → ps ≡ all_pieces loops → settings ≡ settings_from 0 z.made.placed other → pieces_of ms ≡ ps
    → IsWellFormed set → HasWords set → 65536 ≤ arena_bytes → arena_bytes ≤ 2 ^ 24 → AreMade set [] ms
    → Keeps ps whole → AllByRecursion (IsSoundPiece set) whole → AllByRecursion HasSnapshotWords whole → IsPrinted set ps image im → im.parts ≡ []
    → SessionRun (host_of set whole arena_bytes) im no_session s
    → All (λ (act : Activation). IsGivenWords act → KeepsToItsTrace set [] (length image.bytes) act) s.activations

-- Where bridges are attached meanwhile, each activation keeps to its trace under its own cuts, with the pieces that are attached by then.
abbrev pub AttachedImagesShow : (set : TraceSet) (whole ps : List Piece) → (PieceId → Setting) → Printed → ℕ → Type 0
AttachedImagesShow set whole ps settings im arena_bytes =
    (other : PieceId → Setting) (loops : List OptTrace) (count : ℕ) (z : Attached set loops count) (ms : List Made) (s : Session)
    → ps ≡ pieces_in (z.placed s.parts) → settings ≡ settings_with set loops count z other → pieces_of ms ≡ ps
    → IsWellFormed set → HasWords set → 65536 ≤ arena_bytes → arena_bytes ≤ 2 ^ 24 → AreMade set (bridges_at im s.parts) ms
    → Keeps ps whole → Keeps (pieces_in (z.placed count)) whole → AllByRecursion (IsSoundPiece set) whole → AllByRecursion HasSnapshotWords whole → IsPrintedWith set loops count z im
    → SessionRun (host_of set whole arena_bytes) im no_session s
    → All (λ (act : Activation). IsGivenWords act → KeepsToItsTrace set act.cuts (length (code_at im s.parts)) act) s.activations
