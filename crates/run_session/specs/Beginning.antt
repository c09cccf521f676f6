-- An activation at its start.
use Rattle.std.specs.Prelude.{◌≡◌, ℕ, ◌<◌, ℤ, pos, List, [], Some, length, map, slice_get}
use Rattle.std.specs.List.{Contains}
use Rattle.trace_ops.specs.declared.trace.TraceSet.{TraceSet}
use Rattle.trace_meaning.specs.declared.value.Value.{Value}
use Rattle.trace_meaning.specs.declared.value.Value.TheVariants as v
use Rattle.trace_meaning.specs.declared.call.Answer.{Answer}
use Rattle.arena_world.specs.Prebuilt.{HostKnows, word_at}
use Rattle.bridge_patch.specs.declared.image.PieceHere.{PieceHere}
use Rattle.bridge_patch.specs.Image.{Imaged, entry_in}
use Rattle.opt_meaning.specs.Pieces.{preamble}
use Rattle.resume_rebuild.specs.Reserved.{Holding, IsReserved}
use Rattle.trace_ops.specs.declared.piece.OptTrace.{OptTrace}
use Rattle.trace_ops.specs.declared.piece.Piece.{Piece}
use Rattle.session_host.specs.Hosting.{IsStarted}
use Rattle.run_session.specs.declared.active.Active.{Active as Kept}
use Rattle.run_session.specs.declared.now.Now.TheVariants as now
use Rattle.run_session.specs.Keeping.{IsKept}

-- the word of an input, by what the host knows
abbrev pub input_by : HostKnows → Value → ℤ
input_by h (v.Int z) = z
input_by h v.Null = pos 0
input_by h (v.Obj k) = word_at h.prebuilts k

-- there is room for the first so many of these pieces, as far as they are in the image
abbrev pub HaveRoom : ℕ → List PieceHere → List Piece → Holding → Type 0
HaveRoom n heres ps r = (here : PieceHere) (k : ℕ) (p : Piece) → Contains heres here → k < n → slice_get ps k ≡ Some p → p.id ≡ here.id → IsReserved here.table r

-- and for those of the first so many traces
abbrev pub HaveAllRoom : ℕ → List PieceHere → List OptTrace → Holding → Type 0
HaveAllRoom n heres opt r = (j : ℕ) (o : OptTrace) → j < n → slice_get opt j ≡ Some o → HaveRoom (length o.pieces) heres o.pieces r

-- a machine at the loop's entry; no calls, no failures, and each attached bridge is seen from failure 0 on
pub record Begins (set : TraceSet) (image : Imaged) (bytes trace : ℕ) (inputs : List Value) (answers : List Answer) (a : Kept) : Type 0 where
  pub started : IsStarted set bytes trace (entry_in image.pieces (preamble trace)) inputs a.machine
  pub trace_is : a.trace ≡ trace
  pub inputs_are : a.inputs.items ≡ inputs
  pub answers_are : a.log.answers ≡ answers
  pub used : a.log.used ≡ 0
  pub calls : a.log.calls ≡ []
  pub failures : a.failures ≡ 0
  pub cuts : a.cuts.items ≡ map (λ (b : ℕ). (b, 0)) image.attached
  pub going : a.stands ≡ now.Going
  pub frames : a.rebuilt.frames ≡ []
  pub kept : IsKept set.table image.pieces a
