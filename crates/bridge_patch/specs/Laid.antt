-- The pieces of loops, laid out.
use Rattle.std.specs.Prelude.{◌≡◌, ℕ, ◌+◌, ◌≤◌, List, [], ◌++◌, length, map}
use Rattle.std.specs.List.{AllByRecursion}
use Rattle.trace_ops.specs.declared.trace.TraceSet.{TraceSet}
use Rattle.trace_ops.specs.declared.piece.Piece.{Piece}
use Rattle.guard_exit.specs.Codes.{common_code}
use Rattle.bridge_patch.specs.declared.laying.Laid.{Laid}
use Rattle.bridge_patch.specs.Pieces.{Placed, spelled, all_bytes, AreLaid, IsChosen, start_in, AllLead, all_rows, loop_front, label_places, label_at}
use Rattle.bridge_patch.specs.Planning.{room_for, AllTargets, jump_count}
use Rattle.bridge_patch.specs.Attached.{IsStanding, words_for}
use Rattle.bridge_patch.specs.Image.{AreHere}

-- the pieces stand behind the common exit, as they are to in an image
pub record IsLaid (set : TraceSet) (registers : ℕ) (ps : List Piece) (laid : Laid) : Type 0 where
  pub placed : List Placed
  pub pieces : map (λ (pl : Placed). pl.piece) placed ≡ ps
  pub fronts : AllByRecursion (λ (pl : Placed). pl.front ≡ loop_front pl.piece.id.half) placed
  pub code : laid.bytes.items ≡ spelled common_code ++ all_bytes placed
  pub end : ℕ
  pub last : ℕ
  pub follow : AreLaid (length (spelled common_code)) 0 placed end last
  pub chosen : AllByRecursion (IsChosen set) placed
  pub leads : AllByRecursion (AllLead (start_in placed)) placed
  pub rows : laid.exits.items ≡ all_rows placed
  pub heres : AreHere placed laid.pieces.items
  pub place : length laid.bytes.items ≡ end
  pub standing : AllByRecursion (IsStanding set registers (words_for set [])) placed
  pub targets : AllByRecursion (AllTargets (start_in placed)) placed
  pub tos : AllByRecursion (λ (pl : Placed). pl.setting.to ≡ label_places (jump_count pl.piece.ops)) placed
  pub labels : AllByRecursion (λ (pl : Placed). label_at pl ≡ label_places (length pl.piece.label)) placed
  pub short : length laid.bytes.items ≤ 49 + room_for ps
