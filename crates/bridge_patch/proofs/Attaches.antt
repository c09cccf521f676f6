-- What an attachment makes of an image, where memory is there.
use Rattle.std.proofs.Common.{◌≡◌, ℕ, List, [], ◌∷◌, ◌++◌, length, ℤ, Result, Ok, Err}
use Rattle.std.specs.Prelude.{OnOk}
use Rattle.std.specs.declared.alloc.AllocError.{AllocError}
use Rattle.trace_ops.specs.declared.trace.TraceSet.{TraceSet}
use Rattle.trace_ops.specs.declared.piece.Piece.{Piece}
use Rattle.linear_scan.specs.Numbering.{AreNumbered, AreDefined, BoxesLive}
use Rattle.code_layout.specs.Laws.{JumpsArePatched}
use Rattle.code_layout.specs.Chosen.{ChosenJumps}
use Rattle.bridge_patch.specs.declared.laying.Laid.{Laid}
use Rattle.bridge_patch.specs.Pieces.{Placed}
use Rattle.bridge_patch.specs.Image.{Imaged}
use Rattle.bridge_patch.specs.Bridged.{source_of}
use Rattle.bridge_patch.specs.Attached.{IsImageOf, AreOfBridge, CanAttach, IsChanged, IsGrown, all_patched}
use Rattle.bridge_patch.specs.Bridging.{IsLaidBehind, ArePatches, copies_by}
use Rattle.bridge_patch.proofs.Building.{Laws}
use Rattle.bridge_patch.proofs.Seating.{Seat, seat}
use Rattle.bridge_patch.proofs.Allowed.{lay_each}
use Rattle.bridge_patch.proofs.Grown.{grows}
use Rattle.bridge_patch.proofs.Within.{changed}

pub ok_changed : (r : Result (Unit {0}) AllocError) (set : TraceSet) (bridge : ℕ) (pieces : List Piece) (old new : Imaged) (laid : Laid) (patches : List (ℕ × ℤ × ℤ)) → IsLaidBehind set old (source_of set.traces bridge) pieces laid
    → ArePatches bridge old.bytes laid.pieces.items (copies_by (source_of set.traces bridge) old.exits) patches
    → OnOk r (new.bytes ≡ all_patched patches (old.bytes ++ laid.bytes.items)) → OnOk r (new.exits ≡ old.exits ++ laid.exits.items) → OnOk r (new.pieces ≡ old.pieces ++ laid.pieces.items) → OnOk r (new.attached ≡ old.attached ++ bridge ∷ [])
    → OnOk r (new.changes ≡ old.changes ++ (record { bridge = bridge; from = length old.bytes; len = length laid.bytes.items; patches = patches }) ∷ []) → OnOk r (IsChanged set bridge pieces old new)
ok_changed (Ok u) set bridge pieces old new laid patches h are b e p a c = changed set bridge pieces old new laid patches h are b e p a c
ok_changed (Err x) set bridge pieces old new laid patches h are b e p a c = tt

pub ok_grown : ((p : Piece) → AreNumbered p → AreDefined p → BoxesLive p) → JumpsArePatched → ChosenJumps → Laws → (r : Result (Unit {0}) AllocError) (set : TraceSet) (bridge : ℕ) (pieces : List Piece) (old new : Imaged) (laid : Laid) (patches : List (ℕ × ℤ × ℤ))
    → CanAttach set old bridge pieces → IsLaidBehind set old (source_of set.traces bridge) pieces laid → ArePatches bridge old.bytes laid.pieces.items (copies_by (source_of set.traces bridge) old.exits) patches
    → new.registers ≡ old.registers → OnOk r (new.bytes ≡ all_patched patches (old.bytes ++ laid.bytes.items)) → OnOk r (new.exits ≡ old.exits ++ laid.exits.items) → OnOk r (new.pieces ≡ old.pieces ++ laid.pieces.items) → OnOk r (new.attached ≡ old.attached ++ bridge ∷ [])
    → OnOk r ((placed : List Placed) → IsImageOf set placed old → AreOfBridge set placed bridge pieces → IsGrown set bridge pieces placed old new)
ok_grown live law chosen laws (Ok u) set bridge pieces old new laid patches can behind are registers b e p a = λ placed im of. grows law chosen laws set bridge pieces placed old new laid patches (record {
  can = can;
  image_of = im;
  of = of;
  behind = behind;
  are = are;
  seats = lay_each (Seat set old bridge placed) pieces pieces (λ q c. seat live set old bridge placed pieces q im of c) (λ q c. c);
  registers = registers;
  bytes = b;
  exits = e;
  heres = p;
  attached = a;
})
ok_grown live law chosen laws (Err x) set bridge pieces old new laid patches can behind are registers b e p a = tt
