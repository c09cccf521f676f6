-- The text of an image by its changes: bytes and rows are parted among them in order.
use Rattle.std.specs.Prelude.{ℕ, ◌+◌, ◌==◌, if◌then◌else◌, ℤ, List, [], ◌∷◌, ◌++◌, length, take, drop}
use Rattle.std.specs.List.{flat_map}
use Rattle.trace_ops.specs.declared.trace.TraceSet.{TraceSet}
use Rattle.guard_exit.specs.declared.row.ExitRow.{ExitRow}
use Rattle.trace_text.specs.PieceWriting.{trace_name}
use Rattle.bridge_patch.specs.declared.image.Change.{Change}
use Rattle.image_text.specs.declared.image.Compiled.{Compiled}
use Rattle.image_text.specs.Hex.{hex_lines}
use Rattle.image_text.specs.Texts.{patch_text, attach_text, base_text, entries_text, exits_text}

-- how many rows in front are of this trace
abbrev pub run_of : ℕ → List ExitRow → ℕ
run_of b [] = 0
run_of b (r ∷ rs) = if r.id.trace == b then run_of b rs + 1 else 0

abbrev pub changed_patches : List (ℕ × ℤ × ℤ) → List ℕ
changed_patches ps = flat_map (λ (p : ℕ × ℤ × ℤ). patch_text p.0 p.2) ps

unfoldable pub change_text : TraceSet → Change → List ℕ → List ExitRow → List ℕ
change_text set c bytes rows = ((attach_text (trace_name set c.bridge) c.from (length bytes) ++ hex_lines bytes) ++ exits_text set rows) ++ changed_patches c.patches

abbrev pub changes_text : TraceSet → List ℕ → List ExitRow → List Change → List ℕ
changes_text set bytes rows [] = []
changes_text set bytes rows (c ∷ cs) =
    change_text set c (take c.len bytes) (take (run_of c.bridge rows) rows) ++ changes_text set (drop c.len bytes) (drop (run_of c.bridge rows) rows) cs

unfoldable pub parted_text : TraceSet → Compiled → List (ℕ × ℕ) → List ℕ → List ExitRow → List Change → List ℕ
parted_text set compiled entries bytes rows changes =
    ((base_text (take compiled.bytes bytes) ++ entries_text set entries) ++ exits_text set (take compiled.exits rows)) ++ changes_text set (drop compiled.bytes bytes) (drop compiled.exits rows) changes
