-- The text of a printed image, version 1.
use Rattle.std.specs.Prelude.{ℕ, ◌+◌, ◌==◌, if◌then◌else◌, ℤ, Option, Some, None, List, [], ◌∷◌, ◌++◌, codes, length}
use Rattle.std.specs.List.{flat_map}
use Rattle.std.specs.Fmt.{decimal, signed_decimal}
use Rattle.trace_ops.specs.declared.trace.BoxId.{BoxId}
use Rattle.trace_ops.specs.declared.trace.TraceSet.{TraceSet}
use Rattle.target_base.specs.declared.place.Place.{Place}
use Rattle.target_base.specs.declared.place.Place.TheVariants.{In, Word}
use Rattle.guard_exit.specs.declared.row.ExitRow.{ExitRow}
use Rattle.trace_text.specs.Writing.{box_text}
use Rattle.trace_text.specs.PieceWriting.{trace_name, piece_name}
use Rattle.image_runs.specs.Printed.{Patch, Part, Printed}
use Rattle.image_text.specs.Hex.{hex_lines}

-- a number behind words
unfoldable pub told_text : List ℕ → ℕ → List ℕ
told_text words n = words ++ decimal n

-- ---- places

-- the name of a register by its number
unfoldable pub register_text : ℕ → List ℕ
register_text n =
    if n == 0 then codes "rax" else if n == 1 then codes "rcx" else if n == 2 then codes "rdx" else if n == 3 then codes "rbx" else if n == 4 then codes "rsp" else if n == 5 then codes "rbp" else if n == 6 then codes "rsi" else if n == 7 then codes "rdi" else told_text (codes "r") n

-- a register or a frame word
unfoldable pub place_text : Place → List ℕ
place_text (In r) = register_text r.0
place_text (Word k) = told_text (codes "w") k

-- a box and where it stands
unfoldable pub standing_text : BoxId × Place → List ℕ
standing_text s = (box_text s.0 ++ 61 ∷ []) ++ place_text s.1

-- each behind a comma and a space
abbrev pub more_places : List (BoxId × Place) → List ℕ
more_places xs = flat_map (λ x. (44 ∷ 32 ∷ []) ++ standing_text x) xs

unfoldable pub places_text : List (BoxId × Place) → List ℕ
places_text [] = []
places_text (x ∷ xs) = standing_text x ++ more_places xs

-- ---- exits

-- the guard and the place of the displacement; a finish has neither
unfoldable pub leave_text : Option ℕ → ℕ → List ℕ
leave_text None at = codes " finish ["
leave_text (Some n) at = (told_text (codes "/") n ++ told_text (codes " at ") at) ++ codes " ["

-- exit E T.x/k at AT [i0=rax, p1=w17], or exit E T.x finish [i2=rcx]
unfoldable pub exit_text : TraceSet → ExitRow → List ℕ
exit_text set r = ((((told_text (codes "exit ") r.exit ++ 32 ∷ []) ++ piece_name set r.id) ++ leave_text r.guard r.at) ++ places_text r.places) ++ codes "]\n"

abbrev pub exits_text : TraceSet → List ExitRow → List ℕ
exits_text set rows = flat_map (λ r. exit_text set r) rows

-- ---- the base

-- how many bytes the base has, and the bytes
unfoldable pub base_text : List ℕ → List ℕ
base_text base = (told_text (codes "%image\nversion 1\nbase ") (length base) ++ 10 ∷ []) ++ hex_lines base

-- entry L AT
unfoldable pub entry_text : TraceSet → ℕ × ℕ → List ℕ
entry_text set e = ((codes "entry " ++ trace_name set e.0) ++ told_text (codes " ") e.1) ++ 10 ∷ []

abbrev pub entries_text : TraceSet → List (ℕ × ℕ) → List ℕ
entries_text set es = flat_map (λ e. entry_text set e) es

-- ---- parts

-- patch AT VALUE
unfoldable pub patch_text : ℕ → ℤ → List ℕ
patch_text at value = ((told_text (codes "patch ") at ++ 32 ∷ []) ++ signed_decimal value) ++ 10 ∷ []

abbrev pub patches_text : List Patch → List ℕ
patches_text ps = flat_map (λ (p : Patch). patch_text p.at p.after) ps

-- attach B from AT N
unfoldable pub attach_text : List ℕ → ℕ → ℕ → List ℕ
attach_text name at n = (((codes "attach " ++ name) ++ told_text (codes " from ") at) ++ told_text (codes " ") n) ++ 10 ∷ []

-- a part whose bytes stand from this offset on
abbrev pub part_text : TraceSet → ℕ → Part → List ℕ
part_text set at x = ((attach_text (trace_name set x.bridge) at (length x.bytes) ++ hex_lines x.bytes) ++ exits_text set x.rows) ++ patches_text x.patches

-- parts one behind the other
abbrev pub parts_text : TraceSet → ℕ → List Part → List ℕ
parts_text set at [] = []
parts_text set at (x ∷ xs) = part_text set at x ++ parts_text set (at + length x.bytes) xs

-- ---- the whole

-- the base, its entries and its exits, and the parts in the order of the attachments
abbrev pub image_text : TraceSet → Printed → List ℕ
image_text set im = ((base_text im.base ++ entries_text set im.entries) ++ exits_text set im.rows) ++ parts_text set (length im.base) im.parts
