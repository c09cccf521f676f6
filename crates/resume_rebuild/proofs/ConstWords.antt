-- The words of constants and the headers of new objects, as the code finds them.
use Rattle.std.proofs.Common.{◌≡◌, ℕ, List, [], ◌∷◌, map, refl, ap, ◌∙◌, ℤ}
use Rattle.std.specs.List.{All}
use Rattle.std.proofs.lemmas.List.Elements.{All-head, All-tail}
use Rattle.trace_ops.specs.declared.trace.BoxId.{BoxId}
use Rattle.trace_ops.specs.declared.trace.Arg.{Arg}
use Rattle.trace_ops.specs.declared.trace.Arg.TheVariants as arg
use Rattle.trace_ops.specs.declared.table.Table.{Table}
use Rattle.target_base.specs.Arena.{Arena}
use Rattle.target_base.specs.declared.place.Place.{Place}
use Rattle.arena_objects.specs.Layout.{header_of}
use Rattle.arena_objects.specs.Making.{arena_begun}
use Rattle.arena_objects.specs.Headers.{HeaderNumbers, HaveHeaders, header_in}
use Rattle.arena_objects.specs.ReadBack.{or_zero}
use Rattle.resume_numbering.specs.declared.rows.VirtualRow.{VirtualRow}
use Rattle.resume_rebuild.specs.Firsts.{IsBelow, StartsAs, sources_before}
use Rattle.resume_rebuild.specs.Known.{IsKnown, RowsAreKnown}
use Rattle.resume_rebuild.specs.Rebuilding.{Sources, arg_word, made_with, made_all}
use Rattle.resume_rebuild.specs.Rows.{row_extent}

abbrev pub with_all : List (BoxId × Place) → List ℤ → List ℤ → List ℤ → Sources
with_all places frame all made = record { places = places; frame = frame; before = all; made = made }

word_before : (most : ℕ) (places : List (BoxId × Place)) (frame firsts all made : List ℤ) (a : Arg) → StartsAs most firsts all → IsBelow most a → arg_word (sources_before places frame firsts) a ≡ arg_word (with_all places frame all made) a
word_before most places frame firsts all made (arg.Of b) h below = refl
word_before most places frame firsts all made (arg.Const z) h below = refl
word_before most places frame firsts all made arg.Null h below = refl
word_before most places frame firsts all made (arg.Class k) h below = refl
word_before most places frame firsts all made (arg.Func k) h below = refl
word_before most places frame firsts all made (arg.Ptr k) h below = ap or_zero (h k below)

-- the first objects are enough for the constants that name one of them
pub words_before : (most : ℕ) (places : List (BoxId × Place)) (frame firsts all made : List ℤ) (consts : List Arg) → StartsAs most firsts all → All (IsBelow most) consts → map (arg_word (sources_before places frame firsts)) consts ≡ map (arg_word (with_all places frame all made)) consts
words_before most places frame firsts all made [] h below = refl
words_before most places frame firsts all made (a ∷ more) h below =
    ap (λ w. w ∷ map (arg_word (sources_before places frame firsts)) more) (word_before most places frame firsts all made a h (All-head (IsBelow most) a more below))
    ∙ ap (λ ws. arg_word (with_all places frame all made) a ∷ ws) (words_before most places frame firsts all made more h (All-tail (IsBelow most) a more below))

-- the header numbers are those of the table
pub made_same : (t : Table) (h : HeaderNumbers) (rows : List VirtualRow) (arena : Arena) → HaveHeaders t h → RowsAreKnown t rows → made_with (header_in h) (map row_extent rows) arena ≡ made_all t (map row_extent rows) arena
made_same t h [] arena have known = refl
made_same t h (row ∷ rows) arena have known =
    let own = All-head (λ (r : VirtualRow). IsKnown t r.of) row rows known in
    let rest = All-tail (λ (r : VirtualRow). IsKnown t r.of) row rows known in
    let next = arena_begun row.of (header_of t row.of) (row_extent row).parts arena in
    ap (λ n. made_with (header_in h) (map row_extent rows) (arena_begun row.of n (row_extent row).parts arena)) (have row.of own.0 own.1)
    ∙ made_same t h rows next have rest
