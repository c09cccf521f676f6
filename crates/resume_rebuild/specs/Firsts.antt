-- The addresses of the first objects of an arena, to which constants lead.
use Rattle.std.specs.Prelude.{◌≡◌, ℕ, ◌<◌, ℤ, List, [], slice_get}
use Rattle.trace_ops.specs.declared.trace.BoxId.{BoxId}
use Rattle.trace_ops.specs.declared.trace.Arg.{Arg}
use Rattle.trace_ops.specs.declared.trace.Arg.TheVariants as arg
use Rattle.target_base.specs.declared.place.Place.{Place}
use Rattle.resume_rebuild.specs.Rebuilding.{Sources}

-- a prebuilt object is one of the first so many
abbrev pub IsBelow : ℕ → Arg → Type 0
IsBelow n (arg.Ptr k) = k < n
IsBelow n _ = Unit {0}

-- the first so many of a list are those of another
abbrev pub StartsAs : ℕ → List ℤ → List ℤ → Type 0
StartsAs n firsts all = (k : ℕ) → k < n → slice_get firsts k ≡ slice_get all k

-- what words of constants are read from, before anything is rebuilt
abbrev pub sources_before : List (BoxId × Place) → List ℤ → List ℤ → Sources
sources_before places frame firsts = record { places = places; frame = frame; before = firsts; made = [] }
