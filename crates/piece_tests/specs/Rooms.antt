-- What a run shows of how large it is.
use Rattle.std.specs.Prelude.{Bool, true, false}
use Rattle.trace_meaning.specs.declared.state.RecState.{RecState}
use Rattle.trace_meaning.specs.declared.state.RecState.TheVariants as state

-- the state of a run that has rebuilt
abbrev pub has_exited : RecState → Bool
has_exited (state.Exited trace guard frames) = true
has_exited _ = false
