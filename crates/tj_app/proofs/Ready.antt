-- What is known of the set of an input.
use Rattle.std.proofs.Common.{◌≡◌, ℕ, List, Ok}
use Rattle.trace_ops.specs.declared.trace.TraceSet.{TraceSet}
use Rattle.trace_ops.specs.Constants.{HasWords}
use Rattle.trace_text.specs.Sections.{set_at}

-- the constants of a set that some text stands for
abbrev pub SetsHaveWords : Type 0
SetsHaveWords = (text : List ℕ) (x : TraceSet × ℕ) → set_at text ≡ Ok x → HasWords x.0
