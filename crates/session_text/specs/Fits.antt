-- Sessions that fit a set: what whoever takes the lines of a session may rely on.
use Rattle.std.specs.Prelude.{◌≡◌, ℕ, ◌+◌, ◌^◌, ◌<◌, ◌≤◌, true, Some, List, [], ◌∷◌, length, slice_get}
use Rattle.std.specs.List.{AllByRecursion, AllZip}
use Rattle.std.specs.Int.{w64}
use Rattle.std.specs.Int.RustNames.{FitsSigned}
use Rattle.text_lines.specs.Words.{is_name}
use Rattle.trace_ops.specs.declared.trace.BoxId.{BoxId}
use Rattle.trace_ops.specs.declared.trace.Kind.TheVariants as kind
use Rattle.trace_ops.specs.declared.trace.Origin.TheVariants.{Loop, Bridge}
use Rattle.trace_ops.specs.declared.trace.Trace.{Trace}
use Rattle.trace_ops.specs.declared.trace.TraceSet.{TraceSet}
use Rattle.trace_meaning.specs.declared.value.Value.{Value}
use Rattle.trace_meaning.specs.declared.value.Value.TheVariants as value
use Rattle.trace_meaning.specs.declared.call.Answer.{Answer}
use Rattle.session_text.specs.declared.session.Line.{Line}
use Rattle.session_text.specs.declared.session.Line.TheVariants as line
use Rattle.session_text.specs.declared.session.SessionText.{SessionText}

-- for an integer a word; for a reference NULL or a prebuilt object
abbrev pub IsInput : TraceSet → Value → BoxId → Type 0
IsInput set (value.Int z) b = (b.kind ≡ kind.Int) × FitsSigned w64 z
IsInput set value.Null b = b.kind ≡ kind.Ref
IsInput set (value.Obj k) b = (b.kind ≡ kind.Ref) × (k < length set.table.prebuilts)

-- a start of a loop of the set, with its inputs
pub record IsStart (set : TraceSet) (k : ℕ) (vs : List Value) (answers : List Answer) : Type 0 where
  pub of : Trace
  pub at : slice_get set.traces k ≡ Some of
  pub is_loop : of.origin ≡ Loop
  pub inputs : AllZip (IsInput set) vs of.inputs
  pub as_many : length vs ≡ length of.inputs
  pub few_answers : length answers ≤ 4096

pub record IsBridgeOf (set : TraceSet) (b : ℕ) : Type 0 where
  pub of : Trace
  pub at : slice_get set.traces b ≡ Some of
  pub parent : List ℕ
  pub guard : ℕ
  pub is_bridge : of.origin ≡ Bridge parent guard

-- a line behind this many starts
abbrev pub LineFits : TraceSet → ℕ → Line → Type 0
LineFits set k (line.Start a t vs answers) = (a ≡ k) × IsStart set t vs answers
LineFits set k (line.Step a count) = (a < k) × (count ≤ 10 ^ 7)
LineFits set k (line.Run a n) = (a < k) × (n ≤ 10 ^ 6)
LineFits set k (line.Attach b) = IsBridgeOf set b

-- the number of starts with a line
abbrev pub with_start_of : Line → ℕ → ℕ
with_start_of (line.Start a t vs answers) k = k + 1
with_start_of (line.Step a count) k = k
with_start_of (line.Run a n) k = k
with_start_of (line.Attach b) k = k

unfoldable pub starts_behind : ℕ → List Line → ℕ
starts_behind k [] = k
starts_behind k (l ∷ ls) = starts_behind (with_start_of l k) ls

-- each line behind the starts in front of it
unfoldable pub LinesFit : TraceSet → ℕ → List Line → Type 0
LinesFit set k [] = Unit {0}
LinesFit set k (l ∷ ls) = LineFits set k l × LinesFit set (with_start_of l k) ls

pub record FitsSet (set : TraceSet) (s : SessionText) : Type 0 where
  pub lines : LinesFit set 0 s.lines
  pub names : length s.names ≡ starts_behind 0 s.lines
  pub are_names : AllByRecursion (λ n. is_name n ≡ true) s.names
  pub short_names : AllByRecursion (λ n. length n ≤ 64) s.names
  pub few_lines : length s.lines ≤ 4096
  pub few_starts : length s.names ≤ 16
