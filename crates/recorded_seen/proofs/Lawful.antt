-- The starts of a session that fits its set are lawful.
use Rattle.std.proofs.Common.{◌≡◌, ℕ, zero, suc, Option, List, [], ◌∷◌, map, refl, sym, subst, arith}
use Rattle.std.specs.Prelude.{IsSomeAnd}
use Rattle.std.specs.List.{All, AllZip}
use Rattle.trace_ops.specs.declared.trace.BoxId.{BoxId}
use Rattle.trace_ops.specs.declared.trace.Trace.{Trace}
use Rattle.trace_ops.specs.declared.trace.TraceSet.{TraceSet}
use Rattle.trace_meaning.specs.declared.value.Value.{Value}
use Rattle.trace_meaning.specs.declared.value.Value.TheVariants as v
use Rattle.trace_meaning.specs.declared.call.Answer.{Answer}
use Rattle.trace_meaning.specs.Values.{kind_of_value}
use Rattle.trace_meaning.specs.Starting.{IsPrebuiltOrNone, StartsLoop, Starts}
use Rattle.session_text.specs.declared.session.Line.{Line}
use Rattle.session_text.specs.declared.session.Line.TheVariants as line
use Rattle.session_text.specs.Fits.{IsInput, IsStart, LineFits, LinesFit, with_start_of}
use Rattle.recorded_seen.specs.Sessions.{LineStarts}

kind_of_input : (set : TraceSet) (x : Value) (b : BoxId) → IsInput set x b → kind_of_value x ≡ b.kind
kind_of_input set (v.Int z) b h = sym h.0
kind_of_input set v.Null b h = sym h
kind_of_input set (v.Obj k) b h = sym h.0

kinds_of_inputs : (set : TraceSet) (vs : List Value) (bs : List BoxId) → AllZip (IsInput set) vs bs → map kind_of_value vs ≡ map (λ (b : BoxId). b.kind) bs
kinds_of_inputs set [] [] h = refl
kinds_of_inputs set [] (b ∷ bs) h = absurd h
kinds_of_inputs set (x ∷ xs) [] h = absurd h
kinds_of_inputs set (x ∷ xs) (b ∷ bs) h =
    let one : kind_of_value x ≡ b.kind = kind_of_input set x b h.0 in
    let more : map kind_of_value xs ≡ map (λ (b : BoxId). b.kind) bs = kinds_of_inputs set xs bs h.1 in
    cc

prebuilt_or_none : (set : TraceSet) (x : Value) (b : BoxId) → IsInput set x b → IsPrebuiltOrNone set.table x
prebuilt_or_none set (v.Int z) b h = tt
prebuilt_or_none set v.Null b h = tt
prebuilt_or_none set (v.Obj k) b h = h.1

inputs_prebuilt : (set : TraceSet) (vs : List Value) (bs : List BoxId) → AllZip (IsInput set) vs bs → All (IsPrebuiltOrNone set.table) vs
inputs_prebuilt set [] bs h k d lt = absurd (omega arith)
inputs_prebuilt set (x ∷ xs) [] h k d lt = absurd h
inputs_prebuilt set (x ∷ xs) (b ∷ bs) h zero d lt = prebuilt_or_none set x b h.0
inputs_prebuilt set (x ∷ xs) (b ∷ bs) h (suc k) d lt = inputs_prebuilt set xs bs h.1 k d (omega arith)

starts_lawfully : (set : TraceSet) (t : ℕ) (vs : List Value) (answers : List Answer) → IsStart set t vs answers → Starts set t vs
starts_lawfully set t vs answers s =
    subst (λ (o : Option Trace). IsSomeAnd o (StartsLoop set.table vs)) (sym s.at) (s.is_loop, kinds_of_inputs set vs s.of.inputs s.inputs, inputs_prebuilt set vs s.of.inputs s.inputs)

line_starts : (set : TraceSet) (k : ℕ) (l : Line) → LineFits set k l → LineStarts set l
line_starts set k (line.Start a t vs answers) h = starts_lawfully set t vs answers h.1
line_starts set k (line.Step a count) h = tt
line_starts set k (line.Run a n) h = tt
line_starts set k (line.Attach b) h = tt

pub lines_start : (set : TraceSet) (k : ℕ) (ls : List Line) → LinesFit set k ls → All (LineStarts set) ls
unfolding LinesFit
lines_start set k [] h j d lt = absurd (omega arith)
lines_start set k (l ∷ ls) h zero d lt = line_starts set k l h.0
lines_start set k (l ∷ ls) h (suc j) d lt = lines_start set (with_start_of l k) ls h.1 j d (omega arith)
