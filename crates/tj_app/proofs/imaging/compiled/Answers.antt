use Rattle.std.proofs.Common.{List, sym, subst}
use Rattle.std.specs.Prelude.{IfOk}
use Rattle.std.specs.List.{All, AllByRecursion}
use Rattle.trace_ops.specs.declared.trace.TraceSet.{TraceSet}
use Rattle.trace_ops.specs.declared.piece.Piece.{Piece}
use Rattle.trace_ops.specs.declared.piece.OptTrace.{OptTrace}
use Rattle.opt_meaning.specs.Pieces.{all_pieces}
use Rattle.opt_meaning.specs.Worded.{OpHasWords}
use Rattle.bridge_patch.specs.Image.{Imaged, CanCompile, IsImage}
use Rattle.bridge_patch.specs.Attached.{IsImageOf}
use Rattle.tj_app.proofs.imaging.compiled.Goals as goal

abbrev HaveWords : List OptTrace → Type 0
HaveWords ts = AllByRecursion (λ (p : Piece). All OpHasWords p.ops) (all_pieces ts)

pub compile-requires : goal.compile-requires
compile-requires c =
    let words = subst HaveWords c.traces-traces.ensures c.constants_are_words.ensures in
    let checked = c.set-set.ensures.checked in
    let can = c.loops_can_compile.ensures c.args.checked.now c.args.pieces.now c.args.registers c.requires.pieces c.requires.unattached checked.in_range checked.light c.requires.least c.requires.most words in
    subst (λ (s : TraceSet). CanCompile s c.traces-traces.result.now c.args.registers) (sym c.set-set.ensures.value) (subst (λ (ts : List OptTrace). CanCompile c.args.checked.now ts c.args.registers) (sym c.traces-traces.ensures) can)

abbrev IsBoth : TraceSet → List OptTrace → Imaged → Type 0
IsBoth s ts image = (z : IsImage s (all_pieces ts) image) × IsImageOf s z.placed image

pub returns-clause-both : goal.returns-clause-both
returns-clause-both c =
    subst (λ (s : TraceSet). IfOk c.compile.result (IsBoth s c.args.pieces.now.traces)) c.set-set.ensures.value
    (subst (λ (ts : List OptTrace). IfOk c.compile.result (IsBoth c.set-set.result.now ts)) c.traces-traces.ensures c.compile.ensures.both)
