use Rattle.std.proofs.Common.{[]}
use Rattle.trace_meaning.proofs.CanBegin.{legs-can_begin, legs-keep_kinds}
use Rattle.trace_meaning.proofs.WordStarts.{starts-can_begin}
use Rattle.trace_meaning.proofs.laws.lawful_legs_can_begin.Goals as goal

pub returns-clause-starts : goal.returns-clause-starts
returns-clause-starts c = λ set start inputs answers range words k h starts. starts-can_begin set start inputs answers range words k h starts

pub returns-clause-legs : goal.returns-clause-legs
returns-clause-legs c = λ set cuts range well words p vs w h. legs-can_begin c.equality_decides.ensures.box set cuts range well words p vs w h

pub returns-clause-kinds : goal.returns-clause-kinds
returns-clause-kinds c = λ set range well words p vs w h. legs-keep_kinds c.equality_decides.ensures.box set [] range well words p vs w h
