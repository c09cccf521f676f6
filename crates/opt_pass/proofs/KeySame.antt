-- Two keys that the derived `==` finds equal are equal.
use Rattle.std.proofs.Common.{◌≡◌, true, Option, Some, None, refl, ap, ◌∙◌}
use Rattle.std.specs.Option.{option_eq}
use Rattle.std.proofs.lemmas.Bool.{and_parts}
use Rattle.opt_pass.specs.Laws.{Laws}
use Rattle.trace_ops.specs.declared.trace.Arg.{Arg}
use Rattle.trace_ops.specs.declared.code.OpCode.{OpCode}
use Rattle.trace_ops.specs.contracts.trace.ArgPartialEq.TheImpl as arg_eq
use Rattle.trace_ops.specs.contracts.code.OpCodePartialEq.TheImpl as code_eq
use Rattle.box_forward.specs.declared.pure.Key.{Key}
use Rattle.box_forward.specs.contracts.pure.KeyPartialEq.TheImpl as key_eq

option_same : (laws : Laws) (a b : Option Arg) → option_eq arg_eq.ghosts.eq a b ≡ true → a ≡ b
option_same laws (Some a) (Some b) h = ap Some ((laws.equality.arg a b).0 h)
option_same laws None None h = refl
option_same laws _ _ h = cc

abbrev key_of : OpCode → Arg → Option Arg → Key
key_of code first second = record { code = code; first = first; second = second }

pub key_same : (laws : Laws) (a b : Key) → key_eq.ghosts.eq a b ≡ true → a ≡ b
key_same laws a b h =
    let one = and_parts (code_eq.ghosts.eq a.code b.code) _ h in
    let two = and_parts (arg_eq.ghosts.eq a.first b.first) (option_eq arg_eq.ghosts.eq a.second b.second) one.1 in
    ap (λ c. key_of c a.first a.second) ((laws.equality.code a.code b.code).0 one.0)
    ∙ ap (λ x. key_of b.code x a.second) ((laws.equality.arg a.first b.first).0 two.0)
    ∙ ap (λ x. key_of b.code b.first x) (option_same laws a.second b.second two.1)
