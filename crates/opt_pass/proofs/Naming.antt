-- Names stay, and each result gets one.
use Rattle.std.proofs.Common.{◌≡◌, true, false, Bool, Option, Some, None, refl, sym, ap, ◌∙◌, inl, inr}
use Rattle.std.specs.Prelude.{IsSome, is_some}
use Rattle.std.specs.Option.{option_map}
use Rattle.trace_ops.specs.declared.code.OpCode.{OpCode}
use Rattle.trace_ops.specs.declared.code.OpCode.TheVariants as code
use Rattle.trace_ops.specs.declared.trace.BoxId.{BoxId}
use Rattle.trace_ops.specs.declared.trace.Op.{Op}
use Rattle.trace_ops.specs.declared.piece.Val.{Val}
use Rattle.trace_ops.specs.Facts.{gives_of}
use Rattle.trace_ops.specs.Classes.{guarding, is_guard}
use Rattle.lists.proofs.Options.{some_same, none_some}
use Rattle.opt_pass.specs.declared.state.Pass.{Pass}
use Rattle.opt_pass.specs.Laws.{Laws}
use Rattle.opt_pass.specs.Tables.{name_in, with_name}
use Rattle.opt_pass.specs.State.{with_plain}
use Rattle.opt_pass.specs.Keeping.{IsTested}
use Rattle.opt_pass.specs.Forming.{KeepsNames}
use Rattle.opt_pass.proofs.Bound.{name_same}
use Rattle.opt_pass.proofs.Founding.{some_kept}

-- a guard gives nothing
guard_gives : (operation : OpCode) → is_guard operation ≡ true → gives_of operation ≡ None
guard_gives code.GuardTrue e = refl
guard_gives operation e = cc

nothing_given : {A : Type 0} (r : Option BoxId) (b : BoxId) → option_map (λ (c : BoxId). c.kind) r ≡ None → r ≡ Some b → A
nothing_given r b e is = absurd (none_some (sym e ∙ ap (option_map (λ (c : BoxId). c.kind)) is))

tested_guards : (operation : OpCode) → IsTested operation → is_guard operation ≡ true
tested_guards operation (inl e) = ap guarding e
tested_guards operation (inr e) = ap guarding e

pub names_tested : (op : Op) (o new : Pass) → IsTested op.code → new.names ≡ o.names → KeepsNames op o new
names_tested op o new is e = ((λ b h. ap (λ z. is_some (name_in z b)) e ∙ h), λ going gives b at. nothing_given op.result b (gives ∙ guard_gives op.code (tested_guards op.code is)) at)

pub names_ended : (op : Op) (o new : Pass) → new.ended ≡ true → new.names ≡ o.names → KeepsNames op o new
names_ended op o new ended e = ((λ b h. ap (λ z. is_some (name_in z b)) e ∙ h), λ going gives b at. absurd (false_true (sym going ∙ ended)))
  where
    false_true : false ≡ true → ⊥
    false_true e = cc

pub names_given : (laws : Laws) (op : Op) (o new : Pass) (of : BoxId) (x : Val) → op.result ≡ Some of → new.names ≡ with_name o.names of x → KeepsNames op o new
names_given laws op o new of x is e = (
  (λ b h. ap (λ z. is_some (name_in z b)) e ∙ some_kept laws o.names of x b h),
  λ going gives b at.
      let same : of ≡ b = some_same (sym is ∙ at) in
      ap (λ z. is_some (name_in z b)) e ∙ ap (λ z. is_some (name_in (with_name o.names of x) z)) (sym same) ∙ ap is_some (name_same laws of x o.names),
)

pub names_none : (op : Op) (o new : Pass) → op.result ≡ None → new.names ≡ o.names → KeepsNames op o new
names_none op o new is e = ((λ b h. ap (λ z. is_some (name_in z b)) e ∙ h), λ going gives b at. absurd (none_some (sym is ∙ at)))
