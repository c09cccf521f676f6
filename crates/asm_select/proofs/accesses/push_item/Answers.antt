use Rattle.std.proofs.Common.{◌≡◌, ◌++◌, ℕ, ℤ, OnOk, subst, sym, rules}
use Rattle.std.specs.Int.{w64}
use Rattle.std.proofs.lemmas.Int.{to_z-of_z}
use Rattle.trace_ops.specs.declared.table.Table.{Table}
use Rattle.asm_select.specs.declared.operand.Operand.TheVariants.{Imm}
use Rattle.asm_select.specs.Chosen.{item_code}
use Rattle.asm_select.proofs.accesses.push_item.Goals as goal

pub returns-in-Imm : goal.returns-in-Imm
returns-in-Imm c =
    let same = to_z-of_z w64 c.in-Imm.v (search rules) in
    subst (λ i. OnOk c.push_item_at.result ((t : Table) (x : ℕ) → c.push_item_at.new.out.items ≡ c.args.out.now.items ++ item_code t x c.args.d c.args.a i)) (sym c.in-Imm.is)
    (subst (λ (z : ℤ). OnOk c.push_item_at.result ((t : Table) (x : ℕ) → c.push_item_at.new.out.items ≡ c.args.out.now.items ++ item_code t x c.args.d c.args.a (Imm z))) same c.push_item_at.ensures)
