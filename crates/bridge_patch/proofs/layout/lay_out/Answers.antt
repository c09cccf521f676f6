use Rattle.std.proofs.Common.{◌≡◌, ℕ, ◌+◌, ◌++◌, [], List, length, arith, ap, ◌∙◌}
use Rattle.x64_encode.specs.declared.instr.Instr.{Instr}
use Rattle.code_layout.specs.Emitting.{emitted, noted, total_size, listed}
use Rattle.bridge_patch.specs.Pieces.{spelled, stubs_from}
use Rattle.bridge_patch.proofs.Stubs.{parts_join, emitted_none, noted_none}
use Rattle.bridge_patch.proofs.layout.lay_out.Goals as goal

pub returns-clause-bytes : goal.returns-clause-bytes
returns-clause-bytes c =
    let plan = c.args.plan.now in
    let to = listed c.args.to.now in
    let from = c.args.draft.now.from in
    let old = c.args.draft.now.bytes.items in
    let one = c.add_all.new.self.bytes.items in
    let two = c.add_all-2.new.self.bytes.items in
    let at = from + length old in
    let start = at + total_size plan.front in
    let size : length one ≡ length old + total_size plan.front = c.in_ok-add_all.ensures.size ∙ ap (λ (l : List Instr). length old + total_size l) c.items.ensures in
    let sizes : length two ≡ length one + total_size plan.selected.instrs = c.in_ok-add_all-2.ensures.size ∙ ap (λ (l : List Instr). length one + total_size l) c.items-2.ensures in
    let x : one ≡ old ++ spelled plan.front = c.in_ok-add_all.ensures.bytes ∙ ap (λ (l : List ℕ). old ++ l) (emitted_none to at 0 c.items.result.now ∙ ap spelled c.items.ensures) in
    let p : c.add_all.new.self.from + length one ≡ start = omega (arith, size, c.in_ok-add_all.ensures.from) in
    let y : two ≡ one ++ emitted to start 0 plan.selected.instrs plan.selected.jumps =
    c.in_ok-add_all-2.ensures.bytes
    ∙ ap (λ (q : ℕ). one ++ emitted to q 0 c.items-2.result.now c.items-3.result.now) p
    ∙ ap (λ (l : List Instr). one ++ emitted to start 0 l c.items-3.result.now) c.items-2.ensures
    ∙ ap (λ (l : List (ℕ × ℕ)). one ++ emitted to start 0 plan.selected.instrs l) c.items-3.ensures in
    let q : c.add_all-2.new.self.from + length two ≡ start + total_size plan.selected.instrs = omega (arith, size, sizes, c.in_ok-add_all.ensures.from, c.in_ok-add_all-2.ensures.from) in
    let z : c.add_stubs.new.draft.bytes.items ≡ two ++ spelled (stubs_from (start + total_size plan.selected.instrs) plan.exit c.args.exits) =
    c.in_ok-add_stubs.ensures.bytes ∙ ap (λ (k : ℕ). two ++ spelled (stubs_from k plan.exit c.args.exits)) q in
    parts_join old (spelled plan.front) (emitted to start 0 plan.selected.instrs plan.selected.jumps) (spelled (stubs_from (start + total_size plan.selected.instrs) plan.exit c.args.exits)) one two c.add_stubs.new.draft.bytes.items x y z

pub returns-clause-jumps : goal.returns-clause-jumps
returns-clause-jumps c =
    let plan = c.args.plan.now in
    let from = c.args.draft.now.from in
    let old = c.args.draft.now.bytes.items in
    let one = c.add_all.new.self.bytes.items in
    let start = from + length old + total_size plan.front in
    let size : length one ≡ length old + total_size plan.front = c.in_ok-add_all.ensures.size ∙ ap (λ (l : List Instr). length old + total_size l) c.items.ensures in
    let p : c.add_all.new.self.from + length one ≡ start = omega (arith, size, c.in_ok-add_all.ensures.from) in
    let none : c.add_all.new.self.jumps.items ≡ [] = c.in_ok-add_all.ensures.jumps ∙ ap (λ (l : List (ℕ × ℕ)). l ++ noted (from + length old) 0 c.items.result.now []) c.clear.ensures.items ∙ noted_none (from + length old) 0 c.items.result.now in
    c.in_ok-add_stubs.ensures.jumps
    ∙ c.in_ok-add_all-2.ensures.jumps
    ∙ ap (λ (l : List (ℕ × ℕ)). l ++ noted (c.add_all.new.self.from + length one) 0 c.items-2.result.now c.items-3.result.now) none
    ∙ ap (λ (q : ℕ). noted q 0 c.items-2.result.now c.items-3.result.now) p
    ∙ ap (λ (l : List Instr). noted start 0 l c.items-3.result.now) c.items-2.ensures
    ∙ ap (λ (l : List (ℕ × ℕ)). noted start 0 plan.selected.instrs l) c.items-3.ensures
