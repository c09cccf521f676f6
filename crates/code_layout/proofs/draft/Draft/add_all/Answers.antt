use Rattle.std.proofs.Common.{◌≡◌, ℕ, ◌+◌, ◌<◌, ◌++◌, List, length, drop, get_or, Option, arith, subst, ap, ◌∙◌}
use Rattle.std.specs.Option.{option_map}
use Rattle.x64_encode.specs.declared.instr.Instr.{Instr}
use Rattle.x64_encode.specs.declared.instr.Instr.TheVariants.{MovReg}
use Rattle.x64_encode.specs.Form.{spelling}
use Rattle.code_layout.specs.Emitting.{key_at, aimed_if, noted_if, listed}
use Rattle.code_layout.proofs.Emitted.{Emits, emits_more, front_at}
use Rattle.code_layout.proofs.draft.Draft.add_all.Goals as goal

abbrev none : Instr
none = MovReg (record { 0 = 0 }) (record { 0 = 0 })

pub loop-n-preserved : goal.loop-n-preserved
loop-n-preserved c =
    let lt : c.loop-n.n < length c.args.instrs.now = omega arith in
    let n = c.loop-n.n in
    let x = get_or c.args.instrs.now n none in
    let to = listed c.args.to.now in
    let count = length c.args.to.now in
    let from-0 = c.args.self.now.from in
    let bytes-0 = c.args.self.now.bytes.items in
    let jumps-0 = c.args.self.now.jumps.items in
    let bytes = c.loop-n.self.bytes.items in
    let jumps = c.loop-n.self.jumps.items in
    let left = drop c.loop-n.next c.args.jumps.now in
    let same : c.loop-n.self.from ≡ from-0 = c.loop-n.invariant.0 in
    let key : c.key_at-key.result ≡ key_at n left = c.key_at-key.ensures in
    let h = subst (λ (l : List Instr). Emits to count from-0 bytes-0 jumps-0 c.args.instrs.now c.args.jumps.now n l left bytes jumps) (front_at c.args.instrs.now n none lt) c.loop-n.invariant.2 in
    let b : c.add.new.self.bytes.items ≡ bytes ++ spelling (aimed_if (from-0 + length bytes) (option_map to (key_at n left)) x) =
    c.in_ok-add.ensures.bytes
    ∙ ap (λ (f : ℕ). bytes ++ spelling (aimed_if (f + length bytes) (option_map to c.key_at-key.result) x)) same
    ∙ ap (λ (k : Option ℕ). bytes ++ spelling (aimed_if (from-0 + length bytes) (option_map to k) x)) key in
    let j : c.add.new.self.jumps.items ≡ jumps ++ noted_if (key_at n left) (from-0 + length bytes + length (spelling x)) =
    c.in_ok-add.ensures.jumps
    ∙ ap (λ (f : ℕ). jumps ++ noted_if c.key_at-key.result (f + length bytes + length (spelling x))) same
    ∙ ap (λ (k : Option ℕ). jumps ++ noted_if k (from-0 + length bytes + length (spelling x))) key in (
      c.in_ok-add.ensures.from ∙ same,
      omega (arith, c.behind-next.ensures.few, c.loop-n.invariant.1),
      emits_more to count from-0 bytes-0 jumps-0 c.args.instrs.now c.args.jumps.now n x (drop (n + 1) c.args.instrs.now) left (drop c.behind-next.result c.args.jumps.now) bytes c.add.new.self.bytes.items jumps c.add.new.self.jumps.items h b j c.behind-next.ensures.jumps,
    )
