-- The state in the host: its registers and arena are those of the state at the call, and it returns behind the call.
use Rattle.std.proofs.Common.{◌≡◌, ◌≢◌, ℕ, ◌+◌, length, ap, ◌∙◌, arith, ℤ, pos, negsuc, Some}
use Rattle.std.specs.Prelude.{slice_get, slice_set}
use Rattle.std.proofs.lemmas.List.{get_or-set_same, get_or-set_other, length-set}
use Rattle.std.proofs.lemmas.Option.{slice_get-get_or}
use Rattle.trace_ops.specs.declared.piece.OptOp.{OptOp}
use Rattle.guard_exit.specs.Codes.{register}
use Rattle.target_base.specs.Arena.{Arena}
use Rattle.arena_objects.specs.ReadBack.{or_zero}
use Rattle.x64_machine.specs.Words.{unsigned}
use Rattle.x64_machine.specs.State.{State, reg, rsp, word_at, resumed}
use Rattle.asm_select.specs.Valued.{IsFit}
use Rattle.asm_select.specs.Asked.{call_size, in_host, returned}
use Rattle.session_host.specs.Entries.{back_of, gives_back}

pub same_register : (op : OptOp) (q : ℕ) (u : State) (n : ℕ) → n ≢ 4 → reg (in_host op q u) (register n) ≡ reg u (register n)
same_register op q u n ne = get_or-set_other u.regs 4 n (pos 0x207FFFF0) (pos 0) ne

stack_is : (op : OptOp) (q : ℕ) (u : State) → IsFit u → reg (in_host op q u) rsp ≡ pos 0x207FFFF0
stack_is op q u f = get_or-set_same u.regs 4 (pos 0x207FFFF0) (pos 0) (omega (arith, f.regs))

pushed : (op : OptOp) (q : ℕ) (u : State) → IsFit u → slice_get (in_host op q u).frame 1048574 ≡ Some (pos (0x40000000 + (q + call_size)))
pushed op q u f =
    let back = pos (0x40000000 + (q + call_size)) in
    let long : length (slice_set u.frame 1048574 back) ≡ length u.frame = length-set u.frame 1048574 back in
    slice_get-get_or (slice_set u.frame 1048574 back) 1048574 (pos 0) (omega (arith, long, f.frame)) ∙ ap Some (get_or-set_same u.frame 1048574 back (pos 0) (omega (arith, f.frame)))

back_is : (op : OptOp) (q : ℕ) (u : State) → IsFit u → back_of (in_host op q u) ≡ pos (0x40000000 + (q + call_size))
back_is op q u f =
    let word : word_at (in_host op q u) 0x207FFFF0 ≡ Some (pos (0x40000000 + (q + call_size))) = pushed op q u f in
    ap (λ (z : ℤ). or_zero (word_at (in_host op q u) (unsigned z))) (stack_is op q u f) ∙ ap or_zero word

pub returns_so : (op : OptOp) (q : ℕ) (u : State) (z : ℤ) (arena : Arena) → IsFit u → gives_back z arena (in_host op q u) ≡ returned op q u z (negsuc 0) arena
returns_so op q u z arena f = ap (λ (b : ℤ). resumed z (negsuc 0) b (record (in_host op q u) { arena = arena })) (back_is op q u f)
