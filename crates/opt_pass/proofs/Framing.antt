-- Frames that were recorded, and those that are kept.
use Rattle.std.proofs.Common.{◌≡◌, ℕ, zero, suc, ◌+◌, Bool, true, false, cond, List, [], ◌∷◌, Option, Some, None, length, map, take, slice_get, filter, refl, sym, ap, ◌∙◌, arith}
use Rattle.std.proofs.lemmas.List.Sums.{sum_by-cons}
use Rattle.trace_ops.specs.declared.trace.Frame.{Frame}
use Rattle.trace_ops.specs.declared.trace.Op.{Op}
use Rattle.trace_ops.specs.Classes.{is_guard}
use Rattle.trace_meaning.specs.Observed.{guard_in}
use Rattle.opt_meaning.specs.Showing.{kept_frame_shown, recorded_frame_shown, AreFramesOf}
use Rattle.lists.proofs.Options.{some_same, none_some}
use Rattle.opt_pass.specs.Tables.{Names}
use Rattle.opt_pass.specs.State.{slot_val, opt_frame}
use Rattle.opt_pass.specs.Rising.{counted}
use Rattle.opt_pass.specs.Building.{guards_in}
use Rattle.opt_pass.proofs.Ends.{long_map}

pub frames_shown : (names forward : Names) (frames : List Frame) → AreFramesOf frames (map (opt_frame names forward) frames)
frames_shown names forward [] = refl
frames_shown names forward (f ∷ frames) = ap (λ n. (f.name, f.pc, n) ∷ map kept_frame_shown (map (opt_frame names forward) frames)) (long_map (slot_val names forward) f.slots) ∙ ap (λ z. recorded_frame_shown f ∷ z) (frames_shown names forward frames)

first_guard : (x : Op) (rest : List Op) (q : Bool) → q ≡ true → slice_get (cond q (x ∷ rest) rest) 0 ≡ Some x
first_guard x rest true e = refl
first_guard x rest false e = absurd (false_true e)
  where
    false_true : false ≡ true → ⊥
    false_true e = cc

later_guard : (x op : Op) (rest : List Op) (n : ℕ) (q : Bool) → slice_get rest n ≡ Some op → slice_get (cond q (x ∷ rest) rest) (counted q + n) ≡ Some op
later_guard x op rest n true e = let one : 1 + n ≡ suc n = omega arith in ap (slice_get (x ∷ rest)) one ∙ e
later_guard x op rest n false e = let none : 0 + n ≡ n = omega arith in ap (slice_get rest) none ∙ e

-- a guard is the one of the number of guards in front of it
pub guard_at : (ops : List Op) (n : ℕ) (op : Op) → slice_get ops n ≡ Some op → is_guard op.code ≡ true → guard_in ops (guards_in (take n ops)) ≡ Some op
guard_at [] n op e g = absurd (none_some e)
guard_at (x ∷ ops) zero op e g = first_guard x (filter (λ (y : Op). is_guard y.code) ops) (is_guard x.code) (ap (λ (y : Op). is_guard y.code) (some_same e) ∙ g) ∙ e
guard_at (x ∷ ops) (suc n) op e g =
    let more : guards_in (x ∷ take n ops) ≡ counted (is_guard x.code) + guards_in (take n ops) = sum_by-cons (λ (y : Op). counted (is_guard y.code)) x (take n ops) in
    ap (guard_in (x ∷ ops)) more ∙ later_guard x op (filter (λ (y : Op). is_guard y.code) ops) (guards_in (take n ops)) (is_guard x.code) (guard_at ops n op e g)
