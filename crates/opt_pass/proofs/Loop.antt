-- The loop of the pass.
use Rattle.std.proofs.Common.{◌≡◌, ℕ, zero, suc, ◌+◌, ◌<◌, ◌≤◌, true, false, List, [], ◌∷◌, ◌++◌, Some, length, slice_get, take, drop, refl, sym, ap, ◌∙◌, subst, arith, inl, inr}
use Rattle.trace_ops.specs.declared.facts.Part.{Part}
use Rattle.trace_ops.specs.declared.facts.Part.TheVariants as part
use Rattle.trace_ops.specs.declared.trace.BoxId.{BoxId}
use Rattle.trace_ops.specs.declared.trace.Op.{Op}
use Rattle.trace_ops.specs.declared.piece.Entry.{Entry}
use Rattle.trace_ops.specs.Facts.{part_of}
use Rattle.lists.proofs.Options.{some_same}
use Rattle.opt_pass.specs.declared.state.Pass.{Pass}
use Rattle.opt_pass.specs.Keeping.{IsRight, IsCheckedAt, sets_overflow, KeepsAll}
use Rattle.std.proofs.Common.{get_or}
use Rattle.std.proofs.lemmas.List.{take_more, take_all}
use Rattle.std.proofs.lemmas.List.Elements.{All-from_recursion, All-get_or}
use Rattle.opt_pass.specs.Keeping.{ArePaired, AreRight, EndsLast, IsBuilt, IsDone}
use Rattle.trace_ops.specs.declared.table.Table.{Table}
use Rattle.trace_ops.specs.declared.piece.PieceId.{PieceId}
use Rattle.trace_ops.specs.Lawful.{AreDistinct}
use Rattle.opt_pass.specs.Starting.{numbered_from, started}
use Rattle.opt_pass.proofs.Whole.{SoFar, so_far_more, simulates}
use Rattle.opt_pass.proofs.Begun.{so_far_start}
use Rattle.opt_pass.specs.Laws.{Laws}
use Rattle.opt_pass.proofs.Showing.{Shown, shown_start, shown_more, shows_end, shows_all}
use Rattle.std.specs.List.{AllByRecursion, flat_map}
use Rattle.std.proofs.lemmas.List.Sums.{sum_by-take-le}
use Rattle.trace_ops.specs.declared.trace.TraceSet.{TraceSet}
use Rattle.trace_ops.specs.Classes.{is_guard}
use Rattle.trace_ops.specs.Pieces.{guards_of}
use Rattle.lists.proofs.Eaches.{each_weaker}
use Rattle.opt_pass.specs.Rising.{counted, Pairs}
use Rattle.opt_pass.specs.Forming.{IsRuled}
use Rattle.opt_pass.specs.Building.{guards_in, AreRuled, Built}
use Rattle.opt_pass.proofs.Beginning.{built_start}
use Rattle.opt_pass.proofs.Built.{built_more}
use Rattle.opt_pass.specs.Pooling.{HasPool}
use Rattle.opt_pass.proofs.Brought.{pool_start, pool_more, pool_all}

-- after so many operations
pub record Reached (t : Table) (inputs : List BoxId) (to : PieceId) (target : List BoxId) (e : Entry) (ops : List Op) (n : ℕ) (o : Pass) : Type 0 where
  pub so_far : Laws → AreRight t target e ops → SoFar t inputs e (numbered_from e.label 0) ops (take n ops) o
  pub boxes : o.next ≤ length e.label + length e.shapes + n
  pub guards : o.guard ≤ n
  pub checked : (j : ℕ) (op : Op) → n ≡ j + 1 → slice_get ops j ≡ Some op → sets_overflow (part_of op.code) ≡ true → o.checked ≡ true
  pub aim : o.to ≡ to
  pub inputs_there : o.target ≡ target
  pub shown : Shown to target e ops n o
  pub pool : Laws → HasPool e (take n ops) o
  pub built : Laws → AreRight t target e ops → (set : TraceSet) → set.table ≡ t → AreRuled set inputs e ops → Built set (numbered_from e.label 0) inputs ops n o

pub reached_start : (t : Table) (inputs : List BoxId) (to : PieceId) (target : List BoxId) (e : Entry) (ops : List Op) (o : Pass) → o ≡ started t inputs to target e → Reached t inputs to target e ops 0 o
reached_start t inputs to target e ops o same = subst (Reached t inputs to target e ops 0) (sym same) (record {
  so_far = λ laws right. so_far_start laws t inputs to target e ops right.entry;
  boxes = omega arith;
  guards = omega arith;
  checked = λ j op n at s. absurd (omega (arith, n));
  aim = refl;
  inputs_there = refl;
  shown = shown_start t inputs to target e ops;
  pool = λ laws. pool_start laws t inputs to target e;
  built = λ laws right set is r. subst (λ z. Built set (numbered_from e.label 0) inputs ops 0 (started z inputs to target e)) is (built_start laws set inputs ops e r to target);
})

get_is : (ops : List Op) (n : ℕ) (op : Op) → n < length ops → op ≡ get_or ops n op → slice_get ops n ≡ Some op
get_is [] n op lt is = absurd (omega (arith, lt))
get_is (x ∷ ops) zero op lt is = ap Some (sym is)
get_is (x ∷ ops) (suc n) op lt is = get_is ops n op (omega (arith, lt)) is

checked_now : (ops : List Op) (n : ℕ) (op : Op) (o : Pass) → ArePaired ops → slice_get ops n ≡ Some op → ((j : ℕ) (q : Op) → n ≡ j + 1 → slice_get ops j ≡ Some q → sets_overflow (part_of q.code) ≡ true → o.checked ≡ true) → (p : Part) → part_of op.code ≡ p → IsCheckedAt p o
checked_now ops n op o paired at h part.OverflowGuard e = let s = paired n op at e in h s.0 s.2 s.1 s.3 s.4
checked_now ops n op o paired at h part.Plain e = tt
checked_now ops n op o paired at h part.Overflowing e = tt
checked_now ops n op o paired at h part.Guard e = tt
checked_now ops n op o paired at h part.Jump e = tt
checked_now ops n op o paired at h part.Finish e = tt

pub reached_more : (t : Table) (inputs : List BoxId) (to : PieceId) (target : List BoxId) (e : Entry) (ops : List Op) (n : ℕ) (op : Op) (old new : Pass) → n < length ops → op ≡ get_or ops n op → Reached t inputs to target e ops n old → KeepsAll op old new → Reached t inputs to target e ops (n + 1) new
reached_more t inputs to target e ops n op old new lt is h k = record {
  so_far = λ laws right.
      so_far_more laws t inputs e (numbered_from e.label 0) ops n op old new (take_more ops n op lt ∙ ap (λ z. take n ops ++ z ∷ []) (sym is)) (h.so_far laws right)
      (k.each laws t (subst AreDistinct (sym h.inputs_there) right.apart) (subst (λ z. IsRight t z op) (sym h.inputs_there) (subst (IsRight t target) (sym is) (All-get_or (IsRight t target) ops n op lt (All-from_recursion (IsRight t target) ops right.right))))
      (checked_now ops n op old right.paired (get_is ops n op lt is) h.checked (part_of op.code) refl));
  boxes = omega (arith, h.boxes, k.boxes);
  guards = omega (arith, h.guards, k.counted);
  checked = λ j q m at s. let same : j ≡ n = omega (arith, m) in k.checked (subst (λ z. sets_overflow (part_of z.code) ≡ true) (some_same (sym at ∙ ap (slice_get ops) same ∙ get_is ops n op lt is)) s);
  aim = k.to ∙ h.aim;
  inputs_there = k.target ∙ h.inputs_there;
  shown = shown_more to target e ops n op old new (take_more ops n op lt ∙ ap (λ z. take n ops ++ z ∷ []) (sym is)) (get_is ops n op lt is) h.aim h.inputs_there h.shown k.printed;
  pool = λ laws. pool_more laws e (take n ops) (take (n + 1) ops) op old new (take_more ops n op lt ∙ ap (λ z. take n ops ++ z ∷ []) (sym is)) (h.pool laws) k.pool;
  built = λ laws right set same r.
      built_more laws set (numbered_from e.label 0) inputs ops n op old new (take_more ops n op lt ∙ ap (λ z. take n ops ++ z ∷ []) (sym is))
      (subst AreDistinct (sym h.inputs_there) right.apart)
      (subst (λ z. IsRight z old.target op) (sym same) (subst (λ z. IsRight t z op) (sym h.inputs_there) (subst (IsRight t target) (sym is) (All-get_or (IsRight t target) ops n op lt (All-from_recursion (IsRight t target) ops right.right)))))
      (subst (IsRuled set.table) (sym is) (All-get_or (IsRuled set.table) ops n op lt (All-from_recursion (IsRuled set.table) ops r.ruled)))
      (get_is ops n op lt is) (r.scoped n op (get_is ops n op lt is)) (r.tested n op (get_is ops n op lt is)) (h.built laws right set same r) k;
}

split : (ops : List Op) (n : ℕ) → take n ops ++ drop n ops ≡ ops
split ops zero = refl
split [] (suc n) = refl
split (x ∷ xs) (suc n) = ap (λ z. x ∷ z) (split xs n)

-- the piece has ended where the last recorded operation ends its trace
built_end : (set : TraceSet) (to : PieceId) (target label inputs : List BoxId) (ops : List Op) (n : ℕ) (o : Pass) → o.to ≡ to → o.target ≡ target → Built set label inputs ops n o → (EndsLast ops → o.ended ≡ true) → IsBuilt set to target label ops o
built_end set to target label inputs ops n o aim there h ended = record {
  aim = aim;
  inputs = there;
  forms = h.forms;
  guards = each_weaker (λ g. g < guards_in (take n ops)) (λ g. g < guards_in ops) (λ g lt. let less : guards_in (take n ops) ≤ guards_in ops = sum_by-take-le (λ (x : Op). counted (is_guard x.code)) ops n in omega (arith, lt, less)) (flat_map guards_of o.ops) h.guards;
  once = h.once;
  slots = h.slots;
  pairs = λ l. subst (Pairs false o.ops) (h.ends (ended l)) h.pairs;
}

pub reached_end : (t : Table) (inputs : List BoxId) (to : PieceId) (target : List BoxId) (e : Entry) (ops : List Op) (n : ℕ) (o : Pass) → Reached t inputs to target e ops n o → n ≤ length ops → o.ended ≡ true → IsDone t inputs to target e ops o
reached_end t inputs to target e ops n o h few ended = record {
  made = λ laws right. simulates laws t inputs e (numbered_from e.label 0) ops (take n ops) (drop n ops) o (split ops n) (h.so_far laws right) (inl ended);
  shows = shows_end to target e ops n o h.shown few ended;
  pool = λ laws. pool_all e ops n o (h.pool laws);
  built = λ laws right set same r. built_end set to target (numbered_from e.label 0) inputs ops n o h.aim h.inputs_there (h.built laws right set same r) (λ l. ended);
}

pub reached_all : (t : Table) (inputs : List BoxId) (to : PieceId) (target : List BoxId) (e : Entry) (ops : List Op) (n : ℕ) (o : Pass) → Reached t inputs to target e ops n o → n ≤ length ops → length ops ≤ n → IsDone t inputs to target e ops o
reached_all t inputs to target e ops n o h few le = record {
  made = λ laws right. simulates laws t inputs e (numbered_from e.label 0) ops (take n ops) [] o (append_none (take n ops) ∙ take_all n ops le) (h.so_far laws right) (inr refl);
  shows = shows_all to target e ops n o h.shown (omega (arith, few, le));
  pool = λ laws. pool_all e ops n o (h.pool laws);
  built = λ laws right set same r. built_end set to target (numbered_from e.label 0) inputs ops n o h.aim h.inputs_there (h.built laws right set same r) (λ l. let all : n ≡ length ops = omega (arith, few, le) in h.shown.left l.before l.last (all ∙ l.long) l.there l.ends);
}
  where
    append_none : {X : Type 0} (xs : List X) → xs ++ [] ≡ xs
    append_none [] = refl
    append_none (z ∷ zs) = ap (λ l. z ∷ l) (append_none zs)
