-- The loop that looks for an object's number.
use Rattle.std.proofs.Common.{◌≡◌, ℕ, suc, ◌+◌, ◌-◌, ◌*◌, ◌<◌, ◌≤◌, Bool, true, false, cond, Option, Some, None, refl, ap, sym, ◌∙◌, subst, arith, pos}
use Rattle.std.specs.Prelude.{nat_le, nat_eq}
use Rattle.std.proofs.lemmas.Option.{same_Some}
use Rattle.std.proofs.lemmas.Bool.{leb-true, eq-eqb, ne_eqb}
use Rattle.trace_ops.specs.declared.table.Table.{Table}
use Rattle.trace_ops.specs.declared.table.ShapeOf.{ShapeOf}
use Rattle.target_base.specs.Arena.{Arena, arena_word}
use Rattle.arena_objects.specs.declared.walk.Found.{Found}
use Rattle.arena_objects.specs.Walk.{words_found, shape_of, parts_at, found_with, found_of, begins_at, onward, walk, objects_found, number_from, object_at}
use Rattle.arena_objects.specs.Laws.{FoundAreTaken}

-- ---- an object that was found

-- it begins there, and its bytes are taken
abbrev Ends : Arena → ℕ → Found → Type 0
Ends arena a f = (f.at ≡ a) × (f.at + 8 * words_found f ≤ 0x10000000 + arena.taken)

taken_ends : (arena : Arena) (g f : Found) (b : Bool) → nat_le (g.at + 8 * words_found g) (0x10000000 + arena.taken) ≡ b → cond b (Some g) None ≡ Some f → Ends arena g.at f
taken_ends arena g f true q e =
    let same : g ≡ f = same_Some g f e in
    subst (Ends arena g.at) same (refl, leb-true (g.at + 8 * words_found g) (0x10000000 + arena.taken) q)
taken_ends arena g f false q e = absurd (cc)

with_ends : (arena : Arena) (a : ℕ) (s : ShapeOf) (n : Option ℕ) (f : Found) → found_with arena a s n ≡ Some f → Ends arena a f
with_ends arena a s None f e = absurd (cc)
with_ends arena a s (Some n) f e =
    let g : Found = record { at = a; of = s; parts = n } in
    taken_ends arena g f (nat_le (g.at + 8 * words_found g) (0x10000000 + arena.taken)) refl e

of_ends : (t : Table) (arena : Arena) (a : ℕ) (s : Option ShapeOf) (f : Found) → found_of t arena a s ≡ Some f → Ends arena a f
of_ends t arena a None f e = absurd (cc)
of_ends t arena a (Some s) f e = with_ends arena a s (parts_at t arena a s) f e

pub begins_ends : FoundAreTaken
begins_ends t arena a f e = of_ends t arena a (shape_of t (arena_word arena a)) f e

-- ---- the state of a walk after some objects

pub record Walking (t : Table) (arena : Arena) (a done at k : ℕ) : Type 0 where
  pub left : number_from k (pos a) (walk (arena.taken - done) t arena at) ≡ object_at t arena (pos a)
  pub low : 0x10000000 ≤ at
  pub high : at ≤ 0x10000000 + arena.taken
  pub few : k ≤ done

pub starts : (t : Table) (arena : Arena) (a : ℕ) → Walking t arena a 0 0x10000000 0
unfolding objects_found
starts t arena a = record {
  left = (let none : arena.taken - 0 ≡ arena.taken = omega arith in ap (λ n. number_from 0 (pos a) (walk n t arena 0x10000000)) none);
  low = omega arith;
  high = omega arith;
  few = omega arith;
}

here : (t : Table) (arena : Arena) (a done at k : ℕ) → done < arena.taken → Walking t arena a done at k → number_from k (pos a) (onward (walk (arena.taken - (done + 1)) t arena) (begins_at t arena at)) ≡ object_at t arena (pos a)
here t arena a done at k lt s =
    let one : arena.taken - done ≡ suc (arena.taken - (done + 1)) = omega arith in
    sym (ap (λ n. number_from k (pos a) (walk n t arena at)) one) ∙ s.left

pub none_begins : (t : Table) (arena : Arena) (a done at k : ℕ) → done < arena.taken → Walking t arena a done at k → begins_at t arena at ≡ None → None ≡ object_at t arena (pos a)
none_begins t arena a done at k lt s e =
    sym (ap (λ o. number_from k (pos a) (onward (walk (arena.taken - (done + 1)) t arena) o)) e) ∙ here t arena a done at k lt s

split : (t : Table) (arena : Arena) (a done at k : ℕ) (f : Found) (b : Bool) → done < arena.taken → Walking t arena a done at k → begins_at t arena at ≡ Some f → nat_eq f.at a ≡ b → cond b (Some k) (number_from (suc k) (pos a) (walk (arena.taken - (done + 1)) t arena (f.at + 8 * words_found f))) ≡ object_at t arena (pos a)
split t arena a done at k f b lt s e q =
    ap (λ (x : Bool). cond x (Some k) (number_from (suc k) (pos a) (walk (arena.taken - (done + 1)) t arena (f.at + 8 * words_found f)))) (sym q)
    ∙ sym (ap (λ o. number_from k (pos a) (onward (walk (arena.taken - (done + 1)) t arena) o)) e)
    ∙ here t arena a done at k lt s

pub found_here : (t : Table) (arena : Arena) (a done at k : ℕ) (f : Found) → done < arena.taken → Walking t arena a done at k → begins_at t arena at ≡ Some f → f.at ≡ a → Some k ≡ object_at t arena (pos a)
found_here t arena a done at k f lt s e q = split t arena a done at k f true lt s e (eq-eqb f.at a q)

pub walks_on : (t : Table) (arena : Arena) (a done at k : ℕ) (f : Found) → done < arena.taken → Walking t arena a done at k → begins_at t arena at ≡ Some f → (f.at ≡ a → ⊥) → Walking t arena a (done + 1) (f.at + 8 * words_found f) (k + 1)
walks_on t arena a done at k f lt s e q =
    let ends = begins_ends t arena at f e in
    let same : f.at ≡ at = ends.0 in
    let most : f.at + 8 * words_found f ≤ 0x10000000 + arena.taken = ends.1 in
    let first : 0x10000000 ≤ at = s.low in
    let few : k ≤ done = s.few in
    let one : k + 1 ≡ suc k = omega arith in
    record {
      left = ap (λ n. number_from n (pos a) (walk (arena.taken - (done + 1)) t arena (f.at + 8 * words_found f))) one ∙ split t arena a done at k f false lt s e (ne_eqb f.at a q);
      low = omega arith;
      high = most;
      few = omega arith;
    }

-- where the walk is over
pub all_walked : (t : Table) (arena : Arena) (a done at k : ℕ) → arena.taken ≤ done → Walking t arena a done at k → None ≡ object_at t arena (pos a)
all_walked t arena a done at k le s =
    let none : arena.taken - done ≡ 0 = omega arith in
    sym (ap (λ n. number_from k (pos a) (walk n t arena at)) none) ∙ s.left
