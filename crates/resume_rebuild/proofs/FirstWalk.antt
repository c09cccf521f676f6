-- The walk that keeps the addresses of the first objects.
use Rattle.std.proofs.Common.{◌≡◌, ℕ, zero, suc, ◌+◌, ◌-◌, ◌*◌, ◌<◌, ◌≤◌, Bool, true, false, nat_lt, Option, Some, None, List, [], ◌∷◌, ◌++◌, length, map, slice_get, append_assoc, refl, ap, sym, ◌∙◌, subst, arith, ℤ, pos}
use Rattle.std.specs.Prelude.{min}
use Rattle.std.proofs.lemmas.Bool.{ltb-true, ltb-false}
use Rattle.std.proofs.lemmas.List.{append-nil}
use Rattle.trace_ops.specs.declared.table.Table.{Table}
use Rattle.trace_ops.specs.declared.table.ShapeOf.{ShapeOf}
use Rattle.trace_ops.specs.declared.table.ShapeOf.TheVariants.{Size, Array}
use Rattle.target_base.specs.Arena.{Arena}
use Rattle.arena_objects.specs.declared.walk.Found.{Found}
use Rattle.arena_objects.specs.Layout.{words_ahead}
use Rattle.arena_objects.specs.Walk.{words_found, begins_at, onward, walk, objects_found}
use Rattle.arena_objects.specs.Laws.{FoundAreTaken}
use Rattle.lists.proofs.Appends.{get_left, length_push}
use Rattle.resume_rebuild.specs.Rebuilding.{found_addresses}
use Rattle.resume_rebuild.specs.Firsts.{StartsAs}

abbrev pub at_of : Found → ℤ
at_of f = pos f.at

-- so many objects were found, the next would begin at an address
pub record Finding (t : Table) (arena : Arena) (done at : ℕ) (firsts : List ℤ) : Type 0 where
  pub all : firsts ++ map at_of (walk (arena.taken - done) t arena at) ≡ found_addresses t arena
  pub count : length firsts ≡ done
  pub low : 0x10000000 + 8 * done ≤ at
  pub high : at ≤ 0x10000000 + arena.taken

pub finds_none : (t : Table) (arena : Arena) → Finding t arena 0 0x10000000 []
unfolding objects_found
finds_none t arena =
    let none : arena.taken - 0 ≡ arena.taken = omega arith in
    record { all = ap (λ n. map at_of (walk n t arena 0x10000000)) none; count = refl; low = omega arith; high = omega arith }

some_ahead : (s : ShapeOf) → 1 ≤ words_ahead s
some_ahead (Size s) = omega arith
some_ahead (Array a) = omega arith

opened : (t : Table) (arena : Arena) (done at : ℕ) (firsts : List ℤ) → done < arena.taken → Finding t arena done at firsts → firsts ++ map at_of (onward (walk (arena.taken - (done + 1)) t arena) (begins_at t arena at)) ≡ found_addresses t arena
opened t arena done at firsts lt s =
    let one : arena.taken - done ≡ suc (arena.taken - (done + 1)) = omega arith in
    sym (ap (λ n. firsts ++ map at_of (walk n t arena at)) one) ∙ s.all

pub finds_more : FoundAreTaken → (t : Table) (arena : Arena) (done at : ℕ) (firsts : List ℤ) (f : Found) → Finding t arena done at firsts → begins_at t arena at ≡ Some f → Finding t arena (done + 1) (f.at + 8 * words_found f) (firsts ++ pos f.at ∷ [])
finds_more taken t arena done at firsts f s e =
    let ends = taken t arena at f e in
    let same : f.at ≡ at = ends.0 in
    let most : f.at + 8 * words_found f ≤ 0x10000000 + arena.taken = ends.1 in
    let some : 1 ≤ words_ahead f.of = some_ahead f.of in
    let low : 0x10000000 + 8 * done ≤ at = s.low in
    let lt : done < arena.taken = omega arith in
    record {
      all =
          append_assoc firsts (pos f.at ∷ []) (map at_of (walk (arena.taken - (done + 1)) t arena (f.at + 8 * words_found f)))
          ∙ sym (ap (λ o. firsts ++ map at_of (onward (walk (arena.taken - (done + 1)) t arena) o)) e)
          ∙ opened t arena done at firsts lt s;
      count = length_push firsts (pos f.at) ∙ (let one : suc (length firsts) ≡ done + 1 = omega (arith, s.count) in one);
      low = omega arith;
      high = most;
    }

-- where no further object begins, all were found
pub finds_all : (t : Table) (arena : Arena) (done at : ℕ) (firsts : List ℤ) → Finding t arena done at firsts → begins_at t arena at ≡ None → firsts ≡ found_addresses t arena
finds_all t arena done at firsts s e = sym (append-nil firsts) ∙ ap (λ l. firsts ++ l) (sym (ends (arena.taken - done))) ∙ s.all
  where
    ends : (n : ℕ) → map at_of (walk n t arena at) ≡ []
    ends zero = refl
    ends (suc n) = ap (λ o. map at_of (onward (walk n t arena) o)) e

none_behind : FoundAreTaken → (t : Table) (arena : Arena) (at : ℕ) → 0x10000000 + arena.taken ≤ at → begins_at t arena at ≡ None
none_behind taken t arena at le = by (begins_at t arena at) refl
  where
    by : (o : Option Found) → begins_at t arena at ≡ o → o ≡ None
    by None e = refl
    by (Some f) e =
        let ends = taken t arena at f e in
        let same : f.at ≡ at = ends.0 in
        let most : f.at + 8 * words_found f ≤ 0x10000000 + arena.taken = ends.1 in
        let some : 1 ≤ words_ahead f.of = some_ahead f.of in
        absurd (omega arith)

pub starts_whole : (n : ℕ) (firsts all : List ℤ) → firsts ≡ all → StartsAs n firsts all
starts_whole n firsts all e = λ k lt. ap (λ l. slice_get l k) e

pub starts_so_far : FoundAreTaken → (t : Table) (arena : Arena) (most done at : ℕ) (firsts : List ℤ) → Finding t arena done at firsts → arena.taken ≤ 16777216 → min most 2097152 ≤ done → StartsAs most firsts (found_addresses t arena)
starts_so_far taken t arena most done at firsts s few enough = by (nat_lt most 2097152) refl
  where
    by : (b : Bool) → nat_lt most 2097152 ≡ b → StartsAs most firsts (found_addresses t arena)
    by true q = λ k lt.
        (let less : most < 2097152 = ltb-true most 2097152 q in
        let le : most ≤ done = grind (arith, enough, less) in
        let inside : k < length firsts = omega (arith, s.count, le, lt) in
        sym (get_left firsts (map at_of (walk (arena.taken - done) t arena at)) k inside) ∙ ap (λ l. slice_get l k) s.all)
    by false q =
        let more : 2097152 ≤ most = ltb-false most 2097152 q in
        let le : 2097152 ≤ done = grind (arith, enough, more) in
        let low : 0x10000000 + 8 * done ≤ at = s.low in
        starts_whole most firsts (found_addresses t arena) (finds_all t arena done at firsts s (none_behind taken t arena at (omega arith)))

pub is_low : FoundAreTaken → (t : Table) (arena : Arena) (done at : ℕ) (firsts : List ℤ) (f : Found) → Finding t arena done at firsts → begins_at t arena at ≡ Some f → arena.taken ≤ 16777216 → f.at < 2147483648
is_low taken t arena done at firsts f s e few =
    let same : f.at ≡ at = (taken t arena at f e).0 in
    let high : at ≤ 0x10000000 + arena.taken = s.high in
    omega arith
