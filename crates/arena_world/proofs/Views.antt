-- The objects of an arena, one behind the other.
use Rattle.std.proofs.Common.{◌≡◌, ℕ, zero, suc, ◌+◌, ◌-◌, ◌*◌, ◌<◌, ◌≤◌, Option, Some, None, List, [], ◌∷◌, ◌++◌, length, map, refl, ap, sym, ◌∙◌, subst, arith, append_assoc, ℤ, pos}
use Rattle.std.proofs.lemmas.List.{append-nil}
use Rattle.trace_ops.specs.declared.table.Table.{Table}
use Rattle.trace_ops.specs.declared.trace.Kind.{Kind}
use Rattle.trace_ops.specs.declared.trace.Kind.TheVariants as kind
use Rattle.trace_meaning.specs.declared.value.Value.{Value}
use Rattle.trace_meaning.specs.declared.value.Object.{Object}
use Rattle.target_base.specs.Arena.{Arena}
use Rattle.arena_objects.specs.declared.walk.Found.{Found}
use Rattle.arena_objects.specs.ReadBack.{value_of, reference_to, part_in, parts_from, object_in, objects_in}
use Rattle.arena_objects.specs.Walk.{words_found, begins_at, walk, onward, objects_found}
use Rattle.arena_objects.specs.Walked.{AddressesNumber, addresses_found, number_in}
use Rattle.arena_world.specs.View.{value_by}

-- a value by the addresses that were found is that by the arena
pub value_same : AddressesNumber → (t : Table) (arena : Arena) (k : Option Kind) (w : ℤ) → value_by (addresses_found t arena) k w ≡ value_of t arena k w
value_same numbers t arena None w = refl
value_same numbers t arena (Some kind.Int) w = refl
value_same numbers t arena (Some kind.Ref) w = ap reference_to (numbers t arena w)

-- ---- parts

pub part_next : (t : Table) (arena : Arena) (f : Found) (i n m : ℕ) → n ≡ suc m → parts_from t arena f i n ≡ part_in t arena f i ∷ parts_from t arena f (i + 1) m
part_next t arena f i n m e =
    let next : suc i ≡ i + 1 = omega arith in
    ap (parts_from t arena f i) e ∙ ap (λ j. part_in t arena f i ∷ parts_from t arena f j m) next

-- ---- objects

abbrev pub objects_from : Table → Arena → ℕ → ℕ → List Object
objects_from t arena n a = map (object_in t arena) (walk n t arena a)

pub object_next : (t : Table) (arena : Arena) (n m a : ℕ) (f : Found) → n ≡ suc m → begins_at t arena a ≡ Some f → objects_from t arena n a ≡ object_in t arena f ∷ objects_from t arena m (f.at + 8 * words_found f)
object_next t arena n m a f e b =
    ap (λ k. objects_from t arena k a) e ∙ ap (λ o. map (object_in t arena) (onward (walk m t arena) o)) b

pub object_none : (t : Table) (arena : Arena) (n a : ℕ) → begins_at t arena a ≡ None → objects_from t arena n a ≡ []
object_none t arena zero a b = refl
object_none t arena (suc n) a b = ap (λ o. map (object_in t arena) (onward (walk n t arena) o)) b

pub all_objects : (t : Table) (arena : Arena) (n : ℕ) → n ≡ arena.taken → objects_from t arena n 0x10000000 ≡ objects_in t arena
unfolding objects_in objects_found
all_objects t arena n e = ap (λ k. map (object_in t arena) (walk k t arena 0x10000000)) e
