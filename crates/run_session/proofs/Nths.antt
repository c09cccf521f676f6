-- The walk up to the k-th object.
use Rattle.std.proofs.Common.{◌≡◌, ℕ, zero, suc, ◌+◌, ◌-◌, ◌*◌, ◌≤◌, Option, Some, None, List, ◌∷◌, slice_get, refl, ap, sym, ◌∙◌, arith, pos}
use Rattle.std.specs.Option.{option_map}
use Rattle.std.proofs.lemmas.Option.{same_Some, slice_get-map}
use Rattle.trace_ops.specs.declared.table.Table.{Table}
use Rattle.trace_ops.specs.declared.table.ShapeOf.{ShapeOf}
use Rattle.trace_ops.specs.declared.table.ShapeOf.TheVariants.{Size, Array}
use Rattle.target_base.specs.Arena.{Arena}
use Rattle.arena_objects.specs.declared.walk.Found.{Found}
use Rattle.arena_objects.specs.Layout.{words_ahead}
use Rattle.arena_objects.specs.Laws.{FoundAreTaken}
use Rattle.arena_objects.specs.ReadBack.{or_zero}
use Rattle.arena_objects.specs.Walk.{words_found, begins_at, onward, walk, objects_found}
use Rattle.resume_rebuild.specs.Rebuilding.{found_addresses}

-- the walk has come over so many objects to an address
pub record Passed (t : Table) (arena : Arena) (i at : ℕ) : Type 0 where
  pub low : 0x10000000 + 8 * i ≤ at
  pub high : at ≤ 0x10000000 + arena.taken
  pub left : (j : ℕ) → slice_get (walk (arena.taken - i) t arena at) j ≡ slice_get (objects_found t arena) (i + j)

pub starts : (t : Table) (arena : Arena) → Passed t arena 0 0x10000000
unfolding objects_found
starts t arena = record {
  low = omega arith;
  high = omega arith;
  left = λ j. (let all : arena.taken - 0 ≡ arena.taken = omega arith in let none : j ≡ 0 + j = omega arith in
      ap (λ n. slice_get (walk n t arena 0x10000000) j) all ∙ ap (slice_get (walk arena.taken t arena 0x10000000)) none);
}

some_ahead : (s : ShapeOf) → 1 ≤ words_ahead s
some_ahead (Size k) = omega arith
some_ahead (Array k) = omega arith

none_left : (n : ℕ) (t : Table) (arena : Arena) (a j : ℕ) → begins_at t arena a ≡ None → slice_get (walk n t arena a) j ≡ None
none_left zero t arena a j e = refl
none_left (suc n) t arena a j e = ap (λ (o : Option Found). slice_get (onward (walk n t arena) o) j) e

some_left : (n : ℕ) (t : Table) (arena : Arena) (a : ℕ) (f : Found) → begins_at t arena a ≡ Some f → walk (suc n) t arena a ≡ f ∷ walk n t arena (f.at + 8 * words_found f)
some_left n t arena a f e = ap (onward (walk n t arena)) e

read_at : (t : Table) (arena : Arena) (k : ℕ) (o : Option Found) → slice_get (objects_found t arena) k ≡ o → or_zero (slice_get (found_addresses t arena) k) ≡ or_zero (option_map (λ (f : Found). pos f.at) o)
read_at t arena k o e = ap or_zero (slice_get-map (λ (f : Found). pos f.at) (objects_found t arena) k ∙ ap (option_map (λ (f : Found). pos f.at)) e)

-- where none begins there are no more
pub none_there : (t : Table) (arena : Arena) (i at k : ℕ) → Passed t arena i at → i ≤ k → begins_at t arena at ≡ None → pos 0 ≡ or_zero (slice_get (found_addresses t arena) k)
none_there t arena i at k p le e =
    let same : k ≡ i + (k - i) = omega (arith, le) in
    sym (read_at t arena k None (ap (slice_get (objects_found t arena)) same ∙ sym (p.left (k - i)) ∙ none_left (arena.taken - i) t arena at (k - i) e))

one_more : FoundAreTaken → (t : Table) (arena : Arena) (i at : ℕ) (f : Found) → Passed t arena i at → begins_at t arena at ≡ Some f → arena.taken - i ≡ suc (arena.taken - (i + 1))
one_more taken t arena i at f p e =
    let z = taken t arena at f e in
    let here : f.at ≡ at = z.0 in
    let ends : f.at + 8 * (words_ahead f.of + f.parts) ≤ 0x10000000 + arena.taken = z.1 in
    let some = some_ahead f.of in
    let low = p.low in
    omega (arith, here, ends, some, low)

pub passes_on : FoundAreTaken → (t : Table) (arena : Arena) (i at : ℕ) (f : Found) → Passed t arena i at → begins_at t arena at ≡ Some f → Passed t arena (i + 1) (f.at + 8 * words_found f)
passes_on taken t arena i at f p e =
    let z = taken t arena at f e in
    let here : f.at ≡ at = z.0 in
    let some = some_ahead f.of in
    let below = p.low in
    let more = one_more taken t arena i at f p e in record {
      low = omega (arith, here, some, below);
      high = z.1;
      left = λ j. (let place : i + suc j ≡ i + 1 + j = omega arith in
          ap (λ (l : List Found). slice_get l (suc j)) (sym (some_left (arena.taken - (i + 1)) t arena at f e))
          ∙ ap (λ n. slice_get (walk n t arena at) (suc j)) (sym more)
          ∙ p.left (suc j)
          ∙ ap (slice_get (objects_found t arena)) place);
    }

pub there : FoundAreTaken → (t : Table) (arena : Arena) (k at : ℕ) (f : Found) → Passed t arena k at → begins_at t arena at ≡ Some f → pos at ≡ or_zero (slice_get (found_addresses t arena) k)
there taken t arena k at f p e =
    let here : at ≡ f.at = sym (taken t arena at f e).0 in
    let more = one_more taken t arena k at f p e in
    let first : k ≡ k + 0 = omega arith in
    let is : slice_get (objects_found t arena) k ≡ Some f =
    ap (slice_get (objects_found t arena)) first ∙ sym (p.left 0) ∙ ap (λ n. slice_get (walk n t arena at) 0) more ∙ ap (λ (l : List Found). slice_get l 0) (some_left (arena.taken - (k + 1)) t arena at f e) in
    ap pos here ∙ sym (read_at t arena k (Some f) is)

-- ---- the address behind the object that begins at one

abbrev pub end_of : Found → ℕ
end_of f = f.at + 8 * words_found f

pub none_begins : (o : Option Found) → option_map end_of o ≡ None → o ≡ None
none_begins None e = refl
none_begins (Some f) e = cc

pub one_begins : (o : Option Found) (next : ℕ) → option_map end_of o ≡ Some next → (f : Found) × (o ≡ Some f) × (end_of f ≡ next)
one_begins None next e = cc
one_begins (Some f) next e = (f, refl, same_Some (end_of f) next e)
