-- Walks: each object once, and no more steps than objects.
use Rattle.std.proofs.Common.{◌≡◌, ℕ, zero, suc, ◌+◌, ◌≤◌, cond, List, [], ◌∷◌, ◌++◌, Option, None, Some, length, slice_get, refl, ap, subst, arith}
use Rattle.std.specs.Option.{is_some}
use Rattle.std.specs.List.{AllByRecursion}
use Rattle.std.proofs.lemmas.Option.{slice_get_past}
use Rattle.trace_meaning.specs.declared.value.Value.{Value}
use Rattle.trace_meaning.specs.declared.value.Value.TheVariants as v
use Rattle.trace_meaning.specs.declared.value.Object.{Object}
use Rattle.heap_shape.specs.Visiting.{number_of, note, visit, parts_at, walk_on, walk, AreWithin, IsClosed, IsOnce}
use Rattle.heap_shape.proofs.Lists.{once_push, some_same}
use Rattle.heap_shape.proofs.Numbers.{number_none}

-- steps
pub walk_step : (most : ℕ) (objects : List Object) (i : ℕ) (seen : List ℕ) (n : ℕ) → slice_get seen i ≡ Some n
    → walk (suc most) objects i seen ≡ walk most objects (i + 1) (visit seen (parts_at objects n))
walk_step most objects i seen n h = ap (walk_on (walk most objects) objects i seen) h

pub walk_ends : (most : ℕ) (objects : List Object) (i : ℕ) (seen : List ℕ) → length seen ≤ i → walk most objects i seen ≡ seen
walk_ends zero objects i seen h = refl
walk_ends (suc most) objects i seen h = ap (walk_on (walk most objects) objects i seen) (slice_get_past seen i h)

-- the parts of an object name objects
each_within : (count : ℕ) (objects : List Object) (n : ℕ) (x : Object) → AllByRecursion (λ (y : Object). AreWithin count y.parts) objects → slice_get objects n ≡ Some x → AreWithin count x.parts
each_within count [] n x h at = cc
each_within count (y ∷ ys) zero x h at = subst (λ (z : Object). AreWithin count z.parts) (some_same at) h.0
each_within count (y ∷ ys) (suc n) x h at = each_within count ys n x h.1 at

pub parts_within : (objects : List Object) (n : ℕ) (x : Object) → IsClosed objects → slice_get objects n ≡ Some x → AreWithin (length objects) x.parts
parts_within objects n x h at = each_within (length objects) objects n x h at

-- each object once
note_once : (seen : List ℕ) (n : ℕ) → IsOnce seen → IsOnce (note seen n)
note_once seen n h = by (number_of seen n) refl
  where
    by : (o : Option ℕ) → number_of seen n ≡ o → IsOnce (cond (is_some o) seen (seen ++ n ∷ []))
    by (Some k) e = h
    by None e = once_push seen n h (number_none seen n e)

pub visit_once : (values : List Value) (seen : List ℕ) → IsOnce seen → IsOnce (visit seen values)
visit_once [] seen h = h
visit_once (v.Obj n ∷ xs) seen h = visit_once xs (note seen n) (note_once seen n h)
visit_once (v.Int w ∷ xs) seen h = visit_once xs seen h
visit_once (v.Null ∷ xs) seen h = visit_once xs seen h

on_once : (go : ℕ → List ℕ → List ℕ) (objects : List Object) (i : ℕ) (seen : List ℕ) → ((s : List ℕ) → IsOnce s → IsOnce (go (i + 1) s)) → (o : Option ℕ) → IsOnce seen → IsOnce (walk_on go objects i seen o)
on_once go objects i seen goes None h = h
on_once go objects i seen goes (Some n) h = goes (visit seen (parts_at objects n)) (visit_once (parts_at objects n) seen h)

pub walk_once : (most : ℕ) (objects : List Object) (i : ℕ) (seen : List ℕ) → IsOnce seen → IsOnce (walk most objects i seen)
walk_once zero objects i seen h = h
walk_once (suc most) objects i seen h = on_once (walk most objects) objects i seen (λ s w. walk_once most objects (i + 1) s w) (slice_get seen i) h

-- a walk that has come to its end goes no further
on_enough : (go further : ℕ → List ℕ → List ℕ) (objects : List Object) (i most : ℕ) (seen : List ℕ)
    → ((s : List ℕ) → length (go (i + 1) s) ≤ (i + 1) + most → further (i + 1) s ≡ go (i + 1) s)
    → (o : Option ℕ) → length (walk_on go objects i seen o) ≤ i + suc most → walk_on further objects i seen o ≡ walk_on go objects i seen o
on_enough go further objects i most seen goes None h = refl
on_enough go further objects i most seen goes (Some n) h = goes (visit seen (parts_at objects n)) (omega (arith, h))

pub walk_enough : (most more : ℕ) (objects : List Object) (i : ℕ) (seen : List ℕ) → most ≤ more → length (walk most objects i seen) ≤ i + most → walk more objects i seen ≡ walk most objects i seen
walk_enough zero more objects i seen le h = walk_ends more objects i seen (omega (arith, h))
walk_enough (suc most) zero objects i seen le h = absurd (omega (arith, le))
walk_enough (suc most) (suc more) objects i seen le h =
    on_enough (walk most objects) (walk more objects) objects i most seen (λ s w. walk_enough most more objects (i + 1) s (omega (arith, le)) w) (slice_get seen i) h
