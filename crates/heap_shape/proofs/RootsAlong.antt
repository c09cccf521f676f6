-- Runs whose calls agree along a map have roots that agree.
use Rattle.std.proofs.Common.{◌≡◌, ℕ, zero, suc, ◌<◌, List, [], ◌∷◌, ◌++◌, Option, None, Some, arith}
use Rattle.std.specs.Option.{option_to_list}
use Rattle.std.specs.List.{AllZip}
use Rattle.trace_meaning.specs.declared.value.Value.{Value}
use Rattle.trace_meaning.specs.declared.value.Value.TheVariants as v
use Rattle.trace_meaning.specs.declared.call.CallEvent.{CallEvent}
use Rattle.heap_shape.specs.Roots.{prebuilt_objects, roots_of_call, roots_of_calls}
use Rattle.heap_shape.specs.Sameness.{Maps, MapsIf, SameCall, SameRoots}

zip_append : (m : ℕ → Option ℕ) (xs ys us vs : List Value) → AllZip (Maps m) xs ys → AllZip (Maps m) us vs → AllZip (Maps m) (xs ++ us) (ys ++ vs)
zip_append m [] [] us vs h w = w
zip_append m [] (y ∷ ys) us vs h w = absurd h
zip_append m (x ∷ xs) [] us vs h w = absurd h
zip_append m (x ∷ xs) (y ∷ ys) us vs h w = (h.0, zip_append m xs ys us vs h.1 w)

prebuilt_along : (m : ℕ → Option ℕ) (count : ℕ) → ((n : ℕ) → n < count → m n ≡ Some n) → AllZip (Maps m) (prebuilt_objects count) (prebuilt_objects count)
prebuilt_along m zero h = tt
prebuilt_along m (suc count) h =
    zip_append m (prebuilt_objects count) (prebuilt_objects count) (v.Obj count ∷ []) (v.Obj count ∷ [])
    (prebuilt_along m count (λ n w. h n (omega (arith, w)))) (h count (omega arith), tt)

given_along : (m : ℕ → Option ℕ) (a b : Option Value) → MapsIf m a b → AllZip (Maps m) (option_to_list a) (option_to_list b)
given_along m None None h = tt
given_along m None (Some y) h = absurd h
given_along m (Some x) None h = absurd h
given_along m (Some x) (Some y) h = (h, tt)

call_along : (m : ℕ → Option ℕ) (x y : CallEvent) → SameCall m x y → AllZip (Maps m) (roots_of_call x) (roots_of_call y)
call_along m x y h =
    zip_append m (x.args ++ x.seen) (y.args ++ y.seen) (option_to_list x.gives) (option_to_list y.gives)
    (zip_append m x.args y.args x.seen y.seen h.args h.seen) (given_along m x.gives y.gives h.gives)

calls_along : (m : ℕ → Option ℕ) (xs ys : List CallEvent) → AllZip (SameCall m) xs ys → AllZip (Maps m) (roots_of_calls xs) (roots_of_calls ys)
calls_along m [] [] h = tt
calls_along m [] (y ∷ ys) h = absurd h
calls_along m (x ∷ xs) [] h = absurd h
calls_along m (x ∷ xs) (y ∷ ys) h = zip_append m (roots_of_call x) (roots_of_call y) (roots_of_calls xs) (roots_of_calls ys) (call_along m x y h.0) (calls_along m xs ys h.1)

pub same_roots : SameRoots
same_roots m prebuilt xs ys us vs fixed calls last =
    zip_append m (prebuilt_objects prebuilt ++ roots_of_calls xs) (prebuilt_objects prebuilt ++ roots_of_calls ys) us vs
    (zip_append m (prebuilt_objects prebuilt) (prebuilt_objects prebuilt) (roots_of_calls xs) (roots_of_calls ys) (prebuilt_along m prebuilt fixed) (calls_along m xs ys calls)) last
