-- The plain entry admits a pair of one state with itself.
use Rattle.std.proofs.Common.{◌≡◌, ℕ, zero, suc, ◌+◌, ◌<◌, ◌≤◌, List, [], ◌∷◌, ◌++◌, Option, Some, None, length, map, slice_get, refl, ap, sym, ◌∙◌, subst, arith, inr}
use Rattle.std.specs.List.{AllZip, AllByRecursion}
use Rattle.std.specs.Option.{option_to_list}
use Rattle.std.proofs.lemmas.Option.{same_Some, slice_get_within}
use Rattle.std.proofs.lemmas.List.{length-map, length-append}
use Rattle.trace_ops.specs.declared.trace.BoxId.{BoxId}
use Rattle.trace_ops.specs.declared.trace.Arg.TheVariants.{Of}
use Rattle.trace_ops.specs.declared.table.Table.{Table}
use Rattle.trace_ops.specs.declared.piece.Val.TheVariants.{Known}
use Rattle.trace_ops.specs.Lawful.{AreDistinct}
use Rattle.trace_meaning.specs.declared.value.Value.{Value}
use Rattle.trace_meaning.specs.declared.value.Value.TheVariants as v
use Rattle.trace_meaning.specs.declared.value.Object.{Object}
use Rattle.trace_meaning.specs.declared.call.CallEvent.{CallEvent}
use Rattle.trace_meaning.specs.Values.{kind_of_value}
use Rattle.trace_meaning.specs.World.{World, Logged}
use Rattle.trace_meaning.specs.Recorded.{prebuilt_object}
use Rattle.trace_meaning.specs.Growing.{extent}
use Rattle.trace_meaning.specs.Boxes.{BindingLaws, value_in, bound_to}
use Rattle.heap_shape.specs.Visiting.{IsWithin, AreWithin}
use Rattle.heap_shape.specs.Roots.{roots_of_call}
use Rattle.heap_shape.specs.Sameness.{Maps, MapsIf, SameCall}
use Rattle.opt_meaning.specs.Along.{SameLogs}
use Rattle.opt_meaning.specs.Agrees.{HasPrebuilts, Place, ValIs, IsLive}
use Rattle.opt_meaning.specs.Admits.{Admits, place_with, plain_entry}
use Rattle.opt_meaning.specs.Laws.{AreThere}

-- so many numbers, from a on
abbrev numbers : ℕ → ℕ → List ℕ
numbers a zero = []
numbers a (suc n) = a ∷ numbers (a + 1) n

numbers_long : (a n : ℕ) → length (numbers a n) ≡ n
numbers_long a zero = refl
numbers_long a (suc n) = ap suc (numbers_long (a + 1) n)

number_at : (a n i : ℕ) → i < n → slice_get (numbers a n) i ≡ Some (a + i)
number_at a zero i h = absurd (omega arith)
number_at a (suc n) zero h = let e : a ≡ a + 0 = omega arith in ap Some e
number_at a (suc n) (suc i) h = let e : (a + 1) + i ≡ a + suc i = omega arith in number_at (a + 1) n i (omega arith) ∙ ap Some e

-- from 0 on, each is its place
itself_at : (n i : ℕ) → i < n → slice_get (numbers 0 n) i ≡ Some i
itself_at n i h = let e : 0 + i ≡ i = omega arith in number_at 0 n i h ∙ ap Some e

number_is : (a n i j : ℕ) → slice_get (numbers a n) i ≡ Some j → j ≡ a + i
number_is a n i j h =
    let within : i < length (numbers a n) = slice_get_within (numbers a n) i j h in
    let long : length (numbers a n) ≡ n = numbers_long a n in
    let less : i < n = omega arith in
    same_Some j (a + i) (sym h ∙ number_at a n i less)

within_at : (n : ℕ) (xs : List Value) (i : ℕ) (y : Value) → AreWithin n xs → slice_get xs i ≡ Some y → IsWithin n y
within_at n [] i y h e = absurd (cc)
within_at n (x ∷ xs) zero y h e = subst (IsWithin n) (same_Some x y e) h.0
within_at n (x ∷ xs) (suc i) y h e = within_at n xs i y h.1 e

closed_at : (n : ℕ) (os : List Object) (i : ℕ) (o : Object) → AllByRecursion (λ (x : Object). AreWithin n x.parts) os → slice_get os i ≡ Some o → AreWithin n o.parts
closed_at n [] i o h e = absurd (cc)
closed_at n (x ∷ xs) zero o h e = subst (λ (x : Object). AreWithin n x.parts) (same_Some x o e) h.0
closed_at n (x ∷ xs) (suc i) o h e = closed_at n xs i o h.1 e

within_first : (n : ℕ) (xs ys : List Value) → AreWithin n (xs ++ ys) → AreWithin n xs
within_first n [] ys h = tt
within_first n (x ∷ xs) ys h = (h.0, within_first n xs ys h.1)

within_later : (n : ℕ) (xs ys : List Value) → AreWithin n (xs ++ ys) → AreWithin n ys
within_later n [] ys h = h
within_later n (x ∷ xs) ys h = within_later n xs ys h.1

module _ (n : ℕ) where
  maps_itself : (x : Value) → IsWithin n x → Maps (slice_get (numbers 0 n)) x x
  maps_itself (v.Int z) h = refl
  maps_itself v.Null h = tt
  maps_itself (v.Obj o) h = itself_at n o h

  all_themselves : (xs : List Value) → AreWithin n xs → AllZip (Maps (slice_get (numbers 0 n))) xs xs
  all_themselves [] h = tt
  all_themselves (x ∷ xs) h = (maps_itself x h.0, all_themselves xs h.1)

  given_itself : (x : Option Value) → AreWithin n (option_to_list x) → MapsIf (slice_get (numbers 0 n)) x x
  given_itself None h = tt
  given_itself (Some x) h = maps_itself x h.0

  call_itself : (e : CallEvent) → AreWithin n (roots_of_call e) → SameCall (slice_get (numbers 0 n)) e e
  call_itself e h =
      let both = within_first n (e.args ++ e.seen) (option_to_list e.gives) h in
      record {
        function = refl;
        args = all_themselves e.args (within_first n e.args e.seen both);
        seen = all_themselves e.seen (within_later n e.args e.seen both);
        gives = given_itself e.gives (within_later n (e.args ++ e.seen) (option_to_list e.gives) h);
      }

  log_itself : (log : List Logged) → AllByRecursion (λ (x : Logged). AreWithin n (roots_of_call x.event)) log → SameLogs (numbers 0 n) log log
  log_itself [] h = tt
  log_itself (x ∷ xs) h = (record { event = call_itself x.event h.0; bytes = omega arith }, log_itself xs h.1)

prebuilts_there : (t : Table) (w : World) → HasPrebuilts t w → length t.prebuilts ≤ length w.objects
prebuilts_there t w h =
    let whole : length (map extent w.objects) ≡ length (map (λ row. extent (prebuilt_object row)) t.prebuilts) + length h.0 = ap length h.1 ∙ length-append (map (λ row. extent (prebuilt_object row)) t.prebuilts) h.0 in
    let after : length (map extent w.objects) ≡ length w.objects = length-map w.objects extent in
    let before : length (map (λ row. extent (prebuilt_object row)) t.prebuilts) ≡ length t.prebuilts = length-map t.prebuilts (λ row. extent (prebuilt_object row)) in
    omega arith

module _ (binding : BindingLaws) (t : Table) (bs : List BoxId) (vs : List Value) (w : World) (there : AreThere w) where
  at : Place
  at = place_with (plain_entry bs) w vs w (numbers 0 (length w.objects)) []

  boxes_named : (box : BoxId → Option Value) (cs : List BoxId) (xs : List Value) → AllZip (λ b x. box b ≡ Some x) cs xs → AreWithin (length w.objects) xs
      → AllZip (ValIs (record { box = box; rec = w; opt = w; mapped = numbers 0 (length w.objects); virtuals = [] })) (map (λ b. Known (Of b)) cs) xs
  boxes_named box [] [] h in_store = tt
  boxes_named box [] (x ∷ xs) h in_store = absurd h
  boxes_named box (c ∷ cs) [] h in_store = absurd h
  boxes_named box (c ∷ cs) (x ∷ xs) h in_store = ((x, h.0, maps_itself (length w.objects) x in_store.0), boxes_named box cs xs h.1 in_store.1)

  same_object : (x j : ℕ) → slice_get (numbers 0 (length w.objects)) x ≡ Some j → x ≡ j
  same_object x j h = let e : j ≡ 0 + x = number_is 0 (length w.objects) x j h in omega arith

  parts_agree : (x j i : ℕ) (a b : Object) (y : Value) → slice_get w.objects x ≡ Some a → slice_get (numbers 0 (length w.objects)) x ≡ Some j → slice_get w.objects j ≡ Some b → slice_get b.parts i ≡ Some y → MapsIf (slice_get (numbers 0 (length w.objects))) (slice_get a.parts i) (Some y)
  parts_agree x j i a b y ea em eb ey =
      let same : a ≡ b = same_Some a b (sym ea ∙ ap (slice_get w.objects) (same_object x j em) ∙ eb) in
      let within = within_at (length w.objects) b.parts i y (closed_at (length w.objects) w.objects j b there.parts eb) ey in
      let here : slice_get a.parts i ≡ Some y = ap (λ (o : Object). slice_get o.parts i) same ∙ ey in
      subst (λ s. MapsIf (slice_get (numbers 0 (length w.objects))) s (Some y)) (sym here) (maps_itself (length w.objects) y within)

  not_live : (n : ℕ) → IsLive [] n → ⊥
  not_live n h = let none : None ≡ Some (Some h.0) = h.1 in cc

  pub admits-itself : AreDistinct bs → map kind_of_value vs ≡ map (λ (b : BoxId). b.kind) bs → HasPrebuilts t w → AreWithin (length w.objects) vs → Admits t (plain_entry bs) vs w vs w
  admits-itself distinct kinds first in_store =
      let n = length w.objects in
      let prebuilts : length t.prebuilts ≤ n = prebuilts_there t w first in
      let long : length vs ≡ length bs = sym (length-map vs kind_of_value) ∙ ap length kinds ∙ length-map bs (λ (b : BoxId). b.kind) in
      record {
        mapped = numbers 0 n;
        virtuals = [];
        label_fits = kinds;
        values = boxes_named (value_in (bound_to bs vs)) bs vs (binding.all_each [] bs vs distinct long) in_store;
        agrees = record {
          first = first;
          covers = numbers_long 0 n;
          counts = refl;
          injective = record {
            one_to_one = λ x y j ex ey. same_object x j ex ∙ sym (same_object y j ey);
            prebuilt = λ x h. itself_at n x (omega arith);
          };
          alike = λ x j a ea em. (a, ap (slice_get w.objects) (sym (same_object x j em)) ∙ ea, record { of = refl; parts = refl });
          outside = λ k j x live e. absurd (not_live k live);
          apart = λ k m j live other e f. absurd (not_live k live);
          shaped = λ k s e. absurd (not_live k (s, e));
          names = λ b. tt;
          parts = λ x j i a b y ea em eb ey. inr (parts_agree x j i a b y ea em eb ey);
          pending = tt;
          facts = tt;
          calls = log_itself n w.log there.calls;
          answers = refl;
          failures = refl;
        };
      }
