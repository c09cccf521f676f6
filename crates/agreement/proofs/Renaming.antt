-- The same is known in other words.
use Rattle.std.proofs.Common.{◌≡◌, ℕ, zero, suc, Bool, true, false, cond, List, [], ◌∷◌, Option, Some, None, length, slice_get, map, refl, sym, ap, ◌∙◌, subst, inl, inr}
use Rattle.std.specs.Option.{option_map}
use Rattle.std.specs.List.{AllZip}
use Rattle.lists.proofs.Eaches.{each_map}
use Rattle.lists.proofs.Options.{some_same, none_some}
use Rattle.lists.proofs.Zips.{zip_map}
use Rattle.trace_ops.specs.declared.trace.BoxId.{BoxId}
use Rattle.trace_ops.specs.declared.trace.Arg.{Arg}
use Rattle.trace_ops.specs.declared.table.Table.{Table}
use Rattle.trace_ops.specs.declared.piece.Val.{Val}
use Rattle.trace_ops.specs.declared.piece.Val.TheVariants.{Known, Virtual}
use Rattle.trace_ops.specs.declared.piece.Shape.{Shape}
use Rattle.trace_ops.specs.declared.piece.Pending.{Pending}
use Rattle.trace_ops.specs.declared.piece.Fact.{Fact}
use Rattle.trace_ops.specs.declared.piece.Fact.TheVariants as fact
use Rattle.trace_meaning.specs.declared.value.Value.{Value}
use Rattle.trace_meaning.specs.declared.value.Value.TheVariants as v
use Rattle.trace_meaning.specs.Boxes.{BoxesDecide, Boxes, value_in, arg_value}
use Rattle.opt_meaning.specs.Agrees.{Facts, Place, ArgIs, ValIs, NameIs, IsPending, StoreIs, FactHolds, Agrees}
use Rattle.trace_meaning.specs.Boxes.{bind_all, has_value, with_first, all_values}
use Rattle.opt_meaning.specs.Admits.{at_entry, place_with}
use Rattle.agreement.specs.Growing.{named, with_box}
use Rattle.agreement.specs.Renaming.{renamed_val, renamed_shape, renamed_pending, renamed_fact, KeepsValues, RenamesAgree, named_all, EntryStarts, CallsAreSame}
use Rattle.agreement.proofs.Further.{first_parts}
use Rattle.agreement.proofs.Growing.{names_grow}

long_map : {X Y : Type 0} (f : X → Y) (xs : List X) → length (map f xs) ≡ length xs
long_map f [] = refl
long_map f (x ∷ xs) = ap suc (long_map f xs)

was : {X Y : Type 0} (f : X → Y) (xs : List (Option X)) (n : ℕ) (y : Y) → slice_get (map (option_map f) xs) n ≡ Some (Some y) → (x : X) × (slice_get xs n ≡ Some (Some x)) × (f x ≡ y)
was f [] n y e = absurd (none_some e)
was f (Some x ∷ xs) zero y e = (x, refl, some_same (some_same e))
was f (None ∷ xs) zero y e = absurd (none_some (some_same e))
was f (x ∷ xs) (suc n) y e = was f xs n y e

module _ (from to : BoxId → Option Value) (g : Arg → Arg) (r : BoxId → BoxId) (keeps : KeepsValues from to g r) where
  step : (a : Arg) (rest : List Arg) (ys : List Value) → ((zs : List Value) → all_values (arg_value from) rest ≡ Some zs → all_values (arg_value to) (map g rest) ≡ Some zs) → (h : Bool)
      → cond h (with_first (arg_value from a) (all_values (arg_value from) rest)) (all_values (arg_value from) rest) ≡ Some ys
      → cond h (with_first (arg_value to (g a)) (all_values (arg_value to) (map g rest))) (all_values (arg_value to) (map g rest)) ≡ Some ys
  step a rest ys next false e = next ys e
  step a rest ys next true e =
      let s = first_parts (arg_value from a) (all_values (arg_value from) rest) ys e in
      ap (λ x. with_first x (all_values (arg_value to) (map g rest))) (keeps.args a s.0 s.1) ∙ ap (with_first (Some s.0)) (next s.2 s.3) ∙ ap Some s.4

  values : (args : List Arg) (ys : List Value) → all_values (arg_value from) args ≡ Some ys → all_values (arg_value to) (map g args) ≡ Some ys
  values [] ys e = e
  values (a ∷ rest) ys e =
      ap (λ h. cond h (with_first (arg_value to (g a)) (all_values (arg_value to) (map g rest))) (all_values (arg_value to) (map g rest))) (keeps.valued a)
      ∙ step a rest ys (λ zs. values rest zs) (has_value a) e

module _ (t : Table) (at : Place) (to : BoxId → Option Value) (g : Arg → Arg) (r : BoxId → BoxId) (keeps : KeepsValues at.box to g r) where
  arg_renamed : (a : Arg) (y : Value) → ArgIs at a y → ArgIs (with_box at to) (g a) y
  arg_renamed a y w = (w.0, keeps.args a w.0 w.1, w.2)

  val_renamed : (x : Val) (y : Value) → ValIs at x y → ValIs (with_box at to) (renamed_val g x) y
  val_renamed (Known a) y w = arg_renamed a y w
  val_renamed (Virtual n) y w = w

  name_renamed : (x : Option Val) (y : Option Value) → NameIs at x y → NameIs (with_box at to) (option_map (renamed_val g) x) y
  name_renamed None None w = w
  name_renamed (Some x) (Some y) w = val_renamed x y w
  name_renamed None (Some y) w = w
  name_renamed (Some x) None w = w

  store_renamed : (p : Pending) → StoreIs t at p → StoreIs t (with_box at to) (renamed_pending g p)
  store_renamed p w = ((w.0.0, arg_renamed p.base w.0.0 w.0.1, w.0.2, w.0.3, val_renamed p.value w.0.2 w.0.4), (w.1.0, keeps.args p.base (v.Obj w.1.0) w.1.1, w.1.2))

  fact_renamed : (x : Fact) → FactHolds t at x → FactHolds t (with_box at to) (renamed_fact g r x)
  fact_renamed (fact.Between b low high) w = (w.0, keeps.boxes b (v.Int w.0) w.1, w.2, w.3)
  fact_renamed (fact.Nonnull b) w = (w.0, keeps.boxes b (v.Obj w.0) w.1)
  fact_renamed (fact.ClassOf b size) w = (w.0, keeps.boxes b (v.Obj w.0) w.1, w.2, w.3, w.4)
  fact_renamed (fact.Holds base spot value) w = (w.0, arg_renamed base w.0 w.1, w.2, w.3, arg_renamed value w.2 w.4)
  fact_renamed (fact.Same operation args value) w = (w.0, values at.box to g r keeps args w.0 w.1, w.2, w.3, keeps.args value w.2 w.4)

  pending_renamed : (ps : List Pending) (x i : ℕ) → IsPending t at ps x i → IsPending t (with_box at to) (map (renamed_pending g) ps) x i
  pending_renamed [] x i w = w
  pending_renamed (p ∷ ps) x i (inl w) = inl (keeps.args p.base (v.Obj x) w.0, w.1, w.2, w.3)
  pending_renamed (p ∷ ps) x i (inr w) = inr (pending_renamed ps x i w)

pub renames_agree : RenamesAgree
renames_agree t known boxes at h to g r keeps = record {
  first = h.first;
  covers = h.covers;
  counts = h.counts ∙ sym (long_map (option_map (renamed_shape g)) known.shapes);
  injective = h.injective;
  alike = h.alike;
  outside = λ n j x live. let w = was (renamed_shape g) known.shapes n live.0 live.1 in h.outside n j x (w.0, w.1);
  apart = λ m n j live other. let w = was (renamed_shape g) known.shapes m live.0 live.1 in let z = was (renamed_shape g) known.shapes n other.0 other.1 in h.apart m n j (w.0, w.1) (z.0, z.1);
  shaped = λ n s e.
      let w = was (renamed_shape g) known.shapes n s e in
      let k = h.shaped n w.0 w.1 in
      record {
        object = k.object;
        names = k.names;
        recorded = k.recorded;
        there = k.there;
        of = k.of ∙ ap (λ (z : Shape). z.of) w.2;
        parts = subst (λ (z : Shape). AllZip (ValIs (with_box at to)) z.parts k.recorded.parts) w.2 (zip_map (renamed_val g) (ValIs at) (ValIs (with_box at to)) (val_renamed t at to g r keeps) w.0.parts k.recorded.parts k.parts);
      };
  names = λ b. name_renamed t at to g r keeps (known.names b) (value_in boxes b) (h.names b);
  parts = λ x j i a b y e1 e2 e3 e4. elim (h.parts x j i a b y e1 e2 e3 e4) [ inl w ↦ inl (pending_renamed t at to g r keeps known.pending x i w) | inr w ↦ inr w ];
  pending = each_map (renamed_pending g) (StoreIs t at) (StoreIs t (with_box at to)) (store_renamed t at to g r keeps) known.pending h.pending;
  facts = each_map (renamed_fact g r) (FactHolds t at) (FactHolds t (with_box at to)) (fact_renamed t at to g r keeps) known.facts h.facts;
  calls = h.calls;
  answers = h.answers;
  failures = h.failures;
}

-- Where a piece begins

all_named : BoxesDecide → (t : Table) (at : Place) (bs : List BoxId) (xs : List Val) (vs : List Value) → AllZip (ValIs at) xs vs → (known : Facts) (boxes : Boxes) → Agrees t known boxes at → Agrees t (record known { names = named_all bs xs known.names }) (bind_all boxes bs vs) at
all_named d t at [] xs vs w known boxes h = h
all_named d t at (b ∷ bs) [] [] w known boxes h = h
all_named d t at (b ∷ bs) [] (y ∷ ys) w known boxes h = absurd w
all_named d t at (b ∷ bs) (x ∷ xs) [] w known boxes h = absurd w
all_named d t at (b ∷ bs) (x ∷ xs) (y ∷ ys) w known boxes h =
    all_named d t at bs xs ys w.1 (record known { names = named b x known.names }) _ (names_grow d t known boxes at h b x y w.0)

pub entry_starts : BoxesDecide → EntryStarts
entry_starts d t e inputs vs w us u a = all_named d t (place_with e w us u a.mapped a.virtuals) inputs e.values vs a.values (at_entry e) [] a.agrees

pub calls_are_same : CallsAreSame
calls_are_same t known boxes at h = record { mapped = at.mapped; lawful = h.injective; calls = h.calls }
