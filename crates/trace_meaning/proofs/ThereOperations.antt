-- What operations name is there.
use Rattle.std.proofs.Common.{◌≡◌, ℕ, ◌+◌, ◌<◌, ◌≤◌, Bool, true, false, Option, Some, None, List, [], ◌∷◌, ◌++◌, length, map, drop, slice_get, set, refl, sym, ◌∙◌, subst, arith, ℤ, pos}
use Rattle.std.specs.Prelude.{option_and_then, ◌&&◌}
use Rattle.std.specs.Option.{option_map, option_to_list}
use Rattle.std.specs.List.{All, flat_map, list_all}
use Rattle.std.proofs.lemmas.Bool.{and_parts, ltb-true}
use Rattle.std.proofs.lemmas.List.{length-map, length-set, length-append}
use Rattle.std.proofs.lemmas.List.Elements.{All-nil, All-cons, All-head, All-tail, All-append, All-set, All-replicate, All-filter}
use Rattle.lists.proofs.Alls.{all_at, all_weaker}
use Rattle.trace_ops.specs.declared.code.OpCode.{OpCode}
use Rattle.trace_ops.specs.declared.code.OpCode.TheVariants as code
use Rattle.trace_ops.specs.declared.trace.Kind.{Kind}
use Rattle.trace_ops.specs.declared.trace.Kind.TheVariants as kind
use Rattle.trace_ops.specs.declared.trace.Arg.{Arg}
use Rattle.trace_ops.specs.declared.trace.Descr.{Descr}
use Rattle.trace_ops.specs.declared.trace.Descr.TheVariants as descr
use Rattle.trace_ops.specs.declared.piece.Spot.{Spot}
use Rattle.trace_ops.specs.declared.piece.Spot.TheVariants as spot
use Rattle.trace_ops.specs.declared.table.FieldRow.{FieldRow}
use Rattle.trace_ops.specs.declared.table.ArrayRow.{ArrayRow}
use Rattle.trace_ops.specs.declared.table.CallRow.{CallRow}
use Rattle.trace_ops.specs.declared.table.Table.{Table}
use Rattle.trace_meaning.specs.declared.value.Value.{Value}
use Rattle.trace_meaning.specs.declared.value.Value.TheVariants as v
use Rattle.trace_meaning.specs.declared.value.Object.{Object}
use Rattle.trace_meaning.specs.declared.call.Give.{Give}
use Rattle.trace_meaning.specs.declared.call.Give.TheVariants as give
use Rattle.trace_meaning.specs.declared.call.AnswerStore.{AnswerStore}
use Rattle.trace_meaning.specs.declared.call.Answer.{Answer}
use Rattle.trace_meaning.specs.Values.{zero_of, references, is_reference}
use Rattle.trace_meaning.specs.World.{World, Logged, bytes_in}
use Rattle.trace_meaning.specs.Objects.{read, read_in, part_of_object, place_of, write, write_unfrozen, is_frozen, written, with_part, with_object, with_new, place_within, length_at, zeroed, zero_field, zero_item, fields_of, cleared, index_of}
use Rattle.trace_meaning.specs.Folding.{fold, one_reference, reference_in, compared, fold_words}
use Rattle.trace_meaning.specs.Answers.{seen_of, same_result, kind_given, is_named, store_fits, store_fits_field, may_be_stored, fits, value_given, value_stored, or_same, write_given, store_done, stores_done, new_object, with_fresh, answer_done}
use Rattle.trace_meaning.specs.Performing.{Done, Gave, Bad, Waited, Misfitted, value_done, write_done, overflowing, get_field, set_field, get_item, set_item, get_length, make_structure, make_items, make_array, event_of, with_call, answered_if, called_first, call_row, call_function, call, function_in, perform}
use Rattle.trace_meaning.specs.Kinds.{IsThere}
use Rattle.trace_meaning.specs.There.{HasRoomFor, HasItsParts, MayBeThere, CallIsThere, AllIsThere}

-- Where there are more objects

there_more : (m n : ℕ) (x : Value) → m ≤ n → IsThere m x → IsThere n x
there_more m n (v.Int z) le h = tt
there_more m n v.Null le h = tt
there_more m n (v.Obj k) le h = let less : k < m = h in omega arith

pub all_more : (m n : ℕ) (xs : List Value) → m ≤ n → All (IsThere m) xs → All (IsThere n) xs
all_more m n xs le h = all_weaker (IsThere m) (IsThere n) xs (λ x k. there_more m n x le k) h

may_more : (m n : ℕ) (x : Option Value) → m ≤ n → MayBeThere m x → MayBeThere n x
may_more m n None le h = tt
may_more m n (Some x) le h = there_more m n x le h

abbrev PartsThere : ℕ → Object → Type 0
PartsThere n o = All (IsThere n) o.parts

abbrev CallThere : ℕ → Logged → Type 0
CallThere n x = CallIsThere n x.event

calls_more : (m n : ℕ) (log : List Logged) → m ≤ n → All (CallThere m) log → All (CallThere n) log
calls_more m n log le h = all_weaker (CallThere m) (CallThere n) log (λ x k. record { args = all_more m n x.event.args le k.args; seen = all_more m n x.event.seen le k.seen; gives = may_more m n x.event.gives le k.gives }) h

objects_more : (m n : ℕ) (os : List Object) → m ≤ n → All (PartsThere m) os → All (PartsThere n) os
objects_more m n os le h = all_weaker (PartsThere m) (PartsThere n) os (λ o k. all_more m n o.parts le k) h

-- what holds of the objects, whatever was called
pub record ObjectsThere (t : Table) (w : World) : Type 0 where
  pub whole : All (HasItsParts t) w.objects
  pub parts : All (PartsThere (length w.objects)) w.objects

pub objects-there : (t : Table) (w : World) → AllIsThere t w → ObjectsThere t w
objects-there t w h = record { whole = h.whole; parts = h.parts }

-- no fewer objects, whole and naming what is there; the calls are those before
pub record Stays (t : Table) (w u : World) : Type 0 where
  pub more : length w.objects ≤ length u.objects
  pub whole : All (HasItsParts t) u.objects
  pub parts : All (PartsThere (length u.objects)) u.objects
  pub log : u.log ≡ w.log

stays-same : (t : Table) (w : World) → ObjectsThere t w → Stays t w w
stays-same t w h = record { more = omega arith; whole = h.whole; parts = h.parts; log = refl }

pub all-stays : (t : Table) (w u : World) → AllIsThere t w → Stays t w u → AllIsThere t u
all-stays t w u h s = record {
  whole = s.whole;
  parts = s.parts;
  calls = subst (λ l. All (CallThere (length u.objects)) l) (sym s.log) (calls_more (length w.objects) (length u.objects) w.log s.more h.calls);
}

abbrev StaysIf : Table → World → Option World → Type 0
StaysIf t w None = Unit {0}
StaysIf t w (Some u) = Stays t w u

-- Reads

module _ (n : ℕ) where
  part_there : (o : Object) → PartsThere n o → (i : Option ℕ) → MayBeThere n (option_and_then (slice_get o.parts) i)
  part_there o h None = tt
  part_there o h (Some i) = at_place (slice_get o.parts i) refl
    where
      at_place : (x : Option Value) → slice_get o.parts i ≡ x → MayBeThere n x
      at_place None e = tt
      at_place (Some x) e = all_at (IsThere n) o.parts i x h e

  object_there : (t : Table) (at : Spot) (objects : List Object) (k : ℕ) → All (PartsThere n) objects → (o : Option Object) → slice_get objects k ≡ o → MayBeThere n (option_and_then (part_of_object t at) o)
  object_there t at objects k h None e = tt
  object_there t at objects k h (Some o) e = part_there o (all_at (PartsThere n) objects k o h e) (place_of t o.of at)

  read_there : (t : Table) (at : Spot) (base : Value) (objects : List Object) → All (PartsThere n) objects → MayBeThere n (read_in t at base objects)
  read_there t at (v.Obj k) objects h = object_there t at objects k h (slice_get objects k) refl
  read_there t at (v.Int z) objects h = tt
  read_there t at v.Null objects h = tt

-- Writes and new objects

module _ (t : Table) where
  with_object_stays : (k i : ℕ) (w : World) (o : Object) (x : Value) → ObjectsThere t w → IsThere (length w.objects) x → slice_get w.objects k ≡ Some o → Stays t w (with_object k w (with_part o i x))
  with_object_stays k i w o x h there e =
      let n = length w.objects in
      let os : List Object = set w.objects k (with_part o i x) in
      let count : length os ≡ length w.objects = length-set w.objects k (with_part o i x) in
      let parts : All (PartsThere n) os = All-set (PartsThere n) w.objects k (with_part o i x) (All-set (IsThere n) o.parts i x there (all_at (PartsThere n) w.objects k o h.parts e)) h.parts in
      record {
        more = omega arith;
        whole = All-set (HasItsParts t) w.objects k (with_part o i x) (subst (λ m. HasRoomFor t o.of m) (sym (length-set o.parts i x)) (all_at (HasItsParts t) w.objects k o h.whole e)) h.whole;
        parts = subst (λ m. All (PartsThere m) os) (sym count) parts;
        log = refl;
      }

  placed : (k : ℕ) (w : World) (o : Object) (x : Value) (place : Option ℕ) → ObjectsThere t w → IsThere (length w.objects) x → slice_get w.objects k ≡ Some o → StaysIf t w (option_map (with_object k w) (option_map (λ i. with_part o i x) place))
  placed k w o x None h there e = tt
  placed k w o x (Some i) h there e = with_object_stays k i w o x h there e

  found : (at : Spot) (k : ℕ) (x : Value) (w : World) (o : Option Object) → ObjectsThere t w → IsThere (length w.objects) x → slice_get w.objects k ≡ o → StaysIf t w (option_map (with_object k w) (option_and_then (written t at x) o))
  found at k x w None h there e = tt
  found at k x w (Some o) h there e = placed k w o x (place_within t at o) h there e

  unfrozen : (b : Bool) (at : Spot) (k : ℕ) (x : Value) (w : World) → ObjectsThere t w → IsThere (length w.objects) x → StaysIf t w (write_unfrozen b t at k x w)
  unfrozen true at k x w h there = tt
  unfrozen false at k x w h there = found at k x w (slice_get w.objects k) h there refl

  write_stays : (at : Spot) (base x : Value) (w : World) → ObjectsThere t w → IsThere (length w.objects) x → StaysIf t w (write t at base x w)
  write_stays at (v.Obj k) x w h there = unfrozen (is_frozen t at k) at k x w h there
  write_stays at (v.Int z) x w h there = tt
  write_stays at v.Null x w h there = tt

  with_new_stays : (o : Object) (w : World) → ObjectsThere t w → HasItsParts t o → All (IsThere (length w.objects)) o.parts → Stays t w (with_new o w)
  with_new_stays o w h whole parts =
      let n = length w.objects in
      let count : length (w.objects ++ o ∷ []) ≡ length w.objects + 1 = length-append w.objects (o ∷ []) in
      let le : length w.objects ≤ length (w.objects ++ o ∷ []) = omega arith in
      let m = length (w.objects ++ o ∷ []) in
      record {
        more = le;
        whole = All-append (HasItsParts t) w.objects (o ∷ []) h.whole (All-cons (HasItsParts t) o [] whole (All-nil (HasItsParts t)));
        parts = All-append (PartsThere m) w.objects (o ∷ []) (objects_more n m w.objects le h.parts) (All-cons (PartsThere m) o [] (all_more n m o.parts le parts) (All-nil (PartsThere m)));
        log = refl;
      }

  new_there : (o : Object) (w : World) → length w.objects < length (with_new o w).objects
  new_there o w = let count : length (w.objects ++ o ∷ []) ≡ length w.objects + 1 = length-append w.objects (o ∷ []) in omega arith

  zero_there : (n : ℕ) (k : Kind) → IsThere n (zero_of k)
  zero_there n kind.Int = tt
  zero_there n kind.Ref = tt

  field_there : (n : ℕ) (r : Option FieldRow) → IsThere n (zero_field r)
  field_there n None = tt
  field_there n (Some r) = zero_there n r.kind

  item_there : (n : ℕ) (r : Option ArrayRow) → IsThere n (zero_item r)
  item_there n None = tt
  item_there n (Some r) = zero_there n r.kind

  fields_there : (n : ℕ) (fs : List ℕ) → All (IsThere n) (map (λ f. zero_field (slice_get t.fields f)) fs)
  fields_there n [] = All-nil (IsThere n)
  fields_there n (f ∷ fs) = All-cons (IsThere n) (zero_field (slice_get t.fields f)) (map (λ f. zero_field (slice_get t.fields f)) fs) (field_there n (slice_get t.fields f)) (fields_there n fs)

  zeroed_stays : (s : ℕ) (w : World) → ObjectsThere t w → Stays t w (with_new (zeroed t s) w)
  zeroed_stays s w h = with_new_stays (zeroed t s) w h (length-map (fields_of t s) (λ f. zero_field (slice_get t.fields f))) (fields_there (length w.objects) (fields_of t s))

  cleared_stays : (a n : ℕ) (w : World) → ObjectsThere t w → Stays t w (with_new (cleared t a n) w)
  cleared_stays a n w h = with_new_stays (cleared t a n) w h tt (All-replicate (IsThere (length w.objects)) n (zero_item (slice_get t.arrays a)) (item_there (length w.objects) (slice_get t.arrays a)))

  -- An operation

  -- what it leaves names what is there, and so does what it gives
  abbrev pub DoneThere : World → Done → Type 0
  DoneThere w (Gave x u) = (length w.objects ≤ length u.objects) × AllIsThere t u × MayBeThere (length u.objects) x
  DoneThere w Bad = Unit {0}
  DoneThere w (Waited u) = AllIsThere t u
  DoneThere w (Misfitted u) = AllIsThere t u

  value_done_there : (w : World) (x : Option Value) → AllIsThere t w → MayBeThere (length w.objects) x → DoneThere w (value_done w x)
  value_done_there w None h k = tt
  value_done_there w (Some x) h k = (omega arith, h, k)

  write_done_there : (w : World) (u : Option World) → AllIsThere t w → StaysIf t w u → DoneThere w (write_done u)
  write_done_there w None h k = tt
  write_done_there w (Some u) h k = (k.more, all-stays t w u h k, tt)

  made_there : (w u : World) (x : Value) → AllIsThere t w → Stays t w u → IsThere (length u.objects) x → DoneThere w (Gave (Some x) u)
  made_there w u x h s k = (s.more, all-stays t w u h s, k)

  -- Calls

  refs_at : (n : ℕ) (refs : List Value) (k : ℕ) → All (IsThere n) refs → (x : Option Value) → slice_get refs k ≡ x → MayBeThere n x
  refs_at n refs k h None e = tt
  refs_at n refs k h (Some x) e = all_at (IsThere n) refs k x h e

  stored_there : (n : ℕ) (refs : List Value) (g : Give) → length t.prebuilts ≤ n → All (IsThere n) refs → is_named t (length refs) g ≡ true → MayBeThere n (value_stored refs g)
  stored_there n refs give.Nothing le h named = tt
  stored_there n refs (give.Int z) le h named = tt
  stored_there n refs give.Null le h named = tt
  stored_there n refs (give.Arg k) le h named = refs_at n refs k h (slice_get refs k) refl
  stored_there n refs (give.Prebuilt k) le h named = let less : k < length t.prebuilts = ltb-true k (length t.prebuilts) named in omega arith
  stored_there n refs (give.New k) le h named = tt

  three_parts : (a b c : Bool) → (a && b && c) ≡ true → (a ≡ true) × (b ≡ true) × (c ≡ true)
  three_parts true b c h = (refl, (and_parts b c h).0, (and_parts b c h).1)
  three_parts false b c h = absurd (cc)

  or_same_stays : (w : World) (u : Option World) → ObjectsThere t w → StaysIf t w u → Stays t w (or_same w u)
  or_same_stays w None h k = stays-same t w h
  or_same_stays w (Some u) h k = k

  given_stays : (f : ℕ) (w : World) (base x : Option Value) → ObjectsThere t w → MayBeThere (length w.objects) x → StaysIf t w (write_given t f w base x)
  given_stays f w (Some base) (Some x) h k = write_stays (spot.Field f) base x w h k
  given_stays f w None x h k = tt
  given_stays f w (Some base) None h k = tt

  -- a store that fits stores what is named
  store_named : (row : CallRow) (refs : List Value) (objects : List Object) (s : AnswerStore) (field : Option FieldRow) → store_fits_field t row refs objects s field ≡ true → is_named t (length refs) s.value ≡ true
  store_named row refs objects s None fit = absurd (cc)
  store_named row refs objects s (Some field) fit =
      let parts = three_parts (may_be_stored t (length refs) field.kind s.value) _ _ fit in
      (three_parts (same_result (kind_given s.value) (Some field.kind)) _ (is_named t (length refs) s.value) parts.0).2

  twice : (a b c : World) → Stays t a b → Stays t b c → Stays t a c
  twice a b c g h =
      let first : length a.objects ≤ length b.objects = g.more in
      let second : length b.objects ≤ length c.objects = h.more in
      record { more = omega arith; whole = h.whole; parts = h.parts; log = h.log ∙ g.log }

  stores_stay : (row : CallRow) (refs : List Value) (objects : List Object) (stores : List AnswerStore) (n : ℕ) (w : World) → length t.prebuilts ≤ n → n ≤ length w.objects → All (IsThere n) refs → list_all (store_fits t row refs objects) stores ≡ true → ObjectsThere t w → Stays t w (stores_done t refs stores w)
  stores_stay row refs objects [] n w pre le h fit there = stays-same t w there
  stores_stay row refs objects (s ∷ rest) n w pre le h fit there =
      let each = and_parts (store_fits t row refs objects s) (list_all (store_fits t row refs objects) rest) fit in
      let named = store_named row refs objects s (slice_get t.fields s.field) each.0 in
      let value : MayBeThere (length w.objects) (value_stored refs s.value) = may_more n (length w.objects) (value_stored refs s.value) le (stored_there n refs s.value pre h named) in
      let one : Stays t w (store_done t refs s w) = or_same_stays w (write_given t s.field w (slice_get refs s.arg) (value_stored refs s.value)) there (given_stays s.field w (slice_get refs s.arg) (value_stored refs s.value) there value) in
      let grown : length w.objects ≤ length (store_done t refs s w).objects = one.more in
      twice w (store_done t refs s w) (stores_done t refs rest (store_done t refs s w)) one
      (stores_stay row refs objects rest n (store_done t refs s w) pre (omega arith) h each.1 (record { whole = one.whole; parts = one.parts }))

  seen_there : (n : ℕ) (objects : List Object) (f : ℕ) (base : Value) → All (PartsThere n) objects → All (IsThere n) (option_to_list (read_in t (spot.Field f) base objects))
  seen_there n objects f base h = maybe (read_in t (spot.Field f) base objects) (read_there n t (spot.Field f) base objects h)
    where
      maybe : (x : Option Value) → MayBeThere n x → All (IsThere n) (option_to_list x)
      maybe None k = All-nil (IsThere n)
      maybe (Some x) k = All-cons (IsThere n) x [] k (All-nil (IsThere n))

  seen_there_of : (n : ℕ) (objects : List Object) (reads : List ℕ) (base : Value) → All (PartsThere n) objects → All (IsThere n) (seen_of t objects reads base)
  seen_there_of n objects [] base h = All-nil (IsThere n)
  seen_there_of n objects (f ∷ fs) base h = All-append (IsThere n) (option_to_list (read_in t (spot.Field f) base objects)) (seen_of t objects fs base) (seen_there n objects f base h) (seen_there_of n objects fs base h)

  all_seen_there : (n : ℕ) (objects : List Object) (reads : List ℕ) (refs : List Value) → All (PartsThere n) objects → All (IsThere n) (flat_map (seen_of t objects reads) refs)
  all_seen_there n objects reads [] h = All-nil (IsThere n)
  all_seen_there n objects reads (x ∷ xs) h = All-append (IsThere n) (seen_of t objects reads x) (flat_map (seen_of t objects reads) xs) (seen_there_of n objects reads x h) (all_seen_there n objects reads xs h)

  -- the call stands last, where what it gave is there
  logged_there : (row : CallRow) (function : ℕ) (vs : List Value) (gives : Option Value) (w u : World) → AllIsThere t w → All (IsThere (length w.objects)) vs → MayBeThere (length u.objects) gives → length w.objects ≤ length u.objects
      → All (HasItsParts t) u.objects → All (PartsThere (length u.objects)) u.objects → u.log ≡ (with_call t (event_of t row function vs gives w) w).log → AllIsThere t u
  logged_there row function vs gives w u h args given le whole parts log =
      let n = length u.objects in
      let x : Logged = record { event = event_of t row function vs gives w; bytes = bytes_in t w } in
      let one : CallIsThere n x.event = record { args = all_more (length w.objects) n vs le args; seen = all_more (length w.objects) n x.event.seen le (all_seen_there (length w.objects) w.objects row.reads (references vs) h.parts); gives = given } in
      record {
        whole = whole;
        parts = parts;
        calls = subst (λ l. All (CallThere n) l) (sym log) (All-append (CallThere n) w.log (x ∷ []) (calls_more (length w.objects) n w.log le h.calls) (All-cons (CallThere n) x [] one (All-nil (CallThere n))));
      }

  waits_there : (row : CallRow) (function : ℕ) (vs : List Value) (w : World) → AllIsThere t w → All (IsThere (length w.objects)) vs → AllIsThere t (with_call t (event_of t row function vs None w) w)
  waits_there row function vs w h args = logged_there row function vs None w (with_call t (event_of t row function vs None w) w) h args tt (omega arith) h.whole h.parts refl

  fresh_stays : (g : Give) (w : World) → ObjectsThere t w → Stays t w (with_fresh (new_object t g) w)
  fresh_stays (give.New k) w h = zeroed_stays k w h
  fresh_stays give.Nothing w h = stays-same t w h
  fresh_stays (give.Int z) w h = stays-same t w h
  fresh_stays give.Null w h = stays-same t w h
  fresh_stays (give.Arg k) w h = stays-same t w h
  fresh_stays (give.Prebuilt k) w h = stays-same t w h

  given_there : (refs : List Value) (g : Give) (w : World) (m : ℕ) → length t.prebuilts ≤ length w.objects → All (IsThere (length w.objects)) refs → is_named t (length refs) g ≡ true → length (with_fresh (new_object t g) w).objects ≤ m → MayBeThere m (value_given refs (length w.objects) g)
  given_there refs give.Nothing w m pre h named le = tt
  given_there refs (give.Int z) w m pre h named le = tt
  given_there refs give.Null w m pre h named le = tt
  given_there refs (give.Arg k) w m pre h named le = may_more (length w.objects) m (slice_get refs k) le (refs_at (length w.objects) refs k h (slice_get refs k) refl)
  given_there refs (give.Prebuilt k) w m pre h named le = let less : k < length t.prebuilts = ltb-true k (length t.prebuilts) named in omega arith
  given_there refs (give.New k) w m pre h named le = let less : length w.objects < length (with_new (zeroed t k) w).objects = new_there (zeroed t k) w in omega arith

  answered_there : (fit : Bool) (row : CallRow) (function : ℕ) (vs : List Value) (a : Answer) (rest : List Answer) (w : World) → length t.prebuilts ≤ length w.objects → AllIsThere t w → All (IsThere (length w.objects)) vs → fits t row (references vs) w.objects a ≡ fit → DoneThere w (answered_if fit t row function vs a rest w)
  answered_there false row function vs a rest w pre h args e = waits_there row function vs w h args
  answered_there true row function vs a rest w pre h args e =
      let refs : All (IsThere (length w.objects)) (references vs) = All-filter is_reference (IsThere (length w.objects)) vs args in
      let gives : Option Value = value_given (references vs) (length w.objects) a.gives in
      let taken : World = record (with_call t (event_of t row function vs gives w) w) { answers = rest } in
      let parts = three_parts (same_result (kind_given a.gives) row.result) (is_named t (length (references vs)) a.gives) (list_all (store_fits t row (references vs) w.objects) a.stores) e in
      let f : World = with_fresh (new_object t a.gives) taken in
      let u : World = answer_done t (references vs) a taken in
      let fresh : Stays t taken f = fresh_stays a.gives taken (record { whole = h.whole; parts = h.parts }) in
      let two : Stays t f u = stores_stay row (references vs) w.objects a.stores (length w.objects) f pre fresh.more refs parts.2 (record { whole = fresh.whole; parts = fresh.parts }) in
      let first : length w.objects ≤ length f.objects = fresh.more in
      let second : length f.objects ≤ length u.objects = two.more in
      let le : length w.objects ≤ length u.objects = omega arith in
      let given : MayBeThere (length u.objects) gives = given_there (references vs) a.gives taken (length u.objects) pre refs parts.1 second in
      (le, logged_there row function vs gives w u h args given le two.whole two.parts (two.log ∙ fresh.log), given)

  first_there : (row : CallRow) (function : ℕ) (vs : List Value) (w : World) (answers : List Answer) → length t.prebuilts ≤ length w.objects → AllIsThere t w → All (IsThere (length w.objects)) vs → DoneThere w (called_first t row function vs (slice_get answers 0) (drop 1 answers) w)
  first_there row function vs w [] pre h args = waits_there row function vs w h args
  first_there row function vs w (a ∷ rest) pre h args = answered_there (fits t row (references vs) w.objects a) row function vs a rest w pre h args refl

  row_there : (row : Option CallRow) (function : ℕ) (vs : List Value) (w : World) → length t.prebuilts ≤ length w.objects → AllIsThere t w → All (IsThere (length w.objects)) vs → DoneThere w (call_row t row function vs w)
  row_there None function vs w pre h args = tt
  row_there (Some row) function vs w pre h args = first_there row function vs w w.answers pre h args

  function_there : (k : ℕ) (function : Option ℕ) (vs : List Value) (w : World) → length t.prebuilts ≤ length w.objects → AllIsThere t w → All (IsThere (length w.objects)) vs → DoneThere w (call_function t k function vs w)
  function_there k None vs w pre h args = tt
  function_there k (Some function) vs w pre h args = row_there (slice_get t.calls k) function vs w pre h args

  call_there : (d : Descr) (args : List Arg) (vs : List Value) (w : World) → length t.prebuilts ≤ length w.objects → AllIsThere t w → All (IsThere (length w.objects)) vs → DoneThere w (call t d args vs w)
  call_there (descr.Call k) args vs w pre h there = function_there k (function_in args) vs w pre h there
  call_there _ args vs w pre h there = tt

  -- The others

  overflow_there : (exact : ℤ → ℤ → ℤ) (vs : List Value) (w : World) → AllIsThere t w → DoneThere w (overflowing exact vs w)
  overflow_there exact (v.Int a ∷ v.Int b ∷ []) w h = (omega arith, record { whole = h.whole; parts = h.parts; calls = h.calls }, tt)
  overflow_there exact _ w h = tt

  get_field_there : (d : Descr) (vs : List Value) (w : World) → AllIsThere t w → DoneThere w (get_field t d vs w)
  get_field_there (descr.Field f) (base ∷ []) w h = value_done_there w (read t (spot.Field f) base w) h (read_there (length w.objects) t (spot.Field f) base w.objects h.parts)
  get_field_there _ _ w h = tt

  get_item_there : (d : Descr) (vs : List Value) (w : World) → AllIsThere t w → DoneThere w (get_item t d vs w)
  get_item_there (descr.Array a) (base ∷ v.Int i ∷ []) w h = value_done_there w (read t (spot.Item a i) base w) h (read_there (length w.objects) t (spot.Item a i) base w.objects h.parts)
  get_item_there _ _ w h = tt

  set_field_there : (d : Descr) (vs : List Value) (w : World) → AllIsThere t w → All (IsThere (length w.objects)) vs → DoneThere w (set_field t d vs w)
  set_field_there (descr.Field f) (base ∷ x ∷ []) w h k =
      let n = length w.objects in
      write_done_there w (write t (spot.Field f) base x w) h (write_stays (spot.Field f) base x w (objects-there t w h) (All-head (IsThere n) x [] (All-tail (IsThere n) base (x ∷ []) k)))
  set_field_there _ _ w h k = tt

  set_item_there : (d : Descr) (vs : List Value) (w : World) → AllIsThere t w → All (IsThere (length w.objects)) vs → DoneThere w (set_item t d vs w)
  set_item_there (descr.Array a) (base ∷ v.Int i ∷ x ∷ []) w h k =
      let n = length w.objects in
      write_done_there w (write t (spot.Item a i) base x w) h (write_stays (spot.Item a i) base x w (objects-there t w h) (All-head (IsThere n) x [] (All-tail (IsThere n) (v.Int i) (x ∷ []) (All-tail (IsThere n) base (v.Int i ∷ x ∷ []) k))))
  set_item_there _ _ w h k = tt

  counted_there : (n : ℕ) (x : Option ℕ) → MayBeThere n (option_map (λ m. v.Int (pos m)) x)
  counted_there n None = tt
  counted_there n (Some m) = tt

  get_length_there : (d : Descr) (vs : List Value) (w : World) → AllIsThere t w → DoneThere w (get_length d vs w)
  get_length_there (descr.Array a) (base ∷ []) w h = value_done_there w (option_map (λ m. v.Int (pos m)) (length_at a base w)) h (counted_there (length w.objects) (length_at a base w))
  get_length_there _ _ w h = tt

  structure_there : (d : Descr) (w : World) → AllIsThere t w → DoneThere w (make_structure t d w)
  structure_there (descr.Size s) w h = made_there w (with_new (zeroed t s) w) (v.Obj (length w.objects)) h (zeroed_stays s w (objects-there t w h)) (new_there (zeroed t s) w)
  structure_there _ w h = tt

  items_there : (a : ℕ) (n : Option ℕ) (w : World) → AllIsThere t w → DoneThere w (make_items t a n w)
  items_there a None w h = tt
  items_there a (Some n) w h = made_there w (with_new (cleared t a n) w) (v.Obj (length w.objects)) h (cleared_stays a n w (objects-there t w h)) (new_there (cleared t a n) w)

  array_there : (d : Descr) (vs : List Value) (w : World) → AllIsThere t w → DoneThere w (make_array t d vs w)
  array_there (descr.Array a) (v.Int z ∷ []) w h = items_there a (index_of z) w h
  array_there _ _ w h = tt

  int_there : (n : ℕ) (x : Option ℤ) → MayBeThere n (option_map v.Int x)
  int_there n None = tt
  int_there n (Some z) = tt

  truth_there : (n : ℕ) (f : Bool → ℤ) (x : Option Bool) → MayBeThere n (option_map (λ b. v.Int (f b)) x)
  truth_there n f None = tt
  truth_there n f (Some b) = tt

  reference_there : (n : ℕ) (x : Value) → IsThere n x → MayBeThere n (reference_in x)
  reference_there n (v.Int z) h = tt
  reference_there n v.Null h = tt
  reference_there n (v.Obj k) h = h

  one_there : (n : ℕ) (vs : List Value) → All (IsThere n) vs → MayBeThere n (one_reference vs)
  one_there n (x ∷ []) h = reference_there n x (All-head (IsThere n) x [] h)
  one_there n _ h = tt

  pub perform-there : (operation : OpCode) (d : Descr) (args : List Arg) (vs : List Value) (w : World) → length t.prebuilts ≤ length w.objects → AllIsThere t w → All (IsThere (length w.objects)) vs → DoneThere w (perform t operation d args vs w)
  perform-there code.IntAddOvf d args vs w pre h k = overflow_there _ vs w h
  perform-there code.IntSubOvf d args vs w pre h k = overflow_there _ vs w h
  perform-there code.IntMulOvf d args vs w pre h k = overflow_there _ vs w h
  perform-there code.GetfieldGcI d args vs w pre h k = get_field_there d vs w h
  perform-there code.GetfieldGcR d args vs w pre h k = get_field_there d vs w h
  perform-there code.SetfieldGc d args vs w pre h k = set_field_there d vs w h k
  perform-there code.GetarrayitemGcI d args vs w pre h k = get_item_there d vs w h
  perform-there code.GetarrayitemGcR d args vs w pre h k = get_item_there d vs w h
  perform-there code.SetarrayitemGc d args vs w pre h k = set_item_there d vs w h k
  perform-there code.ArraylenGc d args vs w pre h k = get_length_there d vs w h
  perform-there code.New d args vs w pre h k = structure_there d w h
  perform-there code.NewWithVtable d args vs w pre h k = structure_there d w h
  perform-there code.NewArrayClear d args vs w pre h k = array_there d vs w h
  perform-there code.CallI d args vs w pre h k = call_there d args vs w pre h k
  perform-there code.CallR d args vs w pre h k = call_there d args vs w pre h k
  perform-there code.CallN d args vs w pre h k = call_there d args vs w pre h k
  perform-there code.SameAsR d args vs w pre h k = value_done_there w (one_reference vs) h (one_there (length w.objects) vs k)
  perform-there code.PtrEq d args vs w pre h k = value_done_there w (fold code.PtrEq vs) h (truth_there (length w.objects) _ (compared vs))
  perform-there code.PtrNe d args vs w pre h k = value_done_there w (fold code.PtrNe vs) h (truth_there (length w.objects) _ (compared vs))
  perform-there operation d args vs w pre h k = value_done_there w (option_map v.Int (fold_words operation vs)) h (int_there (length w.objects) (fold_words operation vs))
