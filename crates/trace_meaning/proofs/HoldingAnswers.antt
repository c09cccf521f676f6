-- Answers that fit keep values of their kinds, and give one of the kind that the call wants.
use Rattle.std.proofs.Common.{◌≡◌, ℕ, zero, suc, ◌+◌, ◌<◌, ◌≤◌, Bool, true, false, cond, Option, Some, None, List, [], ◌∷◌, length, drop, slice_get, refl, ap, ◌∙◌, subst, arith}
use Rattle.std.specs.Prelude.{◌&&◌, not, IsSomeAnd}
use Rattle.std.specs.List.{list_all}
use Rattle.std.specs.Option.{option_map}
use Rattle.std.proofs.lemmas.Bool.{and_parts, ltb-true}
use Rattle.std.proofs.lemmas.Option.{same_Some}
use Rattle.trace_ops.specs.declared.trace.Kind.{Kind}
use Rattle.trace_ops.specs.declared.trace.Kind.TheVariants as kind
use Rattle.trace_ops.specs.declared.piece.Spot.TheVariants.{Field}
use Rattle.trace_ops.specs.declared.table.Table.{Table}
use Rattle.trace_ops.specs.declared.table.FieldRow.{FieldRow}
use Rattle.trace_ops.specs.declared.table.CallRow.{CallRow}
use Rattle.trace_meaning.specs.declared.value.Value.{Value}
use Rattle.trace_meaning.specs.declared.value.Value.TheVariants as v
use Rattle.trace_meaning.specs.declared.value.Object.{Object}
use Rattle.trace_meaning.specs.declared.call.Give.{Give}
use Rattle.trace_meaning.specs.declared.call.Give.TheVariants as give
use Rattle.trace_meaning.specs.declared.call.AnswerStore.{AnswerStore}
use Rattle.trace_meaning.specs.declared.call.Answer.{Answer}
use Rattle.trace_meaning.specs.Values.{is_reference, references}
use Rattle.trace_meaning.specs.World.{World}
use Rattle.trace_meaning.specs.Objects.{zeroed}
use Rattle.trace_meaning.specs.Answers.{same_result, kind_given, is_named, is_new, is_base, is_declared, may_be_stored, store_fits, store_fits_field, fits, value_given, value_stored, or_same, write_given, store_done, stores_done, new_object, with_fresh, answer_done}
use Rattle.trace_meaning.specs.Performing.{Done, Gave, Bad, Waited, Misfitted, event_of, with_call, answered_if, called_first, call_row, call_function}
use Rattle.trace_meaning.specs.Kinds.{IsValueOf}
use Rattle.trace_meaning.specs.Kinds.{AreOfKinds}
use Rattle.trace_meaning.proofs.OfKind.{IsValueOf-more}
use Rattle.trace_meaning.specs.Holding.{Holds, Keeps, KeepsIf, IsGiven, DoneHolds}
use Rattle.trace_meaning.proofs.Holding.{keeps-same, keeps-twice, KeepsIf-write, Keeps-with_new, new_is_there, PartsHold-zeroed}

-- References among values

abbrev AreReferences : ℕ → List Value → Type 0
AreReferences n xs = (k : ℕ) (x : Value) → slice_get xs k ≡ Some x → IsValueOf n kind.Ref x

reference_before : (n : ℕ) (x : Value) (rest : List Value) → IsValueOf n kind.Ref x → AreReferences n rest → AreReferences n (x ∷ rest)
reference_before n x rest h more zero y e = subst (λ z. IsValueOf n kind.Ref z) (same_Some x y e) h
reference_before n x rest h more (suc k) y e = more k y e

first_reference : (n : ℕ) (k : Kind) (x : Value) (rest : List Value) → IsValueOf n k x → AreReferences n rest → AreReferences n (cond (is_reference x) (x ∷ rest) rest)
first_reference n k (v.Int z) rest h more = more
first_reference n kind.Int v.Null rest h more = absurd h
first_reference n kind.Ref v.Null rest h more = reference_before n v.Null rest h more
first_reference n kind.Int (v.Obj o) rest h more = absurd h
first_reference n kind.Ref (v.Obj o) rest h more = reference_before n (v.Obj o) rest h more

references_held : (n : ℕ) (ks : List (Option Kind)) (xs : List Value) → AreOfKinds n ks xs → AreReferences n (references xs)
references_held n [] [] h = λ k x e. absurd (cc)
references_held n [] (x ∷ xs) h = absurd h
references_held n (None ∷ ks) xs h = references_held n ks xs h
references_held n (Some k ∷ ks) [] h = absurd h
references_held n (Some k ∷ ks) (x ∷ xs) h = first_reference n k x (references xs) h.0 (references_held n ks xs h.1)

-- What is given and stored

pub same_result_same : (a b : Option Kind) → same_result a b ≡ true → a ≡ b
same_result_same None None h = refl
same_result_same (Some kind.Int) (Some kind.Int) h = refl
same_result_same (Some kind.Ref) (Some kind.Ref) h = refl
same_result_same None (Some k) h = absurd (cc)
same_result_same (Some kind.Int) None h = absurd (cc)
same_result_same (Some kind.Ref) None h = absurd (cc)
same_result_same (Some kind.Int) (Some kind.Ref) h = absurd (cc)
same_result_same (Some kind.Ref) (Some kind.Int) h = absurd (cc)

three_parts : (a b c : Bool) → (a && b && c) ≡ true → (a ≡ true) × (b ≡ true) × (c ≡ true)
three_parts true b c h = (refl, (and_parts b c h).0, (and_parts b c h).1)
three_parts false b c h = absurd (cc)

-- how many objects it makes
abbrev room : Give → ℕ
room (give.New k) = 1
room _ = 0

module _ (t : Table) (refs : List Value) (n : ℕ) (there : length t.prebuilts ≤ n) (held : AreReferences n refs) where
  argument_given : (m k : ℕ) (x : Option Value) → n ≤ m → slice_get refs k ≡ x → IsGiven m (Some kind.Ref) x
  argument_given m k None le e = tt
  argument_given m k (Some x) le e = IsValueOf-more n m kind.Ref x le (held k x e)

  given_held : (m : ℕ) (given : Give) → is_named t (length refs) given ≡ true → n + room given ≤ m → IsGiven m (kind_given given) (value_given refs n given)
  given_held m give.Nothing named le = tt
  given_held m (give.Int z) named le = tt
  given_held m give.Null named le = tt
  given_held m (give.Arg k) named le = argument_given m k (slice_get refs k) (omega arith) refl
  given_held m (give.Prebuilt k) named le = let less : k < length t.prebuilts = ltb-true k (length t.prebuilts) named in omega arith
  given_held m (give.New k) named le = omega arith

  stored_held : (m : ℕ) (given : Give) → is_named t (length refs) given ≡ true → n ≤ m → IsGiven m (kind_given given) (value_stored refs given)
  stored_held m give.Nothing named le = tt
  stored_held m (give.Int z) named le = tt
  stored_held m give.Null named le = tt
  stored_held m (give.Arg k) named le = argument_given m k (slice_get refs k) le refl
  stored_held m (give.Prebuilt k) named le = let less : k < length t.prebuilts = ltb-true k (length t.prebuilts) named in omega arith
  stored_held m (give.New k) named le = tt

  write_given_keeps : (f : ℕ) (w : World) (k : Kind) (base x : Option Value) → Holds t w → option_map (λ (row : FieldRow). row.kind) (slice_get t.fields f) ≡ Some k → IsGiven (length w.objects) (Some k) x → KeepsIf t w (write_given t f w base x)
  write_given_keeps f w k (Some base) (Some x) h ek hx = KeepsIf-write t (Field f) base x w k h ek hx
  write_given_keeps f w k None x h ek hx = tt
  write_given_keeps f w k (Some base) None h ek hx = tt

  or_same_keeps : (w : World) (u : Option World) → Holds t w → KeepsIf t w u → Keeps t w (or_same w u)
  or_same_keeps w None h hu = keeps-same t w w refl h
  or_same_keeps w (Some u) h hu = hu

  field_store_keeps : (row : CallRow) (objects : List Object) (s : AnswerStore) (w : World) (field : Option FieldRow) → Holds t w → n ≤ length w.objects → slice_get t.fields s.field ≡ field → store_fits_field t row refs objects s field ≡ true → Keeps t w (store_done t refs s w)
  field_store_keeps row objects s w None h le ef fit = absurd (cc)
  field_store_keeps row objects s w (Some field) h le ef fit =
      let parts = three_parts (may_be_stored t (length refs) field.kind s.value) (is_base t field.size s.field objects (slice_get refs s.arg)) (is_declared row.writes s.field) fit in
      let may = three_parts (same_result (kind_given s.value) (Some field.kind)) (not (is_new s.value)) (is_named t (length refs) s.value) parts.0 in
      let named : is_named t (length refs) s.value ≡ true = may.2 in
      let same : kind_given s.value ≡ Some field.kind = same_result_same (kind_given s.value) (Some field.kind) may.0 in
      let given : IsGiven (length w.objects) (Some field.kind) (value_stored refs s.value) = subst (λ k. IsGiven (length w.objects) k (value_stored refs s.value)) same (stored_held (length w.objects) s.value named le) in
      or_same_keeps w (write_given t s.field w (slice_get refs s.arg) (value_stored refs s.value)) h
      (write_given_keeps s.field w field.kind (slice_get refs s.arg) (value_stored refs s.value) h (ap (option_map (λ (r : FieldRow). r.kind)) ef) given)

  stores_keep : (row : CallRow) (objects : List Object) (stores : List AnswerStore) (w : World) → Holds t w → n ≤ length w.objects → list_all (store_fits t row refs objects) stores ≡ true → Keeps t w (stores_done t refs stores w)
  stores_keep row objects [] w h le fit = keeps-same t w w refl h
  stores_keep row objects (s ∷ rest) w h le fit =
      let each = and_parts (store_fits t row refs objects s) (list_all (store_fits t row refs objects) rest) fit in
      let one : Keeps t w (store_done t refs s w) = field_store_keeps row objects s w (slice_get t.fields s.field) h le refl each.0 in
      let more : length w.objects ≤ length (store_done t refs s w).objects = one.more in
      keeps-twice t w (store_done t refs s w) (stores_done t refs rest (store_done t refs s w)) one
      (stores_keep row objects rest (store_done t refs s w) one.holds (omega arith) each.1)

  fresh_keeps : (given : Give) (w : World) → Holds t w → Keeps t w (with_fresh (new_object t given) w) × (length w.objects + room given ≤ length (with_fresh (new_object t given) w).objects)
  fresh_keeps (give.New k) w h = (Keeps-with_new t (zeroed t k) w h (PartsHold-zeroed t (length w.objects) k), (let less : length w.objects < length (with_fresh (new_object t (give.New k)) w).objects = new_is_there t (zeroed t k) w in omega arith))
  fresh_keeps give.Nothing w h = (keeps-same t w w refl h, omega arith)
  fresh_keeps (give.Int z) w h = (keeps-same t w w refl h, omega arith)
  fresh_keeps give.Null w h = (keeps-same t w w refl h, omega arith)
  fresh_keeps (give.Arg k) w h = (keeps-same t w w refl h, omega arith)
  fresh_keeps (give.Prebuilt k) w h = (keeps-same t w w refl h, omega arith)

-- Calls

module _ (t : Table) (want : Option Kind) (function : ℕ) (vs : List Value) where
  answered_holds : (row : CallRow) (a : Answer) (rest : List Answer) (w : World) (fit : Bool) → Holds t w → AreReferences (length w.objects) (references vs) → row.result ≡ want → fits t row (references vs) w.objects a ≡ fit → DoneHolds t w want (answered_if fit t row function vs a rest w)
  answered_holds row a rest w false h held result fit = keeps-same t w _ refl h
  answered_holds row a rest w true h held result fit =
      let gives : Option Value = value_given (references vs) (length w.objects) a.gives in
      let taken : World = record (with_call t (event_of t row function vs gives w) w) { answers = rest } in
      let parts = three_parts (same_result (kind_given a.gives) row.result) (is_named t (length (references vs)) a.gives) (list_all (store_fits t row (references vs) w.objects) a.stores) fit in
      let same : kind_given a.gives ≡ row.result = same_result_same (kind_given a.gives) row.result parts.0 in
      let holds : Holds t taken = (keeps-same t w taken refl h).holds in
      let fresh = fresh_keeps t (references vs) (length w.objects) h.prebuilts held a.gives taken holds in
      let one : Keeps t taken (with_fresh (new_object t a.gives) taken) = fresh.0 in
      let grown : length taken.objects ≤ length (with_fresh (new_object t a.gives) taken).objects = one.more in
      let two : Keeps t (with_fresh (new_object t a.gives) taken) (answer_done t (references vs) a taken) = stores_keep t (references vs) (length w.objects) h.prebuilts held row w.objects a.stores (with_fresh (new_object t a.gives) taken) one.holds grown parts.2 in
      let again : length (with_fresh (new_object t a.gives) taken).objects ≤ length (answer_done t (references vs) a taken).objects = two.more in
      let enough : length w.objects + room a.gives ≤ length (with_fresh (new_object t a.gives) taken).objects = fresh.1 in
      let whole : Keeps t w (answer_done t (references vs) a taken) = keeps-twice t w taken (answer_done t (references vs) a taken) (keeps-same t w taken refl h) (keeps-twice t taken (with_fresh (new_object t a.gives) taken) (answer_done t (references vs) a taken) one two) in
      (whole, subst (λ k. IsGiven (length (answer_done t (references vs) a taken).objects) k gives) (same ∙ result) (given_held t (references vs) (length w.objects) h.prebuilts held (length (answer_done t (references vs) a taken).objects) a.gives parts.1 (omega arith)))

  first_holds : (row : CallRow) (w : World) (answers : List Answer) → Holds t w → AreReferences (length w.objects) (references vs) → row.result ≡ want → DoneHolds t w want (called_first t row function vs (slice_get answers 0) (drop 1 answers) w)
  first_holds row w [] h held result = keeps-same t w _ refl h
  first_holds row w (a ∷ rest) h held result = answered_holds row a rest w (fits t row (references vs) w.objects a) h held result refl

  row_holds : (row : Option CallRow) (w : World) → Holds t w → AreReferences (length w.objects) (references vs) → IsSomeAnd row (λ (r : CallRow). r.result ≡ want) → DoneHolds t w want (call_row t row function vs w)
  row_holds None w h held result = tt
  row_holds (Some row) w h held result = first_holds row w w.answers h held result

-- a call of a descr that gives what is wanted
pub DoneHolds-call_function : (t : Table) (want : Option Kind) (k : ℕ) (function : Option ℕ) (kinds : List (Option Kind)) (vs : List Value) (w : World) → Holds t w → AreOfKinds (length w.objects) kinds vs → IsSomeAnd (slice_get t.calls k) (λ (r : CallRow). r.result ≡ want) → DoneHolds t w want (call_function t k function vs w)
DoneHolds-call_function t want k None kinds vs w h held result = tt
DoneHolds-call_function t want k (Some function) kinds vs w h held result = row_holds t want function vs (slice_get t.calls k) w h (references_held (length w.objects) kinds vs held) result
