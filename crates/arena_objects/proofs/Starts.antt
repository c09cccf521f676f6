-- Prebuilt objects are lawful, and stand at the start.
use Rattle.std.proofs.Common.{◌≡◌, ℕ, zero, suc, ◌+◌, ◌*◌, ◌<◌, Option, Some, None, List, [], ◌∷◌, ◌++◌, length, map, replicate, slice_get, get_or, refl, ap, sym, ◌∙◌, subst, arith, pos}
use Rattle.std.specs.Prelude.{IsSome, option_and_then}
use Rattle.std.specs.Option.{option_map, IsSomeAnd}
use Rattle.std.specs.List.{All, Contains}
use Rattle.std.proofs.lemmas.List.{length-append, length-map, length-replicate}
use Rattle.std.proofs.lemmas.Option.{same_Some, slice_get_within, slice_get-get_or, get_or_from_slice_get}
use Rattle.trace_ops.specs.declared.trace.Kind.{Kind}
use Rattle.trace_ops.specs.declared.table.Table.{Table}
use Rattle.trace_ops.specs.declared.table.FieldRow.{FieldRow}
use Rattle.trace_ops.specs.declared.table.ArrayRow.{ArrayRow}
use Rattle.trace_ops.specs.declared.table.SizeRow.{SizeRow}
use Rattle.trace_ops.specs.declared.table.Initial.{Initial}
use Rattle.trace_ops.specs.declared.table.Initial.TheVariants as initial
use Rattle.trace_ops.specs.declared.table.PrebuiltRow.{PrebuiltRow}
use Rattle.trace_ops.specs.declared.table.ShapeOf.{ShapeOf}
use Rattle.trace_ops.specs.declared.table.ShapeOf.TheVariants.{Size, Array}
use Rattle.trace_ops.specs.Kinds.{kind_of_initial, kind_of_field, HasParts, NamesShape}
use Rattle.trace_ops.specs.InRange.{StandsOnce, NamesInitial, IsPrebuilt, IsTableInRange}
use Rattle.trace_meaning.specs.declared.value.Value.{Value}
use Rattle.trace_meaning.specs.declared.value.Object.{Object}
use Rattle.trace_meaning.specs.Recorded.{initial_value, prebuilt_object}
use Rattle.trace_meaning.specs.Objects.{fields_of, listed}
use Rattle.trace_meaning.specs.Kinds.{kind_of_part}
use Rattle.arena_objects.specs.Layout.{address_of}
use Rattle.arena_objects.specs.Standing.{IsPart, HasItsParts, IsLawful}
use Rattle.arena_objects.specs.Starting.{first_objects, first_words, IsWordInitial, PrebuiltsStand, TablesListFields}
use Rattle.arena_objects.specs.Laws.{WordsAreKept, KindsInRange}
use Rattle.lists.proofs.Alls.{all_at, all_from}
use Rattle.lists.proofs.Places.{get_some}
use Rattle.arena_objects.proofs.Places.{length_all, word_same}
use Rattle.arena_objects.proofs.Spots.{fields_here}

-- ---- shapes

once_there : {X : Type 0} (xs : List X) (x : X) → StandsOnce x xs → Contains xs x
once_there xs x h = (h.0, slice_get_within xs h.0 x h.1, get_or_from_slice_get xs h.0 x x h.1)

size_there : (t : Table) (s : ℕ) → IsTableInRange t → s < length t.sizes → Contains t.shapes (Size s)
size_there t s r lt = once_there t.shapes (Size s) (r.each_size_once s lt)

array_there : (t : Table) (a : ℕ) → IsTableInRange t → a < length t.arrays → Contains t.shapes (Array a)
array_there t a r lt = once_there t.shapes (Array a) (r.each_array_once a lt)

-- a prebuilt object has a shape of the table, and one part per field of it
shaped : (t : Table) (s : ShapeOf) (xs : List Initial) → IsTableInRange t → HasParts t s (map kind_of_initial xs) → Contains t.shapes s × HasItsParts t s (length (map initial_value xs))
shaped t (Size s) xs r h = by_row (slice_get t.sizes s) refl h
  where
    by_row : (q : Option SizeRow) → slice_get t.sizes s ≡ q → IsSomeAnd q (λ (row : SizeRow). map kind_of_initial xs ≡ map (kind_of_field t) row.fields) → Contains t.shapes (Size s) × (length (map initial_value xs) ≡ length (fields_of t s))
    by_row None e g = absurd g
    by_row (Some row) e g = (
      size_there t s r (slice_get_within t.sizes s row e),
      length-map xs initial_value ∙ sym (length-map xs kind_of_initial) ∙ ap length g ∙ length-map row.fields (kind_of_field t) ∙ ap (λ q. length (listed q)) (sym e),
    )
shaped t (Array a) xs r h = by_row (slice_get t.arrays a) refl h
  where
    by_row : (q : Option ArrayRow) → slice_get t.arrays a ≡ q → IsSomeAnd q (λ (row : ArrayRow). All (λ k. k ≡ Some row.kind) (map kind_of_initial xs)) → Contains t.shapes (Array a) × Unit {0}
    by_row None e g = absurd g
    by_row (Some row) e g = (array_there t a r (slice_get_within t.arrays a row e), tt)

initial_part : (t : Table) (n : ℕ) (x : Initial) → n ≡ length t.prebuilts → NamesInitial t x → IsWordInitial x → IsPart n (initial_value x)
initial_part t n (initial.Int z) e h w = w
initial_part t n initial.Null e h w = tt
initial_part t n (initial.Ptr k) e h w = subst (λ m. k < m) (sym e) h

initial_parts : (t : Table) (n : ℕ) (xs : List Initial) → n ≡ length t.prebuilts → All (NamesInitial t) xs → All IsWordInitial xs → (i : ℕ) (x : Value) → slice_get (map initial_value xs) i ≡ Some x → IsPart n x
initial_parts t n [] e h w i x g = absurd (cc)
initial_parts t n (y ∷ ys) e h w zero x g =
    let same : initial_value y ≡ x = same_Some (initial_value y) x g in
    subst (IsPart n) same (initial_part t n y e (h 0 y (omega arith)) (w 0 y (omega arith)))
initial_parts t n (y ∷ ys) e h w (suc i) x g = initial_parts t n ys e (λ k d lt. h (suc k) d (omega arith)) (λ k d lt. w (suc k) d (omega arith)) i x g

row_lawful : (t : Table) (n : ℕ) (row : PrebuiltRow) → n ≡ length t.prebuilts → IsTableInRange t → IsPrebuilt t row → All IsWordInitial row.parts → IsLawful t n (prebuilt_object row)
row_lawful t n row e r h w =
    let s = shaped t row.of row.parts r h.0 in
    record { shape = s.0; extent = s.1; parts = all_from (IsPart n) (map initial_value row.parts) (initial_parts t n row.parts e h.1 w) }

rows_lawful : (t : Table) (n : ℕ) (rows : List PrebuiltRow) → n ≡ length t.prebuilts → IsTableInRange t → All (IsPrebuilt t) rows → All (λ (row : PrebuiltRow). All IsWordInitial row.parts) rows → (i : ℕ) (o : Object) → slice_get (map prebuilt_object rows) i ≡ Some o → IsLawful t n o
rows_lawful t n [] e r h w i o g = absurd (cc)
rows_lawful t n (row ∷ rows) e r h w zero o g =
    let same : prebuilt_object row ≡ o = same_Some (prebuilt_object row) o g in
    subst (IsLawful t n) same (row_lawful t n row e r (h 0 row (omega arith)) (w 0 row (omega arith)))
rows_lawful t n (row ∷ rows) e r h w (suc i) o g = rows_lawful t n rows e r (λ k d lt. h (suc k) d (omega arith)) (λ k d lt. w (suc k) d (omega arith)) i o g

pub prebuilts_stand : PrebuiltsStand
prebuilts_stand t left r w few =
    let objects = first_objects t in
    let many : length objects ≡ length t.prebuilts = length-map t.prebuilts prebuilt_object in
    record {
      lawful = all_from (IsLawful t (length objects)) objects (rows_lawful t (length objects) t.prebuilts many r r.prebuilts_fit w);
      left = left;
      words = refl;
      taken = ap (λ n. 8 * n) (length_all t (address_of objects) objects);
      few = (let a : length (first_words t ++ replicate left (pos 0)) ≡ length (first_words t) + length (replicate left (pos 0)) = length-append (first_words t) (replicate left (pos 0)) in let b : length (replicate left (pos 0)) ≡ left = length-replicate left (pos 0) in omega arith);
    }

pub tables_list_fields : TablesListFields
tables_list_fields t r = r.sizes_list_their_fields

pub words_are_kept : WordsAreKept
words_are_kept old new x same part = word_same (length old) (address_of new) (address_of old) x same part

-- ---- kinds

part_kind : (t : Table) (s : ShapeOf) (n i : ℕ) → IsTableInRange t → Contains t.shapes s → HasItsParts t s n → i < n → IsSome (kind_of_part t s i)
part_kind t (Size s) n i r c h lt =
    let f = get_or (fields_of t s) i 0 in
    let count : n ≡ length (fields_of t s) = h in
    let there : slice_get (fields_of t s) i ≡ Some f = slice_get-get_or (fields_of t s) i 0 (omega arith) in
    let row = fields_here t s i f r.sizes_list_their_fields there in
    let kind : option_and_then (kind_of_field t) (slice_get (fields_of t s) i) ≡ Some row.0.kind =
    ap (option_and_then (kind_of_field t)) there ∙ ap (option_map (λ (x : FieldRow). x.kind)) row.1 in
    is_there (kind_of_part t (Size s) i) row.0.kind kind
  where
    is_there : (q : Option Kind) (k : Kind) → q ≡ Some k → IsSome q
    is_there None k e = absurd (cc)
    is_there (Some y) k e = refl
part_kind t (Array a) n i r c h lt =
    let named : NamesShape t (Array a) = subst (NamesShape t) c.2 (r.shapes_name_rows c.0 (Array a) c.1) in
    is_there (slice_get t.arrays a) (get_some t.arrays a named)
  where
    is_there : (q : Option ArrayRow) → (x : ArrayRow) × (q ≡ Some x) → IsSome (option_map (λ (y : ArrayRow). y.kind) q)
    is_there None e = (let none : None ≡ Some e.0 = e.1 in absurd (cc))
    is_there (Some y) e = refl

pub kinds_in_range : KindsInRange
kinds_in_range t objects arena r st n i o e lt =
    let l = all_at (IsLawful t (length objects)) objects n o st.lawful e in
    part_kind t o.of (length o.parts) i r l.shape l.extent lt
