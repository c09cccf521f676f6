-- What a host may answer to a call, and what a fitting answer does.
use Rattle.std.specs.Prelude.{ℕ, ◌==◌, Bool, true, false, not, ◌&&◌, List, [], ◌∷◌, Option, Some, None, length, slice_get, nat_lt}
use Rattle.std.specs.Option.{option_to_list}
use Rattle.std.specs.List.{flat_map, list_any, list_all}
use Rattle.trace_ops.specs.declared.trace.Kind.{Kind}
use Rattle.trace_ops.specs.declared.trace.Kind.TheVariants as kind
use Rattle.trace_ops.specs.declared.piece.Spot.TheVariants.{Field}
use Rattle.trace_ops.specs.declared.table.Table.{Table}
use Rattle.trace_ops.specs.declared.table.FieldRow.{FieldRow}
use Rattle.trace_ops.specs.declared.table.CallRow.{CallRow}
use Rattle.trace_meaning.specs.declared.value.Value.{Value}
use Rattle.trace_meaning.specs.declared.value.Value.TheVariants as v
use Rattle.trace_meaning.specs.declared.value.Object.{Object}
use Rattle.trace_meaning.specs.declared.call.Give.{Give}
use Rattle.trace_meaning.specs.declared.call.Give.TheVariants as give
use Rattle.trace_meaning.specs.declared.call.AnswerStore.{AnswerStore}
use Rattle.trace_meaning.specs.declared.call.Answer.{Answer}
use Rattle.trace_meaning.specs.Values.{references}
use Rattle.trace_meaning.specs.Passing.{is_structure_of}
use Rattle.trace_meaning.specs.World.{World}
use Rattle.trace_meaning.specs.Objects.{read_in, write, with_new, zeroed, is_frozen}

-- What the host sees: of each reference argument that isn't null, in order, the fields that the call reads and that are
-- fields of its size, in the order in which the call lists them

abbrev pub seen_of : Table → List Object → List ℕ → Value → List Value
seen_of t objects reads base = flat_map (λ f. option_to_list (read_in t (Field f) base objects)) reads

abbrev pub seen : Table → CallRow → List Value → World → List Value
seen t row vs w = flat_map (seen_of t w.objects row.reads) (references vs)

-- Which answers fit

abbrev pub same_result : Option Kind → Option Kind → Bool
same_result None None = true
same_result (Some kind.Int) (Some kind.Int) = true
same_result (Some kind.Ref) (Some kind.Ref) = true
same_result _ _ = false

-- the kind of what is given, if anything is
abbrev pub kind_given : Give → Option Kind
kind_given give.Nothing = None
kind_given (give.Int z) = Some kind.Int
kind_given give.Null = Some kind.Ref
kind_given (give.Arg k) = Some kind.Ref
kind_given (give.Prebuilt k) = Some kind.Ref
kind_given (give.New k) = Some kind.Ref

-- its number names a reference argument of so many, a prebuilt object or a size
abbrev pub is_named : Table → ℕ → Give → Bool
is_named t args (give.Arg k) = nat_lt k args
is_named t args (give.Prebuilt k) = nat_lt k (length t.prebuilts)
is_named t args (give.New k) = nat_lt k (length t.sizes)
is_named t args _ = true

-- no new object is stored
abbrev pub is_new : Give → Bool
is_new (give.New k) = true
is_new _ = false

abbrev pub is_size : ℕ → Option Object → Bool
is_size size None = false
is_size size (Some o) = is_structure_of size o.of

-- an argument that isn't null, of the field's size, in which the field may be written
abbrev pub is_base : Table → ℕ → ℕ → List Object → Option Value → Bool
is_base t size field objects (Some (v.Obj n)) = is_size size (slice_get objects n) && not (is_frozen t (Field field) n)
is_base t size field objects _ = false

-- what is given may be stored in a field of this kind
abbrev pub may_be_stored : Table → ℕ → Kind → Give → Bool
may_be_stored t args k given = same_result (kind_given given) (Some k) && not (is_new given) && is_named t args given

abbrev pub is_declared : List ℕ → ℕ → Bool
is_declared writes field = list_any (λ f. f == field) writes

abbrev pub store_fits_field : Table → CallRow → List Value → List Object → AnswerStore → Option FieldRow → Bool
store_fits_field t row refs objects s None = false
store_fits_field t row refs objects s (Some field) =
    may_be_stored t (length refs) field.kind s.value && is_base t field.size s.field objects (slice_get refs s.arg) && is_declared row.writes s.field

-- a store of a value of the field's kind, into a field that the call declares
abbrev pub store_fits : Table → CallRow → List Value → List Object → AnswerStore → Bool
store_fits t row refs objects s = store_fits_field t row refs objects s (slice_get t.fields s.field)

-- whether an answer fits a call with these references among its arguments: its result has the kind that the call
-- gives, and is nothing where that gives none; and its stores fit
abbrev pub fits : Table → CallRow → List Value → List Object → Answer → Bool
fits t row refs objects a = same_result (kind_given a.gives) row.result && is_named t (length refs) a.gives && list_all (store_fits t row refs objects) a.stores

-- What a fitting answer does

-- the value that is given; a new object has the next number
abbrev pub value_given : List Value → ℕ → Give → Option Value
value_given refs next give.Nothing = None
value_given refs next (give.Int z) = Some (v.Int z)
value_given refs next give.Null = Some v.Null
value_given refs next (give.Arg k) = slice_get refs k
value_given refs next (give.Prebuilt k) = Some (v.Obj k)
value_given refs next (give.New k) = Some (v.Obj next)

-- the value that is stored; no new object is
abbrev pub value_stored : List Value → Give → Option Value
value_stored refs give.Nothing = None
value_stored refs (give.Int z) = Some (v.Int z)
value_stored refs give.Null = Some v.Null
value_stored refs (give.Arg k) = slice_get refs k
value_stored refs (give.Prebuilt k) = Some (v.Obj k)
value_stored refs (give.New k) = None

abbrev pub or_same : World → Option World → World
or_same w None = w
or_same w (Some u) = u

abbrev pub write_given : Table → ℕ → World → Option Value → Option Value → Option World
write_given t field w (Some base) (Some value) = write t (Field field) base value w
write_given t field w _ _ = None

abbrev pub store_done : Table → List Value → AnswerStore → World → World
store_done t refs s w = or_same w (write_given t s.field w (slice_get refs s.arg) (value_stored refs s.value))

-- its stores, in order
abbrev pub stores_done : Table → List Value → List AnswerStore → World → World
stores_done t refs [] w = w
stores_done t refs (s ∷ rest) w = stores_done t refs rest (store_done t refs s w)

-- the new object, if one is given
abbrev pub new_object : Table → Give → Option Object
new_object t (give.New k) = Some (zeroed t k)
new_object t _ = None

abbrev pub with_fresh : Option Object → World → World
with_fresh None w = w
with_fresh (Some o) w = with_new o w

-- it gives its result, and makes its stores
abbrev pub answer_done : Table → List Value → Answer → World → World
answer_done t refs a w = stores_done t refs a.stores (with_fresh (new_object t a.gives) w)
