-- What an answer does to a world: no calls, no answers to come, and no words but those of its new object.
use Rattle.std.proofs.Common.{◌≡◌, ℕ, zero, suc, ◌+◌, Bool, true, false, List, [], ◌∷◌, length, Option, Some, None, refl, sym, ap, ◌∙◌, arith}
use Rattle.std.specs.Prelude.{slice_get, slice_set, option_and_then}
use Rattle.std.specs.Option.{option_map}
use Rattle.std.proofs.lemmas.List.{length-set}
use Rattle.lists.proofs.Options.{some_same, none_some}
use Rattle.trace_ops.specs.declared.table.Table.{Table}
use Rattle.trace_ops.specs.declared.piece.Spot.{Spot}
use Rattle.trace_ops.specs.declared.piece.Spot.TheVariants as spot
use Rattle.trace_meaning.specs.declared.value.Value.{Value}
use Rattle.trace_meaning.specs.declared.value.Value.TheVariants as v
use Rattle.trace_meaning.specs.declared.value.Object.{Object}
use Rattle.trace_meaning.specs.declared.call.AnswerStore.{AnswerStore}
use Rattle.trace_meaning.specs.World.{World}
use Rattle.trace_meaning.specs.Objects.{write, write_unfrozen, with_object, written, with_part, place_within, is_frozen}
use Rattle.trace_meaning.specs.Answers.{or_same, write_given, value_stored, store_done, stores_done}
use Rattle.arena_objects.specs.Layout.{words_in, words_of}

words_set : (xs : List Object) (n : ℕ) (p o : Object) → slice_get xs n ≡ Some o → words_in p ≡ words_in o → words_of (slice_set xs n p) ≡ words_of xs
words_set [] n p o e same = absurd (none_some e)
words_set (x ∷ xs) zero p o e same = (let one : x ≡ o = some_same e in ap (λ (k : ℕ). k + words_of xs) (same ∙ ap words_in (sym one)))
words_set (x ∷ xs) (suc n) p o e same = ap (λ (k : ℕ). words_in x + k) (words_set xs n p o e same)

-- two worlds have the same calls and answers to come, and objects of as many words
abbrev pub Alike : World → World → Type 0
Alike w u = (u.log ≡ w.log) × (u.answers ≡ w.answers) × (words_of u.objects ≡ words_of w.objects)

abbrev AlikeIf : World → Option World → Type 0
AlikeIf w None = Unit {0}
AlikeIf w (Some u) = Alike w u

part_keeps : (o : Object) (i : ℕ) (x : Value) → words_in (with_part o i x) ≡ words_in o
part_keeps o i x = (let same : length (slice_set o.parts i x) ≡ length o.parts = length-set o.parts i x in omega (arith, same))

write_at : (w : World) (n : ℕ) (o : Object) (x : Value) (i : Option ℕ) → slice_get w.objects n ≡ Some o → AlikeIf w (option_map (with_object n w) (option_map (λ (k : ℕ). with_part o k x) i))
write_at w n o x None e = tt
write_at w n o x (Some i) e = (refl, refl, words_set w.objects n (with_part o i x) o e (part_keeps o i x))

write_in : (t : Table) (at : Spot) (w : World) (n : ℕ) (x : Value) (o : Option Object) → slice_get w.objects n ≡ o → AlikeIf w (option_map (with_object n w) (option_and_then (written t at x) o))
write_in t at w n x None e = tt
write_in t at w n x (Some o) e = write_at w n o x (place_within t at o) e

write_if : (b : Bool) (t : Table) (at : Spot) (n : ℕ) (x : Value) (w : World) → AlikeIf w (write_unfrozen b t at n x w)
write_if true t at n x w = tt
write_if false t at n x w = write_in t at w n x (slice_get w.objects n) refl

write_keeps : (t : Table) (at : Spot) (base x : Value) (w : World) → AlikeIf w (write t at base x w)
write_keeps t at (v.Obj n) x w = write_if (is_frozen t at n) t at n x w
write_keeps t at (v.Int z) x w = tt
write_keeps t at v.Null x w = tt

given_keeps : (t : Table) (field : ℕ) (w : World) (base x : Option Value) → AlikeIf w (write_given t field w base x)
given_keeps t field w (Some base) (Some x) = write_keeps t (spot.Field field) base x w
given_keeps t field w (Some base) None = tt
given_keeps t field w None (Some x) = tt
given_keeps t field w None None = tt

or_keeps : (w : World) (o : Option World) → AlikeIf w o → Alike w (or_same w o)
or_keeps w None h = (refl, refl, refl)
or_keeps w (Some u) h = h

store_keeps : (t : Table) (refs : List Value) (s : AnswerStore) (w : World) → Alike w (store_done t refs s w)
store_keeps t refs s w = or_keeps w (write_given t s.field w (slice_get refs s.arg) (value_stored refs s.value)) (given_keeps t s.field w (slice_get refs s.arg) (value_stored refs s.value))

pub stores_keep : (t : Table) (refs : List Value) (ss : List AnswerStore) (w : World) → Alike w (stores_done t refs ss w)
stores_keep t refs [] w = (refl, refl, refl)
stores_keep t refs (s ∷ ss) w =
    let one = store_keeps t refs s w in
    let rest = stores_keep t refs ss (store_done t refs s w) in
    (rest.0 ∙ one.0, rest.1 ∙ one.1, rest.2 ∙ one.2)
