-- Loops over values and objects.
use Rattle.std.proofs.Common.{◌≡◌, ℕ, suc, ◌+◌, ◌-◌, ◌<◌, List, [], ◌∷◌, ◌++◌, Option, Some, length, drop, slice_get, ap, sym, subst, ◌∙◌, append_assoc, drop-cons, arith}
use Rattle.std.proofs.lemmas.Option.{slice_get_within, get_or_from_slice_get}
use Rattle.trace_meaning.specs.declared.value.Value.{Value}
use Rattle.trace_meaning.specs.declared.value.Object.{Object}
use Rattle.heap_shape.specs.declared.cell.Cell.{Cell}
use Rattle.heap_shape.specs.Visiting.{note_value, visit, parts_in, walk, AreWithin}
use Rattle.heap_shape.specs.Listing.{cell_of, cell_before, cells}
use Rattle.heap_shape.proofs.Walks.{walk_step}

-- from a place on
pub drop_at : {X : Type 0} (xs : List X) (i : ℕ) (x : X) → slice_get xs i ≡ Some x → drop i xs ≡ x ∷ drop (i + 1) xs
drop_at {X} xs i x h =
    let within : i < length xs = slice_get_within xs i x h in
    let one : suc i ≡ i + 1 = omega arith in
    drop-cons xs i x within
    ∙ ap (λ (y : X). y ∷ drop (suc i) xs) (get_or_from_slice_get xs i x x h)
    ∙ ap (λ (n : ℕ). x ∷ drop n xs) one

pub within_rest : (old new i : ℕ) (xs : List Value) (x : Value) → slice_get xs i ≡ Some x → new ≡ old → AreWithin old (drop i xs) → AreWithin new (drop (i + 1) xs)
within_rest old new i xs x at same h =
    let tail = (subst (AreWithin old) (drop_at xs i x at) h).1 in
    subst (λ (n : ℕ). AreWithin n (drop (i + 1) xs)) (sym same) tail

pub visit_rest : (seen next all : List ℕ) (i : ℕ) (xs : List Value) (x : Value) → slice_get xs i ≡ Some x → next ≡ note_value seen x → visit seen (drop i xs) ≡ all → visit next (drop (i + 1) xs) ≡ all
visit_rest seen next all i xs x at noted h = ap (λ (s : List ℕ). visit s (drop (i + 1) xs)) noted ∙ sym (ap (visit seen) (drop_at xs i x at)) ∙ h

-- one more object's parts were visited
pub walk_goes : (objects : List Object) (count done n : ℕ) (seen next all : List ℕ) (parts : List Value) (x : Object) → done < count → slice_get seen done ≡ Some n
    → slice_get objects n ≡ Some x → parts ≡ x.parts → next ≡ visit seen parts → walk (count - done) objects done seen ≡ all → walk (count - (done + 1)) objects (done + 1) next ≡ all
walk_goes objects count done n seen next all parts x less at found same visits h =
    let left : count - done ≡ suc (count - (done + 1)) = omega (arith, less) in
    ap (walk (count - (done + 1)) objects (done + 1)) (visits ∙ ap (visit seen) (same ∙ sym (ap parts_in found)))
    ∙ sym (walk_step (count - (done + 1)) objects done seen n at)
    ∙ sym (ap (λ (most : ℕ). walk most objects done seen) left)
    ∙ h

-- one more cell
pub cells_rest : (objects : List Object) (seen ns : List ℕ) (i n : ℕ) (x : Object) (made next all : List Cell) (cell : Cell) → slice_get ns i ≡ Some n → slice_get objects n ≡ Some x
    → cell ≡ cell_of seen x → next ≡ made ++ cell ∷ [] → made ++ cells objects seen (drop i ns) ≡ all → next ++ cells objects seen (drop (i + 1) ns) ≡ all
cells_rest objects seen ns i n x made next all cell at found same pushed h =
    let rest = cells objects seen (drop (i + 1) ns) in
    ap (λ (cs : List Cell). cs ++ rest) pushed
    ∙ append_assoc made (cell ∷ []) rest
    ∙ ap (λ (c : Cell). made ++ c ∷ rest) same
    ∙ sym (ap (λ (o : Option Object). made ++ cell_before seen o rest) found)
    ∙ sym (ap (λ (ms : List ℕ). made ++ cells objects seen ms) (drop_at ns i n at))
    ∙ h
