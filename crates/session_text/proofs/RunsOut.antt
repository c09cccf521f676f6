-- More values than inputs.
use Rattle.std.proofs.Common.{◌≡◌, ℕ, suc, ◌<◌, Bool, false, List, [], ◌∷◌, length, get_or, drop, refl, sym, ap, ◌∙◌, drop-cons}
use Rattle.std.proofs.lemmas.List.{nil_from_length}
use Rattle.trace_ops.specs.declared.trace.BoxId.{BoxId}
use Rattle.trace_meaning.specs.declared.value.Value.{Value}
use Rattle.trace_meaning.specs.declared.value.Value.TheVariants.{Null}
use Rattle.session_text.specs.Reading.{fits_inputs}

none_more : (v : Value) (vs : List Value) → fits_inputs (v ∷ vs) [] ≡ false
unfolding fits_inputs
none_more v vs = refl

-- a value is left, and no box
pub runs_out : (vs : List Value) (i : ℕ) (rest : List BoxId) (total : Bool) → i < length vs → length rest ≡ 0 → fits_inputs (drop i vs) rest ≡ total → false ≡ total
runs_out vs i rest total within none so_far =
    let front : drop i vs ≡ get_or vs i Null ∷ drop (suc i) vs = drop-cons vs i Null within in
    sym (none_more (get_or vs i Null) (drop (suc i) vs)) ∙ ap (λ (xs : List Value). fits_inputs xs []) (sym front) ∙ ap (fits_inputs (drop i vs)) (sym (nil_from_length rest none)) ∙ so_far
