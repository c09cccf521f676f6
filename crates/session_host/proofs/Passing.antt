-- What a call passes is read from registers as the values of its arguments.
use Rattle.std.proofs.Common.{◌≡◌, ℕ, Bool, true, false, List, [], ◌∷◌, length, map, Option, Some, None, refl, ap, ◌∙◌, ℤ, pos}
use Rattle.std.specs.Prelude.{◌||◌, is_some}
use Rattle.std.proofs.lemmas.List.Elements.{All-nil, All-cons}
use Rattle.trace_ops.specs.declared.table.Table.{Table}
use Rattle.trace_ops.specs.declared.trace.Arg.{Arg}
use Rattle.target_base.specs.declared.reg.Reg.{Reg}
use Rattle.target_base.specs.declared.place.Place.{Place}
use Rattle.target_base.specs.declared.place.Place.TheVariants.{In}
use Rattle.target_base.specs.Arena.{Arena}
use Rattle.trace_meaning.specs.declared.value.Value.{Value}
use Rattle.trace_meaning.specs.declared.value.Value.TheVariants as v
use Rattle.trace_meaning.specs.declared.value.Object.{Object}
use Rattle.trace_meaning.specs.Values.{kind_of_value, references}
use Rattle.arena_objects.specs.Layout.{address_of, word_of}
use Rattle.arena_objects.specs.Standing.{IsPart, Stands}
use Rattle.arena_objects.specs.ReadBack.{value_of}
use Rattle.arena_objects.specs.Walk.{object_at}
use Rattle.arena_objects.specs.Laws.{ReferencesAreRead, ReferencesAreTold}
use Rattle.arena_world.specs.Laws.{IsOne, AreReferences}
use Rattle.x64_machine.specs.State.{State, reg}
use Rattle.asm_select.specs.Chosen.{places_for}
use Rattle.asm_select.specs.Ended.{PlacesStand, AreParts}
use Rattle.asm_select.specs.Answering.{reference_words, values_read}
use Rattle.session_host.specs.Entries.{words_in, is_address, or_else, stray_in}

abbrev pub places_of : List Reg → List Place
places_of [] = []
places_of (r ∷ rs) = In r ∷ places_of rs

-- registers of one state have the words that they have in another
abbrev pub HaveSame : State → State → List Reg → Type 0
HaveSame s u [] = Unit {0}
HaveSame s u (r ∷ rs) = (reg s r ≡ reg u r) × HaveSame s u rs

pub words_stand : (at : ℕ → ℕ) (s u : State) (rs : List Reg) (args : List Arg) (vs : List Value) → HaveSame s u rs → PlacesStand at u (places_for args (places_of rs)) vs → words_in s (map kind_of_value vs) rs ≡ map (word_of at) vs
words_stand at s u rs [] [] same h = refl
words_stand at s u rs [] (x ∷ vs) same h = absurd h
words_stand at s u [] (a ∷ args) [] same h = refl
words_stand at s u [] (a ∷ args) (x ∷ vs) same h = absurd h
words_stand at s u (r ∷ rs) (a ∷ args) [] same h = absurd h
words_stand at s u (r ∷ rs) (a ∷ args) (x ∷ vs) same h =
    ap (λ (z : ℤ). z ∷ words_in s (map kind_of_value vs) rs) (same.0 ∙ h.0) ∙ ap (λ (zs : List ℤ). word_of at x ∷ zs) (words_stand at s u rs args vs same.1 h.1)

module _ (reads : ReferencesAreRead) (told : ReferencesAreTold) (t : Table) (objects : List Object) (arena : Arena) (st : Stands t objects arena) where
  abbrev at : ℕ → ℕ
  at n = address_of objects n

  value_back : (x : Value) → IsPart (length objects) x → value_of t arena (Some (kind_of_value x)) (word_of at x) ≡ x
  value_back (v.Int z) h = refl
  value_back v.Null h = reads t objects arena v.Null st refl h
  value_back (v.Obj n) h = reads t objects arena (v.Obj n) st refl h

  pub values_back : (vs : List Value) → AreParts (length objects) vs → values_read t arena (map kind_of_value vs) (map (word_of at) vs) ≡ vs
  values_back [] h = refl
  values_back (x ∷ vs) h = ap (λ (y : Value). y ∷ values_read t arena (map kind_of_value vs) (map (word_of at) vs)) (value_back x h.0) ∙ ap (λ (ys : List Value). x ∷ ys) (values_back vs h.1)

  or_some : (b : Bool) (n : ℕ) (o : Option ℕ) → o ≡ Some n → (b || is_some o) ≡ true
  or_some true n o e = refl
  or_some false n o e = ap is_some e

  pub no_stray : (vs : List Value) → AreParts (length objects) vs → stray_in t arena (map kind_of_value vs) (map (word_of at) vs) ≡ None
  no_stray [] h = refl
  no_stray (v.Int z ∷ vs) h = no_stray vs h.1
  no_stray (v.Null ∷ vs) h = no_stray vs h.1
  no_stray (v.Obj n ∷ vs) h =
      let rest = stray_in t arena (map kind_of_value vs) (map (word_of at) vs) in
      let yes : is_address t arena (pos (at n)) ≡ true = or_some _ n (object_at t arena (pos (at n))) (told t objects arena n st h.0) in
      ap (λ (b : Bool). or_else b (pos (at n)) rest) yes ∙ no_stray vs h.1

pub refs_back : (at : ℕ → ℕ) (vs : List Value) → reference_words (map kind_of_value vs) (map (word_of at) vs) ≡ map (word_of at) (references vs)
refs_back at [] = refl
refs_back at (v.Int z ∷ vs) = refs_back at vs
refs_back at (v.Null ∷ vs) = ap (λ (zs : List ℤ). pos 0 ∷ zs) (refs_back at vs)
refs_back at (v.Obj n ∷ vs) = ap (λ (zs : List ℤ). pos (at n) ∷ zs) (refs_back at vs)

pub are_references : (n : ℕ) (vs : List Value) → AreParts n vs → AreReferences n (references vs)
are_references n [] h = All-nil (IsOne n)
are_references n (v.Int z ∷ vs) h = are_references n vs h.1
are_references n (v.Null ∷ vs) h = All-cons (IsOne n) v.Null (references vs) (refl, h.0) (are_references n vs h.1)
are_references n (v.Obj k ∷ vs) h = All-cons (IsOne n) (v.Obj k) (references vs) (refl, h.0) (are_references n vs h.1)
