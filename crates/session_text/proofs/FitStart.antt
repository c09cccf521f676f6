-- The inputs of a start that is read are words, NULL and prebuilt objects.
use Rattle.std.proofs.Common.{◌≡◌, ℕ, ℤ, ◌<◌, Bool, true, false, cond, List, [], ◌∷◌, ◌++◌, map, length, Option, Some, None, refl, subst, arith}
use Rattle.std.specs.Prelude.{codes}
use Rattle.std.specs.List.{AllByRecursion}
use Rattle.std.specs.Str.{bytes_eq}
use Rattle.std.specs.Int.{w64}
use Rattle.std.specs.Int.RustNames.{FitsSigned}
use Rattle.std.proofs.lemmas.List.{length-map}
use Rattle.std.proofs.lemmas.Option.{slice_get_within}
use Rattle.text_lines.specs.Words.{is_name}
use Rattle.text_lines.specs.Numbers.{integer_of}
use Rattle.lists.specs.Binds.{◌>>=◌}
use Rattle.lists.proofs.Options.{bind_some}
use Rattle.lists.proofs.Bools.{if_some}
use Rattle.lists.proofs.Eaches.{each_push}
use Rattle.trace_ops.specs.declared.trace.TraceSet.{TraceSet}
use Rattle.trace_ops.specs.declared.table.PrebuiltRow.{PrebuiltRow}
use Rattle.trace_meaning.specs.declared.value.Value.{Value}
use Rattle.trace_meaning.specs.declared.value.Value.TheVariants as value
use Rattle.trace_meaning.specs.declared.call.Give.{Give}
use Rattle.trace_meaning.specs.declared.call.Give.TheVariants as give
use Rattle.session_text.specs.declared.start.Place.{Place}
use Rattle.session_text.specs.declared.start.Place.TheVariants as place
use Rattle.session_text.specs.declared.start.Start.{Start}
use Rattle.session_text.specs.Names.{look, names_of}
use Rattle.session_text.specs.Words.{object_of, value_of, give_if, given_of, target_of}
use Rattle.session_text.specs.Start.{begin, go, expect, input_by, first_step, behind_step, gives, gives_found, answer_step, first_answer_step, pushed, end_step, given_step, size_found, new_step, store_by, stored_by, store_end_step, step_at, step, run, is_done, done, start_at}
use Rattle.session_text.proofs.Firsts.{found_at}
use Rattle.text_lines.specs.Laws.{LinesAreSpelled}

-- a word, NULL, or a prebuilt object
abbrev pub IsKnown : TraceSet → Value → Type 0
IsKnown set (value.Int z) = FitsSigned w64 z
IsKnown set value.Null = Unit {0}
IsKnown set (value.Obj k) = k < length set.table.prebuilts

abbrev pub AreKnown : TraceSet → List Value → Type 0
AreKnown set vs = AllByRecursion (IsKnown set) vs

abbrev KnownIf : TraceSet → Option (Option Value) → Type 0
KnownIf set None = Unit {0}
KnownIf set (Some None) = Unit {0}
KnownIf set (Some (Some v)) = IsKnown set v

object_known : (set : TraceSet) (w : List ℕ) (o : Option ℕ) → look w (names_of set).prebuilts ≡ o → KnownIf set (Some (object_of o))
object_known set w None e = tt
object_known set w (Some k) e =
    let name : PrebuiltRow → Option (List ℕ) = λ r. Some r.name in
    let f = found_at w k (map name set.table.prebuilts) e in
    let lt : k < length (map name set.table.prebuilts) = slice_get_within (map name set.table.prebuilts) k f.0 f.1 in
    omega (arith, lt, length-map set.table.prebuilts name)

integer_known : (spelled : LinesAreSpelled) (set : TraceSet) (w : List ℕ) (o : Option ℤ) → integer_of w ≡ o → KnownIf set (o >>= λ z. Some (Some (value.Int z)))
integer_known spelled set w None e = tt
integer_known spelled set w (Some z) e = spelled.spelling.integer_fits w z e

value_known_by : (spelled : LinesAreSpelled) (set : TraceSet) (w : List ℕ) (b d : Bool) → KnownIf set (cond b (Some (Some value.Null)) (cond d (Some (object_of (look w (names_of set).prebuilts))) (integer_of w >>= λ z. Some (Some (value.Int z)))))
value_known_by spelled set w true d = tt
value_known_by spelled set w false true = object_known set w (look w (names_of set).prebuilts) refl
value_known_by spelled set w false false = integer_known spelled set w (integer_of w) refl

value_known : (spelled : LinesAreSpelled) (set : TraceSet) (w : List ℕ) → KnownIf set (value_of (names_of set) w)
unfolding value_of
value_known spelled set w = value_known_by spelled set w (bytes_eq w (codes "NULL")) (is_name w)

-- ---- steps

abbrev Known : TraceSet → Start → Type 0
Known set s = AreKnown set s.inputs

abbrev Kept : TraceSet → Option Start → Type 0
Kept set None = Unit {0}
Kept set (Some s) = Known set s

expect_keeps : (set : TraceSet) (s : Start) (mark : List ℕ) (p : Place) (w : List ℕ) → Known set s → Kept set (expect s mark p w)
expect_keeps set s mark p w h = elim (bytes_eq w mark) as (λ b. Kept set (cond b (Some (go s p)) None)) [ true ↦ h | false ↦ tt ]

input_keeps : (set : TraceSet) (s : Start) (o : Option (Option Value)) → KnownIf set o → Known set s → Kept set (input_by s o)
input_keeps set s None k h = tt
input_keeps set s (Some None) k h = h
input_keeps set s (Some (Some v)) k h = each_push (IsKnown set) s.inputs v h k

gives_keeps : (set : TraceSet) (s : Start) (o : Option (Option Give)) → Known set s → Kept set (gives s o)
gives_keeps set s None h = tt
gives_keeps set s (Some o) h = h

first_keeps : (spelled : LinesAreSpelled) (set : TraceSet) (s : Start) (w : List ℕ) → Known set s → Kept set (first_step (names_of set) s w)
first_keeps spelled set s w h = elim (bytes_eq w (codes ")")) as (λ b. Kept set (cond b (Some (go s place.Closed)) (input_by s (value_of (names_of set) w)))) [ true ↦ h | false ↦ input_keeps set s (value_of (names_of set) w) (value_known spelled set w) h ]

behind_keeps : (set : TraceSet) (s : Start) (w : List ℕ) → Known set s → Kept set (behind_step s w)
behind_keeps set s w h = elim (bytes_eq w (codes ",")) as (λ b. Kept set (cond b (Some (go s place.Input)) (expect s (codes ")") place.Closed w))) [ true ↦ h | false ↦ expect_keeps set s (codes ")") place.Closed w h ]

answer_keeps_by : (set : TraceSet) (s : Start) (w : List ℕ) (b d : Bool) → Known set s → Kept set (cond b (Some (gives_found s (Some give.Nothing))) (cond d (Some (go s place.New)) (gives s (given_of (names_of set) w))))
answer_keeps_by set s w true d h = h
answer_keeps_by set s w false true h = h
answer_keeps_by set s w false false h = gives_keeps set s (given_of (names_of set) w) h

answer_keeps : (set : TraceSet) (s : Start) (w : List ℕ) → Known set s → Kept set (answer_step (names_of set) s w)
answer_keeps set s w h = answer_keeps_by set s w (bytes_eq w (codes "none")) (bytes_eq w (codes "new")) h

first_answer_keeps : (set : TraceSet) (s : Start) (w : List ℕ) → Known set s → Kept set (first_answer_step (names_of set) s w)
first_answer_keeps set s w h = elim (bytes_eq w (codes ")")) as (λ b. Kept set (cond b (Some (go s place.Ended)) (answer_step (names_of set) s w))) [ true ↦ h | false ↦ answer_keeps set s w h ]

end_keeps_by : (set : TraceSet) (s : Start) (b d : Bool) → Known set s → Kept set (cond b (Some (pushed s place.Answer)) (cond d (Some (pushed s place.Ended)) None))
end_keeps_by set s true d h = h
end_keeps_by set s false true h = h
end_keeps_by set s false false h = tt

end_keeps : (set : TraceSet) (s : Start) (w : List ℕ) → Known set s → Kept set (end_step s w)
end_keeps set s w h = end_keeps_by set s (bytes_eq w (codes ";")) (bytes_eq w (codes ")")) h

given_keeps : (set : TraceSet) (s : Start) (w : List ℕ) → Known set s → Kept set (given_step s w)
given_keeps set s w h = elim (bytes_eq w (codes "{")) as (λ b. Kept set (cond b (Some (go s place.Store)) (end_step s w))) [ true ↦ h | false ↦ end_keeps set s w h ]

new_keeps : (set : TraceSet) (s : Start) (w : List ℕ) → Known set s → Kept set (new_step (names_of set) s w)
new_keeps set s w h =
    let other : Start = gives_found s (give_if (object_of (look (codes "new") (names_of set).prebuilts))) in
    elim (is_name w) as (λ b. Kept set (cond b (Some (gives_found s (size_found (look w (names_of set).sizes)))) (given_step other w))) [ true ↦ h | false ↦ given_keeps set other w h ]

store_keeps : (set : TraceSet) (s : Start) (o : Option (ℕ × Option ℕ)) → Known set s → Kept set (store_by s o)
store_keeps set s None h = tt
store_keeps set s (Some t) h = h

stored_keeps : (set : TraceSet) (s : Start) (o : Option (Option Give)) → Known set s → Kept set (stored_by s o)
stored_keeps set s None h = tt
stored_keeps set s (Some None) h = h
stored_keeps set s (Some (Some v)) h = h

store_end_keeps : (set : TraceSet) (s : Start) (w : List ℕ) → Known set s → Kept set (store_end_step s w)
store_end_keeps set s w h = elim (bytes_eq w (codes ",")) as (λ b. Kept set (cond b (Some (go s place.Store)) (expect s (codes "}") place.Braced w))) [ true ↦ h | false ↦ expect_keeps set s (codes "}") place.Braced w h ]

step_keeps : (spelled : LinesAreSpelled) (set : TraceSet) (p : Place) (s : Start) (w : List ℕ) → Known set s → Kept set (step_at (names_of set) p s w)
step_keeps spelled set place.First s w h = first_keeps spelled set s w h
step_keeps spelled set place.Input s w h = input_keeps set s (value_of (names_of set) w) (value_known spelled set w) h
step_keeps spelled set place.Behind s w h = behind_keeps set s w h
step_keeps spelled set place.Closed s w h = expect_keeps set s (codes "answers") place.Answers w h
step_keeps spelled set place.Answers s w h = expect_keeps set s (codes "(") place.FirstAnswer w h
step_keeps spelled set place.FirstAnswer s w h = first_answer_keeps set s w h
step_keeps spelled set place.Answer s w h = answer_keeps set s w h
step_keeps spelled set place.New s w h = new_keeps set s w h
step_keeps spelled set place.Given s w h = given_keeps set s w h
step_keeps spelled set place.Store s w h = store_keeps set s (target_of (names_of set) w) h
step_keeps spelled set place.Equals s w h = expect_keeps set s (codes "=") place.Stored w h
step_keeps spelled set place.Stored s w h = stored_keeps set s (given_of (names_of set) w) h
step_keeps spelled set place.StoreEnd s w h = store_end_keeps set s w h
step_keeps spelled set place.Braced s w h = end_keeps set s w h
step_keeps spelled set place.Ended s w h = tt

run_keeps : (spelled : LinesAreSpelled) (set : TraceSet) (s m : Start) (ws : List (List ℕ)) → run (names_of set) s ws ≡ Some m → Known set s → Known set m
unfolding run
run_keeps spelled set s m [] e h = let same : s ≡ m = cc in subst (Known set) same h
run_keeps spelled set s m (w ∷ ws) e h =
    let a = bind_some (step (names_of set) s w) (λ x. run (names_of set) x ws) m e in
    run_keeps spelled set a.0 m ws a.2 (subst (Kept set) a.1 (step_keeps spelled set s.place s w h))

pub start_known : (spelled : LinesAreSpelled) (set : TraceSet) (ws : List (List ℕ)) (m : Start) → start_at (names_of set) ws ≡ Some m → AreKnown set m.inputs
unfolding start_at
start_known spelled set ws m e =
    let a = bind_some (run (names_of set) begin ws) done m e in
    let g = if_some (is_done a.0.place) a.0 m a.2 in
    subst (Known set) g.1 (run_keeps spelled set begin a.0 ws a.1 tt)
