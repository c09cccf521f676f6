-- Objects whose parts are written one after the other.
use Rattle.std.proofs.Common.{◌≡◌, ℕ, zero, suc, ◌+◌, ◌<◌, ◌≤◌, Some, List, [], ◌∷◌, ◌++◌, length, map, set, slice_get, append_assoc, refl, ap, sym, ◌∙◌, subst, arith}
use Rattle.std.specs.List.{All}
use Rattle.std.proofs.Math.ListN.{length-set}
use Rattle.std.proofs.lemmas.List.{set-set, length_push}
use Rattle.std.proofs.lemmas.Option.{slice_get_within}
use Rattle.trace_ops.specs.declared.table.Table.{Table}
use Rattle.trace_meaning.specs.declared.value.Value.{Value}
use Rattle.trace_meaning.specs.declared.value.Object.{Object}
use Rattle.trace_meaning.specs.Objects.{with_part}
use Rattle.target_base.specs.Arena.{Arena, with_arena_word}
use Rattle.arena_objects.specs.Layout.{address_of, part_offset, word_of}
use Rattle.arena_objects.specs.Standing.{IsPart, Stands}
use Rattle.arena_objects.specs.Laws.{arena_filled, FilledStands}
use Rattle.lists.proofs.Places.{get_set_within, set_right}
use Rattle.std.proofs.lemmas.List.Elements.{All-head, All-tail}
use Rattle.arena_objects.proofs.Places.{Agree, words_same}
use Rattle.arena_objects.proofs.Loads.{parts_are_written, writes_move_nothing}

-- the parts from place i on are these
abbrev put_from : ℕ → List Value → List Value → List Value
put_from i [] ps = ps
put_from i (x ∷ xs) ps = put_from (suc i) xs (set ps i x)

all_put : (front ys xs : List Value) (i : ℕ) → i ≡ length front → length xs ≡ length ys → put_from i xs (front ++ ys) ≡ front ++ xs
all_put front [] [] i e n = refl
all_put front (y ∷ ys) [] i e n = absurd (omega arith)
all_put front [] (x ∷ xs) i e n = absurd (omega arith)
all_put front (y ∷ ys) (x ∷ xs) i e n =
    let one : length (front ++ x ∷ []) ≡ length front + 1 = length_push front x in
    ap (put_from (suc i) xs) (set_right front (y ∷ ys) i 0 x (omega arith) ∙ sym (append_assoc front (x ∷ []) ys))
    ∙ all_put (front ++ x ∷ []) ys xs (suc i) (omega arith) (omega arith)
    ∙ append_assoc front (x ∷ []) xs

abbrev with_parts : Object → List Value → Object
with_parts o ps = record o { parts = ps }

fills : (t : Table) (objects : List Object) (arena : Arena) (n i : ℕ) (o : Object) (xs : List Value) → Stands t objects arena → slice_get objects n ≡ Some o → i + length xs ≤ length o.parts → All (IsPart (length objects)) xs → Stands t (set objects n (with_parts o (put_from i xs o.parts))) (arena_filled (address_of objects n + part_offset o.of i) (map (word_of (address_of objects)) xs) arena)
fills t objects arena n i o [] st e le all =
    subst (λ l. Stands t l arena) (sym (same objects n e)) st
  where
    same : (os : List Object) (k : ℕ) → slice_get os k ≡ Some o → set os k (with_parts o o.parts) ≡ os
    same [] k h = refl
    same (y ∷ ys) zero h = (let it : y ≡ o = cc in ap (λ (z : Object). z ∷ ys) (sym it))
    same (y ∷ ys) (suc k) h = ap (λ l. y ∷ l) (same ys k h)
fills t objects arena n i o (x ∷ xs) st e le all =
    let p = with_part o i x in
    let new = set objects n p in
    let lt : i < length o.parts = omega arith in
    let there : n < length objects = slice_get_within objects n o e in
    let many : length new ≡ length objects = length-set objects n p in
    let parts : length p.parts ≡ length o.parts = length-set o.parts i x in
    let after = with_arena_word (address_of objects n + part_offset o.of i) (word_of (address_of objects) x) arena in
    let rest : All (IsPart (length objects)) xs = All-tail (IsPart (length objects)) x xs all in
    let one : Stands t new after = parts_are_written t objects arena n i o x st e lt (All-head (IsPart (length objects)) x xs all) in
    let more = fills t new after n (suc i) p xs one (get_set_within objects n p there) (omega arith) (subst (λ m. All (IsPart m) xs) (sym many) rest) in
    let agree : Agree (length objects) (address_of new) (address_of objects) = λ m lm. writes_move_nothing objects n i m o x e in
    let words : map (word_of (address_of new)) xs ≡ map (word_of (address_of objects)) xs = words_same (length objects) (address_of new) (address_of objects) xs agree rest in
    let place : address_of new n + part_offset o.of (suc i) ≡ address_of objects n + part_offset o.of i + 8 = (let a : address_of new n ≡ address_of objects n = writes_move_nothing objects n i n o x e in omega arith) in
    let last = with_parts p (put_from (suc i) xs p.parts) in
    subst (λ l. Stands t l (arena_filled (address_of objects n + part_offset o.of i + 8) (map (word_of (address_of objects)) xs) after)) (set-set objects n p last)
    (subst (λ ws. Stands t (set new n last) (arena_filled (address_of objects n + part_offset o.of i + 8) ws after)) words
    (subst (λ a. Stands t (set new n last) (arena_filled a (map (word_of (address_of new)) xs) after)) place more))

pub filled_stands : FilledStands
filled_stands t objects arena n o xs st e count all =
    subst (λ ps. Stands t (set objects n (with_parts o ps)) (arena_filled (address_of objects n + part_offset o.of 0) (map (word_of (address_of objects)) xs) arena)) (all_put [] o.parts xs 0 refl count)
    (fills t objects arena n 0 o xs st e (omega arith) all)
