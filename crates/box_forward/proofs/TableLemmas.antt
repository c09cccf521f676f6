-- What a table says once a box is another argument.
use Rattle.std.proofs.Common.{◌≡◌, ◌≢◌, ℕ, zero, suc, ◌+◌, ◌-◌, ◌<◌, ◌^◌, Bool, true, false, cond, eqb, List, [], ◌∷◌, Option, Some, None, length, replicate, slice_get, slice_set, length-set, map, refl, ap, sym, subst, ◌∙◌, inl, inr, arith}
use Rattle.std.specs.Option.{option_map}
use Rattle.std.proofs.lemmas.Bool.{lt-ltb, le-ltb, cases_lt}
use Rattle.std.proofs.lemmas.Bool.Decides.{eqb_tells}
use Rattle.std.proofs.lemmas.List.{length-map}
use Rattle.std.proofs.lemmas.Option.{slice_get-map, slice_get_within}
use Rattle.trace_ops.specs.declared.trace.Arg.{Arg}
use Rattle.trace_ops.specs.declared.trace.Arg.TheVariants.{Of, Const, Null, Class, Func, Ptr}
use Rattle.trace_ops.specs.declared.trace.BoxId.{BoxId}
use Rattle.trace_ops.specs.declared.trace.Kind.{Kind}
use Rattle.trace_ops.specs.declared.trace.Kind.TheVariants.{Int, Ref}
use Rattle.box_forward.specs.Forwarding.{followed, instead, entry_or, IsApart, IsConstant, IsSettledAt, IsKeptBut}
use Rattle.box_forward.specs.Trees.{own_at, renamed, AreOwn}
use Rattle.box_forward.specs.Tables.{table_from, node_by, IsTable, IsOwnAt, IsValueAt}
use Rattle.box_forward.proofs.TreeLemmas.{renamed_there}

pub get-set_same : {X : Type 0} (xs : List X) (i : ℕ) (x y : X) → slice_get xs i ≡ Some x → slice_get (slice_set xs i y) i ≡ Some y
get-set_same [] i x y h = cc
get-set_same (z ∷ zs) zero x y h = refl
get-set_same (z ∷ zs) (suc i) x y h = get-set_same zs i x y h

get-set_other : {X : Type 0} (xs : List X) (i k : ℕ) (y : X) → k ≢ i → slice_get (slice_set xs i y) k ≡ slice_get xs k
get-set_other [] i k y ne = refl
get-set_other (z ∷ zs) zero zero y ne = absurd (ne refl)
get-set_other (z ∷ zs) zero (suc k) y ne = refl
get-set_other (z ∷ zs) (suc i) zero y ne = refl
get-set_other (z ∷ zs) (suc i) (suc k) y ne = get-set_other zs i k y (λ e. ne (ap suc e))

get_some : {X : Type 0} (xs : List X) (k : ℕ) → k < length xs → (x : X) × (slice_get xs k ≡ Some x)
get_some [] k h = absurd (omega (arith, h))
get_some (x ∷ xs) zero h = (x, refl)
get_some (x ∷ xs) (suc k) h = get_some xs k (omega (arith, h))

-- ---- entries

table_at : (k : ℕ) (vs : List Arg) (bs : List Bool) (i : ℕ) → slice_get (table_from k vs bs) i ≡ option_map (λ (b : Bool). cond b (slice_get vs (k + i)) None) (slice_get bs i)
table_at k vs [] i = refl
table_at k vs (b ∷ bs) zero = let e : k ≡ k + 0 = omega arith in ap (λ j. Some (cond b (slice_get vs j) None)) e
table_at k vs (b ∷ bs) (suc i) =
    let e : suc k + i ≡ k + suc i = omega arith in
    table_at (suc k) vs bs i ∙ ap (λ j. option_map (λ (b : Bool). cond b (slice_get vs j) None) (slice_get bs i)) e

table_length : (k : ℕ) (vs : List Arg) (bs : List Bool) → length (table_from k vs bs) ≡ length bs
table_length k vs [] = refl
table_length k vs (b ∷ bs) = ap suc (table_length (suc k) vs bs)

-- the entry of a box by its mark
at_mark : (vs : List Arg) (bs : List Bool) (i : ℕ) (o : Option Bool) → slice_get bs i ≡ o → slice_get (table_from 0 vs bs) i ≡ option_map (λ (b : Bool). cond b (slice_get vs i) None) o
at_mark vs bs i o e =
    let zero : 0 + i ≡ i = omega arith in
    table_at 0 vs bs i ∙ ap (λ j. option_map (λ (b : Bool). cond b (slice_get vs j) None) (slice_get bs i)) zero
    ∙ ap (option_map (λ (b : Bool). cond b (slice_get vs i) None)) e

pub false_own : (vs : List Arg) (bs : List Bool) (i : ℕ) → slice_get bs i ≡ Some false → slice_get (table_from 0 vs bs) i ≡ Some None
false_own vs bs i h = at_mark vs bs i (Some false) h

pub true_entry : (vs : List Arg) (bs : List Bool) (i : ℕ) → slice_get bs i ≡ Some true → slice_get (table_from 0 vs bs) i ≡ Some (slice_get vs i)
true_entry vs bs i h = at_mark vs bs i (Some true) h

pub own_false : (vs : List Arg) (bs : List Bool) (i : ℕ) → length bs < length vs + 1 → slice_get (table_from 0 vs bs) i ≡ Some None → slice_get bs i ≡ Some false
own_false vs bs i fits h = by (slice_get bs i) refl
  where
    by : (o : Option Bool) → slice_get bs i ≡ o → slice_get bs i ≡ Some false
    by None e = let was = at_mark vs bs i None e in cc
    by (Some false) e = e
    by (Some true) e =
        let was = at_mark vs bs i (Some true) e in
        let some = get_some vs i (omega (arith, slice_get_within bs i true e, fits)) in cc

fits_in : (vs : List Arg) (bs : List Bool) → IsTable vs bs → length bs < length vs + 1
fits_in vs bs h = omega (arith, h.count)

pub within_marks : (vs : List Arg) (bs : List Bool) (i : ℕ) → i < length (table_from 0 vs bs) → i < length bs
within_marks vs bs i h = subst (λ n. i < n) (table_length 0 vs bs) h

-- ---- following

pub followed_true : (vs : List Arg) (bs : List Bool) (b : BoxId) (x : Arg) → slice_get bs b.number ≡ Some true → slice_get vs b.number ≡ Some x → x ≡ followed (table_from 0 vs bs) (Of b)
followed_true vs bs b x mark at = sym (ap (λ (e : Option (Option Arg)). entry_or e (Of b)) (true_entry vs bs b.number mark ∙ ap Some at))

pub followed_false : (vs : List Arg) (bs : List Bool) (b : BoxId) → slice_get bs b.number ≡ Some false → Of b ≡ followed (table_from 0 vs bs) (Of b)
followed_false vs bs b mark = sym (ap (λ (e : Option (Option Arg)). entry_or e (Of b)) (false_own vs bs b.number mark))

pub value_settled : (vs : List Arg) (bs : List Bool) (k : ℕ) (x : Arg) → IsTable vs bs → slice_get vs k ≡ Some x → IsSettledAt (table_from 0 vs bs) x
value_settled vs bs k (Of b) h at = false_own vs bs b.number (h.settled k b at)
value_settled vs bs k (Const w) h at = tt
value_settled vs bs k Null h at = tt
value_settled vs bs k (Class n) h at = tt
value_settled vs bs k (Func n) h at = tt
value_settled vs bs k (Ptr n) h at = tt

-- ---- at first

pub table_new : (k : ℕ) (vs : List Arg) (n : ℕ) → table_from k vs (replicate n false) ≡ replicate n None
table_new k vs zero = refl
table_new k vs (suc n) = ap (λ (es : List (Option Arg)). None ∷ es) (table_new (suc k) vs n)

replicate_length : (n : ℕ) → length (replicate n false) ≡ n
replicate_length zero = refl
replicate_length (suc n) = ap suc (replicate_length n)

replicate_at : (n k : ℕ) → k < n → slice_get (replicate n false) k ≡ Some false
replicate_at zero k h = absurd (omega (arith, h))
replicate_at (suc n) zero h = refl
replicate_at (suc n) (suc k) h = replicate_at n k (omega (arith, h))

pub box_same : (b c : BoxId) → Of b ≡ Of c → b.number ≡ c.number
box_same b c e = cc

pub own_int : (n k : ℕ) → k < n → own_at n k ≡ Of (record { kind = Int; number = k })
own_int n k h = ap (λ (b : Bool). cond b (Of (record { kind = Int; number = k })) (Of (record { kind = Ref; number = k - n }))) (lt-ltb k n h)

pub own_ref : (n k : ℕ) → n < k + 1 → own_at n k ≡ Of (record { kind = Ref; number = k - n })
own_ref n k h = ap (λ (b : Bool). cond b (Of (record { kind = Int; number = k })) (Of (record { kind = Ref; number = k - n }))) (le-ltb k n (omega (arith, h)))

pub some_is : {X : Type 0} {x y : X} → Some x ≡ Some y → x ≡ y
some_is h = cc

pub table_begins : (n : ℕ) (vs : List Arg) → n < 2 ^ 32 → AreOwn n vs → IsTable vs (replicate n false)
table_begins n vs few own = record {
  count = own.count ∙ ap (λ m. m + m) (sym (replicate_length n));
  few = subst (λ m. m < 2 ^ 32) (sym (replicate_length n)) few;
  integers = λ k h. own.each k (omega (arith, below k h)) ∙ ap Some (own_int n k (below k h));
  references = λ k h.
      let in' = below k h in
      let back : n + k - n ≡ k = omega arith in
      ap (λ m. slice_get vs (m + k)) (replicate_length n) ∙ own.each (n + k) (omega (arith, in'))
      ∙ ap Some (own_ref n (n + k) (omega arith) ∙ ap (λ m. Of (record { kind = Ref; number = m })) back);
  settled = λ k b h. settles k b h (slice_get_within vs k (Of b) h);
}
  where
    below : (k : ℕ) → slice_get (replicate n false) k ≡ Some false → k < n
    below k h = subst (λ m. k < m) (replicate_length n) (slice_get_within (replicate n false) k false h)

    settles : (k : ℕ) (b : BoxId) → slice_get vs k ≡ Some (Of b) → k < length vs → slice_get (replicate n false) b.number ≡ Some false
    settles k b h in' =
        let room : k < n + n = subst (λ m. k < m) own.count in' in
        let is : own_at n k ≡ Of b = some_is (sym (own.each k room) ∙ h) in
        elim (cases_lt k n) [
          | inl low ↦ let e = box_same (record { kind = Int; number = k }) b (sym (own_int n k low) ∙ is) in replicate_at n b.number (subst (λ m. m < n) e low)
          | inr high ↦
              let e = box_same (record { kind = Ref; number = k - n }) b (sym (own_ref n k (omega (arith, high))) ∙ is) in
              replicate_at n b.number (subst (λ m. m < n) e (omega (arith, high, room)))
        ]

-- ---- one box in place of another

-- what stands for itself has its node
pub settled_value : (vs : List Arg) (bs : List Bool) (to : Arg) → IsTable vs bs → IsSettledAt (table_from 0 vs bs) to → IsValueAt vs (length bs) to
settled_value vs bs (Of b) h at = by b.kind b.number (own_false vs bs b.number (fits_in vs bs h) at)
  where
    by : (k : Kind) (n : ℕ) → slice_get bs n ≡ Some false → slice_get vs (node_by k (length bs) n) ≡ Some (Of (record { kind = k; number = n }))
    by Int n mark = h.integers n mark
    by Ref n mark = h.references n mark
settled_value vs bs (Const w) h at = tt
settled_value vs bs Null h at = tt
settled_value vs bs (Class n) h at = tt
settled_value vs bs (Func n) h at = tt
settled_value vs bs (Ptr n) h at = tt

pub own_nodes : (vs : List Arg) (bs : List Bool) (from : ℕ) → IsTable vs bs → slice_get (table_from 0 vs bs) from ≡ Some None → IsOwnAt vs (length bs) from
own_nodes vs bs from h own = let mark = own_false vs bs from (fits_in vs bs h) own in (h.integers from mark, h.references from mark)

instead_off : (from : ℕ) (to : Arg) (b : BoxId) → b.number ≢ from → instead from to (Of b) ≡ Of b
instead_off from to b ne = elim (eqb_tells b.number from) [ inl t ↦ absurd (ne t.1) | inr t ↦ ap (λ (v : Bool). cond v to (Of b)) t.0 ]

instead_on : (from : ℕ) (to : Arg) (b : BoxId) → b.number ≡ from → instead from to (Of b) ≡ to
instead_on from to b e = elim (eqb_tells b.number from) [ inl t ↦ ap (λ (v : Bool). cond v to (Of b)) t.0 | inr t ↦ absurd (t.1 e) ]

module _ (vs : List Arg) (bs : List Bool) (table : IsTable vs bs) (from : ℕ) (to : Arg) (own : slice_get (table_from 0 vs bs) from ≡ Some None) (apart : IsApart from to)
    (settled : IsSettledAt (table_from 0 vs bs) to) where
  mark : slice_get bs from ≡ Some false
  mark = own_false vs bs from (fits_in vs bs table) own

  here : slice_get (slice_set bs from true) from ≡ Some true
  here = get-set_same bs from false true mark

  there : (k : ℕ) → k ≢ from → slice_get (slice_set bs from true) k ≡ slice_get bs k
  there k ne = get-set_other bs from k true ne

  -- what is marked false after was before, and is another box
  was_false : (k : ℕ) → slice_get (slice_set bs from true) k ≡ Some false → (k ≢ from) × (slice_get bs k ≡ Some false)
  was_false k h = elim (eqb_tells k from) [
    | inl t ↦ let now = ap (slice_get (slice_set bs from true)) t.1 ∙ here in cc
    | inr t ↦ (t.1, sym (there k t.1) ∙ h)
  ]

  mapped : (k : ℕ) (x : Arg) → slice_get vs k ≡ Some x → slice_get (map (instead from to) vs) k ≡ Some (instead from to x)
  mapped k x h = slice_get-map (instead from to) vs k ∙ ap (option_map (instead from to)) h

  to_settled : (t : Arg) (b : BoxId) → IsApart from t → IsSettledAt (table_from 0 vs bs) t → t ≡ Of b → slice_get (slice_set bs from true) b.number ≡ Some false
  to_settled t b ap' se e =
      let off : b.number ≢ from = subst (IsApart from) e ap' in
      there b.number off ∙ own_false vs bs b.number (fits_in vs bs table) (subst (IsSettledAt (table_from 0 vs bs)) e se)

  new_settled : (k : ℕ) (b : BoxId) → slice_get (map (instead from to) vs) k ≡ Some (Of b) → slice_get (slice_set bs from true) b.number ≡ Some false
  new_settled k b h = by (slice_get vs k) refl
    where
      from_value : (x : Arg) → slice_get vs k ≡ Some x → instead from to x ≡ Of b → slice_get (slice_set bs from true) b.number ≡ Some false
      from_value (Of c) at e = elim (eqb_tells c.number from) [
        | inl t ↦ to_settled to b apart settled (sym (instead_on from to c t.1) ∙ e)
        | inr t ↦
            let same = box_same c b (sym (instead_off from to c t.1) ∙ e) in
            subst (λ n. slice_get (slice_set bs from true) n ≡ Some false) same (there c.number t.1 ∙ table.settled k c at)
      ]
      from_value (Const w) at e = cc
      from_value Null at e = cc
      from_value (Class n) at e = cc
      from_value (Func n) at e = cc
      from_value (Ptr n) at e = cc

      by : (o : Option Arg) → slice_get vs k ≡ o → slice_get (slice_set bs from true) b.number ≡ Some false
      by None e = let was = slice_get-map (instead from to) vs k ∙ ap (option_map (instead from to)) e in cc
      by (Some x) e = from_value x e (some_is (sym (mapped k x e) ∙ h))

  pub changed_table : IsTable (map (instead from to) vs) (slice_set bs from true)
  changed_table =
      let marks = length-set bs from true in
      let count = length-map vs (instead from to) in record {
        count = count ∙ table.count ∙ ap (λ n. n + n) (sym marks);
        few = subst (λ n. n < 2 ^ 32) (sym marks) table.few;
        integers = λ k h. let was = was_false k h in mapped k _ (table.integers k was.1) ∙ ap Some (instead_off from to (record { kind = Int; number = k }) was.0);
        references = λ k h. let was = was_false k h in
            ap (λ n. slice_get (map (instead from to) vs) (n + k)) marks ∙ mapped (length bs + k) _ (table.references k was.1)
            ∙ ap Some (instead_off from to (record { kind = Ref; number = k }) was.0);
        settled = new_settled;
      }

  pub changed_followed : (a : Arg) → followed (table_from 0 (map (instead from to) vs) (slice_set bs from true)) a ≡ instead from to (followed (table_from 0 vs bs) a)
  changed_followed (Of b) = by (slice_get bs b.number) refl
    where
      by : (o : Option Bool) → slice_get bs b.number ≡ o → followed (table_from 0 (map (instead from to) vs) (slice_set bs from true)) (Of b) ≡ instead from to (followed (table_from 0 vs bs) (Of b))
      by None e =
          let off : b.number ≢ from = λ w. let both = sym e ∙ ap (slice_get bs) w ∙ mark in cc in
          ap (λ (o : Option (Option Arg)). entry_or o (Of b)) (at_mark (map (instead from to) vs) (slice_set bs from true) b.number None (there b.number off ∙ e))
          ∙ sym (instead_off from to b off) ∙ ap (λ (o : Option (Option Arg)). instead from to (entry_or o (Of b))) (sym (at_mark vs bs b.number None e))
      by (Some false) e = elim (eqb_tells b.number from) [
        | inl t ↦
            let x : Arg = Of (record { kind = Int; number = b.number }) in
            sym (followed_true (map (instead from to) vs) (slice_set bs from true) b (instead from to x) (ap (slice_get (slice_set bs from true)) t.1 ∙ here) (mapped b.number x (table.integers b.number e)))
            ∙ instead_on from to (record { kind = Int; number = b.number }) t.1 ∙ sym (instead_on from to b t.1) ∙ ap (instead from to) (followed_false vs bs b e)
        | inr t ↦
            sym (followed_false (map (instead from to) vs) (slice_set bs from true) b (there b.number t.1 ∙ e)) ∙ sym (instead_off from to b t.1) ∙ ap (instead from to) (followed_false vs bs b e)
      ]
      by (Some true) e =
          let off : b.number ≢ from = λ w. let both = sym e ∙ ap (slice_get bs) w ∙ mark in cc in
          let some = get_some vs b.number (omega (arith, slice_get_within bs b.number true e, fits_in vs bs table)) in
          sym (followed_true (map (instead from to) vs) (slice_set bs from true) b (instead from to some.0) (there b.number off ∙ e) (mapped b.number some.0 some.1))
          ∙ ap (instead from to) (followed_true vs bs b some.0 e some.1)
  changed_followed (Const w) = refl
  changed_followed Null = refl
  changed_followed (Class n) = refl
  changed_followed (Func n) = refl
  changed_followed (Ptr n) = refl

  pub changed_kept : IsKeptBut from (table_from 0 vs bs) (table_from 0 (map (instead from to) vs) (slice_set bs from true))
  changed_kept = record {
    same_length = table_length 0 (map (instead from to) vs) (slice_set bs from true) ∙ length-set bs from true ∙ sym (table_length 0 vs bs);
    own = λ k ne h. false_own (map (instead from to) vs) (slice_set bs from true) k (there k ne ∙ own_false vs bs k (fits_in vs bs table) h);
  }

-- ---- both kinds of a box

pub apart_box : (from : ℕ) (to : Arg) (k : Kind) → IsApart from to → to ≡ Of (record { kind = k; number = from }) → ⊥
apart_box from to k h e = subst (IsApart from) e h refl

pub renamed_twice : (from : ℕ) (to x : Arg) → IsApart from to
    → renamed (record { kind = Ref; number = from }) to (renamed (record { kind = Int; number = from }) to x) ≡ instead from to x
renamed_twice from to (Of b) apart = by b.kind b.number
  where
    by : (k : Kind) (n : ℕ) → renamed (record { kind = Ref; number = from }) to (renamed (record { kind = Int; number = from }) to (Of (record { kind = k; number = n }))) ≡ instead from to (Of (record { kind = k; number = n }))
    by Int n = cases (eqb n from)
      where
        cases : (v : Bool) → renamed (record { kind = Ref; number = from }) to (cond v to (Of (record { kind = Int; number = n }))) ≡ cond v to (Of (record { kind = Int; number = n }))
        cases true = renamed_there (record { kind = Ref; number = from }) to to (apart_box from to Ref apart)
        cases false = refl
    by Ref n = refl
renamed_twice from to (Const w) apart = refl
renamed_twice from to Null apart = refl
renamed_twice from to (Class n) apart = refl
renamed_twice from to (Func n) apart = refl
renamed_twice from to (Ptr n) apart = refl

pub maps_twice : (from : ℕ) (to : Arg) (vs : List Arg) → IsApart from to
    → map (renamed (record { kind = Ref; number = from }) to) (map (renamed (record { kind = Int; number = from }) to) vs) ≡ map (instead from to) vs
maps_twice from to [] apart = refl
maps_twice from to (v ∷ vs) apart =
    ap (λ (x : Arg). x ∷ map (renamed (record { kind = Ref; number = from }) to) (map (renamed (record { kind = Int; number = from }) to) vs)) (renamed_twice from to v apart)
    ∙ ap (λ (xs : List Arg). instead from to v ∷ xs) (maps_twice from to vs apart)

pub constant_apart : (from : ℕ) (to : Arg) → IsConstant to → IsApart from to
constant_apart from (Of b) h = absurd h
constant_apart from (Const w) h = tt
constant_apart from Null h = tt
constant_apart from (Class n) h = tt
constant_apart from (Func n) h = tt
constant_apart from (Ptr n) h = tt

-- the reference's node, once the integer's has another value
pub reference_stays : (from boxes : ℕ) (to : Arg) (vs : List Arg) → slice_get vs (boxes + from) ≡ Some (Of (record { kind = Ref; number = from }))
    → slice_get (map (renamed (record { kind = Int; number = from }) to) vs) (boxes + from) ≡ Some (Of (record { kind = Ref; number = from }))
reference_stays from boxes to vs h = slice_get-map (renamed (record { kind = Int; number = from }) to) vs (boxes + from) ∙ ap (option_map (renamed (record { kind = Int; number = from }) to)) h

pub other_stays : (from i : ℕ) (to : Arg) (vs : List Arg) → IsApart from to → slice_get vs i ≡ Some to → slice_get (map (renamed (record { kind = Int; number = from }) to) vs) i ≡ Some to
other_stays from i to vs apart h =
    slice_get-map (renamed (record { kind = Int; number = from }) to) vs i ∙ ap (option_map (renamed (record { kind = Int; number = from }) to)) h
    ∙ ap Some (renamed_there (record { kind = Int; number = from }) to to (apart_box from to Int apart))

pub own_mark : (vs : List Arg) (bs : List Bool) (from : ℕ) → IsTable vs bs → slice_get (table_from 0 vs bs) from ≡ Some None → slice_get bs from ≡ Some false
own_mark vs bs from h own = own_false vs bs from (fits_in vs bs h) own
