-- What a node's root and value are once two trees are one.
use Rattle.std.proofs.Common.{◌≡◌, ◌≢◌, ℕ, zero, suc, ◌+◌, ◌-◌, ◌<◌, ◌≤◌, Bool, true, false, cond, eqb, ◌&&◌, List, [], ◌∷◌, ◌++◌, Some, length, slice_get, get_or, slice_set, map, refl, ap, sym, ◌∙◌, inl, inr, arith}
use Rattle.std.proofs.lemmas.Bool.Decides.{eqb_tells}
use Rattle.std.proofs.lemmas.Bool.{and_parts, eqb-true}
use Rattle.std.proofs.lemmas.List.{get_or-set_same, get_or-set_other}
use Rattle.trace_ops.specs.declared.trace.Arg.{Arg}
use Rattle.trace_ops.specs.declared.trace.Arg.TheVariants.{Of, Const, Null, Class, Func, Ptr}
use Rattle.trace_ops.specs.declared.trace.BoxId.{BoxId}
use Rattle.trace_ops.specs.declared.trace.Kind.{Kind}
use Rattle.trace_ops.specs.declared.trace.Kind.TheVariants.{Int, Ref}
use Rattle.box_forward.specs.Trees.{root, value_in, values_from, count_roots, AreWithin, same_kind, same_box, renamed}

-- ---- roots

pub root_fix : (n : ℕ) (ps : List ℕ) (k : ℕ) → get_or ps k 0 ≡ k → root n ps k ≡ k
root_fix zero ps k h = refl
root_fix (suc n) ps k h = ap (root n ps) h ∙ root_fix n ps k h

pub root_less : (n : ℕ) (ps : List ℕ) (k : ℕ) → 0 < n → root n ps k ≡ root (n - 1) ps (get_or ps k 0)
root_less zero ps k h = absurd (omega (arith, h))
root_less (suc n) ps k h = let e : n ≡ suc n - 1 = omega arith in ap (λ m. root m ps (get_or ps k 0)) e

root_last : (n : ℕ) (ps : List ℕ) (k : ℕ) → root (suc n) ps k ≡ get_or ps (root n ps k) 0
root_last zero ps k = refl
root_last (suc n) ps k = root_last n ps (get_or ps k 0)

pub root_within : (n : ℕ) (ps : List ℕ) (k : ℕ) → AreWithin ps → k < length ps → root n ps k < length ps
root_within zero ps k h w = w
root_within (suc n) ps k h w = root_within n ps (get_or ps k 0) h (h k w)

-- the tree of a is a part of that of b
module _ (ps : List ℕ) (a b : ℕ) (in' : a < length ps) (a_root : get_or ps a 0 ≡ a) (b_root : get_or ps b 0 ≡ b) (differ : b ≢ a) where
  at_a : get_or (slice_set ps a b) a 0 ≡ b
  at_a = get_or-set_same ps a b 0 in'

  at_other : (k : ℕ) → k ≢ a → get_or (slice_set ps a b) k 0 ≡ get_or ps k 0
  at_other k ne = get_or-set_other ps a k b 0 ne

  b_stays : get_or (slice_set ps a b) b 0 ≡ b
  b_stays = at_other b differ ∙ b_root

  pub joins : (n k : ℕ) → root n ps k ≡ a → root (suc n) (slice_set ps a b) k ≡ b
  joins zero k h = ap (λ j. get_or (slice_set ps a b) j 0) h ∙ at_a
  joins (suc n) k h = elim (eqb_tells k a) [
    | inl t ↦ ap (root (suc n) (slice_set ps a b)) (ap (λ j. get_or (slice_set ps a b) j 0) t.1 ∙ at_a) ∙ root_fix (suc n) (slice_set ps a b) b b_stays
    | inr t ↦ ap (root (suc n) (slice_set ps a b)) (at_other k t.1) ∙ joins n (get_or ps k 0) h
  ]

  keeps : (n k : ℕ) → root n ps k ≢ a → root n (slice_set ps a b) k ≡ root n ps k
  keeps zero k h = refl
  keeps (suc n) k h = elim (eqb_tells k a) [
    | inl t ↦ absurd (h (ap (root (suc n) ps) t.1 ∙ root_fix (suc n) ps a a_root))
    | inr t ↦ ap (root n (slice_set ps a b)) (at_other k t.1) ∙ keeps n (get_or ps k 0) h
  ]

  pub stays : (n k : ℕ) → root n ps k ≢ a → get_or ps (root n ps k) 0 ≡ root n ps k → root (suc n) (slice_set ps a b) k ≡ root n ps k
  stays n k h fix =
      root_last n (slice_set ps a b) k ∙ ap (λ j. get_or (slice_set ps a b) j 0) (keeps n k h) ∙ at_other (root n ps k) h ∙ fix

-- ---- how many roots there are

abbrev number : Bool → ℕ
number b = cond b 1 0

one_root : (j : ℕ) (ps : List ℕ) (i : ℕ) → i < length ps → get_or ps i 0 ≡ j + i → 1 ≤ count_roots j ps
one_root j [] i h e = absurd (omega (arith, h))
one_root j (p ∷ ps) zero h e =
    let own : eqb p j ≡ true = elim (eqb_tells p j) [ inl t ↦ t.0 | inr t ↦ absurd (t.1 (omega (arith, e))) ] in
    let first : number (eqb p j) ≡ suc zero = ap (λ (b : Bool). number b) own in
    omega (arith, first)
one_root j (p ∷ ps) (suc i) h e = let rest = one_root (suc j) ps i (omega (arith, h)) (e ∙ omega arith) in omega (arith, rest)

pub fewer_roots : (j : ℕ) (ps : List ℕ) (i b : ℕ) → i < length ps → get_or ps i 0 ≡ j + i → b ≢ j + i → count_roots j (slice_set ps i b) + 1 ≡ count_roots j ps
fewer_roots j [] i b h e ne = absurd (omega (arith, h))
fewer_roots j (p ∷ ps) zero b h e ne =
    let was : eqb p j ≡ true = elim (eqb_tells p j) [ inl t ↦ t.0 | inr t ↦ absurd (t.1 (omega (arith, e))) ] in
    let now : eqb b j ≡ false = elim (eqb_tells b j) [ inl t ↦ absurd (ne (omega (arith, t.1))) | inr t ↦ t.0 ] in
    let first : number (eqb p j) ≡ suc zero = ap (λ (v : Bool). number v) was in
    let none : number (eqb b j) ≡ zero = ap (λ (v : Bool). number v) now in
    omega (arith, first, none)
fewer_roots j (p ∷ ps) (suc i) b h e ne =
    let rest = fewer_roots (suc j) ps i b (omega (arith, h)) (e ∙ omega arith) (λ (q : b ≡ suc j + i). ne (q ∙ omega arith)) in
    omega (arith, rest)

pub few_roots : (j : ℕ) (ps : List ℕ) → count_roots j ps ≤ length ps
few_roots j [] = omega arith
few_roots j (p ∷ ps) =
    let rest = few_roots (suc j) ps in
    let first : number (eqb p j) ≤ suc zero = at_most (eqb p j) in
    omega (arith, rest, first)
  where
    at_most : (b : Bool) → number b ≤ suc zero
    at_most true = omega arith
    at_most false = omega arith

-- ---- the values of nodes

pub values_length : (n : ℕ) (ps : List ℕ) (vs : List Arg) (k count : ℕ) → length (values_from n ps vs k count) ≡ count
values_length n ps vs k zero = refl
values_length n ps vs k (suc count) = ap suc (values_length n ps vs (suc k) count)

values_at : (n : ℕ) (ps : List ℕ) (vs : List Arg) (k count i : ℕ) → i < count → slice_get (values_from n ps vs k count) i ≡ Some (value_in n ps vs (k + i))
values_at n ps vs k zero i h = absurd (omega (arith, h))
values_at n ps vs k (suc count) zero h = let e : k ≡ k + 0 = omega arith in ap (λ j. Some (value_in n ps vs j)) e
values_at n ps vs k (suc count) (suc i) h =
    let e : suc k + i ≡ k + suc i = omega arith in
    values_at n ps vs (suc k) count i (omega (arith, h)) ∙ ap (λ j. Some (value_in n ps vs j)) e

pub value_at : (n : ℕ) (ps : List ℕ) (vs : List Arg) (i : ℕ) → i < length ps → slice_get (values_from n ps vs 0 (length ps)) i ≡ Some (value_in n ps vs i)
value_at n ps vs i h = let e : 0 + i ≡ i = omega arith in values_at n ps vs 0 (length ps) i h ∙ ap (λ j. Some (value_in n ps vs j)) e

pub values_map : (f : Arg → Arg) (n m : ℕ) (ps qs : List ℕ) (vs ws : List Arg) (k count : ℕ)
    → ((i : ℕ) → i < k + count → value_in m qs ws i ≡ f (value_in n ps vs i)) → values_from m qs ws k count ≡ map f (values_from n ps vs k count)
values_map f n m ps qs vs ws k zero h = refl
values_map f n m ps qs vs ws k (suc count) h =
    ap (λ (x : Arg). x ∷ values_from m qs ws (suc k) count) (h k (omega arith))
    ∙ ap (λ (xs : List Arg). f (value_in n ps vs k) ∷ xs) (values_map f n m ps qs vs ws (suc k) count (λ i w. h i (omega (arith, w))))

some_same : {X : Type 0} {x y : X} → Some x ≡ Some y → x ≡ y
some_same h = cc

pub view_at : (n : ℕ) (ps : List ℕ) (vs : List Arg) (i : ℕ) (x : Arg) → slice_get (values_from n ps vs 0 (length ps)) i ≡ Some x → i < length ps → value_in n ps vs i ≡ x
view_at n ps vs i x h w = some_same (sym (value_at n ps vs i w) ∙ h)

-- ---- one box is another

kinds_same : (a b : Kind) → same_kind a b ≡ true → a ≡ b
kinds_same Int Int h = refl
kinds_same Ref Ref h = refl
kinds_same Int Ref h = cc
kinds_same Ref Int h = cc

same_is : (a b : BoxId) → same_box a b ≡ true → a ≡ b
same_is a b h =
    let parts = and_parts (same_kind a.kind b.kind) (eqb b.number a.number) h in
    ap (λ (k : Kind). record { kind = k; number = a.number }) (kinds_same a.kind b.kind parts.0)
    ∙ ap (λ (n : ℕ). record { kind = b.kind; number = n }) (sym (eqb-true b.number a.number parts.1))

kind_refl : (a : Kind) → same_kind a a ≡ true
kind_refl Int = refl
kind_refl Ref = refl

same_refl : (b : BoxId) → same_box b b ≡ true
same_refl b = ap (λ (v : Bool). v && eqb b.number b.number) (kind_refl b.kind) ∙ elim (eqb_tells b.number b.number) [ inl t ↦ t.0 | inr t ↦ absurd (t.1 refl) ]

pub renamed_here : (b : BoxId) (to : Arg) → renamed b to (Of b) ≡ to
renamed_here b to = ap (λ (v : Bool). cond v to (Of b)) (same_refl b)

pub renamed_there : (b : BoxId) (to x : Arg) → (x ≡ Of b → ⊥) → renamed b to x ≡ x
renamed_there b to (Of c) ne = by (same_box b c) refl
  where
    by : (v : Bool) → same_box b c ≡ v → cond v to (Of c) ≡ Of c
    by true e = absurd (ne (ap Of (sym (same_is b c e))))
    by false e = refl
renamed_there b to (Const w) ne = refl
renamed_there b to Null ne = refl
renamed_there b to (Class n) ne = refl
renamed_there b to (Func n) ne = refl
renamed_there b to (Ptr n) ne = refl

-- ---- lists that are made by pushes

pub push_at : {X : Type 0} (xs : List X) (x : X) (f : ℕ → X) → ((k : ℕ) → k < length xs → slice_get xs k ≡ Some (f k)) → x ≡ f (length xs)
    → (k : ℕ) → k < length (xs ++ x ∷ []) → slice_get (xs ++ x ∷ []) k ≡ Some (f k)
push_at [] x f h e zero w = ap Some e
push_at [] x f h e (suc k) w = absurd (omega (arith, w))
push_at (y ∷ ys) x f h e zero w = h 0 (omega arith)
push_at (y ∷ ys) x f h e (suc k) w = push_at ys x (λ j. f (suc j)) (λ j v. h (suc j) (omega (arith, v))) e k (omega (arith, w))
