-- Joined trees and settled ones are forests.
use Rattle.std.proofs.Common.{◌≡◌, ◌≢◌, ℕ, suc, ◌+◌, ◌<◌, ◌^◌, List, length, get_or, slice_set, length-set, ap, sym, subst, ◌∙◌, ◌⊎◌, inl, inr, arith}
use Rattle.std.proofs.lemmas.Bool.Decides.{eqb_tells}
use Rattle.std.proofs.lemmas.List.{get_or-set_same, get_or-set_other}
use Rattle.trace_ops.specs.declared.trace.Arg.{Arg}
use Rattle.trace_ops.specs.declared.trace.Arg.TheVariants.{Of, Null}
use Rattle.trace_ops.specs.declared.trace.BoxId.{BoxId}
use Rattle.box_forward.specs.Forwarding.{IsConstant}
use Rattle.box_forward.specs.Trees.{root, value_in, AreWithin, IsForest, renamed}
use Rattle.box_forward.proofs.TreeLemmas.{joins, stays, fewer_roots, renamed_here, renamed_there}

-- the tree of a is a part of that of b, whose value is `to`
module _ (n : ℕ) (ps ss : List ℕ) (vs : List Arg) (forest : IsForest n ps ss vs) (a b : ℕ) (a_in : a < length ps) (b_in : b < length ps)
    (a_root : get_or ps a 0 ≡ a) (b_root : get_or ps b 0 ≡ b) (differ : b ≢ a) (f : Arg → Arg) (to : Arg)
    (f_a : f (get_or vs a Null) ≡ to) (f_b : f (get_or vs b Null) ≡ to)
    (f_other : (k : ℕ) → k < length ps → root n ps k ≢ a → root n ps k ≢ b → f (value_in n ps vs k) ≡ value_in n ps vs k)
    (only : (k : ℕ) → k < length ps → value_in n ps vs k ≡ to → (root n ps k ≡ a) ⊎ (root n ps k ≡ b)) where
  qs : List ℕ
  qs = slice_set ps a b

  ws : List Arg
  ws = slice_set vs b to

  data Where (k : ℕ) : Type 0 where
    Of_a : root n ps k ≡ a → root (suc n) (slice_set ps a b) k ≡ b → Where k
    Of_b : root n ps k ≡ b → root (suc n) (slice_set ps a b) k ≡ b → Where k
    Of_other : root n ps k ≢ a → root n ps k ≢ b → root (suc n) (slice_set ps a b) k ≡ root n ps k → Where k

  where_is : (k : ℕ) → k < length ps → Where k
  where_is k h = elim (eqb_tells (root n ps k) a) [
    | inl t ↦ Of_a t.1 (joins ps a b a_in a_root b_root differ n k t.1)
    | inr t ↦
        let new : root (suc n) (slice_set ps a b) k ≡ root n ps k = stays ps a b a_in a_root b_root differ n k t.1 (forest.roots k h) in
        elim (eqb_tells (root n ps k) b) [
          | inl u ↦ Of_b u.1 (new ∙ u.1)
          | inr u ↦ Of_other t.1 u.1 new
        ]
  ]

  b_value : (k : ℕ) → root (suc n) (slice_set ps a b) k ≡ b → value_in (suc n) (slice_set ps a b) (slice_set vs b to) k ≡ to
  b_value k e = ap (λ j. get_or (slice_set vs b to) j Null) e ∙ get_or-set_same vs b to Null (subst (λ c. b < c) (sym forest.each_value) b_in)

  pub new_value : (k : ℕ) → k < length ps → value_in (suc n) (slice_set ps a b) (slice_set vs b to) k ≡ f (value_in n ps vs k)
  new_value k h = by (where_is k h)
    where
      by : Where k → value_in (suc n) (slice_set ps a b) (slice_set vs b to) k ≡ f (value_in n ps vs k)
      by (Of_a was now) = b_value k now ∙ sym f_a ∙ ap (λ j. f (get_or vs j Null)) (sym was)
      by (Of_b was now) = b_value k now ∙ sym f_b ∙ ap (λ j. f (get_or vs j Null)) (sym was)
      by (Of_other off_a off_b now) =
          ap (λ j. get_or (slice_set vs b to) j Null) now ∙ get_or-set_other vs b (root n ps k) to Null off_b ∙ sym (f_other k h off_a off_b)

  -- what has another value than the joined trees is as it was
  new_one : (j k : ℕ) (c : BoxId) → j < length ps → k < length ps → value_in (suc n) (slice_set ps a b) (slice_set vs b to) j ≡ Of c → value_in (suc n) (slice_set ps a b) (slice_set vs b to) k ≡ Of c
      → root (suc n) (slice_set ps a b) j ≡ root (suc n) (slice_set ps a b) k
  new_one j k c hj hk ej ek = by (where_is j hj) (where_is k hk)
    where
      apart : (i m : ℕ) → i < length ps → m < length ps → value_in (suc n) (slice_set ps a b) (slice_set vs b to) i ≡ Of c → value_in (suc n) (slice_set ps a b) (slice_set vs b to) m ≡ Of c
          → root (suc n) (slice_set ps a b) i ≡ b → root n ps m ≢ a → root n ps m ≢ b → ⊥
      apart i m hi hm ei em at off_a off_b =
          let is : Of c ≡ to = sym ei ∙ b_value i at in
          let had : value_in n ps vs m ≡ to = sym (f_other m hm off_a off_b) ∙ sym (new_value m hm) ∙ em ∙ is in
          elim (only m hm had) [ inl e ↦ off_a e | inr e ↦ off_b e ]

      by : Where j → Where k → root (suc n) (slice_set ps a b) j ≡ root (suc n) (slice_set ps a b) k
      by (Of_a wj nj) (Of_a wk nk) = nj ∙ sym nk
      by (Of_a wj nj) (Of_b wk nk) = nj ∙ sym nk
      by (Of_b wj nj) (Of_a wk nk) = nj ∙ sym nk
      by (Of_b wj nj) (Of_b wk nk) = nj ∙ sym nk
      by (Of_a wj nj) (Of_other ak bk nk) = absurd (apart j k hj hk ej ek nj ak bk)
      by (Of_b wj nj) (Of_other ak bk nk) = absurd (apart j k hj hk ej ek nj ak bk)
      by (Of_other aj bj nj) (Of_a wk nk) = absurd (apart k j hk hj ek ej nk aj bj)
      by (Of_other aj bj nj) (Of_b wk nk) = absurd (apart k j hk hj ek ej nk aj bj)
      by (Of_other aj bj nj) (Of_other ak bk nk) =
          nj ∙ forest.one j k c hj hk (sym (f_other j hj aj bj) ∙ sym (new_value j hj) ∙ ej) (sym (f_other k hk ak bk) ∙ sym (new_value k hk) ∙ ek) ∙ sym nk

  new_root : (k : ℕ) → k < length ps → get_or (slice_set ps a b) (root (suc n) (slice_set ps a b) k) 0 ≡ root (suc n) (slice_set ps a b) k
  new_root k h = by (where_is k h)
    where
      b_stays : get_or (slice_set ps a b) b 0 ≡ b
      b_stays = get_or-set_other ps a b b 0 differ ∙ b_root

      by : Where k → get_or (slice_set ps a b) (root (suc n) (slice_set ps a b) k) 0 ≡ root (suc n) (slice_set ps a b) k
      by (Of_a was now) = ap (λ j. get_or (slice_set ps a b) j 0) now ∙ b_stays ∙ sym now
      by (Of_b was now) = ap (λ j. get_or (slice_set ps a b) j 0) now ∙ b_stays ∙ sym now
      by (Of_other off_a off_b now) =
          ap (λ j. get_or (slice_set ps a b) j 0) now ∙ get_or-set_other ps a (root n ps k) b 0 off_a ∙ forest.roots k h ∙ sym now

  new_within : AreWithin (slice_set ps a b)
  new_within k h =
      let count = length-set ps a b in
      subst (λ c. get_or (slice_set ps a b) k 0 < c) (sym count) (elim (eqb_tells k a) [
        | inl t ↦ subst (λ c. c < length ps) (sym (ap (λ j. get_or (slice_set ps a b) j 0) t.1 ∙ get_or-set_same ps a b 0 a_in)) b_in
        | inr t ↦ subst (λ c. c < length ps) (sym (get_or-set_other ps a k b 0 t.1)) (forest.within k (subst (λ c. k < c) count h))
      ])

  pub joined : (ts : List ℕ) → length ts ≡ length ss → IsForest (suc n) (slice_set ps a b) ts (slice_set vs b to)
  joined ts same =
      let count = length-set ps a b in
      let fewer = fewer_roots 0 ps a b a_in (a_root ∙ omega arith) (λ (e : b ≡ 0 + a). differ (e ∙ omega arith)) in record {
        each_size = same ∙ forest.each_size ∙ sym count;
        each_value = length-set vs b to ∙ forest.each_value ∙ sym count;
        small = subst (λ c. c < 2 ^ 34) (sym count) forest.small;
        within = new_within;
        roots = λ k h. new_root k (subst (λ c. k < c) count h);
        few = omega (arith, count, fewer, forest.few);
        one = λ j k c hj hk. new_one j k c (subst (λ l. j < l) count hj) (subst (λ l. k < l) count hk);
      }

-- the value of a tree is a constant
module _ (n : ℕ) (ps ss : List ℕ) (vs : List Arg) (forest : IsForest n ps ss vs) (a : ℕ) (a_in : a < length ps) (box : BoxId) (had : get_or vs a Null ≡ Of box)
    (to : Arg) (constant : IsConstant to) where
  settled_value : (k : ℕ) → root n ps k ≡ a → value_in n ps (slice_set vs a to) k ≡ to
  settled_value k e = ap (λ j. get_or (slice_set vs a to) j Null) e ∙ get_or-set_same vs a to Null (subst (λ c. a < c) (sym forest.each_value) a_in)

  other_value : (k : ℕ) → root n ps k ≢ a → value_in n ps (slice_set vs a to) k ≡ value_in n ps vs k
  other_value k ne = get_or-set_other vs a (root n ps k) to Null ne

  -- a is the root of each node that has its box
  module _ (node : ℕ) (node_in : node < length ps) (is_root : root n ps node ≡ a) where
    node_value : value_in n ps vs node ≡ Of box
    node_value = ap (λ j. get_or vs j Null) is_root ∙ had

    pub settled_new : (k : ℕ) → k < length ps → value_in n ps (slice_set vs a to) k ≡ renamed box to (value_in n ps vs k)
    settled_new k h = elim (eqb_tells (root n ps k) a) [
      | inl t ↦ settled_value k t.1 ∙ sym (renamed_here box to) ∙ ap (renamed box to) (sym (ap (λ j. get_or vs j Null) t.1 ∙ had))
      | inr t ↦ other_value k t.1 ∙ sym (renamed_there box to (value_in n ps vs k) (λ e. t.1 (forest.one k node box h node_in e node_value ∙ is_root)))
    ]

  no_box : (x : Arg) (c : BoxId) → IsConstant x → x ≡ Of c → ⊥
  no_box x c h e = subst IsConstant e h

  pub settled_forest : IsForest n ps ss (slice_set vs a to)
  settled_forest = record {
    each_size = forest.each_size;
    each_value = length-set vs a to ∙ forest.each_value;
    small = forest.small;
    within = forest.within;
    roots = forest.roots;
    few = forest.few;
    one = λ j k c hj hk ej ek. forest.one j k c hj hk (was j c ej) (was k c ek);
  }
    where
      was : (j : ℕ) (c : BoxId) → value_in n ps (slice_set vs a to) j ≡ Of c → value_in n ps vs j ≡ Of c
      was j c e = elim (eqb_tells (root n ps j) a) [
        | inl t ↦ absurd (no_box to c constant (sym (settled_value j t.1) ∙ e))
        | inr t ↦ sym (other_value j t.1) ∙ e
      ]
