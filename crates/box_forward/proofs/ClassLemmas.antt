-- What the values of all nodes are once classes are joined or settled.
use Rattle.std.proofs.Common.{◌≡◌, ◌≢◌, ℕ, suc, ◌+◌, ◌-◌, ◌<◌, ◌^◌, List, Some, length, slice_get, get_or, slice_set, length-set, map, ap, sym, subst, ◌∙◌, inl, inr, arith}
use Rattle.std.proofs.lemmas.Bool.{cases_lt}
use Rattle.std.proofs.lemmas.Option.{slice_get-get_or, get_or_from_slice_get, slice_get_within}
use Rattle.trace_ops.specs.declared.trace.Arg.{Arg}
use Rattle.trace_ops.specs.declared.trace.Arg.TheVariants.{Of, Null}
use Rattle.trace_ops.specs.declared.trace.BoxId.{BoxId}
use Rattle.trace_ops.specs.declared.trace.Kind.TheVariants.{Int, Ref}
use Rattle.box_forward.specs.Forwarding.{IsConstant}
use Rattle.box_forward.specs.Trees.{root, value_in, values_from, IsForest, IsLinked, renamed, own_at, AreOwn}
use Rattle.box_forward.proofs.TreeLemmas.{root_within, few_roots, values_length, value_at, view_at, values_map, renamed_here, renamed_there}
use Rattle.box_forward.proofs.JoinLemmas.{new_value, joined, settled_new, settled_forest}
use Rattle.box_forward.proofs.TableLemmas.{own_int, own_ref, box_same, some_is}

some_at : {X : Type 0} (xs : List X) (i : ℕ) (d e : X) → i < length xs → get_or xs i d ≡ get_or xs i e
some_at xs i d e h = some_is (sym (slice_get-get_or xs i d h) ∙ slice_get-get_or xs i e h)

-- ---- nodes of forests

pub node_within : (n : ℕ) (ps : List ℕ) (vs view : List Arg) (k : ℕ) → values_from n ps vs 0 (length ps) ≡ view → k < length view → k < length ps
node_within n ps vs view k is h = subst (λ m. k < m) (sym (ap length is) ∙ values_length n ps vs 0 (length ps)) h

pub node_value : (n : ℕ) (ps ss : List ℕ) (vs view : List Arg) → IsForest n ps ss vs → values_from n ps vs 0 (length ps) ≡ view
    → (k r : ℕ) (x : Arg) → k < length view → r ≡ root n ps k → x ≡ get_or vs r x → slice_get view k ≡ Some x
node_value n ps ss vs view forest is k r x h root_is found =
    let in' = node_within n ps vs view k is h in
    let room : r < length vs = subst (λ j. j < length vs) (sym root_is) (subst (λ m. root n ps k < m) (sym forest.each_value) (root_within n ps k forest.within in')) in
    ap (λ (xs : List Arg). slice_get xs k) (sym is) ∙ value_at n ps vs k in'
    ∙ ap (λ j. Some (get_or vs j Null)) (sym root_is) ∙ ap Some (some_at vs r Null x room ∙ sym found)

-- ---- at first

box_kind : (b c : BoxId) → Of b ≡ Of c → b.kind ≡ c.kind
box_kind b c e = cc

kinds_apart : Int ≡ Ref → ⊥
kinds_apart e = cc

pub forest_new : (boxes : ℕ) (ps ss : List ℕ) (vs : List Arg) → boxes < 2 ^ 32 → length ps ≡ boxes + boxes → ((k : ℕ) → k < boxes + boxes → slice_get ps k ≡ Some k)
    → length ss ≡ boxes + boxes → AreOwn boxes vs → IsForest 0 ps ss vs
forest_new boxes ps ss vs few count each sizes own = record {
  each_size = sizes ∙ sym count;
  each_value = own.count ∙ sym count;
  small = omega (arith, count, few);
  within = λ k h. subst (λ j. j < length ps) (sym (at k (subst (λ m. k < m) count h))) h;
  roots = λ k h. at k (subst (λ m. k < m) count h);
  few = omega (arith, few_roots 0 ps);
  one = λ j k b hj hk ej ek.
      let lj = subst (λ m. j < m) count hj in
      let lk = subst (λ m. k < m) count hk in
      same j k b lj lk (sym (owned j lj) ∙ ej) (sym (owned k lk) ∙ ek);
}
  where
    at : (k : ℕ) → k < boxes + boxes → get_or ps k 0 ≡ k
    at k h = get_or_from_slice_get ps k k 0 (each k h)

    owned : (k : ℕ) → k < boxes + boxes → get_or vs k Null ≡ own_at boxes k
    owned k h = get_or_from_slice_get vs k (own_at boxes k) Null (own.each k h)

    int_ref : (m n : ℕ) → Of (record { kind = Int; number = m }) ≡ Of (record { kind = Ref; number = n }) → ⊥
    int_ref m n e = kinds_apart (box_kind (record { kind = Int; number = m }) (record { kind = Ref; number = n }) e)

    same : (j k : ℕ) (b : BoxId) → j < boxes + boxes → k < boxes + boxes → own_at boxes j ≡ Of b → own_at boxes k ≡ Of b → j ≡ k
    same j k b hj hk ej ek = elim (cases_lt j boxes) [
      | inl lj ↦ elim (cases_lt k boxes) [
        | inl lk ↦ box_same (record { kind = Int; number = j }) (record { kind = Int; number = k }) (sym (own_int boxes j lj) ∙ ej ∙ sym ek ∙ own_int boxes k lk)
        | inr gk ↦ absurd (int_ref j (k - boxes) (sym (own_int boxes j lj) ∙ ej ∙ sym ek ∙ own_ref boxes k (omega (arith, gk))))
      ]
      | inr gj ↦ elim (cases_lt k boxes) [
        | inl lk ↦ absurd (int_ref k (j - boxes) (sym (own_int boxes k lk) ∙ ek ∙ sym ej ∙ own_ref boxes j (omega (arith, gj))))
        | inr gk ↦
            let e = box_same (record { kind = Ref; number = j - boxes }) (record { kind = Ref; number = k - boxes })
            (sym (own_ref boxes j (omega (arith, gj))) ∙ ej ∙ sym ek ∙ own_ref boxes k (omega (arith, gk))) in
            omega (arith, e, gj, gk)
      ]
    ]

pub own_view : (boxes : ℕ) (ps : List ℕ) (vs : List Arg) → length ps ≡ boxes + boxes → AreOwn boxes vs → AreOwn boxes (values_from 0 ps vs 0 (length ps))
own_view boxes ps vs count own = record {
  count = values_length 0 ps vs 0 (length ps) ∙ count;
  each = λ k h. value_at 0 ps vs k (subst (λ m. k < m) (sym count) h) ∙ ap Some (get_or_from_slice_get vs k (own_at boxes k) Null (own.each k h));
}

-- ---- two classes are one

module _ (n : ℕ) (ps ss : List ℕ) (vs view : List Arg) (forest : IsForest n ps ss vs) (is : values_from n ps vs 0 (length ps) ≡ view) (node : ℕ) (b : BoxId)
    (node_is : slice_get view node ≡ Some (Of b)) (r : ℕ) (r_is : r ≡ root n ps node) where
  node_in : node < length ps
  node_in = node_within n ps vs view node is (slice_get_within view node (Of b) node_is)

  r_in : r < length ps
  r_in = subst (λ j. j < length ps) (sym r_is) (root_within n ps node forest.within node_in)

  r_root : get_or ps r 0 ≡ r
  r_root = ap (λ j. get_or ps j 0) r_is ∙ forest.roots node node_in ∙ sym r_is

  has_box : value_in n ps vs node ≡ Of b
  has_box = view_at n ps vs node (Of b) (ap (λ (xs : List Arg). slice_get xs node) is ∙ node_is) node_in

  r_value : get_or vs r Null ≡ Of b
  r_value = ap (λ j. get_or vs j Null) r_is ∙ has_box

  pub to_same : (to : Arg) → to ≡ get_or vs r to → to ≡ Of b
  to_same to found = found ∙ some_at vs r to Null (subst (λ m. r < m) (sym forest.each_value) r_in) ∙ r_value

  -- the constant
  pub settles : (to : Arg) → IsConstant to → IsForest n ps ss (slice_set vs r to) × (values_from n ps (slice_set vs r to) 0 (length ps) ≡ map (renamed b to) view)
  settles to constant = (
    settled_forest n ps ss vs forest r r_in b r_value to constant,
    values_map (renamed b to) n n ps ps vs (slice_set vs r to) 0 (length ps) (λ i h. settled_new n ps ss vs forest r r_in b r_value to constant node node_in (sym r_is) i (omega (arith, h)))
        ∙ ap (map (renamed b to)) is,
  )

  has_other_root : (k : ℕ) → k < length ps → value_in n ps vs k ≡ Of b → root n ps k ≡ r
  has_other_root k h e = forest.one k node b h node_in e has_box ∙ sym r_is

module _ (n : ℕ) (ps ss : List ℕ) (vs view : List Arg) (forest : IsForest n ps ss vs) (is : values_from n ps vs 0 (length ps) ≡ view)
    (node other : ℕ) (b d : BoxId) (node_is : slice_get view node ≡ Some (Of b)) (other_is : slice_get view other ≡ Some (Of d))
    (apart : slice_get view node ≡ slice_get view other → ⊥) (p q : ℕ) (p_is : p ≡ root n ps node) (q_is : q ≡ root n ps other) where
  boxes_differ : Of d ≡ Of b → ⊥
  boxes_differ e = apart (node_is ∙ ap Some (sym e) ∙ sym other_is)

  roots_differ : q ≢ p
  roots_differ e =
      boxes_differ (sym (r_value n ps ss vs view forest is other d other_is q q_is) ∙ ap (λ j. get_or vs j Null) e ∙ r_value n ps ss vs view forest is node b node_is p p_is)

  f_p : renamed b (Of d) (get_or vs p Null) ≡ Of d
  f_p = ap (renamed b (Of d)) (r_value n ps ss vs view forest is node b node_is p p_is) ∙ renamed_here b (Of d)

  f_q : renamed b (Of d) (get_or vs q Null) ≡ Of d
  f_q = ap (renamed b (Of d)) (r_value n ps ss vs view forest is other d other_is q q_is) ∙ renamed_there b (Of d) (Of d) boxes_differ

  f_other : (k : ℕ) → k < length ps → root n ps k ≢ p → renamed b (Of d) (value_in n ps vs k) ≡ value_in n ps vs k
  f_other k h off = renamed_there b (Of d) (value_in n ps vs k) (λ e. off (has_other_root n ps ss vs view forest is node b node_is p p_is k h e))

  only_q : (k : ℕ) → k < length ps → value_in n ps vs k ≡ Of d → root n ps k ≡ q
  only_q k h e = has_other_root n ps ss vs view forest is other d other_is q q_is k h e

  p_in : p < length ps
  p_in = r_in n ps ss vs view forest is node b node_is p p_is

  q_in : q < length ps
  q_in = r_in n ps ss vs view forest is other d other_is q q_is

  p_root : get_or ps p 0 ≡ p
  p_root = r_root n ps ss vs view forest is node b node_is p p_is

  q_root : get_or ps q 0 ≡ q
  q_root = r_root n ps ss vs view forest is other d other_is q q_is

  abbrev AreJoined : List ℕ → List ℕ → ℕ → Arg → ℕ → Type 0
  AreJoined qs ts top to m = IsForest m qs ts (slice_set vs top to) × (values_from m qs (slice_set vs top to) 0 (length qs) ≡ map (renamed b (Of d)) view)

  under_q : (ts : List ℕ) → length ts ≡ length ss → AreJoined (slice_set ps p q) ts q (Of d) (suc n)
  under_q ts same = (
    joined n ps ss vs forest p q p_in q_in p_root q_root roots_differ (renamed b (Of d)) (Of d) f_p f_q (λ k h off _. f_other k h off) (λ k h e. inr (only_q k h e)) ts same,
    ap (values_from (suc n) (slice_set ps p q) (slice_set vs q (Of d)) 0) (length-set ps p q)
        ∙ values_map (renamed b (Of d)) n (suc n) ps (slice_set ps p q) vs (slice_set vs q (Of d)) 0 (length ps)
        (λ i h. new_value n ps ss vs forest p q p_in q_in p_root q_root roots_differ (renamed b (Of d)) (Of d) f_p f_q (λ k h' off _. f_other k h' off) (λ k h' e. inr (only_q k h' e)) i (omega (arith, h)))
        ∙ ap (map (renamed b (Of d))) is,
  )

  under_p : (ts : List ℕ) → length ts ≡ length ss → AreJoined (slice_set ps q p) ts p (Of d) (suc n)
  under_p ts same = (
    joined n ps ss vs forest q p q_in p_in q_root p_root (λ e. roots_differ (sym e)) (renamed b (Of d)) (Of d) f_q f_p (λ k h _ off. f_other k h off) (λ k h e. inl (only_q k h e)) ts same,
    ap (values_from (suc n) (slice_set ps q p) (slice_set vs p (Of d)) 0) (length-set ps q p)
        ∙ values_map (renamed b (Of d)) n (suc n) ps (slice_set ps q p) vs (slice_set vs p (Of d)) 0 (length ps)
        (λ i h. new_value n ps ss vs forest q p q_in p_in q_root p_root (λ e. roots_differ (sym e)) (renamed b (Of d)) (Of d) f_q f_p (λ k h' _ off. f_other k h' off) (λ k h' e. inl (only_q k h' e)) i (omega (arith, h)))
        ∙ ap (map (renamed b (Of d))) is,
  )

  pub joins_both : (qs ts : List ℕ) (top : ℕ) (to : Arg) → IsLinked ps p q qs top → length ts ≡ length ss → to ≡ get_or vs q to → AreJoined qs ts top to (n + 1)
  joins_both qs ts top to linked same found =
      let one : suc n ≡ n + 1 = omega arith in
      let box : to ≡ Of d = to_same n ps ss vs view forest is other d other_is q q_is to found in
      subst (AreJoined qs ts top to) one (subst (λ (x : Arg). AreJoined qs ts top x (suc n)) (sym box) (elim linked [
        | inl w ↦ subst (λ (xs : List ℕ). AreJoined xs ts top (Of d) (suc n)) (sym w.1) (subst (λ j. AreJoined (slice_set ps p q) ts j (Of d) (suc n)) (sym w.0) (under_q ts same))
        | inr w ↦ subst (λ (xs : List ℕ). AreJoined xs ts top (Of d) (suc n)) (sym w.1) (subst (λ j. AreJoined (slice_set ps q p) ts j (Of d) (suc n)) (sym w.0) (under_p ts same))
      ]))
