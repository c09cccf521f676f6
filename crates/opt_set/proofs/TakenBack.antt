-- What was attached last is taken back.
use Rattle.std.proofs.Common.{◌≡◌, arith, true, false, ℕ, zero, suc, ◌<◌, List, [], ◌∷◌, ◌++◌, Option, Some, None, length, length-set, slice_get, slice_set, refl, sym, ap, ◌∙◌, subst}
use Rattle.std.specs.Option.{IsSome, option_to_list}
use Rattle.lists.proofs.Appends.{length_push}
use Rattle.std.proofs.lemmas.Option.{slice_get_within}
use Rattle.lists.proofs.Options.{some_same, none_some}
use Rattle.trace_ops.specs.declared.piece.OptTrace.{OptTrace}
use Rattle.opt_set.specs.Attaching.{IsOneMore}
use Rattle.opt_set.specs.Optimised.{Left, Optimised, with_none}

cons_none : {X : Type 0} {x : X} {xs : List X} → x ∷ xs ≡ [] → ⊥
cons_none e = cc

tail_same : {X : Type 0} {x y : X} {xs ys : List X} → x ∷ xs ≡ y ∷ ys → xs ≡ ys
tail_same {X} {x} {y} {xs} {ys} e = ap rest e
  where
    rest : List X → List X
    rest [] = []
    rest (z ∷ zs) = zs

head_same : {X : Type 0} {x y : X} {xs ys : List X} → x ∷ xs ≡ y ∷ ys → x ≡ y
head_same {X} {x} {y} {xs} {ys} e = ap first e
  where
    first : List X → X
    first [] = x
    first (z ∷ zs) = z

push_none : {X : Type 0} (xs : List X) (x : X) → xs ++ x ∷ [] ≡ [] → ⊥
push_none [] x e = cons_none e
push_none (z ∷ xs) x e = cons_none e

pub push_same : {X : Type 0} (xs ys : List X) (x y : X) → xs ++ x ∷ [] ≡ ys ++ y ∷ [] → (xs ≡ ys) × (x ≡ y)
push_same [] [] x y e = (refl, head_same e)
push_same [] (b ∷ ys) x y e = absurd (push_none ys y (sym (tail_same e)))
push_same (a ∷ xs) [] x y e = absurd (push_none xs x (tail_same e))
push_same (a ∷ xs) (b ∷ ys) x y e = let r = push_same xs ys x y (tail_same e) in (ap (λ z. z ∷ xs) (head_same e) ∙ ap (λ l. b ∷ l) r.0, r.1)

set_back : {X : Type 0} (xs : List X) (i : ℕ) (x y : X) → slice_get xs i ≡ Some x → slice_set (slice_set xs i y) i x ≡ xs
set_back [] i x y e = absurd (none_some e)
set_back (z ∷ xs) zero x y e = ap (λ w. w ∷ xs) (sym (some_same e))
set_back (z ∷ xs) (suc i) x y e = ap (λ l. z ∷ l) (set_back xs i x y e)

abbrev of_parts : List OptTrace → List ℕ → List (Option Left) → Optimised
of_parts ts bs ls = record { traces = ts; attached = bs; left = ls }

same_parts : (ts us : List OptTrace) (bs cs : List ℕ) (ls ks : List (Option Left)) → ts ≡ us → bs ≡ cs → ls ≡ ks → of_parts ts bs ls ≡ of_parts us cs ks
same_parts ts us bs cs ls ks a b c = ap (λ z. of_parts z bs ls) a ∙ ap (λ z. of_parts us z ls) b ∙ ap (of_parts us cs) c

pub last_within : (before old : Optimised) → (h : IsOneMore before old) → (rest : List ℕ) (b : ℕ) → old.attached ≡ rest ++ b ∷ [] → b < length old.left
last_within before old h rest b e =
    let same : h.bridge ≡ b = (push_same before.attached rest h.bridge b (sym (ap (λ (z : Optimised). z.attached) h.is) ∙ e)).1 in
    let long : length old.left ≡ length before.left = ap (λ (z : Optimised). length z.left) h.is ∙ length-set before.left h.bridge (Some h.left) in
    subst (λ n. b < n) (sym long) (subst (λ k. k < length before.left) same (slice_get_within before.left h.bridge None h.free))

pub last_taken : (before old mid new : Optimised) → (h : IsOneMore before old) → (t : OptTrace) (b : ℕ) → old.traces ≡ mid.traces ++ t ∷ [] → old.attached ≡ mid.attached ++ b ∷ [] → mid.left ≡ old.left → new ≡ with_none mid b → new ≡ before
last_taken before old mid new h t b traces attached left is =
    let ts = push_same before.traces mid.traces h.pieces t (sym (ap (λ (z : Optimised). z.traces) h.is) ∙ traces) in
    let bs = push_same before.attached mid.attached h.bridge b (sym (ap (λ (z : Optimised). z.attached) h.is) ∙ attached) in
    let back : slice_set mid.left b None ≡ before.left =
    ap (λ l. slice_set l b None) (left ∙ ap (λ (z : Optimised). z.left) h.is) ∙ ap (λ k. slice_set (slice_set before.left h.bridge (Some h.left)) k None) (sym bs.1) ∙ set_back before.left h.bridge None (Some h.left) h.free in
    is ∙ same_parts mid.traces before.traces mid.attached before.attached (slice_set mid.left b None) before.left (sym ts.0) (sym bs.0) back

pub last_popped : {X : Type 0} (xs ys : List X) (x : X) (r : Option X) → IsSome r → xs ++ x ∷ [] ≡ ys ++ option_to_list r → (y : X) × (xs ++ x ∷ [] ≡ ys ++ y ∷ [])
last_popped xs ys x None some e = absurd (false_true some)
  where
    false_true : false ≡ true → ⊥
    false_true w = cc
last_popped xs ys x (Some y) some e = (y, e)

pub pushed_some : {X : Type 0} (xs : List X) (x : X) (ys : List X) → ys ≡ xs ++ x ∷ [] → 0 < length ys
pushed_some xs x ys e = let l : length ys ≡ suc (length xs) = ap length e ∙ length_push xs x in omega (arith, l)
