-- How many of a list are distinct.
use Rattle.std.proofs.Common.{◌≡◌, ℕ, zero, suc, ◌+◌, ◌≤◌, List, [], ◌∷◌, ◌++◌, length, refl, sym, ap, ◌∙◌, subst, arith, ◌⊎◌, inl, inr}
use Rattle.std.specs.List.{All, AllByRecursion, Contains}
use Rattle.std.proofs.lemmas.List.Elements.{All-from_recursion, recursion_from_All}
use Rattle.trace_ops.specs.declared.trace.Arg.{Arg}
use Rattle.trace_ops.specs.Sound.{AreApart}
use Rattle.lists.specs.Has.{Has, IsOnce}
use Rattle.lists.proofs.Eaches.{each_at, each_weaker}
use Rattle.lists.proofs.Membership.{has_at, each_has, has_cases}
use Rattle.opt_pass.specs.Counting.{AreAtMost, AreFewMore}
use Rattle.opt_pass.proofs.Snapping.{has_contained, contains_had}

pub each_of : {X : Type 0} (P : X → Type 0) (xs : List X) → AllByRecursion P xs → (x : X) → Has xs x → P x
each_of P xs h x w = let at = has_at xs x w in each_at P xs at.0 x h at.1

-- What stands in a list once is taken out

without : {X : Type 0} (ys : List X) (x : X) → Has ys x → List X
without [] x h = []
without (y ∷ ys) x (inl e) = ys
without (y ∷ ys) x (inr h) = y ∷ without ys x h

without_long : {X : Type 0} (ys : List X) (x : X) (h : Has ys x) → length ys ≡ suc (length (without ys x h))
unfolding without
without_long [] x h = absurd h
without_long (y ∷ ys) x (inl e) = refl
without_long (y ∷ ys) x (inr h) = ap suc (without_long ys x h)

without_has : {X : Type 0} (ys : List X) (x : X) (h : Has ys x) (z : X) → (z ≡ x → ⊥) → Has ys z → Has (without ys x h) z
unfolding without
without_has [] x h z n w = absurd h
without_has (y ∷ ys) x (inl e) z n (inl f) = absurd (n (sym f ∙ e))
without_has (y ∷ ys) x (inl e) z n (inr w) = w
without_has (y ∷ ys) x (inr h) z n (inl f) = inl f
without_has (y ∷ ys) x (inr h) z n (inr w) = inr (without_has ys x h z n w)

-- what stands once, and in another list, is no longer than that
pub once_fits : {X : Type 0} (xs ys : List X) → IsOnce xs → AllByRecursion (Has ys) xs → length xs ≤ length ys
once_fits [] ys o h = omega arith
once_fits (x ∷ xs) ys o h =
    let long : length ys ≡ suc (length (without ys x h.0)) = without_long ys x h.0 in
    let rest : length xs ≤ length (without ys x h.0) = once_fits xs (without ys x h.0) o.1 (each_has (Has (without ys x h.0)) xs (λ z w. without_has ys x h.0 z (λ e. o.0 (subst (Has xs) e w)) (each_of (Has ys) xs h.1 z w))) in
    omega (arith, long, rest)

-- Two lists

record Parted {X : Type 0} (news old some : List X) : Type 0 where
  left : List X
  right : List X
  left_once : IsOnce left
  right_once : IsOnce right
  left_in : AllByRecursion (Has news) left
  right_in : AllByRecursion (Has old) right
  long : length some ≡ length left + length right
  left_some : (x : X) → Has left x → Has some x
  right_some : (x : X) → Has right x → Has some x

part : {X : Type 0} (news old some : List X) → IsOnce some → AllByRecursion (Has (news ++ old)) some → Parted news old some
part news old [] o h = record { left = []; right = []; left_once = tt; right_once = tt; left_in = tt; right_in = tt; long = refl; left_some = λ x w. w; right_some = λ x w. w }
part {X} news old (x ∷ some) o h = by (part news old some o.1 h.1) (has_cases news old x h.0)
  where
    more : (zs : List X) → ((z : X) → Has zs z → Has some z) → (z : X) → Has (x ∷ zs) z → Has (x ∷ some) z
    more zs f z (inl e) = inl e
    more zs f z (inr w) = inr (f z w)

    by : Parted news old some → Has news x ⊎ Has old x → Parted news old (x ∷ some)
    by p (inl w) = record {
      left = x ∷ p.left;
      right = p.right;
      left_once = ((λ k. o.0 (p.left_some x k)), p.left_once);
      right_once = p.right_once;
      left_in = (w, p.left_in);
      right_in = p.right_in;
      long = let long : length some ≡ length p.left + length p.right = p.long in omega (arith, long);
      left_some = more p.left p.left_some;
      right_some = λ z k. inr (p.right_some z k);
    }
    by p (inr w) = record {
      left = p.left;
      right = x ∷ p.right;
      left_once = p.left_once;
      right_once = ((λ k. o.0 (p.right_some x k)), p.right_once);
      left_in = p.left_in;
      right_in = (w, p.right_in);
      long = let long : length some ≡ length p.left + length p.right = p.long in omega (arith, long);
      left_some = λ z k. inr (p.left_some z k);
      right_some = more p.right p.right_some;
    }

once_parted : {X : Type 0} (n : ℕ) (news old some : List X) → ((zs : List X) → IsOnce zs → AllByRecursion (Has old) zs → length zs ≤ n) → IsOnce some → AllByRecursion (Has (news ++ old)) some → length some ≤ length news + n
once_parted n news old some bound o h =
    let p = part news old some o h in
    let one : length p.left ≤ length news = once_fits p.left news p.left_once p.left_in in
    let two : length p.right ≤ n = bound p.right p.right_once p.right_in in
    let long : length some ≡ length p.left + length p.right = p.long in
    omega (arith, one, two, long)

-- Constants

apart_once : (xs : List Arg) → AreApart xs → IsOnce xs
apart_once [] h = tt
apart_once (x ∷ xs) h = ((λ w. h.0 (contains_had xs x w)), apart_once xs h.1)

once_apart : (xs : List Arg) → IsOnce xs → AreApart xs
once_apart [] h = tt
once_apart (x ∷ xs) h = ((λ c. h.0 (has_contained xs x c)), once_apart xs h.1)

all_had : (xs some : List Arg) → All (Contains xs) some → AllByRecursion (Has xs) some
all_had xs some h = each_weaker (Contains xs) (Has xs) (has_contained xs) some (recursion_from_All (Contains xs) some h)

had_all : (xs some : List Arg) → AllByRecursion (Has xs) some → All (Contains xs) some
had_all xs some h = All-from_recursion (Contains xs) some (each_weaker (Has xs) (Contains xs) (contains_had xs) some h)

-- what is made of one list and m more has m distinct ones more at most
pub few_more : (m : ℕ) (news before after : List Arg) → length news ≤ m → AllByRecursion (Has (news ++ before)) after → AreFewMore m before after
few_more m news before after few h n bound some apart all =
    let had : AllByRecursion (Has (news ++ before)) some = each_weaker (Has after) (Has (news ++ before)) (each_of (Has (news ++ before)) after h) some (all_had after some all) in
    let le : length some ≤ length news + n = once_parted n news before some (λ zs o w. bound zs (once_apart zs o) (had_all before zs w)) (apart_once some apart) had in
    omega (arith, few, le)
