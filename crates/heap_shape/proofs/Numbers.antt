-- Numbers by first visit.
use Rattle.std.proofs.Common.{◌≡◌, ◌≢◌, ℕ, suc, ◌<◌, ◌≤◌, ◌^◌, Bool, true, false, cond, eqb, List, [], ◌∷◌, ◌++◌, Option, None, Some, length, slice_get, slice_set, get_or, length-set, refl, ap, sym, subst, ◌∙◌, inl, inr}
use Rattle.std.specs.Option.{option_map, is_some, IsSome}
use Rattle.std.proofs.lemmas.Bool.{ne_eqb, eq-eqb}
use Rattle.std.proofs.lemmas.Bool.Decides.{eqb_tells}
use Rattle.std.proofs.lemmas.Option.{get_or_from_slice_get}
use Rattle.heap_shape.specs.Visiting.{number_of, note, Has, IsNumbered}
use Rattle.heap_shape.proofs.Lists.{has_cases, once_push, few_once, get_set_same, get_set_other}

pub number_same : (x : ℕ) (xs : List ℕ) (n : ℕ) → eqb x n ≡ true → number_of (x ∷ xs) n ≡ Some 0
number_same x xs n e = ap (λ (b : Bool). cond b (Some 0) (option_map suc (number_of xs n))) e

pub number_other : (x : ℕ) (xs : List ℕ) (n : ℕ) → eqb x n ≡ false → number_of (x ∷ xs) n ≡ option_map suc (number_of xs n)
number_other x xs n e = ap (λ (b : Bool). cond b (Some 0) (option_map suc (number_of xs n))) e

suc_none : (o : Option ℕ) → option_map suc o ≡ None → o ≡ None
suc_none None h = refl
suc_none (Some k) h = cc

some_none : {X : Type 0} {k : ℕ} → Some k ≡ None → X
some_none h = cc

-- what has no number wasn't visited
pub number_none : (seen : List ℕ) (n : ℕ) → number_of seen n ≡ None → Has seen n → ⊥
number_none [] n h w = w
number_none (x ∷ xs) n h w = elim (eqb_tells x n) [
  | inl t ↦ some_none (sym (number_same x xs n t.0) ∙ h)
  | inr t ↦ elim w [ inl e ↦ t.1 e | inr v ↦ number_none xs n (suc_none (number_of xs n) (sym (number_other x xs n t.0) ∙ h)) v ]
]

-- one more has the next number, and all others theirs
pub number_push_same : (seen : List ℕ) (n : ℕ) → number_of seen n ≡ None → number_of (seen ++ n ∷ []) n ≡ Some (length seen)
number_push_same [] n h = number_same n [] n (eq-eqb n n refl)
number_push_same (x ∷ xs) n h = elim (eqb_tells x n) [
  | inl t ↦ some_none (sym (number_same x xs n t.0) ∙ h)
  | inr t ↦
      number_other x (xs ++ n ∷ []) n t.0
      ∙ ap (option_map suc) (number_push_same xs n (suc_none (number_of xs n) (sym (number_other x xs n t.0) ∙ h)))
]

pub number_push_other : (seen : List ℕ) (m n : ℕ) → m ≢ n → number_of (seen ++ m ∷ []) n ≡ number_of seen n
number_push_other [] m n ne = number_other m [] n (ne_eqb m n ne)
number_push_other (x ∷ xs) m n ne = ap (λ (o : Option ℕ). cond (eqb x n) (Some 0) (option_map suc o)) (number_push_other xs m n ne)

pub note_push : (seen : List ℕ) (n : ℕ) → number_of seen n ≡ None → note seen n ≡ seen ++ n ∷ []
note_push seen n e = ap (λ (o : Option ℕ). cond (is_some o) seen (seen ++ n ∷ [])) e

none_at : (o : Option ℕ) → is_some o ≡ false → o ≡ None
none_at None h = refl
none_at (Some k) h = cc

-- what was visited has a number
pub number_some : (seen : List ℕ) (n : ℕ) → Has seen n → IsSome (number_of seen n)
number_some seen n h = by (number_of seen n) refl
  where
    by : (o : Option ℕ) → number_of seen n ≡ o → IsSome o
    by None e = absurd (number_none seen n e h)
    by (Some k) e = refl

-- what the list of numbers says
pub number_told : (seen : List ℕ) (numbers : List (Option ℕ)) (n : ℕ) (found : Option ℕ) → IsNumbered seen numbers → n < length numbers → found ≡ get_or numbers n found → found ≡ number_of seen n
number_told seen numbers n found h within at = at ∙ get_or_from_slice_get numbers n (number_of seen n) found (h.told n within)

pub number_untold : (seen : List ℕ) (numbers : List (Option ℕ)) (n : ℕ) (found : Option ℕ) → IsNumbered seen numbers → n < length numbers → found ≡ get_or numbers n found → is_some found ≡ false → number_of seen n ≡ None
number_untold seen numbers n found h within at free = sym (number_told seen numbers n found h within at) ∙ none_at found free

pub numbered_few : (seen : List ℕ) (numbers : List (Option ℕ)) → IsNumbered seen numbers → length seen ≤ length numbers
numbered_few seen numbers h = few_once seen (length numbers) h.distinct h.below

pub numbered_push : (seen : List ℕ) (numbers : List (Option ℕ)) (n number : ℕ) → IsNumbered seen numbers → n < length numbers → number_of seen n ≡ None → number ≡ length seen
    → IsNumbered (seen ++ n ∷ []) (slice_set numbers n (Some number))
numbered_push seen numbers n number h within new next = record {
  short = subst (λ (k : ℕ). k < 2 ^ 32) (sym count) h.short;
  distinct = once_push seen n h.distinct (number_none seen n new);
  below = λ m w. subst (λ (k : ℕ). m < k) (sym count) (elim (has_cases seen (n ∷ []) m w) [
    | inl v ↦ h.below m v
    | inr v ↦ elim v [ inl e ↦ subst (λ (k : ℕ). k < length numbers) e within | inr x ↦ absurd x ]
  ]);
  told = λ m less. elim (eqb_tells n m) [
    | inl t ↦
        ap (slice_get (slice_set numbers n (Some number))) (sym t.1)
        ∙ get_set_same numbers n (number_of seen n) (Some number) (h.told n within)
        ∙ ap (λ (k : ℕ). Some (Some k)) next
        ∙ ap Some (sym (number_push_same seen n new))
        ∙ ap (λ (k : ℕ). Some (number_of (seen ++ n ∷ []) k)) t.1
    | inr t ↦
        get_set_other numbers n m (Some number) (λ e. t.1 (sym e))
        ∙ h.told m (subst (λ (k : ℕ). m < k) count less)
        ∙ ap Some (sym (number_push_other seen n m t.1))
  ];
}
  where
    count : length (slice_set numbers n (Some number)) ≡ length numbers
    count = length-set numbers n (Some number)
