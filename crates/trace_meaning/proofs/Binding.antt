-- Boxes that get values one after another, and values of arguments put together one by one.
use Rattle.std.proofs.Common.{inl, inr, ◌⊎◌, ◌≡◌, ℕ, suc, ◌+◌, ◌≤◌, ◌<◌, min, Bool, true, false, List, [], ◌∷◌, ◌++◌, Option, Some, None, length, drop, get_or, refl, ap, sym, ◌∙◌, append_assoc, add-one, arith, drop-cons, cond}
use Rattle.std.proofs.lemmas.List.{append-nil, drop_all}
use Rattle.trace_ops.specs.declared.trace.BoxId.{BoxId}
use Rattle.trace_ops.specs.declared.trace.Arg.{Arg}
use Rattle.trace_meaning.specs.declared.value.Value.{Value}
use Rattle.trace_meaning.specs.Boxes.{Boxes, bind, bind_all, arg_value, has_value, with_first, all_values, IsPushed, IsAddedIf, IsAdded}

no_values : (es : Boxes) (bs : List BoxId) → bind_all es bs [] ≡ es
no_values es [] = refl
no_values es (b ∷ bs) = refl

-- one box more
pub bound_more : (es next whole : Boxes) (bs : List BoxId) (vs : List Value) (k : ℕ) (b : BoxId) (x : Value) → k < length bs → k < length vs → b ≡ get_or bs k b → x ≡ get_or vs k x → next ≡ bind b x es → bind_all es (drop k bs) (drop k vs) ≡ whole → bind_all next (drop (k + 1) bs) (drop (k + 1) vs) ≡ whole
bound_more es next whole bs vs k b x hb hv eb ex e h =
    ap (λ j. bind_all next (drop j bs) (drop j vs)) (add-one k)
    ∙ ap (λ n. bind_all n (drop (suc k) bs) (drop (suc k) vs)) (e ∙ ap (λ c. bind c x es) eb ∙ ap (λ y. bind (get_or bs k b) y es) ex)
    ∙ ap (λ l. bind_all es l (get_or vs k x ∷ drop (suc k) vs)) (sym (drop-cons bs k b hb))
    ∙ ap (λ l. bind_all es (drop k bs) l) (sym (drop-cons vs k x hv))
    ∙ h

-- after the last box that has a value
pub bound_all : (es whole : Boxes) (bs : List BoxId) (vs : List Value) (k : ℕ) → min (length bs) (length vs) ≤ k → bind_all es (drop k bs) (drop k vs) ≡ whole → es ≡ whole
bound_all es whole bs vs k past h = sym (elim (shorter bs vs k past) [ inl p ↦ ap (λ l. bind_all es l (drop k vs)) (drop_all k bs p) | inr p ↦ ap (λ l. bind_all es (drop k bs) l) (drop_all k vs p) ∙ no_values es (drop k bs) ]) ∙ h
  where
    shorter : (bs : List BoxId) (vs : List Value) (k : ℕ) → min (length bs) (length vs) ≤ k → (length bs ≤ k) ⊎ (length vs ≤ k)
    shorter bs vs k past = grind arith

-- values that stand in front of others
abbrev pub prepended : List Value → Option (List Value) → Option (List Value)
prepended xs None = None
prepended xs (Some ys) = Some (xs ++ ys)

pushed : (value : Option Value) (there : Bool) (xs ys : List Value) (rest : Option (List Value)) → IsPushed value there xs ys → there ≡ true → prepended xs (with_first value rest) ≡ prepended ys rest
pushed (Some x) true xs ys (Some zs) h t = ap Some (sym (append_assoc xs (x ∷ []) zs)) ∙ ap (λ l. Some (l ++ zs)) (sym h)
pushed (Some x) true xs ys None h t = refl
pushed (Some x) false xs ys rest h t = absurd h
pushed None true xs ys rest h t = absurd h
pushed None false xs ys rest h t = cc

stuck : (value : Option Value) (there : Bool) (xs ys : List Value) (rest : Option (List Value)) → IsPushed value there xs ys → there ≡ false → with_first value rest ≡ None
stuck (Some x) true xs ys rest h t = cc
stuck (Some x) false xs ys rest h t = absurd h
stuck None true xs ys rest h t = absurd h
stuck None false xs ys rest h t = refl

module _ (value : BoxId → Option Value) where
  added : (a : Arg) (rest : List Arg) (there : Bool) (b : Bool) (xs ys : List Value) → IsAddedIf b (arg_value value a) there xs ys → there ≡ true → prepended xs (cond b (with_first (arg_value value a) (all_values (arg_value value) rest)) (all_values (arg_value value) rest)) ≡ prepended ys (all_values (arg_value value) rest)
  added a rest there true xs ys h t = pushed (arg_value value a) there xs ys (all_values (arg_value value) rest) h t
  added a rest there false xs ys h t = ap (λ l. prepended l (all_values (arg_value value) rest)) (sym h.1)

  lost : (a : Arg) (rest : List Arg) (there : Bool) (b : Bool) (xs ys : List Value) → IsAddedIf b (arg_value value a) there xs ys → there ≡ false → cond b (with_first (arg_value value a) (all_values (arg_value value) rest)) (all_values (arg_value value) rest) ≡ None
  lost a rest there true xs ys h t = stuck (arg_value value a) there xs ys (all_values (arg_value value) rest) h t
  lost a rest there false xs ys h t = absurd (let e : true ≡ false = sym h.0 ∙ t in cc)

  -- one argument more
  pub added_more : (args : List Arg) (k : ℕ) (a : Arg) (there : Bool) (xs ys : List Value) (whole : Option (List Value)) → k < length args → IsAdded value (get_or args k a) there xs ys → there ≡ true → whole ≡ prepended xs (all_values (arg_value value) (drop k args)) → whole ≡ prepended ys (all_values (arg_value value) (drop (k + 1) args))
  added_more args k a there xs ys whole within h t e =
      e ∙ ap (λ l. prepended xs (all_values (arg_value value) l)) (drop-cons args k a within)
      ∙ added (get_or args k a) (drop (suc k) args) there (has_value (get_or args k a)) xs ys h t
      ∙ ap (λ j. prepended ys (all_values (arg_value value) (drop j args))) (sym (add-one k))

  -- an argument without its value
  pub lost_at : (args : List Arg) (k : ℕ) (a : Arg) (there : Bool) (xs ys : List Value) (whole : Option (List Value)) → k < length args → IsAdded value (get_or args k a) there xs ys → there ≡ false → whole ≡ prepended xs (all_values (arg_value value) (drop k args)) → whole ≡ None
  lost_at args k a there xs ys whole within h t e =
      e ∙ ap (λ l. prepended xs (all_values (arg_value value) l)) (drop-cons args k a within)
      ∙ ap (prepended xs) (lost (get_or args k a) (drop (suc k) args) there (has_value (get_or args k a)) xs ys h t)

  -- after the last argument
  pub added_all : (args : List Arg) (k : ℕ) (xs : List Value) (whole : Option (List Value)) → length args ≤ k → whole ≡ prepended xs (all_values (arg_value value) (drop k args)) → whole ≡ Some xs
  added_all args k xs whole past e = e ∙ ap (λ l. prepended xs (all_values (arg_value value) l)) (drop_all k args past) ∙ ap Some (append-nil xs)
