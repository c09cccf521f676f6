-- Values, their words, and the operands that give them.
use Rattle.std.proofs.Common.{◌≡◌, ◌≢◌, ◌⊎◌, ℕ, ◌<◌, ◌^◌, Bool, true, false, cond, List, [], ◌∷◌, length, Option, Some, None, refl, sym, ap, ◌∙◌, subst, inl, inr, arith, ℤ, pos}
use Rattle.std.specs.Prelude.{nat_eq}
use Rattle.std.specs.Ordering.{int_eq}
use Rattle.std.proofs.lemmas.Bool.{eqb-true, eq-eqb, ne_eqb}
use Rattle.std.proofs.lemmas.Bool.Decides.{same_from_decides, Decides-int_eq}
use Rattle.trace_ops.specs.declared.table.Table.{Table}
use Rattle.trace_ops.specs.declared.table.ShapeOf.TheVariants.{Size}
use Rattle.trace_ops.specs.declared.trace.BoxId.{BoxId}
use Rattle.trace_ops.specs.declared.trace.Arg.{Arg}
use Rattle.trace_ops.specs.declared.trace.Arg.TheVariants.{Of, Const, Null, Class, Func, Ptr}
use Rattle.trace_ops.specs.Words.{IsWord, truth}
use Rattle.asm_select.proofs.Same.{box_decides}
use Rattle.trace_meaning.specs.declared.value.Value.{Value}
use Rattle.trace_meaning.specs.declared.value.Value.TheVariants as v
use Rattle.trace_meaning.specs.declared.value.Object.{Object}
use Rattle.trace_meaning.specs.Values.{same_reference, is_reference}
use Rattle.trace_meaning.specs.Boxes.{Boxes, same_box, value_in, bind, arg_value, all_values, has_value, with_first}
use Rattle.opt_meaning.specs.Step.{Opt}
use Rattle.arena_objects.specs.Layout.{header_of, address_of, word_of}
use Rattle.arena_objects.specs.Standing.{IsPart, Stands}
use Rattle.arena_objects.specs.Laws.{AddressesAreApart}
use Rattle.target_base.specs.Arena.{Arena}
use Rattle.x64_machine.specs.State.{State}
use Rattle.asm_select.specs.Valued.{value, MayHold}
use Rattle.asm_select.specs.Chosen.{Setting, operand_of, address_in, entry_of, entry_number}
use Rattle.asm_select.specs.Reached.{IsUse, PrebuiltsStand, IsWordArg, word_in, read}
use Rattle.asm_select.proofs.Micro.{CanRead}

-- ---- boxes that get values

pub same_itself : (b : BoxId) → same_box b b ≡ true
same_itself b = (box_decides b b).1 refl

pub same_is : (b c : BoxId) → same_box b c ≡ true → b ≡ c
same_is b c e = (box_decides b c).0 e

pub not_same : (b c : BoxId) (t : Bool) → same_box b c ≡ t → b ≢ c → same_box b c ≡ false
not_same b c true e h = absurd (h (same_is b c e))
not_same b c false e h = e

pub differ : (b c : BoxId) → same_box b c ≡ false → b ≢ c
differ b c e f = let t : true ≡ false = sym (same_itself b) ∙ ap (same_box b) f ∙ e in absurd (cc)

-- the box has the value
pub bound_same : (b : BoxId) (x : Value) (es : Boxes) → value_in (bind b x es) b ≡ Some x
bound_same b x [] = ap (λ t. cond t (Some x) None) (same_itself b)
bound_same b x (e ∷ es) = elim (same_box b e.0) as (λ t. same_box b e.0 ≡ t → value_in (cond t ((e.0, x) ∷ es) (e ∷ bind b x es)) b ≡ Some x) [
  | true ↦ λ h. ap (λ t. cond t (Some x) (value_in es b)) h
  | false ↦ λ h. ap (λ t. cond t (Some e.1) (value_in (bind b x es) b)) h ∙ bound_same b x es
] refl

-- no other box has another value
pub bound_other : (b c : BoxId) (x : Value) (es : Boxes) → c ≢ b → value_in (bind b x es) c ≡ value_in es c
bound_other b c x [] h = ap (λ t. cond t (Some x) None) (not_same c b (same_box c b) refl h)
bound_other b c x (e ∷ es) h = elim (same_box b e.0) as (λ t. same_box b e.0 ≡ t → value_in (cond t ((e.0, x) ∷ es) (e ∷ bind b x es)) c ≡ value_in (e ∷ es) c) [
  | true ↦ λ own.
      let apart : same_box c e.0 ≡ false = not_same c e.0 (same_box c e.0) refl (λ same. h (same ∙ sym (same_is b e.0 own))) in
      ap (λ t. cond t (Some x) (value_in es c)) apart ∙ sym (ap (λ t. cond t (Some e.1) (value_in es c)) apart)
  | false ↦ λ own. ap (λ r. cond (same_box c e.0) (Some e.1) r) (bound_other b c x es h)
] refl

-- ---- words

zero_word : IsWord (pos 0)
zero_word = record { sfits = omega arith }

small_word : (n : ℕ) → n < 2 ^ 31 → IsWord (pos n)
small_word n h = record { sfits = omega (arith, h) }

pub truth_word : (b : Bool) → IsWord (truth b)
truth_word true = record { sfits = omega arith }
truth_word false = record { sfits = omega arith }

pub arg_reads : (c : Setting) (a : Arg) → ((b : ℕ) → MayHold (c.at b)) → IsWordArg c.table a → CanRead (operand_of c a)
arg_reads c (Of b) m w = m b.number
arg_reads c (Const z) m w = w
arg_reads c Null m w = zero_word
arg_reads c (Class n) m w = small_word (header_of c.table (Size n)) w.0
arg_reads c (Func n) m w = small_word (entry_of (entry_number n)) (omega (arith, w))
arg_reads c (Ptr n) m w = small_word (address_in c.table n) w.1

int_is : (z : ℤ) (x : Value) → Some (v.Int z) ≡ Some x → x ≡ v.Int z
int_is z x e = cc

obj_is : (n : ℕ) (x : Value) → Some (v.Obj n) ≡ Some x → x ≡ v.Obj n
obj_is n x e = cc

null_is : (x : Value) → Some v.Null ≡ Some x → x ≡ v.Null
null_is x e = cc

-- what an argument's operand gives is the word of its value
pub arg_is : (c : Setting) (env : Opt) (s : State) (a : Arg) (x : Value) → PrebuiltsStand c.table env.world.objects → IsWordArg c.table a → ((b : BoxId) (y : Value) → IsUse a b → value_in env.boxes b ≡ Some y → value s (c.at b.number) ≡ word_in env y) → arg_value (value_in env.boxes) a ≡ Some x → read s (operand_of c a) ≡ word_in env x
arg_is c env s (Of b) x pre w h e = h b x refl e
arg_is c env s (Const z) x pre w h e = sym (ap (word_in env) (int_is z x e))
arg_is c env s Null x pre w h e = sym (ap (word_in env) (null_is x e))
arg_is c env s (Class n) x pre w h e = absurd (cc)
arg_is c env s (Func n) x pre w h e = absurd (cc)
arg_is c env s (Ptr n) x pre w h e = ap pos (sym (pre n w.0).1) ∙ sym (ap (word_in env) (obj_is n x e))

-- and it is a word, null, or an object that is there
pub arg_part : (t : Table) (env : Opt) (a : Arg) (x : Value) → PrebuiltsStand t env.world.objects → IsWordArg t a → ((b : BoxId) (y : Value) → value_in env.boxes b ≡ Some y → IsPart (length env.world.objects) y) → arg_value (value_in env.boxes) a ≡ Some x → IsPart (length env.world.objects) x
arg_part t env (Of b) x pre w h e = h b x e
arg_part t env (Const z) x pre w h e = subst (IsPart (length env.world.objects)) (sym (int_is z x e)) w
arg_part t env Null x pre w h e = subst (IsPart (length env.world.objects)) (sym (null_is x e)) tt
arg_part t env (Class n) x pre w h e = absurd (cc)
arg_part t env (Func n) x pre w h e = absurd (cc)
arg_part t env (Ptr n) x pre w h e = subst (IsPart (length env.world.objects)) (sym (obj_is n x e)) (pre n w.0).0

-- ---- references

-- null is 0, and no two objects have one address
pub record AreTold (objects : List Object) : Type 0 where
  pub high : (n : ℕ) → n < length objects → 0 < address_of objects n
  pub one : (m n : ℕ) → m < length objects → n < length objects → address_of objects m ≡ address_of objects n → m ≡ n

pub are_told : AddressesAreApart → (t : Table) (objects : List Object) (arena : Arena) → Stands t objects arena → AreTold objects
are_told far t objects arena st = record {
  high = λ n lt. omega (arith, (far t objects arena n st lt).low);
  one = λ m n a b e. (far t objects arena n st b).only m a e;
}

pos_is : (m n : ℕ) → pos m ≡ pos n → m ≡ n
pos_is m n e = cc

pub pos_eq : (m n : ℕ) → int_eq (pos m) (pos n) ≡ nat_eq m n
pos_eq m n = same_from_decides (int_eq (pos m) (pos n)) (nat_eq m n) (Decides-int_eq (pos m) (pos n)) (λ h. ap pos (eqb-true m n h), λ e. eq-eqb m n (pos_is m n e))

zero_not : (n : ℕ) → 0 < n → int_eq (pos 0) (pos n) ≡ false
zero_not n h = pos_eq 0 n ∙ ne_eqb 0 n (λ (e : 0 ≡ n). omega (arith, e, h))

pub not_zero : (n : ℕ) → 0 < n → int_eq (pos n) (pos 0) ≡ false
not_zero n h = pos_eq n 0 ∙ ne_eqb n 0 (λ (e : n ≡ 0). omega (arith, e, h))

-- two references are the same where their words are
pub references_tell : (objects : List Object) (x y : Value) → AreTold objects → IsPart (length objects) x → IsPart (length objects) y → is_reference x ≡ true → is_reference y ≡ true → int_eq (word_of (address_of objects) x) (word_of (address_of objects) y) ≡ same_reference x y
references_tell objects (v.Int z) y t hx hy rx ry = absurd (cc)
references_tell objects v.Null (v.Int z) t hx hy rx ry = absurd (cc)
references_tell objects v.Null v.Null t hx hy rx ry = pos_eq 0 0 ∙ eq-eqb 0 0 refl
references_tell objects v.Null (v.Obj n) t hx hy rx ry = zero_not (address_of objects n) (t.high n hy)
references_tell objects (v.Obj m) (v.Int z) t hx hy rx ry = absurd (cc)
references_tell objects (v.Obj m) v.Null t hx hy rx ry = not_zero (address_of objects m) (t.high m hx)
references_tell objects (v.Obj m) (v.Obj n) t hx hy rx ry =
    elim (nat_eq m n) as (λ q. nat_eq m n ≡ q → int_eq (pos (address_of objects m)) (pos (address_of objects n)) ≡ q) [
      | true ↦ λ e. pos_eq (address_of objects m) (address_of objects n) ∙ eq-eqb (address_of objects m) (address_of objects n) (ap (address_of objects) (eqb-true m n e))
      | false ↦ λ e. pos_eq (address_of objects m) (address_of objects n) ∙ ne_eqb (address_of objects m) (address_of objects n) (λ (f : address_of objects m ≡ address_of objects n). (let g = t.one m n hx hy f in let h : nat_eq m n ≡ true = eq-eqb m n g in absurd (cc)))
    ]
    refl

-- ---- lists of values

pub one_value : (f : Arg → Option Value) (a : Arg) → has_value a ≡ true → (all_values f (a ∷ []) ≡ None) ⊎ ((x : Value) × (f a ≡ Some x) × (all_values f (a ∷ []) ≡ Some (x ∷ [])))
one_value f a h = which (f a) refl
  where
    shape : (o : Option Value) → f a ≡ o → all_values f (a ∷ []) ≡ with_first o (Some [])
    shape o e = ap (λ (b : Bool). cond b (with_first (f a) (Some [])) (Some [])) h ∙ ap (λ (q : Option Value). with_first q (Some [])) e

    which : (o : Option Value) → f a ≡ o → (all_values f (a ∷ []) ≡ None) ⊎ ((x : Value) × (f a ≡ Some x) × (all_values f (a ∷ []) ≡ Some (x ∷ [])))
    which None e = inl (shape None e)
    which (Some x) e = inr (x, e, shape (Some x) e)

pub first_value : (f : Arg → Option Value) (a : Arg) (more : List Arg) → has_value a ≡ true → all_values f (a ∷ more) ≡ with_first (f a) (all_values f more)
first_value f a more h = ap (λ (b : Bool). cond b (with_first (f a) (all_values f more)) (all_values f more)) h

pub two_values : (f : Arg → Option Value) (a b : Arg) → has_value a ≡ true → has_value b ≡ true → (all_values f (a ∷ b ∷ []) ≡ None) ⊎ ((x : Value) × (y : Value) × (f a ≡ Some x) × (f b ≡ Some y) × (all_values f (a ∷ b ∷ []) ≡ Some (x ∷ y ∷ [])))
two_values f a b ha hb = which (f a) refl (one_value f b hb)
  where
    shape : (o : Option Value) (q : Option (List Value)) → f a ≡ o → all_values f (b ∷ []) ≡ q → all_values f (a ∷ b ∷ []) ≡ with_first o q
    shape o q e g = first_value f a (b ∷ []) ha ∙ ap (λ (r : Option Value). with_first r (all_values f (b ∷ []))) e ∙ ap (with_first o) g

    none_first : (o : Option Value) → with_first o None ≡ None
    none_first None = refl
    none_first (Some x) = refl

    which : (o : Option Value) → f a ≡ o → (all_values f (b ∷ []) ≡ None) ⊎ ((y : Value) × (f b ≡ Some y) × (all_values f (b ∷ []) ≡ Some (y ∷ []))) → (all_values f (a ∷ b ∷ []) ≡ None) ⊎ ((x : Value) × (y : Value) × (f a ≡ Some x) × (f b ≡ Some y) × (all_values f (a ∷ b ∷ []) ≡ Some (x ∷ y ∷ [])))
    which o e (inl g) = inl (shape o None e g ∙ none_first o)
    which None e (inr (y, fy, g)) = inl (shape None (Some (y ∷ [])) e g)
    which (Some x) e (inr (y, fy, g)) = inr (x, y, e, fy, shape (Some x) (Some (y ∷ [])) e g)
