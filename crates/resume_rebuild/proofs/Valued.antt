-- Words and values of what a snapshot names.
use Rattle.std.proofs.Common.{◌≡◌, ℕ, zero, suc, ◌+◌, ◌<◌, Option, Some, None, List, [], ◌∷◌, length, map, slice_get, refl, ap, sym, ◌∙◌, subst, arith, ℤ, pos}
use Rattle.std.specs.List.{All}
use Rattle.std.proofs.lemmas.Option.{same_Some}
use Rattle.trace_ops.specs.declared.trace.BoxId.{BoxId}
use Rattle.trace_ops.specs.declared.trace.Arg.{Arg}
use Rattle.trace_ops.specs.declared.trace.Arg.TheVariants as arg
use Rattle.trace_ops.specs.declared.piece.Val.{Val}
use Rattle.trace_ops.specs.declared.piece.Val.TheVariants.{Known, Virtual}
use Rattle.trace_meaning.specs.declared.value.Value.{Value}
use Rattle.trace_meaning.specs.declared.value.Value.TheVariants as v
use Rattle.trace_meaning.specs.Boxes.{arg_value}
use Rattle.trace_meaning.specs.Kinds.{IsValueOf}
use Rattle.arena_objects.specs.Layout.{word_of}
use Rattle.arena_objects.specs.Standing.{IsPart}
use Rattle.opt_meaning.specs.Rebuilding.{before_all, all_of, val_value}
use Rattle.std.proofs.lemmas.List.Elements.{All-cons, All-head, All-tail}
use Rattle.resume_rebuild.specs.Rebuilding.{Sources, box_word, arg_word, val_word}
use Rattle.arena_objects.specs.ReadBack.{or_zero}
use Rattle.resume_rebuild.specs.Standing.{IsNamed, AreNamed}

-- ---- lists of values that are all there

pub both_of : {X : Type 0} (o : Option X) (os : Option (List X)) (ys : List X) → before_all o os ≡ Some ys → (x : X) × (xs : List X) × (o ≡ Some x) × (os ≡ Some xs) × (ys ≡ x ∷ xs)
both_of None os ys e = absurd (cc)
both_of (Some x) None ys e = absurd (cc)
both_of (Some x) (Some xs) ys e = (x, xs, refl, refl, sym (same_Some (x ∷ xs) ys e))

pub none_of : {X : Type 0} (ys : List X) → Some [] ≡ Some ys → ys ≡ []
none_of ys e = sym (same_Some [] ys e)

-- ---- what words are read from

-- n objects before and m new ones, whose addresses are these
pub record IsReadBy (box : BoxId → Option Value) (n m : ℕ) (at : ℕ → ℕ) (known : Sources) : Type 0 where
  pub words : (b : BoxId) (x : Value) → box b ≡ Some x → box_word known b.number ≡ word_of at x
  pub parts : (b : BoxId) (x : Value) → box b ≡ Some x → IsPart (n + m) x
  pub kinds : (b : BoxId) (x : Value) → box b ≡ Some x → IsValueOf (n + m) b.kind x
  pub before : (k : ℕ) → k < n → slice_get known.before k ≡ Some (pos (at k))
  pub made : (k : ℕ) → k < m → slice_get known.made k ≡ Some (pos (at (n + k)))

abbrev pub IsRead : ℕ → (ℕ → ℕ) → ℤ → Value → Type 0
IsRead n at w x = (w ≡ word_of at x) × IsPart n x

arg_reads : (box : BoxId → Option Value) (n m : ℕ) (at : ℕ → ℕ) (known : Sources) (a : Arg) (x : Value) → IsReadBy box n m at known → IsNamed n m (Known a) → arg_value box a ≡ Some x → IsRead (n + m) at (arg_word known a) x
arg_reads box n m at known (arg.Of b) x r h e = (r.words b x e, r.parts b x e)
arg_reads box n m at known (arg.Const z) x r h e =
    let same : v.Int z ≡ x = same_Some (v.Int z) x e in
    subst (IsRead (n + m) at z) same (refl, h)
arg_reads box n m at known arg.Null x r h e =
    let same : v.Null ≡ x = same_Some v.Null x e in
    subst (IsRead (n + m) at (pos 0)) same (refl, tt)
arg_reads box n m at known (arg.Ptr k) x r h e =
    let same : v.Obj k ≡ x = same_Some (v.Obj k) x e in
    let few : k < n + m = (let lt : k < n = h in omega arith) in
    subst (IsRead (n + m) at (or_zero (slice_get known.before k))) same (ap or_zero (r.before k h), few)
arg_reads box n m at known (arg.Class k) x r h e = absurd (cc)
arg_reads box n m at known (arg.Func k) x r h e = absurd (cc)

pub val_reads : (box : BoxId → Option Value) (n m : ℕ) (at : ℕ → ℕ) (known : Sources) (w : Val) (x : Value) → IsReadBy box n m at known → IsNamed n m w → val_value box n w ≡ Some x → IsRead (n + m) at (val_word known w) x
val_reads box n m at known (Known a) x r h e = arg_reads box n m at known a x r h e
val_reads box n m at known (Virtual k) x r h e =
    let same : v.Obj (n + k) ≡ x = same_Some (v.Obj (n + k)) x e in
    let few : n + k < n + m = (let lt : k < m = h in omega arith) in
    subst (IsRead (n + m) at (or_zero (slice_get known.made k))) same (ap or_zero (r.made k h), few)

pub record AreRead (n : ℕ) (at : ℕ → ℕ) (ws : List ℤ) (xs : List Value) : Type 0 where
  pub words : ws ≡ map (word_of at) xs
  pub parts : All (IsPart n) xs

pub vals_read : (box : BoxId → Option Value) (n m : ℕ) (at : ℕ → ℕ) (known : Sources) (ws : List Val) (xs : List Value) → IsReadBy box n m at known → AreNamed n m ws → all_of (val_value box n) ws ≡ Some xs → AreRead (n + m) at (map (val_word known) ws) xs
vals_read box n m at known [] xs r h e =
    let same : [] ≡ xs = same_Some [] xs e in
    subst (AreRead (n + m) at []) same (record { words = refl; parts = λ i d lt. absurd (omega arith) })
vals_read box n m at known (w ∷ ws) xs r h e =
    let b = both_of (val_value box n w) (all_of (val_value box n) ws) xs e in
    let one = val_reads box n m at known w b.0 r (All-head (IsNamed n m) w ws h) b.2 in
    let more = vals_read box n m at known ws b.1 r (All-tail (IsNamed n m) w ws h) b.3 in
    subst (AreRead (n + m) at (map (val_word known) (w ∷ ws))) (sym b.4) (record {
      words = ap (λ y. y ∷ map (val_word known) ws) one.0 ∙ ap (λ l. word_of at b.0 ∷ l) more.words;
      parts = All-cons (IsPart (n + m)) b.0 b.1 one.1 more.parts;
    })

pub all_length : {X Y : Type 0} (f : X → Option Y) (xs : List X) (ys : List Y) → all_of f xs ≡ Some ys → length ys ≡ length xs
all_length f [] ys e = ap length (none_of ys e)
all_length f (x ∷ xs) ys e =
    let b = both_of (f x) (all_of f xs) ys e in
    ap length b.4 ∙ ap suc (all_length f xs b.1 b.3)
