-- Pieces that are made one behind the other are those of all entries so far.
use Rattle.std.proofs.Common.{◌≡◌, ℕ, ◌+◌, ◌<◌, Bool, true, false, if◌then◌else◌, ◌==◌, List, [], ◌∷◌, ◌++◌, Option, Some, None, length, map, take, slice_get, refl, sym, ap, ◌∙◌, subst}
use Rattle.std.specs.Option.{IsSomeAnd}
use Rattle.std.specs.List.{AllByRecursion, AllZip, flat_map}
use Rattle.std.proofs.lemmas.Bool.Decides.{Decides-eqb}
use Rattle.lists.proofs.Zips.{zip_push}
use Rattle.trace_ops.specs.declared.trace.Trace.{Trace}
use Rattle.trace_ops.specs.declared.trace.TraceSet.{TraceSet}
use Rattle.trace_ops.specs.declared.piece.Half.{Half}
use Rattle.trace_ops.specs.declared.piece.PieceId.{PieceId}
use Rattle.trace_ops.specs.declared.piece.Piece.{Piece}
use Rattle.trace_ops.specs.declared.piece.Entry.{Entry}
use Rattle.opt_meaning.specs.Meeting.{Made, pieces_of}
use Rattle.opt_pass.specs.declared.pass.Optimised.{Optimised}
use Rattle.loop_peel.specs.declared.peeling.Peeled.{Peeled}
use Rattle.loop_peel.specs.Making.{with_left, with_piece, Adds}
use Rattle.loop_peel.specs.Peeling.{IsPieceOf, ArePieces, in_half, left_by, kept_if, kept_at}

append_assoc : {X : Type 0} (xs ys zs : List X) → (xs ++ ys) ++ zs ≡ xs ++ (ys ++ zs)
append_assoc [] ys zs = refl
append_assoc (x ∷ xs) ys zs = ap (λ l. x ∷ l) (append_assoc xs ys zs)

append_none : {X : Type 0} (xs : List X) → xs ++ [] ≡ xs
append_none [] = refl
append_none (x ∷ xs) = ap (λ l. x ∷ l) (append_none xs)

flat_both : {X Y : Type 0} (f : X → List Y) (xs ys : List X) → flat_map f (xs ++ ys) ≡ flat_map f xs ++ flat_map f ys
flat_both f [] ys = refl
flat_both f (x ∷ xs) ys = ap (λ l. f x ++ l) (flat_both f xs ys) ∙ sym (append_assoc (f x) (flat_map f xs) (flat_map f ys))

map_both : {X Y : Type 0} (f : X → Y) (xs ys : List X) → map f (xs ++ ys) ≡ map f xs ++ map f ys
map_both f [] ys = refl
map_both f (x ∷ xs) ys = ap (λ l. f x ∷ l) (map_both f xs ys)

pub none_so_far : (set : TraceSet) (p : ℕ) (o : Peeled) → o.opt.pieces ≡ [] → o.at_guards ≡ [] → ArePieces set p [] o.opt.pieces o.at_guards
none_so_far set p o a b = record { made = []; each = tt; pieces_are = a; guards_are = b }

-- one more
pub one_more : (set : TraceSet) (p : ℕ) (from : List (Half × Entry)) (h : Half) (e : Entry) (old new : Peeled) → ArePieces set p from old.opt.pieces old.at_guards → Adds set p h e old new
    → ArePieces set p (from ++ (h, e) ∷ []) new.opt.pieces new.at_guards
one_more set p from h e old new are adds = record {
  made = are.made ++ adds.made ∷ [];
  each = zip_push (λ x m. IsPieceOf set p x.0 x.1 m) from are.made (h, e) adds.made are.each adds.is_piece;
  pieces_are = adds.pieces ∙ ap (λ (ps : List Piece). ps ++ adds.made.piece ∷ []) are.pieces_are ∙ sym (map_both (λ (m : Made). m.piece) are.made (adds.made ∷ []));
  guards_are =
      adds.guards
      ∙ ap (λ xs. xs ++ in_half h adds.made.guards) are.guards_are
      ∙ ap (λ (k : Half). flat_map left_by are.made ++ in_half k adds.made.guards) (ap (λ (q : PieceId). q.half) (sym adds.is_piece.name))
      ∙ ap (λ xs. flat_map left_by are.made ++ xs) (sym (append_none (left_by adds.made)))
      ∙ sym (flat_both left_by are.made (adds.made ∷ []));
}

-- a guard that is the bridge's, and another
kept_push : (n : ℕ) (xs : List (Half × ℕ × Entry)) (x : Half × ℕ × Entry) (t : Bool) → (x.1 == n) ≡ t → kept_at n (xs ++ x ∷ []) ≡ kept_at n xs ++ (if t then (x.0, x.2) ∷ [] else [])
kept_push n xs x t e = flat_both (kept_if n) xs (x ∷ []) ∙ ap (λ l. kept_at n xs ++ l) (append_none (kept_if n x) ∙ ap (λ (b : Bool). if b then (x.0, x.2) ∷ [] else []) e)

pub more_kept : (n : ℕ) (xs : List (Half × ℕ × Entry)) (x : Half × ℕ × Entry) → x.1 ≡ n → kept_at n xs ++ (x.0, x.2) ∷ [] ≡ kept_at n (xs ++ x ∷ [])
more_kept n xs x e = sym (kept_push n xs x true ((Decides-eqb x.1 n).1 e))

false_of : (a b : ℕ) → (a ≡ b → ⊥) → (a == b) ≡ false
false_of a b ne = by (a == b) refl
  where
    by : (t : Bool) → (a == b) ≡ t → (a == b) ≡ false
    by false e = e
    by true e = absurd (ne ((Decides-eqb a b).0 e))

pub none_kept : (n : ℕ) (xs : List (Half × ℕ × Entry)) (x : Half × ℕ × Entry) → (x.1 ≡ n → ⊥) → kept_at n xs ≡ kept_at n (xs ++ x ∷ [])
none_kept n xs x ne = sym (append_none (kept_at n xs)) ∙ sym (kept_push n xs x false (false_of x.1 n ne))

-- The loop over what is left

pub adds : (set : TraceSet) (p : ℕ) (h : Half) (e : Entry) (o : Optimised) (piece : Piece) (guards : List (ℕ × Entry)) (old new : Peeled) → IsPieceOf set p h e (record { piece = o.piece; entry = e; guards = o.at_guards; at_end = o.at_end })
    → piece ≡ o.piece → guards ≡ o.at_guards → new.opt.pieces ≡ old.opt.pieces ++ piece ∷ [] → new.at_guards ≡ old.at_guards ++ in_half h guards → Adds set p h e old new
adds set p h e o piece guards old new is a b ops left = record {
  made = record { piece = o.piece; entry = e; guards = o.at_guards; at_end = o.at_end };
  is_piece = is;
  pieces = ops ∙ ap (λ z. old.opt.pieces ++ z ∷ []) a;
  guards = left ∙ ap (λ z. old.at_guards ++ in_half h z) b;
}

pub adds_both : (set : TraceSet) (p : ℕ) (h : Half) (e : Entry) (o : Optimised) (piece : Piece) (guards : List (ℕ × Entry)) (old mid new : Peeled) → IsPieceOf set p h e (record { piece = o.piece; entry = e; guards = o.at_guards; at_end = o.at_end })
    → piece ≡ o.piece → guards ≡ o.at_guards → mid ≡ with_left old h guards → new ≡ with_piece mid piece → Adds set p h e old new
adds_both set p h e o piece guards old mid new is a b first second =
    adds set p h e o piece guards old new is a b
    (ap (λ (z : Peeled). z.opt.pieces) second ∙ ap (λ (z : Peeled). z.opt.pieces ++ piece ∷ []) first)
    (ap (λ (z : Peeled). z.at_guards) second ∙ ap (λ (z : Peeled). z.at_guards) first)

pub kept_step : (set : TraceSet) (p n : ℕ) (parent : List (Half × ℕ × Entry)) (i : ℕ) (x : Half × ℕ × Entry) (old new : Peeled) → take i parent ++ x ∷ [] ≡ take (i + 1) parent
    → ArePieces set p (kept_at n (take i parent)) old.opt.pieces old.at_guards → x.1 ≡ n → Adds set p x.0 x.2 old new → ArePieces set p (kept_at n (take (i + 1) parent)) new.opt.pieces new.at_guards
kept_step set p n parent i x old new split are is more =
    subst (λ l. ArePieces set p (kept_at n l) new.opt.pieces new.at_guards) split
    (subst (λ l. ArePieces set p l new.opt.pieces new.at_guards) (more_kept n (take i parent) x is) (one_more set p (kept_at n (take i parent)) x.0 x.2 old new are more))

pub other_step : (set : TraceSet) (p n : ℕ) (parent : List (Half × ℕ × Entry)) (i : ℕ) (x : Half × ℕ × Entry) (o : Peeled) → take i parent ++ x ∷ [] ≡ take (i + 1) parent
    → ArePieces set p (kept_at n (take i parent)) o.opt.pieces o.at_guards → (x.1 ≡ n → ⊥) → ArePieces set p (kept_at n (take (i + 1) parent)) o.opt.pieces o.at_guards
other_step set p n parent i x o split are ne =
    subst (λ l. ArePieces set p (kept_at n l) o.opt.pieces o.at_guards) split
    (subst (λ l. ArePieces set p l o.opt.pieces o.at_guards) (none_kept n (take i parent) x ne) are)
