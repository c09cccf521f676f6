-- The loops of a set, peeled one after the other.
use Rattle.std.proofs.Common.{◌≡◌, ◌≢◌, ℕ, zero, suc, ◌+◌, ◌<◌, ◌≤◌, List, [], ◌∷◌, ◌++◌, Option, Some, None, length, map, take, replicate, slice_get, slice_set, refl, sym, ap, ◌∙◌, subst, arith}
use Rattle.std.specs.Bool.{Decides}
use Rattle.std.specs.Option.{IsSomeAnd}
use Rattle.std.specs.List.{AllByRecursion, AllZip, flat_map}
use Rattle.std.proofs.lemmas.Option.{slice_get_within}
use Rattle.lists.proofs.Options.{some_same, none_some}
use Rattle.lists.proofs.Places.{get_some, get_set_other}
use Rattle.lists.proofs.Zips.{zip_push}
use Rattle.trace_ops.specs.declared.trace.Origin.{Origin}
use Rattle.trace_ops.specs.declared.trace.Origin.TheVariants as origin
use Rattle.trace_ops.specs.declared.trace.Trace.{Trace}
use Rattle.trace_ops.specs.declared.trace.TraceSet.{TraceSet}
use Rattle.trace_ops.specs.declared.piece.Half.{Half}
use Rattle.trace_ops.specs.declared.piece.Half.TheVariants as half
use Rattle.trace_ops.specs.declared.piece.PieceId.{PieceId}
use Rattle.trace_ops.specs.declared.piece.Piece.{Piece}
use Rattle.trace_ops.specs.declared.piece.OptTrace.{OptTrace}
use Rattle.trace_ops.specs.declared.piece.Entry.{Entry}
use Rattle.opt_meaning.specs.Meeting.{Made, pieces_of}
use Rattle.opt_meaning.specs.Pieces.{same_piece, all_pieces}
use Rattle.loop_peel.specs.Peeling.{IsLoop, IsPieceOf, ArePieces, loop_entry}
use Rattle.opt_set.specs.Loops.{IsMadeTo}
use Rattle.opt_set.specs.Optimised.{Left, Optimised, loop_if, loops_from, AreOfLoop, IsTraceAt, IsLeftOf, with_loop, Holds, IsOptimised}
use Rattle.opt_set.proofs.Adding.{skipped, loop_added}

append_assoc : {X : Type 0} (xs ys zs : List X) → (xs ++ ys) ++ zs ≡ xs ++ (ys ++ zs)
append_assoc [] ys zs = refl
append_assoc (x ∷ xs) ys zs = ap (λ l. x ∷ l) (append_assoc xs ys zs)

append_none : {X : Type 0} (xs : List X) → xs ++ [] ≡ xs
append_none [] = refl
append_none (x ∷ xs) = ap (λ l. x ∷ l) (append_none xs)

flat_both : {X Y : Type 0} (f : X → List Y) (xs ys : List X) → flat_map f (xs ++ ys) ≡ flat_map f xs ++ flat_map f ys
flat_both f [] ys = refl
flat_both f (x ∷ xs) ys = ap (λ l. f x ++ l) (flat_both f xs ys) ∙ sym (append_assoc (f x) (flat_map f xs) (flat_map f ys))

map_both : {X Y : Type 0} (f : X → Y) (xs ys : List X) → map f (xs ++ ys) ≡ map f xs ++ map f ys
map_both f [] ys = refl
map_both f (x ∷ xs) ys = ap (λ l. f x ∷ l) (map_both f xs ys)

-- Pieces of one trace more

pub pieces_more : (traces : List OptTrace) (t : OptTrace) (ms ns : List Made) → all_pieces traces ≡ pieces_of ms → t.pieces ≡ pieces_of ns → all_pieces (traces ++ t ∷ []) ≡ pieces_of (ms ++ ns)
pieces_more traces t ms ns a b =
    flat_both (λ (o : OptTrace). o.pieces) traces (t ∷ [])
    ∙ ap (λ (ps : List Piece). all_pieces traces ++ ps) (append_none t.pieces ∙ b)
    ∙ ap (λ (ps : List Piece). ps ++ pieces_of ns) a
    ∙ sym (map_both (λ (m : Made). m.piece) ms ns)

of_the_trace : (set : TraceSet) (p : ℕ) (from : List (Half × Entry)) (ns : List Made) → AllZip (λ x m. IsPieceOf set p x.0 x.1 m) from ns → AllByRecursion (λ (piece : Piece). piece.id.trace ≡ p) (pieces_of ns)
of_the_trace set p [] [] z = tt
of_the_trace set p [] (m ∷ ns) z = absurd z
of_the_trace set p (x ∷ from) [] z = absurd z
of_the_trace set p (x ∷ from) (m ∷ ns) z = (ap (λ (q : PieceId). q.trace) z.0.name, of_the_trace set p from ns z.1)

pub bridge_at : (set : TraceSet) (p : ℕ) (from : List (Half × Entry)) (t : OptTrace) (at_guards : Left) → ArePieces set p from t.pieces at_guards
    → (x : Trace) → slice_get set.traces p ≡ Some x → (IsLoop x.origin → ⊥) → IsTraceAt set p t
bridge_at set p from t at_guards a x at other = (
  subst (AllByRecursion (λ (piece : Piece). piece.id.trace ≡ p)) (sym a.pieces_are) (of_the_trace set p from a.made a.each),
  λ y there loop. absurd (other (subst (λ (z : Trace). IsLoop z.origin) (some_same (sym there ∙ at)) loop)),
)

loop_alone : (set : TraceSet) (p : ℕ) (e : Entry) (ns : List Made) → AllZip (λ (x : Half × Entry) (m : Made). IsPieceOf set p x.0 x.1 m) ((half.Pre, e) ∷ []) ns → AreOfLoop p (pieces_of ns)
loop_alone set p e [] z = absurd z
loop_alone set p e (m ∷ []) z = z.0.name
loop_alone set p e (m ∷ n ∷ ns) z = absurd z.1

loop_at : (set : TraceSet) (p : ℕ) (e : Entry) (t : OptTrace) (at_guards : Left) → ArePieces set p ((half.Pre, e) ∷ []) t.pieces at_guards → IsTraceAt set p t
loop_at set p e t at_guards a = (
  subst (AllByRecursion (λ (piece : Piece). piece.id.trace ≡ p)) (sym a.pieces_are) (of_the_trace set p ((half.Pre, e) ∷ []) a.made a.each),
  λ x at loop. subst (AreOfLoop p) (sym a.pieces_are) (loop_alone set p e a.made a.each),
)

-- Loops

loops_more : (s k : ℕ) (ts : List Trace) (t : Trace) → slice_get ts k ≡ Some t → loops_from s (take (suc k) ts) ≡ loops_from s (take k ts) ++ loop_if t.origin (s + k)
loops_more s k [] t e = absurd (none_some e)
loops_more s zero (x ∷ ts) t e =
    let none : s ≡ s + 0 = omega arith in
    append_none (loop_if x.origin s) ∙ ap (λ (y : Trace). loop_if y.origin s) (some_same e) ∙ ap (loop_if t.origin) none
loops_more s (suc k) (x ∷ ts) t e =
    let next : s + 1 + k ≡ s + suc k = omega arith in
    ap (λ l. loop_if x.origin s ++ l) (loops_more (s + 1) k ts t e ∙ ap (λ n. loops_from (s + 1) (take k ts) ++ loop_if t.origin n) next)
    ∙ sym (append_assoc (loop_if x.origin s) (loops_from (s + 1) (take k ts)) (loop_if t.origin (s + suc k)))

no_loop : (o : Origin) (k : ℕ) → (IsLoop o → ⊥) → loop_if o k ≡ []
no_loop origin.Loop k other = absurd (other refl)
no_loop (origin.Bridge name guard) k other = refl

next_loops : (set : TraceSet) (k : ℕ) (t : Trace) → slice_get set.traces k ≡ Some t → loops_from 0 (take (k + 1) set.traces) ≡ loops_from 0 (take k set.traces) ++ loop_if t.origin k
next_loops set k t at =
    let one : k + 1 ≡ suc k = omega arith in
    let none : 0 + k ≡ k = omega arith in
    ap (λ n. loops_from 0 (take n set.traces)) one ∙ loops_more 0 k set.traces t at ∙ ap (λ n. loops_from 0 (take k set.traces) ++ loop_if t.origin n) none

module _ (tell : (a b : PieceId) → Decides (same_piece a b) (a ≡ b)) (set : TraceSet) (k : ℕ) (o : Optimised) (h : IsMadeTo set k o) (t : Trace) (at : slice_get set.traces k ≡ Some t) where
  -- a bridge isn't made yet
  pub stepped_over : (IsLoop t.origin → ⊥) → IsMadeTo set (k + 1) o
  stepped_over other = record {
    made = h.made;
    pieces = h.pieces;
    traces = subst (λ (ks : List ℕ). AllZip (IsTraceAt set) ks o.traces) (sym (next_loops set k t at ∙ ap (λ l. loops_from 0 (take k set.traces) ++ l) (no_loop t.origin k other) ∙ append_none (loops_from 0 (take k set.traces)))) h.traces;
    none = h.none;
    holds = skipped tell set k [] o.left h.made h.holds t at other;
    free = λ p le lt. h.free p (omega (arith, le)) lt;
  }

  -- a loop is peeled
  pub stepped : IsLoop t.origin → (new : OptTrace) (at_guards : Left) → ArePieces set k ((half.Pre, loop_entry set k) ∷ []) new.pieces at_guards
      → IsMadeTo set (k + 1) (record { traces = o.traces ++ new ∷ []; attached = o.attached; left = slice_set o.left k (Some at_guards) })
  stepped loop new at_guards a = record {
    made = h.made ++ a.made;
    pieces = pieces_more o.traces new h.made a.made h.pieces a.pieces_are;
    traces =
        subst (λ (ks : List ℕ). AllZip (IsTraceAt set) ks (o.traces ++ new ∷ [])) (sym (next_loops set k t at ∙ ap (λ q. loops_from 0 (take k set.traces) ++ loop_if q k) loop))
        (zip_push (IsTraceAt set) (loops_from 0 (take k set.traces)) o.traces k new h.traces (loop_at set k (loop_entry set k) new at_guards a));
    none = h.none;
    holds = loop_added tell set k [] o.left h.made h.holds k (h.free k (omega arith) (slice_get_within set.traces k t at)) ((half.Pre, loop_entry set k) ∷ []) a.made a.each ((λ e. e), tt) at_guards a.guards_are t at loop refl refl;
    free = λ p le lt. get_set_other o.left k p (Some at_guards) (behind p le) ∙ h.free p (omega (arith, le)) lt;
  }
    where
      behind : (p : ℕ) → k + 1 ≤ p → p ≢ k
      behind p le e = omega (arith, le, e)

-- The beginning and the end

same_got : {X : Type 0} (n p : ℕ) (x y : X) → slice_get (replicate n x) p ≡ Some y → y ≡ x
same_got zero p x y e = absurd (none_some e)
same_got (suc n) zero x y e = sym (some_same e)
same_got (suc n) (suc p) x y e = same_got n p x y e

got_same : {X : Type 0} (n p : ℕ) (x : X) → p < n → slice_get (replicate n x) p ≡ Some x
got_same zero p x lt = absurd (nothing p lt)
  where
    nothing : (p : ℕ) → p < 0 → ⊥
    nothing p h = omega (arith, h)
got_same (suc n) zero x lt = refl
got_same (suc n) (suc p) x lt = got_same n p x (omega (arith, lt))

long_same : {X : Type 0} (n : ℕ) (x : X) → length (replicate n x) ≡ n
long_same zero x = refl
long_same (suc n) x = ap suc (long_same n x)

none_is : {X : Type 0} {x : X} → Some x ≡ None → ⊥
none_is e = cc

below_none : (p : ℕ) → p < 0 → ⊥
below_none p h = omega (arith, h)

none_holds : (set : TraceSet) → Holds set 0 [] (replicate (length set.traces) None) []
none_holds set = record {
  each = tt;
  long = long_same (length set.traces) None;
  left_is = λ p o e. subst (IsLeftOf [] p) (sym (same_got (length set.traces) p None o e)) refl;
  loops = λ p t lt at loop. absurd (below_none p lt);
  bridges = λ b w. absurd w;
  behind = tt;
  once = tt;
  parents = λ b w. absurd w;
  attached_has = λ b w. absurd w;
  has_attached = λ b t w at other. absurd (none_is (same_got (length set.traces) b None (Some w.0) w.1));
}

take_none : (ts : List Trace) → take 0 ts ≡ []
take_none [] = refl
take_none (t ∷ ts) = refl

pub none_yet : (set : TraceSet) (n : ℕ) (o : Optimised) → n ≡ length set.traces → o.traces ≡ [] → o.attached ≡ [] → o.left ≡ replicate n None → IsMadeTo set 0 o
none_yet set n o long traces attached left = record {
  made = [];
  pieces = ap all_pieces traces;
  traces = subst (λ (ks : List ℕ). AllZip (IsTraceAt set) ks o.traces) (sym (ap (loops_from 0) (take_none set.traces))) (subst (AllZip (IsTraceAt set) []) (sym traces) tt);
  none = attached;
  holds = subst (λ (l : List (Option Left)). Holds set 0 [] l []) (sym now) (none_holds set);
  free = λ p le lt. ap (λ l. slice_get l p) now ∙ got_same (length set.traces) p None lt;
}
  where
    now : o.left ≡ replicate (length set.traces) None
    now = left ∙ ap (λ m. replicate m None) long

take_whole : (ts : List Trace) → take (length ts) ts ≡ ts
take_whole [] = refl
take_whole (t ∷ ts) = ap (λ l. t ∷ l) (take_whole ts)

pub all_made : (set : TraceSet) (k : ℕ) (o : Optimised) → k ≡ length set.traces → IsMadeTo set k o → IsOptimised set o
all_made set k o all h = record {
  made = h.made;
  pieces = h.pieces;
  traces =
      subst (λ (ks : List ℕ). AllZip (IsTraceAt set) ks o.traces)
      (ap (λ n. loops_from 0 (take n set.traces)) all ∙ ap (loops_from 0) (take_whole set.traces) ∙ sym (append_none (loops_from 0 set.traces)) ∙ ap (λ l. loops_from 0 set.traces ++ l) (sym h.none))
      h.traces;
  holds = subst (λ (l : List ℕ). Holds set (length set.traces) l o.left h.made) (sym h.none) (subst (λ n. Holds set n [] o.left h.made) all h.holds);
}

-- Of a trace of the set

pub over : ((a b : PieceId) → Decides (same_piece a b) (a ≡ b)) → (set s : TraceSet) → s ≡ set → (k : ℕ) (o : Optimised) → IsMadeTo set k o → k < length set.traces
    → (IsSomeAnd (slice_get s.traces k) (λ (t : Trace). IsLoop t.origin) → ⊥) → IsMadeTo set (k + 1) o
over tell set s same k o h lt other =
    let at = get_some set.traces k lt in
    stepped_over tell set k o h at.0 at.1 (λ loop. other (subst (λ q. IsSomeAnd q (λ (t : Trace). IsLoop t.origin)) (sym (ap (λ (z : TraceSet). slice_get z.traces k) same ∙ at.1)) loop))

loop_there : (o : Option Trace) (t : Trace) → o ≡ Some t → IsSomeAnd o (λ (x : Trace). IsLoop x.origin) → IsLoop t.origin
loop_there o t e h = subst (λ q. IsSomeAnd q (λ (x : Trace). IsLoop x.origin)) e h

pub made_one : ((a b : PieceId) → Decides (same_piece a b) (a ≡ b)) → (set s : TraceSet) → s ≡ set → (k : ℕ) (o : Optimised) → IsMadeTo set k o → k < length set.traces
    → IsSomeAnd (slice_get s.traces k) (λ (t : Trace). IsLoop t.origin) → (new : OptTrace) (at_guards : Left) → ArePieces set k ((half.Pre, loop_entry set k) ∷ []) new.pieces at_guards → IsMadeTo set (k + 1) (with_loop o k new at_guards)
made_one tell set s same k o h lt loop new at_guards a =
    let at = get_some set.traces k lt in
    stepped tell set k o h at.0 at.1 (loop_there (slice_get s.traces k) at.0 (ap (λ (z : TraceSet). slice_get z.traces k) same ∙ at.1) loop) new at_guards a

pub is_a_loop : (set s : TraceSet) → s ≡ set → (k : ℕ) → IsSomeAnd (slice_get s.traces k) (λ (t : Trace). IsLoop t.origin) → IsSomeAnd (slice_get set.traces k) (λ (t : Trace). IsLoop t.origin)
is_a_loop set s same k h = subst (λ (z : TraceSet). IsSomeAnd (slice_get z.traces k) (λ (t : Trace). IsLoop t.origin)) same h

pub one_replicated : {X : Type 0} (x : X) (n : ℕ) (xs ys : List X) → xs ≡ replicate n x → ys ≡ xs ++ x ∷ [] → ys ≡ replicate (n + 1) x
one_replicated x n xs ys is e = let one : n + 1 ≡ suc n = omega arith in e ∙ ap (λ l. l ++ x ∷ []) is ∙ pushed x n ∙ ap (λ k. replicate k x) (sym one)
  where
    pushed : {X : Type 0} (x : X) (n : ℕ) → replicate n x ++ x ∷ [] ≡ replicate (suc n) x
    pushed x zero = refl
    pushed x (suc n) = ap (λ l. x ∷ l) (pushed x n)
