-- A bridge that is attached, and one that isn't.
use Rattle.std.proofs.Common.{◌≡◌, ℕ, ◌<◌, Bool, true, false, ◌&&◌, ◌==◌, if◌then◌else◌, List, [], ◌∷◌, ◌++◌, Option, Some, None, length, map, slice_get, slice_set, refl, sym, ap, ◌∙◌, subst}
use Rattle.std.specs.Bool.{Decides}
use Rattle.std.specs.Option.{IsSome, IsSomeAnd, option_and_then}
use Rattle.std.specs.List.{AllByRecursion, AllZip, flat_map}
use Rattle.std.proofs.lemmas.Bool.Decides.{Decides-eqb}
use Rattle.std.proofs.lemmas.Option.{slice_get_within}
use Rattle.lists.specs.Has.{Has, IsOnce}
use Rattle.lists.proofs.Eaches.{each_append}
use Rattle.lists.proofs.Options.{none_some}
use Rattle.lists.proofs.Places.{get_some}
use Rattle.lists.proofs.Zips.{zip_push}
use Rattle.trace_ops.specs.declared.trace.Origin.{Origin}
use Rattle.trace_ops.specs.declared.trace.Origin.TheVariants as origin
use Rattle.trace_ops.specs.declared.trace.Trace.{Trace}
use Rattle.trace_ops.specs.declared.trace.TraceSet.{TraceSet}
use Rattle.trace_ops.specs.declared.piece.Half.{Half}
use Rattle.trace_ops.specs.declared.piece.PieceId.{PieceId}
use Rattle.trace_ops.specs.declared.piece.OptTrace.{OptTrace}
use Rattle.trace_ops.specs.declared.piece.Entry.{Entry}
use Rattle.trace_ops.specs.Rules.{guard_op, ComesFrom}
use Rattle.trace_ops.specs.Weights.{place_of, parent_named, parent_of, parent_at}
use Rattle.trace_ops.specs.WellFormed.{IsWellFormed}
use Rattle.trace_meaning.specs.Cuts.{is_at, leaves_from, trace_leaves_from, is_bridge_of}
use Rattle.opt_meaning.specs.Meeting.{Made}
use Rattle.opt_meaning.specs.Pieces.{same_piece}
use Rattle.loop_peel.specs.Peeling.{IsLoop, IsBridge, ArePieces, in_half, left_by, kept_if, kept_at, guard_from, guard_of}
use Rattle.loop_peel.specs.Serving.{CanEnter, IsLeft, EntriesServe}
use Rattle.opt_set.specs.Attaching.{LacksParent, IsGranted, IsOneMore}
use Rattle.opt_set.specs.Optimised.{Left, Optimised, loops_from, IsTraceAt, of_trace, IsOwnPiece, left_in, left_of, with_bridge, IsOptimised}
use Rattle.opt_set.proofs.Adding.{bridge_added}
use Rattle.opt_set.proofs.Halves.{left_once}
use Rattle.opt_set.proofs.Stepping.{pieces_more, bridge_at}

false_true : false ≡ true → ⊥
false_true e = cc

some_none : {X : Type 0} {x : X} → Some x ≡ None → ⊥
some_none e = cc

append_assoc : {X : Type 0} (xs ys zs : List X) → (xs ++ ys) ++ zs ≡ xs ++ (ys ++ zs)
append_assoc [] ys zs = refl
append_assoc (x ∷ xs) ys zs = ap (λ l. x ∷ l) (append_assoc xs ys zs)

-- A bridge, its guard and its parent

pub record Bridging (set : TraceSet) (b : ℕ) (t : Trace) : Type 0 where
  pub name : List ℕ
  pub guard : ℕ
  pub comes : t.origin ≡ origin.Bridge name guard
  pub parent : ℕ
  pub named : place_of name set.traces ≡ Some parent
  pub above : Trace
  pub there : slice_get set.traces parent ≡ Some above

found : (set : TraceSet) (b : ℕ) (t : Trace) (name : List ℕ) (guard p : ℕ) (o : Option Trace) → t.origin ≡ origin.Bridge name guard → place_of name set.traces ≡ Some p → slice_get set.traces p ≡ o → IsSome (option_and_then (λ (x : Trace). guard_op x guard) o) → Bridging set b t
found set b t name guard p None comes named at h = absurd (false_true h)
found set b t name guard p (Some x) comes named at h = record { name = name; guard = guard; comes = comes; parent = p; named = named; above = x; there = at }

placed : (set : TraceSet) (b : ℕ) (t : Trace) (name : List ℕ) (guard : ℕ) (o : Option ℕ) → t.origin ≡ origin.Bridge name guard → place_of name set.traces ≡ o
    → IsSome (option_and_then (λ (x : Trace). guard_op x guard) (option_and_then (slice_get set.traces) o)) → Bridging set b t
placed set b t name guard None comes named h = absurd (false_true h)
placed set b t name guard (Some p) comes named h = found set b t name guard p (slice_get set.traces p) comes named refl h

comes_from : (set : TraceSet) (b : ℕ) (t : Trace) (o : Origin) → t.origin ≡ o → (IsLoop o → ⊥) → ComesFrom set o → Bridging set b t
comes_from set b t origin.Loop is other h = absurd (other refl)
comes_from set b t (origin.Bridge name guard) is other h = placed set b t name guard (place_of name set.traces) is refl h

pub bridging : (set : TraceSet) (b : ℕ) (t : Trace) → IsWellFormed set → slice_get set.traces b ≡ Some t → (IsLoop t.origin → ⊥) → Bridging set b t
bridging set b t well at other = comes_from set b t t.origin refl other (well.parents_there b t at)

parent_is : (set : TraceSet) (b : ℕ) (t : Trace) → slice_get set.traces b ≡ Some t → (w : Bridging set b t) → parent_at set b ≡ Some w.parent
parent_is set b t at w = ap (parent_of set.traces) at ∙ ap (parent_named set.traces) w.comes ∙ w.named

guard_is : (set : TraceSet) (b : ℕ) (t : Trace) → slice_get set.traces b ≡ Some t → (w : Bridging set b t) → guard_of (slice_get set.traces b) ≡ w.guard
guard_is set b t at w = ap guard_of at ∙ ap guard_from w.comes

-- it comes from that guard
is_from : (set : TraceSet) (b : ℕ) (t : Trace) → slice_get set.traces b ≡ Some t → (w : Bridging set b t) → is_bridge_of set.traces w.parent w.guard b ≡ true
is_from set b t at w =
    ap (trace_leaves_from set.traces w.parent w.guard) at
    ∙ ap (leaves_from set.traces w.parent w.guard) w.comes
    ∙ ap (λ q. (w.guard == w.guard) && is_at w.parent q) w.named
    ∙ ap (λ q. q && (w.parent == w.parent)) ((Decides-eqb w.guard w.guard).1 refl)
    ∙ (Decides-eqb w.parent w.parent).1 refl

and_parts : (a b : Bool) → (a && b) ≡ true → (a ≡ true) × (b ≡ true)
and_parts true b e = (refl, e)
and_parts false b e = absurd (false_true e)

-- and from no other
only_from : (set : TraceSet) (b : ℕ) (t : Trace) → slice_get set.traces b ≡ Some t → (w : Bridging set b t) → (p n : ℕ) → is_bridge_of set.traces p n b ≡ true → (p ≡ w.parent) × (n ≡ w.guard)
only_from set b t at w p n e =
    let both = and_parts (w.guard == n) (is_at p (place_of w.name set.traces)) (sym (ap (trace_leaves_from set.traces p n) at ∙ ap (leaves_from set.traces p n) w.comes) ∙ e) in
    let parent : (w.parent == p) ≡ true = sym (ap (is_at p) w.named) ∙ both.1 in
    (sym ((Decides-eqb w.parent p).0 parent), sym ((Decides-eqb w.guard n).0 both.0))

-- What its guard leaves

kept_of : (set : TraceSet) (p n : ℕ) (h : Half) (t : Bool) (x : ℕ × Entry) → (x.0 == n) ≡ t → IsLeft set p x.0 x.1 → AllByRecursion (λ (y : Half × Entry). IsLeft set p n y.1) (if t then (h, x.1) ∷ [] else [])
kept_of set p n h true x is l = (subst (λ k. IsLeft set p k x.1) ((Decides-eqb x.0 n).0 is) l, tt)
kept_of set p n h false x is l = tt

kept_guards : (set : TraceSet) (p n : ℕ) (h : Half) (guards : List (ℕ × Entry)) → AllByRecursion (λ x. IsLeft set p x.0 x.1) guards → AllByRecursion (λ (y : Half × Entry). IsLeft set p n y.1) (kept_at n (in_half h guards))
kept_guards set p n h [] l = tt
kept_guards set p n h (x ∷ guards) l = each_append (λ (y : Half × Entry). IsLeft set p n y.1) (kept_if n (h, x.0, x.1)) (kept_at n (in_half h guards)) (kept_of set p n h (x.0 == n) x refl l.0) (kept_guards set p n h guards l.1)

flat_both : {X Y : Type 0} (f : X → List Y) (xs ys : List X) → flat_map f (xs ++ ys) ≡ flat_map f xs ++ flat_map f ys
flat_both f [] ys = refl
flat_both f (x ∷ xs) ys = ap (λ l. f x ++ l) (flat_both f xs ys) ∙ sym (append_assoc (f x) (flat_map f xs) (flat_map f ys))

kept_by : (set : TraceSet) (p n : ℕ) (t : Bool) (m : Made) (ms : List Made) → (m.piece.id.trace == p) ≡ t → IsOwnPiece set m → AllByRecursion (λ (y : Half × Entry). IsLeft set p n y.1) (kept_at n (flat_map left_by (of_trace p ms)))
    → AllByRecursion (λ (y : Half × Entry). IsLeft set p n y.1) (kept_at n (flat_map left_by (if t then m ∷ of_trace p ms else of_trace p ms)))
kept_by set p n true m ms is own rest =
    subst (AllByRecursion (λ (y : Half × Entry). IsLeft set p n y.1)) (sym (flat_both (kept_if n) (left_by m) (flat_map left_by (of_trace p ms))))
    (each_append (λ (y : Half × Entry). IsLeft set p n y.1) (kept_at n (left_by m)) (kept_at n (flat_map left_by (of_trace p ms)))
    (kept_guards set p n m.piece.id.half m.guards (subst (λ k. AllByRecursion (λ x. IsLeft set k x.0 x.1) m.guards) ((Decides-eqb m.piece.id.trace p).0 is) own.left))
    rest)
kept_by set p n false m ms is own rest = rest

kept_all : (set : TraceSet) (p n : ℕ) (ms : List Made) → AllByRecursion (IsOwnPiece set) ms → AllByRecursion (λ (y : Half × Entry). IsLeft set p n y.1) (kept_at n (flat_map left_by (of_trace p ms)))
kept_all set p n [] e = tt
kept_all set p n (m ∷ ms) e = kept_by set p n (m.piece.id.trace == p) m ms refl e.0 (kept_all set p n ms e.1)

all_serve : (set : TraceSet) (p n b : ℕ) (serve : EntriesServe) → IsWellFormed set → is_bridge_of set.traces p n b ≡ true → (ys : List (Half × Entry)) → AllByRecursion (λ (y : Half × Entry). IsLeft set p n y.1) ys → AllByRecursion (λ (y : Half × Entry). CanEnter set b y.1) ys
all_serve set p n b serve well is [] h = tt
all_serve set p n b serve well is (y ∷ ys) h = (serve set p n b y.1 well is h.0, all_serve set p n b serve well is ys h.1)

left_some : (o : Option (Option Left)) (xs : Left) → left_in o ≡ Some xs → o ≡ Some (Some xs)
left_some None xs e = absurd (none_some e)
left_some (Some o) xs e = ap Some e

left_none : (o : Option (Option Left)) → (o ≡ None → ⊥) → left_in o ≡ None → o ≡ Some None
left_none None h e = absurd (h refl)
left_none (Some o) h e = ap Some e

module _ (set : TraceSet) (o : Optimised) (i : IsOptimised set o) (well : IsWellFormed set) (b : ℕ) (t : Trace) (at : slice_get set.traces b ≡ Some t) (other : IsLoop t.origin → ⊥) where
  way : Bridging set b t
  way = bridging set b t well at other

  inside : (p : ℕ) → p < length set.traces → slice_get o.left p ≡ None → ⊥
  inside p lt e = let s = get_some o.left p (subst (λ n. p < n) (sym i.holds.long) lt) in some_none (sym s.1 ∙ e)

  pub is_already : (xs : Left) → left_of o.left (Some b) ≡ Some xs → Has o.attached b
  is_already xs e = i.holds.has_attached b t (xs, left_some (slice_get o.left b) xs e) at other

  pub is_free : left_of o.left (Some b) ≡ None → slice_get o.left b ≡ Some None
  is_free e = left_none (slice_get o.left b) (inside b (slice_get_within set.traces b t at)) e

  pub not_already : left_of o.left (Some b) ≡ None → Has o.attached b → ⊥
  not_already e w = let h = i.holds.attached_has b w in some_none (sym (ap left_in h.1) ∙ e)

  parent : parent_at set b ≡ Some way.parent
  parent = parent_is set b t at way

  parent_left : left_of o.left (parent_at set b) ≡ left_of o.left (Some way.parent)
  parent_left = ap (left_of o.left) parent

  pub lacks : left_of o.left (parent_at set b) ≡ None → LacksParent set o.attached b
  lacks e =
      let none : left_of o.left (Some way.parent) ≡ None = sym parent_left ∙ e in
      subst (λ q. IsSomeAnd q (λ p. IsBridge set p × (Has o.attached p → ⊥))) (sym parent) (
        subst (λ q. IsSomeAnd q (λ (x : Trace). IsLoop x.origin → ⊥)) (sym way.there)
            (λ loop. let h = (i.holds.loops way.parent way.above (slice_get_within set.traces way.parent way.above way.there) way.there loop).0 in some_none (sym (ap left_in h.1) ∙ none)),
        λ w. let h = i.holds.attached_has way.parent w in some_none (sym (ap left_in h.1) ∙ none),
      )

  pub has_parent : (xs : Left) → left_of o.left (parent_at set b) ≡ Some xs → LacksParent set o.attached b → ⊥
  has_parent xs e l =
      let here : slice_get o.left way.parent ≡ Some (Some xs) = left_some (slice_get o.left way.parent) xs (sym parent_left ∙ e) in
      let both : IsBridge set way.parent × (Has o.attached way.parent → ⊥) = subst (λ q. IsSomeAnd q (λ p. IsBridge set p × (Has o.attached p → ⊥))) parent l in
      both.1 (i.holds.has_attached way.parent way.above (xs, here) way.there (subst (λ q. IsSomeAnd q (λ (x : Trace). IsLoop x.origin → ⊥)) way.there both.0))

  -- what the bridge asks of what its guard leaves
  pub may_enter : EntriesServe → (xs : Left) → left_of o.left (parent_at set b) ≡ Some xs → AllByRecursion (λ (y : Half × Entry). CanEnter set b y.1) (kept_at (guard_of (slice_get set.traces b)) xs)
  may_enter serve xs e =
      let here : slice_get o.left way.parent ≡ Some (Some xs) = left_some (slice_get o.left way.parent) xs (sym parent_left ∙ e) in
      let is : xs ≡ flat_map left_by (of_trace way.parent i.made) = i.holds.left_is way.parent (Some xs) here in
      subst (λ n. AllByRecursion (λ (y : Half × Entry). CanEnter set b y.1) (kept_at n xs)) (sym (guard_is set b t at way))
      (all_serve set way.parent way.guard b serve well (is_from set b t at way) (kept_at way.guard xs)
      (subst (λ ys. AllByRecursion (λ (y : Half × Entry). IsLeft set way.parent way.guard y.1) (kept_at way.guard ys)) (sym is) (kept_all set way.parent way.guard i.made i.holds.each)))

  pub is_attached : ((a c : PieceId) → Decides (same_piece a c) (a ≡ c)) → (xs : Left) → left_of o.left (Some b) ≡ None → left_of o.left (parent_at set b) ≡ Some xs
      → (new : OptTrace) (at_guards : Left) → ArePieces set b (kept_at (guard_of (slice_get set.traces b)) xs) new.pieces at_guards
      → IsOptimised set (record { traces = o.traces ++ new ∷ []; attached = o.attached ++ b ∷ []; left = slice_set o.left b (Some at_guards) })
  is_attached tell xs free e new at_guards a =
      let from = kept_at (guard_of (slice_get set.traces b)) xs in
      let here : slice_get o.left way.parent ≡ Some (Some xs) = left_some (slice_get o.left way.parent) xs (sym parent_left ∙ e) in
      let is : xs ≡ flat_map left_by (of_trace way.parent i.made) = i.holds.left_is way.parent (Some xs) here in
      let guard : guard_of (slice_get set.traces b) ≡ way.guard = guard_is set b t at way in
      let halves : IsOnce (map (λ (x : Half × Entry). x.0) from) =
      subst (λ n. IsOnce (map (λ (x : Half × Entry). x.0) (kept_at n xs))) (sym guard)
      (subst (λ ys. IsOnce (map (λ (x : Half × Entry). x.0) (kept_at way.guard ys))) (sym is) (left_once set way.guard way.parent i.made i.holds.each i.holds.once)) in
      record {
        made = i.made ++ a.made;
        pieces = pieces_more o.traces new i.made a.made i.pieces a.pieces_are;
        traces =
            subst (λ (ks : List ℕ). AllZip (IsTraceAt set) ks (o.traces ++ new ∷ [])) (append_assoc (loops_from 0 set.traces) o.attached (b ∷ []))
            (zip_push (IsTraceAt set) (loops_from 0 set.traces ++ o.attached) o.traces b new i.traces (bridge_at set b from new at_guards a t at other));
        holds =
            bridge_added tell set (length set.traces) o.attached o.left i.made i.holds b (is_free free) from a.made a.each halves at_guards a.guards_are t at way.parent way.guard (is_from set b t at way)
            (λ p n comes.
            let q = only_from set b t at way p n comes in
            (xs, ap (slice_get o.left) q.0 ∙ here, ap (λ k. kept_at k xs) (guard_is set b t at way ∙ sym q.1)));
      }

-- Of a bridge of the set

record Found (set : TraceSet) (b : ℕ) : Type 0 where
  trace : Trace
  there : slice_get set.traces b ≡ Some trace
  other : IsLoop trace.origin → ⊥

found_at : (set : TraceSet) (b : ℕ) (q : Option Trace) → slice_get set.traces b ≡ q → IsSomeAnd q (λ (t : Trace). IsLoop t.origin → ⊥) → Found set b
found_at set b None at h = absurd h
found_at set b (Some t) at h = record { trace = t; there = at; other = h }

module _ (set s : TraceSet) (same : s ≡ set) (o : Optimised) (i : IsOptimised set o) (well : IsWellFormed set) (b : ℕ) (bridge : IsBridge set b) where
  it : Found set b
  it = found_at set b (slice_get set.traces b) refl bridge

  parent_so : (parent : Option ℕ) → parent ≡ parent_at s b → parent ≡ parent_at set b
  parent_so parent is = is ∙ ap (λ (z : TraceSet). parent_at z b) same

  pub already_so : (xs : Left) → Some xs ≡ left_of o.left (Some b) → Has o.attached b
  already_so xs e = is_already set o i well b it.trace it.there it.other xs (sym e)

  pub lacking_so : (parent : Option ℕ) → parent ≡ parent_at s b → None ≡ left_of o.left (Some b) → None ≡ left_of o.left parent → (Has o.attached b → ⊥) × LacksParent set o.attached b
  lacking_so parent is free none = (
    not_already set o i well b it.trace it.there it.other (sym free),
    lacks set o i well b it.trace it.there it.other (ap (left_of o.left) (sym (parent_so parent is)) ∙ sym none),
  )

  pub enters_so : EntriesServe → (parent : Option ℕ) → parent ≡ parent_at s b → (xs : Left) → Some xs ≡ left_of o.left parent → AllByRecursion (λ (y : Half × Entry). CanEnter set b y.1) (kept_at (guard_of (slice_get set.traces b)) xs)
  enters_so serve parent is xs e = may_enter set o i well b it.trace it.there it.other serve xs (ap (left_of o.left) (sym (parent_so parent is)) ∙ sym e)

  pub granted_so : (parent : Option ℕ) → parent ≡ parent_at s b → (xs : Left) → None ≡ left_of o.left (Some b) → Some xs ≡ left_of o.left parent → IsGranted set o.attached b
  granted_so parent is xs free e = (
    not_already set o i well b it.trace it.there it.other (sym free),
    has_parent set o i well b it.trace it.there it.other xs (ap (left_of o.left) (sym (parent_so parent is)) ∙ sym e),
  )

  pub attached_so : ((a c : PieceId) → Decides (same_piece a c) (a ≡ c)) → (parent : Option ℕ) → parent ≡ parent_at s b → (xs : Left) → None ≡ left_of o.left (Some b) → Some xs ≡ left_of o.left parent
      → (new : OptTrace) (at_guards : Left) → ArePieces set b (kept_at (guard_of (slice_get set.traces b)) xs) new.pieces at_guards → IsOptimised set (with_bridge o b new at_guards)
  attached_so tell parent is xs free e new at_guards a =
      is_attached set o i well b it.trace it.there it.other tell xs (sym free) (ap (left_of o.left) (sym (parent_so parent is)) ∙ sym e) new at_guards a

  pub one_more_so : None ≡ left_of o.left (Some b) → (new : OptTrace) (at_guards : Left) → IsOneMore o (with_bridge o b new at_guards)
  one_more_so free new at_guards = record { bridge = b; pieces = new; left = at_guards; free = is_free set o i well b it.trace it.there it.other (sym free); is = refl }

  pub room_so : b < length o.left
  room_so = subst (λ n. b < n) (sym i.holds.long) (slice_get_within set.traces b it.trace it.there)
