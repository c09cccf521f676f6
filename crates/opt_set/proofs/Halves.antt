-- Pieces of a trace have different halves, and those of a bridge are made of what its guard leaves.
use Rattle.std.proofs.Common.{◌≡◌, ◌⊎◌, inl, inr, ℕ, Bool, true, false, if◌then◌else◌, ◌==◌, List, [], ◌∷◌, ◌++◌, Option, Some, map, slice_get, refl, sym, ap, ◌∙◌, subst}
use Rattle.std.specs.List.{AllByRecursion, AllZip, Contains, flat_map}
use Rattle.std.proofs.lemmas.Bool.Decides.{Decides-eqb}
use Rattle.std.proofs.lemmas.Option.{slice_get_within, get_or_from_slice_get}
use Rattle.lists.specs.Has.{Has, IsOnce}
use Rattle.lists.proofs.Membership.{has_left, has_cases, has_at, has_map, each_has}
use Rattle.lists.proofs.Eaches.{each_at}
use Rattle.trace_ops.specs.declared.trace.BoxId.{BoxId}
use Rattle.trace_ops.specs.declared.trace.TraceSet.{TraceSet}
use Rattle.trace_ops.specs.declared.piece.Half.{Half}
use Rattle.trace_ops.specs.declared.piece.PieceId.{PieceId}
use Rattle.trace_ops.specs.declared.piece.Snapshot.{Snapshot}
use Rattle.trace_ops.specs.declared.piece.OptOp.{OptOp}
use Rattle.trace_ops.specs.declared.piece.OptOp.TheVariants as opt
use Rattle.trace_ops.specs.declared.piece.Entry.{Entry}
use Rattle.trace_ops.specs.Pieces.{guards_of}
use Rattle.trace_ops.specs.Sound.{AreApart}
use Rattle.trace_meaning.specs.Cuts.{is_bridge_of}
use Rattle.trace_meaning.specs.Recorded.{inputs_of}
use Rattle.opt_meaning.specs.Meeting.{Made}
use Rattle.opt_pass.specs.Contract.{kept_of, IsEntryAt}
use Rattle.loop_peel.specs.Peeling.{HavePreambles, IsPieceOf, in_half, left_by, kept_if, kept_at}
use Rattle.opt_set.specs.Optimised.{of_trace, name_of, IsOwnPiece, IsBehind}

false_true : false ≡ true → ⊥
false_true e = cc

cons_none : {X : Type 0} {x : X} {xs : List X} → x ∷ xs ≡ [] → ⊥
cons_none e = cc

append_assoc : {X : Type 0} (xs ys zs : List X) → (xs ++ ys) ++ zs ≡ xs ++ (ys ++ zs)
append_assoc [] ys zs = refl
append_assoc (x ∷ xs) ys zs = ap (λ l. x ∷ l) (append_assoc xs ys zs)

flat_both : {X Y : Type 0} (f : X → List Y) (xs ys : List X) → flat_map f (xs ++ ys) ≡ flat_map f xs ++ flat_map f ys
flat_both f [] ys = refl
flat_both f (x ∷ xs) ys = ap (λ l. f x ++ l) (flat_both f xs ys) ∙ sym (append_assoc (f x) (flat_map f xs) (flat_map f ys))

-- Lists in which nothing stands twice

pub has_from : {X Y : Type 0} (f : X → Y) (xs : List X) (y : Y) → Has (map f xs) y → (x : X) × Has xs x × (f x ≡ y)
has_from f [] y h = absurd h
has_from f (x ∷ xs) y (inl e) = (x, inl refl, e)
has_from f (x ∷ xs) y (inr h) = let r = has_from f xs y h in (r.0, inr r.1, r.2)

once_both : {X : Type 0} (xs ys : List X) → IsOnce xs → IsOnce ys → ((x : X) → Has xs x → Has ys x → ⊥) → IsOnce (xs ++ ys)
once_both [] ys a b apart = b
once_both (x ∷ xs) ys a b apart = (λ h. by (has_cases xs ys x h), once_both xs ys a.1 b (λ z k w. apart z (inr k) w))
  where
    by : Has xs x ⊎ Has ys x → ⊥
    by (inl k) = a.0 k
    by (inr k) = apart x (inl refl) k

zip_has : {X Y : Type 0} (P : X → Y → Type 0) (xs : List X) (ys : List Y) → AllZip P xs ys → (y : Y) → Has ys y → (x : X) × Has xs x × P x y
zip_has P [] [] z y h = absurd h
zip_has P [] (v ∷ ys) z y h = absurd z
zip_has P (x ∷ xs) [] z y h = absurd z
zip_has P (x ∷ xs) (v ∷ ys) z y (inl e) = (x, inl refl, subst (P x) e z.0)
zip_has P (x ∷ xs) (v ∷ ys) z y (inr h) = let r = zip_has P xs ys z.1 y h in (r.0, inr r.1, r.2)

-- Those of one trace

has_by : (t : Bool) (p : ℕ) (x : Made) (of rest : List Made) (q : Made) → (x.piece.id.trace == p) ≡ t → (Has of q → Has rest q × (q.piece.id.trace ≡ p)) → Has (if t then x ∷ of else of) q → Has (x ∷ rest) q × (q.piece.id.trace ≡ p)
has_by true p x of rest q is f (inl e) = (inl e, subst (λ (y : Made). y.piece.id.trace ≡ p) e ((Decides-eqb x.piece.id.trace p).0 is))
has_by true p x of rest q is f (inr h) = let r = f h in (inr r.0, r.1)
has_by false p x of rest q is f h = let r = f h in (inr r.0, r.1)

has_trace : (p : ℕ) (ms : List Made) (q : Made) → Has (of_trace p ms) q → Has ms q × (q.piece.id.trace ≡ p)
has_trace p [] q h = absurd h
has_trace p (x ∷ ms) q h = has_by (x.piece.id.trace == p) p x (of_trace p ms) ms q refl (has_trace p ms q) h

none_by : (t : Bool) (p : ℕ) (x : Made) (of : List Made) → (x.piece.id.trace == p) ≡ t → x.piece.id.trace ≡ p → (if t then x ∷ of else of) ≡ [] → ⊥
none_by true p x of is e h = cons_none h
none_by false p x of is e h = false_true (sym is ∙ (Decides-eqb x.piece.id.trace p).1 e)

rest_by : (t : Bool) (x : Made) (of : List Made) → (if t then x ∷ of else of) ≡ [] → of ≡ []
rest_by true x of h = absurd (cons_none h)
rest_by false x of h = h

none_of : (p : ℕ) (ms : List Made) (q : Made) → of_trace p ms ≡ [] → Has ms q → q.piece.id.trace ≡ p → ⊥
none_of p [] q none h e = h
none_of p (x ∷ ms) q none (inl is) e = none_by (x.piece.id.trace == p) p x (of_trace p ms) refl (ap (λ (y : Made). y.piece.id.trace) is ∙ e) none
none_of p (x ∷ ms) q none (inr h) e = none_of p ms q (rest_by (x.piece.id.trace == p) x (of_trace p ms) none) h e

once_by : (t : Bool) (x : Made) (of : List Made) → IsOnce (map name_of of) → (Has (map name_of of) (name_of x) → ⊥) → IsOnce (map name_of (if t then x ∷ of else of))
once_by true x of once apart = (apart, once)
once_by false x of once apart = once

once_of : (p : ℕ) (ms : List Made) → IsOnce (map name_of ms) → IsOnce (map name_of (of_trace p ms))
once_of p [] once = tt
once_of p (x ∷ ms) once =
    once_by (x.piece.id.trace == p) x (of_trace p ms) (once_of p ms once.1)
    (λ h. let r = has_from name_of (of_trace p ms) (name_of x) h in once.0 (subst (Has (map name_of ms)) r.2 (has_map name_of ms r.0 (has_trace p ms r.0 r.1).0)))

-- The guards of a piece have different numbers

contained : {X : Type 0} (xs : List X) (x : X) → Has xs x → Contains xs x
contained xs x h = let s = has_at xs x h in (s.0, slice_get_within xs s.0 x s.1, get_or_from_slice_get xs s.0 x x s.1)

apart_once : {X : Type 0} (xs : List X) → AreApart xs → IsOnce xs
apart_once [] h = tt
apart_once (x ∷ xs) h = (λ k. h.0 (contained xs x k), apart_once xs h.1)

numbers_kept : (ops : List OptOp) → flat_map guards_of ops ≡ map (λ (x : ℕ × Snapshot). x.0) (flat_map kept_of ops)
numbers_kept [] = refl
numbers_kept (opt.Plain c r a d ∷ ops) = numbers_kept ops
numbers_kept (opt.Guard c a n s ∷ ops) = ap (λ l. n ∷ l) (numbers_kept ops)
numbers_kept (opt.Exit n s ∷ ops) = ap (λ l. n ∷ l) (numbers_kept ops)
numbers_kept (opt.Jump q a ∷ ops) = numbers_kept ops
numbers_kept (opt.Finish v ∷ ops) = numbers_kept ops

numbers_left : (xs : List (ℕ × Snapshot)) (ys : List (ℕ × Entry)) → AllZip IsEntryAt xs ys → map (λ (x : ℕ × Snapshot). x.0) xs ≡ map (λ (y : ℕ × Entry). y.0) ys
numbers_left [] [] z = refl
numbers_left [] (y ∷ ys) z = absurd z
numbers_left (x ∷ xs) [] z = absurd z
numbers_left (x ∷ xs) (y ∷ ys) z = ap (λ n. n ∷ map (λ (v : ℕ × Snapshot). v.0) xs) z.0.0 ∙ ap (λ l. y.0 ∷ l) (numbers_left xs ys z.1)

-- labels that repeat inputs
abbrev inputs_labels : TraceSet → PieceId → Option (List BoxId)
inputs_labels set q = Some (inputs_of (slice_get set.traces q.trace))

inputs_have : (set : TraceSet) → HavePreambles set (inputs_labels set)
inputs_have set p t at loop pre = ap (λ o. map (λ (b : BoxId). Some b.kind) (inputs_of o)) at

abbrev HasGuardsOnce : Made → Type 0
HasGuardsOnce m = IsOnce (map (λ (x : ℕ × Entry). x.0) m.guards)

guards_once : (set : TraceSet) (m : Made) → IsOwnPiece set m → HasGuardsOnce m
guards_once set m own =
    subst IsOnce (numbers_kept m.piece.ops ∙ numbers_left (flat_map kept_of m.piece.ops) m.guards own.guards)
    (apart_once (flat_map guards_of m.piece.ops) (own.sound (inputs_labels set) (inputs_have set)).formed.guards_distinct)

-- What one piece leaves at a guard

abbrev left_at : ℕ → Entry → ℕ × Entry
left_at n e = (n, e)

pair_is : (a b : ℕ) (e f : Entry) → a ≡ b → e ≡ f → left_at a e ≡ left_at b f
pair_is a b e f p q = ap (λ k. left_at k e) p ∙ ap (left_at b) q

kept_by : (t : Bool) (n : ℕ) (h : Half) (g : ℕ × Entry) (guards : List (ℕ × Entry)) (rest : List (Half × Entry)) (x : Half × Entry) → (g.0 == n) ≡ t → (Has rest x → (h ≡ x.0) × Has guards (n, x.1)) → Has ((if t then (h, g.1) ∷ [] else []) ++ rest) x → (h ≡ x.0) × Has (g ∷ guards) (n, x.1)
kept_by true n h g guards rest x is f (inl e) = (ap (λ (y : Half × Entry). y.0) e, inl (pair_is g.0 n g.1 x.1 ((Decides-eqb g.0 n).0 is) (ap (λ (y : Half × Entry). y.1) e)))
kept_by true n h g guards rest x is f (inr k) = let r = f k in (r.0, inr r.1)
kept_by false n h g guards rest x is f k = let r = f k in (r.0, inr r.1)

kept_one : (n : ℕ) (h : Half) (guards : List (ℕ × Entry)) (x : Half × Entry) → Has (kept_at n (in_half h guards)) x → (h ≡ x.0) × Has guards (n, x.1)
kept_one n h [] x k = absurd k
kept_one n h (g ∷ guards) x k = kept_by (g.0 == n) n h g guards (kept_at n (in_half h guards)) x refl (kept_one n h guards x) k

abbrev IsLeftIn : ℕ → List Made → (Half × Entry) → Type 0
IsLeftIn n qs x = (q : Made) × Has qs q × (q.piece.id.half ≡ x.0) × Has q.guards (n, x.1)

kept_either : (n : ℕ) (q : Made) (qs : List Made) (x : Half × Entry) → (Has (kept_at n (flat_map left_by qs)) x → IsLeftIn n qs x) → Has (kept_at n (left_by q)) x ⊎ Has (kept_at n (flat_map left_by qs)) x → IsLeftIn n (q ∷ qs) x
kept_either n q qs x f (inl k) = let r = kept_one n q.piece.id.half q.guards x k in (q, inl refl, r.0, r.1)
kept_either n q qs x f (inr k) = let r = f k in (r.0, inr r.1, r.2, r.3)

kept_from : (n : ℕ) (qs : List Made) (x : Half × Entry) → Has (kept_at n (flat_map left_by qs)) x → IsLeftIn n qs x
kept_from n [] x h = absurd h
kept_from n (q ∷ qs) x h =
    kept_either n q qs x (kept_from n qs x) (has_cases (kept_at n (left_by q)) (kept_at n (flat_map left_by qs)) x (subst (λ l. Has l x) (flat_both (kept_if n) (left_by q) (flat_map left_by qs)) h))

no_by : (t : Bool) (n : ℕ) (h : Half) (g : ℕ × Entry) (rest : List (Half × Entry)) → (g.0 == n) ≡ t → (g.0 ≡ n → ⊥) → rest ≡ [] → (if t then (h, g.1) ∷ [] else []) ++ rest ≡ []
no_by true n h g rest is ne e = absurd (ne ((Decides-eqb g.0 n).0 is))
no_by false n h g rest is ne e = e

not_kept : (n : ℕ) (h : Half) (guards : List (ℕ × Entry)) → (Has (map (λ (x : ℕ × Entry). x.0) guards) n → ⊥) → kept_at n (in_half h guards) ≡ []
not_kept n h [] none = refl
not_kept n h (g ∷ guards) none = no_by (g.0 == n) n h g (kept_at n (in_half h guards)) refl (λ e. none (inl e)) (not_kept n h guards (λ k. none (inr k)))

abbrev IsFewAt : Half → List (Half × Entry) → Type 0
IsFewAt h xs = (xs ≡ []) ⊎ ((e : Entry) × (xs ≡ (h, e) ∷ []))

few_by : (t : Bool) (n : ℕ) (h : Half) (g : ℕ × Entry) (rest : List (Half × Entry)) → (g.0 == n) ≡ t → (g.0 ≡ n → rest ≡ []) → IsFewAt h rest → IsFewAt h ((if t then (h, g.1) ∷ [] else []) ++ rest)
few_by true n h g rest is none few = inr (g.1, ap (λ l. (h, g.1) ∷ l) (none ((Decides-eqb g.0 n).0 is)))
few_by false n h g rest is none few = few

few_kept : (n : ℕ) (h : Half) (guards : List (ℕ × Entry)) → IsOnce (map (λ (x : ℕ × Entry). x.0) guards) → IsFewAt h (kept_at n (in_half h guards))
few_kept n h [] once = inl refl
few_kept n h (g ∷ guards) once =
    few_by (g.0 == n) n h g (kept_at n (in_half h guards)) refl
    (λ e. not_kept n h guards (λ k. once.0 (subst (Has (map (λ (x : ℕ × Entry). x.0) guards)) (sym e) k)))
    (few_kept n h guards once.1)

-- What the pieces of one trace leave there is of different halves

name_is : (a b : PieceId) → a.trace ≡ b.trace → a.half ≡ b.half → a ≡ b
name_is a b p q = ap (λ t. record { trace = t; half = a.half }) p ∙ ap (λ h. record { trace = b.trace; half = h }) q

of_each : (p : ℕ) (ms : List Made) (m : Made) → AllByRecursion (λ (y : Made). y.piece.id.trace ≡ p) ms → Has ms m → m.piece.id.trace ≡ p
of_each p ms m all k = let at = has_at ms m k in each_at (λ (y : Made). y.piece.id.trace ≡ p) ms at.0 m all at.1

other_half : (n p : ℕ) (q : Made) (qs : List Made) → q.piece.id.trace ≡ p → AllByRecursion (λ (y : Made). y.piece.id.trace ≡ p) qs → (Has (map name_of qs) (name_of q) → ⊥) → Has (map (λ (x : Half × Entry). x.0) (kept_at n (flat_map left_by qs))) q.piece.id.half → ⊥
other_half n p q qs trace traces apart h =
    let x = has_from (λ (y : Half × Entry). y.0) (kept_at n (flat_map left_by qs)) q.piece.id.half h in
    let r = kept_from n qs x.0 x.1 in
    apart (subst (Has (map name_of qs)) (name_is r.0.piece.id q.piece.id (of_each p qs r.0 traces r.1 ∙ sym trace) (r.2 ∙ x.2)) (has_map name_of qs r.0 r.1))

front_once : (h : Half) (front back : List (Half × Entry)) → IsFewAt h front → (Has (map (λ (x : Half × Entry). x.0) back) h → ⊥) → IsOnce (map (λ (x : Half × Entry). x.0) back) → IsOnce (map (λ (x : Half × Entry). x.0) (front ++ back))
front_once h front back (inl e) apart once = subst (λ (l : List (Half × Entry)). IsOnce (map (λ (x : Half × Entry). x.0) (l ++ back))) (sym e) once
front_once h front back (inr e) apart once = subst (λ (l : List (Half × Entry)). IsOnce (map (λ (x : Half × Entry). x.0) (l ++ back))) (sym e.1) (apart, once)

halves_once : (n p : ℕ) (qs : List Made) → AllByRecursion (λ (q : Made). q.piece.id.trace ≡ p) qs → IsOnce (map name_of qs) → AllByRecursion HasGuardsOnce qs → IsOnce (map (λ (x : Half × Entry). x.0) (kept_at n (flat_map left_by qs)))
halves_once n p [] traces once guards = tt
halves_once n p (q ∷ qs) traces once guards =
    subst (λ (l : List (Half × Entry)). IsOnce (map (λ (x : Half × Entry). x.0) l)) (sym (flat_both (kept_if n) (left_by q) (flat_map left_by qs)))
    (front_once q.piece.id.half (kept_at n (left_by q)) (kept_at n (flat_map left_by qs)) (few_kept n q.piece.id.half q.guards guards.0)
    (other_half n p q qs traces.0 traces.1 once.0) (halves_once n p qs traces.1 once.1 guards.1))

pub left_once : (set : TraceSet) (n p : ℕ) (ms : List Made) → AllByRecursion (IsOwnPiece set) ms → IsOnce (map name_of ms) → IsOnce (map (λ (x : Half × Entry). x.0) (kept_at n (flat_map left_by (of_trace p ms))))
left_once set n p ms own once =
    halves_once n p (of_trace p ms) (each_has (λ (q : Made). q.piece.id.trace ≡ p) (of_trace p ms) (λ q h. (has_trace p ms q h).1)) (once_of p ms once)
    (each_has HasGuardsOnce (of_trace p ms) (λ q h. let at = has_at ms q (has_trace p ms q h).0 in guards_once set q (each_at (IsOwnPiece set) ms at.0 q own at.1)))

-- Pieces of one trace more

new_once : (set : TraceSet) (b : ℕ) (from : List (Half × Entry)) (ns : List Made) → AllZip (λ x m. IsPieceOf set b x.0 x.1 m) from ns → IsOnce (map (λ (x : Half × Entry). x.0) from) → IsOnce (map name_of ns)
new_once set b [] [] z once = tt
new_once set b [] (m ∷ ns) z once = absurd z
new_once set b (x ∷ from) [] z once = absurd z
new_once set b (x ∷ from) (m ∷ ns) z once = (
  λ h.
      let k = has_from name_of ns (name_of m) h in
      let y = zip_has (λ y m. IsPieceOf set b y.0 y.1 m) from ns z.1 k.0 k.1 in
      let same : y.0.0 ≡ x.0 = ap (λ (q : PieceId). q.half) (sym y.2.name ∙ k.2 ∙ z.0.name) in
      once.0 (subst (Has (map (λ (v : Half × Entry). v.0) from)) same (has_map (λ (v : Half × Entry). v.0) from y.0 y.1)),
  new_once set b from ns z.1 once.1,
)

map_both : {X Y : Type 0} (f : X → Y) (xs ys : List X) → map f (xs ++ ys) ≡ map f xs ++ map f ys
map_both f [] ys = refl
map_both f (x ∷ xs) ys = ap (λ l. f x ∷ l) (map_both f xs ys)

pub once_added : (set : TraceSet) (b : ℕ) (from : List (Half × Entry)) (ms ns : List Made) → AllZip (λ x m. IsPieceOf set b x.0 x.1 m) from ns → IsOnce (map (λ (x : Half × Entry). x.0) from) → of_trace b ms ≡ [] → IsOnce (map name_of ms) → IsOnce (map name_of (ms ++ ns))
once_added set b from ms ns z halves none once =
    subst IsOnce (sym (map_both name_of ms ns)) (once_both (map name_of ms) (map name_of ns) once (new_once set b from ns z halves) apart)
  where
    apart : (q : PieceId) → Has (map name_of ms) q → Has (map name_of ns) q → ⊥
    apart q h k =
        let m = has_from name_of ms q h in
        let n = has_from name_of ns q k in
        let y = zip_has (λ y m. IsPieceOf set b y.0 y.1 m) from ns z n.0 n.1 in
        none_of b ms m.0 none m.1 (ap (λ (r : PieceId). r.trace) (m.2 ∙ sym n.2 ∙ y.2.name))

-- What a bridge's pieces begin with

pub behind_more : (set : TraceSet) (ms ns : List Made) (m : Made) → IsBehind set ms m → IsBehind set (ms ++ ns) m
behind_more set ms ns m h = record { parent = h.parent; guard = h.guard; there = has_left ms ns h.parent h.there; half = h.half; from = h.from; entry = h.entry }

pub behind_new : (set : TraceSet) (b p n : ℕ) (from : List (Half × Entry)) (ms ns : List Made) → AllZip (λ x m. IsPieceOf set b x.0 x.1 m) from ns → is_bridge_of set.traces p n b ≡ true
    → from ≡ kept_at n (flat_map left_by (of_trace p ms)) → (m : Made) → Has ns m → IsBehind set (ms ++ ns) m
behind_new set b p n from ms ns z comes is m h =
    let x = zip_has (λ y k. IsPieceOf set b y.0 y.1 k) from ns z m h in
    let r = kept_from n (of_trace p ms) x.0 (subst (λ l. Has l x.0) is x.1) in
    let t = has_trace p ms r.0 r.1 in
    let own : m.piece.id.trace ≡ b = ap (λ (q : PieceId). q.trace) x.2.name in
    record {
      parent = r.0;
      guard = n;
      there = has_left ms ns r.0 t.0;
      half = r.2 ∙ sym (ap (λ (q : PieceId). q.half) x.2.name);
      from = ap (λ k. is_bridge_of set.traces k n m.piece.id.trace) t.1 ∙ ap (is_bridge_of set.traces p n) own ∙ comes;
      entry = subst (λ (e : Entry). Has r.0.guards (n, e)) (sym x.2.entry) r.3;
    }
