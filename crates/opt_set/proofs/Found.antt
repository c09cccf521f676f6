-- Pieces by their names, of lists one behind the other.
use Rattle.std.proofs.Common.{◌≡◌, ◌⊎◌, inl, inr, ℕ, Bool, true, false, if◌then◌else◌, ◌==◌, List, [], ◌∷◌, ◌++◌, Option, Some, None, map, refl, sym, ap, ◌∙◌}
use Rattle.std.specs.Bool.{Decides}
use Rattle.std.specs.List.{AllZip, flat_map}
use Rattle.std.proofs.lemmas.Bool.Decides.{Decides-eqb}
use Rattle.lists.specs.Has.{Has}
use Rattle.lists.proofs.Options.{some_same, none_some}
use Rattle.trace_ops.specs.declared.trace.TraceSet.{TraceSet}
use Rattle.trace_ops.specs.declared.piece.Half.{Half}
use Rattle.trace_ops.specs.declared.piece.PieceId.{PieceId}
use Rattle.trace_ops.specs.declared.piece.Entry.{Entry}
use Rattle.opt_meaning.specs.Admits.{entry_for}
use Rattle.opt_meaning.specs.Meeting.{Made, made_at, IsEntered}
use Rattle.opt_meaning.specs.Pieces.{same_piece}
use Rattle.loop_peel.specs.Peeling.{IsPieceOf, left_by, kept_if, kept_at}
use Rattle.opt_set.specs.Optimised.{of_trace}

false_true : false ≡ true → ⊥
false_true e = cc

some_none : {X : Type 0} {x : X} → Some x ≡ None → ⊥
some_none e = cc

cons_none : {X : Type 0} {x : X} {xs : List X} → x ∷ xs ≡ [] → ⊥
cons_none e = cc

-- One list behind the other

later_same : (b : Bool) (x m : Made) (o later : Option Made) → (o ≡ Some m → later ≡ Some m) → (if b then Some x else o) ≡ Some m → (if b then Some x else later) ≡ Some m
later_same true x m o later f e = e
later_same false x m o later f e = f e

pub found_left : (ms ns : List Made) (q : PieceId) (m : Made) → made_at ms q ≡ Some m → made_at (ms ++ ns) q ≡ Some m
found_left [] ns q m e = absurd (none_some e)
found_left (x ∷ ms) ns q m e = later_same (same_piece q x.piece.id) x m (made_at ms q) (made_at (ms ++ ns) q) (found_left ms ns q m) e

later_only : (b : Bool) (x : Made) (o later z : Option Made) → (o ≡ None → later ≡ z) → (if b then Some x else o) ≡ None → (if b then Some x else later) ≡ z
later_only true x o later z f e = absurd (some_none e)
later_only false x o later z f e = f e

pub found_right : (ms ns : List Made) (q : PieceId) → made_at ms q ≡ None → made_at (ms ++ ns) q ≡ made_at ns q
found_right [] ns q e = refl
found_right (x ∷ ms) ns q e = later_only (same_piece q x.piece.id) x (made_at ms q) (made_at (ms ++ ns) q) (made_at ns q) (found_right ms ns q) e

found_by : (ms ns : List Made) (q : PieceId) (m : Made) (o : Option Made) → made_at ms q ≡ o → made_at (ms ++ ns) q ≡ Some m → (made_at ms q ≡ Some m) ⊎ ((made_at ms q ≡ None) × (made_at ns q ≡ Some m))
found_by ms ns q m None is e = inr (is, sym (found_right ms ns q is) ∙ e)
found_by ms ns q m (Some x) is e = inl (is ∙ sym (found_left ms ns q x is) ∙ e)

pub found_cases : (ms ns : List Made) (q : PieceId) (m : Made) → made_at (ms ++ ns) q ≡ Some m → (made_at ms q ≡ Some m) ⊎ ((made_at ms q ≡ None) × (made_at ns q ≡ Some m))
found_cases ms ns q m e = found_by ms ns q m (made_at ms q) refl e

pub entered_left : (ms ns : List Made) (q : PieceId) (e : Entry) → IsEntered ms q e → IsEntered (ms ++ ns) q e
entered_left ms ns q e h = (h.0, found_left ms ns q h.0 h.1, h.2)

pub entered_right : (ms ns : List Made) (q : PieceId) (e : Entry) → made_at ms q ≡ None → IsEntered ns q e → IsEntered (ms ++ ns) q e
entered_right ms ns q e none h = (h.0, found_right ms ns q none ∙ h.1, h.2)

-- A piece by its trace and half

abbrev pub named : ℕ → Half → PieceId
named p h = record { trace = p; half = h }

-- the first entry of this half
abbrev pub first_from : ℕ → Half → List (Half × Entry) → Option Entry
first_from b h [] = None
first_from b h (x ∷ xs) = if same_piece (named b h) (named b x.0) then Some x.1 else first_from b h xs

-- What is found

module _ (tell : (a b : PieceId) → Decides (same_piece a b) (a ≡ b)) where
  here_by : (b : Bool) (x m : Made) (q : PieceId) (o : Option Made) (ms : List Made) → same_piece q x.piece.id ≡ b → (o ≡ Some m → Has ms m × (m.piece.id ≡ q)) → (if b then Some x else o) ≡ Some m → Has (x ∷ ms) m × (m.piece.id ≡ q)
  here_by true x m q o ms is f e = let same : x ≡ m = some_same e in (inl same, ap (λ (y : Made). y.piece.id) (sym same) ∙ sym ((tell q x.piece.id).0 is))
  here_by false x m q o ms is f e = let rest = f e in (inr rest.0, rest.1)

  pub found_here : (ms : List Made) (q : PieceId) (m : Made) → made_at ms q ≡ Some m → Has ms m × (m.piece.id ≡ q)
  found_here [] q m e = absurd (none_some e)
  found_here (x ∷ ms) q m e = here_by (same_piece q x.piece.id) x m q (made_at ms q) ms refl (found_here ms q m) e

  -- of a trace without pieces there is none
  not_by : (b : Bool) (t : Bool) (x : Made) (q : PieceId) (o : Option Made) (rest : List Made) → same_piece q x.piece.id ≡ b → (x.piece.id.trace == q.trace) ≡ t → (rest ≡ [] → o ≡ None) → (if t then x ∷ rest else rest) ≡ [] → (if b then Some x else o) ≡ None
  not_by b true x q o rest is there f e = absurd (cons_none e)
  not_by true false x q o rest is there f e =
      absurd (false_true (sym there ∙ (Decides-eqb x.piece.id.trace q.trace).1 (ap (λ (z : PieceId). z.trace) (sym ((tell q x.piece.id).0 is)))))
  not_by false false x q o rest is there f e = f e

  pub not_found : (ms : List Made) (q : PieceId) → of_trace q.trace ms ≡ [] → made_at ms q ≡ None
  not_found [] q e = refl
  not_found (x ∷ ms) q e = not_by (same_piece q x.piece.id) (x.piece.id.trace == q.trace) x q (made_at ms q) (of_trace q.trace ms) refl refl (not_found ms q) e

  -- What a guard leaves, and the bridge that is made from it

  made_by : (b : Bool) (m : Made) (x e : Entry) (o : Option Entry) (p : Option Made) → m.entry ≡ x → (o ≡ Some e → (k : Made) × (p ≡ Some k) × (k.entry ≡ e)) → (if b then Some x else o) ≡ Some e → (k : Made) × ((if b then Some m else p) ≡ Some k) × (k.entry ≡ e)
  made_by true m x e o p is f h = (m, refl, is ∙ some_same h)
  made_by false m x e o p is f h = f h

  -- a piece is made from it
  pub made_first : (set : TraceSet) (b : ℕ) (h : Half) (e : Entry) (from : List (Half × Entry)) (ns : List Made) → AllZip (λ x m. IsPieceOf set b x.0 x.1 m) from ns → first_from b h from ≡ Some e → IsEntered ns (named b h) e
  made_first set b h e [] ns z is = absurd (none_some is)
  made_first set b h e (x ∷ from) [] z is = absurd z
  made_first set b h e (x ∷ from) (m ∷ ns) z is =
      let k = made_by (same_piece (named b h) (named b x.0)) m x.1 e (first_from b h from) (made_at ns (named b h)) z.0.entry (made_first set b h e from ns z.1) is in
      (k.0, ap (λ (q : PieceId). if same_piece (named b h) q then Some m else made_at ns (named b h)) z.0.name ∙ k.1, k.2)

  itself : (b : ℕ) (h : Half) → same_piece (named b h) (named b h) ≡ true
  itself b h = (tell (named b h) (named b h)).1 refl

  -- of a piece of this half, what its guard leaves comes first
  in_by : (b n : ℕ) (h : Half) (t : Bool) (x e : Entry) (o : Option Entry) (xs : List (Half × Entry)) → (o ≡ Some e → first_from b h xs ≡ Some e) → (if t then Some x else o) ≡ Some e → first_from b h ((if t then (h, x) ∷ [] else []) ++ xs) ≡ Some e
  in_by b n h true x e o xs f is = ap (λ (t : Bool). if t then Some x else first_from b h xs) (itself b h) ∙ is
  in_by b n h false x e o xs f is = f is

  append_assoc : {X : Type 0} (xs ys zs : List X) → (xs ++ ys) ++ zs ≡ xs ++ (ys ++ zs)
  append_assoc [] ys zs = refl
  append_assoc (x ∷ xs) ys zs = ap (λ l. x ∷ l) (append_assoc xs ys zs)

  in_guards : (b n : ℕ) (h : Half) (e : Entry) (guards : List (ℕ × Entry)) (zs : List (Half × Entry)) → entry_for guards n ≡ Some e
      → first_from b h (flat_map (kept_if n) (map (λ (x : ℕ × Entry). (h, x.0, x.1)) guards) ++ zs) ≡ Some e
  in_guards b n h e [] zs is = absurd (none_some is)
  in_guards b n h e (x ∷ guards) zs is =
      ap (first_from b h) (append_assoc (kept_if n (h, x.0, x.1)) (flat_map (kept_if n) (map (λ (y : ℕ × Entry). (h, y.0, y.1)) guards)) zs)
      ∙ in_by b n h (x.0 == n) x.1 e (entry_for guards n) (flat_map (kept_if n) (map (λ (y : ℕ × Entry). (h, y.0, y.1)) guards) ++ zs) (in_guards b n h e guards zs) is

  -- of a piece of another half, nothing of this half is left
  past_by : (b n : ℕ) (h other : Half) (t : Bool) (x : Entry) (xs : List (Half × Entry)) → same_piece (named b h) (named b other) ≡ false → first_from b h ((if t then (other, x) ∷ [] else []) ++ xs) ≡ first_from b h xs
  past_by b n h other true x xs is = ap (λ (t : Bool). if t then Some x else first_from b h xs) is
  past_by b n h other false x xs is = refl

  past_guards : (b n : ℕ) (h other : Half) (guards : List (ℕ × Entry)) (zs : List (Half × Entry)) → same_piece (named b h) (named b other) ≡ false
      → first_from b h (flat_map (kept_if n) (map (λ (x : ℕ × Entry). (other, x.0, x.1)) guards) ++ zs) ≡ first_from b h zs
  past_guards b n h other [] zs is = refl
  past_guards b n h other (x ∷ guards) zs is =
      ap (first_from b h) (append_assoc (kept_if n (other, x.0, x.1)) (flat_map (kept_if n) (map (λ (y : ℕ × Entry). (other, y.0, y.1)) guards)) zs)
      ∙ past_by b n h other (x.0 == n) x.1 (flat_map (kept_if n) (map (λ (y : ℕ × Entry). (other, y.0, y.1)) guards) ++ zs) is
      ∙ past_guards b n h other guards zs is

  flat_both : {X Y : Type 0} (f : X → List Y) (xs ys : List X) → flat_map f (xs ++ ys) ≡ flat_map f xs ++ flat_map f ys
  flat_both f [] ys = refl
  flat_both f (x ∷ xs) ys = ap (λ l. f x ++ l) (flat_both f xs ys) ∙ sym (append_assoc (f x) (flat_map f xs) (flat_map f ys))

  apart : (p : ℕ) (h : Half) (x : Made) (b : ℕ) → x.piece.id.trace ≡ p → same_piece (named p h) x.piece.id ≡ false → same_piece (named b h) (named b x.piece.id.half) ≡ false
  apart p h x b there is = by (same_piece (named b h) (named b x.piece.id.half)) refl
    where
      by : (t : Bool) → same_piece (named b h) (named b x.piece.id.half) ≡ t → same_piece (named b h) (named b x.piece.id.half) ≡ false
      by false e = e
      by true e =
          let same : h ≡ x.piece.id.half = ap (λ (q : PieceId). q.half) ((tell (named b h) (named b x.piece.id.half)).0 e) in
          let whole : named p h ≡ x.piece.id = ap (λ k. named p k) same ∙ ap (λ k. named k x.piece.id.half) (sym there) in
          absurd (false_true (sym is ∙ (tell (named p h) x.piece.id).1 whole))

  -- the piece that is found is the first of its name, so what its guard leaves is the first of its half
  first_by : (p n b : ℕ) (h : Half) (x m : Made) (e : Entry) (t s : Bool) (ms : List Made) → (x.piece.id.trace == p) ≡ t → same_piece (named p h) x.piece.id ≡ s
      → (made_at ms (named p h) ≡ Some m → first_from b h (kept_at n (flat_map left_by (of_trace p ms))) ≡ Some e)
      → entry_for m.guards n ≡ Some e → (if s then Some x else made_at ms (named p h)) ≡ Some m
      → first_from b h (kept_at n (flat_map left_by (if t then x ∷ of_trace p ms else of_trace p ms))) ≡ Some e
  first_by p n b h x m e true true ms there is f found e_is =
      let same : x ≡ m = some_same e_is in
      let half : x.piece.id.half ≡ h = ap (λ (q : PieceId). q.half) (sym ((tell (named p h) x.piece.id).0 is)) in
      let entry : entry_for x.guards n ≡ Some e = ap (λ (y : Made). entry_for y.guards n) same ∙ found in
      ap (first_from b h) (flat_both (kept_if n) (left_by x) (flat_map left_by (of_trace p ms)))
      ∙ ap (λ (k : Half). first_from b h (flat_map (kept_if n) (map (λ (y : ℕ × Entry). (k, y.0, y.1)) x.guards) ++ kept_at n (flat_map left_by (of_trace p ms)))) half
      ∙ in_guards b n h e x.guards (kept_at n (flat_map left_by (of_trace p ms))) entry
  first_by p n b h x m e true false ms there is f found e_is =
      ap (first_from b h) (flat_both (kept_if n) (left_by x) (flat_map left_by (of_trace p ms)))
      ∙ past_guards b n h x.piece.id.half x.guards (kept_at n (flat_map left_by (of_trace p ms))) (apart p h x b ((Decides-eqb x.piece.id.trace p).0 there) is)
      ∙ f e_is
  first_by p n b h x m e false true ms there is f found e_is =
      absurd (false_true (sym there ∙ (Decides-eqb x.piece.id.trace p).1 (ap (λ (q : PieceId). q.trace) (sym ((tell (named p h) x.piece.id).0 is)))))
  first_by p n b h x m e false false ms there is f found e_is = f e_is

  pub left_first : (p n b : ℕ) (h : Half) (m : Made) (e : Entry) (ms : List Made) → entry_for m.guards n ≡ Some e → made_at ms (named p h) ≡ Some m → first_from b h (kept_at n (flat_map left_by (of_trace p ms))) ≡ Some e
  left_first p n b h m e [] found is = absurd (none_some is)
  left_first p n b h m e (x ∷ ms) found is = first_by p n b h x m e (x.piece.id.trace == p) (same_piece (named p h) x.piece.id) ms refl refl (left_first p n b h m e ms found) found is

-- Those of one trace

both_by : (t : Bool) (x : Made) (whole front back : List Made) → whole ≡ front ++ back → (if t then x ∷ whole else whole) ≡ (if t then x ∷ front else front) ++ back
both_by true x whole front back e = ap (λ l. x ∷ l) e
both_by false x whole front back e = e

pub of_both : (p : ℕ) (ms ns : List Made) → of_trace p (ms ++ ns) ≡ of_trace p ms ++ of_trace p ns
of_both p [] ns = refl
of_both p (x ∷ ms) ns = both_by (x.piece.id.trace == p) x (of_trace p (ms ++ ns)) (of_trace p ms) (of_trace p ns) (of_both p ms ns)

pub of_all : (set : TraceSet) (b : ℕ) (from : List (Half × Entry)) (ns : List Made) → AllZip (λ x m. IsPieceOf set b x.0 x.1 m) from ns → of_trace b ns ≡ ns
of_all set b [] [] z = refl
of_all set b [] (m ∷ ns) z = absurd z
of_all set b (x ∷ from) [] z = absurd z
of_all set b (x ∷ from) (m ∷ ns) z =
    ap (λ (t : Bool). if t then m ∷ of_trace b ns else of_trace b ns) ((Decides-eqb m.piece.id.trace b).1 (ap (λ (q : PieceId). q.trace) z.0.name))
    ∙ ap (λ l. m ∷ l) (of_all set b from ns z.1)

pub of_others : (set : TraceSet) (b p : ℕ) (from : List (Half × Entry)) (ns : List Made) → (b ≡ p → ⊥) → AllZip (λ x m. IsPieceOf set b x.0 x.1 m) from ns → of_trace p ns ≡ []
of_others set b p [] [] ne z = refl
of_others set b p [] (m ∷ ns) ne z = absurd z
of_others set b p (x ∷ from) [] ne z = absurd z
of_others set b p (x ∷ from) (m ∷ ns) ne z =
    ap (λ (t : Bool). if t then m ∷ of_trace p ns else of_trace p ns) (other (m.piece.id.trace == p) refl)
    ∙ of_others set b p from ns ne z.1
  where
    other : (t : Bool) → (m.piece.id.trace == p) ≡ t → (m.piece.id.trace == p) ≡ false
    other false e = e
    other true e = absurd (ne (sym (ap (λ (q : PieceId). q.trace) z.0.name) ∙ (Decides-eqb m.piece.id.trace p).0 e))
