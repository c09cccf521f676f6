-- A trace whose pieces are added.
use Rattle.std.proofs.Common.{◌≡◌, ◌≢◌, ◌⊎◌, inl, inr, ℕ, ◌+◌, ◌<◌, Bool, true, if◌then◌else◌, List, [], ◌∷◌, ◌++◌, Option, Some, None, length, length-set, map, slice_get, slice_set, refl, sym, ap, ◌∙◌, subst, arith}
use Rattle.std.specs.Bool.{Decides}
use Rattle.std.specs.Option.{IsSomeAnd}
use Rattle.std.specs.List.{AllByRecursion, AllZip, flat_map}
use Rattle.std.proofs.lemmas.Bool.Decides.{eqb_tells}
use Rattle.lists.specs.Has.{Has, IsOnce}
use Rattle.lists.proofs.Eaches.{each_append, each_weaker}
use Rattle.lists.proofs.Membership.{has_left, has_right, has_cases, each_has}
use Rattle.lists.proofs.Options.{some_same}
use Rattle.lists.proofs.Places.{get_set_same, get_set_other}
use Rattle.trace_ops.specs.declared.trace.Trace.{Trace}
use Rattle.trace_ops.specs.declared.trace.TraceSet.{TraceSet}
use Rattle.trace_ops.specs.declared.piece.Half.{Half}
use Rattle.trace_ops.specs.declared.piece.Half.TheVariants as half
use Rattle.trace_ops.specs.declared.piece.PieceId.{PieceId}
use Rattle.trace_ops.specs.declared.piece.Entry.{Entry}
use Rattle.trace_meaning.specs.Cuts.{is_bridge_of}
use Rattle.opt_meaning.specs.Admits.{entry_for}
use Rattle.opt_meaning.specs.Meeting.{Made, made_at, IsEntered}
use Rattle.opt_meaning.specs.Pieces.{same_piece, preamble}
use Rattle.loop_peel.specs.Peeling.{IsLoop, IsBridge, IsPieceOf, left_by, kept_at, loop_entry}
use Rattle.opt_set.specs.Optimised.{Left, of_trace, name_of, IsOwnPiece, IsBehind, IsLeftOf, HasPieces, Holds}
use Rattle.opt_set.proofs.Halves.{once_added, behind_more, behind_new}
use Rattle.opt_set.proofs.Found.{named, first_from, found_cases, found_here, not_found, entered_left, entered_right, made_first, left_first, of_both, of_all, of_others}

append_none : {X : Type 0} (xs : List X) → xs ++ [] ≡ xs
append_none [] = refl
append_none (x ∷ xs) = ap (λ l. x ∷ l) (append_none xs)

none_pieces : {X : Type 0} {x : X} → Some None ≡ Some (Some x) → ⊥
none_pieces e = cc

own_piece : (set : TraceSet) (b : ℕ) (h : Half) (e : Entry) (m : Made) → IsPieceOf set b h e m → IsOwnPiece set m
own_piece set b h e m i =
    subst (λ (x : Entry). IsPieceOf set m.piece.id.trace m.piece.id.half x m) (sym i.entry)
    (subst (λ (q : PieceId). IsPieceOf set q.trace q.half e m) (sym i.name) i)

own_pieces : (set : TraceSet) (b : ℕ) (from : List (Half × Entry)) (ns : List Made) → AllZip (λ x m. IsPieceOf set b x.0 x.1 m) from ns → AllByRecursion (IsOwnPiece set) ns
own_pieces set b [] [] z = tt
own_pieces set b [] (m ∷ ns) z = absurd z
own_pieces set b (x ∷ from) [] z = absurd z
own_pieces set b (x ∷ from) (m ∷ ns) z = (own_piece set b x.0 x.1 m z.0, own_pieces set b from ns z.1)

all_of_it : (set : TraceSet) (b : ℕ) (from : List (Half × Entry)) (ns : List Made) → AllZip (λ x m. IsPieceOf set b x.0 x.1 m) from ns → (m : Made) → Has ns m → m.piece.id.trace ≡ b
all_of_it set b [] [] z m w = absurd w
all_of_it set b [] (n ∷ ns) z m w = absurd z
all_of_it set b (x ∷ from) [] z m w = absurd z
all_of_it set b (x ∷ from) (n ∷ ns) z m (inl e) = ap (λ (y : Made). y.piece.id.trace) (sym e) ∙ ap (λ (q : PieceId). q.trace) z.0.name
all_of_it set b (x ∷ from) (n ∷ ns) z m (inr w) = all_of_it set b from ns z.1 m w

last_or_before : (p k : ℕ) → p < k + 1 → (p < k) ⊎ (p ≡ k)
last_or_before p k lt = elim (eqb_tells p k) [
  | inl t ↦ inr t.1
  | inr t ↦ inl (less p k lt t.1)
]
  where
    less : (p k : ℕ) → p < k + 1 → p ≢ k → p < k
    less p k lt ne = omega (arith, lt, ne)

module _ (tell : (a b : PieceId) → Decides (same_piece a b) (a ≡ b)) (set : TraceSet) (k : ℕ) (attached : List ℕ) (left : List (Option Left)) (ms : List Made) (h : Holds set k attached left ms) where
  -- A bridge that isn't attached yet has no pieces, where loops are made
  pub skipped : (t : Trace) → slice_get set.traces k ≡ Some t → (IsLoop t.origin → ⊥) → Holds set (k + 1) attached left ms
  skipped t at other = record {
    each = h.each;
    long = h.long;
    left_is = h.left_is;
    loops = λ p x lt there loop. elim (last_or_before p k lt) [
      | inl less ↦ h.loops p x less there loop
      | inr same ↦ absurd (other (subst (λ (y : Trace). IsLoop y.origin) (some_same (sym there ∙ ap (slice_get set.traces) same ∙ at)) loop))
    ];
    bridges = h.bridges;
    behind = h.behind;
    once = h.once;
    parents = h.parents;
    attached_has = h.attached_has;
    has_attached = h.has_attached;
  }

  module _ (b : ℕ) (free : slice_get left b ≡ Some None) (from : List (Half × Entry)) (ns : List Made) (z : AllZip (λ x m. IsPieceOf set b x.0 x.1 m) from ns) (halves : IsOnce (map (λ (x : Half × Entry). x.0) from)) (xs : Left) (gives : xs ≡ flat_map left_by ns) where
    abbrev later : List (Option Left)
    later = slice_set left b (Some xs)

    here : slice_get later b ≡ Some (Some xs)
    here = get_set_same left b None (Some xs) free

    none_yet : of_trace b ms ≡ []
    none_yet = h.left_is b None free

    keeps : (p : ℕ) → HasPieces left p → HasPieces later p
    keeps p w = elim (eqb_tells p b) [
      | inl t ↦ (xs, ap (slice_get later) t.1 ∙ here)
      | inr t ↦ (w.0, get_set_other left b p (Some xs) t.1 ∙ w.1)
    ]

    left_same : (p : ℕ) (o : Option Left) → (b ≡ p → ⊥) → IsLeftOf ms p o → IsLeftOf (ms ++ ns) p o
    left_same p None ne l = of_both p ms ns ∙ ap (λ ys. of_trace p ms ++ ys) (of_others set b p from ns ne z) ∙ append_none (of_trace p ms) ∙ l
    left_same p (Some ys) ne l = l ∙ ap (flat_map left_by) (sym (of_both p ms ns ∙ ap (λ ys. of_trace p ms ++ ys) (of_others set b p from ns ne z) ∙ append_none (of_trace p ms)))

    left_here : (o : Option Left) → Some (Some xs) ≡ Some o → IsLeftOf (ms ++ ns) b o
    left_here o e = subst (IsLeftOf (ms ++ ns) b) (some_same e) (gives ∙ ap (flat_map left_by) (sym (of_both b ms ns ∙ ap (λ ys. ys ++ of_trace b ns) none_yet ∙ of_all set b from ns z)))

    left_now : (p : ℕ) (o : Option Left) → slice_get later p ≡ Some o → IsLeftOf (ms ++ ns) p o
    left_now p o e = elim (eqb_tells p b) [
      | inl t ↦ subst (λ q. IsLeftOf (ms ++ ns) q o) (sym t.1) (left_here o (sym here ∙ ap (slice_get later) (sym t.1) ∙ e))
      | inr t ↦ left_same p o (λ s. t.1 (sym s)) (h.left_is p o (sym (get_set_other left b p (Some xs) t.1) ∙ e))
    ]

    not_free : (p : ℕ) → p ≡ b → HasPieces left p → ⊥
    not_free p e w = none_pieces (sym free ∙ ap (slice_get left) (sym e) ∙ w.1)

    new_trace : (q : PieceId) (m : Made) → made_at ns q ≡ Some m → q.trace ≡ b
    new_trace q m is = let f = found_here tell ns q m is in ap (λ (r : PieceId). r.trace) (sym f.1) ∙ all_of_it set b from ns z m f.0

    old_bridges : (c : ℕ) → Has attached c → (q : PieceId) (m : Made) (n : ℕ) (e : Entry) → made_at (ms ++ ns) q ≡ Some m → entry_for m.guards n ≡ Some e → is_bridge_of set.traces q.trace n c ≡ true → IsEntered (ms ++ ns) (record { trace = c; half = q.half }) e
    old_bridges c w q m n e is found comes = elim (found_cases ms ns q m is) [
      | inl there ↦ entered_left ms ns (record { trace = c; half = q.half }) e (h.bridges c w q m n e there found comes)
      | inr there ↦ absurd (not_free q.trace (new_trace q m there.1) (h.parents c w q.trace n comes))
    ]

    each_now : AllByRecursion (IsOwnPiece set) (ms ++ ns)
    each_now = each_append (IsOwnPiece set) ms ns h.each (own_pieces set b from ns z)

    once_now : IsOnce (map name_of (ms ++ ns))
    once_now = once_added set b from ms ns z halves none_yet h.once

    abbrev BehindIn : List Made → Made → Type 0
    BehindIn all m = IsBridge set m.piece.id.trace → IsBehind set all m

    behind_now : ((m : Made) → Has ns m → BehindIn (ms ++ ns) m) → AllByRecursion (BehindIn (ms ++ ns)) (ms ++ ns)
    behind_now new =
        each_append (BehindIn (ms ++ ns)) ms ns
        (each_weaker (BehindIn ms) (BehindIn (ms ++ ns)) (λ m f bridge. behind_more set ms ns m (f bridge)) ms h.behind)
        (each_has (BehindIn (ms ++ ns)) ns new)

    long_now : length later ≡ length set.traces
    long_now = length-set left b (Some xs) ∙ h.long

    -- a loop
    pub loop_added : (t : Trace) → slice_get set.traces b ≡ Some t → IsLoop t.origin → k ≡ b → from ≡ (half.Pre, loop_entry set b) ∷ [] → Holds set (b + 1) attached later (ms ++ ns)
    loop_added t at loop now is = record {
      each = each_now;
      long = long_now;
      left_is = left_now;
      loops = λ p x lt there l. elim (last_or_before p b lt) [
        | inl less ↦ let old = h.loops p x (subst (λ y. p < y) (sym now) less) there l in (keeps p old.0, entered_left ms ns (preamble p) (loop_entry set p) old.1)
        | inr same ↦ subst (λ y. HasPieces later y × IsEntered (ms ++ ns) (preamble y) (loop_entry set y)) (sym same) ((xs, here), first_now)
      ];
      bridges = old_bridges;
      behind = behind_now (λ m w bridge. absurd (no_bridge (subst (IsBridge set) (all_of_it set b from ns z m w) bridge)));
      once = once_now;
      parents = λ c w p n comes. keeps p (h.parents c w p n comes);
      attached_has = λ c w. keeps c (h.attached_has c w);
      has_attached = λ c x w there other. elim (eqb_tells c b) [
        | inl q ↦ absurd (other (subst (λ (y : Trace). IsLoop y.origin) (some_same (sym at ∙ ap (slice_get set.traces) (sym q.1) ∙ there)) loop))
        | inr q ↦ h.has_attached c x (w.0, sym (get_set_other left b c (Some xs) q.1) ∙ w.1) there other
      ];
    }
      where
        no_bridge : IsBridge set b → ⊥
        no_bridge bridge = subst (λ o. IsSomeAnd o (λ (y : Trace). IsLoop y.origin → ⊥)) at bridge loop

        first_now : IsEntered (ms ++ ns) (preamble b) (loop_entry set b)
        first_now =
            entered_right ms ns (preamble b) (loop_entry set b) (not_found tell ms (preamble b) none_yet)
            (made_first tell set b half.Pre (loop_entry set b) from ns z
            (ap (first_from b half.Pre) is ∙ ap (λ (y : Bool). if y then Some (loop_entry set b) else None) ((tell (named b half.Pre) (named b half.Pre)).1 refl)))

    -- a bridge, from what its guard leaves
    pub bridge_added : (t : Trace) → slice_get set.traces b ≡ Some t → (parent guard : ℕ) → is_bridge_of set.traces parent guard b ≡ true → ((p n : ℕ) → is_bridge_of set.traces p n b ≡ true → (ys : Left) × (slice_get left p ≡ Some (Some ys)) × (from ≡ kept_at n ys)) → Holds set k (attached ++ b ∷ []) later (ms ++ ns)
    bridge_added t at parent guard leaves from_guard = record {
      each = each_now;
      long = long_now;
      left_is = left_now;
      loops = λ p x lt there l. let old = h.loops p x lt there l in (keeps p old.0, entered_left ms ns (preamble p) (loop_entry set p) old.1);
      bridges = λ c w q m n e is found comes. elim (has_cases attached (b ∷ []) c w) [
        | inl old ↦ old_bridges c old q m n e is found comes
        | inr one ↦ elim one [
          | inl same ↦ subst (λ y. IsEntered (ms ++ ns) (named y q.half) e) same (new_bridge q m n e is found (subst (λ y. is_bridge_of set.traces q.trace n y ≡ true) (sym same) comes))
          | inr never ↦ absurd never
        ]
      ];
      behind = behind_now (λ m w bridge. behind_new set b parent guard from ms ns z leaves kept m w);
      once = once_now;
      parents = λ c w p n comes. elim (has_cases attached (b ∷ []) c w) [
        | inl old ↦ keeps p (h.parents c old p n comes)
        | inr one ↦ elim one [
          | inl same ↦ let g = from_guard p n (subst (λ y. is_bridge_of set.traces p n y ≡ true) (sym same) comes) in keeps p (g.0, g.1)
          | inr never ↦ absurd never
        ]
      ];
      attached_has = λ c w. elim (has_cases attached (b ∷ []) c w) [
        | inl old ↦ keeps c (h.attached_has c old)
        | inr one ↦ elim one [
          | inl same ↦ (xs, ap (slice_get later) (sym same) ∙ here)
          | inr never ↦ absurd never
        ]
      ];
      has_attached = λ c x w there other. elim (eqb_tells c b) [
        | inl q ↦ has_right attached (b ∷ []) c (inl (sym q.1))
        | inr q ↦ has_left attached (b ∷ []) c (h.has_attached c x (w.0, sym (get_set_other left b c (Some xs) q.1) ∙ w.1) there other)
      ];
    }
      where
        kept : from ≡ kept_at guard (flat_map left_by (of_trace parent ms))
        kept = let g = from_guard parent guard leaves in g.2 ∙ ap (kept_at guard) (h.left_is parent (Some g.0) g.1)

        new_bridge : (q : PieceId) (m : Made) (n : ℕ) (e : Entry) → made_at (ms ++ ns) q ≡ Some m → entry_for m.guards n ≡ Some e → is_bridge_of set.traces q.trace n b ≡ true → IsEntered (ms ++ ns) (named b q.half) e
        new_bridge q m n e is found comes =
            let g = from_guard q.trace n comes in
            elim (found_cases ms ns q m is) [
              | inl there ↦
                  entered_right ms ns (named b q.half) e (not_found tell ms (named b q.half) none_yet)
                  (made_first tell set b q.half e from ns z
                  (ap (first_from b q.half) (g.2 ∙ ap (kept_at n) (h.left_is q.trace (Some g.0) g.1)) ∙ left_first tell q.trace n b q.half m e ms found there))
              | inr there ↦ absurd (not_free q.trace (new_trace q m there.1) (g.0, g.1))
            ]
