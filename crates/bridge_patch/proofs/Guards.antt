-- The places of the boxes that a guard shows.
use Rattle.std.proofs.Common.{◌≡◌, ◌≢◌, ℕ, zero, suc, ◌+◌, ◌<◌, ◌≤◌, Bool, true, false, cond, List, [], ◌∷◌, ◌++◌, length, take, drop, Some, None, refl, sym, ap, ◌∙◌, subst, arith, inl, inr, ◌⊎◌, ◌||◌}
use Rattle.std.specs.Prelude.{slice_get, map}
use Rattle.std.specs.List.{All, Contains, flat_map, list_any, range_with_len}
use Rattle.std.proofs.lemmas.Option.{slice_get_within}
use Rattle.std.proofs.lemmas.List.{take-append-drop}
use Rattle.std.proofs.lemmas.List.Elements.{All-contains, Contains-append_left, Contains-append_right, Contains-append_cases}
use Rattle.std.proofs.lemmas.Grind.{flat_map-append}
use Rattle.trace_ops.specs.declared.trace.BoxId.{BoxId}
use Rattle.trace_ops.specs.declared.piece.Snapshot.{Snapshot}
use Rattle.trace_ops.specs.declared.piece.OptOp.{OptOp}
use Rattle.trace_ops.specs.declared.piece.OptOp.TheVariants as opt
use Rattle.trace_ops.specs.declared.piece.Piece.{Piece}
use Rattle.trace_ops.specs.contracts.trace.BoxIdPartialEq.TheImpl as box_eq
use Rattle.trace_ops.specs.contracts.trace.BoxIdEq.TheImpl.Laws as box_laws
use Rattle.trace_ops.specs.Parts.{boxes_of, boxes_of_arg, with_boxes, parts_of}
use Rattle.trace_ops.specs.Pieces.{results_of, used_by, defined_by, defined_before}
use Rattle.target_base.specs.declared.place.Place.{Place}
use Rattle.target_base.specs.declared.place.Place.TheVariants.{In, Word}
use Rattle.linear_scan.specs.declared.places.Places.{Places}
use Rattle.linear_scan.specs.Registers.{register}
use Rattle.linear_scan.specs.Numbering.{BoxesLive}
use Rattle.linear_scan.specs.Placing.{Allocated, AreDistinct, words_used}
use Rattle.asm_select.specs.Given.{where_in}
use Rattle.asm_select.specs.Reached.{IsNamed}
use Rattle.asm_select.specs.Exited.{shown_by}
use Rattle.bridge_patch.proofs.Entering.{AreForValues, AreLow, found_at, word_below, words_least}

-- ---- boxes, each once

abbrev pub Once : List BoxId → Type 0
Once [] = Unit {0}
Once (b ∷ bs) = (IsNamed bs b → ⊥) × Once bs

named_left : (xs ys : List BoxId) (b : BoxId) → IsNamed xs b → IsNamed (xs ++ ys) b
named_left [] ys b h = absurd h
named_left (x ∷ xs) ys b (inl e) = inl e
named_left (x ∷ xs) ys b (inr h) = inr (named_left xs ys b h)

named_one : (xs : List BoxId) (y b : BoxId) → IsNamed (xs ++ y ∷ []) b → IsNamed xs b ⊎ (y ≡ b)
named_one [] y b (inl e) = inr e
named_one [] y b (inr h) = absurd h
named_one (x ∷ xs) y b (inl e) = inl (inl e)
named_one (x ∷ xs) y b (inr h) = more (named_one xs y b h)
  where
    more : IsNamed xs b ⊎ (y ≡ b) → IsNamed (x ∷ xs) b ⊎ (y ≡ b)
    more (inl g) = inl (inr g)
    more (inr e) = inr e

once_push : (xs : List BoxId) (y : BoxId) → Once xs → (IsNamed xs y → ⊥) → Once (xs ++ y ∷ [])
once_push [] y h away = ((λ n. n), tt)
once_push (x ∷ xs) y h away = ((λ n. apart (named_one xs y x n)), once_push xs y h.1 (λ n. away (inr n)))
  where
    apart : IsNamed xs x ⊎ (y ≡ x) → ⊥
    apart (inl g) = h.0 g
    apart (inr e) = away (inl (sym e))

false_true : false ≡ true → ⊥
false_true e = cc

same_self : (b : BoxId) → box_eq.ghosts.eq b b ≡ true
same_self b = box_laws.lawful.laws.refl b

or_first : (b c : Bool) → b ≡ true → b || c ≡ true
or_first b c e = ap (λ (z : Bool). z || c) e

or_second : (b c : Bool) → c ≡ true → b || c ≡ true
or_second true c e = refl
or_second false c e = e

any_named : (x : BoxId) (xs : List BoxId) → IsNamed xs x → list_any (box_eq.ghosts.eq x) xs ≡ true
any_named x [] h = absurd h
any_named x (y ∷ ys) (inl e) = or_first (box_eq.ghosts.eq x y) (list_any (box_eq.ghosts.eq x) ys) (subst (λ (z : BoxId). box_eq.ghosts.eq x z ≡ true) (sym e) (same_self x))
any_named x (y ∷ ys) (inr h) = or_second (box_eq.ghosts.eq x y) (list_any (box_eq.ghosts.eq x) ys) (any_named x ys h)

once_if : (x : BoxId) (kept : List BoxId) (q : Bool) → list_any (box_eq.ghosts.eq x) kept ≡ q → Once kept → Once (cond q kept (kept ++ x ∷ []))
once_if x kept true e h = h
once_if x kept false e h = once_push kept x h (λ n. false_true (sym e ∙ any_named x kept n))

with_once : (bs kept : List BoxId) → Once kept → Once (with_boxes kept bs)
unfolding with_boxes
with_once [] kept h = h
with_once (x ∷ xs) kept h = with_once xs (cond (list_any (box_eq.ghosts.eq x) kept) kept (kept ++ x ∷ [])) (once_if x kept (list_any (box_eq.ghosts.eq x) kept) refl h)

put : (kept xs : List BoxId) (x b : BoxId) → IsNamed kept b ⊎ (x ≡ b) → IsNamed kept b ⊎ IsNamed (x ∷ xs) b
put kept xs x b (inl g) = inl g
put kept xs x b (inr e) = inr (inl e)

which : (kept xs : List BoxId) (x b : BoxId) (q : Bool) → IsNamed (cond q kept (kept ++ x ∷ [])) b ⊎ IsNamed xs b → IsNamed kept b ⊎ IsNamed (x ∷ xs) b
which kept xs x b q (inr g) = inr (inr g)
which kept xs x b true (inl g) = inl g
which kept xs x b false (inl g) = put kept xs x b (named_one kept x b g)

kept_named : (kept bs : List BoxId) (b : BoxId) → IsNamed (with_boxes kept bs) b → IsNamed kept b ⊎ IsNamed bs b
unfolding with_boxes
kept_named kept [] b h = inl h
kept_named kept (x ∷ xs) b h = which kept xs x b (list_any (box_eq.ghosts.eq x) kept) (kept_named (cond (list_any (box_eq.ghosts.eq x) kept) kept (kept ++ x ∷ [])) xs b h)

parts_once : (s : Snapshot) → Once (parts_of s)
parts_once s = with_once (boxes_of s) [] tt

none_left : {X : Type 0} → ⊥ ⊎ X → X
none_left (inl e) = absurd e
none_left (inr x) = x

parts_named : (s : Snapshot) (b : BoxId) → IsNamed (parts_of s) b → IsNamed (boxes_of s) b
parts_named s b h = none_left (kept_named [] (boxes_of s) b h)

named_contains : (xs : List BoxId) (b : BoxId) → IsNamed xs b → Contains xs b
named_contains [] b h = absurd h
named_contains (x ∷ xs) b (inl e) = (0, omega arith, e)
named_contains (x ∷ xs) b (inr h) = let (i, lt, e) = named_contains xs b h in (suc i, omega (arith, lt), e)

contains_named : (xs : List BoxId) (b : BoxId) → Contains xs b → IsNamed xs b
contains_named [] b (i, lt, e) = absurd (omega (arith, lt))
contains_named (x ∷ xs) b (zero, lt, e) = inl e
contains_named (x ∷ xs) b (suc i, lt, e) = inr (contains_named xs b (i, omega (arith, lt), e))

-- ---- what a guard shows is used

pub shown_once : (op : OptOp) → Once (shown_by op)
shown_once (opt.Plain operation r args d) = tt
shown_once (opt.Guard operation args n snap) = parts_once snap
shown_once (opt.Exit n snap) = parts_once snap
shown_once (opt.Jump to args) = tt
shown_once (opt.Finish value) = tt

named_right : (xs ys : List BoxId) (b : BoxId) → IsNamed ys b → IsNamed (xs ++ ys) b
named_right [] ys b h = h
named_right (x ∷ xs) ys b h = inr (named_right xs ys b h)

shown_used : (op : OptOp) (b : BoxId) → IsNamed (shown_by op) b → IsNamed (used_by op) b
shown_used (opt.Plain operation r args d) b h = absurd h
shown_used (opt.Guard operation args n snap) b h = named_right (flat_map boxes_of_arg args) (boxes_of snap ++ []) b (named_left (boxes_of snap) [] b (parts_named snap b h))
shown_used (opt.Exit n snap) b h = named_left (boxes_of snap) [] b (parts_named snap b h)
shown_used (opt.Jump to args) b h = absurd h
shown_used (opt.Finish value) b h = absurd h

before_all : (p : Piece) (k : ℕ) (b : BoxId) → Contains (defined_before p k) b → Contains (defined_by p) b
before_all p k b h = by (Contains-append_cases p.label (flat_map results_of (take k p.ops)) b h)
  where
    split : flat_map results_of p.ops ≡ flat_map results_of (take k p.ops) ++ flat_map results_of (drop k p.ops)
    split = ap (flat_map results_of) (sym (take-append-drop k p.ops)) ∙ flat_map-append results_of (take k p.ops) (drop k p.ops)

    by : Contains p.label b ⊎ Contains (flat_map results_of (take k p.ops)) b → Contains (defined_by p) b
    by (inl g) = Contains-append_left p.label (flat_map results_of p.ops) b g
    by (inr g) = Contains-append_right p.label (flat_map results_of p.ops) b (subst (λ (l : List BoxId). Contains l b) (sym split) (Contains-append_left (flat_map results_of (take k p.ops)) (flat_map results_of (drop k p.ops)) b g))

-- ---- boxes by number

some_inj : {X : Type 0} {x y : X} → Some x ≡ Some y → x ≡ y
some_inj e = cc

cons_head : {x y : ℕ} {xs ys : List ℕ} → x ∷ xs ≡ y ∷ ys → x ≡ y
cons_head e = cc

cons_tail : {x y : ℕ} {xs ys : List ℕ} → x ∷ xs ≡ y ∷ ys → xs ≡ ys
cons_tail e = cc

numbered_at : (ds : List BoxId) (a : ℕ) → map (λ (b : BoxId). b.number) ds ≡ range_with_len a (length ds) → (b : BoxId) → IsNamed ds b → (i : ℕ) × (b.number ≡ a + i) × (slice_get ds i ≡ Some b)
numbered_at [] a e b h = absurd h
numbered_at (d ∷ ds) a e b (inl same) = (0, sym (ap (λ (x : BoxId). x.number) same) ∙ cons_head e ∙ omega arith, ap Some same)
numbered_at (d ∷ ds) a e b (inr h) =
    let (i, n, g) = numbered_at ds (a + 1) (cons_tail e) b h in
    (suc i, omega (arith, n), g)

-- ---- places

-- a box of a piece has a place, by its number
pub placed_at : (p : Piece) (places : Places) → map (λ (b : BoxId). b.number) (defined_by p) ≡ range_with_len 0 (length (defined_by p)) → length places.at ≡ length (defined_by p) → (b : BoxId) → IsNamed (defined_by p) b
    → slice_get places.at b.number ≡ Some (where_in places.at b.number)
placed_at p places numbered long b h =
    let (i, n, g) = numbered_at (defined_by p) 0 numbered b h in
    found_at places.at b.number (Word 16) (omega (arith, n, slice_get_within (defined_by p) i b g, long))

same_number : (p : Piece) → map (λ (b : BoxId). b.number) (defined_by p) ≡ range_with_len 0 (length (defined_by p)) → (b c : BoxId) → IsNamed (defined_by p) b → IsNamed (defined_by p) c → b.number ≡ c.number → b ≡ c
same_number p numbered b c hb hc e =
    let (i, n, g) = numbered_at (defined_by p) 0 numbered b hb in
    let (j, m, h) = numbered_at (defined_by p) 0 numbered c hc in
    let same : i ≡ j = omega (arith, n, m, e) in
    some_inj (sym g ∙ ap (slice_get (defined_by p)) same ∙ h)

get_named : (bs : List BoxId) (i : ℕ) (b : BoxId) → slice_get bs i ≡ Some b → IsNamed bs b
get_named [] i b e = absurd (none_some e)
  where
    none_some : {X : Type 0} {x : X} → None ≡ Some x → ⊥
    none_some e = cc
get_named (x ∷ xs) zero b e = inl (some_inj e)
get_named (x ∷ xs) (suc i) b e = inr (get_named xs i b e)

once_at : (bs : List BoxId) (i j : ℕ) (b c : BoxId) → Once bs → i < j → slice_get bs i ≡ Some b → slice_get bs j ≡ Some c → b ≢ c
once_at [] i j b c h lt eb ec same = none_some eb
  where
    none_some : {X : Type 0} {x : X} → None ≡ Some x → ⊥
    none_some e = cc
once_at (x ∷ xs) zero zero b c h lt eb ec same = omega (arith, lt)
once_at (x ∷ xs) zero (suc j) b c h lt eb ec same = h.0 (subst (IsNamed xs) (sym same ∙ sym (some_inj eb)) (get_named xs j c ec))
once_at (x ∷ xs) (suc i) zero b c h lt eb ec same = omega (arith, lt)
once_at (x ∷ xs) (suc i) (suc j) b c h lt eb ec same = once_at xs i j b c h.1 (omega (arith, lt)) eb ec same

-- the box whose place it is
mapped_at : (f : BoxId → Place) (bs : List BoxId) (i : ℕ) (q : Place) → slice_get (map f bs) i ≡ Some q → (b : BoxId) × (slice_get bs i ≡ Some b) × (f b ≡ q)
mapped_at f [] i q e = absurd (none_some e)
  where
    none_some : {X : Type 0} {x : X} → None ≡ Some x → ⊥
    none_some e = cc
mapped_at f (x ∷ xs) zero q e = (x, refl, some_inj e)
mapped_at f (x ∷ xs) (suc i) q e = mapped_at f xs i q e

-- the places of the boxes that a guard shows
abbrev pub shown_places : Places → OptOp → List Place
shown_places places op = map (λ (b : BoxId). where_in places.at b.number) (shown_by op)

pub record ShownWell (registers : ℕ) (places : Places) (op : OptOp) : Type 0 where
  pub distinct : AreDistinct (shown_places places op)
  pub values : AreForValues registers (shown_places places op)
  pub low : AreLow (shown_places places op)
  pub few : words_used (shown_places places op) ≤ places.words

words_member : (all ps : List Place) → ((i : ℕ) (q : Place) → slice_get ps i ≡ Some q → (j : ℕ) × (slice_get all j ≡ Some q)) → words_used ps ≤ words_used all
words_member all [] h = words_least all
words_member all (In r ∷ ps) h = words_member all ps (λ i q e. h (suc i) q e)
words_member all (Word k ∷ ps) h =
    let (j, e) = h 0 (Word k) refl in
    omega (arith, word_in all j k e, words_member all ps (λ i q e. h (suc i) q e))
  where
    word_in : (all : List Place) (j k : ℕ) → slice_get all j ≡ Some (Word k) → k < words_used all
    word_in all j k e = word_below all j k e

pub shown_well : (registers : ℕ) (p : Piece) (label : List Place) (places : Places) (k : ℕ) (op : OptOp)
    → BoxesLive p → map (λ (b : BoxId). b.number) (defined_by p) ≡ range_with_len 0 (length (defined_by p)) → All (Contains (defined_before p k)) (used_by op)
    → Allocated p registers label places → slice_get p.ops k ≡ Some op → ShownWell registers places op
shown_well registers p label places k op live numbered defined a here =
    let f : BoxId → Place = λ b. where_in places.at b.number in
    let used : (b : BoxId) → IsNamed (shown_by op) b → Contains (used_by op) b = λ b h. named_contains (used_by op) b (shown_used op b h) in
    let known : (b : BoxId) → IsNamed (shown_by op) b → IsNamed (defined_by p) b = λ b h. contains_named (defined_by p) b (before_all p k b (All-contains (Contains (defined_before p k)) (used_by op) b defined (used b h))) in
    let at : (b : BoxId) → IsNamed (shown_by op) b → slice_get places.at b.number ≡ Some (f b) = λ b h. placed_at p places numbered a.each b (known b h) in record {
      distinct = λ i j q r lt ei ej same.
          let (b, eb, fb) = mapped_at f (shown_by op) i q ei in
          let (c, ec, fc) = mapped_at f (shown_by op) j r ej in
          let hb = get_named (shown_by op) i b eb in
          let hc = get_named (shown_by op) j c ec in
          let differ : b.number ≢ c.number = λ e. once_at (shown_by op) i j b c (shown_once op) lt eb ec (same_number p numbered b c (known b hb) (known c hc) e) in
          a.apart b.number c.number k q r differ (live.used k op b here (used b hb)) (live.used k op c here (used c hc)) (at b hb ∙ ap Some fb) (at c hc ∙ ap Some fc) same;
      values = λ i r e.
          let (b, eb, fb) = mapped_at f (shown_by op) i (register r) e in
          (a.lawful b.number r (at b (get_named (shown_by op) i b eb) ∙ ap Some fb)).0;
      low = λ i w e.
          let (b, eb, fb) = mapped_at f (shown_by op) i (Word w) e in
          a.low b.number w (at b (get_named (shown_by op) i b eb) ∙ ap Some fb);
      few = subst (λ (n : ℕ). words_used (shown_places places op) ≤ n) (sym a.words) (words_member places.at (shown_places places op) (λ i q e.
          let (b, eb, fb) = mapped_at f (shown_by op) i q e in
          (b.number, at b (get_named (shown_by op) i b eb) ∙ ap Some fb)));
    }
