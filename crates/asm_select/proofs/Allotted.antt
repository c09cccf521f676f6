-- The places of an allocation may hold boxes, and keep those apart that live together.
use Rattle.std.proofs.Common.{◌≡◌, ◌≢◌, ◌⊎◌, ℕ, zero, suc, ◌+◌, ◌<◌, ◌≤◌, true, false, refl, List, [], ◌∷◌, length, take, Some, sym, ap, ◌∙◌, subst, inl, inr, arith, ⊎_elim, ◌-◌}
use Rattle.std.specs.Prelude.{slice_get}
use Rattle.std.specs.List.{Contains, flat_map}
use Rattle.std.proofs.lemmas.Bool.{cases_lt}
use Rattle.std.proofs.lemmas.List.{get_or_past}
use Rattle.std.proofs.lemmas.Option.{slice_get-get_or}
use Rattle.trace_ops.specs.declared.trace.BoxId.{BoxId}
use Rattle.trace_ops.specs.declared.piece.OptOp.{OptOp}
use Rattle.trace_ops.specs.declared.piece.Piece.{Piece}
use Rattle.trace_ops.specs.Pieces.{results_of, used_by, defined_by, defined_before}
use Rattle.target_base.specs.declared.reg.Reg.{Reg}
use Rattle.target_base.specs.declared.place.Place.{Place}
use Rattle.target_base.specs.declared.place.Place.TheVariants.{In, Word}
use Rattle.linear_scan.specs.declared.places.Places.{Places}
use Rattle.linear_scan.specs.Living.{start_of, end_of, uses_box, LivesAt, LivesAcross}
use Rattle.linear_scan.specs.Numbering.{AreNumbered, AreDefined, BoxesLive}
use Rattle.linear_scan.specs.Registers.{value_registers, is_kept, IsValueRegister}
use Rattle.linear_scan.specs.Placing.{Allocated, words_used}
use Rattle.asm_select.specs.declared.told.Told.TheVariants as tell
use Rattle.asm_select.specs.Valued.{MayHold}
use Rattle.asm_select.specs.Reached.{IsNamed, Uses, IsApart, AreApart}
use Rattle.asm_select.specs.Calls.{Survives}
use Rattle.asm_select.specs.Asked.{IsSafe, AreSafe}
use Rattle.asm_select.specs.Given.{where_in, PlacesServe}
use Rattle.asm_select.proofs.Effects.{in_other, in_word, word_other}
use Rattle.asm_select.proofs.Naming.{named_contains, contains_named, named_left, named_right, named_in, IsUsedAt, used_at, given_at, given_named, named_place, numbered_at, any_found}

-- ---- registers and words

pub record IsFree (r : ℕ) : Type 0 where
  pub few : r < 16
  pub not_4 : r ≢ 4
  pub not_5 : r ≢ 5
  pub not_11 : r ≢ 11
  pub not_15 : r ≢ 15

AllFree : List ℕ → Type 0
AllFree [] = Unit {0}
AllFree (r ∷ rs) = IsFree r × AllFree rs

some_is : {X : Type 0} (a b : X) → Some a ≡ Some b → a ≡ b
some_is a b h = cc

free_among : (rs : List ℕ) (i r : ℕ) → AllFree rs → slice_get rs i ≡ Some r → IsFree r
unfolding AllFree
free_among [] i r h e = absurd (cc)
free_among (x ∷ rs) zero r h e = subst IsFree (some_is x r e) h.0
free_among (x ∷ rs) (suc i) r h e = free_among rs i r h.1 e

free : (r : ℕ) → r < 16 → r ≢ 4 → r ≢ 5 → r ≢ 11 → r ≢ 15 → IsFree r
free r a b c d e = record { few = a; not_4 = b; not_5 = c; not_11 = d; not_15 = e }

all_free : AllFree value_registers
unfolding AllFree
all_free = (free 0 (omega arith) (omega arith) (omega arith) (omega arith) (omega arith), (free 1 (omega arith) (omega arith) (omega arith) (omega arith) (omega arith), (free 2 (omega arith) (omega arith) (omega arith) (omega arith) (omega arith), (free 3 (omega arith) (omega arith) (omega arith) (omega arith) (omega arith), (free 6 (omega arith) (omega arith) (omega arith) (omega arith) (omega arith), (free 7 (omega arith) (omega arith) (omega arith) (omega arith) (omega arith), (free 8 (omega arith) (omega arith) (omega arith) (omega arith) (omega arith), (free 9 (omega arith) (omega arith) (omega arith) (omega arith) (omega arith), (free 10 (omega arith) (omega arith) (omega arith) (omega arith) (omega arith), (free 12 (omega arith) (omega arith) (omega arith) (omega arith) (omega arith), (free 13 (omega arith) (omega arith) (omega arith) (omega arith) (omega arith), (free 14 (omega arith) (omega arith) (omega arith) (omega arith) (omega arith), tt))))))))))))

pub free_holds : (r : Reg) → IsFree r.0 → MayHold (In r)
free_holds r f = record {
  there = f.few;
  not_r11 = in_other r.0 11 f.not_11;
  not_r15 = in_other r.0 15 f.not_15;
  not_rsp = in_other r.0 4 f.not_4;
  not_rbp = in_other r.0 5 f.not_5;
  not_stack = λ k lt e. in_word r k e;
  not_saved = λ k lt e. in_word r k e;
}

pub value_holds : (registers : ℕ) (r : Reg) → IsValueRegister registers r.0 → MayHold (In r)
value_holds registers r v = free_holds r (free_among value_registers v.0 r.0 all_free v.2)

word_is : (j k : ℕ) → Word j ≡ Word k → j ≡ k
word_is j k e = cc

pub word_holds : (w : ℕ) → 16 ≤ w → w < 1048320 → MayHold (Word w)
word_holds w low high = record {
  there = omega (arith, high);
  not_r11 = word_other w 11 (omega arith);
  not_r15 = word_other w 15 (omega arith);
  not_rsp = word_other w 4 (omega arith);
  not_rbp = word_other w 5 (omega arith);
  not_stack = λ k le e. (let n = word_is w k e in omega (arith, n, le, high));
  not_saved = λ k lt e. (let n = word_is w k e in omega (arith, n, lt, low));
}

used_words : (ps : List Place) (b w : ℕ) → slice_get ps b ≡ Some (Word w) → w + 1 ≤ words_used ps
used_words [] b w e = absurd (cc)
used_words (In r ∷ ps) zero w e = absurd (cc)
used_words (Word k ∷ ps) zero w e = let n : k ≡ w = cc in grind (arith, n)
used_words (In r ∷ ps) (suc b) w e = used_words ps b w e
used_words (Word k ∷ ps) (suc b) w e = let h = used_words ps b w e in grind (arith, h)

one_holds : (piece : Piece) (registers : ℕ) (label : List Place) (places : Places) (b : ℕ) (p : Place) → Allocated piece registers label places → places.words ≤ 1048320 → slice_get places.at b ≡ Some p → MayHold p
one_holds piece registers label places b (In r) a few e = value_holds registers r (a.lawful b r.0 e).0
one_holds piece registers label places b (Word w) a few e =
    word_holds w (a.low b w e) (omega (arith, few, a.words, used_words places.at b w e))

pub places_hold : (piece : Piece) (registers : ℕ) (label : List Place) (places : Places) → Allocated piece registers label places → places.words ≤ 1048320 → (b : ℕ) → MayHold (where_in places.at b)
places_hold piece registers label places a few b =
    ⊎_elim
    (λ lt. one_holds piece registers label places b (where_in places.at b) a few (slice_get-get_or places.at b (Word 16) lt))
    (λ le. subst MayHold (sym (get_or_past places.at b (Word 16) le)) (word_holds 16 (omega arith) (omega arith)))
    (cases_lt b (length places.at))

-- ---- boxes that live together

-- where a box that is named among the defined ones stands, by its number
pub stands : (piece : Piece) (b : BoxId) → AreNumbered piece → IsNamed (defined_by piece) b → (b.number < length (defined_by piece)) × (slice_get (defined_by piece) b.number ≡ Some b)
stands piece b n h =
    let r = named_place (defined_by piece) b h in
    let e : b.number ≡ r.0 = numbered_at (defined_by piece) 0 r.0 b n r.2 ∙ omega arith in
    (omega (arith, e, r.1), ap (slice_get (defined_by piece)) e ∙ r.2)

numbers_differ : (piece : Piece) (b d : BoxId) → AreNumbered piece → IsNamed (defined_by piece) b → IsNamed (defined_by piece) d → b ≢ d → b.number ≢ d.number
numbers_differ piece b d n hb hd ne e =
    ne (some_is b d (sym (stands piece b n hb).1 ∙ ap (slice_get (defined_by piece)) e ∙ (stands piece d n hd).1))

pub all_at : (piece : Piece) (op : OptOp) (k : ℕ) (b : BoxId) → AreDefined piece → slice_get piece.ops k ≡ Some op → IsNamed (used_by op) b → IsNamed (defined_before piece k) b
all_at piece op k b d e h =
    let c = named_contains (used_by op) b h in
    contains_named (defined_before piece k) b (subst (Contains (defined_before piece k)) c.2 (d k op e c.0 b c.1))

-- a box lives where it begins
lives_first : (piece : Piece) (b : BoxId) → BoxesLive piece → start_of piece b.number ≤ end_of piece b.number
lives_first piece b l = which (l.last b.number)
  where
    which : (end_of piece b.number ≡ start_of piece b.number) ⊎ ((op : OptOp) × (slice_get piece.ops (end_of piece b.number) ≡ Some op) × (uses_box b.number op ≡ true)) → start_of piece b.number ≤ end_of piece b.number
    which (inl e) = omega (arith, e)
    which (inr (op, there, uses)) =
        let f = any_found (used_by op) b.number uses in
        let at = l.used (end_of piece b.number) op f.0 there (named_contains (used_by op) f.0 f.1) in
        subst (λ (n : ℕ). start_of piece n ≤ end_of piece b.number) (sym f.2) at.0

record Begun (piece : Piece) (k : ℕ) (b : BoxId) : Type 0 where
  defined : IsNamed (defined_by piece) b
  lives : LivesAt piece b.number k

-- what lives behind operation k has begun by k + 1
begun_at : (piece : Piece) (k : ℕ) (ops : List OptOp) (b : BoxId) → BoxesLive piece → ((j : ℕ) → slice_get piece.ops (k + 1 + j) ≡ slice_get ops j) → (r : IsUsedAt ops b) → LivesAt piece b.number (k + 1 + r.j) → IsNamed piece.label b ⊎ IsNamed (flat_map results_of (take (k + 1 + r.j) piece.ops)) b → Begun piece (k + 1) b
begun_at piece k ops b l same r late (inl h) = record {
  defined = named_left piece.label (flat_map results_of piece.ops) b h;
  lives = (omega (arith, l.label b (named_contains piece.label b h)), omega (arith, late.1));
}
begun_at piece k ops b l same r late (inr h) =
    let g = given_at piece.ops (k + 1 + r.j) b h in
    let begins = l.result g.i g.op b g.there (named_contains (results_of g.op) b g.named) in
    record {
      defined = named_right piece.label (flat_map results_of piece.ops) b (given_named piece.ops g.i g.op b g.there g.named);
      lives = (
        ⊎_elim
            (λ lt. omega (arith, lt, begins))
            (λ le. absurd (not_between g.i g.op le g.before g.there g.named))
            (cases_lt g.i (k + 1)),
        omega (arith, late.1),
      );
    }
  where
    not_between : (i : ℕ) (o : OptOp) → k + 1 ≤ i → i < k + 1 + r.j → slice_get piece.ops i ≡ Some o → IsNamed (results_of o) b → ⊥
    not_between i o low high e n =
        let x : i ≡ k + 1 + (i - (k + 1)) = omega (arith, low) in
        r.first (i - (k + 1)) o (omega (arith, low, high)) (sym (same (i - (k + 1))) ∙ ap (slice_get piece.ops) (sym x) ∙ e) n

begun : (piece : Piece) (k : ℕ) (ops : List OptOp) (b : BoxId) → AreDefined piece → BoxesLive piece → ((j : ℕ) → slice_get piece.ops (k + 1 + j) ≡ slice_get ops j) → Uses tell.Nothing ops b → Begun piece (k + 1) b
begun piece k ops b d l same u =
    let r = used_at tell.Nothing ops b u in
    let n = k + 1 + r.j in
    let there = same r.j ∙ r.there in
    begun_at piece k ops b l same r (l.used n r.op b there (named_contains (used_by r.op) b r.used)) (named_in piece.label (flat_map results_of (take n piece.ops)) b (all_at piece r.op n b d there r.used))

one_apart : (piece : Piece) (registers : ℕ) (label : List Place) (places : Places) (k : ℕ) (op : OptOp) (ops : List OptOp) → AreNumbered piece → AreDefined piece → BoxesLive piece → Allocated piece registers label places → slice_get piece.ops k ≡ Some op → ((j : ℕ) → slice_get piece.ops (k + 1 + j) ≡ slice_get ops j) → IsApart (where_in places.at) op ops
one_apart piece registers label places k op ops n d l a e same x b named u ne =
    let g = begun piece k ops b d l same u in
    let x_defined = named_right piece.label (flat_map results_of piece.ops) x (given_named piece.ops k op x e named) in
    let begins = l.result k op x e (named_contains (results_of op) x named) in
    let x_lives : LivesAt piece x.number (k + 1) = (omega (arith, begins), omega (arith, begins, lives_first piece x l)) in
    a.apart b.number x.number (k + 1) (where_in places.at b.number) (where_in places.at x.number)
    (numbers_differ piece b x n g.defined x_defined ne) g.lives x_lives
    (slice_get-get_or places.at b.number (Word 16) (omega (arith, a.each, (stands piece b n g.defined).0)))
    (slice_get-get_or places.at x.number (Word 16) (omega (arith, a.each, (stands piece x n x_defined).0)))

all_apart : (piece : Piece) (registers : ℕ) (label : List Place) (places : Places) (k : ℕ) (ops : List OptOp) → AreNumbered piece → AreDefined piece → BoxesLive piece → Allocated piece registers label places → ((j : ℕ) → slice_get piece.ops (k + j) ≡ slice_get ops j) → AreApart (where_in places.at) ops
all_apart piece registers label places k [] n d l a same = tt
all_apart piece registers label places k (op ∷ ops) n d l a same =
    let here : slice_get piece.ops k ≡ Some op = (let z : k ≡ k + 0 = omega arith in ap (slice_get piece.ops) z ∙ same 0) in
    let next : (j : ℕ) → slice_get piece.ops (k + 1 + j) ≡ slice_get ops j = λ j. (let z : k + 1 + j ≡ k + suc j = omega arith in ap (slice_get piece.ops) z ∙ same (suc j)) in
    (one_apart piece registers label places k op ops n d l a here next, all_apart piece registers label places (k + 1) ops n d l a next)

-- ---- boxes that live across calls

-- a box that lives behind an operation, and isn't given by it, began before it
before_at : (piece : Piece) (k : ℕ) (op : OptOp) (ops : List OptOp) (b : BoxId) → BoxesLive piece → slice_get piece.ops k ≡ Some op → ((j : ℕ) → slice_get piece.ops (k + 1 + j) ≡ slice_get ops j) → (IsNamed (results_of op) b → ⊥) → (r : IsUsedAt ops b) → IsNamed piece.label b ⊎ IsNamed (flat_map results_of (take (k + 1 + r.j) piece.ops)) b → start_of piece b.number ≤ k
before_at piece k op ops b l here same not r (inl h) = omega (arith, l.label b (named_contains piece.label b h))
before_at piece k op ops b l here same not r (inr h) =
    let g = given_at piece.ops (k + 1 + r.j) b h in
    let begins = l.result g.i g.op b g.there (named_contains (results_of g.op) b g.named) in
    ⊎_elim
    (λ lt. omega (arith, lt, begins))
    (λ le. ⊎_elim
    (λ lt. absurd (given_here g.i g.op (omega (arith, le, lt)) g.there g.named))
    (λ past. absurd (not_between g.i g.op past g.before g.there g.named))
    (cases_lt g.i (k + 1)))
    (cases_lt g.i k)
  where
    given_here : (i : ℕ) (o : OptOp) → i ≡ k → slice_get piece.ops i ≡ Some o → IsNamed (results_of o) b → ⊥
    given_here i o e there n = not (subst (λ (x : OptOp). IsNamed (results_of x) b) (some_is o op (sym there ∙ ap (slice_get piece.ops) e ∙ here)) n)

    not_between : (i : ℕ) (o : OptOp) → k + 1 ≤ i → i < k + 1 + r.j → slice_get piece.ops i ≡ Some o → IsNamed (results_of o) b → ⊥
    not_between i o low high e n =
        let x : i ≡ k + 1 + (i - (k + 1)) = omega (arith, low) in
        r.first (i - (k + 1)) o (omega (arith, low, high)) (sym (same (i - (k + 1))) ∙ ap (slice_get piece.ops) (sym x) ∙ e) n

kept_apart : (r n : ℕ) → is_kept r ≡ true → is_kept n ≡ false → r ≢ n
kept_apart r n h g e = (let z : true ≡ false = sym h ∙ ap is_kept e ∙ g in absurd (cc))

kept_survives : (r : Reg) → is_kept r.0 ≡ true → Survives (In r)
kept_survives r h = record {
  not_0 = in_other r.0 0 (kept_apart r.0 0 h refl);
  not_1 = in_other r.0 1 (kept_apart r.0 1 h refl);
  not_2 = in_other r.0 2 (kept_apart r.0 2 h refl);
  not_6 = in_other r.0 6 (kept_apart r.0 6 h refl);
  not_7 = in_other r.0 7 (kept_apart r.0 7 h refl);
  not_8 = in_other r.0 8 (kept_apart r.0 8 h refl);
  not_9 = in_other r.0 9 (kept_apart r.0 9 h refl);
  not_10 = in_other r.0 10 (kept_apart r.0 10 h refl);
  not_11 = in_other r.0 11 (kept_apart r.0 11 h refl);
  not_pushed = λ e. in_word r 1048574 e;
}

word_survives : (w : ℕ) → w < 1048320 → Survives (Word w)
word_survives w high = record {
  not_0 = word_other w 0 (omega arith);
  not_1 = word_other w 1 (omega arith);
  not_2 = word_other w 2 (omega arith);
  not_6 = word_other w 6 (omega arith);
  not_7 = word_other w 7 (omega arith);
  not_8 = word_other w 8 (omega arith);
  not_9 = word_other w 9 (omega arith);
  not_10 = word_other w 10 (omega arith);
  not_11 = word_other w 11 (omega arith);
  not_pushed = λ e. (let n = word_is w 1048574 e in omega (arith, n, high));
}

survives_at : (piece : Piece) (registers : ℕ) (label : List Place) (places : Places) (b : ℕ) (p : Place) → Allocated piece registers label places → places.words ≤ 1048320 → slice_get places.at b ≡ Some p → LivesAcross piece b → Survives p
survives_at piece registers label places b (In r) a few e across = kept_survives r ((a.lawful b r.0 e).1 across)
survives_at piece registers label places b (Word w) a few e across = word_survives w (omega (arith, few, a.words, used_words places.at b w e))

one_safe : (piece : Piece) (registers : ℕ) (label : List Place) (places : Places) (k : ℕ) (op : OptOp) (ops : List OptOp) → AreNumbered piece → AreDefined piece → BoxesLive piece → Allocated piece registers label places → places.words ≤ 1048320 → slice_get piece.ops k ≡ Some op → ((j : ℕ) → slice_get piece.ops (k + 1 + j) ≡ slice_get ops j) → IsSafe (where_in places.at) op ops
one_safe piece registers label places k op ops n d l a few e same calling b not u =
    let g = begun piece k ops b d l same u in
    let r = used_at tell.Nothing ops b u in
    let there = same r.j ∙ r.there in
    let first = before_at piece k op ops b l e same not r (named_in piece.label (flat_map results_of (take (k + 1 + r.j) piece.ops)) b (all_at piece r.op (k + 1 + r.j) b d there r.used)) in
    survives_at piece registers label places b.number (where_in places.at b.number) a few
    (slice_get-get_or places.at b.number (Word 16) (omega (arith, a.each, (stands piece b n g.defined).0)))
    (k, op, e, calling, (first, omega (arith, g.lives.1)), g.lives)

all_safe : (piece : Piece) (registers : ℕ) (label : List Place) (places : Places) (k : ℕ) (ops : List OptOp) → AreNumbered piece → AreDefined piece → BoxesLive piece → Allocated piece registers label places → places.words ≤ 1048320 → ((j : ℕ) → slice_get piece.ops (k + j) ≡ slice_get ops j) → AreSafe (where_in places.at) ops
all_safe piece registers label places k [] n d l a few same = tt
all_safe piece registers label places k (op ∷ ops) n d l a few same =
    let here : slice_get piece.ops k ≡ Some op = (let z : k ≡ k + 0 = omega arith in ap (slice_get piece.ops) z ∙ same 0) in
    let next : (j : ℕ) → slice_get piece.ops (k + 1 + j) ≡ slice_get ops j = λ j. (let z : k + 1 + j ≡ k + suc j = omega arith in ap (slice_get piece.ops) z ∙ same (suc j)) in
    (one_safe piece registers label places k op ops n d l a few here next, all_safe piece registers label places (k + 1) ops n d l a few next)

pub places_serve : ((piece : Piece) → AreNumbered piece → AreDefined piece → BoxesLive piece) → PlacesServe
places_serve live piece registers label places n d a few = (
  places_hold piece registers label places a few,
  all_apart piece registers label places 0 piece.ops n d (live piece n d) a (λ j. ap (slice_get piece.ops) (omega arith)),
  all_safe piece registers label places 0 piece.ops n d (live piece n d) a few (λ j. ap (slice_get piece.ops) (omega arith)),
)
