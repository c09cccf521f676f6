-- The pieces of a bridge can be laid out behind an image to which it may be attached.
use Rattle.std.proofs.Common.{◌≡◌, ◌≢◌, ℕ, zero, suc, ◌<◌, ◌≤◌, Bool, true, false, cond, List, [], ◌∷◌, ◌++◌, length, Option, Some, None, refl, sym, ap, ◌∙◌, subst, arith}
use Rattle.std.proofs.lemmas.List.{length-map}
use Rattle.std.specs.Prelude.{map, slice_get, slice_index}
use Rattle.std.specs.List.{Contains}
use Rattle.std.specs.Option.{IsSomeAnd, option_map}
use Rattle.std.proofs.lemmas.Option.{slice_get_within}
use Rattle.trace_ops.specs.declared.trace.BoxId.{BoxId}
use Rattle.trace_ops.specs.declared.trace.Arg.{Arg}
use Rattle.trace_ops.specs.declared.trace.TraceSet.{TraceSet}
use Rattle.trace_ops.specs.declared.piece.PieceId.{PieceId}
use Rattle.trace_ops.specs.declared.piece.OptOp.{OptOp}
use Rattle.trace_ops.specs.declared.piece.OptOp.TheVariants as opt
use Rattle.trace_ops.specs.declared.piece.Piece.{Piece}
use Rattle.trace_ops.specs.Kinds.{kind_of_arg}
use Rattle.trace_ops.specs.Pieces.{FitsLabel}
use Rattle.opt_meaning.specs.Pieces.{same_piece, piece_at}
use Rattle.target_base.specs.declared.place.Place.{Place}
use Rattle.target_base.specs.declared.place.Place.TheVariants.{In, Word}
use Rattle.linear_scan.specs.declared.places.Places.{Places}
use Rattle.linear_scan.specs.Registers.{IsValueRegister}
use Rattle.linear_scan.specs.Living.{start_of as begins_at, starts_from, LivesAt}
use Rattle.linear_scan.specs.Placing.{Allocated, AreDistinct, words_used}
use Rattle.asm_select.specs.Selecting.{IsLabelWord}
use Rattle.bridge_patch.specs.declared.image.PieceHere.{PieceHere}
use Rattle.bridge_patch.specs.Pieces.{Placed, start_of, start_in, label_at}
use Rattle.bridge_patch.specs.Image.{AreHere, label_in}
use Rattle.bridge_patch.specs.Attached.{IsStanding, places_in}
use Rattle.bridge_patch.specs.Bridging.{label_among, start_among, target_label}
use Rattle.bridge_patch.proofs.Compiled.{some_more, same_count}
use Rattle.bridge_patch.proofs.Entering.{word_below}

-- ---- the piece of a name

pub record Found (P : List BoxId → Type 0) (pls : List Placed) (places : List Place) (start : ℕ) : Type 0 where
  pub pl : Placed
  pub there : Contains pls pl
  pub holds : P pl.piece.label
  pub places_are : places ≡ label_at pl
  pub start_is : start ≡ start_of pl

found_if : (P : List BoxId → Type 0) (x : Placed) (xs : List Placed) (q : PieceId) (b : Bool) → IsSomeAnd (option_map (λ (p : Piece). p.label) (cond b (Some x.piece) (piece_at (map (λ (pl : Placed). pl.piece) xs) q))) P
    → (IsSomeAnd (label_in (map (λ (pl : Placed). pl.piece) xs) q) P → Found P xs (places_in xs q) (start_in xs q)) → Found P (x ∷ xs) (cond b (label_at x) (places_in xs q)) (cond b (start_of x) (start_in xs q))
found_if P x xs q true g later = record { pl = x; there = (0, omega arith, refl); holds = g; places_are = refl; start_is = refl }
found_if P x xs q false g later =
    let f = later g in
    let (i, lt, e) = f.there in
    record { pl = f.pl; there = (suc i, omega (arith, lt), e); holds = f.holds; places_are = f.places_are; start_is = f.start_is }

pub found : (P : List BoxId → Type 0) (pls : List Placed) (q : PieceId) → IsSomeAnd (label_in (map (λ (pl : Placed). pl.piece) pls) q) P → Found P pls (places_in pls q) (start_in pls q)
found P [] q h = absurd h
found P (x ∷ xs) q h = found_if P x xs q (same_piece q x.piece.id) h (found P xs q)

pub label_here : (pls : List Placed) (heres : List PieceHere) (q : PieceId) → AreHere pls heres → label_among heres q ≡ places_in pls q
label_here [] [] q h = refl
label_here [] (y ∷ ys) q h = absurd h
label_here (x ∷ xs) [] q h = absurd h
label_here (x ∷ xs) (y ∷ ys) q h =
    ap (λ (i : PieceId). cond (same_piece q i) y.label (label_among ys q)) h.0.id
    ∙ ap (λ (l : List Place). cond (same_piece q x.piece.id) l (label_among ys q)) h.0.label
    ∙ ap (λ (l : List Place). cond (same_piece q x.piece.id) (label_at x) l) (label_here xs ys q h.1)

pub start_here : (pls : List Placed) (heres : List PieceHere) (q : PieceId) → AreHere pls heres → start_among heres q ≡ start_in pls q
start_here [] [] q h = refl
start_here [] (y ∷ ys) q h = absurd h
start_here (x ∷ xs) [] q h = absurd h
start_here (x ∷ xs) (y ∷ ys) q h =
    ap (λ (i : PieceId). cond (same_piece q i) y.start (start_among ys q)) h.0.id
    ∙ ap (λ (n : ℕ). cond (same_piece q x.piece.id) n (start_among ys q)) h.0.start
    ∙ ap (λ (n : ℕ). cond (same_piece q x.piece.id) (start_of x) n) (start_here xs ys q h.1)

-- ---- the places of a standing piece's label

zero_first : (label : List BoxId) (more : List ℕ) (i : ℕ) → i < length label → slice_index (map (λ (b : BoxId). 0) label ++ more) i ≡ 0
zero_first [] more i lt = absurd (omega (arith, lt))
zero_first (b ∷ bs) more zero lt = refl
zero_first (b ∷ bs) more (suc i) lt = zero_first bs more i (omega (arith, lt))

lives_first : (p : Piece) (i : ℕ) → i < length p.label → LivesAt p i 0
lives_first p i lt =
    let e : begins_at p i ≡ 0 = zero_first p.label (starts_from 0 p.ops) i lt in
    (omega (arith, e), omega arith)

pub record GoodPlaces (to : List Place) : Type 0 where
  pub each : (i : ℕ) (p : Place) → slice_get to i ≡ Some p → IsLabelWord p
  pub distinct : AreDistinct to

more_registers : (registers r : ℕ) → registers ≤ 12 → IsValueRegister registers r → IsValueRegister 12 r
more_registers registers r le (i, lt, e) = (i, omega (arith, lt, le), e)

good_at : (registers i : ℕ) (p : Piece) (label : List Place) (places : Places) (q : Place) → registers ≤ 12 → words_used label ≤ 300000 → Allocated p registers label places → slice_get label i ≡ Some q → IsLabelWord q
good_at registers i p label places (In r) le few a e = more_registers registers r.0 le (a.lawful i r.0 (a.labels i (In r) e)).0
good_at registers i p label places (Word w) le few a e = (a.low i w (a.labels i (Word w) e), omega (arith, word_below label i w e, few))

pub label_good : (set : TraceSet) (registers words : ℕ) (pl : Placed) → IsStanding set registers words pl → words ≤ 300000 → GoodPlaces (label_at pl)
label_good set registers words pl h le =
    let a = h.allocated in
    let long : length (label_at pl) ≡ length pl.piece.label = length-map pl.piece.label (λ (b : BoxId). pl.setting.at b.number) in record {
      each = λ i q e. good_at registers i pl.piece (label_at pl) h.places q h.can.within.1 (omega (arith, h.few, le)) a e;
      distinct = λ i j p q lt ei ej.
          let wi = slice_get_within (label_at pl) i p ei in
          let wj = slice_get_within (label_at pl) j q ej in
          a.apart i j 0 p q (λ (s : i ≡ j). omega (arith, s, lt)) (lives_first pl.piece i (omega (arith, wi, long))) (lives_first pl.piece j (omega (arith, wj, long))) (a.labels i p ei) (a.labels j q ej);
    }

-- ---- the label to which a piece jumps

none_good : GoodPlaces []
none_good = record { each = λ i p e. absurd (no i (slice_get_within [] i p e)); distinct = λ i j p q lt ei ej same. no i (slice_get_within [] i p ei) }
  where
    no : (i : ℕ) → i < 0 → ⊥
    no i h = omega (arith, h)

-- what is known of the label to which the last operation jumps
pub record Targeted (placed : List Placed) (heres : List PieceHere) (o : Option OptOp) : Type 0 where
  pub good : GoodPlaces (target_label heres o)
  pub count : (to : PieceId) (args : List Arg) → o ≡ Some (opt.Jump to args) → length args ≡ length (target_label heres o)
  pub few : (n : ℕ) → ((to : PieceId) (args : List Arg) → o ≡ Some (opt.Jump to args) → length args ≤ n) → length (target_label heres o) ≤ n

some_op : {a b : OptOp} → Some a ≡ Some b → a ≡ b
some_op e = cc

no_op : {b : OptOp} → None ≡ Some b → ⊥
no_op e = cc

jump_args_are : {to q : PieceId} {args bs : List Arg} → opt.Jump to args ≡ opt.Jump q bs → args ≡ bs
jump_args_are e = cc

other : (placed : List Placed) (heres : List PieceHere) (op : OptOp) → target_label heres (Some op) ≡ [] → ((to : PieceId) (args : List Arg) → op ≢ opt.Jump to args) → Targeted placed heres (Some op)
other placed heres op e away = record {
  good = subst GoodPlaces (sym e) none_good;
  count = λ to args h. absurd (away to args (some_op h));
  few = λ n h. omega (arith, ap length e);
}

pub target_fits : (set : TraceSet) (registers words : ℕ) (placed : List Placed) (heres : List PieceHere) (o : Option OptOp) → words ≤ 300000 → AreHere placed heres → ((pl : Placed) → Contains placed pl → IsStanding set registers words pl)
    → ((op : OptOp) → o ≡ Some op → FitsLabel (label_in (map (λ (pl : Placed). pl.piece) placed)) op) → Targeted placed heres o
target_fits set registers words placed heres None le h st fits = record { good = none_good; count = λ to args e. absurd (no_op e); few = λ n e. omega arith }
target_fits set registers words placed heres (Some (opt.Plain operation r args d)) le h st fits = other placed heres (opt.Plain operation r args d) refl (λ to bs e. plain e)
  where
    plain : {to : PieceId} {bs : List Arg} → opt.Plain operation r args d ≡ opt.Jump to bs → ⊥
    plain e = cc
target_fits set registers words placed heres (Some (opt.Guard operation args n snap)) le h st fits = other placed heres (opt.Guard operation args n snap) refl (λ to bs e. guarded e)
  where
    guarded : {to : PieceId} {bs : List Arg} → opt.Guard operation args n snap ≡ opt.Jump to bs → ⊥
    guarded e = cc
target_fits set registers words placed heres (Some (opt.Exit n snap)) le h st fits = other placed heres (opt.Exit n snap) refl (λ to bs e. left e)
  where
    left : {to : PieceId} {bs : List Arg} → opt.Exit n snap ≡ opt.Jump to bs → ⊥
    left e = cc
target_fits set registers words placed heres (Some (opt.Finish value)) le h st fits = other placed heres (opt.Finish value) refl (λ to bs e. ended e)
  where
    ended : {to : PieceId} {bs : List Arg} → opt.Finish value ≡ opt.Jump to bs → ⊥
    ended e = cc
target_fits set registers words placed heres (Some (opt.Jump q args)) le h st fits =
    let ps = map (λ (pl : Placed). pl.piece) placed in
    let counted = some_more (label_in ps q) (λ (label : List BoxId). map kind_of_arg args ≡ map (λ (b : BoxId). Some b.kind) label) (λ (label : List BoxId). length args ≡ length label) (same_count args) (fits (opt.Jump q args) refl) in
    let f = found (λ (label : List BoxId). length args ≡ length label) placed q counted in
    let same : label_among heres q ≡ label_at f.pl = label_here placed heres q h ∙ f.places_are in
    let long : length (label_among heres q) ≡ length args = ap length same ∙ length-map f.pl.piece.label (λ (b : BoxId). f.pl.setting.at b.number) ∙ sym f.holds in record {
      good = subst GoodPlaces (sym same) (label_good set registers words f.pl (st f.pl f.there) le);
      count = λ to bs e. ap length (sym (jump_args_are (some_op e))) ∙ sym long;
      few = λ n e. omega (arith, long, e q args refl);
    }
