-- The pieces in the code once a bridge is attached.
use Rattle.std.proofs.Common.{◌≡◌, ◌≢◌, ◌⊎◌, inl, inr, ℕ, zero, suc, ◌+◌, ◌<◌, Bool, true, false, cond, List, [], ◌∷◌, ◌++◌, length, map, append_assoc, Option, Some, None, refl, sym, ap, ◌∙◌, subst, arith}
use Rattle.std.specs.Prelude.{slice_index}
use Rattle.std.specs.List.{All, AllByRecursion, AllZip, Contains}
use Rattle.std.proofs.lemmas.List.{map-append, length-map}
use Rattle.std.proofs.lemmas.Option.{slice_get_within}
use Rattle.lists.specs.Has.{Has}
use Rattle.trace_ops.specs.declared.trace.BoxId.{BoxId}
use Rattle.trace_ops.specs.declared.trace.TraceSet.{TraceSet}
use Rattle.trace_ops.specs.declared.piece.Half.{Half}
use Rattle.trace_ops.specs.declared.piece.PieceId.{PieceId}
use Rattle.trace_ops.specs.declared.piece.OptOp.{OptOp}
use Rattle.trace_ops.specs.declared.piece.Piece.{Piece}
use Rattle.trace_ops.specs.InRange.{IsInRange}
use Rattle.trace_ops.specs.Pieces.{FitsLabel}
use Rattle.trace_ops.specs.Sound.{IsSound}
use Rattle.trace_ops.specs.WellFormed.{IsWellFormed}
use Rattle.trace_meaning.specs.Cuts.{is_bridge_of}
use Rattle.opt_meaning.specs.Pieces.{piece_at, ops_at}
use Rattle.target_base.specs.declared.place.Place.{Place}
use Rattle.guard_exit.specs.declared.row.ExitRow.{ExitRow}
use Rattle.linear_scan.specs.Living.{start_of}
use Rattle.linear_scan.specs.Placing.{AreDistinct, Allocated}
use Rattle.linear_scan.specs.declared.places.Places.{Places}
use Rattle.asm_select.specs.Slots.{HaveRows, puts}
use Rattle.asm_select.specs.Chosen.{Setting}
use Rattle.asm_select.specs.Exited.{shown_by}
use Rattle.asm_select.specs.Valued.{MayHold}
use Rattle.x64_encode.specs.declared.instr.Instr.{Instr}
use Rattle.bridge_patch.specs.Pieces.{Placed, label_at}
use Rattle.bridge_patch.specs.Image.{Imaged, label_in, KeepsItsGuard}
use Rattle.bridge_patch.specs.Bridged.{IsBridge, LacksParent, bridge_on, is_from}
use Rattle.bridge_patch.specs.Attached.{IsKnown, IsStanding, IsImageOf, IsCopy, AreOfBridge, copies_among, entry_code, IsEntered, IsMoved, IsGrown, led_on, guard_of, words_for}
use Rattle.image_model.specs.Staying.{SoundPiecesStayReady}
use Rattle.image_built.specs.Built.{keyed}
use Rattle.image_built.proofs.Splitting.{keys_in}
use Rattle.image_built.proofs.Naming.{TellsNames, AreOnce, piece_of, all_here, each_weaker, each_append, some_is}
use Rattle.image_built.proofs.Rowing.{has_of, contains_of, has_cases}
use Rattle.image_built.proofs.Entering.{entry_rows}
use Rattle.image_built.proofs.Placing.{Setup, IsSet, IsLawful, HasMoves, shown_at, IsBridged, Made, spot, stay_ready}
use Rattle.image_built.proofs.Sourcing.{one_source, is_on, on_append, is_some_on}
use Rattle.image_built.proofs.Growing.{each_second, each_map, of_map, has_middle, around, InBoth, First, Second, in_both, of_made, once_append, once_halves, others_apart, all_fit_more, one_guard, from_guard, RowAt, row_at, copy_row}
use Rattle.image_built.proofs.Imaging.{slots_short}

-- ---- one piece

standing_set : (set : TraceSet) (registers words : ℕ) (pl : Placed) → IsStanding set registers words pl → IsSet set pl
standing_set set registers words pl h = record { table = h.table; serves = h.serves; hold = h.hold; apart = h.apart; safe = h.safe; chosen = h.chosen }

standing_lawful : (set : TraceSet) (registers words : ℕ) (pl : Placed) → IsStanding set registers words pl → IsLawful set pl.piece
standing_lawful set registers words pl h = record { label_of = h.can.label_of; sound = h.can.sound }

map_each : {X Y : Type 0} (P : Y → Type 0) (f : X → Y) (xs : List X) → AllByRecursion (λ (x : X). P (f x)) xs → AllByRecursion P (map f xs)
map_each P f xs h = each_map P f xs h

places_held : (pl : Placed) (bs : List BoxId) (P : Place → Type 0) → ((b : ℕ) → P (pl.setting.at b)) → AllByRecursion P (map (λ (b : BoxId). pl.setting.at b.number) bs)
places_held pl [] P h = tt
places_held pl (b ∷ bs) P h = (h b.number, places_held pl bs P h)

-- boxes of a label begin at operation 0, so their places differ
label_start : (label : List BoxId) (more : List ℕ) (b : ℕ) → b < length label → slice_index (map (λ (x : BoxId). 0) label ++ more) b ≡ 0
label_start [] more b lt = absurd (none b lt)
  where
    none : (b : ℕ) → b < 0 → ⊥
    none b lt = omega (arith, lt)
label_start (x ∷ label) more zero lt = refl
label_start (x ∷ label) more (suc b) lt = label_start label more b (omega (arith, lt))

label_distinct : (pl : Placed) (registers : ℕ) (places : Places) → Allocated pl.piece registers (label_at pl) places → AreDistinct (label_at pl)
label_distinct pl registers places h i j p q lt e f =
    let many : length (label_at pl) ≡ length pl.piece.label = length-map pl.piece.label (λ (b : BoxId). pl.setting.at b.number) in
    let a : start_of pl.piece i ≡ 0 = label_start pl.piece.label _ i (omega (arith, slice_get_within (label_at pl) i p e, many)) in
    let b : start_of pl.piece j ≡ 0 = label_start pl.piece.label _ j (omega (arith, slice_get_within (label_at pl) j q f, many)) in
    let ne : i ≢ j = λ s. (let no : i ≡ j = s in omega (arith, no, lt)) in
    h.apart i j 0 p q ne (omega (arith, a), omega arith) (omega (arith, b), omega arith) (h.labels i p e) (h.labels j q f)

-- ---- an attachment

-- what an attachment of a bridge is, beside what it makes
pub record Joins (set : TraceSet) (bridge : ℕ) (pieces : List Piece) (placed : List Placed) (old new : Imaged) : Type 0 where
  pub range : IsInRange set
  pub formed : IsWellFormed set
  pub is_bridge : IsBridge set bridge
  pub fresh : ¬ Contains old.attached bridge
  pub parent : ¬ LacksParent set old.attached bridge
  pub fit : AreOfBridge set placed bridge pieces
  pub here : IsImageOf set placed old
  pub attached : new.attached ≡ old.attached ++ bridge ∷ []
  pub grown : IsGrown set bridge pieces placed old new
  pub parents : (b : ℕ) → Has old.attached b → ¬ LacksParent set old.attached b

-- the pieces behind it
abbrev pub after : TraceSet → ℕ → List Placed → List Placed → List Placed
after set bridge news placed = map (led_on set.traces bridge news) placed ++ news

pieces_led : (set : TraceSet) (bridge : ℕ) (news placed : List Placed) → map piece_of (map (led_on set.traces bridge news) placed) ≡ map piece_of placed
pieces_led set bridge news [] = refl
pieces_led set bridge news (pl ∷ pls) = ap (λ (l : List Piece). pl.piece ∷ l) (pieces_led set bridge news pls)

pub pieces_after : (set : TraceSet) (bridge : ℕ) (news placed : List Placed) → map piece_of (after set bridge news placed) ≡ map piece_of placed ++ map piece_of news
pieces_after set bridge news placed = map-append piece_of (map (led_on set.traces bridge news) placed) news ∙ ap (λ (l : List Piece). l ++ map piece_of news) (pieces_led set bridge news placed)

pub keys_led : (set : TraceSet) (bridge : ℕ) (news placed : List Placed) → keys_in (map (led_on set.traces bridge news) placed) ≡ keys_in placed
keys_led set bridge news [] = refl
keys_led set bridge news (pl ∷ pls) = ap (λ (n : ℕ). length pl.piece.ops + n) (keys_led set bridge news pls)

-- the settings of the pieces behind an attachment are those of the pieces in front of it
pub settled_before : (set : TraceSet) (bridge : ℕ) (news placed : List Placed) (settings : PieceId → Setting)
    → ((before more : List Placed) (pl : Placed) → after set bridge news placed ≡ before ++ pl ∷ more → settings pl.piece.id ≡ keyed (keys_in before) pl.setting)
    → (before more : List Placed) (pl : Placed) → placed ≡ before ++ pl ∷ more → settings pl.piece.id ≡ keyed (keys_in before) pl.setting
settled_before set bridge news placed settings h before more pl e =
    let f = led_on set.traces bridge news in
    let here : after set bridge news placed ≡ map f before ++ f pl ∷ (map f more ++ news) = ap (λ (l : List Placed). map f l ++ news) e ∙ ap (λ (l : List Placed). l ++ news) (map-append f before (pl ∷ more)) ∙ append_assoc (map f before) (f pl ∷ map f more) news in
    h (map f before) (map f more ++ news) (f pl) here ∙ ap (λ (n : ℕ). keyed n pl.setting) (keys_led set bridge news before)

-- no name stands twice
pub once_after : TellsNames → (set : TraceSet) (bridge : ℕ) (pieces : List Piece) (placed : List Placed) (old new : Imaged) (z : Joins set bridge pieces placed old new) → AreOnce (map piece_of placed) → AreOnce (map piece_of (after set bridge z.grown.news placed))
once_after names set bridge pieces placed old new z once =
    let ps = map piece_of placed in
    let others = map_each (λ (x : Piece). x.id.trace ≢ bridge) piece_of placed (each_weaker (λ (pl : Placed). IsKnown set old.attached pl.piece.id.trace) (λ (pl : Placed). pl.piece.id.trace ≢ bridge) placed known_apart z.here.known) in
    let same : map piece_of (after set bridge z.grown.news placed) ≡ ps ++ pieces = pieces_after set bridge z.grown.news placed ∙ ap (λ (l : List Piece). ps ++ l) z.grown.are in
    subst AreOnce (sym same) (once_append ps pieces once (once_halves names pieces z.fit.once) (others_apart names bridge ps pieces others z.fit.named))
  where
    known_apart : (pl : Placed) → IsKnown set old.attached pl.piece.id.trace → pl.piece.id.trace ≢ bridge
    known_apart pl (inl h) e = h (subst (IsBridge set) (sym e) z.is_bridge)
    known_apart pl (inr h) e = z.fresh (subst (Contains old.attached) e h)

-- no bridge lacks its parent
pub parents_after : (set : TraceSet) (bridge : ℕ) (pieces : List Piece) (placed : List Placed) (old new : Imaged) (z : Joins set bridge pieces placed old new) (b : ℕ) → Has new.attached b → ¬ LacksParent set new.attached b
parents_after set bridge pieces placed old new z b h lacks =
    let old_lacks : LacksParent set old.attached b = record {
      parent = lacks.parent;
      guard = lacks.guard;
      from = lacks.from;
      bridge = lacks.bridge;
      away = λ c. lacks.away (subst (λ (l : List ℕ). Contains l lacks.parent) (sym z.attached) (contains_of (old.attached ++ bridge ∷ []) lacks.parent (left old.attached (bridge ∷ []) lacks.parent (has_of old.attached lacks.parent c))));
    } in
    by (has_cases old.attached (bridge ∷ []) b (subst (λ (l : List ℕ). Has l b) z.attached h)) old_lacks
  where
    left : (xs ys : List ℕ) (x : ℕ) → Has xs x → Has (xs ++ ys) x
    left [] ys x w = absurd w
    left (y ∷ xs) ys x (inl e) = inl e
    left (y ∷ xs) ys x (inr w) = inr (left xs ys x w)

    by : Has old.attached b ⊎ Has (bridge ∷ []) b → LacksParent set old.attached b → ⊥
    by (inl w) l = z.parents b w l
    by (inr (inl e)) l = z.parent (subst (LacksParent set old.attached) (sym e) l)
    by (inr (inr w)) l = w

module _ (set : TraceSet) (whole : List Piece) (settings : PieceId → Setting) (bridge : ℕ) (pieces : List Piece) (placed : List Placed) (old new : Imaged) (z : Joins set bridge pieces placed old new)
    (m : Made set (record { pieces = whole; settings = settings; bridges = old.attached }) (map piece_of placed) placed) where
  abbrev news : List Placed
  news = z.grown.news

  abbrev f : Placed → Placed
  f = led_on set.traces bridge news

  abbrev ps : List Piece
  ps = map piece_of placed

  abbrev all : List Placed
  all = after set bridge news placed

  abbrev setup : Setup
  setup = record { pieces = whole; settings = settings; bridges = old.attached }

  abbrev Stand : Placed → Type 0
  Stand = IsStanding set new.registers (words_for set new.attached)

  same_pieces : map piece_of all ≡ ps ++ pieces
  same_pieces = pieces_after set bridge news placed ∙ ap (λ (l : List Piece). ps ++ l) z.grown.are

  stand_all : AllByRecursion Stand all
  stand_all = z.grown.image_of.standing

  stand_news : AllByRecursion Stand news
  stand_news = each_second Stand (map f placed) news stand_all

  -- no name twice
  once_all : AreOnce (map piece_of all)
  once_all = once_after m.names set bridge pieces placed old new z m.once

  -- what holds of pieces
  lawful_all : AllByRecursion (IsLawful set) (map piece_of all)
  lawful_all = map_each (IsLawful set) piece_of all (each_weaker Stand (λ (pl : Placed). IsLawful set pl.piece) all (standing_lawful set new.registers (words_for set new.attached)) stand_all)

  abbrev FitsIn : List Piece → Piece → Type 0
  FitsIn l p = All (FitsLabel (label_in l)) p.ops

  fits_all : AllByRecursion (FitsIn (map piece_of all)) (map piece_of all)
  fits_all =
      let first = each_weaker (FitsIn ps) (FitsIn (ps ++ pieces)) ps (λ p h. all_fit_more ps pieces p.ops h) m.fits in
      let second = each_weaker (IsSound set (label_in ps)) (FitsIn (ps ++ pieces)) pieces (λ p h. all_fit_more ps pieces p.ops h.jumps_fit) z.fit.sound in
      subst (λ (l : List Piece). AllByRecursion (FitsIn l) l) (sym same_pieces) (each_append (FitsIn (ps ++ pieces)) ps pieces first second)

  guards_all : AllByRecursion (λ (p : Piece). All KeepsItsGuard p.ops) (map piece_of all)
  guards_all = map_each (λ (p : Piece). All KeepsItsGuard p.ops) piece_of all (each_weaker Stand (λ (pl : Placed). All KeepsItsGuard pl.piece.ops) all (λ pl h. h.can.guards) stand_all)

  -- the row of a copy
  row_there : (row : ExitRow) → Contains (copies_among set.traces bridge old.exits) row → RowAt placed row
  row_there row h = row_at set.traces bridge placed row (subst (λ (rows : List ExitRow). Has (copies_among set.traces bridge rows) row) z.here.exits (has_of (copies_among set.traces bridge old.exits) row h))

  -- what stands in front
  front_new : (pl : Placed) → Stand pl → IsEntered set.traces bridge old.exits pl → HasMoves pl
  front_new pl h e = λ by. (let r = row_there e.row e.there in
      let own = all_here (IsSet set) r.before r.after r.pl (subst (AllByRecursion (IsSet set)) r.here m.chosen) in
      let from = map (λ (x : BoxId × Place). x.1) e.row.places in
      let held : AllByRecursion MayHold from = subst (AllByRecursion MayHold) (sym r.tells.places) (places_held r.pl (shown_by r.op) MayHold own.hold) in
      subst (λ (l : List Instr). HaveRows by (puts l)) (sym e.front) (entry_rows by from (label_at pl) held (places_held pl pl.piece.label MayHold h.hold)))

  fronts_new : (pls : List Placed) → AllByRecursion Stand pls → AllByRecursion (IsEntered set.traces bridge old.exits) pls → AllByRecursion HasMoves pls
  fronts_new [] h e = tt
  fronts_new (pl ∷ pls) h e = (front_new pl h.0 e.0, fronts_new pls h.1 e.1)

  fronts_all : AllByRecursion HasMoves all
  fronts_all = each_append HasMoves (map f placed) news (map_each HasMoves f placed m.fronts) (fronts_new news stand_news z.grown.entered)

  -- ---- bridges of pieces that were there

  -- two of them that have one name
  same_named : (b0 a0 b1 a1 : List Placed) (x y : Placed) → placed ≡ b0 ++ x ∷ a0 → placed ≡ b1 ++ y ∷ a1 → x.piece.id ≡ y.piece.id → (x.piece ≡ y.piece) × (x.setting.at ≡ y.setting.at)
  same_named b0 a0 b1 a1 x y e0 e1 same =
      let s = spot set setup ps b0 a0 x (subst (Made set setup ps) e0 m) in
      let t = spot set setup ps b1 a1 y (subst (Made set setup ps) e1 m) in
      (some_is (sym s.at ∙ ap (piece_at ps) same ∙ t.at), ap (λ (d : Setting). d.at) (sym s.setting ∙ ap settings same ∙ t.setting))

  led_here : (before more : List Placed) (pl : Placed) → placed ≡ before ++ pl ∷ more → all ≡ map f before ++ f pl ∷ (map f more ++ news)
  led_here before more pl e = ap (λ (l : List Placed). map f l ++ news) e ∙ ap (λ (l : List Placed). l ++ news) (map-append f before (pl ∷ more)) ∙ append_assoc (map f before) (f pl ∷ map f more) news

  -- one that was attached
  bridged_before : (pl : Placed) (op : OptOp) (b : ℕ) → IsBridged set placed pl op b → IsBridged set all (f pl) op b
  bridged_before pl op b h = record {
    before = map f h.before;
    to = f h.to;
    after = map f h.after ++ news;
    here = led_here h.before h.after h.to h.here;
    named = h.named;
    front = h.front;
    moved = h.moved;
    distinct = h.distinct;
    kinds = h.kinds;
  }

  -- the operation of the row is the copy
  copy_places : (before more : List Placed) (pl : Placed) (done rest : List OptOp) (op : OptOp) (n : ℕ) (row : ExitRow) → placed ≡ before ++ pl ∷ more → pl.piece.ops ≡ done ++ op ∷ rest → guard_of op ≡ Some n → is_bridge_of set.traces pl.piece.id.trace n bridge ≡ true
      → Contains (copies_among set.traces bridge old.exits) row → row.id.half ≡ pl.piece.id.half → map (λ (x : BoxId × Place). x.1) row.places ≡ shown_at pl op
  copy_places before more pl done rest op n row e split g is there half =
      let r = row_there row there in
      let c = copy_row set.traces bridge old.exits row (has_of (copies_among set.traces bridge old.exits) row there) in
      let from : is_from set.traces bridge r.pl.piece.id.trace (guard_of r.op) ≡ true = ap (is_from set.traces bridge r.pl.piece.id.trace) (sym r.tells.told) ∙ ap (λ (q : PieceId). is_from set.traces bridge q.trace row.guard) (sym r.tells.owner) ∙ c.from in
      let q = from_guard set.traces bridge r.pl.piece.id.trace (guard_of r.op) from in
      let one = one_source set.traces r.pl.piece.id.trace q.0 pl.piece.id.trace n bridge q.2 is in
      let halves : r.pl.piece.id.half ≡ pl.piece.id.half = ap (λ (i : PieceId). i.half) (sym r.tells.owner) ∙ half in
      let id : r.pl.piece.id ≡ pl.piece.id = id_same r.pl.piece.id pl.piece.id one.0 halves in
      let both = same_named r.before r.after before more r.pl pl r.here e id in
      let s = spot set setup ps before more pl (subst (Made set setup ps) e m) in
      let has_row : Has pl.piece.ops r.op = subst (λ (l : List OptOp). Has l r.op) (sym r.split ∙ ap (λ (p : Piece). p.ops) both.0) (has_middle r.done r.rest r.op) in
      let has_own : Has pl.piece.ops op = subst (λ (l : List OptOp). Has l op) (sym split) (has_middle done rest op) in
      let same : r.op ≡ op = one_guard pl.piece.ops r.op op n s.lawful.sound.formed.guards_distinct has_row has_own (q.1 ∙ ap Some one.1) g in
      r.tells.places ∙ ap (λ (o : OptOp). map (λ (b : BoxId). r.pl.setting.at b.number) (shown_by o)) same ∙ ap (λ (at : ℕ → Place). map (λ (b : BoxId). at b.number) (shown_by op)) both.1
    where
      id_same : (x y : PieceId) → x.trace ≡ y.trace → x.half ≡ y.half → x ≡ y
      id_same x y a b = ap (λ (t : ℕ). record { trace = t; half = x.half }) a ∙ ap (λ (h : Half). record { trace = y.trace; half = h }) b

  -- the one that is attached now
  bridged_now : (before more : List Placed) (pl : Placed) (done rest : List OptOp) (op : OptOp) (n : ℕ) → placed ≡ before ++ pl ∷ more → pl.piece.ops ≡ done ++ op ∷ rest → guard_of op ≡ Some n → is_bridge_of set.traces pl.piece.id.trace n bridge ≡ true → IsBridged set all (f pl) op bridge
  bridged_now before more pl done rest op n e split g is =
      let from : is_from set.traces bridge pl.piece.id.trace (guard_of op) ≡ true = ap (is_from set.traces bridge pl.piece.id.trace) g ∙ is in
      let copy : IsCopy set.traces bridge placed pl.piece.id.half op = record {
        pl = pl;
        there = subst (λ (l : List Placed). Contains l pl) (sym e) (contains_of (before ++ pl ∷ more) pl (has_middle before more pl));
        half = refl;
        among = subst (λ (l : List OptOp). Contains l op) (sym split) (contains_of (done ++ op ∷ rest) op (has_middle done rest op));
        from = from;
      } in
      let each = z.fit.each pl.piece.id.half op copy in
      let a = around pieces each.0 (has_of pieces each.0 each.1) in
      let y = of_made piece_of news a.before a.after each.0 (z.grown.are ∙ a.here) in
      let own = all_here Stand y.first y.last y.x (subst (AllByRecursion Stand) y.here stand_news) in
      let entered = all_here (IsEntered set.traces bridge old.exits) y.first y.last y.x (subst (AllByRecursion (IsEntered set.traces bridge old.exits)) y.here z.grown.entered) in
      let half : y.x.piece.id.half ≡ pl.piece.id.half = ap (λ (p : Piece). p.id.half) y.is ∙ each.2 in
      let trace : y.x.piece.id.trace ≡ bridge = ap (λ (p : Piece). p.id.trace) y.is ∙ all_here (λ (p : Piece). p.id.trace ≡ bridge) a.before a.after each.0 (subst (AllByRecursion (λ (p : Piece). p.id.trace ≡ bridge)) a.here z.fit.named) in
      let places = copy_places before more pl done rest op n entered.row e split g is entered.there (entered.half ∙ half) in
      let kinds = z.fit.labels each.0 op each.1 (subst (λ (h : Half). IsCopy set.traces bridge placed h op) (sym each.2) copy) in
      let front : y.x.front ≡ entry_code (shown_at pl op) (label_at y.x) = subst (λ (l : List Place). y.x.front ≡ entry_code l (label_at y.x)) places entered.front in
      let moved : AllZip (IsMoved (shown_at pl op)) (shown_at pl op) (label_at y.x) = subst (λ (l : List Place). AllZip (IsMoved l) l (label_at y.x)) places entered.moved in record {
        before = map f placed ++ y.first;
        to = y.x;
        after = y.last;
        here = ap (λ (l : List Placed). map f placed ++ l) y.here ∙ sym (append_assoc (map f placed) y.first (y.x ∷ y.last));
        named = ap (λ (t : ℕ). record { trace = t; half = y.x.piece.id.half }) trace ∙ ap (λ (h : Half). record { trace = bridge; half = h }) half;
        front = front;
        moved = moved;
        distinct = label_distinct y.x new.registers own.places own.allocated;
        kinds = ap (λ (p : Piece). map (λ (x : BoxId). x.kind) p.label) y.is ∙ kinds;
      }

  old_either : (before more : List Placed) (pl : Placed) (done rest : List OptOp) (op : OptOp) (n b : ℕ) (o : Option ℕ) (t : Bool) → placed ≡ before ++ pl ∷ more → pl.piece.ops ≡ done ++ op ∷ rest → guard_of op ≡ Some n
      → bridge_on set.traces old.attached pl.piece.id.trace n ≡ o → is_bridge_of set.traces pl.piece.id.trace n bridge ≡ t → cond (is_some_on o) o (cond t (Some bridge) None) ≡ Some b → IsBridged set all (f pl) op b
  old_either before more pl done rest op n b (Some c) t e split g on is h = bridged_before pl op b (m.bridged before more pl done rest op n b e split g (on ∙ h))
  old_either before more pl done rest op n b None true e split g on is h = subst (IsBridged set all (f pl) op) (some_is h) (bridged_now before more pl done rest op n e split g is)
  old_either before more pl done rest op n b None false e split g on is h = absurd (cc)

  old_bridged : (before more : List Placed) (pl : Placed) (done rest : List OptOp) (op : OptOp) (n b : ℕ) → placed ≡ before ++ pl ∷ more → pl.piece.ops ≡ done ++ op ∷ rest → guard_of op ≡ Some n
      → bridge_on set.traces (old.attached ++ bridge ∷ []) pl.piece.id.trace n ≡ Some b → IsBridged set all (f pl) op b
  old_bridged before more pl done rest op n b e split g on =
      old_either before more pl done rest op n b (bridge_on set.traces old.attached pl.piece.id.trace n) (is_bridge_of set.traces pl.piece.id.trace n bridge) e split g refl refl
      (sym (on_append set.traces old.attached bridge pl.piece.id.trace n (bridge_on set.traces old.attached pl.piece.id.trace n) refl) ∙ on)

  -- ---- the new pieces have none

  no_child : (n b : ℕ) → Has (old.attached ++ bridge ∷ []) b → is_bridge_of set.traces bridge n b ≡ true → ⊥
  no_child n b h is = by (has_cases old.attached (bridge ∷ []) b h)
    where
      lacks : LacksParent set old.attached b
      lacks = record { parent = bridge; guard = n; from = is; bridge = z.is_bridge; away = z.fresh }

      by : Has old.attached b ⊎ Has (bridge ∷ []) b → ⊥
      by (inl w) = z.parents b w lacks
      by (inr (inl e)) = z.parent (subst (LacksParent set old.attached) (sym e) lacks)
      by (inr (inr w)) = w

  new_traces : AllByRecursion (λ (pl : Placed). pl.piece.id.trace ≡ bridge) news
  new_traces = of_map (λ (p : Piece). p.id.trace ≡ bridge) piece_of news (subst (AllByRecursion (λ (p : Piece). p.id.trace ≡ bridge)) (sym z.grown.are) z.fit.named)

  new_unbridged : (front more : List Placed) (pl : Placed) (n b : ℕ) → news ≡ front ++ pl ∷ more → bridge_on set.traces (old.attached ++ bridge ∷ []) pl.piece.id.trace n ≡ Some b → ⊥
  new_unbridged front more pl n b e on =
      let trace = all_here (λ (x : Placed). x.piece.id.trace ≡ bridge) front more pl (subst (AllByRecursion (λ (x : Placed). x.piece.id.trace ≡ bridge)) e new_traces) in
      let y = is_on set.traces (old.attached ++ bridge ∷ []) bridge n b (ap (λ (t : ℕ). bridge_on set.traces (old.attached ++ bridge ∷ []) t n) (sym trace) ∙ on) in
      no_child n b y.has y.is

  bridged_either : (before more : List Placed) (pl : Placed) (done rest : List OptOp) (op : OptOp) (n b : ℕ) → InBoth (map f placed) news before more pl → pl.piece.ops ≡ done ++ op ∷ rest → guard_of op ≡ Some n → bridge_on set.traces (old.attached ++ bridge ∷ []) pl.piece.id.trace n ≡ Some b → IsBridged set all pl op b
  bridged_either before more pl done rest op n b (First last here is) split g on =
      let y = of_made f placed before last pl here in
      subst (λ (x : Placed). IsBridged set all x op b) y.is
      (old_bridged y.first y.last y.x done rest op n b y.here (ap (λ (x : Placed). x.piece.ops) y.is ∙ split) g (ap (λ (x : Placed). bridge_on set.traces (old.attached ++ bridge ∷ []) x.piece.id.trace n) y.is ∙ on))
  bridged_either before more pl done rest op n b (Second front here is) split g on = absurd (new_unbridged front more pl n b here on)

  -- ---- all of them

  pub made_after : SoundPiecesStayReady → ((q : PieceId) (p : Piece) → piece_at (map piece_of all) q ≡ Some p → ops_at whole q ≡ p.ops)
      → ((before more : List Placed) (pl : Placed) → all ≡ before ++ pl ∷ more → settings pl.piece.id ≡ keyed (keys_in before) pl.setting)
      → Made set (record { pieces = whole; settings = settings; bridges = new.attached }) (map piece_of all) all
  made_after stays within settle =
      let i = z.grown.image_of in record {
        names = m.names;
        jumps = m.jumps;
        pieces = refl;
        end = length new.bytes;
        last = i.last;
        laid = i.laid;
        chosen = each_weaker Stand (IsSet set) all (standing_set set new.registers (words_for set new.attached)) stand_all;
        leads = i.leads;
        short = slots_short all (length new.bytes) i.last new.bytes i.laid i.code (omega (arith, i.room));
        once = once_all;
        sound = lawful_all;
        fits = fits_all;
        guards = guards_all;
        ready = stay_ready stays set (map piece_of all) z.range.table lawful_all;
        fronts = fronts_all;
        bridged = λ before more pl done rest op n b here split g on. bridged_either before more pl done rest op n b (in_both (map f placed) news before more pl here) split g (ap (λ (bs : List ℕ). bridge_on set.traces bs pl.piece.id.trace n) (sym z.attached) ∙ on);
        within = within;
        settled = settle;
      }
