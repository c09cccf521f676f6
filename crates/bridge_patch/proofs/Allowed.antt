-- A bridge that may be attached can be laid out.
use Rattle.std.proofs.Common.{◌≡◌, ℕ, zero, suc, ◌+◌, ◌-◌, ◌*◌, ◌<◌, ◌≤◌, ◌^◌, Bool, true, false, cond, List, [], ◌∷◌, length, Option, Some, None, refl, sym, ap, ◌∙◌, subst, arith, length-append, nat_lt, nat_eq, ltb-true, ltb-false, eqb-true, ◌||◌}
use Rattle.std.proofs.lemmas.List.{length-map}
use Rattle.std.specs.Prelude.{map, slice_get}
use Rattle.std.specs.List.{All, AllByRecursion, Contains, flat_map}
use Rattle.std.proofs.lemmas.List.Elements.{All-get_or}
use Rattle.std.proofs.lemmas.Option.{slice_get_within, get_or_from_slice_get}
use Rattle.trace_ops.specs.declared.trace.Arg.{Arg}
use Rattle.trace_ops.specs.declared.piece.OptOp.TheVariants as opt
use Rattle.trace_ops.specs.declared.trace.BoxId.{BoxId}
use Rattle.trace_ops.specs.declared.trace.Trace.{Trace}
use Rattle.trace_ops.specs.declared.trace.TraceSet.{TraceSet}
use Rattle.trace_ops.specs.declared.piece.Half.{Half}
use Rattle.trace_ops.specs.declared.piece.Half.TheVariants.{Pre, Body}
use Rattle.trace_ops.specs.declared.piece.OptOp.{OptOp}
use Rattle.trace_ops.specs.declared.piece.Piece.{Piece}
use Rattle.trace_ops.specs.Pieces.{jump_args, results_of, defined_by, FitsLabel}
use Rattle.trace_ops.specs.Sound.{IsSound, AreApart as AreDifferent}
use Rattle.trace_ops.specs.Weights.{trace_weight, sum_below}
use Rattle.opt_meaning.specs.Worded.{OpHasWords}
use Rattle.target_base.specs.declared.place.Place.{Place}
use Rattle.target_base.specs.declared.place.Place.TheVariants.{In, Word}
use Rattle.linear_scan.specs.Numbering.{AreNumbered, AreDefined, BoxesLive}
use Rattle.linear_scan.specs.Living.{end_of as last_of}
use Rattle.linear_scan.specs.Placing.{words_used, AreDistinct}
use Rattle.asm_select.specs.Laid.{has_stub}
use Rattle.asm_select.specs.Chosen.{Where}
use Rattle.asm_select.specs.Exited.{shown_by}
use Rattle.asm_select.specs.Given.{where_in}
use Rattle.bridge_patch.specs.declared.image.PieceHere.{PieceHere}
use Rattle.trace_ops.specs.declared.piece.PieceId.{PieceId}
use Rattle.bridge_patch.specs.Pieces.{Placed, end_of, exits_in, rows_of_op, rows_from, rows_of, all_rows, displacement_of, AreLaid}
use Rattle.bridge_patch.specs.Image.{Imaged, AreHere, KeepsItsGuard, label_in}
use Rattle.bridge_patch.specs.Planning.{CanPlan, StartsBelow}
use Rattle.bridge_patch.specs.Bridged.{IsBridge, is_bridging, source_of}
use Rattle.bridge_patch.specs.Attached.{IsStanding, CanAttach, words_for, is_among, bytes_unless, entry_step, entry_code}
use Rattle.bridge_patch.specs.Bridging.{first_call, guards_for, label_for, CanLayOne, CanLay, bridge_room, starts_among}
use Rattle.bridge_patch.proofs.Entering.{AreForValues, AreLow, labels_long, labels_distinct, labels_lawful, labels_few, entry_rows, entry_short, below_sixteen}
use Rattle.bridge_patch.proofs.Seating.{all_in, seat, taken_few}
use Rattle.bridge_patch.proofs.Fitting.{target_fits}

-- ---- sums

term_by : (f : ℕ → ℕ) (n k sum : ℕ) (b : Bool) → nat_lt k n ≡ b → k < suc n → (k < n → f k ≤ sum) → f k ≤ sum + f n
term_by f n k sum true e lt later = omega (arith, later (ltb-true k n e))
term_by f n k sum false e lt later =
    let s : k ≡ n = omega (arith, lt, ltb-false k n e) in
    omega (arith, ap f s)

pub sum_term : (f : ℕ → ℕ) (n k : ℕ) → k < n → f k ≤ sum_below f n
unfolding sum_below
sum_term f zero k lt = absurd (omega (arith, lt))
sum_term f (suc n) k lt = term_by f n k (sum_below f n) (nat_lt k n) refl lt (λ l. sum_term f n k l)

pub bridge_within : (set : TraceSet) (b : ℕ) → IsBridge set b → b < length set.traces
bridge_within set b h = by (slice_get set.traces b) refl h
  where
    by : (o : Option Trace) → slice_get set.traces b ≡ o → is_bridging o ≡ true → b < length set.traces
    by None e i = absurd (false_true i)
      where
        false_true : false ≡ true → ⊥
        false_true e = cc
    by (Some t) e i = slice_get_within set.traces b t e

-- ---- one piece

entry_few : (from to : List Place) → length (entry_code from to) ≤ length from
entry_few [] to = omega arith
entry_few (p ∷ from) [] = omega arith
entry_few (p ∷ from) (q ∷ to) = omega (arith, length-append (entry_step p q) (entry_code from to), step_few p q, entry_few from to)
  where
    step_few : (p q : Place) → length (entry_step p q) ≤ 1
    step_few (In r) (In s) = omega arith
    step_few (In r) (Word k) = omega arith
    step_few (Word j) (In s) = omega arith
    step_few (Word j) (Word k) = omega arith

kinds_long : (xs bs : List BoxId) → map (λ (b : BoxId). b.kind) xs ≡ map (λ (b : BoxId). b.kind) bs → length xs ≡ length bs
kinds_long xs bs e = sym (length-map xs (λ (b : BoxId). b.kind)) ∙ ap length e ∙ length-map bs (λ (b : BoxId). b.kind)

pub lay_one : ((p : Piece) → AreNumbered p → AreDefined p → BoxesLive p) → (set : TraceSet) (image : Imaged) (bridge : ℕ) (pieces : List Piece) (p : Piece) → (h : CanAttach set image bridge pieces) → Contains pieces p
    → CanLayOne set image (source_of set.traces bridge) p
lay_one live set image bridge pieces p h there =
    let source = source_of set.traces bridge in
    let placed = h.placed in
    let ps = map (λ (pl : Placed). pl.piece) placed in
    let of = h.pieces_fit in
    let s = seat live set image bridge placed pieces p h.image_of of there in
    let guards = guards_for image source p in
    let label = label_for image source p in
    let registers = image.registers in
    let values : AreForValues registers guards = subst (AreForValues registers) (sym s.same) s.well.values in
    let low : AreLow guards = subst AreLow (sym s.same) s.well.low in
    let apart : AreDistinct guards = subst AreDistinct (sym s.same) s.well.distinct in
    let sound = all_in (IsSound set (label_in ps)) pieces p of.sound there in
    let named = all_in (λ (q : Piece). q.id.trace ≡ bridge) pieces p of.named there in
    let few : words_used guards ≤ 266368 = omega (arith, s.words, taken_few set image.attached, h.range.few_traces) in
    let count : length guards ≡ length p.label = ap length s.same ∙ length-map (shown_by s.op) (λ (b : BoxId). where_in s.places.at b.number) ∙ sym (kinds_long p.label (shown_by s.op) (of.labels p s.op there s.copies)) in
    let long : length label ≡ length guards = labels_long (last_of p) (first_call p.ops) (words_used guards) 0 guards in
    let weight : trace_weight set p.id.trace ≤ 131072 = omega (arith, sum_term (trace_weight set) (length set.traces) bridge (bridge_within set bridge h.is_bridge), ap (trace_weight set) named, h.light) in
    let can : CanPlan set p registers = record {
      label_of = label_in ps;
      sound = sound;
      table = h.range.table;
      words = all_in (λ (q : Piece). All OpHasWords q.ops) pieces p of.words there;
      guards = all_in (λ (q : Piece). All KeepsItsGuard q.ops) pieces p of.guards there;
      weight = weight;
      within = s.within;
    } in
    let used : words_used label ≤ 16 + words_used guards = labels_few registers p guards values in
    let fits : (op : OptOp) → slice_get p.ops (length p.ops - 1) ≡ Some op → FitsLabel (label_in ps) op = λ op e. last_fits ps p.ops (length p.ops - 1) op sound.jumps_fit e in
    let t = target_fits set registers (words_for set image.attached) placed image.pieces (slice_get p.ops (length p.ops - 1)) (omega (arith, taken_few set image.attached, h.range.few_traces)) h.image_of.heres (λ pl c. all_in (IsStanding set registers (words_for set image.attached)) placed pl h.image_of.standing c) fits in
    record {
      can = can;
      long = omega (arith, count);
      low = omega (arith, few);
      ends = record {
        labelled = record {
          long = long ∙ count;
          lawful = labels_lawful registers p guards values low (omega (arith, few));
          distinct = labels_distinct (last_of p) (first_call p.ops) guards apart;
        };
        few = omega (arith, used, few);
        targets = record {
          each = t.good.each;
          distinct = t.good.distinct;
          count = λ k target args e.
              let last : k + 1 ≡ length p.ops = (sound.formed.ends_once k (opt.Jump target args) e).0 refl in
              let m : length p.ops - 1 ≡ k = omega (arith, last) in
              t.count target args (ap (slice_get p.ops) m ∙ e);
        };
        short = t.few 131136 (λ to args e. omega (arith, jump_few p.ops (length p.ops - 1) to args (trace_weight set p.id.trace + 64) sound.few_jump_args e, weight));
      };
      front = record {
        rows = entry_rows guards label (λ i r e. below_sixteen registers r.0 (values i r.0 e)) (omega (arith, used, few));
        few = omega (arith, entry_few guards label, count, sound.few_boxes, label_short p, weight);
        short = entry_short registers p guards values apart;
      };
    }
  where
    last_fits : (ps : List Piece) (ops : List OptOp) (i : ℕ) (op : OptOp) → All (FitsLabel (label_in ps)) ops → slice_get ops i ≡ Some op → FitsLabel (label_in ps) op
    last_fits ps ops i op all e = subst (FitsLabel (label_in ps)) (get_or_from_slice_get ops i op op e) (All-get_or (FitsLabel (label_in ps)) ops i op (slice_get_within ops i op e) all)

    jump_few : (ops : List OptOp) (i : ℕ) (to : PieceId) (args : List Arg) (m : ℕ) → All (λ (op : OptOp). jump_args op ≤ m) ops → slice_get ops i ≡ Some (opt.Jump to args) → length args ≤ m
    jump_few ops i to args m all e = subst (λ (x : OptOp). jump_args x ≤ m) (get_or_from_slice_get ops i (opt.Jump to args) (opt.Jump to args) e) (All-get_or (λ (x : OptOp). jump_args x ≤ m) ops i (opt.Jump to args) (slice_get_within ops i (opt.Jump to args) e) all)

    label_short : (p : Piece) → length p.label ≤ length (defined_by p)
    label_short p = omega (arith, length-append p.label (flat_map results_of p.ops))

-- ---- room

halves_few : (hs : List Half) → AreDifferent hs → length hs ≤ 2
halves_few [] h = omega arith
halves_few (a ∷ []) h = omega arith
halves_few (a ∷ b ∷ []) h = omega arith
halves_few (Pre ∷ Pre ∷ c ∷ hs) h = absurd (h.0 (0, omega arith, refl))
halves_few (Pre ∷ Body ∷ Pre ∷ hs) h = absurd (h.0 (1, omega arith, refl))
halves_few (Pre ∷ Body ∷ Body ∷ hs) h = absurd (h.1.0 (0, omega arith, refl))
halves_few (Body ∷ Body ∷ c ∷ hs) h = absurd (h.0 (0, omega arith, refl))
halves_few (Body ∷ Pre ∷ Body ∷ hs) h = absurd (h.0 (1, omega arith, refl))
halves_few (Body ∷ Pre ∷ Pre ∷ hs) h = absurd (h.1.0 (0, omega arith, refl))

room_each : (set : TraceSet) (label_of : PieceId → Option (List BoxId)) (bridge : ℕ) (ps : List Piece) → AllByRecursion (IsSound set label_of) ps → AllByRecursion (λ (p : Piece). p.id.trace ≡ bridge) ps → bridge_room ps ≤ (64 + 128 * trace_weight set bridge) * length ps
room_each set label_of bridge [] s n = omega arith
room_each set label_of bridge (p ∷ ps) s n = omega (arith, s.0.small, ap (trace_weight set) n.0, room_each set label_of bridge ps s.1 n.1)

pub pieces_room : (set : TraceSet) (label_of : PieceId → Option (List BoxId)) (bridge : ℕ) (ps : List Piece) → AllByRecursion (IsSound set label_of) ps → AllByRecursion (λ (p : Piece). p.id.trace ≡ bridge) ps → AreDifferent (map (λ (p : Piece). p.id.half) ps) → bridge_room ps ≤ 128 + 256 * trace_weight set bridge
pieces_room set label_of bridge ps s n d = two (length ps) (trace_weight set bridge) (bridge_room ps) (omega (arith, halves_few (map (λ (p : Piece). p.id.half) ps) d, length-map ps (λ (p : Piece). p.id.half))) (room_each set label_of bridge ps s n)
  where
    two : (n w r : ℕ) → n ≤ 2 → r ≤ (64 + 128 * w) * n → r ≤ 128 + 256 * w
    two zero w r le h = omega (arith, h)
    two (suc zero) w r le h = omega (arith, h)
    two (suc (suc zero)) w r le h = omega (arith, h)
    two (suc (suc (suc n))) w r le h = absurd (omega (arith, le))

-- ---- places in the code

pub laid_between : (at e : ℕ) (pls : List Placed) (end last : ℕ) → AreLaid at e pls end last → (e ≤ last) × (at + 16 * (last - e) ≤ end)
laid_between at e [] end last h = (omega (arith, h.1), omega (arith, h.0, h.1))
laid_between at e (pl ∷ pls) end last h =
    let r = laid_between (end_of pl) (e + exits_in pl.piece.ops) pls end last h.2 in
    (omega (arith, r.0), omega (arith, r.0, r.1, h.0))

rows_count : (at : Where) (id : PieceId) (place : ℕ → ℕ) (exit k : ℕ) (ops : List OptOp) → length (rows_from at id place exit k ops) ≡ exits_in ops
rows_count at id place exit k [] = refl
rows_count at id place exit k (op ∷ ops) =
    length-append (rows_of_op at id exit (place k) op) (rows_from at id place (exit + cond (has_stub op) 1 0) (k + 1) ops)
    ∙ omega (arith, one at id exit (place k) op, rows_count at id place (exit + cond (has_stub op) 1 0) (k + 1) ops)
  where
    one : (at : Where) (id : PieceId) (exit place : ℕ) (op : OptOp) → length (rows_of_op at id exit place op) ≡ cond (has_stub op) 1 0
    one at id exit place (opt.Plain operation r args d) = refl
    one at id exit place (opt.Guard operation args n snap) = refl
    one at id exit place (opt.Exit n snap) = refl
    one at id exit place (opt.Jump to args) = refl
    one at id exit place (opt.Finish value) = refl

pub all_counted : (at e : ℕ) (pls : List Placed) (end last : ℕ) → AreLaid at e pls end last → e + length (all_rows pls) ≡ last
all_counted at e [] end last h = omega (arith, h.1)
all_counted at e (pl ∷ pls) end last h =
    omega (arith, all_counted (end_of pl) (e + exits_in pl.piece.ops) pls end last h.2, length-append (rows_of pl) (all_rows pls), rows_count pl.setting.at pl.piece.id (displacement_of pl) pl.exit 0 pl.piece.ops)

starts_low : (at e : ℕ) (pls : List Placed) (end last : ℕ) (heres : List PieceHere) → AreLaid at e pls end last → AreHere pls heres → end < 2 ^ 31 → StartsBelow (starts_among heres)
starts_low at e [] end last [] h a lt = tt
starts_low at e [] end last (y ∷ ys) h a lt = absurd a
starts_low at e (pl ∷ pls) end last [] h a lt = absurd a
starts_low at e (pl ∷ pls) end last (y ∷ ys) h a lt =
    (omega (arith, a.0.start, (laid_between (end_of pl) (e + exits_in pl.piece.ops) pls end last h.2).1, lt), starts_low (end_of pl) (e + exits_in pl.piece.ops) pls end last ys h.2 a.1 lt)

pub lay_each : (K : Piece → Type 0) (all ps : List Piece) → ((p : Piece) → Contains all p → K p) → ((p : Piece) → Contains ps p → Contains all p) → AllByRecursion K ps
lay_each K all [] f g = tt
lay_each K all (p ∷ ps) f g = (f p (g p (0, omega arith, refl)), lay_each K all ps f (λ q c. g q (later q c)))
  where
    later : (q : Piece) → Contains ps q → Contains (p ∷ ps) q
    later q (i, lt, e) = (suc i, omega (arith, lt), e)

pub among_contains : (bs : List ℕ) (k : ℕ) → is_among bs k ≡ true → Contains bs k
among_contains [] k e = absurd (none_true e)
  where
    none_true : false ≡ true → ⊥
    none_true e = cc
among_contains (b ∷ bs) k e = by (nat_eq b k) refl e (among_contains bs k)
  where
    by : (c : Bool) → nat_eq b k ≡ c → c || is_among bs k ≡ true → (is_among bs k ≡ true → Contains bs k) → Contains (b ∷ bs) k
    by true s t later = (0, omega arith, eqb-true b k s)
    by false s t later = let (i, lt, f) = later t in (suc i, omega (arith, lt), f)

pub can_lay_behind : ((p : Piece) → AreNumbered p → AreDefined p → BoxesLive p) → (set : TraceSet) (image : Imaged) (bridge : ℕ) (pieces : List Piece) → ¬ (is_among image.attached bridge ≡ true) → CanAttach set image bridge pieces → CanLay set image (source_of set.traces bridge) pieces
can_lay_behind live set image bridge pieces away h =
    let im = h.image_of in
    let source = source_of set.traces bridge in
    let exits : length image.exits ≡ im.last = omega (arith, ap length im.exits, all_counted 49 0 h.placed (length image.bytes) im.last im.laid) in
    let between = laid_between 49 0 h.placed (length image.bytes) im.last im.laid in
    let left = sum_term (λ (k : ℕ). bytes_unless (is_among image.attached k) (trace_weight set k)) (length set.traces) bridge (bridge_within set bridge h.is_bridge) in
    let free : bytes_unless (is_among image.attached bridge) (trace_weight set bridge) ≡ 128 + 256 * trace_weight set bridge = unless (is_among image.attached bridge) away in
    let room = pieces_room set (label_in (map (λ (pl : Placed). pl.piece) h.placed)) bridge pieces h.pieces_fit.sound h.pieces_fit.named h.pieces_fit.once in record {
      each = lay_each (CanLayOne set image source) pieces pieces (λ p c. lay_one live set image bridge pieces p h c) (λ p c. c);
      room = omega (arith, room, free, left, im.room);
      few = omega (arith, exits, between.0, between.1);
      starts = starts_low 49 0 h.placed (length image.bytes) im.last image.pieces im.laid im.heres (omega (arith, im.room));
    }
  where
    unless : (b : Bool) → ¬ (b ≡ true) → bytes_unless b (trace_weight set bridge) ≡ 128 + 256 * trace_weight set bridge
    unless true n = absurd (n refl)
    unless false n = refl
