-- An image that a bridge's pieces have been added to.
use Rattle.std.proofs.Common.{◌≡◌, ℕ, zero, suc, ◌+◌, ◌<◌, ◌≤◌, ◌^◌, Bool, true, false, cond, List, [], ◌∷◌, ◌++◌, length, Some, refl, sym, ap, ◌∙◌, subst, arith, inl, inr, ◌⊎◌, append_assoc, length-append, ℤ}
use Rattle.std.specs.Prelude.{map}
use Rattle.std.specs.List.{All, AllByRecursion, AllZip, Contains}
use Rattle.std.proofs.lemmas.List.Elements.{All-weaker, Contains-append_left, Contains-append_cases}
use Rattle.trace_ops.specs.declared.trace.BoxId.{BoxId}
use Rattle.trace_ops.specs.declared.trace.Trace.{Trace}
use Rattle.trace_ops.specs.declared.trace.TraceSet.{TraceSet}
use Rattle.trace_ops.specs.declared.piece.OptOp.{OptOp}
use Rattle.trace_ops.specs.declared.piece.OptOp.TheVariants as opt
use Rattle.trace_ops.specs.declared.piece.Piece.{Piece}
use Rattle.trace_ops.specs.Kinds.{kind_of_arg}
use Rattle.trace_ops.specs.Pieces.{FitsLabel}
use Rattle.trace_ops.specs.Sound.{IsSound}
use Rattle.target_base.specs.declared.place.Place.{Place}
use Rattle.linear_scan.specs.Placing.{words_used, AreDistinct}
use Rattle.guard_exit.specs.declared.row.ExitRow.{ExitRow}
use Rattle.guard_exit.specs.Codes.{common_code}
use Rattle.code_layout.specs.Laws.{JumpsArePatched}
use Rattle.code_layout.specs.Chosen.{ChosenJumps}
use Rattle.code_layout.specs.Emitting.{total_size}
use Rattle.x64_encode.specs.declared.instr.Instr.{Instr}
use Rattle.bridge_patch.specs.declared.image.PieceHere.{PieceHere}
use Rattle.bridge_patch.specs.declared.laying.Laid.{Laid}
use Rattle.bridge_patch.specs.Pieces.{Placed, end_of, exits_in, spelled, bytes_in, all_bytes, AreLaid, rows_of, all_rows, label_at}
use Rattle.bridge_patch.specs.Image.{Imaged, AreHere, label_in}
use Rattle.bridge_patch.specs.Bridged.{LacksParent, is_from, source_of}
use Rattle.bridge_patch.specs.Attached.{IsStanding, IsImageOf, AreOfBridge, CanAttach, IsPatch, IsEntered, IsMoved, IsGrown, IsKnown, AllLeadNow, JumpsAmong, all_patched, copies_among, entry_code, led_on, words_for, room_left}
use Rattle.bridge_patch.specs.Bridging.{IsNew, IsLaidBehind, ArePatches, copies_by, row_places, guards_for, label_for}
use Rattle.bridge_patch.proofs.Building.{Laws, piece_long}
use Rattle.bridge_patch.proofs.Coming.{source_is}
use Rattle.bridge_patch.proofs.Entering.{AreForValues, labels_few, labels_moved, entry_short}
use Rattle.bridge_patch.proofs.Seating.{Seat}
use Rattle.bridge_patch.proofs.Allowed.{laid_between, all_counted, bridge_within, pieces_room}
use Rattle.bridge_patch.proofs.Patched.{Begins, code_patched}
use Rattle.bridge_patch.proofs.Lookups.{begin_here, label_kept}
use Rattle.bridge_patch.proofs.Leads.{Going, grown, labels_of, leads_old, leads_new}
use Rattle.bridge_patch.proofs.Taken.{words_more, room_less}

-- ---- lists

pub all_append : {X : Type 0} (P : X → Type 0) (xs ys : List X) → AllByRecursion P xs → AllByRecursion P ys → AllByRecursion P (xs ++ ys)
all_append P [] ys a b = b
all_append P (x ∷ xs) ys a b = (a.0, all_append P xs ys a.1 b)

pub all_unmapped : (P : Piece → Type 0) (pls : List Placed) → AllByRecursion P (map (λ (pl : Placed). pl.piece) pls) → AllByRecursion (λ (pl : Placed). P pl.piece) pls
all_unmapped P [] h = tt
all_unmapped P (pl ∷ pls) h = (h.0, all_unmapped P pls h.1)

-- what holds of each piece holds of it with jumps that lead elsewhere
all_led : (P Q : Placed → Type 0) (traces : List Trace) (b : ℕ) (news pls : List Placed) → ((pl : Placed) → P pl → Q (led_on traces b news pl)) → AllByRecursion P pls → AllByRecursion Q (map (led_on traces b news) pls)
all_led P Q traces b news [] f h = tt
all_led P Q traces b news (pl ∷ pls) f h = (f pl h.0, all_led P Q traces b news pls f h.1)

all_weaker : {X : Type 0} (P Q : X → Type 0) (xs : List X) → ((x : X) → P x → Q x) → AllByRecursion P xs → AllByRecursion Q xs
all_weaker P Q [] f h = tt
all_weaker P Q (x ∷ xs) f h = (f x h.0, all_weaker P Q xs f h.1)

rows_grown : (traces : List Trace) (b : ℕ) (news pls rest : List Placed) → all_rows (map (led_on traces b news) pls ++ rest) ≡ all_rows pls ++ all_rows rest
rows_grown traces b news [] rest = refl
rows_grown traces b news (pl ∷ pls) rest = ap (λ (l : List ExitRow). rows_of pl ++ l) (rows_grown traces b news pls rest) ∙ sym (append_assoc (rows_of pl) (all_rows pls) (all_rows rest))

bytes_grown : (pls rest : List Placed) → all_bytes (pls ++ rest) ≡ all_bytes pls ++ all_bytes rest
bytes_grown [] rest = refl
bytes_grown (pl ∷ pls) rest = ap (λ (l : List ℕ). bytes_in pl ++ l) (bytes_grown pls rest) ∙ sym (append_assoc (bytes_in pl) (all_bytes pls) (all_bytes rest))

heres_grown : (traces : List Trace) (b : ℕ) (news pls rest : List Placed) (hs more : List PieceHere) → AreHere pls hs → AreHere rest more → AreHere (map (led_on traces b news) pls ++ rest) (hs ++ more)
heres_grown traces b news [] rest [] more a m = m
heres_grown traces b news [] rest (y ∷ ys) more a m = absurd a
heres_grown traces b news (pl ∷ pls) rest [] more a m = absurd a
heres_grown traces b news (pl ∷ pls) rest (y ∷ ys) more a m =
    (record { id = a.0.id; begins = a.0.begins; start = a.0.start; label = a.0.label; table = a.0.table }, heres_grown traces b news pls rest ys more a.1 m)

laid_grown : (traces : List Trace) (b : ℕ) (news pls rest : List Placed) (at e mid half end last : ℕ) → AreLaid at e pls mid half → AreLaid mid half rest end last → AreLaid at e (map (led_on traces b news) pls ++ rest) end last
laid_grown traces b news [] rest at e mid half end last h m = subst (λ (n : ℕ). AreLaid n e rest end last) (sym h.0) (subst (λ (n : ℕ). AreLaid mid n rest end last) (sym h.1) m)
laid_grown traces b news (pl ∷ pls) rest at e mid half end last h m = (h.0, h.1, laid_grown traces b news pls rest (end_of pl) (e + exits_in pl.piece.ops) mid half end last h.2 m)

pieces_grown : (traces : List Trace) (b : ℕ) (news pls rest : List Placed) → map (λ (pl : Placed). pl.piece) (map (led_on traces b news) pls ++ rest) ≡ map (λ (pl : Placed). pl.piece) pls ++ map (λ (pl : Placed). pl.piece) rest
pieces_grown traces b news [] rest = refl
pieces_grown traces b news (pl ∷ pls) rest = ap (λ (l : List Piece). pl.piece ∷ l) (pieces_grown traces b news pls rest)

pub laid_long : Laws → (at e : ℕ) (pls : List Placed) (end last : ℕ) → AreLaid at e pls end last → last < 2 ^ 31 → at + length (all_bytes pls) ≡ end
laid_long law at e [] end last h few = omega (arith, h.0)
laid_long law at e (pl ∷ pls) end last h few =
    let between = laid_between (end_of pl) (e + exits_in pl.piece.ops) pls end last h.2 in
    omega (arith, length-append (bytes_in pl) (all_bytes pls), h.0, h.1, piece_long law pl (omega (arith, h.1, between.0, few)), laid_long law (end_of pl) (e + exits_in pl.piece.ops) pls end last h.2 few)

-- ---- each piece

stands_on : (set : TraceSet) (registers words more : ℕ) (traces : List Trace) (b : ℕ) (news : List Placed) (pl : Placed) → words ≤ more → IsStanding set registers words pl → IsStanding set registers more (led_on traces b news pl)
stands_on set registers words more traces b news pl le h = record {
  can = h.can;
  places = h.places;
  at = h.at;
  allocated = h.allocated;
  few = omega (arith, h.few, le);
  table = h.table;
  serves = h.serves;
  hold = h.hold;
  apart = h.apart;
  safe = h.safe;
  chosen = h.chosen;
  short = h.short;
}

known_more : (set : TraceSet) (bs : List ℕ) (b k : ℕ) → IsKnown set bs k → IsKnown set (bs ++ b ∷ []) k
known_more set bs b k (inl away) = inl away
known_more set bs b k (inr c) = inr (Contains-append_left bs (b ∷ []) k c)

last_in : (bs : List ℕ) (b : ℕ) → Contains (bs ++ b ∷ []) b
last_in [] b = (0, omega arith, refl)
last_in (c ∷ cs) b = let (i, lt, e) = last_in cs b in (suc i, omega (arith, lt), e)

fits_more : (ps qs : List Piece) (op : OptOp) → FitsLabel (label_in ps) op → FitsLabel (label_in (ps ++ qs)) op
fits_more ps qs (opt.Plain operation r args d) h = tt
fits_more ps qs (opt.Guard operation args n snap) h = tt
fits_more ps qs (opt.Exit n snap) h = tt
fits_more ps qs (opt.Jump q args) h = label_kept (λ (label : List BoxId). map kind_of_arg args ≡ map (λ (b : BoxId). Some b.kind) label) ps qs q h
fits_more ps qs (opt.Finish value) h = tt

jumps_more : (traces : List Trace) (b : ℕ) (placed news : List Placed) (ops : List OptOp) → All (FitsLabel (labels_of placed)) ops → All (FitsLabel (labels_of (map (led_on traces b news) placed ++ news))) ops
jumps_more traces b placed news ops h =
    let ps = map (λ (pl : Placed). pl.piece) placed in
    let qs = map (λ (pl : Placed). pl.piece) news in
    subst (λ (l : List Piece). All (FitsLabel (label_in l)) ops) (sym (pieces_grown traces b news placed news)) (All-weaker (FitsLabel (label_in ps)) (FitsLabel (label_in (ps ++ qs))) (fits_more ps qs) ops h)

parents_more : (set : TraceSet) (bs : List ℕ) (b : ℕ) → ((c : ℕ) → Contains bs c → ¬ LacksParent set bs c) → ¬ LacksParent set bs b → (c : ℕ) → Contains (bs ++ b ∷ []) c → ¬ LacksParent set (bs ++ b ∷ []) c
parents_more set bs b old new c h l = by (Contains-append_cases bs (b ∷ []) c h)
  where
    fewer : LacksParent set bs c
    fewer = record { parent = l.parent; guard = l.guard; from = l.from; bridge = l.bridge; away = λ k. l.away (Contains-append_left bs (b ∷ []) l.parent k) }

    by : Contains bs c ⊎ Contains (b ∷ []) c → ⊥
    by (inl k) = old c k fewer
    by (inr (zero, lt, same)) = new (subst (LacksParent set bs) (sym same) fewer)
    by (inr (suc i, lt, same)) = omega (arith, lt)

-- ---- the bridge's pieces

copies_there : (traces : List Trace) (b : ℕ) (rows : List ExitRow) (row : ExitRow) → Contains rows row → is_from traces b row.id.trace row.guard ≡ true → Contains (copies_among traces b rows) row
copies_there traces b [] row (i, lt, e) copy = absurd (omega (arith, lt))
copies_there traces b (x ∷ xs) row h copy = by (is_from traces b x.id.trace x.guard) refl h (λ c. copies_there traces b xs row c copy)
  where
    false_true : false ≡ true → ⊥
    false_true e = cc

    by : (q : Bool) → is_from traces b x.id.trace x.guard ≡ q → Contains (x ∷ xs) row → (Contains xs row → Contains (copies_among traces b xs) row) → Contains (cond q (x ∷ copies_among traces b xs) (copies_among traces b xs)) row
    by true e (zero, lt, same) later = (0, omega arith, same)
    by true e (suc i, lt, same) later = let (j, l, s) = later (i, omega (arith, lt), same) in (suc j, omega (arith, l), s)
    by false e (zero, lt, same) later = absurd (false_true (sym e ∙ ap (λ (r : ExitRow). is_from traces b r.id.trace r.guard) same ∙ copy))
    by false e (suc i, lt, same) later = later (i, omega (arith, lt), same)

enters : (set : TraceSet) (image : Imaged) (bridge : ℕ) (placed : List Placed) (pl : Placed) → image.exits ≡ all_rows placed → IsNew set image (source_of set.traces bridge) pl → Seat set image bridge placed pl.piece → IsEntered set.traces bridge image.exits pl
enters set image bridge placed pl exits new s =
    let source = source_of set.traces bridge in
    let guards = guards_for image source pl.piece in
    let values : AreForValues image.registers guards = subst (AreForValues image.registers) (sym s.same) s.well.values in
    let apart : AreDistinct guards = subst AreDistinct (sym s.same) s.well.distinct in
    let moved = subst (λ (l : List Place). AllZip (IsMoved guards) guards l) (sym new.label) (labels_moved pl.piece guards) in record {
      row = s.row;
      there = copies_there set.traces bridge image.exits s.row (subst (λ (l : List ExitRow). Contains l s.row) (sym exits) s.there) s.copy;
      half = s.half;
      front = new.front ∙ ap (λ (g : List Place). entry_code g (label_for image source pl.piece)) s.is ∙ ap (entry_code (row_places s.row)) (sym new.label);
      moved = subst (λ (g : List Place). AllZip (IsMoved g) g (label_at pl)) s.is moved;
      short = subst (λ (is : List Instr). total_size is ≤ 64) (sym new.front) (entry_short image.registers pl.piece guards values apart);
    }

all_enter : (set : TraceSet) (image : Imaged) (bridge : ℕ) (placed pls : List Placed) → image.exits ≡ all_rows placed → AllByRecursion (IsNew set image (source_of set.traces bridge)) pls → AllByRecursion (λ (pl : Placed). Seat set image bridge placed pl.piece) pls
    → AllByRecursion (IsEntered set.traces bridge image.exits) pls
all_enter set image bridge placed [] exits new s = tt
all_enter set image bridge placed (pl ∷ pls) exits new s = (enters set image bridge placed pl exits new.0 s.0, all_enter set image bridge placed pls exits new.1 s.1)

stands_new : (set : TraceSet) (image : Imaged) (bridge words : ℕ) (placed : List Placed) (pl : Placed) → words_for set image.attached + 16 ≤ words → IsNew set image (source_of set.traces bridge) pl → Seat set image bridge placed pl.piece
    → IsStanding set image.registers words pl
stands_new set image bridge words placed pl le new s =
    let source = source_of set.traces bridge in
    let guards = guards_for image source pl.piece in
    let values : AreForValues image.registers guards = subst (AreForValues image.registers) (sym s.same) s.well.values in
    new.standing words (omega (arith, ap words_used new.label, labels_few image.registers pl.piece guards values, s.words, le))

all_stand : (set : TraceSet) (image : Imaged) (bridge words : ℕ) (placed pls : List Placed) → words_for set image.attached + 16 ≤ words → AllByRecursion (IsNew set image (source_of set.traces bridge)) pls
    → AllByRecursion (λ (pl : Placed). Seat set image bridge placed pl.piece) pls → AllByRecursion (IsStanding set image.registers words) pls
all_stand set image bridge words placed [] le new s = tt
all_stand set image bridge words placed (pl ∷ pls) le new s = (stands_new set image bridge words placed pl le new.0 s.0, all_stand set image bridge words placed pls le new.1 s.1)

pub copies_same : (traces : List Trace) (b : ℕ) (rows : List ExitRow) → copies_by (source_of traces b) rows ≡ copies_among traces b rows
copies_same traces b [] = refl
copies_same traces b (row ∷ rows) =
    ap (λ (q : Bool). cond q (row ∷ copies_by (source_of traces b) rows) (copies_by (source_of traces b) rows)) (source_is traces b row.id.trace row.guard)
    ∙ ap (λ (l : List ExitRow). cond (is_from traces b row.id.trace row.guard) (row ∷ l) l) (copies_same traces b rows)

-- ---- the whole image

-- the image as it was, the bridge's pieces behind it, the patches, and the image as it is
pub record Grows (set : TraceSet) (bridge : ℕ) (pieces : List Piece) (placed : List Placed) (old new : Imaged) (laid : Laid) (patches : List (ℕ × ℤ × ℤ)) : Type 0 where
  pub can : CanAttach set old bridge pieces
  pub image_of : IsImageOf set placed old
  pub of : AreOfBridge set placed bridge pieces
  pub behind : IsLaidBehind set old (source_of set.traces bridge) pieces laid
  pub are : ArePatches bridge old.bytes laid.pieces.items (copies_by (source_of set.traces bridge) old.exits) patches
  pub seats : AllByRecursion (Seat set old bridge placed) pieces
  pub registers : new.registers ≡ old.registers
  pub bytes : new.bytes ≡ all_patched patches (old.bytes ++ laid.bytes.items)
  pub exits : new.exits ≡ old.exits ++ laid.exits.items
  pub heres : new.pieces ≡ old.pieces ++ laid.pieces.items
  pub attached : new.attached ≡ old.attached ++ bridge ∷ []

code_grown : JumpsArePatched → ChosenJumps → Laws → (set : TraceSet) (bridge : ℕ) (pieces : List Piece) (placed : List Placed) (old new : Imaged) (laid : Laid) (patches : List (ℕ × ℤ × ℤ)) → (h : Grows set bridge pieces placed old new laid patches)
    → h.image_of.last < 2 ^ 31 → new.bytes ≡ spelled common_code ++ all_bytes (grown set bridge placed h.behind.news)
code_grown law chosen laws set bridge pieces placed old new laid patches h few =
    let im = h.image_of in
    let news = h.behind.news in
    let begins : Begins bridge laid.pieces.items news = λ half. begin_here news laid.pieces.items (record { trace = bridge; half = half }) h.behind.heres in
    let rows = copies_same set.traces bridge old.exits ∙ ap (copies_among set.traces bridge) im.exits in
    let are = subst (λ (l : List ExitRow). AllZip (IsPatch bridge old.bytes laid.pieces.items) l patches) rows h.are in
    h.bytes
    ∙ ap (λ (l : List ℕ). all_patched patches (l ++ laid.bytes.items)) im.code
    ∙ ap (λ (l : List ℕ). all_patched patches ((spelled common_code ++ all_bytes placed) ++ l)) h.behind.code
    ∙ ap (all_patched patches) (append_assoc (spelled common_code) (all_bytes placed) (all_bytes news))
    ∙ code_patched law chosen laws set old.registers (words_for set old.attached) bridge news placed old.bytes laid.pieces.items (spelled common_code) (all_bytes news) patches (length (spelled common_code)) 0 (length old.bytes) im.last im.standing im.laid few refl begins are
    ∙ ap (λ (l : List ℕ). spelled common_code ++ l) (sym (bytes_grown (map (led_on set.traces bridge news) placed) news))

pub grows : JumpsArePatched → ChosenJumps → Laws → (set : TraceSet) (bridge : ℕ) (pieces : List Piece) (placed : List Placed) (old new : Imaged) (laid : Laid) (patches : List (ℕ × ℤ × ℤ)) → Grows set bridge pieces placed old new laid patches
    → IsGrown set bridge pieces placed old new
grows law chosen laws set bridge pieces placed old new laid patches h =
    let im = h.image_of in
    let news = h.behind.news in
    let all = grown set bridge placed news in
    let bs = old.attached in
    let next = bs ++ bridge ∷ [] in
    let traces = set.traces in
    let source = source_of traces bridge in
    let by_piece : (P : Piece → Type 0) → AllByRecursion P pieces → AllByRecursion (λ (pl : Placed). P pl.piece) news = λ P a. all_unmapped P news (subst (AllByRecursion P) (sym h.behind.are) a) in
    let seats = by_piece (Seat set old bridge placed) h.seats in
    let named = by_piece (λ (p : Piece). p.id.trace ≡ bridge) h.of.named in
    let sound = by_piece (IsSound set (labels_of placed)) h.of.sound in
    let going : Going set bs bridge placed news = record { formed = h.can.formed; is = h.can.is_bridge; fresh = h.can.fresh; known = im.known; named = named; parents = im.parents } in
    let within = bridge_within set bridge h.can.is_bridge in
    let words = words_more set bs bridge within h.can.fresh in
    let room = room_less set bs bridge within h.can.fresh in
    let size = pieces_room set (labels_of placed) bridge pieces h.of.sound h.of.named h.of.once in
    let end_few : h.behind.end + room_left set next < 2 ^ 30 = omega (arith, h.behind.place, h.behind.short, size, room, im.room) in
    let exits : length old.exits ≡ im.last = omega (arith, ap length im.exits, all_counted (length (spelled common_code)) 0 placed (length old.bytes) im.last im.laid) in
    let follow : AreLaid (length old.bytes) im.last news h.behind.end h.behind.last = subst (λ (n : ℕ). AreLaid (length old.bytes) n news h.behind.end h.behind.last) exits h.behind.follow in
    let laid_all = laid_grown traces bridge news placed news (length (spelled common_code)) 0 (length old.bytes) im.last h.behind.end h.behind.last im.laid follow in
    let between = laid_between (length (spelled common_code)) 0 all h.behind.end h.behind.last laid_all in
    let before = laid_between (length (spelled common_code)) 0 placed (length old.bytes) im.last im.laid in
    let few : h.behind.last < 2 ^ 31 = omega (arith, between.1, end_few) in
    let code = code_grown law chosen laws set bridge pieces placed old new laid patches h (omega (arith, before.1, im.room)) in
    let long : length new.bytes ≡ h.behind.end = omega (arith, ap length code, length-append (spelled common_code) (all_bytes all), laid_long laws (length (spelled common_code)) 0 all h.behind.end h.behind.last laid_all few) in
    let standing = all_append (IsStanding set old.registers (words_for set next)) (map (led_on traces bridge news) placed) news
    (all_led (IsStanding set old.registers (words_for set bs)) (IsStanding set old.registers (words_for set next)) traces bridge news placed (λ pl s. stands_on set old.registers (words_for set bs) (words_for set next) traces bridge news pl (omega (arith, words)) s) im.standing)
    (all_stand set old bridge (words_for set next) placed news words h.behind.each seats) in
    let leads = all_append (AllLeadNow traces next all) (map (led_on traces bridge news) placed) news
    (leads_old set bs bridge placed news placed going im.closed im.leads)
    (leads_new set old source bridge placed news news going im.heres h.behind.each named sound) in
    let closed = all_append (JumpsAmong (labels_of all)) (map (led_on traces bridge news) placed) news
    (all_led (JumpsAmong (labels_of placed)) (JumpsAmong (labels_of all)) traces bridge news placed (λ pl j. jumps_more traces bridge placed news pl.piece.ops j) im.closed)
    (all_weaker (λ (pl : Placed). IsSound set (labels_of placed) pl.piece) (JumpsAmong (labels_of all)) news (λ pl s. jumps_more traces bridge placed news pl.piece.ops s.jumps_fit) sound) in
    let known = all_append (λ (pl : Placed). IsKnown set next pl.piece.id.trace) (map (led_on traces bridge news) placed) news
    (all_led (λ (pl : Placed). IsKnown set bs pl.piece.id.trace) (λ (pl : Placed). IsKnown set next pl.piece.id.trace) traces bridge news placed (λ pl k. known_more set bs bridge pl.piece.id.trace k) im.known)
    (all_weaker (λ (pl : Placed). pl.piece.id.trace ≡ bridge) (λ (pl : Placed). IsKnown set next pl.piece.id.trace) news (λ pl e. inr (subst (Contains next) (sym e) (last_in bs bridge))) named) in record {
      news = news;
      are = h.behind.are;
      entered = all_enter set old bridge placed news im.exits h.behind.each seats;
      image_of = record {
        code = code;
        last = h.behind.last;
        laid = subst (λ (n : ℕ). AreLaid (length (spelled common_code)) 0 all n h.behind.last) (sym long) laid_all;
        standing = subst (λ (r : ℕ). AllByRecursion (IsStanding set r (words_for set new.attached)) all) (sym h.registers) (subst (λ (cs : List ℕ). AllByRecursion (IsStanding set old.registers (words_for set cs)) all) (sym h.attached) standing);
        leads = subst (λ (cs : List ℕ). AllByRecursion (AllLeadNow traces cs all) all) (sym h.attached) leads;
        closed = closed;
        exits = h.exits ∙ ap (λ (l : List ExitRow). l ++ laid.exits.items) im.exits ∙ ap (λ (l : List ExitRow). all_rows placed ++ l) h.behind.rows ∙ sym (rows_grown traces bridge news placed news);
        heres = subst (AreHere all) (sym h.heres) (heres_grown traces bridge news placed news old.pieces laid.pieces.items im.heres h.behind.heres);
        known = subst (λ (cs : List ℕ). AllByRecursion (λ (pl : Placed). IsKnown set cs pl.piece.id.trace) all) (sym h.attached) known;
        parents = subst (λ (cs : List ℕ). (c : ℕ) → Contains cs c → ¬ LacksParent set cs c) (sym h.attached) (parents_more set bs bridge im.parents h.can.parent);
        room = subst (λ (cs : List ℕ). length new.bytes + room_left set cs < 2 ^ 30) (sym h.attached) (omega (arith, long, end_few));
      };
      registers = h.registers;
    }
