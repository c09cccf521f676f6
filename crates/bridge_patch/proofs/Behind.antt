-- Laying out the pieces of a bridge behind an image, one behind the other.
use Rattle.std.proofs.Common.{◌≡◌, ℕ, ◌+◌, ◌*◌, ◌<◌, ◌≤◌, ◌^◌, List, [], ◌∷◌, ◌++◌, length, Option, refl, sym, ap, ◌∙◌, subst, arith, length-append, cond}
use Rattle.std.specs.Prelude.{map}
use Rattle.std.specs.List.{AllByRecursion}
use Rattle.std.proofs.lemmas.List.{map-append}
use Rattle.trace_ops.specs.declared.trace.TraceSet.{TraceSet}
use Rattle.trace_ops.specs.declared.piece.PieceId.{PieceId}
use Rattle.trace_ops.specs.declared.piece.Piece.{Piece}
use Rattle.trace_ops.specs.Pieces.{size_of}
use Rattle.opt_meaning.specs.Pieces.{same_piece}
use Rattle.x64_encode.specs.declared.instr.Instr.{Instr}
use Rattle.target_base.specs.declared.place.Place.{Place}
use Rattle.linear_scan.specs.Placing.{words_used}
use Rattle.guard_exit.specs.declared.row.ExitRow.{ExitRow}
use Rattle.resume_numbering.specs.Conditions.{CanNumber, SoundPiecesCanBeNumbered}
use Rattle.asm_select.specs.Given.{where_in}
use Rattle.code_layout.specs.Emitting.{total_size, noted, listed}
use Rattle.bridge_patch.specs.declared.plan.Plan.{Plan}
use Rattle.bridge_patch.specs.declared.image.PieceHere.{PieceHere}
use Rattle.bridge_patch.specs.declared.laying.Laid.{Laid}
use Rattle.bridge_patch.specs.Pieces.{Placed, stub_of, end_of, exits_in, bytes_in, all_bytes, rows_of, all_rows, AreLaid, place_among, rows_from}
use Rattle.bridge_patch.specs.Image.{Imaged, AreHere, IsHere}
use Rattle.bridge_patch.specs.Planning.{IsPlanned, IsReady, IsHereOf, StartsBelow, start_listed, targets_from, laid_bytes}
use Rattle.bridge_patch.specs.Attached.{entry_code}
use Rattle.bridge_patch.specs.Bridging.{start_among, target_places, guards_for, label_for, CanLayOne, CanLay, bridge_room, starts_among, IsNew, IsLaidBehind}
use Rattle.bridge_patch.proofs.Building.{Laws, Made, stands, is_here, laid_more, bytes_more, rows_more, piece_long}
use Rattle.bridge_patch.proofs.LayingAll.{target_same}

pub record LaysBehind (set : TraceSet) (image : Imaged) (source : Option (ℕ × ℕ)) (all done rest : List Piece) (from exit : ℕ) (bytes : List ℕ) (rows : List ExitRow) (heres : List PieceHere) : Type 0 where
  pub at : ℕ
  pub news : List Placed
  pub are : map (λ (pl : Placed). pl.piece) news ≡ done
  pub each : AllByRecursion (IsNew set image source) news
  pub follow : AreLaid (length image.bytes) (length image.exits) news at exit
  pub from_is : from ≡ length image.bytes
  pub place : from + length bytes ≡ at
  pub code : bytes ≡ all_bytes news
  pub rows_so : rows ≡ all_rows news
  pub heres_are : AreHere news heres
  pub can : AllByRecursion (CanLayOne set image source) rest
  pub room : at + bridge_room rest ≤ length image.bytes + bridge_room all
  pub limit : length image.bytes + bridge_room all < 2 ^ 30
  pub few : 16 * exit ≤ at
  pub starts : StartsBelow (starts_among image.pieces)

pub begin_behind : (set : TraceSet) (image : Imaged) (source : Option (ℕ × ℕ)) (all : List Piece) (from exit : ℕ) (bytes : List ℕ) (rows : List ExitRow) (heres : List PieceHere)
    → CanLay set image source all → from ≡ length image.bytes → exit ≡ length image.exits → bytes ≡ [] → rows ≡ [] → heres ≡ [] → LaysBehind set image source all [] all from exit bytes rows heres
begin_behind set image source all from exit bytes rows heres can f e b r h = record {
  at = length image.bytes;
  news = [];
  are = refl;
  each = tt;
  follow = (refl, sym e);
  from_is = f;
  place = omega (arith, f, ap length b);
  code = b;
  rows_so = r;
  heres_are = subst (AreHere []) (sym h) tt;
  can = can.each;
  room = omega arith;
  limit = can.room;
  few = omega (arith, can.few, e);
  starts = can.starts;
}

-- the same plan, by what its ends are
pub plan_same : (set : TraceSet) (p : Piece) (registers : ℕ) (label label' to to' : List Place) (front front' : List Instr) (at exit : ℕ) (x : Plan) → label ≡ label' → to ≡ to' → front ≡ front'
    → IsPlanned set p registers label to front at exit x → IsPlanned set p registers label' to' front' at exit x
plan_same set p registers label label' to to' front front' at exit x l t f h =
    subst (λ (i : List Instr). IsPlanned set p registers label' to' i at exit x) f (subst (λ (y : List Place). IsPlanned set p registers label' y front at exit x) t (subst (λ (y : List Place). IsPlanned set p registers y to front at exit x) l h))

-- what holds of the next piece
pub record NextBehind (p : Piece) (x : Plan) (from : ℕ) (bytes : List ℕ) : Type 0 where
  pub ready : IsReady p x
  pub place : from + length bytes ≡ x.at
  pub room : x.at + 64 + 32 * size_of p + 64 < 2 ^ 31
  pub few : 16 * x.exit ≤ x.at
  pub number : CanNumber p

pub next_behind : SoundPiecesCanBeNumbered → (set : TraceSet) (image : Imaged) (source : Option (ℕ × ℕ)) (all done rest : List Piece) (from exit at : ℕ) (bytes : List ℕ) (rows : List ExitRow) (heres : List PieceHere)
    (p : Piece) (x : Plan) (label to : List Place) (front : List Instr)
    → LaysBehind set image source all done (p ∷ rest) from exit bytes rows heres → IsPlanned set p image.registers label to front at exit x → at ≡ from + length bytes → NextBehind p x from bytes
next_behind law set image source all done rest from exit at bytes rows heres p x label to front h i e = record {
  ready = record { front = i.short_front; start = i.start ∙ ap (λ (k : ℕ). k + total_size x.front) (sym i.begins); stubs = i.stubs; rows = i.rows; keys = i.keys; short = i.short; small = i.small };
  place = sym (i.begins ∙ e);
  room = omega (arith, i.begins, e, h.place, h.room, h.limit);
  few = omega (arith, i.begins, i.exits, e, h.place, h.few);
  number = law set i.can_plan.label_of p i.can_plan.sound;
}

starts_same : (heres : List PieceHere) (q : PieceId) → start_listed (starts_among heres) q ≡ start_among heres q
starts_same [] q = refl
starts_same (h ∷ hs) q = ap (λ (n : ℕ). cond (same_piece q h.id) h.start n) (starts_same hs q)

all_more : {X : Type 0} (P : X → Type 0) (xs : List X) (x : X) → AllByRecursion P xs → P x → AllByRecursion P (xs ++ x ∷ [])
all_more P [] x h p = (p, tt)
all_more P (y ∷ ys) x h p = (h.0, all_more P ys x h.1 p)

heres_more : (pls : List Placed) (ys : List PieceHere) (pl : Placed) (y : PieceHere) → AreHere pls ys → IsHere pl y → AreHere (pls ++ pl ∷ []) (ys ++ y ∷ [])
heres_more [] [] pl y h i = (i, tt)
heres_more [] (z ∷ zs) pl y h i = absurd h
heres_more (q ∷ qs) [] pl y h i = absurd h
heres_more (q ∷ qs) (z ∷ zs) pl y h i = (h.0, heres_more qs zs pl y h.1 i)

new_of : (set : TraceSet) (image : Imaged) (source : Option (ℕ × ℕ)) (s : PieceId → ℕ) (p : Piece) (x : Plan) (pl : Placed) → ((q : PieceId) → s q ≡ start_among image.pieces q)
    → Made set image.registers s (label_for image source p) (target_places image.pieces p.ops) (entry_code (guards_for image source p) (label_for image source p)) p x pl → IsNew set image source pl
new_of set image source s p x pl same m = record {
  front = m.front_is ∙ ap (λ (q : Piece). entry_code (guards_for image source q) (label_for image source q)) (sym m.piece);
  label = m.label_is ∙ ap (λ (q : Piece). label_for image source q) (sym m.piece);
  to = m.to_is ∙ ap (λ (q : Piece). target_places image.pieces q.ops) (sym m.piece);
  targets = λ done rest op split. m.targets done rest op split ∙ target_same s (start_among image.pieces) (stub_of pl (length done)) op same;
  standing = λ words le. m.standing words (subst (λ (l : List Place). words_used l ≤ words) m.label_is le);
}

pub behind_more : Laws → (set : TraceSet) (image : Imaged) (source : Option (ℕ × ℕ)) (all done done' rest : List Piece) (from from' exit exit' at : ℕ) (bytes bytes' : List ℕ) (rows rows' : List ExitRow) (heres heres' : List PieceHere)
    (starts : List (PieceId × ℕ)) (p : Piece) (x : Plan) (y : PieceHere)
    → LaysBehind set image source all done (p ∷ rest) from exit bytes rows heres
    → IsPlanned set p image.registers (label_for image source p) (target_places image.pieces p.ops) (entry_code (guards_for image source p) (label_for image source p)) at exit x
    → at ≡ from + length bytes → starts ≡ starts_among image.pieces
    → done' ≡ done ++ p ∷ [] → heres' ≡ heres ++ y ∷ [] → from' ≡ from → exit' ≡ exit + exits_in p.ops → IsHereOf p x y
    → bytes' ≡ bytes ++ laid_bytes x.at (listed (targets_from (start_listed starts) x.stubs p.ops)) x (exits_in p.ops)
    → rows' ≡ rows ++ rows_from (where_in x.places.at) x.id (λ k. place_among k 0 (noted x.start 0 x.selected.instrs x.selected.jumps)) x.exit 0 p.ops
    → LaysBehind set image source all done' rest from' exit' bytes' rows' heres'
behind_more law set image source all done done' rest from from' exit exit' at bytes bytes' rows rows' heres heres' starts p x y h i a st d hs f e w b r =
    let s = start_listed starts in
    let label = label_for image source p in
    let to = target_places image.pieces p.ops in
    let front = entry_code (guards_for image source p) label in
    let t = stands law set image.registers s label to front p x at exit i in
    let pl = t.pl in
    let same : (q : PieceId) → s q ≡ start_among image.pieces q = λ q. ap (λ (l : List (PieceId × ℕ)). start_listed l q) st ∙ starts_same image.pieces q in
    let count : exits_in pl.piece.ops ≡ exits_in p.ops = ap (λ (q : Piece). exits_in q.ops) t.made.piece in
    let few : pl.exit + exits_in pl.piece.ops < 2 ^ 31 = omega (arith, t.first, count, h.few, h.room, h.limit, i.short) in
    let here : at ≡ h.at = a ∙ h.place in
    let long : length bytes' ≡ length bytes + length (bytes_in pl) = ap length b ∙ length-append bytes (laid_bytes x.at (listed (targets_from s x.stubs p.ops)) x (exits_in p.ops)) ∙ ap (λ (l : List ℕ). length bytes + length l) t.bytes in
    let end : pl.at + length (bytes_in pl) ≡ end_of pl = piece_long law pl few in
    let more = laid_more (length image.bytes) (length image.exits) h.at exit h.news pl h.follow (t.here ∙ here) t.first in record {
      at = end_of pl;
      news = h.news ++ pl ∷ [];
      are = map-append (λ (z : Placed). z.piece) h.news (pl ∷ []) ∙ ap (λ (l : List Piece). l ++ pl.piece ∷ []) h.are ∙ ap (λ (q : Piece). done ++ q ∷ []) t.made.piece ∙ sym d;
      each = all_more (IsNew set image source) h.news pl h.each (new_of set image source s p x pl same t.made);
      follow = subst (AreLaid (length image.bytes) (length image.exits) (h.news ++ pl ∷ []) (end_of pl)) (ap (λ (n : ℕ). exit + n) count ∙ sym e) more;
      from_is = f ∙ h.from_is;
      place = omega (arith, f, long, end, t.here, here, h.place);
      code = b ∙ ap (λ (l : List ℕ). bytes ++ l) t.bytes ∙ ap (λ (l : List ℕ). l ++ bytes_in pl) h.code ∙ sym (bytes_more h.news pl);
      rows_so = r ∙ ap (λ (l : List ExitRow). rows ++ l) t.rows ∙ ap (λ (l : List ExitRow). l ++ rows_of pl) h.rows_so ∙ sym (rows_more h.news pl);
      heres_are = subst (AreHere (h.news ++ pl ∷ [])) (sym hs) (heres_more h.news heres pl y h.heres_are (is_here set image.registers s label to front p x y pl t.made w));
      can = h.can.1;
      room = omega (arith, t.end, i.stubs, i.start, i.short_front.short, i.short, here, h.room);
      limit = h.limit;
      few = omega (arith, t.end, i.stubs, i.start, here, h.few, e);
      starts = h.starts;
    }

pub behind_done : (set : TraceSet) (image : Imaged) (source : Option (ℕ × ℕ)) (all : List Piece) (from exit : ℕ) (laid : Laid) → LaysBehind set image source all all [] from exit laid.bytes.items laid.exits.items laid.pieces.items → IsLaidBehind set image source all laid
behind_done set image source all from exit laid h = record {
  news = h.news;
  are = h.are;
  each = h.each;
  end = h.at;
  last = exit;
  follow = h.follow;
  place = omega (arith, h.place, h.from_is);
  code = h.code;
  rows = h.rows_so;
  heres = h.heres_are;
  short = omega (arith, h.place, h.from_is, h.room);
}
