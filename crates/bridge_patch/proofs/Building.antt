-- Pieces that are laid out as they are planned stand in the code as they are to.
use Rattle.std.proofs.Common.{◌≡◌, ℕ, zero, suc, ◌+◌, ◌*◌, ◌<◌, ◌≤◌, ◌^◌, cond, Some, List, [], ◌∷◌, ◌++◌, length, take, refl, sym, ap, ◌∙◌, subst, arith, append_assoc, append-nil, length-append}
use Rattle.std.specs.Prelude.{slice_get, map}
use Rattle.linear_scan.specs.Placing.{Allocated, words_used}
use Rattle.bridge_patch.specs.Attached.{IsStanding}
use Rattle.std.specs.List.{AllZip}
use Rattle.std.proofs.lemmas.List.{take_at}
use Rattle.trace_ops.specs.declared.trace.BoxId.{BoxId}
use Rattle.trace_ops.specs.declared.trace.Arg.{Arg}
use Rattle.trace_ops.specs.declared.trace.TraceSet.{TraceSet}
use Rattle.trace_ops.specs.declared.piece.PieceId.{PieceId}
use Rattle.trace_ops.specs.declared.piece.OptOp.{OptOp}
use Rattle.trace_ops.specs.declared.piece.OptOp.TheVariants as opt
use Rattle.trace_ops.specs.declared.piece.Piece.{Piece}
use Rattle.target_base.specs.declared.place.Place.{Place}
use Rattle.x64_encode.specs.declared.instr.Instr.{Instr}
use Rattle.guard_exit.specs.declared.row.ExitRow.{ExitRow}
use Rattle.guard_exit.specs.Codes.{common_code, stub_code}
use Rattle.resume_numbering.specs.Numbered.{IsNumbered}
use Rattle.asm_select.specs.declared.told.Told.TheVariants as tell
use Rattle.asm_select.specs.Slots.{sizes_of, instrs_of, jumps_from}
use Rattle.asm_select.specs.Given.{where_in, LabelsServe}
use Rattle.asm_select.specs.Chosen.{Where, Setting, all_code}
use Rattle.asm_select.specs.Laid.{has_stub}
use Rattle.code_layout.specs.Leading.{way, led_bytes, jumps_at}
use Rattle.code_layout.specs.Emitting.{total_size, emitted, noted, listed}
use Rattle.code_layout.specs.Laws.{SlotsAreEmitted, JumpsAreNoted, SizesAreTold}
use Rattle.bridge_patch.specs.declared.plan.Plan.{Plan}
use Rattle.bridge_patch.specs.Pieces.{Placed, body_of, start_of, stubs_of, stub_of, end_of, exits_in, spelled, stubs_from, bytes_in, all_bytes, AreLaid, label_places, loop_front, label_at, place_among, rows_from, displacement_of, rows_of, all_rows}
use Rattle.bridge_patch.specs.Planning.{IsPlanned, IsPlan, jump_count, target_of, targets_from, AllTargets, laid_bytes, CanPlan}
use Rattle.bridge_patch.specs.declared.image.PieceHere.{PieceHere}
use Rattle.bridge_patch.specs.Image.{IsHere}
use Rattle.bridge_patch.specs.Planning.{IsHereOf}
use Rattle.bridge_patch.proofs.Stubs.{spelled-append, spelled_long, stub_long}
use Rattle.bridge_patch.proofs.Plans.{same_key}

-- ---- one piece

pub record Made (set : TraceSet) (registers : ℕ) (s : PieceId → ℕ) (label to : List Place) (front : List Instr) (p : Piece) (x : Plan) (pl : Placed) : Type 0 where
  pub piece : pl.piece ≡ p
  pub id : x.id ≡ pl.piece.id
  pub begins : x.at ≡ pl.at
  pub start : x.start ≡ start_of pl
  pub front_is : pl.front ≡ front
  pub label_is : label_at pl ≡ label
  pub planned_label : x.label ≡ label
  pub label_zip : AllZip (λ (q : Place) (b : BoxId). pl.setting.at b.number ≡ q) label pl.piece.label
  pub to_is : pl.setting.to ≡ to
  pub can : CanPlan set p registers
  pub standing : (words : ℕ) → words_used label ≤ words → IsStanding set registers words pl
  pub targets : AllTargets s pl
  pub counts : (k : ℕ) (target : PieceId) (args : List Arg) → slice_get pl.piece.ops k ≡ Some (opt.Jump target args) → length args ≡ length to

abbrev placed_by : (s : PieceId → ℕ) (p : Piece) (x : Plan) → Setting → Placed
placed_by s p x c = record { piece = p; front = x.front; setting = c; at = x.at; exit = x.exit; to = listed (targets_from s x.stubs p.ops) }

zip_map : (at : Where) (ps : List Place) (bs : List BoxId) → AllZip (λ (q : Place) (b : BoxId). at b.number ≡ q) ps bs → map (λ (b : BoxId). at b.number) bs ≡ ps
zip_map at [] [] h = refl
zip_map at [] (b ∷ bs) h = absurd h
zip_map at (q ∷ qs) [] h = absurd h
zip_map at (q ∷ qs) (b ∷ bs) h = ap (λ (y : Place). y ∷ map (λ (b : BoxId). at b.number) bs) h.0 ∙ ap (λ (l : List Place). q ∷ l) (zip_map at qs bs h.1)

target_at : (s : PieceId → ℕ) (stub : ℕ) (done rest : List OptOp) (op : OptOp) → listed (targets_from s stub (done ++ op ∷ rest)) (length done) ≡ target_of s (stub + 16 * exits_in done) op
target_at s stub [] rest op = let n : stub ≡ stub + 16 * 0 = omega arith in ap (λ (k : ℕ). target_of s k op) n
target_at s stub (d ∷ done) rest op =
    let next = stub + 16 * cond (has_stub d) 1 0 in
    let n : next + 16 * exits_in done ≡ stub + 16 * exits_in (d ∷ done) = omega arith in
    target_at s next done rest op ∙ ap (λ (k : ℕ). target_of s k op) n

target_stub : (s : PieceId → ℕ) (p : Piece) (x : Plan) (c : Setting) (done rest : List OptOp) (op : OptOp) → x.stubs ≡ stubs_of (placed_by s p x c) → p.ops ≡ done ++ op ∷ rest
    → listed (targets_from s x.stubs p.ops) (length done) ≡ target_of s (stub_of (placed_by s p x c) (length done)) op
target_stub s p x c done rest op at split =
    let taken : take (length done) p.ops ≡ done = ap (take (length done)) split ∙ take_at done (op ∷ rest) (length done) refl in
    ap (λ (l : List OptOp). listed (targets_from s x.stubs l) (length done)) split
    ∙ target_at s x.stubs done rest op
    ∙ ap (λ (k : ℕ). target_of s (k + 16 * exits_in done) op) at
    ∙ ap (λ (l : List OptOp). target_of s (stubs_of (placed_by s p x c) + 16 * exits_in l) op) (sym taken)

pub record Laws : Type 0 where
  pub emitted : SlotsAreEmitted
  pub noted : JumpsAreNoted
  pub sizes : SizesAreTold
  pub labels : LabelsServe

-- the piece as it stands, its bytes and its rows
pub record Stands (set : TraceSet) (registers : ℕ) (s : PieceId → ℕ) (label to : List Place) (front : List Instr) (p : Piece) (x : Plan) (at exit : ℕ) : Type 0 where
  pub pl : Placed
  pub made : Made set registers s label to front p x pl
  pub here : pl.at ≡ at
  pub first : pl.exit ≡ exit
  pub bytes : laid_bytes x.at (listed (targets_from s x.stubs p.ops)) x (exits_in p.ops) ≡ bytes_in pl
  pub rows : rows_from (where_in x.places.at) x.id (λ k. place_among k 0 (noted x.start 0 x.selected.instrs x.selected.jumps)) x.exit 0 p.ops ≡ rows_of pl
  pub end : end_of pl ≡ x.stubs + 16 * exits_in p.ops

pub stands : Laws → (set : TraceSet) (registers : ℕ) (s : PieceId → ℕ) (label to : List Place) (front : List Instr) (p : Piece) (x : Plan) (at exit : ℕ) → IsPlanned set p registers label to front at exit x → Stands set registers s label to front p x at exit
stands law set registers s label to front p x at exit h =
    let f = h.fits in
    let c = f.c in
    let pl = placed_by s p x c in
    let body = all_code c 0 tell.Nothing p.ops in
    let jumps : x.selected.jumps ≡ jumps_from 0 body = sym (same_key x.selected.jumps) ∙ f.jumps in
    let size : total_size x.selected.instrs ≡ sizes_of body = ap total_size f.instrs ∙ (law.sizes pl.to 0 body).0 in
    let start : x.start ≡ start_of pl = omega (arith, h.start, h.begins) in
    let stubs : x.stubs ≡ stubs_of pl = omega (arith, h.stubs, start, size) in
    let st = start_of pl in
    let code : emitted pl.to st 0 x.selected.instrs x.selected.jumps ≡ led_bytes pl.to st body =
    ap (λ (l : List Instr). emitted pl.to st 0 l x.selected.jumps) f.instrs ∙ ap (emitted pl.to st 0 (instrs_of body)) jumps ∙ law.emitted pl.to st body in
    let place : st + total_size x.selected.instrs ≡ stubs_of pl = ap (λ (k : ℕ). st + k) size in
    let seen : noted x.start 0 x.selected.instrs x.selected.jumps ≡ jumps_at st body =
    ap (λ (q : ℕ). noted q 0 x.selected.instrs x.selected.jumps) start ∙ ap (λ (l : List Instr). noted st 0 l x.selected.jumps) f.instrs ∙ ap (noted st 0 (instrs_of body)) jumps ∙ law.noted st body in
    let zip0 = law.labels p registers label x.places h.can.sound.formed.boxes_numbered h.allocated h.labelled.long in
    let zip = subst (λ (w : Where). AllZip (λ (q : Place) (b : BoxId). w b.number ≡ q) label p.label) (sym f.at) zip0 in
    let same : map (λ (b : BoxId). c.at b.number) p.label ≡ label = zip_map c.at label p.label zip in
    record {
      pl = pl;
      made = record {
        piece = refl;
        id = h.id;
        begins = refl;
        start = start;
        front_is = h.front;
        label_is = same;
        planned_label = h.label_is;
        label_zip = zip;
        to_is = f.to;
        can = h.can_plan;
        standing = λ words le. record {
          can = h.can_plan;
          places = x.places;
          at = f.at;
          allocated = subst (λ (l : List Place). Allocated p registers l x.places) (sym same) h.allocated;
          few = subst (λ (l : List Place). words_used l ≤ words) (sym same) le;
          table = f.table;
          serves = f.serves;
          hold = f.hold;
          apart = f.apart;
          safe = f.safe;
          chosen = f.chosen;
          short = omega (arith, size, h.short);
        };
        targets = λ done rest op split. target_stub s p x c done rest op stubs split;
        counts = h.can.targets.count;
      };
      here = h.begins;
      first = h.exits;
      bytes =
          ap (λ (l : List ℕ). spelled x.front ++ (l ++ spelled (stubs_from (st + total_size x.selected.instrs) x.exit (exits_in p.ops)))) code
          ∙ ap (λ (q : ℕ). spelled x.front ++ (led_bytes pl.to st body ++ spelled (stubs_from q x.exit (exits_in p.ops)))) place;
      rows =
          ap (λ (l : List (ℕ × ℕ)). rows_from (where_in x.places.at) x.id (λ k. place_among k 0 l) x.exit 0 p.ops) seen
          ∙ ap (λ (w : Where). rows_from w x.id (displacement_of pl) x.exit 0 p.ops) (sym f.at)
          ∙ ap (λ (q : PieceId). rows_from c.at q (displacement_of pl) x.exit 0 p.ops) h.id;
      end = omega (arith, stubs);
    }

-- ---- one piece more

pub is_here : (set : TraceSet) (registers : ℕ) (s : PieceId → ℕ) (label to : List Place) (front : List Instr) (p : Piece) (x : Plan) (y : PieceHere) (pl : Placed) → Made set registers s label to front p x pl → IsHereOf p x y → IsHere pl y
is_here set registers s label to front p x y pl m h = record {
  id = h.id ∙ m.id;
  begins = h.begins ∙ m.begins;
  start = h.start ∙ m.start;
  label = h.label ∙ m.planned_label ∙ sym m.label_is;
  table = subst (IsNumbered y.table) (sym m.piece) h.table;
}

stubs_long : (p e n : ℕ) → e + n < 2 ^ 31 → length (spelled (stubs_from p e n)) ≡ 16 * n
stubs_long p e zero lt = refl
stubs_long p e (suc n) lt =
    let code = stub_code (way (p + 16) 0) e in
    let more = stubs_from (p + 16) (e + 1) n in
    ap length (spelled-append code more) ∙ length-append (spelled code) (spelled more)
    ∙ omega (arith, stub_long (way (p + 16) 0) e (omega (arith, lt)), stubs_long (p + 16) (e + 1) n (omega (arith, lt)))

pub piece_long : Laws → (pl : Placed) → pl.exit + exits_in pl.piece.ops < 2 ^ 31 → pl.at + length (bytes_in pl) ≡ end_of pl
piece_long law pl lt =
    let code = led_bytes pl.to (start_of pl) (body_of pl) in
    let more = spelled (stubs_from (stubs_of pl) pl.exit (exits_in pl.piece.ops)) in
    omega (arith, length-append (spelled pl.front) (code ++ more), length-append code more, spelled_long pl.front, (law.sizes pl.to (start_of pl) (body_of pl)).1, stubs_long (stubs_of pl) pl.exit (exits_in pl.piece.ops) lt)

-- a piece of a loop
abbrev pub MadeLoop : TraceSet → ℕ → (PieceId → ℕ) → Piece → Plan → Placed → Type 0
MadeLoop set registers s p x pl = Made set registers s (label_places (length p.label)) (label_places (jump_count p.ops)) (loop_front p.id.half) p x pl

abbrev pub MadeAll : TraceSet → ℕ → (PieceId → ℕ) → List Piece → List Plan → List PieceHere → List Placed → Type 0
MadeAll set registers s [] [] [] [] = Unit {0}
MadeAll set registers s (p ∷ ps) (x ∷ xs) (y ∷ ys) (pl ∷ pls) = MadeLoop set registers s p x pl × IsHere pl y × MadeAll set registers s ps xs ys pls
MadeAll set registers s _ _ _ _ = ⊥

made_more : (set : TraceSet) (registers : ℕ) (s : PieceId → ℕ) (ps : List Piece) (xs : List Plan) (ys : List PieceHere) (pls : List Placed) (p : Piece) (x : Plan) (y : PieceHere) (pl : Placed)
    → MadeAll set registers s ps xs ys pls → MadeLoop set registers s p x pl → IsHere pl y → MadeAll set registers s (ps ++ p ∷ []) (xs ++ x ∷ []) (ys ++ y ∷ []) (pls ++ pl ∷ [])
made_more set registers s [] [] [] [] p x y pl h m i = (m, i, tt)
made_more set registers s (q ∷ qs) (z ∷ zs) (w ∷ ws) (r ∷ rs) p x y pl h m i = (h.0, h.1, made_more set registers s qs zs ws rs p x y pl h.2 m i)
made_more set registers s _ _ _ _ p x y pl h m i = absurd h

pub laid_more : (a e at exit : ℕ) (pls : List Placed) (pl : Placed) → AreLaid a e pls at exit → pl.at ≡ at → pl.exit ≡ exit → AreLaid a e (pls ++ pl ∷ []) (end_of pl) (exit + exits_in pl.piece.ops)
laid_more a e at exit [] pl h i j = (i ∙ sym h.0, j ∙ sym h.1, (refl, ap (λ (k : ℕ). k + exits_in pl.piece.ops) h.1))
laid_more a e at exit (q ∷ qs) pl h i j = (h.0, h.1, laid_more (end_of q) (e + exits_in q.piece.ops) at exit qs pl h.2 i j)

pub bytes_more : (pls : List Placed) (pl : Placed) → all_bytes (pls ++ pl ∷ []) ≡ all_bytes pls ++ bytes_in pl
bytes_more [] pl = append-nil (bytes_in pl)
bytes_more (q ∷ qs) pl = ap (λ (l : List ℕ). bytes_in q ++ l) (bytes_more qs pl) ∙ sym (append_assoc (bytes_in q) (all_bytes qs) (bytes_in pl))

pub rows_more : (pls : List Placed) (pl : Placed) → all_rows (pls ++ pl ∷ []) ≡ all_rows pls ++ rows_of pl
rows_more [] pl = append-nil (rows_of pl)
rows_more (q ∷ qs) pl = ap (λ (l : List ExitRow). rows_of q ++ l) (rows_more qs pl) ∙ sym (append_assoc (rows_of q) (all_rows qs) (rows_of pl))

pub record Built (set : TraceSet) (registers : ℕ) (s : PieceId → ℕ) (ps : List Piece) (xs : List Plan) (ys : List PieceHere) (bytes : List ℕ) (rows : List ExitRow) (at exit : ℕ) : Type 0 where
  pub placed : List Placed
  pub made : MadeAll set registers s ps xs ys placed
  pub laid : AreLaid 49 0 placed at exit
  pub bytes_so : bytes ≡ spelled common_code ++ all_bytes placed
  pub rows_so : rows ≡ all_rows placed

pub built_more : Laws → (set : TraceSet) (registers : ℕ) (s : PieceId → ℕ) (ps : List Piece) (xs : List Plan) (ys : List PieceHere) (bytes bytes' : List ℕ) (rows rows' : List ExitRow) (at exit : ℕ) (p : Piece) (x : Plan) (y : PieceHere)
    → Built set registers s ps xs ys bytes rows at exit → IsPlan set registers p at exit x → IsHereOf p x y
    → bytes' ≡ bytes ++ laid_bytes x.at (listed (targets_from s x.stubs p.ops)) x (exits_in p.ops)
    → rows' ≡ rows ++ rows_from (where_in x.places.at) x.id (λ k. place_among k 0 (noted x.start 0 x.selected.instrs x.selected.jumps)) x.exit 0 p.ops
    → Built set registers s (ps ++ p ∷ []) (xs ++ x ∷ []) (ys ++ y ∷ []) bytes' rows' (x.stubs + 16 * exits_in p.ops) (exit + exits_in p.ops)
built_more law set registers s ps xs ys bytes bytes' rows rows' at exit p x y h i w b r =
    let label = label_places (length p.label) in
    let to = label_places (jump_count p.ops) in
    let t = stands law set registers s label to (loop_front p.id.half) p x at exit i in
    let more = laid_more 49 0 at exit h.placed t.pl h.laid t.here t.first in
    let same : exits_in t.pl.piece.ops ≡ exits_in p.ops = ap (λ (q : Piece). exits_in q.ops) t.made.piece in record {
      placed = h.placed ++ t.pl ∷ [];
      made = made_more set registers s ps xs ys h.placed p x y t.pl h.made t.made (is_here set registers s label to (loop_front p.id.half) p x y t.pl t.made w);
      laid = subst (λ (k : ℕ). AreLaid 49 0 (h.placed ++ t.pl ∷ []) k (exit + exits_in p.ops)) t.end (subst (λ (k : ℕ). AreLaid 49 0 (h.placed ++ t.pl ∷ []) (end_of t.pl) (exit + k)) same more);
      bytes_so =
          b ∙ ap (λ (l : List ℕ). bytes ++ l) t.bytes ∙ ap (λ (l : List ℕ). l ++ bytes_in t.pl) h.bytes_so
          ∙ append_assoc (spelled common_code) (all_bytes h.placed) (bytes_in t.pl)
          ∙ ap (λ (l : List ℕ). spelled common_code ++ l) (sym (bytes_more h.placed t.pl));
      rows_so = r ∙ ap (λ (l : List ExitRow). rows ++ l) t.rows ∙ ap (λ (l : List ExitRow). l ++ rows_of t.pl) h.rows_so ∙ sym (rows_more h.placed t.pl);
    }
