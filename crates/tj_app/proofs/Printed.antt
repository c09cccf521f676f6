-- What an image to which no bridge is attached tells where it is printed.
use Rattle.std.proofs.Common.{◌≡◌, ℕ, suc, ◌+◌, ◌*◌, ◌≤◌, ◌<◌, ◌^◌, List, [], ◌∷◌, ◌++◌, Option, Some, None, length, map, refl, sym, ap, subst, ◌∙◌, arith, length-append, cond}
use Rattle.std.specs.Prelude.{slice_get, if◌then◌else◌, Bool, true, false}
use Rattle.std.specs.Option.{IsSomeAnd}
use Rattle.std.specs.List.{All, AllByRecursion}
use Rattle.std.proofs.lemmas.List.{map-append, append-nil}
use Rattle.std.proofs.lemmas.List.Elements.{All-map, All-contains, All-from_recursion}
use Rattle.lists.proofs.Alls.{all_weaker}
use Rattle.lists.proofs.Eaches.{each_append}
use Rattle.lists.proofs.Options.{none_some, some_same}
use Rattle.trace_ops.specs.declared.trace.BoxId.{BoxId}
use Rattle.trace_ops.specs.declared.trace.Origin.{Origin}
use Rattle.trace_ops.specs.declared.trace.Origin.TheVariants as origin
use Rattle.trace_ops.specs.declared.trace.Trace.{Trace}
use Rattle.trace_ops.specs.declared.trace.TraceSet.{TraceSet}
use Rattle.trace_ops.specs.declared.piece.PieceId.{PieceId}
use Rattle.trace_ops.specs.declared.piece.OptOp.{OptOp}
use Rattle.trace_ops.specs.declared.piece.OptOp.TheVariants as op
use Rattle.trace_ops.specs.declared.piece.Piece.{Piece}
use Rattle.trace_ops.specs.Parts.{parts_of}
use Rattle.opt_meaning.specs.Meeting.{Made, made_at, pieces_of}
use Rattle.opt_meaning.specs.Pieces.{same_piece, piece_at, ops_of, preamble}
use Rattle.opt_promise.specs.Promise.{AreMade}
use Rattle.asm_select.specs.Chosen.{Where}
use Rattle.asm_select.specs.Laid.{has_stub}
use Rattle.bridge_patch.specs.Pieces.{Placed, end_of, exits_in, boxes_at, finished_boxes, rows_of_op, rows_from, rows_of, all_rows, displacement_of, AreLaid}
use Rattle.bridge_patch.specs.Image.{Imaged, loop_if, loops_from}
use Rattle.bridge_patch.specs.Attached.{IsImageOf}
use Rattle.image_built.specs.Laws.{Keeps, IsLoop, IsEntry, IsPrinted}
use Rattle.guard_exit.specs.declared.row.ExitRow.{ExitRow}
use Rattle.bridge_patch.specs.declared.image.Change.{Change}
use Rattle.image_text.specs.declared.image.Compiled.{Compiled}
use Rattle.image_text.specs.Printing as text
use Rattle.tj_app.specs.Imaging.{Exit, exit_told, exits_of_op, exits_from, exits_of, entry_of, entries_of, printed_of}

-- ---- exits

boxes_told : (at : Where) (bs : List BoxId) → map (λ x. x.0) (boxes_at at bs) ≡ bs
boxes_told at [] = refl
boxes_told at (b ∷ bs) = ap (λ l. b ∷ l) (boxes_told at bs)

abbrev one_exit : ℕ → PieceId → Option ℕ → List BoxId → List Exit
one_exit n id g bs = record { number = n; id = id; guard = g; boxes = bs } ∷ []

told_one : (at : Where) (id : PieceId) (exit place : ℕ) (o : OptOp) → map exit_told (rows_of_op at id exit place o) ≡ exits_of_op exit id o
told_one at id exit place (op.Plain operation r args d) = refl
told_one at id exit place (op.Guard operation args g snap) = ap (one_exit exit id (Some g)) (boxes_told at (parts_of snap))
told_one at id exit place (op.Exit g snap) = ap (one_exit exit id (Some g)) (boxes_told at (parts_of snap))
told_one at id exit place (op.Jump to args) = refl
told_one at id exit place (op.Finish value) = ap (one_exit exit id None) (boxes_told at (finished_boxes value))

told_from : (at : Where) (id : PieceId) (place : ℕ → ℕ) (exit k : ℕ) (ops : List OptOp) → map exit_told (rows_from at id place exit k ops) ≡ exits_from exit id ops
told_from at id place exit k [] = refl
told_from at id place exit k (o ∷ ops) =
    let next = exit + cond (has_stub o) 1 0 in
    map-append exit_told (rows_of_op at id exit (place k) o) (rows_from at id place next (k + 1) ops)
    ∙ ap (λ l. l ++ map exit_told (rows_from at id place next (k + 1) ops)) (told_one at id exit (place k) o)
    ∙ ap (λ l. exits_of_op exit id o ++ l) (told_from at id place next (k + 1) ops)

pub all_told : (at e : ℕ) (pls : List Placed) (end last : ℕ) → AreLaid at e pls end last → map exit_told (all_rows pls) ≡ exits_of e (map (λ (pl : Placed). pl.piece) pls)
all_told at e [] end last h = refl
all_told at e (pl ∷ pls) end last h =
    map-append exit_told (rows_of pl) (all_rows pls)
    ∙ ap (λ l. l ++ map exit_told (all_rows pls)) (told_from pl.setting.at pl.piece.id (displacement_of pl) pl.exit 0 pl.piece.ops ∙ ap (λ n. exits_from n pl.piece.id pl.piece.ops) h.1)
    ∙ ap (λ l. exits_from e pl.piece.id pl.piece.ops ++ l) (all_told (end_of pl) (e + exits_in pl.piece.ops) pls end last h.2)

-- ---- how many there are

one_counted : (at : Where) (id : PieceId) (exit place : ℕ) (o : OptOp) → length (rows_of_op at id exit place o) ≡ cond (has_stub o) 1 0
one_counted at id exit place (op.Plain operation r args d) = refl
one_counted at id exit place (op.Guard operation args n snap) = refl
one_counted at id exit place (op.Exit n snap) = refl
one_counted at id exit place (op.Jump to args) = refl
one_counted at id exit place (op.Finish value) = refl

rows_counted : (at : Where) (id : PieceId) (place : ℕ → ℕ) (exit k : ℕ) (ops : List OptOp) → length (rows_from at id place exit k ops) ≡ exits_in ops
rows_counted at id place exit k [] = refl
rows_counted at id place exit k (o ∷ ops) =
    let next = exit + cond (has_stub o) 1 0 in
    length-append (rows_of_op at id exit (place k) o) (rows_from at id place next (k + 1) ops)
    ∙ omega (arith, one_counted at id exit (place k) o, rows_counted at id place next (k + 1) ops)

-- each exit has a stub of 16 bytes
rows_low : (at e : ℕ) (pls : List Placed) (end last : ℕ) → AreLaid at e pls end last → at + 16 * length (all_rows pls) ≤ end
rows_low at e [] end last h = omega (arith, h.0)
rows_low at e (pl ∷ pls) end last h =
    omega (arith, h.0, rows_low (end_of pl) (e + exits_in pl.piece.ops) pls end last h.2, length-append (rows_of pl) (all_rows pls), rows_counted pl.setting.at pl.piece.id (displacement_of pl) pl.exit 0 pl.piece.ops)

pub few_exits : (set : TraceSet) (placed : List Placed) (image : Imaged) → IsImageOf set placed image → length image.exits < 2 ^ 30
few_exits set placed image h =
    let n : length image.exits ≡ length (all_rows placed) = ap length h.exits in
    omega (arith, n, rows_low _ 0 placed (length image.bytes) h.last h.laid, h.room)

-- ---- entries

found_if : (b : Bool) (m x : Made) (o : Option Made) (p : Option Piece) → (o ≡ Some m → p ≡ Some m.piece) → (if b then Some x else o) ≡ Some m → (if b then Some x.piece else p) ≡ Some m.piece
found_if true m x o p f e = ap (λ (y : Made). Some y.piece) (some_same e)
found_if false m x o p f e = f e

made_there : (ms : List Made) (q : PieceId) (m : Made) → made_at ms q ≡ Some m → piece_at (pieces_of ms) q ≡ Some m.piece
made_there [] q m e = absurd (none_some e)
made_there (x ∷ ms) q m e = found_if (same_piece q x.piece.id) m x (made_at ms q) (piece_at (pieces_of ms) q) (made_there ms q m) e

abbrev IsLoopIn : (ℕ → Option Trace) → ℕ → Type 0
IsLoopIn f p = (t : Trace) × (f p ≡ Some t) × IsLoop t

one_loop : (f : ℕ → Option Trace) (k : ℕ) (t : Trace) → f k ≡ Some t → (o : Origin) → t.origin ≡ o → AllByRecursion (IsLoopIn f) (loop_if o k)
one_loop f k t at origin.Loop is = ((t, at, is), tt)
one_loop f k t at (origin.Bridge parent guard) is = tt

are_loops : (f : ℕ → Option Trace) (k : ℕ) (ts : List Trace) → ((j : ℕ) (t : Trace) → slice_get ts j ≡ Some t → f (k + j) ≡ Some t) → AllByRecursion (IsLoopIn f) (loops_from k ts)
are_loops f k [] there = tt
are_loops f k (t ∷ ts) there =
    let none : k ≡ k + 0 = omega arith in
    each_append (IsLoopIn f) (loop_if t.origin k) (loops_from (k + 1) ts) (one_loop f k t (ap f none ∙ there 0 t refl) t.origin refl)
    (are_loops f (k + 1) ts (λ j x e. let next : k + 1 + j ≡ k + suc j = omega arith in ap f next ∙ there (suc j) x e))

abbrev IsEntered : TraceSet → List Piece → Imaged → ℕ × ℕ → Type 0
IsEntered set ps image e = IsEntry set ps image e.0 e.1

entered_at : (set : TraceSet) (bridges : List ℕ) (ms : List Made) (image : Imaged) → AreMade set bridges ms → (k : ℕ) → IsLoopIn (slice_get set.traces) k → IsEntered set (pieces_of ms) image (entry_of image k)
entered_at set bridges ms image are k (t, at, is) =
    let first = are.loops k t at is in
    record {
      loop = subst (λ q. IsSomeAnd q IsLoop) (sym at) is;
      piece = first.0.piece;
      there = made_there ms (preamble k) first.0 first.1;
      at = refl;
    }

all_entered : (set : TraceSet) (bridges : List ℕ) (ms : List Made) (image : Imaged) → AreMade set bridges ms → All (IsEntered set (pieces_of ms) image) (entries_of set image)
all_entered set bridges ms image are =
    let ks = loops_from 0 set.traces in
    All-map (IsEntered set (pieces_of ms) image) (entry_of image) ks
    (all_weaker (IsLoopIn (slice_get set.traces)) (λ k. IsEntered set (pieces_of ms) image (entry_of image k)) ks (entered_at set bridges ms image are)
    (All-from_recursion (IsLoopIn (slice_get set.traces)) ks (are_loops (slice_get set.traces) 0 set.traces (λ j t e. let none : 0 + j ≡ j = omega arith in ap (slice_get set.traces) none ∙ e))))

pub printed : (set : TraceSet) (bridges : List ℕ) (ms : List Made) (image : Imaged) → AreMade set bridges ms → IsPrinted set (pieces_of ms) image (printed_of set image)
printed set bridges ms image are = record {
  base = refl;
  rows = refl;
  entries = λ trace entry h. All-contains (IsEntered set (pieces_of ms) image) (entries_of set image) (trace, entry) (all_entered set bridges ms image are) h;
}

-- one a loop, in order
firsts : (image : Imaged) (ks : List ℕ) → map (λ (e : ℕ × ℕ). e.0) (map (entry_of image) ks) ≡ ks
firsts image [] = refl
firsts image (k ∷ ks) = ap (λ l. k ∷ l) (firsts image ks)

pub entered_in_order : (set : TraceSet) (image : Imaged) → map (λ (e : ℕ × ℕ). e.0) (entries_of set image) ≡ loops_from 0 set.traces
entered_in_order set image = firsts image (loops_from 0 set.traces)

pub keeps_all : (ps : List Piece) → Keeps ps ps
keeps_all ps q p e = ap ops_of e

-- ---- the text

pub told_printed : (set : TraceSet) (image : Imaged) (compiled : Compiled) (entries : List (ℕ × ℕ)) (code : List ℕ) (exits : List ExitRow) (changes : List Change)
    → compiled.bytes ≡ length code → compiled.exits ≡ length exits → entries ≡ entries_of set image → code ≡ image.bytes → exits ≡ image.exits → changes ≡ []
    → text.IsPrinted (printed_of set image) compiled entries code exits changes
told_printed set image compiled entries code exits changes bytes rows entered code_is exits_are none = record {
  bytes = sym (bytes ∙ ap length code_is);
  rows = sym (rows ∙ ap length exits_are);
  entered = sym entered;
  now = sym code_is;
  exits_now = append-nil image.exits ∙ sym exits_are;
  parts_of = subst (λ (cs : List Change). text.ArePartsOf (length image.bytes) [] cs) (sym none) tt;
  stood = tt;
  once = tt;
}
