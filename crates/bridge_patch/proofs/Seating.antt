-- An image to which a bridge may be attached has places and room for its pieces.
use Rattle.std.proofs.Common.{◌≡◌, ℕ, zero, suc, ◌≤◌, Bool, true, false, cond, List, [], ◌∷◌, ◌++◌, length, Option, Some, None, refl, sym, ap, ◌∙◌, subst, arith}
use Rattle.std.specs.Prelude.{map, slice_get}
use Rattle.std.specs.List.{AllByRecursion, Contains}
use Rattle.trace_ops.specs.declared.trace.BoxId.{BoxId}
use Rattle.trace_ops.specs.declared.trace.Trace.{Trace}
use Rattle.trace_ops.specs.declared.trace.TraceSet.{TraceSet}
use Rattle.trace_ops.specs.declared.piece.PieceId.{PieceId}
use Rattle.trace_ops.specs.declared.piece.OptOp.{OptOp}
use Rattle.trace_ops.specs.declared.piece.Piece.{Piece}
use Rattle.trace_ops.specs.Weights.{sum_below}
use Rattle.target_base.specs.declared.place.Place.{Place}
use Rattle.linear_scan.specs.declared.places.Places.{Places}
use Rattle.linear_scan.specs.Numbering.{AreNumbered, AreDefined, BoxesLive}
use Rattle.linear_scan.specs.Placing.{words_used}
use Rattle.guard_exit.specs.declared.row.ExitRow.{ExitRow}
use Rattle.asm_select.specs.Chosen.{Where}
use Rattle.asm_select.specs.Exited.{shown_by}
use Rattle.bridge_patch.specs.Pieces.{Placed, all_rows, label_at}
use Rattle.bridge_patch.specs.Image.{Imaged}
use Rattle.bridge_patch.specs.Bridged.{comes_from, is_from, source_of}
use Rattle.bridge_patch.specs.Attached.{IsStanding, IsImageOf, IsCopy, AreOfBridge, words_for, taken, is_among, guard_of}
use Rattle.bridge_patch.specs.Bridging.{places_by, row_places, guards_for}
use Rattle.bridge_patch.proofs.Coming.{source_is}
use Rattle.bridge_patch.proofs.RowsOf.{row_placed, placed_row, first_row, shown_row}
use Rattle.bridge_patch.proofs.Guards.{shown_places, ShownWell, shown_well}

pub all_in : {X : Type 0} (P : X → Type 0) (xs : List X) (x : X) → AllByRecursion P xs → Contains xs x → P x
all_in P [] x h (i, lt, e) = absurd (omega (arith, lt))
all_in P (y ∷ ys) x h (zero, lt, e) = subst P e h.0
all_in P (y ∷ ys) x h (suc i, lt, e) = all_in P ys x h.1 (i, omega (arith, lt), e)

middle_in : (done rest : List OptOp) (op : OptOp) → Contains (done ++ op ∷ rest) op
middle_in [] rest op = (0, omega arith, refl)
middle_in (d ∷ done) rest op = let (i, lt, e) = middle_in done rest op in (suc i, omega (arith, lt), e)

middle_get : (done rest : List OptOp) (op : OptOp) → slice_get (done ++ op ∷ rest) (length done) ≡ Some op
middle_get [] rest op = refl
middle_get (d ∷ done) rest op = middle_get done rest op

pub from_some : (traces : List Trace) (b p : ℕ) (g : Option ℕ) → is_from traces b p g ≡ true → (n : ℕ) × (g ≡ Some n)
from_some traces b p None e = absurd (false_true e)
  where
    false_true : false ≡ true → ⊥
    false_true e = cc
from_some traces b p (Some n) e = (n, refl)

-- ---- so few traces are taken

one_each : (b : Bool) → cond b 1 0 ≤ 1
one_each true = omega arith
one_each false = omega arith

few_taken : (f : ℕ → Bool) (n : ℕ) → sum_below (λ (k : ℕ). cond (f k) 1 0) n ≤ n
unfolding sum_below
few_taken f zero = omega arith
few_taken f (suc n) = omega (arith, few_taken f n, one_each (f n))

pub taken_few : (set : TraceSet) (bs : List ℕ) → taken set bs ≤ length set.traces
taken_few set bs = few_taken (is_among bs) (length set.traces)

-- ---- the guard's copy for a piece

-- the guard's copy from which a piece of the bridge begins, and where its boxes stand
pub record Seat (set : TraceSet) (image : Imaged) (bridge : ℕ) (placed : List Placed) (p : Piece) : Type 0 where
  pub row : ExitRow
  pub there : Contains (all_rows placed) row
  pub copy : is_from set.traces bridge row.id.trace row.guard ≡ true
  pub half : row.id.half ≡ p.id.half
  pub is : guards_for image (source_of set.traces bridge) p ≡ row_places row
  pub pl : Placed
  pub among : Contains placed pl
  pub op : OptOp
  pub copies : IsCopy set.traces bridge placed p.id.half op
  pub places : Places
  pub well : ShownWell image.registers places op
  pub same : guards_for image (source_of set.traces bridge) p ≡ shown_places places op
  pub words : words_used (guards_for image (source_of set.traces bridge) p) ≤ words_for set image.attached
  pub within : (3 ≤ image.registers) × (image.registers ≤ 12)

pub seat : ((p : Piece) → AreNumbered p → AreDefined p → BoxesLive p) → (set : TraceSet) (image : Imaged) (bridge : ℕ) (placed : List Placed) (pieces : List Piece) (p : Piece)
    → IsImageOf set placed image → AreOfBridge set placed bridge pieces → Contains pieces p → Seat set image bridge placed p
seat live set image bridge placed pieces p im of there =
    let source = source_of set.traces bridge in
    let (op0, c) = all_in (λ (q : Piece). (op : OptOp) × IsCopy set.traces bridge placed q.id.half op) pieces p of.kept there in
    let (n, g) = from_some set.traces bridge c.pl.piece.id.trace (guard_of op0) c.from in
    let r0 = placed_row placed c.pl op0 n c.there c.among g in
    let law = source_is set.traces bridge in
    let come : comes_from source r0.row.id.trace r0.row.guard ≡ true = law r0.row.id.trace r0.row.guard ∙ ap (λ (i : PieceId). is_from set.traces bridge i.trace r0.row.guard) r0.id_is ∙ ap (is_from set.traces bridge c.pl.piece.id.trace) r0.guard ∙ c.from in
    let f = first_row source p.id.half (all_rows placed) r0.row r0.there come (ap (λ (i : PieceId). i.half) r0.id_is ∙ c.half) in
    let from : is_from set.traces bridge f.row.id.trace f.row.guard ≡ true = sym (law f.row.id.trace f.row.guard) ∙ f.copy in
    let (m, h) = from_some set.traces bridge f.row.id.trace f.row.guard from in
    let o = row_placed placed f.row m f.there h in
    let pl = o.pl in
    let op = o.of.op in
    let st = all_in (IsStanding set image.registers (words_for set image.attached)) placed pl im.standing o.there in
    let here = ap (λ (l : List OptOp). slice_get l (length o.of.done)) o.of.split ∙ middle_get o.of.done o.of.rest op in
    let form = st.can.sound.formed in
    let well = shown_well image.registers pl.piece (label_at pl) st.places (length o.of.done) op (live pl.piece form.boxes_numbered form.boxes_defined) form.boxes_numbered (form.boxes_defined (length o.of.done) op here) st.allocated here in
    let is : guards_for image source p ≡ row_places f.row = ap (places_by source p.id.half) im.exits ∙ f.is in
    let same : guards_for image source p ≡ shown_places st.places op = is ∙ shown_row pl.setting.at f.row (shown_by op) o.of.places ∙ ap (λ (w : Where). map (λ (b : BoxId). w b.number) (shown_by op)) st.at in record {
      row = f.row;
      there = f.there;
      copy = from;
      half = f.half;
      is = is;
      pl = pl;
      among = o.there;
      op = op;
      copies = record {
        pl = pl;
        there = o.there;
        half = sym (ap (λ (i : PieceId). i.half) o.of.id_is) ∙ f.half;
        among = subst (λ (l : List OptOp). Contains l op) (sym o.of.split) (middle_in o.of.done o.of.rest op);
        from = ap (is_from set.traces bridge pl.piece.id.trace) o.of.guard ∙ ap (λ (i : PieceId). is_from set.traces bridge i.trace f.row.guard) (sym o.of.id_is) ∙ from;
      };
      places = st.places;
      well = well;
      same = same;
      words = subst (λ (l : List Place). words_used l ≤ words_for set image.attached) (sym same) (omega (arith, well.few, st.allocated.few, st.allocated.each, st.few, st.can.sound.few_boxes, st.can.weight));
      within = st.can.within;
    }
