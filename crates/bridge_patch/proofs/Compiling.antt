-- The pieces of all loops can be planned, and there is room for them.
use Rattle.std.proofs.Common.{refl, ◌≡◌, ℕ, zero, suc, ◌+◌, ◌*◌, ◌<◌, ◌≤◌, ◌^◌, Option, List, [], ◌∷◌, ◌++◌, length, sym, ap, ◌∙◌, subst, arith}
use Rattle.std.specs.List.{All, AllByRecursion}
use Rattle.trace_ops.specs.declared.trace.BoxId.{BoxId}
use Rattle.trace_ops.specs.declared.trace.Origin.{Origin}
use Rattle.trace_ops.specs.declared.trace.Origin.TheVariants.{Loop, Bridge}
use Rattle.trace_ops.specs.declared.trace.Trace.{Trace}
use Rattle.trace_ops.specs.declared.trace.TraceSet.{TraceSet}
use Rattle.trace_ops.specs.declared.piece.PieceId.{PieceId}
use Rattle.trace_ops.specs.declared.piece.Piece.{Piece}
use Rattle.trace_ops.specs.declared.piece.OptTrace.{OptTrace}
use Rattle.trace_ops.specs.InRange.{IsInRange}
use Rattle.trace_ops.specs.Pieces.{size_of}
use Rattle.trace_ops.specs.Sound.{IsSound}
use Rattle.trace_ops.specs.Weights.{trace_weight, weight_of, sum_below}
use Rattle.opt_meaning.specs.Pieces.{all_pieces}
use Rattle.opt_meaning.specs.Worded.{OpHasWords}
use Rattle.bridge_patch.specs.Image.{Imaged, AreHere, IsImage, ArePiecesOf, loop_if, loops_from, AreOfLoops, KeepsItsGuard, label_in, CanCompile}
use Rattle.bridge_patch.specs.declared.laying.Laid.{Laid}
use Rattle.bridge_patch.specs.Laid.{IsLaid}
use Rattle.bridge_patch.specs.Planning.{CanPlan, room_for, can_all}

-- ---- weights

-- so many from place k on
abbrev pub sum_range : (ℕ → ℕ) → ℕ → ℕ → ℕ
sum_range f k zero = 0
sum_range f k (suc n) = f k + sum_range f (k + 1) n

range_below : (f : ℕ → ℕ) (k n : ℕ) → sum_below f k + sum_range f k n ≡ sum_below f (k + n)
unfolding sum_below
range_below f k zero = let e : k ≡ k + 0 = omega arith in omega (arith, ap (sum_below f) e)
range_below f k (suc n) =
    let one : k + 1 ≡ suc k = omega arith in
    let end : k + 1 + n ≡ k + suc n = omega arith in
    let step : sum_below f (k + 1) ≡ sum_below f k + f k = ap (sum_below f) one in
    omega (arith, step, range_below f (k + 1) n, ap (sum_below f) end)

pub whole_range : (f : ℕ → ℕ) (n : ℕ) → sum_range f 0 n ≡ sum_below f n
unfolding sum_below
whole_range f n = let e : 0 + n ≡ n = omega arith in omega (arith, range_below f 0 n, ap (sum_below f) e)

-- of these places
abbrev pub total : (ℕ → ℕ) → List ℕ → ℕ
total f [] = 0
total f (k ∷ ks) = f k + total f ks

sum_if : (f : ℕ → ℕ) (k n : ℕ) (rest : List ℕ) (o : Origin) → total f rest ≤ n → total f (loop_if o k ++ rest) ≤ f k + n
sum_if f k n rest Loop le = omega (arith, le)
sum_if f k n rest (Bridge parent guard) le = omega (arith, le)

pub loops_sum : (f : ℕ → ℕ) (k : ℕ) (ts : List Trace) → total f (loops_from k ts) ≤ sum_range f k (length ts)
loops_sum f k [] = omega arith
loops_sum f k (t ∷ ts) = sum_if f k (sum_range f (k + 1) (length ts)) (loops_from (k + 1) ts) t.origin (loops_sum f (k + 1) ts)

few_if : (k n : ℕ) (rest : List ℕ) (o : Origin) → length rest ≤ n → length (loop_if o k ++ rest) ≤ suc n
few_if k n rest Loop le = omega (arith, le)
few_if k n rest (Bridge parent guard) le = omega (arith, le)

pub loops_few : (k : ℕ) (ts : List Trace) → length (loops_from k ts) ≤ length ts
loops_few k [] = omega arith
loops_few k (t ∷ ts) = few_if k (length ts) (loops_from (k + 1) ts) t.origin (loops_few (k + 1) ts)

-- ---- pieces

-- what holds of each piece of loops
record Hold (set : TraceSet) (label_of : PieceId → Option (List BoxId)) (ps : List Piece) : Type 0 where
  sound : AllByRecursion (IsSound set label_of) ps
  words : AllByRecursion (λ (p : Piece). All OpHasWords p.ops) ps
  guards : AllByRecursion (λ (p : Piece). All KeepsItsGuard p.ops) ps

behind : (set : TraceSet) (label_of : PieceId → Option (List BoxId)) (p : Piece) (ps : List Piece) → Hold set label_of (p ∷ ps) → Hold set label_of ps
behind set label_of p ps h = record { sound = h.sound.1; words = h.words.1; guards = h.guards.1 }

one : (set : TraceSet) (label_of : PieceId → Option (List BoxId)) (registers k : ℕ) (p : Piece) (ps : List Piece) → IsInRange set → (3 ≤ registers) × (registers ≤ 12) → p.id.trace ≡ k → trace_weight set k ≤ 131072 → Hold set label_of (p ∷ ps) → CanPlan set p registers
one set label_of registers k p ps range within e le h = record {
  label_of = label_of;
  sound = h.sound.0;
  table = range.table;
  words = h.words.0;
  guards = h.guards.0;
  weight = subst (λ (i : ℕ). trace_weight set i ≤ 131072) (sym e) le;
  within = within;
}

size_few : (set : TraceSet) (label_of : PieceId → Option (List BoxId)) (k : ℕ) (p : Piece) (ps : List Piece) → p.id.trace ≡ k → Hold set label_of (p ∷ ps) → size_of p ≤ 4 * trace_weight set k
size_few set label_of k p ps e h = subst (λ (i : ℕ). size_of p ≤ 4 * trace_weight set i) e h.sound.0.small

-- pieces that can be planned, and the room that is enough
abbrev Fit : TraceSet → ℕ → List Piece → ℕ → Type 0
Fit set registers ps n = can_all set registers ps × (room_for ps ≤ n)

fit_pieces : (set : TraceSet) (label_of : PieceId → Option (List BoxId)) (registers k n : ℕ) (ps rest : List Piece) → IsInRange set → (3 ≤ registers) × (registers ≤ 12) → ArePiecesOf k ps → trace_weight set k ≤ 131072 → Hold set label_of (ps ++ rest)
    → (Hold set label_of rest → Fit set registers rest n) → Fit set registers (ps ++ rest) (128 + 256 * trace_weight set k + n)
fit_pieces set label_of registers k n [] rest range within e le h r = absurd e
fit_pieces set label_of registers k n (p ∷ []) rest range within e le h r =
    let t : p.id.trace ≡ k = ap (λ (q : PieceId). q.trace) e in
    let m = r (behind set label_of p rest h) in
    ((one set label_of registers k p rest range within t le h, m.0), omega (arith, size_few set label_of k p rest t h, m.1))
fit_pieces set label_of registers k n (p ∷ q ∷ []) rest range within e le h r =
    let t : p.id.trace ≡ k = ap (λ (i : PieceId). i.trace) e.0 in
    let u : q.id.trace ≡ k = ap (λ (i : PieceId). i.trace) e.1 in
    let g = behind set label_of p (q ∷ rest) h in
    let m = r (behind set label_of q rest g) in
    ((one set label_of registers k p (q ∷ rest) range within t le h, (one set label_of registers k q rest range within u le g, m.0)), omega (arith, size_few set label_of k p (q ∷ rest) t h, size_few set label_of k q rest u g, m.1))
fit_pieces set label_of registers k n (p ∷ q ∷ x ∷ more) rest range within e le h r = absurd e

fit_loops : (set : TraceSet) (label_of : PieceId → Option (List BoxId)) (registers : ℕ) (ks : List ℕ) (os : List OptTrace) → IsInRange set → (3 ≤ registers) × (registers ≤ 12) → AreOfLoops ks os → total (trace_weight set) ks ≤ 131072 → Hold set label_of (all_pieces os)
    → Fit set registers (all_pieces os) (128 * length ks + 256 * total (trace_weight set) ks)
fit_loops set label_of registers [] [] range within e le h = (tt, omega arith)
fit_loops set label_of registers [] (o ∷ os) range within e le h = absurd e
fit_loops set label_of registers (k ∷ ks) [] range within e le h = absurd e
fit_loops set label_of registers (k ∷ ks) (o ∷ os) range within e le h =
    let n = 128 * length ks + 256 * total (trace_weight set) ks in
    let f = fit_pieces set label_of registers k n o.pieces (all_pieces os) range within e.0 (omega (arith, le)) h (λ (g : Hold set label_of (all_pieces os)). fit_loops set label_of registers ks os range within e.1 (omega (arith, le)) g) in
    (f.0, omega (arith, f.1))

pub can_lay : (set : TraceSet) (loops : List OptTrace) (registers : ℕ) → CanCompile set loops registers → can_all set registers (all_pieces loops) × (49 + room_for (all_pieces loops) < 2 ^ 30)
can_lay set loops registers h =
    let w = trace_weight set in
    let ks = loops_from 0 set.traces in
    let light : total w ks ≤ 131072 = omega (arith, loops_sum w 0 set.traces, whole_range w (length set.traces), h.light) in
    let f = fit_loops set (label_in (all_pieces loops)) registers ks loops h.range h.within h.each light (record { sound = h.sound; words = h.words; guards = h.guards }) in
    (f.0, omega (arith, f.1, loops_few 0 set.traces, h.range.few_traces, light))

pub room_used : (set : TraceSet) (loops : List OptTrace) (registers : ℕ) → CanCompile set loops registers → room_for (all_pieces loops) ≤ 128 * 256 + 256 * weight_of set
room_used set loops registers h =
    let w = trace_weight set in
    let ks = loops_from 0 set.traces in
    let light : total w ks ≤ weight_of set = omega (arith, loops_sum w 0 set.traces, whole_range w (length set.traces)) in
    let f = fit_loops set (label_in (all_pieces loops)) registers ks loops h.range h.within h.each (omega (arith, light, h.light)) (record { sound = h.sound; words = h.words; guards = h.guards }) in
    omega (arith, f.1, loops_few 0 set.traces, h.range.few_traces, light)

-- ---- the image

pub image_of : (set : TraceSet) (registers : ℕ) (ps : List Piece) (laid : Laid) (image : Imaged) → IsLaid set registers ps laid → image.bytes ≡ laid.bytes.items → image.pieces ≡ laid.pieces.items → image.exits ≡ laid.exits.items → IsImage set ps image
image_of set registers ps laid image h b p e = record {
  placed = h.placed;
  pieces = h.pieces;
  fronts = h.fronts;
  code = b ∙ h.code;
  end = h.end;
  last = h.last;
  laid = h.follow;
  chosen = h.chosen;
  leads = h.leads;
  exits = e ∙ h.rows;
  heres = subst (AreHere h.placed) (sym p) h.heres;
}

pub image_of-placed : (set : TraceSet) (registers : ℕ) (ps : List Piece) (laid : Laid) (image : Imaged) (h : IsLaid set registers ps laid) (b : image.bytes ≡ laid.bytes.items) (p : image.pieces ≡ laid.pieces.items) (e : image.exits ≡ laid.exits.items)
    → (image_of set registers ps laid image h b p e).placed ≡ h.placed
unfolding image_of
image_of-placed set registers ps laid image h b p e = refl
