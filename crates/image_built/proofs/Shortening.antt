-- The code of compiled loops is short.
use Rattle.std.proofs.Common.{◌≡◌, ℕ, zero, suc, ◌+◌, ◌*◌, ◌<◌, ◌≤◌, ◌^◌, Bool, true, false, cond, List, [], ◌∷◌, ◌++◌, length, map, refl, sym, ap, subst, arith, Option, ℤ}
use Rattle.std.specs.List.{AllByRecursion}
use Rattle.std.proofs.lemmas.List.{length-append}
use Rattle.trace_ops.specs.declared.trace.BoxId.{BoxId}
use Rattle.trace_ops.specs.declared.trace.Origin.{Origin}
use Rattle.trace_ops.specs.declared.trace.Origin.TheVariants.{Loop, Bridge}
use Rattle.trace_ops.specs.declared.trace.Trace.{Trace}
use Rattle.trace_ops.specs.declared.trace.TraceSet.{TraceSet}
use Rattle.trace_ops.specs.declared.piece.Half.{Half}
use Rattle.trace_ops.specs.declared.piece.Half.TheVariants.{Pre, Body}
use Rattle.trace_ops.specs.declared.piece.PieceId.{PieceId}
use Rattle.trace_ops.specs.declared.piece.OptOp.{OptOp}
use Rattle.trace_ops.specs.declared.piece.Piece.{Piece}
use Rattle.trace_ops.specs.declared.piece.OptTrace.{OptTrace}
use Rattle.trace_ops.specs.Pieces.{size_of}
use Rattle.trace_ops.specs.Sound.{IsSound}
use Rattle.trace_ops.specs.Weights.{trace_weight, sum_below}
use Rattle.opt_meaning.specs.Pieces.{all_pieces}
use Rattle.x64_encode.specs.declared.instr.Instr.{Instr}
use Rattle.guard_exit.specs.Codes.{stub_code, common_code}
use Rattle.asm_select.specs.declared.told.Told.TheVariants as tell
use Rattle.asm_select.specs.Slots.{puts, sizes_of}
use Rattle.asm_select.specs.Laid.{has_stub, stub_sizes, ChosenAreShort}
use Rattle.code_layout.specs.Leading.{way, led_bytes}
use Rattle.code_layout.specs.Emitting.{total_size}
use Rattle.bridge_patch.specs.Pieces.{Placed, body_of, start_of, stubs_of, exits_in, stubs_from, spelled, bytes_in, all_bytes, IsChosen, loop_front}
use Rattle.bridge_patch.specs.Image.{ArePiecesOf, loop_if, loops_from, AreOfLoops, label_in, CanCompile}
use Rattle.image_built.proofs.Leading.{spelled_long, length-led}
use Rattle.image_built.proofs.Stubbing.{stub_size, stubs_most}
use Rattle.image_built.proofs.Naming.{piece_of}

-- ---- weights

-- so many from place k on
abbrev sum_range : (ℕ → ℕ) → ℕ → ℕ → ℕ
sum_range f k zero = 0
sum_range f k (suc n) = f k + sum_range f (k + 1) n

range_below : (f : ℕ → ℕ) (k n : ℕ) → sum_below f k + sum_range f k n ≡ sum_below f (k + n)
unfolding sum_below
range_below f k zero = let e : k ≡ k + 0 = omega arith in omega (arith, ap (sum_below f) e)
range_below f k (suc n) =
    let one : k + 1 ≡ suc k = omega arith in
    let end : k + 1 + n ≡ k + suc n = omega arith in
    let step : sum_below f (k + 1) ≡ sum_below f k + f k = ap (sum_below f) one in
    omega (arith, step, range_below f (k + 1) n, ap (sum_below f) end)

whole_range : (f : ℕ → ℕ) (n : ℕ) → sum_range f 0 n ≡ sum_below f n
unfolding sum_below
whole_range f n = let e : 0 + n ≡ n = omega arith in omega (arith, range_below f 0 n, ap (sum_below f) e)

-- of these places
abbrev total : (ℕ → ℕ) → List ℕ → ℕ
total f [] = 0
total f (k ∷ ks) = f k + total f ks

sum_if : (f : ℕ → ℕ) (k n : ℕ) (rest : List ℕ) (o : Origin) → total f rest ≤ n → total f (loop_if o k ++ rest) ≤ f k + n
sum_if f k n rest Loop le = omega (arith, le)
sum_if f k n rest (Bridge parent guard) le = omega (arith, le)

loops_sum : (f : ℕ → ℕ) (k : ℕ) (ts : List Trace) → total f (loops_from k ts) ≤ sum_range f k (length ts)
loops_sum f k [] = omega arith
loops_sum f k (t ∷ ts) = sum_if f k (sum_range f (k + 1) (length ts)) (loops_from (k + 1) ts) t.origin (loops_sum f (k + 1) ts)

few_if : (k n : ℕ) (rest : List ℕ) (o : Origin) → length rest ≤ n → length (loop_if o k ++ rest) ≤ suc n
few_if k n rest Loop le = omega (arith, le)
few_if k n rest (Bridge parent guard) le = omega (arith, le)

loops_few : (k : ℕ) (ts : List Trace) → length (loops_from k ts) ≤ length ts
loops_few k [] = omega arith
loops_few k (t ∷ ts) = few_if k (length ts) (loops_from (k + 1) ts) t.origin (loops_few (k + 1) ts)

-- ---- pieces

-- room that is enough for pieces
abbrev room : List Piece → ℕ
room [] = 0
room (p ∷ ps) = 4 + 64 * size_of p + room ps

-- each is small
abbrev Small : TraceSet → List Piece → Type 0
Small set ps = AllByRecursion (λ (p : Piece). size_of p ≤ 4 * trace_weight set p.id.trace) ps

sound_small : (set : TraceSet) (label_of : PieceId → Option (List BoxId)) (ps : List Piece) → AllByRecursion (IsSound set label_of) ps → Small set ps
sound_small set label_of [] h = tt
sound_small set label_of (p ∷ ps) h = (h.0.small, sound_small set label_of ps h.1)

size_few : (set : TraceSet) (k : ℕ) (p : Piece) → p.id.trace ≡ k → size_of p ≤ 4 * trace_weight set p.id.trace → size_of p ≤ 4 * trace_weight set k
size_few set k p e h = subst (λ (i : ℕ). size_of p ≤ 4 * trace_weight set i) e h

fit_pieces : (set : TraceSet) (k n : ℕ) (ps rest : List Piece) → ArePiecesOf k ps → Small set (ps ++ rest) → (Small set rest → room rest ≤ n) → room (ps ++ rest) ≤ 8 + 512 * trace_weight set k + n
fit_pieces set k n [] rest e h r = absurd e
fit_pieces set k n (p ∷ []) rest e h r = omega (arith, size_few set k p (ap (λ (q : PieceId). q.trace) e) h.0, r h.1)
fit_pieces set k n (p ∷ q ∷ []) rest e h r =
    omega (arith, size_few set k p (ap (λ (i : PieceId). i.trace) e.0) h.0, size_few set k q (ap (λ (i : PieceId). i.trace) e.1) h.1.0, r h.1.1)
fit_pieces set k n (p ∷ q ∷ x ∷ more) rest e h r = absurd e

fit_loops : (set : TraceSet) (ks : List ℕ) (os : List OptTrace) → AreOfLoops ks os → Small set (all_pieces os) → room (all_pieces os) ≤ 8 * length ks + 512 * total (trace_weight set) ks
fit_loops set [] [] e h = omega arith
fit_loops set [] (o ∷ os) e h = absurd e
fit_loops set (k ∷ ks) [] e h = absurd e
fit_loops set (k ∷ ks) (o ∷ os) e h =
    let n = 8 * length ks + 512 * total (trace_weight set) ks in
    omega (arith, fit_pieces set k n o.pieces (all_pieces os) e.0 h (λ (g : Small set (all_pieces os)). fit_loops set ks os e.1 g))

room_few : (set : TraceSet) (loops : List OptTrace) (registers : ℕ) → CanCompile set loops registers → room (all_pieces loops) < 2 ^ 30
room_few set loops registers h =
    let w = trace_weight set in
    let ks = loops_from 0 set.traces in
    omega (arith, fit_loops set ks loops h.each (sound_small set (label_in (all_pieces loops)) (all_pieces loops) h.sound), loops_few 0 set.traces, h.range.few_traces, loops_sum w 0 set.traces, whole_range w (length set.traces), h.light)

-- ---- bytes

stubs_counted : (d : ℤ) (k : ℕ) (ops : List OptOp) → stub_sizes (λ (i : ℕ). d) (λ (i : ℕ). 0) k ops ≡ 16 * exits_in ops
stubs_counted d k [] = refl
stubs_counted d k (op ∷ ops) = omega (arith, one (has_stub op), stubs_counted d (k + 1) ops)
  where
    one : (b : Bool) → cond b (sizes_of (puts (stub_code d 0))) 0 ≡ 16 * cond b 1 0
    one true = stub_size d 0 (omega arith)
    one false = refl

front_short : (h : Half) → total_size (loop_front h) ≤ 4
front_short Pre = omega arith
front_short Body = omega arith

abbrev HasFront : Placed → Type 0
HasFront pl = pl.front ≡ loop_front pl.piece.id.half

piece_short : ChosenAreShort → (set : TraceSet) (pl : Placed) → IsChosen set pl → HasFront pl → length (bytes_in pl) ≤ 4 + 64 * size_of pl.piece
piece_short short set pl c front =
    let ops = pl.piece.ops in
    let stubs = stubs_from (stubs_of pl) pl.exit (exits_in ops) in
    let code = led_bytes pl.to (start_of pl) (body_of pl) in
    let first : total_size pl.front ≤ 4 = subst (λ (l : List Instr). total_size l ≤ 4) (sym front) (front_short pl.piece.id.half) in
    let body = short pl.setting (λ (i : ℕ). way 0 0) (λ (i : ℕ). 0) 0 tell.Nothing ops c.serves c.chosen in
    omega (arith, length-append (spelled pl.front) (code ++ spelled stubs), length-append code (spelled stubs), spelled_long pl.front, length-led pl.to (start_of pl) (body_of pl), spelled_long stubs, stubs_most (stubs_of pl) pl.exit (exits_in ops), first, body, stubs_counted (way 0 0) 0 ops)

pieces_short : ChosenAreShort → (set : TraceSet) (pls : List Placed) → AllByRecursion (IsChosen set) pls → AllByRecursion HasFront pls → length (all_bytes pls) ≤ room (map piece_of pls)
pieces_short short set [] c f = omega arith
pieces_short short set (pl ∷ pls) c f = omega (arith, length-append (bytes_in pl) (all_bytes pls), piece_short short set pl c.0 f.0, pieces_short short set pls c.1 f.1)

common_few : length (spelled common_code) ≤ 100
common_few = omega arith

pub code_short : ChosenAreShort → (set : TraceSet) (loops : List OptTrace) (registers : ℕ) (pls : List Placed) (bytes : List ℕ) → CanCompile set loops registers → map piece_of pls ≡ all_pieces loops → AllByRecursion (IsChosen set) pls → AllByRecursion HasFront pls → bytes ≡ spelled common_code ++ all_bytes pls → length bytes < 2 ^ 31
code_short short set loops registers pls bytes can pieces c f e =
    omega (arith, ap length e, length-append (spelled common_code) (all_bytes pls), common_few, pieces_short short set pls c f, ap room pieces, room_few set loops registers can)
