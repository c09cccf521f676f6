-- A resume table has room for the snapshots of a piece.
use Rattle.std.proofs.Common.{◌≡◌, ℕ, zero, suc, ◌+◌, ◌*◌, ◌^◌, ◌<◌, ◌≤◌, List, [], ◌∷◌, ◌++◌, Option, Some, length, map, take, slice_get, sum_by, inl, inr, refl, sym, ap, ◌∙◌, subst, arith}
use Rattle.std.specs.List.{All, AllByRecursion, Contains, flat_map, range_with_len}
use Rattle.std.proofs.lemmas.List.Elements.{All-nil, All-cons, All-head, All-tail, All-append, Contains-append_left, Contains-append_right, Contains-append_cases}
use Rattle.std.proofs.lemmas.List.Sums.{sum_by-le}
use Rattle.std.proofs.lemmas.Option.{slice_get-get_or}
use Rattle.lists.proofs.Alls.{all_from, all_left, all_right, all_weaker}
use Rattle.lists.proofs.Options.{some_same}
use Rattle.trace_ops.specs.declared.trace.BoxId.{BoxId}
use Rattle.trace_ops.specs.declared.trace.Arg.{Arg}
use Rattle.trace_ops.specs.declared.piece.Snapshot.{Snapshot}
use Rattle.trace_ops.specs.declared.piece.OptOp.{OptOp}
use Rattle.trace_ops.specs.declared.piece.Piece.{Piece}
use Rattle.trace_ops.specs.Parts.{boxes_of_arg, boxes_of}
use Rattle.trace_ops.specs.Pieces.{results_of, args_of, snapshots_of, used_by, defined_by, defined_before}
use Rattle.trace_ops.specs.Sound.{AreApart, constants_in, snapshots_in, HasRoom}
use Rattle.opt_pass.specs.Counting.{AreAtMost}

all_flat : {X Y : Type 0} (P : Y → Type 0) (f : X → List Y) (xs : List X) → All (λ x. All P (f x)) xs → All P (flat_map f xs)
all_flat P f [] h = All-nil P
all_flat P f (x ∷ xs) h = All-append P (f x) (flat_map f xs) (All-head (λ y. All P (f y)) x xs h) (all_flat P f xs (All-tail (λ y. All P (f y)) x xs h))

flat_parts : {X Y : Type 0} (P : Y → Type 0) (f : X → List Y) (xs : List X) → All P (flat_map f xs) → All (λ x. All P (f x)) xs
flat_parts P f [] h = All-nil (λ x. All P (f x))
flat_parts P f (x ∷ xs) h = All-cons (λ y. All P (f y)) x xs (all_left P (f x) (flat_map f xs) h) (flat_parts P f xs (all_right P (f x) (flat_map f xs) h))

taken : (k : ℕ) (ops : List OptOp) (b : BoxId) → Contains (flat_map results_of (take k ops)) b → Contains (flat_map results_of ops) b
taken zero ops b c = absurd (omega (arith, c.1))
taken (suc k) [] b c = c
taken (suc k) (op ∷ ops) b c = elim (Contains-append_cases (results_of op) (flat_map results_of (take k ops)) b c) [
  | inl h ↦ Contains-append_left (results_of op) (flat_map results_of ops) b h
  | inr h ↦ Contains-append_right (results_of op) (flat_map results_of ops) b (taken k ops b h)
]

defined : (p : Piece) (k : ℕ) (b : BoxId) → Contains (defined_before p k) b → Contains (defined_by p) b
defined p k b c = elim (Contains-append_cases p.label (flat_map results_of (take k p.ops)) b c) [
  | inl h ↦ Contains-append_left p.label (flat_map results_of p.ops) b h
  | inr h ↦ Contains-append_right p.label (flat_map results_of p.ops) b (taken k p.ops b h)
]

-- what holds of all boxes of a piece holds of those of its snapshots
snapshots_have : (P : BoxId → Type 0) (p : Piece) → ((b : BoxId) → Contains (defined_by p) b → P b) → ((k : ℕ) (op : OptOp) → slice_get p.ops k ≡ Some op → All (Contains (defined_before p k)) (used_by op)) → All (λ (s : Snapshot). All P (boxes_of s)) (snapshots_in p)
snapshots_have P p w h = all_flat (λ (s : Snapshot). All P (boxes_of s)) snapshots_of p.ops (all_from (λ op. All (λ (s : Snapshot). All P (boxes_of s)) (snapshots_of op)) p.ops each)
  where
    each : (k : ℕ) (op : OptOp) → slice_get p.ops k ≡ Some op → All (λ (s : Snapshot). All P (boxes_of s)) (snapshots_of op)
    each k op e =
        let used = all_right (Contains (defined_before p k)) (flat_map boxes_of_arg (args_of op)) (flat_map boxes_of (snapshots_of op)) (h k op e) in
        flat_parts P boxes_of (snapshots_of op) (all_weaker (Contains (defined_before p k)) P (flat_map boxes_of (snapshots_of op)) (λ b c. w b (defined p k b c)) used)

head_same : {xs ys : List ℕ} {m n : ℕ} → m ∷ xs ≡ n ∷ ys → m ≡ n
head_same h = cc

tail_same : {xs ys : List ℕ} {m n : ℕ} → m ∷ xs ≡ n ∷ ys → xs ≡ ys
tail_same h = cc

numbered_at : (xs : List BoxId) (s i : ℕ) (b : BoxId) → map (λ (x : BoxId). x.number) xs ≡ range_with_len s (length xs) → slice_get xs i ≡ Some b → b.number ≡ s + i
numbered_at [] s i b h e = cc
numbered_at (x ∷ xs) s zero b h e =
    let same : x.number ≡ b.number = ap (λ (y : BoxId). y.number) (some_same e) in
    omega (arith, head_same h, same)
numbered_at (x ∷ xs) s (suc i) b h e = let r = numbered_at xs (s + 1) i b (tail_same h) e in omega (arith, r)

-- a box has a number below that of all boxes
number_below : (xs : List BoxId) (b : BoxId) → map (λ (x : BoxId). x.number) xs ≡ range_with_len 0 (length xs) → Contains xs b → b.number < length xs
number_below xs b h c =
    let at : slice_get xs c.0 ≡ Some b = slice_get-get_or xs c.0 b c.1 ∙ ap Some c.2 in
    omega (arith, numbered_at xs 0 c.0 b h at, c.1)

below_room : (w n m : ℕ) → w ≤ 131072 → n ≤ 2 * w + 64 → m < n → m < 2 ^ 30
below_room w n m light le lt = omega (arith, light, le, lt)

shapes_room : (w n : ℕ) → w ≤ 131072 → n ≤ 2 * w + 64 → n ≤ 262208
shapes_room w n light le = omega (arith, light, le)

shapes_small : (n : ℕ) → n ≤ 262208 → n < 2 ^ 30
shapes_small n le = omega (arith, le)

constants_room : (w n : ℕ) → w ≤ 131072 → n ≤ 16 * w → n < 2 ^ 30
constants_room w n light le = omega (arith, light, le)

frames_room : (n s : ℕ) → n ≤ 8192 → s ≤ n * 32 → s < 2 ^ 32
frames_room n s few le = omega (arith, few, le)

all_shapes_room : (n s : ℕ) → n ≤ 8192 → s ≤ n * 262208 → s < 2 ^ 32
all_shapes_room n s few le = omega (arith, few, le)

-- of a piece whose trace weighs so much
pub has_room : (p : Piece) (w : ℕ) → w ≤ 131072
    → ((k : ℕ) (op : OptOp) → slice_get p.ops k ≡ Some op → All (Contains (defined_before p k)) (used_by op))
    → map (λ (b : BoxId). b.number) (defined_by p) ≡ range_with_len 0 (length (defined_by p))
    → length (defined_by p) ≤ 2 * w + 64 → length (snapshots_in p) ≤ 8192
    → All (λ (s : Snapshot). length s.frames ≤ 32) (snapshots_in p) → All (λ (s : Snapshot). length s.shapes ≤ 2 * w + 64) (snapshots_in p)
    → AreAtMost (16 * w) (flat_map constants_in (snapshots_in p)) → HasRoom p
has_room p w light used numbers boxes snapshots frames shapes constants =
    let few : All (λ (s : Snapshot). length s.shapes ≤ 262208) (snapshots_in p) = all_weaker (λ (s : Snapshot). length s.shapes ≤ 2 * w + 64) (λ (s : Snapshot). length s.shapes ≤ 262208) (snapshots_in p) (λ s le. shapes_room w (length s.shapes) light le) shapes in
    record {
      boxes = snapshots_have (λ (b : BoxId). b.number < 2 ^ 30) p (λ b c. below_room w (length (defined_by p)) b.number light boxes (number_below (defined_by p) b numbers c)) used;
      shapes_of_each = all_weaker (λ (s : Snapshot). length s.shapes ≤ 262208) (λ (s : Snapshot). length s.shapes < 2 ^ 30) (snapshots_in p) (λ s le. shapes_small (length s.shapes) le) few;
      constants = λ some apart among. constants_room w (length some) light (constants some apart among);
      frames = frames_room (length (snapshots_in p)) (sum_by (λ (s : Snapshot). length s.frames) (snapshots_in p)) snapshots (sum_by-le (λ (s : Snapshot). length s.frames) 32 (snapshots_in p) frames);
      shapes = all_shapes_room (length (snapshots_in p)) (sum_by (λ (s : Snapshot). length s.shapes) (snapshots_in p)) snapshots (sum_by-le (λ (s : Snapshot). length s.shapes) 262208 (snapshots_in p) few);
    }
