-- What is shown of a run that has rebuilt nothing is all that it has.
use Rattle.std.proofs.Common.{◌≡◌, ℕ, zero, suc, ◌+◌, ◌*◌, ◌<◌, ◌≤◌, ◌^◌, false, Option, Some, None, List, [], ◌∷◌, length, drop, sum_by, refl, ◌∙◌, subst, arith}
use Rattle.std.specs.List.{All}
use Rattle.std.proofs.lemmas.List.Elements.{All-head, All-tail}
use Rattle.std.proofs.lemmas.List.Sums.{sum_by-cons}
use Rattle.trace_ops.specs.declared.trace.TraceSet.{TraceSet}
use Rattle.trace_ops.specs.declared.table.ShapeOf.{ShapeOf}
use Rattle.trace_ops.specs.declared.table.ShapeOf.TheVariants as shape
use Rattle.trace_ops.specs.declared.piece.Piece.{Piece}
use Rattle.trace_ops.specs.InRange.{bytes_of_object}
use Rattle.trace_meaning.specs.declared.value.Object.{Object}
use Rattle.trace_meaning.specs.World.{World, size_of}
use Rattle.trace_meaning.specs.Legs.{Fails, Jumps, Finishes, Waits, Misfits, Wrong, In, Over}
use Rattle.opt_meaning.specs.Pieces.{PiecesNow}
use Rattle.opt_meaning.specs.Rebuilding.{Rebuilt}
use Rattle.opt_meaning.specs.Observed.{rebuilt_at, exited, pieces_state, pieces_world, pieces_bytes, pieces_objects, objects_or}
use Rattle.piece_tests.specs.Rooms.{has_exited}

none_rebuilt : (trace n : ℕ) (w : World) (r : Option Rebuilt) → has_exited (exited trace n r) ≡ false → objects_or w r ≡ w.objects
none_rebuilt trace n w None h = refl
none_rebuilt trace n w (Some r) h = absurd (cc)

pub objects_shown : (set : TraceSet) (ps : List Piece) (now : PiecesNow) → has_exited (pieces_state set ps now) ≡ false → pieces_objects set ps now ≡ (pieces_world now).objects
objects_shown set ps (In q rest s) h = refl
objects_shown set ps (Over q (Fails n vs w)) h = none_rebuilt q.trace n w (rebuilt_at set ps q n vs w) h
objects_shown set ps (Over q (Jumps vs w)) h = refl
objects_shown set ps (Over q (Finishes vs w)) h = refl
objects_shown set ps (Over q (Waits w)) h = refl
objects_shown set ps (Over q (Misfits w)) h = refl
objects_shown set ps (Over q (Wrong w)) h = refl

few_bytes : (of : ShapeOf) (n : ℕ) → n ≤ 1000 → bytes_of_object of n ≤ 8016
few_bytes (shape.Size k) n h = omega arith
few_bytes (shape.Array k) n h = omega arith

abbrev IsShort : Object → Type 0
IsShort o = length o.parts ≤ 1000

all_few : (objects : List Object) → All IsShort objects → sum_by size_of objects ≤ length objects * 8016
all_few [] h = omega arith
all_few (o ∷ os) h =
    let one : size_of o ≤ 8016 = few_bytes o.of (length o.parts) (All-head IsShort o os h) in
    let rest : sum_by size_of os ≤ length os * 8016 = all_few os (All-tail IsShort o os h) in
    let whole : sum_by size_of (o ∷ os) ≡ size_of o + sum_by size_of os = sum_by-cons size_of o os in
    omega (arith, one, rest, whole)

pub bytes_few : (n : ℕ) (objects : List Object) → All IsShort objects → sum_by size_of (drop n objects) ≤ length objects * 8016
bytes_few zero objects h = all_few objects h
bytes_few (suc n) [] h = omega arith
bytes_few (suc n) (o ∷ os) h = let rest = bytes_few n os (All-tail IsShort o os h) in omega (arith, rest)

-- few and short objects have few bytes
pub bytes_fit : (set : TraceSet) (ps : List Piece) (now : PiecesNow) (shown : List Object) → has_exited (pieces_state set ps now) ≡ false → shown ≡ pieces_objects set ps now → length shown < 1000 → All IsShort shown → pieces_bytes set now < 2 ^ 64
bytes_fit set ps now shown going are few short =
    let same : shown ≡ (pieces_world now).objects = are ∙ objects_shown set ps now going in
    let within : pieces_bytes set now ≤ length shown * 8016 =
    subst (λ os. sum_by size_of (drop (length set.table.prebuilts) os) ≤ length shown * 8016) same (bytes_few (length set.table.prebuilts) shown short) in
    omega (arith, within, few)
