-- When what a snapshot needs stands in the places of its boxes and in the arena.
use Rattle.std.specs.Prelude.{◌≡◌, ℕ, ◌<◌, ℤ, Some, List, Option, length}
use Rattle.std.specs.List.{All, Contains}
use Rattle.trace_ops.specs.Words.{IsWord}
use Rattle.trace_ops.specs.declared.trace.BoxId.{BoxId}
use Rattle.trace_ops.specs.declared.trace.Arg.TheVariants as arg
use Rattle.trace_ops.specs.declared.table.Table.{Table}
use Rattle.trace_ops.specs.declared.piece.Val.{Val}
use Rattle.trace_ops.specs.declared.piece.Val.TheVariants.{Known, Virtual}
use Rattle.trace_ops.specs.declared.piece.Shape.{Shape}
use Rattle.trace_ops.specs.declared.piece.Pending.{Pending}
use Rattle.trace_ops.specs.declared.piece.OptFrame.{OptFrame}
use Rattle.trace_ops.specs.declared.piece.Snapshot.{Snapshot}
use Rattle.trace_meaning.specs.declared.value.Value.{Value}
use Rattle.trace_meaning.specs.declared.value.Object.{Object}
use Rattle.trace_meaning.specs.Kinds.{IsValueOf}
use Rattle.target_base.specs.declared.place.Place.{Place}
use Rattle.arena_objects.specs.Layout.{address_of, word_of}
use Rattle.arena_objects.specs.Standing.{IsPart, HasItsParts}
use Rattle.resume_rebuild.specs.Rebuilding.{place_in, word_in}

-- a box stands at its place as the word of its value, which is one of its kind that is there
pub record BoxStands (objects : List Object) (places : List (BoxId × Place)) (frame : List ℤ) (b : BoxId) (x : Value) : Type 0 where
  pub word : word_in frame (place_in places b.number) ≡ word_of (address_of objects) x
  pub part : IsPart (length objects) x
  pub kind : IsValueOf (length objects) b.kind x

abbrev pub BoxesStand : List Object → List (BoxId × Place) → List ℤ → (BoxId → Option Value) → Type 0
BoxesStand objects places frame box = (b : BoxId) (x : Value) → box b ≡ Some x → BoxStands objects places frame b x

-- where there are so many objects and virtuals: a constant is a word, or names one of them
abbrev pub IsNamed : ℕ → ℕ → Val → Type 0
IsNamed objects virtuals (Known (arg.Of b)) = Unit {0}
IsNamed objects virtuals (Known (arg.Const z)) = IsWord z
IsNamed objects virtuals (Known arg.Null) = Unit {0}
IsNamed objects virtuals (Known (arg.Ptr k)) = k < objects
IsNamed objects virtuals (Known (arg.Class k)) = Unit {0}
IsNamed objects virtuals (Known (arg.Func k)) = Unit {0}
IsNamed objects virtuals (Virtual k) = k < virtuals

abbrev pub AreNamed : ℕ → ℕ → List Val → Type 0
AreNamed objects virtuals vs = All (IsNamed objects virtuals) vs

-- an array of the table, or a size of it with one part per field
abbrev pub IsOfTable : Table → Shape → Type 0
IsOfTable t s = Contains t.shapes s.of × HasItsParts t s.of (length s.parts)

pub record CanRebuild (t : Table) (objects : ℕ) (snap : Snapshot) : Type 0 where
  pub shapes : All (IsOfTable t) snap.shapes
  pub parts : All (λ (s : Shape). AreNamed objects (length snap.shapes) s.parts) snap.shapes
  pub bases : All (λ (p : Pending). IsNamed objects (length snap.shapes) (Known p.base)) snap.pending
  pub values : All (λ (p : Pending). IsNamed objects (length snap.shapes) p.value) snap.pending
  pub slots : All (λ (f : OptFrame). AreNamed objects (length snap.shapes) f.slots) snap.frames
