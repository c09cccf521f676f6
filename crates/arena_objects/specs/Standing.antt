-- When objects stand in an arena.
use Rattle.std.specs.Prelude.{◌≡◌, ℕ, ◌*◌, ◌<◌, ◌^◌, ◌≤◌, pos, List, ◌++◌, length, replicate}
use Rattle.std.specs.List.{All, Contains}
use Rattle.trace_ops.specs.Words.{IsWord}
use Rattle.trace_ops.specs.declared.table.Table.{Table}
use Rattle.trace_ops.specs.declared.table.ShapeOf.{ShapeOf}
use Rattle.trace_ops.specs.declared.table.ShapeOf.TheVariants.{Size, Array}
use Rattle.trace_meaning.specs.declared.value.Object.{Object}
use Rattle.trace_meaning.specs.declared.value.Value.{Value}
use Rattle.trace_meaning.specs.declared.value.Value.TheVariants as v
use Rattle.trace_meaning.specs.Objects.{fields_of}
use Rattle.target_base.specs.Arena.{Arena}
use Rattle.arena_objects.specs.Layout.{words_of, address_of, all_words}

-- one part per field of a size, or any number of items
abbrev pub HasItsParts : Table → ShapeOf → ℕ → Type 0
HasItsParts t (Size s) n = n ≡ length (fields_of t s)
HasItsParts t (Array a) n = Unit {0}

-- where there are so many objects: a word, null, or one of them
abbrev pub IsPart : ℕ → Value → Type 0
IsPart objects (v.Int z) = IsWord z
IsPart objects v.Null = Unit {0}
IsPart objects (v.Obj n) = n < objects

-- where there are so many objects: the shape is one of the table, and each part is a word, null or one of them
pub record IsLawful (t : Table) (objects : ℕ) (o : Object) : Type 0 where
  pub shape : Contains t.shapes o.of
  pub extent : HasItsParts t o.of (length o.parts)
  pub parts : All (IsPart objects) o.parts

-- The words of an arena are those of the objects and zeros behind them; the bytes of the objects are taken.
pub record Stands (t : Table) (objects : List Object) (arena : Arena) : Type 0 where
  pub lawful : All (IsLawful t (length objects)) objects
  pub left : ℕ
  pub words : arena.words ≡ all_words t (address_of objects) objects ++ replicate left (pos 0)
  pub taken : arena.taken ≡ 8 * words_of objects
  pub few : length arena.words ≤ 2 ^ 21
