-- New objects behind the others.
use Rattle.std.specs.Prelude.{ℕ, ◌+◌, ◌-◌, ◌*◌, pos, length}
use Rattle.trace_ops.specs.declared.table.Table.{Table}
use Rattle.trace_ops.specs.declared.table.ShapeOf.{ShapeOf}
use Rattle.trace_ops.specs.declared.table.ShapeOf.TheVariants.{Size, Array}
use Rattle.trace_meaning.specs.declared.value.Object.{Object}
use Rattle.trace_meaning.specs.Objects.{zeroed, cleared}
use Rattle.target_base.specs.Arena.{Arena, with_arena_word}
use Rattle.arena_objects.specs.Layout.{header_of, bytes_for}

-- the bytes that aren't taken
abbrev pub bytes_left : Arena → ℕ
bytes_left arena = 8 * length arena.words - arena.taken

-- the zeroed object that is asked for by its shape and number of parts
abbrev pub zeroed_of : Table → ShapeOf → ℕ → Object
zeroed_of t (Size s) n = zeroed t s
zeroed_of t (Array a) n = cleared t a n

-- the bytes of an object are taken behind the others, its header is written there, and an array's length
abbrev pub arena_begun : ShapeOf → ℕ → ℕ → Arena → Arena
arena_begun (Size s) header n arena =
    with_arena_word (0x10000000 + arena.taken) (pos header) (record arena { taken = arena.taken + bytes_for (Size s) n })
arena_begun (Array a) header n arena =
    with_arena_word (0x10000000 + arena.taken + 8) (pos n)
    (with_arena_word (0x10000000 + arena.taken) (pos header) (record arena { taken = arena.taken + bytes_for (Array a) n }))

-- with the object that is asked for, whose parts are zeros
abbrev pub arena_with : Table → ShapeOf → ℕ → Arena → Arena
arena_with t s n arena = arena_begun s (header_of t s) (length (zeroed_of t s n).parts) arena
