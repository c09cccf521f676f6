-- The same is known in other words: boxes by other names, arguments by others of the same value; and where a piece begins.
use Rattle.std.specs.Prelude.{◌≡◌, List, [], ◌∷◌, Option, Some, map, length}
use Rattle.std.specs.Option.{option_map}
use Rattle.trace_ops.specs.declared.trace.BoxId.{BoxId}
use Rattle.trace_ops.specs.declared.trace.Arg.{Arg}
use Rattle.trace_ops.specs.declared.table.Table.{Table}
use Rattle.trace_ops.specs.declared.piece.Val.{Val}
use Rattle.trace_ops.specs.declared.piece.Val.TheVariants.{Known, Virtual}
use Rattle.trace_ops.specs.declared.piece.Shape.{Shape}
use Rattle.trace_ops.specs.declared.piece.Pending.{Pending}
use Rattle.trace_ops.specs.declared.piece.Fact.{Fact}
use Rattle.trace_ops.specs.declared.piece.Fact.TheVariants as fact
use Rattle.trace_ops.specs.declared.piece.Entry.{Entry}
use Rattle.trace_meaning.specs.declared.value.Value.{Value}
use Rattle.trace_meaning.specs.World.{World}
use Rattle.trace_meaning.specs.Boxes.{bound_to, arg_value, has_value}
use Rattle.opt_meaning.specs.Along.{SameCalls}
use Rattle.opt_meaning.specs.Agrees.{Facts, Agrees}
use Rattle.opt_meaning.specs.Admits.{Admits, nameless, at_entry, place_with}
use Rattle.agreement.specs.Growing.{OfAgreeing, named, with_box}

-- What is known, with each argument and each box of a fact by another

abbrev pub renamed_val : (Arg → Arg) → Val → Val
renamed_val g (Known a) = Known (g a)
renamed_val g (Virtual n) = Virtual n

abbrev pub renamed_shape : (Arg → Arg) → Shape → Shape
renamed_shape g s = record { of = s.of; parts = map (renamed_val g) s.parts }

abbrev pub renamed_pending : (Arg → Arg) → Pending → Pending
renamed_pending g p = record { base = g p.base; spot = p.spot; value = renamed_val g p.value }

abbrev pub renamed_fact : (Arg → Arg) → (BoxId → BoxId) → Fact → Fact
renamed_fact g r (fact.Between b low high) = fact.Between (r b) low high
renamed_fact g r (fact.Nonnull b) = fact.Nonnull (r b)
renamed_fact g r (fact.ClassOf b size) = fact.ClassOf (r b) size
renamed_fact g r (fact.Holds base spot value) = fact.Holds (g base) spot (g value)
renamed_fact g r (fact.Same operation args value) = fact.Same operation (map g args) (g value)

abbrev pub renamed : (Arg → Arg) → (BoxId → BoxId) → Facts → Facts
renamed g r known = record {
  names = λ b. option_map (renamed_val g) (known.names b);
  shapes = map (option_map (renamed_shape g)) known.shapes;
  pending = map (renamed_pending g) known.pending;
  facts = map (renamed_fact g r) known.facts;
}

-- each argument and each box that has a value has it by its other name too
pub record KeepsValues (from to : BoxId → Option Value) (g : Arg → Arg) (r : BoxId → BoxId) : Type 0 where
  pub args : (a : Arg) (u : Value) → arg_value from a ≡ Some u → arg_value to (g a) ≡ Some u
  pub valued : (a : Arg) → has_value (g a) ≡ has_value a
  pub boxes : (b : BoxId) (u : Value) → from b ≡ Some u → to (r b) ≡ Some u

-- so a box may be followed to a box or constant that has its value, and a label may get other boxes
abbrev pub RenamesAgree : Type 0
RenamesAgree = OfAgreeing (λ t known boxes at.
    (to : BoxId → Option Value) (g : Arg → Arg) (r : BoxId → BoxId) → KeepsValues at.box to g r → Agrees t (renamed g r known) boxes (with_box at to))

-- Where a piece begins

-- each recorded input by the entry's value of it
abbrev pub named_all : List BoxId → List Val → (BoxId → Option Val) → BoxId → Option Val
named_all [] xs names = names
named_all (b ∷ bs) [] names = names
named_all (b ∷ bs) (x ∷ xs) names = named_all bs xs (named b x names)

-- what an entry admits agrees with what it says
abbrev pub EntryStarts : Type 0
EntryStarts =
    (t : Table) (e : Entry) (inputs : List BoxId) (vs : List Value) (w : World) (us : List Value) (u : World) (a : Admits t e vs w us u)
    → Agrees t (record (at_entry e) { names = named_all inputs e.values nameless }) (bound_to inputs vs) (place_with e w us u a.mapped a.virtuals)

-- so far both have had the same calls
abbrev pub CallsAreSame : Type 0
CallsAreSame = OfAgreeing (λ t known boxes at. SameCalls (length t.prebuilts) at.rec.log at.opt.log)
