-- What operations that fit a table in range ask of a host.
use Rattle.std.proofs.Common.{◌≡◌, ℕ, Option, Some, List, ◌∷◌, map, subst}
use Rattle.std.specs.Option.{IsSomeAnd}
use Rattle.std.specs.List.{Contains}
use Rattle.std.proofs.lemmas.Option.{slice_get_within, get_or_from_slice_get}
use Rattle.trace_ops.specs.declared.code.OpCode.{OpCode}
use Rattle.trace_ops.specs.declared.code.OpCode.TheVariants as code
use Rattle.trace_ops.specs.declared.trace.Kind.{Kind}
use Rattle.trace_ops.specs.declared.trace.Arg.{Arg}
use Rattle.trace_ops.specs.declared.trace.Arg.TheVariants as arg
use Rattle.trace_ops.specs.declared.trace.Descr.{Descr}
use Rattle.trace_ops.specs.declared.trace.Descr.TheVariants as descr
use Rattle.trace_ops.specs.declared.table.Table.{Table}
use Rattle.trace_ops.specs.declared.table.CallRow.{CallRow}
use Rattle.trace_ops.specs.declared.table.ShapeOf.TheVariants as shape
use Rattle.trace_ops.specs.declared.piece.OptOp.{OptOp}
use Rattle.trace_ops.specs.declared.piece.OptOp.TheVariants as opt
use Rattle.trace_ops.specs.Facts.{takes_of}
use Rattle.trace_ops.specs.Fits.{AreCalled, FitArgs}
use Rattle.trace_ops.specs.InRange.{StandsOnce, IsTableInRange}
use Rattle.trace_ops.specs.Kinds.{kind_of_arg, NamesDescr}
use Rattle.trace_ops.specs.Pieces.{args_of, FitsTable, NamesRows}
use Rattle.trace_meaning.specs.declared.value.Value.{Value}
use Rattle.trace_meaning.specs.Kinds.{AreOfKinds}
use Rattle.asm_select.specs.declared.form.Access.TheVariants as access
use Rattle.asm_select.specs.Chosen.{access_form}
use Rattle.image_model.specs.Ready.{AsksRightly, AsksRightlyIf, MayAsk}
use Rattle.image_model.proofs.OfKind.{kinds_are}

once_there : {X : Type 0} (xs : List X) (x : X) → StandsOnce x xs → Contains xs x
once_there xs x h = (h.0, slice_get_within xs h.0 x h.1, get_or_from_slice_get xs h.0 x x h.1)

module _ (t : Table) (range : IsTableInRange t) (n : ℕ) where
  structure_asks : (args : List Arg) (d : Descr) (vs : List Value) → NamesDescr t d → AsksRightly t access.Structure args d vs
  structure_asks args (descr.Size k) vs h = once_there t.shapes (shape.Size k) (range.each_size_once k h)
  structure_asks args d vs h = tt

  array_asks : (args : List Arg) (d : Descr) (vs : List Value) → NamesDescr t d → AsksRightly t access.Array args d vs
  array_asks args (descr.Array k) vs h = once_there t.shapes (shape.Array k) (range.each_array_once k h)
  array_asks args d vs h = tt

  call_asks : (args : List Arg) (d : Descr) (vs : List Value) → AreCalled t d args → AreOfKinds n (map kind_of_arg args) vs → AsksRightly t access.Call args d vs
  call_asks (arg.Func f ∷ rest) (descr.Call k) vs h kinds =
      record {
        function = h.0;
        kinds = λ row e. (let takes = subst (λ (o : Option CallRow). IsSomeAnd o (λ (r : CallRow). map kind_of_arg rest ≡ map (λ (x : Kind). Some x) r.args)) e h.1 in kinds_are n row.args vs (subst (λ (ks : List (Option Kind)). AreOfKinds n ks vs) takes kinds));
      }
  call_asks args d vs h kinds = tt

  plain_asks : (operation : OpCode) (args : List Arg) (d : Descr) (vs : List Value) → FitArgs t d (takes_of operation) args → NamesDescr t d → AreOfKinds n (map kind_of_arg args) vs → AsksRightlyIf t (access_form operation) args d vs
  plain_asks code.New args d vs fits names kinds = structure_asks args d vs names
  plain_asks code.NewWithVtable args d vs fits names kinds = structure_asks args d vs names
  plain_asks code.NewArrayClear args d vs fits names kinds = array_asks args d vs names
  plain_asks code.CallI args d vs fits names kinds = call_asks args d vs fits kinds
  plain_asks code.CallR args d vs fits names kinds = call_asks args d vs fits kinds
  plain_asks code.CallN args d vs fits names kinds = call_asks args d vs fits kinds
  plain_asks operation args d vs fits names kinds = tt

  pub may_ask : (op : OptOp) (vs : List Value) → FitsTable t op → NamesRows t op → AreOfKinds n (map kind_of_arg (args_of op)) vs → MayAsk t op vs
  may_ask (opt.Plain operation r args d) vs fits names kinds = plain_asks operation args d vs fits.arguments names.1 kinds
  may_ask (opt.Guard operation args g snap) vs fits names kinds = tt
  may_ask (opt.Exit g snap) vs fits names kinds = tt
  may_ask (opt.Jump to args) vs fits names kinds = tt
  may_ask (opt.Finish value) vs fits names kinds = tt
