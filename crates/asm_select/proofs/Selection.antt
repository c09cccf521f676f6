-- What is chosen over planned moves is what is selected.
use Rattle.std.proofs.Common.{◌≡◌, Result, Ok, Err, IfOk, List, subst}
use Rattle.std.specs.List.{AllZip}
use Rattle.trace_ops.specs.declared.table.Table.{Table}
use Rattle.trace_ops.specs.declared.trace.TraceSet.{TraceSet}
use Rattle.trace_ops.specs.declared.piece.OptOp.{OptOp}
use Rattle.trace_ops.specs.declared.piece.Piece.{Piece}
use Rattle.target_base.specs.declared.place.Place.{Place}
use Rattle.linear_scan.specs.declared.places.Places.{Places}
use Rattle.parallel_move.specs.declared.moving.Move.{Move}
use Rattle.asm_select.specs.declared.selected.Selected.{Selected}
use Rattle.asm_select.specs.Given.{where_in}
use Rattle.asm_select.specs.Drafting.{setting, IsPlanned}
use Rattle.asm_select.specs.Selecting.{IsCodeOf, IsSelected}

pub if_ok : {A E : Type 0} (r : Result A E) (P Q : A → Type 0) → ((a : A) → P a → Q a) → IfOk r P → IfOk r Q
if_ok (Ok a) P Q f h = f a h
if_ok (Err e) P Q f h = h

pub selected : (set : TraceSet) (piece : Piece) (places : Places) (to : List Place) (table : Table) (at : List Place) (ops : List OptOp) (plan made : List (List Move)) (s : Selected) → table ≡ set.table → at ≡ places.at → ops ≡ piece.ops → made ≡ plan
    → AllZip (IsPlanned (where_in at) to) ops plan → IsCodeOf (setting (record { table = table; at = at; to = to; plan = made })) ops s → IsSelected set piece places to s
selected set piece places to table at ops plan made s d e f g planned code = record {
  plan = plan;
  planned = subst (λ a. AllZip (IsPlanned (where_in a) to) piece.ops plan) e (subst (λ os. AllZip (IsPlanned (where_in at) to) os plan) f planned);
  code =
      subst (λ a. IsCodeOf (setting (record { table = set.table; at = a; to = to; plan = plan })) piece.ops s) e
      (subst (λ os. IsCodeOf (setting (record { table = set.table; at = at; to = to; plan = plan })) os s) f
      (subst (λ ps. IsCodeOf (setting (record { table = set.table; at = at; to = to; plan = ps })) ops s) g
      (subst (λ t. IsCodeOf (setting (record { table = t; at = at; to = to; plan = made })) ops s) d code)));
}
