-- Pieces of a trace, one behind the other.
use Rattle.std.specs.Prelude.{◌≡◌, ℕ, List, [], ◌∷◌, ◌++◌}
use Rattle.trace_ops.specs.declared.trace.TraceSet.{TraceSet}
use Rattle.trace_ops.specs.declared.piece.Half.{Half}
use Rattle.trace_ops.specs.declared.piece.Piece.{Piece}
use Rattle.trace_ops.specs.declared.piece.Entry.{Entry}
use Rattle.opt_meaning.specs.Meeting.{Made}
use Rattle.loop_peel.specs.declared.peeling.Peeled.{Peeled}
use Rattle.loop_peel.specs.Peeling.{IsPieceOf, in_half}

abbrev pub with_left : Peeled → Half → List (ℕ × Entry) → Peeled
with_left o h guards = record { opt = o.opt; at_guards = o.at_guards ++ in_half h guards }

abbrev pub with_piece : Peeled → Piece → Peeled
with_piece o piece = record { opt = record { pieces = o.opt.pieces ++ piece ∷ [] }; at_guards = o.at_guards }

-- one piece more, from this entry
pub record Adds (set : TraceSet) (p : ℕ) (h : Half) (e : Entry) (old new : Peeled) : Type 0 where
  pub made : Made
  pub is_piece : IsPieceOf set p h e made
  pub pieces : new.opt.pieces ≡ old.opt.pieces ++ made.piece ∷ []
  pub guards : new.at_guards ≡ old.at_guards ++ in_half h made.guards
