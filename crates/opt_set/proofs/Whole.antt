-- What the pieces of a set give: they are all that is promised of pieces, and they are sound.
use Rattle.std.proofs.Common.{◌≡◌, ℕ, Bool, true, false, if◌then◌else◌, List, [], ◌∷◌, Option, Some, None, length, map, slice_get, refl, sym, ap, ◌∙◌, subst}
use Rattle.std.specs.Bool.{Decides}
use Rattle.std.specs.Option.{option_map, IsSomeAnd}
use Rattle.std.specs.List.{AllByRecursion, Contains}
use Rattle.std.proofs.lemmas.List.Elements.{All-contains}
use Rattle.std.proofs.lemmas.Option.{slice_get_within, slice_get-get_or}
use Rattle.lists.specs.Has.{Has}
use Rattle.lists.proofs.Eaches.{each_at}
use Rattle.lists.proofs.Membership.{has_at, has_get}
use Rattle.trace_ops.specs.declared.trace.BoxId.{BoxId}
use Rattle.trace_ops.specs.declared.trace.Arg.{Arg}
use Rattle.trace_ops.specs.declared.trace.Trace.{Trace}
use Rattle.trace_ops.specs.declared.trace.TraceSet.{TraceSet}
use Rattle.trace_ops.specs.declared.piece.PieceId.{PieceId}
use Rattle.trace_ops.specs.declared.piece.OptOp.TheVariants as opt
use Rattle.trace_ops.specs.declared.piece.Piece.{Piece}
use Rattle.trace_ops.specs.declared.piece.Entry.{Entry}
use Rattle.trace_ops.specs.Constants.{HasWords}
use Rattle.trace_ops.specs.Lawful.{AreDistinct}
use Rattle.trace_ops.specs.Sound.{IsSound}
use Rattle.trace_ops.specs.WellFormed.{IsWellFormed}
use Rattle.trace_meaning.specs.Cuts.{Cuts}
use Rattle.trace_meaning.specs.Recorded.{inputs_of, jump_target}
use Rattle.opt_meaning.specs.Admits.{plain_entry}
use Rattle.opt_meaning.specs.Meeting.{Made, Meet, EndsOnce, made_at, pieces_of, IsEntered}
use Rattle.opt_meaning.specs.Pieces.{same_piece, piece_at, last_of, preamble}
use Rattle.opt_promise.specs.Promise.{AreAt, BeginsPlainly, first_piece, AreMade}
use Rattle.loop_peel.specs.Laws.{GuardsFit}
use Rattle.loop_peel.specs.Peeling.{IsLoop, HavePreambles, IsPieceOf, loop_entry}
use Rattle.opt_set.specs.Optimised.{Left, label_in, IsOwnPiece, Holds, OptimisedAreMade, OptimisedAreSound, OptimisedHavePreambles}
use Rattle.opt_set.proofs.Found.{found_here}

had : {X : Type 0} (xs : List X) (x : X) → Contains xs x → Has xs x
had xs x c = has_get xs c.0 x (slice_get-get_or xs c.0 x c.1 ∙ ap Some c.2)

-- labels that repeat inputs
abbrev inputs_labels : TraceSet → PieceId → Option (List BoxId)
inputs_labels set q = Some (inputs_of (slice_get set.traces q.trace))

inputs_have : (set : TraceSet) → HavePreambles set (inputs_labels set)
inputs_have set p t at loop pre = ap (λ o. map (λ (b : BoxId). Some b.kind) (inputs_of o)) at

module _ (tell : (a b : PieceId) → Decides (same_piece a b) (a ≡ b)) (fit : GuardsFit) (set : TraceSet) (attached : List ℕ) (left : List (Option Left)) (ms : List Made) (h : Holds set (length set.traces) attached left ms) where
  own : (q : PieceId) (m : Made) → made_at ms q ≡ Some m → IsPieceOf set q.trace q.half m.entry m
  own q m is =
      let f = found_here tell ms q m is in
      let at = has_at ms m f.0 in
      subst (λ (r : PieceId). IsPieceOf set r.trace r.half m.entry m) f.1 (each_at (IsOwnPiece set) ms at.0 m h.each at.1)

  ends : (q : PieceId) (m : Made) → made_at ms q ≡ Some m → EndsOnce m.piece.ops
  ends q m is = let f = ((own q m is).sound (inputs_labels set) (inputs_have set)).formed in record { some = f.has_an_end; last = f.ends_once }

  loop_entered : (p : ℕ) (t : Trace) → slice_get set.traces p ≡ Some t → IsLoop t.origin → IsEntered ms (preamble p) (loop_entry set p)
  loop_entered p t at loop = (h.loops p t (slice_get_within set.traces p t at) at loop).1

  entered_so : (p : ℕ) (e : Entry) (o : Option Trace) → slice_get set.traces p ≡ o → IsSomeAnd o (λ (t : Trace). IsLoop t.origin × (e ≡ plain_entry t.inputs)) → IsEntered ms (preamble p) e
  entered_so p e None at w = absurd w
  entered_so p e (Some t) at w =
      let i = loop_entered p t at w.0 in
      (i.0, i.1, i.2 ∙ ap (λ o. plain_entry (inputs_of o)) at ∙ sym w.1)

  jumps : (q : PieceId) (m : Made) → made_at ms q ≡ Some m → (to : PieceId) (args : List Arg) → last_of m.piece.ops ≡ Some (opt.Jump to args) → (to.trace ≡ jump_target set q.trace) × IsEntered ms to m.at_end
  jumps q m is to args last =
      let j = (own q m is).jumps to args last in
      (ap (λ (r : PieceId). r.trace) j.0, subst (λ (r : PieceId). IsEntered ms r m.at_end) (sym j.0) (entered_so (jump_target set q.trace) m.at_end (slice_get set.traces (jump_target set q.trace)) refl j.1))

  meet : HasWords set → (cuts : Cuts) → AreAt attached cuts → Meet set ms cuts
  meet words cuts at = record {
    each = λ q m is. (own q m is).simulates words;
    ends = ends;
    bridges = λ q m is n b c e entry cut comes. h.bridges b (had attached b (All-contains (λ (x : ℕ × ℕ). Contains attached x.0) cuts (b, c) at cut)) q m n e is entry comes;
    jumps = jumps;
  }

  begins : IsWellFormed set → (p : ℕ) (t : Trace) → slice_get set.traces p ≡ Some t → IsLoop t.origin → (m : Made) × (made_at ms (first_piece p) ≡ Some m) × BeginsPlainly set p m.entry
  begins well p t at loop =
      let i = loop_entered p t at loop in
      (i.0, i.1, (inputs_of (slice_get set.traces p), i.2, subst AreDistinct (sym (ap inputs_of at)) (well.inputs_distinct p t at), refl))

  made : IsWellFormed set → HasWords set → AreMade set attached ms
  made well words = record {
    meet = meet words;
    fit = λ q m is n e entry. fit set q.trace q.half m.entry m (own q m is) n e entry;
    loops = begins well;
  }

  -- Soundness

  piece_found : (b : Bool) (m : Made) (o : Option Piece) (r : Option Made) → o ≡ option_map (λ (x : Made). x.piece) r → (if b then Some m.piece else o) ≡ option_map (λ (x : Made). x.piece) (if b then Some m else r)
  piece_found true m o r e = refl
  piece_found false m o r e = e

  piece_of : (ns : List Made) (q : PieceId) → piece_at (pieces_of ns) q ≡ option_map (λ (x : Made). x.piece) (made_at ns q)
  piece_of [] q = refl
  piece_of (m ∷ ns) q = piece_found (same_piece q m.piece.id) m (piece_at (pieces_of ns) q) (made_at ns q) (piece_of ns q)

  some_kinds : (bs cs : List BoxId) → map (λ (b : BoxId). b.kind) bs ≡ map (λ (b : BoxId). b.kind) cs → map (λ (b : BoxId). Some b.kind) bs ≡ map (λ (b : BoxId). Some b.kind) cs
  some_kinds bs cs e = sym (twice bs) ∙ ap (map Some) e ∙ twice cs
    where
      twice : (xs : List BoxId) → map Some (map (λ (b : BoxId). b.kind) xs) ≡ map (λ (b : BoxId). Some b.kind) xs
      twice [] = refl
      twice (x ∷ xs) = ap (λ l. Some x.kind ∷ l) (twice xs)

  have : HavePreambles set (label_in (pieces_of ms))
  have p t at loop pre =
      let i = loop_entered p t at loop in
      let label : label_in (pieces_of ms) (preamble p) ≡ Some i.0.piece.label = ap (option_map (λ (x : Piece). x.label)) (piece_of ms (preamble p) ∙ ap (option_map (λ (x : Made). x.piece)) i.1) in
      let kinds : map (λ (b : BoxId). b.kind) i.0.piece.label ≡ map (λ (b : BoxId). b.kind) t.inputs = (own (preamble p) i.0 i.1).label ∙ ap (λ (x : Entry). map (λ (b : BoxId). b.kind) x.label) i.2 ∙ ap (λ o. map (λ (b : BoxId). b.kind) (inputs_of o)) at in
      subst (λ o. IsSomeAnd o (λ (l : List BoxId). map (λ (b : BoxId). Some b.kind) l ≡ map (λ (b : BoxId). Some b.kind) t.inputs)) (sym label) (some_kinds i.0.piece.label t.inputs kinds)

  all_sound : (ns : List Made) → AllByRecursion (IsOwnPiece set) ns → AllByRecursion (IsSound set (label_in (pieces_of ms))) (pieces_of ns)
  all_sound [] e = tt
  all_sound (m ∷ ns) e = (e.0.sound (label_in (pieces_of ms)) have, all_sound ns e.1)

  sound : AllByRecursion (IsSound set (label_in (pieces_of ms))) (pieces_of ms)
  sound = all_sound ms h.each

pub are_made : ((a b : PieceId) → Decides (same_piece a b) (a ≡ b)) → GuardsFit → OptimisedAreMade
are_made tell fit set o well words i = (i.made, sym i.pieces, made tell fit set o.attached o.left i.made i.holds well words)

pub are_sound : ((a b : PieceId) → Decides (same_piece a b) (a ≡ b)) → GuardsFit → OptimisedAreSound
are_sound tell fit set o i = subst (λ (ps : List Piece). AllByRecursion (IsSound set (label_in ps)) ps) (sym i.pieces) (sound tell fit set o.attached o.left i.made i.holds)

pub have_preambles : ((a b : PieceId) → Decides (same_piece a b) (a ≡ b)) → GuardsFit → OptimisedHavePreambles
have_preambles tell fit set o i = subst (λ (ps : List Piece). HavePreambles set (label_in ps)) (sym i.pieces) (have tell fit set o.attached o.left i.made i.holds)
