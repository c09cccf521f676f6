-- A sound piece stays ready.
use Rattle.std.specs.Prelude.{Bool, true, false}
use Rattle.std.specs.Option.{option_map}
use Rattle.std.proofs.Common.{◌≡◌, ℕ, Option, Some, None, List, [], ◌∷◌, length, map, refl, sym, subst}
use Rattle.std.specs.List.{All}
use Rattle.std.proofs.lemmas.List.Elements.{All-head, All-tail}
use Rattle.trace_ops.specs.declared.code.OpCode.{OpCode}
use Rattle.trace_ops.specs.declared.trace.Kind.{Kind}
use Rattle.trace_ops.specs.declared.trace.BoxId.{BoxId}
use Rattle.trace_ops.specs.declared.trace.Arg.{Arg}
use Rattle.trace_ops.specs.declared.trace.Descr.{Descr}
use Rattle.trace_ops.specs.declared.trace.TraceSet.{TraceSet}
use Rattle.trace_ops.specs.declared.table.Table.{Table}
use Rattle.trace_ops.specs.declared.piece.PieceId.{PieceId}
use Rattle.trace_ops.specs.declared.piece.Piece.{Piece}
use Rattle.trace_ops.specs.declared.piece.Snapshot.{Snapshot}
use Rattle.trace_ops.specs.declared.piece.OptOp.{OptOp}
use Rattle.trace_ops.specs.declared.piece.OptOp.TheVariants as opt
use Rattle.trace_ops.specs.Facts.{takes_of, gives_of, cites_of}
use Rattle.trace_ops.specs.InRange.{IsTableInRange}
use Rattle.trace_ops.specs.Kinds.{kind_of_arg, NamesArg}
use Rattle.trace_ops.specs.Parts.{parts_of}
use Rattle.trace_ops.specs.Pieces.{args_of, finished, FitsTable, NamesRows}
use Rattle.trace_ops.specs.Sound.{IsSound}
use Rattle.trace_meaning.specs.declared.value.Value.{Value}
use Rattle.trace_meaning.specs.World.{World}
use Rattle.trace_meaning.specs.Boxes.{BoxesDecide}
use Rattle.trace_meaning.specs.Holding.{Holds, Keeps, IsGiven, DoneHolds, OperationsKeepKinds}
use Rattle.trace_meaning.specs.Kinds.{AreOfKinds, BoxesHold}
use Rattle.trace_meaning.specs.Legs.{Fails, Jumps, Finishes}
use Rattle.trace_meaning.specs.Passing.{passes}
use Rattle.trace_meaning.specs.Performing.{Done, Gave, Bad, Waited, Misfitted, perform}
use Rattle.opt_meaning.specs.Step.{Opt, opt_begin, opt_values, opt_step, opt_result, opt_plain, opt_perform, opt_guard, opt_test, opt_leave, resume_args}
use Rattle.image_model.specs.Ready.{IsReady, AreKinded, ReadyOn, StaysReady}
use Rattle.image_model.proofs.Asking.{may_ask}
use Rattle.image_model.proofs.Fitting.{taken_of}
use Rattle.image_model.proofs.OfKind.{BoxesHold-more, BoxesHold-bind, BoxesHold-bound_to, AreOfKinds-all_values, boxes_named, boxes_kinds}

-- a state inside a piece, whose boxes and objects hold values of their kinds
record IsKept (t : Table) (s : Opt) : Type 0 where
  world : Holds t s.world
  boxes : BoxesHold (length s.world.objects) s.boxes

module _ (decides : BoxesDecide) (keep : OperationsKeepKinds) (t : Table) (range : IsTableInRange t) where
  named_args : (op : OptOp) → NamesRows t op → All (NamesArg t) (args_of op)
  named_args (opt.Plain operation r args d) h = h.0
  named_args (opt.Guard operation args n snap) h = h
  named_args (opt.Exit n snap) h = h
  named_args (opt.Jump to args) h = h
  named_args (opt.Finish value) h = h

  kinds_of : (s : Opt) (args : List Arg) (vs : List Value) → IsKept t s → All (NamesArg t) args → opt_values s args ≡ Some vs → AreOfKinds (length s.world.objects) (map kind_of_arg args) vs
  kinds_of s args vs h named e = AreOfKinds-all_values t (length s.world.objects) s.boxes h.world.prebuilts h.boxes args vs named e

  ready : (op : OptOp) (s : Opt) → FitsTable t op → NamesRows t op → IsKept t s → IsReady t op s
  ready op s fits names h = record {
    asks = λ vs e. may_ask t range (length s.world.objects) op vs fits names (kinds_of s (args_of op) vs h (named_args op names) e);
    objects = h.world.objects;
  }

  module _ (op : OptOp) (next : Opt → Type 0) (s : Opt) (h : IsKept t s) (on : (u : Opt) → IsKept t u → next u) where
    -- where a value is given
    result_goes : (k : Option Kind) (r : Option BoxId) (x : Option Value) (w : World) → option_map (λ (b : BoxId). b.kind) r ≡ k → Keeps t s.world w → IsGiven (length w.objects) k x → ReadyOn t op next (opt_result r s x w)
    result_goes k (Some b) (Some x) w e keeps given =
        on (record { boxes = _; world = w }) (record {
          world = keeps.holds;
          boxes = BoxesHold-bind decides (length w.objects) b x s.boxes (subst (λ (q : Option Kind). IsGiven (length w.objects) q (Some x)) (sym e) given) (BoxesHold-more (length s.world.objects) (length w.objects) s.boxes keeps.more h.boxes);
        })
    result_goes k (Some b) None w e keeps given = tt
    result_goes k None x w e keeps given = on (record s { world = w }) (record { world = keeps.holds; boxes = BoxesHold-more (length s.world.objects) (length w.objects) s.boxes keeps.more h.boxes })

    done_goes : (k : Option Kind) (r : Option BoxId) (x : Done) → option_map (λ (b : BoxId). b.kind) r ≡ k → DoneHolds t s.world k x → ReadyOn t op next (opt_plain r s x)
    done_goes k r (Gave x w) e d = result_goes k r x w e d.0 d.1
    done_goes k r Bad e d = tt
    done_goes k r (Waited w) e d = tt
    done_goes k r (Misfitted w) e d = tt

    plain_goes : (operation : OpCode) (r : Option BoxId) (args : List Arg) (d : Descr) → FitsTable t (opt.Plain operation r args d) → All (NamesArg t) args → (o : Option (List Value)) → opt_values s args ≡ o → ReadyOn t op next (opt_perform t operation r args d s o)
    plain_goes operation r args d fits names None e = tt
    plain_goes operation r args d fits names (Some vs) e =
        done_goes (gives_of operation) r (perform t operation d args vs s.world) fits.gives
        (keep t s.world operation d args vs h.world (taken_of t (cites_of operation) d (takes_of operation) args fits.arguments) fits.cites (kinds_of s args vs h names e))

  -- where it is left with the values of boxes
  fails_kinded : (s : Opt) (snap : Snapshot) (vs : List Value) → IsKept t s → opt_values s (resume_args snap) ≡ Some vs → AreKinded t (map (λ (b : BoxId). Some b.kind) (parts_of snap)) vs s.world
  fails_kinded s snap vs h e =
      record {
        values = subst (λ (ks : List (Option Kind)). AreOfKinds (length s.world.objects) ks vs) (boxes_kinds (parts_of snap)) (kinds_of s (resume_args snap) vs h (boxes_named t (parts_of snap)) e);
        world = h.world;
      }

  guard_fails : (operation : OpCode) (args : List Arg) (n : ℕ) (snap : Snapshot) (next : Opt → Type 0) (s : Opt) → IsKept t s → (o : Option (List Value)) → opt_values s (resume_args snap) ≡ o → ReadyOn t (opt.Guard operation args n snap) next (opt_leave (Fails n) s o)
  guard_fails operation args n snap next s h None e = tt
  guard_fails operation args n snap next s h (Some vs) e = fails_kinded s snap vs h e

  exit_fails : (n : ℕ) (snap : Snapshot) (next : Opt → Type 0) (s : Opt) → IsKept t s → (o : Option (List Value)) → opt_values s (resume_args snap) ≡ o → ReadyOn t (opt.Exit n snap) next (opt_leave (Fails n) s o)
  exit_fails n snap next s h None e = tt
  exit_fails n snap next s h (Some vs) e = fails_kinded s snap vs h e

  guard_goes : (operation : OpCode) (args : List Arg) (n : ℕ) (snap : Snapshot) (next : Opt → Type 0) (s : Opt) → IsKept t s → next s → (o : Option Bool) → ReadyOn t (opt.Guard operation args n snap) next (opt_guard n snap s o)
  guard_goes operation args n snap next s h on None = tt
  guard_goes operation args n snap next s h on (Some true) = on
  guard_goes operation args n snap next s h on (Some false) = guard_fails operation args n snap next s h (opt_values s (resume_args snap)) refl

  test_goes : (operation : OpCode) (args : List Arg) (n : ℕ) (snap : Snapshot) (next : Opt → Type 0) (s : Opt) → IsKept t s → next s → (o : Option (List Value)) → ReadyOn t (opt.Guard operation args n snap) next (opt_test operation args n snap s o)
  test_goes operation args n snap next s h on None = tt
  test_goes operation args n snap next s h on (Some vs) = guard_goes operation args n snap next s h on (passes operation args vs s.world)

  jump_goes : (to : PieceId) (args : List Arg) (next : Opt → Type 0) (s : Opt) → IsKept t s → All (NamesArg t) args → (o : Option (List Value)) → opt_values s args ≡ o → ReadyOn t (opt.Jump to args) next (opt_leave Jumps s o)
  jump_goes to args next s h named None e = tt
  jump_goes to args next s h named (Some vs) e = record { values = kinds_of s args vs h named e; world = h.world }

  finish_goes : (value : Option Arg) (next : Opt → Type 0) (s : Opt) → IsKept t s → All (NamesArg t) (finished value) → (o : Option (List Value)) → opt_values s (finished value) ≡ o → ReadyOn t (opt.Finish value) next (opt_leave Finishes s o)
  finish_goes value next s h named None e = tt
  finish_goes value next s h named (Some vs) e = record { values = kinds_of s (finished value) vs h named e; world = h.world }

  goes : (op : OptOp) (next : Opt → Type 0) (s : Opt) → FitsTable t op → NamesRows t op → IsKept t s → ((u : Opt) → IsKept t u → next u) → ReadyOn t op next (opt_step t op s)
  goes (opt.Plain operation r args d) next s fits names h on = plain_goes (opt.Plain operation r args d) next s h on operation r args d fits names.0 (opt_values s args) refl
  goes (opt.Guard operation args n snap) next s fits names h on = test_goes operation args n snap next s h (on s h) (opt_values s args)
  goes (opt.Exit n snap) next s fits names h on = exit_fails n snap next s h (opt_values s (resume_args snap)) refl
  goes (opt.Jump to args) next s fits names h on = jump_goes to args next s h names (opt_values s args) refl
  goes (opt.Finish value) next s fits names h on = finish_goes value next s h names (opt_values s (finished value)) refl

  stays : (ops : List OptOp) (s : Opt) → All (FitsTable t) ops → All (NamesRows t) ops → IsKept t s → StaysReady t ops s
  stays [] s fits names h = tt
  stays (op ∷ ops) s fits names h =
      let fit = All-head (FitsTable t) op ops fits in
      let named = All-head (NamesRows t) op ops names in
      (ready op s fit named h, goes op (StaysReady t ops) s fit named h (λ u k. stays ops u (All-tail (FitsTable t) op ops fits) (All-tail (NamesRows t) op ops names) k))

pub sound_stays : BoxesDecide → OperationsKeepKinds → (set : TraceSet) (label_of : PieceId → Option (List BoxId)) (p : Piece) (vs : List Value) (w : World) → IsTableInRange set.table → IsSound set label_of p → AreKinded set.table (map (λ (b : BoxId). Some b.kind) p.label) vs w
    → StaysReady set.table p.ops (opt_begin p.label vs w)
sound_stays decides keep set label_of p vs w range sound h =
    stays decides keep set.table range p.ops (opt_begin p.label vs w) sound.formed.operations_fit sound.formed.rows_named.operations
    (record { world = h.world; boxes = BoxesHold-bound_to decides (length w.objects) p.label vs h.values })
