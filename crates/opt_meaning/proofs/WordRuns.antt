-- Runs of pieces keep words.
use Rattle.std.proofs.Common.{◌≡◌, ℕ, zero, suc, Bool, true, false, Option, Some, None, List, [], ◌∷◌, map, refl, sym, ap, ◌∙◌, subst}
use Rattle.std.specs.List.{All}
use Rattle.std.proofs.lemmas.Option.{same_Some}
use Rattle.std.proofs.lemmas.List.Elements.{All-nil, All-cons, All-head, All-tail}
use Rattle.trace_ops.specs.declared.trace.BoxId.{BoxId}
use Rattle.trace_ops.specs.declared.trace.Arg.{Arg}
use Rattle.trace_ops.specs.declared.trace.Arg.TheVariants as arg
use Rattle.trace_ops.specs.declared.trace.TraceSet.{TraceSet}
use Rattle.trace_ops.specs.declared.table.Table.{Table}
use Rattle.trace_ops.specs.declared.piece.Snapshot.{Snapshot}
use Rattle.trace_ops.specs.declared.piece.PieceId.{PieceId}
use Rattle.trace_ops.specs.declared.piece.OptOp.{OptOp}
use Rattle.trace_ops.specs.declared.piece.OptOp.TheVariants as opt
use Rattle.trace_ops.specs.declared.piece.Piece.{Piece}
use Rattle.trace_ops.specs.Parts.{parts_of}
use Rattle.trace_ops.specs.Pieces.{finished}
use Rattle.trace_meaning.specs.declared.value.Value.{Value}
use Rattle.trace_meaning.specs.declared.value.Value.TheVariants as v
use Rattle.trace_meaning.specs.World.{World, failed}
use Rattle.trace_meaning.specs.Boxes.{Boxes, same_box, value_in, bind, bind_all, arg_value, with_first, all_values}
use Rattle.trace_meaning.specs.Cuts.{Cuts}
use Rattle.trace_meaning.specs.Passing.{passes}
use Rattle.trace_meaning.specs.Performing.{Done, Gave, Bad, Waited, Misfitted, perform}
use Rattle.trace_meaning.specs.Legs.{Leave, Fails, Jumps, Finishes, Waits, Misfits, Wrong, Turn, On, Off, In, Over, into, enter, settle, next, run}
use Rattle.opt_meaning.specs.Step.{Opt, opt_values, resume_args, opt_result, opt_plain, opt_leave, opt_guard, opt_perform, opt_test, opt_step}
use Rattle.opt_meaning.specs.Pieces.{PiecesNow, ops_at, begin_at, label_at, jump_target, pieces, seen_piece}
use Rattle.trace_ops.specs.Constants.{ArgHasWord}
use Rattle.trace_meaning.specs.Sound.{HasWord, MayHaveWord, HoldsWords}
use Rattle.trace_meaning.specs.Worded.{FieldsAreFew, BoxesHaveWords, LeaveHasWords, AllMayHaveWords, DoneHasWords, WordLaws}
use Rattle.opt_meaning.specs.Worded.{OpHasWords, NowHasWords}

boxes_alone : (bs : List BoxId) → All ArgHasWord (map arg.Of bs)
boxes_alone [] = All-nil ArgHasWord
boxes_alone (b ∷ bs) = All-cons ArgHasWord (arg.Of b) (map arg.Of bs) tt (boxes_alone bs)

pub no-boxes : BoxesHaveWords []
no-boxes = λ b x e. absurd (cc)

-- Operations

abbrev StateHasWords : Opt → Type 0
StateHasWords s = BoxesHaveWords s.boxes × HoldsWords s.world

abbrev TurnHasWords : Turn Opt → Type 0
TurnHasWords (On s) = StateHasWords s
TurnHasWords (Off l) = LeaveHasWords l

wrong_words : (w : World) → HoldsWords w → LeaveHasWords (Wrong w)
wrong_words w h = (All-nil HasWord, h)

module _ (words : WordLaws) where
  result_words : (to : Option BoxId) (s : Opt) (x : Option Value) (w : World) → StateHasWords s → MayHaveWord x → HoldsWords w → TurnHasWords (opt_result to s x w)
  result_words (Some b) s (Some x) w h word k = (words.binds b x s.boxes word h.0, k)
  result_words (Some b) s None w h word k = wrong_words w k
  result_words None s x w h word k = (h.0, k)

  plain_words : (to : Option BoxId) (s : Opt) (d : Done) → StateHasWords s → DoneHasWords d → TurnHasWords (opt_plain to s d)
  plain_words to s (Gave x w) h k = result_words to s x w h k.0 k.1
  plain_words to s Bad h k = wrong_words s.world h.1
  plain_words to s (Waited w) h k = (All-nil HasWord, k)
  plain_words to s (Misfitted w) h k = (All-nil HasWord, k)

  fail_words : (n : ℕ) (s : Opt) (vs : Option (List Value)) → StateHasWords s → AllMayHaveWords vs → TurnHasWords (opt_leave (Fails n) s vs)
  fail_words n s None h k = wrong_words s.world h.1
  fail_words n s (Some vs) h k = (k, h.1)

  jump_words : (s : Opt) (vs : Option (List Value)) → StateHasWords s → AllMayHaveWords vs → TurnHasWords (opt_leave Jumps s vs)
  jump_words s None h k = wrong_words s.world h.1
  jump_words s (Some vs) h k = (k, h.1)

  finish_words : (s : Opt) (vs : Option (List Value)) → StateHasWords s → AllMayHaveWords vs → TurnHasWords (opt_leave Finishes s vs)
  finish_words s None h k = wrong_words s.world h.1
  finish_words s (Some vs) h k = (k, h.1)

  resume_words : (n : ℕ) (snap : Snapshot) (s : Opt) → StateHasWords s → TurnHasWords (opt_leave (Fails n) s (opt_values s (resume_args snap)))
  resume_words n snap s h = fail_words n s (opt_values s (resume_args snap)) h (words.values s.boxes (resume_args snap) h.0 (boxes_alone (parts_of snap)))

  guard_words : (n : ℕ) (snap : Snapshot) (s : Opt) (x : Option Bool) → StateHasWords s → TurnHasWords (opt_guard n snap s x)
  guard_words n snap s None h = wrong_words s.world h.1
  guard_words n snap s (Some true) h = h
  guard_words n snap s (Some false) h = resume_words n snap s h

  step_words : (t : Table) (op : OptOp) (s : Opt) → FieldsAreFew t → OpHasWords op → StateHasWords s → TurnHasWords (opt_step t op s)
  step_words t (opt.Plain operation to args d) s few k h = made (opt_values s args) (words.values s.boxes args h.0 k)
    where
      made : (vs : Option (List Value)) → AllMayHaveWords vs → TurnHasWords (opt_perform t operation to args d s vs)
      made None w = wrong_words s.world h.1
      made (Some vs) w = plain_words to s (perform t operation d args vs s.world) h (words.operations t operation d args vs s.world few h.1 w)
  step_words t (opt.Guard operation args n snap) s few k h = tested (opt_values s args)
    where
      tested : (vs : Option (List Value)) → TurnHasWords (opt_test operation args n snap s vs)
      tested None = wrong_words s.world h.1
      tested (Some vs) = guard_words n snap s (passes operation args vs s.world) h
  step_words t (opt.Exit n snap) s few k h = resume_words n snap s h
  step_words t (opt.Jump to args) s few k h = jump_words s (opt_values s args) h (words.values s.boxes args h.0 k)
  step_words t (opt.Finish value) s few k h = finish_words s (opt_values s (finished value)) h (words.values s.boxes (finished value) h.0 k)

module _ (words : WordLaws) (set : TraceSet) (ps : List Piece) (cuts : Cuts) (few : FieldsAreFew set.table) (constants : (q : PieceId) → All OpHasWords (ops_at ps q)) where
  failed_words : (w : World) → HoldsWords w → HoldsWords (failed w)
  failed_words w h = record { words = h.words; short = h.short; answers = h.answers; calls = h.calls }

  begin_words : (q : PieceId) (vs : List Value) (w : World) → All HasWord vs → HoldsWords w → NowHasWords (In q (ops_at ps q) (begin_at ps q vs w))
  begin_words q vs w k h = (constants q, words.binds_all [] (label_at ps q) vs no-boxes k, h)

  into_words : (q : PieceId) (n : ℕ) (vs : List Value) (w : World) (r : Option PieceId) → All HasWord vs → HoldsWords w → NowHasWords (into (pieces set ps cuts) q n vs w r)
  into_words q n vs w None k h = (k, failed_words w h)
  into_words q n vs w (Some r) k h = begin_words r vs (failed w) k (failed_words w h)

  enter_words : (q : PieceId) (l : Leave) → LeaveHasWords l → NowHasWords (enter (pieces set ps cuts) q l)
  enter_words q (Fails n vs w) h = into_words q n vs w (seen_piece set ps cuts q n w.failures) h.0 h.1
  enter_words q (Jumps vs w) h = begin_words (jump_target ps q) vs w h.0 h.1
  enter_words q (Finishes vs w) h = h
  enter_words q (Waits w) h = h
  enter_words q (Misfits w) h = h
  enter_words q (Wrong w) h = h

  settle_words : (q : PieceId) (rest : List OptOp) (x : Turn Opt) → All OpHasWords rest → TurnHasWords x → NowHasWords (settle (pieces set ps cuts) q rest x)
  settle_words q rest (On s) k h = (k, h.0, h.1)
  settle_words q rest (Off l) k h = enter_words q l h

  next_words : (x : PiecesNow) → NowHasWords x → NowHasWords (next (pieces set ps cuts) x)
  next_words (In q [] s) h = wrong_words s.world h.2
  next_words (In q (op ∷ ops) s) h = settle_words q ops (opt_step set.table op s) (All-tail OpHasWords op ops h.0) (step_words words set.table op s few (All-head OpHasWords op ops h.0) (h.1, h.2))
  next_words (Over q l) h = h

  pub run-words : (x : PiecesNow) (n : ℕ) → NowHasWords x → NowHasWords (run (pieces set ps cuts) n x)
  run-words x zero h = h
  run-words x (suc n) h = run-words (next (pieces set ps cuts) x) n (next_words x h)
