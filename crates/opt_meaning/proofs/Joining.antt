-- Pieces that meet compose.
use Rattle.std.proofs.Common.{◌≡◌, ℕ, suc, ◌+◌, Bool, true, false, cond, Option, Some, None, List, [], ◌∷◌, length, slice_get, refl, ap, sym, ◌∙◌, subst, arith}
use Rattle.std.specs.Prelude.{option_and_then, ◌-◌}
use Rattle.std.specs.Option.{option_map, unwrap_or}
use Rattle.std.proofs.lemmas.Option.{same_Some}
use Rattle.trace_ops.specs.declared.code.OpCode.{OpCode}
use Rattle.trace_ops.specs.declared.trace.BoxId.{BoxId}
use Rattle.trace_ops.specs.declared.trace.Kind.TheVariants as kind
use Rattle.trace_ops.specs.declared.trace.Arg.{Arg}
use Rattle.trace_ops.specs.declared.trace.Descr.{Descr}
use Rattle.trace_ops.specs.declared.piece.Half.{Half}
use Rattle.trace_ops.specs.declared.trace.TraceSet.{TraceSet}
use Rattle.trace_ops.specs.declared.table.Table.{Table}
use Rattle.trace_ops.specs.declared.piece.Snapshot.{Snapshot}
use Rattle.trace_ops.specs.declared.piece.PieceId.{PieceId}
use Rattle.trace_ops.specs.declared.piece.OptOp.{OptOp}
use Rattle.trace_ops.specs.declared.piece.OptOp.TheVariants as opt
use Rattle.trace_ops.specs.declared.piece.Piece.{Piece}
use Rattle.trace_ops.specs.declared.piece.Entry.{Entry}
use Rattle.trace_ops.specs.Pieces.{finished}
use Rattle.trace_meaning.specs.declared.value.Value.{Value}
use Rattle.trace_meaning.specs.declared.value.Value.TheVariants as v
use Rattle.trace_meaning.specs.World.{World}
use Rattle.trace_meaning.specs.Cuts.{Cuts, seen_bridge}
use Rattle.trace_meaning.specs.Passing.{passes}
use Rattle.trace_meaning.specs.Performing.{Done, Gave, Bad, Waited, Misfitted, perform}
use Rattle.trace_meaning.specs.Legs.{Leave, Fails, Jumps, Finishes, Wrong, Turn, On, Off, go_on, drive}
use Rattle.trace_meaning.specs.Recorded.{recorded, recorded_step}
use Rattle.trace_meaning.specs.Recorded.{jump_target as rec_target}
use Rattle.trace_meaning.specs.Boxes.{value_in, bound_to}
use Rattle.trace_meaning.specs.Recorded.{ops_at as trace_ops}
use Rattle.trace_meaning.specs.Recorded.{begin_at as trace_begin}
use Rattle.trace_meaning.specs.Growing.{RunsGrow}
use Rattle.trace_meaning.specs.Laws.{SeenIsBridge}
use Rattle.opt_meaning.specs.Step.{Opt, opt_values, resume_args, opt_result, opt_plain, opt_leave, opt_guard, opt_perform, opt_test, opt_step, opt_begin}
use Rattle.opt_meaning.specs.Pieces.{same_piece, piece_at, ops_of, label_of, ops_at, begin_at, last_of, named_by, jump_target, id_if, bridge_piece, pieces}
use Rattle.opt_meaning.specs.Admits.{Admits, entry_for}
use Rattle.trace_meaning.specs.Sound.{CanBegin, LegsCanBegin}
use Rattle.opt_meaning.specs.Leaving.{SameLeave}
use Rattle.opt_meaning.specs.Composing.{SeeAlike, CanJump, Composes}
use Rattle.opt_meaning.specs.Meeting.{Made, pieces_of, made_at, no_entry, entry_of, guards_of, end_of, joined, EndsOnce, Meet}
use Rattle.opt_meaning.proofs.PiecesGrow.{leg-grows}

picked : (t : Bool) (m : Made) (p : Option Piece) (r : Option Made) → p ≡ option_map (λ (m : Made). m.piece) r → cond t (Some m.piece) p ≡ option_map (λ (m : Made). m.piece) (cond t (Some m) r)
picked true m p r h = refl
picked false m p r h = h

-- what has a name has a piece of that name
pub piece_at-made : (ms : List Made) (q : PieceId) → piece_at (pieces_of ms) q ≡ option_map (λ (m : Made). m.piece) (made_at ms q)
piece_at-made [] q = refl
piece_at-made (m ∷ ms) q = picked (same_piece q m.piece.id) m (piece_at (pieces_of ms) q) (made_at ms q) (piece_at-made ms q)

-- Only a jump leaves by a jump

abbrev JumpsOnly : Turn Opt → Type 0
JumpsOnly (Off (Jumps vs w)) = ⊥
JumpsOnly _ = Unit {0}

result_stays : (to : Option BoxId) (s : Opt) (x : Option Value) (w : World) → JumpsOnly (opt_result to s x w)
result_stays (Some b) s (Some x) w = tt
result_stays (Some b) s None w = tt
result_stays None s x w = tt

plain_stays : (to : Option BoxId) (s : Opt) (d : Done) → JumpsOnly (opt_plain to s d)
plain_stays to s (Gave x w) = result_stays to s x w
plain_stays to s Bad = tt
plain_stays to s (Waited w) = tt
plain_stays to s (Misfitted w) = tt

fail_stays : (n : ℕ) (s : Opt) (vs : Option (List Value)) → JumpsOnly (opt_leave (Fails n) s vs)
fail_stays n s None = tt
fail_stays n s (Some vs) = tt

finish_stays : (s : Opt) (vs : Option (List Value)) → JumpsOnly (opt_leave Finishes s vs)
finish_stays s None = tt
finish_stays s (Some vs) = tt

guard_stays : (n : ℕ) (snap : Snapshot) (s : Opt) (x : Option Bool) → JumpsOnly (opt_guard n snap s x)
guard_stays n snap s None = tt
guard_stays n snap s (Some true) = tt
guard_stays n snap s (Some false) = fail_stays n s (opt_values s (resume_args snap))

perform_stays : (t : Table) (operation : OpCode) (to : Option BoxId) (args : List Arg) (d : Descr) (s : Opt) (vs : Option (List Value)) → JumpsOnly (opt_perform t operation to args d s vs)
perform_stays t operation to args d s None = tt
perform_stays t operation to args d s (Some vs) = plain_stays to s (perform t operation d args vs s.world)

test_stays : (operation : OpCode) (args : List Arg) (n : ℕ) (snap : Snapshot) (s : Opt) (vs : Option (List Value)) → JumpsOnly (opt_test operation args n snap s vs)
test_stays operation args n snap s None = tt
test_stays operation args n snap s (Some vs) = guard_stays n snap s (passes operation args vs s.world)

not_jumped : (x : Turn Opt) (vs : List Value) (w : World) → JumpsOnly x → x ≡ Off (Jumps vs w) → ⊥
not_jumped x vs w h e = subst (λ (y : Turn Opt). JumpsOnly y) e h

abbrev IsJump : OptOp → Type 0
IsJump op = (to : PieceId) × (args : List Arg) × (op ≡ opt.Jump to args)

jumped : (t : Table) (op : OptOp) (s : Opt) (vs : List Value) (w : World) → opt_step t op s ≡ Off (Jumps vs w) → IsJump op
jumped t (opt.Plain operation to args d) s vs w e = absurd (not_jumped (opt_step t (opt.Plain operation to args d) s) vs w (perform_stays t operation to args d s (opt_values s args)) e)
jumped t (opt.Guard operation args n snap) s vs w e = absurd (not_jumped (opt_step t (opt.Guard operation args n snap) s) vs w (test_stays operation args n snap s (opt_values s args)) e)
jumped t (opt.Exit n snap) s vs w e = absurd (not_jumped (opt_step t (opt.Exit n snap) s) vs w (fail_stays n s (opt_values s (resume_args snap))) e)
jumped t (opt.Jump to args) s vs w e = (to, args, refl)
jumped t (opt.Finish value) s vs w e = absurd (not_jumped (opt_step t (opt.Finish value) s) vs w (finish_stays s (opt_values s (finished value))) e)

-- somewhere among the operations stands a jump
abbrev HasJump : List OptOp → Type 0
HasJump ops = (k : ℕ) × (to : PieceId) × (args : List Arg) × (slice_get ops k ≡ Some (opt.Jump to args))

wrong_or_jump : (w u : World) (vs : List Value) → ◌≡◌ {A = Leave} (Wrong w) (Jumps vs u) → ⊥
wrong_or_jump w u vs h = cc

module _ (t : Table) where
  turn_jumps : (op : OptOp) (ops : List OptOp) (s : Opt) (x : Turn Opt) (vs : List Value) (w : World) → ((r : Opt) → drive (opt_step t) (λ r. r.world) ops r ≡ Jumps vs w → HasJump ops) → opt_step t op s ≡ x → go_on x (drive (opt_step t) (λ r. r.world) ops) ≡ Jumps vs w → HasJump (op ∷ ops)
  turn_jumps op ops s (On r) vs w more is e = let h = more r e in (suc h.0, h.1, h.2, h.3)
  turn_jumps op ops s (Off l) vs w more is e = let j = jumped t op s vs w (is ∙ ap Off e) in (0, j.0, j.1, ap Some j.2)

  drive_jumps : (ops : List OptOp) (s : Opt) (vs : List Value) (w : World) → drive (opt_step t) (λ r. r.world) ops s ≡ Jumps vs w → HasJump ops
  drive_jumps [] s vs w e = absurd (wrong_or_jump s.world w vs e)
  drive_jumps (op ∷ ops) s vs w e = turn_jumps op ops s (opt_step t op s) vs w (λ r f. drive_jumps ops r vs w f) refl e

-- it is the last one
last_jump : (ops : List OptOp) → EndsOnce ops → HasJump ops → (to : PieceId) × (args : List Arg) × (last_of ops ≡ Some (opt.Jump to args))
last_jump ops ends h =
    let place : h.0 + 1 ≡ length ops = (ends.last h.0 (opt.Jump h.1 h.2) h.3).0 refl in
    let here : length ops - 1 ≡ h.0 = omega arith in
    (h.1, h.2, ap (slice_get ops) here ∙ h.3)

-- Composing

module _ (set : TraceSet) (ms : List Made) (cuts : Cuts) (seen_is_bridge : SeenIsBridge) (growing : RunsGrow (pieces set (pieces_of ms) cuts)) (going : LegsCanBegin set cuts) (meet : Meet set ms cuts) where
  nothing_admitted : (vs : List Value) (w : World) (us : List Value) (u : World) → Admits set.table no_entry vs w us u → ⊥
  nothing_admitted vs w us u h = let none : None ≡ Some (v.Obj h.agrees.facts.0.0) = sym (no_box us) ∙ h.agrees.facts.0.1 in cc
    where
      no_box : (us : List Value) → value_in (bound_to [] us) (record { kind = kind.Ref; number = 0 }) ≡ None
      no_box us = refl

  ops_made : (q : PieceId) (m : Made) → made_at ms q ≡ Some m → ops_at (pieces_of ms) q ≡ m.piece.ops
  ops_made q m is = ap (λ (p : Option Piece). ops_of p) (piece_at-made ms q ∙ ap (option_map (λ (m : Made). m.piece)) is)

  label_made : (q : PieceId) (m : Made) → made_at ms q ≡ Some m → label_of (piece_at (pieces_of ms) q) ≡ m.piece.label
  label_made q m is = ap (λ (p : Option Piece). label_of p) (piece_at-made ms q ∙ ap (option_map (λ (m : Made). m.piece)) is)

  each : (q : PieceId) (vs : List Value) (w : World) (us : List Value) (u : World) (m : Option Made) → made_at ms q ≡ m → CanBegin set q.trace vs w → Admits set.table (entry_of m) vs w us u
      → SameLeave set.table (guards_of m) (end_of m) (drive (recorded_step set.table) (λ s. s.world) (trace_ops set q.trace) (trace_begin set q.trace vs w)) (drive (opt_step set.table) (λ s. s.world) (ops_at (pieces_of ms) q) (begin_at (pieces_of ms) q us u))
  each q vs w us u None is can h = absurd (nothing_admitted vs w us u h)
  each q vs w us u (Some m) is can h =
      let x : Leave = drive (recorded_step set.table) (λ s. s.world) (trace_ops set q.trace) (trace_begin set q.trace vs w) in
      let P : List OptOp → List BoxId → Type 0 = λ ops label. SameLeave set.table m.guards m.at_end x (drive (opt_step set.table) (λ s. s.world) ops (opt_begin label us u)) in
      subst (λ ops. P ops (label_of (piece_at (pieces_of ms) q))) (sym (ops_made q m is))
      (subst (λ label. P m.piece.ops label) (sym (label_made q m is)) ((meet.each q m is).leaves vs w us u can h))

  -- the piece of a bridge that is there
  there : (h : Half) (b : ℕ) (m : Made) → made_at ms (record { trace = b; half = h }) ≡ Some m → bridge_piece (pieces_of ms) h b ≡ Some (record { trace = b; half = h })
  there h b m is = ap (λ (p : Option Piece). id_if (record { trace = b; half = h }) p) (piece_at-made ms (record { trace = b; half = h }) ∙ ap (option_map (λ (m : Made). m.piece)) is)

  not_found : (n : ℕ) (e : Entry) → entry_for [] n ≡ Some e → ⊥
  not_found n e h = cc

  sees : (q : PieceId) (n f : ℕ) (e : Entry) (m : Option Made) → made_at ms q ≡ m → entry_for (guards_of m) n ≡ Some e → (s : Option ℕ) → seen_bridge set.traces cuts q.trace n f ≡ s → SeeAlike (λ (r : PieceId). r.trace) s (option_and_then (bridge_piece (pieces_of ms) q.half) s)
  sees q n f e None is found s seen = absurd (not_found n e found)
  sees q n f e (Some m) is found None seen = tt
  sees q n f e (Some m) is found (Some b) seen =
      let one = seen_is_bridge set.traces cuts q.trace n f b seen in
      let entered = meet.bridges q m is n b one.1.0 e found one.1.1 one.0 in
      subst (λ (r : Option PieceId). SeeAlike (λ (r : PieceId). r.trace) (Some b) r) (sym (there q.half b entered.0 entered.1)) refl

  bridges : (q r : PieceId) (n f : ℕ) (e : Entry) (m : Option Made) → made_at ms q ≡ m → entry_for (guards_of m) n ≡ Some e → (s : Option ℕ) → seen_bridge set.traces cuts q.trace n f ≡ s → option_and_then (bridge_piece (pieces_of ms) q.half) s ≡ Some r → entry_of (made_at ms r) ≡ e
  bridges q r n f e None is found s seen h = absurd (not_found n e found)
  bridges q r n f e (Some m) is found None seen h = absurd (cc)
  bridges q r n f e (Some m) is found (Some b) seen h =
      let one = seen_is_bridge set.traces cuts q.trace n f b seen in
      let entered = meet.bridges q m is n b one.1.0 e found one.1.1 one.0 in
      let here : PieceId = record { trace = b; half = q.half } in
      let same : here ≡ r = same_Some here r (sym (there q.half b entered.0 entered.1) ∙ h) in
      ap (λ (p : PieceId). entry_of (made_at ms p)) (sym same) ∙ ap entry_of entered.1 ∙ entered.2

  -- where a piece that jumps goes
  abbrev GoesOn : PieceId → Option Made → Type 0
  GoesOn q m = ((jump_target (pieces_of ms) q).trace ≡ rec_target set q.trace) × (end_of m ≡ entry_of (made_at ms (jump_target (pieces_of ms) q)))

  empty_stays : (q : PieceId) → made_at ms q ≡ None → CanJump (pieces set (pieces_of ms) cuts) q → ⊥
  empty_stays q is h =
      let none : ops_at (pieces_of ms) q ≡ [] = ap (λ (p : Option Piece). ops_of p) (piece_at-made ms q ∙ ap (option_map (λ (m : Made). m.piece)) is) in
      let drives : drive (opt_step set.table) (λ s. s.world) [] (begin_at (pieces_of ms) q h.0 h.1) ≡ Jumps h.2 h.3 = ap (λ ops. drive (opt_step set.table) (λ s. s.world) ops (begin_at (pieces_of ms) q h.0 h.1)) (sym none) ∙ h.4 in
      wrong_or_jump h.1 h.3 h.2 drives

  goes_on : (q : PieceId) (m : Option Made) → made_at ms q ≡ m → CanJump (pieces set (pieces_of ms) cuts) q → GoesOn q m
  goes_on q None is h = absurd (empty_stays q is h)
  goes_on q (Some m) is h =
      let same = ops_made q m is in
      let has : HasJump m.piece.ops = subst (λ ops. HasJump ops) same (drive_jumps set.table (ops_at (pieces_of ms) q) (begin_at (pieces_of ms) q h.0 h.1) h.2 h.3 h.4) in
      let last = last_jump m.piece.ops (meet.ends q m is) has in
      let target : jump_target (pieces_of ms) q ≡ last.0 = ap (λ (ops : List OptOp). unwrap_or (option_and_then named_by (last_of ops)) q) same ∙ ap (λ (op : Option OptOp). unwrap_or (option_and_then named_by op) q) last.2 in
      let goes = meet.jumps q m is last.0 last.1 last.2 in
      (ap (λ (p : PieceId). p.trace) target ∙ goes.0, sym goes.1.2 ∙ ap entry_of (sym goes.1.1) ∙ ap (λ (p : PieceId). entry_of (made_at ms p)) (sym target))

  pub composed : Composes set.table (recorded set cuts) (pieces set (pieces_of ms) cuts) (joined ms) (CanBegin set)
  composed = record {
    each = λ q vs w us u can h. each q vs w us u (made_at ms q) refl can h;
    begins = going;
    sees = λ q n f e found. sees q n f e (made_at ms q) refl found (seen_bridge set.traces cuts q.trace n f) refl;
    bridges = λ q r n f e found h. bridges q r n f e (made_at ms q) refl found (seen_bridge set.traces cuts q.trace n f) refl h;
    targets = λ q h. (goes_on q (made_at ms q) refl h).0;
    jumps = λ q h. (goes_on q (made_at ms q) refl h).1;
    grows = leg-grows set (pieces_of ms) cuts growing;
  }
