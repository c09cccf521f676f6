-- Ends: a jump and a finish.
use Rattle.std.proofs.Common.{◌≡◌, ℕ, suc, ◌≤◌, Bool, true, false, cond, List, [], ◌∷◌, Option, Some, None, length, slice_get, map, refl, sym, ap, ◌∙◌, subst, arith}
use Rattle.std.specs.List.{AllZip}
use Rattle.trace_ops.specs.declared.facts.Part.TheVariants as part
use Rattle.trace_ops.specs.declared.trace.Kind.{Kind}
use Rattle.trace_ops.specs.declared.trace.BoxId.{BoxId}
use Rattle.trace_ops.specs.declared.trace.Arg.{Arg}
use Rattle.trace_ops.specs.declared.trace.Arg.TheVariants as arg
use Rattle.trace_ops.specs.declared.trace.Op.{Op}
use Rattle.trace_ops.specs.declared.table.Table.{Table}
use Rattle.trace_ops.specs.declared.piece.OptOp.TheVariants as opt
use Rattle.trace_ops.specs.Facts.{part_of}
use Rattle.trace_ops.specs.Kinds.{kind_of_arg}
use Rattle.trace_ops.specs.Lawful.{AreDistinct}
use Rattle.trace_ops.specs.Pieces.{finished}
use Rattle.trace_meaning.specs.declared.value.Value.{Value}
use Rattle.trace_meaning.specs.Values.{kind_of_value}
use Rattle.trace_meaning.specs.Boxes.{Boxes, value_in, arg_value, has_value, with_first, all_values}
use Rattle.trace_meaning.specs.Legs.{Jumps, Finishes, Off}
use Rattle.trace_meaning.specs.Recorded.{Rec, values_of, recorded_part, recorded_with, recorded_step}
use Rattle.heap_shape.specs.Sameness.{Maps}
use Rattle.opt_meaning.specs.Step.{Opt, opt_values, opt_leave, opt_step, resume_args}
use Rattle.opt_meaning.specs.Agrees.{MapsAt}
use Rattle.opt_meaning.specs.Admits.{Admits, plain_entry}
use Rattle.lists.proofs.Options.{some_same, none_some}
use Rattle.opt_pass.specs.declared.state.Pass.{Pass}
use Rattle.opt_pass.specs.Tables.{meant}
use Rattle.opt_pass.specs.State.{args_of, with_jump, jump_frame, passed_in, with_body, with_finish}
use Rattle.trace_meaning.specs.Legs.{then_turn, drive_to}
use Rattle.trace_meaning.specs.Keeping.{AreOfKind}
use Rattle.opt_pass.specs.Standing.{known_of, at_states, Stands, SameTurn}
use Rattle.opt_pass.specs.Keeping.{IsThere, HasKind, EndsRightly, IsRight}
use Rattle.std.specs.List.{AllByRecursion}
use Rattle.std.specs.Prelude.{◌++◌}
use Rattle.std.proofs.lemmas.List.{append-nil}
use Rattle.opt_pass.proofs.Guards.{passed_on}
use Rattle.std.proofs.Common.{rules}
use Rattle.std.specs.List.{Contains}
use Rattle.opt_pass.proofs.Extending.{first_parts}
use Rattle.opt_pass.proofs.Runs.{wrong_here}
use Rattle.opt_pass.proofs.Args.{args_stand}
use Rattle.opt_pass.proofs.Bound.{kind_maps}
use Rattle.opt_pass.proofs.Plain.{no_pending}
use Rattle.opt_pass.specs.Laws.{Laws}

pub cons_parts : {X : Type 0} {x y : X} {xs ys : List X} → x ∷ xs ≡ y ∷ ys → (x ≡ y) × (xs ≡ ys)
cons_parts {X} {x} {y} {xs} {ys} e = (ap head e, ap tail e)
  where
    head : List X → X
    head [] = x
    head (z ∷ zs) = z

    tail : List X → List X
    tail [] = xs
    tail (z ∷ zs) = zs

zip_kinds : (m : ℕ → Option ℕ) (us vs : List Value) → AllZip (Maps m) us vs → map kind_of_value us ≡ map kind_of_value vs
zip_kinds m [] [] h = refl
zip_kinds m [] (y ∷ vs) h = absurd h
zip_kinds m (x ∷ us) [] h = absurd h
zip_kinds m (x ∷ us) (y ∷ vs) h = ap (λ k. k ∷ map kind_of_value us) (kind_maps m x y h.0) ∙ ap (λ ks. kind_of_value y ∷ ks) (zip_kinds m us vs h.1)

arg_kind : (boxes : Boxes) → AreOfKind boxes → (a : Arg) (u : Value) → arg_value (value_in boxes) a ≡ Some u → kind_of_arg a ≡ Some (kind_of_value u)
arg_kind boxes k (arg.Of b) u e = ap Some (sym (k b u e))
arg_kind boxes k (arg.Const z) u e = ap (λ w. Some (kind_of_value w)) (some_same e)
arg_kind boxes k arg.Null u e = ap (λ w. Some (kind_of_value w)) (some_same e)
arg_kind boxes k (arg.Class n) u e = absurd (none_some e)
arg_kind boxes k (arg.Func n) u e = absurd (none_some e)
arg_kind boxes k (arg.Ptr n) u e = ap (λ w. Some (kind_of_value w)) (some_same e)

kinded : (a : Arg) (k : Kind) → kind_of_arg a ≡ Some k → has_value a ≡ true
kinded (arg.Of b) k e = refl
kinded (arg.Const z) k e = refl
kinded arg.Null k e = refl
kinded (arg.Class n) k e = absurd (none_some e)
kinded (arg.Func n) k e = absurd (none_some e)
kinded (arg.Ptr n) k e = refl

values_kinds : (boxes : Boxes) → AreOfKind boxes → (args : List Arg) (vs : List Value) (to : List BoxId) → all_values (arg_value (value_in boxes)) args ≡ Some vs → map kind_of_arg args ≡ map (λ (b : BoxId). Some b.kind) to → map kind_of_value vs ≡ map (λ (b : BoxId). b.kind) to
values_kinds boxes k [] vs [] e s = ap (map kind_of_value) (sym (some_same e))
values_kinds boxes k [] vs (b ∷ to) e s = absurd (no_cons s)
  where
    no_cons : {x : Option Kind} {xs : List (Option Kind)} → [] ≡ x ∷ xs → ⊥
    no_cons e = cc
values_kinds boxes k (a ∷ args) vs [] e s = absurd (no_nil s)
  where
    no_nil : {x : Option Kind} {xs : List (Option Kind)} → x ∷ xs ≡ [] → ⊥
    no_nil e = cc
values_kinds boxes k (a ∷ args) vs (b ∷ to) e s =
    let c = cons_parts s in
    let q = first_parts (arg_value (value_in boxes) a) (all_values (arg_value (value_in boxes)) args) vs (sym (ap (λ z. cond z (with_first (arg_value (value_in boxes) a) (all_values (arg_value (value_in boxes)) args)) (all_values (arg_value (value_in boxes)) args)) (kinded a b.kind c.0)) ∙ e) in
    let one : kind_of_value q.0 ≡ b.kind = some_same (sym (arg_kind boxes k a q.0 q.1) ∙ c.0) in
    ap (map kind_of_value) (sym q.4) ∙ ap (λ z. z ∷ map kind_of_value q.2) one ∙ ap (λ z. b.kind ∷ z) (values_kinds boxes k args q.2 to q.3 c.1)

-- what has a kind is a value
passed_kinds : (args : List Arg) (to : List BoxId) → map kind_of_arg args ≡ map (λ (b : BoxId). Some b.kind) to → AllByRecursion HasKind args
passed_kinds [] to s = tt
passed_kinds (a ∷ args) [] s = absurd (no_nil s)
  where
    no_nil : {x : Option Kind} {xs : List (Option Kind)} → x ∷ xs ≡ [] → ⊥
    no_nil e = cc
passed_kinds (a ∷ args) (b ∷ to) s = let c = cons_parts s in (one a b.kind c.0, passed_kinds args to c.1)
  where
    one : (a : Arg) (k : Kind) → kind_of_arg a ≡ Some k → HasKind a
    one (arg.Of c) k e = tt
    one (arg.Const z) k e = tt
    one arg.Null k e = tt
    one (arg.Class n) k e = absurd (none_some e)
    one (arg.Func n) k e = absurd (none_some e)
    one (arg.Ptr n) k e = tt

-- At most one value

values_few : (f : BoxId → Option Value) (args : List Arg) (us : List Value) → all_values (arg_value f) args ≡ Some us → length us ≤ length args
values_few f [] us e = let s : length us ≡ 0 = ap length (sym (some_same e)) in omega (arith, s)
values_few f (a ∷ args) us e = by (has_value a) e (λ zs. values_few f args zs)
  where
    by : (q : Bool) → cond q (with_first (arg_value f a) (all_values (arg_value f) args)) (all_values (arg_value f) args) ≡ Some us → ((zs : List Value) → all_values (arg_value f) args ≡ Some zs → length zs ≤ length args) → length us ≤ suc (length args)
    by true e next = let q = first_parts (arg_value f a) (all_values (arg_value f) args) us e in let n : length q.2 ≤ length args = next q.2 q.3 in let l : suc (length q.2) ≡ length us = ap length q.4 in omega (arith, n, l)
    by false e next = let n : length us ≤ length args = next us e in omega (arith, n)

pub finished_first : (xs : List Arg) → length xs ≤ 1 → finished (slice_get xs 0) ≡ xs
finished_first [] h = refl
finished_first (x ∷ []) h = refl
finished_first (x ∷ y ∷ xs) h = absurd (omega (arith, h))

pub long_map : {X Y : Type 0} (f : X → Y) (xs : List X) → length (map f xs) ≡ length xs
long_map f [] = refl
long_map f (x ∷ xs) = ap suc (long_map f xs)

not_in : (b : BoxId) → ¬ Contains [] b
not_in b = search rules

module _ (laws : Laws) (t : Table) (o : Pass) (r : Rec) (p : Opt) (h : Stands t o r p) (op : Op) (right : IsRight t o.target op) (kinds : AreOfKind r.boxes) where
  finish_admits : (us vs : List Value) → AllZip (MapsAt (at_states r p h.mapped h.virtuals)) us vs → length us ≤ 1 → (bs : List BoxId) × AreDistinct bs × Admits t (plain_entry bs) vs r.world us p.world
  finish_admits [] vs m few = ([], tt, laws.plain_admits t (known_of o) r.boxes (at_states r p h.mapped h.virtuals) h.agrees (no_pending o h.quiet) [] [] vs tt refl m)
  finish_admits (u ∷ []) vs m few =
      let b : BoxId = record { kind = kind_of_value u; number = 0 } in
      let apart : AreDistinct (b ∷ []) = (not_in b, tt) in
      (b ∷ [], apart, laws.plain_admits t (known_of o) r.boxes (at_states r p h.mapped h.virtuals) h.agrees (no_pending o h.quiet) (b ∷ []) (u ∷ []) vs apart refl m)
  finish_admits (u ∷ z ∷ us) vs m few = absurd (omega (arith, few))

  jump_valued : part_of op.code ≡ part.Jump → AreDistinct o.target → (x : Option (List Value)) → values_of r op.args ≡ x → SameTurn t (with_jump o (args_of o op.args)) (recorded_with t op r x) (drive_to (opt_step t) (opt.Jump o.to (args_of o op.args) ∷ []) p)
  jump_valued is apart None e = wrong_here laws t o (with_jump o (args_of o op.args)) r p (opt.Jump o.to (args_of o op.args) ∷ []) h
  jump_valued is apart (Some vs) e =
      let s = args_stand t o r p h op.args vs right.args e in
      let new : Pass = with_jump o (args_of o op.args) in
      let ends : EndsRightly part.Jump o.target op.args = subst (λ z. EndsRightly z o.target op.args) is right.ends in
      let fit : map kind_of_value s.0 ≡ map (λ (b : BoxId). b.kind) o.target = zip_kinds (slice_get h.mapped) s.0 vs s.2 ∙ values_kinds r.boxes kinds op.args vs o.target e ends in
      subst (λ z. SameTurn t new (recorded_part z t op r vs) (drive_to (opt_step t) (opt.Jump o.to (args_of o op.args) ∷ []) p)) (sym is)
      (subst (λ z. SameTurn t new (Off (Jumps vs r.world)) (then_turn (opt_leave Jumps p z) (drive_to (opt_step t) []))) (sym s.1)
      (laws.plain_admits t (known_of o) r.boxes (at_states r p h.mapped h.virtuals) h.agrees (no_pending o h.quiet) o.target s.0 vs apart fit s.2, refl))

  pub jump_turns : part_of op.code ≡ part.Jump → AreDistinct o.target → SameTurn t (with_jump o (args_of o op.args)) (recorded_step t op r) (drive_to (opt_step t) (opt.Jump o.to (args_of o op.args) ∷ []) p)
  jump_turns is apart = jump_valued is apart (values_of r op.args) refl

  body_valued : part_of op.code ≡ part.Jump → (x : Option (List Value)) → values_of r op.args ≡ x → SameTurn t (with_body o (passed_in o op.args)) (recorded_with t op r x) (drive_to (opt_step t) (opt.Jump o.to (resume_args (passed_in o op.args)) ∷ []) p)
  body_valued is None e = wrong_here laws t o (with_body o (passed_in o op.args)) r p (opt.Jump o.to (resume_args (passed_in o op.args)) ∷ []) h
  body_valued is (Some vs) e =
      let new : Pass = with_body o (passed_in o op.args) in
      let ends : EndsRightly part.Jump o.target op.args = subst (λ z. EndsRightly z o.target op.args) is right.ends in
      let all : op.args ++ [] ≡ op.args = append-nil op.args in
      let s = passed_on laws t o r p h (jump_frame op.args ∷ []) vs (subst (AllByRecursion (IsThere t)) (sym all) right.args) (subst (AllByRecursion HasKind) (sym all) (passed_kinds op.args o.target ends)) (ap (values_of r) all ∙ e) in
      subst (λ z. SameTurn t new (recorded_part z t op r vs) (drive_to (opt_step t) (opt.Jump o.to (resume_args (passed_in o op.args)) ∷ []) p)) (sym is)
      (subst (λ z. SameTurn t new (Off (Jumps vs r.world)) (then_turn (opt_leave Jumps p z) (drive_to (opt_step t) []))) (sym s.1) (s.2, refl))

  pub body_turns : part_of op.code ≡ part.Jump → SameTurn t (with_body o (passed_in o op.args)) (recorded_step t op r) (drive_to (opt_step t) (opt.Jump o.to (resume_args (passed_in o op.args)) ∷ []) p)
  body_turns is = body_valued is (values_of r op.args) refl

  finish_valued : part_of op.code ≡ part.Finish → (x : Option (List Value)) → values_of r op.args ≡ x → SameTurn t (with_finish o (slice_get (args_of o op.args) 0)) (recorded_with t op r x) (drive_to (opt_step t) (opt.Finish (slice_get (args_of o op.args) 0) ∷ []) p)
  finish_valued is None e = wrong_here laws t o (with_finish o (slice_get (args_of o op.args) 0)) r p (opt.Finish (slice_get (args_of o op.args) 0) ∷ []) h
  finish_valued is (Some vs) e =
      let s = args_stand t o r p h op.args vs right.args e in
      let new : Pass = with_finish o (slice_get (args_of o op.args) 0) in
      let ends : EndsRightly part.Finish o.target op.args = subst (λ z. EndsRightly z o.target op.args) is right.ends in
      let long : length (args_of o op.args) ≡ length op.args = long_map (meant o.names o.forward) op.args in
      let few : length s.0 ≤ length (args_of o op.args) = values_few (value_in p.boxes) (args_of o op.args) s.0 s.1 in
      let whole : finished (slice_get (args_of o op.args) 0) ≡ args_of o op.args = finished_first (args_of o op.args) (omega (arith, ends, long)) in
      subst (λ z. SameTurn t new (recorded_part z t op r vs) (drive_to (opt_step t) (opt.Finish (slice_get (args_of o op.args) 0) ∷ []) p)) (sym is)
      (subst (λ z. SameTurn t new (Off (Finishes vs r.world)) (then_turn (opt_leave Finishes p z) (drive_to (opt_step t) []))) (sym (ap (opt_values p) whole ∙ s.1))
      (finish_admits s.0 vs s.2 (omega (arith, ends, long, few)), tt))

  pub finish_turns : part_of op.code ≡ part.Finish → SameTurn t (with_finish o (slice_get (args_of o op.args) 0)) (recorded_step t op r) (drive_to (opt_step t) (opt.Finish (slice_get (args_of o op.args) 0) ∷ []) p)
  finish_turns is = finish_valued is (values_of r op.args) refl
