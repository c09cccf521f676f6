-- Operations of lawful sets, as the pass asks of them.
use Rattle.std.proofs.Common.{◌≡◌, ℕ, zero, suc, ◌+◌, ◌<◌, Bool, true, false, cond, List, [], ◌∷◌, ◌++◌, Option, Some, None, length, map, take, slice_get, refl, sym, ap, ◌∙◌, subst, arith}
use Rattle.std.specs.Prelude.{IsSome, is_some}
use Rattle.std.specs.Option.{option_map, IsSomeAnd}
use Rattle.std.specs.List.{All, AllByRecursion, Contains}
use Rattle.std.proofs.lemmas.List.Elements.{recursion_from_All}
use Rattle.trace_ops.specs.declared.code.OpCode.{OpCode}
use Rattle.trace_ops.specs.declared.code.OpCode.TheVariants as code
use Rattle.trace_ops.specs.declared.trace.Kind.{Kind}
use Rattle.trace_ops.specs.declared.trace.Kind.TheVariants as kind
use Rattle.trace_ops.specs.declared.trace.BoxId.{BoxId}
use Rattle.trace_ops.specs.declared.trace.Arg.{Arg}
use Rattle.trace_ops.specs.declared.trace.Arg.TheVariants as arg
use Rattle.trace_ops.specs.declared.trace.Descr.{Descr}
use Rattle.trace_ops.specs.declared.trace.Descr.TheVariants as descr
use Rattle.trace_ops.specs.declared.trace.Frame.{Frame}
use Rattle.trace_ops.specs.declared.trace.Op.{Op}
use Rattle.trace_ops.specs.declared.trace.Trace.{Trace}
use Rattle.trace_ops.specs.declared.trace.TraceSet.{TraceSet}
use Rattle.trace_ops.specs.declared.table.Table.{Table}
use Rattle.trace_ops.specs.declared.facts.Want.{Want}
use Rattle.trace_ops.specs.declared.facts.Want.TheVariants as want
use Rattle.trace_ops.specs.declared.facts.Takes.{Takes}
use Rattle.trace_ops.specs.declared.facts.Takes.TheVariants as takes
use Rattle.trace_ops.specs.declared.facts.Cites.{Cites}
use Rattle.trace_ops.specs.declared.facts.Cites.TheVariants as cites
use Rattle.trace_ops.specs.declared.piece.Entry.{Entry}
use Rattle.trace_ops.specs.Facts.{takes_of, cites_of}
use Rattle.trace_ops.specs.Classes.{is_overflowing, reads_overflow}
use Rattle.trace_ops.specs.Fits.{kind_stored, IsOfKind, IsWanted, IsAsked, FitArgs, FitsDescr}
use Rattle.trace_ops.specs.InRange.{IsInRange, NamesOperation}
use Rattle.trace_ops.specs.Kinds.{kind_of_arg, kind_of_val, kind_of_field, kind_of_item, NamesArg}
use Rattle.trace_ops.specs.Lawful.{IsLawful}
use Rattle.trace_ops.specs.Rules.{stored_kind, IsStored, Suits, AreTaken, known_before, boxes_in, tests_overflow_at, sets_overflow_at, FollowsOverflow, IsBesideItsGuard}
use Rattle.trace_ops.specs.WellFormed.{IsWellFormed}
use Rattle.trace_meaning.specs.Recorded.{inputs_of, ops_of, ops_at, slots_of}
use Rattle.lists.specs.Has.{Has}
use Rattle.lists.proofs.Eaches.{each_weaker, each_append}
use Rattle.lists.proofs.Options.{some_same, none_some}
use Rattle.opt_pass.specs.Rising.{sets_behind}
use Rattle.opt_pass.specs.Forming.{IsRuled}
use Rattle.opt_pass.specs.Building.{AreRuled}
use Rattle.opt_pass.proofs.Snapping.{has_contained}
use Rattle.opt_pass.proofs.Rising.{behind_push}

-- What is taken fits, where the descr is what is cited

-- what is stored is cited
abbrev wants_stored : Want → Bool
wants_stored want.Stored = true
wants_stored w = false

abbrev cites_spot : Cites → Bool
cites_spot (cites.Field k) = true
cites_spot (cites.Array k) = true
cites_spot c = false

abbrev cites_call : Cites → Bool
cites_call (cites.Call k) = true
cites_call c = false

abbrev stores : Takes → Bool
stores (takes.One w) = wants_stored w
stores (takes.Two w v) = cond (wants_stored w) true (wants_stored v)
stores (takes.Three w v u) = cond (wants_stored w) true (cond (wants_stored v) true (wants_stored u))
stores w = false

abbrev calls : Takes → Bool
calls takes.Called = true
calls w = false

stored_cites : (operation : OpCode) → stores (takes_of operation) ≡ true → cites_spot (cites_of operation) ≡ true
stored_cites code.SetfieldGc e = refl
stored_cites operation e = cc

called_cites : (operation : OpCode) → calls (takes_of operation) ≡ true → cites_call (cites_of operation) ≡ true
called_cites code.CallI e = refl
called_cites operation e = cc

asked_some : (k have : Option Kind) → IsAsked k have → IsSome have
asked_some None have h = h
asked_some (Some k) have h = ap is_some h

stored_is : (have : Option Kind) (a : Arg) → IsSome have → IsStored have a → IsOfKind have a
stored_is (Some k) a s h = h
stored_is None a s h = cc

false_true : false ≡ true → ⊥
false_true e = cc

module _ (t : Table) where
  stored_fits : (c : Cites) (d : Descr) (a : Arg) → FitsDescr t c d → cites_spot c ≡ true → IsStored (stored_kind t c d) a → IsOfKind (kind_stored t d) a
  stored_fits (cites.Field k) (descr.Field n) a f s h = stored_is (kind_of_field t n) a (asked_some k (kind_of_field t n) f) h
  stored_fits (cites.Field k) d a f s h = absurd f
  stored_fits (cites.Array k) (descr.Array n) a f s h = stored_is (kind_of_item t n) a (asked_some k (kind_of_item t n) f) h
  stored_fits (cites.Array k) d a f s h = absurd f
  stored_fits cites.Nothing d a f s h = absurd (false_true s)
  stored_fits cites.Anything d a f s h = absurd (false_true s)
  stored_fits (cites.Size v) d a f s h = absurd (false_true s)
  stored_fits (cites.Call k) d a f s h = absurd (false_true s)
  stored_fits cites.Target d a f s h = absurd (false_true s)

  suits : (c : Cites) (d : Descr) (w : Want) (a : Arg) → FitsDescr t c d → (wants_stored w ≡ true → cites_spot c ≡ true) → Suits t c d w a → IsWanted t d w a
  suits c d want.Int a f s h = h
  suits c d want.Ref a f s h = h
  suits c d want.Class a f s h = h
  suits c d want.Stored a f s h = stored_fits c d a f (s refl) h

  called : (c : Cites) (d : Descr) (args : List Arg) → FitsDescr t c d → cites_call c ≡ true → AllByRecursion (NamesArg t) args → AreTaken t c d takes.Called args → FitArgs t d takes.Called args
  called (cites.Call k) (descr.Call n) (arg.Func f ∷ rest) q e m h = (m.0, h)
  called (cites.Call k) (descr.Call n) args q e m h = absurd h
  called (cites.Call k) d args q e m h = absurd q
  called cites.Nothing d args q e m h = absurd (false_true e)
  called cites.Anything d args q e m h = absurd (false_true e)
  called (cites.Size v) d args q e m h = absurd (false_true e)
  called (cites.Field k) d args q e m h = absurd (false_true e)
  called (cites.Array k) d args q e m h = absurd (false_true e)
  called cites.Target d args q e m h = absurd (false_true e)

  -- one of the wants is of what is stored
  first_too : (p q : Bool) → p ≡ true → cond p true q ≡ true
  first_too p q e = ap (λ z. cond z true q) e

  later_too : (p q : Bool) → q ≡ true → cond p true q ≡ true
  later_too true q e = refl
  later_too false q e = e

  pub fits_taken : (c : Cites) (d : Descr) (w : Takes) (args : List Arg) → FitsDescr t c d → (stores w ≡ true → cites_spot c ≡ true) → (calls w ≡ true → cites_call c ≡ true) → AllByRecursion (NamesArg t) args → AreTaken t c d w args → FitArgs t d w args
  fits_taken c d takes.Nothing [] f s k m h = tt
  fits_taken c d (takes.One w) (a ∷ []) f s k m h = suits c d w a f s h
  fits_taken c d (takes.Two w v) (a ∷ b ∷ []) f s k m h = (suits c d w a f (λ e. s (first_too (wants_stored w) (wants_stored v) e)) h.0, suits c d v b f (λ e. s (later_too (wants_stored w) (wants_stored v) e)) h.1)
  fits_taken c d (takes.Three w v u) (a ∷ b ∷ e ∷ []) f s k m h = (
    suits c d w a f (λ q. s (first_too (wants_stored w) (cond (wants_stored v) true (wants_stored u)) q)) h.0,
    suits c d v b f (λ q. s (later_too (wants_stored w) (cond (wants_stored v) true (wants_stored u)) (first_too (wants_stored v) (wants_stored u) q))) h.1,
    suits c d u e f (λ q. s (later_too (wants_stored w) (cond (wants_stored v) true (wants_stored u)) (later_too (wants_stored v) (wants_stored u) q))) h.2,
  )
  fits_taken c d takes.Compared (a ∷ b ∷ []) f s k m h = h
  fits_taken c d takes.Called args f s k m h = called c d args f (k refl) m h
  fits_taken c d takes.Finished [] f s k m h = tt
  fits_taken c d takes.Finished (a ∷ []) f s k m h = h
  fits_taken c d takes.Passed args f s k m h = tt
  fits_taken _ _ _ _ f s k m h = absurd h

-- A lawful set

each_all : {X : Type 0} (P : X → Type 0) (xs : List X) → All P xs → AllByRecursion P xs
each_all P xs h = recursion_from_All P xs h

by_get : {X : Type 0} (P : X → Type 0) (xs : List X) → ((k : ℕ) (x : X) → slice_get xs k ≡ Some x → P x) → AllByRecursion P xs
by_get P [] h = tt
by_get P (x ∷ xs) h = (h 0 x refl, by_get P xs (λ k y e. h (suc k) y e))

get_all : {X : Type 0} (P : X → Type 0) (xs : List X) → AllByRecursion P xs → (k : ℕ) (x : X) → slice_get xs k ≡ Some x → P x
get_all P [] h k x e = absurd (none_some e)
get_all P (y ∷ xs) h zero x e = subst P (some_same e) h.0
get_all P (y ∷ xs) h (suc k) x e = get_all P xs h.1 k x e

slots_named : (t : Table) (frames : List Frame) → AllByRecursion (λ (f : Frame). All (NamesArg t) f.slots) frames → AllByRecursion (NamesArg t) (slots_of frames)
slots_named t [] h = tt
slots_named t (f ∷ frames) h = each_append (NamesArg t) f.slots (slots_of frames) (each_all (NamesArg t) f.slots h.0) (slots_named t frames h.1)

take_next : {X : Type 0} (xs : List X) (k : ℕ) (x : X) → slice_get xs k ≡ Some x → take (suc k) xs ≡ take k xs ++ x ∷ []
take_next [] k x e = absurd (none_some e)
take_next (y ∷ xs) zero x e = ap (λ z. z ∷ []) (some_same e)
take_next (y ∷ xs) (suc k) x e = ap (λ z. y ∷ z) (take_next xs k x e)

both_ways : (p q : Bool) → (p ≡ true → q ≡ true) → (q ≡ true → p ≡ true) → p ≡ q
both_ways true true f g = refl
both_ways false false f g = refl
both_ways true false f g = absurd (false_true (f refl))
both_ways false true f g = absurd (false_true (g refl))

module _ (set : TraceSet) (ranged : IsInRange set) (formed : IsWellFormed set) (p : ℕ) where
  module _ (tr : Trace) (e : slice_get set.traces p ≡ Some tr) where
    ruled_at : (k : ℕ) (op : Op) → slice_get tr.ops k ≡ Some op → IsRuled set.table op
    ruled_at k op at =
        let named : NamesOperation set.table op = get_all (NamesOperation set.table) tr.ops (each_all (NamesOperation set.table) tr.ops (get_all (λ (x : Trace). All (NamesOperation set.table) x.ops) set.traces (each_all (λ (x : Trace). All (NamesOperation set.table) x.ops) set.traces ranged.operations_name_rows) p tr e)) k op at in
        let args : AllByRecursion (NamesArg set.table) op.args = each_all (NamesArg set.table) op.args named.0 in
        record {
          fits = fits_taken set.table (cites_of op.code) op.descr (takes_of op.code) op.args (formed.descrs_fit p tr e k op at) (stored_cites op.code) (called_cites op.code) args (formed.arguments_fit p tr e k op at);
          gives = formed.results_fit p tr e k op at;
          cites = formed.descrs_fit p tr e k op at;
          args = args;
          descr = named.1;
          slots = slots_named set.table op.snapshot (each_all (λ (f : Frame). All (NamesArg set.table) f.slots) op.snapshot named.2);
          frames = formed.guards_have_frames p tr e k op at;
        }

    tested_at : (k : ℕ) (op : Op) → slice_get tr.ops k ≡ Some op → reads_overflow op.code ≡ sets_behind (take k tr.ops)
    tested_at k op at = by k (formed.overflow_is_guarded p tr e k op at).1 at
      where
        by : (k : ℕ) → (reads_overflow op.code ≡ true → FollowsOverflow tr.ops k) → slice_get tr.ops k ≡ Some op → reads_overflow op.code ≡ sets_behind (take k tr.ops)
        by zero f at = both_ways (reads_overflow op.code) false (λ q. absurd (f q)) (λ q. absurd (false_true q))
        by (suc j) f at = before (slice_get tr.ops j) refl
          where
            before : (x : Option Op) → slice_get tr.ops j ≡ x → reads_overflow op.code ≡ sets_behind (take (suc j) tr.ops)
            before None w = absurd (gone tr.ops j w at)
              where
                gone : (xs : List Op) (j : ℕ) → slice_get xs j ≡ None → slice_get xs (suc j) ≡ Some op → ⊥
                gone [] j w at = none_some at
                gone (y ∷ xs) zero w at = none_some (sym w)
                gone (y ∷ xs) (suc j) w at = gone xs j w at
            before (Some y) w =
                let one : suc j ≡ j + 1 = omega arith in
                let next : tests_overflow_at tr.ops (j + 1) ≡ Some (reads_overflow op.code) = ap (tests_overflow_at tr.ops) (sym one) ∙ ap (option_map (λ (z : Op). reads_overflow z.code)) at in
                let last : sets_behind (take (suc j) tr.ops) ≡ is_overflowing y.code = ap sets_behind (take_next tr.ops j y w) ∙ behind_push (take j tr.ops) y in
                both_ways (reads_overflow op.code) (is_overflowing y.code)
                (λ q. some_same (sym (ap (option_map (λ (z : Op). is_overflowing z.code)) w) ∙ f q))
                (λ q. some_same (sym next ∙ (formed.overflow_is_guarded p tr e j y w).0 q))
                ∙ sym last

    scoped_at : (k : ℕ) (op : Op) → slice_get tr.ops k ≡ Some op → AllByRecursion (Has (known_before tr k)) (boxes_in op)
    scoped_at k op at = each_weaker (Contains (known_before tr k)) (Has (known_before tr k)) (λ b h. has_contained (known_before tr k) b h) (boxes_in op) (each_all (Contains (known_before tr k)) (boxes_in op) (formed.boxes_known p tr e k op at))

  pub all_ruled : (entry : Entry) → IsLawful set entry → map kind_of_val entry.values ≡ map (λ (b : BoxId). Some b.kind) (inputs_of (slice_get set.traces p)) → AreRuled set (inputs_of (slice_get set.traces p)) entry (ops_at set p)
  all_ruled entry lawful values = by (slice_get set.traces p) refl values
    where
      by : (x : Option Trace) → slice_get set.traces p ≡ x → map kind_of_val entry.values ≡ map (λ (b : BoxId). Some b.kind) (inputs_of x) → AreRuled set (inputs_of x) entry (ops_of x)
      by None e v = record {
        table = ranged.table;
        entry = lawful;
        values = v;
        ruled = tt;
        scoped = λ k op at. absurd (none_some at);
        tested = λ k op at. absurd (none_some at);
      }
      by (Some tr) e v = record {
        table = ranged.table;
        entry = lawful;
        values = v;
        ruled = by_get (IsRuled set.table) tr.ops (ruled_at tr e);
        scoped = scoped_at tr e;
        tested = tested_at tr e;
      }
