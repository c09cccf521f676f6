-- Several events of one activation of a session.
use Rattle.std.proofs.Common.{◌≡◌, ◌≢◌, ◌⊎◌, inl, inr, ℕ, zero, suc, ◌+◌, ◌-◌, ◌*◌, ◌<◌, ◌≤◌, ◌^◌, List, length, Option, Some, None, refl, ap, sym, ◌∙◌, subst, arith}
use Rattle.std.specs.Prelude.{slice_get, slice_set, slice_index_or}
use Rattle.guard_exit.specs.declared.row.ExitRow.{ExitRow}
use Rattle.opt_meaning.specs.Pieces.{all_pieces}
use Rattle.image_runs.specs.Printed.{Printed, code_at, rows_at}
use Rattle.image_runs.specs.Session.{Host, End, Activation, Session, Event, SessionRun, Step}
use Rattle.image_runs.specs.Session.{Done as NoStep, Then as OneThen}
use Rattle.session_host.specs.Hosting.{host_of}
use Rattle.run_session.specs.declared.now.Now.{Now}
use Rattle.run_session.specs.declared.now.Now.TheVariants as now
use Rattle.run_session.specs.Calls.{Events, Done, Then, StepsOnce, OthersStay, GivenStays, IsNow, MakesInstruction, MakesAtMost, MayMake, HasEnded, RunsUpTo}
use Rattle.run_session.specs.Sessions.{Active, Sessioned, Tells, StandsAs, IsSession, host_in}
use Rattle.run_session.specs.Turning.{MakesOne, KeepsGiven}
use Rattle.lists.proofs.Zips.{zip_first}
use Rattle.run_session.proofs.Lists.{get_some}

-- one event more
pub events_more : (h : Host) (im : Printed) (i n : ℕ) (s t : Session) (a b : Activation) → Events h im i n s t → slice_get t.activations i ≡ Some a → Event h (code_at im t.parts) (rows_at im t.parts) a b
    → Events h im i (suc n) s (record t { activations = slice_set t.activations i b })
events_more h im i _ s _ a b (Done _) at e = Then zero s (record s { activations = slice_set s.activations i b }) a b at e (Done (record s { activations = slice_set s.activations i b }))
events_more h im i _ s t a b (Then n _ _ c d at e more) at2 e2 = Then (suc n) s (record t { activations = slice_set t.activations i b }) c d at e (events_more h im i n (record s { activations = slice_set s.activations i d }) t a b more at2 e2)

-- they are a run of the session
events_run : (h : Host) (im : Printed) (i n : ℕ) (s t : Session) → Events h im i n s t → SessionRun h im s t
events_run h im i _ s _ (Done _) = NoStep s
events_run h im i _ s t (Then n _ _ a b at e more) =
    let u = record s { activations = slice_set s.activations i b } in
    OneThen s u t (Step i a b at e) (events_run h im i n u t more)

-- so many instructions more were made
abbrev pub MadeAll : ℕ → Sessioned → Sessioned → ℕ → Type 0
MadeAll i old new n = (x y : Active) → slice_get old.activations i ≡ Some x → slice_get new.activations i ≡ Some y → y.machine.instructions ≡ x.machine.instructions + n

-- so many events lead from one session to another, and so many more instructions may be made
pub record Ran (i : ℕ) (old now : Sessioned) (n limit : ℕ) : Type 0 where
  pub events : (im : Printed) (s : Session) → IsSession old im s → (t : Session) × Events (host_in old) im i n s t × IsSession now im t
  pub others : OthersStay i old now
  pub may : MayMake i (limit - n) now
  pub made : MakesAtMost i n old now
  pub given : GivenStays i old now

some_same : {X : Type 0} (x y : X) → Some x ≡ Some y → x ≡ y
some_same x y e = cc

pub ran_none : (i limit : ℕ) (old : Sessioned) → MayMake i limit old → Ran i old old 0 limit
ran_none i limit old may = record {
  events = λ im s h. (s, Done s, h);
  others = record { set = refl; optimised = refl; image = refl; arena_bytes = refl; count = refl; others = λ j e. refl };
  may = λ a at. (let h = may a at in omega (arith, h));
  made = λ x y p q. (let e : y.machine.instructions ≡ x.machine.instructions = ap (λ (z : Active). z.machine.instructions) (some_same y x (sym q ∙ p)) in omega (arith, e));
  given = λ x y p q. subst (KeepsGiven x) (some_same x y (sym p ∙ q)) (record { trace = refl; inputs = refl; answers = refl; cuts = refl });
}

pub made_none : (i : ℕ) (old : Sessioned) → MadeAll i old old 0
made_none i old x y p q = (let e : y.machine.instructions ≡ x.machine.instructions = ap (λ (z : Active). z.machine.instructions) (some_same y x (sym q ∙ p)) in omega (arith, e))

pub made_more : (i n : ℕ) (old cur next : Sessioned) (x : Now) → i < length cur.activations → MadeAll i old cur n → MakesInstruction i cur next x → x ≡ now.Going → MadeAll i old next (n + 1)
made_more i n old cur next x within all made going p q at bt =
    let a = slice_index_or cur.activations i q in
    let here = get_some cur.activations i q within in
    let before : a.machine.instructions ≡ p.machine.instructions + n = all p a at here in
    let one : q.machine.instructions ≡ a.machine.instructions + 1 = (made a q here bt).going going in
    omega (arith, before, one)

others_then : (i : ℕ) (a b c : Sessioned) → OthersStay i a b → OthersStay i b c → OthersStay i a c
others_then i a b c x y = record {
  set = y.set ∙ x.set;
  optimised = y.optimised ∙ x.optimised;
  image = y.image ∙ x.image;
  arena_bytes = y.arena_bytes ∙ x.arena_bytes;
  count = y.count ∙ x.count;
  others = λ j e. y.others j e ∙ x.others j e;
}

same_host : (i : ℕ) (a b : Sessioned) → OthersStay i a b → host_in b ≡ host_in a
same_host i a b x =
    ap (λ s. host_of s (all_pieces b.optimised.traces) b.arena_bytes) x.set
    ∙ ap (λ o. host_of a.set (all_pieces o.traces) b.arena_bytes) x.optimised
    ∙ ap (λ n. host_of a.set (all_pieces a.optimised.traces) n) x.arena_bytes

given_then : (a b c : Active) → KeepsGiven a b → KeepsGiven b c → KeepsGiven a c
given_then a b c x y = record { trace = y.trace ∙ x.trace; inputs = y.inputs ∙ x.inputs; answers = y.answers ∙ x.answers; cuts = y.cuts ∙ x.cuts }

pub ran_more : (i n limit : ℕ) (old cur next : Sessioned) (x : Now) → i < length cur.activations → n < limit → Ran i old cur n limit → StepsOnce i cur next → OthersStay i cur next → MakesInstruction i cur next x → GivenStays i cur next → Ran i old next (n + 1) limit
ran_more i n limit old cur next x within lt r once others made given = record {
  events = more;
  others = others_then i old cur next r.others others;
  may = λ b at. may b at;
  made = upto;
  given = same;
}
  where
    one : n + 1 ≡ suc n
    one = omega arith

    more : (im : Printed) (s : Session) → IsSession old im s → (t : Session) × Events (host_in old) im i (n + 1) s t × IsSession next im t
    more im s h =
        let so = r.events im s h in
        let step = once im so.0 so.2 in
        let e = subst (λ (g : Host). Event g (code_at im so.0.parts) (rows_at im so.0.parts) step.0 step.1) (same_host i old cur r.others) step.3 in
        (record so.0 { activations = slice_set so.0.activations i step.1 }, subst (λ k. Events (host_in old) im i k s (record so.0 { activations = slice_set so.0.activations i step.1 })) (sym one) (events_more (host_in old) im i n s so.0 step.0 step.1 so.1 step.2 e), step.4)

    may : (b : Active) → slice_get next.activations i ≡ Some b → b.machine.instructions + (limit - (n + 1)) ≤ 2 ^ 63
    may b at =
        let a = slice_index_or cur.activations i b in
        let here = get_some cur.activations i b within in
        let before : a.machine.instructions + (limit - n) ≤ 2 ^ 63 = r.may a here in
        let most : b.machine.instructions ≤ a.machine.instructions + 1 = (made a b here at).most in
        omega (arith, before, most, lt)

    same : GivenStays i old next
    same x b p at =
        let a = slice_index_or cur.activations i b in
        let here = get_some cur.activations i b within in
        given_then x a b (r.given x a p here) (given a b here at)

    upto : MakesAtMost i (n + 1) old next
    upto x b p at =
        let a = slice_index_or cur.activations i b in
        let here = get_some cur.activations i b within in
        let before : a.machine.instructions ≤ x.machine.instructions + n = r.made x a p here in
        let most : b.machine.instructions ≤ a.machine.instructions + 1 = (made a b here at).most in
        omega (arith, before, most)

-- ---- the ends

pub made_within : (i n limit : ℕ) (old new : Sessioned) → n ≤ limit → Ran i old new n limit → MakesAtMost i limit old new
made_within i n limit old new le r x y p q = (let h : y.machine.instructions ≤ x.machine.instructions + n = r.made x y p q in omega (arith, h, le))

-- an activation that doesn't go on has ended in the run
has_ended : (i : ℕ) (s : Sessioned) (im : Printed) (t : Session) (x : Now) → IsSession s im t → IsNow i s x → x ≢ now.Going → HasEnded i t
has_ended i s im t x h n other =
    let beside = zip_first (Tells s.set.table) s.activations t.activations h.each i n.0 n.1 in
    by beside.0 beside.1 beside.0.end refl beside.2.end
  where
    by : (b : Activation) → slice_get t.activations i ≡ Some b → (e : Option End) → b.end ≡ e → StandsAs s.set.table n.0 e → HasEnded i t
    by b at None is stands = absurd (other (sym n.2 ∙ stands))
    by b at (Some e) is stands = record { it = b; there = at; end = e; ended = is }

pub runs_ended : (i n limit : ℕ) (old new : Sessioned) (x : Now) → n < limit → Ran i old new (n + 1) limit → IsNow i new x → x ≢ now.Going → RunsUpTo i limit old new x
runs_ended i n limit old new x lt r is ended im s h =
    let so = r.events im s h in
    (n + 1, so.0, so.1, so.2, (omega (arith, lt)), inl ended, inl (has_ended i new im so.0 x so.2 is ended), events_run (host_in old) im i (n + 1) s so.0 so.1)

pub runs_on : (i n limit : ℕ) (old new : Sessioned) (x : Now) → n ≡ limit → Ran i old new n limit → RunsUpTo i limit old new x
runs_on i n limit old new x e r im s h =
    let so = r.events im s h in
    (n, so.0, so.1, so.2, (omega (arith, e)), inr e, inr e, events_run (host_in old) im i n s so.0 so.1)
