-- An activation that moves on, or has ended before.
use Rattle.std.proofs.Common.{◌≡◌, ◌≢◌, ◌⊎◌, inl, inr, true, false, ℕ, ◌+◌, ◌*◌, ◌<◌, ◌≤◌, List, [], ◌∷◌, ◌++◌, Option, Some, None, length, refl, ap, sym, ◌∙◌, subst, arith}
use Rattle.std.specs.Prelude.{slice_get}
use Rattle.std.specs.List.{All}
use Rattle.std.proofs.lemmas.Bool.Decides.{eqb_tells}
use Rattle.std.proofs.Math.Dec.{eqb}
use Rattle.lists.proofs.Alls.{all_at, all_from, all_weaker}
use Rattle.lists.proofs.Options.{some_same}
use Rattle.lists.proofs.Zips.{zip_first}
use Rattle.trace_ops.specs.declared.trace.TraceSet.{TraceSet}
use Rattle.trace_ops.specs.declared.table.Table.{Table}
use Rattle.trace_meaning.specs.declared.value.Store.{Store}
use Rattle.trace_meaning.specs.declared.state.RecState.{RecState}
use Rattle.trace_meaning.specs.declared.state.RecState.TheVariants as state
use Rattle.opt_meaning.specs.Pieces.{all_pieces}
use Rattle.seen_text.specs.Lines.{ended_text}
use Rattle.session_host.specs.Hosting.{host_of}
use Rattle.image_runs.specs.Printed.{Printed, code_at}
use Rattle.image_runs.specs.Session.{End, Shows, Full, Waiting, Misfitting, Lost, Activation, Session, SessionRun}
use Rattle.run_session.specs.declared.now.Now.{Now}
use Rattle.run_session.specs.declared.now.Now.TheVariants as now
use Rattle.run_session.specs.Calls.{Shows as Has, Events, IsNow, HasEnded, RunsUpTo, OthersStay, MakesAtMost}
use Rattle.run_session.specs.Sessions.{Active, Sessioned, Tells, StandsAs, IsShown, IsSession, host_in}
use Rattle.session_seen.specs.Shown.{activation_text}
use Rattle.session_seen.specs.Lines.{name_of, IsGoing, Acts, Rests, IsMoved}
use Rattle.session_seen.specs.Keeping.{kept_text, HaveMade, IsSameWhole, PutsMoves, most_of_line}
use Rattle.session_seen.proofs.Telling.{activation_text-kept}

-- ---- where it stands

shows_no_going : (t : Table) (a : Active) (s : RecState) (store : Store) → IsShown t a s store → a.now ≡ now.Going → ⊥
shows_no_going t a (state.Finished value) store h g = (let e : a.now ≡ now.Finished value = h.0 in cc)
shows_no_going t a (state.Exited p n frames) store h g = (let e : a.now ≡ now.Exited p n = h.0 in cc)
shows_no_going t a state.Going store h g = h
shows_no_going t a state.Waits store h g = h
shows_no_going t a (state.Misfit call) store h g = h
shows_no_going t a state.Wrong store h g = h

stands_going : (t : Table) (a : Active) (e : Option End) → StandsAs t a e → a.now ≡ now.Going → e ≡ None
stands_going t a None h g = refl
stands_going t a (Some (Shows s store)) h g = absurd (shows_no_going t a s store h g)
stands_going t a (Some (Full asked left)) h g = absurd (let e : a.now ≡ now.ArenaFull asked left = h in cc)
stands_going t a (Some Waiting) h g = absurd (let e : a.now ≡ now.Waits = h in cc)
stands_going t a (Some (Misfitting call)) h g = absurd (let e : a.now ≡ now.Misfit call = h in cc)
stands_going t a (Some (Lost at)) h g = absurd (let e : a.now ≡ now.Wrong at = h in cc)

stands_ended : (t : Table) (a : Active) (e : Option End) → StandsAs t a e → a.now ≢ now.Going → (x : End) × (e ≡ Some x)
stands_ended t a None h other = absurd (other h)
stands_ended t a (Some x) h other = (x, refl)

has_ended : (s : Sessioned) (im : Printed) (x : Session) → IsSession s im x → (i : ℕ) (n : Now) → IsNow i s n → n ≢ now.Going → HasEnded i x
has_ended s im x h i n is other =
    let b = zip_first (Tells s.set.table) s.activations x.activations h.each i is.0 is.1 in
    let e = stands_ended s.set.table is.0 b.0.end b.2.end (λ g. other (sym is.2 ∙ g)) in
    record { it = b.0; there = b.1; end = e.0; ended = e.1 }

goes_on : (s : Sessioned) (im : Printed) (x : Session) → IsSession s im x → (i : ℕ) (n : Now) → IsNow i s n → n ≡ now.Going → IsGoing i x
goes_on s im x h i n is going =
    let b = zip_first (Tells s.set.table) s.activations x.activations h.each i is.0 is.1 in
    record { it = b.0; there = b.1; goes = stands_going s.set.table is.0 b.0.end b.2.end (is.2 ∙ going) }

-- ---- what it has made

same_or_other : (i j : ℕ) → (i ≡ j) ⊎ (i ≢ j)
same_or_other i j = told (eqb_tells i j)
  where
    told : ((eqb i j ≡ true) × (i ≡ j)) ⊎ ((eqb i j ≡ false) × (i ≢ j)) → (i ≡ j) ⊎ (i ≢ j)
    told (inl z) = inl z.1
    told (inr z) = inr z.1

more : (x k m : ℕ) → x ≤ k → x ≤ k + m
more x k m h = omega (arith, h)

still_more : (x y k m n : ℕ) → x ≤ k → y ≤ x + m → m ≤ n → y ≤ k + n
still_more x y k m n h g l = omega (arith, h, g, l)

pub made_before : (s : Sessioned) (k m : ℕ) → HaveMade k s → HaveMade (k + m) s
made_before s k m h = all_weaker (λ (a : Active). a.machine.instructions ≤ k) (λ (a : Active). a.machine.instructions ≤ k + m) s.activations (λ a. more a.machine.instructions k m) h

-- one of them so many instructions more, and the others none
made_then : (i most : ℕ) (old new : Sessioned) → OthersStay i old new → MakesAtMost i most old new → (x : Active) → slice_get old.activations i ≡ Some x → (k m : ℕ) → most ≤ m → HaveMade k old → HaveMade (k + m) new
made_then i most old new others made x at k m few h =
    all_from (λ (a : Active). a.machine.instructions ≤ k + m) new.activations each
  where
    pick : (j : ℕ) (y : Active) → slice_get new.activations j ≡ Some y → (j ≡ i) ⊎ (j ≢ i) → y.machine.instructions ≤ k + m
    pick j y e (inl same) =
        still_more x.machine.instructions y.machine.instructions k most m (all_at (λ (a : Active). a.machine.instructions ≤ k) old.activations i x h at)
        (made x y at (ap (slice_get new.activations) (sym same) ∙ e)) few
    pick j y e (inr other) = more y.machine.instructions k m (all_at (λ (a : Active). a.machine.instructions ≤ k) old.activations j y h (sym (others.others j other) ∙ e))

    each : (j : ℕ) (y : Active) → slice_get new.activations j ≡ Some y → y.machine.instructions ≤ k + m
    each j y e = pick j y e (same_or_other j i)

-- where it stands, told from the other side
pub told_now : (i : ℕ) (s : Sessioned) (n : Now) → Has i s (λ (x : Active). n ≡ x.now) → IsNow i s n
told_now i s n h = (h.0, h.1, sym h.2)

-- ---- moves

pub same_whole : (s : Sessioned) → IsSameWhole s s
same_whole s = record { set = refl; optimised = refl; image = refl; arena_bytes = refl }

others_whole : (i : ℕ) (old new : Sessioned) → OthersStay i old new → IsSameWhole old new
others_whole i old new h = record { set = h.set; optimised = h.optimised; image = h.image; arena_bytes = h.arena_bytes }

pub rests : (names : List (List ℕ)) (a most : ℕ) (s : Sessioned) (n : Now) (before after : List ℕ) → IsNow a s n → n ≢ now.Going → after ≡ before ++ ended_text (name_of names a) → PutsMoves names a most s s before after
rests names a most s n before after is other put = record {
  whole = same_whole s;
  starts = refl;
  made = λ k h. made_before s k most_of_line h;
  writes = λ im x h. (x, ended_text (name_of names a), inr (record { ended = has_ended s im x h a n is other; same = refl; shown = refl }), h, put);
}

pub acts : (names : List (List ℕ)) (a most : ℕ) (old new : Sessioned) (n r : Now) (before after : List ℕ)
    → IsNow a old n → n ≡ now.Going → most ≤ most_of_line → RunsUpTo a most old new r → OthersStay a old new → MakesAtMost a most old new
    → Has a new (λ (x : Active). after ≡ before ++ kept_text new.set (name_of names a) x) → PutsMoves names a most old new before after
acts names a most old new n r before after is going few runs others made put = record {
  whole = others_whole a old new others;
  starts = others.count;
  made = λ k h. made_then a most old new others made is.0 is.1 k most_of_line few h;
  writes = λ im x h. told im x h (runs im x h);
}
  where
    told : (im : Printed) (x : Session) → IsSession old im x
        → (n : ℕ) × (t : Session) × Events (host_in old) im a n x t × IsSession new im t × (n ≤ most) × ((r ≢ now.Going) ⊎ (n ≡ most)) × (HasEnded a t ⊎ (n ≡ most)) × SessionRun (host_in old) im x t
        → (t : Session) × (text : List ℕ) × IsMoved (host_in old) old.set im names a most x t text × IsSession new im t × (after ≡ before ++ text)
    told im x h w =
        let t = w.1 in
        let b = zip_first (Tells new.set.table) new.activations t.activations w.3.each a put.0 put.1 in
        let text = activation_text old.set (name_of names a) b.0 in
        let same : kept_text new.set (name_of names a) put.0 ≡ text = sym (activation_text-kept new.set (name_of names a) put.0 b.0 b.2) ∙ ap (λ z. activation_text z (name_of names a) b.0) others.set in
        let acted : Acts (host_in old) old.set im names a most x t text = record {
          goes = goes_on old im x h a n is going;
          count = w.0;
          events = w.2;
          within = w.4;
          until = w.6;
          after = b.0;
          there = b.1;
          shown = refl;
        } in
        (t, text, inl acted, w.3, put.2 ∙ ap (λ z. before ++ z) same)
