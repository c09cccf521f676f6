-- An activation as a session keeps it shows what the activation of the run shows.
use Rattle.std.proofs.Common.{◌≡◌, ℕ, ◌+◌, ◌-◌, ◌*◌, ◌++◌, Bool, true, false, List, [], Option, Some, None, length, refl, ap, sym, ◌∙◌, subst, append_assoc}
use Rattle.std.specs.Prelude.{slice_get}
use Rattle.lists.proofs.Options.{some_same}
use Rattle.trace_ops.specs.declared.trace.TraceSet.{TraceSet}
use Rattle.trace_ops.specs.declared.table.Table.{Table}
use Rattle.trace_meaning.specs.declared.value.Store.{Store}
use Rattle.trace_meaning.specs.declared.value.Object.{Object}
use Rattle.trace_meaning.specs.declared.state.RecFrame.{RecFrame}
use Rattle.trace_meaning.specs.declared.state.RecState.{RecState}
use Rattle.trace_meaning.specs.declared.state.RecState.TheVariants as state
use Rattle.target_base.specs.Arena.{Arena}
use Rattle.arena_objects.specs.ReadBack.{objects_in}
use Rattle.arena_objects.specs.Starting.{first_words}
use Rattle.opt_meaning.specs.declared.costs.Counts.{Counts}
use Rattle.x64_machine.specs.State.{State}
use Rattle.image_runs.specs.Session.{End, Shows, Full, Waiting, Misfitting, Lost, Activation}
use Rattle.seen_text.specs.declared.seen.Seen.{Seen}
use Rattle.seen_text.specs.States.{shows_values, seen_text}
use Rattle.seen_text.specs.Counted.{counts_text}
use Rattle.run_session.specs.declared.now.Now.{Now}
use Rattle.run_session.specs.declared.now.Now.TheVariants as now
use Rattle.trace_meaning.specs.declared.call.CallEvent.{CallEvent}
use Rattle.run_session.specs.Sessions.{Active, Sessioned, Tells, HasExited, IsShown, StandsAs}
use Rattle.session_seen.specs.Keeping.{now_seen, costs_kept, kept_text, StoreServes}
use Rattle.run_session.specs.Calls.{Shows as Has, AreCounts}
use Rattle.seen_text.specs.Shown.{HiddenObjectsAreFree}
use Rattle.session_seen.specs.Shown.{state_seen, end_seen, frames_seen, objects_seen, costs_of, activation_text}

-- its parts
record SameParts (t : Table) (a : Active) (x : Activation) (e : Option End) : Type 0 where
  seen : end_seen e ≡ now_seen a.now
  frames : frames_seen e ≡ a.frames
  objects : objects_seen t x e ≡ objects_in t a.machine.arena

-- one that hasn't exited has no frames, and the arena of the run
module _ (t : Table) (a : Active) (x : Activation) (h : Tells t a x) where
  no_exit : (n : Now) → a.now ≡ n → ((p k : ℕ) → n ≡ now.Exited p k → ⊥) → HasExited a → ⊥
  no_exit n is other w = other w.0 w.1 (sym is ∙ w.2)

  same_objects : (n : Now) → a.now ≡ n → ((p k : ℕ) → n ≡ now.Exited p k → ⊥) → objects_in t x.machine.arena ≡ objects_in t a.machine.arena
  same_objects n is other = ap (objects_in t) (h.arena (no_exit n is other))

  none_rebuilt : (n : Now) → a.now ≡ n → ((p k : ℕ) → n ≡ now.Exited p k → ⊥) → [] ≡ a.frames
  none_rebuilt n is other = sym (h.frames (no_exit n is other))

  shown_parts : (s : RecState) (store : Store) → IsShown t a s store → SameParts t a x (Some (Shows s store))
  shown_parts (state.Finished value) store e = record { seen = ap now_seen (sym e.0); frames = none_rebuilt (now.Finished value) e.0 (λ p k w. cc); objects = e.1 }
  shown_parts (state.Exited p n frames) store e = record { seen = ap now_seen (sym e.0); frames = sym e.1; objects = e.2 }
  shown_parts state.Going store e = absurd e
  shown_parts state.Waits store e = absurd e
  shown_parts (state.Misfit call) store e = absurd e
  shown_parts state.Wrong store e = absurd e

  parts : (e : Option End) → StandsAs t a e → SameParts t a x e
  parts None s = record { seen = ap now_seen (sym s); frames = none_rebuilt now.Going s (λ p k w. cc); objects = same_objects now.Going s (λ p k w. cc) }
  parts (Some (Shows s store)) e = shown_parts s store e
  parts (Some (Full asked left)) s = record { seen = ap now_seen (sym s); frames = none_rebuilt (now.ArenaFull asked left) s (λ p k w. cc); objects = same_objects (now.ArenaFull asked left) s (λ p k w. cc) }
  parts (Some Waiting) s = record { seen = ap now_seen (sym s); frames = none_rebuilt now.Waits s (λ p k w. cc); objects = same_objects now.Waits s (λ p k w. cc) }
  parts (Some (Misfitting call)) s = record { seen = ap now_seen (sym s); frames = none_rebuilt (now.Misfit call) s (λ p k w. cc); objects = same_objects (now.Misfit call) s (λ p k w. cc) }
  parts (Some (Lost at)) s = record { seen = ap now_seen (sym s); frames = none_rebuilt (now.Wrong at) s (λ p k w. cc); objects = same_objects (now.Wrong at) s (λ p k w. cc) }

-- what it has cost
counted : ℕ → ℕ → ℕ → ℕ → Counts
counted i b l s = record { instructions = i; bytes = b; loads = l; stores = s }

same_costs : (t : Table) (a : Active) (x : Activation) → Tells t a x → costs_of t x ≡ costs_kept a
unfolding counted
same_costs t a x h =
    ap (λ n. counted n (x.machine.arena.taken - 8 * length (first_words t)) x.machine.loads x.machine.stores) (ap (λ (m : State). m.instructions) h.machine)
    ∙ ap (λ n. counted a.machine.instructions n x.machine.loads x.machine.stores) (sym h.bytes)
    ∙ ap (λ n. counted a.machine.instructions a.bytes n x.machine.stores) (ap (λ (m : State). m.loads) h.machine)
    ∙ ap (λ n. counted a.machine.instructions a.bytes a.machine.loads n) (ap (λ (m : State). m.stores) h.machine)

pub activation_text-kept : (set : TraceSet) (name : List ℕ) (a : Active) (x : Activation) → Tells set.table a x → activation_text set name x ≡ kept_text set name a
activation_text-kept set name a x h =
    let p = parts set.table a x h x.end h.end in
    ap (λ s. seen_text name set s (frames_seen x.end) x.calls.log (objects_seen set.table x x.end) ++ counts_text (costs_of set.table x)) p.seen
    ∙ ap (λ f. seen_text name set (now_seen a.now) f x.calls.log (objects_seen set.table x x.end) ++ counts_text (costs_of set.table x)) p.frames
    ∙ ap (λ l. seen_text name set (now_seen a.now) a.frames l (objects_seen set.table x x.end) ++ counts_text (costs_of set.table x)) h.log
    ∙ ap (λ o. seen_text name set (now_seen a.now) a.frames a.log o ++ counts_text (costs_of set.table x)) p.objects
    ∙ ap (λ c. seen_text name set (now_seen a.now) a.frames a.log (objects_in set.table a.machine.arena) ++ counts_text c) (same_costs set.table a x h)

-- what holds of the activation of a number holds of this one
is_of : (i : ℕ) (s : Sessioned) (P : Active → Type 0) (x : Active) → slice_get s.activations i ≡ Some x → Has i s P → P x
is_of i s P x at h = subst P (some_same (sym h.1 ∙ at)) h.2

-- the objects that are read are those of the arena, or don't count
same_seen : HiddenObjectsAreFree → (set : TraceSet) (name : List ℕ) (n : Now) (x : Active) (store : Store) (b : Bool) → shows_values (now_seen n) ≡ b → StoreServes set.table (now_seen n) x.machine.arena store
    → seen_text name set (now_seen n) x.frames x.log store.objects ≡ seen_text name set (now_seen n) x.frames x.log (objects_in set.table x.machine.arena)
same_seen hidden set name n x store true h serves = ap (seen_text name set (now_seen n) x.frames x.log) (serves h)
same_seen hidden set name n x store false h serves = hidden name set (now_seen n) x.frames x.log store.objects (objects_in set.table x.machine.arena) h

same_counts : (x : Active) (c : Counts) → AreCounts x c → c ≡ costs_kept x
unfolding counted
same_counts x c h =
    ap (λ n. counted n c.bytes c.loads c.stores) h.instructions ∙ ap (λ n. counted x.machine.instructions n c.loads c.stores) h.bytes
    ∙ ap (λ n. counted x.machine.instructions x.bytes n c.stores) h.loads ∙ ap (λ n. counted x.machine.instructions x.bytes x.machine.loads n) h.stores

-- what was shown of an activation, and then counted
pub put_kept : HiddenObjectsAreFree → (s : Sessioned) (set : TraceSet) (i : ℕ) (name : List ℕ) (n : Now) (seen : Seen) (store : Store) (frames : List RecFrame) (calls : List CallEvent) (c : Counts) (before mid after : List ℕ)
    → set ≡ s.set → Has i s (λ x. n ≡ x.now) → seen ≡ now_seen n → Has i s (λ x. StoreServes s.set.table seen x.machine.arena store) → Has i s (λ x. frames ≡ x.frames) → Has i s (λ x. calls ≡ x.log) → Has i s (λ x. AreCounts x c)
    → mid ≡ before ++ seen_text name set seen frames calls store.objects → after ≡ mid ++ counts_text c → Has i s (λ x. after ≡ before ++ kept_text s.set name x)
put_kept hidden s set i name n seen store frames calls c before mid after same is sees serves framed logged costs put counts =
    let x = is.0 in
    let at = is.1 in
    let of : now_seen n ≡ now_seen x.now = ap now_seen is.2 in
    let served : StoreServes s.set.table (now_seen n) x.machine.arena store = subst (λ z. StoreServes s.set.table z x.machine.arena store) sees (is_of i s _ x at serves) in
    let shown : seen_text name set seen frames calls store.objects ≡ seen_text name s.set (now_seen x.now) x.frames x.log (objects_in s.set.table x.machine.arena) =
    ap (λ z. seen_text name z seen frames calls store.objects) same ∙
    ap (λ z. seen_text name s.set z frames calls store.objects) sees
    ∙ ap (λ z. seen_text name s.set (now_seen n) z calls store.objects) (is_of i s _ x at framed)
    ∙ ap (λ z. seen_text name s.set (now_seen n) x.frames z store.objects) (is_of i s _ x at logged)
    ∙ same_seen hidden s.set name n x store (shows_values (now_seen n)) refl served
    ∙ ap (λ z. seen_text name s.set z x.frames x.log (objects_in s.set.table x.machine.arena)) of in
    let cost : counts_text c ≡ counts_text (costs_kept x) = ap counts_text (same_counts x c (is_of i s _ x at costs)) in (
      x,
      at,
      counts ∙ ap (λ z. z ++ counts_text c) put ∙ ap (λ z. (before ++ z) ++ counts_text c) shown ∙ ap (λ z. (before ++ seen_text name s.set (now_seen x.now) x.frames x.log (objects_in s.set.table x.machine.arena)) ++ z) cost
          ∙ append_assoc before _ _,
    )
