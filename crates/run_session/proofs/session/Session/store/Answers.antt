use Rattle.std.proofs.Common.{◌≡◌, ◌∙◌, ap}
use Rattle.trace_ops.specs.declared.trace.TraceSet.{TraceSet}
use Rattle.trace_meaning.specs.declared.value.Store.{Store}
use Rattle.target_base.specs.Arena.{Arena}
use Rattle.arena_objects.specs.ReadBack.{objects_in}
use Rattle.run_session.specs.Sessions.{Sessioned}
use Rattle.run_session.specs.Viewed.{seen_of}
use Rattle.run_session.proofs.Begun.{if_ok}
use Rattle.run_session.proofs.Stepping.{shown_at}
use Rattle.run_session.proofs.session.Session.store.Goals as goal

pub returns : goal.returns
returns c =
    let k = c.index.result.now in
    let set = c.set.ensures.value ∙ c.checked.ensures ∙ ap (λ (s : Sessioned). s.set) c.self.view_is in (
      seen_of k,
      shown_at c.args.self.now c.self.inside.activations.items c.args.a k (ap (λ (s : Sessioned). s.activations) c.self.view_is) c.requires c.index.ensures,
      if_ok (λ (s : Store). s.objects ≡ objects_in c.set.result.now.table c.arena.result.now) (λ (s : Store). s.objects ≡ objects_in c.args.self.now.set.table k.machine.arena) c.read_store.result c.read_store.ensures.objects
          (λ s e. e ∙ ap (λ (x : TraceSet). objects_in x.table c.arena.result.now) set ∙ ap (λ (x : Arena). objects_in c.args.self.now.set.table x) c.arena.ensures),
    )
