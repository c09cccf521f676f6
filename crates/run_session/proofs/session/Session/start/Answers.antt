use Rattle.std.proofs.Common.{◌≡◌, ◌∙◌, ◌<◌, ◌≤◌, List, ◌++◌, ◌∷◌, [], length, sym, ap, subst, arith}
use Rattle.std.specs.List.{All}
use Rattle.trace_ops.specs.declared.trace.TraceSet.{TraceSet}
use Rattle.trace_meaning.specs.declared.value.Value.{Value}
use Rattle.trace_meaning.specs.Starting.{Starts}
use Rattle.bridge_patch.specs.Image.{Imaged}
use Rattle.run_session.specs.declared.active.Active.{Active as Kept}
use Rattle.run_session.specs.Beginning.{Begins}
use Rattle.run_session.specs.Calls.{IsStart}
use Rattle.run_session.specs.Keeping.{IsKept}
use Rattle.run_session.specs.Sessions.{Sessioned}
use Rattle.run_session.proofs.Lists.{all_push}
use Rattle.run_session.proofs.Started.{start_is, length-push}
use Rattle.run_session.proofs.Stepping.{seen_session}
use Rattle.run_session.proofs.session.Session.start.Goals as goal

begins : (c : goal.After-push_reserved) → Begins c.self.inside.placed.set c.self.inside.placed.image c.self.inside.arena_bytes c.args.trace c.args.inputs.items c.args.answers.items c.in-Ok.active
begins c =
    let e = c.setting.ensures in
    let v = c.self.view_is in
    let set = e.set ∙ sym (ap (λ (s : Sessioned). s.set) v) in
    let image = e.image ∙ sym (ap (λ (s : Sessioned). s.image) v) in
    let bytes = e.arena_bytes ∙ sym (ap (λ (s : Sessioned). s.arena_bytes) v) in
    let k = c.in-Ok.active in
    let b0 = c.in-Ok.ensures in
    let b1 = subst (λ (x : TraceSet). Begins x c.setting.result.image.now c.setting.result.arena_bytes c.args.trace c.args.inputs.items c.args.answers.items k) set b0 in
    let b2 = subst (λ (x : Imaged). Begins c.self.inside.placed.set x c.setting.result.arena_bytes c.args.trace c.args.inputs.items c.args.answers.items k) image b1 in
    subst (λ n. Begins c.self.inside.placed.set c.self.inside.placed.image n c.args.trace c.args.inputs.items c.args.answers.items k) bytes b2

pub invariant_of-self : goal.invariant_of-self
invariant_of-self c =
    let i = c.self.invariant in
    let acts = c.self.inside.activations.items in
    let k = c.in-Ok.active in
    let P = IsKept c.self.inside.placed.set.table c.self.inside.placed.image.pieces in
    let items : c.push_reserved.new.self.items ≡ acts ++ k ∷ [] = c.push_reserved.ensures.items in
    record {
      host = i.host;
      places = i.places;
      served = i.served;
      size = i.size;
      few = (let e : c.len.result ≡ length acts = c.len.ensures ∙ c.self.inside.activations.ok.0 in let n = ap length items ∙ length-push acts k in omega (arith, e, n, c.if-len-ge16.false));
      room = (let r = i.room in let e = c.push_reserved.ensures.capacity in omega (arith, r, e));
      each = subst (All P) (sym items) (all_push P acts k i.each (begins c).kept);
    }

pub returns-in-Ok : goal.returns-in-Ok
returns-in-Ok c =
    let v = c.self.view_is in
    let s = c.self.inside in
    let acts = s.activations.items in
    let k = c.in-Ok.active in
    let items : c.push_reserved.new.self.items ≡ acts ++ k ∷ [] = c.push_reserved.ensures.items in
    let fit0 = c.fits_loop.ensures.0 c.if-not-fits_loop.false in
    let fit1 = subst (λ (x : TraceSet). Starts x c.args.trace c.deref.result.now) (c.set.ensures.value ∙ c.checked.ensures) fit0 in
    let fit : Starts s.placed.set c.args.trace c.args.inputs.items = subst (λ (x : List Value). Starts s.placed.set c.args.trace x) c.deref.ensures.value fit1 in
    let number : c.len-number.result ≡ length acts = c.len-number.ensures ∙ s.activations.ok.0 in
    let few : length acts < 16 = (let e : c.len.result ≡ length acts = c.len.ensures ∙ s.activations.ok.0 in omega (arith, e, c.if-len-ge16.false)) in
    let answers : length c.args.answers.items ≤ 4096 = (let e : c.len-2.result ≡ length c.args.answers.items = c.len-2.ensures ∙ c.args.answers.ok.0 in omega (arith, e, c.if-len-gt4096.false)) in
    let one = start_is s.placed.set s.placed.optimised s.placed.image s.arena_bytes acts k c.args.trace c.len-number.result c.args.inputs.items c.args.answers.items fit number few answers (begins c) in
    let two = subst (λ (l : List Kept). IsStart c.args.trace c.args.inputs.items c.args.answers.items (seen_session s.placed.set s.placed.optimised s.placed.image s.arena_bytes acts) (seen_session s.placed.set s.placed.optimised s.placed.image s.arena_bytes l) c.len-number.result) (sym items) one in
    subst (λ (x : Sessioned). IsStart c.args.trace c.args.inputs.items c.args.answers.items x (seen_session s.placed.set s.placed.optimised s.placed.image s.arena_bytes c.push_reserved.new.self.items) c.len-number.result) v two
