-- The pointer is read through the `&mut`, the value is lent, and the link follows it.
use mathlib.Core.Path.{refl}
use mathlib.Core.List.{[], ◌∷◌}
use mir.Syntax.{Fn, Args, a_type, dcons, dnil, named}
use mir.MapTy.{inst_fn}
use mir.Val.{Val, vptr}
use base.Logic.{SProp, id⊢}
use base.Fml.{GName, ftrue, flft}
use contract.Running.{tables}
use types.Logic.{sem}
use types.Kit.{Item, at_ret, ‵, raw, ◌⊛◌, some, later, ◌$◌, ◌∵◌, !, qed, move, keep, use1, join, split, split3, pick, fsplit, fsplit3, fjoin, suffices, frame, group, await, done}
use types.Part.{whole, sub, look_in}
use types.Run.{stop, hop, fld, of_opd, first, blocks, exec, returns, enter, addr}
use types.ByLocal.{alloc_all, pass_all, free_all, look_at, get, through, sets, sets_last, env}
use denote.Exit.{no}
use denote.Follow.{follows, Part, lends_Part}
use denote.Param.{bounded}
use denote.RattleType.{owns}
use denote.Ref.{MutRef, mut_vals, mut_Tells}
use denote.Signature.{plain, mut_ref_to}
use denote.Steps.{nothing}
use denote.Triple.Walked.{says, Stays, stay_dropped, walk_of, ends_at, Goes-spent_ref}
use Rattle.std.proofs.raw_atomic.Walks.{proved}
use Rattle.std.proofs.BoxSteps.Form.{Bx, R}
use Rattle.code_region.specs.Link.{with_value}
use Rattle.code_region.proofs.LinkSteps.{L, link_opens, Rest, back}
use Rattle.code_region.specs.contracts.link.Link.write as f
use Rattle.code_region.proofs.link.Link.write.Statement.{statement}
use Rattle.code_region.proofs.link.Link.write.Code as code

pub write_spec : {M : Type 1} → statement M
write_spec 𝓤 𝓛 𝓜 𝓡 wired X Z LX LZ g d dd met md =
    let E : Bx = record { row = X; laws = LX; al = record { row = Z; laws = LZ; g = g; d = d; drops = dd } } in
    let H = 𝓛.H in let 𝓣 = tables 𝓤 H 𝓜 𝓡 𝓡.env in
    let S = f.ended X Z g d dd in let c = f.clauses X Z g d dd 𝓛 𝓜.mem 𝓡.returns in
    let args : Args = bounded (a_type ∷ a_type ∷ []) (X, (Z, tt)) (dcons d (dcons dd dnil)) in let fn : Fn = inst_fn args code.function in
    let stayed : Stays S.signature.params S.kept = (stay_dropped (mut_ref_to (0 ∷ []) tt (plain (λ _. L E))) no, tt) in
    proved 𝓛 S stayed c 𝓜 𝓡 (Goes-spent_ref 𝓛 3 (0 ∷ []) tt (plain (λ _. L E)), tt) (f.Key.name args) fn (code.unfolded 𝓤 H 𝓜 𝓡 wired (X, (Z, tt)) d dd)
    (λ κs. (mut_vals, tt)) (λ κs. (mut_Tells (named 0) κs.0 (L E), tt)) (λ κs qs bounds a gh are.
    let κ = κs.0 in let q = qs.0 in let rb = a.0.ref_ptr.0 in let ro = a.0.ref_ptr.1 in let γ = a.0.ghost_name in let l : (L E).Denot = a.0.now in
    let y : (walk_of 𝓛 S stayed c).Ghost = ((κs, qs, bounds, a, (vptr rb ro ∷ [], tt)), gh) in let Post : Val → SProp 𝓤 = (walk_of 𝓛 S stayed c).post y in
    let others : Item 𝓤 = ‵ (flft κs.1.0 qs.1.0) ⊛ ‵ (flft κs.1.1.0 qs.1.1.0) ⊛ ‵ ftrue in
    qed 𝓛 (((‵ (flft κ q) ⊛ others) ⊛ ‵ (owns (MutRef (named 0) κ (L E) ∷ []) (a.0, tt) (vptr rb ro ∷ [], tt))) ∷ raw ((c κs a).requires gh) ∷ []) ∵
    split ! $ split ! $ move ! (2 ∷ []) $ fsplit ! $ fsplit3 ! $ keep ! (1 ∷ 2 ∷ 4 ∷ 5 ∷ []) $
    -- [the last value; the borrow; the token of its lifetime; the other tokens]
    enter ! 𝓣.C 𝓣.Λ fn (vptr rb ro ∷ []) Post $ alloc_all ! (λ v. pass_all ! refl ((tt, tt), tt) $ let Ev = env fn.locals v in
    link_opens E ! tt l rb ro (λ b o hv e.
    first ! $ blocks ! $ sets_last ! (addr ! (through ! refl (fld ! refl (hop ! (look_in ! 2 (sub ! 0 refl (whole !))) (stop !))))) refl (tt, tt) $
    exec ! 𝓣.C 𝓣.Λ Ev code.Mir.t-2 (at_ret Ev Post) $ sets ! (of_opd ! (get ! refl)) refl (tt, tt) $
    move ! (1 ∷ 2 ∷ []) $ fjoin ! $ move ! (2 ∷ 3 ∷ 4 ∷ 1 ∷ 0 ∷ []) $ group ! 5 $
    -- [the open borrow with the value and all else; the other tokens]
    let F = with_value l in let parts = sem 𝓛 (Rest E 𝓛 l rb ro b o hv) in let whole_again = back E 𝓛 l rb ro b o hv e in
    use1 𝓛 (later (some (λ (γ' : GName). raw (Part 𝓛 (L E) (R E) F (named 0) κ q rb ro b o γ parts whole_again l.value γ'))))
    (lends_Part 𝓛 (L E) (R E) F (named 0) κ q rb ro b o γ parts whole_again ((L E).coded.code l) ((L E).coded.code l) l.value) $ await ! tt $ pick ! (λ γ'.
    returns ! (look_at ! 0 refl) $ free_all ! refl $
    use1 𝓛 (‵ ((MutRef (named 0) κ (R E)).own_val (record { ref_ptr = (b, o); ghost_name = γ'; now = l.value }) (vptr b o ∷ [])) ⊛ ‵ (flft κ q) ⊛ ‵ (follows (L E) (R E) γ γ' F)) (id⊢ 𝓤 _) $ split3 ! $
    suffices ! _ (ends_at 𝓛 S stayed c y (vptr b o) (record { ref_ptr = (b, o); ghost_name = γ'; now = l.value }) (tt, tt) (tt, tt)) $
    nothing ! $ nothing ! $ fjoin ! $ join ! $ move ! (1 ∷ 3 ∷ 0 ∷ []) $ join ! $ join ! $ frame ! $ says ! refl $ done !))))
