-- The pointer is read through the `&`, and what the link shares is a `&` to the value.
use mathlib.Core.Path.{refl}
use mathlib.Core.List.{List, [], ◌∷◌}
use Prim.Native.Nat.{◌+◌}
use mir.Syntax.{Fn, Args, a_type, dcons, dnil, named}
use mir.MapTy.{inst_fn}
use mir.Val.{Val, vptr}
use base.Logic.{SProp}
use base.Fml.{ftrue, fhide, flft}
use contract.Monad.{fact}
use contract.Running.{tables}
use types.Kit.{Item, at_ret, ‵, raw, ◌⊛◌, ◌$◌, ◌∵◌, !, qed, move, keep, use1, join, split, fsplit, fjoin, feq_i, suffices, done}
use types.Run.{look, stop, hop, fld, of_opd, first, blocks, exec, returns, enter, addr}
use types.ByLocal.{alloc_all, pass_all, free_all, look_at, get, through, sets, sets_last, env}
use denote.Builtin.{RefOf}
use denote.Exit.{yes}
use denote.Memory.{hidden_shr}
use denote.Opens.{unhide, hide}
use denote.Param.{bounded}
use denote.RattleType.{owns}
use denote.RawPtr.{block_of, count_of, InBlock}
use denote.Ref.{ShrRef, shr_vals, shr_Tells}
use denote.Signature.{plain}
use denote.Steps.{heard, nothing}
use denote.Struct.Lending.{in_block_says, lent_out}
use denote.Triple.Walked.{says, Stays, stay_dropped, walk_of, ends_at, Goes-dropped}
use Rattle.std.proofs.Words.{pointer_in, pointer_out}
use Rattle.std.proofs.raw_atomic.Walks.{proved}
use Rattle.std.proofs.BoxSteps.Form.{Bx, R, P}
use Rattle.code_region.proofs.LinkSteps.{L, Words, words, shows_at}
use Rattle.code_region.specs.contracts.link.Link as link
use Rattle.code_region.specs.contracts.link.Link.read as f
use Rattle.code_region.proofs.link.Link.read.Statement.{statement}
use Rattle.code_region.proofs.link.Link.read.Code as code

pub read_spec : {M : Type 1} → statement M
read_spec 𝓤 𝓛 𝓜 𝓡 wired X Z LX LZ g d dd met md =
    let E : Bx = record { row = X; laws = LX; al = record { row = Z; laws = LZ; g = g; d = d; drops = dd } } in
    let H = 𝓛.H in let 𝓣 = tables 𝓤 H 𝓜 𝓡 𝓡.env in
    let S = f.ended X Z g d dd in let c = f.clauses X Z g d dd 𝓛 𝓜.mem 𝓡.returns in
    let args : Args = bounded (a_type ∷ a_type ∷ []) (X, (Z, tt)) (dcons d (dcons dd dnil)) in let fn : Fn = inst_fn args code.function in
    let self = RefOf (0 ∷ []) tt (plain (λ _. L E)) (λ _. tt) in let stayed : Stays S.signature.params S.kept = (stay_dropped self yes, tt) in
    proved 𝓛 S stayed c 𝓜 𝓡 (Goes-dropped 𝓛 3 self yes (λ κs x f. refl), tt) (f.Key.name args) fn (code.unfolded 𝓤 H 𝓜 𝓡 wired (X, (Z, tt)) d dd)
    (λ κs. (shr_vals, tt)) (λ κs. (shr_Tells (named 0) κs.0 (L E), tt)) (λ κs qs bounds a gh are.
    let κ = κs.0 in let b = a.0.ref_ptr.0 in let o = a.0.ref_ptr.1 in let l : (L E).Denot = a.0.now in let p = l.at in let x = l.value in
    let y : (walk_of 𝓛 S stayed c).Ghost = ((κs, qs, bounds, a, (vptr b o ∷ [], tt)), gh) in let Post : Val → SProp 𝓤 = (walk_of 𝓛 S stayed c).post y in
    let others : Item 𝓤 = ‵ (flft κs.1.0 qs.1.0) ⊛ ‵ (flft κs.1.1.0 qs.1.1.0) ⊛ ‵ ftrue in let there : Val = vptr (block_of p) (count_of p) in
    qed 𝓛 (((‵ (flft κ qs.0) ⊛ others) ⊛ ‵ (owns (ShrRef (named 0) κ (L E) ∷ []) (a.0, tt) (vptr b o ∷ [], tt))) ∷ raw ((c κs a).requires gh) ∷ []) ∵
    split ! $ split ! $ move ! (2 ∷ []) $ fsplit ! $ fsplit ! $ keep ! (1 ∷ 3 ∷ 4 ∷ []) $
    -- [the `&` to the link; the token of its lifetime; the other tokens]
    enter ! 𝓣.C 𝓣.Λ fn (vptr b o ∷ []) Post $ alloc_all ! (λ v. pass_all ! refl ((tt, tt), tt) $ let Ev = env fn.locals v in
    use1 𝓛 (‵ (hidden_shr (Words E) κ (words E l) b o) ⊛ ‵ (fhide (link.the_lent (R E) (P E) g l p κ)))
    (lent_out 𝓛 (link.struct (R E) (P E) g) (link.the_codes X.Denot Z.Denot (R E).coded (P E).coded) (link.the_heap (R E) (P E) g) (link.the_lent (R E) (P E) g) κ l b o) $
    split ! $ move ! (1 ∷ []) $ unhide ! $ fsplit ! $ use1 𝓛 (raw (fact 𝓤 (InBlock p))) (in_block_says 𝓛 p) $ heard ! (InBlock p) (λ inside. hide ! $
    -- [the `&` to the value; the `&` to the fields; the tokens]
    move ! (1 ∷ 2 ∷ []) $ first ! $ blocks ! $ pointer_in ! tt p inside b (o + 0) (shows_at E 𝓛 κ b o l) (λ q.
    sets_last ! (addr ! (through ! refl (fld ! refl (hop ! (look ! 1 refl) (stop !))))) refl (tt, tt) $
    exec ! 𝓣.C 𝓣.Λ Ev code.Mir.t-2 (at_ret Ev Post) $ pointer_out ! tt p inside b (o + 0) $
    sets ! (of_opd ! (get ! refl)) refl (tt, tt) $ returns ! (look_at ! 0 refl) $ free_all ! refl $ keep ! (2 ∷ 0 ∷ 3 ∷ []) $
    suffices ! _ (ends_at 𝓛 S stayed c y there (record { ref_ptr = (block_of p, count_of p); now = x }) (tt, tt) (tt, tt)) $ says ! refl $
    feq_i ! (List Val) (there ∷ []) (there ∷ []) refl $ fjoin ! $ nothing ! $ nothing ! $ fjoin ! $ join ! $ move ! (1 ∷ 2 ∷ 0 ∷ []) $ join ! $ join ! $ done !))))
