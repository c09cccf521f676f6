-- The label's boxes by their new numbers: each that has a value has it there.
use Rattle.std.proofs.Common.{◌≡◌, ℕ, suc, ◌+◌, ◌<◌, ◌≤◌, Bool, true, false, List, [], ◌∷◌, Option, Some, None, length, map, refl, sym, ap, ◌∙◌, subst, arith}
use Rattle.lists.proofs.Options.{some_same, none_some}
use Rattle.trace_ops.specs.declared.trace.BoxId.{BoxId}
use Rattle.trace_ops.specs.declared.trace.Arg.{Arg}
use Rattle.trace_ops.specs.declared.trace.Arg.TheVariants as arg
use Rattle.trace_meaning.specs.declared.value.Value.{Value}
use Rattle.trace_meaning.specs.Values.{kind_of_value}
use Rattle.trace_meaning.specs.Boxes.{Boxes, same_box, value_in, bind, bind_all, bound_to, arg_value, has_value}
use Rattle.trace_meaning.specs.Keeping.{AreOfKind}
use Rattle.agreement.specs.Renaming.{KeepsValues}
use Rattle.opt_pass.specs.Laws.{Laws}
use Rattle.opt_pass.specs.Tables.{Names, name_in, with_name}
use Rattle.opt_pass.specs.Starting.{numbered_from, with_names, known_box, renaming, box_or, renamed_box, renamed_arg}
use Rattle.opt_pass.proofs.Binding.{box_decides, bound_same, bound_other}
use Rattle.opt_pass.proofs.Bound.{name_same, name_other}
use Rattle.opt_pass.proofs.Ends.{cons_parts}

-- The label, box after box: each box that has a value has it by its new number

pub record Renamed (n : ℕ) (ren : Names) (old new : Boxes) : Type 0 where
  pub keeps : (b : BoxId) (u : Value) → value_in old b ≡ Some u → (c : BoxId) × (name_in ren b ≡ Some (known_box c)) × (value_in new c ≡ Some u) × (c.number < n)
  pub fresh : (c : BoxId) → n ≤ c.number → value_in new c ≡ None
  pub kinds : AreOfKind new

renamed_more : (laws : Laws) (n : ℕ) (ren : Names) (old new : Boxes) → Renamed n ren old new → (b : BoxId) (x : Value) → kind_of_value x ≡ b.kind
    → Renamed (n + 1) (with_name ren b (known_box (record { kind = b.kind; number = n }))) (bind b x old) (bind (record { kind = b.kind; number = n }) x new)
renamed_more laws n ren old new h b x kind = record {
  keeps = λ d u e. keeps d u (same_box d b) refl e;
  fresh = λ d le. fresh d le (same_box d (record { kind = b.kind; number = n })) refl;
  kinds = λ d u e. kinds d u (same_box d (record { kind = b.kind; number = n })) refl e;
}
  where
    keeps : (d : BoxId) (u : Value) (s : Bool) → same_box d b ≡ s → value_in (bind b x old) d ≡ Some u
        → (c : BoxId) × (name_in (with_name ren b (known_box (record { kind = b.kind; number = n }))) d ≡ Some (known_box c)) × (value_in (bind (record { kind = b.kind; number = n }) x new) c ≡ Some u) × (c.number < n + 1)
    keeps d u true q e =
        let same : d ≡ b = (box_decides laws d b).0 q in
        let made : BoxId = record { kind = b.kind; number = n } in
        let value : x ≡ u = some_same (sym (bound_same laws b x old) ∙ ap (value_in (bind b x old)) (sym same) ∙ e) in
        (made, ap (name_in (with_name ren b (known_box made))) same ∙ name_same laws b (known_box made) ren, bound_same laws made x new ∙ ap Some value, omega arith)
    keeps d u false q e =
        let made : BoxId = record { kind = b.kind; number = n } in
        let k = h.keeps d u (sym (bound_other laws b d x old q) ∙ e) in
        (k.0, name_other laws b d (known_box made) ren q ∙ k.1, other k.0 k.3 (same_box k.0 made) refl ∙ k.2, omega (arith, k.3))
      where
        other : (c : BoxId) → c.number < n → (s : Bool) → same_box c (record { kind = b.kind; number = n }) ≡ s → value_in (bind (record { kind = b.kind; number = n }) x new) c ≡ value_in new c
        other c lt true w = let same : c.number ≡ n = ap (λ (z : BoxId). z.number) ((box_decides laws c (record { kind = b.kind; number = n })).0 w) in absurd (omega (arith, lt, same))
        other c lt false w = bound_other laws (record { kind = b.kind; number = n }) c x new w

    fresh : (d : BoxId) → n + 1 ≤ d.number → (s : Bool) → same_box d (record { kind = b.kind; number = n }) ≡ s → value_in (bind (record { kind = b.kind; number = n }) x new) d ≡ None
    fresh d le true q = let same : d.number ≡ n = ap (λ (z : BoxId). z.number) ((box_decides laws d (record { kind = b.kind; number = n })).0 q) in absurd (omega (arith, same, le))
    fresh d le false q = bound_other laws (record { kind = b.kind; number = n }) d x new q ∙ h.fresh d (omega (arith, le))

    kinds : (d : BoxId) (u : Value) (s : Bool) → same_box d (record { kind = b.kind; number = n }) ≡ s → value_in (bind (record { kind = b.kind; number = n }) x new) d ≡ Some u → kind_of_value u ≡ d.kind
    kinds d u true q e =
        let made : BoxId = record { kind = b.kind; number = n } in
        let same : d ≡ made = (box_decides laws d made).0 q in
        let value : x ≡ u = some_same (sym (bound_same laws made x new) ∙ ap (value_in (bind made x new)) (sym same) ∙ e) in
        ap kind_of_value (sym value) ∙ kind ∙ ap (λ (z : BoxId). z.kind) (sym same)
    kinds d u false q e = h.kinds d u (sym (bound_other laws (record { kind = b.kind; number = n }) d x new q) ∙ e)

nil_cons : {X : Type 0} {x : X} {xs : List X} → [] ≡ x ∷ xs → ⊥
nil_cons e = cc

renamed_all : (laws : Laws) (bs : List BoxId) (us : List Value) (n : ℕ) (ren : Names) (old new : Boxes) → map kind_of_value us ≡ map (λ (b : BoxId). b.kind) bs → Renamed n ren old new
    → Renamed (n + length bs) (with_names ren bs (map known_box (numbered_from bs n))) (bind_all old bs us) (bind_all new (numbered_from bs n) us)
renamed_all laws [] us n ren old new e h = let z : n + 0 ≡ n = omega arith in subst (λ m. Renamed m ren old new) (sym z) h
renamed_all laws (b ∷ bs) [] n ren old new e h = absurd (nil_cons e)
renamed_all laws (b ∷ bs) (x ∷ us) n ren old new e h =
    let c = cons_parts e in
    let made : BoxId = record { kind = b.kind; number = n } in
    let long : (n + 1) + length bs ≡ n + suc (length bs) = omega arith in
    subst (λ m. Renamed m (with_names (with_name ren b (known_box made)) bs (map known_box (numbered_from bs (n + 1)))) (bind_all (bind b x old) bs us) (bind_all (bind made x new) (numbered_from bs (n + 1)) us)) long
    (renamed_all laws bs us (n + 1) (with_name ren b (known_box made)) (bind b x old) (bind made x new) c.1 (renamed_more laws n ren old new h b x c.0))

renamed_none : Renamed 0 [] [] []
renamed_none = record { keeps = λ b u e. absurd (none_some e); fresh = λ c le. refl; kinds = λ b u e. absurd (none_some e) }

pub renamed_label : (laws : Laws) (label : List BoxId) (us : List Value) → map kind_of_value us ≡ map (λ (b : BoxId). b.kind) label → Renamed (length label) (renaming label) (bound_to label us) (bound_to (numbered_from label 0) us)
renamed_label laws label us e =
    let z : 0 + length label ≡ length label = omega arith in
    subst (λ m. Renamed m (renaming label) (bound_to label us) (bound_to (numbered_from label 0) us)) z (renamed_all laws label us 0 [] [] [] e renamed_none)

pub keeps_values : (n : ℕ) (ren : Names) (old new : Boxes) → Renamed n ren old new → KeepsValues (value_in old) (value_in new) (renamed_arg ren) (renamed_box ren)
keeps_values n ren old new h = record {
  args = args;
  valued = valued;
  boxes = boxes;
}
  where
    boxes : (b : BoxId) (u : Value) → value_in old b ≡ Some u → value_in new (renamed_box ren b) ≡ Some u
    boxes b u e = let k = h.keeps b u e in ap (λ z. value_in new (box_or b z)) k.1 ∙ k.2

    args : (a : Arg) (u : Value) → arg_value (value_in old) a ≡ Some u → arg_value (value_in new) (renamed_arg ren a) ≡ Some u
    args (arg.Of b) u e = let k = h.keeps b u e in ap (λ z. value_in new (box_or b z)) k.1 ∙ k.2
    args (arg.Const z) u e = e
    args arg.Null u e = e
    args (arg.Class k) u e = e
    args (arg.Func k) u e = e
    args (arg.Ptr k) u e = e

    valued : (a : Arg) → has_value (renamed_arg ren a) ≡ has_value a
    valued (arg.Of b) = refl
    valued (arg.Const z) = refl
    valued arg.Null = refl
    valued (arg.Class k) = refl
    valued (arg.Func k) = refl
    valued (arg.Ptr k) = refl
