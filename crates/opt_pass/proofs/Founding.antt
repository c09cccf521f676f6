-- What is printed first is formed: the objects of the entry, and its stores.
use Rattle.std.proofs.Common.{◌≡◌, ℕ, zero, suc, ◌+◌, ◌<◌, ◌≤◌, Bool, true, false, cond, List, [], ◌∷◌, ◌++◌, Option, Some, None, length, map, slice_get, refl, sym, ap, ◌∙◌, subst, append_assoc, arith, ◌⊎◌, inl, inr}
use Rattle.std.specs.Prelude.{IsSome, is_some, nat_eq, nat_lt, pos}
use Rattle.std.specs.Option.{option_map, IsSomeAnd}
use Rattle.std.specs.List.{All, AllByRecursion, Contains, flat_map}
use Rattle.std.proofs.lemmas.List.{length-append}
use Rattle.std.proofs.lemmas.List.Elements.{All-from_recursion, All-nil, recursion_from_All}
use Rattle.std.proofs.lemmas.Option.{slice_get_within}
use Rattle.trace_ops.specs.declared.code.OpCode.{OpCode}
use Rattle.trace_ops.specs.declared.code.OpCode.TheVariants as code
use Rattle.trace_ops.specs.declared.trace.Kind.{Kind}
use Rattle.trace_ops.specs.declared.trace.Kind.TheVariants as kind
use Rattle.trace_ops.specs.declared.trace.BoxId.{BoxId}
use Rattle.trace_ops.specs.declared.trace.Arg.{Arg}
use Rattle.trace_ops.specs.declared.trace.Arg.TheVariants as arg
use Rattle.trace_ops.specs.declared.trace.Descr.TheVariants as descr
use Rattle.trace_ops.specs.declared.trace.TraceSet.{TraceSet}
use Rattle.trace_ops.specs.declared.table.Table.{Table}
use Rattle.trace_ops.specs.declared.table.ShapeOf.{ShapeOf}
use Rattle.trace_ops.specs.declared.table.ShapeOf.TheVariants as shape
use Rattle.trace_ops.specs.declared.table.SizeRow.{SizeRow}
use Rattle.trace_ops.specs.declared.table.ArrayRow.{ArrayRow}
use Rattle.trace_ops.specs.declared.piece.PieceId.{PieceId}
use Rattle.trace_ops.specs.declared.piece.Val.{Val}
use Rattle.trace_ops.specs.declared.piece.Val.TheVariants.{Known, Virtual}
use Rattle.trace_ops.specs.declared.piece.Shape.{Shape}
use Rattle.trace_ops.specs.declared.piece.Spot.{Spot}
use Rattle.trace_ops.specs.declared.piece.Spot.TheVariants as spot
use Rattle.trace_ops.specs.declared.piece.Pending.{Pending}
use Rattle.trace_ops.specs.declared.piece.OptOp.{OptOp}
use Rattle.trace_ops.specs.declared.piece.OptOp.TheVariants as opt
use Rattle.trace_ops.specs.declared.piece.Entry.{Entry}
use Rattle.trace_ops.specs.Fits.{IsOfKind, HasVtable}
use Rattle.trace_ops.specs.Kinds.{kind_of_arg, kind_of_val, kind_of_field, kind_of_item, kind_of_spot, HasParts, NamesArg, NamesVal, NamesSpot}
use Rattle.trace_ops.specs.Lawful.{IsNumbered, IsLawful, IsShapeLawful, IsPendingLawful, NamesPending, boxes_of_entry}
use Rattle.trace_ops.specs.Parts.{boxes_of_arg, boxes_of_val}
use Rattle.trace_ops.specs.Pieces.{results_of}
use Rattle.trace_meaning.specs.Boxes.{same_box}
use Rattle.trace_meaning.specs.Objects.{listed, fields_of}
use Rattle.agreement.specs.Making.{is_zero}
use Rattle.agreement.specs.Spots.{items_from, spots_of}
use Rattle.lists.specs.Has.{Has}
use Rattle.lists.proofs.Numbers.{nat_lt_true, nat_lt_false}
use Rattle.lists.proofs.Eaches.{each_append, each_parts}
use Rattle.lists.proofs.Appends.{get_before, get_right}
use Rattle.lists.proofs.Options.{some_same, none_some}
use Rattle.opt_pass.specs.declared.start.Entering.{Entering}
use Rattle.opt_pass.specs.Laws.{Laws}
use Rattle.opt_pass.specs.Tables.{Names, name_in, with_name}
use Rattle.opt_pass.specs.Starting.{numbered_from, with_names, known_box, renaming, box_or, renamed_box, renamed_arg, entering, made_box, entered, entered_val, vtable_code, structure_code, making, makings, fill, fills, fills_of, all_fills, entered_store, stores_entered, known_arg, storing_at, storing, entry_ops, first_names}
use Rattle.opt_pass.specs.Forming.{IsDefined, IsArg, IsNamed, IsOpFormed, AreFormed}
use Rattle.opt_pass.proofs.Binding.{box_decides}
use Rattle.opt_pass.proofs.Bound.{name_same, name_other}
use Rattle.opt_pass.proofs.Becoming.{arg_more}
use Rattle.opt_pass.proofs.Snapping.{flat_both, no_more}

-- Two lists of operations

pub formed_both : (t : Table) (to : PieceId) (target d : List BoxId) (xs ys : List OptOp) → AreFormed t to target d xs → AreFormed t to target (d ++ flat_map results_of xs) ys → AreFormed t to target d (xs ++ ys)
formed_both t to target d [] ys h k = subst (λ z. AreFormed t to target z ys) (no_more d) k
formed_both t to target d (x ∷ xs) ys h k = (h.0, formed_both t to target (d ++ results_of x) xs ys h.1 (subst (λ z. AreFormed t to target z ys) (sym (append_assoc d (results_of x) (flat_map results_of xs))) k))

-- The label

-- a name is a box that is defined, of the same kind
abbrev IsRenamed : List BoxId → BoxId → Val → Type 0
IsRenamed defined b x = (c : BoxId) × (x ≡ known_box c) × (c.kind ≡ b.kind) × (slice_get defined c.number ≡ Some c)

pub name_kept : (laws : Laws) (P : BoxId → Val → Type 0) (names : Names) (b : BoxId) (x : Val) → P b x → ((c : BoxId) (y : Val) → name_in names c ≡ Some y → P c y) → (c : BoxId) (y : Val) → name_in (with_name names b x) c ≡ Some y → P c y
name_kept laws P names b x h before c y at = by (same_box c b) refl
  where
    by : (q : Bool) → same_box c b ≡ q → P c y
    by true e =
        let is : c ≡ b = (box_decides laws c b).0 e in
        let val : x ≡ y = some_same (sym (name_same laws b x names) ∙ ap (name_in (with_name names b x)) (sym is) ∙ at) in
        subst (λ z. P z y) (sym is) (subst (P b) val h)
    by false e = before c y (sym (name_other laws b c x names e) ∙ at)

pub some_kept : (laws : Laws) (names : Names) (b : BoxId) (x : Val) (c : BoxId) → IsSome (name_in names c) → IsSome (name_in (with_name names b x) c)
some_kept laws names b x c h = by (same_box c b) refl
  where
    by : (q : Bool) → same_box c b ≡ q → IsSome (name_in (with_name names b x) c)
    by true e = ap is_some (ap (name_in (with_name names b x)) ((box_decides laws c b).0 e) ∙ name_same laws b x names)
    by false e = ap is_some (name_other laws b c x names e) ∙ h

shifted : (k i : ℕ) → k + suc i ≡ k + 1 + i
shifted k i = omega arith

labels_renamed : (laws : Laws) (defined : List BoxId) (bs : List BoxId) (k : ℕ) (names : Names) → ((i : ℕ) (b : BoxId) → slice_get (numbered_from bs k) i ≡ Some b → slice_get defined (k + i) ≡ Some b)
    → ((b : BoxId) (x : Val) → name_in names b ≡ Some x → IsRenamed defined b x) → (b : BoxId) (x : Val) → name_in (with_names names bs (map known_box (numbered_from bs k))) b ≡ Some x → IsRenamed defined b x
labels_renamed laws defined [] k names at h b x e = h b x e
labels_renamed laws defined (c ∷ bs) k names at h b x e =
    let made : BoxId = record { kind = c.kind; number = k } in
    let here : slice_get defined k ≡ Some made = let none : k ≡ k + 0 = omega arith in ap (slice_get defined) none ∙ at 0 made refl in
    labels_renamed laws defined bs (k + 1) (with_name names c (known_box made)) (λ i d q. ap (slice_get defined) (sym (shifted k i)) ∙ at (suc i) d q)
    (name_kept laws (IsRenamed defined) names c (known_box made) (made, refl, refl, here) h) b x e

labels_there : (laws : Laws) (bs : List BoxId) (k : ℕ) (names : Names) (b : BoxId) → Has bs b ⊎ IsSome (name_in names b) → IsSome (name_in (with_names names bs (map known_box (numbered_from bs k))) b)
labels_there laws [] k names b (inl h) = absurd h
labels_there laws [] k names b (inr h) = h
labels_there laws (c ∷ bs) k names b (inl (inl e)) = labels_there laws bs (k + 1) (with_name names c (known_box (record { kind = c.kind; number = k }))) b (inr (ap is_some (ap (name_in (with_name names c (known_box (record { kind = c.kind; number = k })))) (sym e) ∙ name_same laws c (known_box (record { kind = c.kind; number = k })) names)))
labels_there laws (c ∷ bs) k names b (inl (inr h)) = labels_there laws bs (k + 1) (with_name names c (known_box (record { kind = c.kind; number = k }))) b (inl h)
labels_there laws (c ∷ bs) k names b (inr h) = labels_there laws bs (k + 1) (with_name names c (known_box (record { kind = c.kind; number = k }))) b (inr (some_kept laws names c (known_box (record { kind = c.kind; number = k })) b h))

numbered_at : (bs : List BoxId) (k i : ℕ) (b : BoxId) → slice_get (numbered_from bs k) i ≡ Some b → b.number ≡ k + i
numbered_at [] k i b e = absurd (none_some e)
numbered_at (c ∷ bs) k zero b e = sym (ap (λ (z : BoxId). z.number) (some_same e)) ∙ none
  where
    none : k ≡ k + 0
    none = omega arith
numbered_at (c ∷ bs) k (suc i) b e = numbered_at bs (k + 1) i b e ∙ sym (shifted k i)

pub numbered_long : (bs : List BoxId) (n : ℕ) → length (numbered_from bs n) ≡ length bs
numbered_long [] n = refl
numbered_long (b ∷ bs) n = ap suc (numbered_long bs (n + 1))

-- An argument of the entry, in the piece

module _ (laws : Laws) (t : Table) (e : Entry) where
  abbrev label : List BoxId
  label = numbered_from e.label 0

  whole_at : (i : ℕ) (b : BoxId) → slice_get label i ≡ Some b → slice_get label (0 + i) ≡ Some b
  whole_at i b q = let none : 0 + i ≡ i = omega arith in ap (slice_get label) none ∙ q

  renamed : (b : BoxId) (x : Val) → name_in (renaming e.label) b ≡ Some x → IsRenamed label b x
  renamed b x q = labels_renamed laws label e.label 0 [] whole_at (λ c y w. absurd (none_some w)) b x q

  abbrev AreIn : List BoxId → Type 0
  AreIn bs = AllByRecursion (Has e.label) bs

  pub entered_arg : (a : Arg) → NamesArg t a → AreIn (boxes_of_arg a) → IsArg t label (kind_of_arg a) (renamed_arg (renaming e.label) a)
  entered_arg (arg.Of b) n h = by (name_in (renaming e.label) b) refl (labels_there laws e.label 0 [] b (inl h.0))
    where
      false_true : false ≡ true → ⊥
      false_true q = cc

      by : (y : Option Val) → name_in (renaming e.label) b ≡ y → IsSome y → IsArg t label (Some b.kind) (arg.Of (box_or b y))
      by None q k = absurd (false_true k)
      by (Some x) q k =
          let s = renamed b x q in
          subst (λ z. IsArg t label (Some b.kind) (arg.Of (box_or b (Some z)))) (sym s.1) (record { kind = ap Some s.2; named = tt; boxes = (s.3, tt) })
  entered_arg (arg.Const z) n h = record { kind = refl; named = n; boxes = tt }
  entered_arg arg.Null n h = record { kind = refl; named = n; boxes = tt }
  entered_arg (arg.Class k) n h = record { kind = refl; named = n; boxes = tt }
  entered_arg (arg.Func k) n h = record { kind = refl; named = n; boxes = tt }
  entered_arg (arg.Ptr k) n h = record { kind = refl; named = n; boxes = tt }

-- The objects of the entry

code_formed : (t : Table) (to : PieceId) (target d : List BoxId) (b : BoxId) (s : ℕ) (row : SizeRow) → b.kind ≡ kind.Ref → b.number ≡ length d → slice_get t.sizes s ≡ Some row → (v : Option (List ℕ)) → row.vtable ≡ v → IsOpFormed t to target d (opt.Plain (vtable_code v) (Some b) [] (descr.Size s))
code_formed t to target d b s row k n at None e = record {
  uses = tt;
  gives = (n, tt);
  code = refl;
  fits = record { arguments = tt; gives = ap Some k; cites = subst (λ z. IsSomeAnd z (HasVtable false)) (sym at) e };
  rows = (All-nil _, slice_get_within t.sizes s row at);
  sound = tt;
  named = tt;
  goes = tt;
}
code_formed t to target d b s row k n at (Some name) e = record {
  uses = tt;
  gives = (n, tt);
  code = refl;
  fits = record { arguments = tt; gives = ap Some k; cites = subst (λ z. IsSomeAnd z (HasVtable true)) (sym at) (ap is_some e) };
  rows = (All-nil _, slice_get_within t.sizes s row at);
  sound = tt;
  named = tt;
  goes = tt;
}

pub making_formed : (t : Table) (to : PieceId) (target d : List BoxId) (b : BoxId) (of : ShapeOf) (n : ℕ) (kinds : List (Option Kind)) → b.kind ≡ kind.Ref → b.number ≡ length d → HasParts t of kinds → IsOpFormed t to target d (making t b of n)
making_formed t to target d b (shape.Size s) n kinds k e h = by (slice_get t.sizes s) refl h
  where
    by : (x : Option SizeRow) → slice_get t.sizes s ≡ x → IsSomeAnd x (λ (row : SizeRow). kinds ≡ map (kind_of_field t) row.fields) → IsOpFormed t to target d (opt.Plain (structure_code (slice_get t.sizes s)) (Some b) [] (descr.Size s))
    by None at h = absurd h
    by (Some row) at h = subst (λ z. IsOpFormed t to target d (opt.Plain (structure_code z) (Some b) [] (descr.Size s))) (sym at) (code_formed t to target d b s row k e at row.vtable refl)
making_formed t to target d b (shape.Array a) n kinds k e h = by (slice_get t.arrays a) refl h
  where
    by : (x : Option ArrayRow) → slice_get t.arrays a ≡ x → IsSomeAnd x (λ (row : ArrayRow). All (λ q. q ≡ Some row.kind) kinds) → IsOpFormed t to target d (opt.Plain code.NewArrayClear (Some b) (arg.Const (pos n) ∷ []) (descr.Array a))
    by None at h = absurd h
    by (Some row) at h = record {
      uses = tt;
      gives = (e, tt);
      code = refl;
      fits = record { arguments = refl; gives = ap Some k; cites = ap is_some (ap (option_map (λ (r : ArrayRow). r.kind)) at) };
      rows = (All-from_recursion (NamesArg t) (arg.Const (pos n) ∷ []) (tt, tt), slice_get_within t.arrays a row at);
      sound = tt;
      named = tt;
      goes = tt;
    }

making_results : (t : Table) (b : BoxId) (of : ShapeOf) (n : ℕ) → results_of (making t b of n) ≡ b ∷ []
making_results t b (shape.Size s) n = refl
making_results t b (shape.Array a) n = refl

-- the boxes of the objects
abbrev pub objects_from : ℕ → ℕ → List Shape → List BoxId
objects_from label k [] = []
objects_from label k (s ∷ ss) = made_box label k ∷ objects_from label (k + 1) ss

pub makings_results : (t : Table) (label k : ℕ) (ss : List Shape) → flat_map results_of (makings t label k ss) ≡ objects_from label k ss
makings_results t label k [] = refl
makings_results t label k (s ∷ ss) = ap (λ z. z ++ flat_map results_of (makings t label (k + 1) ss)) (making_results t (made_box label k) s.of (length s.parts)) ∙ ap (λ z. made_box label k ∷ z) (makings_results t label (k + 1) ss)

pub objects_long : (label k : ℕ) (ss : List Shape) → length (objects_from label k ss) ≡ length ss
objects_long label k [] = refl
objects_long label k (s ∷ ss) = ap suc (objects_long label (k + 1) ss)

pub makings_formed : (t : Table) (to : PieceId) (target d : List BoxId) (label k : ℕ) (ss : List Shape) → length d ≡ label + k → AllByRecursion (λ (s : Shape). HasParts t s.of (map kind_of_val s.parts)) ss → AreFormed t to target d (makings t label k ss)
makings_formed t to target d label k [] long h = tt
makings_formed t to target d label k (s ∷ ss) long h =
    let more : length (d ++ made_box label k ∷ []) ≡ label + (k + 1) = length-append d (made_box label k ∷ []) ∙ ap (λ z. z + 1) long ∙ shift in (
      making_formed t to target d (made_box label k) s.of (length s.parts) (map kind_of_val s.parts) refl (sym long) h.0,
      subst (λ z. AreFormed t to target (d ++ z) (makings t label (k + 1) ss)) (sym (making_results t (made_box label k) s.of (length s.parts))) (makings_formed t to target (d ++ made_box label k ∷ []) label (k + 1) ss more h.1),
    )
  where
    shift : label + k + 1 ≡ label + (k + 1)
    shift = omega arith

pub object_at : (label k m : ℕ) (ss : List Shape) → m < length ss → slice_get (objects_from label k ss) m ≡ Some (made_box label (k + m))
object_at label k m [] lt = absurd (omega (arith, lt))
object_at label k zero (s ∷ ss) lt = ap (λ z. Some (made_box label z)) none
  where
    none : k ≡ k + 0
    none = omega arith
object_at label k (suc m) (s ∷ ss) lt = object_at label (k + 1) m ss (omega (arith, lt)) ∙ ap (λ z. Some (made_box label z)) (sym (shifted k m))

-- Stores

pub record IsStoreFormed (t : Table) (d : List BoxId) (p : Pending) : Type 0 where
  pub base : IsArg t d (Some kind.Ref) p.base
  pub value : IsArg t d (kind_of_spot t p.spot) (known_arg p.value)
  pub there : IsSome (kind_of_spot t p.spot)
  pub spot : NamesSpot t p.spot

of_kind : (k : Option Kind) (a : Arg) → kind_of_arg a ≡ k → IsSome k → IsOfKind k a
of_kind (Some k) a e h = e
of_kind None a e h = cc

pub store_formed : (t : Table) (to : PieceId) (target d : List BoxId) (p : Pending) → IsStoreFormed t d p → IsOpFormed t to target d (storing p)
store_formed t to target d p h = by p.spot h.value h.there h.spot
  where
    both : AllByRecursion (IsDefined d) (boxes_of_arg p.base ++ (boxes_of_arg (known_arg p.value) ++ []))
    both = each_append (IsDefined d) (boxes_of_arg p.base) (boxes_of_arg (known_arg p.value) ++ []) h.base.boxes (each_append (IsDefined d) (boxes_of_arg (known_arg p.value)) [] h.value.boxes tt)

    by : (at : Spot) → IsArg t d (kind_of_spot t at) (known_arg p.value) → IsSome (kind_of_spot t at) → NamesSpot t at → IsOpFormed t to target d (storing_at at p.base (known_arg p.value))
    by (spot.Field f) v s n = record {
      uses = subst (AllByRecursion (IsDefined d)) (sym (no_more (boxes_of_arg p.base ++ (boxes_of_arg (known_arg p.value) ++ [])))) both;
      gives = tt;
      code = refl;
      fits = record { arguments = (h.base.kind, of_kind (kind_of_field t f) (known_arg p.value) v.kind s); gives = refl; cites = s };
      rows = (All-from_recursion (NamesArg t) (p.base ∷ known_arg p.value ∷ []) (h.base.named, (v.named, tt)), n);
      sound = tt;
      named = tt;
      goes = tt;
    }
    by (spot.Item a i) v s n = record {
      uses = subst (AllByRecursion (IsDefined d)) (sym (no_more (boxes_of_arg p.base ++ (boxes_of_arg (known_arg p.value) ++ [])))) both;
      gives = tt;
      code = refl;
      fits = record { arguments = (h.base.kind, refl, of_kind (kind_of_item t a) (known_arg p.value) v.kind s); gives = refl; cites = s };
      rows = (All-from_recursion (NamesArg t) (p.base ∷ arg.Const i ∷ known_arg p.value ∷ []) (h.base.named, (tt, (v.named, tt))), n);
      sound = tt;
      named = tt;
      goes = tt;
    }

store_results : (p : Pending) → results_of (storing p) ≡ []
store_results p = by p.spot
  where
    by : (at : Spot) → results_of (storing_at at p.base (known_arg p.value)) ≡ []
    by (spot.Field f) = refl
    by (spot.Item a i) = refl

pub stores_results : (ps : List Pending) → flat_map results_of (map storing ps) ≡ []
stores_results [] = refl
stores_results (p ∷ ps) = ap (λ z. z ++ flat_map results_of (map storing ps)) (store_results p) ∙ stores_results ps

pub stores_formed : (t : Table) (to : PieceId) (target d : List BoxId) (ps : List Pending) → AllByRecursion (IsStoreFormed t d) ps → AreFormed t to target d (map storing ps)
stores_formed t to target d [] h = tt
stores_formed t to target d (p ∷ ps) h = (store_formed t to target d p h.0, subst (λ z. AreFormed t to target z (map storing ps)) (sym (ap (λ z. d ++ z) (store_results p) ∙ no_more d)) (stores_formed t to target d ps h.1))

-- What the entry's values are

module _ (laws : Laws) (t : Table) (e : Entry) where
  abbrev pub begun : List BoxId
  begun = numbered_from e.label 0 ++ objects_from (length e.label) 0 e.shapes

  pub record IsHeld (x : Val) : Type 0 where
    pub numbered : IsNumbered (length e.shapes) x
    pub named : NamesVal t x
    pub boxes : AllByRecursion (Has e.label) (boxes_of_val x)

  pub entered_formed : (x : Val) → IsHeld x → IsArg t begun (kind_of_val x) (entered (entering e) x)
  entered_formed (Known a) h = arg_more t (numbered_from e.label 0) (objects_from (length e.label) 0 e.shapes) (kind_of_arg a) (renamed_arg (renaming e.label) a) (entered_arg laws t e a h.named h.boxes)
  entered_formed (Virtual k) h = by (nat_lt k (length e.shapes)) refl
    where
      by : (q : Bool) → nat_lt k (length e.shapes) ≡ q → IsArg t begun (Some kind.Ref) (cond q (arg.Of (made_box (length e.label) k)) arg.Null)
      by true q = record { kind = refl; named = tt; boxes = (at, tt) }
        where
          at : slice_get begun (length e.label + k) ≡ Some (made_box (length e.label) k)
          at = get_right (numbered_from e.label 0) (objects_from (length e.label) 0 e.shapes) (length e.label + k) k (ap (λ z. z + k) (sym (numbered_long e.label 0))) ∙ object_at (length e.label) 0 k e.shapes (nat_lt_true k (length e.shapes) q) ∙ ap (λ z. Some (made_box (length e.label) z)) none
            where
              none : 0 + k ≡ k
              none = omega arith
      by false q = record { kind = refl; named = tt; boxes = tt }

  -- parts and their spots, one by one
  abbrev pub Match : List Spot → List Val → Type 0
  Match [] xs = Unit {0}
  Match (s ∷ ss) [] = Unit {0}
  Match (s ∷ ss) (x ∷ xs) = (NamesSpot t s × (kind_of_val x ≡ kind_of_spot t s) × IsSome (kind_of_spot t s) × IsHeld x) × Match ss xs

  pub fills_formed : (b : BoxId) → IsArg t begun (Some kind.Ref) (arg.Of b) → (ss : List Spot) (xs : List Val) → Match ss xs → AllByRecursion (IsStoreFormed t begun) (fills b ss (map (entered_val (entering e)) xs))
  fills_formed b base [] xs h = tt
  fills_formed b base (s ∷ ss) [] h = tt
  fills_formed b base (s ∷ ss) (x ∷ xs) h = each_append (IsStoreFormed t begun) (fill b s (entered_val (entering e) x)) (fills b ss (map (entered_val (entering e)) xs)) (one (is_zero (entered_val (entering e) x))) (fills_formed b base ss xs h.1)
    where
      one : (q : Bool) → AllByRecursion (IsStoreFormed t begun) (cond q [] (record { base = arg.Of b; spot = s; value = entered_val (entering e) x } ∷ []))
      one true = tt
      one false = (record { base = base; value = subst (λ k. IsArg t begun k (entered (entering e) x)) h.0.1 (entered_formed x h.0.3); there = h.0.2; spot = h.0.0 }, tt)

  pub store_entered : (p : Pending) → kind_of_arg p.base ≡ Some kind.Ref → NamesSpot t p.spot → IsSome (kind_of_spot t p.spot) → kind_of_val p.value ≡ kind_of_spot t p.spot → NamesArg t p.base → AllByRecursion (Has e.label) (boxes_of_arg p.base) → IsHeld p.value → IsStoreFormed t begun (entered_store (entering e) p)
  store_entered p k n s v b boxes held = record {
    base = subst (λ z. IsArg t begun z (renamed_arg (renaming e.label) p.base)) k (arg_more t (numbered_from e.label 0) (objects_from (length e.label) 0 e.shapes) (kind_of_arg p.base) (renamed_arg (renaming e.label) p.base) (entered_arg laws t e p.base b boxes));
    value = subst (λ z. IsArg t begun z (entered (entering e) p.value)) v (entered_formed p.value held);
    there = s;
    spot = n;
  }
