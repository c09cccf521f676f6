-- A simple table is lawful.
use Rattle.std.proofs.Common.{◌≡◌, ℕ, zero, suc, ◌/◌, ◌%◌, ◌<◌, Bool, true, false, not, cond, ◌&&◌, ◌||◌, Option, Some, None, List, [], ◌∷◌, length, map, slice_get, refl, ap, sym, ◌∙◌, subst, arith}
use Rattle.std.specs.Prelude.{slice_index_or, nat_lt, ◌==◌, is_none}
use Rattle.std.specs.List.{All, Contains, list_all, list_any}
use Rattle.std.proofs.lemmas.Option.{slice_get_within, get_or_from_slice_get}
use Rattle.std.proofs.lemmas.Bool.{and_parts, eqb-true}
use Rattle.std.proofs.lemmas.Bool.Decides.{nat_tests}
use Rattle.std.proofs.lemmas.List.Elements.{All-cons}
use Rattle.trace_ops.specs.declared.trace.Arg.{Arg}
use Rattle.trace_ops.specs.declared.trace.Arg.TheVariants as arg
use Rattle.trace_ops.specs.declared.table.Table.{Table}
use Rattle.trace_ops.specs.declared.table.ShapeOf.{ShapeOf}
use Rattle.trace_ops.specs.declared.table.ShapeOf.TheVariants.{Size, Array}
use Rattle.trace_ops.specs.Kinds.{NamesShape}
use Rattle.trace_ops.specs.Sound.{AreApart}
use Rattle.arena_objects.specs.Layout.{same_shape}
use Rattle.resume_numbering.specs.declared.rows.FrameRow.{FrameRow}
use Rattle.resume_numbering.specs.declared.rows.VirtualRow.{VirtualRow}
use Rattle.resume_numbering.specs.declared.rows.PendingRow.{PendingRow}
use Rattle.resume_numbering.specs.declared.rows.GuardRow.{GuardRow}
use Rattle.resume_numbering.specs.declared.rows.ResumeTable.{ResumeTable}
use Rattle.resume_numbering.specs.Tags.{IsConstBelow, IsVirtualBelow, IsNoVirtual}
use Rattle.resume_numbering.specs.Standing.{HasLowerParents}
use Rattle.resume_numbering.specs.Leading.{LeadsOnlyTo}
use Rattle.resume_numbering.specs.Lawful.{IsConstant, StoresKeep, IsLawful}
use Rattle.resume_numbering.specs.Reading.{HasRow}
use Rattle.resume_rebuild.specs.Known.{IsKnown, ShapesAreKnown}
use Rattle.resume_rebuild.specs.Rows.{rows_at, with_row}
use Rattle.lists.proofs.Alls.{all_at, all_weaker}
use Rattle.rebuild_tests.specs.Simple.{leads_well, all_lead_well, frame_is_simple, virtual_is_simple, store_is_simple, is_constant, guard_is_simple, first_is_simple, is_simple, names_row, is_known, all_known, first_has}

-- ---- tests of all

passing : {X : Type 0} (p : X → Bool) (P : X → Type 0) → ((x : X) → p x ≡ true → P x) → (xs : List X) → list_all p xs ≡ true → All P xs
passing p P f [] e = λ k d lt. absurd (omega arith)
passing p P f (x ∷ xs) e =
    let both = and_parts (p x) (list_all p xs) e in
    All-cons P x xs (f x both.0) (passing p P f xs both.1)

-- ---- tagged numbers

lt-is : (a b : ℕ) → nat_lt a b ≡ true → a < b
lt-is a b e = grind arith

const_below : (c v t : ℕ) → leads_well c v t ≡ true → IsConstBelow c t
const_below c v t e k q =
    let tag : (t % 4 == 2) ≡ true = (let m : t % 4 ≡ 2 = grind arith in grind (arith, nat_tests)) in
    let index : t / 4 ≡ k = grind arith in
    let test : nat_lt (t / 4) c ≡ true = sym (ap (λ b. cond b (nat_lt (t / 4) c) (cond (t % 4 == 3) (nat_lt (t / 4) v) true)) tag) ∙ e in
    subst (λ n. n < c) index (lt-is (t / 4) c test)

virtual_below : (c v t : ℕ) → leads_well c v t ≡ true → IsVirtualBelow v t
virtual_below c v t e k q =
    let m : t % 4 ≡ 3 = grind arith in
    let no : (t % 4 == 2) ≡ false = grind (arith, nat_tests) in
    let tag : (t % 4 == 3) ≡ true = grind (arith, nat_tests) in
    let index : t / 4 ≡ k = grind arith in
    let test : nat_lt (t / 4) v ≡ true =
    sym (ap (λ b. cond b (nat_lt (t / 4) c) (cond (t % 4 == 3) (nat_lt (t / 4) v) true)) no ∙ ap (λ b. cond b (nat_lt (t / 4) v) true) tag) ∙ e in
    subst (λ n. n < v) index (lt-is (t / 4) v test)

no_virtual : (t : ℕ) → not (t % 4 == 3) ≡ true → IsNoVirtual t
no_virtual t e k q =
    let m : t % 4 ≡ 3 = grind arith in
    let tag : (t % 4 == 3) ≡ true = grind (arith, nat_tests) in
    absurd (let no : false ≡ true = sym (ap not tag) ∙ e in cc)

-- ---- the table

frames_lower : (c v : ℕ) (rows : List FrameRow) → list_all (frame_is_simple c v) rows ≡ true → HasLowerParents rows
frames_lower c v rows e k p row at q =
    let alone : All (λ (r : FrameRow). r.parent ≡ None) rows = passing (frame_is_simple c v) (λ (r : FrameRow). r.parent ≡ None) (λ r h. none_is r.parent (and_parts (is_none r.parent) (all_lead_well c v r.slots) h).0) rows e in
    let no : None ≡ Some p = sym (all_at (λ (r : FrameRow). r.parent ≡ None) rows k row alone at) ∙ q in
    absurd (cc)
  where
    none_is : (o : Option ℕ) → is_none o ≡ true → o ≡ None
    none_is None h = refl
    none_is (Some x) h = absurd (cc)

abbrev Leads : ℕ → ℕ → ℕ → Type 0
Leads c v t = leads_well c v t ≡ true

frame_leads : (c v : ℕ) (r : FrameRow) → frame_is_simple c v r ≡ true → All (Leads c v) r.slots
frame_leads c v r h = passing (leads_well c v) (Leads c v) (λ x e. e) r.slots (and_parts (is_none r.parent) (all_lead_well c v r.slots) h).1

virtual_leads : (c v : ℕ) (r : VirtualRow) → virtual_is_simple c v r ≡ true → All (Leads c v) r.parts
virtual_leads c v r h = passing (leads_well c v) (Leads c v) (λ x e. e) r.parts h

abbrev StoreLeads : ℕ → ℕ → PendingRow → Type 0
StoreLeads c v p = Leads c v p.base × Leads c v p.value × IsNoVirtual p.base

store_leads : (c v : ℕ) (p : PendingRow) → store_is_simple c v p ≡ true → StoreLeads c v p
store_leads c v p h =
    let outer = and_parts (leads_well c v p.base && leads_well c v p.value) (not (p.base % 4 == 3)) h in
    let inner = and_parts (leads_well c v p.base) (leads_well c v p.value) outer.0 in
    (inner.0, inner.1, no_virtual p.base outer.1)

constant_is : (a : Arg) → is_constant a ≡ true → IsConstant a
constant_is (arg.Of b) h = absurd (cc)
constant_is (arg.Const z) h = tt
constant_is arg.Null h = tt
constant_is (arg.Class k) h = absurd (cc)
constant_is (arg.Func k) h = absurd (cc)
constant_is (arg.Ptr k) h = tt

-- what a simple guard says
record Says (table : ResumeTable) (g : GuardRow) : Type 0 where
  frame : g.frame < length table.frames
  virtuals : All (λ k. k < length table.virtuals) g.virtuals
  lower : HasLowerParents table.frames
  slots : All (λ (r : FrameRow). All (Leads (length table.consts) (length g.virtuals)) r.slots) table.frames
  parts : All (λ (r : VirtualRow). All (Leads (length table.consts) (length g.virtuals)) r.parts) table.virtuals
  stores : All (StoreLeads (length table.consts) (length g.virtuals)) g.pending
  consts : All IsConstant table.consts

says : (table : ResumeTable) (g : GuardRow) → guard_is_simple table g ≡ true → Says table g
says table g e =
    let c = length table.consts in
    let v = length g.virtuals in
    let frame = nat_lt g.frame (length table.frames) in
    let rows = list_all (λ k. nat_lt k (length table.virtuals)) g.virtuals in
    let frames = list_all (frame_is_simple c v) table.frames in
    let parts = list_all (virtual_is_simple c v) table.virtuals in
    let stores = list_all (store_is_simple c v) g.pending in
    let consts = list_all is_constant table.consts in
    let e5 = and_parts (frame && rows && frames && parts && stores) consts e in
    let e4 = and_parts (frame && rows && frames && parts) stores e5.0 in
    let e3 = and_parts (frame && rows && frames) parts e4.0 in
    let e2 = and_parts (frame && rows) frames e3.0 in
    let e1 = and_parts frame rows e2.0 in
    record {
      frame = lt-is g.frame (length table.frames) e1.0;
      virtuals = passing (λ k. nat_lt k (length table.virtuals)) (λ k. k < length table.virtuals) (λ k h. lt-is k (length table.virtuals) h) g.virtuals e1.1;
      lower = frames_lower c v table.frames e2.1;
      slots = passing (frame_is_simple c v) (λ (r : FrameRow). All (Leads c v) r.slots) (frame_leads c v) table.frames e2.1;
      parts = passing (virtual_is_simple c v) (λ (r : VirtualRow). All (Leads c v) r.parts) (virtual_leads c v) table.virtuals e3.1;
      stores = passing (store_is_simple c v) (StoreLeads c v) (store_leads c v) g.pending e4.1;
      consts = passing is_constant IsConstant constant_is table.consts e5.1;
    }

-- each guard of a list of one is this one
alone : (P : GuardRow → Type 0) (gs : List GuardRow) (g : GuardRow) → gs ≡ g ∷ [] → P g → All P gs
alone P gs g e p = subst (All P) (sym e) (λ k d lt. only k d lt)
  where
    only : (k : ℕ) (d : GuardRow) → k < 1 → P (slice_index_or (g ∷ []) k d)
    only zero d lt = p
    only (suc k) d lt = absurd (omega arith)

apart_alone : (gs : List GuardRow) (g : GuardRow) → gs ≡ g ∷ [] → AreApart (map (λ (r : GuardRow). r.guard) gs)
apart_alone gs g e = subst (λ xs. AreApart (map (λ (r : GuardRow). r.guard) xs)) (sym e) (none, tt)
  where
    none : Contains {X = ℕ} [] g.guard → ⊥
    none h = (let lt : h.0 < 0 = h.1 in absurd (omega arith))

one_of : (gs : List GuardRow) → (length gs == 1) ≡ true → (g : GuardRow) × (gs ≡ g ∷ [])
one_of [] e = absurd (cc)
one_of (g ∷ []) e = (g, refl)
one_of (g ∷ h ∷ gs) e = absurd (let two : length (g ∷ h ∷ gs) ≡ 1 = eqb-true (length (g ∷ h ∷ gs)) 1 e in let some : length (g ∷ h ∷ gs) ≡ suc (suc (length gs)) = refl in omega arith)

lawful_with : (table : ResumeTable) (g : GuardRow) → table.guards ≡ g ∷ [] → Says table g → IsLawful table
lawful_with table g e s =
    let c = length table.consts in
    let v = length g.virtuals in
    let slot_consts : (r : FrameRow) → All (Leads c v) r.slots → All (IsConstBelow c) r.slots = λ r h. all_weaker (Leads c v) (IsConstBelow c) r.slots (const_below c v) h in
    let part_consts : (r : VirtualRow) → All (Leads c v) r.parts → All (IsConstBelow c) r.parts = λ r h. all_weaker (Leads c v) (IsConstBelow c) r.parts (const_below c v) h in
    let leads : LeadsOnlyTo table.frames table.virtuals g (IsVirtualBelow v) =
    record {
      slots = λ n k row o at. all_weaker (Leads c v) (IsVirtualBelow v) row.slots (virtual_below c v) (all_at (λ (r : FrameRow). All (Leads c v) r.slots) table.frames k row s.slots at);
      parts = λ n k row o at. all_weaker (Leads c v) (IsVirtualBelow v) row.parts (virtual_below c v) (all_at (λ (r : VirtualRow). All (Leads c v) r.parts) table.virtuals k row s.parts at);
      bases = all_weaker (StoreLeads c v) (λ (p : PendingRow). IsVirtualBelow v p.base) g.pending (λ p h. virtual_below c v p.base h.0) s.stores;
      values = all_weaker (StoreLeads c v) (λ (p : PendingRow). IsVirtualBelow v p.value) g.pending (λ p h. virtual_below c v p.value h.1) s.stores;
    } in
    record {
      guards_once = apart_alone table.guards g e;
      parents_lower = s.lower;
      guard_frames = alone (λ (r : GuardRow). r.frame < length table.frames) table.guards g e s.frame;
      guard_virtuals = alone (λ (r : GuardRow). All (λ k. k < length table.virtuals) r.virtuals) table.guards g e s.virtuals;
      slot_constants = all_weaker (λ (r : FrameRow). All (Leads c v) r.slots) (λ (r : FrameRow). All (IsConstBelow c) r.slots) table.frames slot_consts s.slots;
      part_constants = all_weaker (λ (r : VirtualRow). All (Leads c v) r.parts) (λ (r : VirtualRow). All (IsConstBelow c) r.parts) table.virtuals part_consts s.parts;
      store_constants = alone (StoresKeep c) table.guards g e (all_weaker (StoreLeads c v) (λ (p : PendingRow). IsConstBelow c p.base × IsConstBelow c p.value) g.pending (λ p h. (const_below c v p.base h.0, const_below c v p.value h.1)) s.stores);
      own_virtuals = alone (λ (r : GuardRow). LeadsOnlyTo table.frames table.virtuals r (IsVirtualBelow (length r.virtuals))) table.guards g e leads;
      constants = s.consts;
      bases = alone (λ (r : GuardRow). All (λ (p : PendingRow). IsNoVirtual p.base) r.pending) table.guards g e (all_weaker (StoreLeads c v) (λ (p : PendingRow). IsNoVirtual p.base) g.pending (λ p h. h.2) s.stores);
    }

pub simple_lawful : (table : ResumeTable) → is_simple table ≡ true → IsLawful table
simple_lawful table e =
    let both = and_parts (length table.guards == 1) (first_is_simple table (slice_get table.guards 0)) e in
    let one = one_of table.guards both.0 in
    let first : guard_is_simple table one.0 ≡ true = sym (ap (λ gs. first_is_simple table (slice_get gs 0)) one.1) ∙ both.1 in
    lawful_with table one.0 one.1 (says table one.0 first)

pub first_row : (table : ResumeTable) (guard : ℕ) → first_has guard (slice_get table.guards 0) ≡ true → HasRow table guard
first_row table guard e = by_first (slice_get table.guards 0) refl e
  where
    by_first : (q : Option GuardRow) → slice_get table.guards 0 ≡ q → first_has guard q ≡ true → HasRow table guard
    by_first None at h = absurd (cc)
    by_first (Some g) at h = (g, record { place = 0; stands = at; number = eqb-true g.guard guard h })

-- ---- shapes

shape_is : (x s : ShapeOf) → same_shape x s ≡ true → x ≡ s
shape_is (Size a) (Size b) e = ap Size (eqb-true a b e)
shape_is (Size a) (Array b) e = absurd (cc)
shape_is (Array a) (Size b) e = absurd (cc)
shape_is (Array a) (Array b) e = ap Array (eqb-true a b e)

named : (t : Table) (s : ShapeOf) → names_row t s ≡ true → NamesShape t s
named t (Size k) e = lt-is k (length t.sizes) e
named t (Array k) e = lt-is k (length t.arrays) e

listed : (xs : List ShapeOf) (s : ShapeOf) → list_any (λ x. same_shape x s) xs ≡ true → (k : ℕ) × (slice_get xs k ≡ Some s)
listed [] s e = absurd (cc)
listed (x ∷ xs) s e = by_first (same_shape x s) refl (listed xs s)
  where
    by_first : (b : Bool) → same_shape x s ≡ b → (list_any (λ y. same_shape y s) xs ≡ true → (k : ℕ) × (slice_get xs k ≡ Some s)) → (k : ℕ) × (slice_get (x ∷ xs) k ≡ Some s)
    by_first true q more = (0, ap Some (shape_is x s q))
    by_first false q more =
        let rest = more (sym (ap (λ b. b || list_any (λ y. same_shape y s) xs) q) ∙ e) in
        (suc rest.0, rest.1)

known_is : (t : Table) (s : ShapeOf) → is_known t s ≡ true → IsKnown t s
known_is t s e =
    let both = and_parts (list_any (λ x. same_shape x s) t.shapes) (names_row t s) e in
    let at = listed t.shapes s both.0 in
    ((at.0, slice_get_within t.shapes at.0 s at.1, get_or_from_slice_get t.shapes at.0 s s at.1), named t s both.1)

-- rows that are there have shapes that are known
rows_known : (t : Table) (rows : List VirtualRow) (ks : List ℕ) → All (λ (r : VirtualRow). IsKnown t r.of) rows → All (λ (r : VirtualRow). IsKnown t r.of) (rows_at rows ks)
rows_known t rows [] h = λ k d lt. absurd (omega arith)
rows_known t rows (k ∷ ks) h = by_row (slice_get rows k) refl (rows_known t rows ks h)
  where
    by_row : (q : Option VirtualRow) → slice_get rows k ≡ q → All (λ (r : VirtualRow). IsKnown t r.of) (rows_at rows ks) → All (λ (r : VirtualRow). IsKnown t r.of) (with_row q (rows_at rows ks))
    by_row None e more = more
    by_row (Some row) e more = All-cons (λ (r : VirtualRow). IsKnown t r.of) row (rows_at rows ks) (all_at (λ (r : VirtualRow). IsKnown t r.of) rows k row h e) more

pub shapes_known : (t : Table) (table : ResumeTable) (guard : ℕ) → all_known t table.virtuals ≡ true → ShapesAreKnown t table guard
shapes_known t table guard e row is = rows_known t table.virtuals row.virtuals (passing (λ (r : VirtualRow). is_known t r.of) (λ (r : VirtualRow). IsKnown t r.of) (λ r h. known_is t r.of h) table.virtuals e)
