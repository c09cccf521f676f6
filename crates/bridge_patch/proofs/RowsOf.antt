-- The rows of exits, and the operations of which they are.
use Rattle.std.proofs.Common.{◌≡◌, ℕ, zero, suc, ◌+◌, Bool, true, false, cond, ◌&&◌, List, [], ◌∷◌, ◌++◌, length, Option, Some, None, refl, sym, ap, ◌∙◌, subst, arith, inl, inr, ◌⊎◌}
use Rattle.std.specs.Prelude.{map}
use Rattle.std.specs.List.{Contains}
use Rattle.std.proofs.lemmas.List.Elements.{Contains-append_left, Contains-append_right, Contains-append_cases}
use Rattle.trace_ops.specs.declared.trace.BoxId.{BoxId}
use Rattle.trace_ops.specs.declared.piece.Half.{Half}
use Rattle.trace_ops.specs.declared.piece.Half.TheVariants.{Pre, Body}
use Rattle.trace_ops.specs.declared.piece.PieceId.{PieceId}
use Rattle.trace_ops.specs.declared.piece.OptOp.{OptOp}
use Rattle.trace_ops.specs.declared.piece.OptOp.TheVariants as opt
use Rattle.target_base.specs.declared.place.Place.{Place}
use Rattle.guard_exit.specs.declared.row.ExitRow.{ExitRow}
use Rattle.asm_select.specs.Chosen.{Where}
use Rattle.asm_select.specs.Exited.{shown_by}
use Rattle.asm_select.specs.Laid.{has_stub}
use Rattle.bridge_patch.specs.Pieces.{Placed, boxes_at, rows_of_op, rows_from, displacement_of, rows_of, all_rows}
use Rattle.bridge_patch.specs.Bridged.{comes_from}
use Rattle.bridge_patch.specs.Attached.{guard_of}
use Rattle.bridge_patch.specs.Bridging.{same_half, row_places, places_by}

single : {X : Type 0} (x y : X) → Contains (x ∷ []) y → x ≡ y
single x y (zero, lt, e) = e
single x y (suc i, lt, e) = absurd (omega (arith, lt))

nothing : {X : Type 0} (y : X) → Contains {X = X} [] y → ⊥
nothing y (i, lt, e) = omega (arith, lt)

some_none : {X : Type 0} {x : X} → None ≡ Some x → ⊥
some_none e = cc

-- a guard's row is that of an operation
pub record OfOp (at : Where) (id : PieceId) (place : ℕ → ℕ) (k : ℕ) (ops : List OptOp) (row : ExitRow) : Type 0 where
  pub done : List OptOp
  pub op : OptOp
  pub rest : List OptOp
  pub split : ops ≡ done ++ op ∷ rest
  pub guard : guard_of op ≡ row.guard
  pub id_is : row.id ≡ id
  pub places : row.places ≡ boxes_at at (shown_by op)
  pub at_is : row.at ≡ place (k + length done)

one_row : (at : Where) (id : PieceId) (place : ℕ → ℕ) (exit k n : ℕ) (op : OptOp) (ops : List OptOp) (row : ExitRow) → Contains (rows_of_op at id exit (place k) op) row → row.guard ≡ Some n → OfOp at id place k (op ∷ ops) row
one_row at id place exit k n (opt.Plain operation r args d) ops row h g = absurd (nothing row h)
one_row at id place exit k n (opt.Guard operation args m snap) ops row h g =
    let e = single _ row h in
    record { done = []; op = opt.Guard operation args m snap; rest = ops; split = refl; guard = ap (λ (r : ExitRow). r.guard) e; id_is = sym (ap (λ (r : ExitRow). r.id) e); places = sym (ap (λ (r : ExitRow). r.places) e); at_is = sym (ap (λ (r : ExitRow). r.at) e) ∙ ap place (omega arith) }
one_row at id place exit k n (opt.Exit m snap) ops row h g =
    let e = single _ row h in
    record { done = []; op = opt.Exit m snap; rest = ops; split = refl; guard = ap (λ (r : ExitRow). r.guard) e; id_is = sym (ap (λ (r : ExitRow). r.id) e); places = sym (ap (λ (r : ExitRow). r.places) e); at_is = sym (ap (λ (r : ExitRow). r.at) e) ∙ ap place (omega arith) }
one_row at id place exit k n (opt.Jump to args) ops row h g = absurd (nothing row h)
one_row at id place exit k n (opt.Finish value) ops row h g = absurd (some_none (ap (λ (r : ExitRow). r.guard) (single _ row h) ∙ g))

pub row_is : (at : Where) (id : PieceId) (place : ℕ → ℕ) (exit k n : ℕ) (ops : List OptOp) (row : ExitRow) → Contains (rows_from at id place exit k ops) row → row.guard ≡ Some n → OfOp at id place k ops row
row_is at id place exit k n [] row h g = absurd (nothing row h)
row_is at id place exit k n (op ∷ ops) row h g =
    by (Contains-append_cases (rows_of_op at id exit (place k) op) (rows_from at id place (exit + cond (has_stub op) 1 0) (k + 1) ops) row h) (λ c. row_is at id place (exit + cond (has_stub op) 1 0) (k + 1) n ops row c g)
  where
    by : Contains (rows_of_op at id exit (place k) op) row ⊎ Contains (rows_from at id place (exit + cond (has_stub op) 1 0) (k + 1) ops) row
        → (Contains (rows_from at id place (exit + cond (has_stub op) 1 0) (k + 1) ops) row → OfOp at id place (k + 1) ops row) → OfOp at id place k (op ∷ ops) row
    by (inl c) later = one_row at id place exit k n op ops row c g
    by (inr c) later =
        let r = later c in
        let m : k + 1 + length r.done ≡ k + suc (length r.done) = omega arith in
        record { done = op ∷ r.done; op = r.op; rest = r.rest; split = ap (λ (l : List OptOp). op ∷ l) r.split; guard = r.guard; id_is = r.id_is; places = r.places; at_is = r.at_is ∙ ap place m }

-- of a placed piece
pub record OfPlaced (placed : List Placed) (row : ExitRow) : Type 0 where
  pub pl : Placed
  pub there : Contains placed pl
  pub of : OfOp pl.setting.at pl.piece.id (displacement_of pl) 0 pl.piece.ops row

contains_head : {X : Type 0} (x : X) (xs : List X) → Contains (x ∷ xs) x
contains_head x xs = (0, omega arith, refl)

contains_tail : {X : Type 0} (x y : X) (xs : List X) → Contains xs y → Contains (x ∷ xs) y
contains_tail x y xs (i, lt, e) = (suc i, omega (arith, lt), e)

pub row_placed : (placed : List Placed) (row : ExitRow) (n : ℕ) → Contains (all_rows placed) row → row.guard ≡ Some n → OfPlaced placed row
row_placed [] row n h g = absurd (nothing row h)
row_placed (pl ∷ pls) row n h g = by (Contains-append_cases (rows_of pl) (all_rows pls) row h) (λ c. row_placed pls row n c g)
  where
    by : Contains (rows_of pl) row ⊎ Contains (all_rows pls) row → (Contains (all_rows pls) row → OfPlaced pls row) → OfPlaced (pl ∷ pls) row
    by (inl c) later = record { pl = pl; there = contains_head pl pls; of = row_is pl.setting.at pl.piece.id (displacement_of pl) pl.exit 0 n pl.piece.ops row c g }
    by (inr c) later = let r = later c in record { pl = r.pl; there = contains_tail pl r.pl pls r.there; of = r.of }

-- ---- and each operation that is a guard has a row

pub record HasRow (id : PieceId) (op : OptOp) (rows : List ExitRow) : Type 0 where
  pub row : ExitRow
  pub there : Contains rows row
  pub guard : row.guard ≡ guard_of op
  pub id_is : row.id ≡ id

op_row : (at : Where) (id : PieceId) (exit place n : ℕ) (op : OptOp) → guard_of op ≡ Some n → HasRow id op (rows_of_op at id exit place op)
op_row at id exit place n (opt.Plain operation r args d) g = absurd (some_none g)
op_row at id exit place n (opt.Guard operation args m snap) g = record { row = _; there = contains_head _ []; guard = refl; id_is = refl }
op_row at id exit place n (opt.Exit m snap) g = record { row = _; there = contains_head _ []; guard = refl; id_is = refl }
op_row at id exit place n (opt.Jump to args) g = absurd (some_none g)
op_row at id exit place n (opt.Finish value) g = absurd (some_none g)

pub has_row : (at : Where) (id : PieceId) (place : ℕ → ℕ) (exit k n : ℕ) (ops : List OptOp) (op : OptOp) → Contains ops op → guard_of op ≡ Some n → HasRow id op (rows_from at id place exit k ops)
has_row at id place exit k n [] op h g = absurd (nothing op h)
has_row at id place exit k n (x ∷ xs) op (zero, lt, e) g =
    let r = op_row at id exit (place k) n x (ap guard_of e ∙ g) in
    record { row = r.row; there = Contains-append_left (rows_of_op at id exit (place k) x) (rows_from at id place (exit + cond (has_stub x) 1 0) (k + 1) xs) r.row r.there; guard = r.guard ∙ ap guard_of e; id_is = r.id_is }
has_row at id place exit k n (x ∷ xs) op (suc i, lt, e) g =
    let r = has_row at id place (exit + cond (has_stub x) 1 0) (k + 1) n xs op (i, omega (arith, lt), e) g in
    record { row = r.row; there = Contains-append_right (rows_of_op at id exit (place k) x) (rows_from at id place (exit + cond (has_stub x) 1 0) (k + 1) xs) r.row r.there; guard = r.guard; id_is = r.id_is }

pub placed_row : (placed : List Placed) (pl : Placed) (op : OptOp) (n : ℕ) → Contains placed pl → Contains pl.piece.ops op → guard_of op ≡ Some n → HasRow pl.piece.id op (all_rows placed)
placed_row [] pl op n h m g = absurd (nothing pl h)
placed_row (x ∷ xs) pl op n (zero, lt, e) m g =
    let r = has_row x.setting.at x.piece.id (displacement_of x) x.exit 0 n x.piece.ops op (subst (λ (z : Placed). Contains z.piece.ops op) (sym e) m) g in
    record { row = r.row; there = Contains-append_left (rows_of x) (all_rows xs) r.row r.there; guard = r.guard; id_is = r.id_is ∙ ap (λ (z : Placed). z.piece.id) e }
placed_row (x ∷ xs) pl op n (suc i, lt, e) m g =
    let r = placed_row xs pl op n (i, omega (arith, lt), e) m g in
    record { row = r.row; there = Contains-append_right (rows_of x) (all_rows xs) r.row r.there; guard = r.guard; id_is = r.id_is }

-- ---- the first row of a half

pub record FirstRow (source : Option (ℕ × ℕ)) (h : Half) (rows : List ExitRow) : Type 0 where
  pub row : ExitRow
  pub there : Contains rows row
  pub copy : comes_from source row.id.trace row.guard ≡ true
  pub half : row.id.half ≡ h
  pub is : places_by source h rows ≡ row_places row

halves_same : (a b : Half) → same_half a b ≡ true → a ≡ b
halves_same Pre Pre e = refl
halves_same Body Body e = refl
halves_same Pre Body e = absurd (false_true e)
  where
    false_true : false ≡ true → ⊥
    false_true e = cc
halves_same Body Pre e = absurd (false_true e)
  where
    false_true : false ≡ true → ⊥
    false_true e = cc

half_self : (h : Half) → same_half h h ≡ true
half_self Pre = refl
half_self Body = refl

pub and_left : (b c : Bool) → b && c ≡ true → b ≡ true
and_left true c e = refl
and_left false c e = e

pub and_right : (b c : Bool) → b && c ≡ true → c ≡ true
and_right true c e = e
and_right false c e = absurd (false_true e)
  where
    false_true : false ≡ true → ⊥
    false_true e = cc

pub first_row : (source : Option (ℕ × ℕ)) (h : Half) (rows : List ExitRow) (row : ExitRow) → Contains rows row → comes_from source row.id.trace row.guard ≡ true → row.id.half ≡ h → FirstRow source h rows
first_row source h [] row there copy half = absurd (nothing row there)
first_row source h (x ∷ xs) row there copy half = by (comes_from source x.id.trace x.guard && same_half x.id.half h) refl (tail there) (λ t. first_row source h xs row t copy half)
  where
    tail : Contains (x ∷ xs) row → (comes_from source x.id.trace x.guard && same_half x.id.half h ≡ true) ⊎ Contains xs row
    tail (zero, lt, e) =
        let c : comes_from source x.id.trace x.guard ≡ true = ap (λ (r : ExitRow). comes_from source r.id.trace r.guard) e ∙ copy in
        let k : x.id.half ≡ h = ap (λ (r : ExitRow). r.id.half) e ∙ half in
        inl (ap (λ (b : Bool). b && same_half x.id.half h) c ∙ ap (λ (y : Half). same_half y h) k ∙ half_self h)
    tail (suc i, lt, e) = inr (i, omega (arith, lt), e)

    by : (b : Bool) → comes_from source x.id.trace x.guard && same_half x.id.half h ≡ b → (comes_from source x.id.trace x.guard && same_half x.id.half h ≡ true) ⊎ Contains xs row → (Contains xs row → FirstRow source h xs) → FirstRow source h (x ∷ xs)
    by true e t later = record { row = x; there = contains_head x xs; copy = and_left _ _ e; half = halves_same x.id.half h (and_right _ _ e); is = ap (λ (b : Bool). cond b (row_places x) (places_by source h xs)) e }
    by false e (inl t) later = absurd (false_true (sym e ∙ t))
      where
        false_true : false ≡ true → ⊥
        false_true e = cc
    by false e (inr t) later =
        let r = later t in
        record { row = r.row; there = contains_tail x r.row xs r.there; copy = r.copy; half = r.half; is = ap (λ (b : Bool). cond b (row_places x) (places_by source h xs)) e ∙ r.is }

pub shown_row : (at : Where) (row : ExitRow) (bs : List BoxId) → row.places ≡ boxes_at at bs → row_places row ≡ map (λ (b : BoxId). at b.number) bs
shown_row at row bs e = ap (map (λ (x : BoxId × Place). x.1)) e ∙ mapped bs
  where
    mapped : (bs : List BoxId) → map (λ (x : BoxId × Place). x.1) (boxes_at at bs) ≡ map (λ (b : BoxId). at b.number) bs
    mapped [] = refl
    mapped (b ∷ bs) = ap (λ (l : List Place). at b.number ∷ l) (mapped bs)
