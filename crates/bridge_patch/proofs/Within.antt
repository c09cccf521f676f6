-- The displacements that are patched stand in the code, and what a bridge's pieces take has room.
use Rattle.std.proofs.Common.{◌≡◌, ℕ, zero, suc, ◌+◌, ◌<◌, ◌≤◌, ◌^◌, Bool, true, false, cond, List, [], ◌∷◌, ◌++◌, length, Option, refl, sym, ap, ◌∙◌, subst, arith, inl, inr, ℤ}
use Rattle.std.specs.Prelude.{map}
use Rattle.std.specs.List.{AllZip, Contains}
use Rattle.trace_ops.specs.declared.trace.TraceSet.{TraceSet}
use Rattle.trace_ops.specs.declared.piece.PieceId.{PieceId}
use Rattle.trace_ops.specs.declared.piece.Piece.{Piece}
use Rattle.opt_meaning.specs.Pieces.{same_piece}
use Rattle.guard_exit.specs.declared.row.ExitRow.{ExitRow}
use Rattle.guard_exit.specs.Codes.{common_code}
use Rattle.asm_select.specs.Slots.{Slot, Put, Leave, Go, size_of, sizes_of}
use Rattle.code_layout.specs.Leading.{JumpIs}
use Rattle.code_layout.specs.Chosen.{ChosenJumps}
use Rattle.bridge_patch.specs.declared.image.PieceHere.{PieceHere}
use Rattle.bridge_patch.specs.declared.laying.Laid.{Laid}
use Rattle.bridge_patch.specs.Pieces.{Placed, body_of, start_of, end_of, exits_in, spelled, displacement_of, AreLaid}
use Rattle.bridge_patch.specs.Image.{Imaged, AreHere}
use Rattle.bridge_patch.specs.Bridged.{comes_from, is_from, source_of}
use Rattle.bridge_patch.specs.Attached.{IsStanding, IsImageOf, IsPatch, IsChanged, all_patched, begin_in, begin_among, words_for}
use Rattle.bridge_patch.specs.Bridging.{CanLay, IsLaidBehind, ArePatches, AreWithin, PatchesWithin, copies_by}
use Rattle.bridge_patch.proofs.Coming.{source_is}
use Rattle.bridge_patch.proofs.RowsOf.{row_placed}
use Rattle.bridge_patch.proofs.Seating.{all_in, from_some}
use Rattle.bridge_patch.proofs.Allowed.{laid_between}
use Rattle.bridge_patch.proofs.Patched.{copy_jumps}
use Rattle.bridge_patch.proofs.Lookups.{begin_here}
use Rattle.bridge_patch.proofs.Grown.{copies_same}

-- ---- displacements

jump_within : (k at p : ℕ) (xs : List Slot) → JumpIs k at p xs → at + 4 ≤ p + sizes_of xs
jump_within k at p [] h = absurd h
jump_within k at p (Put i ∷ xs) h = omega (arith, jump_within k at (p + size_of (Put i)) xs h)
jump_within k at p (Leave c j ∷ xs) (inl h) = omega (arith, h.1)
jump_within k at p (Leave c j ∷ xs) (inr h) = omega (arith, jump_within k at (p + 6) xs h)
jump_within k at p (Go j ∷ xs) (inl h) = omega (arith, h.1)
jump_within k at p (Go j ∷ xs) (inr h) = omega (arith, jump_within k at (p + 5) xs h)

placed_within : (at e : ℕ) (pls : List Placed) (end last : ℕ) (pl : Placed) → AreLaid at e pls end last → Contains pls pl → end_of pl ≤ end
placed_within at e [] end last pl h (i, lt, s) = absurd (omega (arith, lt))
placed_within at e (x ∷ xs) end last pl h (zero, lt, s) = subst (λ (y : Placed). end_of y ≤ end) s (omega (arith, (laid_between (end_of x) (e + exits_in x.piece.ops) xs end last h.2).1))
placed_within at e (x ∷ xs) end last pl h (suc i, lt, s) = placed_within (end_of x) (e + exits_in x.piece.ops) xs end last pl h.2 (i, omega (arith, lt), s)

row_within : ChosenJumps → (set : TraceSet) (placed : List Placed) (image : Imaged) (bridge : ℕ) (row : ExitRow) → IsImageOf set placed image → Contains image.exits row → is_from set.traces bridge row.id.trace row.guard ≡ true → row.at + 4 ≤ length image.bytes
row_within chosen set placed image bridge row im there copy =
    let (n, g) = from_some set.traces bridge row.id.trace row.guard copy in
    let o = row_placed placed row n (subst (λ (l : List ExitRow). Contains l row) im.exits there) g in
    let words = words_for set image.attached in
    let st = all_in (IsStanding set image.registers words) placed o.pl im.standing o.there in
    let jump = copy_jumps chosen set image.registers words o.pl o.of.done o.of.rest o.of.op n st o.of.split (o.of.guard ∙ g) in
    let zero_more : 0 + length o.of.done ≡ length o.of.done = omega arith in
    let at : row.at ≡ jump.at = o.of.at_is ∙ ap (displacement_of o.pl) zero_more ∙ jump.noted in
    omega (arith, at, jump_within (length o.of.done) jump.at (start_of o.pl) (body_of o.pl) jump.is, placed_within (length (spelled common_code)) 0 placed (length image.bytes) im.last o.pl im.laid o.there)

within_each : (n : ℕ) (source : Option (ℕ × ℕ)) (all rows : List ExitRow) → ((row : ExitRow) → Contains all row → comes_from source row.id.trace row.guard ≡ true → row.at + 4 ≤ n) → ((row : ExitRow) → Contains rows row → Contains all row) → AreWithin n (copies_by source rows)
within_each n source all [] f g = tt
within_each n source all (x ∷ xs) f g = by (comes_from source x.id.trace x.guard) refl (within_each n source all xs f (λ row c. g row (later row c)))
  where
    later : (row : ExitRow) → Contains xs row → Contains (x ∷ xs) row
    later row (i, lt, e) = (suc i, omega (arith, lt), e)

    by : (b : Bool) → comes_from source x.id.trace x.guard ≡ b → AreWithin n (copies_by source xs) → AreWithin n (cond b (x ∷ copies_by source xs) (copies_by source xs))
    by true e h = (f x (g x (0, omega arith, refl)) e, h)
    by false e h = h

pub rows_within : ChosenJumps → (set : TraceSet) (placed : List Placed) (image : Imaged) (bridge : ℕ) → IsImageOf set placed image → AreWithin (length image.bytes) (copies_by (source_of set.traces bridge) image.exits)
rows_within chosen set placed image bridge im =
    within_each (length image.bytes) (source_of set.traces bridge) image.exits image.exits
    (λ row c e. row_within chosen set placed image bridge row im c (sym (source_is set.traces bridge row.id.trace row.guard) ∙ e)) (λ row c. c)

pub patches_within : (n more bridge : ℕ) (old : List ℕ) (heres : List PieceHere) (rows : List ExitRow) (patches : List (ℕ × ℤ × ℤ)) → AreWithin n rows → AllZip (IsPatch bridge old heres) rows patches → PatchesWithin (n + more) patches
patches_within n more bridge old heres [] [] w h = tt
patches_within n more bridge old heres [] (p ∷ ps) w h = absurd h
patches_within n more bridge old heres (row ∷ rows) [] w h = absurd h
patches_within n more bridge old heres (row ∷ rows) (p ∷ ps) w h = (omega (arith, h.0.at, w.0), patches_within n more bridge old heres rows ps w.1 h.1)

-- ---- the bridge's pieces

begin_if : (b : Bool) (x y n : ℕ) → x ≤ n → y ≤ n → cond b x y ≤ n
begin_if true x y n a c = a
begin_if false x y n a c = c

begin_low : (at e : ℕ) (pls : List Placed) (end last : ℕ) (q : PieceId) → AreLaid at e pls end last → begin_in pls q ≤ end
begin_low at e [] end last q h = omega arith
begin_low at e (pl ∷ pls) end last q h =
    begin_if (same_piece q pl.piece.id) pl.at (begin_in pls q) end (omega (arith, (laid_between (end_of pl) (e + exits_in pl.piece.ops) pls end last h.2).1)) (begin_low (end_of pl) (e + exits_in pl.piece.ops) pls end last q h.2)

pub behind_few : (set : TraceSet) (image : Imaged) (source : Option (ℕ × ℕ)) (pieces : List Piece) (laid : Laid) → CanLay set image source pieces → IsLaidBehind set image source pieces laid → length image.bytes + length laid.bytes.items < 2 ^ 31
behind_few set image source pieces laid can h = omega (arith, can.room, h.short)

pub begins_few : (set : TraceSet) (image : Imaged) (source : Option (ℕ × ℕ)) (pieces : List Piece) (laid : Laid) (q : PieceId) → CanLay set image source pieces → IsLaidBehind set image source pieces laid → begin_among laid.pieces.items q < 2 ^ 31
begins_few set image source pieces laid q can h =
    omega (arith, begin_here h.news laid.pieces.items q h.heres, begin_low (length image.bytes) (length image.exits) h.news h.end h.last q h.follow, h.place, behind_few set image source pieces laid can h)

-- ---- what has changed

names_here : (pls : List Placed) (hs : List PieceHere) → AreHere pls hs → map (λ (y : PieceHere). y.id) hs ≡ map (λ (p : Piece). p.id) (map (λ (pl : Placed). pl.piece) pls)
names_here [] [] h = refl
names_here [] (y ∷ ys) h = absurd h
names_here (pl ∷ pls) [] h = absurd h
names_here (pl ∷ pls) (y ∷ ys) h =
    ap (λ (q : PieceId). q ∷ map (λ (z : PieceHere). z.id) ys) h.0.id ∙ ap (λ (l : List PieceId). pl.piece.id ∷ l) (names_here pls ys h.1)

pub changed : (set : TraceSet) (bridge : ℕ) (pieces : List Piece) (old new : Imaged) (laid : Laid) (patches : List (ℕ × ℤ × ℤ)) → IsLaidBehind set old (source_of set.traces bridge) pieces laid
    → ArePatches bridge old.bytes laid.pieces.items (copies_by (source_of set.traces bridge) old.exits) patches
    → new.bytes ≡ all_patched patches (old.bytes ++ laid.bytes.items) → new.exits ≡ old.exits ++ laid.exits.items → new.pieces ≡ old.pieces ++ laid.pieces.items → new.attached ≡ old.attached ++ bridge ∷ []
    → new.changes ≡ old.changes ++ (record { bridge = bridge; from = length old.bytes; len = length laid.bytes.items; patches = patches }) ∷ [] → IsChanged set bridge pieces old new
changed set bridge pieces old new laid patches h are b e p a c = record {
  appended = laid.bytes.items;
  rows = laid.exits.items;
  heres = laid.pieces.items;
  change = record { bridge = bridge; from = length old.bytes; len = length laid.bytes.items; patches = patches };
  bytes = b;
  exits = e;
  pieces_here = p;
  names = names_here h.news laid.pieces.items h.heres ∙ ap (map (λ (x : Piece). x.id)) h.are;
  attached = a;
  changes = c;
  named = refl;
  from = refl;
  len = refl;
  patches = subst (λ (l : List ExitRow). AllZip (IsPatch bridge old.bytes laid.pieces.items) l patches) (copies_same set.traces bridge old.exits) are;
}

-- ---- by what the function has of its arguments

pub behind_of : (set : TraceSet) (image : Imaged) (source source' : Option (ℕ × ℕ)) (pieces pieces' : List Piece) (laid : Laid) → source ≡ source' → pieces ≡ pieces' → IsLaidBehind set image source pieces laid → IsLaidBehind set image source' pieces' laid
behind_of set image source source' pieces pieces' laid s p h =
    subst (λ (x : Option (ℕ × ℕ)). IsLaidBehind set image x pieces' laid) s (subst (λ (ps : List Piece). IsLaidBehind set image source ps laid) p h)

pub within_of : (n n' : ℕ) (source source' : Option (ℕ × ℕ)) (rows rows' : List ExitRow) → n ≡ n' → source ≡ source' → rows ≡ rows' → AreWithin n' (copies_by source' rows') → AreWithin n (copies_by source rows)
within_of n n' source source' rows rows' a s r h =
    subst (λ (m : ℕ). AreWithin m (copies_by source rows)) (sym a) (subst (λ (x : Option (ℕ × ℕ)). AreWithin n' (copies_by x rows)) (sym s) (subst (λ (l : List ExitRow). AreWithin n' (copies_by source' l)) (sym r) h))

pub patches_of : (bridge : ℕ) (old old' : List ℕ) (heres heres' : List PieceHere) (source source' : Option (ℕ × ℕ)) (rows rows' : List ExitRow) (patches : List (ℕ × ℤ × ℤ)) → old ≡ old' → heres ≡ heres' → source ≡ source' → rows ≡ rows'
    → ArePatches bridge old heres (copies_by source rows) patches → ArePatches bridge old' heres' (copies_by source' rows') patches
patches_of bridge old old' heres heres' source source' rows rows' patches o e s r h =
    subst (λ (l : List ExitRow). ArePatches bridge old' heres' (copies_by source' l) patches) r
    (subst (λ (x : Option (ℕ × ℕ)). ArePatches bridge old' heres' (copies_by x rows) patches) s
    (subst (λ (l : List PieceHere). ArePatches bridge old' l (copies_by source rows) patches) e (subst (λ (l : List ℕ). ArePatches bridge l heres (copies_by source rows) patches) o h)))
