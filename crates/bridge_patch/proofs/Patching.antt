-- The patches of the copies of a guard, one after the other.
use Rattle.std.proofs.Common.{◌≡◌, ℕ, zero, suc, ◌+◌, ◌-◌, ◌<◌, ◌≤◌, List, [], ◌∷◌, ◌++◌, length, take, drop, get_or, min, refl, sym, ap, ◌∙◌, subst, arith, append-nil, append_assoc, drop-cons, Option, ℤ, Bool, true, false, cond}
use Rattle.std.specs.Int.{to_le_bytes, cast_unsigned, w32}
use Rattle.std.specs.List.{AllZip}
use Rattle.guard_exit.specs.declared.row.ExitRow.{ExitRow}
use Rattle.bridge_patch.specs.declared.image.PieceHere.{PieceHere}
use Rattle.bridge_patch.specs.Attached.{IsPatch, StandsAt}
use Rattle.bridge_patch.specs.Bridged.{comes_from}
use Rattle.bridge_patch.specs.Bridging.{ArePatches, AreWithin, copies_by}

-- ---- the displacement at a place

four_first : (bs : List ℕ) → 4 ≤ length bs → take 4 bs ≡ get_or bs 0 0 ∷ get_or bs 1 0 ∷ get_or bs 2 0 ∷ get_or bs 3 0 ∷ []
four_first [] le = absurd (omega (arith, le))
four_first (a ∷ []) le = absurd (omega (arith, le))
four_first (a ∷ b ∷ []) le = absurd (omega (arith, le))
four_first (a ∷ b ∷ c ∷ []) le = absurd (omega (arith, le))
four_first (a ∷ b ∷ c ∷ d ∷ bs) le = refl

pub take_fewer : (n m : ℕ) (xs : List ℕ) → n ≤ m → take n (take m xs) ≡ take n xs
take_fewer zero m xs le = refl
take_fewer (suc n) zero xs le = absurd (omega (arith, le))
take_fewer (suc n) (suc m) [] le = refl
take_fewer (suc n) (suc m) (x ∷ xs) le = ap (λ (l : List ℕ). x ∷ l) (take_fewer n m xs (omega (arith, le)))

pub displacement_stands : (code buf : List ℕ) (at n : ℕ) (z : ℤ) → length buf ≡ 16 → n ≡ min 16 (length code - at) → take n buf ≡ take 16 (drop at code) → at + 4 ≤ length code
    → to_le_bytes w32 (cast_unsigned w32 z) ≡ get_or buf 0 0 ∷ get_or buf 1 0 ∷ get_or buf 2 0 ∷ get_or buf 3 0 ∷ [] → StandsAt code at z
displacement_stands code buf at n z long count same within bytes =
    let four : 4 ≤ n = omega (arith, count, within) in
    sym (take_fewer 4 16 (drop at code) (omega arith)) ∙ ap (λ (l : List ℕ). take 4 l) (sym same) ∙ take_fewer 4 n buf four ∙ four_first buf (omega (arith, long)) ∙ sym bytes

-- ---- patches

-- the patches of the rows so far, and the rows to come
pub record PatchesSoFar (bridge : ℕ) (old : List ℕ) (heres : List PieceHere) (all rest : List ExitRow) (patches : List (ℕ × ℤ × ℤ)) : Type 0 where
  pub done : List ExitRow
  pub split : all ≡ done ++ rest
  pub are : ArePatches bridge old heres done patches
  pub within : AreWithin (length old) rest

zip_more : {A B : Type 0} (R : A → B → Type 0) (xs : List A) (ys : List B) (x : A) (y : B) → AllZip R xs ys → R x y → AllZip R (xs ++ x ∷ []) (ys ++ y ∷ [])
zip_more R [] [] x y h r = (r, tt)
zip_more R [] (z ∷ zs) x y h r = absurd h
zip_more R (z ∷ zs) [] x y h r = absurd h
zip_more R (z ∷ zs) (w ∷ ws) x y h r = (h.0, zip_more R zs ws x y h.1 r)

pub patches_begin : (bridge : ℕ) (old : List ℕ) (heres : List PieceHere) (all : List ExitRow) (patches : List (ℕ × ℤ × ℤ)) → patches ≡ [] → AreWithin (length old) all → PatchesSoFar bridge old heres all all patches
patches_begin bridge old heres all patches e w = record { done = []; split = refl; are = subst (ArePatches bridge old heres []) (sym e) tt; within = w }

pub patches_more : (bridge : ℕ) (old : List ℕ) (heres : List PieceHere) (all rest rest' : List ExitRow) (row : ExitRow) (patches patches' : List (ℕ × ℤ × ℤ)) (patch : ℕ × ℤ × ℤ)
    → PatchesSoFar bridge old heres all rest patches → rest ≡ row ∷ rest' → patches' ≡ patches ++ patch ∷ [] → IsPatch bridge old heres row patch → PatchesSoFar bridge old heres all rest' patches'
patches_more bridge old heres all rest rest' row patches patches' patch h e p i = record {
  done = h.done ++ row ∷ [];
  split = h.split ∙ ap (λ (l : List ExitRow). h.done ++ l) e ∙ sym (append_assoc h.done (row ∷ []) rest');
  are = subst (ArePatches bridge old heres (h.done ++ row ∷ [])) (sym p) (zip_more (IsPatch bridge old heres) h.done patches row patch h.are i);
  within = (subst (AreWithin (length old)) e h.within).1;
}

pub patches_skip : (bridge : ℕ) (old : List ℕ) (heres : List PieceHere) (all rest rest' : List ExitRow) (patches : List (ℕ × ℤ × ℤ)) → PatchesSoFar bridge old heres all rest patches → rest ≡ rest' → PatchesSoFar bridge old heres all rest' patches
patches_skip bridge old heres all rest rest' patches h e = subst (λ (l : List ExitRow). PatchesSoFar bridge old heres all l patches) e h

pub patches_done : (bridge : ℕ) (old : List ℕ) (heres : List PieceHere) (all : List ExitRow) (patches : List (ℕ × ℤ × ℤ)) → PatchesSoFar bridge old heres all [] patches → ArePatches bridge old heres all patches
patches_done bridge old heres all patches h = subst (λ (l : List ExitRow). ArePatches bridge old heres l patches) (sym (h.split ∙ append-nil h.done)) h.are

copies_drop : (source : Option (ℕ × ℕ)) (rows : List ExitRow) (i : ℕ) (row : ExitRow) → i < length rows → row ≡ get_or rows i row
    → copies_by source (drop i rows) ≡ cond (comes_from source row.id.trace row.guard) (row ∷ copies_by source (drop (i + 1) rows)) (copies_by source (drop (i + 1) rows))
copies_drop source rows i row lt is =
    let one : suc i ≡ i + 1 = omega arith in
    ap (copies_by source) (drop-cons rows i row lt ∙ ap (λ (r : ExitRow). r ∷ drop (suc i) rows) (sym is) ∙ ap (λ (n : ℕ). row ∷ drop n rows) one)

pub copies_taken : (source : Option (ℕ × ℕ)) (rows : List ExitRow) (i : ℕ) (row : ExitRow) → i < length rows → row ≡ get_or rows i row → comes_from source row.id.trace row.guard ≡ true
    → copies_by source (drop i rows) ≡ row ∷ copies_by source (drop (i + 1) rows)
copies_taken source rows i row lt is e =
    copies_drop source rows i row lt is ∙ ap (λ (b : Bool). cond b (row ∷ copies_by source (drop (i + 1) rows)) (copies_by source (drop (i + 1) rows))) e

pub copies_left : (source : Option (ℕ × ℕ)) (rows : List ExitRow) (i : ℕ) (row : ExitRow) → i < length rows → row ≡ get_or rows i row → comes_from source row.id.trace row.guard ≡ false
    → copies_by source (drop i rows) ≡ copies_by source (drop (i + 1) rows)
copies_left source rows i row lt is e =
    copies_drop source rows i row lt is ∙ ap (λ (b : Bool). cond b (row ∷ copies_by source (drop (i + 1) rows)) (copies_by source (drop (i + 1) rows))) e
