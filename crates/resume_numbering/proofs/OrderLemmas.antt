-- Rows in order of first use, and the constants that they keep.
use Rattle.std.proofs.Common.{◌≡◌, ℕ, ◌+◌, ◌*◌, ◌<◌, ◌≤◌, List, [], ◌∷◌, ◌++◌, Option, Some, Bool, true, false, ◌||◌, not, cond, length, reverse, refl, ap, sym, subst, ◌∙◌, ◌⊎◌, inl, inr, arith, length-append}
use Rattle.std.specs.List.{list_any, AllZip, All, AllByRecursion, position_or_len, flat_map}
use Rattle.std.proofs.lemmas.Option.{slice_get_within}
use Rattle.std.proofs.lemmas.List.Elements.{All-weaker, All-push, All-from_recursion}
use Rattle.indexmap.specs.IndexSet.{insert_key}
use Rattle.trace_ops.specs.declared.trace.Arg.{Arg}
use Rattle.trace_ops.specs.declared.trace.Arg.TheVariants.{Of, Const, Null, Class, Func, Ptr}
use Rattle.trace_ops.specs.declared.piece.Val.{Val}
use Rattle.trace_ops.specs.declared.piece.Val.TheVariants.{Known, Virtual}
use Rattle.resume_numbering.specs.declared.rows.FrameRow.{FrameRow}
use Rattle.resume_numbering.specs.declared.rows.VirtualRow.{VirtualRow}
use Rattle.resume_numbering.specs.declared.rows.GuardRow.{GuardRow}
use Rattle.resume_numbering.specs.contracts.rows.FrameRowPartialEq.TheImpl as frame_eq
use Rattle.resume_numbering.specs.contracts.rows.VirtualRowPartialEq.TheImpl as virtual_eq
use Rattle.resume_numbering.specs.Tags.{IsConstAt, IsConstBelow, Reads, Extends, with_consts}
use Rattle.resume_numbering.proofs.TagLemmas.{extends-insert_key, consts_longer}
use Rattle.resume_numbering.specs.Order.{InOrder, IsChain, UsesFrames, UsesVirtuals}
use Rattle.resume_numbering.specs.Lawful.{FramesKeep, VirtualsKeep}

module _ {X : Type 0} where
  abbrev Found : (X → Bool) → List X → Type 0
  Found p xs = ((list_any p xs ≡ true) × (position_or_len p xs < length xs)) ⊎ ((list_any p xs ≡ false) × (position_or_len p xs ≡ length xs))

  found : (p : X → Bool) (xs : List X) → Found p xs
  found p [] = inr (refl, refl)
  found p (x ∷ xs) = by (p x) (found p xs)
    where
      by : (b : Bool) → Found p xs → (((b || list_any p xs) ≡ true) × (cond (not b) (1 + position_or_len p xs) 0 < length (x ∷ xs))) ⊎ (((b || list_any p xs) ≡ false) × (cond (not b) (1 + position_or_len p xs) 0 ≡ length (x ∷ xs)))
      by true h = inl (refl, omega arith)
      by false (inl h) = inl (h.0, omega (arith, h.1))
      by false (inr h) = inr (h.0, omega (arith, h.1))

  pub next_use : (eq : X → X → Bool) (xs : List X) (x : X) → InOrder (length xs) (position_or_len (eq x) xs ∷ []) (length (insert_key eq xs x))
  next_use eq xs x = by (list_any (eq x) xs) refl (found (eq x) xs)
    where
      by : (b : Bool) → list_any (eq x) xs ≡ b → Found (eq x) xs → InOrder (length xs) (position_or_len (eq x) xs ∷ []) (length (cond b xs (xs ++ x ∷ [])))
      by true e (inl h) = inl (h.1, refl)
      by true e (inr h) = let wrong : true ≡ false = sym e ∙ h.0 in cc
      by false e (inl h) = let wrong : false ≡ true = sym e ∙ h.0 in cc
      by false e (inr h) = inr (h.1, omega (arith, length-append xs (x ∷ [])))

pub order_then : (n m l : ℕ) (xs ys : List ℕ) → InOrder n xs m → InOrder m ys l → InOrder n (xs ++ ys) l
order_then n m l [] ys h k = subst (λ i. InOrder i ys l) (sym h) k
order_then n m l (x ∷ xs) ys (inl h) k = inl (h.0, order_then n m l xs ys h.1 k)
order_then n m l (x ∷ xs) ys (inr h) k = inr (h.0, order_then (n + 1) m l xs ys h.1 k)

pub chain_stays : (xs ys : List FrameRow) → Extends xs ys → (at : Option ℕ) (ks : List ℕ) → IsChain xs at ks → IsChain ys at ks
chain_stays xs ys grow at [] h = h
chain_stays xs ys grow at (k ∷ ks) h = (h.0, h.1, grow k h.0 h.2, chain_stays xs ys grow h.0.parent ks h.3)

const_below : (consts : List Arg) (t : ℕ) (a : Arg) → IsConstAt consts t a → IsConstBelow (length consts) t
const_below consts t a h k e =
    let both : 4 * h.0 + 2 ≡ 4 * k + 2 = sym h.1 ∙ e in
    omega (arith, slice_get_within consts h.0 a h.2, both)

pub reads_below : (consts : List Arg) (t : ℕ) (v : Val) → Reads consts t v → IsConstBelow (length consts) t
reads_below consts t (Known (Of b)) h k e = let both : 4 * b.number ≡ 4 * k + 2 = sym h ∙ e in absurd (omega (arith, both))
reads_below consts t (Known (Const z)) (inl h) k e = let both : 4 * h.0 + 1 ≡ 4 * k + 2 = sym h.2 ∙ e in absurd (omega (arith, both))
reads_below consts t (Known (Const z)) (inr h) k e = const_below consts t (Const z) h k e
reads_below consts t (Known Null) h k e = const_below consts t Null h k e
reads_below consts t (Known (Ptr n)) h k e = const_below consts t (Ptr n) h k e
reads_below consts t (Known (Class n)) h k e = absurd h
reads_below consts t (Known (Func n)) h k e = absurd h
reads_below consts t (Virtual n) h k e = let both : 4 * n + 3 ≡ 4 * k + 2 = sym h ∙ e in absurd (omega (arith, both))

zip_left : {X Y : Type 0} (R : X → Y → Type 0) (P : X → Type 0) → ((x : X) (y : Y) → R x y → P x) → (xs : List X) (ys : List Y) → AllZip R xs ys → AllByRecursion P xs
zip_left R P f [] [] h = tt
zip_left R P f [] (y ∷ ys) h = absurd h
zip_left R P f (x ∷ xs) [] h = absurd h
zip_left R P f (x ∷ xs) (y ∷ ys) h = (f x y h.0, zip_left R P f xs ys h.1)

pub all_left : {X Y : Type 0} (R : X → Y → Type 0) (P : X → Type 0) → ((x : X) (y : Y) → R x y → P x) → (xs : List X) (ys : List Y) → AllZip R xs ys → All P xs
all_left R P f xs ys h = All-from_recursion P xs (zip_left R P f xs ys h)

pub tags_below : (consts : List Arg) (ts : List ℕ) (vs : List Val) → AllZip (Reads consts) ts vs → All (IsConstBelow (length consts)) ts
tags_below consts ts vs h = all_left (Reads consts) (IsConstBelow (length consts)) (reads_below consts) ts vs h

below_more : (n m : ℕ) → n ≤ m → (t : ℕ) → IsConstBelow n t → IsConstBelow m t
below_more n m w t h k e = omega (arith, w, h k e)

pub frames_keep : (n m : ℕ) (rows : List FrameRow) (row : FrameRow) → n ≤ m → FramesKeep n rows → All (IsConstBelow m) row.slots → FramesKeep m (insert_key frame_eq.ghosts.eq rows row)
frames_keep n m rows row w h own = by (list_any (frame_eq.ghosts.eq row) rows)
  where
    old : FramesKeep m rows
    old = All-weaker (λ (r : FrameRow). All (IsConstBelow n) r.slots) (λ (r : FrameRow). All (IsConstBelow m) r.slots) (λ r s. All-weaker (IsConstBelow n) (IsConstBelow m) (below_more n m w) r.slots s) rows h

    by : (b : Bool) → FramesKeep m (cond b rows (rows ++ row ∷ []))
    by true = old
    by false = All-push (λ (r : FrameRow). All (IsConstBelow m) r.slots) rows row old own

pub virtuals_keep : (n m : ℕ) (rows : List VirtualRow) (row : VirtualRow) → n ≤ m → VirtualsKeep n rows → All (IsConstBelow m) row.parts → VirtualsKeep m (insert_key virtual_eq.ghosts.eq rows row)
virtuals_keep n m rows row w h own = by (list_any (virtual_eq.ghosts.eq row) rows)
  where
    old : VirtualsKeep m rows
    old = All-weaker (λ (r : VirtualRow). All (IsConstBelow n) r.parts) (λ (r : VirtualRow). All (IsConstBelow m) r.parts) (λ r s. All-weaker (IsConstBelow n) (IsConstBelow m) (below_more n m w) r.parts s) rows h

    by : (b : Bool) → VirtualsKeep m (cond b rows (rows ++ row ∷ []))
    by true = old
    by false = All-push (λ (r : VirtualRow). All (IsConstBelow m) r.parts) rows row old own

pub frames_kept_more : (n m : ℕ) (rows : List FrameRow) → n ≤ m → FramesKeep n rows → FramesKeep m rows
frames_kept_more n m rows w h = All-weaker (λ (r : FrameRow). All (IsConstBelow n) r.slots) (λ (r : FrameRow). All (IsConstBelow m) r.slots) (λ r s. All-weaker (IsConstBelow n) (IsConstBelow m) (below_more n m w) r.slots s) rows h

pub virtuals_kept_more : (n m : ℕ) (rows : List VirtualRow) → n ≤ m → VirtualsKeep n rows → VirtualsKeep m rows
virtuals_kept_more n m rows w h = All-weaker (λ (r : VirtualRow). All (IsConstBelow n) r.parts) (λ (r : VirtualRow). All (IsConstBelow m) r.parts) (λ r s. All-weaker (IsConstBelow n) (IsConstBelow m) (below_more n m w) r.parts s) rows h

pub no_frames : (rows : List FrameRow) (n : ℕ) → UsesFrames rows [] n n
no_frames rows n = record { uses = []; chains = tt; in_order = refl }

pub one_guard : (rows : List FrameRow) (g : GuardRow) (ks : List ℕ) (n m : ℕ) → IsChain rows (Some g.frame) (reverse ks) → InOrder n ks m → UsesFrames rows (g ∷ []) n m
one_guard rows g ks n m chain order = record { uses = ks ∷ []; chains = (chain, tt); in_order = order_then n m m ks [] order refl }

flat-append : {X Y : Type 0} (f : X → List Y) (xs ys : List X) → flat_map f (xs ++ ys) ≡ flat_map f xs ++ flat_map f ys
flat-append f [] ys = refl
flat-append f (x ∷ xs) ys = ap (λ zs. f x ++ zs) (flat-append f xs ys) ∙ sym (assoc (f x) (flat_map f xs) (flat_map f ys))
  where
    assoc : {Z : Type 0} (us vs ws : List Z) → (us ++ vs) ++ ws ≡ us ++ (vs ++ ws)
    assoc [] vs ws = refl
    assoc (u ∷ us) vs ws = ap (λ zs. u ∷ zs) (assoc us vs ws)

zip-append : {X Y : Type 0} (P : X → Y → Type 0) (us bs : List X) (xs ys : List Y) → AllZip P us xs → AllZip P bs ys → AllZip P (us ++ bs) (xs ++ ys)
zip-append P [] bs [] ys h k = k
zip-append P [] bs (x ∷ xs) ys h k = absurd h
zip-append P (a ∷ us) bs [] ys h k = absurd h
zip-append P (a ∷ us) bs (x ∷ xs) ys h k = (h.0, zip-append P us bs xs ys h.1 k)

chains_stay : (xs ys : List FrameRow) → Extends xs ys → (gs : List GuardRow) (uses : List (List ℕ)) → AllZip (λ (g : GuardRow) ks. IsChain xs (Some g.frame) (reverse ks)) gs uses → AllZip (λ (g : GuardRow) ks. IsChain ys (Some g.frame) (reverse ks)) gs uses
chains_stay xs ys grow [] [] h = h
chains_stay xs ys grow [] (u ∷ us) h = absurd h
chains_stay xs ys grow (g ∷ gs) [] h = absurd h
chains_stay xs ys grow (g ∷ gs) (u ∷ us) h = (chain_stays xs ys grow (Some g.frame) (reverse u) h.0, chains_stay xs ys grow gs us h.1)

pub frames_then : (xs ys : List FrameRow) → Extends xs ys → (gs hs : List GuardRow) (n m l : ℕ) → UsesFrames xs gs n m → UsesFrames ys hs m l → UsesFrames ys (gs ++ hs) n l
frames_then xs ys grow gs hs n m l h k = record {
  uses = h.uses ++ k.uses;
  chains = zip-append (λ (g : GuardRow) ks. IsChain ys (Some g.frame) (reverse ks)) gs hs h.uses k.uses (chains_stay xs ys grow gs h.uses h.chains) k.chains;
  in_order = subst (λ (us : List ℕ). InOrder n us l) (sym (flat-append (λ ks. ks) h.uses k.uses)) (order_then n m l (flat_map (λ ks. ks) h.uses) (flat_map (λ ks. ks) k.uses) h.in_order k.in_order);
}

pub virtuals_then : (gs hs : List GuardRow) (n m l : ℕ) → UsesVirtuals gs n m → UsesVirtuals hs m l → UsesVirtuals (gs ++ hs) n l
virtuals_then gs hs n m l h k =
    let f : GuardRow → List ℕ = λ g. g.virtuals in
    subst (λ (us : List ℕ). InOrder n us l) (sym (flat-append f gs hs)) (order_then n m l (flat_map f gs) (flat_map f hs) h k)

pub one_virtuals : (g : GuardRow) (n m : ℕ) → InOrder n g.virtuals m → UsesVirtuals (g ∷ []) n m
one_virtuals g n m h = order_then n m m g.virtuals [] h refl

pub next_is : {X : Type 0} (eq : X → X → Bool) (xs ys : List X) (x : X) (k : ℕ) → k ≡ position_or_len (eq x) xs → ys ≡ insert_key eq xs x → InOrder (length xs) (k ∷ []) (length ys)
next_is eq xs ys x k e f = subst (λ j. InOrder (length xs) (j ∷ []) (length ys)) (sym e) (subst (λ zs. InOrder (length xs) (position_or_len (eq x) xs ∷ []) (length zs)) (sym f) (next_use eq xs x))

pub grows_by : {X : Type 0} (eq : X → X → Bool) (xs ys : List X) (x : X) → ys ≡ insert_key eq xs x → Extends xs ys
grows_by eq xs ys x f = subst (Extends xs) (sym f) (extends-insert_key eq xs x)

pub frames_keep_by : (old new : List Arg) (rows rows' : List FrameRow) (row : FrameRow) (ts : List ℕ) (vs : List Val) → new ≡ with_consts old vs → FramesKeep (length old) rows → AllZip (Reads new) ts vs → row.slots ≡ ts
    → rows' ≡ insert_key frame_eq.ghosts.eq rows row → FramesKeep (length new) rows'
frames_keep_by old new rows rows' row ts vs e h reads own f =
    let below = subst (All (IsConstBelow (length new))) (sym own) (tags_below new ts vs reads) in
    subst (FramesKeep (length new)) (sym f) (frames_keep (length old) (length new) rows row (omega (arith, consts_longer old vs, ap length e)) h below)

pub virtuals_keep_by : (old new : List Arg) (rows rows' : List VirtualRow) (row : VirtualRow) (ts : List ℕ) (vs : List Val) → new ≡ with_consts old vs → VirtualsKeep (length old) rows → AllZip (Reads new) ts vs → row.parts ≡ ts
    → rows' ≡ insert_key virtual_eq.ghosts.eq rows row → VirtualsKeep (length new) rows'
virtuals_keep_by old new rows rows' row ts vs e h reads own f =
    let below = subst (All (IsConstBelow (length new))) (sym own) (tags_below new ts vs reads) in
    subst (VirtualsKeep (length new)) (sym f) (virtuals_keep (length old) (length new) rows row (omega (arith, consts_longer old vs, ap length e)) h below)
