-- One more bridge: what is known of the pieces that are there stays so, and the same is known of the new ones.
use Rattle.std.proofs.Common.{◌≡◌, ◌≢◌, inl, inr, ℕ, ◌+◌, Bool, true, false, cond, List, [], ◌∷◌, ◌++◌, length, map, Option, Some, None, refl, sym, ap, ◌∙◌, subst}
use Rattle.std.specs.Option.{IsSomeAnd, option_map}
use Rattle.std.specs.List.{All, AllByRecursion, flat_map}
use Rattle.lists.specs.Has.{Has}
use Rattle.lists.proofs.Alls.{all_weaker}
use Rattle.trace_ops.specs.declared.trace.BoxId.{BoxId}
use Rattle.trace_ops.specs.declared.trace.Trace.{Trace}
use Rattle.trace_ops.specs.declared.piece.Half.{Half}
use Rattle.trace_ops.specs.declared.piece.PieceId.{PieceId}
use Rattle.trace_ops.specs.declared.piece.OptOp.{OptOp}
use Rattle.trace_ops.specs.declared.piece.OptOp.TheVariants as opt
use Rattle.trace_ops.specs.declared.piece.Piece.{Piece}
use Rattle.trace_ops.specs.Kinds.{kind_of_arg}
use Rattle.trace_ops.specs.Pieces.{guards_of, FitsLabel}
use Rattle.trace_ops.specs.Sound.{AreApart}
use Rattle.trace_meaning.specs.Cuts.{is_bridge_of}
use Rattle.opt_meaning.specs.Pieces.{piece_at, same_piece}
use Rattle.target_base.specs.declared.place.Place.{Place}
use Rattle.guard_exit.specs.declared.row.ExitRow.{ExitRow}
use Rattle.asm_select.specs.Chosen.{Where}
use Rattle.asm_select.specs.Exited.{shown_by}
use Rattle.bridge_patch.specs.Pieces.{Placed, rows_of_op, all_rows, displacement_of}
use Rattle.bridge_patch.specs.Image.{label_in}
use Rattle.bridge_patch.specs.Bridged.{is_from}
use Rattle.bridge_patch.specs.Attached.{copies_among, guard_of}
use Rattle.image_built.proofs.Naming.{TellsNames, AreOnce, not_true, each_weaker, each_append, some_is}
use Rattle.image_built.proofs.Rowing.{contains_of, has_left, has_right, op_of, piece_of_row}

-- ---- lists

pub each_first : {X : Type 0} (P : X → Type 0) (xs ys : List X) → AllByRecursion P (xs ++ ys) → AllByRecursion P xs
each_first P [] ys h = tt
each_first P (x ∷ xs) ys h = (h.0, each_first P xs ys h.1)

pub each_second : {X : Type 0} (P : X → Type 0) (xs ys : List X) → AllByRecursion P (xs ++ ys) → AllByRecursion P ys
each_second P [] ys h = h
each_second P (x ∷ xs) ys h = each_second P xs ys h.1

pub each_map : {X Y : Type 0} (P : Y → Type 0) (f : X → Y) (xs : List X) → AllByRecursion (λ (x : X). P (f x)) xs → AllByRecursion P (map f xs)
each_map P f [] h = tt
each_map P f (x ∷ xs) h = (h.0, each_map P f xs h.1)

pub of_map : {X Y : Type 0} (P : Y → Type 0) (f : X → Y) (xs : List X) → AllByRecursion P (map f xs) → AllByRecursion (λ (x : X). P (f x)) xs
of_map P f [] h = tt
of_map P f (x ∷ xs) h = (h.0, of_map P f xs h.1)

pub has_middle : {X : Type 0} (before after : List X) (x : X) → Has (before ++ x ∷ after) x
has_middle [] after x = inl refl
has_middle (y ∷ before) after x = inr (has_middle before after x)

-- where an item stands
pub record Around {X : Type 0} (xs : List X) (x : X) : Type 0 where
  pub before : List X
  pub after : List X
  pub here : xs ≡ before ++ x ∷ after

pub around : {X : Type 0} (xs : List X) (x : X) → Has xs x → Around xs x
around [] x h = absurd h
around (y ∷ xs) x (inl e) = record { before = []; after = xs; here = ap (λ z. z ∷ xs) e }
around (y ∷ xs) x (inr h) = (let z = around xs x h in record { before = y ∷ z.before; after = z.after; here = ap (λ l. y ∷ l) z.here })

-- an item of two lists, one behind the other
pub data InBoth {X : Type 0} (xs ys before after : List X) (x : X) : Type 0 where
  First : (more : List X) → xs ≡ before ++ x ∷ more → after ≡ more ++ ys → InBoth xs ys before after x
  Second : (front : List X) → ys ≡ front ++ x ∷ after → before ≡ xs ++ front → InBoth xs ys before after x

same_head : {X : Type 0} {x y : X} {xs ys : List X} → x ∷ xs ≡ y ∷ ys → x ≡ y
same_head e = cc

same_tail : {X : Type 0} {x y : X} {xs ys : List X} → x ∷ xs ≡ y ∷ ys → xs ≡ ys
same_tail e = cc

pub in_both : {X : Type 0} (xs ys before after : List X) (x : X) → xs ++ ys ≡ before ++ x ∷ after → InBoth xs ys before after x
in_both [] ys before after x e = Second before e refl
in_both (z ∷ xs) ys [] after x e = First xs (ap (λ w. w ∷ xs) (same_head e)) (sym (same_tail e))
in_both (z ∷ xs) ys (w ∷ before) after x e = further z w xs ys before after x (same_head e) (in_both xs ys before after x (same_tail e))
  where
    further : {X : Type 0} (z w : X) (xs ys before after : List X) (x : X) → z ≡ w → InBoth xs ys before after x → InBoth (z ∷ xs) ys (w ∷ before) after x
    further z w xs ys before after x same (First more a b) = First more (ap (λ v. v ∷ xs) same ∙ ap (λ l. w ∷ l) a) b
    further z w xs ys before after x same (Second front a b) = Second front a (ap (λ l. w ∷ l) b ∙ ap (λ v. v ∷ (xs ++ front)) (sym same))

-- an item of a list that is made of another one
pub record OfMap {X Y : Type 0} (f : X → Y) (xs : List X) (before after : List Y) (y : Y) : Type 0 where
  pub first : List X
  pub x : X
  pub last : List X
  pub here : xs ≡ first ++ x ∷ last
  pub before_is : map f first ≡ before
  pub is : f x ≡ y
  pub after_is : map f last ≡ after

pub of_made : {X Y : Type 0} (f : X → Y) (xs : List X) (before after : List Y) (y : Y) → map f xs ≡ before ++ y ∷ after → OfMap f xs before after y
of_made f [] [] after y e = absurd (cc)
of_made f [] (z ∷ before) after y e = absurd (cc)
of_made f (x ∷ xs) [] after y e = record { first = []; x = x; last = xs; here = refl; before_is = refl; is = same_head e; after_is = same_tail e }
of_made f (x ∷ xs) (z ∷ before) after y e =
    let r = of_made f xs before after y (same_tail e) in
    record { first = x ∷ r.first; x = r.x; last = r.last; here = ap (λ l. x ∷ l) r.here; before_is = ap (λ l. f x ∷ l) r.before_is ∙ ap (λ v. v ∷ before) (same_head e); is = r.is; after_is = r.after_is }

-- ---- names

apart_traces : TellsNames → (x y : Piece) → x.id.trace ≢ y.id.trace → same_piece y.id x.id ≡ false
apart_traces names x y ne = not_true (same_piece y.id x.id) (λ h. ne (sym (ap (λ (q : PieceId). q.trace) ((names y.id x.id).0 h))))

pub once_append : (xs ys : List Piece) → AreOnce xs → AreOnce ys → AllByRecursion (λ (x : Piece). AllByRecursion (λ (y : Piece). same_piece y.id x.id ≡ false) ys) xs → AreOnce (xs ++ ys)
once_append [] ys a b h = b
once_append (x ∷ xs) ys a b h = (each_append (λ (y : Piece). same_piece y.id x.id ≡ false) xs ys a.0 h.0, once_append xs ys a.1 b h.1)

-- pieces of different halves
other_halves : TellsNames → (h : Half) (p : Piece) (ps : List Piece) → p.id.half ≡ h → (Has (map (λ (x : Piece). x.id.half) ps) h → ⊥) → AllByRecursion (λ (x : Piece). same_piece x.id p.id ≡ false) ps
other_halves names h p [] e none = tt
other_halves names h p (x ∷ ps) e none = (not_true (same_piece x.id p.id) (λ s. none (inl (ap (λ (q : PieceId). q.half) ((names x.id p.id).0 s) ∙ e))), other_halves names h p ps e (λ i. none (inr i)))

pub once_halves : TellsNames → (ps : List Piece) → AreApart (map (λ (p : Piece). p.id.half) ps) → AreOnce ps
once_halves names [] h = tt
once_halves names (p ∷ ps) h = (other_halves names p.id.half p ps refl (λ i. h.0 (contains_of (map (λ (x : Piece). x.id.half) ps) p.id.half i)), once_halves names ps h.1)

-- pieces of another trace
pub others_apart : TellsNames → (n : ℕ) (xs ys : List Piece) → AllByRecursion (λ (x : Piece). x.id.trace ≢ n) xs → AllByRecursion (λ (y : Piece). y.id.trace ≡ n) ys → AllByRecursion (λ (x : Piece). AllByRecursion (λ (y : Piece). same_piece y.id x.id ≡ false) ys) xs
others_apart names n xs ys a b =
    each_weaker (λ (x : Piece). x.id.trace ≢ n) (λ (x : Piece). AllByRecursion (λ (y : Piece). same_piece y.id x.id ≡ false) ys) xs
    (λ x ne. each_weaker (λ (y : Piece). y.id.trace ≡ n) (λ (y : Piece). same_piece y.id x.id ≡ false) ys (λ y e. apart_traces names x y (λ s. ne (s ∙ e))) b) a

-- ---- what is found by name

more_if : (x p : Piece) (a b : Option Piece) (t : Bool) → (a ≡ Some p → b ≡ Some p) → cond t (Some x) a ≡ Some p → cond t (Some x) b ≡ Some p
more_if x p a b true f e = e
more_if x p a b false f e = f e

pub piece_more : (ps more : List Piece) (q : PieceId) (p : Piece) → piece_at ps q ≡ Some p → piece_at (ps ++ more) q ≡ Some p
piece_more [] more q p e = absurd (cc)
piece_more (x ∷ ps) more q p e = more_if x p (piece_at ps q) (piece_at (ps ++ more) q) (same_piece q x.id) (piece_more ps more q p) e

label_fits : (ps more : List Piece) (to : PieceId) (P : List BoxId → Type 0) (o : Option Piece) → piece_at ps to ≡ o → IsSomeAnd (option_map (λ (p : Piece). p.label) o) P → IsSomeAnd (label_in (ps ++ more) to) P
label_fits ps more to P None e h = absurd h
label_fits ps more to P (Some p) e h = subst (λ (o : Option Piece). IsSomeAnd (option_map (λ (x : Piece). x.label) o) P) (sym (piece_more ps more to p e)) h

fits_more : (ps more : List Piece) (op : OptOp) → FitsLabel (label_in ps) op → FitsLabel (label_in (ps ++ more)) op
fits_more ps more (opt.Plain operation r args d) h = tt
fits_more ps more (opt.Guard operation args n snap) h = tt
fits_more ps more (opt.Exit n snap) h = tt
fits_more ps more (opt.Jump to args) h = label_fits ps more to (λ (label : List BoxId). map kind_of_arg args ≡ map (λ (b : BoxId). Some b.kind) label) (piece_at ps to) refl h
fits_more ps more (opt.Finish value) h = tt

pub all_fit_more : (ps more : List Piece) (ops : List OptOp) → All (FitsLabel (label_in ps)) ops → All (FitsLabel (label_in (ps ++ more))) ops
all_fit_more ps more ops h = all_weaker (FitsLabel (label_in ps)) (FitsLabel (label_in (ps ++ more))) ops (fits_more ps more) h

-- ---- one operation a guard

guards_is : (op : OptOp) (n : ℕ) → guard_of op ≡ Some n → guards_of op ≡ n ∷ []
guards_is (opt.Plain operation r args d) n e = absurd (cc)
guards_is (opt.Guard operation args g snap) n e = ap (λ (k : ℕ). k ∷ []) (some_is e)
guards_is (opt.Exit g snap) n e = ap (λ (k : ℕ). k ∷ []) (some_is e)
guards_is (opt.Jump to args) n e = absurd (cc)
guards_is (opt.Finish value) n e = absurd (cc)

has_guard : (ops : List OptOp) (op : OptOp) (n : ℕ) → Has ops op → guard_of op ≡ Some n → Has (flat_map guards_of ops) n
has_guard [] op n h e = absurd h
has_guard (x ∷ ops) op n (inl s) e = has_left (guards_of x) (flat_map guards_of ops) n (subst (λ (l : List ℕ). Has l n) (sym (ap guards_of s ∙ guards_is op n e)) (inl refl))
has_guard (x ∷ ops) op n (inr h) e = has_right (guards_of x) (flat_map guards_of ops) n (has_guard ops op n h e)

apart_rest : (xs ys : List ℕ) → AreApart (xs ++ ys) → AreApart ys
apart_rest [] ys h = h
apart_rest (x ∷ xs) ys h = apart_rest xs ys h.1

none_there : (x : OptOp) (ops : List OptOp) (n : ℕ) → AreApart (flat_map guards_of (x ∷ ops)) → guard_of x ≡ Some n → Has (flat_map guards_of ops) n → ⊥
none_there x ops n h e i =
    let apart : AreApart (n ∷ flat_map guards_of ops) = subst (λ (l : List ℕ). AreApart (l ++ flat_map guards_of ops)) (guards_is x n e) h in
    apart.0 (contains_of (flat_map guards_of ops) n i)

pub one_guard : (ops : List OptOp) (a b : OptOp) (n : ℕ) → AreApart (flat_map guards_of ops) → Has ops a → Has ops b → guard_of a ≡ Some n → guard_of b ≡ Some n → a ≡ b
one_guard [] a b n h i j e f = absurd i
one_guard (x ∷ ops) a b n h (inl s) (inl t) e f = sym s ∙ t
one_guard (x ∷ ops) a b n h (inl s) (inr j) e f = absurd (none_there x ops n h (ap guard_of s ∙ e) (has_guard ops b n j f))
one_guard (x ∷ ops) a b n h (inr i) (inl t) e f = absurd (none_there x ops n h (ap guard_of t ∙ f) (has_guard ops a n i e))
one_guard (x ∷ ops) a b n h (inr i) (inr j) e f = one_guard ops a b n (apart_rest (guards_of x) (flat_map guards_of ops) h) i j e f

-- ---- the rows of copies

pub record IsCopyRow (traces : List Trace) (bridge : ℕ) (rows : List ExitRow) (row : ExitRow) : Type 0 where
  pub has : Has rows row
  pub from : is_from traces bridge row.id.trace row.guard ≡ true

copy_if : (traces : List Trace) (bridge : ℕ) (r : ExitRow) (rows : List ExitRow) (row : ExitRow) (t : Bool) → is_from traces bridge r.id.trace r.guard ≡ t → (Has (copies_among traces bridge rows) row → IsCopyRow traces bridge rows row) → Has (cond t (r ∷ copies_among traces bridge rows) (copies_among traces bridge rows)) row → IsCopyRow traces bridge (r ∷ rows) row
copy_if traces bridge r rows row true is more (inl e) = record { has = inl e; from = subst (λ (x : ExitRow). is_from traces bridge x.id.trace x.guard ≡ true) e is }
copy_if traces bridge r rows row true is more (inr h) = (let z = more h in record { has = inr z.has; from = z.from })
copy_if traces bridge r rows row false is more h = (let z = more h in record { has = inr z.has; from = z.from })

pub copy_row : (traces : List Trace) (bridge : ℕ) (rows : List ExitRow) (row : ExitRow) → Has (copies_among traces bridge rows) row → IsCopyRow traces bridge rows row
copy_row traces bridge [] row h = absurd h
copy_row traces bridge (r ∷ rows) row h = copy_if traces bridge r rows row (is_from traces bridge r.id.trace r.guard) refl (copy_row traces bridge rows row) h

row_in : (traces : List Trace) (bridge : ℕ) (r : ExitRow) (rows : List ExitRow) (row : ExitRow) (t : Bool) → is_from traces bridge r.id.trace r.guard ≡ t → is_from traces bridge row.id.trace row.guard ≡ true → (Has rows row → Has (copies_among traces bridge rows) row) → Has (r ∷ rows) row → Has (cond t (r ∷ copies_among traces bridge rows) (copies_among traces bridge rows)) row
row_in traces bridge r rows row true is from more (inl e) = inl e
row_in traces bridge r rows row true is from more (inr h) = inr (more h)
row_in traces bridge r rows row false is from more (inl e) =
    let no : false ≡ true = sym is ∙ ap (λ (x : ExitRow). is_from traces bridge x.id.trace x.guard) e ∙ from in
    absurd (cc)
row_in traces bridge r rows row false is from more (inr h) = more h

pub has_copy : (traces : List Trace) (bridge : ℕ) (rows : List ExitRow) (row : ExitRow) → is_from traces bridge row.id.trace row.guard ≡ true → Has rows row → Has (copies_among traces bridge rows) row
has_copy traces bridge [] row from h = absurd h
has_copy traces bridge (r ∷ rows) row from h = row_in traces bridge r rows row (is_from traces bridge r.id.trace r.guard) refl from (has_copy traces bridge rows row from) h

-- the operation of a row of a guard
pub record TellsOf (at : Where) (id : PieceId) (place : ℕ) (op : OptOp) (row : ExitRow) : Type 0 where
  pub place_is : row.at ≡ place
  pub owner : row.id ≡ id
  pub told : row.guard ≡ guard_of op
  pub places : map (λ (x : BoxId × Place). x.1) row.places ≡ map (λ (b : BoxId). at b.number) (shown_by op)

boxes_places : (at : Where) (bs : List BoxId) → map (λ (x : BoxId × Place). x.1) (map (λ (b : BoxId). (b, at b.number)) bs) ≡ map (λ (b : BoxId). at b.number) bs
boxes_places at [] = refl
boxes_places at (b ∷ bs) = ap (λ (l : List Place). at b.number ∷ l) (boxes_places at bs)

abbrev RowIs : ExitRow → List Place
RowIs row = map (λ (x : BoxId × Place). x.1) row.places

pub row_tells : (traces : List Trace) (bridge : ℕ) (at : Where) (id : PieceId) (exit place : ℕ) (op : OptOp) (row : ExitRow) → Has (rows_of_op at id exit place op) row → is_from traces bridge row.id.trace row.guard ≡ true → TellsOf at id place op row
row_tells traces bridge at id exit place (opt.Plain operation r args d) row h from = absurd h
row_tells traces bridge at id exit place (opt.Guard operation args n snap) row (inl e) from = record { place_is = ap (λ (r : ExitRow). r.at) (sym e); owner = ap (λ (r : ExitRow). r.id) (sym e); told = ap (λ (r : ExitRow). r.guard) (sym e); places = ap RowIs (sym e) ∙ boxes_places at (shown_by (opt.Guard operation args n snap)) }
row_tells traces bridge at id exit place (opt.Guard operation args n snap) row (inr h) from = absurd h
row_tells traces bridge at id exit place (opt.Exit n snap) row (inl e) from = record { place_is = ap (λ (r : ExitRow). r.at) (sym e); owner = ap (λ (r : ExitRow). r.id) (sym e); told = ap (λ (r : ExitRow). r.guard) (sym e); places = ap RowIs (sym e) ∙ boxes_places at (shown_by (opt.Exit n snap)) }
row_tells traces bridge at id exit place (opt.Exit n snap) row (inr h) from = absurd h
row_tells traces bridge at id exit place (opt.Jump to args) row h from = absurd h
row_tells traces bridge at id exit place (opt.Finish value) row (inl e) from =
    let no : false ≡ true = ap (λ (r : ExitRow). is_from traces bridge r.id.trace r.guard) e ∙ from in
    absurd (cc)
row_tells traces bridge at id exit place (opt.Finish value) row (inr h) from = absurd h

-- the guard of what comes from one
pub from_guard : (traces : List Trace) (bridge p : ℕ) (o : Option ℕ) → is_from traces bridge p o ≡ true → (n : ℕ) × (o ≡ Some n) × (is_bridge_of traces p n bridge ≡ true)
from_guard traces bridge p None e = absurd (cc)
from_guard traces bridge p (Some n) e = (n, refl, e)

-- where the row of a copy stands among pieces
pub record RowAt (placed : List Placed) (row : ExitRow) : Type 0 where
  pub before : List Placed
  pub pl : Placed
  pub after : List Placed
  pub here : placed ≡ before ++ pl ∷ after
  pub done : List OptOp
  pub op : OptOp
  pub rest : List OptOp
  pub split : pl.piece.ops ≡ done ++ op ∷ rest
  pub tells : TellsOf pl.setting.at pl.piece.id (displacement_of pl (0 + length done)) op row

pub row_at : (traces : List Trace) (bridge : ℕ) (placed : List Placed) (row : ExitRow) → Has (copies_among traces bridge (all_rows placed)) row → RowAt placed row
row_at traces bridge placed row h =
    let c = copy_row traces bridge (all_rows placed) row h in
    let p = piece_of_row placed row c.has in
    let o = op_of p.pl.setting.at p.pl.piece.id (displacement_of p.pl) p.pl.exit 0 p.pl.piece.ops row p.has in
    record { before = p.before; pl = p.pl; after = p.after; here = p.here; done = o.done; op = o.op; rest = o.rest; split = o.split; tells = row_tells traces bridge p.pl.setting.at p.pl.piece.id _ _ o.op row o.has c.from }
