-- The pieces in an image: no name stands there twice, each is one of an optimised set, and each has a lawful table.
use Rattle.std.proofs.Common.{◌≡◌, ℕ, zero, suc, ◌+◌, ◌^◌, ◌<◌, Bool, true, false, List, [], ◌∷◌, length, map, Option, refl, ap, sym, ◌∙◌, subst, arith, inl, inr}
use Rattle.std.specs.Prelude.{slice_index_or}
use Rattle.std.specs.Bool.{Decides}
use Rattle.std.specs.List.{AllByRecursion, Contains}
use Rattle.lists.specs.Has.{Has, IsOnce}
use Rattle.trace_ops.specs.InRange.{IsTableInRange}
use Rattle.trace_ops.specs.Sound.{IsSound}
use Rattle.trace_ops.specs.declared.trace.BoxId.{BoxId}
use Rattle.trace_ops.specs.declared.piece.PieceId.{PieceId}
use Rattle.trace_ops.specs.declared.piece.Piece.{Piece}
use Rattle.trace_ops.specs.declared.trace.TraceSet.{TraceSet}
use Rattle.guard_exit.specs.declared.row.ExitRow.{ExitRow}
use Rattle.opt_meaning.specs.Meeting.{Made, pieces_of}
use Rattle.opt_meaning.specs.Pieces.{same_piece, all_pieces}
use Rattle.resume_numbering.specs.Lawful.{IsLawful}
use Rattle.bridge_patch.specs.declared.image.PieceHere.{PieceHere}
use Rattle.bridge_patch.specs.Pieces.{Placed, all_rows}
use Rattle.bridge_patch.specs.Attached.{room_left}
use Rattle.bridge_patch.specs.Image.{Imaged, AreHere, IsHere}
use Rattle.opt_set.specs.Optimised.{Optimised, OptimisedAreSound, name_of, label_in}
use Rattle.set_in_image.specs.Placing.{IsPlaced, placed_behind}
use Rattle.run_session.specs.Keeping.{IsServed, Serves}

abbrev pub TellsNames : Type 0
TellsNames = (p q : PieceId) → Decides (same_piece p q) (p ≡ q)

abbrev pub AreOnce : List Piece → Type 0
AreOnce [] = Unit {0}
AreOnce (p ∷ ps) = AllByRecursion (λ (x : Piece). same_piece x.id p.id ≡ false) ps × AreOnce ps

abbrev pub piece_of : Placed → Piece
piece_of pl = pl.piece

-- the placed piece of one that is kept
pub record PlacedAs (pls : List Placed) (here : PieceHere) : Type 0 where
  pub pl : Placed
  pub there : Has (map piece_of pls) pl.piece
  pub is : IsHere pl here

pub placed_as : (pls : List Placed) (heres : List PieceHere) (here : PieceHere) → AreHere pls heres → Has heres here → PlacedAs pls here
placed_as [] [] here a h = absurd h
placed_as [] (x ∷ heres) here a h = absurd a
placed_as (pl ∷ pls) [] here a h = absurd a
placed_as (pl ∷ pls) (x ∷ heres) here a (inl e) = record { pl = pl; there = inl refl; is = subst (IsHere pl) e a.0 }
placed_as (pl ∷ pls) (x ∷ heres) here a (inr h) = let z = placed_as pls heres here a.1 h in record { pl = z.pl; there = inr z.there; is = z.is }

pub lawful_here : (pls : List Placed) (heres : List PieceHere) (here : PieceHere) → AreHere pls heres → Has heres here → IsLawful here.table
lawful_here pls heres here a h = (placed_as pls heres here a h).is.table.lawful

pub each_of : (P : Piece → Type 0) (ps : List Piece) (p : Piece) → AllByRecursion P ps → Has ps p → P p
each_of P [] p a h = absurd h
each_of P (x ∷ ps) p a (inl e) = subst P e a.0
each_of P (x ∷ ps) p a (inr h) = each_of P ps p a.1 h

-- another piece behind it has another name
named_apart : TellsNames → (pl : Placed) (pls : List Placed) (heres : List PieceHere) (a b : PieceHere) → AllByRecursion (λ (x : Piece). same_piece x.id pl.piece.id ≡ false) (map piece_of pls) → AreHere pls heres → IsHere pl a → Has heres b → a.id ≡ b.id → ⊥
named_apart names pl pls heres a b apart are is h e =
    let z = placed_as pls heres b are h in
    let other = each_of (λ (x : Piece). same_piece x.id pl.piece.id ≡ false) (map piece_of pls) z.pl.piece apart z.there in
    let same : z.pl.piece.id ≡ pl.piece.id = sym z.is.id ∙ sym e ∙ is.id in
    let w : false ≡ true = sym other ∙ (names z.pl.piece.id pl.piece.id).1 same in cc

pub heres_once : TellsNames → (pls : List Placed) (heres : List PieceHere) (a b : PieceHere) → AreOnce (map piece_of pls) → AreHere pls heres → Has heres a → Has heres b → a.id ≡ b.id → a ≡ b
heres_once names [] [] a b once are h k e = absurd h
heres_once names [] (x ∷ heres) a b once are h k e = absurd are
heres_once names (pl ∷ pls) [] a b once are h k e = absurd are
heres_once names (pl ∷ pls) (x ∷ heres) a b once are (inl h) (inl k) e = sym h ∙ k
heres_once names (pl ∷ pls) (x ∷ heres) a b once are (inl h) (inr k) e = absurd (named_apart names pl pls heres a b once.0 are.1 (subst (IsHere pl) h are.0) k e)
heres_once names (pl ∷ pls) (x ∷ heres) a b once are (inr h) (inl k) e = absurd (named_apart names pl pls heres b a once.0 are.1 (subst (IsHere pl) k are.0) h (sym e))
heres_once names (pl ∷ pls) (x ∷ heres) a b once are (inr h) (inr k) e = heres_once names pls heres a b once.1 are.1 h k e

-- ---- no name twice among the pieces of an optimised set

not_true : (b : Bool) → (b ≡ true → ⊥) → b ≡ false
not_true true h = absurd (h refl)
not_true false h = refl

others_named : TellsNames → (m : Made) (ms : List Made) → (Has (map name_of ms) (name_of m) → ⊥) → AllByRecursion (λ (x : Piece). same_piece x.id m.piece.id ≡ false) (pieces_of ms)
others_named names m [] other = tt
others_named names m (x ∷ ms) other = (not_true (same_piece x.piece.id m.piece.id) (λ e. other (inl ((names x.piece.id m.piece.id).0 e))), others_named names m ms (λ h. other (inr h)))

pub made_once : TellsNames → (ms : List Made) → IsOnce (map name_of ms) → AreOnce (pieces_of ms)
made_once names [] h = tt
made_once names (m ∷ ms) h = (others_named names m ms h.0, made_once names ms h.1)

-- ---- contained

pub has_of : {X : Type 0} (xs : List X) (x : X) → Contains xs x → Has xs x
has_of xs x c = at xs x c.0 c.1 c.2
  where
    at : {X : Type 0} (xs : List X) (x : X) (k : ℕ) → k < length xs → slice_index_or xs k x ≡ x → Has xs x
    at [] x k lt e = absurd (none k lt)
      where
        none : (k : ℕ) → k < 0 → ⊥
        none k lt = omega (arith, lt)
    at (y ∷ ys) x zero lt e = inl e
    at (y ∷ ys) x (suc k) lt e = inr (at ys x k (omega (arith, lt)) e)

pub contains_of : {X : Type 0} (xs : List X) (x : X) → Has xs x → Contains xs x
contains_of [] x h = absurd h
contains_of (y ∷ ys) x (inl e) = (0, omega arith, e)
contains_of (y ∷ ys) x (inr h) =
    let c = contains_of ys x h in
    (suc c.0, omega (arith, c.1), c.2)

-- ---- the pieces of an optimised set in their image

-- sound pieces, no two of one name, that stand in an image, with a row for each exit
pub record Standing (set : TraceSet) (ps : List Piece) (image : Imaged) : Type 0 where
  pub range : IsTableInRange set.table
  pub label_of : PieceId → Option (List BoxId)
  pub sound : AllByRecursion (IsSound set label_of) ps
  pub once : AreOnce ps
  pub placed : List Placed
  pub pieces : map piece_of placed ≡ ps
  pub heres : AreHere placed image.pieces
  pub exits : image.exits ≡ all_rows placed

pub standing : TellsNames → OptimisedAreSound → (set : TraceSet) (o : Optimised) (image : Imaged) → IsPlaced set o image → Standing set (all_pieces o.traces) image
standing names sounds set o image p =
    let s = p.is.stand in record {
      range = p.is.can.range.table;
      label_of = label_in (all_pieces o.traces);
      sound = sounds set o p.optimised;
      once = subst AreOnce (sym p.optimised.pieces) (made_once names p.optimised.made p.optimised.holds.once);
      placed = placed_behind p.history.placed p.history.steps;
      pieces = s.pieces;
      heres = s.image_of.heres;
      exits = s.image_of.exits;
    }

-- the code is short
pub code_short : (set : TraceSet) (o : Optimised) (image : Imaged) → IsPlaced set o image → length image.bytes < 2 ^ 30
code_short set o image p = (let r = p.is.stand.image_of.room in below (length image.bytes) (room_left set image.attached) r)
  where
    below : (a b : ℕ) → a + b < 2 ^ 30 → a < 2 ^ 30
    below a b lt = omega (arith, lt)

-- they are served, where each row tells what is shown
pub served : TellsNames → (set : TraceSet) (ps : List Piece) (image : Imaged) → Standing set ps image
    → ((row : ExitRow) → Contains image.exits row → Serves set.table ps image.pieces row row.guard) → IsServed set.table ps image
served names set ps image s rows = record {
  rows = rows;
  once = λ a b x y e. heres_once names s.placed image.pieces a b (subst AreOnce (sym s.pieces) s.once) s.heres (has_of image.pieces a x) (has_of image.pieces b y) e;
  named = λ here x. (let z = placed_as s.placed image.pieces here s.heres (has_of image.pieces here x) in (z.pl.piece, subst (λ (l : List Piece). Contains l z.pl.piece) s.pieces (contains_of (map piece_of s.placed) z.pl.piece z.there), sym z.is.id));
  lawful = λ here x. lawful_here s.placed image.pieces here s.heres (has_of image.pieces here x);
}
