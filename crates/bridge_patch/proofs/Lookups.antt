-- The pieces of a name, among pieces behind which others stand.
use Rattle.std.proofs.Common.{◌≡◌, ◌≢◌, ℕ, Bool, true, false, cond, eqb-true, nat_eq, List, [], ◌∷◌, ◌++◌, Option, Some, refl, ap, ◌∙◌}
use Rattle.std.specs.Prelude.{map}
use Rattle.std.specs.List.{AllByRecursion}
use Rattle.std.specs.Option.{IsSomeAnd, option_map}
use Rattle.trace_ops.specs.declared.trace.BoxId.{BoxId}
use Rattle.trace_ops.specs.declared.trace.Trace.{Trace}
use Rattle.trace_ops.specs.declared.piece.PieceId.{PieceId}
use Rattle.trace_ops.specs.declared.piece.Piece.{Piece}
use Rattle.opt_meaning.specs.Pieces.{same_piece, piece_at}
use Rattle.bridge_patch.specs.declared.image.PieceHere.{PieceHere}
use Rattle.bridge_patch.specs.Pieces.{Placed, start_of, start_in, label_at}
use Rattle.bridge_patch.specs.Image.{AreHere, label_in}
use Rattle.bridge_patch.specs.Attached.{places_in, begin_in, begin_among, led_on}
use Rattle.bridge_patch.proofs.RowsOf.{and_left}

pub trace_apart : (q i : PieceId) → q.trace ≢ i.trace → same_piece q i ≡ false
trace_apart q i away = by (same_piece q i) refl
  where
    by : (b : Bool) → same_piece q i ≡ b → b ≡ false
    by true e = absurd (away (eqb-true q.trace i.trace (and_left (nat_eq q.trace i.trace) _ e)))
    by false e = refl

-- pieces of other traces
abbrev pub AreOthers : ℕ → List Placed → Type 0
AreOthers trace pls = AllByRecursion (λ (pl : Placed). trace ≢ pl.piece.id.trace) pls

-- ---- where one begins

pub begin_past : (traces : List Trace) (b : ℕ) (news pls rest : List Placed) (q : PieceId) → AreOthers q.trace pls → begin_in (map (led_on traces b news) pls ++ rest) q ≡ begin_in rest q
begin_past traces b news [] rest q h = refl
begin_past traces b news (pl ∷ pls) rest q h =
    ap (λ (c : Bool). cond c pl.at (begin_in (map (led_on traces b news) pls ++ rest) q)) (trace_apart q pl.piece.id h.0) ∙ begin_past traces b news pls rest q h.1

pub begin_none : (pls : List Placed) (q : PieceId) → AreOthers q.trace pls → begin_in pls q ≡ 0
begin_none [] q h = refl
begin_none (pl ∷ pls) q h = ap (λ (c : Bool). cond c pl.at (begin_in pls q)) (trace_apart q pl.piece.id h.0) ∙ begin_none pls q h.1

pub begin_kept : (traces : List Trace) (b : ℕ) (news pls rest : List Placed) (q : PieceId) → begin_in rest q ≡ 0 → begin_in (map (led_on traces b news) pls ++ rest) q ≡ begin_in pls q
begin_kept traces b news [] rest q e = e
begin_kept traces b news (pl ∷ pls) rest q e = ap (λ (n : ℕ). cond (same_piece q pl.piece.id) pl.at n) (begin_kept traces b news pls rest q e)

pub begin_here : (pls : List Placed) (heres : List PieceHere) (q : PieceId) → AreHere pls heres → begin_among heres q ≡ begin_in pls q
begin_here [] [] q h = refl
begin_here [] (y ∷ ys) q h = absurd h
begin_here (x ∷ xs) [] q h = absurd h
begin_here (x ∷ xs) (y ∷ ys) q h =
    ap (λ (i : PieceId). cond (same_piece q i) y.at (begin_among ys q)) h.0.id
    ∙ ap (λ (n : ℕ). cond (same_piece q x.piece.id) n (begin_among ys q)) h.0.begins
    ∙ ap (λ (n : ℕ). cond (same_piece q x.piece.id) x.at n) (begin_here xs ys q h.1)

-- ---- where a jump leads

kept_if : {X : Type 0} (P : List BoxId → Type 0) (b : Bool) (p : Piece) (o : Option Piece) (x y z : X) → IsSomeAnd (option_map (λ (r : Piece). r.label) (cond b (Some p) o)) P
    → (IsSomeAnd (option_map (λ (r : Piece). r.label) o) P → x ≡ y) → cond b z x ≡ cond b z y
kept_if P true p o x y z h later = refl
kept_if P false p o x y z h later = later h

pub start_kept : (P : List BoxId → Type 0) (traces : List Trace) (b : ℕ) (news pls rest : List Placed) (q : PieceId) → IsSomeAnd (label_in (map (λ (pl : Placed). pl.piece) pls) q) P
    → start_in (map (led_on traces b news) pls ++ rest) q ≡ start_in pls q
start_kept P traces b news [] rest q h = absurd h
start_kept P traces b news (pl ∷ pls) rest q h =
    kept_if P (same_piece q pl.piece.id) pl.piece (piece_at (map (λ (x : Placed). x.piece) pls) q) (start_in (map (led_on traces b news) pls ++ rest) q) (start_in pls q) (start_of pl) h (start_kept P traces b news pls rest q)

pub places_kept : (P : List BoxId → Type 0) (traces : List Trace) (b : ℕ) (news pls rest : List Placed) (q : PieceId) → IsSomeAnd (label_in (map (λ (pl : Placed). pl.piece) pls) q) P
    → places_in (map (led_on traces b news) pls ++ rest) q ≡ places_in pls q
places_kept P traces b news [] rest q h = absurd h
places_kept P traces b news (pl ∷ pls) rest q h =
    kept_if P (same_piece q pl.piece.id) pl.piece (piece_at (map (λ (x : Placed). x.piece) pls) q) (places_in (map (led_on traces b news) pls ++ rest) q) (places_in pls q) (label_at pl) h (places_kept P traces b news pls rest q)

label_if : (P : List BoxId → Type 0) (b : Bool) (p : Piece) (o r : Option Piece) → IsSomeAnd (option_map (λ (x : Piece). x.label) (cond b (Some p) o)) P
    → (IsSomeAnd (option_map (λ (x : Piece). x.label) o) P → IsSomeAnd (option_map (λ (x : Piece). x.label) r) P) → IsSomeAnd (option_map (λ (x : Piece). x.label) (cond b (Some p) r)) P
label_if P true p o r h later = h
label_if P false p o r h later = later h

pub label_kept : (P : List BoxId → Type 0) (ps qs : List Piece) (q : PieceId) → IsSomeAnd (label_in ps q) P → IsSomeAnd (label_in (ps ++ qs) q) P
label_kept P [] qs q h = absurd h
label_kept P (p ∷ ps) qs q h = label_if P (same_piece q p.id) p (piece_at ps q) (piece_at (ps ++ qs) q) h (label_kept P ps qs q)
