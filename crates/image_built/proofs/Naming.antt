-- Pieces by name.
use Rattle.std.proofs.Common.{◌≡◌, ℕ, suc, ◌+◌, ◌-◌, ◌≤◌, Bool, true, false, cond, List, [], ◌∷◌, ◌++◌, length, map, refl, sym, ap, ◌∙◌, subst, arith, Option, Some, None}
use Rattle.std.specs.Prelude.{slice_get, option_and_then}
use Rattle.std.specs.Bool.{Decides}
use Rattle.std.specs.Option.{IsSomeAnd, option_map, unwrap_or}
use Rattle.std.specs.List.{All, AllByRecursion}
use Rattle.std.proofs.lemmas.List.{length-map}
use Rattle.std.proofs.lemmas.List.Elements.{All-get_or}
use Rattle.std.proofs.lemmas.Option.{slice_get_within, get_or_from_slice_get}
use Rattle.trace_ops.specs.declared.trace.BoxId.{BoxId}
use Rattle.trace_ops.specs.declared.trace.Arg.{Arg}
use Rattle.trace_ops.specs.declared.trace.Origin.{Origin}
use Rattle.trace_ops.specs.declared.trace.Origin.TheVariants.{Loop, Bridge}
use Rattle.trace_ops.specs.declared.trace.Trace.{Trace}
use Rattle.trace_ops.specs.declared.piece.Half.{Half}
use Rattle.trace_ops.specs.declared.piece.Half.TheVariants as half
use Rattle.trace_ops.specs.declared.piece.PieceId.{PieceId}
use Rattle.trace_ops.specs.declared.piece.OptOp.{OptOp}
use Rattle.trace_ops.specs.declared.piece.OptOp.TheVariants as opt
use Rattle.trace_ops.specs.declared.piece.Piece.{Piece}
use Rattle.trace_ops.specs.declared.piece.OptTrace.{OptTrace}
use Rattle.trace_ops.specs.Kinds.{kind_of_arg}
use Rattle.trace_ops.specs.Pieces.{FitsLabel}
use Rattle.opt_meaning.specs.Pieces.{same_piece, piece_at, ops_of, all_pieces, last_of, named_by, jump_target}
use Rattle.asm_select.specs.Chosen.{Setting}
use Rattle.bridge_patch.specs.Pieces.{Placed, start_of, start_in, label_at}
use Rattle.bridge_patch.specs.Attached.{begin_in, places_in}
use Rattle.bridge_patch.specs.Image.{label_in, ArePiecesOf, loop_if, loops_from, AreOfLoops}
use Rattle.image_built.specs.Built.{keyed, settings_from}
use Rattle.image_built.proofs.Splitting.{keys_in}

-- names are told apart
abbrev pub TellsNames : Type 0
TellsNames = (p q : PieceId) → Decides (same_piece p q) (p ≡ q)

pub not_true : (b : Bool) → (b ≡ true → ⊥) → b ≡ false
not_true true h = absurd (h refl)
not_true false h = refl

pub all_here : {X : Type 0} (P : X → Type 0) (before after : List X) (x : X) → AllByRecursion P (before ++ x ∷ after) → P x
all_here P [] after x h = h.0
all_here P (y ∷ before) after x h = all_here P before after x h.1

pub map-around : {X Y : Type 0} (f : X → Y) (before after : List X) (x : X) → map f (before ++ x ∷ after) ≡ map f before ++ f x ∷ map f after
map-around f [] after x = refl
map-around f (y ∷ before) after x = ap (λ l. f y ∷ l) (map-around f before after x)

pub get_middle : {X : Type 0} (xs : List X) (x : X) (ys : List X) → slice_get (xs ++ x ∷ ys) (length xs) ≡ Some x
get_middle [] x ys = refl
get_middle (y ∷ xs) x ys = get_middle xs x ys

pub all_at : {X : Type 0} (P : X → Type 0) (xs : List X) (k : ℕ) (x : X) → All P xs → slice_get xs k ≡ Some x → P x
all_at P xs k x h e = subst P (get_or_from_slice_get xs k x x e) (All-get_or P xs k x (slice_get_within xs k x e) h)

-- ---- no name twice

-- another name than this
abbrev IsOther : PieceId → Piece → Type 0
IsOther q p = same_piece p.id q ≡ false

abbrev pub AreOnce : List Piece → Type 0
AreOnce [] = Unit {0}
AreOnce (p ∷ ps) = AllByRecursion (λ (x : Piece). same_piece x.id p.id ≡ false) ps × AreOnce ps

pub each_weaker : {X : Type 0} (P Q : X → Type 0) (xs : List X) → ((x : X) → P x → Q x) → AllByRecursion P xs → AllByRecursion Q xs
each_weaker P Q [] f h = tt
each_weaker P Q (x ∷ xs) f h = (f x h.0, each_weaker P Q xs f h.1)

pub each_append : {X : Type 0} (P : X → Type 0) (xs ys : List X) → AllByRecursion P xs → AllByRecursion P ys → AllByRecursion P (xs ++ ys)
each_append P [] ys a b = b
each_append P (x ∷ xs) ys a b = (a.0, each_append P xs ys a.1 b)

apart : TellsNames → (n : ℕ) (p x : Piece) → p.id.trace ≡ n → n + 1 ≤ x.id.trace → same_piece x.id p.id ≡ false
apart names n p x e le =
    not_true (same_piece x.id p.id) (λ h. (let same : x.id.trace ≡ p.id.trace = ap (λ (q : PieceId). q.trace) ((names x.id p.id).0 h) in omega (arith, e, le, same)))

pub once_both : TellsNames → (n : ℕ) (xs ys : List Piece) → AreOnce xs → AllByRecursion (λ (p : Piece). p.id.trace ≡ n) xs → AreOnce ys → AllByRecursion (λ (p : Piece). n + 1 ≤ p.id.trace) ys → AreOnce (xs ++ ys)
once_both names n [] ys a e b l = b
once_both names n (x ∷ xs) ys a e b l = (
  each_append (λ (y : Piece). same_piece y.id x.id ≡ false) xs ys a.0 (each_weaker (λ (p : Piece). n + 1 ≤ p.id.trace) (λ (y : Piece). same_piece y.id x.id ≡ false) ys (λ y le. apart names n x y e.0 le) l),
  once_both names n xs ys a.1 e.1 b l,
)

abbrev is_body : Half → ℕ
is_body half.Pre = 0
is_body half.Body = 1

halves_apart : TellsNames → (k : ℕ) (a b : PieceId) → a ≡ record { trace = k; half = half.Pre } → b ≡ record { trace = k; half = half.Body } → same_piece b a ≡ false
halves_apart names k a b x y =
    not_true (same_piece b a) (λ h. (let same : is_body a.half ≡ is_body b.half = ap (λ (q : PieceId). is_body q.half) (sym ((names b a).0 h)) in
    let za : is_body a.half ≡ 0 = ap (λ (q : PieceId). is_body q.half) x in
    let zb : is_body b.half ≡ 1 = ap (λ (q : PieceId). is_body q.half) y in
    omega (arith, same, za, zb)))

once_loop : TellsNames → (k : ℕ) (ps : List Piece) → ArePiecesOf k ps → AreOnce ps × AllByRecursion (λ (p : Piece). p.id.trace ≡ k) ps
once_loop names k [] h = absurd h
once_loop names k (p ∷ []) h = ((tt, tt), (ap (λ (q : PieceId). q.trace) h, tt))
once_loop names k (p ∷ q ∷ []) h = (((halves_apart names k p.id q.id h.0 h.1, tt), (tt, tt)), (ap (λ (x : PieceId). x.trace) h.0, (ap (λ (x : PieceId). x.trace) h.1, tt)))
once_loop names k (p ∷ q ∷ r ∷ ps) h = absurd h

-- the pieces of loops, of which the first is at this place or behind it
abbrev AreBehind : ℕ → List OptTrace → Type 0
AreBehind n os = AreOnce (all_pieces os) × AllByRecursion (λ (p : Piece). n ≤ p.id.trace) (all_pieces os)

behind_less : (n : ℕ) (ps : List Piece) → AllByRecursion (λ (p : Piece). n + 1 ≤ p.id.trace) ps → AllByRecursion (λ (p : Piece). n ≤ p.id.trace) ps
behind_less n ps h = each_weaker (λ (p : Piece). n + 1 ≤ p.id.trace) (λ (p : Piece). n ≤ p.id.trace) ps (λ p e. omega (arith, e)) h

once_if : TellsNames → (n : ℕ) (origin : Origin) (ks : List ℕ) → ((os : List OptTrace) → AreOfLoops ks os → AreBehind (n + 1) os) → (os : List OptTrace) → AreOfLoops (loop_if origin n ++ ks) os → AreBehind n os
once_if names n Loop ks next [] h = absurd h
once_if names n Loop ks next (o ∷ os) h =
    let one = once_loop names n o.pieces h.0 in
    let more = next os h.1 in (
      once_both names n o.pieces (all_pieces os) one.0 one.1 more.0 more.1,
      each_append (λ (p : Piece). n ≤ p.id.trace) o.pieces (all_pieces os) (each_weaker (λ (p : Piece). p.id.trace ≡ n) (λ (p : Piece). n ≤ p.id.trace) o.pieces (λ p e. omega (arith, e)) one.1) (behind_less n (all_pieces os) more.1),
    )
once_if names n (Bridge parent guard) ks next os h = let more = next os h in (more.0, behind_less n (all_pieces os) more.1)

once_from : TellsNames → (n : ℕ) (ts : List Trace) (os : List OptTrace) → AreOfLoops (loops_from n ts) os → AreBehind n os
once_from names n [] [] h = (tt, tt)
once_from names n [] (o ∷ os) h = absurd h
once_from names n (t ∷ ts) os h = once_if names n t.origin (loops_from (n + 1) ts) (once_from names (n + 1) ts) os h

pub loops_once : TellsNames → (ts : List Trace) (os : List OptTrace) → AreOfLoops (loops_from 0 ts) os → AreOnce (all_pieces os)
loops_once names ts os h = (once_from names 0 ts os h).0

-- ---- what is found by name

abbrev pub piece_of : Placed → Piece
piece_of pl = pl.piece

-- the piece in the code that is found by a name
pub record Found (pls : List Placed) (q : PieceId) (p : Piece) : Type 0 where
  pub before : List Placed
  pub pl : Placed
  pub after : List Placed
  pub here : pls ≡ before ++ pl ∷ after
  pub piece : pl.piece ≡ p
  pub named : q ≡ pl.piece.id
  pub begins : begin_in pls q ≡ pl.at
  pub start : start_in pls q ≡ start_of pl
  pub places : places_in pls q ≡ label_at pl

pub some_is : {X : Type 0} {x y : X} → Some x ≡ Some y → x ≡ y
some_is e = cc

found_if : TellsNames → (pls : List Placed) (q : PieceId) (p : Piece) (x : Placed) (t : Bool) → same_piece q x.piece.id ≡ t → cond t (Some x.piece) (piece_at (map piece_of pls) q) ≡ Some p → (piece_at (map piece_of pls) q ≡ Some p → Found pls q p) → Found (x ∷ pls) q p
found_if names pls q p x true t e more = record {
  before = [];
  pl = x;
  after = pls;
  here = refl;
  piece = some_is e;
  named = (names q x.piece.id).0 t;
  begins = ap (λ (i : Bool). cond i x.at (begin_in pls q)) t;
  start = ap (λ (i : Bool). cond i (start_of x) (start_in pls q)) t;
  places = ap (λ (i : Bool). cond i (label_at x) (places_in pls q)) t;
}
found_if names pls q p x false t e more =
    let f = more e in
    record {
      before = x ∷ f.before;
      pl = f.pl;
      after = f.after;
      here = ap (λ (l : List Placed). x ∷ l) f.here;
      piece = f.piece;
      named = f.named;
      begins = ap (λ (i : Bool). cond i x.at (begin_in pls q)) t ∙ f.begins;
      start = ap (λ (i : Bool). cond i (start_of x) (start_in pls q)) t ∙ f.start;
      places = ap (λ (i : Bool). cond i (label_at x) (places_in pls q)) t ∙ f.places;
    }

pub found : TellsNames → (pls : List Placed) (q : PieceId) (p : Piece) → piece_at (map piece_of pls) q ≡ Some p → Found pls q p
found names [] q p e = absurd (cc)
found names (x ∷ pls) q p e = found_if names pls q p x (same_piece q x.piece.id) refl e (found names pls q p)

-- the setting of one in the midst, whose name no other has, and where it begins
pub record IsSplit (b : ℕ) (other : PieceId → Setting) (before after : List Placed) (pl : Placed) : Type 0 where
  pub at : piece_at (map piece_of (before ++ pl ∷ after)) pl.piece.id ≡ Some pl.piece
  pub setting : settings_from b (before ++ pl ∷ after) other pl.piece.id ≡ keyed (b + keys_in before) pl.setting
  pub begins : begin_in (before ++ pl ∷ after) pl.piece.id ≡ pl.at

pub at_split : TellsNames → (b : ℕ) (other : PieceId → Setting) (before after : List Placed) (pl : Placed) → AreOnce (map piece_of (before ++ pl ∷ after)) → IsSplit b other before after pl
at_split names b other [] after pl once =
    let t : same_piece pl.piece.id pl.piece.id ≡ true = (names pl.piece.id pl.piece.id).1 refl in
    let n : b ≡ b + 0 = omega arith in record {
      at = ap (λ (i : Bool). cond i (Some pl.piece) (piece_at (map piece_of after) pl.piece.id)) t;
      setting = ap (λ (i : Bool). cond i (keyed b pl.setting) (settings_from (b + length pl.piece.ops) after other pl.piece.id)) t ∙ ap (λ (k : ℕ). keyed k pl.setting) n;
      begins = ap (λ (i : Bool). cond i pl.at (begin_in after pl.piece.id)) t;
    }
at_split names b other (x ∷ before) after pl once =
    let more = at_split names (b + length x.piece.ops) other before after pl once.1 in
    let others = subst (λ (l : List Piece). AllByRecursion (λ (y : Piece). same_piece y.id x.piece.id ≡ false) l) (map-around piece_of before after pl) once.0 in
    let t : same_piece pl.piece.id x.piece.id ≡ false = all_here (λ (y : Piece). same_piece y.id x.piece.id ≡ false) (map piece_of before) (map piece_of after) pl.piece others in
    let n : b + length x.piece.ops + keys_in before ≡ b + (length x.piece.ops + keys_in before) = omega arith in record {
      at = ap (λ (i : Bool). cond i (Some x.piece) (piece_at (map piece_of (before ++ pl ∷ after)) pl.piece.id)) t ∙ more.at;
      setting = ap (λ (i : Bool). cond i (keyed b x.setting) (settings_from (b + length x.piece.ops) (before ++ pl ∷ after) other pl.piece.id)) t ∙ more.setting ∙ ap (λ (k : ℕ). keyed k pl.setting) n;
      begins = ap (λ (i : Bool). cond i x.at (begin_in (before ++ pl ∷ after) pl.piece.id)) t ∙ more.begins;
    }

-- ---- where a jump goes

pub record Reaches (ps : List Piece) (args : List Arg) (to : PieceId) : Type 0 where
  pub piece : Piece
  pub at : piece_at ps to ≡ Some piece
  pub kinds : map kind_of_arg args ≡ map (λ (b : BoxId). Some b.kind) piece.label
  pub long : length args ≡ length piece.label

pub reaches : (ps : List Piece) (args : List Arg) (to : PieceId) → FitsLabel (label_in ps) (opt.Jump to args) → Reaches ps args to
reaches ps args to h = by_piece (piece_at ps to) refl h
  where
    by_piece : (o : Option Piece) → piece_at ps to ≡ o → IsSomeAnd (option_map (λ (p : Piece). p.label) o) (λ (label : List BoxId). map kind_of_arg args ≡ map (λ (b : BoxId). Some b.kind) label) → Reaches ps args to
    by_piece None e k = absurd k
    by_piece (Some p) e k = record { piece = p; at = e; kinds = k; long = sym (length-map args kind_of_arg) ∙ ap length k ∙ length-map p.label (λ (b : BoxId). Some b.kind) }

-- a piece that ends with a jump is followed by the one that the jump names
pub last_jump : (ps : List Piece) (q : PieceId) (p : Piece) (done : List OptOp) (to : PieceId) (args : List Arg) → piece_at ps q ≡ Some p → p.ops ≡ done ++ opt.Jump to args ∷ [] → jump_target ps q ≡ to
last_jump ps q p done to args e split =
    ap (λ (o : Option Piece). unwrap_or (option_and_then named_by (last_of (ops_of o))) q) e
    ∙ ap (λ (l : List OptOp). unwrap_or (option_and_then named_by (last_of l)) q) split
    ∙ ap (λ (k : ℕ). unwrap_or (option_and_then named_by (slice_get (done ++ opt.Jump to args ∷ []) k)) q) (one_less done (opt.Jump to args))
    ∙ ap (λ (o : Option OptOp). unwrap_or (option_and_then named_by o) q) (get_middle done (opt.Jump to args) [])
  where
    long : {X : Type 0} (xs : List X) (x : X) → length (xs ++ x ∷ []) ≡ suc (length xs)
    long [] x = refl
    long (y ∷ xs) x = ap suc (long xs x)

    one_less : {X : Type 0} (xs : List X) (x : X) → length (xs ++ x ∷ []) - 1 ≡ length xs
    one_less xs x = omega (arith, long xs x)
