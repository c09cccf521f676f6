-- The lives of boxes tell whether a comparison's result is needed again.
use Rattle.std.proofs.Common.{◌≡◌, ◌⊎◌, ◌↔◌, ℕ, zero, suc, ◌+◌, ◌-◌, ◌<◌, Bool, true, false, Some, None, List, [], ◌∷◌, ◌++◌, length, take, drop, refl, sym, ap, ◌∙◌, subst, inl, inr, arith}
use Rattle.std.specs.Prelude.{slice_get, nat_lt, ◌||◌}
use Rattle.std.specs.List.{flat_map, list_any}
use Rattle.std.proofs.lemmas.Bool.{ltb_from_iff}
use Rattle.lists.proofs.Places.{get_some}
use Rattle.trace_ops.specs.declared.trace.BoxId.{BoxId}
use Rattle.trace_ops.specs.declared.piece.OptOp.{OptOp}
use Rattle.trace_ops.specs.declared.piece.OptOp.TheVariants as opt
use Rattle.trace_ops.specs.declared.piece.Piece.{Piece}
use Rattle.trace_ops.specs.Pieces.{results_of, used_by, defined_by}
use Rattle.trace_meaning.specs.Boxes.{same_box}
use Rattle.linear_scan.specs.declared.living.Live.{Live}
use Rattle.linear_scan.specs.Living.{start_of, end_of, uses_box}
use Rattle.linear_scan.specs.Lives.{IsLifeOf}
use Rattle.linear_scan.specs.Numbering.{AreNumbered, AreDefined, BoxesLive}
use Rattle.asm_select.specs.Reached.{IsNamed}
use Rattle.asm_select.specs.Chosen.{is_needed}
use Rattle.asm_select.specs.Drafting.{end_of_life, end_in, in_next, Tells}
use Rattle.asm_select.specs.Selecting.{AllTell}
use Rattle.asm_select.proofs.Naming.{named_contains, named_left, named_right, named_in, given_at, given_named, any_found}
use Rattle.asm_select.proofs.Allotted.{stands, all_at}
use Rattle.asm_select.proofs.Values.{same_itself, same_is}

some_is : {X : Type 0} (a b : X) → Some a ≡ Some b → a ≡ b
some_is a b h = cc

get_drop : (ops : List OptOp) (n j : ℕ) → slice_get ops (n + j) ≡ slice_get (drop n ops) j
get_drop ops zero j = let e : 0 + j ≡ j = omega arith in ap (slice_get ops) e
get_drop [] (suc n) j = refl
get_drop (o ∷ ops) (suc n) j = (let e : suc n + j ≡ suc (n + j) = omega arith in ap (slice_get (o ∷ ops)) e) ∙ get_drop ops n j

-- ---- boxes that are found among boxes

boxes_found : (r : BoxId) (bs : List BoxId) → list_any (same_box r) bs ≡ true → IsNamed bs r
boxes_found r [] h = absurd (cc)
boxes_found r (b ∷ bs) h =
    elim (same_box r b) as (λ y. same_box r b ≡ y → (y || list_any (same_box r) bs) ≡ true → IsNamed (b ∷ bs) r) [
      | true ↦ λ e g. inl (sym (same_is r b e))
      | false ↦ λ e g. inr (boxes_found r bs g)
    ]
    refl h

or_true : (b : Bool) → (b || true) ≡ true
or_true true = refl
or_true false = refl

found_boxes : (r : BoxId) (bs : List BoxId) → IsNamed bs r → list_any (same_box r) bs ≡ true
found_boxes r [] h = absurd h
found_boxes r (b ∷ bs) (inl e) = ap (λ x. same_box r x || list_any (same_box r) bs) e ∙ ap (λ y. y || list_any (same_box r) bs) (same_itself r)
found_boxes r (b ∷ bs) (inr h) = ap (λ y. same_box r b || y) (found_boxes r bs h) ∙ or_true (same_box r b)

-- an operation that uses the box
record IsUser (ops : List OptOp) (r : BoxId) : Type 0 where
  pub j : ℕ
  pub op : OptOp
  pub there : slice_get ops j ≡ Some op
  pub used : IsNamed (used_by op) r

user_of : (ops : List OptOp) (r : BoxId) → IsNamed (flat_map used_by ops) r → IsUser ops r
user_of [] r h = absurd h
user_of (o ∷ ops) r h = which (user_of ops r) (named_in (used_by o) (flat_map used_by ops) r h)
  where
    which : (IsNamed (flat_map used_by ops) r → IsUser ops r) → IsNamed (used_by o) r ⊎ IsNamed (flat_map used_by ops) r → IsUser (o ∷ ops) r
    which more (inl g) = record { j = 0; op = o; there = refl; used = g }
    which more (inr g) = let u = more g in record { j = suc u.j; op = u.op; there = u.there; used = u.used }

used_in : (ops : List OptOp) (r : BoxId) (j : ℕ) (op : OptOp) → slice_get ops j ≡ Some op → IsNamed (used_by op) r → IsNamed (flat_map used_by ops) r
used_in [] r j op e h = absurd (cc)
used_in (o ∷ ops) r zero op e h = named_left (used_by o) (flat_map used_by ops) r (subst (λ (x : OptOp). IsNamed (used_by x) r) (sym (some_is o op e)) h)
used_in (o ∷ ops) r (suc j) op e h = named_right (used_by o) (flat_map used_by ops) r (used_in ops r j op e h)

-- ---- the box's end

-- two defined boxes of one number are one
one_box : (piece : Piece) (b d : BoxId) → AreNumbered piece → IsNamed (defined_by piece) b → IsNamed (defined_by piece) d → b.number ≡ d.number → b ≡ d
one_box piece b d n hb hd e = some_is b d (sym (stands piece b n hb).1 ∙ ap (slice_get (defined_by piece)) e ∙ (stands piece d n hd).1)

before_all : (piece : Piece) (k : ℕ) (b : BoxId) → IsNamed (piece.label ++ flat_map results_of (take k piece.ops)) b → IsNamed (defined_by piece) b
before_all piece k b h = which (named_in piece.label (flat_map results_of (take k piece.ops)) b h)
  where
    which : IsNamed piece.label b ⊎ IsNamed (flat_map results_of (take k piece.ops)) b → IsNamed (defined_by piece) b
    which (inl g) = named_left piece.label (flat_map results_of piece.ops) b g
    which (inr g) =
        let u = given_at piece.ops k b g in
        named_right piece.label (flat_map results_of piece.ops) b (given_named piece.ops u.i u.op b u.there u.named)

-- the operations behind the next one
abbrev behind : List OptOp → List OptOp
behind [] = []
behind (op ∷ ops) = ops

needed_is : (r : BoxId) (ops : List OptOp) → is_needed r ops ≡ (in_next r ops || list_any (same_box r) (flat_map used_by (behind ops)))
needed_is r [] = refl
needed_is r (op ∷ ops) = refl

behind_get : (ops : List OptOp) (j : ℕ) → slice_get (behind ops) j ≡ slice_get ops (suc j)
behind_get [] j = refl
behind_get (op ∷ ops) j = refl

end_is : (piece : Piece) (lives : List Live) (r : BoxId) → AreNumbered piece → IsNamed (defined_by piece) r → length lives ≡ length (defined_by piece) → ((b : ℕ) (live : Live) → slice_get lives b ≡ Some live → IsLifeOf piece b live) → end_in lives r.number ≡ end_of piece r.number
end_is piece lives r n h len each =
    let lt : r.number < length (defined_by piece) = (stands piece r n h).0 in
    let g = get_some lives r.number (omega (arith, lt, len)) in
    ap end_of_life g.1 ∙ (each r.number g.0 g.1).ends

used_later : (piece : Piece) (k : ℕ) (r : BoxId) (rest : List OptOp) → BoxesLive piece → ((j : ℕ) → slice_get piece.ops (k + 1 + j) ≡ slice_get rest j) → list_any (same_box r) (flat_map used_by (behind rest)) ≡ true → k + 1 < end_of piece r.number
used_later piece k r rest l same h =
    let u = user_of (behind rest) r (boxes_found r (flat_map used_by (behind rest)) h) in
    let there = same (suc u.j) ∙ sym (behind_get rest u.j) ∙ u.there in
    let at = l.used (k + 1 + suc u.j) u.op r there (named_contains (used_by u.op) r u.used) in
    omega (arith, at.1)

ends_later : (piece : Piece) (k : ℕ) (r : BoxId) (rest : List OptOp) → AreNumbered piece → AreDefined piece → IsNamed (defined_by piece) r → start_of piece r.number ≡ k + 1 → ((j : ℕ) → slice_get piece.ops (k + 1 + j) ≡ slice_get rest j) → k + 1 < end_of piece r.number
    → (end_of piece r.number ≡ start_of piece r.number) ⊎ ((o : OptOp) × (slice_get piece.ops (end_of piece r.number) ≡ Some o) × (uses_box r.number o ≡ true)) → list_any (same_box r) (flat_map used_by (behind rest)) ≡ true
ends_later piece k r rest n d defined begins same lt (inl e) = absurd (omega (arith, lt, e, begins))
ends_later piece k r rest n d defined begins same lt (inr (o, there, uses)) =
    let f = any_found (used_by o) r.number uses in
    let x_defined = before_all piece (end_of piece r.number) f.0 (all_at piece o (end_of piece r.number) f.0 d there f.1) in
    let one : f.0 ≡ r = one_box piece f.0 r n x_defined defined (sym f.2) in
    let j = end_of piece r.number - (k + 2) in
    let z : k + 1 + suc j ≡ end_of piece r.number = omega (arith, lt) in
    let here = behind_get rest j ∙ sym (same (suc j)) ∙ ap (slice_get piece.ops) z ∙ there in
    found_boxes r (flat_map used_by (behind rest)) (used_in (behind rest) r j o here (subst (IsNamed (used_by o)) one f.1))

needed_by_end : (piece : Piece) (k : ℕ) (op : OptOp) (r : BoxId) (rest : List OptOp) → AreNumbered piece → AreDefined piece → BoxesLive piece → slice_get piece.ops k ≡ Some op → IsNamed (results_of op) r → ((j : ℕ) → slice_get piece.ops (k + 1 + j) ≡ slice_get rest j)
    → (list_any (same_box r) (flat_map used_by (behind rest)) ≡ true) ↔ (k + 1 < end_of piece r.number)
needed_by_end piece k op r rest n d l e named same =
    let defined = named_right piece.label (flat_map results_of piece.ops) r (given_named piece.ops k op r e named) in
    let begins = l.result k op r e (named_contains (results_of op) r named) in
    (used_later piece k r rest l same, λ lt. ends_later piece k r rest n d defined begins same lt (l.last r.number))

tells : (piece : Piece) (lives : List Live) (k : ℕ) (op : OptOp) (r : BoxId) → AreNumbered piece → AreDefined piece → BoxesLive piece → length lives ≡ length (defined_by piece) → ((b : ℕ) (live : Live) → slice_get lives b ≡ Some live → IsLifeOf piece b live)
    → slice_get piece.ops k ≡ Some op → IsNamed (results_of op) r → Tells lives k (drop (k + 1) piece.ops) r
tells piece lives k op r n d l len each e named =
    let rest = drop (k + 1) piece.ops in
    let defined = named_right piece.label (flat_map results_of piece.ops) r (given_named piece.ops k op r e named) in
    needed_is r rest
    ∙ ap (λ b. in_next r rest || b) (ltb_from_iff (needed_by_end piece k op r rest n d l e named (get_drop piece.ops (k + 1))) ∙ ap (nat_lt (k + 1)) (sym (end_is piece lives r n defined len each)))

pub all_tell : (piece : Piece) (lives : List Live) → AreNumbered piece → AreDefined piece → BoxesLive piece → length lives ≡ length (defined_by piece) → ((b : ℕ) (live : Live) → slice_get lives b ≡ Some live → IsLifeOf piece b live) → AllTell lives piece.ops
all_tell piece lives n d l len each k (opt.Plain operation (Some r) args x) e = tells piece lives k (opt.Plain operation (Some r) args x) r n d l len each e (inl refl)
all_tell piece lives n d l len each k (opt.Plain operation None args x) e = tt
all_tell piece lives n d l len each k (opt.Guard operation args m snap) e = tt
all_tell piece lives n d l len each k (opt.Exit m snap) e = tt
all_tell piece lives n d l len each k (opt.Jump to args) e = tt
all_tell piece lives n d l len each k (opt.Finish value) e = tt
