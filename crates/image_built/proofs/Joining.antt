-- What an attachment makes of an image is what an attachment does to one.
use Rattle.std.proofs.Common.{◌≡◌, ◌≢◌, inl, inr, ℕ, ◌+◌, ◌<◌, ◌≤◌, ◌^◌, Bool, true, false, cond, List, [], ◌∷◌, ◌++◌, length, map, append_assoc, Option, Some, None, refl, sym, ap, ◌∙◌, subst, arith, pos, ℤ}
use Rattle.std.specs.Prelude.{nat_eq}
use Rattle.std.specs.List.{AllByRecursion}
use Rattle.std.proofs.lemmas.List.{map-append}
use Rattle.std.proofs.lemmas.Bool.{eqb-true}
use Rattle.lists.specs.Has.{Has}
use Rattle.trace_ops.specs.declared.trace.TraceSet.{TraceSet}
use Rattle.trace_ops.specs.declared.piece.PieceId.{PieceId}
use Rattle.trace_ops.specs.declared.piece.OptOp.{OptOp}
use Rattle.trace_ops.specs.declared.piece.OptOp.TheVariants as opt
use Rattle.trace_ops.specs.declared.piece.Piece.{Piece}
use Rattle.opt_meaning.specs.Pieces.{piece_at, same_piece}
use Rattle.guard_exit.specs.declared.row.ExitRow.{ExitRow}
use Rattle.guard_exit.specs.Codes.{common_code}
use Rattle.asm_select.specs.Slots.{Slot, Put, Leave, Go, puts, size_of}
use Rattle.asm_select.specs.Laid.{has_stub}
use Rattle.asm_select.specs.Chosen.{Where}
use Rattle.code_layout.specs.Leading.{way}
use Rattle.bridge_patch.specs.Pieces.{Placed, end_of, exits_in, AreLaid, rows_of_op, rows_of, all_rows, displacement_of}
use Rattle.bridge_patch.specs.Attached.{led_on, guard_of}
use Rattle.image_runs.specs.Selection.{Guarded, Finishing, Inside, Model}
use Rattle.image_runs.specs.Selection as runs
use Rattle.image_built.specs.Built.{slots_of, slots_from, all_slots, runs_from, by_key, by_of}
use Rattle.image_built.proofs.Leading.{KeysAre}
use Rattle.image_built.proofs.Stubbing.{exits-append, exits_one}
use Rattle.image_built.proofs.Splitting.{keys_in, keys_in-append, by_key-split, slots_from-append, stands}
use Rattle.image_built.proofs.Naming.{some_is, not_true}
use Rattle.image_built.proofs.Rowing.{op_of, piece_of_row}
use Rattle.image_built.proofs.Attaching.{after, keys_led}

-- ---- slots, pieces and rows

pub slots_led : (set : TraceSet) (bridge : ℕ) (news : List Placed) (b : ℕ) (pls : List Placed) → slots_from b (map (led_on set.traces bridge news) pls) ≡ slots_from b pls
slots_led set bridge news b [] = refl
slots_led set bridge news b (pl ∷ pls) = ap (λ (l : List Slot). slots_of b pl ++ l) (slots_led set bridge news (b + length pl.piece.ops) pls)

pub slots_after : (set : TraceSet) (bridge : ℕ) (news placed : List Placed) → all_slots (after set bridge news placed) ≡ all_slots placed ++ slots_from (keys_in placed) news
slots_after set bridge news placed =
    let f = led_on set.traces bridge news in
    let n : 0 + keys_in (map f placed) ≡ keys_in placed = omega (arith, keys_led set bridge news placed) in
    ap (λ (l : List Slot). puts common_code ++ l) (slots_from-append 0 (map f placed) news ∙ ap (λ (k : ℕ). slots_from 0 (map f placed) ++ slots_from k news) n ∙ ap (λ (l : List Slot). l ++ slots_from (keys_in placed) news) (slots_led set bridge news 0 placed))
    ∙ sym (append_assoc (puts common_code) (slots_from 0 placed) (slots_from (keys_in placed) news))

pub runs_led : (set : TraceSet) (bridge : ℕ) (news : List Placed) (b : ℕ) (pls : List Placed) (run : runs.Placed) → Has (runs_from b pls) run → Has (runs_from b (map (led_on set.traces bridge news) pls ++ news)) run
runs_led set bridge news b [] run h = absurd h
runs_led set bridge news b (pl ∷ pls) run (inl e) = inl e
runs_led set bridge news b (pl ∷ pls) run (inr h) = inr (runs_led set bridge news (b + length pl.piece.ops) pls run h)

rows_append : (xs ys : List Placed) → all_rows (xs ++ ys) ≡ all_rows xs ++ all_rows ys
rows_append [] ys = refl
rows_append (x ∷ xs) ys = ap (λ (l : List ExitRow). rows_of x ++ l) (rows_append xs ys) ∙ sym (append_assoc (rows_of x) (all_rows xs) (all_rows ys))

rows_led : (set : TraceSet) (bridge : ℕ) (news pls : List Placed) → all_rows (map (led_on set.traces bridge news) pls) ≡ all_rows pls
rows_led set bridge news [] = refl
rows_led set bridge news (pl ∷ pls) = ap (λ (l : List ExitRow). rows_of pl ++ l) (rows_led set bridge news pls)

pub rows_after : (set : TraceSet) (bridge : ℕ) (news placed : List Placed) → all_rows (after set bridge news placed) ≡ all_rows placed ++ all_rows news
rows_after set bridge news placed = rows_append (map (led_on set.traces bridge news) placed) news ∙ ap (λ (l : List ExitRow). l ++ all_rows news) (rows_led set bridge news placed)

-- ---- numbers of exits

pub laid_split : (at exit end last : ℕ) (xs ys : List Placed) → AreLaid at exit (xs ++ ys) end last → (a : ℕ) × (n : ℕ) × AreLaid at exit xs a n × AreLaid a n ys end last
laid_split at exit end last [] ys h = (at, exit, (refl, refl), h)
laid_split at exit end last (x ∷ xs) ys h = (let z = laid_split (end_of x) (exit + exits_in x.piece.ops) end last xs ys h.2 in (z.0, z.1, (h.0, h.1, z.2), z.3))

pub laid_led : (set : TraceSet) (bridge : ℕ) (news : List Placed) (at exit end last : ℕ) (pls : List Placed) → AreLaid at exit (map (led_on set.traces bridge news) pls) end last → AreLaid at exit pls end last
laid_led set bridge news at exit end last [] h = h
laid_led set bridge news at exit end last (pl ∷ pls) h = (h.0, h.1, laid_led set bridge news (end_of pl) (exit + exits_in pl.piece.ops) end last pls h.2)

row_number : (at : Where) (id : PieceId) (exit place : ℕ) (op : OptOp) (row : ExitRow) → Has (rows_of_op at id exit place op) row → (row.exit ≡ exit) × (has_stub op ≡ true)
row_number at id exit place (opt.Plain operation r args d) row h = absurd h
row_number at id exit place (opt.Guard operation args n snap) row (inl e) = (ap (λ (r : ExitRow). r.exit) (sym e), refl)
row_number at id exit place (opt.Guard operation args n snap) row (inr h) = absurd h
row_number at id exit place (opt.Exit n snap) row (inl e) = (ap (λ (r : ExitRow). r.exit) (sym e), refl)
row_number at id exit place (opt.Exit n snap) row (inr h) = absurd h
row_number at id exit place (opt.Jump to args) row h = absurd h
row_number at id exit place (opt.Finish value) row (inl e) = (ap (λ (r : ExitRow). r.exit) (sym e), refl)
row_number at id exit place (opt.Finish value) row (inr h) = absurd h

-- the rows of pieces have numbers from that of the first exit on, below the last
pub rows_between : (at exit end last : ℕ) (pls : List Placed) (row : ExitRow) → last ≤ 2 ^ 31 → AreLaid at exit pls end last → Has (all_rows pls) row → (exit ≤ row.exit) × (row.exit < last)
rows_between at exit end last pls row few laid h =
    let p = piece_of_row pls row h in
    let o = op_of p.pl.setting.at p.pl.piece.id (displacement_of p.pl) p.pl.exit 0 p.pl.piece.ops row p.has in
    let n = row_number p.pl.setting.at p.pl.piece.id (p.pl.exit + exits_in o.done) (displacement_of p.pl (0 + length o.done)) o.op row o.has in
    let s = stands at exit end last 0 p.before p.after p.pl few (subst (λ (l : List Placed). AreLaid at exit l end last) p.here laid) in
    let many : exits_in p.pl.piece.ops ≡ exits_in o.done + (1 + exits_in o.rest) = ap exits_in o.split ∙ exits-append o.done (o.op ∷ o.rest) ∙ ap (λ (k : ℕ). exits_in o.done + k) (exits_one o.op o.rest n.1) in
    (omega (arith, n.0, s.least), omega (arith, n.0, s.most, many))

-- ---- keys

pub record KeyAt (placed : List Placed) (e : ℕ) : Type 0 where
  pub before : List Placed
  pub pl : Placed
  pub more : List Placed
  pub here : placed ≡ before ++ pl ∷ more
  pub k : ℕ
  pub within : k < length pl.piece.ops
  pub key : e ≡ keys_in before + k

pub key_low : (placed : List Placed) (e : ℕ) → KeyAt placed e → e < keys_in placed
key_low placed e h = omega (arith, h.key, h.within, ap keys_in h.here, keys_in-append h.before (h.pl ∷ h.more))

-- what is said of a key is said behind the attachment
pub key_same : {X : Type 0} (none : X) (F : Placed → ℕ → X) (set : TraceSet) (bridge : ℕ) (news placed : List Placed) (e : ℕ) (h : KeyAt placed e) → by_key none F (after set bridge news placed) e ≡ F (led_on set.traces bridge news h.pl) h.k
key_same none F set bridge news placed e h =
    let f = led_on set.traces bridge news in
    let here : after set bridge news placed ≡ map f h.before ++ f h.pl ∷ (map f h.more ++ news) = ap (λ (l : List Placed). map f l ++ news) h.here ∙ ap (λ (l : List Placed). l ++ news) (map-append f h.before (h.pl ∷ h.more)) ∙ append_assoc (map f h.before) (f h.pl ∷ map f h.more) news in
    let key : e ≡ keys_in (map f h.before) + h.k = h.key ∙ ap (λ (n : ℕ). n + h.k) (sym (keys_led set bridge news h.before)) in
    ap (λ (l : List Placed). by_key none F l e) here ∙ ap (by_key none F (map f h.before ++ f h.pl ∷ (map f h.more ++ news))) key ∙ by_key-split none F (map f h.before) (map f h.more ++ news) (f h.pl) h.k h.within

pub key_is : {X : Type 0} (none : X) (F : Placed → ℕ → X) (placed : List Placed) (e : ℕ) (h : KeyAt placed e) → by_key none F placed e ≡ F h.pl h.k
key_is none F placed e h = ap (λ (l : List Placed). by_key none F l e) h.here ∙ ap (by_key none F (h.before ++ h.pl ∷ h.more)) h.key ∙ by_key-split none F h.before h.more h.pl h.k h.within

-- ---- displacements

not_here : (e : ℕ) (xs : List Slot) → KeysAre (λ (k : ℕ). k ≢ e) xs → (to : ℕ → ℕ) (p : ℕ) → by_of to p xs e ≡ pos 0
not_here e [] h to p = refl
not_here e (Put i ∷ xs) h to p = not_here e xs h to (p + size_of (Put i))
not_here e (Leave c k ∷ xs) h to p = ap (λ (b : Bool). cond b (way (p + 6) (to k)) (by_of to (p + 6) xs e)) (not_true (nat_eq e k) (λ s. h.0 (sym (eqb-true e k s)))) ∙ not_here e xs h.1 to (p + 6)
not_here e (Go k ∷ xs) h to p = ap (λ (b : Bool). cond b (way (p + 5) (to k)) (by_of to (p + 5) xs e)) (not_true (nat_eq e k) (λ s. h.0 (sym (eqb-true e k s)))) ∙ not_here e xs h.1 to (p + 5)

one_way : (b : Bool) (d : ℕ → ℤ) (to also : ℕ) (x y : ℤ) → (b ≡ true → to ≡ also) → x ≡ y → cond b (d to) x ≡ cond b (d also) y
one_way true d to also x y f e = ap d (f refl)
one_way false d to also x y f e = e

-- jumps that lead to the same places
pub by_same : (to also : ℕ → ℕ) (e p : ℕ) (xs ys : List Slot) → to e ≡ also e → KeysAre (λ (k : ℕ). k ≢ e) ys → by_of to p (xs ++ ys) e ≡ by_of also p xs e
by_same to also e p [] ys same h = not_here e ys h to p
by_same to also e p (Put i ∷ xs) ys same h = by_same to also e (p + size_of (Put i)) xs ys same h
by_same to also e p (Leave c k ∷ xs) ys same h =
    one_way (nat_eq e k) (way (p + 6)) (to k) (also k) (by_of to (p + 6) (xs ++ ys) e) (by_of also (p + 6) xs e) (λ t. ap to (sym (eqb-true e k t)) ∙ same ∙ ap also (eqb-true e k t)) (by_same to also e (p + 6) xs ys same h)
by_same to also e p (Go k ∷ xs) ys same h =
    one_way (nat_eq e k) (way (p + 5)) (to k) (also k) (by_of to (p + 5) (xs ++ ys) e) (by_of also (p + 5) xs e) (λ t. ap to (sym (eqb-true e k t)) ∙ same ∙ ap also (eqb-true e k t)) (by_same to also e (p + 5) xs ys same h)

-- ---- what is found by name

none_if : (x : Piece) (a b : Option Piece) (t : Bool) → (a ≡ None → b ≡ None) → cond t (Some x) a ≡ None → cond t (Some x) b ≡ None
none_if x a b true f e = absurd (cc)
none_if x a b false f e = f e

pub none_more : (ps more : List Piece) (q : PieceId) → piece_at ps q ≡ None → piece_at more q ≡ None → piece_at (ps ++ more) q ≡ None
none_more [] more q e f = f
none_more (x ∷ ps) more q e f = none_if x (piece_at ps q) (piece_at (ps ++ more) q) (same_piece q x.id) (λ h. none_more ps more q h f) e

pub none_named : (ps : List Piece) (q : PieceId) → AllByRecursion (λ (x : Piece). same_piece q x.id ≡ false) ps → piece_at ps q ≡ None
none_named [] q h = refl
none_named (x ∷ ps) q h = ap (λ (b : Bool). cond b (Some x) (piece_at ps q)) h.0 ∙ none_named ps q h.1

pub exit_guard : (op : OptOp) (n : ℕ) → guard_of op ≡ Some n → runs.exit_of op ≡ Guarded n
exit_guard (opt.Plain operation r args d) n e = absurd (cc)
exit_guard (opt.Guard operation args g snap) n e = ap Guarded (some_is e)
exit_guard (opt.Exit g snap) n e = ap Guarded (some_is e)
exit_guard (opt.Jump to args) n e = absurd (cc)
exit_guard (opt.Finish value) n e = absurd (cc)
