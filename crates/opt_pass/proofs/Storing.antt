-- Stores that the piece does at its start.
use Rattle.std.proofs.Common.{◌≡◌, ℕ, zero, suc, ◌+◌, ◌<◌, Bool, true, false, cond, List, [], ◌∷◌, ◌++◌, Option, Some, None, length, map, refl, sym, ap, ◌∙◌, subst, append_assoc, arith}
use Rattle.std.specs.Prelude.{nat_lt, option_and_then}
use Rattle.std.specs.List.{AllByRecursion}
use Rattle.lists.proofs.Options.{some_same, none_some}
use Rattle.trace_ops.specs.declared.trace.BoxId.{BoxId}
use Rattle.trace_ops.specs.declared.trace.Arg.{Arg}
use Rattle.trace_ops.specs.declared.trace.Arg.TheVariants as arg
use Rattle.trace_ops.specs.declared.trace.Descr.TheVariants as descr
use Rattle.trace_ops.specs.declared.code.OpCode.TheVariants as code
use Rattle.trace_ops.specs.declared.table.Table.{Table}
use Rattle.trace_ops.specs.declared.piece.Val.{Val}
use Rattle.trace_ops.specs.declared.piece.Val.TheVariants.{Known, Virtual}
use Rattle.trace_ops.specs.declared.piece.Shape.{Shape}
use Rattle.trace_ops.specs.declared.piece.Pending.{Pending}
use Rattle.trace_ops.specs.declared.piece.Spot.{Spot}
use Rattle.trace_ops.specs.declared.piece.Spot.TheVariants as spot
use Rattle.trace_ops.specs.Lawful.{IsNumbered}
use Rattle.trace_meaning.specs.declared.value.Value.{Value}
use Rattle.trace_meaning.specs.declared.value.Value.TheVariants as v
use Rattle.trace_meaning.specs.World.{World}
use Rattle.trace_meaning.specs.Boxes.{value_in, arg_value, has_value, with_first, all_values}
use Rattle.trace_meaning.specs.Objects.{write}
use Rattle.trace_meaning.specs.Legs.{Turn, On, then_turn, drive_to}
use Rattle.opt_meaning.specs.Step.{Opt, opt_values, opt_step, opt_plain, opt_perform}
use Rattle.trace_meaning.specs.Performing.{write_done}
use Rattle.opt_meaning.specs.Rebuilding.{val_value, write_if, pending_done, stores_done}
use Rattle.agreement.specs.Making.{is_zero, made_val, made_pending, part_stores}
use Rattle.agreement.specs.Spots.{spots_of}
use Rattle.agreement.specs.Writing.{IsKnown}
use Rattle.opt_pass.specs.declared.start.Entering.{Entering}
use Rattle.opt_pass.specs.Starting.{renamed_arg, made_box, entered, entered_val, fill, fills, fills_of, all_fills, entered_store, known_arg, storing_at, storing}
use Rattle.opt_pass.proofs.Args.{value_cons, has_some}
use Rattle.opt_pass.proofs.Making.{up, made_up, nat_below}

-- One store

write_parts : (t : Table) (p : Pending) (b x : Option Value) (w u : World) → write_if t p b x w ≡ Some u → (y : Value) × (z : Value) × (b ≡ Some y) × (x ≡ Some z) × (write t p.spot y z w ≡ Some u)
write_parts t p (Some y) (Some z) w u e = (y, z, refl, refl, e)
write_parts t p (Some y) None w u e = absurd (none_some e)
write_parts t p None x w u e = absurd (none_some e)

two_values : (f : BoxId → Option Value) (a c : Arg) (y z : Value) → arg_value f a ≡ Some y → arg_value f c ≡ Some z → all_values (arg_value f) (a ∷ c ∷ []) ≡ Some (y ∷ z ∷ [])
two_values f a c y z e q = value_cons f a (c ∷ []) y (z ∷ []) (has_some f a y e) e (value_cons f c [] z [] (has_some f c z q) q refl)

three_values : (f : BoxId → Option Value) (a b c : Arg) (x y z : Value) → arg_value f a ≡ Some x → arg_value f b ≡ Some y → arg_value f c ≡ Some z → all_values (arg_value f) (a ∷ b ∷ c ∷ []) ≡ Some (x ∷ y ∷ z ∷ [])
three_values f a b c x y z e q r = value_cons f a (b ∷ c ∷ []) x (y ∷ z ∷ []) (has_some f a x e) e (two_values f b c y z q r)

store_step : (t : Table) (at : Spot) (base value : Arg) (p : Opt) (y z : Value) (u : World) → arg_value (value_in p.boxes) base ≡ Some y → arg_value (value_in p.boxes) value ≡ Some z → write t at y z p.world ≡ Some u → opt_step t (storing_at at base value) p ≡ On (record p { world = u })
store_step t (spot.Field f) base value p y z u e q w =
    ap (λ vs. opt_perform t code.SetfieldGc None (base ∷ value ∷ []) (descr.Field f) p vs) (two_values (value_in p.boxes) base value y z e q)
    ∙ ap (λ x. opt_plain None p (write_done x)) w
store_step t (spot.Item a i) base value p y z u e q w =
    ap (λ vs. opt_perform t code.SetarrayitemGc None (base ∷ arg.Const i ∷ value ∷ []) (descr.Array a) p vs) (three_values (value_in p.boxes) base (arg.Const i) value y (v.Int i) z e refl q)
    ∙ ap (λ x. opt_plain None p (write_done x)) w

-- All of them, in order

abbrev pub OnlyKnown : List Pending → Type 0
OnlyKnown ps = AllByRecursion (λ (p : Pending). IsKnown p.value) ps

step_some : (t : Table) (box : BoxId → Option Value) (next : ℕ) (ps : List Pending) (x : Option World) (w : World) → option_and_then (stores_done t box next ps) x ≡ Some w → (u : World) × (x ≡ Some u) × (stores_done t box next ps u ≡ Some w)
step_some t box next ps None w e = absurd (none_some e)
step_some t box next ps (Some u) w e = (u, refl, e)

pub stores_turn : (t : Table) (next : ℕ) (ps : List Pending) (p : Opt) (w : World) → OnlyKnown ps → stores_done t (value_in p.boxes) next ps p.world ≡ Some w → drive_to (opt_step t) (map storing ps) p ≡ On (record p { world = w })
stores_turn t next [] p w k e = ap (λ z. On (record p { world = z })) (some_same e)
stores_turn t next (q ∷ ps) p w k e =
    let s = step_some t (value_in p.boxes) next ps (pending_done t (value_in p.boxes) next q p.world) w e in
    one q k.0 s.0 s.1 (stores_turn t next ps (record p { world = s.0 }) w k.1 s.2)
  where
    one : (q : Pending) → IsKnown q.value → (u : World) → pending_done t (value_in p.boxes) next q p.world ≡ Some u → drive_to (opt_step t) (map storing ps) (record p { world = u }) ≡ On (record p { world = w })
        → drive_to (opt_step t) (storing q ∷ map storing ps) p ≡ On (record p { world = w })
    one q k u d rest = by q.value k refl
      where
        by : (x : Val) → IsKnown x → q.value ≡ x → drive_to (opt_step t) (storing q ∷ map storing ps) p ≡ On (record p { world = w })
        by (Virtual m) k is = absurd k
        by (Known a) k is =
            let x = write_parts t q (arg_value (value_in p.boxes) q.base) (val_value (value_in p.boxes) next q.value) p.world u d in
            let value : arg_value (value_in p.boxes) a ≡ Some x.1 = sym (ap (val_value (value_in p.boxes) next) is) ∙ x.3 in
            let step : opt_step t (storing_at q.spot q.base a) p ≡ On (record p { world = u }) = store_step t q.spot q.base a p x.0 x.1 u x.2 value x.4 in
            ap (λ z. then_turn (opt_step t (storing_at q.spot q.base (known_arg z)) p) (drive_to (opt_step t) (map storing ps))) is
            ∙ ap (λ z. then_turn z (drive_to (opt_step t) (map storing ps))) step ∙ rest

-- Stores, once the first k objects are made

abbrev pub store_up : Entering → ℕ → Pending → Pending
store_up n k p = record { base = renamed_arg n.boxes p.base; spot = p.spot; value = up n k p.value }

abbrev pub fills_up : Table → Entering → ℕ → ℕ → List Shape → List Pending
fills_up t n k j [] = []
fills_up t n k j (s ∷ ss) = part_stores (made_box n.label j) (spots_of t s.of (length s.parts)) (map (up n k) s.parts) ++ fills_up t n k (j + 1) ss

abbrev pub stores_up : Table → Entering → ℕ → List Pending → List Shape → List Pending
stores_up t n k ps ss = map (store_up n k) ps ++ fills_up t n k 0 ss

map_both : {X Y : Type 0} (f : X → Y) (xs ys : List X) → map f (xs ++ ys) ≡ map f xs ++ map f ys
map_both f [] ys = refl
map_both f (x ∷ xs) ys = ap (λ zs. f x ∷ zs) (map_both f xs ys)

module _ (t : Table) (n : Entering) (k : ℕ) where
  abbrev next : Pending → Pending
  next p = made_pending k (made_box n.label k) p

  made_stores : (ps : List Pending) → map next (map (store_up n k) ps) ≡ map (store_up n (k + 1)) ps
  made_stores [] = refl
  made_stores (p ∷ ps) =
      ap (λ x. record { base = renamed_arg n.boxes p.base; spot = p.spot; value = x } ∷ map next (map (store_up n k) ps)) (made_up n k p.value)
      ∙ ap (λ qs. store_up n (k + 1) p ∷ qs) (made_stores ps)

  -- whether a part needs a store stays
  same_zero : (x : Val) → is_zero (up n k x) ≡ is_zero (up n (k + 1) x)
  same_zero (Known a) = refl
  same_zero (Virtual m) = by (nat_lt m k) (nat_lt m (k + 1))
    where
      no : (s : Bool) → is_zero (cond s (Known (arg.Of (made_box n.label m))) (Virtual m)) ≡ false
      no true = refl
      no false = refl

      by : (s q : Bool) → is_zero (cond s (Known (arg.Of (made_box n.label m))) (Virtual m)) ≡ is_zero (cond q (Known (arg.Of (made_box n.label m))) (Virtual m))
      by s q = no s ∙ sym (no q)

  made_parts : (b : BoxId) (ss : List Spot) (xs : List Val) → map next (part_stores b ss (map (up n k) xs)) ≡ part_stores b ss (map (up n (k + 1)) xs)
  made_parts b [] xs = refl
  made_parts b (s ∷ ss) [] = refl
  made_parts b (s ∷ ss) (x ∷ xs) =
      by (is_zero (up n k x)) (made_parts b ss xs)
      ∙ ap (λ q. cond q (part_stores b ss (map (up n (k + 1)) xs)) (record { base = arg.Of b; spot = s; value = up n (k + 1) x } ∷ part_stores b ss (map (up n (k + 1)) xs))) (same_zero x)
    where
      by : (q : Bool) → map next (part_stores b ss (map (up n k) xs)) ≡ part_stores b ss (map (up n (k + 1)) xs)
          → map next (cond q (part_stores b ss (map (up n k) xs)) (record { base = arg.Of b; spot = s; value = up n k x } ∷ part_stores b ss (map (up n k) xs))) ≡ cond q (part_stores b ss (map (up n (k + 1)) xs)) (record { base = arg.Of b; spot = s; value = up n (k + 1) x } ∷ part_stores b ss (map (up n (k + 1)) xs))
      by true e = e
      by false e = ap (λ y. record { base = arg.Of b; spot = s; value = y } ∷ map next (part_stores b ss (map (up n k) xs))) (made_up n k x) ∙ ap (λ qs. record { base = arg.Of b; spot = s; value = up n (k + 1) x } ∷ qs) e

  made_fills : (j : ℕ) (ss : List Shape) → map next (fills_up t n k j ss) ≡ fills_up t n (k + 1) j ss
  made_fills j [] = refl
  made_fills j (s ∷ ss) =
      map_both next (part_stores (made_box n.label j) (spots_of t s.of (length s.parts)) (map (up n k) s.parts)) (fills_up t n k (j + 1) ss)
      ∙ ap (λ qs. qs ++ map next (fills_up t n k (j + 1) ss)) (made_parts (made_box n.label j) (spots_of t s.of (length s.parts)) s.parts)
      ∙ ap (λ qs. part_stores (made_box n.label j) (spots_of t s.of (length s.parts)) (map (up n (k + 1)) s.parts) ++ qs) (made_fills (j + 1) ss)

  append_none : {X : Type 0} (xs : List X) → xs ++ [] ≡ xs
  append_none [] = refl
  append_none (x ∷ xs) = ap (λ ys. x ∷ ys) (append_none xs)

  fills_push : (j i : ℕ) (ss : List Shape) (s : Shape) → i ≡ j + length ss → fills_up t n k j (ss ++ s ∷ []) ≡ fills_up t n k j ss ++ part_stores (made_box n.label i) (spots_of t s.of (length s.parts)) (map (up n k) s.parts)
  fills_push j i [] s e =
      let here : j ≡ i = omega (arith, e) in
      append_none (part_stores (made_box n.label j) (spots_of t s.of (length s.parts)) (map (up n k) s.parts))
      ∙ ap (λ z. part_stores (made_box n.label z) (spots_of t s.of (length s.parts)) (map (up n k) s.parts)) here
  fills_push j i (r ∷ ss) s e =
      ap (λ qs. part_stores (made_box n.label j) (spots_of t r.of (length r.parts)) (map (up n k) r.parts) ++ qs) (fills_push (j + 1) i ss s (omega (arith, e)))
      ∙ sym (append_assoc (part_stores (made_box n.label j) (spots_of t r.of (length r.parts)) (map (up n k) r.parts)) (fills_up t n k (j + 1) ss) (part_stores (made_box n.label i) (spots_of t s.of (length s.parts)) (map (up n k) s.parts)))

-- one object more is made, of shape s
pub stores_made : (t : Table) (n : Entering) (k : ℕ) (ps : List Pending) (done : List Shape) (s : Shape) → k ≡ length done
    → map (made_pending k (made_box n.label k)) (stores_up t n k ps done) ++ map (made_pending k (made_box n.label k)) (part_stores (made_box n.label k) (spots_of t s.of (length s.parts)) (map (up n k) s.parts)) ≡ stores_up t n (k + 1) ps (done ++ s ∷ [])
stores_made t n k ps done s e =
    let f : Pending → Pending = made_pending k (made_box n.label k) in
    let last : List Pending = part_stores (made_box n.label k) (spots_of t s.of (length s.parts)) (map (up n (k + 1)) s.parts) in
    ap (λ qs. qs ++ map f (part_stores (made_box n.label k) (spots_of t s.of (length s.parts)) (map (up n k) s.parts))) (map_both f (map (store_up n k) ps) (fills_up t n k 0 done))
    ∙ ap (λ qs. (map f (map (store_up n k) ps) ++ map f (fills_up t n k 0 done)) ++ qs) (made_parts t n k (made_box n.label k) (spots_of t s.of (length s.parts)) s.parts)
    ∙ ap (λ qs. (qs ++ map f (fills_up t n k 0 done)) ++ last) (made_stores t n k ps)
    ∙ ap (λ qs. (map (store_up n (k + 1)) ps ++ qs) ++ last) (made_fills t n k 0 done)
    ∙ append_assoc (map (store_up n (k + 1)) ps) (fills_up t n (k + 1) 0 done) last
    ∙ ap (λ qs. map (store_up n (k + 1)) ps ++ qs) (sym (fills_push t n (k + 1) 0 k done s (omega (arith, e))))

-- All are made

module _ (n : Entering) where
  pub up_all : (x : Val) → IsNumbered n.shapes x → up n n.shapes x ≡ entered_val n x
  up_all (Known a) h = refl
  up_all (Virtual m) h = by (nat_lt m n.shapes) (nat_below m n.shapes h)
    where
      by : (s : Bool) → s ≡ true → cond s (Known (arg.Of (made_box n.label m))) (Virtual m) ≡ Known (cond s (arg.Of (made_box n.label m)) arg.Null)
      by true e = refl
      by false e = absurd (false_true e)
        where
          false_true : false ≡ true → ⊥
          false_true e = cc

  vals_all : (xs : List Val) → AllByRecursion (IsNumbered n.shapes) xs → map (up n n.shapes) xs ≡ map (entered_val n) xs
  vals_all [] h = refl
  vals_all (x ∷ xs) h = ap (λ y. y ∷ map (up n n.shapes) xs) (up_all x h.0) ∙ ap (λ ys. entered_val n x ∷ ys) (vals_all xs h.1)

  stores_all : (ps : List Pending) → AllByRecursion (λ (p : Pending). IsNumbered n.shapes p.value) ps → map (store_up n n.shapes) ps ≡ map (entered_store n) ps
  stores_all [] h = refl
  stores_all (p ∷ ps) h = ap (λ x. record { base = renamed_arg n.boxes p.base; spot = p.spot; value = x } ∷ map (store_up n n.shapes) ps) (up_all p.value h.0) ∙ ap (λ qs. entered_store n p ∷ qs) (stores_all ps h.1)

module _ (t : Table) (n : Entering) where
  fills_are : (b : BoxId) (ss : List Spot) (xs : List Val) → part_stores b ss xs ≡ fills b ss xs
  fills_are b [] xs = refl
  fills_are b (s ∷ ss) [] = refl
  fills_are b (s ∷ ss) (x ∷ xs) = by (is_zero x) (fills_are b ss xs)
    where
      by : (q : Bool) → part_stores b ss xs ≡ fills b ss xs → cond q (part_stores b ss xs) (record { base = arg.Of b; spot = s; value = x } ∷ part_stores b ss xs) ≡ cond q [] (record { base = arg.Of b; spot = s; value = x } ∷ []) ++ fills b ss xs
      by true e = e
      by false e = ap (λ qs. record { base = arg.Of b; spot = s; value = x } ∷ qs) e

  fills_all : (j : ℕ) (ss : List Shape) → AllByRecursion (λ (s : Shape). AllByRecursion (IsNumbered n.shapes) s.parts) ss → fills_up t n n.shapes j ss ≡ all_fills t n j ss
  fills_all j [] h = refl
  fills_all j (s ∷ ss) h =
      ap (λ qs. part_stores (made_box n.label j) (spots_of t s.of (length s.parts)) qs ++ fills_up t n n.shapes (j + 1) ss) (vals_all n s.parts h.0)
      ∙ ap (λ qs. qs ++ fills_up t n n.shapes (j + 1) ss) (fills_are (made_box n.label j) (spots_of t s.of (length s.parts)) (map (entered_val n) s.parts))
      ∙ ap (λ qs. fills_of t n (made_box n.label j) s ++ qs) (fills_all (j + 1) ss h.1)

  pub all_entered : (ps : List Pending) (ss : List Shape) → AllByRecursion (λ (p : Pending). IsNumbered n.shapes p.value) ps → AllByRecursion (λ (s : Shape). AllByRecursion (IsNumbered n.shapes) s.parts) ss
      → stores_up t n n.shapes ps ss ≡ map (entered_store n) ps ++ all_fills t n 0 ss
  all_entered ps ss h k = ap (λ qs. qs ++ fills_up t n n.shapes 0 ss) (stores_all n ps h) ∙ ap (λ qs. map (entered_store n) ps ++ qs) (fills_all 0 ss k)

  -- each of them stores a value of the piece

  known_both : (ps qs : List Pending) → OnlyKnown ps → OnlyKnown qs → OnlyKnown (ps ++ qs)
  known_both [] qs h k = k
  known_both (p ∷ ps) qs h k = (h.0, known_both ps qs h.1 k)

  known_fills : (b : BoxId) (ss : List Spot) (xs : List Val) → OnlyKnown (fills b ss (map (entered_val n) xs))
  known_fills b [] xs = tt
  known_fills b (s ∷ ss) [] = tt
  known_fills b (s ∷ ss) (x ∷ xs) = known_both (fill b s (entered_val n x)) (fills b ss (map (entered_val n) xs)) (by (is_zero (entered_val n x))) (known_fills b ss xs)
    where
      by : (q : Bool) → OnlyKnown (cond q [] (record { base = arg.Of b; spot = s; value = entered_val n x } ∷ []))
      by true = tt
      by false = (tt, tt)

  known_all : (j : ℕ) (ss : List Shape) → OnlyKnown (all_fills t n j ss)
  known_all j [] = tt
  known_all j (s ∷ ss) = known_both (fills_of t n (made_box n.label j) s) (all_fills t n (j + 1) ss) (known_fills (made_box n.label j) (spots_of t s.of (length s.parts)) s.parts) (known_all (j + 1) ss)

  known_stores : (ps : List Pending) → OnlyKnown (map (entered_store n) ps)
  known_stores [] = tt
  known_stores (p ∷ ps) = (tt, known_stores ps)

  pub only_known : (ps : List Pending) (ss : List Shape) → OnlyKnown (map (entered_store n) ps ++ all_fills t n 0 ss)
  only_known ps ss = known_both (map (entered_store n) ps) (all_fills t n 0 ss) (known_stores ps) (known_all 0 ss)
