-- Which operations of a piece are copies of the guard from which a bridge comes: one at most.
use Rattle.std.proofs.Common.{◌≡◌, ◌≢◌, ℕ, zero, suc, Bool, true, false, nat_eq, eqb-true, List, [], ◌∷◌, ◌++◌, length, Option, Some, None, refl, sym, ap, ◌∙◌, subst, inl, inr, ◌⊎◌}
use Rattle.std.specs.Prelude.{slice_get, option_and_then}
use Rattle.std.specs.List.{Contains, flat_map}
use Rattle.std.proofs.lemmas.List.Elements.{Contains-append_right}
use Rattle.trace_ops.specs.declared.trace.Origin.{Origin}
use Rattle.trace_ops.specs.declared.trace.Origin.TheVariants.{Loop, Bridge}
use Rattle.trace_ops.specs.declared.trace.Trace.{Trace}
use Rattle.trace_ops.specs.declared.piece.OptOp.{OptOp}
use Rattle.trace_ops.specs.declared.piece.OptOp.TheVariants as opt
use Rattle.trace_ops.specs.Pieces.{guards_of}
use Rattle.trace_ops.specs.Sound.{AreApart as AreDifferent}
use Rattle.trace_ops.specs.Weights.{place_of}
use Rattle.trace_meaning.specs.Cuts.{is_at, leaves_from, trace_leaves_from, is_bridge_of}
use Rattle.code_layout.specs.Chosen.{has_jump}
use Rattle.bridge_patch.specs.Image.{KeepsItsGuard}
use Rattle.bridge_patch.specs.Bridged.{is_from}
use Rattle.bridge_patch.specs.Attached.{guard_of}
use Rattle.bridge_patch.proofs.RowsOf.{and_left}
use Rattle.bridge_patch.proofs.Seating.{from_some}
use Rattle.bridge_patch.proofs.Repatched.{NoCopies, OneCopy, guard_among}

false_true : false ≡ true → ⊥
false_true e = cc

none_some : {X : Type 0} {x : X} → None ≡ Some x → ⊥
none_some e = cc

some_inj : {X : Type 0} {x y : X} → Some x ≡ Some y → x ≡ y
some_inj e = cc

-- ---- a bridge comes from one guard

guard_by : (traces : List Trace) (p n m : ℕ) (o : Origin) → leaves_from traces p n o ≡ true → leaves_from traces p m o ≡ true → n ≡ m
guard_by traces p n m Loop e f = absurd (false_true e)
guard_by traces p n m (Bridge parent guard) e f =
    sym (eqb-true guard n (and_left (nat_eq guard n) (is_at p (place_of parent traces)) e)) ∙ eqb-true guard m (and_left (nat_eq guard m) (is_at p (place_of parent traces)) f)

guard_once : (traces : List Trace) (p n m : ℕ) (t : Option Trace) → trace_leaves_from traces p n t ≡ true → trace_leaves_from traces p m t ≡ true → n ≡ m
guard_once traces p n m None e f = absurd (false_true e)
guard_once traces p n m (Some t) e f = guard_by traces p n m t.origin e f

pub one_guard : (traces : List Trace) (b p n m : ℕ) → is_bridge_of traces p n b ≡ true → is_bridge_of traces p m b ≡ true → n ≡ m
one_guard traces b p n m e f = guard_once traces p n m (slice_get traces b) e f

-- ---- no operation or one

none_behind : (traces : List Trace) (b p n : ℕ) (ops : List OptOp) → is_bridge_of traces p n b ≡ true → ¬ Contains (flat_map guards_of ops) n → NoCopies traces b p ops
none_behind traces b p n [] e away = tt
none_behind traces b p n (op ∷ ops) e away = (by (guard_of op) refl, none_behind traces b p n ops e (λ c. away (Contains-append_right (guards_of op) (flat_map guards_of ops) n c)))
  where
    other : (m : ℕ) → guard_of op ≡ Some m → (q : Bool) → is_from traces b p (Some m) ≡ q → q ≡ false
    other m g true i = absurd (away (guard_among (op ∷ ops) [] ops op n refl (g ∙ ap Some (one_guard traces b p m n i e))))
    other m g false i = refl

    by : (g : Option ℕ) → guard_of op ≡ g → is_from traces b p (guard_of op) ≡ false
    by None g = ap (is_from traces b p) g
    by (Some m) g = ap (is_from traces b p) g ∙ other m g (is_from traces b p (Some m)) refl

apart_here : (op : OptOp) (rest : List ℕ) (n : ℕ) → guard_of op ≡ Some n → AreDifferent (guards_of op ++ rest) → ¬ Contains rest n
apart_here (opt.Plain operation r args d) rest n g h = absurd (none_some g)
apart_here (opt.Guard operation args m snap) rest n g h = subst (λ (k : ℕ). ¬ Contains rest k) (some_inj g) h.0
apart_here (opt.Exit m snap) rest n g h = subst (λ (k : ℕ). ¬ Contains rest k) (some_inj g) h.0
apart_here (opt.Jump to args) rest n g h = absurd (none_some g)
apart_here (opt.Finish value) rest n g h = absurd (none_some g)

apart_behind : (op : OptOp) (rest : List ℕ) → AreDifferent (guards_of op ++ rest) → AreDifferent rest
apart_behind (opt.Plain operation r args d) rest h = h
apart_behind (opt.Guard operation args m snap) rest h = h.1
apart_behind (opt.Exit m snap) rest h = h.1
apart_behind (opt.Jump to args) rest h = h
apart_behind (opt.Finish value) rest h = h

pub copies_in : (traces : List Trace) (b p : ℕ) (ops : List OptOp) → AreDifferent (flat_map guards_of ops) → NoCopies traces b p ops ⊎ OneCopy traces b p ops
copies_in traces b p [] h = inl tt
copies_in traces b p (op ∷ ops) h = by (is_from traces b p (guard_of op)) refl (copies_in traces b p ops (apart_behind op (flat_map guards_of ops) h))
  where
    first : is_from traces b p (guard_of op) ≡ true → NoCopies traces b p ops
    first e =
        let (n, g) = from_some traces b p (guard_of op) e in
        none_behind traces b p n ops (sym (ap (is_from traces b p) g) ∙ e) (apart_here op (flat_map guards_of ops) n g h)

    by : (q : Bool) → is_from traces b p (guard_of op) ≡ q → NoCopies traces b p ops ⊎ OneCopy traces b p ops → NoCopies traces b p (op ∷ ops) ⊎ OneCopy traces b p (op ∷ ops)
    by true e r = inr (record { done = []; op = op; rest = ops; split = refl; before = tt; copy = e; behind = first e })
    by false e (inl n) = inl (e, n)
    by false e (inr o) = inr (record { done = op ∷ o.done; op = o.op; rest = o.rest; split = ap (λ (l : List OptOp). op ∷ l) o.split; before = (e, o.before); copy = o.copy; behind = o.behind })

-- ---- by place

pub not_copy : (traces : List Trace) (b p : ℕ) (ops : List OptOp) (k : ℕ) → NoCopies traces b p ops → is_from traces b p (option_and_then guard_of (slice_get ops k)) ≡ false
not_copy traces b p [] k h = refl
not_copy traces b p (op ∷ ops) zero h = h.0
not_copy traces b p (op ∷ ops) (suc k) h = not_copy traces b p ops k h.1

pub copy_here : (traces : List Trace) (b p : ℕ) (done rest : List OptOp) (op : OptOp) → is_from traces b p (guard_of op) ≡ true → is_from traces b p (option_and_then guard_of (slice_get (done ++ op ∷ rest) (length done))) ≡ true
copy_here traces b p [] rest op e = e
copy_here traces b p (d ∷ done) rest op e = copy_here traces b p done rest op e

pub copy_elsewhere : (traces : List Trace) (b p : ℕ) (done rest : List OptOp) (op : OptOp) (k : ℕ) → NoCopies traces b p done → NoCopies traces b p rest → k ≢ length done
    → is_from traces b p (option_and_then guard_of (slice_get (done ++ op ∷ rest) k)) ≡ false
copy_elsewhere traces b p [] rest op zero h i n = absurd (n refl)
copy_elsewhere traces b p [] rest op (suc k) h i n = not_copy traces b p rest k i
copy_elsewhere traces b p (d ∷ done) rest op zero h i n = h.0
copy_elsewhere traces b p (d ∷ done) rest op (suc k) h i n = copy_elsewhere traces b p done rest op k h.1 i (λ e. n (ap suc e))

-- a guard that may fail is left by a jump
pub guard_jumps : (op : OptOp) (n : ℕ) → guard_of op ≡ Some n → KeepsItsGuard op → has_jump op ≡ true
guard_jumps (opt.Plain operation r args d) n g h = absurd (none_some g)
guard_jumps (opt.Guard operation args m snap) n g h = h
guard_jumps (opt.Exit m snap) n g h = refl
guard_jumps (opt.Jump to args) n g h = absurd (none_some g)
guard_jumps (opt.Finish value) n g h = absurd (none_some g)
