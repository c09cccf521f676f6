-- The moves in front of a bridge's piece bring the words of the guard's places to those of the label.
use Rattle.std.proofs.Common.{◌≡◌, ◌≢◌, ℕ, suc, ◌+◌, ◌*◌, ◌<◌, List, [], ◌∷◌, ◌++◌, refl, sym, ap, ◌∙◌, subst, arith, Some, pos}
use Rattle.std.specs.Prelude.{FitsSigned, slice_get, ◌-ℤ◌}
use Rattle.std.specs.Int.{w32}
use Rattle.std.specs.List.{AllByRecursion, AllZip}
use Rattle.std.proofs.lemmas.Int.{ints}
use Rattle.lists.specs.Has.{Has}
use Rattle.target_base.specs.declared.reg.Reg.{Reg}
use Rattle.target_base.specs.declared.place.Place.{Place}
use Rattle.target_base.specs.declared.place.Place.TheVariants.{In, Word}
use Rattle.guard_exit.specs.Codes.{frame_mem}
use Rattle.x64_encode.specs.declared.instr.Instr.TheVariants.{Store}
use Rattle.x64_machine.specs.State.{State}
use Rattle.linear_scan.specs.Placing.{AreDistinct}
use Rattle.asm_select.specs.Slots.{Slot, Put, Jumps, HaveRows, puts}
use Rattle.asm_select.specs.Valued.{value, MayHold, IsFit}
use Rattle.asm_select.specs.Reached.{Reach, SameArena}
use Rattle.bridge_patch.specs.Attached.{entry_code, IsMoved}
use Rattle.image_built.proofs.Rowing.{contains_of}
use Rattle.image_built.proofs.Storing.{stay, then, may_write, store_keeps}

-- ---- what no move changes

-- a place to which no word is moved
abbrev pub Spared : Place → List Place → List Place → Type 0
Spared q [] to = Unit {0}
Spared q (x ∷ from) [] = Unit {0}
Spared q (In r ∷ from) (Word k ∷ to) = (q ≢ Word k) × Spared q from to
Spared q (In r ∷ from) (In t ∷ to) = Spared q from to
Spared q (Word j ∷ from) (y ∷ to) = Spared q from to

reg_word : (r : Reg) (k : ℕ) → In r ≢ Word k
reg_word r k e = absurd (cc)

spared_reg : (r : Reg) (from to : List Place) → Spared (In r) from to
spared_reg r [] to = tt
spared_reg r (x ∷ from) [] = tt
spared_reg r (In t ∷ from) (Word k ∷ to) = (reg_word r k, spared_reg r from to)
spared_reg r (In t ∷ from) (In q ∷ to) = spared_reg r from to
spared_reg r (Word j ∷ from) (y ∷ to) = spared_reg r from to

-- one of the guard's places
spared_guard : (guards : List Place) (q : Place) (from to : List Place) → Has guards q → AllZip (IsMoved guards) from to → Spared q from to
spared_guard guards q [] to h m = tt
spared_guard guards q (x ∷ from) [] h m = tt
spared_guard guards q (In t ∷ from) (Word k ∷ to) h m = (λ e. m.0.1 (contains_of guards (Word k) (subst (Has guards) e h)), spared_guard guards q from to h m.1)
spared_guard guards q (In t ∷ from) (In s ∷ to) h m = spared_guard guards q from to h m.1
spared_guard guards q (Word j ∷ from) (In s ∷ to) h m = absurd m.0
spared_guard guards q (Word j ∷ from) (Word k ∷ to) h m = spared_guard guards q from to h m.1

-- and one that is none of the others
spared_other : (q : Place) (from to : List Place) → AllByRecursion (λ (y : Place). q ≢ y) to → Spared q from to
spared_other q [] to h = tt
spared_other q (x ∷ from) [] h = tt
spared_other q (In t ∷ from) (Word k ∷ to) h = (h.0, spared_other q from to h.1)
spared_other q (In t ∷ from) (In s ∷ to) h = spared_other q from to h.1
spared_other q (Word j ∷ from) (y ∷ to) h = spared_other q from to h.1

-- no place twice
abbrev pub AreApart : List Place → Type 0
AreApart [] = Unit {0}
AreApart (x ∷ xs) = AllByRecursion (λ (y : Place). x ≢ y) xs × AreApart xs

pub apart_of : (xs : List Place) → AreDistinct xs → AreApart xs
apart_of [] h = tt
apart_of (x ∷ xs) h = (others x xs (λ j q e. h 0 (suc j) x q (omega arith) refl e), apart_of xs (λ i j p q lt a b. h (suc i) (suc j) p q (omega (arith, lt)) a b))
  where
    others : (x : Place) (ys : List Place) → ((j : ℕ) (q : Place) → slice_get ys j ≡ Some q → x ≢ q) → AllByRecursion (λ (y : Place). x ≢ y) ys
    others x [] f = tt
    others x (y ∷ ys) f = (f 0 y refl, others x ys (λ j q e. f (suc j) q e))

-- ---- a run over the moves

-- what is brought: each place of the label has the word of its place at the guard
pub record Brought (s : State) (from to : List Place) (u : State) : Type 0 where
  pub fit : IsFit u
  pub same : SameArena s u
  pub spared : (q : Place) → Spared q from to → value u q ≡ value s q
  pub brought : AllZip (λ (x y : Place). value u y ≡ value s x) from to

abbrev Places : List Place → Type 0
Places xs = AllByRecursion MayHold xs

zip_weaker : (P Q : Place → Place → Type 0) (xs ys : List Place) → ((x y : Place) → P x y → Q x y) → AllZip P xs ys → AllZip Q xs ys
zip_weaker P Q [] [] f h = h
zip_weaker P Q (x ∷ xs) (y ∷ ys) f h = (f x y h.0, zip_weaker P Q xs ys f h.1)
zip_weaker P Q [] (y ∷ ys) f h = absurd h
zip_weaker P Q (x ∷ xs) [] f h = absurd h

-- the words of the guard's places are as they were
words_same : (guards : List Place) (s t : State) (from to : List Place) → AllByRecursion (Has guards) from → ((q : Place) → Has guards q → value t q ≡ value s q) → (u : State) → AllZip (λ (x y : Place). value u y ≡ value t x) from to → AllZip (λ (x y : Place). value u y ≡ value s x) from to
words_same guards s t [] [] g same u h = h
words_same guards s t (x ∷ from) (y ∷ to) g same u h = (h.0 ∙ same x g.0, words_same guards s t from to g.1 same u h.1)
words_same guards s t [] (y ∷ to) g same u h = absurd h
words_same guards s t (x ∷ from) [] g same u h = absurd h

pub enters : (guards : List Place) (from to : List Place) (p : ℕ) (ys : List Slot) (s : State) → IsFit s → s.at ≡ 0x40000000 + p → AllZip (IsMoved guards) from to → AllByRecursion (Has guards) from → Places to → AreApart to
    → Reach p (puts (entry_code from to) ++ ys) s ys (Brought s from to)
enters guards [] [] p ys s fit at moved in_guards held apart = stay p ys s (Brought s [] []) at (record { fit = fit; same = record { arena = refl; loads = refl; stores = refl }; spared = λ q h. refl; brought = tt })
enters guards [] (y ∷ to) p ys s fit at moved in_guards held apart = absurd moved
enters guards (x ∷ from) [] p ys s fit at moved in_guards held apart = absurd moved
enters guards (In r ∷ from) (In t ∷ to) p ys s fit at moved in_guards held apart =
    let same : In r ≡ In t = ap In moved.0 in
    weaker_brought p (puts (entry_code from to) ++ ys) s ys from to (In r ∷ from) (In t ∷ to) (λ u b. record { fit = b.fit; same = b.same; spared = λ q h. b.spared q h; brought = (b.spared (In t) (spared_reg t from to) ∙ ap (value s) (sym same), b.brought) })
    (enters guards from to p ys s fit at moved.1 in_guards.1 held.1 apart.1)
  where
    weaker_brought : (p : ℕ) (xs : List Slot) (s : State) (ys : List Slot) (from to more others : List Place) → ((u : State) → Brought s from to u → Brought s more others u) → Reach p xs s ys (Brought s from to) → Reach p xs s ys (Brought s more others)
    weaker_brought p xs s ys from to more others f r = record { path = r.path; few = r.few; t = r.t; q = r.q; comes = r.comes; front = r.front; split = r.split; place = r.place; at = r.at; holds = f r.t r.holds }
enters guards (Word j ∷ from) (In t ∷ to) p ys s fit at moved in_guards held apart = absurd moved.0
enters guards (Word j ∷ from) (Word k ∷ to) p ys s fit at moved in_guards held apart =
    let same : Word j ≡ Word k = ap Word moved.0 in
    weaker_brought p (puts (entry_code from to) ++ ys) s ys from to (Word j ∷ from) (Word k ∷ to) (λ u b. record { fit = b.fit; same = b.same; spared = λ q h. b.spared q h; brought = (b.spared (Word k) (spared_other (Word k) from to apart.0) ∙ ap (value s) (sym same), b.brought) })
    (enters guards from to p ys s fit at moved.1 in_guards.1 held.1 apart.1)
  where
    weaker_brought : (p : ℕ) (xs : List Slot) (s : State) (ys : List Slot) (from to more others : List Place) → ((u : State) → Brought s from to u → Brought s more others u) → Reach p xs s ys (Brought s from to) → Reach p xs s ys (Brought s more others)
    weaker_brought p xs s ys from to more others f r = record { path = r.path; few = r.few; t = r.t; q = r.q; comes = r.comes; front = r.front; split = r.split; place = r.place; at = r.at; holds = f r.t r.holds }
enters guards (In r ∷ from) (Word k ∷ to) p ys s fit at moved in_guards held apart =
    let rest = puts (entry_code from to) ++ ys in
    let first = store_keeps p k r rest s fit (may_write (Word k) held.0) at in
    then p (Put (Store (frame_mem k) r) ∷ rest) rest ys s first (λ t q there kept. (let mine : (x : Place) → Has guards x → value t x ≡ value s x = λ x g. kept.0.1.others x (spared_guard guards x (In r ∷ []) (Word k ∷ []) g (moved.0, tt)).0 in
    after (Brought s (In r ∷ from) (Word k ∷ to)) q rest ys t from to (λ u b. record {
      fit = b.fit;
      same = record { arena = b.same.arena ∙ kept.0.1.arena; loads = b.same.loads ∙ kept.0.1.loads; stores = b.same.stores ∙ kept.0.1.stores };
      spared = λ x h. b.spared x h.1 ∙ kept.0.1.others x h.0;
      brought = (b.spared (Word k) (spared_other (Word k) from to apart.0) ∙ kept.0.0, words_same guards s t from to in_guards.1 mine u b.brought);
    }) (enters guards from to q ys t kept.0.2 there moved.1 in_guards.1 held.1 apart.1)))
  where
    after : (Q : State → Type 0) (q : ℕ) (rest ys : List Slot) (t : State) (from to : List Place) → ((u : State) → Brought t from to u → Q u) → Reach q rest t ys (Brought t from to) → Reach q rest t ys Q
    after Q q rest ys t from to f r = record { path = r.path; few = r.few; t = r.t; q = r.q; comes = r.comes; front = r.front; split = r.split; place = r.place; at = r.at; holds = f r.t r.holds }

-- ---- their rows

word_row : (k : ℕ) → k < 1048576 → FitsSigned w32 (pos (8 * k) -ℤ pos 128)
word_row k lt = omega (arith, ints, lt)

pub entry_rows : (by : Jumps) (from to : List Place) → Places from → Places to → HaveRows by (puts (entry_code from to))
entry_rows by [] to a b = tt
entry_rows by (x ∷ from) [] a b = tt
entry_rows by (In r ∷ from) (In t ∷ to) a b = entry_rows by from to a.1 b.1
entry_rows by (In r ∷ from) (Word k ∷ to) a b = (((omega arith, word_row k b.0.there), a.0.there), entry_rows by from to a.1 b.1)
entry_rows by (Word j ∷ from) (In t ∷ to) a b = entry_rows by from to a.1 b.1
entry_rows by (Word j ∷ from) (Word k ∷ to) a b = entry_rows by from to a.1 b.1
