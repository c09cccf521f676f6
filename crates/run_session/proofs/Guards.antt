-- The places of guards' displacements, and what an instruction at a place takes.
use Rattle.std.proofs.Common.{◌≡◌, ◌↔◌, ℕ, zero, suc, ◌+◌, ◌-◌, ◌^◌, ◌<◌, ◌≤◌, Bool, true, false, IsTrue, min, Fits, w32, List, [], ◌∷◌, ◌++◌, length, take, drop, Option, Some, None, ◌⊎◌, inl, inr, refl, sym, ap, ◌∙◌, subst, arith}
use Rattle.std.specs.Prelude.{slice_index_or}
use Rattle.std.specs.List.{Contains}
use Rattle.lists.proofs.Options.{some_same, none_some}
use Rattle.std.specs.List.Sorted.{IsNonDecreasing, IsPermutation}
use Rattle.std.proofs.lemmas.List.{take-take, length-take, length-drop, take-append-drop}
use Rattle.std.proofs.lemmas.Grind.{get_or_default_zero}
use Rattle.std.proofs.lemmas.List.Sorted.{Contains-permutation, IsPermutation-sym}
use Rattle.x64_encode.specs.declared.instr.Instr.{Instr}
use Rattle.x64_encode.specs.declared.instr.Instr.TheVariants.{MovReg, Load, Store, StoreImm, MovImm, Alu, AluImm, Imul, Not, Neg, ShiftCl, ShiftImm, Lea, Xchg, Set, Movzx, Jcc, Jmp, CallReg, JmpReg, Ret}
use Rattle.x64_encode.specs.Form.{spelling, InstrForm}
use Rattle.x64_encode.specs.Listing.{Stands}
use Rattle.x64_machine.specs.declared.state.Flags.{Flags}
use Rattle.x64_machine.specs.State.{State}
use Rattle.x64_machine.specs.Words.{holds}
use Rattle.guard_exit.specs.declared.row.ExitRow.{ExitRow}
use Rattle.image_runs.specs.Counted.{JumpsBy, IsGuards, CountsFailure}
use Rattle.run_session.specs.Guards.{AreGuardPlaces, place_in, places_of, ahead_where, ahead_of, TakesOne}

-- ---- places of rows

none_at : {k : ℕ} → k < 0 → ⊥
none_at l = omega (arith, l)

contains_first : {X : Type 0} (x : X) (xs : List X) → Contains (x ∷ xs) x
contains_first x xs = (0, omega arith, refl)

contains_later : {X : Type 0} (x y : X) (xs : List X) → Contains xs y → Contains (x ∷ xs) y
contains_later x y xs (k, l, e) = (suc k, omega arith, e)

contains_cases : {X : Type 0} (x y : X) (xs : List X) → Contains (x ∷ xs) y → (x ≡ y) ⊎ Contains xs y
contains_cases x y xs (zero, l, e) = inl e
contains_cases x y xs (suc k, l, e) = inr (k, omega arith, e)

abbrev Placed : List ExitRow → ℕ → Type 0
Placed rows at = (row : ExitRow) × Contains rows row × IsGuards row × (row.at ≡ at)

placed_later : (row : ExitRow) (rows : List ExitRow) (at : ℕ) → Placed rows at → Placed (row ∷ rows) at
placed_later row rows at (r, k, g, e) = (r, contains_later row r rows k, g, e)

placed_if : (row : ExitRow) (rows : List ExitRow) (at : ℕ) (g : Option ℕ) → row.guard ≡ g → (Contains (places_of rows) at → Placed rows at) → Contains (place_in g row.at ++ places_of rows) at → Placed (row ∷ rows) at
placed_if row rows at None e more h = placed_later row rows at (more h)
placed_if row rows at (Some n) e more h = by_case (contains_cases row.at at (places_of rows) h)
  where
    by_case : (row.at ≡ at) ⊎ Contains (places_of rows) at → Placed (row ∷ rows) at
    by_case (inl s) = (row, contains_first row rows, (n, e), s)
    by_case (inr k) = placed_later row rows at (more k)

placed : (rows : List ExitRow) (at : ℕ) → Contains (places_of rows) at → Placed rows at
placed [] at (k, l, e) = absurd (none_at l)
placed (row ∷ rows) at h = placed_if row rows at row.guard refl (λ k. placed rows at k) h

listed_if : (row r : ExitRow) (rows : List ExitRow) (g : Option ℕ) → row.guard ≡ g → (Contains rows r → Contains (places_of rows) r.at) → (row ≡ r) ⊎ Contains rows r → IsGuards r → Contains (place_in g row.at ++ places_of rows) r.at
listed_if row r rows None e more (inr k) guards = more k
listed_if row r rows None e more (inl s) guards = absurd (none_some (sym e ∙ ap (λ (x : ExitRow). x.guard) s ∙ guards.1))
listed_if row r rows (Some n) e more (inr k) guards = contains_later row.at r.at (places_of rows) (more k)
listed_if row r rows (Some n) e more (inl s) guards = subst (λ (x : ExitRow). Contains (row.at ∷ places_of rows) x.at) s (contains_first row.at (places_of rows))

listed : (rows : List ExitRow) (r : ExitRow) → Contains rows r → IsGuards r → Contains (places_of rows) r.at
listed [] r (k, l, e) guards = absurd (none_at l)
listed (row ∷ rows) r h guards = listed_if row r rows row.guard refl (λ k. listed rows r k guards) (contains_cases row r rows h) guards

pub sorted_places : (rows : List ExitRow) (xs ys : List ℕ) → xs ≡ places_of rows → IsPermutation xs ys → IsNonDecreasing ys → AreGuardPlaces rows ys
sorted_places rows xs ys e moved rise = record {
  rise = rise;
  each = λ at h. placed rows at (subst (λ (zs : List ℕ). Contains zs at) e (Contains-permutation ys xs at (IsPermutation-sym xs ys moved) h));
  all = λ r k g. Contains-permutation xs ys r.at moved (subst (λ (zs : List ℕ). Contains zs r.at) (sym e) (listed rows r k g));
}

-- ---- instructions

pub stands_there : (code window : List ℕ) (place n : ℕ) (i : Instr) → 1 ≤ length (spelling i) → window ≡ take 16 (drop place code) → n ≤ length window → InstrForm i (take n window) → Stands code place i
stands_there code window place n i some w h form =
    let wide : length window ≡ min 16 (length code - place) = ap length w ∙ length-take 16 (drop place code) ∙ ap (min 16) (length-drop place code) in
    let len : length (spelling i) ≡ n = ap length (sym form.1) ∙ length-take n window ∙ omega (arith, h) in
    let spelled : take (length (spelling i)) (drop place code) ≡ spelling i =
    ap (λ (m : ℕ). take m (drop place code)) len ∙ sym (take-take n 16 (drop place code) (omega arith)) ∙ ap (take n) (sym w) ∙ form.1
    in record { row = form.0; room = omega arith; inside = omega arith; spelled = spelled }

pub none_stands : (code window : List ℕ) (place : ℕ) → ((i : Instr) → length (spelling i) ≤ 16) → window ≡ take 16 (drop place code) → ((i : Instr) (n : ℕ) → InstrForm i (take n window) → ⊥) → (i : Instr) → Stands code place i → ⊥
none_stands code window place short w none i s =
    none i (length (spelling i)) (s.row, ap (take (length (spelling i))) w ∙ take-take (length (spelling i)) 16 (drop place code) (short i) ∙ s.spelled)

abbrev OneInstruction : Type 0
OneInstruction = (i j : Instr) (a b x y : List ℕ) → InstrForm i a → InstrForm j b → a ++ x ≡ b ++ y → (i ≡ j) × (a ≡ b)

one_stands : (code : List ℕ) (place : ℕ) (i j : Instr) → OneInstruction → Stands code place i → Stands code place j → i ≡ j
one_stands code place i j one a b =
    let ahead = drop place code in
    let li = length (spelling i) in
    let lj = length (spelling j) in
    let first : spelling i ++ drop li ahead ≡ ahead = ap (λ (xs : List ℕ). xs ++ drop li ahead) (sym a.spelled) ∙ take-append-drop li ahead in
    let second : spelling j ++ drop lj ahead ≡ ahead = ap (λ (xs : List ℕ). xs ++ drop lj ahead) (sym b.spelled) ∙ take-append-drop lj ahead in
    (one i j (spelling i) (spelling j) (drop li ahead) (drop lj ahead) (a.row, refl) (b.row, refl) (first ∙ sym second)).0

ahead_jumps_if : (b : Option Bool) (d : ℕ) → ahead_where b ≡ Some d → (b ≡ Some true) × (d ≡ 2)
ahead_jumps_if None d e = absurd (none_some e)
ahead_jumps_if (Some true) d e = (refl, sym (some_same e))
ahead_jumps_if (Some false) d e = absurd (none_some e)

ahead_jumps : (i : Instr) (place d : ℕ) (f : Flags) → ahead_of i f ≡ Some d → JumpsBy i place (place + d) f
ahead_jumps (Jcc cond k) place d f e = let t = ahead_jumps_if (holds cond f) d e in (ap (λ (n : ℕ). place + n) t.1, t.0)
ahead_jumps (Jmp k) place d f e = ap (λ (n : ℕ). place + n) (sym (some_same e))
ahead_jumps (MovReg a b) place d f e = absurd (none_some e)
ahead_jumps (Load a m) place d f e = absurd (none_some e)
ahead_jumps (Store m a) place d f e = absurd (none_some e)
ahead_jumps (StoreImm m v) place d f e = absurd (none_some e)
ahead_jumps (MovImm a v) place d f e = absurd (none_some e)
ahead_jumps (Alu o a b) place d f e = absurd (none_some e)
ahead_jumps (AluImm o a v) place d f e = absurd (none_some e)
ahead_jumps (Imul a b) place d f e = absurd (none_some e)
ahead_jumps (Not a) place d f e = absurd (none_some e)
ahead_jumps (Neg a) place d f e = absurd (none_some e)
ahead_jumps (ShiftCl o a) place d f e = absurd (none_some e)
ahead_jumps (ShiftImm o a n) place d f e = absurd (none_some e)
ahead_jumps (Lea a m) place d f e = absurd (none_some e)
ahead_jumps (Xchg a b) place d f e = absurd (none_some e)
ahead_jumps (Set k a) place d f e = absurd (none_some e)
ahead_jumps (Movzx a b) place d f e = absurd (none_some e)
ahead_jumps (CallReg a) place d f e = absurd (none_some e)
ahead_jumps (JmpReg a) place d f e = absurd (none_some e)
ahead_jumps Ret place d f e = absurd (none_some e)

-- how far ahead an instruction that jumps has its displacement
pub record Ahead (i : Instr) (place at : ℕ) (f : Flags) : Type 0 where
  d : ℕ
  ahead : ahead_of i f ≡ Some d
  sum : at ≡ place + d
  near : (d ≡ 1) ⊎ (d ≡ 2)

jumps_ahead : (i : Instr) (place at : ℕ) (f : Flags) → JumpsBy i place at f → Ahead i place at f
jumps_ahead (Jcc cond k) place at f h = record { d = 2; ahead = ap ahead_where h.1; sum = h.0; near = inr refl }
jumps_ahead (Jmp k) place at f h = record { d = 1; ahead = refl; sum = h; near = inl refl }
jumps_ahead (MovReg a b) place at f h = absurd h
jumps_ahead (Load a m) place at f h = absurd h
jumps_ahead (Store m a) place at f h = absurd h
jumps_ahead (StoreImm m v) place at f h = absurd h
jumps_ahead (MovImm a v) place at f h = absurd h
jumps_ahead (Alu o a b) place at f h = absurd h
jumps_ahead (AluImm o a v) place at f h = absurd h
jumps_ahead (Imul a b) place at f h = absurd h
jumps_ahead (Not a) place at f h = absurd h
jumps_ahead (Neg a) place at f h = absurd h
jumps_ahead (ShiftCl o a) place at f h = absurd h
jumps_ahead (ShiftImm o a n) place at f h = absurd h
jumps_ahead (Lea a m) place at f h = absurd h
jumps_ahead (Xchg a b) place at f h = absurd h
jumps_ahead (Set k a) place at f h = absurd h
jumps_ahead (Movzx a b) place at f h = absurd h
jumps_ahead (CallReg a) place at f h = absurd h
jumps_ahead (JmpReg a) place at f h = absurd h
jumps_ahead Ret place at f h = absurd h

-- ---- the count

counted : (code : List ℕ) (rows : List ExitRow) (s : State) (places : List ℕ) (place : ℕ) (i : Instr) → AreGuardPlaces rows places → s.at ≡ 0x40000000 + place → Stands code place i → TakesOne i s.flags place places → CountsFailure code rows s
counted code rows s places place i are here stands (d, ahead, among) =
    let row = are.each (place + d) among in
    let jumps : JumpsBy i place row.0.at s.flags = subst (λ (at : ℕ). JumpsBy i place at s.flags) (sym row.3) (ahead_jumps i place d s.flags ahead) in
    (row.0, row.1, row.2, record { place = place; instr = i; here = here; stands = stands; jumps = jumps })

-- what a count comes from
pub record From (code places : List ℕ) (s : State) : Type 0 where
  place : ℕ
  i : Instr
  here : s.at ≡ 0x40000000 + place
  stands : Stands code place i
  d : ℕ
  ahead : ahead_of i s.flags ≡ Some d
  near : (d ≡ 1) ⊎ (d ≡ 2)
  among : Contains places (place + d)

count_from : (code : List ℕ) (rows : List ExitRow) (s : State) (places : List ℕ) → AreGuardPlaces rows places → CountsFailure code rows s → From code places s
count_from code rows s places are (row, there, guards, jump) =
    let a = jumps_ahead jump.instr jump.place row.at s.flags jump.jumps in
    record {
      place = jump.place;
      i = jump.instr;
      here = jump.here;
      stands = jump.stands;
      d = a.d;
      ahead = a.ahead;
      near = a.near;
      among = subst (λ (at : ℕ). Contains places at) a.sum (are.all row there guards);
    }

pub counts_here : (code : List ℕ) (s : State) (places : List ℕ) (place : ℕ) (i : Instr) (r : Bool) → OneInstruction → s.at ≡ 0x40000000 + place → Stands code place i → IsTrue r ↔ TakesOne i s.flags place places
    → (rows : List ExitRow) → AreGuardPlaces rows places → IsTrue r ↔ CountsFailure code rows s
counts_here code s places place i r one here stands both rows are = (λ t. counted code rows s places place i are here stands (both.0 t), back)
  where
    back : CountsFailure code rows s → IsTrue r
    back h =
        let f = count_from code rows s places are h in
        let there : f.place ≡ place = omega (arith, f.here, here) in
        let same : f.i ≡ i = one_stands code place f.i i one (subst (λ (p : ℕ). Stands code p f.i) there f.stands) stands in
        both.1 (f.d, subst (λ (x : Instr). ahead_of x s.flags ≡ Some f.d) same f.ahead, subst (λ (p : ℕ). Contains places (p + f.d)) there f.among)

pub none_here : (code : List ℕ) (s : State) (places : List ℕ) (place : ℕ) (r : Bool) → s.at ≡ 0x40000000 + place → ((i : Instr) → Stands code place i → ⊥) → (IsTrue r → ⊥)
    → (rows : List ExitRow) → AreGuardPlaces rows places → IsTrue r ↔ CountsFailure code rows s
none_here code s places place r here none never rows are = (λ t. absurd (never t), back)
  where
    back : CountsFailure code rows s → IsTrue r
    back h =
        let f = count_from code rows s places are h in
        let there : f.place ≡ place = omega (arith, f.here, here) in
        absurd (none f.i (subst (λ (p : ℕ). Stands code p f.i) there f.stands))

pub not_near : (code : List ℕ) (s : State) (places : List ℕ) (place : ℕ) (r : Bool) → s.at ≡ 0x40000000 + place → (Contains places (place + 1) → ⊥) → (Contains places (place + 2) → ⊥) → (IsTrue r → ⊥)
    → (rows : List ExitRow) → AreGuardPlaces rows places → IsTrue r ↔ CountsFailure code rows s
not_near code s places place r here one two never rows are = (λ t. absurd (never t), back)
  where
    either : (p d : ℕ) → p ≡ place → (d ≡ 1) ⊎ (d ≡ 2) → Contains places (p + d) → IsTrue r
    either p d there (inl e) k = absurd (one (subst (λ (at : ℕ). Contains places at) (omega (arith, there, e)) k))
    either p d there (inr e) k = absurd (two (subst (λ (at : ℕ). Contains places at) (omega (arith, there, e)) k))

    back : CountsFailure code rows s → IsTrue r
    back h =
        let f = count_from code rows s places are h in
        either f.place f.d (omega (arith, f.here, here)) f.near f.among

pub no_place : (code : List ℕ) (s : State) (places : List ℕ) (at : ℕ) (r : Bool) → at ≡ s.at → ((place : ℕ) → at ≡ 0x40000000 + place → 2 ^ 32 ≤ place) → ((i : ℕ) → Fits w32 (slice_index_or places i 0)) → (IsTrue r → ⊥)
    → (rows : List ExitRow) → AreGuardPlaces rows places → IsTrue r ↔ CountsFailure code rows s
no_place code s places at r same none words never rows are = (λ t. absurd (never t), back)
  where
    back : CountsFailure code rows s → IsTrue r
    back h =
        let f = count_from code rows s places are h in
        let high : 2 ^ 32 ≤ f.place = none f.place (same ∙ f.here) in
        let k = f.among.0 in
        let low : Fits w32 (slice_index_or places k 0) = words k in
        let it : slice_index_or places k 0 ≡ f.place + f.d = sym (get_or_default_zero places k (f.place + f.d) f.among.1) ∙ f.among.2 in
        absurd (omega (arith, high, low, it))
