-- The bridge that a failure goes into.
use Rattle.std.proofs.Common.{◌≡◌, ℕ, zero, suc, ◌<◌, ◌≤◌, length, get_or, subst, Bool, true, false, Option, Some, None, List, [], ◌∷◌, refl, ap, ◌∙◌, arith, cond}
use Rattle.std.specs.Prelude.{IsSome, nat_le, ◌&&◌}
use Rattle.std.specs.List.{Contains}
use Rattle.std.proofs.lemmas.Bool.{leb-true, le-leb}
use Rattle.trace_ops.specs.declared.trace.Trace.{Trace}
use Rattle.trace_meaning.specs.Cuts.{Cuts, Sees, is_bridge_of, seen_bridge}

-- one cut more, where this is known of it
abbrev SeesOne : List Trace → Cuts → ℕ → ℕ → ℕ → ℕ → Type 0
SeesOne traces cuts p n k b = (is_bridge_of traces p n b ≡ true) × Sees cuts k b

there_later : (cut x : ℕ × ℕ) (cuts : Cuts) → Contains cuts x → Contains (cut ∷ cuts) x
there_later cut x cuts h = let less : h.0 < length cuts = h.1 in (suc h.0, omega arith, h.2)

sees_later : (traces : List Trace) (cut : ℕ × ℕ) (cuts : Cuts) (p n k b : ℕ) → SeesOne traces cuts p n k b → SeesOne traces (cut ∷ cuts) p n k b
sees_later traces cut cuts p n k b h = (h.0, (h.1.0, there_later cut (b, h.1.0) cuts h.1.1, h.1.2))

sees_now : (traces : List Trace) (cut : ℕ × ℕ) (cuts : Cuts) (p n k b : ℕ) → is_bridge_of traces p n cut.0 ≡ true → nat_le cut.1 k ≡ true → cut.0 ≡ b → SeesOne traces (cut ∷ cuts) p n k b
sees_now traces cut cuts p n k b e f same = subst (λ d. SeesOne traces (cut ∷ cuts) p n k d) same (e, (cut.1, (0, omega arith, refl), leb-true cut.1 k f))

sees_first : (traces : List Trace) (cut : ℕ × ℕ) (cuts : Cuts) (p n k b : ℕ) (is before : Bool) → is_bridge_of traces p n cut.0 ≡ is → nat_le cut.1 k ≡ before → cond (is && before) (Some cut.0) (seen_bridge traces cuts p n k) ≡ Some b → (seen_bridge traces cuts p n k ≡ Some b → SeesOne traces cuts p n k b) → SeesOne traces (cut ∷ cuts) p n k b
sees_first traces cut cuts p n k b true true e f h later = sees_now traces cut cuts p n k b e f (cc)
sees_first traces cut cuts p n k b true false e f h later = sees_later traces cut cuts p n k b (later h)
sees_first traces cut cuts p n k b false before e f h later = sees_later traces cut cuts p n k b (later h)

-- it is one of the guard, and seen
pub seen-is_bridge : (traces : List Trace) (cuts : Cuts) (p n k b : ℕ) → seen_bridge traces cuts p n k ≡ Some b → SeesOne traces cuts p n k b
seen-is_bridge traces [] p n k b h = absurd (cc)
seen-is_bridge traces (cut ∷ cuts) p n k b h = sees_first traces cut cuts p n k b (is_bridge_of traces p n cut.0) (nat_le cut.1 k) refl refl h (seen-is_bridge traces cuts p n k b)

pub one-seen : (traces : List Trace) (cuts : Cuts) (p n k : ℕ) (x : Option ℕ) → seen_bridge traces cuts p n k ≡ x → IsSome x → (b : ℕ) × SeesOne traces cuts p n k b
one-seen traces cuts p n k None e h = absurd (let no : false ≡ true = h in cc)
one-seen traces cuts p n k (Some b) e h = (b, seen-is_bridge traces cuts p n k b e)

found_some : (is before : Bool) (first : ℕ) (later : Option ℕ) → is ≡ true → before ≡ true → IsSome (cond (is && before) (Some first) later)
found_some true true first later e f = refl
found_some true false first later e f = absurd (cc)
found_some false before first later e f = absurd (cc)

found_anyway : (is before : Bool) (first : ℕ) (later : Option ℕ) → IsSome later → IsSome (cond (is && before) (Some first) later)
found_anyway true true first later h = refl
found_anyway true false first later h = h
found_anyway false before first later h = h

-- where a bridge of the guard is seen, there is one that the failure goes into
pub bridge-found : (traces : List Trace) (cuts : Cuts) (p n k b c i : ℕ) → is_bridge_of traces p n b ≡ true → c ≤ k → i < length cuts → get_or cuts i (b, c) ≡ (b, c) → IsSome (seen_bridge traces cuts p n k)
bridge-found traces [] p n k b c i e le within at = absurd (omega arith)
bridge-found traces (cut ∷ cuts) p n k b c zero e le within at =
    found_some (is_bridge_of traces p n cut.0) (nat_le cut.1 k) cut.0 (seen_bridge traces cuts p n k)
    (ap (λ (x : ℕ × ℕ). is_bridge_of traces p n x.0) at ∙ e)
    (ap (λ (x : ℕ × ℕ). nat_le x.1 k) at ∙ le-leb c k le)
bridge-found traces (cut ∷ cuts) p n k b c (suc i) e le within at =
    found_anyway (is_bridge_of traces p n cut.0) (nat_le cut.1 k) cut.0 (seen_bridge traces cuts p n k)
    (bridge-found traces cuts p n k b c i e le (let less : i < length cuts = omega arith in less) at)
