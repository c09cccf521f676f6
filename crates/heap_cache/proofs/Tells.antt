-- Two bases, spots or keys are one, or the test tells them apart.
use Rattle.std.proofs.Common.{◌≡◌, ◌≢◌, Bool, true, false, refl, ap, sym, ◌∙◌, ◌⊎◌, inl, inr, ◌&&◌}
use Rattle.std.proofs.lemmas.Bool.{and_parts}
use Rattle.trace_ops.specs.declared.trace.Arg.{Arg}
use Rattle.trace_ops.specs.declared.piece.Spot.{Spot}
use Rattle.trace_ops.specs.contracts.trace.ArgEq.TheImpl.Laws as arg_laws
use Rattle.trace_ops.specs.contracts.piece.SpotEq.TheImpl.Laws as spot_laws
use Rattle.trace_ops.specs.Equality.{EqualityDecides}
use Rattle.heap_cache.specs.declared.key.Key.{Key}
use Rattle.heap_cache.specs.Content.{same_base, same_spot, same_key}

differ : true ≡ false → ⊥
differ e = cc

pub spot_refl : (p : Spot) → same_spot p p ≡ true
spot_refl p = spot_laws.lawful.laws.refl p

pub base_refl : (a : Arg) → same_base a a ≡ true
base_refl a = arg_laws.lawful.laws.refl a

pub key_refl : (k : Key) → same_key k k ≡ true
key_refl k = ap (λ b. b && same_spot k.spot k.spot) (base_refl k.base) ∙ spot_refl k.spot

module _ (law : EqualityDecides) where
  pub tells_spot : (p q : Spot) → ((same_spot p q ≡ true) × (p ≡ q)) ⊎ ((same_spot p q ≡ false) × (p ≢ q))
  tells_spot p q = by (same_spot p q) refl
    where
      by : (b : Bool) → same_spot p q ≡ b → ((same_spot p q ≡ true) × (p ≡ q)) ⊎ ((same_spot p q ≡ false) × (p ≢ q))
      by true h = inl (h, (law.spot p q).0 h)
      by false h = inr (h, λ e. differ (sym (spot_refl p) ∙ ap (same_spot p) e ∙ h))

  pub tells_base : (a b : Arg) → ((same_base a b ≡ true) × (a ≡ b)) ⊎ ((same_base a b ≡ false) × (a ≢ b))
  tells_base a b = by (same_base a b) refl
    where
      by : (x : Bool) → same_base a b ≡ x → ((same_base a b ≡ true) × (a ≡ b)) ⊎ ((same_base a b ≡ false) × (a ≢ b))
      by true h = inl (h, (law.arg a b).0 h)
      by false h = inr (h, λ e. differ (sym (base_refl a) ∙ ap (same_base a) e ∙ h))

  abbrev key_of : Arg → Spot → Key
  key_of b s = record { base = b; spot = s }

  pub key_same : (k q : Key) → same_key k q ≡ true → k ≡ q
  key_same k q h =
      let parts = and_parts (same_base k.base q.base) (same_spot k.spot q.spot) h in
      ap (λ b. key_of b k.spot) ((law.arg k.base q.base).0 parts.0) ∙ ap (λ s. key_of q.base s) ((law.spot k.spot q.spot).0 parts.1)

  pub tells_key : (k q : Key) → ((same_key k q ≡ true) × (k ≡ q)) ⊎ ((same_key k q ≡ false) × (k ≢ q))
  tells_key k q = by (same_key k q) refl
    where
      by : (b : Bool) → same_key k q ≡ b → ((same_key k q ≡ true) × (k ≡ q)) ⊎ ((same_key k q ≡ false) × (k ≢ q))
      by true h = inl (h, key_same k q h)
      by false h = inr (h, λ e. differ (sym (key_refl k) ∙ ap (same_key k) e ∙ h))
