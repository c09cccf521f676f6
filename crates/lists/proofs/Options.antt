-- Values that may be missing; `same_Some` and `none-some` of std take their values openly.
use Rattle.std.proofs.Common.{◌≡◌, Option, Some, None, refl}
use Rattle.lists.specs.Binds.{◌>>=◌}

pub some_same : {X : Type 0} {a b : X} → Some a ≡ Some b → a ≡ b
some_same h = cc

pub none_some : {X : Type 0} {x : X} → None ≡ Some x → ⊥
none_some h = cc

pub bind_some : {A B : Type 0} (o : Option A) (f : A → Option B) (y : B) → (o >>= f) ≡ Some y → (x : A) × (o ≡ Some x) × (f x ≡ Some y)
bind_some (Some x) f y e = (x, refl, e)
bind_some None f y e = cc

pub bind_at : {A B : Type 0} (o : Option A) (f : A → Option B) (x : A) → o ≡ Some x → (o >>= f) ≡ f x
bind_at (Some y) f x e = let same : y ≡ x = some_same e in rw same refl
bind_at None f x e = cc
