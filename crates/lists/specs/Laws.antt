-- What the laws say.
use Rattle.std.specs.Prelude.{◌≡◌, ℕ, ◌<◌, ◌≤◌, List, Some, length, slice_get}
use Rattle.lists.specs.Has.{Has, IsOnce}

-- a list has what stands at one of its places
abbrev pub HasIsPlace : Type 0
HasIsPlace = (xs : List ℕ) (x : ℕ) → (Has xs x → (k : ℕ) × (slice_get xs k ≡ Some x)) × ((k : ℕ) → slice_get xs k ≡ Some x → Has xs x)

-- two places of the same number are one place
abbrev pub HasOnePlace : List ℕ → Type 0
HasOnePlace xs = (i j x : ℕ) → slice_get xs i ≡ Some x → slice_get xs j ≡ Some x → i ≡ j

abbrev pub OnceIsOnePlace : Type 0
OnceIsOnePlace = (xs : List ℕ) → (IsOnce xs → HasOnePlace xs) × (HasOnePlace xs → IsOnce xs)

-- numbers below n of which none stands twice are at most n
abbrev pub OnceIsShort : Type 0
OnceIsShort = (xs : List ℕ) (n : ℕ) → IsOnce xs → ((k : ℕ) → Has xs k → k < n) → length xs ≤ n
