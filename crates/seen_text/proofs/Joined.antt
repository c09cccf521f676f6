-- Texts that were added one behind the other.
use Rattle.std.proofs.Common.{◌≡◌, ℕ, List, ◌++◌, ap, ◌∙◌, append_assoc}

pub joined2 : (o a b x y : List ℕ) → x ≡ o ++ a → y ≡ x ++ b → y ≡ o ++ (a ++ b)
joined2 o a b x y hx hy = hy ∙ ap (λ t. t ++ b) hx ∙ append_assoc o a b

pub joined3 : (o a b c x y z : List ℕ) → x ≡ o ++ a → y ≡ x ++ b → z ≡ y ++ c → z ≡ o ++ ((a ++ b) ++ c)
joined3 o a b c x y z hx hy hz = joined2 o (a ++ b) c y z (joined2 o a b x y hx hy) hz

pub joined4 : (o a b c d x y z w : List ℕ) → x ≡ o ++ a → y ≡ x ++ b → z ≡ y ++ c → w ≡ z ++ d → w ≡ o ++ (((a ++ b) ++ c) ++ d)
joined4 o a b c d x y z w hx hy hz hw = joined2 o ((a ++ b) ++ c) d z w (joined3 o a b c x y z hx hy hz) hw
