-- Lines of hexadecimal digits.
use Rattle.std.proofs.Common.{◌≡◌, ℕ, ◌-◌, ◌≤◌, ◌<◌, Bool, true, false, eqb, List, [], ◌∷◌, ◌++◌, length, refl, sym, ap, ◌∙◌, append_assoc, arith}
use Rattle.std.proofs.lemmas.Bool.{eqb-true, eqb-false}
use Rattle.std.proofs.lemmas.List.{append-nil}
use Rattle.hex.specs.Hex.{encode_lower, encode_with}
use Rattle.image_text.specs.Hex.{hex_from}

pub encode_cons : (b : ℕ) (bs : List ℕ) → encode_lower (b ∷ bs) ≡ encode_lower (b ∷ []) ++ encode_lower bs
unfolding encode_with
encode_cons b bs = refl

ends : (room : ℕ) → room < 32 → hex_from room [] ≡ 10 ∷ []
ends room h =
    let e : eqb room 32 ≡ false = grind arith in
    rw e refl

one : (b room : ℕ) (bs : List ℕ) → eqb room 1 ≡ true → hex_from room (b ∷ bs) ≡ encode_lower (b ∷ []) ++ 10 ∷ hex_from 32 bs
one b room bs e = rw e refl

more : (b room : ℕ) (bs : List ℕ) → eqb room 1 ≡ false → hex_from room (b ∷ bs) ≡ encode_lower (b ∷ []) ++ hex_from (room - 1) bs
more b room bs e = rw e refl

behind : (b : ℕ) (bs x y : List ℕ) → x ≡ encode_lower bs ++ y → encode_lower (b ∷ []) ++ x ≡ encode_lower (b ∷ bs) ++ y
behind b bs x y e =
    ap (λ (z : List ℕ). encode_lower (b ∷ []) ++ z) e
    ∙ sym (append_assoc (encode_lower (b ∷ [])) (encode_lower bs) y)
    ∙ ap (λ (z : List ℕ). z ++ y) (sym (encode_cons b bs))

-- what is left of a line, and a line feed
abbrev Tail : List ℕ → Type 0
Tail xs = (room : ℕ) → length xs ≤ room → 0 < room → room < 32 → hex_from room xs ≡ encode_lower xs ++ 10 ∷ []

tail_at : (t : Bool) (b : ℕ) (bs : List ℕ) (room : ℕ) → eqb room 1 ≡ t → length (b ∷ bs) ≤ room → room < 32 → Tail bs → hex_from room (b ∷ bs) ≡ encode_lower (b ∷ bs) ++ 10 ∷ []
tail_at true b [] room e h l t = one b room [] e
tail_at true b (c ∷ cs) room e h l t = absurd (omega (arith, eqb-true room 1 e))
tail_at false b bs room e h l t =
    more b room bs e ∙ behind b bs (hex_from (room - 1) bs) (10 ∷ []) (t (room - 1) (omega arith) (omega (arith, eqb-false room 1 e)) (omega arith))

pub tail : (xs : List ℕ) → Tail xs
unfolding encode_with
tail [] room h k l = ends room l
tail (b ∷ bs) room h k l = tail_at (eqb room 1) b bs room refl h l (tail bs)

-- the last line
pub last : (xs : List ℕ) → 0 < length xs → length xs ≤ 32 → hex_from 32 xs ≡ encode_lower xs ++ 10 ∷ []
last [] h k = absurd (omega arith)
last (b ∷ bs) h k = more b 32 bs refl ∙ behind b bs (hex_from 31 bs) (10 ∷ []) (tail bs 31 (omega arith) (omega arith) (omega arith))

-- a whole line, and what follows
abbrev Front : List ℕ → List ℕ → Type 0
Front ys xs = (room : ℕ) → length xs ≡ room → 0 < room → hex_from room (xs ++ ys) ≡ encode_lower xs ++ 10 ∷ hex_from 32 ys

front_at : (t : Bool) (ys : List ℕ) (b : ℕ) (bs : List ℕ) (room : ℕ) → eqb room 1 ≡ t → length (b ∷ bs) ≡ room → Front ys bs → hex_from room (b ∷ bs ++ ys) ≡ encode_lower (b ∷ bs) ++ 10 ∷ hex_from 32 ys
front_at true ys b [] room e h f = one b room ys e
front_at true ys b (c ∷ cs) room e h f = absurd (omega (arith, eqb-true room 1 e))
front_at false ys b bs room e h f =
    more b room (bs ++ ys) e ∙ behind b bs (hex_from (room - 1) (bs ++ ys)) (10 ∷ hex_from 32 ys) (f (room - 1) (omega arith) (omega (arith, eqb-false room 1 e)))

pub front : (ys xs : List ℕ) → Front ys xs
front ys [] room h k = absurd (omega arith)
front ys (b ∷ bs) room h k = front_at (eqb room 1) ys b bs room refl h (front ys bs)

-- what a turn of the loop keeps, and what the last line ends
pub stays : (a out line after rest : List ℕ) → out ≡ a ++ (encode_lower line ++ 10 ∷ []) → rest ≡ line ++ after → length line ≡ 32 → out ++ hex_from 32 after ≡ a ++ hex_from 32 rest
stays a out line after rest e p h =
    ap (λ (z : List ℕ). z ++ hex_from 32 after) e
    ∙ append_assoc a (encode_lower line ++ 10 ∷ []) (hex_from 32 after)
    ∙ ap (λ (z : List ℕ). a ++ z) (append_assoc (encode_lower line) (10 ∷ []) (hex_from 32 after) ∙ sym (front after line 32 h (omega arith)) ∙ ap (hex_from 32) (sym p))

pub done : (a out rest : List ℕ) → out ≡ a ++ (encode_lower rest ++ 10 ∷ []) → 0 < length rest → length rest ≤ 32 → out ≡ a ++ hex_from 32 rest
done a out rest e h k = e ∙ ap (λ (z : List ℕ). a ++ z) (sym (last rest h k))

pub nothing : (a rest : List ℕ) → length rest ≡ 0 → a ++ hex_from 32 rest ≡ a
nothing a [] h = append-nil a
nothing a (b ∷ bs) h = absurd (omega arith)
