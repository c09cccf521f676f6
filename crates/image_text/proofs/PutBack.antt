-- Four bytes that are put back.
use Rattle.std.proofs.Common.{◌≡◌, ℕ, ◌+◌, ◌-◌, ◌≤◌, ℤ, true, nat_le, List, ◌++◌, length, take, drop, refl, sym, ap, ◌∙◌, append_assoc, arith}
use Rattle.std.proofs.lemmas.List.{length-append, length-take-le, length-drop, take_at, drop_at, take-append-drop, take-append-le, drop-append-le, drop-drop}
use Rattle.x64_encode.specs.Fields.{imm32}
use Rattle.image_runs.specs.Printed.{patched}
use Rattle.image_text.specs.Undone.{put_back}

four : (d : ℤ) → length (imm32 d) ≡ 4
four d = refl

pub length-patched : (at : ℕ) (d : ℤ) (code : List ℕ) → at + 4 ≤ length code → length (patched at d code) ≡ length code
length-patched at d code le =
    let front : length (take at code) ≡ at = length-take-le at code (omega (arith, le)) in
    let back : length (drop (at + 4) code) ≡ length code - (at + 4) = length-drop (at + 4) code in
    let more : length (imm32 d ++ drop (at + 4) code) ≡ length (imm32 d) + length (drop (at + 4) code) = length-append (imm32 d) (drop (at + 4) code) in
    let all : length (patched at d code) ≡ length (take at code) + length (imm32 d ++ drop (at + 4) code) = length-append (take at code) (imm32 d ++ drop (at + 4) code) in
    let is_four : length (imm32 d) ≡ 4 = four d in
    omega (arith, le, front, back, more, all, is_four)

-- four bytes in the middle
middle : (front a back : List ℕ) (d : ℤ) (n : ℕ) → length front ≡ n → length a ≡ 4 → patched n d (front ++ (a ++ back)) ≡ front ++ (imm32 d ++ back)
middle front a back d n len is_four =
    let whole : front ++ (a ++ back) ≡ (front ++ a) ++ back = sym (append_assoc front a back) in
    let both : length (front ++ a) ≡ n + 4 = length-append front a ∙ omega (arith, len, is_four) in
    let taken : take n (front ++ (a ++ back)) ≡ front = take_at front (a ++ back) n len in
    let dropped : drop (n + 4) (front ++ (a ++ back)) ≡ back = ap (drop (n + 4)) whole ∙ drop_at (front ++ a) back (n + 4) both in
    ap (λ (l : List ℕ). l ++ (imm32 d ++ drop (n + 4) (front ++ (a ++ back)))) taken ∙ ap (λ (l : List ℕ). front ++ (imm32 d ++ l)) dropped

-- what was patched is patched back
pub patched-patched : (at : ℕ) (before after : ℤ) (code : List ℕ) → at + 4 ≤ length code → take 4 (drop at code) ≡ imm32 before → patched at before (patched at after code) ≡ code
patched-patched at before after code le stood =
    let front : length (take at code) ≡ at = length-take-le at code (omega (arith, le)) in
    middle (take at code) (imm32 after) (drop (at + 4) code) before at front (four after)
    ∙ ap (λ (l : List ℕ). take at code ++ (l ++ drop (at + 4) code)) (sym stood)
    ∙ ap (λ (l : List ℕ). take at code ++ (take 4 (drop at code) ++ l)) (sym (drop-drop 4 at code))
    ∙ ap (λ (l : List ℕ). take at code ++ l) (take-append-drop 4 (drop at code))
    ∙ take-append-drop at code

pub put_back-within : (at : ℕ) (before : ℤ) (code : List ℕ) → at + 4 ≤ length code → put_back at before code ≡ patched at before code
unfolding put_back
put_back-within at before code le =
    let e : nat_le (at + 4) (length code) ≡ true = grind arith in
    rw e refl

pub length-put_back : (at : ℕ) (before : ℤ) (code : List ℕ) → at + 4 ≤ length code → length (put_back at before code) ≡ length code
length-put_back at before code le = ap length (put_back-within at before code le) ∙ length-patched at before code le

patched-append : (at : ℕ) (d : ℤ) (code more : List ℕ) → at + 4 ≤ length code → patched at d (code ++ more) ≡ patched at d code ++ more
patched-append at d code more le =
    ap (λ (l : List ℕ). l ++ (imm32 d ++ drop (at + 4) (code ++ more))) (take-append-le at code more (omega (arith, le)))
    ∙ ap (λ (l : List ℕ). take at code ++ (imm32 d ++ l)) (drop-append-le (at + 4) code more le)
    ∙ ap (λ (l : List ℕ). take at code ++ l) (sym (append_assoc (imm32 d) (drop (at + 4) code) more))
    ∙ sym (append_assoc (take at code) (imm32 d ++ drop (at + 4) code) more)

-- what is appended stays
pub put_back-append : (at : ℕ) (before : ℤ) (code more : List ℕ) → at + 4 ≤ length code → put_back at before (code ++ more) ≡ put_back at before code ++ more
put_back-append at before code more le =
    let long : length (code ++ more) ≡ length code + length more = length-append code more in
    put_back-within at before (code ++ more) (omega (arith, le, long))
    ∙ patched-append at before code more le
    ∙ ap (λ (l : List ℕ). l ++ more) (sym (put_back-within at before code le))
