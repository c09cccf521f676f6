-- Listings of codes, and of codes to which bytes are appended.
use Rattle.std.proofs.Common.{◌≡◌, ℕ, ◌+◌, List, [], ◌∷◌, ◌++◌, length, take, drop, map, refl, sym, ap, ◌∙◌, subst, add-zero, arith}
use Rattle.std.proofs.lemmas.List.{length-append, length-drop, take-append-drop, take-append-le, drop-append-le}
use Rattle.std.proofs.Math.Seq.{drop-append-add}
use Rattle.x64_encode.specs.declared.instr.Instr.{Instr}
use Rattle.x64_encode.specs.Form.{spelling}
use Rattle.x64_encode.specs.Listing.{Stands, Leads, Listing, IsWhole}
use Rattle.x64_encode.proofs.OneOnly.{one_only}

pub stands_appended : (code more : List ℕ) (place : ℕ) (i : Instr) → Stands code place i → Stands (code ++ more) place i
stands_appended code more place i h = record {
  row = h.row;
  room = omega (arith, h.room, length-append code more);
  inside = omega (arith, h.inside, length-append code more);
  spelled =
      ap (λ (xs : List ℕ). take (length (spelling i)) xs) (drop-append-le place code more (omega (arith, h.room)))
      ∙ take-append-le (length (spelling i)) (drop place code) more (omega (arith, h.inside, length-drop place code))
      ∙ h.spelled;
}

pub leads_appended : (code more places : List ℕ) (from to : ℕ) → Leads code from places to → Leads (code ++ more) from places to
leads_appended code more [] from to h = h
leads_appended code more (place ∷ places) from to h =
    (h.0, (h.1.0, stands_appended code more from h.1.0 h.1.1, leads_appended code more places (from + length (spelling h.1.0)) to h.1.2))

stands_behind : (code more : List ℕ) (place : ℕ) (i : Instr) → Stands more place i → Stands (code ++ more) (length code + place) i
stands_behind code more place i h = record {
  row = h.row;
  room = omega (arith, h.room, length-append code more);
  inside = omega (arith, h.inside, length-append code more);
  spelled = ap (λ (xs : List ℕ). take (length (spelling i)) xs) (drop-append-add code more place) ∙ h.spelled;
}

stands_back : (code more : List ℕ) (place : ℕ) (i : Instr) → Stands (code ++ more) (length code + place) i → Stands more place i
stands_back code more place i h = record {
  row = h.row;
  room = omega (arith, h.room, length-append code more);
  inside = omega (arith, h.inside, length-append code more);
  spelled = ap (λ (xs : List ℕ). take (length (spelling i)) xs) (sym (drop-append-add code more place)) ∙ h.spelled;
}

leads_behind : (code more places : List ℕ) (from to : ℕ) → Leads more from places to → Leads (code ++ more) (length code + from) (map (λ (n : ℕ). length code + n) places) (length code + to)
leads_behind code more [] from to h = ap (λ (n : ℕ). length code + n) h
leads_behind code more (place ∷ places) from to h =
    let rest = leads_behind code more places (from + length (spelling h.1.0)) to h.1.2 in
    let apart : length code + (from + length (spelling h.1.0)) ≡ (length code + from) + length (spelling h.1.0) = omega arith in
    (ap (λ (n : ℕ). length code + n) h.0, (h.1.0, stands_behind code more from h.1.0 h.1.1, subst (λ (n : ℕ). Leads (code ++ more) n (map (λ (m : ℕ). length code + m) places) (length code + to)) apart rest))

leads_joined : (code xs ys : List ℕ) (from mid to : ℕ) → Leads code from xs mid → Leads code mid ys to → Leads code from (xs ++ ys) to
leads_joined code [] ys from mid to h k = subst (λ (n : ℕ). Leads code n ys to) (sym h) k
leads_joined code (place ∷ places) ys from mid to h k =
    (h.0, (h.1.0, h.1.1, leads_joined code places ys (from + length (spelling h.1.0)) mid to h.1.2 k))

same_stands : (code : List ℕ) (place : ℕ) (i j : Instr) → Stands code place i → Stands code place j → i ≡ j
same_stands code place i j h k =
    let n : ℕ = length (spelling i) in
    let m : ℕ = length (spelling j) in
    (one_only i j (take n (drop place code)) (take m (drop place code)) (drop n (drop place code)) (drop m (drop place code)) (h.row, h.spelled) (k.row, k.spelled) (take-append-drop n (drop place code) ∙ sym (take-append-drop m (drop place code)))).0

one_way : (code xs ys : List ℕ) (from to end : ℕ) → Leads code from xs to → ((i : Instr) → Stands code to i → ⊥) → Leads code from ys end → ((i : Instr) → Stands code end i → ⊥) → xs ≡ ys
one_way code [] [] from to end h nothing k none = refl
one_way code [] (y ∷ ys) from to end h nothing k none = absurd (nothing k.1.0 (subst (λ (n : ℕ). Stands code n k.1.0) h k.1.1))
one_way code (x ∷ xs) [] from to end h nothing k none = absurd (none h.1.0 (subst (λ (n : ℕ). Stands code n h.1.0) k h.1.1))
one_way code (x ∷ xs) (y ∷ ys) from to end h nothing k none =
    let same : k.1.0 ≡ h.1.0 = same_stands code from k.1.0 h.1.0 k.1.1 h.1.1 in
    let on : Leads code (from + length (spelling h.1.0)) ys end = subst (λ (i : Instr). Leads code (from + length (spelling i)) ys end) same k.1.2 in
    let rest : xs ≡ ys = one_way code xs ys (from + length (spelling h.1.0)) to end h.1.2 nothing on none in
    let first : x ≡ y = h.0 ∙ sym k.0 in
    cc

pub one_listing_only : (code a b : List ℕ) → Listing code a → Listing code b → a ≡ b
one_listing_only code a b h k = one_way code a b 0 h.to k.to h.leads h.ends k.leads k.ends

none_at_end : (code : List ℕ) (i : Instr) → Stands code (length code) i → ⊥
none_at_end code i h = omega (arith, h.room)

-- the listing of a whole code leads to its end
to_end : (code a : List ℕ) → IsWhole code → Listing code a → Leads code 0 a (length code)
to_end code a w h =
    let same : w.0 ≡ a = one_way code w.0 a 0 (length code) h.to w.1 (none_at_end code) h.leads h.ends in
    subst (λ (xs : List ℕ). Leads code 0 xs (length code)) same w.1

both_lead : (code more a b : List ℕ) (to : ℕ) → Leads code 0 a (length code) → Leads more 0 b to → Leads (code ++ more) 0 (a ++ map (λ (n : ℕ). length code + n) b) (length code + to)
both_lead code more a b to h k =
    let behind = leads_behind code more b 0 to k in
    let on : Leads (code ++ more) (length code) (map (λ (n : ℕ). length code + n) b) (length code + to) = subst (λ (n : ℕ). Leads (code ++ more) n (map (λ (m : ℕ). length code + m) b) (length code + to)) (add-zero (length code)) behind in
    leads_joined (code ++ more) a (map (λ (n : ℕ). length code + n) b) 0 (length code) (length code + to) (leads_appended code more a 0 (length code) h) on

pub listing_appended : (code more a b : List ℕ) → IsWhole code → Listing code a → Listing more b → Listing (code ++ more) (a ++ map (λ (n : ℕ). length code + n) b)
listing_appended code more a b w h k = record {
  to = length code + k.to;
  leads = both_lead code more a b k.to (to_end code a w h) k.leads;
  ends = λ i st. k.ends i (stands_back code more k.to i st);
}

pub whole_appended : (code more : List ℕ) → IsWhole code → IsWhole more → IsWhole (code ++ more)
whole_appended code more w v =
    (w.0 ++ map (λ (n : ℕ). length code + n) v.0, subst (λ (n : ℕ). Leads (code ++ more) 0 (w.0 ++ map (λ (m : ℕ). length code + m) v.0) n) (sym (length-append code more)) (both_lead code more w.0 v.0 (length more) w.1 v.1))
