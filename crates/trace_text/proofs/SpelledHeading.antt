-- Headings are read as they are spelled.
use Rattle.std.proofs.Common.{◌≡◌, ℕ, ◌+◌, ◌-◌, ◌^◌, take, drop, Bool, true, false, cond, List, [], ◌∷◌, Option, Some, None, refl, sym, ap, subst, ◌∙◌}
use Rattle.std.specs.Prelude.{codes, position, nat_eq}
use Rattle.std.specs.Str.{bytes_eq}
use Rattle.std.proofs.lemmas.Slice.Eq.{bytes_eq-Decides}
use Rattle.text_lines.specs.Words.{is_name}
use Rattle.lists.specs.Binds.{◌>>=◌}
use Rattle.lists.proofs.Bools.{bytes_same}
use Rattle.text_lines.specs.Reading.{word_at, name_at, key_at, ended}
use Rattle.text_lines.specs.Numbers.{decimal_of}
use Rattle.trace_ops.specs.declared.trace.Origin.{Origin}
use Rattle.trace_ops.specs.declared.trace.Origin.TheVariants as origin
use Rattle.trace_text.specs.declared.heading.Heading.{Heading}
use Rattle.trace_text.specs.Heading.{guard_name, loop_at, bridge_at, heading_at}
use Rattle.trace_text.specs.Spelling.{SpellsOrigin, key_of, SpellsHeading}

heading_again_by : (ws rest : List (List ℕ)) (name : List ℕ) (o : Origin) → ws ≡ key_of o ∷ name ∷ rest → is_name name ≡ true → SpellsOrigin rest o → heading_at ws ≡ Some (record { name = name; origin = o })
unfolding heading_at loop_at bridge_at name_at key_at
heading_again_by ws rest name origin.Loop words is none = rw (words, none, is) refl
heading_again_by ws rest name (origin.Bridge parent guard) words is h = rw (words, h.1, is, h.2) refl

-- what is spelled so is read
pub heading_again : (ws : List (List ℕ)) (h : Heading) → SpellsHeading ws h → heading_at ws ≡ Some h
heading_again ws h s = heading_again_by ws s.0 h.name h.origin s.1 s.2 s.3

-- ---- what is read is spelled so

abbrev heading : List ℕ → Origin → Heading
heading name o = record { name = name; origin = o }

abbrev pair : List ℕ → List (List ℕ) → List ℕ × List (List ℕ)
pair n ws = (n, ws)

abbrev heading_in : Heading → Option Heading → Heading
heading_in other None = other
heading_in other (Some h) = h

same_heading : (a b : Heading) → Some a ≡ Some b → b ≡ a
same_heading a b e = sym (ap (heading_in a) e)

ended_by : (name : List ℕ) (o : Origin) (ws : List (List ℕ)) (h : Heading) → ended (heading name o) ws ≡ Some h → (ws ≡ []) × (h ≡ heading name o)
ended_by name o [] h e = (refl, same_heading (heading name o) h e)
ended_by name o (w ∷ ws) h e = absurd cc

loop_by : (b : Bool) (n : List ℕ) (rest : List (List ℕ)) (h : Heading) → (cond b (Some (pair n rest)) None >>= λ x. ended (heading x.0 origin.Loop) x.1) ≡ Some h → (b ≡ true) × (rest ≡ []) × (h ≡ heading n origin.Loop)
loop_by true n rest h e = let p = ended_by n origin.Loop rest h e in (refl, p.0, p.1)
loop_by false n rest h e = absurd cc

loop_back : (ws : List (List ℕ)) (h : Heading) → loop_at ws ≡ Some h → SpellsHeading (codes "%loop" ∷ ws) h
unfolding loop_at name_at
loop_back [] h e = absurd cc
loop_back (n ∷ rest) h e =
    let p = loop_by (is_name n) n rest h e in
    let made : SpellsHeading (codes "%loop" ∷ n ∷ rest) (heading n origin.Loop) = (rest, refl, p.0, p.1) in
    subst (λ (x : Heading). SpellsHeading (codes "%loop" ∷ n ∷ rest) x) (sym p.2) made

-- T/k names a bridge
number_not_loop : (n : List ℕ) (o : Option ℕ) → (o >>= λ k. Some (origin.Bridge n k)) ≡ Some origin.Loop → ⊥
number_not_loop n None e = absurd cc
number_not_loop n (Some k) e = absurd cc

test_not_loop : (b : Bool) (o : Option Origin) → (o ≡ Some origin.Loop → ⊥) → cond b o None ≡ Some origin.Loop → ⊥
test_not_loop true o f e = f e
test_not_loop false o f e = absurd cc

slash_not_loop : (w : List ℕ) (o : Option ℕ) → (o >>= λ i. cond (is_name (take i w)) (decimal_of (2 ^ 32 - 1) (drop (i + 1) w) >>= λ k. Some (origin.Bridge (take i w) k)) None) ≡ Some origin.Loop → ⊥
slash_not_loop w None e = absurd cc
slash_not_loop w (Some i) e = test_not_loop (is_name (take i w)) (decimal_of (2 ^ 32 - 1) (drop (i + 1) w) >>= λ k. Some (origin.Bridge (take i w) k)) (number_not_loop (take i w) (decimal_of (2 ^ 32 - 1) (drop (i + 1) w))) e

not_loop : (w : List ℕ) → guard_name w ≡ Some origin.Loop → ⊥
unfolding guard_name
not_loop w e = slash_not_loop w (position (λ c. nat_eq c 47) w) e

bridge_made : (n w : List ℕ) (o : Origin) → is_name n ≡ true → guard_name w ≡ Some o → SpellsHeading (codes "%bridge" ∷ n ∷ codes "from" ∷ w ∷ []) (heading n o)
bridge_made n w origin.Loop is e = absurd (not_loop w e)
bridge_made n w (origin.Bridge parent guard) is e = (codes "from" ∷ w ∷ [], refl, is, (w, refl, e))

guard_by : (g : Option Origin) (n : List ℕ) (rest : List (List ℕ)) (h : Heading) → (g >>= λ from. ended (heading n from) rest) ≡ Some h → (o : Origin) × (g ≡ Some o) × (rest ≡ []) × (h ≡ heading n o)
guard_by None n rest h e = absurd cc
guard_by (Some o) n rest h e = let p = ended_by n o rest h e in (o, refl, p.0, p.1)

word_by : (n : List ℕ) (rest : List (List ℕ)) (h : Heading) → (word_at rest >>= λ w. guard_name w.0 >>= λ from. ended (heading n from) w.1) ≡ Some h → (w : List ℕ) × (o : Origin) × (rest ≡ w ∷ []) × (guard_name w ≡ Some o) × (h ≡ heading n o)
word_by n [] h e = absurd cc
word_by n (w ∷ ws) h e = let p = guard_by (guard_name w) n ws h e in (w, p.0, ap (λ (x : List (List ℕ)). w ∷ x) p.2, p.1, p.3)

key_by : (b : Bool) (n : List ℕ) (rest : List (List ℕ)) (h : Heading) → (cond b (Some rest) None >>= λ behind. word_at behind >>= λ w. guard_name w.0 >>= λ from. ended (heading n from) w.1) ≡ Some h → (b ≡ true) × ((word_at rest >>= λ w. guard_name w.0 >>= λ from. ended (heading n from) w.1) ≡ Some h)
key_by true n rest h e = (refl, e)
key_by false n rest h e = absurd cc

from_by : (n : List ℕ) (rest : List (List ℕ)) (h : Heading) → (key_at (codes "from") rest >>= λ behind. word_at behind >>= λ w. guard_name w.0 >>= λ from. ended (heading n from) w.1) ≡ Some h → (w : List ℕ) × (o : Origin) × (rest ≡ codes "from" ∷ w ∷ []) × (guard_name w ≡ Some o) × (h ≡ heading n o)
unfolding key_at
from_by n [] h e = absurd cc
from_by n (f ∷ rest) h e =
    let p = key_by (bytes_eq f (codes "from")) n rest h e in
    let q = word_by n rest h p.1 in
    (q.0, q.1, ap (λ (x : List ℕ). x ∷ rest) (bytes_same f (codes "from") p.0) ∙ ap (λ (x : List (List ℕ)). codes "from" ∷ x) q.2, q.3, q.4)

name_by : (b : Bool) (n : List ℕ) (rest : List (List ℕ)) (h : Heading) → (cond b (Some (pair n rest)) None >>= λ name. key_at (codes "from") name.1 >>= λ behind. word_at behind >>= λ w. guard_name w.0 >>= λ from. ended (heading name.0 from) w.1) ≡ Some h → (b ≡ true) × ((key_at (codes "from") rest >>= λ behind. word_at behind >>= λ w. guard_name w.0 >>= λ from. ended (heading n from) w.1) ≡ Some h)
name_by true n rest h e = (refl, e)
name_by false n rest h e = absurd cc

bridge_back : (ws : List (List ℕ)) (h : Heading) → bridge_at ws ≡ Some h → SpellsHeading (codes "%bridge" ∷ ws) h
unfolding bridge_at name_at
bridge_back [] h e = absurd cc
bridge_back (n ∷ rest) h e =
    let p = name_by (is_name n) n rest h e in
    let q = from_by n rest h p.1 in
    let made : SpellsHeading (codes "%bridge" ∷ n ∷ codes "from" ∷ q.0 ∷ []) (heading n q.1) = bridge_made n q.0 q.1 p.0 q.3 in
    let words : SpellsHeading (codes "%bridge" ∷ n ∷ rest) (heading n q.1) = subst (λ (x : List (List ℕ)). SpellsHeading (codes "%bridge" ∷ n ∷ x) (heading n q.1)) (sym q.2) made in
    subst (λ (x : Heading). SpellsHeading (codes "%bridge" ∷ n ∷ rest) x) (sym q.4) words

by_key : (a b : Bool) (k : List ℕ) (ws : List (List ℕ)) (h : Heading) → bytes_eq k (codes "%loop") ≡ a → bytes_eq k (codes "%bridge") ≡ b → cond a (loop_at ws) (cond b (bridge_at ws) None) ≡ Some h → SpellsHeading (k ∷ ws) h
by_key true b k ws h ea eb e = subst (λ (x : List ℕ). SpellsHeading (x ∷ ws) h) (sym (bytes_same k (codes "%loop") ea)) (loop_back ws h e)
by_key false true k ws h ea eb e = subst (λ (x : List ℕ). SpellsHeading (x ∷ ws) h) (sym (bytes_same k (codes "%bridge") eb)) (bridge_back ws h e)
by_key false false k ws h ea eb e = absurd cc

pub heading_back : (ws : List (List ℕ)) (h : Heading) → heading_at ws ≡ Some h → SpellsHeading ws h
unfolding heading_at
heading_back [] h e = absurd cc
heading_back (k ∷ ws) h e = by_key (bytes_eq k (codes "%loop")) (bytes_eq k (codes "%bridge")) k ws h refl refl e
