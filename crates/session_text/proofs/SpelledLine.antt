-- A line that is spelled so is read.
use Rattle.std.proofs.Common.{◌≡◌, ℕ, ◌^◌, true, false, List, [], ◌∷◌, map, Some, refl, sym, ap, ◌∙◌}
use Rattle.std.specs.Prelude.{codes}
use Rattle.std.proofs.lemmas.Option.{same_Some}
use Rattle.text_lines.specs.Words.{is_name}
use Rattle.text_lines.specs.Numbers.{decimal_of}
use Rattle.text_lines.specs.Reading.{name_at, key_at}
use Rattle.trace_meaning.specs.declared.call.Answer.{Answer}
use Rattle.trace_meaning.specs.declared.call.AnswerStore.{AnswerStore}
use Rattle.session_text.specs.declared.form.Activation.{Activation}
use Rattle.session_text.specs.declared.form.Form.{Form}
use Rattle.session_text.specs.declared.form.Form.TheVariants as form
use Rattle.session_text.specs.declared.start.Start.{Start}
use Rattle.session_text.specs.Names.{Names}
use Rattle.session_text.specs.Start.{start_at}
use Rattle.session_text.specs.Form.{number_at, start_line_at, step_at, run_at, attach_at, form_at}
use Rattle.session_text.specs.Spelling.{Reply, Stored, stored, reply, SpellsStart, SpellsLine, IsSame}
use Rattle.session_text.proofs.Spelled.{start_read}

-- ---- what is said stands for one thing

head_or : {X : Type 0} → X → List X → X
head_or d [] = d
head_or d (x ∷ xs) = x

tail : {X : Type 0} → List X → List X
tail [] = []
tail (x ∷ xs) = xs

map-one : {X Y : Type 0} (f : X → Y) → ((x y : X) → f x ≡ f y → x ≡ y) → (xs ys : List X) → map f xs ≡ map f ys → xs ≡ ys
unfolding head_or tail
map-one f one [] [] e = refl
map-one f one [] (y ∷ ys) e = absurd cc
map-one f one (x ∷ xs) [] e = absurd cc
map-one f one (x ∷ xs) (y ∷ ys) e =
    let first : x ≡ y = one x y (ap (head_or (f x)) e) in
    let others : xs ≡ ys = map-one f one xs ys (ap tail e) in
    rw (first, others) refl

store_one : (s t : AnswerStore) → stored s ≡ stored t → s ≡ t
store_one s t e =
    let a : s.arg ≡ t.arg = ap (λ (x : Stored). x.arg) e in
    let b : s.field ≡ t.field = same_Some s.field t.field (ap (λ (x : Stored). x.field) e) in
    let d : s.value ≡ t.value = same_Some s.value t.value (ap (λ (x : Stored). x.value) e) in
    λ i. record { arg = a i; field = b i; value = d i }

answer_one : (a b : Answer) → reply a ≡ reply b → a ≡ b
answer_one a b e =
    let g : a.gives ≡ b.gives = same_Some a.gives b.gives (ap (λ (x : Reply). x.gives) e) in
    let s : a.stores ≡ b.stores = map-one stored store_one a.stores b.stores (ap (λ (x : Reply). x.stores) e) in
    λ i. record { gives = g i; stores = s i }

-- ---- lines

start_line : (names : Names) (name of : List ℕ) (ws : List (List ℕ)) (m : Start) → is_name name ≡ true → is_name of ≡ true → start_at names ws ≡ Some m → form_at names (codes "start" ∷ name ∷ of ∷ codes "(" ∷ ws) ≡ Some (form.Start (record { name = name; of = of; lacks = m.lacks; inputs = m.inputs; answers = m.answers }))
unfolding form_at start_line_at name_at key_at
start_line names name of ws m n o e = rw (n, o, e) refl

step_line : (names : Names) (name w : List ℕ) (k : ℕ) → is_name name ≡ true → decimal_of (10 ^ 7) w ≡ Some k → form_at names (codes "step" ∷ name ∷ w ∷ []) ≡ Some (form.Step name k)
unfolding form_at step_at name_at number_at
step_line names name w k n e = rw (n, e) refl

run_line : (names : Names) (name w : List ℕ) (k : ℕ) → is_name name ≡ true → decimal_of (10 ^ 6) w ≡ Some k → form_at names (codes "run" ∷ name ∷ w ∷ []) ≡ Some (form.Run name k)
unfolding form_at run_at name_at number_at
run_line names name w k n e = rw (n, e) refl

attach_line : (names : Names) (name : List ℕ) → is_name name ≡ true → form_at names (codes "attach" ∷ name ∷ []) ≡ Some (form.Attach name)
unfolding form_at attach_at name_at
attach_line names name n = rw n refl

abbrev IsReadSame : Names → List (List ℕ) → Form → Type 0
IsReadSame names ws f = (g : Form) × (form_at names ws ≡ Some g) × IsSame f g

start_same : (names : Names) (ws : List (List ℕ)) (a : Activation) → SpellsStart names ws a → IsReadSame names ws (form.Start a)
start_same names ws a s =
    let r = start_read names s.inner s.rest s.inputs s.answers s.spells_inputs s.spells_answers in
    let m : Start = r.made in
    let lacks : a.lacks ≡ m.lacks = s.says.lacks ∙ sym r.says.lacks in
    let inputs : a.lacks ≡ false → a.inputs ≡ m.inputs = λ e. map-one (λ x. Some x) same_Some a.inputs m.inputs (s.says.inputs e ∙ sym (r.says.inputs (sym lacks ∙ e))) in
    let answers : a.lacks ≡ false → a.answers ≡ m.answers = λ e. map-one reply answer_one a.answers m.answers (s.says.answers e ∙ sym (r.says.answers (sym lacks ∙ e))) in
    (form.Start (record { name = a.name; of = a.of; lacks = m.lacks; inputs = m.inputs; answers = m.answers }), ap (form_at names) s.parts ∙ start_line names a.name a.of s.inner m s.named s.of_named r.read, (refl, refl, lacks, λ e. (inputs e, answers e)))

pub spelled_line : (names : Names) (ws : List (List ℕ)) (f : Form) → SpellsLine names ws f → IsReadSame names ws f
spelled_line names ws (form.Start a) s = start_same names ws a s
spelled_line names ws (form.Step name k) s = (form.Step name k, ap (form_at names) s.1 ∙ step_line names name s.0 k s.2 s.3, refl)
spelled_line names ws (form.Run name k) s = (form.Run name k, ap (form_at names) s.1 ∙ run_line names name s.0 k s.2 s.3, refl)
spelled_line names ws (form.Attach name) s = (form.Attach name, ap (form_at names) s.0 ∙ attach_line names name s.1, refl)
