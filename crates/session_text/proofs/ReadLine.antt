-- What is read of a line is spelled so.
use Rattle.std.proofs.Common.{◌≡◌, ℕ, zero, suc, ◌<◌, ◌≤◌, ◌^◌, true, cond, List, [], ◌∷◌, length, Option, Some, None, refl, sym, ap, subst, ◌∙◌, inl, inr, arith}
use Rattle.std.specs.Prelude.{codes}
use Rattle.std.specs.Str.{bytes_eq}
use Rattle.text_lines.specs.Words.{is_name}
use Rattle.text_lines.specs.Numbers.{decimal_of}
use Rattle.lists.specs.Binds.{◌>>=◌}
use Rattle.lists.proofs.Options.{bind_some, none_some}
use Rattle.lists.proofs.Bools.{if_some, chosen, bytes_same}
use Rattle.std.proofs.lemmas.Option.{same_Some}
use Rattle.text_lines.specs.Reading.{name_at, key_at, ended}
use Rattle.trace_meaning.specs.declared.value.Value.{Value}
use Rattle.trace_meaning.specs.declared.call.Give.{Give}
use Rattle.session_text.specs.declared.form.Form.{Form}
use Rattle.session_text.specs.declared.form.Form.TheVariants as form
use Rattle.session_text.specs.declared.start.Place.TheVariants as place
use Rattle.session_text.specs.declared.start.Start.{Start}
use Rattle.session_text.specs.Names.{Names}
use Rattle.session_text.specs.Start.{begin, go, answer_step, gives_found, pushed, end_step, run, is_done, done, start_at}
use Rattle.session_text.specs.Form.{number_at, start_line_at, step_at, run_at, attach_at, form_at}
use Rattle.session_text.specs.Spelling.{Stored, Reply, SpellsInputs, SpellsGive, SpellsStores, MoreAnswers, answers_end, one_answer, SpellsAnswers, no_answers, none_answered, first_answer, SpellsLine}
use Rattle.session_text.proofs.Binds.{name_takes, ended_takes}
use Rattle.session_text.proofs.Put.{put_inputs, replied, put_replies}
use Rattle.session_text.proofs.Spelled.{Tells, tells, first_other}
use Rattle.session_text.proofs.ReadStart.{Ended, no_end, one_on, expected, to, all_inputs}
use Rattle.session_text.proofs.ReadAnswers.{given, some_stores}

abbrev Words : Type 0
Words = List (List ℕ)

-- ---- one answer, and the word that ends it

pub record Replied (names : Names) (s : Start) (ws : Words) (m : Start) : Type 0 where
  pub g : Option Give
  pub ss : List Stored
  pub us : Words
  pub word : List ℕ
  pub rest : Words
  pub spells_give : SpellsGive names ws g us
  pub spells_stores : SpellsStores names us ss (word ∷ rest)
  pub short : length rest < length ws
  pub then_ : Start
  pub same : pushed then_ place.Ended ≡ replied s (record { gives = g; stores = ss })
  pub next : Start
  pub steps : end_step then_ word ≡ Some next
  pub ended : Ended names next rest m

reply_read : (names : Names) (s m : Start) (ws : Words) → Ended names (go s place.Answer) ws m → Replied names s ws m
reply_read names s m ws e =
    let a = given names s m ws e in
    let b = some_stores names (gives_found s a.g) m a.rest refl a.ended in
    record { g = a.g; ss = b.ss; us = a.rest; word = b.word; rest = b.rest; spells_give = a.spells; spells_stores = b.spells; short = omega (arith, a.short, b.short); then_ = b.then_; same = b.same; next = b.next; steps = b.steps; ended = b.ended }

-- nothing follows the end
pub record IsLast (s : Start) (ws : Words) (m : Start) : Type 0 where
  pub none : ws ≡ []
  pub same : m ≡ s

nothing_more : (names : Names) (s m : Start) (ws : Words) → s.place ≡ place.Ended → Ended names s ws m → IsLast s ws m
unfolding run
nothing_more names s m [] at e = record { none = refl; same = sym (same_Some s m e.runs) }
nothing_more names s m (w ∷ ws) at e =
    let n = one_on names s m place.Ended w ws at e in
    absurd (none_some n.steps)

-- the answers behind one
pub record Answers (names : Names) (x : Start) (vs : Words) (m : Start) : Type 0 where
  pub rs : List Reply
  pub spells : MoreAnswers names vs rs
  pub same : m ≡ put_replies (pushed x place.Ended) rs

last_one : (names : Names) (x m : Start) (w : List ℕ) (ws : Words) → w ≡ codes ")" → IsLast (pushed x place.Ended) ws m → Answers names x (w ∷ ws) m
last_one names x m w ws key l =
    let front : w ∷ ws ≡ codes ")" ∷ [] = ap (λ (k : List ℕ). k ∷ ws) key ∙ ap (λ (y : Words). codes ")" ∷ y) l.none in
    record { rs = []; spells = subst (λ (y : Words). MoreAnswers names y []) (sym front) answers_end; same = l.same }

one_more : (names : Names) (x m : Start) (w : List ℕ) (ws : Words) → w ≡ codes ";" → (r : Replied names (pushed x place.Ended) ws m) → Answers names r.then_ (r.word ∷ r.rest) m → Answers names x (w ∷ ws) m
one_more names x m w ws key r a =
    let rs : List Reply = record { gives = r.g; stores = r.ss } ∷ a.rs in
    let more : MoreAnswers names (codes ";" ∷ ws) rs = one_answer r.spells_give r.spells_stores a.spells in
    record {
      rs = rs;
      spells = subst (λ (k : List ℕ). MoreAnswers names (k ∷ ws) rs) (sym key) more;
      same = a.same ∙ ap (λ (y : Start). put_replies y a.rs) r.same;
    }

answers_by : (names : Names) (x m next : Start) (w : List ℕ) (ws : Words) → ((y q : Start) (v : List ℕ) (vs : Words) → length vs < length ws → end_step y v ≡ Some q → Ended names q vs m → Answers names y (v ∷ vs) m) → end_step x w ≡ Some next → Ended names next ws m → Answers names x (w ∷ ws) m
answers_by names x m next w ws others steps e =
    let answer : Option Start = Some (pushed x place.Answer) in
    elim (chosen (bytes_eq w (codes ";")) answer (cond (bytes_eq w (codes ")")) (Some (pushed x place.Ended)) None) (Some next) steps) [
      | inl h ↦
          let r = reply_read names (pushed x place.Ended) m ws (to names (pushed x place.Answer) next m ws (same_Some (pushed x place.Answer) next h.1) e) in
          one_more names x m w ws (bytes_same w (codes ";") h.0) r (others r.then_ r.next r.word r.rest r.short r.steps r.ended)
      | inr h ↦
          let g = if_some (bytes_eq w (codes ")")) (pushed x place.Ended) next h.1 in
          last_one names x m w ws (bytes_same w (codes ")") g.0) (nothing_more names (pushed x place.Ended) m ws refl (to names (pushed x place.Ended) next m ws g.1 e))
    ]

more_answers : (n : ℕ) (names : Names) (x m next : Start) (w : List ℕ) (ws : Words) → length ws ≤ n → end_step x w ≡ Some next → Ended names next ws m → Answers names x (w ∷ ws) m
more_answers zero names x m next w ws le steps e = answers_by names x m next w ws (λ y q v vs lt s h. absurd (omega (arith, lt, le))) steps e
more_answers (suc n) names x m next w ws le steps e = answers_by names x m next w ws (λ y q v vs lt s h. more_answers n names y m q v vs (omega (arith, lt, le)) s h) steps e

-- ---- all answers

pub record AllAnswers (names : Names) (s : Start) (rest : Words) (m : Start) : Type 0 where
  pub rs : List Reply
  pub spells : SpellsAnswers names rest rs
  pub lacks : m.lacks ≡ (put_replies s rs).lacks
  pub inputs : m.inputs ≡ (put_replies s rs).inputs
  pub answers : m.answers ≡ (put_replies s rs).answers

-- behind answers (
pub record Listed (names : Names) (s : Start) (ws : Words) (m : Start) : Type 0 where
  pub rs : List Reply
  pub spells : SpellsAnswers names (codes "answers" ∷ codes "(" ∷ ws) rs
  pub lacks : m.lacks ≡ (put_replies s rs).lacks
  pub inputs : m.inputs ≡ (put_replies s rs).inputs
  pub answers : m.answers ≡ (put_replies s rs).answers

none_listed : (names : Names) (s m : Start) (w : List ℕ) (ws : Words) → w ≡ codes ")" → IsLast (go s place.Ended) ws m → Listed names s (w ∷ ws) m
none_listed names s m w ws key l =
    let front : w ∷ ws ≡ codes ")" ∷ [] = ap (λ (k : List ℕ). k ∷ ws) key ∙ ap (λ (y : Words). codes ")" ∷ y) l.none in
    record {
      rs = [];
      spells = subst (λ (y : Words). SpellsAnswers names (codes "answers" ∷ codes "(" ∷ y) []) (sym front) none_answered;
      lacks = ap (λ (y : Start). y.lacks) l.same;
      inputs = ap (λ (y : Start). y.inputs) l.same;
      answers = ap (λ (y : Start). y.answers) l.same;
    }

some_listed : (names : Names) (s m : Start) (ws : Words) → Ended names (go s place.Answer) ws m → Listed names s ws m
some_listed names s m ws e =
    let r = reply_read names s m ws e in
    let a = more_answers (length r.rest) names r.then_ m r.next r.word r.rest (omega arith) r.steps r.ended in
    let same : m ≡ put_replies s (record { gives = r.g; stores = r.ss } ∷ a.rs) = a.same ∙ ap (λ (y : Start). put_replies y a.rs) r.same in
    record {
      rs = record { gives = r.g; stores = r.ss } ∷ a.rs;
      spells = first_answer r.spells_give r.spells_stores a.spells;
      lacks = ap (λ (y : Start). y.lacks) same;
      inputs = ap (λ (y : Start). y.inputs) same;
      answers = ap (λ (y : Start). y.answers) same;
    }

listed : (names : Names) (s m : Start) (ws : Words) → Ended names (go s place.FirstAnswer) ws m → Listed names s ws m
listed names s m [] e = no_end names (go s place.FirstAnswer) m place.FirstAnswer refl refl e
listed names s m (w ∷ ws) e =
    let n = one_on names (go s place.FirstAnswer) m place.FirstAnswer w ws refl e in
    elim (chosen (bytes_eq w (codes ")")) (Some (go s place.Ended)) (answer_step names (go s place.FirstAnswer) w) (Some n.next) n.steps) [
      | inl h ↦ none_listed names s m w ws (bytes_same w (codes ")") h.0) (nothing_more names (go s place.Ended) m ws refl (to names (go s place.Ended) n.next m ws (same_Some (go s place.Ended) n.next h.1) n.ended))
      | inr h ↦ some_listed names s m (w ∷ ws) (record { runs = sym (first_other names s w ws h.0) ∙ e.runs; done_ = e.done_ })
    ]

opened : (names : Names) (s m : Start) (ws : Words) → Ended names (go s place.Answers) ws m → (us : Words) × (ws ≡ codes "(" ∷ us) × Ended names (go s place.FirstAnswer) us m
opened names s m [] e = no_end names (go s place.Answers) m place.Answers refl refl e
opened names s m (w ∷ ws) e =
    let n = one_on names (go s place.Answers) m place.Answers w ws refl e in
    let x = expected names (go s place.Answers) m (codes "(") w ws place.FirstAnswer n.next n.steps n.ended in
    (ws, ap (λ (k : List ℕ). k ∷ ws) x.is, x.ended)

all_answers : (names : Names) (s m : Start) (rest : Words) → s.place ≡ place.Closed → Ended names s rest m → AllAnswers names s rest m
unfolding run
all_answers names s m [] at e =
    let same : m ≡ s = sym (same_Some s m e.runs) in
    record { rs = []; spells = no_answers; lacks = ap (λ (y : Start). y.lacks) same; inputs = ap (λ (y : Start). y.inputs) same; answers = ap (λ (y : Start). y.answers) same }
all_answers names s m (w ∷ ws) at e =
    let n = one_on names s m place.Closed w ws at e in
    let x = expected names s m (codes "answers") w ws place.Answers n.next n.steps n.ended in
    let o = opened names s m ws x.ended in
    let l = listed names s m o.0 o.2 in
    let front : w ∷ ws ≡ codes "answers" ∷ codes "(" ∷ o.0 = ap (λ (k : List ℕ). k ∷ ws) x.is ∙ ap (λ (y : Words). codes "answers" ∷ y) o.1 in
    record { rs = l.rs; spells = subst (λ (y : Words). SpellsAnswers names y l.rs) (sym front) l.spells; lacks = l.lacks; inputs = l.inputs; answers = l.answers }

-- ---- the start

pub record IsSpelled (names : Names) (ws : Words) (m : Start) : Type 0 where
  pub os : List (Option Value)
  pub rest : Words
  pub rs : List Reply
  pub spells_inputs : SpellsInputs names ws os rest
  pub spells_answers : SpellsAnswers names rest rs
  pub says : Tells m os rs

start_spelled : (names : Names) (ws : Words) (m : Start) → start_at names ws ≡ Some m → IsSpelled names ws m
unfolding start_at
start_spelled names ws m e =
    let a = bind_some (run names begin ws) done m e in
    let g = if_some (is_done a.0.place) a.0 m a.2 in
    let is : Ended names begin ws m = record { runs = a.1 ∙ ap (λ (x : Start). Some x) g.1; done_ = ap (λ (x : Start). is_done x.place) (sym g.1) ∙ g.0 } in
    let i = all_inputs names begin m ws refl is in
    let s : Start = go (put_inputs begin i.os) place.Closed in
    let r = all_answers names s m i.rest refl i.ended in
    record { os = i.os; rest = i.rest; rs = r.rs; spells_inputs = i.spells; spells_answers = r.spells; says = tells m i.os r.rs s refl r.lacks r.inputs r.answers }

-- ---- lines

key_takes : (key : List ℕ) (ws rest : Words) → key_at key ws ≡ Some rest → ws ≡ key ∷ rest
unfolding key_at
key_takes key [] rest e = absurd cc
key_takes key (w ∷ ws) rest e =
    let g = if_some (bytes_eq w key) ws rest e in
    let same : w ≡ key = bytes_same w key g.0 in
    rw (same, g.1) refl

number_takes : (limit n : ℕ) (ws : Words) → number_at limit ws ≡ Some n → (w : List ℕ) × (ws ≡ w ∷ []) × (decimal_of limit w ≡ Some n)
unfolding number_at
number_takes limit n [] e = absurd cc
number_takes limit n (w ∷ ws) e =
    let a = bind_some (decimal_of limit w) (λ m. ended m ws) n e in
    let b = ended_takes a.0 n ws a.2 in
    (w, ap (λ (x : Words). w ∷ x) b.0, a.1 ∙ ap (λ (x : ℕ). Some x) b.1)

abbrev Takes : Names → List ℕ → Words → Form → Type 0
Takes names key ws f = SpellsLine names (key ∷ ws) f

step_takes : (names : Names) (ws : Words) (f : Form) → step_at ws ≡ Some f → Takes names (codes "step") ws f
unfolding step_at
step_takes names ws f e =
    let a = bind_some (name_at ws) (λ name. number_at (10 ^ 7) name.1 >>= λ k. Some (form.Step name.0 k)) f e in
    let b = bind_some (number_at (10 ^ 7) a.0.1) (λ k. Some (form.Step a.0.0 k)) f a.2 in
    let n = name_takes ws a.0 a.1 in
    let w = number_takes (10 ^ 7) b.0 a.0.1 b.1 in
    let parts : codes "step" ∷ ws ≡ codes "step" ∷ a.0.0 ∷ w.0 ∷ [] = ap (λ (x : Words). codes "step" ∷ x) (n.0 ∙ ap (λ (x : Words). a.0.0 ∷ x) w.1) in
    subst (Takes names (codes "step") ws) (same_Some (form.Step a.0.0 b.0) f b.2) (w.0, parts, n.1, w.2)

run_takes : (names : Names) (ws : Words) (f : Form) → run_at ws ≡ Some f → Takes names (codes "run") ws f
unfolding run_at
run_takes names ws f e =
    let a = bind_some (name_at ws) (λ name. number_at (10 ^ 6) name.1 >>= λ k. Some (form.Run name.0 k)) f e in
    let b = bind_some (number_at (10 ^ 6) a.0.1) (λ k. Some (form.Run a.0.0 k)) f a.2 in
    let n = name_takes ws a.0 a.1 in
    let w = number_takes (10 ^ 6) b.0 a.0.1 b.1 in
    let parts : codes "run" ∷ ws ≡ codes "run" ∷ a.0.0 ∷ w.0 ∷ [] = ap (λ (x : Words). codes "run" ∷ x) (n.0 ∙ ap (λ (x : Words). a.0.0 ∷ x) w.1) in
    subst (Takes names (codes "run") ws) (same_Some (form.Run a.0.0 b.0) f b.2) (w.0, parts, n.1, w.2)

attach_takes : (names : Names) (ws : Words) (f : Form) → attach_at ws ≡ Some f → Takes names (codes "attach") ws f
unfolding attach_at
attach_takes names ws f e =
    let a = bind_some (name_at ws) (λ name. ended (form.Attach name.0) name.1) f e in
    let n = name_takes ws a.0 a.1 in
    let b = ended_takes (form.Attach a.0.0) f a.0.1 a.2 in
    let parts : codes "attach" ∷ ws ≡ codes "attach" ∷ a.0.0 ∷ [] = ap (λ (x : Words). codes "attach" ∷ x) (n.0 ∙ ap (λ (x : Words). a.0.0 ∷ x) b.0) in
    subst (Takes names (codes "attach") ws) b.1 (parts, n.1)

made : List ℕ → List ℕ → Start → Form
made name of s = form.Start (record { name = name; of = of; lacks = s.lacks; inputs = s.inputs; answers = s.answers })

start_made : (names : Names) (ws inner : Words) (name of : List ℕ) (m : Start) → codes "start" ∷ ws ≡ codes "start" ∷ name ∷ of ∷ codes "(" ∷ inner → is_name name ≡ true → is_name of ≡ true → IsSpelled names inner m → Takes names (codes "start") ws (made name of m)
unfolding made
start_made names ws inner name of m parts n o i = record { inner = inner; rest = i.rest; inputs = i.os; answers = i.rs; parts = parts; named = n; of_named = o; spells_inputs = i.spells_inputs; spells_answers = i.spells_answers; says = record { lacks = i.says.lacks; inputs = i.says.inputs; answers = i.says.answers } }

start_takes : (names : Names) (ws : Words) (f : Form) → start_line_at names ws ≡ Some f → Takes names (codes "start") ws f
unfolding start_line_at made
start_takes names ws f e =
    let a = bind_some (name_at ws) (λ name. name_at name.1 >>= λ of. key_at (codes "(") of.1 >>= λ rest. start_at names rest >>= λ s. Some (made name.0 of.0 s)) f e in
    let b = bind_some (name_at a.0.1) (λ of. key_at (codes "(") of.1 >>= λ rest. start_at names rest >>= λ s. Some (made a.0.0 of.0 s)) f a.2 in
    let d = bind_some (key_at (codes "(") b.0.1) (λ rest. start_at names rest >>= λ s. Some (made a.0.0 b.0.0 s)) f b.2 in
    let g = bind_some (start_at names d.0) (λ s. Some (made a.0.0 b.0.0 s)) f d.2 in
    let n = name_takes ws a.0 a.1 in
    let o = name_takes a.0.1 b.0 b.1 in
    let k = key_takes (codes "(") b.0.1 d.0 d.1 in
    let parts : codes "start" ∷ ws ≡ codes "start" ∷ a.0.0 ∷ b.0.0 ∷ codes "(" ∷ d.0 = ap (λ (x : Words). codes "start" ∷ x) (n.0 ∙ ap (λ (x : Words). a.0.0 ∷ x) (o.0 ∙ ap (λ (x : Words). b.0.0 ∷ x) k)) in
    subst (Takes names (codes "start") ws) (same_Some (made a.0.0 b.0.0 g.0) f g.2) (start_made names ws d.0 a.0.0 b.0.0 g.0 parts n.1 o.1 (start_spelled names d.0 g.0 g.1))

abbrev Reads : Names → List ℕ → Words → Option Form → Type 0
Reads names k ws o = (f : Form) → o ≡ Some f → Takes names k ws f

keyed : (names : Names) (k key : List ℕ) (ws : Words) (x y : Option Form) → Reads names key ws x → Reads names k ws y → Reads names k ws (cond (bytes_eq k key) x y)
keyed names k key ws x y h i f e =
    elim (chosen (bytes_eq k key) x y (Some f) e) [
      | inl c ↦ subst (λ (w : List ℕ). Takes names w ws f) (sym (bytes_same k key c.0)) (h f c.1)
      | inr c ↦ i f c.1
    ]

no_form : (names : Names) (k : List ℕ) (ws : Words) → Reads names k ws None
no_form names k ws f e = absurd (none_some e)

pub line_takes : (names : Names) (ws : Words) (f : Form) → form_at names ws ≡ Some f → SpellsLine names ws f
unfolding form_at
line_takes names [] f e = absurd (none_some e)
line_takes names (k ∷ ws) f e =
    let r1 : Option Form = cond (bytes_eq k (codes "attach")) (attach_at ws) None in
    let r2 : Option Form = cond (bytes_eq k (codes "run")) (run_at ws) r1 in
    let r3 : Option Form = cond (bytes_eq k (codes "step")) (step_at ws) r2 in
    let h1 : Reads names k ws r1 = keyed names k (codes "attach") ws (attach_at ws) None (attach_takes names ws) (no_form names k ws) in
    let h2 : Reads names k ws r2 = keyed names k (codes "run") ws (run_at ws) r1 (run_takes names ws) h1 in
    let h3 : Reads names k ws r3 = keyed names k (codes "step") ws (step_at ws) r2 (step_takes names ws) h2 in
    keyed names k (codes "start") ws (start_line_at names ws) r3 (start_takes names ws) h3 f e
