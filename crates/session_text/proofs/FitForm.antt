-- The names of a form that is read are names, its numbers within their limits, its inputs known.
use Rattle.std.proofs.Common.{◌≡◌, ℕ, ◌≤◌, ◌^◌, Bool, true, false, cond, leb, List, [], ◌∷◌, Option, Some, None, refl, ap, subst, arith}
use Rattle.std.specs.Prelude.{◌&&◌, codes}
use Rattle.std.specs.Str.{bytes_eq}
use Rattle.std.specs.List.{list_all}
use Rattle.std.proofs.lemmas.Bool.{leb-true}
use Rattle.text_lines.specs.Words.{is_name, is_digit, is_plain, words}
use Rattle.text_lines.specs.Numbers.{value_behind, decimal_behind, decimal_of}
use Rattle.lists.specs.Binds.{◌>>=◌}
use Rattle.lists.proofs.Options.{bind_some}
use Rattle.std.proofs.lemmas.Option.{same_Some}
use Rattle.text_lines.specs.Reading.{word_at, name_at, key_at, ended, is_skipped, said}
use Rattle.trace_ops.specs.declared.trace.TraceSet.{TraceSet}
use Rattle.session_text.specs.declared.form.Form.{Form}
use Rattle.session_text.specs.declared.form.Form.TheVariants as form
use Rattle.session_text.specs.declared.start.Start.{Start}
use Rattle.session_text.specs.Names.{names_of}
use Rattle.session_text.specs.Start.{start_at}
use Rattle.session_text.specs.Form.{number_at, start_line_at, step_at, run_at, attach_at, form_at}
use Rattle.session_text.proofs.Binds.{name_takes, ended_takes}
use Rattle.session_text.proofs.FitStart.{AreKnown, start_known}
use Rattle.text_lines.specs.Laws.{LinesAreSpelled}

abbrev pub FormFits : TraceSet → Form → Type 0
FormFits set (form.Start a) = (is_name a.name ≡ true) × AreKnown set a.inputs
FormFits set (form.Step name count) = count ≤ 10 ^ 7
FormFits set (form.Run name n) = n ≤ 10 ^ 6
FormFits set (form.Attach name) = Unit {0}

-- ---- numbers

number_limit : (spelled : LinesAreSpelled) (limit : ℕ) (ws : List (List ℕ)) (n : ℕ) → number_at limit ws ≡ Some n → n ≤ limit
unfolding number_at
number_limit spelled limit ws n e =
    let a = bind_some (word_at ws) (λ w. decimal_of limit w.0 >>= λ m. ended m w.1) n e in
    let b = bind_some (decimal_of limit a.0.0) (λ m. ended m a.0.1) n a.2 in
    let same : b.0 ≡ n = (ended_takes b.0 n a.0.1 b.2).1 in
    subst (λ (m : ℕ). m ≤ limit) same (spelled.spelling.decimal_limit limit a.0.0 b.0 b.1)

-- ---- forms

begun_fits : (set : TraceSet) (name of : List ℕ) (s : Start) (f : Form) → is_name name ≡ true → AreKnown set s.inputs → Some (form.Start (record { name = name; of = of; lacks = s.lacks; inputs = s.inputs; answers = s.answers })) ≡ Some f → FormFits set f
begun_fits set name of s f h k e = subst (FormFits set) (same_Some (form.Start (record { name = name; of = of; lacks = s.lacks; inputs = s.inputs; answers = s.answers })) f e) (h, k)

start_fits : (spelled : LinesAreSpelled) (set : TraceSet) (ws : List (List ℕ)) (f : Form) → start_line_at (names_of set) ws ≡ Some f → FormFits set f
unfolding start_line_at
start_fits spelled set ws f e =
    let made : List ℕ → List ℕ → Start → Option Form = λ name of s. Some (form.Start (record { name = name; of = of; lacks = s.lacks; inputs = s.inputs; answers = s.answers })) in
    let a = bind_some (name_at ws) (λ name. name_at name.1 >>= λ of. key_at (codes "(") of.1 >>= λ rest. start_at (names_of set) rest >>= λ s. made name.0 of.0 s) f e in
    let b = bind_some (name_at a.0.1) (λ of. key_at (codes "(") of.1 >>= λ rest. start_at (names_of set) rest >>= λ s. made a.0.0 of.0 s) f a.2 in
    let d = bind_some (key_at (codes "(") b.0.1) (λ rest. start_at (names_of set) rest >>= λ s. made a.0.0 b.0.0 s) f b.2 in
    let g = bind_some (start_at (names_of set) d.0) (λ s. made a.0.0 b.0.0 s) f d.2 in
    begun_fits set a.0.0 b.0.0 g.0 f ((name_takes ws a.0 a.1).1) (start_known spelled set d.0 g.0 g.1) g.2

step_fits : (spelled : LinesAreSpelled) (set : TraceSet) (ws : List (List ℕ)) (f : Form) → step_at ws ≡ Some f → FormFits set f
unfolding step_at
step_fits spelled set ws f e =
    let a = bind_some (name_at ws) (λ name. number_at (10 ^ 7) name.1 >>= λ n. Some (form.Step name.0 n)) f e in
    let b = bind_some (number_at (10 ^ 7) a.0.1) (λ n. Some (form.Step a.0.0 n)) f a.2 in
    subst (FormFits set) (same_Some (form.Step a.0.0 b.0) f b.2) (number_limit spelled (10 ^ 7) a.0.1 b.0 b.1)

run_fits : (spelled : LinesAreSpelled) (set : TraceSet) (ws : List (List ℕ)) (f : Form) → run_at ws ≡ Some f → FormFits set f
unfolding run_at
run_fits spelled set ws f e =
    let a = bind_some (name_at ws) (λ name. number_at (10 ^ 6) name.1 >>= λ n. Some (form.Run name.0 n)) f e in
    let b = bind_some (number_at (10 ^ 6) a.0.1) (λ n. Some (form.Run a.0.0 n)) f a.2 in
    subst (FormFits set) (same_Some (form.Run a.0.0 b.0) f b.2) (number_limit spelled (10 ^ 6) a.0.1 b.0 b.1)

attach_fits : (set : TraceSet) (ws : List (List ℕ)) (f : Form) → attach_at ws ≡ Some f → FormFits set f
unfolding attach_at
attach_fits set ws f e =
    let a = bind_some (name_at ws) (λ name. ended (form.Attach name.0) name.1) f e in
    subst (FormFits set) (ended_takes (form.Attach a.0.0) f a.0.1 a.2).1 tt

abbrev FitsIf : TraceSet → Option Form → Type 0
FitsIf set o = (f : Form) → o ≡ Some f → FormFits set f

either : (set : TraceSet) (b : Bool) (x y : Option Form) → FitsIf set x → FitsIf set y → FitsIf set (cond b x y)
either set true x y f g = f
either set false x y f g = g

none_fits : (set : TraceSet) → FitsIf set None
none_fits set f e = absurd cc

pub form_fits : (spelled : LinesAreSpelled) (set : TraceSet) (ws : List (List ℕ)) (f : Form) → form_at (names_of set) ws ≡ Some f → FormFits set f
unfolding form_at
form_fits spelled set [] f e = absurd cc
form_fits spelled set (k ∷ ws) f e =
    let r1 : Option Form = cond (bytes_eq k (codes "attach")) (attach_at ws) None in
    let r2 : Option Form = cond (bytes_eq k (codes "run")) (run_at ws) r1 in
    let r3 : Option Form = cond (bytes_eq k (codes "step")) (step_at ws) r2 in
    let h1 : FitsIf set r1 = either set (bytes_eq k (codes "attach")) (attach_at ws) None (attach_fits set ws) (none_fits set) in
    let h2 : FitsIf set r2 = either set (bytes_eq k (codes "run")) (run_at ws) r1 (run_fits spelled set ws) h1 in
    let h3 : FitsIf set r3 = either set (bytes_eq k (codes "step")) (step_at ws) r2 (step_fits spelled set ws) h2 in
    either set (bytes_eq k (codes "start")) (start_line_at (names_of set) ws) r3 (start_fits spelled set ws) h3 f e

-- ---- lines

said_by : (set : TraceSet) (o : Option Form) (f : Form) → FitsIf set o → (o >>= λ x. Some (Some x)) ≡ Some (Some f) → FormFits set f
said_by set None f h e = absurd cc
said_by set (Some x) f h e = let same : x ≡ f = cc in h f (ap Some same)

said_cases : (set : TraceSet) (b d : Bool) (o : Option Form) (f : Form) → FitsIf set o → cond b (cond d (Some None) (o >>= λ x. Some (Some x))) None ≡ Some (Some f) → FormFits set f
said_cases set true true o f h e = absurd cc
said_cases set true false o f h e = said_by set o f h e
said_cases set false d o f h e = absurd cc

pub said_fits : (spelled : LinesAreSpelled) (set : TraceSet) (line : List ℕ) (f : Form) → said (form_at (names_of set)) line ≡ Some (Some f) → FormFits set f
unfolding said
said_fits spelled set line f e = said_cases set (is_plain line) (is_skipped (words line)) (form_at (names_of set) (words line)) f (form_fits spelled set (words line)) e
