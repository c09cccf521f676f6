-- How each line is spelled.
use Rattle.std.specs.Prelude.{◌≡◌, ℕ, ◌^◌, Bool, true, false, ◌||◌, is_none, Option, Some, List, [], ◌∷◌, map, codes}
use Rattle.std.specs.List.{list_any}
use Rattle.std.specs.Str.{bytes_eq}
use Rattle.text_lines.specs.Words.{is_name}
use Rattle.text_lines.specs.Numbers.{decimal_of}
use Rattle.trace_meaning.specs.declared.value.Value.{Value}
use Rattle.trace_meaning.specs.declared.call.Give.{Give}
use Rattle.trace_meaning.specs.declared.call.Give.TheVariants as give
use Rattle.trace_meaning.specs.declared.call.AnswerStore.{AnswerStore}
use Rattle.trace_meaning.specs.declared.call.Answer.{Answer}
use Rattle.session_text.specs.declared.form.Activation.{Activation}
use Rattle.session_text.specs.declared.form.Form.{Form}
use Rattle.session_text.specs.declared.form.Form.TheVariants as form
use Rattle.session_text.specs.Names.{Names, look}
use Rattle.session_text.specs.Words.{object_of, value_of, give_if, given_of, target_of}
use Rattle.session_text.specs.Start.{size_found}

-- ---- what words stand for; a name of nothing stands for None

pub record Stored : Type 0 where
  pub arg : ℕ
  pub field : Option ℕ
  pub value : Option Give

pub record Reply : Type 0 where
  pub gives : Option Give
  pub stores : List Stored

-- values behind one, and the bracket behind the last, up to the words behind it
pub data MoreInputs (names : Names) : List (List ℕ) → List (Option Value) → List (List ℕ) → Type 0 where
  inputs_end : {rest : List (List ℕ)} → MoreInputs names (codes ")" ∷ rest) [] rest
  one_input : {w : List ℕ} {o : Option Value} {ws rest : List (List ℕ)} {os : List (Option Value)} → value_of names w ≡ Some o → MoreInputs names ws os rest → MoreInputs names (codes "," ∷ w ∷ ws) (o ∷ os) rest

-- values behind the opening bracket
pub data SpellsInputs (names : Names) : List (List ℕ) → List (Option Value) → List (List ℕ) → Type 0 where
  no_inputs : {rest : List (List ℕ)} → SpellsInputs names (codes ")" ∷ rest) [] rest
  first_input : {w : List ℕ} {o : Option Value} {ws rest : List (List ℕ)} {os : List (Option Value)} → value_of names w ≡ Some o → MoreInputs names ws os rest → SpellsInputs names (w ∷ ws) (o ∷ os) rest

-- what an answer gives: none, #k or a value, new SIZE, or a prebuilt object whose name is new
pub data SpellsGive (names : Names) : List (List ℕ) → Option Give → List (List ℕ) → Type 0 where
  gives_nothing : {rest : List (List ℕ)} → SpellsGive names (codes "none" ∷ rest) (Some give.Nothing) rest
  gives_value : {w : List ℕ} {o : Option Give} {rest : List (List ℕ)} → bytes_eq w (codes "none") ≡ false → bytes_eq w (codes "new") ≡ false → given_of names w ≡ Some o → SpellsGive names (w ∷ rest) o rest
  gives_new : {n : List ℕ} {rest : List (List ℕ)} → is_name n ≡ true → SpellsGive names (codes "new" ∷ n ∷ rest) (size_found (look n names.sizes)) rest
  gives_named_new : {w : List ℕ} {rest : List (List ℕ)} → is_name w ≡ false → SpellsGive names (codes "new" ∷ w ∷ rest) (give_if (object_of (look (codes "new") names.prebuilts))) (w ∷ rest)

-- stores behind one, and the brace behind the last
pub data MoreStores (names : Names) : List (List ℕ) → List Stored → List (List ℕ) → Type 0 where
  stores_end : {rest : List (List ℕ)} → MoreStores names (codes "}" ∷ rest) [] rest
  one_store : {w v : List ℕ} {t : ℕ × Option ℕ} {o : Option Give} {ws rest : List (List ℕ)} {ss : List Stored} → target_of names w ≡ Some t → given_of names v ≡ Some o → MoreStores names ws ss rest → MoreStores names (codes "," ∷ w ∷ codes "=" ∷ v ∷ ws) (record { arg = t.0; field = t.1; value = o } ∷ ss) rest

-- nothing, or at least one store in braces
pub data SpellsStores (names : Names) : List (List ℕ) → List Stored → List (List ℕ) → Type 0 where
  no_stores : {rest : List (List ℕ)} → SpellsStores names rest [] rest
  first_store : {w v : List ℕ} {t : ℕ × Option ℕ} {o : Option Give} {ws rest : List (List ℕ)} {ss : List Stored} → target_of names w ≡ Some t → given_of names v ≡ Some o → MoreStores names ws ss rest → SpellsStores names (codes "{" ∷ w ∷ codes "=" ∷ v ∷ ws) (record { arg = t.0; field = t.1; value = o } ∷ ss) rest

-- answers behind one, the bracket behind the last, and the end of the line
pub data MoreAnswers (names : Names) : List (List ℕ) → List Reply → Type 0 where
  answers_end : MoreAnswers names (codes ")" ∷ []) []
  one_answer : {ws us vs : List (List ℕ)} {g : Option Give} {ss : List Stored} {rs : List Reply} → SpellsGive names ws g us → SpellsStores names us ss vs → MoreAnswers names vs rs → MoreAnswers names (codes ";" ∷ ws) (record { gives = g; stores = ss } ∷ rs)

-- nothing, or answers ( and the answers
pub data SpellsAnswers (names : Names) : List (List ℕ) → List Reply → Type 0 where
  no_answers : SpellsAnswers names [] []
  none_answered : SpellsAnswers names (codes "answers" ∷ codes "(" ∷ codes ")" ∷ []) []
  first_answer : {ws us vs : List (List ℕ)} {g : Option Give} {ss : List Stored} {rs : List Reply} → SpellsGive names ws g us → SpellsStores names us ss vs → MoreAnswers names vs rs → SpellsAnswers names (codes "answers" ∷ codes "(" ∷ ws) (record { gives = g; stores = ss } ∷ rs)

-- ---- what a start says

abbrev pub stored : AnswerStore → Stored
stored s = record { arg = s.arg; field = Some s.field; value = Some s.value }

abbrev pub reply : Answer → Reply
reply a = record { gives = Some a.gives; stores = map stored a.stores }

abbrev pub store_lacks : Stored → Bool
store_lacks s = is_none s.field || is_none s.value

abbrev pub reply_lacks : Reply → Bool
reply_lacks r = is_none r.gives || list_any store_lacks r.stores

-- a name stands for nothing
abbrev pub lacks_any : List (Option Value) → List Reply → Bool
lacks_any os rs = list_any is_none os || list_any reply_lacks rs

-- the inputs and answers where each name stands for something
pub record Says (a : Activation) (os : List (Option Value)) (rs : List Reply) : Type 0 where
  pub lacks : a.lacks ≡ lacks_any os rs
  pub inputs : a.lacks ≡ false → map Some a.inputs ≡ os
  pub answers : a.lacks ≡ false → map reply a.answers ≡ rs

pub record SpellsStart (names : Names) (ws : List (List ℕ)) (a : Activation) : Type 0 where
  pub inner : List (List ℕ)
  pub rest : List (List ℕ)
  pub inputs : List (Option Value)
  pub answers : List Reply
  pub parts : ws ≡ codes "start" ∷ a.name ∷ a.of ∷ codes "(" ∷ inner
  pub named : is_name a.name ≡ true
  pub of_named : is_name a.of ≡ true
  pub spells_inputs : SpellsInputs names inner inputs rest
  pub spells_answers : SpellsAnswers names rest answers
  pub says : Says a inputs answers

-- a line that says this form
abbrev pub SpellsLine : Names → List (List ℕ) → Form → Type 0
SpellsLine names ws (form.Start a) = SpellsStart names ws a
SpellsLine names ws (form.Step name count) = (w : List ℕ) × (ws ≡ codes "step" ∷ name ∷ w ∷ []) × (is_name name ≡ true) × (decimal_of (10 ^ 7) w ≡ Some count)
SpellsLine names ws (form.Run name n) = (w : List ℕ) × (ws ≡ codes "run" ∷ name ∷ w ∷ []) × (is_name name ≡ true) × (decimal_of (10 ^ 6) w ≡ Some n)
SpellsLine names ws (form.Attach name) = (ws ≡ codes "attach" ∷ name ∷ []) × (is_name name ≡ true)

-- the same form, but for the inputs and answers of a start that names what isn't there
abbrev pub IsSame : Form → Form → Type 0
IsSame (form.Start a) (form.Start b) = (a.name ≡ b.name) × (a.of ≡ b.of) × (a.lacks ≡ b.lacks) × (a.lacks ≡ false → (a.inputs ≡ b.inputs) × (a.answers ≡ b.answers))
IsSame (form.Start a) g = ⊥
IsSame (form.Step name count) g = form.Step name count ≡ g
IsSame (form.Run name n) g = form.Run name n ≡ g
IsSame (form.Attach name) g = form.Attach name ≡ g
