-- What is spelled so is read.
use Rattle.std.proofs.Common.{◌≡◌, ℕ, Bool, true, false, cond, List, [], ◌∷◌, ◌++◌, map, Option, Some, None, refl, sym, ap, ◌∙◌, inl, inr, ◌⊎◌}
use Rattle.std.specs.Prelude.{◌||◌, is_none, codes}
use Rattle.std.specs.List.{list_any}
use Rattle.std.specs.Str.{bytes_eq}
use Rattle.text_lines.specs.Words.{is_letter, is_name}
use Rattle.text_lines.specs.Numbers.{decimal_behind, decimal_of, integer_of}
use Rattle.lists.specs.Binds.{◌>>=◌}
use Rattle.lists.proofs.Options.{none_some}
use Rattle.lists.proofs.Bools.{bytes_same}
use Rattle.std.proofs.lemmas.Bool.{or_parts}
use Rattle.trace_meaning.specs.declared.value.Value.{Value}
use Rattle.trace_meaning.specs.declared.call.Answer.{Answer}
use Rattle.trace_meaning.specs.declared.call.Give.{Give}
use Rattle.trace_meaning.specs.declared.call.Give.TheVariants as give
use Rattle.session_text.specs.declared.start.Place.{Place}
use Rattle.session_text.specs.declared.start.Place.TheVariants as place
use Rattle.session_text.specs.declared.start.Start.{Start}
use Rattle.session_text.specs.Names.{Names, look}
use Rattle.session_text.specs.Words.{object_of, value_of, arg_of, give_if, given_or, given_of}
use Rattle.session_text.specs.Start.{begin, go, input_found, input_by, first_step, gives, gives_found, answer_step, pushed, size_found, targeted, store_by, store_found, stored_by, step_at, run, is_done, done, start_at}
use Rattle.session_text.specs.Spelling.{Stored, Reply, reply, reply_lacks, lacks_any, MoreInputs, inputs_end, one_input, SpellsInputs, no_inputs, first_input, SpellsGive, gives_nothing, gives_value, gives_new, gives_named_new, MoreStores, stores_end, one_store, SpellsStores, no_stores, first_store, MoreAnswers, answers_end, one_answer, SpellsAnswers, no_answers, none_answered, first_answer}
use Rattle.session_text.proofs.Steps.{run_step}
use Rattle.session_text.proofs.Put.{put_inputs, put_inputs-lacks, put_inputs-inputs, put_inputs-answers, put_inputs-stores, put_stores, replied, put_replies, put_replies-lacks, put_replies-inputs, put_replies-answers}

abbrev Words : Type 0
Words = List (List ℕ)

-- a step from a place
pub move : (names : Names) (s m : Start) (p : Place) (w : List ℕ) (ws : Words) → s.place ≡ p → step_at names p s w ≡ Some m → run names s (w ∷ ws) ≡ run names m ws
move names s m p w ws at e = run_step names s m w ws (ap (λ q. step_at names q s w) at ∙ e)

pub found_place : (s : Start) (o : Option Value) → (input_found s o).place ≡ place.Behind
found_place s None = refl
found_place s (Some v) = refl

pub found_past : (s : Start) (p : Place) (o : Option Value) → input_found (go s p) o ≡ input_found s o
found_past s p None = refl
found_past s p (Some v) = refl

pub store_place : (s : Start) (o : Option Give) → (store_found s o).place ≡ place.StoreEnd
store_place s None = refl
store_place s (Some v) = refl

pub store_past : (s : Start) (p q : Place) (t : ℕ × Option ℕ) (o : Option Give) → store_found (go (targeted (go s p) t) q) o ≡ store_found (targeted s t) o
store_past s p q t None = refl
store_past s p q t (Some v) = refl

-- ---- no value is a closing bracket

value_closes : (names : Names) → value_of names (codes ")") ≡ None
unfolding value_of is_name is_letter integer_of decimal_of decimal_behind
value_closes names = refl

given_closes : (names : Names) → given_of names (codes ")") ≡ None
unfolding arg_of
given_closes names = ap (given_or None) (value_closes names)

apart_by : {X : Type 0} (b : Bool) (f : List ℕ → Option X) (w : List ℕ) (x : X) → bytes_eq w (codes ")") ≡ b → f (codes ")") ≡ None → f w ≡ Some x → b ≡ false
apart_by true f w x e none is =
    let same : w ≡ codes ")" = bytes_same w (codes ")") e in
    absurd (none_some (sym none ∙ ap f (sym same) ∙ is))
apart_by false f w x e none is = refl

pub value_apart : (names : Names) (w : List ℕ) (o : Option Value) → value_of names w ≡ Some o → bytes_eq w (codes ")") ≡ false
value_apart names w o e = apart_by (bytes_eq w (codes ")")) (value_of names) w o refl (value_closes names) e

pub given_apart : (names : Names) (w : List ℕ) (o : Option Give) → given_of names w ≡ Some o → bytes_eq w (codes ")") ≡ false
given_apart names w o e = apart_by (bytes_eq w (codes ")")) (given_of names) w o refl (given_closes names) e

-- ---- inputs

more_inputs : (names : Names) (ws rest : Words) (os : List (Option Value)) (s : Start) → s.place ≡ place.Behind → MoreInputs names ws os rest → run names s ws ≡ run names (go (put_inputs s os) place.Closed) rest
more_inputs names _ _ _ s at (inputs_end {rest}) = move names s (go s place.Closed) place.Behind (codes ")") rest at refl
more_inputs names _ _ _ s at (one_input {w} {o} {ws} {rest} {os} e more) =
    move names s (go s place.Input) place.Behind (codes ",") (w ∷ ws) at refl
    ∙ move names (go s place.Input) (input_found (go s place.Input) o) place.Input w ws refl (ap (input_by (go s place.Input)) e)
    ∙ ap (λ (x : Start). run names x ws) (found_past s place.Input o)
    ∙ more_inputs names ws rest os (input_found s o) (found_place s o) more

first_found : (names : Names) (s : Start) (w : List ℕ) (o : Option Value) → value_of names w ≡ Some o → first_step names s w ≡ Some (input_found s o)
first_found names s w o e = rw (value_apart names w o e) (ap (input_by s) e)

all_inputs : (names : Names) (ws rest : Words) (os : List (Option Value)) (s : Start) → s.place ≡ place.First → SpellsInputs names ws os rest → run names s ws ≡ run names (go (put_inputs s os) place.Closed) rest
all_inputs names _ _ _ s at (no_inputs {rest}) = move names s (go s place.Closed) place.First (codes ")") rest at refl
all_inputs names _ _ _ s at (first_input {w} {o} {ws} {rest} {os} e more) =
    move names s (input_found s o) place.First w ws at (first_found names s w o e)
    ∙ more_inputs names ws rest os (input_found s o) (found_place s o) more

-- ---- stores

more_stores : (names : Names) (ws rest : Words) (ss : List Stored) (s : Start) → s.place ≡ place.StoreEnd → MoreStores names ws ss rest → run names s ws ≡ run names (go (put_stores s ss) place.Braced) rest
more_stores names _ _ _ s at (stores_end {rest}) = move names s (go s place.Braced) place.StoreEnd (codes "}") rest at refl
more_stores names _ _ _ s at (one_store {w} {v} {t} {o} {ws} {rest} {ss} e f more) =
    let a : Start = go s place.Store in
    let b : Start = targeted a t in
    let d : Start = go b place.Stored in
    move names s a place.StoreEnd (codes ",") (w ∷ codes "=" ∷ v ∷ ws) at refl
    ∙ move names a b place.Store w (codes "=" ∷ v ∷ ws) refl (ap (store_by a) e)
    ∙ move names b d place.Equals (codes "=") (v ∷ ws) refl refl
    ∙ move names d (store_found d o) place.Stored v ws refl (ap (stored_by d) f)
    ∙ ap (λ (x : Start). run names x ws) (store_past s place.Store place.Stored t o)
    ∙ more_stores names ws rest ss (store_found (targeted s t) o) (store_place (targeted s t) o) more

-- an answer may end here
abbrev pub Closing : Start → Type 0
Closing s = (s.place ≡ place.Given) ⊎ (s.place ≡ place.Braced)

pub record Replies (names : Names) (s : Start) (ws vs : Words) (made : Start) : Type 0 where
  pub then_ : Start
  pub runs : run names s ws ≡ run names then_ vs
  pub closing : Closing then_
  pub same : pushed then_ place.Ended ≡ pushed made place.Ended

stores_read : (names : Names) (us vs : Words) (ss : List Stored) (s : Start) → s.place ≡ place.Given → SpellsStores names us ss vs → Replies names s us vs (put_stores s ss)
stores_read names _ _ _ s at (no_stores {rest}) = record { then_ = s; runs = refl; closing = inl at; same = refl }
stores_read names _ _ _ s at (first_store {w} {v} {t} {o} {ws} {rest} {ss} e f more) =
    let a : Start = go s place.Store in
    let b : Start = targeted a t in
    let d : Start = go b place.Stored in
    let x : Start = store_found (targeted s t) o in
    record {
      then_ = go (put_stores x ss) place.Braced;
      runs = move names s a place.Given (codes "{") (w ∷ codes "=" ∷ v ∷ ws) at refl
          ∙ move names a b place.Store w (codes "=" ∷ v ∷ ws) refl (ap (store_by a) e)
          ∙ move names b d place.Equals (codes "=") (v ∷ ws) refl refl
          ∙ move names d (store_found d o) place.Stored v ws refl (ap (stored_by d) f)
          ∙ ap (λ (y : Start). run names y ws) (store_past s place.Store place.Stored t o)
          ∙ more_stores names ws rest ss x (store_place (targeted s t) o) more;
      closing = inr refl;
      same = refl;
    }

-- ---- what an answer gives

gives_past : (s : Start) (p : Place) (o : Option (Option Give)) → gives (go s p) o ≡ gives s o
gives_past s p None = refl
gives_past s p (Some o) = refl

answer_value : (names : Names) (s : Start) (w : List ℕ) (o : Option Give) → bytes_eq w (codes "none") ≡ false → bytes_eq w (codes "new") ≡ false → given_of names w ≡ Some o → answer_step names s w ≡ Some (gives_found s o)
answer_value names s w o a b e = rw (a, b) (ap (gives s) e)

new_past : (names : Names) (s : Start) (w : List ℕ) (ws : Words) → is_name w ≡ false → run names (go s place.New) (w ∷ ws) ≡ run names (gives_found s (give_if (object_of (look (codes "new") names.prebuilts)))) (w ∷ ws)
unfolding run
new_past names s w ws e = rw e refl

new_size : (names : Names) (s : Start) (n : List ℕ) (ws : Words) → is_name n ≡ true → run names (go s place.New) (n ∷ ws) ≡ run names (gives_found s (size_found (look n names.sizes))) ws
new_size names s n ws e = move names (go s place.New) (gives_found s (size_found (look n names.sizes))) place.New n ws refl (rw e refl)

give_read : (names : Names) (ws us : Words) (g : Option Give) (s : Start) → SpellsGive names ws g us → run names (go s place.Answer) ws ≡ run names (gives_found s g) us
give_read names _ _ _ s (gives_nothing {rest}) = move names (go s place.Answer) (gives_found s (Some give.Nothing)) place.Answer (codes "none") rest refl refl
give_read names _ _ _ s (gives_value {w} {o} {rest} a b e) = move names (go s place.Answer) (gives_found s o) place.Answer w rest refl (answer_value names (go s place.Answer) w o a b e)
give_read names _ _ _ s (gives_new {n} {rest} e) = move names (go s place.Answer) (go s place.New) place.Answer (codes "new") (n ∷ rest) refl refl ∙ new_size names s n rest e
give_read names _ _ _ s (gives_named_new {w} {rest} e) = move names (go s place.Answer) (go s place.New) place.Answer (codes "new") (w ∷ rest) refl refl ∙ new_past names s w rest e

answer_past_by : (names : Names) (s : Start) (w : List ℕ) (b d : Bool) → cond b (Some (gives_found s (Some give.Nothing))) (cond d (Some (go s place.New)) (gives (go s place.FirstAnswer) (given_of names w))) ≡ cond b (Some (gives_found s (Some give.Nothing))) (cond d (Some (go s place.New)) (gives (go s place.Answer) (given_of names w)))
answer_past_by names s w true d = refl
answer_past_by names s w false true = refl
answer_past_by names s w false false = gives_past s place.FirstAnswer (given_of names w) ∙ sym (gives_past s place.Answer (given_of names w))

answer_past : (names : Names) (s : Start) (w : List ℕ) → answer_step names (go s place.FirstAnswer) w ≡ answer_step names (go s place.Answer) w
answer_past names s w = answer_past_by names s w (bytes_eq w (codes "none")) (bytes_eq w (codes "new"))

-- the first answer is read as any other, since it is no closing bracket
pub first_other : (names : Names) (s : Start) (w : List ℕ) (ws : Words) → bytes_eq w (codes ")") ≡ false → run names (go s place.FirstAnswer) (w ∷ ws) ≡ run names (go s place.Answer) (w ∷ ws)
unfolding run
first_other names s w ws e = rw e (ap (λ o. o >>= λ m. run names m ws) (answer_past names s w))

first_give : (names : Names) (ws us : Words) (g : Option Give) (s : Start) → SpellsGive names ws g us → run names (go s place.FirstAnswer) ws ≡ run names (go s place.Answer) ws
first_give names _ _ _ s (gives_nothing {rest}) = first_other names s (codes "none") rest refl
first_give names _ _ _ s (gives_value {w} {o} {rest} a b e) = first_other names s w rest (given_apart names w o e)
first_give names _ _ _ s (gives_new {n} {rest} e) = first_other names s (codes "new") (n ∷ rest) refl
first_give names _ _ _ s (gives_named_new {w} {rest} e) = first_other names s (codes "new") (w ∷ rest) refl

reply_read : (names : Names) (ws us vs : Words) (g : Option Give) (ss : List Stored) (s : Start) → SpellsGive names ws g us → SpellsStores names us ss vs → Replies names (go s place.Answer) ws vs (put_stores (gives_found s g) ss)
reply_read names ws us vs g ss s a b =
    let r = stores_read names us vs ss (gives_found s g) refl b in
    record { then_ = r.then_; runs = give_read names ws us g s a ∙ r.runs; closing = r.closing; same = r.same }

-- ---- answers

closes : (names : Names) (s : Start) (ws : Words) → Closing s → run names s (codes ")" ∷ ws) ≡ run names (pushed s place.Ended) ws
closes names s ws (inl at) = move names s (pushed s place.Ended) place.Given (codes ")") ws at refl
closes names s ws (inr at) = move names s (pushed s place.Ended) place.Braced (codes ")") ws at refl

continues : (names : Names) (s : Start) (ws : Words) → Closing s → run names s (codes ";" ∷ ws) ≡ run names (pushed s place.Answer) ws
continues names s ws (inl at) = move names s (pushed s place.Answer) place.Given (codes ";") ws at refl
continues names s ws (inr at) = move names s (pushed s place.Answer) place.Braced (codes ";") ws at refl

more_answers : (names : Names) (vs : Words) (rs : List Reply) (s : Start) → Closing s → MoreAnswers names vs rs → run names s vs ≡ Some (put_replies (pushed s place.Ended) rs)
unfolding run
more_answers names _ _ s c answers_end = closes names s [] c
more_answers names _ _ s c (one_answer {ws} {us} {vs} {g} {ss} {rs} a b more) =
    let y : Start = pushed s place.Ended in
    let r = reply_read names ws us vs g ss y a b in
    continues names s ws c ∙ r.runs ∙ more_answers names vs rs r.then_ r.closing more ∙ ap (λ (x : Start). Some (put_replies x rs)) r.same

-- a start with these answers, but for its place
pub record Ends (names : Names) (s : Start) (rest : Words) (rs : List Reply) : Type 0 where
  pub last : Start
  pub runs : run names s rest ≡ Some last
  pub is_done : is_done last.place ≡ true
  pub lacks : last.lacks ≡ (put_replies s rs).lacks
  pub inputs : last.inputs ≡ (put_replies s rs).inputs
  pub answers : last.answers ≡ (put_replies s rs).answers

replies_place : (s : Start) (rs : List Reply) → s.place ≡ place.Ended → (put_replies s rs).place ≡ place.Ended
replies_place s [] at = at
replies_place s (r ∷ rs) at = replies_place (replied s r) rs refl

answers_read : (names : Names) (rest : Words) (rs : List Reply) (s : Start) → s.place ≡ place.Closed → SpellsAnswers names rest rs → Ends names s rest rs
unfolding run
answers_read names _ _ s at no_answers = record { last = s; runs = refl; is_done = ap is_done at; lacks = refl; inputs = refl; answers = refl }
answers_read names _ _ s at none_answered = record {
  last = go s place.Ended;
  runs = move names s (go s place.Answers) place.Closed (codes "answers") (codes "(" ∷ codes ")" ∷ []) at refl
      ∙ move names (go s place.Answers) (go s place.FirstAnswer) place.Answers (codes "(") (codes ")" ∷ []) refl refl
      ∙ move names (go s place.FirstAnswer) (go s place.Ended) place.FirstAnswer (codes ")") [] refl refl;
  is_done = refl;
  lacks = refl;
  inputs = refl;
  answers = refl;
}
answers_read names _ _ s at (first_answer {ws} {us} {vs} {g} {ss} {rs} a b more) =
    let r = reply_read names ws us vs g ss s a b in
    let x : Start = pushed (put_stores (gives_found s g) ss) place.Ended in
    record {
      last = put_replies x rs;
      runs = move names s (go s place.Answers) place.Closed (codes "answers") (codes "(" ∷ ws) at refl
          ∙ move names (go s place.Answers) (go s place.FirstAnswer) place.Answers (codes "(") ws refl refl
          ∙ first_give names ws us g s a
          ∙ r.runs
          ∙ more_answers names vs rs r.then_ r.closing more
          ∙ ap (λ (y : Start). Some (put_replies y rs)) r.same;
      is_done = ap is_done (replies_place x rs refl);
      lacks = refl;
      inputs = refl;
      answers = refl;
    }

-- ---- the start

pub record Tells (m : Start) (os : List (Option Value)) (rs : List Reply) : Type 0 where
  pub lacks : m.lacks ≡ lacks_any os rs
  pub inputs : m.lacks ≡ false → map Some m.inputs ≡ os
  pub answers : m.lacks ≡ false → map reply m.answers ≡ rs

-- what a start tells whose inputs and answers were put
pub tells : (m : Start) (os : List (Option Value)) (rs : List Reply) (s : Start) → s ≡ go (put_inputs begin os) place.Closed → m.lacks ≡ (put_replies s rs).lacks → m.inputs ≡ (put_replies s rs).inputs → m.answers ≡ (put_replies s rs).answers → Tells m os rs
tells m os rs s is l i a =
    let none : s.lacks ≡ list_any is_none os = ap (λ (x : Start). x.lacks) is ∙ put_inputs-lacks begin os in
    let inputs_are : s.inputs ≡ (put_inputs begin os).inputs = ap (λ (x : Start). x.inputs) is in
    let answers_are : s.answers ≡ [] = ap (λ (x : Start). x.answers) is ∙ put_inputs-answers begin os in
    let stores_are : s.stores ≡ [] = ap (λ (x : Start). x.stores) is ∙ put_inputs-stores begin os in
    let all : m.lacks ≡ lacks_any os rs = l ∙ put_replies-lacks s rs ∙ ap (λ b. b || list_any reply_lacks rs) none in
    record {
      lacks = all;
      inputs = λ e. let p = or_parts (list_any is_none os) (list_any reply_lacks rs) (sym all ∙ e) in ap (λ (x : List Value). map Some x) (i ∙ put_replies-inputs s rs ∙ inputs_are) ∙ put_inputs-inputs begin os p.0;
      answers = λ e. let p = or_parts (list_any is_none os) (list_any reply_lacks rs) (sym all ∙ e) in ap (λ (x : List Answer). map reply x) a ∙ put_replies-answers s rs stores_are p.1 ∙ ap (λ (x : List Answer). map reply x ++ rs) answers_are;
    }

pub record IsRead (names : Names) (ws : Words) (os : List (Option Value)) (rs : List Reply) : Type 0 where
  pub made : Start
  pub read : start_at names ws ≡ Some made
  pub says : Tells made os rs

pub start_read : (names : Names) (ws rest : Words) (os : List (Option Value)) (rs : List Reply) → SpellsInputs names ws os rest → SpellsAnswers names rest rs → IsRead names ws os rs
unfolding start_at
start_read names ws rest os rs a b =
    let s : Start = go (put_inputs begin os) place.Closed in
    let e = answers_read names rest rs s refl b in
    let runs : run names begin ws ≡ Some e.last = all_inputs names ws rest os begin refl a ∙ e.runs in
    let ends : done e.last ≡ Some e.last = rw e.is_done refl in
    record { made = e.last; read = ap (λ o. o >>= done) runs ∙ ends; says = tells e.last os rs s refl e.lacks e.inputs e.answers }
