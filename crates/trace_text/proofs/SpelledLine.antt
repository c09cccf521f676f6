-- What is read is spelled so: arguments and whole lines.
use Rattle.std.proofs.Common.{◌≡◌, ℕ, zero, suc, ◌≤◌, Bool, true, false, cond, List, [], ◌∷◌, ◌++◌, length, Option, Some, None, refl, sym, ap, subst, ◌∙◌, inl, inr, append_assoc, arith}
use Rattle.std.proofs.lemmas.List.{append-nil}
use Rattle.std.specs.Prelude.{codes}
use Rattle.std.specs.Str.{bytes_eq}
use Rattle.text_lines.specs.Words.{is_name}
use Rattle.lists.specs.Binds.{◌>>=◌}
use Rattle.lists.proofs.Bools.{bytes_same}
use Rattle.text_lines.specs.declared.number.Letter.{Letter}
use Rattle.text_lines.specs.Numbers.{box_of}
use Rattle.trace_text.specs.declared.value.Value.{Value}
use Rattle.trace_text.specs.declared.value.Head.TheVariants as head
use Rattle.trace_text.specs.declared.line.Line.{Line}
use Rattle.trace_text.specs.declared.line.Slots.{Slots}
use Rattle.trace_text.specs.declared.line.Place.TheVariants as place
use Rattle.trace_text.specs.Names.{Names, look}
use Rattle.trace_text.specs.Values.{plain_value, named_value}
use Rattle.trace_text.specs.Line.{run, start, go, done, is_done, op_at, inputs_at, from, with_made}
use Rattle.trace_text.specs.Spelling.{SpellsSnapshot, MoreArgs, args_end, args_descr, arg_word, arg_class, arg_object, SpellsArgs, no_args, descr_alone, begins_word, begins_class, begins_object, Parts, parts_of, SpellsLine, line_alone, line_made}
use Rattle.trace_text.proofs.Again.{pushed, with_args}
use Rattle.trace_text.proofs.SpelledSlots.{if_some, if_or, if_option, from_value, stuck, object_back, class_back, snapshot_back, ends_in, object, class, Named}

-- ---- arguments

-- arguments with a descr, and where a line stands behind their bracket
record ArgsBack (names : Names) (l m : Line) (so_far : List Value) (Spelled : List Value → Option (List ℕ) → List (List ℕ) → Type 0) : Type 0 where
  args : List Value
  descr : Option (List ℕ)
  rest : List (List ℕ)
  spelled : Spelled args descr rest
  runs : run names (with_args l (so_far ++ args) descr) rest ≡ Some m

abbrev MoreArgsBack : Names → Line → Line → List (List ℕ) → Type 0
MoreArgsBack names l m ws = ArgsBack names l m l.opened (MoreArgs names ws)

abbrev FewerArgs : Names → Line → ℕ → Type 0
FewerArgs names m n = (l : Line) (ws : List (List ℕ)) → length ws ≤ n → l.descr ≡ None → run names (go l place.Behind) ws ≡ Some m → MoreArgsBack names l m ws

-- descr=N) from its first word on
record DescrBack (names : Names) (l m : Line) (ws : List (List ℕ)) : Type 0 where
  name : List ℕ
  rest : List (List ℕ)
  words : ws ≡ codes "=" ∷ name ∷ codes ")" ∷ rest
  is : is_name name ≡ true
  runs : run names (with_args l l.opened (Some name)) rest ≡ Some m

described : (a n b : List ℕ) (ws : List (List ℕ)) → bytes_eq a (codes "=") ≡ true → bytes_eq b (codes ")") ≡ true → a ∷ n ∷ b ∷ ws ≡ codes "=" ∷ n ∷ codes ")" ∷ ws
described a n b ws first last =
    ap (λ (x : List ℕ). x ∷ n ∷ b ∷ ws) (bytes_same a (codes "=") first) ∙ ap (λ (x : List ℕ). codes "=" ∷ n ∷ x ∷ ws) (bytes_same b (codes ")") last)

descr_back : (names : Names) (l m : Line) (ws : List (List ℕ)) → is_done m.place ≡ true → run names (go l place.Descr) ws ≡ Some m → DescrBack names l m ws
unfolding run
descr_back names l m [] ends h = stuck (go l place.Descr) m refl ends h
descr_back names l m (a ∷ []) ends h =
    let p = if_some names (bytes_eq a (codes "=")) (go l place.DescrEquals) m [] h in stuck (go l place.DescrEquals) m refl ends p.1
descr_back names l m (a ∷ n ∷ []) ends h =
    let p = if_some names (bytes_eq a (codes "=")) (go l place.DescrEquals) m (n ∷ []) h in
    let q = if_some names (is_name n) (record l { descr = Some n; place = place.DescrEnd }) m [] p.1 in
    stuck (record l { descr = Some n; place = place.DescrEnd }) m refl ends q.1
descr_back names l m (a ∷ n ∷ b ∷ ws) ends h =
    let p = if_some names (bytes_eq a (codes "=")) (go l place.DescrEquals) m (n ∷ b ∷ ws) h in
    let q = if_some names (is_name n) (record l { descr = Some n; place = place.DescrEnd }) m (b ∷ ws) p.1 in
    let r = if_some names (bytes_eq b (codes ")")) (with_args l l.opened (Some n)) m ws q.1 in
    record { name = n; rest = ws; words = described a n b ws p.0 r.0; is = q.0; runs = r.1 }

arg_word_back : (names : Names) (l m : Line) (w : List ℕ) (v : Value) (ws : List (List ℕ)) → plain_value w ≡ Some v → MoreArgsBack names (pushed l v place.Behind) m ws → MoreArgsBack names l m (codes "," ∷ w ∷ ws)
arg_word_back names l m w v ws e r =
    record { args = v ∷ r.args; descr = r.descr; rest = r.rest; spelled = arg_word e r.spelled; runs = ap (λ x. run names (with_args l x r.descr) r.rest) (sym (append_assoc l.opened (v ∷ []) r.args)) ∙ r.runs }

arg_object_back : (names : Names) (l m : Line) (ws : List (List ℕ)) (o : Named names m ws (object names l place.Behind)) → MoreArgsBack names (object names l place.Behind o.name) m o.rest → MoreArgsBack names l m (codes "," ∷ codes "ConstPtr" ∷ ws)
arg_object_back names l m ws o r =
    let v : Value = named_value (look o.name names.prebuilts) in
    let made : MoreArgsBack names l m (codes "," ∷ codes "ConstPtr" ∷ codes "(" ∷ o.name ∷ codes ")" ∷ o.rest) =
    record { args = v ∷ r.args; descr = r.descr; rest = r.rest; spelled = arg_object o.is r.spelled; runs = ap (λ x. run names (with_args l x r.descr) r.rest) (sym (append_assoc l.opened (v ∷ []) r.args)) ∙ r.runs } in
    subst (λ (x : List (List ℕ)). MoreArgsBack names l m (codes "," ∷ codes "ConstPtr" ∷ x)) (sym o.words) made

arg_class_back : (names : Names) (l m : Line) (ws : List (List ℕ)) (o : Named names m ws (class names l)) → MoreArgsBack names (class names l o.name) m o.rest → MoreArgsBack names l m (codes "," ∷ codes "ConstClass" ∷ ws)
arg_class_back names l m ws o r =
    let v : Value = named_value (look o.name names.classes) in
    let made : MoreArgsBack names l m (codes "," ∷ codes "ConstClass" ∷ codes "(" ∷ o.name ∷ codes ")" ∷ o.rest) =
    record { args = v ∷ r.args; descr = r.descr; rest = r.rest; spelled = arg_class o.is r.spelled; runs = ap (λ x. run names (with_args l x r.descr) r.rest) (sym (append_assoc l.opened (v ∷ []) r.args)) ∙ r.runs } in
    subst (λ (x : List (List ℕ)). MoreArgsBack names l m (codes "," ∷ codes "ConstClass" ∷ x)) (sym o.words) made

arg_descr_back : (names : Names) (l m : Line) (ws : List (List ℕ)) → DescrBack names l m ws → MoreArgsBack names l m (codes "," ∷ codes "descr" ∷ ws)
arg_descr_back names l m ws d =
    let made : MoreArgsBack names l m (codes "," ∷ codes "descr" ∷ codes "=" ∷ d.name ∷ codes ")" ∷ d.rest) =
    record { args = []; descr = Some d.name; rest = d.rest; spelled = args_descr d.is; runs = ap (λ x. run names (with_args l x (Some d.name)) d.rest) (append-nil l.opened) ∙ d.runs } in
    subst (λ (x : List (List ℕ)). MoreArgsBack names l m (codes "," ∷ codes "descr" ∷ x)) (sym d.words) made

next_arg_back : (names : Names) (l m : Line) (n : ℕ) (ws : List (List ℕ)) → FewerArgs names m n → length ws ≤ suc n → l.descr ≡ None → is_done m.place ≡ true → run names (go l place.Next) ws ≡ Some m → MoreArgsBack names l m (codes "," ∷ ws)
unfolding run
next_arg_back names l m n [] ih le none ends h = stuck (go l place.Next) m refl ends h
next_arg_back names l m n (w ∷ ws) ih le none ends h =
    elim (if_or names (bytes_eq w (codes "descr")) (go l place.Descr) m (cond (bytes_eq w (codes "ConstClass")) (Some (go l place.Class)) (cond (bytes_eq w (codes "ConstPtr")) (Some (go l place.Ptr)) (plain_value w >>= λ v. Some (pushed l v place.Behind)))) ws h) [
      | inl p ↦ subst (λ (x : List ℕ). MoreArgsBack names l m (codes "," ∷ x ∷ ws)) (sym (bytes_same w (codes "descr") p.0)) (arg_descr_back names l m ws (descr_back names l m ws ends p.1))
      | inr p ↦ elim (if_or names (bytes_eq w (codes "ConstClass")) (go l place.Class) m (cond (bytes_eq w (codes "ConstPtr")) (Some (go l place.Ptr)) (plain_value w >>= λ v. Some (pushed l v place.Behind))) ws p.1) [
        | inl q ↦
            let o = class_back names l m ws ends q.1 in
            let r = arg_class_back names l m ws o (ih (class names l o.name) o.rest (omega (arith, le, ap length o.words)) none o.runs) in
            subst (λ (x : List ℕ). MoreArgsBack names l m (codes "," ∷ x ∷ ws)) (sym (bytes_same w (codes "ConstClass") q.0)) r
        | inr q ↦ elim (if_or names (bytes_eq w (codes "ConstPtr")) (go l place.Ptr) m (plain_value w >>= λ v. Some (pushed l v place.Behind)) ws q.1) [
          | inl u ↦
              let o = object_back names l m ws ends u.1 in
              let r = arg_object_back names l m ws o (ih (object names l place.Behind o.name) o.rest (omega (arith, le, ap length o.words)) none o.runs) in
              subst (λ (x : List ℕ). MoreArgsBack names l m (codes "," ∷ x ∷ ws)) (sym (bytes_same w (codes "ConstPtr") u.0)) r
          | inr u ↦
              let v = from_value names (plain_value w) (λ v. pushed l v place.Behind) m ws u.1 in
              arg_word_back names l m w v.0 ws v.1 (ih (pushed l v.0 place.Behind) ws (omega (arith, le)) none v.2)
        ]
      ]
    ]

args_end_back : (names : Names) (l m : Line) (x : List ℕ) (ws : List (List ℕ)) → l.descr ≡ None → bytes_eq x (codes ")") ≡ true → run names (with_args l l.opened l.descr) ws ≡ Some m → MoreArgsBack names l m (x ∷ ws)
args_end_back names l m x ws none e h =
    let made : MoreArgsBack names l m (codes ")" ∷ ws) = record { args = []; descr = None; rest = ws; spelled = args_end; runs = ap (λ y. run names (with_args l y None) ws) (append-nil l.opened) ∙ ap (λ (d : Option (List ℕ)). run names (with_args l l.opened d) ws) (sym none) ∙ h } in
    subst (λ (y : List ℕ). MoreArgsBack names l m (y ∷ ws)) (sym (bytes_same x (codes ")") e)) made

more_args_back : (n : ℕ) (names : Names) (m : Line) → is_done m.place ≡ true → FewerArgs names m n
unfolding run
more_args_back n names m ends l [] le none h = stuck (go l place.Behind) m refl ends h
more_args_back zero names m ends l (x ∷ ws) le none h = absurd (omega (arith, le))
more_args_back (suc n) names m ends l (x ∷ ws) le none h =
    elim (if_or names (bytes_eq x (codes ",")) (go l place.Next) m (cond (bytes_eq x (codes ")")) (Some (with_args l l.opened l.descr)) None) ws h) [
      | inl p ↦
          let r = next_arg_back names l m n ws (more_args_back n names m ends) (omega (arith, le)) none ends p.1 in
          subst (λ (y : List ℕ). MoreArgsBack names l m (y ∷ ws)) (sym (bytes_same x (codes ",") p.0)) r
      | inr p ↦
          let q = if_some names (bytes_eq x (codes ")")) (with_args l l.opened l.descr) m ws p.1 in
          args_end_back names l m x ws none q.0 q.1
    ]

abbrev FirstArgsBack : Names → Line → Line → List (List ℕ) → Type 0
FirstArgsBack names l m ws = ArgsBack names l m [] (SpellsArgs names ws)

args_none_back : (names : Names) (l m : Line) (x : List ℕ) (ws : List (List ℕ)) → l.opened ≡ [] → l.descr ≡ None → bytes_eq x (codes ")") ≡ true → run names (with_args l l.opened l.descr) ws ≡ Some m → FirstArgsBack names l m (x ∷ ws)
args_none_back names l m x ws none bare e h =
    let made : FirstArgsBack names l m (codes ")" ∷ ws) = record { args = []; descr = None; rest = ws; spelled = no_args; runs = ap (λ (y : List Value). run names (with_args l y None) ws) (sym none) ∙ ap (λ (d : Option (List ℕ)). run names (with_args l l.opened d) ws) (sym bare) ∙ h } in
    subst (λ (y : List ℕ). FirstArgsBack names l m (y ∷ ws)) (sym (bytes_same x (codes ")") e)) made

first_arg_back : (names : Names) (l m : Line) (w : List ℕ) (v : Value) (ws : List (List ℕ)) → l.opened ≡ [] → plain_value w ≡ Some v → MoreArgsBack names (pushed l v place.Behind) m ws → FirstArgsBack names l m (w ∷ ws)
first_arg_back names l m w v ws none e r =
    record { args = v ∷ r.args; descr = r.descr; rest = r.rest; spelled = begins_word e r.spelled; runs = ap (λ (x : List Value). run names (with_args l ((x ++ v ∷ []) ++ r.args) r.descr) r.rest) (sym none) ∙ r.runs }

first_object_back : (names : Names) (l m : Line) (ws : List (List ℕ)) (o : Named names m ws (object names l place.Behind)) → l.opened ≡ [] → MoreArgsBack names (object names l place.Behind o.name) m o.rest → FirstArgsBack names l m (codes "ConstPtr" ∷ ws)
first_object_back names l m ws o none r =
    let v : Value = named_value (look o.name names.prebuilts) in
    let made : FirstArgsBack names l m (codes "ConstPtr" ∷ codes "(" ∷ o.name ∷ codes ")" ∷ o.rest) =
    record { args = v ∷ r.args; descr = r.descr; rest = r.rest; spelled = begins_object o.is r.spelled; runs = ap (λ (x : List Value). run names (with_args l ((x ++ v ∷ []) ++ r.args) r.descr) r.rest) (sym none) ∙ r.runs } in
    subst (λ (x : List (List ℕ)). FirstArgsBack names l m (codes "ConstPtr" ∷ x)) (sym o.words) made

first_class_back : (names : Names) (l m : Line) (ws : List (List ℕ)) (o : Named names m ws (class names l)) → l.opened ≡ [] → MoreArgsBack names (class names l o.name) m o.rest → FirstArgsBack names l m (codes "ConstClass" ∷ ws)
first_class_back names l m ws o none r =
    let v : Value = named_value (look o.name names.classes) in
    let made : FirstArgsBack names l m (codes "ConstClass" ∷ codes "(" ∷ o.name ∷ codes ")" ∷ o.rest) =
    record { args = v ∷ r.args; descr = r.descr; rest = r.rest; spelled = begins_class o.is r.spelled; runs = ap (λ (x : List Value). run names (with_args l ((x ++ v ∷ []) ++ r.args) r.descr) r.rest) (sym none) ∙ r.runs } in
    subst (λ (x : List (List ℕ)). FirstArgsBack names l m (codes "ConstClass" ∷ x)) (sym o.words) made

first_descr_back : (names : Names) (l m : Line) (ws : List (List ℕ)) → l.opened ≡ [] → DescrBack names l m ws → FirstArgsBack names l m (codes "descr" ∷ ws)
first_descr_back names l m ws none d =
    let made : FirstArgsBack names l m (codes "descr" ∷ codes "=" ∷ d.name ∷ codes ")" ∷ d.rest) =
    record { args = []; descr = Some d.name; rest = d.rest; spelled = descr_alone d.is; runs = ap (λ (x : List Value). run names (with_args l x (Some d.name)) d.rest) (sym none) ∙ d.runs } in
    subst (λ (x : List (List ℕ)). FirstArgsBack names l m (codes "descr" ∷ x)) (sym d.words) made

args_back : (names : Names) (l m : Line) (ws : List (List ℕ)) → l.opened ≡ [] → l.descr ≡ None → is_done m.place ≡ true → run names (go l place.Open) ws ≡ Some m → FirstArgsBack names l m ws
unfolding run
args_back names l m [] none bare ends h = stuck (go l place.Open) m refl ends h
args_back names l m (w ∷ ws) none bare ends h =
    elim (if_or names (bytes_eq w (codes ")")) (with_args l l.opened l.descr) m (cond (bytes_eq w (codes "descr")) (Some (go l place.Descr)) (cond (bytes_eq w (codes "ConstClass")) (Some (go l place.Class)) (cond (bytes_eq w (codes "ConstPtr")) (Some (go l place.Ptr)) (plain_value w >>= λ v. Some (pushed l v place.Behind))))) ws h) [
      | inl p ↦ args_none_back names l m w ws none bare p.0 p.1
      | inr p ↦ elim (if_or names (bytes_eq w (codes "descr")) (go l place.Descr) m (cond (bytes_eq w (codes "ConstClass")) (Some (go l place.Class)) (cond (bytes_eq w (codes "ConstPtr")) (Some (go l place.Ptr)) (plain_value w >>= λ v. Some (pushed l v place.Behind)))) ws p.1) [
        | inl q ↦ subst (λ (x : List ℕ). FirstArgsBack names l m (x ∷ ws)) (sym (bytes_same w (codes "descr") q.0)) (first_descr_back names l m ws none (descr_back names l m ws ends q.1))
        | inr q ↦ elim (if_or names (bytes_eq w (codes "ConstClass")) (go l place.Class) m (cond (bytes_eq w (codes "ConstPtr")) (Some (go l place.Ptr)) (plain_value w >>= λ v. Some (pushed l v place.Behind))) ws q.1) [
          | inl u ↦
              let o = class_back names l m ws ends u.1 in
              let r = first_class_back names l m ws o none (more_args_back (length o.rest) names m ends (class names l o.name) o.rest (omega arith) bare o.runs) in
              subst (λ (x : List ℕ). FirstArgsBack names l m (x ∷ ws)) (sym (bytes_same w (codes "ConstClass") u.0)) r
          | inr u ↦ elim (if_or names (bytes_eq w (codes "ConstPtr")) (go l place.Ptr) m (plain_value w >>= λ v. Some (pushed l v place.Behind)) ws u.1) [
            | inl t ↦
                let o = object_back names l m ws ends t.1 in
                let r = first_object_back names l m ws o none (more_args_back (length o.rest) names m ends (object names l place.Behind o.name) o.rest (omega arith) bare o.runs) in
                subst (λ (x : List ℕ). FirstArgsBack names l m (x ∷ ws)) (sym (bytes_same w (codes "ConstPtr") t.0)) r
            | inr t ↦
                let v = from_value names (plain_value w) (λ v. pushed l v place.Behind) m ws t.1 in
                first_arg_back names l m w v.0 ws none v.1 (more_args_back (length ws) names m ends (pushed l v.0 place.Behind) ws (omega arith) bare v.2)
          ]
        ]
      ]
    ]

-- ---- a line

-- the arguments and the snapshot behind a name's bracket
record CallBack (names : Names) (l m : Line) (ws : List (List ℕ)) : Type 0 where
  args : List Value
  descr : Option (List ℕ)
  frames : List Slots
  rest : List (List ℕ)
  called : SpellsArgs names ws args descr rest
  framed : SpellsSnapshot names rest frames
  parts : parts_of m ≡ record { made = l.made; name = l.name; args = args; descr = descr; frames = l.frames ++ frames }

call_back : (names : Names) (l m : Line) (ws : List (List ℕ)) → l.opened ≡ [] → l.descr ≡ None → l.head ≡ head.Plain → is_done m.place ≡ true → run names (go l place.Open) ws ≡ Some m → CallBack names l m ws
call_back names l m ws none bare is ends h =
    let a = args_back names l m ws none bare ends h in
    let s = snapshot_back names (with_args l a.args a.descr) m a.rest refl is ends a.runs in
    record { args = a.args; descr = a.descr; frames = s.frames; rest = a.rest; called = a.spelled; framed = s.spelled; parts = s.parts }

abbrev opened_by : List ℕ → Line
opened_by n = record start { name = n; place = place.First }

alone_back : (names : Names) (m : Line) (n b : List ℕ) (ws : List (List ℕ)) → is_name n ≡ true → bytes_eq b (codes "(") ≡ true → CallBack names (opened_by n) m ws → SpellsLine names (n ∷ b ∷ ws) (parts_of m)
alone_back names m n b ws is e r =
    let made : SpellsLine names (n ∷ codes "(" ∷ ws) (parts_of m) = subst (λ (p : Parts). SpellsLine names (n ∷ codes "(" ∷ ws) p) (sym r.parts) (line_alone is r.called r.framed) in
    subst (λ (x : List ℕ). SpellsLine names (n ∷ x ∷ ws) (parts_of m)) (sym (bytes_same b (codes "(") e)) made

abbrev made_by : List ℕ → Letter × ℕ → Line
made_by n x = record start { made = Some x; name = n; place = place.Named }

made_back : (names : Names) (m : Line) (b q n o : List ℕ) (x : Letter × ℕ) (ws : List (List ℕ)) → is_name b ≡ true → box_of b ≡ Some x → bytes_eq q (codes "=") ≡ true → is_name n ≡ true → bytes_eq o (codes "(") ≡ true → CallBack names (made_by n x) m ws → SpellsLine names (b ∷ q ∷ n ∷ o ∷ ws) (parts_of m)
made_back names m b q n o x ws is e eq named open_is r =
    let made : SpellsLine names (b ∷ codes "=" ∷ n ∷ codes "(" ∷ ws) (parts_of m) = subst (λ (p : Parts). SpellsLine names (b ∷ codes "=" ∷ n ∷ codes "(" ∷ ws) p) (sym r.parts) (line_made is e named r.called r.framed) in
    let behind : SpellsLine names (b ∷ codes "=" ∷ n ∷ o ∷ ws) (parts_of m) = subst (λ (y : List ℕ). SpellsLine names (b ∷ codes "=" ∷ n ∷ y ∷ ws) (parts_of m)) (sym (bytes_same o (codes "(") open_is)) made in
    subst (λ (y : List ℕ). SpellsLine names (b ∷ y ∷ n ∷ o ∷ ws) (parts_of m)) (sym (bytes_same q (codes "=") eq)) behind

from_box : (names : Names) (o : Option (Letter × ℕ)) (l m : Line) (ws : List (List ℕ)) → (with_made l o >>= λ y. run names y ws) ≡ Some m → (x : Letter × ℕ) × (o ≡ Some x) × (run names (record l { made = Some x; place = place.Equals }) ws ≡ Some m)
from_box names None l m ws h = absurd cc
from_box names (Some x) l m ws h = (x, refl, h)

result_back : (names : Names) (m : Line) (b q : List ℕ) (x : Letter × ℕ) (ws : List (List ℕ)) → is_done m.place ≡ true → is_name b ≡ true → box_of b ≡ Some x → bytes_eq q (codes "=") ≡ true → run names (record start { made = Some x; name = b; place = place.Equals }) ws ≡ Some m → SpellsLine names (b ∷ q ∷ ws) (parts_of m)
unfolding run
result_back names m b q x [] ends is e eq h = stuck (record start { made = Some x; name = b; place = place.Equals }) m refl ends h
result_back names m b q x (n ∷ []) ends is e eq h =
    let p = if_some names (is_name n) (made_by n x) m [] h in stuck (made_by n x) m refl ends p.1
result_back names m b q x (n ∷ o ∷ ws) ends is e eq h =
    let p = if_some names (is_name n) (made_by n x) m (o ∷ ws) h in
    let u = if_some names (bytes_eq o (codes "(")) (go (made_by n x) place.Open) m ws p.1 in
    made_back names m b q n o x ws is e eq p.0 u.0 (call_back names (made_by n x) m ws refl refl refl ends u.1)

line_back : (names : Names) (m : Line) (ws : List (List ℕ)) → is_done m.place ≡ true → run names (go start place.Start) ws ≡ Some m → SpellsLine names ws (parts_of m)
unfolding run
line_back names m [] ends h = stuck (go start place.Start) m refl ends h
line_back names m (n ∷ []) ends h =
    let p = if_some names (is_name n) (opened_by n) m [] h in stuck (opened_by n) m refl ends p.1
line_back names m (n ∷ b ∷ ws) ends h =
    let p = if_some names (is_name n) (opened_by n) m (b ∷ ws) h in
    elim (if_or names (bytes_eq b (codes "(")) (go (opened_by n) place.Open) m (cond (bytes_eq b (codes "=")) (with_made (opened_by n) (box_of n)) None) ws p.1) [
      | inl q ↦ alone_back names m n b ws p.0 q.0 (call_back names (opened_by n) m ws refl refl refl ends q.1)
      | inr q ↦
          let u = if_option names (bytes_eq b (codes "=")) (with_made (opened_by n) (box_of n)) m ws q.1 in
          let x = from_box names (box_of n) (opened_by n) m ws u.1 in
          result_back names m n b x.0 ws ends p.0 x.1 u.0 x.2
    ]

done_of : (b : Bool) (l m : Line) → is_done l.place ≡ b → cond b (Some l) None ≡ Some m → (Some l ≡ Some m) × (is_done m.place ≡ true)
done_of true l m is h = (h, sym (ap ends_in h) ∙ is)
done_of false l m is h = absurd cc

done_back : (o : Option Line) (m : Line) → (o >>= done) ≡ Some m → (o ≡ Some m) × (is_done m.place ≡ true)
done_back None m h = absurd cc
done_back (Some l) m h = done_of (is_done l.place) l m refl h

-- a line that is read is spelled as its parts say
pub spelled_back : (names : Names) (ws : List (List ℕ)) (l : Line) → op_at names ws ≡ Some l → SpellsLine names ws (parts_of l)
unfolding from
spelled_back names ws l h =
    let p = done_back (run names (go start place.Start) ws) l h in
    line_back names l ws p.1 p.0

-- inputs that are read are spelled as their frames say
pub inputs_back : (names : Names) (ws : List (List ℕ)) (l : Line) → inputs_at names ws ≡ Some l → SpellsSnapshot names ws l.frames
unfolding from
inputs_back names ws l h =
    let p = done_back (run names (go start place.Closed) ws) l h in
    let r = snapshot_back names start l ws refl refl p.1 p.0 in
    subst (λ (fs : List Slots). SpellsSnapshot names ws fs) (sym (ap (λ (q : Parts). q.frames) r.parts)) r.spelled
