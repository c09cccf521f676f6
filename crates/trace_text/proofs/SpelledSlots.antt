-- What is read is spelled so: slots, frames and snapshots.
use Rattle.std.proofs.Common.{◌≡◌, ℕ, zero, suc, ◌+◌, ◌≤◌, ◌-◌, ◌^◌, take, drop, Bool, true, false, cond, List, [], ◌∷◌, ◌++◌, length, Option, Some, None, refl, sym, ap, subst, ◌∙◌, inl, inr, ◌⊎◌, append_assoc, arith}
use Rattle.std.proofs.lemmas.List.{append-nil}
use Rattle.std.specs.Prelude.{codes, position, nat_eq}
use Rattle.std.specs.Str.{bytes_eq}
use Rattle.std.proofs.lemmas.Slice.Eq.{bytes_eq-Decides}
use Rattle.text_lines.specs.Words.{is_name}
use Rattle.lists.specs.Binds.{◌>>=◌}
use Rattle.lists.proofs.Bools.{bytes_same}
use Rattle.text_lines.specs.Numbers.{decimal_of}
use Rattle.trace_text.specs.declared.value.Value.{Value}
use Rattle.trace_text.specs.declared.value.Head.{Head}
use Rattle.trace_text.specs.declared.value.Head.TheVariants as head
use Rattle.trace_text.specs.declared.line.Line.{Line}
use Rattle.trace_text.specs.declared.line.Slots.{Slots}
use Rattle.trace_text.specs.declared.line.Place.{Place}
use Rattle.trace_text.specs.declared.line.Place.TheVariants as place
use Rattle.trace_text.specs.Names.{Names, look}
use Rattle.trace_text.specs.Values.{plain_value, named_value, frame_head, name_and_pc}
use Rattle.trace_text.specs.Line.{run, go, is_done, frame_end}
use Rattle.trace_text.specs.Spelling.{MoreSlots, slots_end, slot_word, slot_object, SpellsSlots, no_slots, first_word, first_object, SpellsFrames, frames_end, one_frame, SpellsSnapshot, snapshot_framed, snapshot_plain, Parts, parts_of}
use Rattle.trace_text.proofs.Again.{with_frame, pushed, with_frames}

-- ---- one step backwards

pub if_some : (names : Names) (b : Bool) (x m : Line) (ws : List (List ℕ)) → (cond b (Some x) None >>= λ y. run names y ws) ≡ Some m → (b ≡ true) × (run names x ws ≡ Some m)
if_some names true x m ws h = (refl, h)
if_some names false x m ws h = absurd cc

pub if_or : (names : Names) (b : Bool) (x m : Line) (o : Option Line) (ws : List (List ℕ)) → (cond b (Some x) o >>= λ y. run names y ws) ≡ Some m → ((b ≡ true) × (run names x ws ≡ Some m)) ⊎ ((b ≡ false) × ((o >>= λ y. run names y ws) ≡ Some m))
if_or names true x m o ws h = inl (refl, h)
if_or names false x m o ws h = inr (refl, h)

pub if_option : (names : Names) (b : Bool) (o : Option Line) (m : Line) (ws : List (List ℕ)) → (cond b o None >>= λ y. run names y ws) ≡ Some m → (b ≡ true) × ((o >>= λ y. run names y ws) ≡ Some m)
if_option names true o m ws h = (refl, h)
if_option names false o m ws h = absurd cc

pub from_value : (names : Names) (o : Option Value) (g : Value → Line) (m : Line) (ws : List (List ℕ)) → ((o >>= λ v. Some (g v)) >>= λ y. run names y ws) ≡ Some m → (v : Value) × (o ≡ Some v) × (run names (g v) ws ≡ Some m)
from_value names None g m ws h = absurd cc
from_value names (Some v) g m ws h = (v, refl, h)

pub from_head : (names : Names) (o : Option Head) (g : Head → Line) (m : Line) (ws : List (List ℕ)) → ((o >>= λ v. Some (g v)) >>= λ y. run names y ws) ≡ Some m → (v : Head) × (o ≡ Some v) × (run names (g v) ws ≡ Some m)
from_head names None g m ws h = absurd cc
from_head names (Some v) g m ws h = (v, refl, h)

abbrev pub ends_in : Option Line → Bool
ends_in None = false
ends_in (Some l) = is_done l.place

-- a line doesn't end at a place that goes on
pub stuck : {X : Type 0} (l m : Line) → is_done l.place ≡ false → is_done m.place ≡ true → Some l ≡ Some m → X
stuck l m goes ends e = let bad : false ≡ true = sym goes ∙ ap ends_in e ∙ ends in absurd cc

-- ---- (n), behind ConstClass or ConstPtr

pub bracketed : (a n b : List ℕ) (ws : List (List ℕ)) → bytes_eq a (codes "(") ≡ true → bytes_eq b (codes ")") ≡ true → a ∷ n ∷ b ∷ ws ≡ codes "(" ∷ n ∷ codes ")" ∷ ws
bracketed a n b ws first last =
    ap (λ (x : List ℕ). x ∷ n ∷ b ∷ ws) (bytes_same a (codes "(") first) ∙ ap (λ (x : List ℕ). codes "(" ∷ n ∷ x ∷ ws) (bytes_same b (codes ")") last)

-- a name in brackets, and where a line stands behind it
pub record Named (names : Names) (m : Line) (ws : List (List ℕ)) (next : List ℕ → Line) : Type 0 where
  pub name : List ℕ
  pub rest : List (List ℕ)
  pub words : ws ≡ codes "(" ∷ name ∷ codes ")" ∷ rest
  pub is : is_name name ≡ true
  pub runs : run names (next name) rest ≡ Some m

abbrev pub object : Names → Line → Place → List ℕ → Line
object names l p n = pushed l (named_value (look n names.prebuilts)) p

abbrev pub class : Names → Line → List ℕ → Line
class names l n = pushed l (named_value (look n names.classes)) place.Behind

pub slot_object_back : (names : Names) (l m : Line) (ws : List (List ℕ)) → is_done m.place ≡ true → run names (go l place.SlotPtr) ws ≡ Some m → Named names m ws (object names l place.SlotBehind)
unfolding run
slot_object_back names l m [] ends h = stuck (go l place.SlotPtr) m refl ends h
slot_object_back names l m (a ∷ []) ends h =
    let p = if_some names (bytes_eq a (codes "(")) (go l place.SlotPtrOpen) m [] h in stuck (go l place.SlotPtrOpen) m refl ends p.1
slot_object_back names l m (a ∷ n ∷ []) ends h =
    let p = if_some names (bytes_eq a (codes "(")) (go l place.SlotPtrOpen) m (n ∷ []) h in
    let q = if_some names (is_name n) (object names l place.SlotClosing n) m [] p.1 in
    stuck (object names l place.SlotClosing n) m refl ends q.1
slot_object_back names l m (a ∷ n ∷ b ∷ ws) ends h =
    let p = if_some names (bytes_eq a (codes "(")) (go l place.SlotPtrOpen) m (n ∷ b ∷ ws) h in
    let q = if_some names (is_name n) (object names l place.SlotClosing n) m (b ∷ ws) p.1 in
    let r = if_some names (bytes_eq b (codes ")")) (object names l place.SlotBehind n) m ws q.1 in
    record { name = n; rest = ws; words = bracketed a n b ws p.0 r.0; is = q.0; runs = r.1 }

pub object_back : (names : Names) (l m : Line) (ws : List (List ℕ)) → is_done m.place ≡ true → run names (go l place.Ptr) ws ≡ Some m → Named names m ws (object names l place.Behind)
unfolding run
object_back names l m [] ends h = stuck (go l place.Ptr) m refl ends h
object_back names l m (a ∷ []) ends h =
    let p = if_some names (bytes_eq a (codes "(")) (go l place.PtrOpen) m [] h in stuck (go l place.PtrOpen) m refl ends p.1
object_back names l m (a ∷ n ∷ []) ends h =
    let p = if_some names (bytes_eq a (codes "(")) (go l place.PtrOpen) m (n ∷ []) h in
    let q = if_some names (is_name n) (object names l place.Closing n) m [] p.1 in
    stuck (object names l place.Closing n) m refl ends q.1
object_back names l m (a ∷ n ∷ b ∷ ws) ends h =
    let p = if_some names (bytes_eq a (codes "(")) (go l place.PtrOpen) m (n ∷ b ∷ ws) h in
    let q = if_some names (is_name n) (object names l place.Closing n) m (b ∷ ws) p.1 in
    let r = if_some names (bytes_eq b (codes ")")) (object names l place.Behind n) m ws q.1 in
    record { name = n; rest = ws; words = bracketed a n b ws p.0 r.0; is = q.0; runs = r.1 }

pub class_back : (names : Names) (l m : Line) (ws : List (List ℕ)) → is_done m.place ≡ true → run names (go l place.Class) ws ≡ Some m → Named names m ws (class names l)
unfolding run
class_back names l m [] ends h = stuck (go l place.Class) m refl ends h
class_back names l m (a ∷ []) ends h =
    let p = if_some names (bytes_eq a (codes "(")) (go l place.ClassOpen) m [] h in stuck (go l place.ClassOpen) m refl ends p.1
class_back names l m (a ∷ n ∷ []) ends h =
    let p = if_some names (bytes_eq a (codes "(")) (go l place.ClassOpen) m (n ∷ []) h in
    let q = if_some names (is_name n) (pushed l (named_value (look n names.classes)) place.Closing) m [] p.1 in
    stuck (pushed l (named_value (look n names.classes)) place.Closing) m refl ends q.1
class_back names l m (a ∷ n ∷ b ∷ ws) ends h =
    let p = if_some names (bytes_eq a (codes "(")) (go l place.ClassOpen) m (n ∷ b ∷ ws) h in
    let q = if_some names (is_name n) (pushed l (named_value (look n names.classes)) place.Closing) m (b ∷ ws) p.1 in
    let r = if_some names (bytes_eq b (codes ")")) (pushed l (named_value (look n names.classes)) place.Behind) m ws q.1 in
    record { name = n; rest = ws; words = bracketed a n b ws p.0 r.0; is = q.0; runs = r.1 }

-- ---- slots

-- slots, and where a line stands behind their bracket
pub record SlotsBack (names : Names) (l m : Line) (so_far : List Value) (Spelled : List Value → List (List ℕ) → Type 0) : Type 0 where
  pub slots : List Value
  pub rest : List (List ℕ)
  pub spelled : Spelled slots rest
  pub runs : run names (with_frame l (so_far ++ slots)) rest ≡ Some m

abbrev pub MoreBack : Names → Line → Line → List (List ℕ) → Type 0
MoreBack names l m ws = SlotsBack names l m l.opened (MoreSlots names ws)

-- what is known of shorter lines
abbrev pub Shorter : Names → Line → ℕ → Type 0
Shorter names m n = (l : Line) (ws : List (List ℕ)) → length ws ≤ n → run names (go l place.SlotBehind) ws ≡ Some m → MoreBack names l m ws

pub slot_word_back : (names : Names) (l m : Line) (w : List ℕ) (v : Value) (ws : List (List ℕ)) → plain_value w ≡ Some v → MoreBack names (pushed l v place.SlotBehind) m ws → MoreBack names l m (codes "," ∷ w ∷ ws)
slot_word_back names l m w v ws e r =
    record { slots = v ∷ r.slots; rest = r.rest; spelled = slot_word e r.spelled; runs = ap (λ x. run names (with_frame l x) r.rest) (sym (append_assoc l.opened (v ∷ []) r.slots)) ∙ r.runs }

pub slot_named_back : (names : Names) (l m : Line) (ws : List (List ℕ)) (o : Named names m ws (object names l place.SlotBehind)) → MoreBack names (object names l place.SlotBehind o.name) m o.rest → MoreBack names l m (codes "," ∷ codes "ConstPtr" ∷ ws)
slot_named_back names l m ws o r =
    let v : Value = named_value (look o.name names.prebuilts) in
    let made : MoreBack names l m (codes "," ∷ codes "ConstPtr" ∷ codes "(" ∷ o.name ∷ codes ")" ∷ o.rest) =
    record { slots = v ∷ r.slots; rest = r.rest; spelled = slot_object o.is r.spelled; runs = ap (λ x. run names (with_frame l x) r.rest) (sym (append_assoc l.opened (v ∷ []) r.slots)) ∙ r.runs } in
    subst (λ (x : List (List ℕ)). MoreBack names l m (codes "," ∷ codes "ConstPtr" ∷ x)) (sym o.words) made

pub slot_next_back : (names : Names) (l m : Line) (n : ℕ) (ws : List (List ℕ)) → Shorter names m n → length ws ≤ suc n → is_done m.place ≡ true → run names (go l place.SlotNext) ws ≡ Some m → MoreBack names l m (codes "," ∷ ws)
unfolding run
slot_next_back names l m n [] ih le ends h = stuck (go l place.SlotNext) m refl ends h
slot_next_back names l m n (w ∷ ws) ih le ends h =
    elim (if_or names (bytes_eq w (codes "ConstPtr")) (go l place.SlotPtr) m (plain_value w >>= λ v. Some (pushed l v place.SlotBehind)) ws h) [
      | inl p ↦
          let o = slot_object_back names l m ws ends p.1 in
          let small : length o.rest ≤ n = omega (arith, le, ap length o.words) in
          let r = slot_named_back names l m ws o (ih (object names l place.SlotBehind o.name) o.rest small o.runs) in
          subst (λ (x : List ℕ). MoreBack names l m (codes "," ∷ x ∷ ws)) (sym (bytes_same w (codes "ConstPtr") p.0)) r
      | inr p ↦
          let v = from_value names (plain_value w) (λ v. pushed l v place.SlotBehind) m ws p.1 in
          slot_word_back names l m w v.0 ws v.1 (ih (pushed l v.0 place.SlotBehind) ws (omega (arith, le)) v.2)
    ]

pub slots_end_back : (names : Names) (l m : Line) (x : List ℕ) (ws : List (List ℕ)) → bytes_eq x (codes "]") ≡ true → run names (with_frame l l.opened) ws ≡ Some m → MoreBack names l m (x ∷ ws)
slots_end_back names l m x ws e h =
    let made : MoreBack names l m (codes "]" ∷ ws) = record { slots = []; rest = ws; spelled = slots_end; runs = ap (λ y. run names (with_frame l y) ws) (append-nil l.opened) ∙ h } in
    subst (λ (y : List ℕ). MoreBack names l m (y ∷ ws)) (sym (bytes_same x (codes "]") e)) made

pub more_slots_back : (n : ℕ) (names : Names) (m : Line) → is_done m.place ≡ true → Shorter names m n
unfolding run
more_slots_back n names m ends l [] le h = stuck (go l place.SlotBehind) m refl ends h
more_slots_back zero names m ends l (x ∷ ws) le h = absurd (omega (arith, le))
more_slots_back (suc n) names m ends l (x ∷ ws) le h =
    elim (if_or names (bytes_eq x (codes ",")) (go l place.SlotNext) m (cond (bytes_eq x (codes "]")) (Some (with_frame l l.opened)) None) ws h) [
      | inl p ↦
          let r = slot_next_back names l m n ws (more_slots_back n names m ends) (omega (arith, le)) ends p.1 in
          subst (λ (y : List ℕ). MoreBack names l m (y ∷ ws)) (sym (bytes_same x (codes ",") p.0)) r
      | inr p ↦
          let q = if_some names (bytes_eq x (codes "]")) (with_frame l l.opened) m ws p.1 in
          slots_end_back names l m x ws q.0 q.1
    ]

pub more_slots_shorter : (names : Names) (ws rest : List (List ℕ)) (vs : List Value) → MoreSlots names ws vs rest → suc (length rest) ≤ length ws
more_slots_shorter names _ _ _ slots_end = omega arith
more_slots_shorter names _ _ _ (slot_word {ws} {rest} {vs} e s) = omega (arith, more_slots_shorter names ws rest vs s)
more_slots_shorter names _ _ _ (slot_object {ws} {rest} {vs} e s) = omega (arith, more_slots_shorter names ws rest vs s)

pub slots_shorter : (names : Names) (ws rest : List (List ℕ)) (vs : List Value) → SpellsSlots names ws vs rest → suc (length rest) ≤ length ws
slots_shorter names _ _ _ no_slots = omega arith
slots_shorter names _ _ _ (first_word {ws} {rest} {vs} e s) = omega (arith, more_slots_shorter names ws rest vs s)
slots_shorter names _ _ _ (first_object {ws} {rest} {vs} e s) = omega (arith, more_slots_shorter names ws rest vs s)

abbrev pub FirstBack : Names → Line → Line → List (List ℕ) → Type 0
FirstBack names l m ws = SlotsBack names l m [] (SpellsSlots names ws)

pub slots_none_back : (names : Names) (l m : Line) (x : List ℕ) (ws : List (List ℕ)) → l.opened ≡ [] → bytes_eq x (codes "]") ≡ true → run names (with_frame l l.opened) ws ≡ Some m → FirstBack names l m (x ∷ ws)
slots_none_back names l m x ws none e h =
    let made : FirstBack names l m (codes "]" ∷ ws) = record { slots = []; rest = ws; spelled = no_slots; runs = ap (λ (y : List Value). run names (with_frame l y) ws) (sym none) ∙ h } in
    subst (λ (y : List ℕ). FirstBack names l m (y ∷ ws)) (sym (bytes_same x (codes "]") e)) made

pub first_word_back : (names : Names) (l m : Line) (w : List ℕ) (v : Value) (ws : List (List ℕ)) → l.opened ≡ [] → plain_value w ≡ Some v → MoreBack names (pushed l v place.SlotBehind) m ws → FirstBack names l m (w ∷ ws)
first_word_back names l m w v ws none e r =
    record { slots = v ∷ r.slots; rest = r.rest; spelled = first_word e r.spelled; runs = ap (λ (x : List Value). run names (with_frame l ((x ++ v ∷ []) ++ r.slots)) r.rest) (sym none) ∙ r.runs }

pub first_named_back : (names : Names) (l m : Line) (ws : List (List ℕ)) (o : Named names m ws (object names l place.SlotBehind)) → l.opened ≡ [] → MoreBack names (object names l place.SlotBehind o.name) m o.rest → FirstBack names l m (codes "ConstPtr" ∷ ws)
first_named_back names l m ws o none r =
    let v : Value = named_value (look o.name names.prebuilts) in
    let made : FirstBack names l m (codes "ConstPtr" ∷ codes "(" ∷ o.name ∷ codes ")" ∷ o.rest) =
    record { slots = v ∷ r.slots; rest = r.rest; spelled = first_object o.is r.spelled; runs = ap (λ (x : List Value). run names (with_frame l ((x ++ v ∷ []) ++ r.slots)) r.rest) (sym none) ∙ r.runs } in
    subst (λ (x : List (List ℕ)). FirstBack names l m (codes "ConstPtr" ∷ x)) (sym o.words) made

pub slots_back : (names : Names) (l m : Line) (ws : List (List ℕ)) → l.opened ≡ [] → is_done m.place ≡ true → run names (go l place.SlotOpen) ws ≡ Some m → FirstBack names l m ws
unfolding run
slots_back names l m [] none ends h = stuck (go l place.SlotOpen) m refl ends h
slots_back names l m (w ∷ ws) none ends h =
    elim (if_or names (bytes_eq w (codes "]")) (with_frame l l.opened) m (cond (bytes_eq w (codes "ConstPtr")) (Some (go l place.SlotPtr)) (plain_value w >>= λ v. Some (pushed l v place.SlotBehind))) ws h) [
      | inl p ↦ slots_none_back names l m w ws none p.0 p.1
      | inr p ↦ elim (if_or names (bytes_eq w (codes "ConstPtr")) (go l place.SlotPtr) m (plain_value w >>= λ v. Some (pushed l v place.SlotBehind)) ws p.1) [
        | inl q ↦
            let o = slot_object_back names l m ws ends q.1 in
            let r = first_named_back names l m ws o none (more_slots_back (length o.rest) names m ends (object names l place.SlotBehind o.name) o.rest (omega arith) o.runs) in
            subst (λ (x : List ℕ). FirstBack names l m (x ∷ ws)) (sym (bytes_same w (codes "ConstPtr") q.0)) r
        | inr q ↦
            let v = from_value names (plain_value w) (λ v. pushed l v place.SlotBehind) m ws q.1 in
            first_word_back names l m w v.0 ws none v.1 (more_slots_back (length ws) names m ends (pushed l v.0 place.SlotBehind) ws (omega arith) v.2)
      ]
    ]

-- ---- frames

abbrev pub parts_in : Line → Option Line → Parts
parts_in other None = parts_of other
parts_in other (Some l) = parts_of l

pub same_parts : (l m : Line) → Some l ≡ Some m → parts_of m ≡ parts_of l
same_parts l m e = sym (ap (parts_in l) e)

pub pc_not_plain : (n : List ℕ) (o : Option ℕ) → (o >>= λ pc. Some (head.Named n pc)) ≡ Some head.Plain → ⊥
pc_not_plain n None e = absurd cc
pc_not_plain n (Some pc) e = absurd cc

pub test_not_plain : (b : Bool) (o : Option Head) → (o ≡ Some head.Plain → ⊥) → cond b o None ≡ Some head.Plain → ⊥
test_not_plain true o f e = f e
test_not_plain false o f e = absurd cc

pub place_not_plain : (w : List ℕ) (o : Option ℕ) → (o >>= λ i. cond (is_name (take i w)) (decimal_of (2 ^ 32 - 1) (drop (i + 1) w) >>= λ pc. Some (head.Named (take i w) pc)) None) ≡ Some head.Plain → ⊥
place_not_plain w None e = absurd cc
place_not_plain w (Some i) e = test_not_plain (is_name (take i w)) _ (pc_not_plain (take i w) (decimal_of (2 ^ 32 - 1) (drop (i + 1) w))) e

pub not_plain : (w : List ℕ) → frame_head w ≡ Some head.Plain → ⊥
unfolding frame_head name_and_pc
not_plain [] e = absurd cc
not_plain (c ∷ cs) e = test_not_plain (nat_eq c 64) _ (place_not_plain cs (position (λ d. nat_eq d 58) cs)) e

pub record FramesBack (names : Names) (l m : Line) (ws : List (List ℕ)) : Type 0 where
  pub frames : List Slots
  pub spelled : SpellsFrames names ws frames
  pub parts : parts_of m ≡ parts_of (with_frames l frames)

abbrev pub FewerFrames : Names → Line → ℕ → Type 0
FewerFrames names m n = (l : Line) (ws : List (List ℕ)) → length ws ≤ n → l.opened ≡ [] → run names (go l place.Framed) ws ≡ Some m → FramesBack names l m ws

pub no_more_frames : (names : Names) (l m : Line) (p : Place) → Some (go l p) ≡ Some m → FramesBack names l m []
no_more_frames names l m p h = record { frames = []; spelled = frames_end; parts = same_parts (go l p) m h ∙ ap (λ (x : List Slots). record (parts_of l) { frames = x }) (sym (append-nil l.frames)) }

pub frame_back : (names : Names) (l m : Line) (n : ℕ) (w b : List ℕ) (ws : List (List ℕ)) (h : Head) → FewerFrames names m n → length ws ≤ n → l.opened ≡ [] → is_done m.place ≡ true → frame_head w ≡ Some h → run names (record l { head = h; place = place.FrameHead }) (b ∷ ws) ≡ Some m → FramesBack names l m (w ∷ b ∷ ws)
unfolding run
frame_back names l m n w b ws head.Plain ih le none ends e h = absurd (not_plain w e)
frame_back names l m n w b ws (head.Named name pc) ih le none ends e h =
    let next : Line = record l { head = head.Named name pc; place = place.FrameHead } in
    let q = if_some names (bytes_eq b (codes "[")) (go next place.SlotOpen) m ws h in
    let s = slots_back names next m ws none ends q.1 in
    let r = ih (with_frame next s.slots) s.rest (omega (arith, le, slots_shorter names ws s.rest s.slots s.spelled)) refl s.runs in
    let f : Slots = record { head = head.Named name pc; slots = s.slots } in
    let made : FramesBack names l m (w ∷ codes "[" ∷ ws) = record { frames = f ∷ r.frames; spelled = one_frame e s.spelled r.spelled; parts = r.parts ∙ ap (λ (x : List Slots). record (parts_of l) { frames = x }) (append_assoc l.frames (f ∷ []) r.frames) } in
    subst (λ (x : List ℕ). FramesBack names l m (w ∷ x ∷ ws)) (sym (bytes_same b (codes "[") q.0)) made

pub more_frames_back : (n : ℕ) (names : Names) (m : Line) → is_done m.place ≡ true → FewerFrames names m n
unfolding run
more_frames_back n names m ends l [] le none h = no_more_frames names l m place.Framed h
more_frames_back n names m ends l (w ∷ []) le none h =
    let p = from_head names (frame_head w) (λ x. record l { head = x; place = place.FrameHead }) m [] h in stuck (record l { head = p.0; place = place.FrameHead }) m refl ends p.2
more_frames_back zero names m ends l (w ∷ b ∷ ws) le none h = absurd (omega (arith, le))
more_frames_back (suc n) names m ends l (w ∷ b ∷ ws) le none h =
    let p = from_head names (frame_head w) (λ x. record l { head = x; place = place.FrameHead }) m (b ∷ ws) h in
    frame_back names l m n w b ws p.0 (more_frames_back n names m ends) (omega (arith, le)) none ends p.1 p.2

-- ---- a snapshot

pub ended_back : (names : Names) (l m : Line) (ws : List (List ℕ)) → l.place ≡ place.Ended → run names l ws ≡ Some m → (ws ≡ []) × (parts_of m ≡ parts_of l)
unfolding run
ended_back names l m [] is h = (refl, same_parts l m h)
ended_back names l m (w ∷ ws) is h = let bad = rw is at h in absurd cc

pub record SnapshotBack (names : Names) (l m : Line) (ws : List (List ℕ)) : Type 0 where
  pub frames : List Slots
  pub spelled : SpellsSnapshot names ws frames
  pub parts : parts_of m ≡ parts_of (with_frames l frames)

pub plain_back : (names : Names) (l m : Line) (w : List ℕ) (ws : List (List ℕ)) → l.head ≡ head.Plain → bytes_eq w (codes "[") ≡ true → FirstBack names l m ws → SnapshotBack names l m (w ∷ ws)
plain_back names l m w ws is e s =
    let f : Slots = record { head = head.Plain; slots = s.slots } in
    let over = ended_back names (with_frame l s.slots) m s.rest (ap frame_end is) s.runs in
    let spelled : SpellsSlots names ws s.slots [] = subst (λ (x : List (List ℕ)). SpellsSlots names ws s.slots x) over.0 s.spelled in
    let made : SnapshotBack names l m (codes "[" ∷ ws) = record { frames = f ∷ []; spelled = snapshot_plain spelled; parts = over.1 ∙ ap (λ (x : Head). record (parts_of l) { frames = l.frames ++ record { head = x; slots = s.slots } ∷ [] }) is } in
    subst (λ (x : List ℕ). SnapshotBack names l m (x ∷ ws)) (sym (bytes_same w (codes "[") e)) made

pub of_frames : (names : Names) (l m : Line) (ws : List (List ℕ)) → FramesBack names l m ws → SnapshotBack names l m ws
of_frames names l m ws r = record { frames = r.frames; spelled = snapshot_framed r.spelled; parts = r.parts }

pub framed_back : (names : Names) (l m : Line) (w : List ℕ) (ws : List (List ℕ)) (h : Head) → l.opened ≡ [] → is_done m.place ≡ true → frame_head w ≡ Some h → run names (record l { head = h; place = place.FrameHead }) ws ≡ Some m → FramesBack names l m (w ∷ ws)
unfolding run
framed_back names l m w [] hd none ends e h = stuck (record l { head = hd; place = place.FrameHead }) m refl ends h
framed_back names l m w (b ∷ ws) hd none ends e h = frame_back names l m (length ws) w b ws hd (more_frames_back (length ws) names m ends) (omega arith) none ends e h

pub snapshot_back : (names : Names) (l m : Line) (ws : List (List ℕ)) → l.opened ≡ [] → l.head ≡ head.Plain → is_done m.place ≡ true → run names (go l place.Closed) ws ≡ Some m → SnapshotBack names l m ws
unfolding run
snapshot_back names l m [] none is ends h = of_frames names l m [] (no_more_frames names l m place.Closed h)
snapshot_back names l m (w ∷ ws) none is ends h =
    elim (if_or names (bytes_eq w (codes "[")) (go l place.SlotOpen) m (frame_head w >>= λ x. Some (record l { head = x; place = place.FrameHead })) ws h) [
      | inl p ↦ plain_back names l m w ws is p.0 (slots_back names l m ws none ends p.1)
      | inr p ↦
          let q = from_head names (frame_head w) (λ x. record l { head = x; place = place.FrameHead }) m ws p.1 in
          of_frames names l m (w ∷ ws) (framed_back names l m w ws q.0 none ends q.1 q.2)
    ]
