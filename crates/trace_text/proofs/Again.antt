-- What is spelled is read.
use Rattle.std.proofs.Common.{◌≡◌, ℕ, true, false, List, [], ◌∷◌, ◌++◌, Option, Some, None, refl, sym, ap, ◌∙◌, append_assoc}
use Rattle.std.proofs.lemmas.List.{append-nil}
use Rattle.std.specs.Prelude.{codes}
use Rattle.std.specs.Str.{bytes_eq}
use Rattle.std.proofs.lemmas.Slice.Eq.{bytes_eq-Decides}
use Rattle.lists.specs.Binds.{◌>>=◌}
use Rattle.text_lines.specs.Numbers.{box_of, integer_of, decimal_of, decimal_behind}
use Rattle.trace_text.specs.declared.value.Value.{Value}
use Rattle.trace_text.specs.declared.value.Head.TheVariants as head
use Rattle.trace_text.specs.declared.line.Line.{Line}
use Rattle.trace_text.specs.declared.line.Slots.{Slots}
use Rattle.trace_text.specs.declared.line.Place.{Place}
use Rattle.trace_text.specs.declared.line.Place.TheVariants as place
use Rattle.trace_text.specs.Names.{Names, look}
use Rattle.trace_text.specs.Values.{plain_value, named_value, frame_head}
use Rattle.trace_text.specs.Line.{run, start, go, done, is_done, op_at, inputs_at, from, frame_end}
use Rattle.trace_text.specs.Spelling.{MoreSlots, slots_end, slot_word, slot_object, SpellsSlots, no_slots, first_word, first_object, SpellsFrames, frames_end, one_frame, SpellsSnapshot, snapshot_framed, snapshot_plain, MoreArgs, args_end, args_descr, arg_word, arg_class, arg_object, SpellsArgs, no_args, descr_alone, begins_word, begins_class, begins_object, Parts, parts_of, SpellsLine, line_alone, line_made}

-- a word that is a value is none of the words with a meaning of their own
other : (w key : List ℕ) (v : Value) → plain_value w ≡ Some v → plain_value key ≡ None → bytes_eq w key ≡ false
other w key v e n = elim (bytes_eq w key) as (λ b. bytes_eq w key ≡ b → b ≡ false) [
  | true ↦ λ h. let same : w ≡ key = (bytes_eq-Decides w key).0 h in let bad : Some v ≡ None = sym e ∙ ap plain_value same ∙ n in absurd cc
  | false ↦ λ h. refl
] refl

no_descr : plain_value (codes "descr") ≡ None
unfolding plain_value box_of integer_of decimal_of decimal_behind
no_descr = refl

no_class : plain_value (codes "ConstClass") ≡ None
unfolding plain_value box_of integer_of decimal_of decimal_behind
no_class = refl

no_ptr : plain_value (codes "ConstPtr") ≡ None
unfolding plain_value box_of integer_of decimal_of decimal_behind
no_ptr = refl

no_bracket : plain_value (codes "]") ≡ None
unfolding plain_value box_of integer_of decimal_of decimal_behind
no_bracket = refl

no_round : plain_value (codes ")") ≡ None
unfolding plain_value box_of integer_of decimal_of decimal_behind
no_round = refl

-- a frame that ends with these slots
abbrev pub with_frame : Line → List Value → Line
with_frame l vs = record l { frames = l.frames ++ record { head = l.head; slots = vs } ∷ []; opened = []; place = frame_end l.head }

abbrev pub pushed : Line → Value → Place → Line
pushed l v p = record l { opened = l.opened ++ v ∷ []; place = p }

more_slots : (names : Names) (l : Line) (ws rest : List (List ℕ)) (vs : List Value) → MoreSlots names ws vs rest → run names (go l place.SlotBehind) ws ≡ run names (with_frame l (l.opened ++ vs)) rest
unfolding run
more_slots names l ws rest vs slots_end = rw (append-nil l.opened) refl
more_slots names l ws rest vs (slot_word {w} {v} {ws = us} {vs = xs} e s) =
    rw (other w (codes "ConstPtr") v e no_ptr, e) (more_slots names (pushed l v place.SlotBehind) us rest xs s ∙ ap (λ x. run names (with_frame l x) rest) (append_assoc l.opened (v ∷ []) xs))
more_slots names l ws rest vs (slot_object {n} {ws = us} {vs = xs} h s) =
    rw h (more_slots names (pushed l (named_value (look n names.prebuilts)) place.SlotBehind) us rest xs s ∙ ap (λ x. run names (with_frame l x) rest) (append_assoc l.opened (named_value (look n names.prebuilts) ∷ []) xs))

slots : (names : Names) (l : Line) (ws rest : List (List ℕ)) (vs : List Value) → l.opened ≡ [] → SpellsSlots names ws vs rest → run names (go l place.SlotOpen) ws ≡ run names (with_frame l vs) rest
unfolding run
slots names l ws rest vs none no_slots = rw none refl
slots names l ws rest vs none (first_word {w} {v} {ws = us} {vs = xs} e s) =
    rw (other w (codes "]") v e no_bracket, other w (codes "ConstPtr") v e no_ptr, e) (more_slots names (pushed l v place.SlotBehind) us rest xs s ∙ ap (λ (x : List Value). run names (with_frame l ((x ++ v ∷ []) ++ xs)) rest) none)
slots names l ws rest vs none (first_object {n} {ws = us} {vs = xs} h s) =
    rw h (more_slots names (pushed l (named_value (look n names.prebuilts)) place.SlotBehind) us rest xs s ∙ ap (λ (x : List Value). run names (with_frame l ((x ++ named_value (look n names.prebuilts) ∷ []) ++ xs)) rest) none)

-- frames behind those so far
abbrev pub with_frames : Line → List Slots → Line
with_frames l fs = record l { frames = l.frames ++ fs }

-- the words lead to the end of a line with these parts
record Reads (names : Names) (l : Line) (ws : List (List ℕ)) (p : Parts) : Type 0 where
  line : Line
  runs : run names l ws ≡ Some line
  parts : parts_of line ≡ p
  is : is_done line.place ≡ true

more_frames : (names : Names) (l : Line) (ws : List (List ℕ)) (fs : List Slots) → l.opened ≡ [] → SpellsFrames names ws fs → Reads names (go l place.Framed) ws (parts_of (with_frames l fs))
unfolding run
more_frames names l ws fs none frames_end = record { line = go l place.Framed; runs = refl; parts = rw (append-nil l.frames) refl; is = refl }
more_frames names l ws fs none (one_frame {w} {n} {pc} {ws = us} {rest} {vs} {fs = gs} e s more) =
    let next : Line = record l { head = head.Named n pc; place = place.FrameHead } in
    let f : Slots = record { head = head.Named n pc; slots = vs } in
    let r = more_frames names (with_frame next vs) rest gs refl more in
    record { line = r.line; runs = rw e (slots names next us rest vs none s ∙ r.runs); parts = r.parts ∙ ap (λ (x : List Slots). record (parts_of l) { frames = x }) (append_assoc l.frames (f ∷ []) gs); is = r.is }

other_head : (w n : List ℕ) (pc : ℕ) → frame_head w ≡ Some (head.Named n pc) → bytes_eq w (codes "[") ≡ false
unfolding frame_head
other_head w n pc e = elim (bytes_eq w (codes "[")) as (λ b. bytes_eq w (codes "[") ≡ b → b ≡ false) [
  | true ↦ λ h. let same : w ≡ codes "[" = (bytes_eq-Decides w (codes "[")).0 h in let bad : Some (head.Named n pc) ≡ None = sym e ∙ ap frame_head same in absurd cc
  | false ↦ λ h. refl
] refl

snapshot : (names : Names) (l : Line) (ws : List (List ℕ)) (fs : List Slots) → l.opened ≡ [] → l.head ≡ head.Plain → SpellsSnapshot names ws fs → Reads names (go l place.Closed) ws (parts_of (with_frames l fs))
unfolding run
snapshot names l ws fs none is (snapshot_framed frames_end) = record { line = go l place.Closed; runs = refl; parts = rw (append-nil l.frames) refl; is = refl }
snapshot names l ws fs none is (snapshot_framed (one_frame {w} {n} {pc} {ws = us} {rest} {vs} {fs = gs} e s more)) =
    let next : Line = record l { head = head.Named n pc; place = place.FrameHead } in
    let f : Slots = record { head = head.Named n pc; slots = vs } in
    let r = more_frames names (with_frame next vs) rest gs refl more in
    record { line = r.line; runs = rw (other_head w n pc e, e) (slots names next us rest vs none s ∙ r.runs); parts = r.parts ∙ ap (λ (x : List Slots). record (parts_of l) { frames = x }) (append_assoc l.frames (f ∷ []) gs); is = r.is }
snapshot names l ws fs none is (snapshot_plain {ws = us} {vs} s) =
    record { line = with_frame l vs; runs = slots names (go l place.Closed) us [] vs none s; parts = rw is refl; is = rw is refl }

-- a line whose arguments are closed
abbrev pub with_args : Line → List Value → Option (List ℕ) → Line
with_args l vs d = record l { args = vs; opened = []; descr = d; place = place.Closed }

more_args : (names : Names) (l : Line) (ws rest : List (List ℕ)) (vs : List Value) (d : Option (List ℕ)) → l.descr ≡ None → MoreArgs names ws vs d rest → run names (go l place.Behind) ws ≡ run names (with_args l (l.opened ++ vs) d) rest
unfolding run
more_args names l ws rest vs d undescribed args_end = rw (append-nil l.opened, undescribed) refl
more_args names l ws rest vs d undescribed (args_descr h) = rw (h, append-nil l.opened) refl
more_args names l ws rest vs d undescribed (arg_word {w} {v} {ws = us} {vs = xs} e s) =
    rw (other w (codes "descr") v e no_descr, other w (codes "ConstClass") v e no_class, other w (codes "ConstPtr") v e no_ptr, e) (more_args names (pushed l v place.Behind) us rest xs d undescribed s ∙ ap (λ x. run names (with_args l x d) rest) (append_assoc l.opened (v ∷ []) xs))
more_args names l ws rest vs d undescribed (arg_class {n} {ws = us} {vs = xs} h s) =
    let v : Value = named_value (look n names.classes) in
    rw h (more_args names (pushed l v place.Behind) us rest xs d undescribed s ∙ ap (λ x. run names (with_args l x d) rest) (append_assoc l.opened (v ∷ []) xs))
more_args names l ws rest vs d undescribed (arg_object {n} {ws = us} {vs = xs} h s) =
    let v : Value = named_value (look n names.prebuilts) in
    rw h (more_args names (pushed l v place.Behind) us rest xs d undescribed s ∙ ap (λ x. run names (with_args l x d) rest) (append_assoc l.opened (v ∷ []) xs))

args : (names : Names) (l : Line) (ws rest : List (List ℕ)) (vs : List Value) (d : Option (List ℕ)) → l.opened ≡ [] → l.descr ≡ None → SpellsArgs names ws vs d rest → run names (go l place.Open) ws ≡ run names (with_args l vs d) rest
unfolding run
args names l ws rest vs d none undescribed no_args = rw (none, undescribed) refl
args names l ws rest vs d none undescribed (descr_alone h) = rw (h, none) refl
args names l ws rest vs d none undescribed (begins_word {w} {v} {ws = us} {vs = xs} e s) =
    rw (other w (codes ")") v e no_round, other w (codes "descr") v e no_descr, other w (codes "ConstClass") v e no_class, other w (codes "ConstPtr") v e no_ptr, e) (more_args names (pushed l v place.Behind) us rest xs d undescribed s ∙ ap (λ (x : List Value). run names (with_args l ((x ++ v ∷ []) ++ xs) d) rest) none)
args names l ws rest vs d none undescribed (begins_class {n} {ws = us} {vs = xs} h s) =
    let v : Value = named_value (look n names.classes) in
    rw h (more_args names (pushed l v place.Behind) us rest xs d undescribed s ∙ ap (λ (x : List Value). run names (with_args l ((x ++ v ∷ []) ++ xs) d) rest) none)
args names l ws rest vs d none undescribed (begins_object {n} {ws = us} {vs = xs} h s) =
    let v : Value = named_value (look n names.prebuilts) in
    rw h (more_args names (pushed l v place.Behind) us rest xs d undescribed s ∙ ap (λ (x : List Value). run names (with_args l ((x ++ v ∷ []) ++ xs) d) rest) none)

call : (names : Names) (l : Line) (ws rest : List (List ℕ)) (vs : List Value) (d : Option (List ℕ)) (fs : List Slots) → l.opened ≡ [] → l.frames ≡ [] → l.descr ≡ None → l.head ≡ head.Plain → SpellsArgs names ws vs d rest → SpellsSnapshot names rest fs → Reads names (go l place.Open) ws (record { made = l.made; name = l.name; args = vs; descr = d; frames = fs })
call names l ws rest vs d fs none empty undescribed is a s =
    let r = snapshot names (with_args l vs d) rest fs refl is s in
    record { line = r.line; runs = args names l ws rest vs d none undescribed a ∙ r.runs; parts = r.parts ∙ ap (λ (x : List Slots). record { made = l.made; name = l.name; args = vs; descr = d; frames = x ++ fs }) empty; is = r.is }

reads_line : (names : Names) (ws : List (List ℕ)) (p : Parts) → SpellsLine names ws p → Reads names (go start place.Start) ws p
unfolding run
reads_line names ws p (line_alone {n} {ws = us} {rest} {vs} {d} {fs} h a s) =
    let r = call names (record start { name = n; place = place.First }) us rest vs d fs refl refl refl refl a s in
    record { line = r.line; runs = rw h r.runs; parts = r.parts; is = r.is }
reads_line names ws p (line_made {b} {n} {x} {ws = us} {rest} {vs} {d} {fs} g e h a s) =
    let r = call names (record start { made = Some x; name = n; place = place.Named }) us rest vs d fs refl refl refl refl a s in
    record { line = r.line; runs = rw (g, e, h) r.runs; parts = r.parts; is = r.is }

pub line_again : (names : Names) (ws : List (List ℕ)) (p : Parts) → SpellsLine names ws p → (l : Line) × (op_at names ws ≡ Some l) × (parts_of l ≡ p)
unfolding from
line_again names ws p s =
    let r = reads_line names ws p s in
    (r.line, ap (λ o. o >>= done) r.runs ∙ rw r.is refl, r.parts)

pub inputs_again : (names : Names) (ws : List (List ℕ)) (fs : List Slots) → SpellsSnapshot names ws fs → (l : Line) × (inputs_at names ws ≡ Some l) × (l.frames ≡ fs)
unfolding from
inputs_again names ws fs s =
    let r = snapshot names start ws fs refl refl s in
    (r.line, ap (λ o. o >>= done) r.runs ∙ rw r.is refl, ap (λ (q : Parts). q.frames) r.parts)

-- brackets alone
pub plain_inputs_again : (names : Names) (ws : List (List ℕ)) (vs : List Value) → SpellsSlots names ws vs [] → inputs_at names (codes "[" ∷ ws) ≡ Some (with_frame start vs)
unfolding from run
plain_inputs_again names ws vs s = ap (λ o. o >>= done) (slots names (go start place.Closed) ws [] vs refl s)
