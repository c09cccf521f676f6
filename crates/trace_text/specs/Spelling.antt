-- How the line of an operation is spelled, from a word on up to the words behind it.
use Rattle.std.specs.Prelude.{◌≡◌, ℕ, true, Option, Some, None, List, [], ◌∷◌, codes}
use Rattle.text_lines.specs.Words.{is_name}
use Rattle.text_lines.specs.Numbers.{box_of}
use Rattle.text_lines.specs.declared.number.Letter.{Letter}
use Rattle.trace_ops.specs.declared.trace.Origin.{Origin}
use Rattle.trace_ops.specs.declared.trace.Origin.TheVariants as origin
use Rattle.trace_text.specs.declared.value.Value.{Value}
use Rattle.trace_text.specs.declared.value.Head.TheVariants as head
use Rattle.trace_text.specs.declared.line.Line.{Line}
use Rattle.trace_text.specs.declared.line.Slots.{Slots}
use Rattle.trace_text.specs.declared.heading.Heading.{Heading}
use Rattle.trace_text.specs.Heading.{guard_name}
use Rattle.trace_text.specs.Names.{Names, look}
use Rattle.trace_text.specs.Values.{plain_value, named_value, frame_head}

-- slots behind one, and the bracket behind the last
pub data MoreSlots (names : Names) : List (List ℕ) → List Value → List (List ℕ) → Type 0 where
  slots_end : {rest : List (List ℕ)} → MoreSlots names (codes "]" ∷ rest) [] rest
  slot_word : {w : List ℕ} {v : Value} {ws rest : List (List ℕ)} {vs : List Value} → plain_value w ≡ Some v → MoreSlots names ws vs rest → MoreSlots names (codes "," ∷ w ∷ ws) (v ∷ vs) rest
  slot_object : {n : List ℕ} {ws rest : List (List ℕ)} {vs : List Value} → is_name n ≡ true → MoreSlots names ws vs rest → MoreSlots names (codes "," ∷ codes "ConstPtr" ∷ codes "(" ∷ n ∷ codes ")" ∷ ws) (named_value (look n names.prebuilts) ∷ vs) rest

-- slots behind an opening bracket
pub data SpellsSlots (names : Names) : List (List ℕ) → List Value → List (List ℕ) → Type 0 where
  no_slots : {rest : List (List ℕ)} → SpellsSlots names (codes "]" ∷ rest) [] rest
  first_word : {w : List ℕ} {v : Value} {ws rest : List (List ℕ)} {vs : List Value} → plain_value w ≡ Some v → MoreSlots names ws vs rest → SpellsSlots names (w ∷ ws) (v ∷ vs) rest
  first_object : {n : List ℕ} {ws rest : List (List ℕ)} {vs : List Value} → is_name n ≡ true → MoreSlots names ws vs rest → SpellsSlots names (codes "ConstPtr" ∷ codes "(" ∷ n ∷ codes ")" ∷ ws) (named_value (look n names.prebuilts) ∷ vs) rest

-- frames with names and pcs, up to the end of the line
pub data SpellsFrames (names : Names) : List (List ℕ) → List Slots → Type 0 where
  frames_end : SpellsFrames names [] []
  one_frame : {w n : List ℕ} {pc : ℕ} {ws rest : List (List ℕ)} {vs : List Value} {fs : List Slots} → frame_head w ≡ Some (head.Named n pc) → SpellsSlots names ws vs rest → SpellsFrames names rest fs → SpellsFrames names (w ∷ codes "[" ∷ ws) (record { head = head.Named n pc; slots = vs } ∷ fs)

-- nothing, frames, or one frame without name and pc
pub data SpellsSnapshot (names : Names) : List (List ℕ) → List Slots → Type 0 where
  snapshot_framed : {ws : List (List ℕ)} {fs : List Slots} → SpellsFrames names ws fs → SpellsSnapshot names ws fs
  snapshot_plain : {ws : List (List ℕ)} {vs : List Value} → SpellsSlots names ws vs [] → SpellsSnapshot names (codes "[" ∷ ws) (record { head = head.Plain; slots = vs } ∷ [])

-- arguments behind one, a descr, and the bracket behind the last
pub data MoreArgs (names : Names) : List (List ℕ) → List Value → Option (List ℕ) → List (List ℕ) → Type 0 where
  args_end : {rest : List (List ℕ)} → MoreArgs names (codes ")" ∷ rest) [] None rest
  args_descr : {n : List ℕ} {rest : List (List ℕ)} → is_name n ≡ true → MoreArgs names (codes "," ∷ codes "descr" ∷ codes "=" ∷ n ∷ codes ")" ∷ rest) [] (Some n) rest
  arg_word : {w : List ℕ} {v : Value} {ws rest : List (List ℕ)} {vs : List Value} {d : Option (List ℕ)} → plain_value w ≡ Some v → MoreArgs names ws vs d rest → MoreArgs names (codes "," ∷ w ∷ ws) (v ∷ vs) d rest
  arg_class : {n : List ℕ} {ws rest : List (List ℕ)} {vs : List Value} {d : Option (List ℕ)} → is_name n ≡ true → MoreArgs names ws vs d rest → MoreArgs names (codes "," ∷ codes "ConstClass" ∷ codes "(" ∷ n ∷ codes ")" ∷ ws) (named_value (look n names.classes) ∷ vs) d rest
  arg_object : {n : List ℕ} {ws rest : List (List ℕ)} {vs : List Value} {d : Option (List ℕ)} → is_name n ≡ true → MoreArgs names ws vs d rest → MoreArgs names (codes "," ∷ codes "ConstPtr" ∷ codes "(" ∷ n ∷ codes ")" ∷ ws) (named_value (look n names.prebuilts) ∷ vs) d rest

-- arguments behind an opening bracket
pub data SpellsArgs (names : Names) : List (List ℕ) → List Value → Option (List ℕ) → List (List ℕ) → Type 0 where
  no_args : {rest : List (List ℕ)} → SpellsArgs names (codes ")" ∷ rest) [] None rest
  descr_alone : {n : List ℕ} {rest : List (List ℕ)} → is_name n ≡ true → SpellsArgs names (codes "descr" ∷ codes "=" ∷ n ∷ codes ")" ∷ rest) [] (Some n) rest
  begins_word : {w : List ℕ} {v : Value} {ws rest : List (List ℕ)} {vs : List Value} {d : Option (List ℕ)} → plain_value w ≡ Some v → MoreArgs names ws vs d rest → SpellsArgs names (w ∷ ws) (v ∷ vs) d rest
  begins_class : {n : List ℕ} {ws rest : List (List ℕ)} {vs : List Value} {d : Option (List ℕ)} → is_name n ≡ true → MoreArgs names ws vs d rest → SpellsArgs names (codes "ConstClass" ∷ codes "(" ∷ n ∷ codes ")" ∷ ws) (named_value (look n names.classes) ∷ vs) d rest
  begins_object : {n : List ℕ} {ws rest : List (List ℕ)} {vs : List Value} {d : Option (List ℕ)} → is_name n ≡ true → MoreArgs names ws vs d rest → SpellsArgs names (codes "ConstPtr" ∷ codes "(" ∷ n ∷ codes ")" ∷ ws) (named_value (look n names.prebuilts) ∷ vs) d rest

-- the result, the name, the arguments, the descr and the frames of a line
pub record Parts : Type 0 where
  pub made : Option (Letter × ℕ)
  pub name : List ℕ
  pub args : List Value
  pub descr : Option (List ℕ)
  pub frames : List Slots

abbrev pub parts_of : Line → Parts
parts_of l = record { made = l.made; name = l.name; args = l.args; descr = l.descr; frames = l.frames }

-- an operation or a label: name(..), or box = name(..), and fail arguments
pub data SpellsLine (names : Names) : List (List ℕ) → Parts → Type 0 where
  line_alone : {n : List ℕ} {ws rest : List (List ℕ)} {vs : List Value} {d : Option (List ℕ)} {fs : List Slots} → is_name n ≡ true → SpellsArgs names ws vs d rest → SpellsSnapshot names rest fs → SpellsLine names (n ∷ codes "(" ∷ ws) (record { made = None; name = n; args = vs; descr = d; frames = fs })
  line_made : {b n : List ℕ} {x : Letter × ℕ} {ws rest : List (List ℕ)} {vs : List Value} {d : Option (List ℕ)} {fs : List Slots} → is_name b ≡ true → box_of b ≡ Some x → is_name n ≡ true → SpellsArgs names ws vs d rest → SpellsSnapshot names rest fs → SpellsLine names (b ∷ codes "=" ∷ n ∷ codes "(" ∷ ws) (record { made = Some x; name = n; args = vs; descr = d; frames = fs })

-- %loop NAME, or %bridge NAME from T/k
abbrev pub SpellsOrigin : List (List ℕ) → Origin → Type 0
SpellsOrigin ws origin.Loop = ws ≡ []
SpellsOrigin ws (origin.Bridge parent guard) = (w : List ℕ) × (ws ≡ codes "from" ∷ w ∷ []) × (guard_name w ≡ Some (origin.Bridge parent guard))

abbrev pub key_of : Origin → List ℕ
key_of origin.Loop = codes "%loop"
key_of (origin.Bridge parent guard) = codes "%bridge"

abbrev pub SpellsHeading : List (List ℕ) → Heading → Type 0
SpellsHeading ws h = (rest : List (List ℕ)) × (ws ≡ key_of h.origin ∷ h.name ∷ rest) × (is_name h.name ≡ true) × SpellsOrigin rest h.origin
