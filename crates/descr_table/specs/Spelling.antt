-- How each form is spelled.
use Rattle.std.specs.Prelude.{◌≡◌, ℕ, Bool, true, false, Option, Some, None, List, [], ◌∷◌, ◌++◌, map, codes}
use Rattle.std.specs.Str.{bytes_eq}
use Rattle.std.specs.List.{AllByRecursion}
use Rattle.text_lines.specs.Words.{is_name}
use Rattle.trace_ops.specs.declared.trace.Kind.{Kind}
use Rattle.trace_ops.specs.declared.trace.Kind.TheVariants as kind
use Rattle.descr_table.specs.declared.form.Form.{Form}
use Rattle.descr_table.specs.declared.form.Form.TheVariants.{Size, Field, Array, Call, Function, Object, Items}
use Rattle.descr_table.specs.declared.form.Given.{Given}
use Rattle.descr_table.specs.declared.form.Part.{Part}
use Rattle.descr_table.specs.Words.{given_of}

abbrev pub kind_letter : Kind → ℕ
kind_letter kind.Int = 105
kind_letter kind.Ref = 114

abbrev pub kind_word : Kind → List ℕ
kind_word k = kind_letter k ∷ []

-- one letter a kind, or - for none
abbrev pub kinds_word : List Kind → List ℕ
kinds_word [] = codes "-"
kinds_word (k ∷ ks) = map kind_letter (k ∷ ks)

abbrev pub result_word : Option Kind → List ℕ
result_word None = codes "n"
result_word (Some k) = kind_word k

abbrev pub immutable_words : Bool → List (List ℕ)
immutable_words false = []
immutable_words true = codes "immutable" ∷ []

abbrev pub vtable_words : Option (List ℕ) → List (List ℕ)
vtable_words None = []
vtable_words (Some v) = codes "vtable" ∷ v ∷ []

-- nothing, or the key and the names
abbrev pub listed_words : List ℕ → List (List ℕ) → List (List ℕ)
listed_words key [] = []
listed_words key (n ∷ ns) = key ∷ n ∷ ns

-- name = value, one behind the other
abbrev pub SpellsParts : List (List ℕ) → List Part → Type 0
SpellsParts [] [] = Unit {0}
SpellsParts [] (p ∷ ps) = ⊥
SpellsParts (n ∷ []) ps = ⊥
SpellsParts (n ∷ q ∷ []) ps = ⊥
SpellsParts (n ∷ q ∷ v ∷ ws) [] = ⊥
SpellsParts (n ∷ q ∷ v ∷ ws) (p ∷ ps) = (n ≡ p.name) × (q ≡ codes "=") × (given_of v ≡ Some p.value) × SpellsParts ws ps

-- values with a comma between them, and a bracket behind the last
abbrev pub SpellsItems : List (List ℕ) → List Given → Type 0
SpellsItems ws [] = ws ≡ codes "]" ∷ []
SpellsItems [] (x ∷ xs) = ⊥
SpellsItems (v ∷ []) (x ∷ xs) = ⊥
SpellsItems (v ∷ m ∷ ws) (x ∷ []) = (given_of v ≡ Some x) × (m ≡ codes "]") × (ws ≡ [])
SpellsItems (v ∷ m ∷ ws) (x ∷ y ∷ ys) = (given_of v ≡ Some x) × (m ≡ codes ",") × SpellsItems ws (y ∷ ys)

-- the words of a line that says this form
abbrev pub Spells : List (List ℕ) → Form → Type 0
Spells ws (Size name vtable) = ws ≡ codes "size" ∷ name ∷ vtable_words vtable
Spells ws (Field name size k immutable) = ws ≡ codes "field" ∷ name ∷ codes "of" ∷ size ∷ kind_word k ∷ immutable_words immutable
Spells ws (Array name k) = ws ≡ codes "array" ∷ name ∷ kind_word k ∷ []
Spells ws (Call name args gives reads writes) = ws ≡ codes "calldescr" ∷ name ∷ codes "args" ∷ kinds_word args ∷ codes "result" ∷ result_word gives ∷ (listed_words (codes "reads") reads ++ listed_words (codes "writes") writes)
Spells ws (Function name) = ws ≡ codes "function" ∷ name ∷ []
Spells ws (Object name size fields) = (rest : List (List ℕ)) × (ws ≡ codes "prebuilt" ∷ name ∷ size ∷ rest) × SpellsParts rest fields
Spells ws (Items name array items) = (rest : List (List ℕ)) × (ws ≡ codes "prebuilt" ∷ name ∷ array ∷ codes "[" ∷ rest) × SpellsItems rest items

abbrev pub IsNameOrNone : Option (List ℕ) → Type 0
IsNameOrNone None = Unit {0}
IsNameOrNone (Some v) = is_name v ≡ true

-- a name of a field that may be read: the word writes begins the other list
abbrev pub IsReadName : List ℕ → Type 0
IsReadName n = (bytes_eq n (codes "writes") ≡ false) × (is_name n ≡ true)

-- its names are names
abbrev pub IsForm : Form → Type 0
IsForm (Size name vtable) = (is_name name ≡ true) × IsNameOrNone vtable
IsForm (Field name size k immutable) = (is_name name ≡ true) × (is_name size ≡ true)
IsForm (Array name k) = is_name name ≡ true
IsForm (Call name args gives reads writes) = (is_name name ≡ true) × AllByRecursion IsReadName reads × AllByRecursion (λ n. is_name n ≡ true) writes
IsForm (Function name) = is_name name ≡ true
IsForm (Object name size fields) = (is_name name ≡ true) × (is_name size ≡ true) × AllByRecursion (λ p. is_name p.name ≡ true) fields
IsForm (Items name array items) = (is_name name ≡ true) × (is_name array ≡ true)
