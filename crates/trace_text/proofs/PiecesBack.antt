-- Lines of traces piece by piece: the words of what is written.
use Rattle.std.proofs.Common.{◌≡◌, ℕ, ◌<◌, ◌^◌, Bool, true, false, eqb, leb, List, [], ◌∷◌, ◌++◌, length, Option, Some, None, refl, sym, ap, subst, ◌∙◌, arith, append_assoc}
use Rattle.std.proofs.lemmas.List.{append-nil}
use Rattle.std.proofs.lemmas.Bool.{lt-ltb}
use Rattle.std.specs.Prelude.{codes, nat_lt, ◌&&◌}
use Rattle.std.specs.List.{flat_map}
use Rattle.std.specs.Fmt.{signed_decimal}
use Rattle.lists.proofs.Tests.{list_all_append}
use Rattle.text_lines.specs.Words.{words, is_name, is_mark, is_word_byte, begins_word, is_plain}
use Rattle.text_lines.specs.Written.{IsWord}
use Rattle.text_lines.specs.Laws.{Says}
use Rattle.trace_ops.specs.declared.trace.BoxId.{BoxId}
use Rattle.trace_ops.specs.declared.trace.Arg.{Arg}
use Rattle.trace_ops.specs.declared.trace.Arg.TheVariants as arg
use Rattle.trace_ops.specs.declared.trace.Descr.{Descr}
use Rattle.trace_ops.specs.declared.trace.Descr.TheVariants as descr
use Rattle.trace_ops.specs.declared.trace.Frame.{Frame}
use Rattle.trace_ops.specs.declared.table.Table.{Table}
use Rattle.descr_table.specs.Names.{prebuilt_name, vtable_name, function_name}
use Rattle.trace_text.specs.Writing.{box_text, class_text, object_text, arg_text, more_args, args_text, more_boxes, boxes_text, cited_text, descr_text, frame_text, snapshot_text, made_text}
use Rattle.trace_text.proofs.ReadSets.{Each, NameOrNone, ReadsArg, ReadsSlot, ReadsFrame, ReadsResult}
use Rattle.trace_text.proofs.ReadLines.{slot_is_arg}
use Rattle.trace_text.proofs.KeyNames.{descr_name}
use Rattle.trace_text.proofs.WordsBack.{box_is_word, frame_word, frame_is_word}
use Rattle.trace_text.proofs.Below.{TextLaws}

abbrev Words : Type 0
Words = List (List ℕ)

-- ---- pieces

-- a piece that may end with a word: what stands behind it begins none
pub record Loose (text : List ℕ) (ws : List (List ℕ)) : Type 0 where
  pub words_are : (rest : List ℕ) → begins_word rest ≡ false → words (text ++ rest) ≡ ws ++ words rest
  pub plain : is_plain text ≡ true

-- a piece that ends with a mark or a space
pub record Tight (text : List ℕ) (ws : List (List ℕ)) : Type 0 where
  pub words_are : (rest : List ℕ) → words (text ++ rest) ≡ ws ++ words rest
  pub plain : is_plain text ≡ true

pub loose_word : (laws : TextLaws) (w : List ℕ) → IsWord w → Loose w (w ∷ [])
loose_word laws w h = record { words_are = λ rest e. laws.spelled.pieces.word_behind w rest h e; plain = h.plain }

loosely : (text : List ℕ) (ws : Words) → Tight text ws → Loose text ws
loosely text ws h = record { words_are = λ rest e. h.words_are rest; plain = h.plain }

pub tight_nothing : Tight [] []
tight_nothing = record { words_are = λ rest. refl; plain = refl }

pub tight_space : Tight (32 ∷ []) []
unfolding words
tight_space = record { words_are = λ rest. refl; plain = refl }

tight_mark : (laws : TextLaws) (m : ℕ) → is_word_byte m ≡ false → eqb m 32 ≡ false → (leb 32 m && leb m 126) ≡ true → Tight (m ∷ []) ((m ∷ []) ∷ [])
tight_mark laws m b s p = record { words_are = λ rest. laws.spelled.pieces.alone m rest s (rw b refl); plain = rw p refl }

tight_open : (laws : TextLaws) → Tight (40 ∷ []) (codes "(" ∷ [])
unfolding is_word_byte is_mark
tight_open laws = tight_mark laws 40 refl refl refl

tight_close : (laws : TextLaws) → Tight (41 ∷ []) (codes ")" ∷ [])
unfolding is_word_byte is_mark
tight_close laws = tight_mark laws 41 refl refl refl

tight_comma : (laws : TextLaws) → Tight (44 ∷ []) (codes "," ∷ [])
unfolding is_word_byte is_mark
tight_comma laws = tight_mark laws 44 refl refl refl

tight_equals : (laws : TextLaws) → Tight (61 ∷ []) (codes "=" ∷ [])
unfolding is_word_byte is_mark
tight_equals laws = tight_mark laws 61 refl refl refl

pub tight_bracket : (laws : TextLaws) → Tight (91 ∷ []) (codes "[" ∷ [])
unfolding is_word_byte is_mark
tight_bracket laws = tight_mark laws 91 refl refl refl

tight_end : (laws : TextLaws) → Tight (93 ∷ []) (codes "]" ∷ [])
unfolding is_word_byte is_mark
tight_end laws = tight_mark laws 93 refl refl refl

both_plain : (a b : List ℕ) → is_plain a ≡ true → is_plain b ≡ true → is_plain (a ++ b) ≡ true
both_plain a b h i = list_all_append (λ c. leb 32 c && leb c 126) a b h i

pub tight_both : (a b : List ℕ) (u v : Words) → Tight a u → Tight b v → Tight (a ++ b) (u ++ v)
tight_both a b u v h i = record {
  words_are = λ rest. ap words (append_assoc a b rest) ∙ h.words_are (b ++ rest) ∙ ap (λ (x : Words). u ++ x) (i.words_are rest) ∙ sym (append_assoc u v (words rest));
  plain = both_plain a b h.plain i.plain;
}

pub tight_loose : (a b : List ℕ) (u v : Words) → Tight a u → Loose b v → Loose (a ++ b) (u ++ v)
tight_loose a b u v h i = record {
  words_are = λ rest e. ap words (append_assoc a b rest) ∙ h.words_are (b ++ rest) ∙ ap (λ (x : Words). u ++ x) (i.words_are rest e) ∙ sym (append_assoc u v (words rest));
  plain = both_plain a b h.plain i.plain;
}

-- a mark or a space behind a word
pub loose_tight : (a b : List ℕ) (u v : Words) → Loose a u → Tight b v → ((rest : List ℕ) → begins_word (b ++ rest) ≡ false) → Tight (a ++ b) (u ++ v)
loose_tight a b u v h i apart = record {
  words_are = λ rest. ap words (append_assoc a b rest) ∙ h.words_are (b ++ rest) (apart rest) ∙ ap (λ (x : Words). u ++ x) (i.words_are rest) ∙ sym (append_assoc u v (words rest));
  plain = both_plain a b h.plain i.plain;
}

loose_says : (a b : List ℕ) (u v : Words) → Loose a u → Says b v → Loose (a ++ b) (u ++ v)
loose_says a b u v h i = record {
  words_are = λ rest e. ap words (append_assoc a b rest) ∙ h.words_are (b ++ rest) (i.apart rest e) ∙ ap (λ (x : Words). u ++ x) (i.words_are rest e) ∙ sym (append_assoc u v (words rest));
  plain = both_plain a b h.plain i.plain;
}

open_apart : (rest : List ℕ) → begins_word (40 ∷ rest) ≡ false
unfolding is_word_byte is_mark
open_apart rest = refl

close_apart : (rest : List ℕ) → begins_word (41 ∷ rest) ≡ false
unfolding is_word_byte is_mark
close_apart rest = refl

comma_apart : (rest : List ℕ) → begins_word (44 ∷ rest) ≡ false
unfolding is_word_byte is_mark
comma_apart rest = refl

equals_apart : (rest : List ℕ) → begins_word (61 ∷ rest) ≡ false
unfolding is_word_byte is_mark
equals_apart rest = refl

bracket_apart : (rest : List ℕ) → begins_word (91 ∷ rest) ≡ false
unfolding is_word_byte is_mark
bracket_apart rest = refl

end_apart : (rest : List ℕ) → begins_word (93 ∷ rest) ≡ false
unfolding is_word_byte is_mark
end_apart rest = refl

pub space_apart : (rest : List ℕ) → begins_word (32 ∷ rest) ≡ false
unfolding is_word_byte
space_apart rest = refl

pub opened : (laws : TextLaws) (a : List ℕ) (u : Words) → Loose a u → Tight (a ++ 40 ∷ []) (u ++ codes "(" ∷ [])
opened laws a u h = loose_tight a (40 ∷ []) u (codes "(" ∷ []) h (tight_open laws) open_apart

pub shut : (laws : TextLaws) (a : List ℕ) (u : Words) → Loose a u → Tight (a ++ 41 ∷ []) (u ++ codes ")" ∷ [])
shut laws a u h = loose_tight a (41 ∷ []) u (codes ")" ∷ []) h (tight_close laws) close_apart

bracketed : (laws : TextLaws) (a : List ℕ) (u : Words) → Loose a u → Tight (a ++ 91 ∷ []) (u ++ codes "[" ∷ [])
bracketed laws a u h = loose_tight a (91 ∷ []) u (codes "[" ∷ []) h (tight_bracket laws) bracket_apart

pub ended : (laws : TextLaws) (a : List ℕ) (u : Words) → Loose a u → Tight (a ++ 93 ∷ []) (u ++ codes "]" ∷ [])
ended laws a u h = loose_tight a (93 ∷ []) u (codes "]" ∷ []) h (tight_end laws) end_apart

pub spaced : (a : List ℕ) (u : Words) → Loose a u → Tight (a ++ 32 ∷ []) (u ++ [])
spaced a u h = loose_tight a (32 ∷ []) u [] h tight_space space_apart

-- the words of a whole line
pub tight_line : (text : List ℕ) (ws : Words) → Tight text ws → words text ≡ ws
unfolding words
tight_line text ws h = sym (ap words (append-nil text)) ∙ h.words_are [] ∙ append-nil ws

pub loose_line : (text : List ℕ) (ws : Words) → Loose text ws → words text ≡ ws
unfolding words
loose_line text ws h = sym (ap words (append-nil text)) ∙ h.words_are [] refl ∙ append-nil ws

-- ---- arguments

abbrev name_words : List ℕ → List ℕ → Words
name_words key n = key ∷ codes "(" ∷ n ∷ codes ")" ∷ []

abbrev pub arg_words : Table → Arg → Words
arg_words t (arg.Of b) = box_text b ∷ []
arg_words t (arg.Const z) = signed_decimal z ∷ []
arg_words t arg.Null = codes "NULL" ∷ []
arg_words t (arg.Class k) = name_words (codes "ConstClass") (vtable_name t k)
arg_words t (arg.Func k) = name_words (codes "ConstClass") (function_name t k)
arg_words t (arg.Ptr k) = name_words (codes "ConstPtr") (prebuilt_name t k)

abbrev pub more_words : Table → List Arg → Words
more_words t xs = flat_map (λ x. codes "," ∷ arg_words t x) xs

abbrev pub args_words : Table → List Arg → Words
args_words t [] = []
args_words t (x ∷ xs) = arg_words t x ++ more_words t xs

key_class : IsWord (codes "ConstClass")
unfolding is_word_byte is_mark
key_class = record { some = omega arith; bytes = refl; plain = refl }

key_object : IsWord (codes "ConstPtr")
unfolding is_word_byte is_mark
key_object = record { some = omega arith; bytes = refl; plain = refl }

key_null : IsWord (codes "NULL")
unfolding is_word_byte is_mark
key_null = record { some = omega arith; bytes = refl; plain = refl }

key_descr : IsWord (codes "descr")
unfolding is_word_byte is_mark
key_descr = record { some = omega arith; bytes = refl; plain = refl }

named : (laws : TextLaws) (key n : List ℕ) → IsWord key → IsWord n → Loose (((key ++ 40 ∷ []) ++ n) ++ 41 ∷ []) (name_words key n)
named laws key n h i = loosely (((key ++ 40 ∷ []) ++ n) ++ 41 ∷ []) (name_words key n) (shut laws ((key ++ 40 ∷ []) ++ n) (key ∷ codes "(" ∷ n ∷ []) (tight_loose (key ++ 40 ∷ []) n (key ∷ codes "(" ∷ []) (n ∷ []) (opened laws key (key ∷ []) (loose_word laws key h)) (loose_word laws n i)))

arg_piece : (laws : TextLaws) (t : Table) (x : Arg) → ReadsArg t x → Loose (arg_text t x) (arg_words t x)
unfolding arg_text class_text object_text
arg_piece laws t (arg.Of b) h = loose_word laws (box_text b) (box_is_word laws b h)
arg_piece laws t (arg.Const z) h = loose_word laws (signed_decimal z) (laws.spelled.spelling.integer_is_word z (record { sfits = h }))
arg_piece laws t arg.Null h = loose_word laws (codes "NULL") key_null
arg_piece laws t (arg.Class k) h = named laws (codes "ConstClass") (vtable_name t k) key_class (laws.spelled.spelling.name_is_word (vtable_name t k) h.0)
arg_piece laws t (arg.Func k) h = named laws (codes "ConstClass") (function_name t k) key_class (laws.spelled.spelling.name_is_word (function_name t k) h.0)
arg_piece laws t (arg.Ptr k) h = named laws (codes "ConstPtr") (prebuilt_name t k) key_object (laws.spelled.spelling.name_is_word (prebuilt_name t k) h.0)

-- behind a comma and a space
behind_comma : (laws : TextLaws) (a : List ℕ) (u : Words) → Loose a u → Says ((44 ∷ 32 ∷ []) ++ a) (codes "," ∷ u)
behind_comma laws a u h =
    let piece = tight_loose (44 ∷ 32 ∷ []) a (codes "," ∷ []) u (tight_both (44 ∷ []) (32 ∷ []) (codes "," ∷ []) [] (tight_comma laws) tight_space) h in
    record { words_are = piece.words_are; apart = λ rest e. comma_apart (32 ∷ (a ++ rest)); plain = piece.plain }

more_piece : (laws : TextLaws) (t : Table) (xs : List Arg) → Each (ReadsArg t) xs → Says (more_args t xs) (more_words t xs)
more_piece laws t [] h = laws.spelled.pieces.says_nothing
more_piece laws t (x ∷ xs) h = laws.spelled.pieces.says_both ((44 ∷ 32 ∷ []) ++ arg_text t x) (more_args t xs) (codes "," ∷ arg_words t x) (more_words t xs) (behind_comma laws (arg_text t x) (arg_words t x) (arg_piece laws t x h.0)) (more_piece laws t xs h.1)

args_piece : (laws : TextLaws) (t : Table) (xs : List Arg) → Each (ReadsArg t) xs → Loose (args_text t xs) (args_words t xs)
unfolding args_text
args_piece laws t [] h = loosely [] [] tight_nothing
args_piece laws t (x ∷ xs) h = loose_says (arg_text t x) (more_args t xs) (arg_words t x) (more_words t xs) (arg_piece laws t x h.0) (more_piece laws t xs h.1)

-- ---- boxes

abbrev pub more_box_words : List BoxId → Words
more_box_words bs = flat_map (λ b. codes "," ∷ box_text b ∷ []) bs

abbrev pub box_words : List BoxId → Words
box_words [] = []
box_words (b ∷ bs) = box_text b ∷ more_box_words bs

abbrev pub Small : BoxId → Type 0
Small b = b.number < 2 ^ 32

more_boxes_piece : (laws : TextLaws) (bs : List BoxId) → Each Small bs → Says (more_boxes bs) (more_box_words bs)
more_boxes_piece laws [] h = laws.spelled.pieces.says_nothing
more_boxes_piece laws (b ∷ bs) h = laws.spelled.pieces.says_both ((44 ∷ 32 ∷ []) ++ box_text b) (more_boxes bs) (codes "," ∷ box_text b ∷ []) (more_box_words bs) (behind_comma laws (box_text b) (box_text b ∷ []) (loose_word laws (box_text b) (box_is_word laws b h.0))) (more_boxes_piece laws bs h.1)

pub boxes_piece : (laws : TextLaws) (bs : List BoxId) → Each Small bs → Loose (boxes_text bs) (box_words bs)
unfolding boxes_text
boxes_piece laws [] h = loosely [] [] tight_nothing
boxes_piece laws (b ∷ bs) h = loose_says (box_text b) (more_boxes bs) (box_text b ∷ []) (more_box_words bs) (loose_word laws (box_text b) (box_is_word laws b h.0)) (more_boxes_piece laws bs h.1)

-- ---- descrs

-- the name of a descr, where one is cited
abbrev pub cited : Table → Descr → Option (List ℕ)
cited t descr.No = None
cited t (descr.Size k) = Some (descr_name t (descr.Size k))
cited t (descr.Field k) = Some (descr_name t (descr.Field k))
cited t (descr.Array k) = Some (descr_name t (descr.Array k))
cited t (descr.Call k) = Some (descr_name t (descr.Call k))
cited t (descr.Target n) = Some n

abbrev cite_text : Bool → Option (List ℕ) → List ℕ
cite_text behind None = []
cite_text behind (Some n) = cited_text behind n

descr_cites : (t : Table) (behind : Bool) (d : Descr) → descr_text t behind d ≡ cite_text behind (cited t d)
unfolding descr_text
descr_cites t behind descr.No = refl
descr_cites t behind (descr.Size k) = refl
descr_cites t behind (descr.Field k) = refl
descr_cites t behind (descr.Array k) = refl
descr_cites t behind (descr.Call k) = refl
descr_cites t behind (descr.Target n) = refl

-- behind arguments there is a comma in front
abbrev pub cite_words : List Arg → Option (List ℕ) → Words
cite_words xs None = []
cite_words [] (Some n) = codes "descr" ∷ codes "=" ∷ n ∷ []
cite_words (x ∷ xs) (Some n) = codes "," ∷ codes "descr" ∷ codes "=" ∷ n ∷ []

described : (laws : TextLaws) (n : List ℕ) → is_name n ≡ true → Loose (codes "descr=" ++ n) (codes "descr" ∷ codes "=" ∷ n ∷ [])
described laws n is = tight_loose (codes "descr=") n (codes "descr" ∷ codes "=" ∷ []) (n ∷ []) (loose_tight (codes "descr") (61 ∷ []) (codes "descr" ∷ []) (codes "=" ∷ []) (loose_word laws (codes "descr") key_descr) (tight_equals laws) equals_apart) (loose_word laws n (laws.spelled.spelling.name_is_word n is))

comma_says : (laws : TextLaws) (n : List ℕ) → is_name n ≡ true → Says (cited_text true n) (codes "," ∷ codes "descr" ∷ codes "=" ∷ n ∷ [])
unfolding cited_text
comma_says laws n is = behind_comma laws (codes "descr=" ++ n) (codes "descr" ∷ codes "=" ∷ n ∷ []) (described laws n is)

-- a bracket, arguments and a descr
cited_piece : (laws : TextLaws) (t : Table) (a : List ℕ) (u : Words) (xs : List Arg) (o : Option (List ℕ)) → Tight a u → Each (ReadsArg t) xs → NameOrNone o → Loose ((a ++ args_text t xs) ++ cite_text (nat_lt 0 (length xs)) o) ((u ++ args_words t xs) ++ cite_words xs o)
unfolding args_text cited_text
cited_piece laws t a u xs None h i j =
    let piece = tight_loose a (args_text t xs) u (args_words t xs) h (args_piece laws t xs i) in
    let e : a ++ args_text t xs ≡ (a ++ args_text t xs) ++ [] = sym (append-nil (a ++ args_text t xs)) in
    let f : u ++ args_words t xs ≡ (u ++ args_words t xs) ++ [] = sym (append-nil (u ++ args_words t xs)) in
    subst (λ (x : List ℕ). Loose x ((u ++ args_words t xs) ++ [])) e (subst (λ (x : Words). Loose (a ++ args_text t xs) x) f piece)
cited_piece laws t a u [] (Some n) h i j =
    let piece = tight_loose a (codes "descr=" ++ n) u (codes "descr" ∷ codes "=" ∷ n ∷ []) h (described laws n j) in
    let e : a ≡ a ++ [] = sym (append-nil a) in
    let f : u ≡ u ++ [] = sym (append-nil u) in
    subst (λ (x : List ℕ). Loose (x ++ (codes "descr=" ++ n)) ((u ++ []) ++ codes "descr" ∷ codes "=" ∷ n ∷ [])) e (subst (λ (x : Words). Loose (a ++ (codes "descr=" ++ n)) (x ++ codes "descr" ∷ codes "=" ∷ n ∷ [])) f piece)
cited_piece laws t a u (x ∷ xs) (Some n) h i j =
    let some : nat_lt 0 (length (x ∷ xs)) ≡ true = lt-ltb 0 (length (x ∷ xs)) (omega arith) in
    let piece = loose_says (a ++ args_text t (x ∷ xs)) (cited_text true n) (u ++ args_words t (x ∷ xs)) (codes "," ∷ codes "descr" ∷ codes "=" ∷ n ∷ []) (tight_loose a (args_text t (x ∷ xs)) u (args_words t (x ∷ xs)) h (args_piece laws t (x ∷ xs) i)) (comma_says laws n j) in
    subst (λ (b : Bool). Loose ((a ++ args_text t (x ∷ xs)) ++ cite_text b (Some n)) ((u ++ args_words t (x ∷ xs)) ++ codes "," ∷ codes "descr" ∷ codes "=" ∷ n ∷ [])) (sym some) piece

pub descr_piece : (laws : TextLaws) (t : Table) (a : List ℕ) (u : Words) (xs : List Arg) (d : Descr) → Tight a u → Each (ReadsArg t) xs → NameOrNone (cited t d) → Loose ((a ++ args_text t xs) ++ descr_text t (nat_lt 0 (length xs)) d) ((u ++ args_words t xs) ++ cite_words xs (cited t d))
descr_piece laws t a u xs d h i j = subst (λ (x : List ℕ). Loose ((a ++ args_text t xs) ++ x) ((u ++ args_words t xs) ++ cite_words xs (cited t d))) (sym (descr_cites t (nat_lt 0 (length xs)) d)) (cited_piece laws t a u xs (cited t d) h i j)

-- ---- frames

abbrev pub frame_words : Table → Frame → Words
frame_words t f = ((frame_word f.name f.pc ∷ codes "[" ∷ []) ++ args_words t f.slots) ++ codes "]" ∷ []

slots_are_args : (t : Table) (xs : List Arg) → Each (ReadsSlot t) xs → Each (ReadsArg t) xs
slots_are_args t [] h = tt
slots_are_args t (x ∷ xs) h = (slot_is_arg t x h.0, slots_are_args t xs h.1)

frame_piece : (laws : TextLaws) (t : Table) (seen : List BoxId) (f : Frame) → ReadsFrame t seen f → Tight (frame_text t f) (frame_words t f)
unfolding frame_text
frame_piece laws t seen f h =
    let w = frame_word f.name f.pc in
    let head = bracketed laws w (w ∷ []) (loose_word laws w (frame_is_word laws f.name f.pc h.name h.pc)) in
    ended laws ((w ++ 91 ∷ []) ++ args_text t f.slots) ((w ∷ codes "[" ∷ []) ++ args_words t f.slots) (tight_loose (w ++ 91 ∷ []) (args_text t f.slots) (w ∷ codes "[" ∷ []) (args_words t f.slots) head (args_piece laws t f.slots (slots_are_args t f.slots h.slots)))

abbrev pub snapshot_words : Table → List Frame → Words
snapshot_words t fs = flat_map (λ f. frame_words t f) fs

frames_piece : (laws : TextLaws) (t : Table) (seen : List BoxId) (fs : List Frame) → Each (ReadsFrame t seen) fs → Tight (flat_map (λ g. frame_text t g) fs) (snapshot_words t fs)
frames_piece laws t seen [] h = tight_nothing
frames_piece laws t seen (f ∷ fs) h = tight_both (frame_text t f) (flat_map (λ g. frame_text t g) fs) (frame_words t f) (snapshot_words t fs) (frame_piece laws t seen f h.0) (frames_piece laws t seen fs h.1)

pub snapshot_piece : (laws : TextLaws) (t : Table) (seen : List BoxId) (fs : List Frame) → Each (ReadsFrame t seen) fs → Tight (snapshot_text t fs) (snapshot_words t fs)
unfolding snapshot_text
snapshot_piece laws t seen [] h = tight_nothing
snapshot_piece laws t seen (f ∷ fs) h = tight_both (32 ∷ []) (flat_map (λ g. frame_text t g) (f ∷ fs)) [] (snapshot_words t (f ∷ fs)) tight_space (frames_piece laws t seen (f ∷ fs) h)

-- ---- results

abbrev pub made_words : Option BoxId → Words
made_words None = []
made_words (Some b) = box_text b ∷ codes "=" ∷ []

pub made_piece : (laws : TextLaws) (o : Option BoxId) → ReadsResult o → Tight (made_text o) (made_words o)
unfolding made_text
made_piece laws None h = tight_nothing
made_piece laws (Some b) h = loose_tight (box_text b) (codes " = ") (box_text b ∷ []) (codes "=" ∷ []) (loose_word laws (box_text b) (box_is_word laws b h)) (tight_both (32 ∷ 61 ∷ []) (32 ∷ []) (codes "=" ∷ []) [] (tight_both (32 ∷ []) (61 ∷ []) [] (codes "=" ∷ []) tight_space (tight_equals laws)) tight_space) (λ rest. space_apart (61 ∷ 32 ∷ rest))
