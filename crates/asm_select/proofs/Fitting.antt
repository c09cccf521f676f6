-- What selection gives is such as the laws on code ask for.
use Rattle.std.proofs.Common.{◌≡◌, ◌≢◌, ℕ, zero, suc, ◌+◌, ◌-◌, ◌<◌, ◌≤◌, Option, Some, None, IsSome, IsTrue, List, [], ◌∷◌, ◌++◌, length, map, refl, sym, ap, ◌∙◌, subst, arith}
use Rattle.std.specs.Prelude.{slice_get, slice_index_or, IsSomeAnd}
use Rattle.std.specs.List.{All}
use Rattle.std.proofs.lemmas.List.{length-map}
use Rattle.std.proofs.lemmas.Option.{get_or_from_slice_get}
use Rattle.lists.proofs.Alls.{all_at, all_weaker}
use Rattle.std.proofs.lemmas.List.Sums.{sum_by-cons}
use Rattle.lists.proofs.Zips.{zip_long, zip_first}
use Rattle.trace_ops.specs.declared.code.OpCode.{OpCode}
use Rattle.trace_ops.specs.declared.code.OpCode.TheVariants as code
use Rattle.trace_ops.specs.declared.facts.Want.{Want}
use Rattle.trace_ops.specs.declared.facts.Want.TheVariants as want
use Rattle.trace_ops.specs.declared.facts.Takes.{Takes}
use Rattle.trace_ops.specs.declared.facts.Takes.TheVariants as takes
use Rattle.trace_ops.specs.declared.table.Table.{Table}
use Rattle.trace_ops.specs.declared.table.SizeRow.{SizeRow}
use Rattle.trace_ops.specs.declared.table.CallRow.{CallRow}
use Rattle.trace_ops.specs.declared.table.ShapeOf.TheVariants.{Size}
use Rattle.trace_ops.specs.declared.trace.Kind.{Kind}
use Rattle.trace_ops.specs.declared.trace.BoxId.{BoxId}
use Rattle.trace_ops.specs.declared.trace.Arg.{Arg}
use Rattle.trace_ops.specs.declared.trace.Arg.TheVariants.{Of, Const, Null, Class, Func, Ptr}
use Rattle.trace_ops.specs.declared.trace.Descr.{Descr}
use Rattle.trace_ops.specs.declared.trace.Descr.TheVariants as descr
use Rattle.trace_ops.specs.declared.trace.TraceSet.{TraceSet}
use Rattle.trace_ops.specs.declared.piece.PieceId.{PieceId}
use Rattle.trace_ops.specs.declared.piece.OptOp.{OptOp}
use Rattle.trace_ops.specs.declared.piece.OptOp.TheVariants as opt
use Rattle.trace_ops.specs.declared.piece.Piece.{Piece}
use Rattle.trace_ops.specs.Classes.{is_plain}
use Rattle.trace_ops.specs.Constants.{ArgHasWord}
use Rattle.trace_ops.specs.Facts.{takes_of}
use Rattle.trace_ops.specs.Fits.{FitArgs, IsWanted, IsOfKind, kind_stored, AreCalled}
use Rattle.trace_ops.specs.InRange.{IsTableInRange}
use Rattle.trace_ops.specs.Kinds.{kind_of_arg, NamesArg}
use Rattle.trace_ops.specs.Pieces.{args_of, FitsTable, HasItsCode, NamesRows}
use Rattle.opt_meaning.specs.Worded.{OpHasWords}
use Rattle.target_base.specs.declared.place.Place.{Place}
use Rattle.target_base.specs.declared.place.Place.TheVariants.{In, Word}
use Rattle.parallel_move.specs.declared.moving.Move.{Move}
use Rattle.parallel_move.specs.Moving.{MovesAmong, at_once}
use Rattle.linear_scan.specs.declared.places.Places.{Places}
use Rattle.linear_scan.specs.Registers.{value_registers}
use Rattle.linear_scan.specs.Numbering.{AreNumbered, AreDefined, BoxesLive}
use Rattle.x64_encode.specs.declared.instr.Instr.{Instr}
use Rattle.x64_encode.specs.Form.{spelling}
use Rattle.guard_exit.specs.Codes.{register}
use Rattle.asm_select.specs.declared.selected.Selected.{Selected}
use Rattle.asm_select.specs.declared.told.Told.TheVariants as tell
use Rattle.asm_select.specs.Slots.{Slot, instr_of, size_of, sizes_of, unset, instrs_of, jumps_from}
use Rattle.asm_select.specs.Valued.{MayHold}
use Rattle.asm_select.specs.Chosen.{Where, Setting, arg_places, places_for, pairs_of, for_call, all_code, starts_from}
use Rattle.asm_select.specs.Reached.{IsWordArg, HasWords}
use Rattle.asm_select.specs.Ended.{AreMoved}
use Rattle.asm_select.specs.Given.{where_in}
use Rattle.asm_select.specs.Drafting.{setting, pair_at, pairs_at, Moved, IsPlanned}
use Rattle.asm_select.specs.Selecting.{IsLabelWord, AreTargets, CanSelect, IsSelected, scene_of}
use Rattle.asm_select.specs.Fitting.{with_key, SelectedFits, bytes_in, IsShort}
use Rattle.asm_select.proofs.Allotted.{value_holds, word_holds, places_serve}
use Rattle.asm_select.proofs.Planned.{AreOthers, AllOthers, args_apart, pairs_same}
use Rattle.asm_select.proofs.Rekeying.{rekeyed, over, all_same, starts_same, instrs_same, jumps_same}
use Rattle.asm_select.proofs.Suiting.{contains_at, some_within, piece_suits, pieces_suit}
use Rattle.asm_select.proofs.Lengths.{Most, IsNear, CallsNear, suited_are_short}
use Rattle.asm_select.proofs.Standing.{size_is}
use Rattle.asm_select.proofs.Tables.{tables_serve, table_numbers_fit}

-- ---- words

arg_words : (t : Table) (a : Arg) → IsTableInRange t → NamesArg t a → ArgHasWord a → IsWordArg t a
arg_words t (Of b) r n w = tt
arg_words t (Const z) r n w = w
arg_words t Null r n w = tt
arg_words t (Class k) r n w = (
  (table_numbers_fit t r).0 k,
  contains_at t.shapes (Size k) (r.each_size_once k (some_within t.sizes k (λ (row : SizeRow). IsSome row.vtable) n)),
)
arg_words t (Func k) r n w = omega (arith, n, r.within.functions)
arg_words t (Ptr k) r n w = (n, (table_numbers_fit t r).1 k n)

pub names_args : (t : Table) (op : OptOp) → NamesRows t op → All (NamesArg t) (args_of op)
names_args t (opt.Plain operation r args d) h = h.0
names_args t (opt.Guard operation args n snap) h = h
names_args t (opt.Exit n snap) h = h
names_args t (opt.Jump to args) h = h
names_args t (opt.Finish value) h = h

op_words : (t : Table) (op : OptOp) → IsTableInRange t → NamesRows t op → OpHasWords op → HasWords t op
op_words t op r n w k a lt = arg_words t _ r (names_args t op n k a lt) (w k a lt)

-- ---- a function's arguments are at most six

not_wanted : (t : Table) (d : Descr) (w : Want) (f : ℕ) → IsWanted t d w (Func f) → ⊥
not_wanted t d want.Int f h = cc
not_wanted t d want.Ref f h = cc
not_wanted t d want.Stored f h = which (kind_stored t d) h
  where
    which : (o : Option Kind) → IsOfKind o (Func f) → ⊥
    which None g = g
    which (Some k) g = cc
not_wanted t d want.Class f h = h

takes_function : (t : Table) (d : Descr) (f : ℕ) (args : List Arg) (w : Takes) → (w ≡ takes.Passed → ⊥) → FitArgs t d w (Func f ∷ args) → AreCalled t d (Func f ∷ args)
takes_function t d f args takes.Nothing other h = absurd h
takes_function t d f [] (takes.One w) other h = absurd (not_wanted t d w f h)
takes_function t d f (b ∷ more) (takes.One w) other h = absurd h
takes_function t d f [] (takes.Two w v) other h = absurd h
takes_function t d f (b ∷ []) (takes.Two w v) other h = absurd (not_wanted t d w f h.0)
takes_function t d f (b ∷ x ∷ more) (takes.Two w v) other h = absurd h
takes_function t d f [] (takes.Three w v u) other h = absurd h
takes_function t d f (b ∷ []) (takes.Three w v u) other h = absurd h
takes_function t d f (b ∷ x ∷ []) (takes.Three w v u) other h = absurd (not_wanted t d w f h.0)
takes_function t d f (b ∷ x ∷ y ∷ more) (takes.Three w v u) other h = absurd h
takes_function t d f [] takes.Compared other h = absurd h
takes_function t d f (b ∷ []) takes.Compared other h = absurd h
takes_function t d f (b ∷ x ∷ more) takes.Compared other h = absurd h
takes_function t d f args takes.Called other h = h
takes_function t d f [] takes.Finished other h = absurd (cc)
takes_function t d f (b ∷ more) takes.Finished other h = absurd h
takes_function t d f args takes.Passed other h = absurd (other refl)

none_passed : (operation : OpCode) → IsTrue (is_plain operation) → takes_of operation ≡ takes.Passed → ⊥
none_passed code.Jump h e = cc
none_passed _ h e = cc

called_few : (t : Table) (d : Descr) (f : ℕ) (args : List Arg) → IsTableInRange t → AreCalled t d (Func f ∷ args) → length args ≤ 6
called_few t (descr.Call k) f args r h = which (slice_get t.calls k) refl h.1
  where
    which : (o : Option CallRow) → slice_get t.calls k ≡ o → IsSomeAnd o (λ (row : CallRow). map kind_of_arg args ≡ map (λ (x : Kind). Some x) row.args) → length args ≤ 6
    which None e g = absurd g
    which (Some row) e g =
        let long : length args ≡ length row.args = sym (length-map args kind_of_arg) ∙ ap length g ∙ length-map row.args (λ (x : Kind). Some x) in
        omega (arith, long, all_at (λ (x : CallRow). length x.args ≤ 6) t.calls k row r.within.arguments e)
called_few t _ f args r h = absurd h

-- ---- the moves

label_place_holds : (p : Place) → IsLabelWord p → MayHold p
label_place_holds (In r) h = value_holds 12 r h
label_place_holds (Word k) h = word_holds k h.0 h.1

jump_moved : (c : Setting) (piece : Piece) (args : List Arg) → AreTargets piece c.to → length args ≡ length c.to → Moved (pairs_at c.at args c.to) c.moves → AreMoved c args
jump_moved c piece args t n m =
    let same = sym (pairs_same c args c.to) in
    record {
      count = n;
      lawful = λ p i e. label_place_holds p (t.each i p e);
      distinct = t.distinct;
      acts = λ words p. m.acts words p ∙ ap (λ (l : List (Place × Place)). at_once l words p) same;
      among = subst (λ (l : List (Place × Place)). MovesAmong l c.moves) same m.among;
      few = subst (λ (l : List (Place × Place)). length c.moves ≤ length l) same m.few;
    }

place_of_those : (args : List Arg) (ps : List Place) (i : ℕ) (p : Place) → slice_get (places_for args ps) i ≡ Some p → slice_get ps i ≡ Some p
place_of_those [] ps i p e = absurd (cc)
place_of_those (a ∷ args) [] i p e = absurd (cc)
place_of_those (a ∷ args) (q ∷ ps) zero p e = e
place_of_those (a ∷ args) (q ∷ ps) (suc i) p e = place_of_those args ps i p e

so_many : (args : List Arg) (ps : List Place) → length args ≤ length ps → length args ≡ length (places_for args ps)
so_many [] ps h = refl
so_many (a ∷ args) [] h = absurd (omega (arith, h))
so_many (a ∷ args) (p ∷ ps) h = ap suc (so_many args ps (omega (arith, h)))

pairs_for : (at : Where) (args : List Arg) (ps : List Place) → pairs_at at args (places_for args ps) ≡ pairs_at at args ps
pairs_for at [] ps = refl
pairs_for at (a ∷ args) [] = refl
pairs_for at (a ∷ args) (p ∷ ps) = ap (λ (l : List (Place × Place)). pair_at at p a ++ l) (pairs_for at args ps)

other_at : (p : Place) (xs : List Place) (i : ℕ) (q : Place) → AreOthers p xs → slice_get xs i ≡ Some q → p ≢ q
other_at p [] i q h e = absurd (cc)
other_at p (x ∷ xs) zero q h e = (let same : x ≡ q = cc in subst (λ (y : Place). p ≢ y) same h.0)
other_at p (x ∷ xs) (suc i) q h e = other_at p xs i q h.1 e

others_distinct : (xs : List Place) (i j : ℕ) (p q : Place) → AllOthers xs → i < j → slice_get xs i ≡ Some p → slice_get xs j ≡ Some q → p ≢ q
others_distinct [] i j p q h lt e f = absurd (cc)
others_distinct (x ∷ xs) zero zero p q h lt e f = absurd (omega (arith, lt))
others_distinct (x ∷ xs) zero (suc j) p q h lt e f = (let same : x ≡ p = cc in subst (λ (y : Place). y ≢ q) same (other_at x xs j q h.0 f))
others_distinct (x ∷ xs) (suc i) zero p q h lt e f = absurd (omega (arith, lt))
others_distinct (x ∷ xs) (suc i) (suc j) p q h lt e f = others_distinct xs i j p q h.1 (omega (arith, lt)) e f

held : (i r : ℕ) → i < 12 → slice_get value_registers i ≡ Some r → (p : Place) → Some (In (register r)) ≡ Some p → MayHold p
held i r lt e p g = let same : In (register r) ≡ p = cc in subst MayHold same (value_holds 12 (register r) (i, lt, e))

arg_holds : (i : ℕ) (p : Place) → slice_get arg_places i ≡ Some p → MayHold p
arg_holds zero p e = held 5 7 (omega arith) refl p e
arg_holds (suc zero) p e = held 4 6 (omega arith) refl p e
arg_holds (suc (suc zero)) p e = held 2 2 (omega arith) refl p e
arg_holds (suc (suc (suc zero))) p e = held 1 1 (omega arith) refl p e
arg_holds (suc (suc (suc (suc zero)))) p e = held 6 8 (omega arith) refl p e
arg_holds (suc (suc (suc (suc (suc zero))))) p e = held 7 9 (omega arith) refl p e
arg_holds (suc (suc (suc (suc (suc (suc i)))))) p e = absurd (cc)

call_moved : (c : Setting) (k : ℕ) (args : List Arg) → length args ≤ 6 → Moved (pairs_at c.at args arg_places) (c.call_moves k) → AreMoved (for_call c k args) args
call_moved c k args six m =
    let to = places_for args arg_places in
    let same : pairs_at c.at args arg_places ≡ pairs_of (for_call c k args) args to = sym (pairs_same (for_call c k args) args to ∙ pairs_for c.at args arg_places) in
    record {
      count = so_many args arg_places six;
      lawful = λ p i e. arg_holds i p (place_of_those args arg_places i p e);
      distinct = λ i j p q lt e f. others_distinct arg_places i j p q args_apart lt (place_of_those args arg_places i p e) (place_of_those args arg_places j q f);
      acts = λ words p. m.acts words p ∙ ap (λ (l : List (Place × Place)). at_once l words p) same;
      among = subst (λ (l : List (Place × Place)). MovesAmong l (c.call_moves k)) same m.among;
      few = subst (λ (l : List (Place × Place)). length (c.call_moves k) ≤ length l) same m.few;
    }

-- ---- the setting of what is selected, under these keys

abbrev keyed : TraceSet → Places → List Place → List (List Move) → ℕ → Setting
keyed set places to plan key =
    let c = setting (scene_of set.table places to plan) in over c c.moves (λ k. c.call_moves (k - key))

shifted : (plan : List (List Move)) (key i : ℕ) → slice_index_or plan (key + i - key) [] ≡ slice_index_or plan i []
shifted plan key i = let e : key + i - key ≡ i = omega arith in ap (λ (n : ℕ). slice_index_or plan n []) e

jumps_moved : (set : TraceSet) (piece : Piece) (places : Places) (to : List Place) (key : ℕ) (s : Selected) → CanSelect set piece places to → (x : IsSelected set piece places to s) → (i : ℕ) (target : PieceId) (args : List Arg) → slice_get piece.ops i ≡ Some (opt.Jump target args) → AreMoved (keyed set places to x.plan key) args
jumps_moved set piece places to key s can x i target args e =
    let z = zip_first (IsPlanned (where_in places.at) to) piece.ops x.plan x.planned i (opt.Jump target args) e in
    let last : i + 1 ≡ length piece.ops = (can.sound.formed.ends_once i (opt.Jump target args) e).0 refl in
    let long = zip_long (IsPlanned (where_in places.at) to) piece.ops x.plan x.planned in
    let here : length x.plan - 1 ≡ i = omega (arith, last, long) in
    let moves : z.0 ≡ slice_index_or x.plan (length x.plan - 1) [] = sym (ap (λ (n : ℕ). slice_index_or x.plan n []) here ∙ get_or_from_slice_get x.plan i z.0 [] z.1) in
    jump_moved (keyed set places to x.plan key) piece args can.targets (can.targets.count i target args e) (subst (Moved (pairs_at (where_in places.at) args to)) moves z.2)

calls_moved : (set : TraceSet) (piece : Piece) (places : Places) (to : List Place) (key : ℕ) (s : Selected) → CanSelect set piece places to → IsTableInRange set.table → (x : IsSelected set piece places to s) → (i f : ℕ) (operation : OpCode) (r : Option BoxId) (args : List Arg) (d : Descr) → slice_get piece.ops i ≡ Some (opt.Plain operation r (Func f ∷ args) d) → AreMoved (for_call (keyed set places to x.plan key) (key + i) args) args
calls_moved set piece places to key s can t x i f operation r args d e =
    let op = opt.Plain operation r (Func f ∷ args) d in
    let z = zip_first (IsPlanned (where_in places.at) to) piece.ops x.plan x.planned i op e in
    let formed = can.sound.formed in
    let fits = all_at (FitsTable set.table) piece.ops i op formed.operations_fit e in
    let plain = all_at HasItsCode piece.ops i op formed.codes_in_place e in
    let few = called_few set.table d f args t (takes_function set.table d f args (takes_of operation) (none_passed operation plain) fits.arguments) in
    let moves : z.0 ≡ slice_index_or x.plan (key + i - key) [] = sym (shifted x.plan key i ∙ get_or_from_slice_get x.plan i z.0 [] z.1) in
    call_moved (keyed set places to x.plan key) (key + i) args few (subst (Moved (pairs_at (where_in places.at) args arg_places)) moves z.2)

-- the code under these keys is that from 0 on, but for the keys
keyed_code : (set : TraceSet) (piece : Piece) (places : Places) (to : List Place) (plan : List (List Move)) (key : ℕ) → all_code (keyed set places to plan key) key tell.Nothing piece.ops ≡ map (rekeyed key) (all_code (setting (scene_of set.table places to plan)) 0 tell.Nothing piece.ops)
keyed_code set piece places to plan key =
    let c = setting (scene_of set.table places to plan) in
    let first : key + 0 ≡ key = omega arith in
    ap (λ (k : ℕ). all_code (keyed set places to plan key) k tell.Nothing piece.ops) (sym first)
    ∙ all_same c (λ (k : ℕ). c.call_moves (k - key)) key 0 tell.Nothing piece.ops (shifted plan key)

keyed_instrs : (set : TraceSet) (piece : Piece) (places : Places) (to : List Place) (key : ℕ) (s : Selected) → (x : IsSelected set piece places to s) → s.instrs ≡ instrs_of (all_code (keyed set places to x.plan key) key tell.Nothing piece.ops)
keyed_instrs set piece places to key s x =
    x.code.instrs ∙ sym (ap instrs_of (keyed_code set piece places to x.plan key) ∙ instrs_same key (all_code (setting (scene_of set.table places to x.plan)) 0 tell.Nothing piece.ops))

pub selected_fits : ((piece : Piece) → AreNumbered piece → AreDefined piece → BoxesLive piece) → SelectedFits
selected_fits live set piece places to key s can t words x =
    let c = setting (scene_of set.table places to x.plan) in
    let d = keyed set places to x.plan key in
    let f = λ (k : ℕ). c.call_moves (k - key) in
    let again : (j : ℕ) → f (key + j) ≡ c.call_moves j = shifted x.plan key in
    let first : key + 0 ≡ key = omega arith in
    let same = keyed_code set piece places to x.plan key in
    let formed = can.sound.formed in
    let serve = places_serve live piece can.registers can.label places formed.boxes_numbered formed.boxes_defined can.allocated (omega (arith, can.words)) in
    record {
      c = d;
      table = refl;
      at = refl;
      to = refl;
      instrs = keyed_instrs set piece places to key s x;
      starts = x.code.starts ∙ sym (ap (λ (k : ℕ). starts_from 0 d k tell.Nothing piece.ops) (sym first) ∙ starts_same 0 c f key 0 tell.Nothing piece.ops again);
      jumps = ap (map (with_key key)) x.code.jumps ∙ sym (ap (jumps_from 0) same ∙ jumps_same key 0 (all_code c 0 tell.Nothing piece.ops));
      serves = (tables_serve set.table t).0;
      hold = serve.0;
      apart = serve.1;
      safe = serve.2;
      chosen = pieces_suit set can.label_of piece d key can.sound refl t (λ k op lt. op_words set.table _ t (formed.rows_named.operations k op lt) (words k op lt)) (jumps_moved set piece places to key s can x) (calls_moved set piece places to key s can t x);
    }

-- ---- bytes

bytes_are : (xs : List Slot) → bytes_in (instrs_of xs) ≡ sizes_of xs
bytes_are [] = refl
bytes_are (x ∷ xs) =
    sum_by-cons (λ (i : Instr). length (spelling i)) (instr_of unset x) (instrs_of xs)
    ∙ ap (λ (n : ℕ). n + bytes_in (instrs_of xs)) (size_is unset x) ∙ ap (λ (n : ℕ). size_of x + n) (bytes_are xs)

near_named : (t : Table) (a : Arg) → IsTableInRange t → NamesArg t a → IsNear a
near_named t (Of b) r n = tt
near_named t (Const w) r n = tt
near_named t Null r n = tt
near_named t (Class k) r n = tt
near_named t (Func k) r n = omega (arith, n, r.within.functions)
near_named t (Ptr k) r n = tt

pub selected_is_short : Most → (set : TraceSet) (piece : Piece) (places : Places) (to : List Place) (s : Selected) → CanSelect set piece places to → IsSelected set piece places to s → IsShort set piece s
selected_is_short most set piece places to s can x t jumps exit_of =
    let c = keyed set places to x.plan 0 in
    let near : All CallsNear piece.ops = λ k op lt. all_weaker (NamesArg set.table) IsNear (args_of (slice_index_or piece.ops k op)) (λ a n. near_named set.table a t n) (names_args set.table _ (can.sound.formed.rows_named.operations k op lt)) in
    let suits = piece_suits CallsNear set can.label_of piece c 0 can.sound refl t near (jumps_moved set piece places to 0 s can x) (calls_moved set piece places to 0 s can t x) in
    let short = suited_are_short most c jumps exit_of 0 tell.Nothing piece.ops (tables_serve set.table t).0 suits in
    let bytes = ap bytes_in (keyed_instrs set piece places to 0 s x) ∙ bytes_are (all_code c 0 tell.Nothing piece.ops) in
    omega (arith, short, bytes)
