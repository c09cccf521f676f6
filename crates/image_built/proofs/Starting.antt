-- Started machines begin their loops.
use Rattle.std.proofs.Common.{◌≡◌, ℕ, suc, ◌+◌, ◌<◌, cond, List, [], ◌∷◌, ◌++◌, length, map, refl, sym, ap, ◌∙◌, subst, arith, Option, Some, None, ℤ, pos}
use Rattle.std.specs.Prelude.{slice_get, slice_index_or}
use Rattle.std.specs.Option.{IsSomeAnd}
use Rattle.std.specs.List.{AllZip, AllByRecursion}
use Rattle.target_base.specs.declared.place.Place.{Place}
use Rattle.target_base.specs.declared.place.Place.TheVariants.{Word}
use Rattle.trace_ops.specs.declared.trace.BoxId.{BoxId}
use Rattle.trace_ops.specs.declared.piece.OptOp.{OptOp}
use Rattle.trace_ops.specs.declared.trace.Kind.{Kind}
use Rattle.trace_ops.specs.declared.trace.Trace.{Trace}
use Rattle.trace_ops.specs.declared.trace.TraceSet.{TraceSet}
use Rattle.trace_ops.specs.declared.table.Table.{Table}
use Rattle.trace_ops.specs.declared.piece.Half.TheVariants.{Pre}
use Rattle.trace_ops.specs.declared.piece.PieceId.{PieceId}
use Rattle.trace_ops.specs.declared.piece.Piece.{Piece}
use Rattle.trace_ops.specs.Sound.{RepeatsInputs}
use Rattle.trace_meaning.specs.declared.value.Value.{Value}
use Rattle.trace_meaning.specs.declared.call.Answer.{Answer}
use Rattle.trace_meaning.specs.Kinds.{AreOfKinds}
use Rattle.trace_meaning.specs.Recorded.{first_world}
use Rattle.opt_meaning.specs.Step.{opt_begin}
use Rattle.opt_meaning.specs.Pieces.{piece_at, label_of, label_at, ops_at, begin_at, preamble, same_piece}
use Rattle.arena_objects.specs.Layout.{address_of, word_of}
use Rattle.arena_objects.specs.Standing.{Stands}
use Rattle.x64_encode.specs.declared.instr.Instr.{Instr}
use Rattle.x64_machine.specs.State.{State}
use Rattle.asm_select.specs.declared.told.Told.TheVariants as tell
use Rattle.asm_select.specs.Slots.{Slot, Put, puts}
use Rattle.asm_select.specs.Chosen.{Setting}
use Rattle.asm_select.specs.Valued.{value, IsFit}
use Rattle.asm_select.specs.Reached.{Reach, PrebuiltsStand, SameArena}
use Rattle.asm_select.specs.Ended.{PlacesStand}
use Rattle.asm_select.specs.Exited.{LabelHolds, LabelStands, StartFits, entry_instr}
use Rattle.bridge_patch.specs.declared.image.PieceHere.{PieceHere}
use Rattle.bridge_patch.specs.Pieces.{Placed, words_from, label_places, loop_front}
use Rattle.bridge_patch.specs.Attached.{begin_in}
use Rattle.bridge_patch.specs.Image.{Imaged, AreHere, entry_in}
use Rattle.image_runs.specs.Session.{Host, no_calls}
use Rattle.image_runs.specs.Selection.{joined}
use Rattle.image_runs.specs.Sessions.{Begins}
use Rattle.image_model.specs.Ready.{AreKinded, StaysReady}
use Rattle.image_model.specs.Modelled.{HoldsAt, model_of}
use Rattle.image_model.specs.Laws.{codes_from}
use Rattle.image_built.specs.Built.{keyed, run_of, image_of}
use Rattle.image_built.specs.Laws.{IsStarted, AreInputs, IsLoop, IsEntry, first_objects}
use Rattle.image_built.proofs.Splitting.{keys_in}
use Rattle.image_built.proofs.Naming.{all_here, found}
use Rattle.image_built.proofs.Placing.{StayReady, Setup, Made, Spot, spot}
use Rattle.image_built.proofs.Reaching.{run_there}
use Rattle.image_built.proofs.Bridging.{somes}

-- ---- where a loop is entered

pub entry_is : (pls : List Placed) (heres : List PieceHere) (q : PieceId) → AreHere pls heres → entry_in heres q ≡ begin_in pls q
entry_is [] [] q h = refl
entry_is [] (x ∷ heres) q h = absurd h
entry_is (pl ∷ pls) [] q h = absurd h
entry_is (pl ∷ pls) (here ∷ heres) q h =
    ap (λ (i : PieceId). cond (same_piece q i) here.at (entry_in heres q)) h.0.id
    ∙ ap (λ (n : ℕ). cond (same_piece q pl.piece.id) n (entry_in heres q)) h.0.begins
    ∙ ap (λ (n : ℕ). cond (same_piece q pl.piece.id) pl.at n) (entry_is pls heres q h.1)

-- ---- the values of the label

-- words that stand from word k on are the values
words_stand : (addresses : ℕ → ℕ) (t : State) (k : ℕ) (words : List ℤ) (vs : List Value) → AllZip (λ (w : ℤ) (x : Value). w ≡ word_of addresses x) words vs → ((j : ℕ) → j < length words → value t (Word (k + j)) ≡ slice_index_or words j (pos 0))
    → PlacesStand addresses t (words_from k (length vs)) vs
words_stand addresses t k [] [] z h = tt
words_stand addresses t k [] (x ∷ vs) z h = absurd z
words_stand addresses t k (w ∷ words) [] z h = absurd z
words_stand addresses t k (w ∷ words) (x ∷ vs) z h =
    let n : k ≡ k + 0 = omega arith in (
      ap (λ (i : ℕ). value t (Word i)) n ∙ h 0 (omega arith) ∙ z.0,
      words_stand addresses t (k + 1) words vs z.1 (λ j lt. (let m : k + 1 + j ≡ k + suc j = omega arith in ap (λ (i : ℕ). value t (Word i)) m ∙ h (suc j) (omega (arith, lt)))),
    )

-- where a loop's pieces are entered, and where their labels stand
pub record HasEntry (pl : Placed) : Type 0 where
  pub front : pl.front ≡ loop_front pl.piece.id.half
  pub label : AllZip (λ (p : Place) (b : BoxId). pl.setting.at b.number ≡ p) (label_places (length pl.piece.label)) pl.piece.label

-- inputs of the kinds of a label
abbrev AreLabelled : TraceSet → List BoxId → List Value → Type 0
AreLabelled set label inputs = (given : List Answer) → AreKinded set.table (map (λ (x : BoxId). Some x.kind) label) inputs (first_world set.table given)

-- the label of a loop's first piece has a box for each input, of its kind
label_kinds : (set : TraceSet) (id : PieceId) (label : List BoxId) (inputs : List Value) (o : Option Trace) → id.half ≡ Pre → IsSomeAnd o (RepeatsInputs id label) → IsSomeAnd o IsLoop → IsSomeAnd o (AreInputs set inputs) → AreLabelled set label inputs
label_kinds set id label inputs None half a b c = absurd a
label_kinds set id label inputs (Some t) half a b c = λ given. subst (λ (ks : List (Option Kind)). AreKinded set.table ks inputs (first_world set.table given)) (somes t.inputs label (sym (a half b))) (c given)

label_long : (n : ℕ) (label : List BoxId) (inputs : List Value) → AreOfKinds n (map (λ (x : BoxId). Some x.kind) label) inputs → length inputs ≡ length label
label_long n [] [] h = refl
label_long n [] (x ∷ inputs) h = absurd h
label_long n (b ∷ label) [] h = absurd h
label_long n (b ∷ label) (x ∷ inputs) h = ap suc (label_long n label inputs h.1)

-- ---- the first instruction

weaker : (p : ℕ) (xs : List Slot) (s : State) (ys : List Slot) (R S : State → Type 0) → ((t : State) → R t → S t) → Reach p xs s ys R → Reach p xs s ys S
weaker p xs s ys R S f r = record { path = r.path; few = r.few; t = r.t; q = r.q; comes = r.comes; front = r.front; split = r.split; place = r.place; at = r.at; holds = f r.t r.holds }

-- what is brought behind it
abbrev Brought : State → List ℤ → State → Type 0
Brought s words t = IsFit t × SameArena s t × ((k : ℕ) → k < length words → value t (Word (16 + k)) ≡ slice_index_or words k (pos 0))

-- the laws of the crates below
pub record Enters : Type 0 where
  pub holds : LabelHolds
  pub stands : LabelStands
  pub starts : StartFits

begins_with : Enters → (set : TraceSet) (whole : Setup) (ps : List Piece) (settings : PieceId → Setting) (b : ℕ) (pl : Placed) (trace entry : ℕ) (inputs : List Value) (given : List Answer) (s t : State)
    → StayReady set ps → HasEntry pl → Spot set whole ps settings b pl → (z : IsStarted set trace entry inputs s) → AreLabelled set pl.piece.label inputs → Brought s z.words t
    → HoldsAt (settings pl.piece.id) (ops_at whole.pieces pl.piece.id) 0 (begin_at ps pl.piece.id inputs (first_world set.table given)) (no_calls given) t
begins_with laws set whole ps settings b pl trace entry inputs given s t ready own x z kinds r =
    let q = pl.piece.id in
    let st = settings q in
    let objects = first_objects set in
    let world = first_world set.table given in
    let long = label_long (length world.objects) pl.piece.label inputs (kinds given).values in
    let on = ready q pl.piece inputs world x.at (kinds given) in
    let label : label_at ps q ≡ pl.piece.label = ap label_of x.at in
    let table : set.table ≡ st.table = sym (ap (λ (d : Setting). d.table) x.setting ∙ x.chosen.table) in
    let there = words_stand (address_of objects) t 16 z.words inputs z.values r.2 in
    let places : AllZip (λ (p : Place) (y : BoxId). st.at y.number ≡ p) (label_places (length inputs)) (label_at ps q) =
    subst (λ (l : List BoxId). AllZip (λ (p : Place) (y : BoxId). st.at y.number ≡ p) (label_places (length inputs)) l) (sym label)
    (subst (λ (n : ℕ). AllZip (λ (p : Place) (y : BoxId). st.at y.number ≡ p) (label_places n) pl.piece.label) (sym long)
    (subst (λ (d : Setting). AllZip (λ (p : Place) (y : BoxId). d.at y.number ≡ p) (label_places (length pl.piece.label)) pl.piece.label) (sym x.setting) own.label)) in
    let boxes = laws.stands st (label_places (length inputs)) (label_at ps q) (address_of objects) inputs t places there in
    let arena = subst (λ (d : Table). Stands d objects t.arena) table (subst (Stands set.table objects) (sym r.1.arena) z.stands) in
    let prebuilts = subst (λ (d : Table). PrebuiltsStand d objects) table z.prebuilts in
    let still : StaysReady st.table (ops_at whole.pieces q) (begin_at ps q inputs world) =
    subst (λ (d : Table). StaysReady d (ops_at whole.pieces q) (begin_at ps q inputs world)) table
    (subst (λ (l : List OptOp). StaysReady set.table l (begin_at ps q inputs world)) (sym x.wholly)
    (subst (λ (l : List BoxId). StaysReady set.table pl.piece.ops (opt_begin l inputs world)) (sym label) on)) in
    (laws.holds st (label_at ps q) (ops_at whole.pieces q) inputs (first_world set.table given) t r.0 arena prebuilts z.parts boxes, record { log = refl; answers = refl }, still)

-- ---- a started machine

front_of : (pl : Placed) → HasEntry pl → pl.piece.id.half ≡ Pre → pl.front ≡ entry_instr ∷ []
front_of pl front half = front.front ∙ ap loop_front half

begin_loop : (host : Host) → Enters → (set : TraceSet) (whole : Setup) (ps : List Piece) (before after : List Placed) (pl : Placed) (trace entry : ℕ) (inputs : List Value) (given : List Answer) (s : State)
    → Made set whole ps (before ++ pl ∷ after) → HasEntry pl → preamble trace ≡ pl.piece.id → entry ≡ pl.at → IsSomeAnd (slice_get set.traces trace) IsLoop → IsStarted set trace entry inputs s
    → Begins (model_of host set whole.pieces whole.settings ps) (image_of (before ++ pl ∷ after)) trace inputs given s
begin_loop host laws set whole ps before after pl trace entry inputs given s m front named at loop z =
    let all = before ++ pl ∷ after in
    let b = keys_in before in
    let settings = whole.settings in
    let x = spot set whole ps before after pl m in
    let codes = joined (codes_from (keyed b pl.setting) b tell.Nothing pl.piece.ops) in
    let half : pl.piece.id.half ≡ Pre = ap (λ (q : PieceId). q.half) (sym named) in
    let place : pl.piece.id.trace ≡ trace = ap (λ (q : PieceId). q.trace) (sym named) in
    let first : Put entry_instr ∷ codes ≡ puts pl.front ++ codes = ap (λ (l : List Instr). puts l ++ codes) (sym (front_of pl front half)) in
    let repeats = subst (λ (k : ℕ). IsSomeAnd (slice_get set.traces k) (RepeatsInputs pl.piece.id pl.piece.label)) place x.lawful.sound.inputs_repeated in
    let kinds = label_kinds set pl.piece.id pl.piece.label inputs (slice_get set.traces trace) half repeats loop z.inputs_are in
    let entered = laws.starts z.arena_bytes z.prebuilt entry z.words codes s z.start z.few z.are in
    let run = subst (λ (l : List Slot). Reach pl.at l s codes (Brought s z.words)) first (subst (λ (n : ℕ). Reach n (Put entry_instr ∷ codes) s codes (Brought s z.words)) at entered) in
    let goal = λ (t : State). HoldsAt (settings pl.piece.id) (ops_at whole.pieces pl.piece.id) 0 (begin_at ps pl.piece.id inputs (first_world set.table given)) (no_calls given) t in record {
      pl = run_of b pl;
      there = run_there before after pl;
      named = sym named;
      at = z.start.at ∙ ap (λ (n : ℕ). 0x40000000 + n) at;
      enters = record { run = weaker pl.at (puts pl.front ++ codes) s codes (Brought s z.words) goal (λ t r. begins_with laws set whole ps settings b pl trace entry inputs given s t m.ready front x z kinds r) run; spots = λ f. absurd f };
      none = z.start.instructions;
    }

pub starts_begin : (host : Host) → Enters → (set : TraceSet) (whole : Setup) (ps : List Piece) (placed : List Placed) (image : Imaged) (trace entry : ℕ) (inputs : List Value) (given : List Answer) (s : State)
    → Made set whole ps placed → AllByRecursion HasEntry placed → AreHere placed image.pieces → IsEntry set ps image trace entry → IsStarted set trace entry inputs s
    → Begins (model_of host set whole.pieces whole.settings ps) (image_of placed) trace inputs given s
starts_begin host laws set whole ps placed image trace entry inputs given s m fronts heres e z =
    let f = found m.names placed (preamble trace) e.piece (subst (λ (l : List Piece). piece_at l (preamble trace) ≡ Some e.piece) (sym m.pieces) e.there) in
    let at : entry ≡ f.pl.at = e.at ∙ entry_is placed image.pieces (preamble trace) heres ∙ f.begins in
    let front = all_here HasEntry f.before f.after f.pl (subst (AllByRecursion HasEntry) f.here fronts) in
    let made = subst (Made set whole ps) f.here m in
    subst (λ (l : List Placed). Begins (model_of host set whole.pieces whole.settings ps) (image_of l) trace inputs given s) (sym f.here)
    (begin_loop host laws set whole ps f.before f.after f.pl trace entry inputs given s made front f.named at e.loop z)
