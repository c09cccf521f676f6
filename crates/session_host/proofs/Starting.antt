-- A started machine begins its loop's first piece.
use Rattle.std.proofs.Common.{◌≡◌, ℕ, suc, ◌+◌, ◌-◌, ◌*◌, ◌/◌, ◌^◌, ◌<◌, ◌≤◌, List, [], ◌∷◌, ◌++◌, length, map, Option, Some, None, refl, sym, ap, ◌∙◌, subst, arith, ℤ, pos, replicate, slice_index_or}
use Rattle.std.specs.Prelude.{slice_get, sum_by}
use Rattle.std.specs.List.{All}
use Rattle.std.specs.Option.{IsSomeAnd}
use Rattle.std.proofs.lemmas.List.{length-map}
use Rattle.std.proofs.lemmas.List.Elements.{All-nil, All-cons, All-head, All-tail}
use Rattle.lists.proofs.Alls.{all_at, all_weaker}
use Rattle.trace_ops.specs.Words.{IsWord}
use Rattle.trace_ops.specs.Constants.{HasWords, InitialHasWord}
use Rattle.trace_ops.specs.InRange.{IsInRange, IsTraceWithin, prebuilt_bytes}
use Rattle.trace_ops.specs.declared.table.Initial.{Initial}
use Rattle.trace_ops.specs.declared.table.Initial.TheVariants as initial
use Rattle.trace_ops.specs.declared.table.PrebuiltRow.{PrebuiltRow}
use Rattle.trace_ops.specs.declared.table.Table.{Table}
use Rattle.trace_ops.specs.declared.trace.BoxId.{BoxId}
use Rattle.trace_ops.specs.declared.trace.Trace.{Trace}
use Rattle.trace_ops.specs.declared.trace.Origin.{Origin}
use Rattle.trace_ops.specs.InRange.{most_inputs}
use Rattle.trace_ops.specs.declared.trace.TraceSet.{TraceSet}
use Rattle.target_base.specs.Arena.{Arena}
use Rattle.target_base.specs.declared.place.Place.TheVariants.{Word}
use Rattle.trace_meaning.specs.declared.value.Value.{Value}
use Rattle.trace_meaning.specs.declared.value.Value.TheVariants as v
use Rattle.trace_meaning.specs.declared.value.Object.{Object}
use Rattle.trace_meaning.specs.declared.call.Answer.{Answer}
use Rattle.trace_meaning.specs.Recorded.{first_world, prebuilt_object}
use Rattle.trace_meaning.specs.Sound.{HasWord}
use Rattle.trace_meaning.specs.Starting.{IsPrebuiltOrNone, StartsLoop}
use Rattle.trace_meaning.specs.Values.{kind_of_value}
use Rattle.opt_meaning.specs.Pieces.{ops_at, label_at, begin_at, preamble}
use Rattle.arena_objects.specs.Layout.{address_of, word_of}
use Rattle.arena_objects.specs.Standing.{IsPart, Stands}
use Rattle.arena_objects.specs.Starting.{first_objects, first_words, IsWordInitial, HasWordInitials}
use Rattle.arena_objects.specs.Laws.{AddressesAreApart}
use Rattle.arena_world.specs.Prebuilt.{HasPrebuilts}
use Rattle.arena_world.specs.Laws.{FirstWorldStands, FirstBytes}
use Rattle.x64_machine.specs.State.{State}
use Rattle.x64_machine.specs.Start.{zeros, first_arena}
use Rattle.asm_select.specs.Valued.{value, IsFit}
use Rattle.asm_select.specs.Chosen.{Where}
use Rattle.asm_select.specs.Reached.{PrebuiltsStand, SameArena}
use Rattle.asm_select.specs.Ended.{BoxesStand, AreParts}
use Rattle.asm_select.specs.Exited.{LabelHolds, StartFits}
use Rattle.image_runs.specs.Session.{no_calls}
use Rattle.image_model.specs.Ready.{StaysReady}
use Rattle.image_model.specs.Modelled.{SameCalls, HoldsAt}
use Rattle.session_host.specs.Laws.{StartsHold}

-- ---- the first arena

word_initial : (i : Initial) → InitialHasWord i → IsWordInitial i
word_initial (initial.Int z) h = h
word_initial initial.Null h = tt
word_initial (initial.Ptr k) h = tt

word_initials : (set : TraceSet) → HasWords set → HasWordInitials set.table
word_initials set h =
    all_weaker (λ (row : PrebuiltRow). All InitialHasWord row.parts) (λ (row : PrebuiltRow). All IsWordInitial row.parts) set.table.prebuilts
    (λ row k. all_weaker InitialHasWord IsWordInitial row.parts word_initial k) h.initials

arena_is : (bytes : ℕ) (ws : List ℤ) → first_arena bytes ws ≡ record { words = ws ++ replicate (bytes / 8 - length ws) (pos 0); taken = 8 * length ws }
unfolding first_arena zeros
arena_is bytes ws = refl

abbrev Stood : Table → List Answer → Arena → Type 0
Stood t given arena = Stands t (first_world t given).objects arena × HasPrebuilts t (first_world t given).objects

pub first_stands : FirstWorldStands → FirstBytes → (set : TraceSet) (given : List Answer) (bytes : ℕ) (arena : Arena) → IsInRange set → HasWords set → 65536 ≤ bytes → bytes ≤ 2 ^ 24 → arena ≡ first_arena bytes (first_words set.table) → Stood set.table given arena
first_stands stand counted set given bytes arena range words least most e =
    let t = set.table in
    let n = bytes / 8 - length (first_words t) in
    let few : sum_by prebuilt_bytes t.prebuilts ≤ 32768 = range.table.within.prebuilt in
    let room : length (first_words t) + n ≤ 2 ^ 21 = omega (arith, few, counted t) in
    let z = stand t given n range.table (word_initials set words) room in
    (subst (Stands t (first_world t given).objects) (sym (e ∙ arena_is bytes (first_words t))) z.0, z.1)

-- ---- the inputs

pub few_inputs : (set : TraceSet) (inputs : List Value) (o : Option Trace) (start : ℕ) → IsInRange set → slice_get set.traces start ≡ o → IsSomeAnd o (StartsLoop set.table inputs) → (length inputs ≤ 64) × All (IsPrebuiltOrNone set.table) inputs
few_inputs set inputs None start range e h = absurd h
few_inputs set inputs (Some trace) start range e h =
    let within : IsTraceWithin trace = all_at IsTraceWithin set.traces start trace range.traces_within e in
    let many : length inputs ≡ length trace.inputs = sym (length-map inputs kind_of_value) ∙ ap length h.1 ∙ length-map trace.inputs (λ (b : BoxId). b.kind) in
    let most : length trace.inputs ≤ 64 = subst (λ (o : Origin). length trace.inputs ≤ most_inputs o) h.0 within.inputs in
    (omega (arith, many, most), h.2)

module _ (apart : AddressesAreApart) (t : Table) (objects : List Object) (arena : Arena) (st : Stands t objects arena) (all : length objects ≡ length t.prebuilts) where
  abbrev at : ℕ → ℕ
  at n = address_of objects n

  one_word : (x : Value) → HasWord x → IsPrebuiltOrNone t x → IsWord (word_of at x)
  one_word (v.Int z) w p = w
  one_word v.Null w p = record { sfits = omega arith }
  one_word (v.Obj n) w p = (let a = apart t objects arena n st (omega (arith, p, all)) in record { sfits = omega (arith, a.high) })

  pub words_fit : (xs : List Value) → All HasWord xs → All (IsPrebuiltOrNone t) xs → All IsWord (map (word_of at) xs)
  words_fit [] w p = All-nil IsWord
  words_fit (x ∷ xs) w p =
      All-cons IsWord (word_of at x) (map (word_of at) xs) (one_word x (All-head HasWord x xs w) (All-head (IsPrebuiltOrNone t) x xs p))
      (words_fit xs (All-tail HasWord x xs w) (All-tail (IsPrebuiltOrNone t) x xs p))

  one_part : (x : Value) → HasWord x → IsPrebuiltOrNone t x → IsPart (length objects) x
  one_part (v.Int z) w p = w
  one_part v.Null w p = tt
  one_part (v.Obj n) w p = omega (arith, p, all)

  pub are_parts : (xs : List Value) → All HasWord xs → All (IsPrebuiltOrNone t) xs → AreParts (length objects) xs
  are_parts [] w p = tt
  are_parts (x ∷ xs) w p = (one_part x (All-head HasWord x xs w) (All-head (IsPrebuiltOrNone t) x xs p), are_parts xs (All-tail HasWord x xs w) (All-tail (IsPrebuiltOrNone t) x xs p))

-- ---- the label

boxes_there : (where_is : Where) (at : ℕ → ℕ) (s : State) (n : ℕ) (label : List BoxId) (xs : List Value) → length label ≡ length xs → ((k : ℕ) (b : BoxId) → slice_get label k ≡ Some b → where_is b.number ≡ Word (n + k))
    → ((k : ℕ) → k < length xs → value s (Word (n + k)) ≡ slice_index_or (map (word_of at) xs) k (pos 0)) → BoxesStand where_is at s label xs
boxes_there where_is at s n [] [] same label words = tt
boxes_there where_is at s n [] (x ∷ xs) same label words = absurd (omega (arith, same))
boxes_there where_is at s n (b ∷ bs) [] same label words = absurd (omega (arith, same))
boxes_there where_is at s n (b ∷ bs) (x ∷ xs) same label words =
    let step = λ (k : ℕ). (let e : n + 1 + k ≡ n + suc k = omega arith in e) in (
      ap (value s) (label 0 b refl) ∙ words 0 (omega arith),
      boxes_there where_is at s (n + 1) bs xs (omega (arith, same)) (λ k c e. label (suc k) c e ∙ ap Word (sym (step k))) (λ k lt. ap (λ (m : ℕ). value s (Word m)) (step k) ∙ words (suc k) (omega (arith, lt))),
    )

pub starts_hold : AddressesAreApart → FirstWorldStands → FirstBytes → LabelHolds → StartFits → StartsHold
starts_hold apart stand counted label_holds start_fits set whole ps settings bytes trace entry inputs given ys s range words least most table many places ready started =
    let t = set.table in
    let q = preamble trace in
    let st = settings q in
    let objects = first_objects t in
    let all : length objects ≡ length t.prebuilts = length-map t.prebuilts prebuilt_object in
    let stood = first_stands stand counted set given bytes s.arena range words least most started.machine.arena in
    let few = few_inputs set inputs (slice_get set.traces trace) trace range refl started.loop in
    let ws = map (word_of (address_of objects)) inputs in
    let long : length ws ≡ length inputs = length-map inputs (word_of (address_of objects)) in
    let fit = words_fit apart t objects s.arena stood.0 all inputs started.words few.1 in
    let parts = are_parts apart t objects s.arena stood.0 all inputs started.words few.1 in
    let r = start_fits bytes (first_words t) entry ws ys s started.machine (omega (arith, long, few.0)) fit in
    let holds = λ (x : State) (h : IsFit x × SameArena s x × ((k : ℕ) → k < length ws → value x (Word (16 + k)) ≡ slice_index_or ws k (pos 0))). (
    let arena = subst (λ (y : Table). Stands y objects x.arena) (sym table) (subst (Stands t objects) (sym h.1.arena) stood.0) in
    let prebuilts = subst (λ (y : Table). PrebuiltsStand y objects) (sym table) stood.1 in
    let boxes = boxes_there st.at (address_of objects) x 16 (label_at ps q) inputs many places (λ k lt. h.2 k (omega (arith, long, lt))) in
    let now = label_holds st (label_at ps q) (ops_at whole q) inputs (first_world t given) x h.0 arena prebuilts parts boxes in
    let calls : SameCalls (first_world t given) (no_calls given) = record { log = refl; answers = refl } in
    let stays = subst (λ (y : Table). StaysReady y (ops_at whole q) (begin_at ps q inputs (first_world t given))) (sym table) ready in
    let all_of_it : HoldsAt st (ops_at whole q) 0 (begin_at ps q inputs (first_world t given)) (no_calls given) x = (now, calls, stays) in
    all_of_it) in
    record {
      run = record { path = r.path; few = r.few; t = r.t; q = r.q; comes = r.comes; front = r.front; split = r.split; place = r.place; at = r.at; holds = holds r.t r.holds };
      spots = λ x. absurd x;
    }
