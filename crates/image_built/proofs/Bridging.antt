-- A failing guard leads into its bridge's piece, which begins behind the moves in front of it.
use Rattle.std.proofs.Common.{◌≡◌, ℕ, ◌+◌, ◌<◌, ◌^◌, List, [], ◌∷◌, ◌++◌, length, map, refl, sym, ap, ◌∙◌, subst, inl, inr, arith, Option, Some}
use Rattle.std.specs.Prelude.{slice_get}
use Rattle.std.specs.List.{AllByRecursion, AllZip, Contains}
use Rattle.lists.specs.Has.{Has}
use Rattle.trace_ops.specs.Words.{IsWord}
use Rattle.trace_ops.specs.declared.trace.Kind.{Kind}
use Rattle.trace_ops.specs.declared.trace.BoxId.{BoxId}
use Rattle.trace_ops.specs.declared.trace.TraceSet.{TraceSet}
use Rattle.trace_ops.specs.declared.table.Table.{Table}
use Rattle.trace_ops.specs.declared.piece.OptOp.{OptOp}
use Rattle.trace_ops.specs.declared.piece.OptOp.TheVariants as opt
use Rattle.trace_ops.specs.declared.piece.Piece.{Piece}
use Rattle.trace_ops.specs.declared.piece.PieceId.{PieceId}
use Rattle.target_base.specs.declared.place.Place.{Place}
use Rattle.target_base.specs.declared.place.Place.TheVariants.{In, Word}
use Rattle.trace_meaning.specs.declared.value.Value.{Value}
use Rattle.trace_meaning.specs.Legs.{Fails}
use Rattle.trace_meaning.specs.World.{World, failed}
use Rattle.opt_meaning.specs.Step.{opt_begin}
use Rattle.opt_meaning.specs.Pieces.{label_of, label_at, ops_at, begin_at}
use Rattle.x64_encode.specs.declared.instr.Instr.{Instr}
use Rattle.x64_machine.specs.State.{State}
use Rattle.asm_select.specs.declared.told.Told.TheVariants as tell
use Rattle.asm_select.specs.Slots.{Slot, puts, size_of, sizes_of}
use Rattle.asm_select.specs.Valued.{value, MayHold, IsFit}
use Rattle.asm_select.specs.Chosen.{Setting}
use Rattle.asm_select.specs.Reached.{Reach}
use Rattle.asm_select.specs.Exited.{shown_by}
use Rattle.bridge_patch.specs.Pieces.{Placed}
use Rattle.bridge_patch.specs.Attached.{entry_code, guard_of}
use Rattle.image_runs.specs.Session.{Calls, Host}
use Rattle.image_runs.specs.Reached.{IsJumpOf}
use Rattle.image_runs.specs.Selection.{joined}
use Rattle.image_runs.specs.Image.{moved, ToBridge}
use Rattle.image_model.specs.Ready.{AreKinded, StaysReady, kinds_left}
use Rattle.image_model.specs.Modelled.{HoldsAt, LeftAt, model_of}
use Rattle.image_model.specs.Laws.{GuardsHold, codes_from}
use Rattle.image_built.specs.Built.{keyed, all_slots, run_of, runs_from, to_all, image_of}
use Rattle.image_built.proofs.Splitting.{keys_in}
use Rattle.image_built.proofs.Naming.{some_is}
use Rattle.image_built.proofs.Entering.{Brought, enters, apart_of}
use Rattle.image_built.proofs.Placing.{StayReady, Setup, IsBridged, Made, Spot, spot, shown_at, within_ops, op_at}
use Rattle.image_built.proofs.Reaching.{all_aim, goes_to, to_split, bridge_low, run_there}

-- ---- behind the jump

value_moved : (n : ℕ) (t : State) (p : Place) → value (moved n t) p ≡ value t p
value_moved n t (In r) = refl
value_moved n t (Word k) = refl

fit_moved : (n : ℕ) (t : State) → IsFit t → IsFit (moved n t)
fit_moved n t h = record {
  regs = h.regs;
  frame = h.frame;
  words = λ p. subst IsWord (sym (value_moved n t p)) (h.words p);
  base = h.base;
  stack = h.stack;
  top = h.top;
}

each_has : {X : Type 0} (before xs : List X) → AllByRecursion (Has (before ++ xs)) xs
each_has before [] = tt
each_has before (x ∷ xs) = (here before x xs, subst (λ l. AllByRecursion (Has l) xs) (one_more before x xs) (each_has (before ++ x ∷ []) xs))
  where
    here : {X : Type 0} (before : List X) (x : X) (xs : List X) → Has (before ++ x ∷ xs) x
    here [] x xs = inl refl
    here (y ∷ before) x xs = inr (here before x xs)

    one_more : {X : Type 0} (before : List X) (x : X) (xs : List X) → (before ++ x ∷ []) ++ xs ≡ before ++ x ∷ xs
    one_more [] x xs = refl
    one_more (y ∷ before) x xs = ap (λ l. y ∷ l) (one_more before x xs)

places_held : (f : BoxId → Place) (label : List BoxId) → ((b : BoxId) → MayHold (f b)) → AllByRecursion MayHold (map f label)
places_held f [] h = tt
places_held f (b ∷ label) h = (h b, places_held f label h)

-- the words of boxes at two moments
words_meet : (f g : BoxId → Place) (n : ℕ) (t u : State) (shown label : List BoxId) → AllZip (λ (x y : Place). value u y ≡ value (moved n t) x) (map f shown) (map g label) → AllZip (λ (a b : BoxId). value u (g b) ≡ value t (f a)) shown label
words_meet f g n t u [] [] h = tt
words_meet f g n t u (a ∷ shown) (b ∷ label) h = (h.0 ∙ value_moved n t (f a), words_meet f g n t u shown label h.1)
words_meet f g n t u [] (b ∷ label) h = absurd h
words_meet f g n t u (a ∷ shown) [] h = absurd h

-- ---- the kinds

some_map : {X Y : Type 0} (f : X → Y) (xs : List X) → map (λ (x : X). Some (f x)) xs ≡ map (λ (y : Y). Some y) (map f xs)
some_map f [] = refl
some_map f (x ∷ xs) = ap (λ l. Some (f x) ∷ l) (some_map f xs)

pub somes : (xs bs : List BoxId) → map (λ (x : BoxId). x.kind) xs ≡ map (λ (x : BoxId). x.kind) bs → map (λ (x : BoxId). Some x.kind) xs ≡ map (λ (x : BoxId). Some x.kind) bs
somes xs bs e = some_map (λ (x : BoxId). x.kind) xs ∙ ap (map (λ (k : Kind). Some k)) e ∙ sym (some_map (λ (x : BoxId). x.kind) bs)

shown_kinds : (op : OptOp) (n : ℕ) → guard_of op ≡ Some n → kinds_left op ≡ map (λ (b : BoxId). Some b.kind) (shown_by op)
shown_kinds (opt.Plain operation r args d) n e = absurd (cc)
shown_kinds (opt.Guard operation args m snap) n e = refl
shown_kinds (opt.Exit m snap) n e = refl
shown_kinds (opt.Jump to args) n e = absurd (cc)
shown_kinds (opt.Finish value) n e = absurd (cc)

-- ---- the bridge's piece

module _ (hold : GuardsHold) (set : TraceSet) (whole : Setup) (ps : List Piece) (b c : ℕ) (pl to : Placed) (done rest : List OptOp) (op : OptOp) (n : ℕ) (ready : StayReady set ps) (s : Spot set whole ps whole.settings b pl) (z : Spot set whole ps whole.settings c to)
    (e : pl.piece.ops ≡ done ++ op ∷ rest) (g : guard_of op ≡ Some n) (kinds : map (λ (x : BoxId). x.kind) to.piece.label ≡ map (λ (x : BoxId). x.kind) (shown_by op)) where
  abbrev q : PieceId
  q = pl.piece.id

  abbrev r : PieceId
  r = to.piece.id

  abbrev settings : PieceId → Setting
  settings = whole.settings

  known : slice_get (ops_at whole.pieces q) (length done) ≡ Some op
  known = ap (λ (l : List OptOp). slice_get l (length done)) s.wholly ∙ op_at pl.piece.ops done rest op e

  -- it stays ready from the values that are shown
  ready_there : (vs : List Value) (w : World) (calls : Calls) (t : State) → LeftAt (settings q) (ops_at whole.pieces q) (length done) (Fails n vs w) calls t → StaysReady (settings r).table (ops_at whole.pieces r) (begin_at ps r vs (failed w))
  ready_there vs w calls t (own, got, so, had) =
      let same : own ≡ op = some_is (sym got ∙ known) in
      let from : (settings q).table ≡ set.table = ap (λ (d : Setting). d.table) s.setting ∙ s.chosen.table in
      let there : set.table ≡ (settings r).table = sym (ap (λ (d : Setting). d.table) z.setting ∙ z.chosen.table) in
      let left : AreKinded (settings q).table (kinds_left op) vs w = subst (λ (o : OptOp). AreKinded (settings q).table (kinds_left o) vs w) same so.kinds in
      let shown : AreKinded set.table (map (λ (x : BoxId). Some x.kind) to.piece.label) vs w =
      subst (λ (ks : List (Option Kind)). AreKinded set.table ks vs w) (shown_kinds op n g ∙ sym (somes to.piece.label (shown_by op) kinds)) (subst (λ (d : Table). AreKinded d (kinds_left op) vs w) from left) in
      let passed : AreKinded set.table (map (λ (x : BoxId). Some x.kind) to.piece.label) vs (failed w) = record { values = shown.values; world = record { prebuilts = shown.world.prebuilts; objects = shown.world.objects } } in
      subst (λ (d : Table). StaysReady d (ops_at whole.pieces r) (begin_at ps r vs (failed w))) there
      (subst (λ (l : List OptOp). StaysReady set.table l (begin_at ps r vs (failed w))) (sym z.wholly)
      (subst (λ (l : List BoxId). StaysReady set.table to.piece.ops (opt_begin l vs (failed w))) (sym (ap label_of z.at)) (ready r to.piece vs (failed w) z.at passed)))

  abbrev from : List Place
  from = shown_at pl op

  abbrev label : List Place
  label = map (λ (x : BoxId). to.setting.at x.number) to.piece.label

  -- and holds where the words have been brought
  holds_there : (vs : List Value) (w : World) (calls : Calls) (a : ℕ) (t u : State) → LeftAt (settings q) (ops_at whole.pieces q) (length done) (Fails n vs w) calls t → Brought (moved a t) from label u
      → HoldsAt (settings r) (ops_at whole.pieces r) 0 (begin_at ps r vs (failed w)) calls u
  holds_there vs w calls a t u left brought =
      let table : (settings r).table ≡ (settings q).table = ap (λ (d : Setting). d.table) z.setting ∙ z.chosen.table ∙ sym s.chosen.table ∙ ap (λ (d : Setting). d.table) (sym s.setting) in
      let meet = words_meet (λ (x : BoxId). pl.setting.at x.number) (λ (x : BoxId). to.setting.at x.number) a t u (shown_by op) to.piece.label brought.brought in
      let keyed_to : AllZip (λ (x y : BoxId). value u ((settings r).at y.number) ≡ value t (pl.setting.at x.number)) (shown_by op) to.piece.label =
      subst (λ (d : Setting). AllZip (λ (x y : BoxId). value u (d.at y.number) ≡ value t (pl.setting.at x.number)) (shown_by op) to.piece.label) (sym z.setting) meet in
      let keyed_both : AllZip (λ (x y : BoxId). value u ((settings r).at y.number) ≡ value t ((settings q).at x.number)) (shown_by op) to.piece.label =
      subst (λ (d : Setting). AllZip (λ (x y : BoxId). value u ((settings r).at y.number) ≡ value t (d.at x.number)) (shown_by op) to.piece.label) (sym s.setting) keyed_to in
      let words : AllZip (λ (x y : BoxId). value u ((settings r).at y.number) ≡ value t ((settings q).at x.number)) (shown_by op) (label_at ps r) =
      subst (λ (l : List BoxId). AllZip (λ (x y : BoxId). value u ((settings r).at y.number) ≡ value t ((settings q).at x.number)) (shown_by op) l) (sym (ap label_of z.at)) keyed_both in
      hold whole.pieces ps settings q r (length done) n op vs w calls t u table known left brought.fit (record { arena = brought.same.arena; loads = brought.same.loads; stores = brought.same.stores }) words (ready_there vs w calls t left)

pub leads_bridge : (host : Host) → GuardsHold → (set : TraceSet) (whole : Setup) (ps : List Piece) (before after : List Placed) (pl : Placed) (done rest : List OptOp) (op : OptOp) (n b : ℕ) (front behind : List Slot) (x : Slot)
    → Made set whole ps (before ++ pl ∷ after) → pl.piece.ops ≡ done ++ op ∷ rest → guard_of op ≡ Some n → (z : IsBridged set (before ++ pl ∷ after) pl op b) → pl.to (length done) ≡ z.to.at
    → all_slots (before ++ pl ∷ after) ≡ front ++ x ∷ behind → IsJumpOf x (keys_in before + length done)
    → ToBridge (model_of host set whole.pieces whole.settings ps) (image_of (before ++ pl ∷ after)) (run_of (keys_in before) pl) (length done) n (record { trace = b; half = pl.piece.id.half }) (0x40000000 + (sizes_of front + size_of x))
leads_bridge host hold set whole ps before after pl done rest op n b front behind x m e g z to split j =
    let all = before ++ pl ∷ after in
    let image = image_of all in
    let k = length done in
    let key = keys_in before in
    let there = keys_in z.before in
    let s = spot set whole ps before after pl m in
    let made = subst (Made set whole ps) z.here m in
    let y = spot set whole ps z.before z.after z.to made in
    let lt = within_ops pl.piece.ops done rest op e in
    let low : to_all all (key + k) < 2 ^ 31 = omega (arith, to_split before after pl k lt, to, bridge_low set whole ps all pl op b m z) in
    let goes = goes_to image.by (to_all all) (all_slots all) front behind x (key + k) (all_aim set whole ps all m) split j low m.short in
    let at : to_all all (key + k) ≡ z.to.at = to_split before after pl k lt ∙ to in
    let codes = joined (codes_from (keyed there z.to.setting) there tell.Nothing z.to.piece.ops) in
    let guards = shown_at pl op in
    let label = map (λ (i : BoxId). z.to.setting.at i.number) z.to.piece.label in
    let in_guards : AllByRecursion (Has guards) guards = each_has [] guards in
    let held = places_held (λ (i : BoxId). z.to.setting.at i.number) z.to.piece.label (λ i. y.chosen.hold i.number) in
    record {
      to = run_of there z.to;
      there = subst (λ (l : List Placed). Contains (runs_from 0 l) (run_of there z.to)) (sym z.here) (run_there z.before z.after z.to);
      named = z.named;
      goes = goes ∙ ap (λ (i : ℕ). 0x40000000 + i) at;
      enters = λ vs w c a t left place. (
          let run = enters guards guards label z.to.at codes (moved a t) (fit_moved a t left.2.fit) place z.moved in_guards held (apart_of label z.distinct) in
          let moves : puts (entry_code guards label) ++ codes ≡ puts z.to.front ++ codes = ap (λ (l : List Instr). puts l ++ codes) (sym z.front) in
          let here = subst (λ (l : List Slot). Reach z.to.at l (moved a t) codes (Brought (moved a t) guards label)) moves run in
          record { run = record { path = here.path; few = here.few; t = here.t; q = here.q; comes = here.comes; front = here.front; split = here.split; place = here.place; at = here.at; holds = holds_there hold set whole ps key there pl z.to done rest op n m.ready s y e g z.kinds vs w c a t here.t left here.holds }; spots = λ f. absurd f });
    }
