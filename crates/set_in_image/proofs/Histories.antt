-- How an image comes to be.
use Rattle.std.proofs.Common.{◌≡◌, ℕ, suc, ◌-◌, ◌<◌, ◌≤◌, length, arith, List, [], ◌∷◌, ◌++◌, map, refl, sym, ap, ◌∙◌, subst}
use Rattle.std.specs.List.{All, AllByRecursion}
use Rattle.std.specs.Prelude.{slice_index_or}
use Rattle.lists.proofs.Appends.{length_push}
use Rattle.trace_ops.specs.declared.trace.Trace.{Trace}
use Rattle.trace_ops.specs.declared.trace.TraceSet.{TraceSet}
use Rattle.trace_ops.specs.declared.piece.OptTrace.{OptTrace}
use Rattle.trace_ops.specs.declared.piece.Piece.{Piece}
use Rattle.trace_check.specs.Faults.{IsChecked}
use Rattle.opt_meaning.specs.Pieces.{all_pieces}
use Rattle.opt_meaning.specs.Worded.{OpHasWords}
use Rattle.bridge_patch.specs.Pieces.{Placed}
use Rattle.bridge_patch.specs.Image.{Imaged, CanCompile, IsImage}
use Rattle.bridge_patch.specs.Attached.{IsImageOf, AreOfBridge, CanAttach, IsChanged, IsGrown, led_on}
use Rattle.loop_peel.specs.declared.peeling.Peeled.{Peeled}
use Rattle.opt_set.specs.Optimised.{Optimised, IsOptimised, with_bridge}
use Rattle.opt_set.specs.Attaching.{IsOneMore}
use Rattle.set_in_image.specs.Fitting.{LoopsCanCompile}
use Rattle.set_in_image.specs.Attaching.{StandIn, AttachedCanAttach}
use Rattle.set_in_image.specs.Placing.{Placing, Step, History, with_step, placed_behind, image_behind, IsStep, AreSteps, IsHistory, HasNoStep, IsPlaced, IsReady, IsAttached}
use Rattle.set_in_image.proofs.Things.{append_none, append_assoc, flat_both, map_both, push_last, last_index}

-- One step more

placed_more : (placed : List Placed) (steps : List Step) (s : Step) → placed_behind placed (steps ++ s ∷ []) ≡ s.placed
placed_more placed [] s = refl
placed_more placed (x ∷ steps) s = placed_more x.placed steps s

image_more : (image : Imaged) (steps : List Step) (s : Step) → image_behind image (steps ++ s ∷ []) ≡ s.image
image_more image [] s = refl
image_more image (x ∷ steps) s = image_more x.image steps s

steps_more : (set : TraceSet) (placed : List Placed) (image : Imaged) (steps : List Step) (s : Step) → AreSteps set placed image steps → IsStep set (placed_behind placed steps) (image_behind image steps) s → AreSteps set placed image (steps ++ s ∷ [])
steps_more set placed image [] s all is = (is, tt)
steps_more set placed image (x ∷ steps) s all is = (all.0, steps_more set x.placed x.image steps s all.1 is)

-- jumps that are led elsewhere leave the pieces
pieces_led : (traces : List Trace) (bridge : ℕ) (news placed : List Placed) → map (λ (pl : Placed). pl.piece) (map (led_on traces bridge news) placed) ≡ map (λ (pl : Placed). pl.piece) placed
pieces_led traces bridge news [] = refl
pieces_led traces bridge news (pl ∷ placed) = ap (λ l. pl.piece ∷ l) (pieces_led traces bridge news placed)

one_more_piece : (traces : List OptTrace) (t : OptTrace) → all_pieces (traces ++ t ∷ []) ≡ all_pieces traces ++ t.pieces
one_more_piece traces t = flat_both (λ (o : OptTrace). o.pieces) traces (t ∷ []) ∙ ap (λ (l : List Piece). all_pieces traces ++ l) (append_none t.pieces)

-- The first image

abbrev pub placing : TraceSet → Optimised → Imaged → Placing
placing set o image = record { set = set; optimised = o; image = image }

module _ (set : TraceSet) (o : Optimised) (registers : ℕ) (image : Imaged) (i : IsOptimised set o) (none : o.attached ≡ []) (can : CanCompile set o.traces registers)
    (z : IsImage set (all_pieces o.traces) image) (of : IsImageOf set z.placed image) (nothing : image.attached ≡ []) where
  pub first_so : HasNoStep (placing set o image)
  first_so = (
    z.placed,
    record {
      registers = registers;
      can = can;
      compiled = z;
      at = refl;
      first_of = of;
      none = nothing;
      steps = tt;
      last = refl;
      stand = record { pieces = z.pieces; image_of = of; attached = nothing ∙ sym none };
      traces = sym (append_none o.traces);
      attached = none;
    },
  )

  pub compiled_so : IsPlaced set o image
  compiled_so = record { optimised = i; history = record { loops = o.traces; placed = first_so.0; first = image; steps = [] }; is = first_so.1 }

-- A bridge more

module _ (can : AttachedCanAttach) (set : TraceSet) (checked : IsChecked set) (old new : Optimised) (was image : Imaged) (i : IsOptimised set old) (j : IsOptimised set new) (one : IsOneMore old new)
    (words : AllByRecursion (λ (p : Piece). All OpHasWords p.ops) one.pieces.pieces) where
  module _ (placed : List Placed) (s : StandIn set old placed was) where
    may : (c : CanAttach set was one.bridge one.pieces.pieces) × (c.placed ≡ placed)
    may = can set old new placed was checked.in_range checked.well_formed checked.light i j one s words

    fit : AreOfBridge set placed one.bridge one.pieces.pieces
    fit = subst (λ ps. AreOfBridge set ps one.bridge one.pieces.pieces) may.1 may.0.pieces_fit

    module _ (changed : IsChanged set one.bridge one.pieces.pieces was image) (grown : IsGrown set one.bridge one.pieces.pieces placed was image) where
      abbrev later : List Placed
      later = map (led_on set.traces one.bridge grown.news) placed ++ grown.news

      stand_later : StandIn set new later image
      stand_later = record {
        pieces =
            map_both (λ (pl : Placed). pl.piece) (map (led_on set.traces one.bridge grown.news) placed) grown.news
            ∙ ap (λ l. l ++ map (λ (pl : Placed). pl.piece) grown.news) (pieces_led set.traces one.bridge grown.news placed ∙ s.pieces)
            ∙ ap (λ l. all_pieces old.traces ++ l) grown.are
            ∙ sym (one_more_piece old.traces one.pieces)
            ∙ ap (λ (z : Optimised). all_pieces z.traces) (sym one.is);
        image_of = grown.image_of;
        attached = changed.attached ∙ ap (λ l. l ++ one.bridge ∷ []) s.attached ∙ ap (λ (z : Optimised). z.attached) (sym one.is);
      }

      abbrev step : Step
      step = record { bridge = one.bridge; opt = one.pieces; placed = later; image = image }

      step_is : IsStep set placed was step
      step_is = record { can = may.0; at = may.1; changed = changed; grown = grown; next = refl }

  module _ (changed : IsChanged set one.bridge one.pieces.pieces was image) (grows : (placed : List Placed) → IsImageOf set placed was → AreOfBridge set placed one.bridge one.pieces.pieces → IsGrown set one.bridge one.pieces.pieces placed was image)
      (h : History) (is : IsHistory set h old was) where
    abbrev here : List Placed
    here = placed_behind h.placed h.steps

    grown : IsGrown set one.bridge one.pieces.pieces here was image
    grown = grows here is.stand.image_of (fit here is.stand)

    abbrev now : List Placed
    now = map (led_on set.traces one.bridge grown.news) here ++ grown.news

    abbrev last_step : Step
    last_step = record { bridge = one.bridge; opt = one.pieces; placed = now; image = image }

    last_is : IsStep set here was last_step
    last_is = step_is here is.stand changed grown

    stands_now : StandIn set new now image
    stands_now = stand_later here is.stand changed grown

    history_now : IsHistory set (with_step h last_step) new image
    history_now = record {
      registers = is.registers;
      can = is.can;
      compiled = is.compiled;
      at = is.at;
      first_of = is.first_of;
      none = is.none;
      steps = steps_more set h.placed h.first h.steps last_step is.steps (subst (λ m. IsStep set here m last_step) (sym is.last) last_is);
      last = image_more h.first h.steps last_step;
      stand = subst (λ ps. StandIn set new ps image) (sym (placed_more h.placed h.steps last_step)) stands_now;
      traces =
          ap (λ (z : Optimised). z.traces) one.is ∙ ap (λ l. l ++ one.pieces ∷ []) is.traces ∙ append_assoc h.loops (map (λ (s : Step). s.opt) h.steps) (one.pieces ∷ [])
          ∙ ap (λ l. h.loops ++ l) (sym (map_both (λ (s : Step). s.opt) h.steps (last_step ∷ [])));
      attached =
          ap (λ (z : Optimised). z.attached) one.is ∙ ap (λ l. l ++ one.bridge ∷ []) is.attached
          ∙ sym (map_both (λ (s : Step). s.bridge) h.steps (last_step ∷ []));
    }

    pub attached_history : (placed : List Placed) × IsHistory set (with_step h (record { bridge = one.bridge; opt = one.pieces; placed = placed; image = image })) new image
    attached_history = (now, history_now)

-- As the code tells it

pub both_so : (s set : TraceSet) (ts us : List OptTrace) (image : Imaged) → s ≡ set → ts ≡ us
    → (z : IsImage s (all_pieces ts) image) × IsImageOf s z.placed image → (z : IsImage set (all_pieces us) image) × IsImageOf set z.placed image
both_so s set ts us image a b h =
    subst (λ (x : TraceSet). (z : IsImage x (all_pieces us) image) × IsImageOf x z.placed image) a
    (subst (λ (l : List OptTrace). (z : IsImage s (all_pieces l) image) × IsImageOf s z.placed image) b h)

-- with the pieces of a bridge that is ready
pub ready_so : (bridge : ℕ) (made : Peeled) (set : TraceSet) (old new : Optimised) (was : Imaged) (before : Placing) → placing set old was ≡ before → IsReady bridge made before → new ≡ with_bridge old bridge made.opt made.at_guards
    → IsOptimised set new × IsOneMore old new × (new.attached ≡ old.attached ++ bridge ∷ [])
ready_so bridge made set old new was before e ready is =
    let r = subst (IsReady bridge made) (sym e) ready in
    (subst (IsOptimised set) (sym is) r.optimised, subst (IsOneMore old) (sym is) r.one, ap (λ (z : Optimised). z.attached) is)

-- taken back
pub kept_so : (set : TraceSet) (old back : Optimised) (was image : Imaged) → back ≡ old → image ≡ was → placing set back image ≡ placing set old was
kept_so set old back was image a b = ap (λ (o : Optimised). placing set o image) a ∙ ap (placing set old) b

pub still_so : (set : TraceSet) (old back : Optimised) (was image : Imaged) → back ≡ old → image ≡ was → IsPlaced set old was → IsPlaced set back image
still_so set old back was image a b p = subst (λ (o : Optimised). IsPlaced set o image) (sym a) (subst (IsPlaced set old) (sym b) p)

pub can_so : LoopsCanCompile → (set : TraceSet) → IsChecked set → (o : Optimised) (registers : ℕ) → IsOptimised set o → o.attached ≡ [] → 3 ≤ registers → registers ≤ 12
    → (ts : List OptTrace) → ts ≡ o.traces → AllByRecursion (λ (p : Piece). All OpHasWords p.ops) (all_pieces ts) → CanCompile set o.traces registers
can_so can set checked o registers i none low high ts same words =
    can set o registers i none checked.in_range checked.light low high (subst (λ (l : List OptTrace). AllByRecursion (λ (p : Piece). All OpHasWords p.ops) (all_pieces l)) same words)

pub named_so : (old new : Optimised) (one : IsOneMore old new) (bridge : ℕ) → new.attached ≡ old.attached ++ bridge ∷ [] → one.bridge ≡ bridge
named_so old new one bridge e = push_last old.attached one.bridge bridge (sym (ap (λ (z : Optimised). z.attached) one.is) ∙ e)

-- the last trace
pub last_so : (old new : Optimised) (one : IsOneMore old new) (ts : List OptTrace) (k : ℕ) (t : OptTrace) → ts ≡ new.traces → k ≡ length ts - 1 → t ≡ slice_index_or ts k t → t ≡ one.pieces
last_so old new one ts k t same at is =
    let whole : ts ≡ old.traces ++ one.pieces ∷ [] = same ∙ ap (λ (z : Optimised). z.traces) one.is in
    is ∙ ap (λ n. slice_index_or ts n t) at ∙ ap (λ (l : List OptTrace). slice_index_or l (length l - 1) t) whole ∙ last_index old.traces one.pieces t

pub some_traces : (old new : Optimised) (one : IsOneMore old new) → 0 < length new.traces
some_traces old new one =
    let long : length new.traces ≡ suc (length old.traces) = ap (λ (z : Optimised). length z.traces) one.is ∙ length_push old.traces one.pieces in
    omega (arith, long)

pub may_so : AttachedCanAttach → (set : TraceSet) → IsChecked set → (old new : Optimised) (was : Imaged) → IsPlaced set old was → IsOptimised set new → (one : IsOneMore old new) (bridge : ℕ) (opt : OptTrace)
    → one.bridge ≡ bridge → opt ≡ one.pieces → AllByRecursion (λ (p : Piece). All OpHasWords p.ops) opt.pieces → CanAttach set was bridge opt.pieces
may_so can set checked old new was p j one bridge opt named same words =
    let worded = subst (λ (t : OptTrace). AllByRecursion (λ (q : Piece). All OpHasWords q.ops) t.pieces) same words in
    subst (λ (t : OptTrace). CanAttach set was bridge t.pieces) (sym same)
    (subst (λ n. CanAttach set was n one.pieces.pieces) named
    (may can set checked old new was was p.optimised j one worded (placed_behind p.history.placed p.history.steps) p.is.stand).0)

pub attached_so : AttachedCanAttach → (set : TraceSet) → IsChecked set → (old new : Optimised) (was image : Imaged) → IsPlaced set old was → IsOptimised set new → (one : IsOneMore old new) (bridge : ℕ) (opt : OptTrace)
    → one.bridge ≡ bridge → opt ≡ one.pieces → AllByRecursion (λ (p : Piece). All OpHasWords p.ops) opt.pieces → IsChanged set bridge opt.pieces was image
    → ((placed : List Placed) → IsImageOf set placed was → AreOfBridge set placed bridge opt.pieces → IsGrown set bridge opt.pieces placed was image)
    → IsAttached bridge (record { set = set; optimised = old; image = was }) (record { set = set; optimised = new; image = image })
attached_so can set checked old new was image p j one bridge opt named same words changed grows =
    let worded = subst (λ (t : OptTrace). AllByRecursion (λ (q : Piece). All OpHasWords q.ops) t.pieces) same words in
    let changed_one = subst (λ (t : OptTrace). IsChanged set bridge t.pieces was image) same changed in
    let changed_so = subst (λ n. IsChanged set n one.pieces.pieces was image) (sym named) changed_one in
    let grows_one =
    subst (λ (t : OptTrace). (placed : List Placed) → IsImageOf set placed was → AreOfBridge set placed bridge t.pieces → IsGrown set bridge t.pieces placed was image) same grows in
    let grows_so =
    subst (λ n. (placed : List Placed) → IsImageOf set placed was → AreOfBridge set placed n one.pieces.pieces → IsGrown set n one.pieces.pieces placed was image) (sym named) grows_one in
    record {
      set = refl;
      one = one;
      named = named;
      changed = changed_one;
      lasts = λ h is.
          subst (λ n. (placed : List Placed) × IsHistory set (with_step h (record { bridge = n; opt = one.pieces; placed = placed; image = image })) new image) named
          (attached_history can set checked old new was image p.optimised j one worded changed_so grows_so h is);
    }

-- of the set by another name
pub attached_by : AttachedCanAttach → (set s : TraceSet) → s ≡ set → IsChecked set → (old new : Optimised) (was image : Imaged) → IsPlaced set old was → IsOptimised set new → (one : IsOneMore old new) (bridge : ℕ) (opt : OptTrace)
    → one.bridge ≡ bridge → opt ≡ one.pieces → AllByRecursion (λ (p : Piece). All OpHasWords p.ops) opt.pieces → IsChanged s bridge opt.pieces was image
    → ((placed : List Placed) → IsImageOf s placed was → AreOfBridge s placed bridge opt.pieces → IsGrown s bridge opt.pieces placed was image)
    → IsAttached bridge (record { set = set; optimised = old; image = was }) (record { set = set; optimised = new; image = image })
attached_by can set s e checked old new was image p j one bridge opt named same words changed grows =
    attached_so can set checked old new was image p j one bridge opt named same words
    (subst (λ (x : TraceSet). IsChanged x bridge opt.pieces was image) e changed)
    (subst (λ (x : TraceSet). (placed : List Placed) → IsImageOf x placed was → AreOfBridge x placed bridge opt.pieces → IsGrown x bridge opt.pieces placed was image) e grows)

pub placed_so : (set : TraceSet) (bridge : ℕ) (old new : Optimised) (was image : Imaged) → IsPlaced set old was → IsOptimised set new
    → IsAttached bridge (record { set = set; optimised = old; image = was }) (record { set = set; optimised = new; image = image }) → IsPlaced set new image
placed_so set bridge old new was image p j a =
    let k = a.lasts p.history p.is in
    record { optimised = j; history = with_step p.history (record { bridge = bridge; opt = a.one.pieces; placed = k.0; image = image }); is = k.1 }
