-- Where jumps lead once a bridge is attached.
use Rattle.std.proofs.Common.{◌≡◌, ◌≢◌, ℕ, ◌+◌, ◌-◌, Bool, true, false, cond, List, [], ◌∷◌, ◌++◌, length, Option, Some, None, refl, sym, ap, ◌∙◌, subst, arith, inl, inr}
use Rattle.std.specs.Prelude.{map, slice_get, option_and_then}
use Rattle.std.specs.List.{All, AllByRecursion, Contains}
use Rattle.trace_ops.specs.declared.trace.BoxId.{BoxId}
use Rattle.trace_ops.specs.declared.trace.Trace.{Trace}
use Rattle.trace_ops.specs.declared.trace.TraceSet.{TraceSet}
use Rattle.trace_ops.specs.declared.piece.Half.{Half}
use Rattle.trace_ops.specs.declared.piece.PieceId.{PieceId}
use Rattle.trace_ops.specs.declared.piece.OptOp.{OptOp}
use Rattle.trace_ops.specs.declared.piece.OptOp.TheVariants as opt
use Rattle.trace_ops.specs.Kinds.{kind_of_arg}
use Rattle.trace_ops.specs.Pieces.{FitsLabel}
use Rattle.trace_ops.specs.Sound.{IsSound}
use Rattle.trace_ops.specs.WellFormed.{IsWellFormed}
use Rattle.trace_meaning.specs.Cuts.{is_bridge_of}
use Rattle.bridge_patch.specs.Pieces.{Placed, stub_of}
use Rattle.bridge_patch.specs.Image.{Imaged, AreHere, label_in}
use Rattle.bridge_patch.specs.Bridged.{IsBridge, LacksParent, bridge_on, is_from}
use Rattle.bridge_patch.specs.Attached.{begin_in, behind_guard, LeadsNow, AllLeadNow, JumpsAmong, IsKnown, guard_of, is_copy_at, led_on}
use Rattle.bridge_patch.specs.Bridging.{target_label, IsNew}
use Rattle.bridge_patch.proofs.Compiled.{in_middle, get_at}
use Rattle.bridge_patch.proofs.Fitting.{label_here, start_here}
use Rattle.bridge_patch.proofs.Bridges.{on_more, on_none, on_new, on_some, others_away, none_from}
use Rattle.bridge_patch.proofs.Lookups.{AreOthers, begin_past, begin_none, begin_kept, start_kept, places_kept}

-- a bridge that isn't attached yet, and pieces of it behind those of an image
pub record Going (set : TraceSet) (bs : List ℕ) (bridge : ℕ) (placed news : List Placed) : Type 0 where
  pub formed : IsWellFormed set
  pub is : IsBridge set bridge
  pub fresh : ¬ Contains bs bridge
  pub known : AllByRecursion (λ (pl : Placed). IsKnown set bs pl.piece.id.trace) placed
  pub named : AllByRecursion (λ (pl : Placed). pl.piece.id.trace ≡ bridge) news
  pub parents : (b : ℕ) → Contains bs b → ¬ LacksParent set bs b

abbrev pub grown : TraceSet → ℕ → List Placed → List Placed → List Placed
grown set bridge placed news = map (led_on set.traces bridge news) placed ++ news

abbrev pub labels_of : List Placed → PieceId → Option (List BoxId)
labels_of placed = label_in (map (λ (pl : Placed). pl.piece) placed)

known_apart : (set : TraceSet) (bs : List ℕ) (bridge k : ℕ) → IsBridge set bridge → ¬ Contains bs bridge → IsKnown set bs k → bridge ≢ k
known_apart set bs bridge k is fresh (inl away) e = away (subst (IsBridge set) e is)
known_apart set bs bridge k is fresh (inr c) e = fresh (subst (Contains bs) (sym e) c)

all_apart : (set : TraceSet) (bs : List ℕ) (bridge : ℕ) (pls : List Placed) → IsBridge set bridge → ¬ Contains bs bridge → AllByRecursion (λ (pl : Placed). IsKnown set bs pl.piece.id.trace) pls → AreOthers bridge pls
all_apart set bs bridge [] is fresh h = tt
all_apart set bs bridge (pl ∷ pls) is fresh h = (known_apart set bs bridge pl.piece.id.trace is fresh h.0, all_apart set bs bridge pls is fresh h.1)

news_apart : (bs : List ℕ) (bridge c : ℕ) (news : List Placed) → ¬ Contains bs bridge → Contains bs c → AllByRecursion (λ (pl : Placed). pl.piece.id.trace ≡ bridge) news → AreOthers c news
news_apart bs bridge c [] fresh h n = tt
news_apart bs bridge c (pl ∷ pls) fresh h n = ((λ e. fresh (subst (Contains bs) (e ∙ n.0) h)), news_apart bs bridge c pls fresh h n.1)

if_true : (b : Bool) (x y : ℕ) → b ≡ true → cond b x y ≡ x
if_true b x y e = ap (λ (c : Bool). cond c x y) e

if_false : (b : Bool) (x y : ℕ) → b ≡ false → cond b x y ≡ y
if_false b x y e = ap (λ (c : Bool). cond c x y) e

-- ---- the pieces that were there

guard_leads : (set : TraceSet) (bs : List ℕ) (bridge : ℕ) (placed news : List Placed) (pl : Placed) (k n : ℕ) → Going set bs bridge placed news
    → pl.to k ≡ behind_guard (stub_of pl k) placed pl.piece.id.half (bridge_on set.traces bs pl.piece.id.trace n) → is_copy_at set.traces bridge pl k ≡ is_bridge_of set.traces pl.piece.id.trace n bridge
    → (led_on set.traces bridge news pl).to k ≡ behind_guard (stub_of pl k) (grown set bridge placed news) pl.piece.id.half (bridge_on set.traces (bs ++ bridge ∷ []) pl.piece.id.trace n)
guard_leads set bs bridge placed news pl k n g lead copy = by (is_bridge_of set.traces pl.piece.id.trace n bridge) refl
  where
    traces : List Trace
    traces = set.traces

    p : ℕ
    p = pl.piece.id.trace

    h : Half
    h = pl.piece.id.half

    now : List Placed
    now = grown set bridge placed news

    there : ℕ
    there = begin_in news (record { trace = bridge; half = h })

    kept : (o : Option ℕ) → bridge_on traces bs p n ≡ o → behind_guard (stub_of pl k) placed h o ≡ behind_guard (stub_of pl k) now h o
    kept None e = refl
    kept (Some c) e =
        let q : PieceId = record { trace = c; half = h } in
        sym (begin_kept traces bridge news placed news q (begin_none news q (news_apart bs bridge c news g.fresh (on_some traces bs p n c e) g.named)))

    by : (b : Bool) → is_bridge_of traces p n bridge ≡ b → (led_on traces bridge news pl).to k ≡ behind_guard (stub_of pl k) now h (bridge_on traces (bs ++ bridge ∷ []) p n)
    by true e =
        if_true (is_copy_at traces bridge pl k) there (pl.to k) (copy ∙ e)
        ∙ sym (begin_past traces bridge news placed news (record { trace = bridge; half = h }) (all_apart set bs bridge placed g.is g.fresh g.known))
        ∙ ap (behind_guard (stub_of pl k) now h) (sym (on_new traces bs bridge p n (others_away set bs bridge p n g.formed g.fresh e) e))
    by false e =
        if_false (is_copy_at traces bridge pl k) there (pl.to k) (copy ∙ e)
        ∙ lead
        ∙ kept (bridge_on traces bs p n) refl
        ∙ ap (behind_guard (stub_of pl k) now h) (sym (on_more traces bs bridge p n e))

copy_is : (traces : List Trace) (bridge : ℕ) (pl : Placed) (done rest : List OptOp) (op : OptOp) → pl.piece.ops ≡ done ++ op ∷ rest → is_copy_at traces bridge pl (length done) ≡ is_from traces bridge pl.piece.id.trace (guard_of op)
copy_is traces bridge pl done rest op split =
    ap (λ (l : List OptOp). is_from traces bridge pl.piece.id.trace (option_and_then guard_of (slice_get l (length done)))) split
    ∙ ap (λ (o : Option OptOp). is_from traces bridge pl.piece.id.trace (option_and_then guard_of o)) (get_at done rest op)

lead_old : (set : TraceSet) (bs : List ℕ) (bridge : ℕ) (placed news : List Placed) (pl : Placed) (done rest : List OptOp) (op : OptOp) → Going set bs bridge placed news → JumpsAmong (labels_of placed) pl
    → pl.piece.ops ≡ done ++ op ∷ rest → LeadsNow set.traces bs placed pl (length done) op → LeadsNow set.traces (bs ++ bridge ∷ []) (grown set bridge placed news) (led_on set.traces bridge news pl) (length done) op
lead_old set bs bridge placed news pl done rest (opt.Plain operation r args d) g fits split lead = tt
lead_old set bs bridge placed news pl done rest (opt.Guard operation args n snap) g fits split lead = guard_leads set bs bridge placed news pl (length done) n g lead (copy_is set.traces bridge pl done rest (opt.Guard operation args n snap) split)
lead_old set bs bridge placed news pl done rest (opt.Exit n snap) g fits split lead = guard_leads set bs bridge placed news pl (length done) n g lead (copy_is set.traces bridge pl done rest (opt.Exit n snap) split)
lead_old set bs bridge placed news pl done rest (opt.Jump q args) g fits split lead =
    let P : List BoxId → Type 0 = λ label. map kind_of_arg args ≡ map (λ (b : BoxId). Some b.kind) label in
    let there = in_middle (FitsLabel (labels_of placed)) done rest (opt.Jump q args) (subst (All (FitsLabel (labels_of placed))) split fits) in
    let here = if_false (is_copy_at set.traces bridge pl (length done)) (begin_in news (record { trace = bridge; half = pl.piece.id.half })) (pl.to (length done)) (copy_is set.traces bridge pl done rest (opt.Jump q args) split) in
    (here ∙ lead.0 ∙ sym (start_kept P set.traces bridge news placed news q there), lead.1 ∙ sym (places_kept P set.traces bridge news placed news q there))
lead_old set bs bridge placed news pl done rest (opt.Finish value) g fits split lead =
    if_false (is_copy_at set.traces bridge pl (length done)) (begin_in news (record { trace = bridge; half = pl.piece.id.half })) (pl.to (length done)) (copy_is set.traces bridge pl done rest (opt.Finish value) split) ∙ lead

pub leads_old : (set : TraceSet) (bs : List ℕ) (bridge : ℕ) (placed news pls : List Placed) → Going set bs bridge placed news → AllByRecursion (JumpsAmong (labels_of placed)) pls
    → AllByRecursion (AllLeadNow set.traces bs placed) pls → AllByRecursion (AllLeadNow set.traces (bs ++ bridge ∷ []) (grown set bridge placed news)) (map (led_on set.traces bridge news) pls)
leads_old set bs bridge placed news [] g fits leads = tt
leads_old set bs bridge placed news (pl ∷ pls) g fits leads =
    ((λ done rest op split. lead_old set bs bridge placed news pl done rest op g fits.0 split (leads.0 done rest op split)), leads_old set bs bridge placed news pls g fits.1 leads.1)

-- ---- the bridge's pieces

none_on : (set : TraceSet) (bs : List ℕ) (bridge : ℕ) (placed news : List Placed) (k n : ℕ) → Going set bs bridge placed news → k ≡ bridge → bridge_on set.traces (bs ++ bridge ∷ []) k n ≡ None
none_on set bs bridge placed news k n g name = ap (λ (p : ℕ). bridge_on set.traces (bs ++ bridge ∷ []) p n) name ∙ on_none set.traces (bs ++ bridge ∷ []) bridge n (none_from set bs bridge n g.formed g.is g.fresh g.parents)

lead_new : (set : TraceSet) (image : Imaged) (source : Option (ℕ × ℕ)) (bridge : ℕ) (placed news : List Placed) (pl : Placed) (done rest : List OptOp) (op : OptOp)
    → Going set image.attached bridge placed news → AreHere placed image.pieces → IsNew set image source pl → pl.piece.id.trace ≡ bridge → IsSound set (labels_of placed) pl.piece
    → pl.piece.ops ≡ done ++ op ∷ rest → LeadsNow set.traces (image.attached ++ bridge ∷ []) (grown set bridge placed news) pl (length done) op
lead_new set image source bridge placed news pl done rest (opt.Plain operation r args d) g here new name sound split = tt
lead_new set image source bridge placed news pl done rest (opt.Guard operation args n snap) g here new name sound split =
    new.targets done rest (opt.Guard operation args n snap) split ∙ ap (behind_guard (stub_of pl (length done)) (grown set bridge placed news) pl.piece.id.half) (sym (none_on set image.attached bridge placed news pl.piece.id.trace n g name))
lead_new set image source bridge placed news pl done rest (opt.Exit n snap) g here new name sound split =
    new.targets done rest (opt.Exit n snap) split ∙ ap (behind_guard (stub_of pl (length done)) (grown set bridge placed news) pl.piece.id.half) (sym (none_on set image.attached bridge placed news pl.piece.id.trace n g name))
lead_new set image source bridge placed news pl done rest (opt.Jump q args) g here new name sound split =
    let P : List BoxId → Type 0 = λ label. map kind_of_arg args ≡ map (λ (b : BoxId). Some b.kind) label in
    let there = in_middle (FitsLabel (labels_of placed)) done rest (opt.Jump q args) (subst (All (FitsLabel (labels_of placed))) split sound.jumps_fit) in
    let at = ap (λ (l : List OptOp). slice_get l (length done)) split ∙ get_at done rest (opt.Jump q args) in
    let last : length done + 1 ≡ length pl.piece.ops = (sound.formed.ends_once (length done) (opt.Jump q args) at).0 refl in
    let m : length pl.piece.ops - 1 ≡ length done = omega (arith, last) in
    let label = new.to ∙ ap (λ (i : ℕ). target_label image.pieces (slice_get pl.piece.ops i)) m ∙ ap (target_label image.pieces) at ∙ label_here placed image.pieces q here in (
      new.targets done rest (opt.Jump q args) split ∙ start_here placed image.pieces q here ∙ sym (start_kept P set.traces bridge news placed news q there),
      label ∙ sym (places_kept P set.traces bridge news placed news q there),
    )
lead_new set image source bridge placed news pl done rest (opt.Finish value) g here new name sound split = new.targets done rest (opt.Finish value) split

pub leads_new : (set : TraceSet) (image : Imaged) (source : Option (ℕ × ℕ)) (bridge : ℕ) (placed news pls : List Placed) → Going set image.attached bridge placed news → AreHere placed image.pieces
    → AllByRecursion (IsNew set image source) pls → AllByRecursion (λ (pl : Placed). pl.piece.id.trace ≡ bridge) pls → AllByRecursion (λ (pl : Placed). IsSound set (labels_of placed) pl.piece) pls
    → AllByRecursion (AllLeadNow set.traces (image.attached ++ bridge ∷ []) (grown set bridge placed news)) pls
leads_new set image source bridge placed news [] g here new names sound = tt
leads_new set image source bridge placed news (pl ∷ pls) g here new names sound =
    ((λ done rest op split. lead_new set image source bridge placed news pl done rest op g here new.0 names.0 sound.0 split), leads_new set image source bridge placed news pls g here new.1 names.1 sound.1)
