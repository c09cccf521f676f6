-- All activations of a session keep to their traces.
use Rattle.std.proofs.Common.{◌≡◌, ℕ, List, [], length, map, Some, sym, subst}
use Rattle.std.specs.List.{All, AllByRecursion, Contains}
use Rattle.std.specs.Prelude.{slice_get}
use Rattle.std.proofs.lemmas.Option.{slice_get_within, get_or_from_slice_get}
use Rattle.lists.proofs.Alls.{all_from, all_weaker}
use Rattle.lists.proofs.Places.{get_map}
use Rattle.trace_ops.specs.Constants.{HasWords}
use Rattle.trace_ops.specs.InRange.{IsInRange}
use Rattle.trace_ops.specs.WellFormed.{IsWellFormed}
use Rattle.trace_ops.specs.declared.trace.TraceSet.{TraceSet}
use Rattle.trace_ops.specs.declared.piece.Piece.{Piece}
use Rattle.trace_ops.specs.declared.piece.PieceId.{PieceId}
use Rattle.trace_meaning.specs.Cuts.{Cuts}
use Rattle.opt_meaning.specs.Meeting.{Made, pieces_of}
use Rattle.opt_promise.specs.Legs.{MadePiecesPromiseLegs}
use Rattle.opt_promise.specs.Promise.{AreAt, AreMade, IsStart}
use Rattle.asm_select.specs.Chosen.{Setting}
use Rattle.image_runs.specs.Kept.{first_of}
use Rattle.image_runs.specs.Printed.{Printed, code_at, bridges_at}
use Rattle.image_runs.specs.Session.{Activation}
use Rattle.session_host.specs.Hosting.{host_of}
use Rattle.image_built.specs.Hosting.{ArenaHostsDo}
use Rattle.image_built.specs.Laws.{Keeps}
use Rattle.image_built.specs.Running.{RunsAlike, CompiledRuns, AttachedRuns}
use Rattle.image_shows.specs.Keeping.{KeepsToItsTrace}
use Rattle.image_shows.specs.Laws.{IsSoundPiece, HasSnapshotWords, IsGivenWords, CompiledImagesShow, AttachedImagesShow}
use Rattle.trace_meaning.specs.Boxes.{BoxesDecide, BindingLaws}
use Rattle.trace_meaning.specs.Holding.{OperationsKeepKinds}
use Rattle.resume_rebuild.specs.Exits.{SoundSnapshotsRebuild}
use Rattle.image_shows.proofs.Snapshots.{rebuild_rightly}
use Rattle.image_shows.proofs.Kept.{Laws, keeps_to_its_trace}

-- each cut is at the bridge that it names
cuts_at : (cuts : Cuts) (k : ℕ) (c : ℕ × ℕ) → slice_get cuts k ≡ Some c → Contains (map first_of cuts) c.0
cuts_at cuts k c e =
    let here : slice_get (map first_of cuts) k ≡ Some c.0 = get_map first_of cuts k c e in
    (k, slice_get_within (map first_of cuts) k c.0 here, get_or_from_slice_get (map first_of cuts) k c.0 c.0 here)

at_firsts : (cuts : Cuts) (bs : List ℕ) → map first_of cuts ≡ bs → AreAt bs cuts
at_firsts cuts bs e = all_from (λ (c : ℕ × ℕ). Contains bs c.0) cuts (λ k c is. subst (λ (l : List ℕ). Contains l c.0) e (cuts_at cuts k c is))

-- the laws on rebuilding
pub record Below : Type 0 where
  pub can : SoundSnapshotsRebuild
  pub decide : BoxesDecide
  pub binding : BindingLaws
  pub keep : OperationsKeepKinds

module _ (l : Laws) (b : Below) (promised : MadePiecesPromiseLegs) (set : TraceSet) (bridges : List ℕ) (ms : List Made) (whole : List Piece) (settings : PieceId → Setting) (arena_bytes : ℕ)
    (range : IsInRange set) (well : IsWellFormed set) (words : HasWords set) (h : AreMade set bridges ms) (keeps : Keeps (pieces_of ms) whole) (sound : AllByRecursion (IsSoundPiece set) whole) (snapshots : AllByRecursion HasSnapshotWords whole) where
  pub one_keeps : (cuts : Cuts) (bytes : ℕ) (act : Activation) → RunsAlike (host_of set whole arena_bytes) set whole (pieces_of ms) settings bridges cuts bytes act → IsGivenWords act → KeepsToItsTrace set cuts bytes act
  one_keeps cuts bytes act r given =
      let started = r.started.2 in
      let start : IsStart set act.trace act.inputs act.given = record { starts = started.loop; words = started.words; answers_words = given } in
      keeps_to_its_trace l set bridges ms whole settings arena_bytes bytes bridges cuts act range.table h.fit (promised set bridges ms range well words h) keeps sound (rebuild_rightly b.can b.decide b.binding b.keep set whole range.table sound snapshots) start (at_firsts cuts bridges r.attached) r

pub compiled_show : (set : TraceSet) (whole ps : List Piece) (settings : PieceId → Setting) (im : Printed) (arena_bytes : ℕ) → Laws → Below → MadePiecesPromiseLegs → ArenaHostsDo → CompiledRuns (host_of set whole arena_bytes) set whole ps settings im → CompiledImagesShow set whole ps settings im arena_bytes
compiled_show set whole ps settings im arena_bytes l b promised hosts runs other loops image z ms s same_pieces same_settings made well words least most h keeps sound rebuild printed parts ran =
    let range = z.can.range in
    let host = hosts set whole arena_bytes range words least most in
    let all = runs other loops image z s same_pieces same_settings host.serves host.starts host.quiet keeps printed parts ran in
    let kept : Keeps (pieces_of ms) whole = subst (λ (x : List Piece). Keeps x whole) (sym made) keeps in
    let own = subst (λ (x : List Piece). All (RunsAlike (host_of set whole arena_bytes) set whole x settings [] [] (length image.bytes)) s.activations) (sym made) all in
    all_weaker (RunsAlike (host_of set whole arena_bytes) set whole (pieces_of ms) settings [] [] (length image.bytes)) (λ (act : Activation). IsGivenWords act → KeepsToItsTrace set [] (length image.bytes) act) s.activations
    (λ act r given. one_keeps l b promised set [] ms whole settings arena_bytes range well words h kept sound rebuild [] (length image.bytes) act r given) own

pub attached_show : (set : TraceSet) (whole ps : List Piece) (settings : PieceId → Setting) (im : Printed) (arena_bytes : ℕ) → Laws → Below → MadePiecesPromiseLegs → ArenaHostsDo → AttachedRuns (host_of set whole arena_bytes) set whole ps settings im → AttachedImagesShow set whole ps settings im arena_bytes
attached_show set whole ps settings im arena_bytes l b promised hosts runs other loops count z ms s same_pieces same_settings made well words least most h keeps all_keep sound rebuild printed ran =
    let range = z.compiled.can.range in
    let host = hosts set whole arena_bytes range words least most in
    let n = s.parts in
    let bs = bridges_at im n in
    let bytes = length (code_at im n) in
    let all = runs other loops count z s same_pieces same_settings host.serves host.starts host.quiet all_keep printed ran in
    let kept : Keeps (pieces_of ms) whole = subst (λ (x : List Piece). Keeps x whole) (sym made) keeps in
    let own = subst (λ (x : List Piece). All (λ (act : Activation). RunsAlike (host_of set whole arena_bytes) set whole x settings bs act.cuts bytes act) s.activations) (sym made) all in
    all_weaker (λ (act : Activation). RunsAlike (host_of set whole arena_bytes) set whole (pieces_of ms) settings bs act.cuts bytes act) (λ (act : Activation). IsGivenWords act → KeepsToItsTrace set act.cuts bytes act) s.activations
    (λ act r given. one_keeps l b promised set bs ms whole settings arena_bytes range well words h kept sound rebuild act.cuts bytes act r given) own
