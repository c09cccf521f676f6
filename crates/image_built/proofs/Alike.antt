-- Each activation of a session over compiled loops runs as its pieces do.
use Rattle.std.proofs.Common.{◌≡◌, ◌⊎◌, inl, inr, ℕ, zero, suc, ◌+◌, ◌*◌, ◌≤◌, List, [], ◌∷◌, ◌++◌, length, take, map, refl, sym, ap, ◌∙◌, subst, arith, Option, Some, None}
use Rattle.std.specs.Prelude.{slice_index_or}
use Rattle.std.specs.List.{All, flat_map}
use Rattle.std.proofs.lemmas.List.{append-nil}
use Rattle.std.proofs.lemmas.List.Elements.{All-nil}
use Rattle.trace_ops.specs.declared.trace.TraceSet.{TraceSet}
use Rattle.trace_ops.specs.declared.piece.PieceId.{PieceId}
use Rattle.trace_ops.specs.declared.piece.Piece.{Piece}
use Rattle.trace_ops.specs.declared.piece.OptTrace.{OptTrace}
use Rattle.trace_meaning.specs.declared.state.RecState.{RecState}
use Rattle.trace_meaning.specs.declared.value.Store.{Store}
use Rattle.trace_meaning.specs.Cuts.{Cuts}
use Rattle.trace_meaning.specs.World.{World}
use Rattle.trace_meaning.specs.Legs.{Leave, Fails, Jumps, Finishes, Waits, Misfits, Wrong, Turn, On, Off, In, Over, run, Ended, legs}
use Rattle.opt_meaning.specs.Step.{Opt, opt_step}
use Rattle.opt_meaning.specs.Pieces.{PiecesNow, pieces, all_pieces}
use Rattle.guard_exit.specs.declared.row.ExitRow.{ExitRow}
use Rattle.x64_machine.specs.State.{State}
use Rattle.asm_select.specs.Chosen.{Setting}
use Rattle.asm_select.specs.Laid.{ChosenAreShort}
use Rattle.code_layout.specs.Chosen.{ChosenJumps}
use Rattle.bridge_patch.specs.Pieces.{all_rows}
use Rattle.bridge_patch.specs.Image.{Imaged}
use Rattle.image_runs.specs.Printed.{Part, Printed, code_at, rows_at, bridges_at}
use Rattle.image_runs.specs.Attached.{widened}
use Rattle.image_runs.specs.Session.{Host, Calls, End, Shows, Full, Waiting, Misfitting, Lost, Activation, Session, SessionRun}
use Rattle.image_runs.specs.Selection.{Model, EndsBy, ended}
use Rattle.image_runs.specs.Runs.{world_now}
use Rattle.image_runs.specs.Image.{Image, code_in, IsImage}
use Rattle.image_runs.specs.Kept.{first_of}
use Rattle.image_runs.specs.Following.{AnswersMakeNone, begun_of, first_now, first_leg, Refused, Follows, Goes, Shows_end, Refuses, Strays, IsActive}
use Rattle.image_runs.specs.Sessions.{ImageStands, OneStands, SessionStands}
use Rattle.image_runs.specs.Laws.{BuiltStands, RunKeeps, ForwardBound, ShownBackward, WaitsBackward, MisfitsBackward, FullBeside, GoingCalls, ShownCalls}
use Rattle.image_model.specs.Modelled.{SameCalls, model_of}
use Rattle.image_model.specs.Laws.{HostServes}
use Rattle.image_model.specs.Staying.{SoundPiecesStayReady}
use Rattle.image_built.specs.Built.{image_of, settings_from}
use Rattle.image_built.specs.Attached.{Attached, IsPrintedWith, AttachedIsBuilt, settings_with, pieces_in}
use Rattle.image_built.specs.Laws.{Compiled, Keeps, model_for, HostStarts, IsPrinted, CompiledIsBuilt}
use Rattle.image_built.specs.Printing.{printed_rows, by_rows}
use Rattle.image_built.specs.Running.{no_session, now_after, leg_after, PiecesEnd, GoneWrong, EndsAlike, By_row, Without_answer, With_misfit, For_want_of_bytes, GoesAlike, RunsAlike, CompiledRuns, AttachedRuns}
use Rattle.image_built.proofs.Naming.{TellsNames}
use Rattle.image_built.proofs.Standing.{own_made}
use Rattle.image_built.proofs.Attachments.{made, rows_are, exits_are}
use Rattle.image_built.proofs.Returning.{TellsExits, tells_exits}
use Rattle.image_built.proofs.Printing.{run_by, IsStartedBy, run_starts}

-- the laws of runs, of one model
pub record Keeping (m : Model) : Type 0 where
  pub built : BuiltStands m
  pub keeps : RunKeeps m
  pub forward : ForwardBound m
  pub shown : ShownBackward m
  pub waits : WaitsBackward m
  pub misfits : MisfitsBackward m
  pub full : FullBeside m
  pub going : GoingCalls m
  pub calls : ShownCalls m

none_some : {A X : Type 0} (o : Option X) (x : X) → o ≡ None → o ≡ Some x → A
none_some o x a b = absurd (cc)

some_one : {X : Type 0} (o : Option X) (x y : X) → o ≡ Some x → o ≡ Some y → x ≡ y
some_one o x y a b = cc

no_cuts : (cuts : Cuts) → map first_of cuts ≡ [] → cuts ≡ []
no_cuts [] e = refl
no_cuts (x ∷ cuts) e = absurd (cc)

no_bridges : (im : Printed) (j : ℕ) → im.parts ≡ [] → bridges_at im j ≡ []
no_bridges im j e = ap (λ (l : List Part). map (λ (x : Part). x.bridge) (take j l)) e ∙ none j
  where
    none : (j : ℕ) → map (λ (x : Part). x.bridge) (take j []) ≡ []
    none zero = refl
    none (suc j) = refl

no_rows : (im : Printed) → im.parts ≡ [] → printed_rows im ≡ im.rows
no_rows im e = ap (λ (l : List Part). im.rows ++ flat_map (λ (x : Part). x.rows) (take (length l) l)) e ∙ append-nil im.rows

-- what is known of compiled pieces below
pub record Names : Type 0 where
  pub names : TellsNames
  pub jumps : ChosenJumps
  pub short : ChosenAreShort
  pub stays : SoundPiecesStayReady

-- ---- how it has ended

-- the leaves of pieces under an activation's cuts
uncut : (set : TraceSet) (ps : List Piece) (cs : Cuts) (act : Activation) (n : ℕ) (q : PieceId) (l : Leave) → act.cuts ≡ cs → legs (pieces set ps act.cuts) n (first_leg (begun_of set.table act)) ≡ Ended q l → leg_after set ps cs act n ≡ Ended q l
uncut set ps cs act n q l e h = subst (λ (c : Cuts). legs (pieces set ps c) n (first_leg (begun_of set.table act)) ≡ Ended q l) e h

no_shows : (m : Model) (w : World) (turn : Turn Opt) (c : Calls) (s : State) (state : RecState) (store : Store) → EndsBy m w turn c s (Shows state store) → ⊥
no_shows m w (On after) c s state store h = h
no_shows m w (Off (Fails n vs u)) c s state store h = h
no_shows m w (Off (Jumps vs u)) c s state store h = h
no_shows m w (Off (Finishes vs u)) c s state store h = h
no_shows m w (Off (Waits u)) c s state store h = h
no_shows m w (Off (Misfits u)) c s state store h = h
no_shows m w (Off (Wrong u)) c s state store h = h

no_lost : (m : Model) (w : World) (turn : Turn Opt) (c : Calls) (s : State) (at : ℕ) → EndsBy m w turn c s (Lost at) → ⊥
no_lost m w (On after) c s at h = h
no_lost m w (Off (Fails n vs u)) c s at h = h
no_lost m w (Off (Jumps vs u)) c s at h = h
no_lost m w (Off (Finishes vs u)) c s at h = h
no_lost m w (Off (Waits u)) c s at h = h
no_lost m w (Off (Misfits u)) c s at h = h
no_lost m w (Off (Wrong u)) c s at h = h

-- the model of pieces, whose host shows ends by rows that are printed
abbrev of : Host → Printed → (set : TraceSet) (whole ps : List Piece) → (PieceId → Setting) → Model
of host im set whole ps settings = model_of (by_rows im host) set whole settings ps

refused : (host : Host) (im : Printed) (set : TraceSet) (whole ps : List Piece) (settings : PieceId → Setting) (g : Image) (cs : Cuts) (act : Activation) (end : End) → Keeping (of host im set whole ps settings) → act.cuts ≡ cs → Refused (of host im set whole ps settings) g (begun_of set.table act) act end → EndsAlike host set whole ps settings cs act end
refused host im set whole ps settings g cs act (Full asked left) k e z =
    let now = z.reached.ran in
    let same : now_after set ps cs act z.reached.operations ≡ In z.piece (z.op ∷ z.rest) z.env =
    subst (λ (c : Cuts). run (pieces set ps c) z.reached.operations (first_now (pieces set ps c) (begun_of set.table act)) ≡ In z.piece (z.op ∷ z.rest) z.env) e now in
    For_want_of_bytes z.piece z.op z.rest z.env z.reached.operations asked left same (k.full g (begun_of set.table act) act asked left z)
refused host im set whole ps settings g cs act Waiting k e z =
    Without_answer z.piece (λ n le. (let r = k.waits g (begun_of set.table act) act z n le in (r.0, uncut set ps cs act n z.piece (Waits r.0) e r.1, r.2)))
refused host im set whole ps settings g cs act (Misfitting call) k e z =
    With_misfit z.piece call (λ n le. (let r = k.misfits g (begun_of set.table act) act call z n le in (r.0, uncut set ps cs act n z.piece (Misfits r.0) e r.1, r.2, r.3)))
refused host im set whole ps settings g cs act (Shows state store) k e z = absurd (no_shows (of host im set whole ps settings) z.env.world (opt_step set.table z.op z.env) act.calls act.machine state store z.ends)
refused host im set whole ps settings g cs act (Lost at) k e z = absurd (no_lost (of host im set whole ps settings) z.env.world (opt_step set.table z.op z.env) act.calls act.machine at z.ends)

strayed : (set : TraceSet) (ps : List Piece) (cs : Cuts) (act : Activation) (q : PieceId) (w : World) (n : ℕ) → act.cuts ≡ cs → run (pieces set ps act.cuts) n (first_now (pieces set ps act.cuts) (begun_of set.table act)) ≡ Over q (Wrong w) → GoneWrong set ps cs act
strayed set ps cs act q w n e h = (n, q, w, subst (λ (c : Cuts). run (pieces set ps c) n (first_now (pieces set ps c) (begun_of set.table act)) ≡ Over q (Wrong w)) e h)

has_ended : (host : Host) (im : Printed) (set : TraceSet) (whole ps : List Piece) (settings : PieceId → Setting) (g : Image) (cs : Cuts) (act : Activation) → Keeping (of host im set whole ps settings) → TellsExits set whole settings (printed_rows im) → act.cuts ≡ cs → Follows (of host im set whole ps settings) g (begun_of set.table act) act
    → (end : End) → act.end ≡ Some end → EndsAlike host set whole ps settings cs act end ⊎ GoneWrong set ps cs act
has_ended host im set whole ps settings g cs act k exits e (Goes none z) end is = none_some act.end end none is
has_ended host im set whole ps settings g cs act k exits e (Shows_end x same z) end is =
    let b = begun_of set.table act in
    let one : x ≡ end = some_one act.end x end same is in
    let calls = k.calls g b act x z in
    let ends : PiecesEnd set ps cs act z.pl.id (ended z.leave) = λ n le. uncut set ps cs act n z.pl.id (ended z.leave) e (k.shown g b act x z n le) in
    let row = exits z.pl.id z.place z.leave act.calls act.machine z.row z.shows.1 z.row_is.0 z.row_is.1 z.gone in
    inl (subst (EndsAlike host set whole ps settings cs act) one (By_row x z.pl.id z.place z.leave z.row z.row_is.0 z.row_is.1 row.0 row.1 z.gone z.shows.0 calls ends))
has_ended host im set whole ps settings g cs act k exits e (Refuses x same z) end is =
    let one : x ≡ end = some_one act.end x end same is in
    inl (subst (EndsAlike host set whole ps settings cs act) one (refused host im set whole ps settings g cs act x k e z))
has_ended host im set whole ps settings g cs act k exits e (Strays q w z) end is = inr (strayed set ps cs act q w z.operations e z.ran)

-- ---- how it goes

goes_on : (host : Host) (im : Printed) (set : TraceSet) (whole ps : List Piece) (settings : PieceId → Setting) (g : Image) (cs : Cuts) (act : Activation) → Keeping (of host im set whole ps settings) → act.cuts ≡ cs → Follows (of host im set whole ps settings) g (begun_of set.table act) act
    → act.end ≡ None → GoesAlike set ps cs act ⊎ GoneWrong set ps cs act
goes_on host im set whole ps settings g cs act k e (Goes none z) is =
    let b = begun_of set.table act in
    let n = z.reached.operations in
    let now : z.x ≡ now_after set ps cs act n = subst (λ (c : Cuts). z.x ≡ run (pieces set ps c) n (first_now (pieces set ps c) b)) e (sym z.reached.ran) in
    inl (record {
      operations = n;
      calls = subst (λ (x : PiecesNow). SameCalls (world_now (pieces set ps cs) x) act.calls) now (subst (λ (c : Cuts). SameCalls (world_now (pieces set ps c) z.x) act.calls) e (k.going g b act z));
      failures = subst (λ (x : PiecesNow). (world_now (pieces set ps cs) x).failures ≡ act.failures) now (subst (λ (c : Cuts). (world_now (pieces set ps c) z.x).failures ≡ act.failures) e z.exact);
    })
goes_on host im set whole ps settings g cs act k e (Shows_end x same z) is = none_some act.end x is same
goes_on host im set whole ps settings g cs act k e (Refuses x same z) is = none_some act.end x is same
goes_on host im set whole ps settings g cs act k e (Strays q w z) is = inr (strayed set ps cs act q w z.operations e z.ran)

-- ---- one activation

runs_alike : (host : Host) (im : Printed) (set : TraceSet) (whole ps : List Piece) (settings : PieceId → Setting) (g : Image) (bs : List ℕ) (rows : List ExitRow) (bytes : List ℕ) (cs : Cuts) (act : Activation) → Keeping (of host im set whole ps settings) → TellsExits set whole settings (printed_rows im) → AnswersMakeNone host
    → IsImage (of host im set whole ps settings) g bs rows → code_in g ≡ bytes → act.cuts ≡ cs → IsStartedBy host act → IsActive (of host im set whole ps settings) g bs (begun_of set.table act) act → RunsAlike host set whole ps settings bs cs (length bytes) act
runs_alike host im set whole ps settings g bs rows bytes cs act k exits none image code e started active =
    let b = begun_of set.table act in record {
      started = started;
      attached = ap (map first_of) (sym e) ∙ active.cuts;
      forward = λ n q l going legs_end le.
          k.forward g bs rows b act n q l none image active going (subst (λ (c : Cuts). legs (pieces set ps c) n (first_leg b) ≡ Ended q l) (sym e) legs_end) (subst (λ (x : List ℕ). (n + 1) * length x ≤ act.machine.instructions) (sym code) le);
      ends = has_ended host im set whole ps settings g cs act k exits e active.follows;
      goes = goes_on host im set whole ps settings g cs act k e active.follows;
    }

-- ---- all of a session

-- two facts of each are one
all_both : {X : Type 0} (P Q R : X → Type 0) (xs : List X) → ((x : X) → P x → Q x → R x) → All P xs → All Q xs → All R xs
all_both P Q R xs f h g k d lt = f (slice_index_or xs k d) (h k d lt) (g k d lt)

none_started : (h : Host) → All (IsStartedBy h) []
none_started h = All-nil (IsStartedBy h)

runs_in : (host : Host) (im : Printed) → CompiledIsBuilt (by_rows im host) → (set : TraceSet) (whole : List Piece) (other : PieceId → Setting) (loops : List OptTrace) (image : Imaged) (z : Compiled set loops image) (s : Session)
    → Keeping (model_for (by_rows im host) set whole other loops image z) → TellsExits set whole (settings_from 0 z.made.placed other) (printed_rows im)
    → HostServes host set.table → HostStarts host set → AnswersMakeNone host → Keeps (all_pieces loops) whole → IsPrinted set (all_pieces loops) image im → im.parts ≡ []
    → SessionRun host im no_session s → All (RunsAlike host set whole (all_pieces loops) (settings_from 0 z.made.placed other) [] [] (length image.bytes)) s.activations
runs_in host im is_built set whole other loops image z s k exits serves starts none keeps printed parts ran =
    let ps = all_pieces loops in
    let g = image_of z.made.placed in
    let m = model_for (by_rows im host) set whole other loops image z in
    let settings = settings_from 0 z.made.placed other in
    let built = is_built set whole other loops image z im serves starts keeps printed parts in
    let stands = k.built (λ j. ps) (λ j. g) im built in
    let first : SessionStands m (λ j. ps) (λ j. g) im no_session = record { within = omega arith; each = All-nil (OneStands m (λ j. ps) (λ j. g) im 0) } in
    let last = k.keeps (λ j. ps) (λ j. g) im no_session s none stands first (run_by im host no_session s ran) in
    let code : code_in g ≡ image.bytes = sym built.base ∙ printed.base in
    let bare = no_bridges im s.parts parts in
    all_both (OneStands m (λ j. ps) (λ j. g) im s.parts) (IsStartedBy host) (RunsAlike host set whole ps settings [] [] (length image.bytes)) s.activations
    (λ act one started. (let active = subst (λ (bs : List ℕ). IsActive m g bs (begun_of set.table act) act) bare one.1 in runs_alike host im set whole ps settings g [] im.rows image.bytes [] act k exits none built.compiled code (no_cuts act.cuts active.cuts) started active)) last.each (run_starts im host no_session s ran (none_started host))

-- the rows of compiled pieces tell where they are left
compiled_exits : TellsNames → ChosenJumps → ChosenAreShort → SoundPiecesStayReady → (set : TraceSet) (whole : List Piece) (other : PieceId → Setting) (loops : List OptTrace) (image : Imaged) (z : Compiled set loops image) (im : Printed)
    → Keeps (all_pieces loops) whole → IsPrinted set (all_pieces loops) image im → im.parts ≡ [] → TellsExits set whole (settings_from 0 z.made.placed other) (printed_rows im)
compiled_exits names jumps short stays set whole other loops image z im keeps printed parts =
    let settings = settings_from 0 z.made.placed other in
    let made = own_made names jumps short stays set whole other loops image z keeps in
    let own = tells_exits set (record { pieces = whole; settings = settings; bridges = [] }) (all_pieces loops) z.made.placed made in
    let rows : all_rows z.made.placed ≡ printed_rows im = sym (no_rows im parts ∙ printed.rows ∙ z.made.exits) in
    subst (TellsExits set whole settings) rows own

pub compiled_runs : (host : Host) (set : TraceSet) (whole ps : List Piece) (settings : PieceId → Setting) (im : Printed) → Names → CompiledIsBuilt (by_rows im host) → Keeping (of host im set whole ps settings) → CompiledRuns host set whole ps settings im
compiled_runs host set whole ps settings im n built k other loops image z s same_pieces same_settings serves starts none keeps printed parts ran =
    let all = all_pieces loops in
    let own = settings_from 0 z.made.placed other in
    let here = subst (λ (c : PieceId → Setting). Keeping (of host im set whole all c)) same_settings (subst (λ (l : List Piece). Keeping (of host im set whole l settings)) same_pieces k) in
    let kept = subst (λ (l : List Piece). Keeps l whole) same_pieces keeps in
    let text = subst (λ (l : List Piece). IsPrinted set l image im) same_pieces printed in
    let exits = compiled_exits n.names n.jumps n.short n.stays set whole other loops image z im kept text parts in
    let each = runs_in host im built set whole other loops image z s here exits serves starts none kept text parts ran in
    subst (λ (l : List Piece). All (RunsAlike host set whole l settings [] [] (length image.bytes)) s.activations) (sym same_pieces)
    (subst (λ (c : PieceId → Setting). All (RunsAlike host set whole all c [] [] (length image.bytes)) s.activations) (sym same_settings) each)

-- ---- with bridges

attached_exits : TellsNames → ChosenJumps → ChosenAreShort → SoundPiecesStayReady → (set : TraceSet) (whole : List Piece) (other : PieceId → Setting) (loops : List OptTrace) (count : ℕ) (z : Attached set loops count) (im : Printed)
    → Keeps (pieces_in (z.placed count)) whole → IsPrintedWith set loops count z im → TellsExits set whole (settings_with set loops count z other) (printed_rows im)
attached_exits names jumps short stays set whole other loops count z im keeps printed =
    let settings = settings_with set loops count z other in
    let made = made names jumps short stays set whole other loops count z keeps count (omega arith) in
    let own = tells_exits set (record { pieces = whole; settings = settings; bridges = (z.image count).attached }) (pieces_in (z.placed count)) (z.placed count) made in
    let last : printed_rows im ≡ (z.image count).exits = ap (rows_at im) printed.many ∙ rows_are names jumps short stays set whole other loops count z im printed count (omega arith) in
    let rows : all_rows (z.placed count) ≡ printed_rows im = sym (last ∙ exits_are names jumps short stays set whole other loops count z) in
    subst (TellsExits set whole settings) rows own

pub attached_runs : (host : Host) (set : TraceSet) (whole ps : List Piece) (settings : PieceId → Setting) (im : Printed) → Names → AttachedIsBuilt (by_rows im host) → Keeping (of host im set whole ps settings) → AttachedRuns host set whole ps settings im
attached_runs host set whole ps settings im names built k other loops count z s same_pieces same_settings serves starts none keeps printed ran =
    let own = settings_with set loops count z other in
    let here = subst (λ (c : PieceId → Setting). Keeping (of host im set whole ps c)) same_settings k in
    let m = of host im set whole ps own in
    let p = λ (j : ℕ). pieces_in (z.placed j) in
    let g = λ (j : ℕ). image_of (z.placed j) in
    let n = s.parts in
    let b = built set whole other loops count z im serves starts keeps printed in
    let stands : ImageStands m p g im = here.built p g im (record { base = b.base; compiled = b.compiled; attached = b.attached; begins = b.begins }) in
    let first : SessionStands m p g im no_session = record { within = omega arith; each = All-nil (OneStands m p g im 0) } in
    let last = here.keeps p g im no_session s none stands first (run_by im host no_session s ran) in
    let code : code_in (g n) ≡ code_at im n = sym (stands.code n last.within) in
    let exits = attached_exits names.names names.jumps names.short names.stays set whole other loops count z im keeps printed in
    let image : IsImage m (g n) (bridges_at im n) (rows_at im n) = subst (λ (l : List Piece). IsImage (widened m l) (g n) (bridges_at im n) (rows_at im n)) (sym same_pieces) (stands.image n last.within) in
    subst (λ (c : PieceId → Setting). All (λ (act : Activation). RunsAlike host set whole ps c (bridges_at im n) act.cuts (length (code_at im n)) act) s.activations) (sym same_settings)
    (all_both (OneStands m p g im n) (IsStartedBy host) (λ (act : Activation). RunsAlike host set whole ps own (bridges_at im n) act.cuts (length (code_at im n)) act) s.activations
    (λ act one started. (let active : IsActive m (g n) (bridges_at im n) (begun_of set.table act) act = subst (λ (l : List Piece). IsActive (widened m l) (g n) (bridges_at im n) (begun_of set.table act) act) (sym same_pieces) one.1 in
    runs_alike host im set whole ps own (g n) (bridges_at im n) (rows_at im n) (code_at im n) act.cuts act here exits none image code refl started active)) last.each (run_starts im host no_session s ran (none_started host)))
