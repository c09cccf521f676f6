-- What is seen of a session, over the image that is printed.
use Rattle.std.proofs.Common.{◌≡◌, inl, inr, ℕ, zero, suc, ◌+◌, ◌≤◌, List, [], ◌∷◌, ◌++◌, Some, length, map, refl, sym, ap, subst, ◌∙◌, arith}
use Rattle.std.specs.Prelude.{slice_get}
use Rattle.std.specs.List.{All, AllByRecursion, AllZip, Contains}
use Rattle.std.proofs.lemmas.List.{append-nil}
use Rattle.std.proofs.lemmas.List.Elements.{All-nil, All-cons, All-contains, All-map}
use Rattle.lists.specs.Has.{Has}
use Rattle.lists.proofs.Membership.{has_right, has_map}
use Rattle.lists.proofs.Options.{some_same}
use Rattle.trace_ops.specs.declared.trace.Origin.{Origin}
use Rattle.trace_ops.specs.declared.trace.Origin.TheVariants as origin
use Rattle.trace_ops.specs.declared.trace.Trace.{Trace}
use Rattle.trace_ops.specs.declared.trace.TraceSet.{TraceSet}
use Rattle.trace_ops.specs.declared.piece.OptTrace.{OptTrace}
use Rattle.opt_meaning.specs.Pieces.{all_pieces, preamble}
use Rattle.trace_text.specs.PieceWriting.{opt_text}
use Rattle.session_text.specs.declared.session.Line.{Line}
use Rattle.session_text.specs.declared.session.SessionText.{SessionText}
use Rattle.bridge_patch.specs.Image.{Imaged, IsImage, CanCompile, loop_if, loops_from, entry_in}
use Rattle.bridge_patch.specs.Attached.{IsImageOf}
use Rattle.session_host.specs.Hosting.{host_of}
use Rattle.image_runs.specs.Printed.{Printed}
use Rattle.image_runs.specs.Session.{Host, Session}
use Rattle.image_built.specs.Running.{no_session}
use Rattle.image_shows.specs.Laws.{HasSnapshotWords}
use Rattle.image_text.specs.Texts.{image_text}
use Rattle.set_in_image.specs.Placing.{IsPlaced, HasNoStep}
use Rattle.run_session.specs.Sessions.{Active, Sessioned, Tells, IsPrinted, IsSession, host_in, placed_in}
use Rattle.session_seen.specs.Lines.{AreLines}
use Rattle.session_seen.specs.Keeping.{HasEntries, PutsLines}
use Rattle.opt_promise.specs.Promise.{MadePiecesPromise}
use Rattle.opt_set.specs.Optimised.{OptimisedAreMade, OptimisedAreSound}
use Rattle.session_seen.specs.Lines.{LinesAreARun}
use Rattle.tj_app.specs.declared.words.Command.TheVariants as command
use Rattle.tj_app.specs.Telling.{IsBuilt}
use Rattle.tj_app.specs.Asking.{AreBytes, AreCount}
use Rattle.tj_app.specs.Imaging.{entry_of, entries_of, printed_of, AreTextsOf}
use Rattle.tj_app.specs.Running.{seen_section, AreSeenOf, IsRunText}
use Rattle.tj_app.proofs.Ready.{SetsHaveWords}
use Rattle.tj_app.proofs.Imaged.{ImagesShow, imaged}

-- ---- entries

contains_of : {X : Type 0} (xs : List X) (x : X) → Has xs x → Contains xs x
contains_of [] x h = absurd h
contains_of (y ∷ ys) x (inl e) = (0, omega arith, e)
contains_of (y ∷ ys) x (inr h) = (let c = contains_of ys x h in (suc c.0, omega (arith, c.1), c.2))

-- an entry that is printed is where its loop's preamble begins
entry_is : (image : Imaged) (ks : List ℕ) (trace entry : ℕ) → Contains (map (entry_of image) ks) (trace, entry) → entry ≡ entry_in image.pieces (preamble trace)
entry_is image ks trace entry h =
    All-contains (λ (e : ℕ × ℕ). e.1 ≡ entry_in image.pieces (preamble e.0)) (map (entry_of image) ks) (trace, entry)
    (All-map (λ (e : ℕ × ℕ). e.1 ≡ entry_in image.pieces (preamble e.0)) (entry_of image) ks (all_refl image ks)) h
  where
    all_refl : (image : Imaged) (ks : List ℕ) → All (λ (k : ℕ). entry_in image.pieces (preamble k) ≡ entry_in image.pieces (preamble k)) ks
    all_refl image [] = All-nil (λ (k : ℕ). entry_in image.pieces (preamble k) ≡ entry_in image.pieces (preamble k))
    all_refl image (k ∷ ks) = All-cons (λ (k : ℕ). entry_in image.pieces (preamble k) ≡ entry_in image.pieces (preamble k)) k ks refl (all_refl image ks)

-- the loop at a place is among the loops
loop_there : (k : ℕ) (ts : List Trace) (j : ℕ) (t : Trace) → slice_get ts j ≡ Some t → t.origin ≡ origin.Loop → Has (loops_from k ts) (k + j)
loop_there k [] j t at is = cc
loop_there k (x ∷ ts) zero t at is =
    let same : x.origin ≡ origin.Loop = ap (λ (z : Trace). z.origin) (some_same at) ∙ is in
    let none : k ≡ k + 0 = omega arith in
    subst (λ o. Has (loop_if o k ++ loops_from (k + 1) ts) (k + 0)) (sym same) (inl none)
loop_there k (x ∷ ts) (suc j) t at is =
    let next : k + 1 + j ≡ k + suc j = omega arith in
    has_right (loop_if x.origin k) (loops_from (k + 1) ts) (k + suc j) (subst (Has (loops_from (k + 1) ts)) next (loop_there (k + 1) ts j t at is))

has_entries : (set : TraceSet) (image : Imaged) → HasEntries set (printed_of set image)
has_entries set image p t at is =
    let first : 0 + p ≡ p = omega arith in
    let there : Has (loops_from 0 set.traces) p = subst (Has (loops_from 0 set.traces)) first (loop_there 0 set.traces p t at is) in
    (entry_in image.pieces (preamble p), contains_of (entries_of set image) (p, entry_in image.pieces (preamble p)) (has_map (entry_of image) (loops_from 0 set.traces) p there))

-- ---- the session at first

-- nothing is attached and nothing is started
begins : (s : Sessioned) → s.activations ≡ [] → s.image.attached ≡ [] → IsSession s (printed_of s.set s.image) no_session
begins s fresh none = record {
  printed = record {
    code = refl;
    rows = append-nil s.image.exits;
    bridges = sym none;
    entries = λ trace entry h. entry_is s.image (loops_from 0 s.set.traces) trace entry h;
  };
  parts = refl;
  each = subst (λ (l : List Active). AllZip (Tells s.set.table) l []) (sym fresh) tt;
}

-- ---- the text

can_for : (set : TraceSet) (loops : List OptTrace) (registers count : ℕ) → AreCount count → CanCompile set loops registers → CanCompile set loops count
can_for set loops registers count within can = record { range = can.range; light = can.light; within = within; each = can.each; sound = can.sound; words = can.words; guards = can.guards }

pub seen_of : (arena count : ℕ) (session : SessionText) (old new : Sessioned) (seen front text : List ℕ) → AreCount count → old.activations ≡ [] → old.arena_bytes ≡ arena → old.optimised.attached ≡ []
    → IsPlaced old.set old.optimised old.image → ((z : IsImage old.set (all_pieces old.optimised.traces) old.image) × IsImageOf old.set z.placed old.image) → HasNoStep (placed_in old) → old.image.registers ≡ count → AllByRecursion HasSnapshotWords (all_pieces old.optimised.traces)
    → PutsLines session.names session.lines old new [] seen → front ≡ opt_text new.set new.optimised.traces ++ image_text new.set (printed_of new.set new.image) → text ≡ front ++ seen_section seen
    → AreSeenOf arena count old.set session text
seen_of arena count session old new seen front text within fresh bytes none placed made history registers words puts fronted written =
    let im = printed_of old.set old.image in
    let w = puts.writes im no_session (begins old fresh history.1.none) (has_entries old.set old.image) in
    let lines : AreLines (host_of old.set (all_pieces old.optimised.traces) arena) old.set im session.names session.lines no_session w.0 seen =
    subst (λ n. AreLines (host_of old.set (all_pieces old.optimised.traces) n) old.set im session.names session.lines no_session w.0 seen) bytes
    (subst (λ z. AreLines (host_in old) old.set im session.names session.lines no_session w.0 z) (sym w.4) w.2) in
    let texted : front ≡ opt_text old.set old.optimised.traces ++ image_text old.set im =
    fronted
    ∙ ap (λ s. opt_text s new.optimised.traces ++ image_text s (printed_of s new.image)) puts.whole.set
    ∙ ap (λ o. opt_text old.set o.traces ++ image_text old.set (printed_of old.set new.image)) puts.whole.optimised
    ∙ ap (λ i. opt_text old.set old.optimised.traces ++ image_text old.set (printed_of old.set i)) puts.whole.image in
    record {
      front = front;
      of = record {
        pieces = old.optimised;
        optimised = placed.optimised;
        unattached = none;
        words = words;
        image = old.image;
        can = can_for old.set old.optimised.traces history.1.registers count within history.1.can;
        made = made.0;
        registers = registers;
        stands = made.1;
        written = texted;
      };
      after = w.0;
      seen = seen;
      lines = lines;
      written = written;
    }

-- ---- what is promised

pub ran : SetsHaveWords → MadePiecesPromise → OptimisedAreMade → OptimisedAreSound → ImagesShow → LinesAreARun → (arena count : ℕ) (input text : List ℕ) (set : TraceSet) (session : SessionText) → AreBytes arena → IsBuilt (command.Run arena count) input set session → AreSeenOf arena count set session text → IsRunText arena count input text
ran have promise are_made are_sound show runs arena count input text set session bytes built h =
    let image = imaged have promise are_made are_sound show (command.Run arena count) count input h.front set session built h.of in
    record {
      front = h.front;
      image = image;
      after = h.after;
      seen = h.seen;
      lines = h.lines;
      written = h.written;
      keep = image.shows arena h.after bytes.1 bytes.2 (runs set (all_pieces h.of.pieces.traces) arena (printed_of set h.of.image) session.names session.lines no_session h.after h.seen h.lines);
    }
