use Rattle.std.proofs.Common.{◌≡◌, List, [], ◌++◌, subst, ap, ◌∙◌}
use Rattle.std.specs.List.{AllByRecursion}
use Rattle.trace_ops.specs.declared.trace.TraceSet.{TraceSet}
use Rattle.trace_ops.specs.declared.piece.OptTrace.{OptTrace}
use Rattle.opt_meaning.specs.Pieces.{all_pieces}
use Rattle.trace_text.specs.PieceWriting.{opt_text}
use Rattle.session_text.specs.declared.session.Line.{Line}
use Rattle.bridge_patch.specs.Image.{Imaged}
use Rattle.image_shows.specs.Laws.{HasSnapshotWords}
use Rattle.image_text.specs.Texts.{image_text}
use Rattle.session_seen.specs.Keeping.{PutsLines}
use Rattle.tj_app.specs.Imaging.{printed_of}
use Rattle.tj_app.specs.Running.{seen_section, AreSeenOf}
use Rattle.tj_app.proofs.Ran.{seen_of}
use Rattle.tj_app.proofs.running.text_of.Goals as goal

abbrev HaveWords : List OptTrace → Type 0
HaveWords ts = AllByRecursion HasSnapshotWords (all_pieces ts)

pub returns : goal.returns
returns c =
    let live = c.in_ok-live.live in
    let first = c.in_ok-live.ensures in
    let new = c.put_lines.new.session in
    let seen = c.put_lines.new.out.items in
    let session = c.args.session.now in
    let puts : PutsLines session.names session.lines live new [] seen =
    subst (λ before. PutsLines session.names session.lines live new before seen) c.new-seen.ensures.items
    (subst (λ (ls : List Line). PutsLines session.names ls live new c.new-seen.result.items seen) c.items-2.ensures
    (subst (λ ns. PutsLines ns c.items-2.result.now live new c.new-seen.result.items seen) c.items.ensures c.in_ok-put_lines.ensures)) in
    let fronted =
    c.in_ok-put_printed.ensures
    ∙ ap (λ o. o ++ image_text c.set-2.result.now (printed_of c.set-2.result.now c.image.result.now)) (c.in_ok-out.ensures.text ∙ ap (λ (ts : List OptTrace). opt_text c.set.result.now ts) c.opt-2.ensures ∙ ap (λ (s : TraceSet). opt_text s new.optimised.traces) c.set.ensures)
    ∙ ap (λ (s : TraceSet). opt_text new.set new.optimised.traces ++ image_text s (printed_of s c.image.result.now)) c.set-2.ensures
    ∙ ap (λ (i : Imaged). opt_text new.set new.optimised.traces ++ image_text new.set (printed_of new.set i)) c.image.ensures in
    let written = c.in_ok-put_seen.ensures ∙ ap (λ l. c.put_printed.new.out.items ++ seen_section l) c.deref.ensures.value in
    subst (λ (s : TraceSet). AreSeenOf c.args.arena c.args.registers s session c.put_seen.new.out.items) first.set
    (seen_of c.args.arena c.args.registers session live new seen c.put_printed.new.out.items c.put_seen.new.out.items c.requires.registers first.none (first.arena_bytes ∙ c.from.ensures) first.attached
    first.placed first.image first.history first.registers (subst HaveWords c.opt.ensures c.snapshots_have_words.ensures) puts fronted written)
