use Rattle.loop_peel.proofs.Entered.{label_few, shapes_few, piece_made}
use Rattle.loop_peel.proofs.peeling.piece_from.Goals as goal

pub optimise-requires-clause-label : goal.optimise-requires-clause-label
optimise-requires-clause-label c = label_few c.args.checked.now c.args.trace c.args.entry.now _ c.set-set.ensures.checked.light c.requires.repeats c.requires.enters

pub optimise-requires-clause-shapes : goal.optimise-requires-clause-shapes
optimise-requires-clause-shapes c = shapes_few c.args.checked.now c.args.trace c.args.entry.now _ c.set-set.ensures.checked.light c.requires.repeats c.requires.enters

pub returns : goal.returns
returns c =
    piece_made c.args.checked.now c.args.trace c.args.half c.args.entry.now c.set-set.ensures.checked.in_range c.set-set.ensures.checked.well_formed c.set-set.ensures.checked.light
    c.requires.enters c.requires.repeats c.set-set.result.now c.set-set.ensures.value c.goal_at-to.result c.goal_at-to.ensures _ _ _
    (record {
      simulates = c.in_ok-made.ensures.simulates;
      piece_is = c.in_ok-made.ensures.piece;
      entries = c.in_ok-made.ensures.entries;
      ends = c.in_ok-made.ensures.end;
      formed = c.in_ok-made.ensures.formed;
      lawful = c.in_ok-made.ensures.lawful;
      frames = c.in_ok-made.ensures.frames;
      constants = c.in_ok-made.ensures.constants;
      small = c.in_ok-made.ensures.small;
      values = c.in_ok-made.ensures.slots;
      jumps = c.in_ok-made.ensures.jumps;
      exceptions = c.in_ok-made.ensures.exceptions;
    })
