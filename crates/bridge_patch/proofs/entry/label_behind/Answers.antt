use Rattle.std.proofs.Common.{◌≡◌, ℕ, ◌<◌, ◌≤◌, ◌∙◌, List, length, ap, arith}
use Rattle.target_base.specs.declared.place.Place.{Place}
use Rattle.linear_scan.specs.declared.living.Live.{Live}
use Rattle.linear_scan.specs.Living.{end_of}
use Rattle.linear_scan.specs.Placed.{to_at}
use Rattle.linear_scan.specs.Placing.{words_used}
use Rattle.std.proofs.Common.{length-append}
use Rattle.trace_ops.specs.Pieces.{results_of, defined_by}
use Rattle.std.specs.List.{flat_map}
use Rattle.bridge_patch.specs.Bridging.{first_call, labels_from, label_behind}
use Rattle.std.proofs.lemmas.Result.{IfOk-weaker}
use Rattle.bridge_patch.proofs.Entering.{labels_same, found_at}
use Rattle.bridge_patch.proofs.entry.label_behind.Goals as goal

pub returns : goal.returns
returns c =
    let p = c.args.piece.now in
    let guards = c.args.guards.now in
    let lives = c.in_ok-lives.lives.items in
    let e = c.in_ok-lives.ensures in
    let long : length lives ≡ length (defined_by p) = e.each in
    let some : length p.label ≤ length (defined_by p) = omega (arith, length-append p.label (flat_map results_of p.ops)) in
    let same : (i : ℕ) → i < length guards → to_at lives i ≡ end_of p i =
    λ i lt. (e.lives i _ (found_at lives i (record { from = 0; to = 0 }) (omega (arith, lt, long, some, c.requires.long)))).ends in
    IfOk-weaker c.labels.result (λ (label : List Place). label ≡ labels_from (to_at c.deref.result.now) c.first_call-call.result c.words_used.result 0 guards) (λ (label : List Place). label ≡ label_behind p guards)
    (λ (label : List Place) h.
    h
    ∙ ap (λ (l : List Live). labels_from (to_at l) c.first_call-call.result c.words_used.result 0 guards) c.deref.ensures.value
    ∙ ap (λ (n : ℕ). labels_from (to_at lives) n c.words_used.result 0 guards) (c.first_call-call.ensures ∙ ap first_call c.items.ensures)
    ∙ ap (λ (n : ℕ). labels_from (to_at lives) (first_call p.ops) n 0 guards) c.words_used.ensures
    ∙ labels_same (to_at lives) (end_of p) (first_call p.ops) (words_used guards) 0 (length guards) guards same (omega arith))
    c.labels.ensures
