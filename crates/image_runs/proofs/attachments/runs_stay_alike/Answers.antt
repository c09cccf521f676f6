use Rattle.image_runs.specs.Image.{IsHere}
use Rattle.image_runs.proofs.Running.{run_same, legs_same}
use Rattle.image_runs.proofs.Attaching.{old, new, grows}
use Rattle.image_runs.proofs.Steadying.{pieces_steady}
use Rattle.image_runs.proofs.attachments.runs_stay_alike.Goals as goal

pub returns-clause-runs : goal.returns-clause-runs
returns-clause-runs g c = λ x told ps i bs cuts bridge k n now kept closed here. run_same (old (g.T.Selection.model x told) ps i bs kept closed cuts here bridge k) (new (g.T.Selection.model x told) ps i bs kept closed cuts here bridge k) (pieces_steady (g.T.Selection.model x told).set (g.T.Selection.model x told).pieces cuts) k (IsHere i) (grows (g.T.Selection.model x told) ps i bs kept closed cuts here bridge k) n now

pub returns-clause-legs : goal.returns-clause-legs
returns-clause-legs g c = λ x told ps i bs cuts bridge k n now kept closed here. legs_same (old (g.T.Selection.model x told) ps i bs kept closed cuts here bridge k) (new (g.T.Selection.model x told) ps i bs kept closed cuts here bridge k) (pieces_steady (g.T.Selection.model x told).set (g.T.Selection.model x told).pieces cuts) k (IsHere i) (grows (g.T.Selection.model x told) ps i bs kept closed cuts here bridge k) n now
