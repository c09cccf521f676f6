use Rattle.agreement.proofs.Bytes.{admitted_bytes}
use Rattle.agreement.proofs.objects.admitted_bytes.Goals as goal

pub returns : goal.returns
returns c = admitted_bytes
