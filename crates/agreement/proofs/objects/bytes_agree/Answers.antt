use Rattle.agreement.proofs.Bytes.{bytes_agree}
use Rattle.agreement.proofs.objects.bytes_agree.Goals as goal

pub returns : goal.returns
returns c = bytes_agree
