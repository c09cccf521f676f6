use Rattle.trace_text.proofs.Again.{inputs_again}
use Rattle.trace_text.proofs.SpelledLine.{inputs_back}
use Rattle.trace_text.proofs.SpelledHeading.{heading_again, heading_back}
use Rattle.trace_text.proofs.Merges.{merge_again, merge_back}
use Rattle.trace_text.proofs.laws.opening_laws.Goals as goal

pub returns-clause-inputs_read : goal.returns-clause-inputs_read
returns-clause-inputs_read c = inputs_back

pub returns-clause-inputs_spelled : goal.returns-clause-inputs_spelled
returns-clause-inputs_spelled c = inputs_again

pub returns-clause-heading_read : goal.returns-clause-heading_read
returns-clause-heading_read c = heading_back

pub returns-clause-heading_spelled : goal.returns-clause-heading_spelled
returns-clause-heading_spelled c = heading_again

pub returns-clause-merge_read : goal.returns-clause-merge_read
returns-clause-merge_read c = merge_again

pub returns-clause-merge_spelled : goal.returns-clause-merge_spelled
returns-clause-merge_spelled c = merge_back
