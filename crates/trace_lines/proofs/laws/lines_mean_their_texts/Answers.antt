use Rattle.trace_lines.proofs.FaultLemmas.{fault_is}
use Rattle.trace_lines.proofs.MeaningLemmas.{meaning_taken, meaning_given, text_means, one_meaning}
use Rattle.trace_lines.proofs.laws.lines_mean_their_texts.Goals as goal

pub returns-clause-text : goal.returns-clause-text
returns-clause-text c line is = text_means line is

pub returns-clause-one : goal.returns-clause-one
returns-clause-one c text line other means also numbers = one_meaning text line other means also numbers

pub returns-clause-read : goal.returns-clause-read
returns-clause-read c least text line means above = meaning_taken least text line means above

pub returns-clause-only : goal.returns-clause-only
returns-clause-only c least number text line read = meaning_given least number text line read

pub returns-clause-fault : goal.returns-clause-fault
returns-clause-fault c least number text = fault_is least number text
