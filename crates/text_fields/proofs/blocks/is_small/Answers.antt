use Rattle.text_fields.proofs.LaneLemmas.{tested}
use Rattle.text_fields.proofs.blocks.is_small.Goals as goal

pub returns : goal.returns
returns c = tested c.args.worst c.fits-worst.0
