use Rattle.pc_base.proofs.TextLemmas.{IsAscii-digits}
use Rattle.pc_base.proofs.imsi.ImsiDisplay.fmt.Goals as goal

pub ascii_text-requires : goal.ascii_text-requires
ascii_text-requires g c = IsAscii-digits c.digits.result.now c.digits.ensures.valid.2
