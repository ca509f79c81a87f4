use Rattle.hex.proofs.HexLemmas.{IsAscii-encode_with}
use Rattle.hex.specs.Hex.{lower_digits}
use Rattle.pc_base.proofs.TextLemmas.{IsAscii-lower_digits}
use Rattle.pc_base.proofs.numbers.TeidDisplay.fmt.Goals as goal

pub ascii_text-requires : goal.ascii_text-requires
ascii_text-requires g c =
    rw c.in-Ok.ensures.written (IsAscii-encode_with lower_digits _ IsAscii-lower_digits)
