use Rattle.std.proofs.lemmas.Str.{IsUtf8-from_ascii}
use Rattle.hex.proofs.HexLemmas.{IsAscii-encode_with}
use Rattle.hex.specs.Hex.{lower_digits}
use Rattle.pc_base.proofs.TextLemmas.{IsAscii-lower_digits}
use Rattle.pc_base.proofs.hexadecimal.write_octet.Goals as goal

pub unreachable-requires : goal.unreachable-requires
unreachable-requires g c =
    c.in-Err.ensures.cases.0 (IsUtf8-from_ascii _ (rw c.octet_digits.ensures (IsAscii-encode_with lower_digits _ IsAscii-lower_digits)))
