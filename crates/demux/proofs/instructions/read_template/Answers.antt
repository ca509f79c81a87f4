use Rattle.tft_codec.proofs.TftLemmas.{tft_again}
use Rattle.std.proofs.Common.{sym}
use Rattle.demux.proofs.instructions.read_template.Goals as goal

pub returns-in-Ok : goal.returns-in-Ok
returns-in-Ok c =
    let again = tft_again c.args.octets.now c.in-Ok.tft c.in-Ok.ensures.found in (again.faultless, sym again.value)
