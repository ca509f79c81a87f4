use Rattle.std.proofs.Common.{sym}
use Rattle.record_codec.specs.Read.{is_imsi, measured_at, octet_at}
use Rattle.record_codec.proofs.Codecs.{such_is}
use Rattle.record_codec.proofs.FileCodecs.{imsi_decides}
use Rattle.record_codec.proofs.subscribers.imsi_at.Goals as goal

pub returns-in-Some : goal.returns-in-Some
returns-in-Some c =
    such_is is_imsi (measured_at octet_at) c.args.input.now.rest.now c.in_ok-digits.digits.now c.in-Some.imsi
    c.measured_8.new.input.rest.now c.in_ok-digits.ensures
    ((imsi_decides c.in_ok-digits.digits.now).1 c.in-Some.ensures.0) (sym c.in-Some.ensures.1)
