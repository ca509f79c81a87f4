use Rattle.std.proofs.Common.{◌≡◌, subst}
use Rattle.std.specs.Io.KnownBytes.{Appends}
use Rattle.pc_outside.specs.Prefixes.{AppendsPrefix}
use Rattle.pc_outside.specs.declared.writing.Unwritten.TheVariants.{WriteFault}
use Rattle.save_command.proofs.SaveLemmas.{wrote_all, wrote_prefix}
use Rattle.save_command.proofs.run.write_file.Goals as goal

pub returns-in-Ok-write_octets-clause-wrote : goal.returns-in-Ok-write_octets-clause-wrote
returns-in-Ok-write_octets-clause-wrote g c = λ done latest taken few.
    wrote_all done c.file_of-file.result c.in-Ok.text (g.K.Sink.written c.args.sink.now)
    (g.K.Sink.written c.write_octets.new.sink) (c.file_of-file.ensures done latest taken few)
    c.in-Ok.ensures.octets c.in-Ok.ensures.text
    (subst (Appends (g.K.Sink.written c.args.sink.now) (g.K.Sink.written c.write_octets.new.sink)) c.as_slice.ensures
    c.in-Ok-write_octets.ensures.moved)

pub returns-clause-wrote : goal.returns-clause-wrote
returns-clause-wrote g c = λ done latest taken few.
    let why_is : c.in-Err.why ≡ WriteFault = cc (c.in-Err.ensures.no_other) in
    rw (c.status_without.ensures, why_is)
    (wrote_prefix done c.file_of-file.result c.in-Ok.text (g.K.Sink.written c.args.sink.now)
    (g.K.Sink.written c.write_octets.new.sink) (c.file_of-file.ensures done latest taken few)
    c.in-Ok.ensures.octets c.in-Ok.ensures.text
    (subst (AppendsPrefix (g.K.Sink.written c.args.sink.now) (g.K.Sink.written c.write_octets.new.sink))
    c.as_slice.ensures c.in-Err.ensures.cut))
