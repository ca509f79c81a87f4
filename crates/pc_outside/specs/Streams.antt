-- What a source or a sink over a stream of the system is made of.
use Rattle.std.specs.Prelude.{ℕ}
use Rattle.pc_outside.specs.declared.std_streams.StdSource.{StdSource}
use Rattle.pc_outside.specs.declared.std_streams.StdSink.{StdSink}

-- the reader below a source
abbrev pub reader_of : {R : Type 0} → StdSource R → R
reader_of source = source.inner

-- how often it failed
abbrev pub read_faults : {R : Type 0} → StdSource R → ℕ
read_faults source = source.faults

-- the writer below a sink
abbrev pub writer_of : {W : Type 0} → StdSink W → W
writer_of sink = sink.inner

-- how often it failed
abbrev pub write_faults : {W : Type 0} → StdSink W → ℕ
write_faults sink = sink.faults
