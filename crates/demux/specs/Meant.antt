-- What a line means, as the program holds it.
use Rattle.demux.specs.Trace.{Meaning, command, packet, move, note}
use Rattle.demux.specs.declared.meant.Meant.{Meant}
use Rattle.demux.specs.declared.meant.Meant.TheVariants.{Command, Packet, Move, Note}

abbrev pub meaning_of : Meant → Meaning
meaning_of (Command slot c) = command slot c
meaning_of (Packet slot p) = packet slot p
meaning_of (Move slot slice text) = move slot slice text
meaning_of (Note text) = note text
