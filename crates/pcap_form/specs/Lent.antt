-- What lent octets say, as a line's own.
use Rattle.std.specs.Option.{option_map}
use Rattle.std.specs.Prelude.{Option}
use Rattle.trace_lines.specs.Kind.{LineKind}
use Rattle.trace_lines.specs.Kind as kind
use Rattle.pcap_form.specs.declared.lent.LentKind.{LentKind}
use Rattle.pcap_form.specs.declared.lent.LentKind.TheVariants as lent

abbrev pub kind_of : LentKind → LineKind
kind_of (lent.S11 message) = kind.S11 message.now
kind_of (lent.S1u message) = kind.S1u message.now
kind_of (lent.Sgi octets) = kind.Sgi octets.now

abbrev pub said_by : Option LentKind → Option LineKind
said_by said = option_map kind_of said
