use Rattle.std.proofs.Common.{sym, subst}
use Rattle.pc_base.specs.Imsi.{IsImsi}
use Rattle.trace_maker.proofs.KindLemmas.{is_imsi}
use Rattle.trace_maker.proofs.said.imsi_of.Goals as goal

pub unreachable-requires : goal.unreachable-requires
unreachable-requires c = c.in-None.ensures (subst IsImsi (sym c.digits_of-digits.ensures) (is_imsi c.args.slot))
