use Rattle.std.proofs.Common.{refl, ap, arith, length}
use Rattle.lawful_run.specs.Run.{no_events}
use Rattle.solo_command.proofs.GatherLemmas.{gathers_nothing}
use Rattle.solo_command.proofs.TellLemmas.{waits_nothing}
use Rattle.solo_command.proofs.solo.Solo.new.Goals as goal

pub returns-clause-stands : goal.returns-clause-stands
returns-clause-stands c = record {
  same_book = c.new.ensures;
  places = ap length c.new-2.ensures.items;
  each = λ slot within. absurd (omega (arith, within));
  none_beyond = λ slot beyond. refl;
  at_home = λ slot beyond. refl;
  few = λ slot. omega arith;
  gathered = gathers_nothing c.new-3.result 0 no_events c.new-3.ensures;
}

pub returns-clause-gateway : goal.returns-clause-gateway
returns-clause-gateway c = λ i. record { book = c.new.ensures i; subscribers = c.new-2.ensures.items i }

pub returns-clause-waits : goal.returns-clause-waits
returns-clause-waits c = λ slots. waits_nothing c.new-3.result slots c.new-3.ensures
