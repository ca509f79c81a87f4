use Rattle.std.proofs.Common.{refl}
use Rattle.balance_plan.specs.Balance.{balance_of}
use Rattle.balance_plan.proofs.writing.Writer.new.Goals as goal

pub returns-clause-written : goal.returns-clause-written
unfolding balance_of
returns-clause-written c = λ entries. record {
  stands = record { book = c.new.ensures; bound = c.in_ok-start_slices.ensures.each; text = c.new-2.ensures };
  lines = refl;
  fence = refl;
}
