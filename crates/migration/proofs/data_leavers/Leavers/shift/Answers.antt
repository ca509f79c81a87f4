use Rattle.std.proofs.Common.{arith}
use Rattle.migration.proofs.data_leavers.Leavers.shift.Goals as goal

pub add-requires : goal.add-requires
add-requires c = (
  (let a = c.take.ensures.all in let b = c.requires.few.0 in omega arith),
  λ slice. let a = c.take.ensures.each slice in let b = c.requires.few.1 slice in omega arith,
)

pub returns : goal.returns
returns c = record {
  each = λ slice. let a = c.take.ensures.each slice in let b = c.add.ensures.each slice in omega arith;
  all = let a = c.take.ensures.all in let b = c.add.ensures.all in omega arith;
}
