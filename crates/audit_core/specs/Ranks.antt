-- The order in which breaks of sentences are told, and the numbers that are told of them.
use Rattle.std.specs.Prelude.{ℕ, ◌<◌}
use Rattle.audit_core.specs.declared.sentence.Sentence.{Sentence}
use Rattle.audit_core.specs.declared.sentence.Sentence.TheVariants as of

abbrev pub number_of : Sentence → ℕ
number_of of.Entries = 0
number_of of.Answers = 1
number_of of.Outside = 1
number_of of.Numbers = 2
number_of of.Counts = 3
number_of of.Gateway = 4
number_of of.Effects = 5
number_of of.Rows = 5
number_of of.Opens = 5
number_of of.Waits = 6
number_of of.Order = 6

-- how many go before it
abbrev pub rank_of : Sentence → ℕ
rank_of of.Entries = 0
rank_of of.Answers = 1
rank_of of.Outside = 2
rank_of of.Numbers = 3
rank_of of.Counts = 4
rank_of of.Gateway = 5
rank_of of.Effects = 6
rank_of of.Rows = 7
rank_of of.Opens = 8
rank_of of.Waits = 9
rank_of of.Order = 10

abbrev pub GoesBefore : Sentence → Sentence → Type 0
GoesBefore one other = rank_of one < rank_of other
