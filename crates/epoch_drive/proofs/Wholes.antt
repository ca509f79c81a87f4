-- The gateway at rest behind an epoch, which has had any number of tries that were answered Full.
use Rattle.std.proofs.Common.{ℕ, List}
use Rattle.trace_lines.specs.Line.{Line}
use Rattle.lawful_run.specs.Merging.{Histories}
use Rattle.at_rest.specs.Rest.{IsBehind, RepresentsAll, Rest}

module _ (rest : Rest) (fulls : ℕ) where
  abbrev pub with_fulls : Rest
  with_fulls = record rest { fulls = fulls }

  pub represents_full : (before : Histories) → RepresentsAll rest before → RepresentsAll with_fulls before
  represents_full before is = record { each = is.each; beyond = is.beyond; few = is.few }

  pub behind_full : (lines : List Line) → IsBehind rest lines → IsBehind with_fulls lines
  behind_full lines is = record { book = is.book; bounds = is.bounds; count = is.count }
