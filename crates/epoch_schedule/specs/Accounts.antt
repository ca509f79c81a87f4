-- What the lines of an epoch say of a slot, by which of them were taken.
use Rattle.std.specs.Prelude.{ℕ, ◌==◌, if◌then◌else◌, List, [], ◌∷◌, ◌++◌, length}
use Rattle.epoch_schedule.specs.Front.{Asks, nothing, command, packet, move, Outcome}
use Rattle.epoch_schedule.specs.Schedule.{Driven}

-- for each accepted command the packets that it waits for, and for each packet the commands; and how many commands and
-- packets were accepted before the slot's last move
pub record Account : Type 0 where
  pub commands : List ℕ
  pub packets : List ℕ
  pub commands_before : ℕ
  pub packets_before : ℕ

abbrev pub no_account : Account
no_account = record { commands = []; packets = []; commands_before = 0; packets_before = 0 }

abbrev pub commanded : Account → Account
commanded account = record account { commands = account.commands ++ account.packets_before ∷ [] }

abbrev pub received : Account → Account
received account = record account { packets = account.packets ++ account.commands_before ∷ [] }

abbrev pub moved_on : Account → Account
moved_on account =
    record account { commands_before = length account.commands; packets_before = length account.packets }

-- behind a line with its outcome, and behind lines
abbrev pub account_after : ℕ → Account → Asks → Outcome → Account
account_after s account nothing outcome = account
account_after s account (command own) outcome =
    if own == s then (if outcome.taken then commanded account else account) else account
account_after s account (packet own) outcome =
    if own == s then (if outcome.taken then received account else account) else account
account_after s account (move own slice) outcome = if own == s then moved_on account else account

abbrev pub account_of : ℕ → Account → List Driven → List Outcome → Account
account_of s account [] outcomes = account
account_of s account (line ∷ lines) [] = account
account_of s account (line ∷ lines) (outcome ∷ others) =
    account_of s (account_after s account line.asks outcome) lines others
