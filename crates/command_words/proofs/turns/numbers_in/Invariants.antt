use Rattle.std.proofs.Common.{◌≡◌, ◌++◌, length, option_map}
use Rattle.text_fields.specs.Fields.{pieces, pieces_left}
use Rattle.command_words.specs.Turns.{comma, numbers_in}
use Rattle.command_words.proofs.turns.numbers_in.Given as goal

abbrev pub invariant-loop-piece : goal.invariant-loop-piece
invariant-loop-piece l =
    option_map (λ more. l.turns.items ++ more) (numbers_in l.last (pieces_left comma l.left))
    ≡ numbers_in l.last (pieces comma l.text)

abbrev pub decreases-loop-piece : goal.decreases-loop-piece
decreases-loop-piece l = length (pieces_left comma l.left)
