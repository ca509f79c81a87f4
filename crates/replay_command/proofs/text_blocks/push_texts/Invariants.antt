use Rattle.std.proofs.Common.{◌≡◌, ◌++◌, flat_map, take}
use Rattle.replay_command.proofs.text_blocks.push_texts.Given as goal

abbrev pub invariant-loop-text : goal.invariant-loop-text
invariant-loop-text l = l.report ≡ l.initial.report ++ flat_map (λ text. text) (take l.text-index l.texts)
