-- What holds of the text of a state, whoever reads it.
use Rattle.std.specs.Prelude.{◌≡◌, ℕ, ◌-◌, ◌<◌, ◌≤◌, ◌^◌, List, ◌++◌, length, All}
use Rattle.pc_outside.specs.InputRead.{HasRead}
use Rattle.pc_outside.specs.Texts.{Text}
use Rattle.record_codec.specs.Saved.{FileState, IsFile}
use Rattle.record_codec.specs.Spelling.{state}
use Rattle.record_codec.specs.StateText.{IsStateText}
use Rattle.record_codec.specs.StateLines.{SaysState}

-- The text of a file's state says its state, whatever comes behind it.
abbrev pub TextsSayTheirStates : Type 0
TextsSayTheirStates = (file : FileState) (text behind : List ℕ) → IsFile file → All (λ octet. octet < 256) (state file)
    → IsStateText (state file) text → length text ≤ 2 ^ 40
    → (texts : List Text) × HasRead (text ++ behind) behind (2 ^ 40 - length text) texts × SaysState texts file

-- No lines say the states of two files, nor do lines that both begin the same.
abbrev pub LinesSayOneState : Type 0
LinesSayOneState = (texts others behind more : List Text) (file other : FileState) → texts ++ behind ≡ others ++ more
    → SaysState texts file → SaysState others other → (texts ≡ others) × (file ≡ other)
