-- Lines and epochs are answered one behind another; and the pieces of a version that are saved in their order fit it.
use Rattle.std.specs.Prelude.{◌≡◌, ℕ, true, All, List, [], ◌∷◌, ◌++◌, length}
use Rattle.bearer_state.specs.Version.{IsVersion, VersionState}
use Rattle.packet_steps.specs.Parts.{PartsState, fit}
use Rattle.record_codec.specs.Saved.{ArePiecesFor, by_index}
use Rattle.trace_lines.specs.Line.{Line}
use Rattle.lawful_run.specs.Report.{EpochReport}
use Rattle.lawful_run.specs.Trace.{is_whole}
use Rattle.solo_command.specs.Gateway.{AnswersLine, AnswersLines, Gateway, Told}
use Rattle.solo_command.specs.Reports.{AnswersAll, AnswersEpochs, told_epoch}

-- what is told of more lines follows
abbrev pub LinesGoOn : Type 0
LinesGoOn = (slices : ℕ) (lines more : List Line) (old between new : Gateway) (told others : List Told)
    → AnswersLines slices lines old told between → AnswersLines slices more between others new
    → AnswersLines slices (lines ++ more) old (told ++ others) new

abbrev pub NextLineGoesOn : Type 0
NextLineGoesOn = (slices : ℕ) (lines : List Line) (line : Line) (old between new : Gateway) (told : List Told)
    (one : Told) → AnswersLines slices lines old told between → AnswersLine slices line between one new
    → AnswersLines slices (lines ++ line ∷ []) old (told ++ one ∷ []) new

-- So are whole epochs, and what follows them; and one more whole epoch.
abbrev pub EpochsGoOn : Type 0
EpochsGoOn = (slices : ℕ) (first rest : List (List Line)) (stop : List Told) (old between new : Gateway)
    (reports more : List EpochReport) → All (λ epoch. is_whole [] epoch ≡ true) first
    → AnswersAll slices first old reports between → AnswersEpochs slices rest stop between more new
    → AnswersEpochs slices (first ++ rest) stop old (reports ++ more) new

abbrev pub NextEpochGoesOn : Type 0
NextEpochGoesOn = (slices : ℕ) (first : List (List Line)) (epoch : List Line) (old between new : Gateway)
    (reports : List EpochReport) (told : List Told) → AnswersAll slices first old reports between
    → AnswersLines slices epoch between told new
    → AnswersAll slices (first ++ epoch ∷ []) old (reports ++ told_epoch (length new.book) told ∷ []) new

-- Where parts fit a version, their pieces in the order of its bearers are one for each of these, and fit it too.
abbrev pub PiecesFitInOrder : Type 0
PiecesFitInOrder = (version : VersionState) (parts : PartsState) → IsVersion version → fit version parts ≡ true
    → ArePiecesFor version.bearers (by_index version.bearers parts.pieces)
    × (fit version (record parts { pieces = by_index version.bearers parts.pieces }) ≡ true)
