-- A sentence that has a break is broken.
use Rattle.std.proofs.Common.{◌≡◌, ℕ, zero, suc, ◌+◌, List, [], ◌∷◌, ◌++◌, length, refl, subst, inl, inr, arith}
use Rattle.demux.specs.Trace.{Meaning}
use Rattle.report_lines.specs.declared.entry.Entry.{Entry}
use Rattle.report_lines.specs.declared.entry.LineEntry.{LineEntry}
use Rattle.lawful_run.specs.Answers.{AnswersAll}
use Rattle.lawful_run.specs.LinesTold.{LineTold}
use Rattle.lawful_run.specs.Merging.{Histories}
use Rattle.lawful_run.specs.Report.{entries_of}
use Rattle.lawful_run.specs.Run.{no_events}
use Rattle.lawful_run.specs.Setup.{Setup}
use Rattle.audit_core.specs.Entries.{all_lines, in_line_order, line_entries}
use Rattle.audit_core.specs.Sentences.{AreNumbered, AreOfTheGateway, CountsAreLawful, EachEpoch, LinesAreAnswered, Sentence, WaitsAreLawful, made_report, told_epochs}
use Rattle.audit_core.specs.AnswerPlaces.{IsUnanswered, Stops}
use Rattle.audit_core.specs.Bounds.{IsCountBreak}
use Rattle.audit_core.specs.Gateway.{IsGatewayBreak}
use Rattle.audit_core.specs.Why.{BreaksAreBroken, EpochBreak, IsBreak, NumberBreak, WaitBreak}
use Rattle.audit_core.specs.declared.telling.Break.{Break}
use Rattle.audit_core.proofs.ChargeLemmas.{charges_broken}
use Rattle.audit_core.proofs.Differing.{differ}
use Rattle.audit_core.proofs.EachLemmas.{each_at}

-- answers behind others
pub rest_answers : (n : ℕ) (answered left : List Meaning) (answers rest : List LineEntry) → AnswersAll n answered answers
    → AnswersAll n (answered ++ left) (answers ++ rest)
    → AnswersAll (n + length answered) left rest
rest_answers n [] left [] rest each all =
    let number : n ≡ n + 0 = omega arith in subst (λ k. AnswersAll k left rest) number all
rest_answers n [] left (entry ∷ answers) rest each all = absurd each
rest_answers n (now ∷ answered) left [] rest each all = absurd each
rest_answers n (now ∷ answered) left (entry ∷ answers) rest each all =
    let number : n + 1 + length answered ≡ n + suc (length answered) = omega arith in
    subst (λ k. AnswersAll k left rest) number (rest_answers (n + 1) answered left answers rest each.1 all.1)

pub not_left : (n : ℕ) (left : List Meaning) (rest : List LineEntry) → Stops n left rest → (left ≡ [] → rest ≡ [] → ⊥)
    → AnswersAll n left rest → ⊥
not_left n [] [] stops some all = some refl refl
not_left n [] (entry ∷ rest) stops some all = all
not_left n (now ∷ left) [] stops some all = all
not_left n (now ∷ left) (entry ∷ rest) stops some all = stops all.0

unanswered_broken : (made : List (List Meaning)) (entries : List Entry) (told : Break) → IsUnanswered made entries told
    → LinesAreAnswered made entries → ⊥
unanswered_broken made entries told is holds =
    let parts : AnswersAll 1 (is.answered ++ is.left) (is.answers ++ is.rest) =
    subst (AnswersAll 1 (is.answered ++ is.left)) is.in_order
    (subst (λ lines. AnswersAll 1 lines (in_line_order (length (all_lines made)) (line_entries entries))) is.lines
    holds.answers) in
    let number : 1 + length is.answered ≡ length is.answered + 1 = omega arith in
    not_left (length is.answered + 1) is.left is.rest is.stops (λ none last. is.too_many none last holds.no_others)
    (subst (λ k. AnswersAll k is.left is.rest) number
    (rest_answers 1 is.answered is.left is.answers is.rest is.each parts))

epoch_broken : (P : Histories → List LineTold → Type 0) (B : Histories → List LineTold → Break → Type 0)
    (epochs : List (List LineTold)) (told : Break) → EpochBreak P B epochs told → EachEpoch P no_events epochs → ⊥
epoch_broken P B epochs told is each =
    is.first.broken (each_at P no_events is.prefix is.lines is.first.later
    (subst (EachEpoch P no_events) is.first.parts each))

-- the last sentence
last_broken : (setup : Setup) (slots : ℕ) (made : List (List Meaning)) (entries : List Entry) (told : Break)
    → IsBreak setup slots made entries 6 told → Sentence setup slots made entries 6 → ⊥
last_broken setup slots made entries told (inl waits) holds =
    epoch_broken (WaitsAreLawful setup) (WaitBreak setup) (told_epochs made entries) told waits holds.waits
last_broken setup slots made entries told (inr order) holds =
    differ entries (entries_of (made_report slots (told_epochs made entries))) order.1.stands order.1.asked order.1.first
    holds.order

pub breaks_are_broken : BreaksAreBroken
breaks_are_broken setup slots made entries zero told is holds = is
breaks_are_broken setup slots made entries (suc zero) told is holds =
    unanswered_broken made entries told is holds
breaks_are_broken setup slots made entries (suc (suc zero)) told is holds =
    epoch_broken AreNumbered NumberBreak (told_epochs made entries) told is holds
breaks_are_broken setup slots made entries (suc (suc (suc zero))) told is holds =
    epoch_broken CountsAreLawful IsCountBreak (told_epochs made entries) told is holds
breaks_are_broken setup slots made entries (suc (suc (suc (suc zero)))) told is holds =
    epoch_broken AreOfTheGateway IsGatewayBreak (told_epochs made entries) told is holds
breaks_are_broken setup slots made entries (suc (suc (suc (suc (suc zero))))) told is holds =
    charges_broken slots made entries (told_epochs made entries) told is holds
breaks_are_broken setup slots made entries (suc (suc (suc (suc (suc (suc zero)))))) told is holds =
    last_broken setup slots made entries told is holds
breaks_are_broken setup slots made entries (suc (suc (suc (suc (suc (suc (suc k))))))) told is holds = is
