-- What is found of a report that is refuted at a place.
use Rattle.std.proofs.Common.{ℕ, Bool, true, false, Option, None, Some, List, inl, inr, refl}
use Rattle.lawful_run.specs.Setup.{Setup}
use Rattle.audit_core.specs.Findings.{Finds}
use Rattle.audit_core.specs.Ranks.{number_of}
use Rattle.audit_core.specs.Refuting.{FindsAt, RefutedAt, SaysFinding, number_found, told_text}
use Rattle.audit_core.specs.Said.{report_texts}
use Rattle.pc_outside.specs.Texts.{Text}
use Rattle.audit_core.specs.declared.sentence.Refutation.{Refutation}
use Rattle.audit_core.specs.declared.telling.Break.{Break}
use Rattle.audit_core.proofs.HeardLemmas.{has_none}

-- what is refuted at a place is refuted
finds_refuted : (setup : Setup) (texts : List Text) (k : ℕ) (told : Break) → RefutedAt setup texts k told
    → Finds setup texts (Some k)
finds_refuted setup texts k told (inl none) =
    inl (none.0, has_none (report_texts texts) none.1.entries none.1.ends)
finds_refuted setup texts k told (inr broken) =
    inr (record { entries = broken.entries; are = broken.are; broken = broken.breaks })

pub finds_so : (setup : Setup) (texts : List Text) (found : Option Refutation) → FindsAt setup texts found
    → Finds setup texts (number_found found)
finds_so setup texts None finds = finds
finds_so setup texts (Some one) finds = finds_refuted setup texts (number_of one.sentence) one.place finds

pub says_so : (why : Bool) (setup : Setup) (texts : List Text) (found : Option Refutation)
    → FindsAt setup texts found → SaysFinding why setup texts (number_found found) (told_text why found)
says_so why setup texts None finds = refl
says_so false setup texts (Some one) finds = refl
says_so true setup texts (Some one) finds = (one.place, finds, refl)
