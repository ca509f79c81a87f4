-- An entry says what was answered when its line was taken, however it is filled.
use Rattle.std.proofs.Common.{◌≡◌, ℕ, ◌+◌, List, [], ◌∷◌, map, refl, ◌∙◌}
use Rattle.report_lines.specs.Records.{PacketTold}
use Rattle.report_lines.specs.declared.entry.LineEntry.{LineEntry}
use Rattle.report_lines.specs.declared.entry.LineEntry.TheVariants as line
use Rattle.lawful_run.specs.Filling.{Met, Mets, Replies, fill, filled, judged_with, met_slot, others_of, replied_slot}
use Rattle.front_core.specs.declared.taken.OpenEntry.{OpenEntry}
use Rattle.front_core.specs.declared.taken.OpenEntry.TheVariants as entry
use Rattle.front_core.specs.declared.taken.Taken.{Taken}
use Rattle.front_core.specs.Entries.{open_of, opens_of, took_of}
use Rattle.front_core.specs.Filled.{took_told}

took_judged : (judged : PacketTold) (mets : List Met) → took_told (line.P (judged_with judged mets)) ≡ took_told (line.P judged)
took_judged judged [] = refl
took_judged judged (met ∷ mets) = refl

took_fill : (it : LineEntry) (replies : Replies) (mets : Mets) → took_told (fill it replies mets) ≡ took_told it
took_fill (line.N noted) replies mets = refl
took_fill (line.C answered) replies mets = refl
took_fill (line.P judged) replies mets = took_judged judged (mets judged.slot)
took_fill (line.F refused) replies mets = refl

took_filled : (entries : List LineEntry) (replies : Replies) (mets : Mets)
    → map took_told (filled entries replies mets) ≡ map took_told entries
took_filled [] replies mets = refl
took_filled (it ∷ entries) replies mets =
    let first : took_told (fill it replies mets) ≡ took_told it = took_fill it replies mets in
    let rest : map took_told (filled entries (others_of (replied_slot it) replies) (others_of (met_slot it) mets))
    ≡ map took_told entries = took_filled entries (others_of (replied_slot it) replies) (others_of (met_slot it) mets) in
    λ i. first i ∷ rest i

took_open : (n : ℕ) (open_ : OpenEntry) → took_told (open_of n open_) ≡ took_of open_
took_open n (entry.Note text) = refl
took_open n (entry.Command slot) = refl
took_open n (entry.Packet slot parked) = refl
took_open n (entry.Full slot flag) = refl

took_opens : (n : ℕ) (entries : List Taken)
    → map took_told (opens_of n entries) ≡ map (λ (taken : Taken). took_of taken.open) entries
took_opens n [] = refl
took_opens n (taken ∷ entries) =
    let first : took_told (open_of n taken.open) ≡ took_of taken.open = took_open n taken.open in
    let rest : map took_told (opens_of (n + 1) entries) ≡ map (λ (t : Taken). took_of t.open) entries =
    took_opens (n + 1) entries in
    λ i. first i ∷ rest i

pub answered_so : (n : ℕ) (entries : List Taken) (replies : Replies) (mets : Mets)
    → map took_told (filled (opens_of n entries) replies mets) ≡ map (λ (taken : Taken). took_of taken.open) entries
answered_so n entries replies mets = took_filled (opens_of n entries) replies mets ∙ took_opens n entries
