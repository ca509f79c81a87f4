-- Whether an entry answers a line.
use Rattle.std.proofs.Common.{◌≡◌, ℕ, ◌&&◌, Bool, true, false, List, refl, ap, ◌∙◌}
use Rattle.std.specs.Bool.{Decides}
use Rattle.std.specs.Cmp.{booleans_Decides}
use Rattle.std.proofs.lemmas.Bool.Decides.{Decides-eqb}
use Rattle.std.proofs.lemmas.Slice.Eq.{bytes_eq-Decides}
use Rattle.demux.specs.Trace.{Meaning, command, packet, move, note}
use Rattle.report_lines.specs.Records.{Noted}
use Rattle.report_lines.specs.declared.entry.LineEntry.{LineEntry}
use Rattle.report_lines.specs.declared.entry.LineEntry.TheVariants as line
use Rattle.report_lines.specs.declared.entry.Refusal.{Refusal}
use Rattle.lawful_run.specs.Answers.{Answers}
use Rattle.audit_core.specs.Answering.{answers, is_note, is_refusal}

split : (a b : Bool) → (a && b) ≡ true → (a ≡ true) × (b ≡ true)
split true true is = (refl, refl)
split true false is = (refl, is)
split false b is = (is, cc)

join : (a b : Bool) → a ≡ true → b ≡ true → (a && b) ≡ true
join a b is other = ap (λ t. t && b) is ∙ other

pub both_decide : {P Q : Type 0} (a b : Bool) → Decides a P → Decides b Q → Decides (a && b) (P × Q)
both_decide a b one other = (
  λ is. let parts = split a b is in (one.0 parts.0, other.0 parts.1),
  λ holds. join a b (one.1 holds.0) (other.1 holds.1),
)

never : {P : Type 0} → (P → ⊥) → Decides false P
never none = (λ is. absurd (other is), λ holds. absurd (none holds))
  where
    other : false ≡ true → ⊥
    other is = cc

note_decides : (n : ℕ) (text : List ℕ) (noted : Noted)
    → Decides (is_note n text (line.N noted)) (noted ≡ record { line = n; note = text })
note_decides n text noted =
    let parts = both_decide _ _ (Decides-eqb noted.line n) (bytes_eq-Decides noted.note text) in (
      λ is. let same = parts.0 is in (λ i. record { line = same.0 i; note = same.1 i }),
      λ is. parts.1 (ap (λ (r : Noted). r.line) is, ap (λ (r : Noted). r.note) is),
    )

refusal_decides : (n slot : ℕ) (of_packet : Bool) (refused : Refusal)
    → Decides (is_refusal n slot of_packet refused) (refused ≡ record { line = n; slot = slot; packet = of_packet })
refusal_decides n slot of_packet refused =
    let parts = both_decide _ _ (both_decide _ _ (Decides-eqb refused.line n) (Decides-eqb refused.slot slot))
    (booleans_Decides refused.packet of_packet) in (
      λ is. let same = parts.0 is in (λ i. record { line = same.0.0 i; slot = same.0.1 i; packet = same.1 i }),
      λ is. parts.1 (
        (ap (λ (r : Refusal). r.line) is, ap (λ (r : Refusal). r.slot) is),
        ap (λ (r : Refusal). r.packet) is,
      ),
    )

answer_decides : (n : ℕ) (meaning : Meaning) (entry : LineEntry)
    → Decides (answers n meaning entry) (Answers n meaning entry)
answer_decides n (note text) (line.N noted) = note_decides n text noted
answer_decides n (note text) (line.C answered) = never (λ none. none)
answer_decides n (note text) (line.P judged) = never (λ none. none)
answer_decides n (note text) (line.F refused) = never (λ none. none)
answer_decides n (move slot slice text) (line.N noted) = note_decides n text noted
answer_decides n (move slot slice text) (line.C answered) = never (λ none. none)
answer_decides n (move slot slice text) (line.P judged) = never (λ none. none)
answer_decides n (move slot slice text) (line.F refused) = never (λ none. none)
answer_decides n (command slot c) (line.N noted) = never (λ none. none)
answer_decides n (command slot c) (line.C answered) =
    both_decide _ _ (Decides-eqb answered.line n) (Decides-eqb answered.slot slot)
answer_decides n (command slot c) (line.P judged) = never (λ none. none)
answer_decides n (command slot c) (line.F refused) = refusal_decides n slot false refused
answer_decides n (packet slot p) (line.N noted) = never (λ none. none)
answer_decides n (packet slot p) (line.C answered) = never (λ none. none)
answer_decides n (packet slot p) (line.P judged) =
    both_decide _ _ (Decides-eqb judged.line n) (Decides-eqb judged.slot slot)
answer_decides n (packet slot p) (line.F refused) = refusal_decides n slot true refused

pub true_answers : (n : ℕ) (meaning : Meaning) (entry : LineEntry) → answers n meaning entry ≡ true
    → Answers n meaning entry
true_answers n meaning entry is = (answer_decides n meaning entry).0 is

pub answers_true : (n : ℕ) (meaning : Meaning) (entry : LineEntry) → Answers n meaning entry
    → answers n meaning entry ≡ true
answers_true n meaning entry is = (answer_decides n meaning entry).1 is
