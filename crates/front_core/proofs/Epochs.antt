-- An epoch is whole: its report is lawful, and the gateway behind it.
use Rattle.std.proofs.Common.{◌≡◌, ℕ, zero, suc, ◌+◌, ◌-◌, ◌≤◌, List, [], ◌∷◌, map, get_or, refl, sym, ap, ◌∙◌, arith}
use Rattle.lawful_run.specs.Run.{by_slot}
use Rattle.lawful_run.proofs.Growing.{by_slot-more}
use Rattle.control_half.specs.declared.items.CommandDone.{CommandDone}
use Rattle.counter_half.specs.declared.items.PacketDone.{PacketDone}
use Rattle.front_core.specs.declared.answers.SlotAnswers.{SlotAnswers}
use Rattle.front_core.specs.Ending.{answers_told}
use Rattle.front_core.specs.Filled.{met_so, mets_at, replied_so, replies_at}

-- of so many slots that have the same, and of more that have nothing
by_slot_same : {X : Type 0} (first slots : ℕ) (has other : ℕ → List X)
    → ((slot : ℕ) → has slot ≡ other slot) → by_slot slots has ≡ by_slot slots other
by_slot_same first slots has other same = λ i. by_slot slots (λ slot. same slot i)

pub by_slot_as : {X : Type 0} (few slots : ℕ) (has other : ℕ → List X) → few ≤ slots
    → ((slot : ℕ) → has slot ≡ other slot) → ((slot : ℕ) → few ≤ slot → has slot ≡ [])
    → by_slot few has ≡ by_slot slots other
by_slot_as few slots has other le same none =
    let more = by_slot-more few (slots - few) has none in
    let all : few + (slots - few) ≡ slots = omega (arith, le) in
    sym more ∙ ap (λ (n : ℕ). by_slot n has) all ∙ (λ i. by_slot slots (λ slot. same slot i))

-- what is told of a slot's commands and packets, from the answers that lie by slot
at_answers : {X : Type 0} (f : List CommandDone × List PacketDone → List X) (answers : List SlotAnswers) (slot : ℕ)
    → f ([], []) ≡ []
    → get_or (map (λ (a : SlotAnswers). f (answers_told a)) answers) slot []
    ≡ f (get_or (map answers_told answers) slot ([], []))
at_answers f [] slot none = sym none
at_answers f (a ∷ answers) zero none = refl
at_answers f (a ∷ answers) (suc slot) none = at_answers f answers slot none

pub replies_came : (answers : List SlotAnswers) (slot : ℕ) (replies : List CommandDone) (packets : List PacketDone)
    → get_or (map answers_told answers) slot ([], []) ≡ (replies, packets)
    → replies_at answers slot ≡ map replied_so replies
replies_came answers slot replies packets is =
    at_answers (λ (t : List CommandDone × List PacketDone). map replied_so t.0) answers slot refl
    ∙ ap (λ (t : List CommandDone × List PacketDone). map replied_so t.0) is

pub mets_came : (answers : List SlotAnswers) (slot : ℕ) (replies : List CommandDone) (packets : List PacketDone)
    → get_or (map answers_told answers) slot ([], []) ≡ (replies, packets)
    → mets_at answers slot ≡ map met_so packets
mets_came answers slot replies packets is =
    at_answers (λ (t : List CommandDone × List PacketDone). map met_so t.1) answers slot refl
    ∙ ap (λ (t : List CommandDone × List PacketDone). map met_so t.1) is
