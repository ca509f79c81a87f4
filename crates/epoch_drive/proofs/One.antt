-- A schedule leaves no choice.
use Rattle.std.proofs.Common.{◌≡◌, ℕ, ◌+◌, ◌==◌, Bool, true, false, Some, None, List, [], ◌∷◌, map, length, cond, refl, sym, ap, subst, ◌∙◌, true≢false}
use Rattle.std.specs.List.{filter_map, cons_option}
use Rattle.std.specs.Option.{option_map}
use Rattle.control_steps.specs.declared.command.CommandKind.{CommandKind}
use Rattle.demux.specs.Trace.{Meaning, command, packet, move, note}
use Rattle.demux.specs.declared.packet.LentPacket.{LentPacket}
use Rattle.gate_model.specs.Events.{commands_of, packets_of}
use Rattle.report_lines.specs.Records.{Noted, Answered, PacketTold}
use Rattle.report_lines.specs.declared.entry.LineEntry.{LineEntry}
use Rattle.report_lines.specs.declared.entry.LineEntry.TheVariants as line
use Rattle.report_lines.specs.declared.entry.Refusal.{Refusal}
use Rattle.lawful_run.specs.Accepted.{Placed, accepted_command, accepted_packet, commands_accepted, packets_accepted}
use Rattle.lawful_run.specs.Answers.{Answers, AnswersAll}
use Rattle.lawful_run.specs.LinesTold.{lines_told}
use Rattle.lawful_run.specs.Merging.{merged, events_in}
use Rattle.lawful_run.specs.Outcomes as made_of
use Rattle.lawful_run.specs.Run.{by_slot}
use Rattle.lawful_run.specs.Telling.{command_number, packet_number, commands_told, reply_told, verdict_told, counted}
use Rattle.lawful_run.proofs.SlotCases.{eqb_same}
use Rattle.epoch_schedule.specs.Front.{Outcome}
use Rattle.epoch_drive.specs.Driven.{outcome_told, place_told, OneIsDriven}

-- a line isn't both taken and refused
outcomes_differ : (one other : Outcome) → one ≡ other → one.taken ≡ true → other.taken ≡ false → ⊥
outcomes_differ one other same yes_is no_is =
    true≢false (sym yes_is ∙ ap (λ (o : Outcome). o.taken) same ∙ no_is)

-- entries of one line with one outcome: the same note or refusal, or two answers or judgements of one slot
module _ (P : Meaning → LineEntry → LineEntry → Type 0) (n : ℕ)
    (noted : (meaning : Meaning) (it : Noted) → P meaning (line.N it) (line.N it))
    (refused : (meaning : Meaning) (it : Refusal) → P meaning (line.F it) (line.F it))
    (answered : (slot : ℕ) (c : CommandKind) (one other : Answered) → one.line ≡ other.line → one.slot ≡ slot
    → other.slot ≡ slot → P (command slot c) (line.C one) (line.C other))
    (judged : (slot : ℕ) (p : LentPacket) (one other : PacketTold) → one.line ≡ other.line → one.slot ≡ slot
    → other.slot ≡ slot → one.parked ≡ other.parked → P (packet slot p) (line.P one) (line.P other)) where
  two_notes : (meaning : Meaning) (it one other : Noted) → one ≡ it → other ≡ it
      → P meaning (line.N one) (line.N other)
  two_notes meaning it one other same alike =
      subst (λ x. P meaning (line.N x) (line.N other)) (sym same)
      (subst (λ x. P meaning (line.N it) (line.N x)) (sym alike) (noted meaning it))

  two_refusals : (meaning : Meaning) (it one other : Refusal) → one ≡ it → other ≡ it
      → P meaning (line.F one) (line.F other)
  two_refusals meaning it one other same alike =
      subst (λ x. P meaning (line.F x) (line.F other)) (sym same)
      (subst (λ x. P meaning (line.F it) (line.F x)) (sym alike) (refused meaning it))

  of_note : (text : List ℕ) (one other : LineEntry) → Answers n (note text) one → Answers n (note text) other
      → P (note text) one other
  of_note text (line.N one) (line.N other) one_is other_is = two_notes (note text) _ one other one_is other_is
  of_note text (line.N one) (line.C other) one_is other_is = absurd other_is
  of_note text (line.N one) (line.P other) one_is other_is = absurd other_is
  of_note text (line.N one) (line.F other) one_is other_is = absurd other_is
  of_note text (line.C one) other one_is other_is = absurd one_is
  of_note text (line.P one) other one_is other_is = absurd one_is
  of_note text (line.F one) other one_is other_is = absurd one_is

  of_move : (slot slice : ℕ) (text : List ℕ) (one other : LineEntry) → Answers n (move slot slice text) one
      → Answers n (move slot slice text) other → P (move slot slice text) one other
  of_move slot slice text (line.N one) (line.N other) one_is other_is =
      two_notes (move slot slice text) _ one other one_is other_is
  of_move slot slice text (line.N one) (line.C other) one_is other_is = absurd other_is
  of_move slot slice text (line.N one) (line.P other) one_is other_is = absurd other_is
  of_move slot slice text (line.N one) (line.F other) one_is other_is = absurd other_is
  of_move slot slice text (line.C one) other one_is other_is = absurd one_is
  of_move slot slice text (line.P one) other one_is other_is = absurd one_is
  of_move slot slice text (line.F one) other one_is other_is = absurd one_is

  of_command : (slot : ℕ) (c : CommandKind) (one other : LineEntry) → Answers n (command slot c) one
      → Answers n (command slot c) other → outcome_told one ≡ outcome_told other → P (command slot c) one other
  of_command slot c (line.C one) (line.C other) one_is other_is same =
      answered slot c one other (one_is.0 ∙ sym other_is.0) one_is.1 other_is.1
  of_command slot c (line.C one) (line.N other) one_is other_is same = absurd other_is
  of_command slot c (line.C one) (line.P other) one_is other_is same = absurd other_is
  of_command slot c (line.C one) (line.F other) one_is other_is same =
      absurd (outcomes_differ (outcome_told (line.C one)) (outcome_told (line.F other)) same refl refl)
  of_command slot c (line.F one) (line.F other) one_is other_is same =
      two_refusals (command slot c) _ one other one_is other_is
  of_command slot c (line.F one) (line.N other) one_is other_is same = absurd other_is
  of_command slot c (line.F one) (line.P other) one_is other_is same = absurd other_is
  of_command slot c (line.F one) (line.C other) one_is other_is same =
      absurd (outcomes_differ (outcome_told (line.C other)) (outcome_told (line.F one)) (sym same) refl refl)
  of_command slot c (line.N one) other one_is other_is same = absurd one_is
  of_command slot c (line.P one) other one_is other_is same = absurd one_is

  of_packet : (slot : ℕ) (p : LentPacket) (one other : LineEntry) → Answers n (packet slot p) one
      → Answers n (packet slot p) other → outcome_told one ≡ outcome_told other → P (packet slot p) one other
  of_packet slot p (line.P one) (line.P other) one_is other_is same =
      judged slot p one other (one_is.0 ∙ sym other_is.0) one_is.1 other_is.1 (ap (λ (o : Outcome). o.parked) same)
  of_packet slot p (line.P one) (line.N other) one_is other_is same = absurd other_is
  of_packet slot p (line.P one) (line.C other) one_is other_is same = absurd other_is
  of_packet slot p (line.P one) (line.F other) one_is other_is same =
      absurd (outcomes_differ (outcome_told (line.P one)) (outcome_told (line.F other)) same refl refl)
  of_packet slot p (line.F one) (line.F other) one_is other_is same =
      two_refusals (packet slot p) _ one other one_is other_is
  of_packet slot p (line.F one) (line.N other) one_is other_is same = absurd other_is
  of_packet slot p (line.F one) (line.C other) one_is other_is same = absurd other_is
  of_packet slot p (line.F one) (line.P other) one_is other_is same =
      absurd (outcomes_differ (outcome_told (line.P other)) (outcome_told (line.F one)) (sym same) refl refl)
  of_packet slot p (line.N one) other one_is other_is same = absurd one_is
  of_packet slot p (line.C one) other one_is other_is same = absurd one_is

  pub both_answer : (meaning : Meaning) (one other : LineEntry) → Answers n meaning one → Answers n meaning other
      → outcome_told one ≡ outcome_told other → P meaning one other
  both_answer (note text) one other one_is other_is same = of_note text one other one_is other_is
  both_answer (move slot slice text) one other one_is other_is same =
      of_move slot slice text one other one_is other_is
  both_answer (command slot c) one other one_is other_is same = of_command slot c one other one_is other_is same
  both_answer (packet slot p) one other one_is other_is same = of_packet slot p one other one_is other_is same

-- the first of two equal lists, and the others
cons_same : {X : Type 0} (x y : X) (xs ys : List X) → (x ∷ xs) ≡ (y ∷ ys) → (x ≡ y) × (xs ≡ ys)
cons_same x y xs ys same = (cc, cc)

first_by : {X : Type 0} (test : Bool) (x y : X) (xs ys : List X)
    → cons_option (cond test (Some x) None) xs ≡ cons_option (cond test (Some y) None) ys
    → (test ≡ true → x ≡ y) × (xs ≡ ys)
first_by true x y xs ys same =
    let parts = cons_same x y xs ys same in ((λ (is : true ≡ true). parts.0), parts.1)
first_by false x y xs ys same = ((λ (is : false ≡ true). absurd (true≢false (sym is))), same)

-- of entries of one slot
first_same : {X : Type 0} (one other slot s : ℕ) (x y : X) (xs ys : List X) → one ≡ slot → other ≡ slot
    → cons_option (cond (one == s) (Some x) None) xs ≡ cons_option (cond (other == s) (Some y) None) ys
    → ((slot == s) ≡ true → x ≡ y) × (xs ≡ ys)
first_same one other slot s x y xs ys one_is other_is same =
    first_by (slot == s) x y xs ys
    (ap (λ own. cons_option (cond (own == s) (Some x) None) xs) (sym one_is)
    ∙ same
    ∙ ap (λ own. cons_option (cond (own == s) (Some y) None) ys) other_is)

module _ (slot : ℕ) where
  commands_same : (n : ℕ) (made : List Meaning) (ones others : List LineEntry) → AnswersAll n made ones
      → AnswersAll n made others → map outcome_told ones ≡ map outcome_told others
      → commands_accepted slot (lines_told made ones) ≡ commands_accepted slot (lines_told made others)
  commands_same n [] ones others one_each other_each same = refl
  commands_same n (now ∷ made) [] others one_each other_each same = absurd one_each
  commands_same n (now ∷ made) (one ∷ ones) [] one_each other_each same = absurd other_each
  commands_same n (now ∷ made) (one ∷ ones) (other ∷ others) one_each other_each same =
      let parts = cons_same (outcome_told one) (outcome_told other) (map outcome_told ones) (map outcome_told others)
      same in
      both_answer (λ meaning one other. (xs ys : List CommandKind) → xs ≡ ys
      → cons_option (accepted_command slot (record { meaning = meaning; entry = one })) xs
      ≡ cons_option (accepted_command slot (record { meaning = meaning; entry = other })) ys) n
      (λ meaning it xs ys is. ap (cons_option (accepted_command slot (record { meaning = meaning; entry = line.N it }))) is)
      (λ meaning it xs ys is. ap (cons_option (accepted_command slot (record { meaning = meaning; entry = line.F it }))) is)
      (λ own c a b line_is one_is other_is xs ys is. ap (cons_option (cond (own == slot) (Some c) None)) is)
      (λ own p a b line_is one_is other_is parked_is xs ys is. is)
      now one other one_each.0 other_each.0 parts.0
      (commands_accepted slot (lines_told made ones)) (commands_accepted slot (lines_told made others))
      (commands_same (n + 1) made ones others one_each.1 other_each.1 parts.1)

  placed_same : (test : Bool) (p : LentPacket) (one other : ℕ) (xs ys : List Placed) → (test ≡ true → one ≡ other)
      → xs ≡ ys
      → cons_option (option_map {T = LentPacket} {U = Placed} (λ q. record { commands = one; packet = q })
      (cond test (Some p) None)) xs
      ≡ cons_option (option_map {T = LentPacket} {U = Placed} (λ q. record { commands = other; packet = q })
      (cond test (Some p) None)) ys
  placed_same true p one other xs ys alike same =
      let is = alike refl in λ i. record { commands = is i; packet = p } ∷ same i
  placed_same false p one other xs ys alike same = same

  packets_same : (n : ℕ) (made : List Meaning) (ones others : List LineEntry) → AnswersAll n made ones
      → AnswersAll n made others → map outcome_told ones ≡ map outcome_told others
      → filter_map (commands_told slot) ones ≡ filter_map (commands_told slot) others
      → packets_accepted slot (lines_told made ones) ≡ packets_accepted slot (lines_told made others)
  packets_same n [] ones others one_each other_each same alike = refl
  packets_same n (now ∷ made) [] others one_each other_each same alike = absurd one_each
  packets_same n (now ∷ made) (one ∷ ones) [] one_each other_each same alike = absurd other_each
  packets_same n (now ∷ made) (one ∷ ones) (other ∷ others) one_each other_each same alike =
      let parts = cons_same (outcome_told one) (outcome_told other) (map outcome_told ones) (map outcome_told others)
      same in
      both_answer (λ meaning one other. (xs ys : List Placed) (counts more : List ℕ)
      → cons_option (commands_told slot one) counts ≡ cons_option (commands_told slot other) more
      → (counts ≡ more → xs ≡ ys)
      → cons_option (accepted_packet slot (record { meaning = meaning; entry = one })) xs
      ≡ cons_option (accepted_packet slot (record { meaning = meaning; entry = other })) ys) n
      (λ meaning it xs ys counts more is rest.
      ap (cons_option (accepted_packet slot (record { meaning = meaning; entry = line.N it }))) (rest is))
      (λ meaning it xs ys counts more is rest.
      ap (cons_option (accepted_packet slot (record { meaning = meaning; entry = line.F it }))) (rest is))
      (λ own c a b line_is one_is other_is xs ys counts more is rest. rest is)
      (λ own p a b line_is one_is other_is parked_is xs ys counts more is rest.
      let first = first_same a.slot b.slot own slot a.commands b.commands counts more one_is other_is is in
      placed_same (own == slot) p a.commands b.commands xs ys first.0 (rest first.1))
      now one other one_each.0 other_each.0 parts.0
      (packets_accepted slot (lines_told made ones)) (packets_accepted slot (lines_told made others))
      (filter_map (commands_told slot) ones) (filter_map (commands_told slot) others) alike
      (packets_same (n + 1) made ones others one_each.1 other_each.1 parts.1)

-- entries that tell the same of each slot
pub record SameTold (ones others : List LineEntry) : Type 0 where
  pub numbers : (s : ℕ) → filter_map (command_number s) ones ≡ filter_map (command_number s) others
  pub replies : (s : ℕ) → filter_map (reply_told s) ones ≡ filter_map (reply_told s) others
  pub packets : (s : ℕ) → filter_map (packet_number s) ones ≡ filter_map (packet_number s) others
  pub counts : (s : ℕ) → filter_map (commands_told s) ones ≡ filter_map (commands_told s) others
  pub verdicts : (s : ℕ) → filter_map (verdict_told s) ones ≡ filter_map (verdict_told s) others
  pub places : (s : ℕ) → filter_map (place_told s) ones ≡ filter_map (place_told s) others

noted_same : (it : Noted) (ones others : List LineEntry) → SameTold (line.N it ∷ ones) (line.N it ∷ others)
    → SameTold ones others
noted_same it ones others same = record {
  numbers = same.numbers;
  replies = same.replies;
  packets = same.packets;
  counts = same.counts;
  verdicts = same.verdicts;
  places = same.places;
}

refused_same : (it : Refusal) (ones others : List LineEntry) → SameTold (line.F it ∷ ones) (line.F it ∷ others)
    → SameTold ones others
refused_same it ones others same = record {
  numbers = same.numbers;
  replies = same.replies;
  packets = same.packets;
  counts = same.counts;
  verdicts = same.verdicts;
  places = same.places;
}

answered_same : (slot : ℕ) (one other : Answered) (ones others : List LineEntry) → one.line ≡ other.line
    → one.slot ≡ slot → other.slot ≡ slot → SameTold (line.C one ∷ ones) (line.C other ∷ others)
    → (line.C one ≡ line.C other) × SameTold ones others
answered_same slot one other ones others line_is one_is other_is same =
    let numbers = λ (s : ℕ). first_same one.slot other.slot slot s one.number other.number
    (filter_map (command_number s) ones) (filter_map (command_number s) others) one_is other_is (same.numbers s) in
    let replies = λ (s : ℕ). first_same one.slot other.slot slot s one.reply other.reply
    (filter_map (reply_told s) ones) (filter_map (reply_told s) others) one_is other_is (same.replies s) in
    let slot_is : one.slot ≡ other.slot = one_is ∙ sym other_is in
    let number_is : one.number ≡ other.number = (numbers slot).0 (eqb_same slot) in
    let reply_is = (replies slot).0 (eqb_same slot) in (
      (λ i. line.C (record { line = line_is i; slot = slot_is i; number = number_is i; reply = reply_is i })),
      record {
        numbers = λ s. (numbers s).1;
        replies = λ s. (replies s).1;
        packets = same.packets;
        counts = same.counts;
        verdicts = same.verdicts;
        places = same.places;
      },
    )

judged_same : (slot : ℕ) (one other : PacketTold) (ones others : List LineEntry) → one.line ≡ other.line
    → one.slot ≡ slot → other.slot ≡ slot → one.parked ≡ other.parked
    → SameTold (line.P one ∷ ones) (line.P other ∷ others)
    → (line.P one ≡ line.P other) × SameTold ones others
judged_same slot one other ones others line_is one_is other_is parked_is same =
    let packets = λ (s : ℕ). first_same one.slot other.slot slot s one.number other.number
    (filter_map (packet_number s) ones) (filter_map (packet_number s) others) one_is other_is (same.packets s) in
    let counts = λ (s : ℕ). first_same one.slot other.slot slot s one.commands other.commands
    (filter_map (commands_told s) ones) (filter_map (commands_told s) others) one_is other_is (same.counts s) in
    let verdicts = λ (s : ℕ). first_same one.slot other.slot slot s one.verdict other.verdict
    (filter_map (verdict_told s) ones) (filter_map (verdict_told s) others) one_is other_is (same.verdicts s) in
    let places = λ (s : ℕ). first_same one.slot other.slot slot s one.place other.place
    (filter_map (place_told s) ones) (filter_map (place_told s) others) one_is other_is (same.places s) in
    let slot_is : one.slot ≡ other.slot = one_is ∙ sym other_is in
    let number_is = (packets slot).0 (eqb_same slot) in
    let count_is = (counts slot).0 (eqb_same slot) in
    let verdict_is = (verdicts slot).0 (eqb_same slot) in
    let place_is = (places slot).0 (eqb_same slot) in (
      (λ i. line.P (record {
        line = line_is i;
        slot = slot_is i;
        number = number_is i;
        commands = count_is i;
        verdict = verdict_is i;
        place = place_is i;
        parked = parked_is i;
      })),
      record {
        numbers = same.numbers;
        replies = same.replies;
        packets = λ s. (packets s).1;
        counts = λ s. (counts s).1;
        verdicts = λ s. (verdicts s).1;
        places = λ s. (places s).1;
      },
    )

entries_same : (n : ℕ) (made : List Meaning) (ones others : List LineEntry) → AnswersAll n made ones
    → AnswersAll n made others → map outcome_told ones ≡ map outcome_told others → SameTold ones others
    → ones ≡ others
entries_same n [] [] [] one_each other_each same told = refl
entries_same n [] [] (other ∷ others) one_each other_each same told = absurd other_each
entries_same n [] (one ∷ ones) others one_each other_each same told = absurd one_each
entries_same n (now ∷ made) [] others one_each other_each same told = absurd one_each
entries_same n (now ∷ made) (one ∷ ones) [] one_each other_each same told = absurd other_each
entries_same n (now ∷ made) (one ∷ ones) (other ∷ others) one_each other_each same told =
    let parts = cons_same (outcome_told one) (outcome_told other) (map outcome_told ones) (map outcome_told others)
    same in
    let first = both_answer (λ meaning one other. SameTold (one ∷ ones) (other ∷ others)
    → (one ≡ other) × SameTold ones others) n
    (λ meaning it told. (refl, noted_same it ones others told))
    (λ meaning it told. (refl, refused_same it ones others told))
    (λ slot c a b line_is one_is other_is told. answered_same slot a b ones others line_is one_is other_is told)
    (λ slot p a b line_is one_is other_is parked_is told.
    judged_same slot a b ones others line_is one_is other_is parked_is told)
    now one other one_each.0 other_each.0 parts.0 told in
    let rest = entries_same (n + 1) made ones others one_each.1 other_each.1 parts.1 first.1 in
    let here = first.0 in
    λ i. here i ∷ rest i

pub one_driven : OneIsDriven
one_driven rooms bounds turns slots first before made one other is also =
    let outcomes = is.outcomes_are ∙ sym also.outcomes_are in
    let counts = λ (s : ℕ). is.counts s ∙ sym (also.counts s) in
    let commands = λ (s : ℕ). commands_same s first made one.lines other.lines is.one_each also.one_each outcomes in
    let packets = λ (s : ℕ). packets_same s first made one.lines other.lines is.one_each also.one_each outcomes
    (counts s) in
    let events : (s : ℕ) → events_in (before s) (lines_told made one.lines) s
    ≡ events_in (before s) (lines_told made other.lines) s =
    λ s i. merged (length (commands_of (before s))) (length (packets_of (before s))) (commands s i) (packets s i) in
    let lines : one.lines ≡ other.lines =
    entries_same first made one.lines other.lines is.one_each also.one_each outcomes (record {
      numbers = λ s. is.command_numbers s
          ∙ ap (λ cs. counted (length (commands_of (before s))) (length cs)) (commands s)
          ∙ sym (also.command_numbers s);
      replies = λ s. is.replies s ∙ ap (made_of.replies s (before s)) (events s) ∙ sym (also.replies s);
      packets = λ s. is.packet_numbers s
          ∙ ap (λ ps. counted (length (packets_of (before s))) (length ps)) (packets s)
          ∙ sym (also.packet_numbers s);
      counts = counts;
      verdicts = λ s. is.verdicts s ∙ ap (made_of.verdicts s (before s)) (events s) ∙ sym (also.verdicts s);
      places = λ s. is.places s ∙ sym (also.places s);
    }) in
    let effects : one.effects ≡ other.effects = is.effects
    ∙ ap (λ entries. by_slot slots (λ s. made_of.effects s (before s)
    (events_in (before s) (lines_told made entries) s))) lines
    ∙ sym also.effects in
    let rows : one.rows ≡ other.rows = is.rows
    ∙ ap (λ entries. by_slot slots (λ s. made_of.rows s (before s)
    (events_in (before s) (lines_told made entries) s))) lines
    ∙ sym also.rows in
    λ i. record { lines = lines i; effects = effects i; rows = rows i }
