-- What an answered line tells of a slot, by what kind it is of.
use Rattle.std.proofs.Common.{◌≡◌, ℕ, ◌+◌, ◌==◌, Bool, true, false, Option, Some, None, List, [], ◌∷◌, cond, refl, ap, ◌∙◌}
use Rattle.std.specs.List.{filter_map, cons_option}
use Rattle.std.specs.Option.{option_map}
use Rattle.control_steps.specs.declared.command.CommandKind.{CommandKind}
use Rattle.report_lines.specs.Records.{Noted, Answered, PacketTold}
use Rattle.report_lines.specs.declared.entry.LineEntry.{LineEntry}
use Rattle.report_lines.specs.declared.entry.LineEntry.TheVariants as line
use Rattle.report_lines.specs.declared.entry.Refusal.{Refusal}
use Rattle.demux.specs.declared.packet.LentPacket.{LentPacket}
use Rattle.lawful_run.specs.Accepted.{Placed, accepted_command, accepted_packet}
use Rattle.lawful_run.specs.Answers.{Answers, AnswersAll}
use Rattle.lawful_run.specs.LinesTold.{LineTold, lines_told}
use Rattle.demux.specs.Trace.{Meaning, command, packet, move, note}
use Rattle.audit_core.specs.OfSlot.{AreAnswered}
use Rattle.audit_core.specs.Meant.{is_move, is_about}
use Rattle.lawful_run.specs.Moves.{moves}
use Rattle.lawful_run.specs.Parking.{parked_told}
use Rattle.lawful_run.specs.Telling.{command_number, reply_told, packet_number, commands_told, verdict_told}

-- the answer, the verdict, the accepted command and packet
pub record Tells (slot : ℕ) (told : LineTold) (about moved : Bool) (answer : Option Answered) (verdict : Option PacketTold)
    (accepted : Option CommandKind) (placed : Option Placed) : Type 0 where
  pub about_is : is_about slot told ≡ about
  pub moves_is : moves slot told ≡ moved
  pub command_number_is : command_number slot told.entry ≡ option_map (λ (a : Answered). a.number) answer
  pub reply_is : reply_told slot told.entry ≡ option_map (λ (a : Answered). a.reply) answer
  pub packet_number_is : packet_number slot told.entry ≡ option_map (λ (j : PacketTold). j.number) verdict
  pub commands_is : commands_told slot told.entry ≡ option_map (λ (j : PacketTold). j.commands) verdict
  pub verdict_is : verdict_told slot told.entry ≡ option_map (λ (j : PacketTold). j.verdict) verdict
  pub parked_is : parked_told slot told ≡ option_map (λ (j : PacketTold). j.parked) verdict
  pub accepted_is : accepted_command slot told ≡ accepted
  pub placed_is : accepted_packet slot told ≡ placed

pub data KindOf (slot : ℕ) (told : LineTold) : Type 0 where
  other : Tells slot told false false None None None None → KindOf slot told
  moved : (noted : Noted) → told.entry ≡ line.N noted → is_move told.meaning ≡ true
      → Tells slot told true true None None None None → KindOf slot told
  answered : (a : Answered) (c : CommandKind) → told.entry ≡ line.C a → is_move told.meaning ≡ false
      → Tells slot told true false (Some a) None (Some c) None → KindOf slot told
  judged : (j : PacketTold) (p : LentPacket) → told.entry ≡ line.P j → is_move told.meaning ≡ false
      → Tells slot told true false None (Some j) None (Some (record { commands = j.commands; packet = p }))
      → KindOf slot told
  refused : (r : Refusal) → told.entry ≡ line.F r → is_move told.meaning ≡ false
      → Tells slot told true false None None None None → KindOf slot told

of_move : (slot own slice : ℕ) (text : List ℕ) (noted : Noted) (test : Bool) → (own == slot) ≡ test
    → KindOf slot (record { meaning = move own slice text; entry = line.N noted })
of_move slot own slice text noted true here = moved noted refl refl (record {
  about_is = here;
  moves_is = here;
  command_number_is = refl;
  reply_is = refl;
  packet_number_is = refl;
  commands_is = refl;
  verdict_is = refl;
  parked_is = refl;
  accepted_is = refl;
  placed_is = refl;
})
of_move slot own slice text noted false there = other (record {
  about_is = there;
  moves_is = there;
  command_number_is = refl;
  reply_is = refl;
  packet_number_is = refl;
  commands_is = refl;
  verdict_is = refl;
  parked_is = refl;
  accepted_is = refl;
  placed_is = refl;
})

of_answer : (slot own : ℕ) (c : CommandKind) (a : Answered) (test : Bool) → (own == slot) ≡ test → a.slot ≡ own
    → KindOf slot (record { meaning = command own c; entry = line.C a })
of_answer slot own c a true here same =
    let its : (a.slot == slot) ≡ true = ap (λ s. s == slot) same ∙ here in
    answered a c refl refl (record {
      about_is = here;
      moves_is = refl;
      command_number_is = ap (λ t. cond t (Some a.number) None) its;
      reply_is = ap (λ t. cond t (Some a.reply) None) its;
      packet_number_is = refl;
      commands_is = refl;
      verdict_is = refl;
      parked_is = refl;
      accepted_is = ap (λ t. cond t (Some c) None) here;
      placed_is = refl;
    })
of_answer slot own c a false there same =
    let its : (a.slot == slot) ≡ false = ap (λ s. s == slot) same ∙ there in
    other (record {
      about_is = there;
      moves_is = refl;
      command_number_is = ap (λ t. cond t (Some a.number) None) its;
      reply_is = ap (λ t. cond t (Some a.reply) None) its;
      packet_number_is = refl;
      commands_is = refl;
      verdict_is = refl;
      parked_is = refl;
      accepted_is = ap (λ t. cond t (Some c) None) there;
      placed_is = refl;
    })

abbrev place : ℕ → Option LentPacket → Option Placed
place count = option_map (λ (p : LentPacket). record { commands = count; packet = p })

of_verdict : (slot own : ℕ) (p : LentPacket) (j : PacketTold) (test : Bool) → (own == slot) ≡ test → j.slot ≡ own
    → KindOf slot (record { meaning = packet own p; entry = line.P j })
of_verdict slot own p j true here same =
    let its : (j.slot == slot) ≡ true = ap (λ s. s == slot) same ∙ here in
    judged j p refl refl (record {
      about_is = here;
      moves_is = refl;
      command_number_is = refl;
      reply_is = refl;
      packet_number_is = ap (λ t. cond t (Some j.number) None) its;
      commands_is = ap (λ t. cond t (Some j.commands) None) its;
      verdict_is = ap (λ t. cond t (Some j.verdict) None) its;
      parked_is = ap (λ t. cond t (Some j.parked) None) its;
      accepted_is = refl;
      placed_is = ap (λ t. place j.commands (cond t (Some p) None)) here;
    })
of_verdict slot own p j false there same =
    let its : (j.slot == slot) ≡ false = ap (λ s. s == slot) same ∙ there in
    other (record {
      about_is = there;
      moves_is = refl;
      command_number_is = refl;
      reply_is = refl;
      packet_number_is = ap (λ t. cond t (Some j.number) None) its;
      commands_is = ap (λ t. cond t (Some j.commands) None) its;
      verdict_is = ap (λ t. cond t (Some j.verdict) None) its;
      parked_is = ap (λ t. cond t (Some j.parked) None) its;
      accepted_is = refl;
      placed_is = ap (λ t. place j.commands (cond t (Some p) None)) there;
    })

refused_command : (slot own : ℕ) (c : CommandKind) (r : Refusal) (test : Bool) → (own == slot) ≡ test
    → KindOf slot (record { meaning = command own c; entry = line.F r })
refused_command slot own c r true here = refused r refl refl (record {
  about_is = here;
  moves_is = refl;
  command_number_is = refl;
  reply_is = refl;
  packet_number_is = refl;
  commands_is = refl;
  verdict_is = refl;
  parked_is = refl;
  accepted_is = refl;
  placed_is = refl;
})
refused_command slot own c r false there = other (record {
  about_is = there;
  moves_is = refl;
  command_number_is = refl;
  reply_is = refl;
  packet_number_is = refl;
  commands_is = refl;
  verdict_is = refl;
  parked_is = refl;
  accepted_is = refl;
  placed_is = refl;
})

refused_packet : (slot own : ℕ) (p : LentPacket) (r : Refusal) (test : Bool) → (own == slot) ≡ test
    → KindOf slot (record { meaning = packet own p; entry = line.F r })
refused_packet slot own p r true here = refused r refl refl (record {
  about_is = here;
  moves_is = refl;
  command_number_is = refl;
  reply_is = refl;
  packet_number_is = refl;
  commands_is = refl;
  verdict_is = refl;
  parked_is = refl;
  accepted_is = refl;
  placed_is = refl;
})
refused_packet slot own p r false there = other (record {
  about_is = there;
  moves_is = refl;
  command_number_is = refl;
  reply_is = refl;
  packet_number_is = refl;
  commands_is = refl;
  verdict_is = refl;
  parked_is = refl;
  accepted_is = refl;
  placed_is = refl;
})

of_both : (n slot : ℕ) (meaning : Meaning) (entry : LineEntry) → Answers n meaning entry
    → KindOf slot (record { meaning = meaning; entry = entry })
of_both n slot (note text) (line.N noted) answers = other (record {
  about_is = refl;
  moves_is = refl;
  command_number_is = refl;
  reply_is = refl;
  packet_number_is = refl;
  commands_is = refl;
  verdict_is = refl;
  parked_is = refl;
  accepted_is = refl;
  placed_is = refl;
})
of_both n slot (note text) (line.C a) answers = absurd answers
of_both n slot (note text) (line.P j) answers = absurd answers
of_both n slot (note text) (line.F r) answers = absurd answers
of_both n slot (move own slice text) (line.N noted) answers = of_move slot own slice text noted (own == slot) refl
of_both n slot (move own slice text) (line.C a) answers = absurd answers
of_both n slot (move own slice text) (line.P j) answers = absurd answers
of_both n slot (move own slice text) (line.F r) answers = absurd answers
of_both n slot (command own c) (line.N noted) answers = absurd answers
of_both n slot (command own c) (line.C a) answers = of_answer slot own c a (own == slot) refl answers.1
of_both n slot (command own c) (line.P j) answers = absurd answers
of_both n slot (command own c) (line.F r) answers = refused_command slot own c r (own == slot) refl
of_both n slot (packet own p) (line.N noted) answers = absurd answers
of_both n slot (packet own p) (line.C a) answers = absurd answers
of_both n slot (packet own p) (line.P j) answers = of_verdict slot own p j (own == slot) refl answers.1
of_both n slot (packet own p) (line.F r) answers = refused_packet slot own p r (own == slot) refl

pub kind_of : (n slot : ℕ) (told : LineTold) → Answers n told.meaning told.entry → KindOf slot told
kind_of n slot told answers = of_both n slot told.meaning told.entry answers

pub are_answered : (n : ℕ) (made : List Meaning) (entries : List LineEntry) → AnswersAll n made entries
    → AreAnswered n (lines_told made entries)
are_answered n [] [] answers = tt
are_answered n [] (entry ∷ entries) answers = absurd answers
are_answered n (now ∷ made) [] answers = absurd answers
are_answered n (now ∷ made) (entry ∷ entries) answers = (answers.0, are_answered (n + 1) made entries answers.1)

-- their entries tell what the entries tell
pub told_entries : {X : Type 0} (tell : LineEntry → Option X) (n : ℕ) (made : List Meaning) (entries : List LineEntry)
    → AnswersAll n made entries
    → filter_map (λ (told : LineTold). tell told.entry) (lines_told made entries) ≡ filter_map tell entries
told_entries tell n [] [] answers = refl
told_entries tell n [] (entry ∷ entries) answers = absurd answers
told_entries tell n (now ∷ made) [] answers = absurd answers
told_entries tell n (now ∷ made) (entry ∷ entries) answers =
    ap (cons_option (tell entry)) (told_entries tell (n + 1) made entries answers.1)
