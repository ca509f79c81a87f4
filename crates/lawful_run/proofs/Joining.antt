-- The eleven sentences of a lawful epoch, from what is told of each slot.
use Rattle.std.proofs.Common.{◌≡◌, ℕ, zero, suc, ◌+◌, List, [], ◌++◌, length, refl, sym, ap, subst, ◌∙◌, arith}
use Rattle.std.specs.List.{filter_map, AllZip, AllByRecursion}
use Rattle.std.proofs.lemmas.List.{length-map}
use Rattle.std.proofs.lemmas.List.Elements.{recursion_from_All}
use Rattle.demux.specs.Trace.{Meaning}
use Rattle.gate_model.specs.Events.{commands_of, packets_of}
use Rattle.report_lines.specs.declared.entry.LineEntry.{LineEntry}
use Rattle.lawful_run.specs.Accepted.{commands_accepted, packets_accepted, command_count}
use Rattle.lawful_run.specs.Answers.{AnswersAll}
use Rattle.lawful_run.specs.Bounds.{Rises}
use Rattle.lawful_run.specs.LinesTold.{lines_told}
use Rattle.lawful_run.specs.Merging.{Histories, merged, events_in}
use Rattle.lawful_run.specs.Outcomes as made_of
use Rattle.lawful_run.specs.Run.{by_slot}
use Rattle.lawful_run.specs.Telling.{command_number, packet_number, commands_told, reply_told, verdict_told, counted}
use Rattle.lawful_run.specs.Filling.{Replied, Met, Replies, Mets, filled}
use Rattle.lawful_run.specs.Floors.{command_floors, packet_floors}
use Rattle.lawful_run.specs.Joined.{PiecesAreAnEpoch, SlotTold, MeetsFloors, events_joined}
use Rattle.lawful_run.proofs.Outlines.{filled_outlined, commands_accepted-outlined, packets_accepted-outlined, command_floors-outlined, packet_floors-outlined, refusals_filled, parking_filled}
use Rattle.lawful_run.proofs.Fillings.{command_numbers_told, packet_numbers_told, counts_told, replies_told, verdicts_told, commands_counted, packets_counted, filled_answers, packets_filled}
use Rattle.lawful_run.proofs.Bounding.{SlotLeft, IsLeast, packets_before, bounds_from}

length-counted : (first n : ℕ) → length (counted first n) ≡ n
length-counted first zero = refl
length-counted first (suc n) = let rest = length-counted (first + 1) n in omega (arith, rest)

-- lines with filled entries and with open ones have the same commands, floors and numbers of packets
module _ (made : List Meaning) (entries : List LineEntry) (replies : Replies) (mets : Mets) where
  commands_same : (slot : ℕ) → commands_accepted slot (lines_told made (filled entries replies mets))
      ≡ commands_accepted slot (lines_told made entries)
  commands_same slot =
      sym (commands_accepted-outlined slot (lines_told made (filled entries replies mets)))
      ∙ ap (commands_accepted slot) (filled_outlined made entries replies mets)
      ∙ commands_accepted-outlined slot (lines_told made entries)

  packets_same : (slot : ℕ) → length (packets_accepted slot (lines_told made (filled entries replies mets)))
      ≡ length (packets_accepted slot (lines_told made entries))
  packets_same slot =
      sym (packets_accepted-outlined slot (lines_told made (filled entries replies mets)))
      ∙ ap (λ lines. length (packets_accepted slot lines)) (filled_outlined made entries replies mets)
      ∙ packets_accepted-outlined slot (lines_told made entries)

  command_floors_same : (slot packets : ℕ)
      → command_floors slot packets [] (lines_told made (filled entries replies mets))
      ≡ command_floors slot packets [] (lines_told made entries)
  command_floors_same slot packets =
      sym (command_floors-outlined slot packets [] (lines_told made (filled entries replies mets)))
      ∙ ap (command_floors slot packets []) (filled_outlined made entries replies mets)
      ∙ command_floors-outlined slot packets [] (lines_told made entries)

  packet_floors_same : (slot commands : ℕ)
      → packet_floors slot commands [] (lines_told made (filled entries replies mets))
      ≡ packet_floors slot commands [] (lines_told made entries)
  packet_floors_same slot commands =
      sym (packet_floors-outlined slot commands [] (lines_told made (filled entries replies mets)))
      ∙ ap (packet_floors slot commands []) (filled_outlined made entries replies mets)
      ∙ packet_floors-outlined slot commands [] (lines_told made entries)

module _ (first : ℕ) (before : Histories) (made : List Meaning) (entries : List LineEntry) (replies : Replies)
    (mets : Mets) (answers : AnswersAll first made entries)
    (told : (slot : ℕ) → SlotTold slot (before slot) (lines_told made entries) (replies slot) (mets slot)) where
  as_many_replies : (slot : ℕ) → length (replies slot) ≡ length (filter_map (command_number slot) entries)
  as_many_replies slot =
      sym (length-map (replies slot) (λ (r : Replied). r.number))
      ∙ ap length (told slot).numbers
      ∙ length-counted (length (commands_of (before slot))) (command_count slot (lines_told made entries))
      ∙ sym (commands_counted slot first made entries answers)

  as_many_mets : (slot : ℕ) → length (mets slot) ≡ length (filter_map (packet_number slot) entries)
  as_many_mets slot =
      sym (length-map (mets slot) (λ (m : Met). m.number))
      ∙ ap length (told slot).packet_numbers
      ∙ length-counted (length (packets_of (before slot))) (length (packets_accepted slot (lines_told made entries)))
      ∙ sym (packets_counted slot first made entries answers)

  pub events_same : (slot : ℕ) → events_in (before slot) (lines_told made (filled entries replies mets)) slot
      ≡ events_joined before made entries mets slot
  events_same slot =
      let commands = commands_same made entries replies mets slot in
      let packets = packets_filled slot first made entries replies mets answers (as_many_mets slot) in
      λ i. merged (length (commands_of (before slot))) (length (packets_of (before slot))) (commands i) (packets i)

  pub numbers_joined : (slot : ℕ) → filter_map (command_number slot) (filled entries replies mets)
      ≡ counted (length (commands_of (before slot)))
      (length (commands_accepted slot (lines_told made (filled entries replies mets))))
  numbers_joined slot =
      command_numbers_told slot entries replies mets (as_many_replies slot)
      ∙ (told slot).numbers
      ∙ ap (λ cs. counted (length (commands_of (before slot))) (length cs))
      (sym (commands_same made entries replies mets slot))

  pub packets_joined : (slot : ℕ) → filter_map (packet_number slot) (filled entries replies mets)
      ≡ counted (length (packets_of (before slot)))
      (length (packets_accepted slot (lines_told made (filled entries replies mets))))
  packets_joined slot =
      packet_numbers_told slot entries replies mets (as_many_mets slot)
      ∙ (told slot).packet_numbers
      ∙ ap (counted (length (packets_of (before slot)))) (sym (packets_same made entries replies mets slot))

  pub rises_joined : (slot : ℕ)
      → Rises (length (commands_of (before slot))) (filter_map (commands_told slot) (filled entries replies mets))
  rises_joined slot =
      subst (Rises (length (commands_of (before slot))))
      (sym (counts_told slot entries replies mets (as_many_mets slot))) (told slot).rises

  pub replies_joined : (slot : ℕ) → filter_map (reply_told slot) (filled entries replies mets)
      ≡ made_of.replies slot (before slot)
      (events_in (before slot) (lines_told made (filled entries replies mets)) slot)
  replies_joined slot =
      replies_told slot entries replies mets (as_many_replies slot)
      ∙ (told slot).replies
      ∙ ap (made_of.replies slot (before slot)) (sym (events_same slot))

  pub verdicts_joined : (slot : ℕ) → filter_map (verdict_told slot) (filled entries replies mets)
      ≡ made_of.verdicts slot (before slot)
      (events_in (before slot) (lines_told made (filled entries replies mets)) slot)
  verdicts_joined slot =
      verdicts_told slot entries replies mets (as_many_mets slot)
      ∙ (told slot).verdicts
      ∙ ap (made_of.verdicts slot (before slot)) (sym (events_same slot))

  pub left_at_start : (slot : ℕ) → SlotLeft slot (length (commands_of (before slot))) (packets_before before slot)
      (command_floors slot (packets_before before slot) [] (lines_told made (filled entries replies mets))) []
      (lines_told made (filled entries replies mets)) (mets slot)
  left_at_start slot =
      let commands = length (commands_of (before slot)) in
      let packets = length (packets_of (before slot)) in
      let none : packets ≡ packets + 0 = omega arith in
      record {
        least = subst (λ floors. AllZip IsLeast floors (mets slot))
            (sym (packet_floors_same made entries replies mets slot commands)) (told slot).least;
        most = subst (λ floors. AllByRecursion (MeetsFloors commands floors) (mets slot))
            (sym (command_floors_same made entries replies mets slot packets))
            (recursion_from_All (MeetsFloors commands (command_floors slot packets [] (lines_told made entries)))
            (mets slot) (told slot).most);
        numbers = (told slot).packet_numbers
            ∙ ap (counted packets) (sym (packets_same made entries replies mets slot))
            ∙ ap (λ k. counted k (length (packets_accepted slot (lines_told made (filled entries replies mets))))) none;
      }

pub pieces_join : PiecesAreAnEpoch
pieces_join slices room lane slots first before made entries replies mets answers refusals parking told =
    let same = events_same first before made entries replies mets answers told in (
      record {
        one_each = filled_answers first made entries replies mets answers;
        command_numbers = numbers_joined first before made entries replies mets answers told;
        packet_numbers = packets_joined first before made entries replies mets answers told;
        counts_rise = rises_joined first before made entries replies mets answers told;
        bounds = bounds_from slices room lane first before (lines_told made (filled entries replies mets)) [] made
            entries replies mets answers refl (left_at_start first before made entries replies mets answers told);
        replies = replies_joined first before made entries replies mets answers told;
        verdicts = verdicts_joined first before made entries replies mets answers told;
        effects = λ i. by_slot slots (λ slot. made_of.effects slot (before slot) (sym (same slot) i));
        rows = λ i. by_slot slots (λ slot. made_of.rows slot (before slot) (sym (same slot) i));
        refusals = refusals_filled slices room lane [] [] made entries replies mets refl refusals;
        parking = parking_filled [] [] made entries replies mets refl parking;
      },
      λ slot. ap (λ events. before slot ++ events) (same slot),
    )
