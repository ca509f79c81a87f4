use Rattle.audit_core.proofs.TogetherLemmas.{numbers_of_slots, counts_of_slots, in_sequence_of_slots, parking_of_slots}
use Rattle.audit_core.proofs.sentence_laws.sentences_of_slots.Goals as goal

pub returns : goal.returns
returns c = record {
  numbers = numbers_of_slots;
  counts = counts_of_slots;
  in_sequence = in_sequence_of_slots;
  parking = parking_of_slots;
}
