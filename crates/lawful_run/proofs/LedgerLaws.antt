-- The charging records and open counters of a lawful report are exact.
use Rattle.std.proofs.Common.{◌≡◌, ℕ, ◌<◌, Bool, true, false, not, List, [], ◌∷◌, map, filter, cond, sum_by, refl, sym, ap, subst, ◌∙◌, arith, inl, inr}
use Rattle.std.specs.List.Sorted.{IsPermutation}
use Rattle.std.proofs.lemmas.Bool.{cases_eq, eq-eqb, ne_eqb}
use Rattle.std.proofs.lemmas.List.Sorted.{sum_by-IsPermutation}
use Rattle.std.proofs.lemmas.List.Sums.{sum_by-cons}
use Rattle.charging_book.specs.Happenings.{Happening, opens_of}
use Rattle.charging_book.specs.Ledger.{packets_of, octets_in, packets_in, opens_for, TellLast}
use Rattle.charging_book.specs.Pieces.{Forwarded}
use Rattle.charging_book.proofs.LedgerSums.{each_octet_once, each_packet_once}
use Rattle.demux.specs.Trace.{Meaning}
use Rattle.gate_model.specs.Ledger.{Sent, sent_as, sent_in, charged_as, rows_of_life}
use Rattle.gate_model.specs.Rates.{forwarded_after}
use Rattle.gate_model.specs.SlotPast.{past_of}
use Rattle.gate_model.specs.Stories.{story_of}
use Rattle.gate_model.specs.declared.event.Event.{Event}
use Rattle.gate_model.proofs.Charges.{forwarded_told, in_one_piece}
use Rattle.gate_model.proofs.Sound.{past_sound}
use Rattle.packet_steps.specs.Rows.{ForwardedRow}
use Rattle.lawful_run.specs.Setup.{Setup}
use Rattle.lawful_run.specs.Ledger.{is_of_life, packets_told, sent_for, octets_sent, packets_sent, ReportsArePartitions, EachOctetCharged, EachPacketCharged}
use Rattle.lawful_run.specs.Outcomes.{open_counters}
use Rattle.lawful_run.specs.Report.{Report}
use Rattle.lawful_run.specs.Run.{IsRun}
use Rattle.lawful_run.proofs.ChargesTold.{all_events, rows_are, opens_are}
use Rattle.lawful_run.proofs.OpenCounters.{counters_of_life}
use Rattle.lawful_run.proofs.SentTold.{run_parts}

-- what was forwarded for a life, as entries tell it
life_rows : (life : ℕ) (rows : List ForwardedRow)
    → map (sent_for life) (map charged_as (rows_of_life life rows)) ≡ filter (is_of_life life) (map sent_as rows)
life_rows life [] = refl
life_rows life (row ∷ rows) = elim (cases_eq row.life life) [
  | inl same ↦
      rw (eq-eqb row.life life same)
      (λ i. (record { life = sym same i; up = row.up; octets = row.octets }) ∷ life_rows life rows i)
  | inr other ↦ rw (ne_eqb row.life life other) (life_rows life rows)
]

module _ (slot life : ℕ) (events : List Event) where
  charged : List Happening
  charged = (past_of slot events).packets.charged

  -- the packets of its pieces are those of its story
  pub pieces_told : map (sent_for life) (packets_of life (past_of slot events).packets.charged)
      ≡ filter (is_of_life life) (sent_in (story_of slot events))
  pieces_told =
      ap (map (sent_for life)) (in_one_piece slot events life).packets
      ∙ life_rows life (forwarded_after slot events)
      ∙ ap (filter (is_of_life life)) (forwarded_told slot events)

module _ (setup : Setup) (slots : ℕ) (made : List (List Meaning)) (report : Report) (slot life : ℕ)
    (run : IsRun setup slots made report)
    (within : slot < slots) where
  story : List Happening
  story = (past_of slot (all_events made report slot)).packets.charged

  -- and those that entries tell
  pub packets_are : IsPermutation (map (sent_for life)
      (packets_of life (past_of slot (all_events made report slot)).packets.charged)) (packets_told slot life report)
  packets_are =
      subst (λ xs. IsPermutation xs (packets_told slot life report))
      (sym (pieces_told slot life (all_events made report slot)))
      (run_parts slot (is_of_life life) setup slots made report within run)

counters_are : (slot life : ℕ) (events : List Event)
    → opens_for life (open_counters slot events) ≡ opens_for life (opens_of (past_of slot events).packets.charged)
counters_are slot life events =
    let parts = (in_one_piece slot events life).partition in counters_of_life slot life events parts.last parts.counters

pub reports_are_partitions : ReportsArePartitions
reports_are_partitions setup slots made report slot life run within =
    let events : List Event = all_events made report slot in
    let parts = (in_one_piece slot events life).partition in
    record {
      pieces = parts.pieces;
      last = parts.last;
      records = rw (rows_are setup slots made report slot within run) parts.rows;
      counters = rw (opens_are setup slots made report slot within run)
          (subst (λ opens. TellLast opens parts.last) (sym
          (counters_of_life slot life events parts.last parts.counters)) parts.counters);
      packets = rw (parts.packets) (packets_are setup slots made report slot life run within);
    }

-- what is counted of packets, with their moments or without
counted_alike : (life : ℕ) (f : Forwarded → ℕ) (g : Sent → ℕ) → ((p : Forwarded) → f p ≡ g (sent_for life p))
    → (ps : List Forwarded)
    → sum_by f ps ≡ sum_by g (map (sent_for life) ps)
counted_alike life f g same [] = refl
counted_alike life f g same (p ∷ ps) =
    omega (
      arith,
      sum_by-cons f p ps,
      sum_by-cons g (sent_for life p) (map (sent_for life) ps),
      same p,
      counted_alike life f g same ps,
    )

octets_alike : (life : ℕ) (up : Bool) (ps : List Forwarded) → octets_in up ps ≡ octets_sent up (map (sent_for life) ps)
octets_alike life true ps =
    counted_alike life (λ p. cond p.up p.octets 0) (λ sent. cond sent.up sent.octets 0) (λ p. refl) ps
octets_alike life false ps =
    counted_alike life (λ p. cond p.up 0 p.octets) (λ sent. cond sent.up 0 sent.octets) (λ p. refl) ps

packets_alike : (life : ℕ) (up : Bool) (ps : List Forwarded)
    → packets_in up ps ≡ packets_sent up (map (sent_for life) ps)
packets_alike life true ps = counted_alike life (λ p. cond p.up 1 0) (λ sent. cond sent.up 1 0) (λ p. refl) ps
packets_alike life false ps =
    counted_alike life (λ p. cond (not p.up) 1 0) (λ sent. cond (not sent.up) 1 0) (λ p. refl) ps

pub each_octet_charged : EachOctetCharged
each_octet_charged setup slots made report slot life up run within =
    let events : List Event = all_events made report slot in
    let happened : List Happening = (past_of slot events).packets.charged in
    rw (
      rows_are setup slots made report slot within run,
      opens_are setup slots made report slot within run,
      counters_are slot life events,
    )
    (each_octet_once happened up life (past_sound slot events).packets.lawful
    ∙ octets_alike life up (packets_of life happened)
    ∙ sym (sum_by-IsPermutation (λ sent. cond up (cond sent.up sent.octets 0) (cond sent.up 0 sent.octets))
    (map (sent_for life) (packets_of life happened))
    (packets_told slot life report) (packets_are setup slots made report slot life run within)))

pub each_packet_charged : EachPacketCharged
each_packet_charged setup slots made report slot life up run within =
    let events : List Event = all_events made report slot in
    let happened : List Happening = (past_of slot events).packets.charged in
    rw (
      rows_are setup slots made report slot within run,
      opens_are setup slots made report slot within run,
      counters_are slot life events,
    )
    (each_packet_once happened up life (past_sound slot events).packets.lawful
    ∙ packets_alike life up (packets_of life happened)
    ∙ sym (sum_by-IsPermutation (λ sent. cond (cond up sent.up (not sent.up)) 1 0)
    (map (sent_for life) (packets_of life happened))
    (packets_told slot life report) (packets_are setup slots made report slot life run within)))
