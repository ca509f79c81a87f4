-- Whatever octets a trace has, there is a report that one thread may give of it.
use Rattle.std.proofs.Common.{◌≡◌, ℕ, ◌+◌, ◌<◌, ◌^◌, List, [], length, get_or, refl, sym, ap, subst, ◌∙◌, arith}
use Rattle.std.proofs.lemmas.Option.{get_or_from_slice_get}
use Rattle.trace_lines.specs.Epochs.{epochs_of}
use Rattle.trace_lines.specs.Input.{input_of}
use Rattle.trace_lines.specs.Line.{Line}
use Rattle.trace_lines.proofs.EpochLemmas.{are_epochs}
use Rattle.demux.specs.Trace.{book_of}
use Rattle.subscriber.specs.Standing.{Represents}
use Rattle.lawful_run.specs.AnsweredRun.{behind_epochs}
use Rattle.lawful_run.specs.Cut.{lines_in}
use Rattle.lawful_run.specs.Merging.{Histories}
use Rattle.lawful_run.specs.Outcomes.{opens}
use Rattle.lawful_run.specs.Run.{by_slot, no_events}
use Rattle.lawful_run.specs.Setup.{solo}
use Rattle.lawful_run.specs.Trace.{answered_report, epochs_told, slots_of}
use Rattle.lawful_run.proofs.EveryTrace.{answered_is_run, answered_run_in_sequence}
use Rattle.solo_command.specs.Gateway.{Gateway, no_subscribers}
use Rattle.solo_command.specs.Reports.{opens_from}
use Rattle.solo_command.specs.Report.{IsSoloReport, slices}
use Rattle.solo_command.proofs.HoldLemmas.{opens_told}
use Rattle.report_laws.proofs.EpochsAnswered.{EpochsGo, epochs_go}
use Rattle.report_laws.proofs.GatewaysHold.{nothing_holds}
use Rattle.report_laws.proofs.InputsInOrder.{InOrder, StopAt, input_in_order}
use Rattle.report_laws.proofs.LinesAnswered.{Stands}

-- the open counters are those of the events that the subscribers represent
opens_are : (gateway : Gateway) (lines : List Line) (latest : ℕ) (histories : Histories)
    → Stands gateway lines latest histories
    → by_slot (length (book_of lines)) (λ slot. opens slot (histories slot)) ≡ opens_from 0 gateway.subscribers
opens_are gateway lines latest histories stands =
    let items = gateway.subscribers in
    sym (opens_told 0 items histories (λ k none within.
    let has = stands.each k (omega (arith, within, stands.places)) in
    let same : k ≡ 0 + k = omega arith in
    subst (λ s. Represents (get_or items k none) s (histories s)) same
    (subst (λ held. Represents held k (histories k))
    (sym (get_or_from_slice_get items k has.value none has.found)) has.holds.stands))
    ∙ ap (λ n. by_slot n (λ slot. opens slot (histories slot))) stands.places)

pub solo_exists : ((octets : List ℕ) → length (input_of octets).lines + 3 < 2 ^ 40) → (octets : List ℕ)
    → IsSoloReport (input_of octets) (answered_report solo (input_of octets))
solo_exists few octets =
    let input = input_of octets in
    let epochs = epochs_of input.lines in
    let whole : lines_in epochs ≡ input.lines = (are_epochs input.lines).whole in
    let ordered = input_in_order octets in
    let go : EpochsGo (slots_of input) input.stop [] epochs no_subscribers no_events =
    epochs_go (slots_of input) input.stop [] epochs no_subscribers 0 no_events (nothing_holds 0)
    (subst (InOrder 1 0) (sym whole) ordered.in_order) (omega (arith, few octets, ap length whole))
    (omega (arith, ap (λ lines. length (book_of lines)) whole))
    (subst (λ (lines : List Line). StopAt (1 + length lines) input.stop) (sym whole) ordered.stop) in
    let report = answered_report solo input in
    let stands : Stands go.last input.lines go.latest (behind_epochs no_events (epochs_told slices input)) =
    subst (λ lines. Stands go.last lines go.latest (behind_epochs no_events (epochs_told slices input))) whole
    go.stands in
    record {
      lawful = answered_is_run solo (slots_of input) (epochs_told slices input);
      in_sequence = answered_run_in_sequence (slots_of input) (epochs_told slices input);
      gives = record {
        report = report;
        allowed = record {
          last = go.last;
          epochs = go.answers;
          opens = opens_are go.last input.lines go.latest (behind_epochs no_events (epochs_told slices input)) stands;
        };
        written = refl;
      };
    }
