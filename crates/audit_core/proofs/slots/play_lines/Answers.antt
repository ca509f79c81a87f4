use Rattle.std.proofs.Common.{◌≡◌, ◌++◌, ◌∙◌, map, ap, subst}
use Rattle.lawful_run.specs.Merging.{events_of}
use Rattle.lawful_run.specs.Outcomes as made_of
use Rattle.report_lines.specs.declared.entry.ChargeEntry.TheVariants.{R}
use Rattle.slot_execution.specs.Replaying.{IsLedTo, commands_lent, placed_lent}
use Rattle.subscriber.specs.Standing.{Represents}
use Rattle.audit_core.specs.Meant.{lines_of}
use Rattle.audit_core.specs.Played.{LeadsTo}
use Rattle.audit_core.proofs.LateLemmas.{packets_late}
use Rattle.audit_core.proofs.PlayLemmas.{can_replay, leads_to, ok_both, on_ok, rests_ok}
use Rattle.audit_core.proofs.ShareLemmas.{events_played}
use Rattle.audit_core.proofs.slots.play_lines.Goals as goal

pub replay-requires-clause-room : goal.replay-requires-clause-room
replay-requires-clause-room c =
    can_replay c.requires.rest.0 c.requires.rest.1 c.requires.rest.2 c.requires.rest.3 c.args.subscriber.now
    c.args.lines.now c.as_slice.result.now c.as_slice-2.result.now
    (ap commands_lent c.as_slice.ensures.value ∙ c.in_ok-commands.ensures)
    (ap placed_lent c.as_slice-2.ensures.value ∙ c.in_ok-packets.ensures) c.requires.rest.4 c.requires.rest.6

pub replay-requires-clause-late : goal.replay-requires-clause-late
replay-requires-clause-late c =
    (packets_late _ c.requires.rest.2 (lines_of c.args.lines.now) c.as_slice-2.result.now c.requires.rest.4.late
    c.requires.rest.5 (ap placed_lent c.as_slice-2.ensures.value ∙ c.in_ok-packets.ensures)).0

pub returns-clause-leads : goal.returns-clause-leads
returns-clause-leads c = λ slot before all represents same.
    let commands = c.as_slice.result.now in
    let packets = c.as_slice-2.result.now in
    ok_both (λ replayed. IsLedTo replayed slot before (events_of before (commands_lent commands) (placed_lent packets)))
    (λ replayed. map (R slot) replayed.rows.items
    ≡ made_of.rows slot before (events_of before (commands_lent commands) (placed_lent packets)))
    (λ replayed. LeadsTo replayed slot before all) c.replay.result
    (λ replayed led rows. leads_to slot before all (lines_of c.args.lines.now) commands packets replayed same
    (ap commands_lent c.as_slice.ensures.value ∙ c.in_ok-commands.ensures)
    (ap placed_lent c.as_slice-2.ensures.value ∙ c.in_ok-packets.ensures) led rows)
    (c.replay.ensures.led slot before represents) (c.replay.ensures.rows slot before represents)

pub returns-clause-represents : goal.returns-clause-represents
returns-clause-represents c = λ slot before all represents same.
    let commands = c.as_slice.result.now in
    let packets = c.as_slice-2.result.now in
    let events = events_played slot before all (lines_of c.args.lines.now) commands packets same
    (ap commands_lent c.as_slice.ensures.value ∙ c.in_ok-commands.ensures)
    (ap placed_lent c.as_slice-2.ensures.value ∙ c.in_ok-packets.ensures) in
    on_ok c.replay.result (subst (λ es. Represents c.replay.new.subscriber slot (before ++ es)) events)
    (c.replay.ensures.represents slot before represents)

pub returns-clause-rest : goal.returns-clause-rest
returns-clause-rest c = λ slices count latest slot rest late.
    rests_ok c.replay.result c.sessions_keep_their_slot.ensures slices count latest slot c.args.subscriber.now
    c.replay.new.subscriber c.args.lines.now c.as_slice.result.now c.as_slice-2.result.now
    (ap commands_lent c.as_slice.ensures.value ∙ c.in_ok-commands.ensures)
    (ap placed_lent c.as_slice-2.ensures.value ∙ c.in_ok-packets.ensures) rest late c.replay.ensures.represents
    c.replay.ensures.last c.replay.ensures.destination
