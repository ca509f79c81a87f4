use Rattle.std.proofs.Common.{◌≡◌, ◌+◌, Some, None, length, arith}
use Rattle.audit_core.specs.Meant.{line_told, slot_in}
use Rattle.audit_core.proofs.WalkedLemmas.{known_below, own_waits, stands_at, walked_note, walked_on}
use Rattle.audit_core.proofs.walking.note_line.Goals as goal

pub returns-in_default : goal.returns-in_default
returns-in_default c = λ n histories before stand walks answers walked.
    let none : slot_in (line_told c.args.told.now).meaning ≡ None = cc in
    walked_note c.args.setup.now histories before (line_told c.args.told.now) c.args.walked.now n answers none walked

pub returns : goal.returns
returns c = λ n histories before stand walks answers walked.
    let told = line_told c.args.told.now in
    let slots = length c.args.subscribers.now in
    let at = c.slot-2.inside.0 in
    let here : slot_in told.meaning ≡ Some at = cc in
    let below = known_below slots told.meaning at here c.requires.known in
    let own = c.index.result.now in
    let waits = own_waits c.args.course.now slots before at own walks below c.index.ensures in
    let stands = stands_at c.args.subscribers.now histories at c.index-subscribers-place.result stand below
    c.index-subscribers-place.is in
    walked_on c.note_waits.result c.args.setup.now histories before told c.args.walked.now c.note_numbers.new.walked
    c.note_waits.new.walked n at (c.commands.result + own.commands) (c.packets.result + own.packets) own
    c.args.course.now.load answers here
    (omega (arith, c.commands.ensures, stands.0, waits.commands))
    (omega (arith, c.packets.ensures, stands.1, waits.packets)) waits walks.all
    c.in_ok-note_numbers.ensures.kept c.in_ok-note_numbers.ensures.numbers c.in_ok-note_numbers.ensures.waits
    c.note_waits.ensures.numbers c.note_waits.ensures.kept c.note_waits.ensures.waits walked
