use Rattle.std.proofs.Common.{◌≡◌, ◌+◌, length, vec_len, refl, sym, ap, ◌∙◌, subst, arith}
use Rattle.at_rest.specs.Meant.{AreStanding}
use Rattle.audit_core.specs.Holding.{AreKnownTold}
use Rattle.audit_core.specs.Meant.{lines_of}
use Rattle.audit_core.specs.Pieces.{FoundTo, events_behind}
use Rattle.audit_core.specs.Walking.{FewBefore}
use Rattle.audit_core.proofs.JudgeSteps.{on_ok_any}
use Rattle.audit_core.proofs.PieceSteps.{answered_so, few_so, known_so, late_so, lines_few, lines_many, outside_to, rests_so}
use Rattle.audit_core.proofs.PieceTold.{asked_so, led_in, outside_none, outside_some, stands_so}
use Rattle.audit_core.proofs.piece.told_broken.Goals as goal

pub outside_broken-requires : goal.outside_broken-requires
outside_broken-requires c =
    let next = c.requires.next in
    omega (
      arith,
      next.2,
      lines_few next.0 c.args.setup.now c.args.lines.now c.args.entries.now c.args.subscribers.now.items next.1,
    )

pub walk-requires-clause-short : goal.walk-requires-clause-short
walk-requires-clause-short c =
    let next = c.requires.next in
    omega (arith, lines_few next.0 c.args.setup.now c.args.lines.now c.args.entries.now c.args.subscribers.now.items next.1)

pub walk-requires-clause-few : goal.walk-requires-clause-few
walk-requires-clause-few c =
    let next = c.requires.next in
    subst (λ s. FewBefore s (length c.args.lines.now)) (sym c.as_slice.ensures.value)
    (few_so next.0 c.args.setup.now c.args.lines.now c.args.entries.now c.args.subscribers.now.items next.1)

pub walk-requires-clause-known : goal.walk-requires-clause-known
walk-requires-clause-known c =
    let next = c.requires.next in
    subst (λ s. AreKnownTold (length s) (lines_of c.args.lines.now)) (sym c.as_slice.ensures.value)
    (known_so next.0 c.args.setup.now c.args.lines.now c.args.entries.now c.args.subscribers.now.items next.1)

pub walk-requires-clause-answered : goal.walk-requires-clause-answered
walk-requires-clause-answered c =
    let next = c.requires.next in
    (_, answered_so next.0 c.args.setup.now c.args.lines.now c.args.entries.now c.args.subscribers.now.items next.1)

pub play-requires-clause-stand : goal.play-requires-clause-stand
play-requires-clause-stand c = c.requires.next.1.stand

pub play-requires-clause-known : goal.play-requires-clause-known
play-requires-clause-known c =
    let next = c.requires.next in
    let many : length c.args.subscribers.now.items ≡ vec_len c.args.subscribers.now =
    omega (arith, c.args.subscribers.now.ok.0) in
    subst (λ k. AreKnownTold k (lines_of c.args.lines.now)) many
    (known_so next.0 c.args.setup.now c.args.lines.now c.args.entries.now c.args.subscribers.now.items next.1)

pub play-requires-clause-rest : goal.play-requires-clause-rest
play-requires-clause-rest c =
    let next = c.requires.next in (
      next.1.slices,
      next.0.lines,
      next.1.latest,
      next.1.rest,
      late_so next.0 c.args.setup.now c.args.lines.now c.args.entries.now c.args.subscribers.now.items next.1,
      lines_few next.0 c.args.setup.now c.args.lines.now c.args.entries.now c.args.subscribers.now.items next.1,
    )

pub led_broken-requires : goal.led_broken-requires
led_broken-requires c =
    let own = c.requires.next.0 in
    let told = c.requires.next.1 in
    let lines_is = c.requires.next.2 in
    let last_is = c.requires.next.3 in
    let setup = c.args.setup.now in
    let lines = c.args.lines.now in
    let entries = c.args.entries.now in
    let subscribers = c.args.subscribers.now.items in
    let many : length c.play.new.subscribers.items ≡ length subscribers =
    omega (arith, c.in_ok-played.ensures.many, c.args.subscribers.now.ok.0, c.play.new.subscribers.ok.0) in
    let slots : c.len.result ≡ own.slots =
    omega (arith, c.len.ensures, c.in_ok-played.ensures.many, c.args.subscribers.now.ok.0, told.many) in
    let n : vec_len c.args.subscribers.now ≡ own.slots = omega (arith, c.args.subscribers.now.ok.0, told.many) in
    let stands : AreStanding c.play.new.subscribers.items (events_behind own) =
    stands_so own setup lines entries subscribers told c.play.new.subscribers.items
    (c.in_ok-played.ensures.stands own.before told.standing) in
    let asked = asked_so own setup lines entries subscribers told c.args.last _ c.as_slice-3.result.now last_is
    (ap length c.as_slice-2.ensures.value ∙ many ∙ told.many)
    (c.as_slice-3.ensures.value ∙ c.in_ok-opens.ensures (events_behind own)
    (subst (λ s. AreStanding s (events_behind own)) (sym c.as_slice-2.ensures.value) stands)) in
    let led = led_in own setup lines entries subscribers told c.len.result (vec_len c.args.subscribers.now)
    c.in_ok-walked.walked c.in_ok-played.played c.as_slice-3.result.now slots n
    (c.in_ok-walked.ensures own.before
    (subst (λ s. AreStanding s own.before) (sym c.as_slice.ensures.value) told.standing))
    (c.in_ok-played.ensures.plays _ own.before told.standing (answered_so own setup lines entries subscribers told))
    asked in
    let count = lines_many own setup lines entries subscribers told in
    let found : FoundTo own 3 c.found_behind-found.result =
    subst (FoundTo own 3) (sym c.found_behind-found.ensures)
    (outside_to own c.in_ok-outside.outside told.holds
    (outside_some own c.args.before (length lines) entries lines_is count told.entries_are c.in_ok-outside.outside
    c.in_ok-outside.ensures.some)
    (outside_none own c.args.before (length lines) entries lines_is count told.entries_are c.in_ok-outside.outside
    c.in_ok-outside.ensures.none)) in
    (own, setup, led, found)

pub returns-clause-found : goal.returns-clause-found
returns-clause-found c = λ own told lines_is last_is.
    let setup = c.args.setup.now in
    let lines = c.args.lines.now in
    let entries = c.args.entries.now in
    let subscribers = c.args.subscribers.now.items in
    let many : length c.play.new.subscribers.items ≡ length subscribers =
    omega (arith, c.in_ok-played.ensures.many, c.args.subscribers.now.ok.0, c.play.new.subscribers.ok.0) in
    let slots : c.len.result ≡ own.slots =
    omega (arith, c.len.ensures, c.in_ok-played.ensures.many, c.args.subscribers.now.ok.0, told.many) in
    let n : vec_len c.args.subscribers.now ≡ own.slots = omega (arith, c.args.subscribers.now.ok.0, told.many) in
    let stands : AreStanding c.play.new.subscribers.items (events_behind own) =
    stands_so own setup lines entries subscribers told c.play.new.subscribers.items
    (c.in_ok-played.ensures.stands own.before told.standing) in
    let asked = asked_so own setup lines entries subscribers told c.args.last _ c.as_slice-3.result.now last_is
    (ap length c.as_slice-2.ensures.value ∙ many ∙ told.many)
    (c.as_slice-3.ensures.value ∙ c.in_ok-opens.ensures (events_behind own)
    (subst (λ s. AreStanding s (events_behind own)) (sym c.as_slice-2.ensures.value) stands)) in
    let led = led_in own setup lines entries subscribers told c.len.result (vec_len c.args.subscribers.now)
    c.in_ok-walked.walked c.in_ok-played.played c.as_slice-3.result.now slots n
    (c.in_ok-walked.ensures own.before
    (subst (λ s. AreStanding s own.before) (sym c.as_slice.ensures.value) told.standing))
    (c.in_ok-played.ensures.plays _ own.before told.standing (answered_so own setup lines entries subscribers told))
    asked in
    let count = lines_many own setup lines entries subscribers told in
    let found : FoundTo own 3 c.found_behind-found.result =
    subst (FoundTo own 3) (sym c.found_behind-found.ensures)
    (outside_to own c.in_ok-outside.outside told.holds
    (outside_some own c.args.before (length lines) entries lines_is count told.entries_are c.in_ok-outside.outside
    c.in_ok-outside.ensures.some)
    (outside_none own c.args.before (length lines) entries lines_is count told.entries_are c.in_ok-outside.outside
    c.in_ok-outside.ensures.none)) in
    c.led_broken.ensures own setup led found

pub returns-clause-stands : goal.returns-clause-stands
returns-clause-stands c = λ own slices latest told lines_is last_is rest late.
    let setup = c.args.setup.now in
    let lines = c.args.lines.now in
    let entries = c.args.entries.now in
    let subscribers = c.args.subscribers.now.items in
    let many : length c.play.new.subscribers.items ≡ length subscribers =
    omega (arith, c.in_ok-played.ensures.many, c.args.subscribers.now.ok.0, c.play.new.subscribers.ok.0) in
    on_ok_any c.led_broken.result
    (rests_so own setup lines entries subscribers told slices latest c.play.new.subscribers.items rest late
    (stands_so own setup lines entries subscribers told c.play.new.subscribers.items
    (c.in_ok-played.ensures.stands own.before told.standing))
    (λ is_late. c.in_ok-played.ensures.rest slices own.lines latest rest is_late) many
    c.in_ok-played.ensures.bound)

pub returns-clause-many : goal.returns-clause-many
returns-clause-many c = on_ok_any c.led_broken.result c.in_ok-played.ensures.many
