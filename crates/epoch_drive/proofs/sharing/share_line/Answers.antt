use Rattle.std.proofs.Common.{◌≡◌, ◌<◌, ◌++◌, ◌∷◌, [], Bool, true, false, not, List, OnOk, length, true≢false, vec_len, refl, sym, ap, subst, ◌∙◌, arith}
use Rattle.std.proofs.lemmas.Result.{on_ok_weaker}
use Rattle.epoch_schedule.specs.Front.{Outcome}
use Rattle.slot_execution.specs.Kept.{meaning_in, packet_in}
use Rattle.at_rest.specs.Meant.{IsWithin}
use Rattle.epoch_drive.specs.Shares.{AreShares, GivesCommand, GivesPacket}
use Rattle.slot_execution.specs.declared.kept.KeptMeaning.{KeptMeaning}
use Rattle.epoch_drive.specs.declared.sharing.Share.{Share}
use Rattle.epoch_drive.proofs.ShareLemmas.{line_at, moved_nothing, noted_nothing, shares_command, shares_packet, shares_refused, shares_stay}
use Rattle.epoch_drive.proofs.sharing.share_line.Goals as goal

is_taken : (taken : Bool) → not taken ≡ false → taken ≡ true
is_taken true isnt = refl
is_taken false isnt = absurd (true≢false isnt)

isnt_taken : (taken : Bool) → not taken ≡ true → taken ≡ false
isnt_taken true is = absurd (true≢false (sym is))
isnt_taken false is = refl

taken_of : (o inside : Outcome) → inside ≡ o → inside.taken ≡ o.taken
taken_of o inside is = ap (λ (x : Outcome). x.taken) is

pub returns-then-not-outcome-clause-shares : goal.returns-then-not-outcome-clause-shares
returns-then-not-outcome-clause-shares c = λ told n are.
    shares_refused c.args.shares.now.items c.args.subscribers.now c.args.scheduled.now told n
    (meaning_in c.args.octets.now c.args.now.now) c.args.outcome
    (sym (taken_of c.args.outcome _ c.outcome.view_is) ∙ isnt_taken c.outcome.inside.taken c.if-not-outcome.true) are

pub returns-in-Command-clause-shares : goal.returns-in-Command-clause-shares
returns-in-Command-clause-shares c = λ told n are.
    let old : List Share = c.args.shares.now.items in
    let new : List Share = c.give_command.new.shares.items in
    let taken : c.args.outcome.taken ≡ true =
    sym (taken_of c.args.outcome _ c.outcome.view_is) ∙ is_taken c.outcome.inside.taken c.if-not-outcome.false in
    let low = subst (λ (k : KeptMeaning). IsWithin (vec_len c.args.shares.now) (meaning_in c.args.octets.now k)) c.in-Command.is
    c.requires.within in
    let within : c.in-Command.slot < length old = omega (arith, low, c.args.shares.now.ok.0) in
    subst (λ (now : KeptMeaning). OnOk c.give_command.result (AreShares new c.args.subscribers.now c.args.scheduled.now
    (told ++ line_at n (meaning_in c.args.octets.now now) c.args.outcome ∷ []))) (sym c.in-Command.is)
    (on_ok_weaker c.give_command.result (λ gives.
    shares_command old new c.args.subscribers.now c.args.scheduled.now told n c.in-Command.slot c.in-Command.command.value
    c.args.outcome within taken (subst (GivesCommand old new c.in-Command.slot) c.deref.ensures gives) are)
    c.give_command.ensures)

pub returns-in-Packet-clause-shares : goal.returns-in-Packet-clause-shares
returns-in-Packet-clause-shares c = λ told n are.
    let old : List Share = c.args.shares.now.items in
    let new : List Share = c.give_packet.new.shares.items in
    let taken : c.args.outcome.taken ≡ true =
    sym (taken_of c.args.outcome _ c.outcome.view_is) ∙ is_taken c.outcome.inside.taken c.if-not-outcome.false in
    let low = subst (λ (k : KeptMeaning). IsWithin (vec_len c.args.shares.now) (meaning_in c.args.octets.now k)) c.in-Packet.is
    c.requires.within in
    let within : c.in-Packet.slot < length old = omega (arith, low, c.args.shares.now.ok.0) in
    subst (λ (now : KeptMeaning). OnOk c.give_packet.result (AreShares new c.args.subscribers.now c.args.scheduled.now
    (told ++ line_at n (meaning_in c.args.octets.now now) c.args.outcome ∷ []))) (sym c.in-Packet.is)
    (on_ok_weaker c.give_packet.result (λ gives.
    shares_packet old new c.args.subscribers.now c.args.scheduled.now told n c.in-Packet.slot
    (packet_in c.args.octets.now c.in-Packet.packet) c.args.outcome within
    (omega (arith, c.requires.many, c.args.shares.now.ok.0)) taken
    (subst (GivesPacket old new c.args.subscribers.now c.args.scheduled.now c.in-Packet.slot) c.packet_at-lent.ensures
    gives) are) c.give_packet.ensures)

pub returns-in-Move-clause-shares : goal.returns-in-Move-clause-shares
returns-in-Move-clause-shares c = λ told n are.
    subst (λ (now : KeptMeaning). AreShares c.args.shares.now.items c.args.subscribers.now c.args.scheduled.now
    (told ++ line_at n (meaning_in c.args.octets.now now) c.args.outcome ∷ [])) (sym c.in-Move.is)
    (shares_stay c.args.shares.now.items c.args.subscribers.now c.args.scheduled.now told _ are
    (moved_nothing n c.in-Move.slot c.in-Move.slice c.in-Move.text c.args.outcome))

pub returns-in-Note-clause-shares : goal.returns-in-Note-clause-shares
returns-in-Note-clause-shares c = λ told n are.
    subst (λ (now : KeptMeaning). AreShares c.args.shares.now.items c.args.subscribers.now c.args.scheduled.now
    (told ++ line_at n (meaning_in c.args.octets.now now) c.args.outcome ∷ [])) (sym c.in-Note.is)
    (shares_stay c.args.shares.now.items c.args.subscribers.now c.args.scheduled.now told _ are
    (noted_nothing n c.in-Note.field-0 c.args.outcome))
