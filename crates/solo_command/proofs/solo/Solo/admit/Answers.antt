use Rattle.std.proofs.Common.{◌++◌, ◌∷◌, [], refl, ap, ◌∙◌, length}
use Rattle.demux.specs.Destinations.{start_slice}
use Rattle.subscriber.specs.Standing.{new_subscriber}
use Rattle.solo_command.specs.Report.{slices}
use Rattle.solo_command.proofs.StoryLemmas.{stands_admitted}
use Rattle.solo_command.proofs.solo.Solo.admit.Goals as goal

pub returns-clause-stands : goal.returns-clause-stands
returns-clause-stands c = λ story stands.
    stands_admitted c.args.self.now _ story c.args.imsi c.in_ok-slot.slot c.in_ok-new.field-0 stands
    (c.in_ok-slot.ensures.book ∙ ap (λ b. b ++ c.args.imsi ∷ []) stands.same_book)
    (c.in_ok-slot.ensures.slot ∙ ap length stands.same_book) c.in_ok-push.ensures.items refl
    c.in_ok-new.ensures.stands (c.in_ok-new.ensures.destination ∙ c.start_slice-home.ensures) c.in_ok-new.ensures.last

pub returns-clause-admits : goal.returns-clause-admits
returns-clause-admits c =
    let slot = c.in_ok-slot.ensures.slot in
    let home = c.start_slice-home.ensures ∙ ap (start_slice slices) slot in
    λ i. record {
      book = c.in_ok-slot.ensures.book i;
      subscribers = (c.in_ok-push.ensures.items ∙ ap (λ x. c.args.self.now.subscribers.items ++ x ∷ [])
          (c.in_ok-new.ensures.new ∙ (λ j. new_subscriber (slot j) (home j)))) i;
    }
