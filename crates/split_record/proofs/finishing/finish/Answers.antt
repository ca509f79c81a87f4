use Rattle.std.proofs.Common.{◌≡◌, ◌++◌, length, List, IfOk, subst}
use Rattle.counter_half.specs.Half.{handled_by, places_of}
use Rattle.counter_half.specs.Handled.{places_in}
use Rattle.counter_half.specs.declared.half.DataHalf.{DataHalf}
use Rattle.counter_half.specs.declared.items.DataItem.{DataItem}
use Rattle.subscriber.specs.Standing.{commands_met}
use Rattle.split_record.specs.Finishing.{AllMeetBehind, handled_as, counts_told}
use Rattle.split_record.specs.Places.{at_closing}
use Rattle.split_record.specs.Rejoined.{Finishes, start_of, commands_sent}
use Rattle.split_record.specs.declared.finishing.Finished.{Finished}
use Rattle.split_record.specs.declared.front.FrontEnd.{FrontEnd}
use Rattle.split_record.proofs.Ending.{still_of}
use Rattle.split_record.proofs.finishing.finish.Goals as goal

pub returns-clause-finished : goal.returns-clause-finished
returns-clause-finished g c =
    let of = c.new.ensures in
    subst (λ (p : FrontEnd × DataHalf × List DataItem). IfOk c.again.result (λ (made : Finished).
    Finishes (start_of p.0) (commands_sent p.0) (handled_by p.1 ++ p.2) p.0.destination made))
    (λ i. (of.front_is i, of.data_is i, of.left_is i))
    c.again.ensures.finished

pub returns-clause-placed : goal.returns-clause-placed
returns-clause-placed g c =
    let of = c.new.ensures in
    subst (λ (p : DataHalf × List DataItem). IfOk c.again.result (λ (made : Finished).
    places_in made.packets.items ≡ places_of p.0 ++ at_closing p.1))
    (λ i. (of.data_is i, of.left_is i))
    c.again.ensures.placed

pub returns-clause-parts : goal.returns-clause-parts
returns-clause-parts g c =
    still_of c.again.result c.new.result c.args.front c.args.data_half c.args.left.items c.new.ensures c.again.ensures.parts

pub returns-clause-met : goal.returns-clause-met
returns-clause-met g c =
    let of = c.new.ensures in
    subst (λ (p : FrontEnd × DataHalf × List DataItem). IfOk c.again.result (λ (made : Finished).
    AllMeetBehind (length (handled_by p.1)) (commands_met (start_of p.0)) (commands_sent p.0)
    (handled_as (handled_by p.1 ++ p.2) (counts_told made.packets.items))))
    (λ i. (of.front_is i, of.data_is i, of.left_is i))
    c.again.ensures.met
