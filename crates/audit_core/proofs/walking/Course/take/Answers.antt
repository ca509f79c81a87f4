use Rattle.std.proofs.Common.{◌≡◌, Some, None, ap, set}
use Rattle.audit_core.specs.Meant.{line_told, slot_in}
use Rattle.audit_core.proofs.WalkLemmas.{walks_next, walks_same}
use Rattle.audit_core.proofs.WalkedLemmas.{known_below}
use Rattle.audit_core.proofs.walking.Course.take.Goals as goal

pub returns-in_default : goal.returns-in_default
returns-in_default c = λ slots n before walks answers.
    let none : slot_in (line_told c.args.told.now).meaning ≡ None = cc in
    walks_same n c.args.self.now slots before (line_told c.args.told.now) walks answers none

pub returns-in-Some : goal.returns-in-Some
returns-in-Some c = λ slots n before walks answers.
    let at = c.slot-in-Some.inside.0 in
    let here : slot_in (line_told c.args.told.now).meaning ≡ Some at = cc in
    let below = known_below _ (line_told c.args.told.now).meaning at here c.requires.known in
    walks_next n c.args.self.now _ slots at before (line_told c.args.told.now) c.index-own.result.now walks answers here
    below c.index-own.ensures (ap (set c.args.self.now.own.items at) c.with.ensures) c.with-self.ensures
