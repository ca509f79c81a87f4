use Rattle.std.proofs.Common.{◌≡◌, ◌<◌, ◌++◌, ◌==◌, if◌then◌else◌, List, ℕ, refl, sym, ap, subst, ◌∙◌, arith, length}
use Rattle.std.proofs.lemmas.Bool.{eq-eqb, ne_eqb}
use Rattle.demux.specs.Texts.{move_note}
use Rattle.report_lines.specs.declared.entry.Entry.TheVariants as entry
use Rattle.report_lines.specs.declared.entry.LineEntry.TheVariants as line_entry
use Rattle.solo_command.specs.Entries.{text_line}
use Rattle.solo_command.specs.Standing.{SlotStands, events_of, with_meaning}
use Rattle.solo_command.proofs.GatherLemmas.{gathers_none}
use Rattle.solo_command.proofs.LineLemmas.{move_holds}
use Rattle.solo_command.proofs.StoryLemmas.{held_at, stands_next, told_note}
use Rattle.solo_command.proofs.TellLemmas.{tells_move}
use Rattle.solo_command.proofs.solo.Solo.move_to.Goals as goal

pub returns-clause-told : goal.returns-clause-told
returns-clause-told c = λ story stands numbered.
    let within = subst (λ (b : List (List ℕ)). c.args.slot < length b) stands.same_book c.requires.known in
    let held = held_at c.args.self.now story c.args.slot c.slot.inside.0 c.index_mut-subscriber.result.now stands
    within c.slot.view_is c.index_mut-subscriber.ensures.value in
    c.in_ok-push_move.ensures
    ∙ ap (λ text. c.args.report.now ++ text)
    (told_note story (move_note c.destination.result c.args.slot c.args.slice)
    (move_note (story.bound c.args.slot) c.args.slot c.args.slice)
    c.args.number numbered
    (ap (λ bound. move_note bound c.args.slot c.args.slice) (c.destination.ensures ∙ held.bound_for)))

pub returns-clause-stands : goal.returns-clause-stands
returns-clause-stands c = λ story now stands nothing.
    let within = subst (λ (b : List (List ℕ)). c.args.slot < length b) stands.same_book c.requires.known in
    let held = held_at c.args.self.now story c.args.slot c.slot.inside.0 c.index_mut-subscriber.result.now stands
    within c.slot.view_is c.index_mut-subscriber.ensures.value in
    let own = c.args.slot in
    let bound : ℕ → ℕ = λ slot. if own == slot then c.args.slice else story.bound slot in
    let here : bound own ≡ c.args.slice = ap (λ test. if test then c.args.slice
    else story.bound own) (eq-eqb own own refl) in
    stands_next c.args.self.now _ story now bound story.latest own c.slot.inside.0 c.set_destination.new.self
    stands within c.slot.view_is refl refl
    (subst (λ b. SlotStands c.set_destination.new.self own b story.latest (events_of (with_meaning story now) own))
    (sym here)
    (move_holds story now own c.args.slice c.index_mut-subscriber.result.now c.set_destination.new.self nothing
    held c.set_destination.ensures))
    (λ slot other. ap (λ test. if test then c.args.slice
    else story.bound slot) (ne_eqb own slot (λ same. other (sym same))))
    (λ slot other. nothing slot (events_of story slot)) (omega arith)
    (gathers_none c.args.self.now.gathered (length story.book) story.before story.made now stands.gathered
    (λ slot. nothing slot (events_of story slot)))

pub returns-clause-tells : goal.returns-clause-tells
returns-clause-tells c =
    let one = c.index_mut-subscriber.result.now in
    tells_move c.args.self.now _ c.args.number c.args.slot c.slot.inside.0 c.args.slice one c.set_destination.new.self
    c.args.report.now c.push_move.new.report c.requires.room.holds.places c.requires.known c.slot.view_is
    c.index_mut-subscriber.ensures.value c.set_destination.ensures refl refl refl
    (c.in_ok-push_move.ensures ∙ ap (λ bound. c.args.report.now ++ text_line (entry.Line (line_entry.N (record {
      line = c.args.number;
      note = move_note bound c.args.slot c.args.slice;
    })))) c.destination.ensures)
