use Rattle.std.proofs.Common.{List, length, ◌++◌, ap, sym, ◌∙◌, subst}
use Rattle.control_half.specs.Named as control
use Rattle.counter_half.specs.Named as data_half
use Rattle.counter_half.specs.Half.{handled_by, places_of}
use Rattle.counter_half.specs.Handled.{Handled, items_in, places_in}
use Rattle.counter_half.specs.declared.half.DataHalf.{DataHalf}
use Rattle.std.proofs.lemmas.List.{length-map}
use Rattle.counter_half.specs.declared.items.DataItem.{DataItem}
use Rattle.counter_half.specs.declared.half_state.HalfState.{HalfState}
use Rattle.split_record.specs.Places.{at_closing}
use Rattle.split_record.specs.Rejoined.{AreAccepted, start_of, commands_sent}
use Rattle.split_record.specs.declared.front.FrontEnd.{FrontEnd}
use Rattle.split_record.proofs.Stages.{at_open}
use Rattle.split_record.proofs.parts.RecordParts.new.Goals as goal

pub invariant_of-result-clause-accepted : goal.invariant_of-result-clause-accepted
invariant_of-result-clause-accepted c =
    let is = c.of-origin.ensures in
    subst (λ (p : FrontEnd × List DataItem). AreAccepted p.0 p.1)
    (λ i. (sym is.front i, handled_by (sym is.data_half i) ++ (sym is.left i).items)) c.requires.accepted

pub invariant_of-result-clause-whole : goal.invariant_of-result-clause-whole
invariant_of-result-clause-whole c =
    let is = c.of-origin.ensures in
    let one = c.requires.one in
    at_open c.of-origin.result _ (record {
      session = ap (λ (n : control.Named). n.session) c.into_end.ensures.name ∙ one.session
          ∙ ap (λ (f : FrontEnd). (start_of f).session) (sym is.front);
      number = ap (λ (n : control.Named). n.number) c.into_end.ensures.name ∙ one.number
          ∙ ap (λ (f : FrontEnd). (start_of f).version.number) (sym is.front);
      commands = ap (λ (n : control.Named). n.commands) c.into_end.ensures.name ∙ one.commands;
      versions = ap (λ (n : control.Named). n.versions) c.into_end.ensures.name ∙ one.versions
          ∙ ap (λ (n : data_half.Named). n.versions) (sym c.into_rest.ensures.name);
      started = ap (λ (n : data_half.Named). n.started) c.into_rest.ensures.name ∙ one.started ∙ ap start_of (sym is.front);
      sent_are = ap commands_sent (sym is.front);
      items = (λ i. handled_by (is.data_half i) ++ (is.left i).items)
          ∙ ap (λ (s : HalfState). items_in s.handled.items ++ c.args.left.items) (sym c.into_rest.ensures.state);
      early = ap (λ (s : HalfState). length s.handled.items) c.into_rest.ensures.state
          ∙ sym (length-map (c.args.data_half.inner.value.state.handled.items) (λ (h : Handled). h.0))
          ∙ ap (λ (f : DataHalf). length (handled_by f)) (sym is.data_half);
      places = ap (λ (s : HalfState). places_in s.notes.items ++ at_closing c.args.left.items)
          c.into_rest.ensures.state ∙ (λ i. places_of (sym is.data_half i) ++ at_closing (sym is.left i).items);
    })
