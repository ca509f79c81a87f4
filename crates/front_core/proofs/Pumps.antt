-- What a front keeps stays true behind a pump.
use Rattle.std.proofs.Common.{ℕ, ◌+◌, ◌*◌, is_some, List, length, sym, ap, subst, ◌∙◌}
use Rattle.std.specs.Prelude.{Option}
use Rattle.lawful_run.specs.LinesTold.{LineTold, lines_told}
use Rattle.lawful_run.specs.Trace.{meant_from}
use Rattle.subscriber.specs.Standing.{SubscriberState}
use Rattle.at_rest.specs.Rest.{Rest}
use Rattle.front_core.specs.Kept.{Ends, Load, LoadTold, OwnTold, Part, PartTold}
use Rattle.front_core.specs.Lines.{Eases}
use Rattle.front_core.specs.declared.halves.Halves.{Halves}
use Rattle.front_core.specs.Steps.{Settles}
use Rattle.front_core.specs.Views.{parts_of, view_at}
use Rattle.front_core.specs.declared.taken.Taken.{Taken}
use Rattle.front_core.specs.Entries.{lines_of, opens_of}
use Rattle.front_core.specs.Keeping.{AreStarts, FrontKeeps}
use Rattle.front_core.proofs.Bridging.{eases}
use Rattle.front_core.proofs.Keeping.{halves_settle}
use Rattle.front_core.proofs.Starting.{starts_settle}

-- of one slot
part_eased : (slot : ℕ) (old new : Part) (taken : List LineTold) → Eases old new → PartTold slot old taken
    → PartTold slot new taken
part_eased slot old new taken ease told = record {
  own_is = subst (λ (own : Option Ends). OwnTold slot own taken) (sym ease.own) told.own_is;
  seen = told.seen ∙ ap is_some (sym ease.own);
  moved_is = ease.moved ∙ told.moved_is;
  unmarked = λ none. told.unmarked (sym ease.own ∙ none);
  parked = λ parks. let was = told.parked (ease.parks parks) in (ease.moved ∙ was.0, was.1);
}

pub pump_keeps : (opened : Rest) (slices lane lines latest : ℕ) (book : List (List ℕ)) (subs : List SubscriberState)
    (old new : Halves) (entries : List Taken) → Settles old new
    → FrontKeeps opened slices lane lines latest book subs old entries
    → FrontKeeps opened slices lane lines latest book subs new entries
pump_keeps opened slices lane lines latest book subs old new entries settles keeps = record {
  slices_are = keeps.slices_are;
  lane_is = keeps.lane_is;
  slices_few = keeps.slices_few;
  roomy = keeps.roomy;
  lane_roomy = keeps.lane_roomy;
  as_many = keeps.as_many;
  counted = keeps.counted;
  few = keeps.few;
  at_rest = keeps.at_rest;
  first = keeps.first;
  behind = keeps.behind;
  history = keeps.history;
  represents = keeps.represents;
  events_few = keeps.events_few;
  stand = keeps.stand;
  starts = λ before standing.
      subst (λ (s : ℕ → Option SubscriberState). AreStarts subs s before) (sym (starts_settle old new settles))
      (keeps.starts before standing);
  halves_keep = halves_settle slices opened.room lane (length subs) (length entries) latest (2 * length entries) old new
      settles keeps.halves_keep;
  lines_keep = λ prior stand.
      let kept = keeps.lines_keep prior stand in
      let taken = lines_told (meant_from slices prior (lines_of entries)) (opens_of (opened.lines + 1) entries) in
      record {
        answered = kept.answered;
        refused = kept.refused;
        parked = kept.parked;
        slots = λ slot.
            part_eased slot (parts_of old slot) (parts_of new slot) taken
            (eases (view_at old slot) (view_at new slot) (settles.views slot)) (kept.slots slot);
        load_is = subst (λ (load : Load). LoadTold load taken) (sym settles.load) kept.load_is;
      };
}
