use Rattle.std.proofs.Common.{ℕ, sym, ◌∙◌, subst}
use Rattle.bearer_state.specs.Session.{SessionState}
use Rattle.lane_core.specs.Ends.{sent, taken}
use Rattle.control_half.specs.Applied.{HasRoomFor}
use Rattle.control_half.specs.Published.{in_batches, in_kept}
use Rattle.split_record.specs.Origin.{start_in, commands_in}
use Rattle.split_record.proofs.Stages.{commands_closed}
use Rattle.split_record.proofs.parts.OpenHalves.closed.Goals as goal

pub returns-in-Ok-clause-ok : goal.returns-in-Ok-clause-ok
returns-in-Ok-clause-ok g c =
    let origin = c.args.origin.now in
    let end = c.args.self.control in
    let is = c.requires.at in
    record {
      left_to_do = commands_closed (start_in origin) (commands_in origin) end.first end.started end.head
          (taken end.commands) c.in-Ok.rest.items end.control.session end.control.number end.control.notes.items
          end.due (in_batches (sent end.versions)) (in_kept end.batch) is.session is.number
          (sym is.sent_are ∙ c.in-Ok.ensures.rest) end.in_order end.applies;
      versions = is.versions;
      roomy = subst (λ (p : SessionState × ℕ). HasRoomFor p.0 p.1) (λ i. (is.session i, is.number i)) end.roomy;
      started = is.started;
      items = is.items;
      places = is.places;
      early = is.early;
    }
