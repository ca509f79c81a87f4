-- What a new version has brought so far, before it is done.
use Rattle.std.specs.Prelude.{◌≡◌, List, ◌++◌, map}
use Rattle.charging_book.specs.Happenings.{Happening}
use Rattle.charging_book.specs.Postings.{happening_of}
use Rattle.pc_base.specs.declared.effect.Effect.{Effect}
use Rattle.packet_steps.specs.declared.releasing.Release.{Release}
use Rattle.packet_steps.specs.Past.{Past}
use Rattle.packet_steps.specs.Meters.{in_use, MetersStand}

-- the buckets, the postings behind what happened before, and the effects are those of this past
pub record Releases (release : Release) (before : List Happening) (so_far : Past × List Effect) : Type 0 where
  pub meters : MetersStand (in_use release.meters) so_far.0
  pub postings : before ++ map happening_of release.postings.items ≡ so_far.0.charged
  pub effects : release.effects.items ≡ so_far.1
