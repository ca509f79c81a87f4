use Rattle.std.proofs.Common.{◌≡◌, ◌||◌, ◌∙◌, ap, ap₂, refl, is_some, codes}
use Rattle.clap.specs.Words.{first_value, found_of}
use Rattle.command_words.specs.Job.{audit_forms}
use Rattle.command_words.specs.Options.{value_of}
use Rattle.command_words.proofs.Lookups.{value_found}
use Rattle.command_words.proofs.words.has_number.Goals as goal

pub returns : goal.returns
returns c = λ given gives.
    let slices : first_value (found_of c.args.matches.now) (codes "slices") ≡ value_of (codes "slices") given = value_found c.args.matches.now audit_forms given (codes "slices") gives refl refl in
    let room : first_value (found_of c.args.matches.now) (codes "room") ≡ value_of (codes "room") given = value_found c.args.matches.now audit_forms given (codes "room") gives refl refl in
    let lane : first_value (found_of c.args.matches.now) (codes "lane") ≡ value_of (codes "lane") given = value_found c.args.matches.now audit_forms given (codes "lane") gives refl refl in
    ap₂ (λ a b. a || b) (ap₂ (λ a b. a || b) (c.has_value-slices.ensures ∙ ap is_some slices) (c.has_value-room.ensures ∙ ap is_some room))
    (c.has_value-lane.ensures ∙ ap is_some lane)
