-- The test of fitting answers what fitting is.
use Rattle.std.proofs.Common.{◌≡◌, ℕ, Bool, true, IsTrue, ◌↔◌, List, [], ◌∷◌, refl, sym, ◌∙◌}
use Rattle.std.specs.List.{All, list_all}
use Rattle.std.proofs.lemmas.Bool.{and_parts, and_from}
use Rattle.std.proofs.lemmas.List.Elements.{All-nil, All-cons, All-head, All-tail}
use Rattle.tft_codec.specs.declared.component.Component.{Component}
use Rattle.tft_codec.specs.declared.filter.Filter.{Filter}
use Rattle.tft_match.specs.declared.direction.Direction.{Direction}
use Rattle.tft_match.specs.Fit.{holds, Holds, fits, Fits}

all_hold : (direction : Direction) (packet : List ℕ) (components : List Component)
    → list_all (holds direction packet) components ≡ true
    → All (Holds direction packet) components
all_hold direction packet [] tested = All-nil (Holds direction packet)
all_hold direction packet (component ∷ components) tested =
    let parts = and_parts _ _ tested in
    All-cons (Holds direction packet) component components parts.0 (all_hold direction packet components parts.1)

hold_all : (direction : Direction) (packet : List ℕ) (components : List Component)
    → All (Holds direction packet) components
    → list_all (holds direction packet) components ≡ true
hold_all direction packet [] all = refl
hold_all direction packet (component ∷ components) all =
    and_from _ _ (All-head (Holds direction packet) component components all)
    (hold_all direction packet components (All-tail (Holds direction packet) component components all))

pub fits_tested : (direction : Direction) (packet : List ℕ) (filter : Filter)
    → IsTrue (fits direction packet filter) ↔ Fits direction packet filter
fits_tested direction packet filter = (
  λ yes.
      let parts = and_parts _ _ yes in
      record { counts = parts.0; each = all_hold direction packet filter.components parts.1 },
  λ fit. and_from _ _ fit.counts (hold_all direction packet filter.components fit.each),
)

-- so does what equals it
pub fits_told : (direction : Direction) (packet : List ℕ) (filter : Filter) (told : Bool)
    → told ≡ fits direction packet filter
    → IsTrue told ↔ Fits direction packet filter
fits_told direction packet filter told is =
    let tested = fits_tested direction packet filter in
    (λ yes. tested.0 (sym is ∙ yes), λ fit. is ∙ tested.1 fit)
