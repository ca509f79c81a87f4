-- Slots that come to stand somewhere, and that stand there no longer.
use Rattle.std.proofs.Common.{◌≡◌, ℕ, ◌==◌, ◌&&◌, ◌||◌, not, true, false, List, [], get_or, refl, ap, ◌∙◌}
use Rattle.std.specs.Global.{Vec}
use Rattle.std.proofs.lemmas.Bool.{eq-eqb}
use Rattle.epoch_schedule.specs.Waiting.{is_in, Stands, IsPut, IsLeftOut, IsLeftOutOf, waits_of}
use Rattle.epoch_schedule.specs.declared.waiting.Pass.{Pass}
use Rattle.epoch_schedule.specs.declared.waiting.Pass.TheVariants as pass
use Rattle.epoch_schedule.specs.declared.waiting.WaitingSlots.{WaitingSlots}
use Rattle.epoch_schedule.specs.declared.waiting.PassWaits.{PassWaits}
use Rattle.epoch_schedule.specs.declared.waiting.Want.{Want}
use Rattle.epoch_schedule.specs.declared.waiting.Want.TheVariants as want
use Rattle.epoch_schedule.proofs.SlotSets.{or_more}

module _ (s : ℕ) (old : PassWaits) where
  -- a slot wants this
  pub put_nothing : IsPut s want.Nothing old old
  put_nothing = record { own = tt; more = λ kind t stands. stands }

  module _ (new : List ℕ) (slots : (t : ℕ) → is_in new t ≡ ((s == t) || is_in old.visits t)) where
    visits_more : (kind : Want) (t : ℕ) → Stands kind old t → Stands kind (record old { visits = new }) t
    visits_more want.Nothing t stands = tt
    visits_more want.Visit t stands = slots t ∙ or_more (s == t) (is_in old.visits t) stands
    visits_more (want.Room lane) t stands = stands

    pub put_visit : IsPut s want.Visit old (record old { visits = new })
    put_visit = record {
      own = slots s ∙ ap (λ test. test || is_in old.visits s) (eq-eqb s s refl);
      more = visits_more;
    }

  module _ (lane : ℕ) (new : Vec (List ℕ)) (own : is_in (get_or new.items lane []) s ≡ true)
      (more : (other t : ℕ) → is_in (get_or old.lanes.items other []) t ≡ true
      → is_in (get_or new.items other []) t ≡ true) where
    lanes_more : (kind : Want) (t : ℕ) → Stands kind old t → Stands kind (record old { lanes = new }) t
    lanes_more want.Nothing t stands = tt
    lanes_more want.Visit t stands = stands
    lanes_more (want.Room other) t stands = more other t stands

    pub put_room : IsPut s (want.Room lane) old (record old { lanes = new })
    put_room = record { own = own; more = lanes_more }

  -- and doesn't want it any more
  pub left_visits : (new : List ℕ) → ((t : ℕ) → is_in new t ≡ (not (s == t) && is_in old.visits t))
      → IsLeftOut s old (record old { visits = new })
  left_visits new slots want.Nothing t other stands = tt
  left_visits new slots want.Visit t other stands =
      slots t ∙ ap (λ test. not test && is_in old.visits t) other ∙ stands
  left_visits new slots (want.Room lane) t other stands = stands

  pub left_lanes : (new : Vec (List ℕ))
      → ((lane t : ℕ) → (s == t) ≡ false → is_in (get_or old.lanes.items lane []) t ≡ true
      → is_in (get_or new.items lane []) t ≡ true) → IsLeftOut s old (record old { lanes = new })
  left_lanes new kept want.Nothing t other stands = tt
  left_lanes new kept want.Visit t other stands = stands
  left_lanes new kept (want.Room lane) t other stands = kept lane t other stands

-- of one pass
module _ (s : ℕ) (old : WaitingSlots) (new : PassWaits) where
  pub left_controls : IsLeftOut s old.controls new → IsLeftOutOf s old (record old { controls = new })
  left_controls left = record { others = λ of. by of; busy = refl }
    where
      by : (of : Pass) → IsLeftOut s (waits_of of old) (waits_of of (record old { controls = new }))
      by pass.Controls = left
      by pass.Datas = λ kind t other stands. stands
      by pass.Queues = λ kind t other stands. stands

  pub left_datas : IsLeftOut s old.datas new → IsLeftOutOf s old (record old { datas = new })
  left_datas left = record { others = λ of. by of; busy = refl }
    where
      by : (of : Pass) → IsLeftOut s (waits_of of old) (waits_of of (record old { datas = new }))
      by pass.Controls = λ kind t other stands. stands
      by pass.Datas = left
      by pass.Queues = λ kind t other stands. stands

  pub left_queues : IsLeftOut s old.queues new → IsLeftOutOf s old (record old { queues = new })
  left_queues left = record { others = λ of. by of; busy = refl }
    where
      by : (of : Pass) → IsLeftOut s (waits_of of old) (waits_of of (record old { queues = new }))
      by pass.Controls = λ kind t other stands. stands
      by pass.Datas = λ kind t other stands. stands
      by pass.Queues = left
