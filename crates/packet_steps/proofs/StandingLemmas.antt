-- What counters represent behind a packet.
use Rattle.std.proofs.Common.{◌≡◌, ℕ, ◌≤◌, ◌↔◌, ◌==◌, ◌||◌, inl, inr, eq-eqb, Bool, true, false, List, [], ◌∷◌, ◌++◌, IsTrue, Option, Some, None, IfSome, unwrap_or, refl, sym, ◌∙◌, ap, subst, arith}
use Rattle.std.specs.List.{Contains}
use Rattle.std.proofs.lemmas.List.Elements.{All-push}
use Rattle.charging_book.specs.Accounts as book
use Rattle.charging_book.specs.Postings.{MayFollow}
use Rattle.charging_book.proofs.Steps.{lives-push}
use Rattle.rate_policer.specs.Buckets.{BucketState}
use Rattle.bearer_state.specs.declared.version.ActiveBearer.{ActiveBearer}
use Rattle.packet_steps.specs.Rows.{ForwardedRow, HeldRow}
use Rattle.packet_steps.specs.Past.{Past, moment_of, row_for, happening_for, with_row, with_held}
use Rattle.packet_steps.specs.Verdicts.{at_moment}
use Rattle.packet_steps.specs.Change.{has_life}
use Rattle.packet_steps.specs.Meters.{MetersState, put_bucket, MetersStand}
use Rattle.packet_steps.specs.Standing.{StandsFor, CountersState, AreFew, last_of}
use Rattle.packet_steps.specs.Plans.{PolicesBehind, PolicesStill}
use Rattle.packet_steps.proofs.BearerLemmas.{none_in_nil, of_cons}
use Rattle.packet_steps.proofs.MeterLemmas.{meters_later, put_stands, put_still}

-- the moment isn't earlier than that of the last packet
pub late_by : (counters : CountersState) (past : Past) (taken at : ℕ) → StandsFor counters past taken
    → IfSome (last_of counters) (λ last. last ≤ at)
    → moment_of past ≤ at
late_by counters past taken at stands late = by (past.last)
    (subst (λ last. IfSome last (λ moment. moment ≤ at)) stands.last late)
  where
    by : (last : Option ℕ) → IfSome last (λ moment. moment ≤ at) → unwrap_or last 0 ≤ at
    by None late = omega arith
    by (Some moment) late = late

or_true : (a : Bool) → (a || true) ≡ true
or_true true = refl
or_true false = refl

-- a bearer's life is among those of the bearers
pub has_it : (bearers : List ActiveBearer) (bearer : ActiveBearer) → Contains bearers bearer
    → has_life bearers bearer.life ≡ true
has_it [] bearer there = absurd (none_in_nil bearer there)
has_it (b ∷ bearers) bearer there =
    elim (of_cons b bearers bearer there) [
      | inl here ↦ ap (λ t. t || has_life bearers bearer.life) (eq-eqb b.life bearer.life (ap (λ (x : ActiveBearer). x.life) here))
      | inr behind ↦ ap (λ t. (b.life == bearer.life) || t) (has_it bearers bearer behind) ∙ or_true (b.life == bearer.life)
    ]

-- nothing but time went by
pub stays_stand : (counters new : CountersState) (past : Past) (taken at : ℕ) → StandsFor counters past taken
    → moment_of past ≤ at
    → new ≡ record counters { last = Some at } → StandsFor new (at_moment past at) taken
stays_stand counters new past taken at stands late is =
    subst (λ (c : CountersState). StandsFor c (at_moment past at) taken) (sym is) (record {
      meters = meters_later counters.meters past at stands.meters late;
      charges = stands.charges;
      held = stands.held;
      last = refl;
      open_lives = stands.open_lives;
      rates = stands.rates;
      ranges = stands.ranges;
    })

-- a packet was refused: its bucket was asked
pub refuses_stand : (counters new : CountersState) (past : Past) (taken at : ℕ) (bearer : ActiveBearer) (up : Bool)
    (bucket : BucketState) → StandsFor counters past taken → moment_of past ≤ at → Contains past.version.bearers bearer
    → PolicesStill (at_moment past at) bearer up bucket
    → new ≡ record counters { meters = put_bucket counters.meters bearer up bucket; last = Some at }
    → StandsFor new (at_moment past at) taken
refuses_stand counters new past taken at bearer up bucket stands late there still is =
    subst (λ (c : CountersState). StandsFor c (at_moment past at) taken) (sym is) (record {
      meters = put_still counters.meters (at_moment past at) bearer up bucket
          (meters_later counters.meters past at stands.meters late) stands.ranges there still;
      charges = stands.charges;
      held = stands.held;
      last = refl;
      open_lives = stands.open_lives;
      rates = stands.rates;
      ranges = stands.ranges;
    })

-- one packet more is held
pub holds_stand : (counters new : CountersState) (past : Past) (taken at : ℕ) (row : HeldRow)
    → StandsFor counters past taken → moment_of past ≤ at
    → new ≡ record counters { held = counters.held ++ row ∷ []; last = Some at }
    → StandsFor new (with_held (at_moment past at) row) taken
holds_stand counters new past taken at row stands late is =
    subst (λ (c : CountersState). StandsFor c (with_held (at_moment past at) row) taken) (sym is) (record {
      meters =
          let later = meters_later counters.meters past at stands.meters late in
          record { sized = later.sized; shared = later.shared; own = later.own };
      charges = stands.charges;
      held = ap (λ rows. rows ++ row ∷ []) stands.held;
      last = refl;
      open_lives = stands.open_lives;
      rates = stands.rates;
      ranges = stands.ranges;
    })

-- what is forwarded may be charged
pub may_charge : (counters : CountersState) (past : Past) (taken at octets : ℕ) (bearer : ActiveBearer) (up : Bool)
    → StandsFor counters past taken
    → Contains past.version.bearers bearer → AreFew past.charged
    → MayFollow past.charged (happening_for (row_for (at_moment past at) bearer up octets))
may_charge counters past taken at octets bearer up stands there few = record {
  may = (stands.open_lives bearer.life).1 (has_it past.version.bearers bearer there);
  in_range = tt;
  few = few;
}

-- one packet more is forwarded and charged
pub passes_stand : (counters new : CountersState) (past : Past) (taken at octets : ℕ) (bearer : ActiveBearer)
    (up : Bool) (bucket : BucketState)
    → StandsFor counters past taken → moment_of past ≤ at → Contains past.version.bearers bearer
    → PolicesBehind (at_moment past at) bearer up octets bucket
    → new.meters ≡ put_bucket counters.meters bearer up bucket
    → book.StandsFor new.book (past.charged ++ happening_for (row_for (at_moment past at) bearer up octets) ∷ []) taken
    → new.held ≡ counters.held → new.last ≡ Some at
    → StandsFor new (with_row (at_moment past at) (row_for (at_moment past at) bearer up octets)) taken
passes_stand counters new past taken at octets bearer up bucket stands late there behind meters charges held last =
    let row = row_for (at_moment past at) bearer up octets in
    record {
      meters = subst (λ (m : MetersState). MetersStand m (with_row (at_moment past at) row)) (sym meters)
          (put_stands counters.meters (at_moment past at) bearer up octets bucket
          (meters_later counters.meters past at stands.meters late) stands.ranges there behind);
      charges = charges;
      held = held ∙ stands.held;
      last = last;
      open_lives = λ life. subst (λ lives. Contains lives life ↔ IsTrue (has_life past.version.bearers life))
          (sym (lives-push past.charged (happening_for row))) (stands.open_lives life);
      rates = All-push (λ (r : ForwardedRow). r.rates ≤ past.version.rates) past.forwarded row stands.rates
          (omega arith);
      ranges = stands.ranges;
    }
