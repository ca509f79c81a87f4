-- New counters represent the past before the first event.
use Rattle.std.proofs.Common.{◌≡◌, ◌≤◌, ℕ, Bool, true, false, List, [], length, refl, sym, ap, subst, None, arith}
use Rattle.std.proofs.lemmas.List.Elements.{All-nil}
use Rattle.charging_book.specs.Accounts as book
use Rattle.rate_policer.proofs.Standing.{stands_full}
use Rattle.packet_steps.specs.declared.meters.Meter.{Meter}
use Rattle.packet_steps.specs.Rows.{ForwardedRow, HeldRow}
use Rattle.packet_steps.specs.Past.{new_past}
use Rattle.packet_steps.specs.Policing.{ambr}
use Rattle.packet_steps.specs.Meters.{MetersState, unused, no_meters, bucket_of, new_meter, Polices}
use Rattle.packet_steps.specs.Parts.{new_counters}
use Rattle.packet_steps.specs.Standing.{CountersState, StandsFor}

abbrev pub rate_by : Bool → ℕ → ℕ → ℕ
rate_by true up_rate down_rate = up_rate
rate_by false up_rate down_rate = down_rate

-- a full bucket polices nothing that passed yet
pub full_polices : (up_rate down_rate moment : ℕ) (up : Bool)
    → Polices (bucket_of up (new_meter up_rate down_rate)) (rate_by up up_rate down_rate) [] moment
full_polices up_rate down_rate moment true = record { rate_is = refl; stands = stands_full up_rate _ refl; asked = omega arith }
full_polices up_rate down_rate moment false = record { rate_is = refl; stands = stands_full down_rate _ refl; asked = omega arith }

none_polices : (slot : ℕ) (up : Bool) → Polices (bucket_of up (new_meter 0 0)) (ambr up (new_past slot).version) [] 0
none_polices slot true = full_polices 0 0 0 true
none_polices slot false = full_polices 0 0 0 false

pub new_stands : (meters : MetersState) (accounts : book.Accounts) (held : List HeldRow) (slot : ℕ)
    → meters.shared ≡ unused → meters.own ≡ no_meters → book.StandsFor accounts [] 0 → held ≡ []
    → StandsFor (record {
      meters = meters;
      book = accounts;
      held = held;
      last = None;
    }) (new_past slot) 0
new_stands meters accounts held slot is own charges nothing = record {
  meters = record {
    sized = ap length own;
    shared = λ up. subst (λ (meter : Meter). Polices (bucket_of up meter) (ambr up (new_past slot).version) [] 0)
        (sym is) (none_polices slot up);
    own = λ bearer up there. absurd (omega (arith, there.1));
  };
  charges = charges;
  held = nothing;
  last = refl;
  open_lives = λ life. (λ there. absurd (omega (arith, there.1)), λ has. absurd (cc));
  rates = All-nil (λ (row : ForwardedRow). row.rates ≤ 0);
  ranges = record {
    number = omega arith;
    up = omega arith;
    down = omega arith;
    rates = omega arith;
    each = tt;
    apart = tt;
    rows = refl;
    none_if_not_live = λ dead. refl;
  };
}

-- they are the ones that have nothing
abbrev counters_with : MetersState → book.Accounts → List HeldRow → CountersState
counters_with meters accounts held = record {
  meters = meters;
  book = accounts;
  held = held;
  last = None;
}

pub new_is : (meters : MetersState) (accounts : book.Accounts) (held : List HeldRow) → meters.shared ≡ unused
    → meters.own ≡ no_meters → book.StandsFor accounts [] 0 → held ≡ []
    → counters_with meters accounts held ≡ new_counters
new_is meters accounts held is own charges nothing = λ i. counters_with (record { shared = is i; own = own i })
    (record { opens = charges.opens i; moments = charges.moments i; rows = charges.rows i }) (nothing i)
