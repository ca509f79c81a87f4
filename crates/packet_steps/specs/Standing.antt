-- What running counters represent.
use Rattle.std.specs.Prelude.{◌≡◌, ◌≢◌, ℕ, ◌-◌, ◌^◌, ◌≤◌, ◌↔◌, false}
use Rattle.std.specs.Prelude.{List, length, Option, IsTrue, All}
use Rattle.std.specs.List.{Contains}
use Rattle.charging_book.specs.Accounts as book
use Rattle.charging_book.specs.Happenings as happenings
use Rattle.bearer_state.specs.declared.version.ActiveBearer.{ActiveBearer}
use Rattle.bearer_state.specs.Version.{VersionState, IsVersion}
use Rattle.packet_steps.specs.Rows.{ForwardedRow, HeldRow}
use Rattle.packet_steps.specs.Past.{Past}
use Rattle.packet_steps.specs.Change.{has_life, learnt}
use Rattle.packet_steps.specs.Meters.{MetersState, MetersStand}

-- running counters as contracts see them
pub record CountersState : Type 0 where
  pub meters : MetersState
  pub book : book.Accounts
  pub held : List HeldRow
  pub last : Option ℕ

abbrev pub last_of : CountersState → Option ℕ
last_of counters = counters.last

abbrev pub book_of : CountersState → book.Accounts
book_of counters = counters.book

-- the lives that are open in the book are those of the active bearers
abbrev pub OpenAreActive : Past → Type 0
OpenAreActive past =
    (life : ℕ) → Contains (happenings.lives_of past.charged) life ↔ IsTrue (has_life past.version.bearers life)

-- counters represent a past, with so many rows of its book taken out
pub record StandsFor (counters : CountersState) (past : Past) (taken : ℕ) : Type 0 where
  pub meters : MetersStand counters.meters past
  pub charges : book.StandsFor counters.book past.charged taken
  pub held : counters.held ≡ past.held
  pub last : counters.last ≡ past.last
  pub open_lives : OpenAreActive past
  pub rates : All (λ (row : ForwardedRow). row.rates ≤ past.version.rates) past.forwarded
  pub ranges : IsVersion past.version

-- so few things happened that each count may rise
abbrev pub AreFew : List happenings.Happening → Type 0
AreFew happened = length happened ≤ 2 ^ 61 - 20

-- a version may be the next one of a past: as commands make it
pub record Follows (past : Past) (after : VersionState) : Type 0 where
  -- the AMBR is set anew with a higher count, and else stays
  pub rates_rise : past.version.rates ≤ after.rates
  pub rates_stay : past.version.rates ≡ after.rates → (past.version.up ≡ after.up) × (past.version.down ≡ after.down)
  -- a life keeps its place and its quality of service
  pub same_bearer : (bearer later : ActiveBearer) → Contains past.version.bearers bearer → Contains after.bearers later
      → bearer.life ≡ later.life → (bearer.index ≡ later.index) × (bearer.qos ≡ later.qos)
  -- a life that begins is a new one
  pub fresh : (later : ActiveBearer) → Contains after.bearers later → has_life past.version.bearers later.life ≡ false
      → All (λ (row : ForwardedRow). row.life ≢ later.life) past.forwarded
  pub few : AreFew (learnt past after).0.charged
