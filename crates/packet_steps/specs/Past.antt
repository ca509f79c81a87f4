-- What is remembered of a subscriber's packets.
use Rattle.std.specs.Prelude.{ℕ, Bool, List, [], ◌∷◌, ◌++◌, Option, None, unwrap_or}
use Rattle.bearer_state.specs.Session.{new_session}
use Rattle.bearer_state.specs.Version.{VersionState, version_of}
use Rattle.bearer_state.specs.declared.version.ActiveBearer.{ActiveBearer}
use Rattle.charging_book.specs.Happenings as book
use Rattle.packet_steps.specs.Rows.{ForwardedRow, HeldRow}

-- the version that packets go by now, the packets that were forwarded and those that are held, each in order, the
-- moment of the last packet that was judged, and what happened to the charging book
pub record Past : Type 0 where
  pub version : VersionState
  pub forwarded : List ForwardedRow
  pub held : List HeldRow
  pub last : Option ℕ
  pub charged : List book.Happening

-- before the first event of a slot
abbrev pub new_past : ℕ → Past
new_past slot = record {
  version = version_of (new_session slot) 0;
  forwarded = [];
  held = [];
  last = None;
  charged = [];
}

-- the moment of the last packet, 0 before the first
abbrev pub moment_of : Past → ℕ
moment_of past = unwrap_or past.last 0

-- octets of a bearer as they are forwarded now
abbrev pub row_for : Past → ActiveBearer → Bool → ℕ → ForwardedRow
row_for past bearer up octets = record {
  life = bearer.life;
  up = up;
  octets = octets;
  at = moment_of past;
  qci = bearer.qos.qci;
  rates = past.version.rates;
}

-- what the book hears of it
abbrev pub happening_for : ForwardedRow → book.Happening
happening_for row = book.forwarded row.life (record { up = row.up; octets = row.octets; at = row.at })

-- the past with one packet more forwarded: it is charged by its own octets
abbrev pub with_row : Past → ForwardedRow → Past
with_row past row = record past {
  forwarded = past.forwarded ++ row ∷ [];
  charged = past.charged ++ happening_for row ∷ [];
}

-- with one packet more held
abbrev pub with_held : Past → HeldRow → Past
with_held past row = record past { held = past.held ++ row ∷ [] }
