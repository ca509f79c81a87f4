-- The running counters of a piece.
use Rattle.std.specs.Prelude.{ℕ, ◌+◌, ◌-◌, ◌^◌, ◌≤◌, Bool, None, Some, unwrap_or, if◌then◌else◌}
use Rattle.charging_book.specs.declared.records.Why.{Why}
use Rattle.charging_book.specs.Rows.{Counters, Moments, Charged}

-- each count may still rise
pub record HasRoom (counters : Counters) : Type 0 where
  pub rows : counters.seq ≤ 2 ^ 61 - 20
  pub up : counters.up_packets ≤ 2 ^ 61 - 20
  pub down : counters.down_packets ≤ 2 ^ 61 - 20

abbrev pub with_packet : Counters → Bool → ℕ → Counters
with_packet counters up octets = record {
  life = counters.life;
  ebi = counters.ebi;
  qci = counters.qci;
  seq = counters.seq;
  up_octets = if up then counters.up_octets + octets else counters.up_octets;
  down_octets = if up then counters.down_octets else counters.down_octets + octets;
  up_packets = if up then counters.up_packets + 1 else counters.up_packets;
  down_packets = if up then counters.down_packets else counters.down_packets + 1;
}

-- the counters of the next piece
abbrev pub next_piece : Counters → Counters
next_piece counters = record {
  life = counters.life;
  ebi = counters.ebi;
  qci = counters.qci;
  seq = counters.seq + 1;
  up_octets = 0;
  down_octets = 0;
  up_packets = 0;
  down_packets = 0;
}

abbrev pub no_moments : Moments
no_moments = record { first = None; last = None }

abbrev pub with_moment : Moments → ℕ → Moments
with_moment moments at = record { first = Some (unwrap_or moments.first at); last = Some at }

abbrev pub row_from : Counters → Moments → Why → Charged
row_from counters moments why = record {
  life = counters.life;
  ebi = counters.ebi;
  qci = counters.qci;
  seq = counters.seq;
  up_octets = counters.up_octets;
  down_octets = counters.down_octets;
  up_packets = counters.up_packets;
  down_packets = counters.down_packets;
  first = moments.first;
  last = moments.last;
  why = why;
}
