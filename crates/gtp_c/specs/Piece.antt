-- A piece of a charging record in a C caller's numbers. Whose it is, the caller knows.
use Rattle.std.specs.Prelude.{ℕ, ◌+◌, ◌==◌, ◌&&◌, ◌||◌, nat_lt, nat_le, Bool, Some, None, if◌then◌else◌}
use Rattle.charging_book.specs.Counters.{with_packet}
use Rattle.charging_book.specs.Pieces.{volume}
use Rattle.charging_book.specs.Rows.{Counters, Moments}
use Rattle.gtp_c.specs.declared.piece.Piece.{Piece}

abbrev pub counters_said : Piece → Counters
counters_said said = record {
  life = 0;
  ebi = 0;
  qci = 0;
  seq = said.seq;
  up_octets = said.up_octets;
  down_octets = said.down_octets;
  up_packets = said.up_packets;
  down_packets = said.down_packets;
}

-- the moments count where there are packets
abbrev pub moments_said : Piece → Moments
moments_said said =
    if said.up_packets == 0 && (said.down_packets == 0) then record { first = None; last = None }
    else record { first = Some said.first; last = Some said.last }

-- a count may not rise any more, or the piece is full
abbrev pub is_wrong : Piece → Bool
is_wrong said =
    nat_lt 2305843009213693932 said.seq || nat_lt 2305843009213693932 said.up_packets
    || nat_lt 2305843009213693932 said.down_packets || nat_le volume (said.up_octets + said.down_octets)

abbrev pub octets_in : Counters → ℕ
octets_in counters = counters.up_octets + counters.down_octets

-- 23 where the moment is none or the piece is wrong; 30 where the packet fills it
abbrev pub count_code : Piece → Bool → ℕ → ℕ → ℕ
count_code piece up octets at =
    if nat_lt 1125899906842623 at || is_wrong piece then 23
    else if nat_le volume (octets_in (with_packet (counters_said piece) up octets)) then 30
    else 0

abbrev pub next_code : Piece → ℕ
next_code piece = if nat_lt 2305843009213693932 piece.seq then 23 else 0
