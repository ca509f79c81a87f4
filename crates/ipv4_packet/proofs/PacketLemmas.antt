-- The packet at the start of octets.
use Rattle.std.proofs.Common.{◌≡◌, ℕ, ◌≤◌, List, length, take, drop, sym, arith}
use Rattle.std.proofs.lemmas.List.{get_or-take, take-append-drop, length-take}
use Rattle.ipv4_packet.specs.Fields.{version_of, header_words, header_len, total_length}
use Rattle.ipv4_packet.specs.Packet.{Spells}

-- octets whose lengths fit begin with the packet of their total length
pub spells_prefix : (octets : List ℕ) (total : ℕ) → total ≡ total_length octets → version_of octets ≡ 4
    → 5 ≤ header_words octets
    → header_len octets ≤ total → total ≤ length octets → Spells octets (take total octets)
spells_prefix octets total told version words header here = record {
  whole = record {
    version = rw (get_or-take total octets 0 0 (omega arith)) version;
    words = rw (get_or-take total octets 0 0 (omega arith)) words;
    header = rw (
      get_or-take total octets 0 0 (omega arith),
      get_or-take total octets 2 0 (omega arith),
      get_or-take total octets 3 0 (omega arith),
    ) (omega arith);
    total = rw (get_or-take total octets 2 0 (omega arith), get_or-take total octets 3 0 (omega arith))
        (omega (arith, length-take total octets));
  };
  rest = drop total octets;
  parts = sym (take-append-drop total octets);
}
