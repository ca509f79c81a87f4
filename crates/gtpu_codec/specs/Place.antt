-- Where the body of a message stands among its octets.
use Rattle.std.specs.Prelude.{◌≡◌, ℕ, ◌+◌, ◌-◌, ◌≤◌, List, length, take, drop}
use Rattle.gtpu_codec.specs.Head.{length_in}

-- The octets that the length counts are there, behind the eight of the head, and the body is the last ones of these.
abbrev pub EndsCounted : List ℕ → List ℕ → Type 0
EndsCounted octets body =
    (length body ≤ length_in octets) × (8 + length_in octets ≤ length octets)
    × (take (length body) (drop (8 + (length_in octets - length body)) octets) ≡ body)
