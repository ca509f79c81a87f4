-- What a text is as an argument: None exactly where it is none. Numbers, addresses and octets are those of text_fields.
use Rattle.std.specs.Prelude.{ℕ, ◌==◌, ◌&&◌, List, length, nat_le, if◌then◌else◌, Option, Some, None}
use Rattle.std.specs.Int.{w32, from_be_bytes}
use Rattle.std.specs.List.{list_all}
use Rattle.std.specs.Option.{option_map}
use Rattle.std.specs.Char.{is_ascii_digit}
use Rattle.text_fields.specs.Hexadecimal.{octets_of}

-- 6 to 15 digits (TS 23.003, 2.2)
abbrev pub imsi_of : List ℕ → Option (List ℕ)
imsi_of text =
    if list_all is_ascii_digit text && (nat_le 6 (length text) && nat_le (length text) 15) then Some text else None

-- eight hexadecimal digits, the first octet the highest (TS 29.281, 5.1)
abbrev pub teid_of : List ℕ → Option ℕ
teid_of text = if length text == 8 then option_map (λ octets. from_be_bytes w32 octets) (octets_of text) else None
