-- The texts of lines: each is one line, and short.
use Rattle.std.proofs.Common.{◌≡◌, ℕ, ◌+◌, ◌*◌, ◌-◌, ◌^◌, ◌<◌, ◌≤◌, true, List, [], ◌∷◌, ◌++◌, length, All, arith, codes, map, nat_lt, length-append, refl}
use Rattle.std.proofs.lemmas.List.{length-replicate}
use Rattle.std.specs.Prelude.{decimal}
use Rattle.std.specs.Int.{w32, to_be_bytes}
use Rattle.std.specs.List.{list_all, join_with_byte}
use Rattle.std.proofs.lemmas.Bool.Decides.{nat_tests}
use Rattle.std.proofs.lemmas.Fmt.{length-decimal-le}
use Rattle.std.proofs.lemmas.List.Elements.{All-cons, All-append}
use Rattle.std.proofs.lemmas.List.Sums.{AllPass-from_list_all}
use Rattle.hex.specs.Hex.{encode_lower, lower_digits}
use Rattle.hex.proofs.HexLemmas.{length-encode_with}
use Rattle.pc_base.specs.Addresses.{addr_of}
use Rattle.pc_base.specs.Imsi.{IsImsi}
use Rattle.text_fields.specs.Address.{dot, dotted}
use Rattle.text_fields.specs.Fields.{joined}
use Rattle.text_fields.proofs.PlainLemmas.{IsLow, low_decimal, low_address, digits_between}
use Rattle.trace_lines.specs.Line.{IsOctets}
use Rattle.trace_lines.specs.Text.{arguments, kind_word}
use Rattle.trace_lines.proofs.FormLemmas.{are_octets}
use Rattle.trace_maker.specs.Numbering.{IsShort}
use Rattle.trace_maker.specs.Packets.{server, packet, uplink, downlink}
use Rattle.trace_maker.specs.Plan.{line_of}
use Rattle.trace_maker.specs.Said.{IsSaid, imsi_of, kind_of}
use Rattle.trace_maker.specs.declared.maker.LinePlan.{LinePlan}
use Rattle.trace_maker.specs.declared.said.Said.{Said}
use Rattle.trace_maker.specs.declared.said.Said.TheVariants.{Attach, Up, Down, Rates, Move}
use Rattle.trace_maker.proofs.KindLemmas.{is_imsi, is_kind, is_line}

-- an octet behind the control characters
abbrev pub IsShown : ℕ → Type 0
IsShown octet = 31 < octet

-- a text of such octets, at most so many
pub record IsText (most : ℕ) (text : List ℕ) : Type 0 where
  pub shown : All IsShown text
  pub within : length text ≤ most

-- two fields
then : {m n : ℕ} (first rest : List ℕ) → IsText m first → IsText n rest → IsText (m + 1 + n) (first ++ 32 ∷ rest)
then first rest a b = record {
  shown = All-append IsShown first _ a.shown (All-cons IsShown 32 rest (omega arith) b.shown);
  within = omega (arith, a.within, b.within, length-append first (32 ∷ rest));
}

behind_controls : (text : List ℕ) → All IsLow text → All IsShown text
behind_controls text all k d inside = omega (arith, (all k d inside).0)

word : (text : List ℕ) → list_all (λ o. nat_lt 31 o) text ≡ true → All IsShown text
word text test k d inside =
    let passes = AllPass-from_list_all (λ o. nat_lt 31 o) text test k d inside in grind (arith, nat_tests)

number : (n : ℕ) → n < 2 ^ 50 → IsText 16 (decimal n)
number n fits = record {
  shown = behind_controls (decimal n) (low_decimal n (omega arith));
  within = length-decimal-le 16 n (omega arith) (omega arith) (omega arith);
}

digits : (text : List ℕ) → IsImsi text → IsText 15 text
digits text imsi = record {
  shown = λ k d inside. omega (arith, (imsi.2 k d inside).0);
  within = imsi.1;
}

parts : (a b c d : ℕ) → a < 256 → b < 256 → c < 256 → d < 256
    → length (join_with_byte dot (map decimal (a ∷ b ∷ c ∷ d ∷ []))) ≤ 15
parts a b c d fits_a fits_b fits_c fits_d =
    let cd = decimal c ++ (46 ∷ decimal d) in
    let bcd = decimal b ++ (46 ∷ cd) in
    let in_all : length (decimal a ++ (46 ∷ bcd)) ≤ 15 =
    omega (
      arith,
      length-decimal-le 3 a (omega arith) (omega arith) (omega arith),
      length-decimal-le 3 b (omega arith) (omega arith) (omega arith),
      length-decimal-le 3 c (omega arith) (omega arith) (omega arith),
      length-decimal-le 3 d (omega arith) (omega arith) (omega arith),
      length-append (decimal a) (46 ∷ bcd),
      length-append (decimal b) (46 ∷ cd),
      length-append (decimal c) (46 ∷ decimal d),
    )
    in in_all

address : (n : ℕ) → n < 2 ^ 32 → IsText 15 (dotted n)
address n fits = record {
  shown = behind_controls (dotted n) (low_address n fits);
  within = parts _ _ _ _ (omega arith) (omega arith) (omega arith) (omega arith);
}

hexadecimal : (most : ℕ) (octets : List ℕ) → IsOctets octets → length octets ≤ most
    → IsText (2 * most) (encode_lower octets)
hexadecimal most octets fits short = record {
  shown = λ k d inside. omega (arith, (digits_between octets fits.1 k d inside).0);
  within = omega (arith, short, length-encode_with lower_digits octets);
}

wider : {m : ℕ} (n : ℕ) (text : List ℕ) → m ≤ n → IsText m text → IsText n text
wider n text more is = record { shown = is.shown; within = omega (arith, more, is.within) }

name : (most : ℕ) (text : List ℕ) → list_all (λ o. nat_lt 31 o) text ≡ true → length text ≤ most → IsText most text
name most text test short = record { shown = word text test; within = short }

length-packet : (len source destination : ℕ) → length (packet len source destination) ≡ 20 + (len - 20)
length-packet len source destination = omega (arith, length-replicate {A = ℕ} (len - 20) 0)

-- a line of one message
message : (moment : ℕ) (kind octets : List ℕ) → moment < 2 ^ 50 → list_all (λ o. nat_lt 31 o) kind ≡ true
    → length kind ≤ 3 → IsOctets octets → length octets ≤ 208
    → IsText 600 (joined (decimal moment ∷ kind ∷ encode_lower octets ∷ []))
message moment kind octets early test three fits short =
    wider 600 _ (omega arith) (then (decimal moment) _ (number moment early)
    (then kind (encode_lower octets) (name 3 kind test three) (hexadecimal 208 octets fits short)))

pub is_text : (moment : ℕ) (said : Said) → moment < 2 ^ 50 → IsSaid said
    → IsText 600 (joined (decimal moment ∷ kind_word (kind_of said) ∷ arguments (kind_of said)))
is_text moment (Attach slot) early in_range =
    let teid = to_be_bytes w32 (slot + 1) in
    wider 600 _ (omega arith) (then (decimal moment) _ (number moment early)
    (then (codes "ATTACH") _ (name 6 (codes "ATTACH") refl (omega arith))
    (then (imsi_of slot) _ (digits (imsi_of slot) (is_imsi slot))
    (then (dotted 0xc633_6401) _ (address 0xc633_6401 (omega arith))
    (then (encode_lower teid) _ (hexadecimal 4 teid (are_octets (slot + 1)) (omega arith))
    (then (decimal 100_000) _ (number 100_000 (omega arith)) (number 100_000 (omega arith))))))))
is_text moment (Up slot len) early in_range =
    message moment (codes "S1U") (uplink slot len) early refl (omega arith) (is_kind (Up slot len) in_range)
    (omega (arith, in_range.1.1, length-packet len (addr_of slot) server))
is_text moment (Down slot len) early in_range =
    message moment (codes "SGI") (downlink slot len) early refl (omega arith) (is_kind (Down slot len) in_range)
    (omega (arith, in_range.1.1, length-packet len server (addr_of slot)))
is_text moment (Rates slot rate) early in_range =
    let fits : rate < 2 ^ 50 = omega (arith, in_range.1) in
    wider 600 _ (omega arith) (then (decimal moment) _ (number moment early)
    (then (codes "AMBR") _ (name 4 (codes "AMBR") refl (omega arith))
    (then (imsi_of slot) _ (digits (imsi_of slot) (is_imsi slot))
    (then (decimal rate) (decimal rate) (number rate fits) (number rate fits)))))
is_text moment (Move slot slice) early in_range =
    wider 600 _ (omega arith) (then (decimal moment) _ (number moment early)
    (then (codes "MOVE") _ (name 4 (codes "MOVE") refl (omega arith))
    (then (imsi_of slot) (decimal slice) (digits (imsi_of slot) (is_imsi slot))
    (number slice (omega (arith, in_range.1))))))

pub is_short : (plan : LinePlan) → plan.moment < 2 ^ 50 → IsSaid plan.said → IsShort (line_of plan)
is_short plan early in_range =
    let text = is_text plan.moment plan.said early in_range in
    record {
      is_line = is_line plan early in_range;
      no_newline = λ k d inside same. omega (arith, text.shown k d inside, same);
      short = text.within;
    }
