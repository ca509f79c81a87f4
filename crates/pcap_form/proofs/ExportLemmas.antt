-- What an export of lines writes, an import gives back.
use Rattle.std.proofs.Common.{◌≡◌, ℕ, ◌+◌, ◌-◌, ◌*◌, ◌/◌, ◌%◌, ◌^◌, ◌<◌, ◌≤◌, Bool, true, false, ◌&&◌, List, [], ◌∷◌, ◌++◌, length, take, drop, flat_map, nat_lt, nat_le, if◌then◌else◌, Option, None, Some, refl, ap, ◌∙◌, arith, length-append}
use Rattle.std.proofs.Math.Seq.{drop-append-add}
use Rattle.std.proofs.lemmas.Bool.Decides.{nat_tests}
use Rattle.std.proofs.lemmas.List.{take_all, drop_all}
use Rattle.wire_octets.specs.Numbers.{be32_at, be32_octets}
use Rattle.wire_octets.proofs.NumberLemmas.{be32-again}
use Rattle.trace_lines.specs.Kind.{LineKind}
use Rattle.trace_lines.specs.Kind as kind
use Rattle.trace_lines.specs.Line.{Line, IsKind}
use Rattle.pcap_form.specs.declared.head.CaptureHead.{CaptureHead}
use Rattle.pcap_form.specs.Packet.{control_port, user_port, ip_kind, is_for_user}
use Rattle.pcap_form.specs.Record.{Record, nothing, whole, first_of, captured_in, captured_of, record_in, record_len, snapshot_max, time_of}
use Rattle.pcap_form.specs.Capture.{Capture, clean, capture_of, records_of, after_records}
use Rattle.pcap_form.specs.Trace.{Stamped, lines_from, lines_of, moment_of}
use Rattle.pcap_form.specs.Export.{captured, export_of, framed, from_first, header, is_packet, kept, kept_as, message_max, record_head, record_of, taken_off, wrapped}
use Rattle.pcap_form.specs.Law.{InOrder, ComesBack}
use Rattle.pcap_form.proofs.FirstLemmas.{prefix_whole}
use Rattle.pcap_form.proofs.CaptureLemmas.{records_prefix}
use Rattle.pcap_form.proofs.PacketLemmas.{packet_fits, user_packet, wrapped_packet, length-wrapped}

-- the header that is written
abbrev raw : CaptureHead
raw = record { little = false; nanos = false; ethernet = false }

-- a record's head tells the moment and the number of octets
head-time : (moment len : ℕ) (octets : List ℕ) → moment < 2 ^ 50
    → time_of raw (record_head moment len ++ octets) ≡ moment
unfolding record_head
head-time moment len octets early =
    let seconds = be32-again (moment / 1000000) [] (omega (arith, early)) in
    let micros = be32-again (moment % 1000000) [] (omega arith) in
    ap (λ n. 1000000 * n + be32_at (be32_octets (moment % 1000000) ++ []) 0) seconds
    ∙ ap (λ n. 1000000 * (moment / 1000000) + n) micros
    ∙ omega arith

head-captured : (moment len : ℕ) (octets : List ℕ) → len < 2 ^ 32
    → captured_of raw (record_head moment len ++ octets) ≡ len
unfolding record_head
head-captured moment len octets small = be32-again len [] small

-- the record of captured octets stands in front of what is behind it
record-prefix : (moment : ℕ) (octets rest : List ℕ) (said : LineKind) → moment < 2 ^ 50 → length octets ≤ snapshot_max
    → ip_kind octets ≡ Some said
    → first_of raw (record_head moment (length octets) ++ octets ++ rest) ≡ whole
    (record { time = moment; said = Some said }) rest
unfolding record_head
record-prefix moment octets rest said early fits is =
    let n = length octets in
    let held = record_head moment n ++ octets in
    let counted : captured_of raw held ≡ n = head-captured moment n octets (omega (arith, fits)) in
    let taken : captured_in raw held ≡ octets = ap (λ k. take k octets) counted ∙ take_all n octets (omega arith) in
    let one : record_in raw held ≡ record { time = moment; said = Some said } =
    ap (λ t. record { time = t; said = ip_kind (captured_in raw held) }) (head-time moment n octets early)
    ∙ ap (λ o. record { time = moment; said = ip_kind o }) taken
    ∙ ap (λ s. record { time = moment; said = s }) is
    in
    let behind : drop (record_len + captured_of raw held) held ++ rest ≡ rest =
    ap (λ k. drop (record_len + k) held ++ rest) counted
    ∙ ap (λ o. o ++ rest) (drop-append-add (record_head moment n) octets n ∙ drop_all n octets (omega arith))
    in
    prefix_whole raw held rest (omega (arith, counted)) (omega (arith, counted, fits))
    ∙ ap (λ r. whole r (drop (record_len + captured_of raw held) held ++ rest)) one
    ∙ ap (λ o. whole (record { time = moment; said = Some said }) o) behind

-- captured octets are what the line says, and few enough
abbrev KeptSo : LineKind → Option (List ℕ) → Type 0
KeptSo said None = Unit {0}
KeptSo said (Some octets) = (length octets ≤ snapshot_max) × (ip_kind octets ≡ Some said)

if_kept : (test : Bool) (said : LineKind) (octets : List ℕ)
    → (test ≡ true → (length octets ≤ snapshot_max) × (ip_kind octets ≡ Some said))
    → KeptSo said (if test then Some octets else None)
if_kept true said octets so = so refl
if_kept false said octets so = tt

kept_so : (said : LineKind) → IsKind said → KeptSo said (captured said)
kept_so (kind.S11 message) is =
    if_kept (nat_le (length message) message_max) (kind.S11 message) (wrapped control_port message)
    (λ test.
    let fits : length message ≤ 65507 = grind (arith, nat_tests) in (
      omega (arith, length-wrapped control_port message, fits),
      wrapped_packet control_port message is.0 fits (omega arith),
    ))
kept_so (kind.S1u message) is =
    if_kept (nat_le (length message) message_max) (kind.S1u message) (wrapped user_port message)
    (λ test.
    let fits : length message ≤ 65507 = grind (arith, nat_tests) in
    (omega (arith, length-wrapped user_port message, fits), wrapped_packet user_port message is.0 fits (omega arith)))
kept_so (kind.Sgi octets) is =
    if_kept (is_packet octets && is_for_user octets) (kind.Sgi octets) octets
    (λ test. (omega (arith, packet_fits octets is.1 test), user_packet octets test))
kept_so (kind.Attach imsi enb up down) is = tt
kept_so (kind.Bearer imsi qci mbr_up mbr_down gbr_up gbr_down tft) is = tt
kept_so (kind.Filters imsi ebi tft) is = tt
kept_so (kind.Drop imsi ebi) is = tt
kept_so (kind.Ambr imsi up down) is = tt
kept_so (kind.Move imsi slice) is = tt
kept_so kind.Fence is = tt

-- the record that a line's captured octets make
abbrev recorded : ℕ → LineKind → Option (List ℕ) → List Record
recorded moment said None = []
recorded moment said (Some octets) = record { time = moment; said = Some said } ∷ []

abbrev records : List Line → List Record
records lines = flat_map (λ line. recorded line.moment line.kind (captured line.kind)) lines

line-records : (moment : ℕ) (said : LineKind) (octets : Option (List ℕ)) (rest : List ℕ) → moment < 2 ^ 50
    → KeptSo said octets
    → records_of raw (framed moment octets ++ rest) ≡ after_records (recorded moment said octets) (records_of raw rest)
line-records moment said None rest early so = refl
line-records moment said (Some octets) rest early so =
    records_prefix raw (record_head moment (length octets) ++ octets ++ rest)
    (whole (record { time = moment; said = Some said }) rest)
    (record-prefix moment octets rest said early so.0 so.1)

all-records : (least : ℕ) (lines : List Line) → InOrder least lines
    → records_of raw (flat_map record_of lines) ≡ record { records = records lines; tail = clean }
all-records least [] in_order = records_prefix raw [] nothing refl
all-records least (line ∷ lines) in_order =
    line-records line.moment line.kind (captured line.kind) (flat_map record_of lines) in_order.0.moment
    (kept_so line.kind in_order.0.kind)
    ∙ ap (after_records (recorded line.moment line.kind (captured line.kind)))
    (all-records line.moment lines in_order.2)

-- one line more, where the first kept one was at a moment, and the last before this one at another
step : (first before : ℕ) (line : Line) (octets : Option (List ℕ)) (rest : List Record) (lines : List Stamped)
    → first ≤ before → before ≤ line.moment → line.moment < 2 ^ 50
    → lines_from first (before - first) rest ≡ taken_off first lines
    → lines_from first (line.moment - first) rest ≡ taken_off first lines
    → lines_from first (before - first) (recorded line.moment line.kind octets ++ rest) ≡ taken_off first
    (kept_as line octets ++ lines)
step first before line None rest lines after_first in_order early same_before same = same_before
step first before line (Some octets) rest lines after_first in_order early same_before same =
    let moment : moment_of first (before - first) line.moment ≡ line.moment - first = omega
    (arith, after_first, in_order, early) in
    ap (λ t. record { moment = t; kind = line.kind } ∷ lines_from first t rest) moment
    ∙ ap (λ ls. record { moment = line.moment - first; kind = line.kind } ∷ ls) same

shifted : (first before least : ℕ) (lines : List Line) → first ≤ before → before ≤ least → InOrder least lines
    → lines_from first (before - first) (records lines) ≡ taken_off first (kept lines)
shifted first before least [] after_first below in_order = refl
shifted first before least (line ∷ lines) after_first below in_order =
    step first before line (captured line.kind) (records lines) (kept lines) after_first
    (omega (arith, below, in_order.1)) in_order.0.moment
    (shifted first before line.moment lines after_first (omega (arith, below, in_order.1)) in_order.2)
    (shifted first line.moment line.moment lines (omega (arith, after_first, below, in_order.1))
    (omega arith) in_order.2)

-- the first kept line, or one before it
first-step : (line : Line) (octets : Option (List ℕ)) (rest : List Record) (lines : List Stamped) → line.moment < 2 ^ 50
    → lines_of rest ≡ from_first lines
    → lines_from line.moment (line.moment - line.moment) rest ≡ taken_off line.moment lines
    → lines_of (recorded line.moment line.kind octets ++ rest) ≡ from_first (kept_as line octets ++ lines)
first-step line None rest lines early before same = before
first-step line (Some octets) rest lines early before same =
    let moment : moment_of line.moment 0 line.moment ≡ line.moment - line.moment = omega (arith, early) in
    ap (λ t. record { moment = t; kind = line.kind } ∷ lines_from line.moment t rest) moment
    ∙ ap (λ ls. record { moment = line.moment - line.moment; kind = line.kind } ∷ ls) same

all-lines : (least : ℕ) (lines : List Line) → InOrder least lines → lines_of (records lines) ≡ from_first (kept lines)
all-lines least [] in_order = refl
all-lines least (line ∷ lines) in_order =
    first-step line (captured line.kind) (records lines) (kept lines) in_order.0.moment
    (all-lines line.moment lines in_order.2)
    (shifted line.moment line.moment line.moment lines (omega arith) (omega arith) in_order.2)

-- the header is read
pub capture-header : (octets : List ℕ) → capture_of (header ++ octets) ≡ records_of raw octets
capture-header octets =
    let there : nat_lt (length (header ++ octets)) 24 ≡ false = grind (arith, nat_tests, length-append) in
    rw there refl

pub exported : (lines : List Line) → InOrder 0 lines → capture_of
    (export_of lines) ≡ record { records = records lines; tail = clean }
exported lines in_order = capture-header (flat_map record_of lines) ∙ all-records 0 lines in_order

pub comes_back : (lines : List Line) → InOrder 0 lines → ComesBack lines
comes_back lines in_order = record {
  tail = ap (λ (capture : Capture). capture.tail) (exported lines in_order);
  again = ap (λ (capture : Capture). lines_of capture.records) (exported lines in_order) ∙ all-lines 0 lines in_order;
}
