-- One record more, behind those that were read.
use Rattle.std.proofs.Common.{◌≡◌, ℕ, ◌+◌, ◌-◌, ◌≤◌, ◌^◌, List, [], ◌∷◌, ◌++◌, length, take, drop, slice_range, Some, sym, ap, ◌∙◌, arith, append_assoc, length-append}
use Rattle.std.proofs.lemmas.List.{take-append-drop, length-take, drop_all}
use Rattle.pcap_form.specs.declared.head.CaptureHead.{CaptureHead}
use Rattle.pcap_form.specs.declared.record.RecordHead.{RecordHead}
use Rattle.pcap_form.specs.Head.{head_of}
use Rattle.pcap_form.specs.Record.{Record, whole, captured_in, captured_of, record_in, record_len, snapshot_max}
use Rattle.pcap_form.specs.Capture.{after_records, behind_head, capture_of, records_of}
use Rattle.pcap_form.proofs.FirstLemmas.{captured-behind, prefix_whole, record-behind}
use Rattle.pcap_form.proofs.CaptureLemmas.{after_records-push, capture_behind, records_prefix}
use Rattle.pcap_form.specs.Reading.{IsThere}
use Rattle.pcap_form.specs.Progress.{HasRead}

-- a record that is held whole is the first of what it begins
first_record : (head : CaptureHead) (prefix behind : List ℕ) → length prefix ≡ record_len + captured_of head prefix
    → captured_of head prefix ≤ snapshot_max
    → records_of head (prefix ++ behind) ≡ after_records (record_in head prefix ∷ []) (records_of head behind)
first_record head prefix behind all fits =
    let none : drop (record_len + captured_of head prefix) prefix ≡ [] = drop_all
    (record_len + captured_of head prefix) prefix (omega (arith, all)) in
    records_prefix head (prefix ++ behind) (whole (record_in head prefix) behind)
    (prefix_whole head prefix behind (omega (arith, all)) fits
    ∙ ap (λ rest. whole (record_in head prefix) (rest ++ behind)) none)

-- the octets of a record that is held, and what they tell
one_record : (head : CaptureHead) (one : RecordHead) (held behind : List ℕ) → IsThere one head held
    → records_of head (take (record_len + one.captured) held ++ behind) ≡ after_records (record_in head held ∷ [])
    (records_of head behind)
one_record head one held behind there =
    let n = record_len + one.captured in
    let prefix = take n held in
    let whole_again : prefix ++ drop n held ≡ held = take-append-drop n held in
    let long : length prefix ≡ n = omega (arith, length-take n held, there.all) in
    let captured : captured_of head held ≡ captured_of head prefix =
    ap (captured_of head) (sym whole_again) ∙ captured-behind head prefix (drop n held) (omega (arith, long))
    in
    let all : length prefix ≡ record_len + captured_of head prefix = omega (arith, long, captured, there.captured) in
    let same : record_in head held ≡ record_in head prefix =
    ap (record_in head) (sym whole_again) ∙ record-behind head prefix (drop n held) (omega (arith, all))
    in
    first_record head prefix behind all (omega (arith, captured, there.captured, there.fits))
    ∙ ap (λ r. after_records (r ∷ []) (records_of head behind)) (sym same)

-- a record is gone through too
pub read_more : (head : CaptureHead) (room after : ℕ) (done : List Record) (one : RecordHead)
    (held octets rest : List ℕ)
    → IsThere one head held → after + (record_len + one.captured) ≡ room
    → HasRead octets (held ++ rest) head room done
    → HasRead octets (drop (record_len + one.captured) held ++ rest) head after (done ++ record_in head held ∷ [])
read_more head room after done one held octets rest there given read =
    let n = record_len + one.captured in
    let prefix = take n held in
    let whole_again : prefix ++ drop n held ≡ held = take-append-drop n held in
    record {
      gone = read.gone ++ prefix;
      parts = read.parts ∙ ap (λ h. read.gone ++ (h ++ rest)) (sym whole_again)
          ∙ ap (λ h. read.gone ++ h) (append_assoc prefix (drop n held) rest)
          ∙ sym (append_assoc read.gone prefix (drop n held ++ rest));
      taken = omega (arith, read.taken, given, length-append read.gone prefix, length-take n held, there.all);
      says = λ behind. ap capture_of (append_assoc read.gone prefix behind) ∙ read.says (prefix ++ behind)
          ∙ ap (after_records done) (one_record head one held behind there)
          ∙ after_records-push done (record_in head held) (records_of head behind);
    }

-- the captured octets, as the code takes them
pub captured_part : (head : CaptureHead) (one : RecordHead) (held : List ℕ) → IsThere one head held
    → slice_range held record_len (record_len + one.captured) ≡ captured_in head held
captured_part head one held there =
    let size : record_len + one.captured - record_len ≡ captured_of head held = omega (arith, there.captured) in
    ap (λ n. take n (drop record_len held)) size

-- the header is gone through
pub read_header : (head : CaptureHead) (after : ℕ) (held octets rest : List ℕ) → 24 ≤ length held
    → head_of (take 24 held) ≡ Some head
    → after + 24 ≡ 2 ^ 40 → octets ≡ held ++ rest → HasRead octets (drop 24 held ++ rest) head after []
read_header head after held octets rest there is given parts =
    let prefix = take 24 held in
    let long : length prefix ≡ 24 = omega (arith, length-take 24 held, there) in
    record {
      gone = prefix;
      parts = parts ∙ ap (λ h. h ++ rest) (sym (take-append-drop 24 held)) ∙ append_assoc prefix (drop 24 held) rest;
      taken = omega (arith, long, given);
      says = λ behind. capture_behind prefix behind long ∙ ap (λ h. behind_head h behind) is;
    }
