-- Why a capture stops, by what is left behind the records that were read.
use Rattle.std.proofs.Common.{◌≡◌, ◌≢◌, ℕ, ◌+◌, ◌-◌, ◌<◌, ◌≤◌, ◌^◌, Bool, true, false, List, [], ◌++◌, length, take, drop, nat_le, None, refl, sym, ap, ◌∙◌, subst, arith, append_assoc, append-nil, length-append}
use Rattle.std.proofs.Math.Seq.{take-append-add, take-append_seam}
use Rattle.std.proofs.lemmas.Bool.Decides.{nat_tests}
use Rattle.std.proofs.lemmas.List.{take_all, take-take, take-append-le, take-append-drop, length-take}
use Rattle.pcap_form.specs.declared.head.CaptureHead.{CaptureHead}
use Rattle.pcap_form.specs.Head.{head_of}
use Rattle.pcap_form.specs.Record.{Record, FirstRecord, nothing, part, wrong, whole, captured_of, first_of, record_len, snapshot_max}
use Rattle.pcap_form.specs.Capture.{Capture, Tail, clean, cut, broken, bad, big, after_records, behind_head, capture_of, from_record, input_capture, looked_at, only, records_of, stop_at, stop_of}
use Rattle.pcap_form.proofs.FirstLemmas.{prefix_wrong}
use Rattle.pcap_form.proofs.CaptureLemmas.{capture_behind, capture_short, records_prefix}
use Rattle.pcap_form.specs.Reading.{Waits}
use Rattle.pcap_form.specs.Progress.{Begins, HasRead, Reached}
use Rattle.pcap_form.specs.declared.importing.Stopped.TheVariants as stopped

-- an input that is shorter than what is looked at
short_input : (octets : List ℕ) → length octets < 2 ^ 40 → input_capture octets ≡ capture_of octets
short_input octets short = ap capture_of (take_all (2 ^ 40) octets (omega (arith, short)))

short_stop : (octets : List ℕ) (capture : Capture) → length octets < 2 ^ 40 → capture_of octets ≡ capture
    → (stop_of octets ≡ stop_at false capture.tail) × ((input_capture octets).records ≡ capture.records)
short_stop octets capture short is =
    let all : input_capture octets ≡ capture = short_input octets short ∙ is in
    let below : nat_le (2 ^ 40) (length octets) ≡ false = grind (arith, nat_tests) in (
      ap (λ full. stop_at full (input_capture octets).tail) below ∙ ap (λ (c : Capture). stop_at false c.tail) all,
      ap (λ (c : Capture). c.records) all,
    )

long_stop : (octets : List ℕ) (capture : Capture) → 2 ^ 40 ≤ length octets → input_capture octets ≡ capture
    → (stop_of octets ≡ stop_at true capture.tail) × ((input_capture octets).records ≡ capture.records)
long_stop octets capture long all =
    let above : nat_le (2 ^ 40) (length octets) ≡ true = grind (arith, nat_tests) in (
      ap (λ full. stop_at full (input_capture octets).tail) above ∙ ap (λ (c : Capture). stop_at true c.tail) all,
      ap (λ (c : Capture). c.records) all,
    )

broken_stop : (full : Bool) → stop_at full broken ≡ bad
broken_stop true = refl
broken_stop false = refl

-- what is bad is so whether or not more octets are there
bad_stop : (octets : List ℕ) (capture : Capture) → input_capture octets ≡ capture → capture.tail ≡ broken
    → stop_of octets ≡ bad
bad_stop octets capture all is =
    ap (λ (c : Capture). stop_at (nat_le (2 ^ 40) (length octets)) c.tail) all
    ∙ ap (stop_at (nat_le (2 ^ 40) (length octets))) is
    ∙ broken_stop (nat_le (2 ^ 40) (length octets))

-- the octets that are looked at: those before the ones ahead, and as many of these as there is room for
looked : (head : CaptureHead) (room : ℕ) (done : List Record) (octets ahead : List ℕ)
    (read : HasRead octets ahead head room done)
    → looked_at octets ≡ read.gone ++ take room ahead
looked head room done octets ahead read =
    ap looked_at read.parts
    ∙ ap (λ n. take n (read.gone ++ ahead)) (sym read.taken)
    ∙ take-append-add read.gone ahead room

looked_capture : (head : CaptureHead) (room : ℕ) (done : List Record) (octets ahead : List ℕ)
    → HasRead octets ahead head room done
    → input_capture octets ≡ after_records done (records_of head (take room ahead))
looked_capture head room done octets ahead read =
    ap capture_of (looked head room done octets ahead read) ∙ read.says (take room ahead)

-- the records of an input begin with those that were read
pub begins : (head : CaptureHead) (room : ℕ) (done : List Record) (octets ahead : List ℕ)
    → HasRead octets ahead head room done → Begins octets done
begins head room done octets ahead read = (
  (records_of head (take room ahead)).records,
  ap (λ (c : Capture). c.records)
      (looked_capture head room done octets ahead read),
)

-- records with a tail behind them
only_behind : (done : List Record) (tail : Tail) → after_records done
    (only tail) ≡ record { records = done; tail = tail }
only_behind done tail = ap (λ records. record { records = records; tail = tail }) (append-nil done)

-- the octets that were gone through and those that are held
gone_held : (head : CaptureHead) (room : ℕ) (done : List Record) (octets held : List ℕ) (tail : Tail)
    (read : HasRead octets (held ++ []) head room done)
    → records_of head held ≡ only tail → capture_of octets ≡ record { records = done; tail = tail }
gone_held head room done octets held tail read is =
    ap capture_of (read.parts ∙ ap (λ h. read.gone ++ h) (append-nil held)) ∙ read.says held
    ∙ ap (after_records done) is ∙ only_behind done tail

length-gone : (head : CaptureHead) (room : ℕ) (done : List Record) (octets ahead : List ℕ)
    (read : HasRead octets ahead head room done)
    → length octets + room ≡ 2 ^ 40 + length ahead
length-gone head room done octets ahead read =
    omega (arith, ap length read.parts, length-append read.gone ahead, read.taken)

-- the source is at its end, behind a record
pub stops_ended : (head : CaptureHead) (room : ℕ) (done : List Record) (octets held rest : List ℕ) → held ≡ []
    → rest ≡ [] → 0 < room
    → HasRead octets (held ++ rest) head room done → Reached stopped.Ended octets rest done
stops_ended head room done octets held rest none_held none_left more read =
    let now : HasRead octets [] head room done = subst (λ ahead. HasRead octets ahead head room done)
    (ap (λ h. h ++ rest) none_held ∙ none_left) read in
    let short : length octets < 2 ^ 40 = omega (arith, length-gone head room done octets [] now, more) in
    let all = gone_held head room done octets [] clean now (records_prefix head [] nothing refl) in
    let stop = short_stop octets (record { records = done; tail = clean }) short all in
    (stop.0, none_left, stop.1)

-- or within one
pub stops_cut : (head : CaptureHead) (room : ℕ) (done : List Record) (octets held rest : List ℕ)
    → first_of head held ≡ part → rest ≡ [] → length held < room
    → HasRead octets (held ++ rest) head room done → Reached stopped.BadCapture octets rest done
stops_cut head room done octets held rest is none_left more read =
    let now : HasRead octets (held ++ []) head room done = subst
    (λ r. HasRead octets (held ++ r) head room done) none_left read in
    let short : length octets < 2 ^ 40 = omega (
      arith,
      length-gone head room done octets (held ++ []) now,
      length-append held [],
      more,
    ) in
    let all = gone_held head room done octets held cut now (records_prefix head held part is) in
    short_stop octets (record { records = done; tail = cut }) short all

-- a length is above the most
pub stops_broken : (head : CaptureHead) (room : ℕ) (done : List Record) (octets held rest : List ℕ)
    → record_len ≤ length held
    → snapshot_max < captured_of head held → length held ≤ room
    → HasRead octets (held ++ rest) head room done → Reached stopped.BadCapture octets rest done
stops_broken head room done octets held rest there over fits read =
    let seen : take room (held ++ rest) ≡ held ++ take (room - length held) rest =
    let size : room ≡ length held + (room - length held) = omega arith in
    ap (λ n. take n (held ++ rest)) size ∙ take-append-add held rest (room - length held)
    in
    let all : input_capture octets ≡ record { records = done; tail = broken } =
    looked_capture head room done octets (held ++ rest) read
    ∙ ap (λ o. after_records done (records_of head o)) seen
    ∙ ap (after_records done) (records_prefix head (held ++ take (room - length held) rest) wrong
    (prefix_wrong head held (take (room - length held) rest) there over))
    ∙ only_behind done broken
    in
    (bad_stop octets (record { records = done; tail = broken }) all refl, ap (λ (c : Capture). c.records) all)

-- what waits for more octets ends cleanly or is cut
waits_tail : (prefix : FirstRecord) (behind : List ℕ → Capture) → Waits prefix
    → (tail : Tail) × (from_record prefix behind ≡ only tail) × (stop_at true tail ≡ big) × (tail ≢ broken)
waits_tail nothing behind waits = (clean, refl, refl, λ is. cc)
waits_tail part behind waits = (cut, refl, refl, λ is. cc)
waits_tail wrong behind waits = absurd waits
waits_tail (whole one rest) behind waits = absurd waits

waits_records : (head : CaptureHead) (held : List ℕ) → Waits (first_of head held)
    → (tail : Tail) × (records_of head held ≡ only tail) × (stop_at true tail ≡ big) × (tail ≢ broken)
waits_records head held waits =
    let t = waits_tail (first_of head held) (records_of head) waits in
    (t.0, records_prefix head held (first_of head held) refl ∙ t.1, t.2, t.3)

-- all is taken that is looked at
pub stops_full : (head : CaptureHead) (room : ℕ) (done : List Record) (octets held rest : List ℕ)
    → Waits (first_of head held) → length held ≡ room
    → HasRead octets (held ++ rest) head room done → Reached stopped.TooLong octets rest done
stops_full head room done octets held rest waits full read =
    let t = waits_records head held waits in
    let seen : take room (held ++ rest) ≡ held = ap (λ n. take n (held ++ rest)) (sym full)
    ∙ take-append_seam held rest in
    let all : input_capture octets ≡ record { records = done; tail = t.0 } =
    looked_capture head room done octets (held ++ rest) read ∙ ap (λ o. after_records done (records_of head o)) seen
    ∙ ap (after_records done) t.1 ∙ only_behind done t.0
    in
    let long : 2 ^ 40 ≤ length octets = omega (
      arith,
      length-gone head room done octets (held ++ rest) read,
      length-append held rest,
      full,
    ) in
    let stop = long_stop octets (record { records = done; tail = t.0 }) long all in
    (stop.0 ∙ t.2, stop.1)

-- the source failed
pub stops_fault : (head : CaptureHead) (room : ℕ) (done : List Record) (octets held rest : List ℕ)
    → Waits (first_of head held) → length held < room
    → HasRead octets (held ++ rest) head room done → Reached stopped.ReadFault octets rest done
stops_fault head room done octets held rest waits more read =
    let t = waits_records head held waits in
    let taken = read.gone ++ held in
    let all : capture_of taken ≡ record { records = done; tail = t.0 } = read.says held ∙ ap (after_records done) t.1
    ∙ only_behind done t.0 in
    record {
      taken = taken;
      parts = read.parts ∙ sym (append_assoc read.gone held rest);
      within = omega (arith, length-append read.gone held, read.taken, more);
      sound = λ is. t.3 (sym (ap (λ (c : Capture). c.tail) all) ∙ is);
      records = ap (λ (c : Capture). c.records) all;
      begins = begins head room done octets (held ++ rest) read;
    }

-- Before the header is whole.
pub stops_headless : (octets held rest : List ℕ) → length held < 24 → rest ≡ [] → octets ≡ held ++ rest
    → Reached stopped.BadCapture octets rest []
stops_headless octets held rest short none_left parts =
    let same : octets ≡ held = parts ∙ ap (λ r. held ++ r) none_left ∙ append-nil held in
    short_stop octets (only cut) (omega (arith, ap length same, short)) (ap capture_of same ∙ capture_short held short)

pub fails_headless : (octets held rest : List ℕ) → length held < 24 → octets ≡ held ++ rest
    → Reached stopped.ReadFault octets rest []
fails_headless octets held rest short parts =
    let all : capture_of held ≡ only cut = capture_short held short in
    record {
      taken = held;
      parts = parts;
      within = omega (arith, short);
      sound = λ is. let clash : cut ≡ broken = sym (ap (λ (c : Capture). c.tail) all) ∙ is in cc;
      records = ap (λ (c : Capture). c.records) all;
      begins = ((input_capture octets).records, refl);
    }

-- a header that is none
pub stops_unknown : (octets held rest : List ℕ) → 24 ≤ length held → head_of (take 24 held) ≡ None
    → octets ≡ held ++ rest
    → Reached stopped.BadCapture octets rest []
stops_unknown octets held rest there none parts =
    let seen = looked_at octets in
    let prefix : take 24 seen ≡ take 24 held =
    take-take 24 (2 ^ 40) octets (omega arith) ∙ ap (take 24) parts ∙ take-append-le 24 held rest there
    in
    let long : length (take 24 held) ≡ 24 = omega (arith, length-take 24 held, there) in
    let whole_again : seen ≡ take 24 held ++ drop 24 seen = sym (take-append-drop 24 seen)
    ∙ ap (λ f. f ++ drop 24 seen) prefix in
    let all : input_capture octets ≡ only broken =
    ap capture_of whole_again ∙ capture_behind (take 24 held) (drop 24 seen) long
    ∙ ap (λ h. behind_head h (drop 24 seen)) none
    in
    (bad_stop octets (only broken) all refl, ap (λ (c : Capture). c.records) all)
