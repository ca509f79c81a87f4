-- The records of octets, one after another.
use Rattle.std.proofs.Common.{◌≡◌, ℕ, suc, zero, ◌<◌, true, false, List, [], ◌∷◌, ◌++◌, length, take, drop, nat_lt, refl, sym, ap, ◌∙◌, arith, append_assoc, length-append}
use Rattle.std.proofs.Math.Seq.{take-append_seam, drop-append_seam}
use Rattle.std.proofs.lemmas.Bool.Decides.{nat_tests}
use Rattle.pcap_form.specs.Head.{head_len, head_of}
use Rattle.pcap_form.specs.declared.head.CaptureHead.{CaptureHead}
use Rattle.pcap_form.specs.Record.{Record, FirstRecord, nothing, part, wrong, whole, first_of}
use Rattle.pcap_form.specs.Capture.{Capture, cut, only, after_records, behind_head, capture_of, from_record, records_below, records_of}
use Rattle.pcap_form.proofs.FirstLemmas.{rest_shorter}

-- what stands in front decides, and what is made of what is behind it
from_record-same : (prefix : FirstRecord) (f g : List ℕ → Capture) → ((one : Record) (rest : List ℕ) → prefix ≡ whole one rest
    → f rest ≡ g rest)
    → from_record prefix f ≡ from_record prefix g
from_record-same nothing f g same = refl
from_record-same part f g same = refl
from_record-same wrong f g same = refl
from_record-same (whole one rest) f g same = ap (after_records (one ∷ [])) (same one rest refl)

-- any number above that of the octets serves
enough : (n m : ℕ) (head : CaptureHead) (octets : List ℕ) → length octets < n → length octets < m
    → records_below n head octets ≡ records_below m head octets
enough zero m head octets below other = absurd (omega arith)
enough (suc n) zero head octets below other = absurd (omega arith)
enough (suc n) (suc m) head octets below other =
    from_record-same (first_of head octets) (records_below n head) (records_below m head)
    (λ one rest is. enough n m head rest (omega (arith, rest_shorter head octets one rest is))
    (omega (arith, rest_shorter head octets one rest is)))

-- the first record, and then those behind it
pub records-step : (head : CaptureHead) (octets : List ℕ) → records_of head octets ≡ from_record (first_of head octets)
    (records_of head)
unfolding records_of
records-step head octets =
    from_record-same (first_of head octets) (records_below (length octets) head)
    (λ rest. records_below (suc (length rest)) head rest)
    (λ one rest is. enough (length octets) (suc (length rest)) head rest
    (omega (arith, rest_shorter head octets one rest is)) (omega arith))

-- the same where it is known what stands in front
pub records_prefix : (head : CaptureHead) (octets : List ℕ) (prefix : FirstRecord) → first_of head octets ≡ prefix
    → records_of head octets ≡ from_record prefix (records_of head)
records_prefix head octets prefix is = records-step head octets ∙ ap (λ f. from_record f (records_of head)) is

-- records behind records
pub after_records-push : (done : List Record) (one : Record) (capture : Capture)
    → after_records done (after_records (one ∷ []) capture) ≡ after_records (done ++ one ∷ []) capture
after_records-push done one capture =
    ap (λ records. record { records = records; tail = capture.tail })
    (sym (append_assoc done (one ∷ []) capture.records))

-- fewer octets than a header has
pub capture_short : (octets : List ℕ) → length octets < head_len → capture_of octets ≡ only cut
capture_short octets short =
    let is_short : nat_lt (length octets) head_len ≡ true = grind (arith, nat_tests) in rw is_short refl

-- a header, and what is behind it
pub capture_behind : (prefix behind : List ℕ) → length prefix ≡ head_len
    → capture_of (prefix ++ behind) ≡ behind_head (head_of prefix) behind
capture_behind prefix behind long =
    let longer = length-append prefix behind in
    let there : nat_lt (length (prefix ++ behind)) head_len ≡ false = grind (arith, nat_tests) in
    let taken : take head_len (prefix ++ behind) ≡ prefix = ap (λ n. take n (prefix ++ behind)) (sym long)
    ∙ take-append_seam prefix behind in
    let dropped : drop head_len (prefix ++ behind) ≡ behind = ap (λ n. drop n (prefix ++ behind)) (sym long)
    ∙ drop-append_seam prefix behind in
    rw there (ap (λ h. behind_head (head_of h) (drop head_len (prefix ++ behind))) taken
    ∙ ap (behind_head (head_of prefix)) dropped)
