-- A head and the octets behind it are an entry's text.
use Rattle.std.proofs.Common.{◌≡◌, ℕ, ◌/◌, ◌%◌, get_or, List, [], ◌∷◌, ◌++◌, refl, sym, ap, ◌∙◌, append_assoc, append-nil, Result, Ok, Err}
use Rattle.std.specs.Prelude.{decimal, OnOk}
use Rattle.std.specs.declared.alloc.AllocError.{AllocError}
use Rattle.charging_book.specs.Rows.{Counters}
use Rattle.hex.specs.Hex.{encode_lower, encode_with, lower_digits}
use Rattle.gtpu_codec.specs.Text.{spelling}
use Rattle.gtpu_codec.specs.declared.message.GtpU.TheVariants.{Gpdu}
use Rattle.packet_steps.specs.Messages.{gpdu}
use Rattle.pc_base.specs.declared.packet.Peer.{Peer}
use Rattle.text_fields.specs.Fields.{joined, behind}
use Rattle.report_lines.proofs.WritingLemmas.{joined-behind, behind-append}

pub encode-append : (xs ys : List ℕ) → encode_lower (xs ++ ys) ≡ encode_lower xs ++ encode_lower ys
unfolding encode_with
encode-append [] ys = refl
encode-append (x ∷ xs) ys =
    ap (λ rest. get_or lower_digits (x / 16) 0 ∷ get_or lower_digits (x % 16) 0 ∷ rest) (encode-append xs ys)

-- a packet in its tunnel, written from its two parts
pub tunnelled : (peer : Peer) (octets head : List ℕ) → spelling (Gpdu peer.teid octets) ≡ head ++ octets
    → gpdu peer octets ≡ head ++ octets
unfolding gpdu
tunnelled peer octets head is = is

-- fields in front of something, as a head has them
abbrev pub led : List (List ℕ) → List ℕ → List ℕ
led [] rest = rest
led (field ∷ fields) rest = 32 ∷ (field ++ led fields rest)

led-behind : (fields : List (List ℕ)) (rest : List ℕ) → led fields rest ≡ behind fields ++ rest
led-behind [] rest = refl
led-behind (field ∷ fields) rest =
    ap (λ text. 32 ∷ (field ++ text)) (led-behind fields rest)
    ∙ ap (λ text. 32 ∷ text) (sym (append_assoc field (behind fields) rest))

-- the fields, and a last one whose first part is in the head
pub headed : (answer : Result (Unit {0}) AllocError) (word : ℕ) (fields : List (List ℕ))
    (out head first second last new : List ℕ)
    → head ≡ word ∷ led fields (32 ∷ first) → last ≡ first ++ second
    → OnOk answer (new ≡ (out ++ head) ++ second)
    → OnOk answer (new ≡ out ++ joined ((word ∷ []) ∷ (fields ++ last ∷ [])))
headed (Ok done) word fields out head first second last new is whole appended =
    appended ∙ append_assoc out head second
    ∙ ap (λ text. out ++ (text ++ second)) (is ∙ ap (λ text. word ∷ text) (led-behind fields (32 ∷ first)))
    ∙ ap (λ text. out ++ (word ∷ text)) (append_assoc (behind fields) (32 ∷ first) second
    ∙ ap (λ text. behind fields ++ 32 ∷ text) (sym whole ∙ sym (append-nil last))
    ∙ sym (behind-append fields (last ∷ [])))
    ∙ ap (λ text. out ++ text) (sym (joined-behind (word ∷ []) (fields ++ last ∷ [])))
headed (Err why) word fields out head first second last new is whole appended = tt

-- the fields, and more whose text is the end of the head and what stands behind it
pub told_behind : (answer : Result (Unit {0}) AllocError) (word : ℕ) (fields more : List (List ℕ))
    (out head first second new : List ℕ)
    → head ≡ word ∷ led fields first → first ++ second ≡ behind more → OnOk answer (new ≡ (out ++ head) ++ second)
    → OnOk answer (new ≡ out ++ joined ((word ∷ []) ∷ (fields ++ more)))
told_behind (Ok done) word fields more out head first second new is whole appended =
    appended ∙ append_assoc out head second
    ∙ ap (λ text. out ++ (text ++ second)) (is ∙ ap (λ text. word ∷ text) (led-behind fields first))
    ∙ ap (λ text. out ++ (word ∷ text)) (append_assoc (behind fields) first second
    ∙ ap (λ text. behind fields ++ text) whole ∙ sym (behind-append fields more))
    ∙ ap (λ text. out ++ text) (sym (joined-behind (word ∷ []) (fields ++ more)))
told_behind (Err why) word fields more out head first second new is whole appended = tt

-- fields in a head, and a last one whose first part is in it · all of them in a head
pub last_behind : (fields : List (List ℕ)) (head first second last : List ℕ) → head ≡ led fields (32 ∷ first)
    → last ≡ first ++ second → head ++ second ≡ behind (fields ++ last ∷ [])
last_behind fields head first second last is whole =
    ap (λ text. text ++ second) (is ∙ led-behind fields (32 ∷ first))
    ∙ append_assoc (behind fields) (32 ∷ first) second
    ∙ ap (λ text. behind fields ++ 32 ∷ text) (sym whole ∙ sym (append-nil last))
    ∙ sym (behind-append fields (last ∷ []))

pub all_behind : (fields : List (List ℕ)) (head : List ℕ) → head ≡ led fields [] → head ++ [] ≡ behind fields
all_behind fields head is =
    append-nil head ∙ is ∙ led-behind fields [] ∙ append-nil (behind fields)

-- the fields alone
pub all_in_head : (answer : Result (Unit {0}) AllocError) (word : ℕ) (fields : List (List ℕ))
    (out head new : List ℕ)
    → head ≡ word ∷ led fields [] → OnOk answer (new ≡ out ++ head)
    → OnOk answer (new ≡ out ++ joined ((word ∷ []) ∷ fields))
all_in_head (Ok done) word fields out head new is appended =
    appended
    ∙ ap (λ text. out ++ text) (is ∙ ap (λ text. word ∷ text) (led-behind fields [] ∙ append-nil (behind fields))
    ∙ sym (joined-behind (word ∷ []) fields))
all_in_head (Err why) word fields out head new is appended = tt

-- the fields in two heads
pub two_heads : (answer : Result (Unit {0}) AllocError) (word : ℕ) (fields more : List (List ℕ))
    (out first second new : List ℕ)
    → first ≡ word ∷ led fields [] → second ≡ led more [] → OnOk answer (new ≡ (out ++ first) ++ second)
    → OnOk answer (new ≡ out ++ joined ((word ∷ []) ∷ (fields ++ more)))
two_heads (Ok done) word fields more out first second new is also appended =
    appended ∙ append_assoc out first second
    ∙ ap (λ text. out ++ (text ++ second))
    (is ∙ ap (λ text. word ∷ text) (led-behind fields [] ∙ append-nil (behind fields)))
    ∙ ap (λ text. out ++ (word ∷ (behind fields ++ text))) (also ∙ led-behind more [] ∙ append-nil (behind more))
    ∙ ap (λ text. out ++ (word ∷ text)) (sym (behind-append fields more))
    ∙ ap (λ text. out ++ text) (sym (joined-behind (word ∷ []) (fields ++ more)))
two_heads (Err why) word fields more out first second new is also appended = tt

-- the fields of a charging record, or of open counters, in either head
abbrev pub piece_fields : ℕ → Counters → List (List ℕ)
piece_fields slot counters =
    decimal slot ∷ decimal counters.life ∷ decimal counters.ebi ∷ decimal counters.qci ∷ decimal counters.seq ∷ []

abbrev pub count_fields : Counters → List (List ℕ) → List (List ℕ)
count_fields counters behind =
    decimal counters.up_octets ∷ decimal counters.down_octets ∷ decimal counters.up_packets
    ∷ decimal counters.down_packets ∷ behind
