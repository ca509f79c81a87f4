-- A packet, by the test of it, and its verdict by its way.
use Rattle.std.proofs.Common.{◌≡◌, ℕ, ◌≤◌, ◌==◌, ◌&&◌, ◌||◌, Bool, true, false, not, nat_lt, List, length, Option, None, Some, is_none, cond, refl, sym, ◌∙◌, ap, subst, eq-eqb, arith}
use Rattle.std.specs.Prelude.{IsSomeAnd}
use Rattle.std.proofs.lemmas.Bool.{eqb-true}
use Rattle.std.proofs.lemmas.Bool.Decides.{nat_tests}
use Rattle.pc_base.specs.declared.packet.Packet.{Packet}
use Rattle.pc_base.specs.declared.packet.Way.TheVariants.{Up, Down}
use Rattle.pc_base.specs.declared.packet.Verdict.{Verdict}
use Rattle.pc_base.specs.declared.packet.Verdict.TheVariants as verdict
use Rattle.ipv4_packet.specs.Fields.{version_of, header_words, header_len, total_length}
use Rattle.ipv4_packet.specs.Packet.{IsPacket}
use Rattle.ipv4_packet.specs.Refusal.{breaks_header, breaks_total}
use Rattle.bearer_state.specs.Version.{VersionState, bearer_at}
use Rattle.packet_steps.specs.Past.{Past}
use Rattle.packet_steps.specs.Verdicts.{at_moment, is_packet, judged, judged_now, judged_by_way, judged_up, judged_down, bearer_for}

not_below : (a b : ℕ) → b ≤ a → nat_lt a b ≡ false
not_below a b least = grind (arith, nat_tests)

neither : (a b : Bool) → a ≡ false → b ≡ false → (a || b) ≡ false
neither a b first second = ap (λ t. t || b) first ∙ second

-- a chain of tests that all fail
all_fail : {X : Type 0} (a b c d : Bool) (w x y z : X) → a ≡ false → b ≡ false → c ≡ false → d ≡ false
    → is_none (cond a (Some w) (cond b (Some x) (cond c (Some y) (cond d (Some z) None)))) ≡ true
all_fail a b c d w x y z first second third fourth =
    ap (λ t. is_none (cond t (Some w) (cond b (Some x) (cond c (Some y) (cond d (Some z) None))))) first
    ∙ ap (λ t. is_none (cond t (Some x) (cond c (Some y) (cond d (Some z) None)))) second
    ∙ ap (λ t. is_none (cond t (Some y) (cond d (Some z) None))) third
    ∙ ap (λ t. is_none (cond t (Some z) None)) fourth

-- what is a packet passes the test
pub packet_passes : (octets : List ℕ) → IsPacket octets → is_packet octets ≡ true
packet_passes octets whole =
    let least : 20 ≤ length octets = omega (arith, whole.words, whole.header, whole.total) in
    let header : header_len octets ≤ length octets = omega (arith, whole.header, whole.total) in
    let total : total_length octets ≤ length octets = omega (arith, whole.total) in
    ap (λ t. t && (total_length octets == length octets))
    (all_fail (nat_lt (length octets) 20) (not (version_of octets == 4)) (breaks_header octets)
    (breaks_total octets) _ _ _ _
    (not_below (length octets) 20 least) (ap not (eq-eqb (version_of octets) 4 whole.version))
    (neither (nat_lt (header_words octets) 5) (nat_lt (length octets) (header_len octets))
    (not_below (header_words octets) 5 whole.words) (not_below (length octets) (header_len octets) header))
    (neither (nat_lt (total_length octets) (header_len octets)) (nat_lt (length octets) (total_length octets))
    (not_below (total_length octets) (header_len octets) whole.header)
    (not_below (length octets) (total_length octets) total)))
    ∙ eq-eqb (total_length octets) (length octets) whole.total

-- what passes the test is a packet
passed_header : (a b c d : Bool) {X : Type 0} (w x y z : X)
    → is_none (cond a (Some w) (cond b (Some x) (cond c (Some y) (cond d (Some z) None)))) ≡ true
    → (b ≡ false) × (c ≡ false) × (d ≡ false)
passed_header true b c d w x y z none = absurd cc
passed_header false true c d w x y z none = absurd cc
passed_header false false true d w x y z none = absurd cc
passed_header false false false true w x y z none = absurd cc
passed_header false false false false w x y z none = (refl, refl, refl)

both_pass : (a b : Bool) → (a && b) ≡ true → (a ≡ true) × (b ≡ true)
both_pass true true pass = (refl, refl)
both_pass true false pass = absurd cc
both_pass false b pass = absurd cc

first_fails : (a b : Bool) → (a || b) ≡ false → a ≡ false
first_fails true b fails = absurd cc
first_fails false b fails = refl

not_fails : (a : Bool) → not a ≡ false → a ≡ true
not_fails true fails = refl
not_fails false fails = absurd cc

least_of : (a b : ℕ) → nat_lt a b ≡ false → b ≤ a
least_of a b fails = grind (arith, nat_tests)

passes_is : (octets : List ℕ) → is_packet octets ≡ true → IsPacket octets
passes_is octets passes =
    let parts = both_pass _ _ passes in
    let header = passed_header (nat_lt (length octets) 20) (not (version_of octets == 4)) (breaks_header octets)
    (breaks_total octets) _ _ _ _ parts.0 in
    record {
      version = eqb-true (version_of octets) 4 (not_fails (version_of octets == 4) header.0);
      words = least_of (header_words octets) 5
          (first_fails (nat_lt (header_words octets) 5) (nat_lt (length octets) (header_len octets)) header.1);
      header = least_of (total_length octets) (header_len octets)
          (first_fails (nat_lt (total_length octets) (header_len octets))
          (nat_lt (length octets) (total_length octets)) header.2);
      total = eqb-true (total_length octets) (length octets) parts.1;
    }

fails_unless : (test : Bool) → (test ≡ true → ⊥) → test ≡ false
fails_unless true never = absurd (never refl)
fails_unless false never = refl

-- octets in which no packet was found, where each packet is found, don't pass the test
pub not_whole : (octets : List ℕ) (found : Option (List ℕ)) → found ≡ None
    → (IsPacket octets → IsSomeAnd found (λ ip. ip ≡ octets)) → is_packet octets ≡ false
not_whole octets found none finds =
    fails_unless (is_packet octets)
    (λ passes. subst (λ (o : Option (List ℕ)). IsSomeAnd o (λ ip. ip ≡ octets)) none (finds (passes_is octets passes)))

and_false : (a : Bool) → (a && false) ≡ false
and_false true = refl
and_false false = refl

-- octets that are no packet take no bearer
pub not_judged : (past : Past) (packet : Packet) → is_packet packet.octets ≡ false
    → judged past packet ≡ (at_moment past packet.moment, verdict.NoBearer)
not_judged past packet fails =
    let here = at_moment past packet.moment in
    let judged_by : Bool → Past × Verdict = λ t. cond t (judged_by_way here packet packet.way) (here, verdict.NoBearer) in
    ap judged_by (ap (λ t. past.version.live && t) fails ∙ and_false past.version.live)

-- while attached, a packet is judged by its way
by_way : (past : Past) (packet : Packet) → past.version.live ≡ true → is_packet packet.octets ≡ true
    → judged_now past packet ≡ judged_by_way past packet packet.way
by_way past packet live whole =
    let judged : Bool → Past × Verdict = λ t. cond t (judged_by_way past packet packet.way) (past, verdict.NoBearer) in
    ap judged (ap (λ t. t && is_packet packet.octets) live ∙ whole)

pub judged_going_up : (past : Past) (packet : Packet) (version : VersionState) (index : ℕ) (octets : List ℕ)
    → past.version ≡ version → version.live ≡ true
    → IsPacket octets → packet.octets ≡ octets → packet.way ≡ Up index
    → judged_up past octets (bearer_at version.bearers index) ≡ judged_now past packet
judged_going_up past packet version index octets same live whole is way =
    sym (by_way past packet (ap (λ (v : VersionState). v.live) same ∙ live)
    (ap is_packet is ∙ packet_passes octets whole)
    ∙ ap (judged_by_way past packet) way
    ∙ ap (λ o. judged_up past o (bearer_at past.version.bearers index)) is
    ∙ ap (λ (v : VersionState). judged_up past octets (bearer_at v.bearers index)) same)

pub judged_going_down : (past : Past) (packet : Packet) (version : VersionState) (octets : List ℕ)
    → past.version ≡ version → version.live ≡ true
    → IsPacket octets → packet.octets ≡ octets → packet.way ≡ Down
    → judged_down past packet (bearer_for version octets) ≡ judged_now past packet
judged_going_down past packet version octets same live whole is way =
    sym (by_way past packet (ap (λ (v : VersionState). v.live) same ∙ live)
    (ap is_packet is ∙ packet_passes octets whole)
    ∙ ap (judged_by_way past packet) way
    ∙ ap (λ o. judged_down past packet (bearer_for past.version o)) is
    ∙ ap (λ (v : VersionState). judged_down past packet (bearer_for v octets)) same)
