-- The message that octets spell is a function of them.
use Rattle.std.proofs.Common.{◌≡◌, ℕ, Bool, true, false, cond, ◌&&◌, ◌||◌, not, nat_lt, List, [], ◌∷◌, length, drop, Option, Some, None, is_none, is_some, option_map, unwrap_or, length-take-le, Result, Ok, Err, IfOk, IfErr, MatchResult, refl, sym, ◌∙◌, ap, subst, arith, nat_eq, ◌≤◌}
use Rattle.std.specs.Prelude.{slice_index, find}
use Rattle.std.proofs.lemmas.Bool.{ltb-false, eqb-true}
use Rattle.gtpu_codec.specs.declared.head.GtpUHead.{GtpUHead}
use Rattle.gtpu_codec.specs.declared.kind.GtpUKind.{GtpUKind}
use Rattle.gtpu_codec.specs.declared.fault.UBad.{UBad}
use Rattle.gtpu_codec.specs.declared.fault.UBad.TheVariants as bad
use Rattle.gtpu_codec.specs.Kind.{kind_of, kinds, type_octet}
use Rattle.gtpu_codec.specs.Head.{flags_in, type_in, length_in, teid_in, counted_in, has_version, is_gtp, has_extensions, has_seq, has_options}
use Rattle.gtpu_codec.specs.Extension.{body_behind}
use Rattle.gtpu_codec.specs.Spelling.{Spells, SpellsBody, SpellsCounted, seq_in}
use Rattle.gtpu_codec.specs.Message.{carried, head_with, message_with, message_of}
use Rattle.gtpu_codec.specs.Refusal.{breaks_chain, ends_early, first_fault}
use Rattle.gtpu_codec.proofs.ExtensionLemmas.{chain_is_found, found_is_chain}
use Rattle.gtpu_codec.proofs.SpellingLemmas.{kind_is_found, extensions_are_options, no_fault}

-- ---- what is spelled is the message

-- flag S is one of the flags that ask for four octets
seqs_are_options : (flags : ℕ) → has_options flags ≡ false → has_seq flags ≡ false
seqs_are_options flags none = grind arith

seq_spelled : (flags : ℕ) (options : Bool) (counted : List ℕ) (seq : Option ℕ) (body : List ℕ)
    → has_options flags ≡ options → SpellsCounted flags options counted seq body → seq_in flags counted ≡ seq
seq_spelled flags false counted seq body none spelled = rw (seqs_are_options flags none) (sym spelled.0)
seq_spelled flags true counted seq body some spelled = sym spelled.1

body_found : (extensions : Bool) (next : ℕ) (octets body : List ℕ) → SpellsBody extensions next octets body
    → cond extensions (unwrap_or (body_behind 0 (next ∷ octets)) []) octets ≡ body
body_found true next octets body chain = ap (λ found. unwrap_or found []) (chain_is_found next octets body chain)
body_found false next octets body same = sym same

carried_spelled : (flags : ℕ) (options : Bool) (counted : List ℕ) (seq : Option ℕ) (body : List ℕ)
    → has_options flags ≡ options → SpellsCounted flags options counted seq body → carried flags counted ≡ body
carried_spelled flags false counted seq body none spelled = rw (extensions_are_options flags none, none) (sym spelled.1)
carried_spelled flags true counted seq body some spelled =
    rw some (body_found (has_extensions flags) (slice_index counted 3) (drop 4 counted) body spelled.2)

pub message_is : (octets : List ℕ) (head : GtpUHead) (body : List ℕ) → Spells octets head body
    → message_of octets ≡ Some (head, body)
message_is octets head body spelled =
    let flags : ℕ = flags_in octets in
    let counted : List ℕ = counted_in octets in
    let fault : first_fault octets ≡ None = no_fault octets head body spelled in
    let kind : kind_of (type_in octets) ≡ Some head.kind = ap kind_of spelled.3 ∙ kind_is_found head.kind in
    let teid : teid_in octets ≡ head.teid = sym spelled.4 in
    let seq : seq_in flags counted ≡ head.seq
    = seq_spelled flags (has_options flags) counted head.seq body refl spelled.6 in
    let same : carried flags counted ≡ body
    = carried_spelled flags (has_options flags) counted head.seq body refl spelled.6 in
    rw (fault, kind) (λ i. Some (record { kind = head.kind; teid = teid i; seq = seq i }, same i))

-- ---- the message is spelled

-- a chain of tests that found no fault
passed : (b : Bool) (fault : UBad) (later : Option UBad) → cond b (Some fault) later ≡ None
    → (b ≡ false) × (later ≡ None)
passed true fault later e = absurd cc
passed false fault later e = (refl, e)

not_false : (b : Bool) → not b ≡ false → b ≡ true
not_false true e = refl
not_false false e = absurd cc

neither : (a b : Bool) → (a || b) ≡ false → (a ≡ false) × (b ≡ false)
neither true b e = absurd cc
neither false b e = (refl, e)

some_found : {X : Type 0} (found : Option X) → is_none found ≡ false → (x : X) × (found ≡ Some x)
some_found (Some x) some = (x, refl)
some_found None some = absurd cc

some_body : (found : Option (List ℕ)) → is_none found ≡ false → found ≡ Some (unwrap_or found [])
some_body (Some body) some = refl
some_body None some = absurd cc

-- the tests of octets without a fault
record ArePassed (octets : List ℕ) : Type 0 where
  whole : 8 ≤ length octets
  version : has_version (flags_in octets) ≡ true
  gtp : is_gtp (flags_in octets) ≡ true
  there : length_in octets ≤ length (drop 8 octets)
  options : (has_options (flags_in octets) && nat_lt (length_in octets) 4) ≡ false
  chain : breaks_chain (flags_in octets) (counted_in octets) ≡ false
  known : is_none (kind_of (type_in octets)) ≡ false

are_passed : (octets : List ℕ) → first_fault octets ≡ None → ArePassed octets
are_passed octets none =
    let flags : ℕ = flags_in octets in
    let there : ℕ = length (drop 8 octets) in
    let kind : Option UBad = cond (is_none (kind_of (type_in octets))) (Some bad.Kind) None in
    let chain : Option UBad = cond (breaks_chain flags (counted_in octets)) (Some bad.Extension) kind in
    let early : Option UBad = cond (ends_early flags (length_in octets) there) (Some bad.Length) chain in
    let gtp : Option UBad = cond (not (is_gtp flags)) (Some bad.NotGtp) early in
    let version : Option UBad = cond (not (has_version flags)) (Some bad.Version) gtp in
    let is_whole = passed (nat_lt (length octets) 8) bad.Short version none in
    let is_version = passed (not (has_version flags)) bad.Version gtp is_whole.1 in
    let is_proper = passed (not (is_gtp flags)) bad.NotGtp early is_version.1 in
    let is_there = passed (ends_early flags (length_in octets) there) bad.Length chain is_proper.1 in
    let is_chain = passed (breaks_chain flags (counted_in octets)) bad.Extension kind is_there.1 in
    let is_known = passed (is_none (kind_of (type_in octets))) bad.Kind None is_chain.1 in
    let lengths = neither (nat_lt there (length_in octets))
    (has_options flags && nat_lt (length_in octets) 4) is_there.0 in
    record {
      whole = ltb-false (length octets) 8 is_whole.0;
      version = not_false (has_version flags) is_version.0;
      gtp = not_false (is_gtp flags) is_proper.0;
      there = ltb-false there (length_in octets) lengths.0;
      options = lengths.1;
      chain = is_chain.0;
      known = is_known.0;
    }

passes_here : {X : Type 0} (p : X → Bool) (y : X) (ys : List X) (x : X) (b : Bool) → p y ≡ b
    → cond b (Some y) (find p ys) ≡ Some x → (find p ys ≡ Some x → p x ≡ true) → p x ≡ true
passes_here p y ys x true is found later = let same : y ≡ x = cc in subst (λ z. p z ≡ true) same is
passes_here p y ys x false is found later = later found

found_passes : {X : Type 0} (p : X → Bool) (xs : List X) (x : X) → find p xs ≡ Some x → p x ≡ true
found_passes p [] x found = absurd cc
found_passes p (y ∷ ys) x found = passes_here p y ys x (p y) refl found (found_passes p ys x)

kind_found : (octet : ℕ) (kind : GtpUKind) → kind_of octet ≡ Some kind → octet ≡ type_octet kind
unfolding kind_of
kind_found octet kind found =
    sym (eqb-true (type_octet kind) octet (found_passes (λ k. nat_eq (type_octet k) octet) kinds kind found))

body_spelled : (extensions : Bool) (next : ℕ) (octets : List ℕ)
    → (extensions && is_none (body_behind 0 (next ∷ octets))) ≡ false
    → SpellsBody extensions next octets (cond extensions (unwrap_or (body_behind 0 (next ∷ octets)) []) octets)
body_spelled false next octets whole = refl
body_spelled true next octets whole =
    found_is_chain next octets (unwrap_or (body_behind 0 (next ∷ octets)) [])
    (some_body (body_behind 0 (next ∷ octets)) whole)

counted_spelled : (flags : ℕ) (options : Bool) (counted : List ℕ) → has_options flags ≡ options
    → (options && nat_lt (length counted) 4) ≡ false → breaks_chain flags counted ≡ false
    → SpellsCounted flags options counted (seq_in flags counted) (carried flags counted)
counted_spelled flags false counted none long whole =
    let no_seq : has_seq flags ≡ false = seqs_are_options flags none in
    let no_extension : has_extensions flags ≡ false = extensions_are_options flags none in
    (rw no_seq refl, rw (no_extension, none) refl)
counted_spelled flags true counted some long whole = (
  ltb-false (length counted) 4 long,
  refl,
  rw some (body_spelled (has_extensions flags) (slice_index counted 3) (drop 4 counted) whole),
)

spelled_with : (octets : List ℕ) (kind : GtpUKind) → ArePassed octets → kind_of (type_in octets) ≡ Some kind
    → Spells octets (head_with octets kind) (carried (flags_in octets) (counted_in octets))
spelled_with octets kind tests found =
    let size : length (counted_in octets) ≡ length_in octets
    = length-take-le (length_in octets) (drop 8 octets) tests.there in
    let options : (has_options (flags_in octets) && nat_lt (length (counted_in octets)) 4) ≡ false
    = rw size tests.options in (
      tests.whole,
      tests.version,
      tests.gtp,
      kind_found (type_in octets) kind found,
      refl,
      tests.there,
      counted_spelled (flags_in octets) (has_options (flags_in octets)) (counted_in octets) refl options tests.chain,
    )

-- octets without a fault spell a message
pub faultless_spells : (octets : List ℕ) → first_fault octets ≡ None
    → (head : GtpUHead) × (body : List ℕ) × Spells octets head body
faultless_spells octets none =
    let tests = are_passed octets none in
    let kind = some_found (kind_of (type_in octets)) tests.known in
    (head_with octets kind.0, carried (flags_in octets) (counted_in octets), spelled_with octets kind.0 tests kind.1)

message_by_kind : (octets : List ℕ) (head : GtpUHead) (body : List ℕ) (found : Option GtpUKind)
    → first_fault octets ≡ None
    → kind_of (type_in octets) ≡ found
    → option_map (message_with octets) found ≡ Some (head, body)
    → Spells octets head body
message_by_kind octets head body None none is message = absurd cc
message_by_kind octets head body (Some kind) none is message =
    let same : message_with octets kind ≡ (head, body) = cc in
    subst (λ (p : GtpUHead × List ℕ). Spells octets p.0 p.1) same (spelled_with octets kind (are_passed octets none) is)

message_by_fault : (octets : List ℕ) (head : GtpUHead) (body : List ℕ) (fault : Option UBad)
    → first_fault octets ≡ fault
    → cond (is_some fault) None
    (option_map (message_with octets) (kind_of (type_in octets)))
    ≡ Some (head, body)
    → Spells octets head body
message_by_fault octets head body (Some bad) is message = absurd cc
message_by_fault octets head body None is message =
    message_by_kind octets head body (kind_of (type_in octets)) is refl message

-- the message is what octets spell
pub message_spells : (octets : List ℕ) (head : GtpUHead) (body : List ℕ) → message_of octets ≡ Some (head, body)
    → Spells octets head body
message_spells octets head body message = message_by_fault octets head body (first_fault octets) refl message

-- what a reader answers is the message, where what is read is spelled and a refusal is the first fault
pub answers_message : {X : Type 0} (now : X → List ℕ) (octets : List ℕ) (result : Result (GtpUHead × X) UBad)
    → IfOk result (λ r. Spells octets r.0 (now r.1)) → IfErr result (λ bad. first_fault octets ≡ Some bad)
    → MatchResult result (λ r. message_of octets ≡ Some (r.0, now r.1)) (λ bad. message_of octets ≡ None)
answers_message now octets (Ok (head, rest)) spelled fault = message_is octets head (now rest) spelled
answers_message now octets (Err bad) spelled fault = rw fault refl
