-- Fields that are read on: what was taken stands in front of what is left.
use Rattle.std.proofs.Common.{◌≡◌, ℕ, ◌^◌, ◌-◌, ◌<◌, ◌≤◌, Bool, true, false, List, [], ◌∷◌, ◌++◌, refl, ap, ◌∙◌, arith, Option, Some, None, if◌then◌else◌, lit<}
use Rattle.std.specs.Prelude.{codes, decimal, IfSome}
use Rattle.std.specs.Option.{option_map}
use Rattle.std.specs.Str.{bytes_eq}
use Rattle.std.proofs.lemmas.Slice.Eq.{bytes_eq-Decides}
use Rattle.charging_book.specs.Rows.{Counters}
use Rattle.hex.specs.Hex.{encode_lower}
use Rattle.pc_base.specs.declared.effect.Fate.{Fate}
use Rattle.pc_base.specs.declared.effect.Fate.TheVariants as fate
use Rattle.pc_base.specs.declared.packet.Place.{Place}
use Rattle.pc_base.specs.declared.packet.Verdict.{Verdict}
use Rattle.pc_base.specs.declared.packet.Verdict.TheVariants as verdict
use Rattle.text_fields.specs.Number.{number_in}
use Rattle.text_fields.specs.Address.{address_of, dotted, ◌>>=◌}
use Rattle.text_fields.specs.Hexadecimal.{lower_octets_of}
use Rattle.text_fields.proofs.DigitLemmas.{number_read, number_only}
use Rattle.text_fields.proofs.AddressLemmas.{address_read, address_only}
use Rattle.text_fields.proofs.LowerLemmas.{lower_octets_read, lower_octets_only}
use Rattle.report_lines.specs.Ranges.{IsNumber, IsSlot, IsOctets, IsVerdict, IsFate, IsPlace, AreCounters}
use Rattle.report_lines.specs.Records.{KeepsPlace}
use Rattle.report_lines.specs.Reading.{with_rest, next, number, any_number, counted, slot, message_of, place_at, place_of, down_of, up_of, held_of, verdict_of, fate_of, counters_at, head_of}
use Rattle.report_lines.specs.Text.{verdict_fields, fate_fields, place_fields, counters_fields}
use Rattle.report_lines.specs.Words.{message_word, place_word}
use Rattle.report_lines.proofs.WordLemmas.{message_given, message_taken, place_given, place_taken}

pub bound : {A B : Type 0} (r : Option A) (f : A → Option B) (y : B) → (r >>= f) ≡ Some y → (x : A) × (r ≡ Some x)
    × (f x ≡ Some y)
bound (Some x) f y is = (x, refl, is)
bound None f y is = cc

-- what was taken, in front of what is left
pub record Stands {A : Type 0} (fields : A → List (List ℕ) → List (List ℕ)) (Valid : A
    → Type 0) (texts : List (List ℕ)) (taken : A × List (List ℕ)) : Type 0 where
  pub are : texts ≡ fields taken.0 taken.1
  pub valid : Valid taken.0

same_taken : {A : Type 0} (x y : A) → Some x ≡ Some y → x ≡ y
same_taken x y same = cc

-- one field
abbrev pub one : {A : Type 0} → (A → List ℕ) → A → List (List ℕ) → List (List ℕ)
one word x behind = word x ∷ behind

next_at : {A : Type 0} (word : A → List ℕ) (Valid : A
    → Type 0) (text : List ℕ) (texts : List (List ℕ)) (value : Option A) (taken : A × List (List ℕ))
    → ((x : A) → value ≡ Some x → (text ≡ word x) × Valid x) → with_rest value texts ≡ Some taken
    → Stands (one word) Valid (text ∷ texts) taken
next_at word Valid text texts (Some x) taken given read =
    let is = given x refl in
    let same : (x, texts) ≡ taken = same_taken (x, texts) taken read in
    rw (← same) (record { are = ap (λ t. t ∷ texts) is.0; valid = is.1 })
next_at word Valid text texts None taken given read = cc

pub next_given : {A : Type 0} (of : List ℕ → Option A) (word : A → List ℕ) (Valid : A → Type 0)
    → ((text : List ℕ) (x : A) → of text ≡ Some x → (text ≡ word x) × Valid x)
    → (texts : List (List ℕ)) (taken : A × List (List ℕ))
    → next of texts ≡ Some taken → Stands (one word) Valid texts taken
next_given of word Valid given [] taken read = cc
next_given of word Valid given (text ∷ texts) taken read =
    next_at word Valid text texts (of text) taken (λ x is. given text x is) read

pub next_taken : {A : Type 0} (of : List ℕ → Option A) (text : List ℕ) (x : A) (rest : List (List ℕ)) → of text ≡ Some x
    → next of (text ∷ rest) ≡ Some (x, rest)
next_taken of text x rest is = ap (λ value. with_rest value rest) is

-- numbers
pub number_given : (last : ℕ) (texts : List (List ℕ)) (taken : ℕ × List (List ℕ)) → last < 2 ^ 64
    → number last texts ≡ Some taken
    → Stands (one decimal) (λ n. n ≤ last) texts taken
number_given last texts taken fits read =
    next_given (number_in 0 last) decimal (λ n. n ≤ last)
    (λ text x is. let only = number_only 0 last x text fits is in (only.0, only.2)) texts taken read

pub number_taken : (last n : ℕ) (rest : List (List ℕ)) → n < 2 ^ 64 → n ≤ last
    → number last (decimal n ∷ rest) ≡ Some (n, rest)
number_taken last n rest fits high =
    next_taken (number_in 0 last) (decimal n) n rest (number_read 0 last n fits (omega arith) high)

pub any_given : (texts : List (List ℕ)) (taken : ℕ × List (List ℕ)) → any_number texts ≡ Some taken
    → Stands (one decimal) IsNumber texts taken
any_given texts taken read =
    let given = number_given (2 ^ 64 - 1) texts taken (lit< tt) read in
    record { are = given.are; valid = omega (arith, given.valid) }

pub any_taken : (n : ℕ) (rest : List (List ℕ)) → IsNumber n → any_number (decimal n ∷ rest) ≡ Some (n, rest)
any_taken n rest fits = number_taken (2 ^ 64 - 1) n rest fits (omega arith)

pub count_given : (texts : List (List ℕ)) (taken : ℕ × List (List ℕ)) → counted texts ≡ Some taken
    → Stands (one decimal) (λ n. n ≤ 2 ^ 61) texts taken
count_given texts taken read = number_given (2 ^ 61) texts taken (lit< tt) read

pub octet_given : (texts : List (List ℕ)) (taken : ℕ × List (List ℕ)) → number 255 texts ≡ Some taken
    → Stands (one decimal) (λ n. n ≤ 255) texts taken
octet_given texts taken read = number_given 255 texts taken (lit< tt) read

pub slot_given : (texts : List (List ℕ)) (taken : ℕ × List (List ℕ)) → slot texts ≡ Some taken
    → Stands (one decimal) IsSlot texts taken
slot_given texts taken read = number_given 65532 texts taken (lit< tt) read

-- addresses, octets and messages
pub address_given : (texts : List (List ℕ)) (taken : ℕ × List (List ℕ)) → next address_of texts ≡ Some taken
    → Stands (one dotted) (λ a. a < 2 ^ 32) texts taken
address_given texts taken read =
    next_given address_of dotted (λ a. a < 2 ^ 32) (λ text x is. address_only x text is) texts taken read

pub octets_given : (texts : List (List ℕ)) (taken : List ℕ × List (List ℕ)) → next lower_octets_of texts ≡ Some taken
    → Stands (one encode_lower) IsOctets texts taken
octets_given texts taken read =
    next_given lower_octets_of encode_lower IsOctets
    (λ text x is. let only = lower_octets_only text x is in (only.0, (only.1, only.2))) texts taken read

pub messages_given : (texts : List (List ℕ)) (taken : Option (List ℕ) × List (List ℕ))
    → next message_of texts ≡ Some taken
    → Stands (one message_word) (λ m. IfSome m IsOctets) texts taken
messages_given texts taken read =
    next_given message_of message_word (λ m. IfSome m IsOctets) (λ text x is. message_given text x is) texts taken read

-- a life, an address and octets
abbrev pub down_fields : ℕ × ℕ × List ℕ → List (List ℕ) → List (List ℕ)
down_fields down behind = decimal down.0 ∷ dotted down.1 ∷ encode_lower down.2 ∷ behind

abbrev pub IsDown : ℕ × ℕ × List ℕ → Type 0
IsDown down = IsNumber down.0 × (down.1 < 2 ^ 32) × IsOctets down.2

pub down_given : (texts : List (List ℕ)) (taken : (ℕ × ℕ × List ℕ) × List (List ℕ)) → down_of texts ≡ Some taken
    → Stands down_fields IsDown texts taken
down_given texts taken read =
    let life = bound (any_number texts) _ taken read in
    let peer = bound (next address_of life.0.1) _ taken life.2 in
    let octets = bound (next lower_octets_of peer.0.1) _ taken peer.2 in
    let is_life = any_given texts life.0 life.1 in
    let is_peer = address_given life.0.1 peer.0 peer.1 in
    let is_octets = octets_given peer.0.1 octets.0 octets.1 in
    let same : ((life.0.0, peer.0.0, octets.0.0), octets.0.1) ≡ taken = same_taken _ taken octets.2 in
    rw (← same) (record {
      are = is_life.are ∙ ap (λ t. decimal life.0.0 ∷ t) is_peer.are
          ∙ ap (λ t. decimal life.0.0 ∷ dotted peer.0.0 ∷ t) is_octets.are;
      valid = (is_life.valid, is_peer.valid, is_octets.valid);
    })

pub down_taken : (life peer : ℕ) (octets : List ℕ) (rest : List (List ℕ)) → IsNumber life → peer < 2 ^ 32
    → IsOctets octets
    → down_of (decimal life ∷ dotted peer ∷ encode_lower octets ∷ rest) ≡ Some ((life, peer, octets), rest)
down_taken life peer octets rest is_life is_peer is_octets =
    let first = number_read 0 (2 ^ 64 - 1) life is_life (omega arith) (omega arith) in
    let second = address_read peer is_peer in
    let third = lower_octets_read octets is_octets.0 is_octets.1 in
    rw (first, second, third) refl

-- verdicts
word_is : {A : Type 0} {P : Type 0} (text known : List ℕ) (b : Bool) (here others : Option A) (told : A)
    → bytes_eq text known ≡ b
    → (text ≡ known → here ≡ Some told → P) → (others ≡ Some told → P) → (if b then here else others) ≡ Some told → P
word_is text known true here others told test known_then rest read =
    known_then ((bytes_eq-Decides text known).0 test) read
word_is text known false here others told test known_then rest read = rest read

abbrev OfVerdict : List (List ℕ) → Verdict × List (List ℕ) → Type 0
OfVerdict texts taken = Stands verdict_fields IsVerdict texts taken

up_given : (word : List ℕ) (texts : List (List ℕ)) (taken : Verdict × List (List ℕ)) → word ≡ codes "up"
    → up_of texts ≡ Some taken
    → OfVerdict (word ∷ texts) taken
up_given word texts taken is read =
    let life = bound (any_number texts) _ taken read in
    let octets = bound (next lower_octets_of life.0.1) _ taken life.2 in
    let is_life = any_given texts life.0 life.1 in
    let is_octets = octets_given life.0.1 octets.0 octets.1 in
    let same : (verdict.Up life.0.0 octets.0.0, octets.0.1) ≡ taken = same_taken _ taken octets.2 in
    rw (← same) (record {
      are = ap (λ w. w ∷ texts) is ∙ ap (λ t. codes "up" ∷ t) is_life.are
          ∙ ap (λ t. codes "up" ∷ decimal life.0.0 ∷ t) is_octets.are;
      valid = (is_life.valid, is_octets.valid);
    })

held_given : (word : List ℕ) (texts : List (List ℕ)) (taken : Verdict × List (List ℕ)) → word ≡ codes "held"
    → held_of texts ≡ Some taken
    → OfVerdict (word ∷ texts) taken
held_given word texts taken is read =
    let life = bound (any_number texts) _ taken read in
    let message = bound (next message_of life.0.1) _ taken life.2 in
    let is_life = any_given texts life.0 life.1 in
    let is_message = messages_given life.0.1 message.0 message.1 in
    let same : (verdict.Held life.0.0 message.0.0, message.0.1) ≡ taken = same_taken _ taken message.2 in
    rw (← same) (record {
      are = ap (λ w. w ∷ texts) is ∙ ap (λ t. codes "held" ∷ t) is_life.are
          ∙ ap (λ t. codes "held" ∷ decimal life.0.0 ∷ t) is_message.are;
      valid = (is_life.valid, is_message.valid);
    })

down_verdict_given : (word : List ℕ) (texts : List (List ℕ)) (taken : Verdict × List (List ℕ)) → word ≡ codes "down"
    → (down_of texts >>= (λ down. Some (verdict.Down down.0.0 down.0.1 down.0.2, down.1))) ≡ Some taken
    → OfVerdict (word ∷ texts) taken
down_verdict_given word texts taken is read =
    let down = bound (down_of texts) _ taken read in
    let is_down = down_given texts down.0 down.1 in
    let same : (verdict.Down down.0.0.0 down.0.0.1 down.0.0.2, down.0.1) ≡ taken = same_taken _ taken down.2 in
    rw (← same) (record {
      are = ap (λ w. w ∷ texts) is ∙ ap (λ t. codes "down" ∷ t) is_down.are;
      valid = is_down.valid;
    })

idle_given : (word : List ℕ) (texts : List (List ℕ)) (taken : Verdict × List (List ℕ)) → word ≡ codes "idle"
    → (any_number texts >>= (λ life. Some (verdict.Idle life.0, life.1))) ≡ Some taken → OfVerdict (word ∷ texts) taken
idle_given word texts taken is read =
    let life = bound (any_number texts) _ taken read in
    let is_life = any_given texts life.0 life.1 in
    let same : (verdict.Idle life.0.0, life.0.1) ≡ taken = same_taken _ taken life.2 in
    rw (← same) (record {
      are = ap (λ w. w ∷ texts) is ∙ ap (λ t. codes "idle" ∷ t) is_life.are;
      valid = is_life.valid;
    })

policed_given : (word : List ℕ) (texts : List (List ℕ)) (taken : Verdict × List (List ℕ)) → word ≡ codes "policed"
    → (any_number texts >>= (λ life. Some (verdict.Policed life.0, life.1))) ≡ Some taken
    → OfVerdict (word ∷ texts) taken
policed_given word texts taken is read =
    let life = bound (any_number texts) _ taken read in
    let is_life = any_given texts life.0 life.1 in
    let same : (verdict.Policed life.0.0, life.0.1) ≡ taken = same_taken _ taken life.2 in
    rw (← same) (record {
      are = ap (λ w. w ∷ texts) is ∙ ap (λ t. codes "policed" ∷ t) is_life.are;
      valid = is_life.valid;
    })

no_bearer_given : (word : List ℕ) (texts : List (List ℕ)) (taken : Verdict × List (List ℕ)) → word ≡ codes "nobearer"
    → Some (verdict.NoBearer, texts) ≡ Some taken → OfVerdict (word ∷ texts) taken
no_bearer_given word texts taken is read =
    let same : (verdict.NoBearer, texts) ≡ taken = same_taken _ taken read in
    rw (← same) (record { are = ap (λ w. w ∷ texts) is; valid = tt })

spoof_given : (word : List ℕ) (texts : List (List ℕ)) (taken : Verdict × List (List ℕ)) → word ≡ codes "spoof"
    → Some (verdict.Spoof, texts) ≡ Some taken → OfVerdict (word ∷ texts) taken
spoof_given word texts taken is read =
    let same : (verdict.Spoof, texts) ≡ taken = same_taken _ taken read in
    rw (← same) (record { are = ap (λ w. w ∷ texts) is; valid = tt })

no_word : {P : Type 0} {A : Type 0} (told : A) → None ≡ Some told → P
no_word told read = cc

pub verdict_given : (texts : List (List ℕ)) (taken : Verdict × List (List ℕ)) → verdict_of texts ≡ Some taken
    → OfVerdict texts taken
verdict_given [] taken read = cc
verdict_given (word ∷ texts) taken read =
    word_is word (codes "up") (bytes_eq word (codes "up")) _ _ taken refl (λ is told. up_given word texts taken is told)
    (word_is word (codes "down") (bytes_eq word (codes "down")) _ _ taken refl
    (λ is told. down_verdict_given word texts taken is told)
    (word_is word (codes "nobearer") (bytes_eq word (codes "nobearer")) _ _ taken refl
    (λ is told. no_bearer_given word texts taken is told)
    (word_is word (codes "spoof") (bytes_eq word (codes "spoof")) _ _ taken refl
    (λ is told. spoof_given word texts taken is told)
    (word_is word (codes "idle") (bytes_eq word (codes "idle")) _ _ taken refl
    (λ is told. idle_given word texts taken is told)
    (word_is word (codes "held") (bytes_eq word (codes "held")) _ _ taken refl
    (λ is told. held_given word texts taken is told)
    (word_is word (codes "policed") (bytes_eq word (codes "policed")) _ _ taken refl
    (λ is told. policed_given word texts taken is told)
    (λ none. no_word taken none))))))) read

pub verdict_taken : (told : Verdict) (rest : List (List ℕ)) → IsVerdict told
    → verdict_of (verdict_fields told rest) ≡ Some (told, rest)
verdict_taken (verdict.Up life octets) rest is =
    let first = number_read 0 (2 ^ 64 - 1) life is.0 (omega arith) (omega (arith, is.0)) in
    let second = lower_octets_read octets is.1.0 is.1.1 in
    rw (first, second) refl
verdict_taken (verdict.Down life peer octets) rest is = rw (down_taken life peer octets rest is.0 is.1 is.2) refl
verdict_taken verdict.NoBearer rest is = refl
verdict_taken verdict.Spoof rest is = refl
verdict_taken (verdict.Idle life) rest is =
    rw (number_read 0 (2 ^ 64 - 1) life is (omega arith) (omega (arith, is))) refl
verdict_taken (verdict.Held life message) rest is =
    let first = number_read 0 (2 ^ 64 - 1) life is.0 (omega arith) (omega (arith, is.0)) in
    let second = message_taken message is.1 in
    rw (first, second) refl
verdict_taken (verdict.Policed life) rest is =
    rw (number_read 0 (2 ^ 64 - 1) life is (omega arith) (omega (arith, is))) refl

-- fates
abbrev fates : Fate → List (List ℕ) → List (List ℕ)
fates told behind = fate_fields told ++ behind

down_fate_given : (word : List ℕ) (texts : List (List ℕ)) (taken : Fate × List (List ℕ)) → word ≡ codes "down"
    → (down_of texts >>= (λ down. Some (fate.Down down.0.0 down.0.1 down.0.2, down.1))) ≡ Some taken
    → Stands fates IsFate (word ∷ texts) taken
down_fate_given word texts taken is read =
    let down = bound (down_of texts) _ taken read in
    let is_down = down_given texts down.0 down.1 in
    let same : (fate.Down down.0.0.0 down.0.0.1 down.0.0.2, down.0.1) ≡ taken = same_taken _ taken down.2 in
    rw (← same) (record {
      are = ap (λ w. w ∷ texts) is ∙ ap (λ t. codes "down" ∷ t) is_down.are;
      valid = is_down.valid;
    })

policed_fate_given : (word : List ℕ) (texts : List (List ℕ)) (taken : Fate × List (List ℕ)) → word ≡ codes "policed"
    → (any_number texts >>= (λ life. Some (fate.Policed life.0, life.1))) ≡ Some taken
    → Stands fates IsFate (word ∷ texts) taken
policed_fate_given word texts taken is read =
    let life = bound (any_number texts) _ taken read in
    let is_life = any_given texts life.0 life.1 in
    let same : (fate.Policed life.0.0, life.0.1) ≡ taken = same_taken _ taken life.2 in
    rw (← same) (record {
      are = ap (λ w. w ∷ texts) is ∙ ap (λ t. codes "policed" ∷ t) is_life.are;
      valid = is_life.valid;
    })

gone_fate_given : (word : List ℕ) (texts : List (List ℕ)) (taken : Fate × List (List ℕ)) → word ≡ codes "gone"
    → (any_number texts >>= (λ life. Some (fate.Gone life.0, life.1))) ≡ Some taken
    → Stands fates IsFate (word ∷ texts) taken
gone_fate_given word texts taken is read =
    let life = bound (any_number texts) _ taken read in
    let is_life = any_given texts life.0 life.1 in
    let same : (fate.Gone life.0.0, life.0.1) ≡ taken = same_taken _ taken life.2 in
    rw (← same) (record {
      are = ap (λ w. w ∷ texts) is ∙ ap (λ t. codes "gone" ∷ t) is_life.are;
      valid = is_life.valid;
    })

pub fate_given : (texts : List (List ℕ)) (taken : Fate × List (List ℕ)) → fate_of texts ≡ Some taken
    → Stands fates IsFate texts taken
fate_given [] taken read = cc
fate_given (word ∷ texts) taken read =
    word_is word (codes "down") (bytes_eq word (codes "down")) _ _ taken refl
    (λ is told. down_fate_given word texts taken is told)
    (word_is word (codes "policed") (bytes_eq word (codes "policed")) _ _ taken refl
    (λ is told. policed_fate_given word texts taken is told)
    (word_is word (codes "gone") (bytes_eq word (codes "gone")) _ _ taken refl
    (λ is told. gone_fate_given word texts taken is told)
    (λ none. no_word taken none))) read

pub fate_taken : (told : Fate) → IsFate told → fate_of (fate_fields told) ≡ Some (told, [])
fate_taken (fate.Down life peer octets) is = rw (down_taken life peer octets [] is.0 is.1 is.2) refl
fate_taken (fate.Policed life) is = rw (number_read 0 (2 ^ 64 - 1) life is (omega arith) (omega (arith, is))) refl
fate_taken (fate.Gone life) is = rw (number_read 0 (2 ^ 64 - 1) life is (omega arith) (omega (arith, is))) refl

-- places
pub record Placed (texts : List (List ℕ)) (told : Option Place × Bool) : Type 0 where
  pub are : texts ≡ place_fields told.0 told.1
  pub place : IfSome told.0 IsPlace
  pub parked : KeepsPlace told.1 told.0

placed_at : (text : List ℕ) (parked : Bool) (place : Option Place) (told : Option Place × Bool) → place_at text ≡ place
    → option_map (λ p. (Some p, parked)) place ≡ Some told
    → (p : Place) × (text ≡ place_word p) × IsPlace p × ((Some p, parked) ≡ told)
placed_at text parked (Some p) told is read =
    let given = place_given text p is in (p, given.0, given.1, same_taken _ told read)
placed_at text parked None told is read = cc

parked_is : (text : List ℕ) (b : Bool) (value : Option (Option Place × Bool)) (told : Option Place × Bool)
    → bytes_eq text (codes "p") ≡ b
    → (if b then value else None) ≡ Some told → (text ≡ codes "p") × (value ≡ Some told)
parked_is text true value told test read = ((bytes_eq-Decides text (codes "p")).0 test, read)
parked_is text false value told test read = cc

pub place_fields_given : (texts : List (List ℕ)) (told : Option Place × Bool) → place_of texts ≡ Some told
    → Placed texts told
place_fields_given [] told read =
    let same : (None, false) ≡ told = same_taken _ told read in
    rw (← same) (record { are = refl; place = tt; parked = tt })
place_fields_given (text ∷ []) told read =
    let at = placed_at text false (place_at text) told refl read in
    let same : (Some at.0, false) ≡ told = at.3 in
    rw (← same) (record { are = ap (λ t. t ∷ []) at.1; place = at.2; parked = tt })
place_fields_given (text ∷ word ∷ []) told read =
    let parked = parked_is word (bytes_eq word (codes "p")) _ told refl read in
    let at = placed_at text true (place_at text) told refl parked.1 in
    let same : (Some at.0, true) ≡ told = at.3 in
    rw (← same) (record {
      are = ap (λ t. t ∷ word ∷ []) at.1 ∙ ap (λ w. place_word at.0 ∷ w ∷ []) parked.0;
      place = at.2;
      parked = tt;
    })
place_fields_given (text ∷ word ∷ other ∷ texts) told read = cc

pub place_fields_taken : (place : Option Place) (parked : Bool) → IfSome place IsPlace → KeepsPlace parked place
    → place_of (place_fields place parked) ≡ Some (place, parked)
place_fields_taken None true is kept = absurd kept
place_fields_taken None false is kept = refl
place_fields_taken (Some place) true is kept = ap (λ p. option_map (λ q. (Some q, true)) p) (place_taken place is)
place_fields_taken (Some place) false is kept = ap (λ p. option_map (λ q. (Some q, false)) p) (place_taken place is)

-- the start of an answer and of a judgement
abbrev pub head_fields : ℕ × ℕ × ℕ → List (List ℕ) → List (List ℕ)
head_fields head behind = decimal head.0 ∷ decimal head.1 ∷ decimal head.2 ∷ behind

abbrev pub IsHead : ℕ × ℕ × ℕ → Type 0
IsHead head = IsNumber head.0 × IsSlot head.1 × IsNumber head.2

pub head_given : (texts : List (List ℕ)) (taken : (ℕ × ℕ × ℕ) × List (List ℕ)) → head_of texts ≡ Some taken
    → Stands head_fields IsHead texts taken
head_given texts taken read =
    let line = bound (any_number texts) _ taken read in
    let its_slot = bound (slot line.0.1) _ taken line.2 in
    let its_number = bound (any_number its_slot.0.1) _ taken its_slot.2 in
    let is_line = any_given texts line.0 line.1 in
    let is_slot = slot_given line.0.1 its_slot.0 its_slot.1 in
    let is_number = any_given its_slot.0.1 its_number.0 its_number.1 in
    let same : ((line.0.0, its_slot.0.0, its_number.0.0), its_number.0.1) ≡ taken = same_taken _ taken its_number.2 in
    rw (← same) (record {
      are = is_line.are ∙ ap (λ t. decimal line.0.0 ∷ t) is_slot.are
          ∙ ap (λ t. decimal line.0.0 ∷ decimal its_slot.0.0 ∷ t) is_number.are;
      valid = (is_line.valid, is_slot.valid, is_number.valid);
    })

pub head_taken : (line its_slot its_number : ℕ) (rest : List (List ℕ)) → IsNumber line → IsSlot its_slot
    → IsNumber its_number
    → head_of (decimal line ∷ decimal its_slot ∷ decimal its_number ∷ rest) ≡ Some ((line, its_slot, its_number), rest)
head_taken line its_slot its_number rest is_line is_slot is_number =
    let first = number_read 0 (2 ^ 64 - 1) line is_line (omega arith) (omega arith) in
    let second = number_read 0 65532 its_slot (omega arith) (omega arith) is_slot in
    let third = number_read 0 (2 ^ 64 - 1) its_number is_number (omega arith) (omega arith) in
    rw (first, second, third) refl

-- counters
eight : (texts t1 t2 t3 t4 t5 t6 t7 t8 : List (List ℕ)) (a b c d e f g h : List ℕ) → texts ≡ a ∷ t1 → t1 ≡ b ∷ t2
    → t2 ≡ c ∷ t3 → t3 ≡ d ∷ t4
    → t4 ≡ e ∷ t5 → t5 ≡ f ∷ t6 → t6 ≡ g ∷ t7 → t7 ≡ h ∷ t8 → texts ≡ a ∷ b ∷ c ∷ d ∷ e ∷ f ∷ g ∷ h ∷ t8
eight texts t1 t2 t3 t4 t5 t6 t7 t8 a b c d e f g h is_1 is_2 is_3 is_4 is_5 is_6 is_7 is_8 = cc

pub counters_given : (texts : List (List ℕ)) (taken : Counters × List (List ℕ)) → counters_at texts ≡ Some taken
    → Stands counters_fields AreCounters texts taken
counters_given texts taken read =
    let life = bound (counted texts) _ taken read in
    let ebi = bound (number 255 life.0.1) _ taken life.2 in
    let qci = bound (number 255 ebi.0.1) _ taken ebi.2 in
    let seq = bound (counted qci.0.1) _ taken qci.2 in
    let up_octets = bound (any_number seq.0.1) _ taken seq.2 in
    let down_octets = bound (any_number up_octets.0.1) _ taken up_octets.2 in
    let up_packets = bound (counted down_octets.0.1) _ taken down_octets.2 in
    let down_packets = bound (counted up_packets.0.1) _ taken up_packets.2 in
    let is_life = count_given texts life.0 life.1 in
    let is_ebi = octet_given life.0.1 ebi.0 ebi.1 in
    let is_qci = octet_given ebi.0.1 qci.0 qci.1 in
    let is_seq = count_given qci.0.1 seq.0 seq.1 in
    let is_up_octets = any_given seq.0.1 up_octets.0 up_octets.1 in
    let is_down_octets = any_given up_octets.0.1 down_octets.0 down_octets.1 in
    let is_up_packets = count_given down_octets.0.1 up_packets.0 up_packets.1 in
    let is_down_packets = count_given up_packets.0.1 down_packets.0 down_packets.1 in
    let same = same_taken _ taken down_packets.2 in
    rw (← same) (record {
      are = eight texts life.0.1 ebi.0.1 qci.0.1 seq.0.1 up_octets.0.1 down_octets.0.1 up_packets.0.1 down_packets.0.1
          (decimal life.0.0) (decimal ebi.0.0) (decimal qci.0.0) (decimal seq.0.0) (decimal up_octets.0.0)
          (decimal down_octets.0.0)
          (decimal up_packets.0.0) (decimal down_packets.0.0) is_life.are is_ebi.are is_qci.are is_seq.are
          is_up_octets.are
          is_down_octets.are is_up_packets.are is_down_packets.are;
      valid = record {
        life = is_life.valid;
        ebi = is_ebi.valid;
        qci = is_qci.valid;
        seq = is_seq.valid;
        up_octets = is_up_octets.valid;
        down_octets = is_down_octets.valid;
        up_packets = is_up_packets.valid;
        down_packets = is_down_packets.valid;
      };
    })

pub counters_taken : (counters : Counters) (rest : List (List ℕ)) → AreCounters counters
    → counters_at (counters_fields counters rest) ≡ Some (counters, rest)
counters_taken counters rest are =
    let life = number_read 0 (2 ^ 61) counters.life (omega (arith, are.life)) (omega arith) are.life in
    let ebi = number_read 0 255 counters.ebi (omega (arith, are.ebi)) (omega arith) are.ebi in
    let qci = number_read 0 255 counters.qci (omega (arith, are.qci)) (omega arith) are.qci in
    let seq = number_read 0 (2 ^ 61) counters.seq (omega (arith, are.seq)) (omega arith) are.seq in
    let up_octets = number_read 0 (2 ^ 64 - 1) counters.up_octets are.up_octets (omega arith)
    (omega (arith, are.up_octets)) in
    let down_octets = number_read 0 (2 ^ 64 - 1) counters.down_octets are.down_octets (omega arith)
    (omega (arith, are.down_octets)) in
    let up_packets = number_read 0 (2 ^ 61) counters.up_packets (omega (arith, are.up_packets))
    (omega arith) are.up_packets in
    let down_packets = number_read 0 (2 ^ 61) counters.down_packets (omega (arith, are.down_packets))
    (omega arith) are.down_packets in
    rw (life, ebi, qci, seq, up_octets, down_octets, up_packets, down_packets) refl
