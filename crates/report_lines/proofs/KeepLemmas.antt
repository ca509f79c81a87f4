-- What is read keeps what its type asks, and what a note is.
use Rattle.std.proofs.Common.{◌≡◌, ℕ, Bool, true, false, List, sym, ap, ◌∙◌, Option, Some, None, if◌then◌else◌, Bor, subst}
use Rattle.std.specs.Prelude.{IfSome}
use Rattle.pc_base.specs.declared.effect.Fate.{Fate}
use Rattle.pc_base.specs.declared.effect.Fate.TheVariants as fate
use Rattle.pc_base.specs.declared.packet.Place.{Place}
use Rattle.pc_base.specs.declared.packet.Verdict.{Verdict}
use Rattle.pc_base.specs.declared.packet.Verdict.TheVariants as verdict
use Rattle.text_fields.specs.Address.{◌>>=◌}
use Rattle.text_fields.specs.Fields.{space, pieces_left, joined}
use Rattle.text_fields.specs.Hexadecimal.{lower_octets_of}
use Rattle.text_fields.proofs.LowerLemmas.{lower_octets_only}
use Rattle.report_lines.specs.Ranges.{IsOctets, IsVerdict, IsFate}
use Rattle.report_lines.specs.Reading.{Gives, next, message_of, any_number, verdict_of, fate_of, place_of, is_note, note_of}
use Rattle.report_lines.specs.Records.{HasOctets, KeepsVerdict, KeepsFate, KeepsPlace}
use Rattle.report_lines.proofs.FieldLemmas.{messages_given, verdict_given, fate_given, place_fields_given}

message_kept : (message : Option (List ℕ)) → IfSome message IsOctets → IfSome message HasOctets
message_kept None is = tt
message_kept (Some octets) is = is.0

verdict_kept : (told : Verdict) → IsVerdict told → KeepsVerdict told
verdict_kept (verdict.Up life octets) is = is.1.0
verdict_kept (verdict.Down life peer octets) is = is.2.0
verdict_kept verdict.NoBearer is = tt
verdict_kept verdict.Spoof is = tt
verdict_kept (verdict.Idle life) is = tt
verdict_kept (verdict.Held life message) is = message_kept message is.1
verdict_kept (verdict.Policed life) is = tt

fate_kept : (told : Fate) → IsFate told → KeepsFate told
fate_kept (fate.Down life peer octets) is = is.2.0
fate_kept (fate.Policed life) is = tt
fate_kept (fate.Gone life) is = tt

some_both : {A : Type 0} (x y : A) → Some x ≡ Some y → x ≡ y
some_both x y same = cc

-- what was given is what the fields are
given_is : {A : Type 0} (given : Option (A × Option (Bor (List ℕ)))) (of : Option (A × List (List ℕ))) (x : A)
    (left : Option (Bor (List ℕ)))
    → Gives given of → given ≡ Some (x, left) → of ≡ Some (x, pieces_left space left)
given_is None of x left gives is = cc
given_is (Some both) of x left gives is = rw (some_both both (x, left) is) at gives

pub octets_are_some : (octets text : List ℕ) → Some octets ≡ lower_octets_of text → HasOctets octets
octets_are_some octets text is = (lower_octets_only text octets (sym is)).1

pub octets_keep : (given : Option (List ℕ × Option (Bor (List ℕ)))) (octets : List ℕ) (left : Option (Bor (List ℕ)))
    → IfSome given (λ some. HasOctets some.0) → given ≡ Some (octets, left) → HasOctets octets
octets_keep None octets left some is = cc
octets_keep (Some both) octets left some is =
    subst (λ (b : List ℕ × Option (Bor (List ℕ))). HasOctets b.0) (some_both both (octets, left) is) some

pub message_keeps : (texts : List (List ℕ)) (given : Option (Option (List ℕ) × Option (Bor (List ℕ))))
    (message : Option (List ℕ))
    (left : Option (Bor (List ℕ))) → Gives given (next message_of texts) → given ≡ Some (message, left)
    → IfSome message HasOctets
message_keeps texts given message left gives is =
    message_kept message
    (messages_given texts (message, pieces_left space left)
    (given_is given (next message_of texts) message left gives is)).valid

pub verdict_keeps : (texts : List (List ℕ)) (given : Option (Verdict × Option (Bor (List ℕ)))) (told : Verdict)
    (left : Option (Bor (List ℕ)))
    → Gives given (verdict_of texts) → given ≡ Some (told, left) → KeepsVerdict told
verdict_keeps texts given told left gives is =
    verdict_kept told (verdict_given texts (told, pieces_left space left)
    (given_is given (verdict_of texts) told left gives is)).valid

pub fate_keeps : (texts : List (List ℕ)) (given : Option (Fate × Option (Bor (List ℕ)))) (told : Fate)
    (left : Option (Bor (List ℕ)))
    → Gives given (fate_of texts) → given ≡ Some (told, left) → KeepsFate told
fate_keeps texts given told left gives is =
    fate_kept told (fate_given texts (told, pieces_left space left)
    (given_is given (fate_of texts) told left gives is)).valid

pub place_keeps : (texts : List (List ℕ)) (place : Option Place) (parked : Bool)
    → place_of texts ≡ Some (place, parked) → KeepsPlace parked place
place_keeps texts place parked is = (place_fields_given texts (place, parked) is).parked

-- a line and the rest of the text, which is a note or none
noted_by : (texts rest : List (List ℕ)) (line : ℕ) (text : List ℕ) (b : Bool)
    → any_number texts ≡ Some (line, rest) → joined rest ≡ text
    → is_note text ≡ b → note_of texts ≡ (if b then Some (record { line = line; note = text }) else None)
noted_by texts rest line text b read same test =
    ap (λ r. r >>= (λ at. if is_note (joined at.1) then Some (record { line = at.0; note = joined at.1 })
    else None)) read
    ∙ ap (λ t. if is_note t then Some (record { line = line; note = t }) else None) same
    ∙ ap (λ c. if c then Some (record { line = line; note = text }) else None) test

pub note_found : (texts rest : List (List ℕ)) (line : ℕ) (text note : List ℕ)
    → any_number texts ≡ Some (line, rest) → joined rest ≡ text
    → is_note text ≡ true → note ≡ text → Some (record { line = line; note = note }) ≡ note_of texts
note_found texts rest line text note read same test copy =
    ap (λ n. Some (record { line = line; note = n })) copy ∙ sym (noted_by texts rest line text true read same test)

pub note_refused : (texts rest : List (List ℕ)) (line : ℕ) (text : List ℕ) → any_number texts ≡ Some (line, rest)
    → joined rest ≡ text
    → is_note text ≡ false → None ≡ note_of texts
note_refused texts rest line text read same test = sym (noted_by texts rest line text false read same test)
