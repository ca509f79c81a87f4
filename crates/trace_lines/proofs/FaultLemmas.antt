-- The first fault of a text is why it isn't read.
use Rattle.std.proofs.Common.{◌≡◌, ℕ, ◌^◌, ◌-◌, Bool, true, false, List, [], ◌∷◌, refl, ap, ◌∙◌, Option, Some, None, Result, Ok, Err, if◌then◌else◌, codes, nat_lt, unwrap_or, is_some}
use Rattle.std.specs.Option.{ok_or, is_none}
use Rattle.std.specs.Result.{result_err}
use Rattle.std.specs.Str.{bytes_eq}
use Rattle.text_fields.specs.Fields.{fields_of, has_empty_field}
use Rattle.text_fields.specs.Number.{number_in}
use Rattle.text_fields.specs.Address.{address_of}
use Rattle.text_fields.specs.Hexadecimal.{octets_of}
use Rattle.trace_lines.specs.declared.bad.LineBad.{LineBad}
use Rattle.trace_lines.specs.declared.bad.LineBad.TheVariants.{Number, Hex, Field, MomentBack}
use Rattle.trace_lines.specs.Kind.{LineKind}
use Rattle.trace_lines.specs.Kind as kind
use Rattle.trace_lines.specs.Line.{Line}
use Rattle.trace_lines.specs.Arguments.{imsi_of, teid_of}
use Rattle.trace_lines.specs.Refused.{◌>>=◌}
use Rattle.trace_lines.specs.Meaning.{message_meaning, attach_meaning, bearer_meaning, filters_meaning, drop_meaning, ambr_meaning, move_meaning, fence_meaning, as_kind, kind_meaning, moment_meaning, line_of_fields, line_meaning}
use Rattle.trace_lines.specs.Refusal.{Form, an_imsi, an_address, a_teid, a_number, some_octets, a_session_rate, a_bearer_rate, an_ebi, forms_of, kind_fault, or_else, moment_of, fields_fault, first_fault}

-- an argument is read, or its refusal is the fault
read_or : {A B : Type 0} (value : Option A) (why : LineBad) (f : A → Result B LineBad) (fault : Option LineBad)
    → ((x : A) → result_err (f x) ≡ fault) → result_err (ok_or value why >>= f)
    ≡ (if is_some value then fault else Some why)
read_or (Some x) why f fault rest = rest x
read_or None why f fault rest = refl

-- the arguments of each kind
message_fault : (kind_of : List ℕ → LineKind) (texts : List (List ℕ))
    → result_err (as_kind kind_of (message_meaning texts)) ≡ kind_fault (Some (some_octets ∷ [])) texts
message_fault kind_of (a ∷ []) = read_or (octets_of a) Hex (λ octets. Ok (kind_of octets)) None (λ octets. refl)
message_fault kind_of [] = refl
message_fault kind_of (a ∷ b ∷ texts) = refl

attach_fault : (texts : List (List ℕ))
    → result_err (attach_meaning texts)
    ≡ kind_fault (Some (an_imsi ∷ an_address ∷ a_teid ∷ a_session_rate ∷ a_session_rate ∷ [])) texts
attach_fault (a ∷ b ∷ c ∷ d ∷ e ∷ []) =
    read_or (imsi_of a) Number _ _ (λ imsi. read_or (address_of b) Number _ _ (λ addr. read_or (teid_of c) Number _ _
    (λ teid. read_or (number_in 0 (2 ^ 32 - 1) d) Number _ _
    (λ up. read_or (number_in 0 (2 ^ 32 - 1) e) Number _ _ (λ down. refl)))))
attach_fault _ = refl

bearer_fault : (texts : List (List ℕ))
    → result_err (bearer_meaning texts)
    ≡ kind_fault (Some (an_imsi ∷ a_number 1 255 ∷ a_bearer_rate ∷ a_bearer_rate ∷ a_bearer_rate ∷ a_bearer_rate
    ∷ some_octets ∷ [])) texts
bearer_fault (a ∷ b ∷ c ∷ d ∷ e ∷ f ∷ g ∷ []) =
    read_or (imsi_of a) Number _ _ (λ imsi. read_or (number_in 1 255 b) Number _ _
    (λ qci. read_or (number_in 0 (2 ^ 40 - 1) c) Number _ _
    (λ mbr_up. read_or (number_in 0 (2 ^ 40 - 1) d) Number _ _
    (λ mbr_down. read_or (number_in 0 (2 ^ 40 - 1) e) Number _ _
    (λ gbr_up. read_or (number_in 0 (2 ^ 40 - 1) f) Number _ _
    (λ gbr_down. read_or (octets_of g) Hex _ _ (λ tft. refl)))))))
bearer_fault _ = refl

filters_fault : (texts : List (List ℕ)) → result_err (filters_meaning texts)
    ≡ kind_fault (Some (an_imsi ∷ an_ebi ∷ some_octets ∷ [])) texts
filters_fault (a ∷ b ∷ c ∷ []) =
    read_or (imsi_of a) Number _ _ (λ imsi. read_or (number_in 5 15 b) Number _ _
    (λ ebi. read_or (octets_of c) Hex _ _ (λ tft. refl)))
filters_fault _ = refl

drop_fault : (texts : List (List ℕ)) → result_err (drop_meaning texts) ≡ kind_fault (Some (an_imsi ∷ an_ebi ∷ [])) texts
drop_fault (a ∷ b ∷ []) = read_or (imsi_of a) Number _ _ (λ imsi. read_or (number_in 5 15 b) Number _ _ (λ ebi. refl))
drop_fault _ = refl

ambr_fault : (texts : List (List ℕ)) → result_err (ambr_meaning texts)
    ≡ kind_fault (Some (an_imsi ∷ a_session_rate ∷ a_session_rate ∷ [])) texts
ambr_fault (a ∷ b ∷ c ∷ []) =
    read_or (imsi_of a) Number _ _ (λ imsi. read_or (number_in 0 (2 ^ 32 - 1) b) Number _ _
    (λ up. read_or (number_in 0 (2 ^ 32 - 1) c) Number _ _
    (λ down. refl)))
ambr_fault _ = refl

move_fault : (texts : List (List ℕ)) → result_err (move_meaning texts)
    ≡ kind_fault (Some (an_imsi ∷ a_number 0 63 ∷ [])) texts
move_fault (a ∷ b ∷ []) = read_or (imsi_of a) Number _ _ (λ imsi. read_or (number_in 0 63 b) Number _ _ (λ slice. refl))
move_fault _ = refl

fence_fault : (texts : List (List ℕ)) → result_err (fence_meaning texts) ≡ kind_fault (Some []) texts
fence_fault [] = refl
fence_fault (text ∷ texts) = refl

-- the word decides
either : (texts : List (List ℕ)) (b : Bool) (here there : Result LineKind LineBad) (forms others : Option (List Form))
    → result_err here ≡ kind_fault forms texts → result_err there ≡ kind_fault others texts
    → result_err (if b then here else there) ≡ kind_fault (if b then forms else others) texts
either texts true here there forms others same other = same
either texts false here there forms others same other = other

kinds_fault : (word : List ℕ) (texts : List (List ℕ))
    → result_err (kind_meaning word texts) ≡ kind_fault (forms_of word) texts
kinds_fault word texts =
    either texts (bytes_eq word (codes "S1U")) _ _ _ _ (message_fault kind.S1u texts)
    (either texts (bytes_eq word (codes "SGI")) _ _ _ _ (message_fault kind.Sgi texts)
    (either texts (bytes_eq word (codes "S11")) _ _ _ _ (message_fault kind.S11 texts)
    (either texts (bytes_eq word (codes "ATTACH")) _ _ _ _ (attach_fault texts)
    (either texts (bytes_eq word (codes "BEARER")) _ _ _ _ (bearer_fault texts)
    (either texts (bytes_eq word (codes "FILTERS")) _ _ _ _ (filters_fault texts)
    (either texts (bytes_eq word (codes "DROP")) _ _ _ _ (drop_fault texts)
    (either texts (bytes_eq word (codes "AMBR")) _ _ _ _ (ambr_fault texts)
    (either texts (bytes_eq word (codes "MOVE")) _ _ _ _ (move_fault texts)
    (either texts (bytes_eq word (codes "FENCE")) _ _ _ _ (fence_fault texts) refl)))))))))

-- a kind, then the moment
moment_fault : (back : Bool) (kind : LineKind) (number moment : ℕ)
    → result_err {T = Line} (if back then Err MomentBack
    else Ok (record { number = number; moment = moment; kind = kind }))
    ≡ (if back then Some MomentBack else None)
moment_fault true kind number moment = refl
moment_fault false kind number moment = refl

behind_kind : (said : Result LineKind LineBad) (least number moment : ℕ)
    → result_err (said >>= (λ kind. moment_meaning least number moment kind))
    ≡ or_else (result_err said) (if nat_lt moment least then Some MomentBack else None)
behind_kind (Err why) least number moment = refl
behind_kind (Ok kind) least number moment = moment_fault (nat_lt moment least) kind number moment

behind_moment : (moment : Option ℕ) (least number : ℕ) (said : Result LineKind LineBad) (fault : Option LineBad)
    → result_err said ≡ fault
    → result_err (ok_or moment Number >>= (λ at. said >>= (λ kind. moment_meaning least number at kind)))
    ≡ (if is_none moment then Some Number else or_else fault (if nat_lt (unwrap_or moment 0) least
    then Some MomentBack else None))
behind_moment None least number said fault same = refl
behind_moment (Some at) least number said fault same =
    behind_kind said least number at ∙ ap (λ why. or_else why (if nat_lt at least then Some MomentBack else None)) same

faults_of_fields : (least number : ℕ) (texts : List (List ℕ))
    → result_err (line_of_fields least number texts) ≡ fields_fault least texts
faults_of_fields least number (moment ∷ word ∷ texts) =
    behind_moment (moment_of moment) least number (kind_meaning word texts) (kind_fault (forms_of word) texts)
    (kinds_fault word texts)
faults_of_fields least number [] = refl
faults_of_fields least number (moment ∷ []) = refl

if_empty : (b : Bool) (read : Result Line LineBad) (fault : Option LineBad) → result_err read ≡ fault
    → result_err (if b then Err Field else read) ≡ (if b then Some Field else fault)
if_empty true read fault same = refl
if_empty false read fault same = same

pub fault_is : (least number : ℕ) (text : List ℕ) → result_err (line_meaning least number text) ≡ first_fault least text
fault_is least number text =
    if_empty (has_empty_field text) (line_of_fields least number (fields_of text)) (fields_fault least (fields_of text))
    (faults_of_fields least number (fields_of text))
