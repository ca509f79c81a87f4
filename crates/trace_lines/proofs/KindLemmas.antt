-- The kinds of line: which fields a kind has, and which kind fields are.
use Rattle.std.proofs.Common.{◌≡◌, ℕ, ◌^◌, ◌-◌, ◌<◌, Bool, true, false, List, [], ◌∷◌, map, refl, sym, ap, ◌∙◌, arith, Option, Some, None, Result, Ok, Err, if◌then◌else◌, codes, lit<}
use Rattle.std.specs.Prelude.{decimal}
use Rattle.std.specs.Option.{ok_or}
use Rattle.std.specs.Str.{bytes_eq}
use Rattle.std.proofs.lemmas.Slice.Eq.{bytes_eq-Decides}
use Rattle.hex.specs.Hex.{encode_lower}
use Rattle.pc_base.specs.declared.packet.Peer.{Peer}
use Rattle.text_fields.specs.Number.{number_in}
use Rattle.text_fields.specs.Address.{address_of}
use Rattle.text_fields.specs.Hexadecimal.{in_lower_case, octets_of}
use Rattle.trace_lines.specs.declared.bad.LineBad.{LineBad}
use Rattle.trace_lines.specs.declared.bad.LineBad.TheVariants.{Number, Hex}
use Rattle.trace_lines.specs.Kind.{LineKind}
use Rattle.trace_lines.specs.Kind as kind
use Rattle.trace_lines.specs.Arguments.{imsi_of, teid_of}
use Rattle.trace_lines.specs.Line.{IsOctets, IsKind}
use Rattle.trace_lines.specs.Text.{kind_word, arguments}
use Rattle.trace_lines.specs.Refused.{◌>>=◌}
use Rattle.trace_lines.specs.Meaning.{message_meaning, attach_meaning, bearer_meaning, filters_meaning, drop_meaning, ambr_meaning, move_meaning, fence_meaning, as_kind, kind_meaning}
use Rattle.trace_lines.proofs.FormLemmas.{imsi_taken, imsi_given, number_taken, number_given, address_taken, address_given, teid_taken, teid_given, octets_taken, octets_given}

-- a word and arguments are those of a kind, up to the case of hexadecimal digits
pub record Says (word : List ℕ) (texts : List (List ℕ)) (said : LineKind) : Type 0 where
  pub is_word : kind_word said ≡ word
  pub are_arguments : map in_lower_case texts ≡ arguments said
  pub is_kind : IsKind said

-- the argument that was read, and what was made of it
pub taken : {A B : Type 0} (value : Option A) (why : LineBad) (f : A → Result B LineBad) (y : B)
    → (ok_or value why >>= f) ≡ Ok y
    → (x : A) × (value ≡ Some x) × (f x ≡ Ok y)
taken (Some x) why f y is = (x, refl, is)
taken None why f y is = cc

pub bound : {A B : Type 0} (value : Result A LineBad) (f : A → Result B LineBad) (y : B) → (value >>= f) ≡ Ok y
    → (x : A) × (value ≡ Ok x) × (f x ≡ Ok y)
bound (Ok x) f y is = (x, refl, is)
bound (Err why) f y is = cc

pub some_from_ok : {A : Type 0} (value : Option A) (why : LineBad) (x : A) → ok_or value why ≡ Ok x → value ≡ Some x
some_from_ok (Some y) why x is = let same : y ≡ x = cc in ap Some same
some_from_ok None why x is = cc

-- numbers of the ranges that lines have
session_given : (n : ℕ) (text : List ℕ) → number_in 0 (2 ^ 32 - 1) text ≡ Some n → (in_lower_case text ≡ decimal n)
    × (n < 2 ^ 32)
session_given n text read =
    let given = number_given 0 (2 ^ 32 - 1) n text (lit< tt) read in (given.0, omega (arith, given.2))

session_taken : (n : ℕ) (text : List ℕ) → n < 2 ^ 32 → in_lower_case text ≡ decimal n
    → number_in 0 (2 ^ 32 - 1) text ≡ Some n
session_taken n text fits same = number_taken 0 (2 ^ 32 - 1) n text (omega arith) (omega arith) (omega arith) same

bearer_given : (n : ℕ) (text : List ℕ) → number_in 0 (2 ^ 40 - 1) text ≡ Some n → (in_lower_case text ≡ decimal n)
    × (n < 2 ^ 40)
bearer_given n text read =
    let given = number_given 0 (2 ^ 40 - 1) n text (lit< tt) read in (given.0, omega (arith, given.2))

bearer_taken : (n : ℕ) (text : List ℕ) → n < 2 ^ 40 → in_lower_case text ≡ decimal n
    → number_in 0 (2 ^ 40 - 1) text ≡ Some n
bearer_taken n text fits same = number_taken 0 (2 ^ 40 - 1) n text (omega arith) (omega arith) (omega arith) same

-- messages
message_given : (texts : List (List ℕ)) (octets : List ℕ) → message_meaning texts ≡ Ok octets
    → (map in_lower_case texts ≡ encode_lower octets ∷ []) × IsOctets octets
message_given (text ∷ []) octets read =
    let given = octets_given text octets (some_from_ok (octets_of text) Hex octets read) in
    (ap (λ field. field ∷ []) given.0, given.1)
message_given [] octets read = cc
message_given (text ∷ other ∷ texts) octets read = cc

message_taken : (texts : List (List ℕ)) (octets : List ℕ) → IsOctets octets
    → map in_lower_case texts ≡ encode_lower octets ∷ []
    → message_meaning texts ≡ Ok octets
message_taken (text ∷ []) octets is same =
    let field : in_lower_case text ≡ encode_lower octets = cc in
    ap (λ value. ok_or value Hex) (octets_taken text octets is field)
message_taken [] octets is same = cc
message_taken (text ∷ other ∷ texts) octets is same = cc

as_kind_given : (kind_of : List ℕ → LineKind) (texts : List (List ℕ)) (said : LineKind)
    → as_kind kind_of (message_meaning texts) ≡ Ok said
    → (octets : List ℕ) × (kind_of octets ≡ said) × (map in_lower_case texts ≡ encode_lower octets ∷ [])
    × IsOctets octets
as_kind_given kind_of texts said read =
    let got = bound (message_meaning texts) (λ octets. Ok (kind_of octets)) said read in
    let given = message_given texts got.0 got.1 in
    let same : kind_of got.0 ≡ said = cc (got.2) in
    (got.0, same, given.0, given.1)

s1u_given : (texts : List (List ℕ)) (said : LineKind) → as_kind kind.S1u (message_meaning texts) ≡ Ok said
    → Says (codes "S1U") texts said
s1u_given texts said read =
    let got = as_kind_given kind.S1u texts said read in
    let same : kind.S1u got.0 ≡ said = got.1 in
    rw (← same) (record { is_word = refl; are_arguments = got.2; is_kind = got.3 })

sgi_given : (texts : List (List ℕ)) (said : LineKind) → as_kind kind.Sgi (message_meaning texts) ≡ Ok said
    → Says (codes "SGI") texts said
sgi_given texts said read =
    let got = as_kind_given kind.Sgi texts said read in
    let same : kind.Sgi got.0 ≡ said = got.1 in
    rw (← same) (record { is_word = refl; are_arguments = got.2; is_kind = got.3 })

s11_given : (texts : List (List ℕ)) (said : LineKind) → as_kind kind.S11 (message_meaning texts) ≡ Ok said
    → Says (codes "S11") texts said
s11_given texts said read =
    let got = as_kind_given kind.S11 texts said read in
    let same : kind.S11 got.0 ≡ said = got.1 in
    rw (← same) (record { is_word = refl; are_arguments = got.2; is_kind = got.3 })

-- orders: each argument in its text
two_fields : (a b a' b' : List ℕ) → in_lower_case a ≡ a' → in_lower_case b ≡ b'
    → map in_lower_case (a ∷ b ∷ []) ≡ a' ∷ b' ∷ []
two_fields a b a' b' is_a is_b = cc

three_fields : (a b c a' b' c' : List ℕ) → in_lower_case a ≡ a' → in_lower_case b ≡ b' → in_lower_case c ≡ c'
    → map in_lower_case (a ∷ b ∷ c ∷ []) ≡ a' ∷ b' ∷ c' ∷ []
three_fields a b c a' b' c' is_a is_b is_c = cc

five_fields : (a b c d e a' b' c' d' e' : List ℕ) → in_lower_case a ≡ a' → in_lower_case b ≡ b'
    → in_lower_case c ≡ c' → in_lower_case d ≡ d'
    → in_lower_case e ≡ e' → map in_lower_case (a ∷ b ∷ c ∷ d ∷ e ∷ []) ≡ a' ∷ b' ∷ c' ∷ d' ∷ e' ∷ []
five_fields a b c d e a' b' c' d' e' is_a is_b is_c is_d is_e = cc

seven_fields : (a b c d e f g a' b' c' d' e' f' g' : List ℕ) → in_lower_case a ≡ a' → in_lower_case b ≡ b'
    → in_lower_case c ≡ c'
    → in_lower_case d ≡ d' → in_lower_case e ≡ e' → in_lower_case f ≡ f' → in_lower_case g ≡ g'
    → map in_lower_case (a ∷ b ∷ c ∷ d ∷ e ∷ f ∷ g ∷ []) ≡ a' ∷ b' ∷ c' ∷ d' ∷ e' ∷ f' ∷ g' ∷ []
seven_fields a b c d e f g a' b' c' d' e' f' g' is_a is_b is_c is_d is_e is_f is_g = cc

attach_given : (texts : List (List ℕ)) (said : LineKind) → attach_meaning texts ≡ Ok said
    → Says (codes "ATTACH") texts said
attach_given (a ∷ b ∷ c ∷ d ∷ e ∷ []) said read =
    let imsi = taken (imsi_of a) Number _ said read in
    let addr = taken (address_of b) Number _ said imsi.2 in
    let teid = taken (teid_of c) Number _ said addr.2 in
    let up = taken (number_in 0 (2 ^ 32 - 1) d) Number _ said teid.2 in
    let down = taken (number_in 0 (2 ^ 32 - 1) e) Number _ said up.2 in
    let is_imsi = imsi_given a imsi.0 imsi.1 in
    let is_addr = address_given b addr.0 addr.1 in
    let is_teid = teid_given c teid.0 teid.1 in
    let is_up = session_given up.0 d up.1 in
    let is_down = session_given down.0 e down.1 in
    let same : kind.Attach imsi.0 (record { teid = teid.0; addr = addr.0 }) up.0 down.0 ≡ said = cc (down.2) in
    rw (← same) (record {
      is_word = refl;
      are_arguments = five_fields a b c d e _ _ _ _ _ is_imsi.0 is_addr.0 is_teid.0 is_up.0 is_down.0;
      is_kind = (is_imsi.1, is_addr.1, is_teid.1, is_up.1, is_down.1);
    })
attach_given _ said read = cc

bearer_kind_given : (texts : List (List ℕ)) (said : LineKind) → bearer_meaning texts ≡ Ok said
    → Says (codes "BEARER") texts said
bearer_kind_given (a ∷ b ∷ c ∷ d ∷ e ∷ f ∷ g ∷ []) said read =
    let imsi = taken (imsi_of a) Number _ said read in
    let qci = taken (number_in 1 255 b) Number _ said imsi.2 in
    let mbr_up = taken (number_in 0 (2 ^ 40 - 1) c) Number _ said qci.2 in
    let mbr_down = taken (number_in 0 (2 ^ 40 - 1) d) Number _ said mbr_up.2 in
    let gbr_up = taken (number_in 0 (2 ^ 40 - 1) e) Number _ said mbr_down.2 in
    let gbr_down = taken (number_in 0 (2 ^ 40 - 1) f) Number _ said gbr_up.2 in
    let tft = taken (octets_of g) Hex _ said gbr_down.2 in
    let is_imsi = imsi_given a imsi.0 imsi.1 in
    let is_qci = number_given 1 255 qci.0 b (lit< tt) qci.1 in
    let is_mbr_up = bearer_given mbr_up.0 c mbr_up.1 in
    let is_mbr_down = bearer_given mbr_down.0 d mbr_down.1 in
    let is_gbr_up = bearer_given gbr_up.0 e gbr_up.1 in
    let is_gbr_down = bearer_given gbr_down.0 f gbr_down.1 in
    let is_tft = octets_given g tft.0 tft.1 in
    let same : kind.Bearer imsi.0 qci.0 mbr_up.0 mbr_down.0 gbr_up.0 gbr_down.0 tft.0 ≡ said = cc (tft.2) in
    rw (← same) (record {
      is_word = refl;
      are_arguments = seven_fields a b c d e f g _ _ _ _ _ _ _ is_imsi.0 is_qci.0 is_mbr_up.0 is_mbr_down.0
          is_gbr_up.0 is_gbr_down.0 is_tft.0;
      is_kind = (is_imsi.1, (is_qci.1, is_qci.2), is_mbr_up.1, is_mbr_down.1, is_gbr_up.1, is_gbr_down.1, is_tft.1);
    })
bearer_kind_given _ said read = cc

filters_given : (texts : List (List ℕ)) (said : LineKind) → filters_meaning texts ≡ Ok said
    → Says (codes "FILTERS") texts said
filters_given (a ∷ b ∷ c ∷ []) said read =
    let imsi = taken (imsi_of a) Number _ said read in
    let ebi = taken (number_in 5 15 b) Number _ said imsi.2 in
    let tft = taken (octets_of c) Hex _ said ebi.2 in
    let is_imsi = imsi_given a imsi.0 imsi.1 in
    let is_ebi = number_given 5 15 ebi.0 b (lit< tt) ebi.1 in
    let is_tft = octets_given c tft.0 tft.1 in
    let same : kind.Filters imsi.0 ebi.0 tft.0 ≡ said = cc (tft.2) in
    rw (← same) (record {
      is_word = refl;
      are_arguments = three_fields a b c _ _ _ is_imsi.0 is_ebi.0 is_tft.0;
      is_kind = (is_imsi.1, (is_ebi.1, is_ebi.2), is_tft.1);
    })
filters_given _ said read = cc

drop_given : (texts : List (List ℕ)) (said : LineKind) → drop_meaning texts ≡ Ok said → Says (codes "DROP") texts said
drop_given (a ∷ b ∷ []) said read =
    let imsi = taken (imsi_of a) Number _ said read in
    let ebi = taken (number_in 5 15 b) Number _ said imsi.2 in
    let is_imsi = imsi_given a imsi.0 imsi.1 in
    let is_ebi = number_given 5 15 ebi.0 b (lit< tt) ebi.1 in
    let same : kind.Drop imsi.0 ebi.0 ≡ said = cc (ebi.2) in
    rw (← same) (record {
      is_word = refl;
      are_arguments = two_fields a b _ _ is_imsi.0 is_ebi.0;
      is_kind = (is_imsi.1, (is_ebi.1, is_ebi.2));
    })
drop_given _ said read = cc

ambr_given : (texts : List (List ℕ)) (said : LineKind) → ambr_meaning texts ≡ Ok said → Says (codes "AMBR") texts said
ambr_given (a ∷ b ∷ c ∷ []) said read =
    let imsi = taken (imsi_of a) Number _ said read in
    let up = taken (number_in 0 (2 ^ 32 - 1) b) Number _ said imsi.2 in
    let down = taken (number_in 0 (2 ^ 32 - 1) c) Number _ said up.2 in
    let is_imsi = imsi_given a imsi.0 imsi.1 in
    let is_up = session_given up.0 b up.1 in
    let is_down = session_given down.0 c down.1 in
    let same : kind.Ambr imsi.0 up.0 down.0 ≡ said = cc (down.2) in
    rw (← same) (record {
      is_word = refl;
      are_arguments = three_fields a b c _ _ _ is_imsi.0 is_up.0 is_down.0;
      is_kind = (is_imsi.1, is_up.1, is_down.1);
    })
ambr_given _ said read = cc

move_given : (texts : List (List ℕ)) (said : LineKind) → move_meaning texts ≡ Ok said → Says (codes "MOVE") texts said
move_given (a ∷ b ∷ []) said read =
    let imsi = taken (imsi_of a) Number _ said read in
    let slice = taken (number_in 0 63 b) Number _ said imsi.2 in
    let is_imsi = imsi_given a imsi.0 imsi.1 in
    let is_slice = number_given 0 63 slice.0 b (lit< tt) slice.1 in
    let same : kind.Move imsi.0 slice.0 ≡ said = cc (slice.2) in
    rw (← same) (record {
      is_word = refl;
      are_arguments = two_fields a b _ _ is_imsi.0 is_slice.0;
      is_kind = (is_imsi.1, is_slice.2);
    })
move_given _ said read = cc

fence_given : (texts : List (List ℕ)) (said : LineKind) → fence_meaning texts ≡ Ok said
    → Says (codes "FENCE") texts said
fence_given [] said read =
    let same : kind.Fence ≡ said = cc in
    rw (← same) (record { is_word = refl; are_arguments = refl; is_kind = tt })
fence_given _ said read = cc

-- the word decides
at_word : (word known : List ℕ) (texts : List (List ℕ)) (said : LineKind) → bytes_eq word known ≡ true
    → Says known texts said → Says word texts said
at_word word known texts said test says =
    let same : word ≡ known = (bytes_eq-Decides word known).0 test in
    record { is_word = says.is_word ∙ sym same; are_arguments = says.are_arguments; is_kind = says.is_kind }

either : (word known : List ℕ) (texts : List (List ℕ)) (said : LineKind) (b : Bool)
    (here there : Result LineKind LineBad)
    → bytes_eq word known ≡ b → (here ≡ Ok said → Says known texts said) → (there ≡ Ok said → Says word texts said)
    → (if b then here else there) ≡ Ok said → Says word texts said
either word known texts said true here there test says others read = at_word word known texts said test (says read)
either word known texts said false here there test says others read = others read

pub kind_given : (word : List ℕ) (texts : List (List ℕ)) (said : LineKind) → kind_meaning word texts ≡ Ok said
    → Says word texts said
kind_given word texts said =
    either word (codes "S1U") texts said _ _ _ refl (s1u_given texts said)
    (either word (codes "SGI") texts said _ _ _ refl (sgi_given texts said)
    (either word (codes "S11") texts said _ _ _ refl (s11_given texts said)
    (either word (codes "ATTACH") texts said _ _ _ refl (attach_given texts said)
    (either word (codes "BEARER") texts said _ _ _ refl (bearer_kind_given texts said)
    (either word (codes "FILTERS") texts said _ _ _ refl (filters_given texts said)
    (either word (codes "DROP") texts said _ _ _ refl (drop_given texts said)
    (either word (codes "AMBR") texts said _ _ _ refl (ambr_given texts said)
    (either word (codes "MOVE") texts said _ _ _ refl (move_given texts said)
    (either word (codes "FENCE") texts said _ _ _ refl (fence_given texts said) (λ none. cc none))))))))))

-- the other way round
attach_taken : (texts : List (List ℕ)) (imsi : List ℕ) (enb : Peer) (up down : ℕ)
    → IsKind (kind.Attach imsi enb up down)
    → map in_lower_case texts ≡ arguments (kind.Attach imsi enb up down)
    → attach_meaning texts ≡ Ok (kind.Attach imsi enb up down)
attach_taken (a ∷ b ∷ c ∷ d ∷ e ∷ []) imsi enb up down is same =
    let is_imsi = imsi_taken a imsi is.0 (cc) in
    let is_addr = address_taken b enb.addr is.1 (cc) in
    let is_teid = teid_taken c enb.teid is.2 (cc) in
    let is_up = session_taken up d is.3 (cc) in
    let is_down = session_taken down e is.4 (cc) in
    rw (is_imsi, is_addr, is_teid, is_up, is_down) refl
attach_taken _ imsi enb up down is same = cc

bearer_kind_taken : (texts : List (List ℕ)) (imsi : List ℕ) (qci mbr_up mbr_down gbr_up gbr_down : ℕ) (tft : List ℕ)
    → IsKind (kind.Bearer imsi qci mbr_up mbr_down gbr_up gbr_down tft)
    → map in_lower_case texts ≡ arguments (kind.Bearer imsi qci mbr_up mbr_down gbr_up gbr_down tft)
    → bearer_meaning texts ≡ Ok (kind.Bearer imsi qci mbr_up mbr_down gbr_up gbr_down tft)
bearer_kind_taken (a ∷ b ∷ c ∷ d ∷ e ∷ f ∷ g ∷ []) imsi qci mbr_up mbr_down gbr_up gbr_down tft is same =
    let is_imsi = imsi_taken a imsi is.0 (cc) in
    let is_qci = number_taken 1 255 qci b (omega (arith, is.1.1)) is.1.0 is.1.1 (cc) in
    let is_mbr_up = bearer_taken mbr_up c is.2 (cc) in
    let is_mbr_down = bearer_taken mbr_down d is.3 (cc) in
    let is_gbr_up = bearer_taken gbr_up e is.4 (cc) in
    let is_gbr_down = bearer_taken gbr_down f is.5 (cc) in
    let is_tft = octets_taken g tft is.6 (cc) in
    rw (is_imsi, is_qci, is_mbr_up, is_mbr_down, is_gbr_up, is_gbr_down, is_tft) refl
bearer_kind_taken _ imsi qci mbr_up mbr_down gbr_up gbr_down tft is same = cc

filters_taken : (texts : List (List ℕ)) (imsi : List ℕ) (ebi : ℕ) (tft : List ℕ) → IsKind (kind.Filters imsi ebi tft)
    → map in_lower_case texts ≡ arguments (kind.Filters imsi ebi tft)
    → filters_meaning texts ≡ Ok (kind.Filters imsi ebi tft)
filters_taken (a ∷ b ∷ c ∷ []) imsi ebi tft is same =
    let is_imsi = imsi_taken a imsi is.0 (cc) in
    let is_ebi = number_taken 5 15 ebi b (omega (arith, is.1.1)) is.1.0 is.1.1 (cc) in
    let is_tft = octets_taken c tft is.2 (cc) in
    rw (is_imsi, is_ebi, is_tft) refl
filters_taken _ imsi ebi tft is same = cc

drop_taken : (texts : List (List ℕ)) (imsi : List ℕ) (ebi : ℕ) → IsKind (kind.Drop imsi ebi)
    → map in_lower_case texts ≡ arguments (kind.Drop imsi ebi) → drop_meaning texts ≡ Ok (kind.Drop imsi ebi)
drop_taken (a ∷ b ∷ []) imsi ebi is same =
    let is_imsi = imsi_taken a imsi is.0 (cc) in
    let is_ebi = number_taken 5 15 ebi b (omega (arith, is.1.1)) is.1.0 is.1.1 (cc) in
    rw (is_imsi, is_ebi) refl
drop_taken _ imsi ebi is same = cc

ambr_taken : (texts : List (List ℕ)) (imsi : List ℕ) (up down : ℕ) → IsKind (kind.Ambr imsi up down)
    → map in_lower_case texts ≡ arguments (kind.Ambr imsi up down) → ambr_meaning texts ≡ Ok (kind.Ambr imsi up down)
ambr_taken (a ∷ b ∷ c ∷ []) imsi up down is same =
    let is_imsi = imsi_taken a imsi is.0 (cc) in
    let is_up = session_taken up b is.1 (cc) in
    let is_down = session_taken down c is.2 (cc) in
    rw (is_imsi, is_up, is_down) refl
ambr_taken _ imsi up down is same = cc

move_taken : (texts : List (List ℕ)) (imsi : List ℕ) (slice : ℕ) → IsKind (kind.Move imsi slice)
    → map in_lower_case texts ≡ arguments (kind.Move imsi slice) → move_meaning texts ≡ Ok (kind.Move imsi slice)
move_taken (a ∷ b ∷ []) imsi slice is same =
    let is_imsi = imsi_taken a imsi is.0 (cc) in
    let is_slice = number_taken 0 63 slice b (omega (arith, is.1)) (omega arith) is.1 (cc) in
    rw (is_imsi, is_slice) refl
move_taken _ imsi slice is same = cc

fence_taken : (texts : List (List ℕ)) → map in_lower_case texts ≡ [] → fence_meaning texts ≡ Ok kind.Fence
fence_taken [] same = refl
fence_taken (text ∷ texts) same = cc

message_kind_taken : (kind_of : List ℕ → LineKind) (texts : List (List ℕ)) (octets : List ℕ) → IsOctets octets
    → map in_lower_case texts ≡ encode_lower octets ∷ [] → as_kind kind_of (message_meaning texts) ≡ Ok (kind_of octets)
message_kind_taken kind_of texts octets is same = rw (message_taken texts octets is same) refl

pub kind_taken : (said : LineKind) (texts : List (List ℕ)) → IsKind said → map in_lower_case texts ≡ arguments said
    → kind_meaning (kind_word said) texts ≡ Ok said
kind_taken (kind.S11 octets) texts is same = message_kind_taken kind.S11 texts octets is same
kind_taken (kind.S1u octets) texts is same = message_kind_taken kind.S1u texts octets is same
kind_taken (kind.Sgi octets) texts is same = message_kind_taken kind.Sgi texts octets is same
kind_taken (kind.Attach imsi enb up down) texts is same = attach_taken texts imsi enb up down is same
kind_taken (kind.Bearer imsi qci mbr_up mbr_down gbr_up gbr_down tft) texts is same =
    bearer_kind_taken texts imsi qci mbr_up mbr_down gbr_up gbr_down tft is same
kind_taken (kind.Filters imsi ebi tft) texts is same = filters_taken texts imsi ebi tft is same
kind_taken (kind.Drop imsi ebi) texts is same = drop_taken texts imsi ebi is same
kind_taken (kind.Ambr imsi up down) texts is same = ambr_taken texts imsi up down is same
kind_taken (kind.Move imsi slice) texts is same = move_taken texts imsi slice is same
kind_taken kind.Fence texts is same = fence_taken texts same
