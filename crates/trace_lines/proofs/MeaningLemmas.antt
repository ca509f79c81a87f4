-- A text and the lines that it means.
use Rattle.std.proofs.Common.{◌≡◌, ◌≢◌, ℕ, ◌^◌, ◌-◌, ◌<◌, ◌≤◌, ◌==◌, Bool, true, false, List, [], ◌∷◌, length, length-append, get_or, not, map, All, refl, sym, ap, ◌∙◌, arith, Option, Some, Result, Ok, Err, cond, nat_lt, lit<}
use Rattle.std.specs.Prelude.{decimal, codes}
use Rattle.std.specs.List.{list_any, list_all, join_with_byte}
use Rattle.std.specs.Option.{ok_or}
use Rattle.std.proofs.lemmas.Bool.Decides.{nat_tests}
use Rattle.std.proofs.lemmas.List.{length-map}
use Rattle.std.proofs.lemmas.List.Elements.{All-map}
use Rattle.std.proofs.lemmas.List.Sums.{AllPass-from_list_all}
use Rattle.std.proofs.lemmas.List.Splits.{length-slice_split}
use Rattle.text_fields.specs.Fields.{AllLack, space, fields_of, joined, is_empty, has_empty_field}
use Rattle.text_fields.specs.Number.{number_in}
use Rattle.text_fields.specs.Hexadecimal.{lower, in_lower_case}
use Rattle.text_fields.proofs.DigitLemmas.{number_read, number_only}
use Rattle.text_fields.proofs.FieldLemmas.{pieces-joined, joined-pieces, pieces_lack}
use Rattle.trace_lines.specs.declared.bad.LineBad.{LineBad}
use Rattle.trace_lines.specs.declared.bad.LineBad.TheVariants.{Number, Field, MomentBack}
use Rattle.trace_lines.specs.Kind.{LineKind}
use Rattle.trace_lines.specs.Kind as kind
use Rattle.trace_lines.specs.Line.{Line, IsLine, IsKind}
use Rattle.trace_lines.specs.Text.{Means, kind_word, arguments, line_fields, line_text, lowered_fields, lowered}
use Rattle.trace_lines.specs.Refused.{◌>>=◌}
use Rattle.trace_lines.specs.Meaning.{kind_meaning, moment_meaning, line_of_fields, line_meaning}
use Rattle.text_fields.proofs.PlainLemmas.{IsField, kept, field-decimal, field-dotted, field-encode_lower}
use Rattle.trace_lines.proofs.FormLemmas.{field-imsi, field-teid}
use Rattle.trace_lines.proofs.KindLemmas.{Says, taken, bound, kind_given, kind_taken}

lower_other : (octet : ℕ) → octet ≢ 32 → lower octet ≢ 32
lower_other octet other same = other (grind (arith, nat_tests))

ok_same : (read also : Result Line LineBad) (line other : Line) → read ≡ Ok line → also ≡ Ok other → read ≡ also
    → line ≡ other
ok_same read also line other is_line is_other same = cc

-- each of the texts is a field: some, plain and in lower case
abbrev AreFields : List (List ℕ) → Type 0
AreFields [] = Unit {0}
AreFields (text ∷ texts) = IsField text × AreFields texts

fields_of_kind : (said : LineKind) → IsKind said → AreFields (arguments said)
fields_of_kind (kind.S11 octets) is = (field-encode_lower octets is.0 is.1, tt)
fields_of_kind (kind.S1u octets) is = (field-encode_lower octets is.0 is.1, tt)
fields_of_kind (kind.Sgi octets) is = (field-encode_lower octets is.0 is.1, tt)
fields_of_kind (kind.Attach imsi enb up down) is = (
  field-imsi imsi is.0,
  (
    field-dotted enb.addr is.1,
    (field-teid enb.teid, (field-decimal up (omega (arith, is.3)), (field-decimal down (omega (arith, is.4)), tt))),
  ),
)
fields_of_kind (kind.Bearer imsi qci mbr_up mbr_down gbr_up gbr_down tft) is = (
  field-imsi imsi is.0,
  (
    field-decimal qci (omega (arith, is.1.1)),
    (
      field-decimal mbr_up (omega (arith, is.2)),
      (
        field-decimal mbr_down (omega (arith, is.3)),
        (
          field-decimal gbr_up (omega (arith, is.4)),
          (field-decimal gbr_down (omega (arith, is.5)), (field-encode_lower tft is.6.0 is.6.1, tt)),
        ),
      ),
    ),
  ),
)
fields_of_kind (kind.Filters imsi ebi tft) is =
    (field-imsi imsi is.0, (field-decimal ebi (omega (arith, is.1.1)), (field-encode_lower tft is.2.0 is.2.1, tt)))
fields_of_kind (kind.Drop imsi ebi) is = (field-imsi imsi is.0, (field-decimal ebi (omega (arith, is.1.1)), tt))
fields_of_kind (kind.Ambr imsi up down) is =
    (field-imsi imsi is.0, (field-decimal up (omega (arith, is.1)), (field-decimal down (omega (arith, is.2)), tt)))
fields_of_kind (kind.Move imsi slice) is = (field-imsi imsi is.0, (field-decimal slice (omega (arith, is.1)), tt))
fields_of_kind kind.Fence is = tt

-- the words of kinds are in upper case, and lack a space all the same
lacks_from_test : (word : List ℕ) → list_all (λ octet. not (octet == 32)) word ≡ true → All (λ octet. octet ≢ 32) word
lacks_from_test word test k d inside =
    let passed = AllPass-from_list_all (λ octet. not (octet == 32)) word test k d inside in λ same.
    grind (arith, nat_tests)

word_lacks : (said : LineKind) → All (λ octet. octet ≢ 32) (kind_word said)
word_lacks (kind.S11 octets) = lacks_from_test (codes "S11") refl
word_lacks (kind.S1u octets) = lacks_from_test (codes "S1U") refl
word_lacks (kind.Sgi octets) = lacks_from_test (codes "SGI") refl
word_lacks (kind.Attach imsi enb up down) = lacks_from_test (codes "ATTACH") refl
word_lacks (kind.Bearer imsi qci mbr_up mbr_down gbr_up gbr_down tft) = lacks_from_test (codes "BEARER") refl
word_lacks (kind.Filters imsi ebi tft) = lacks_from_test (codes "FILTERS") refl
word_lacks (kind.Drop imsi ebi) = lacks_from_test (codes "DROP") refl
word_lacks (kind.Ambr imsi up down) = lacks_from_test (codes "AMBR") refl
word_lacks (kind.Move imsi slice) = lacks_from_test (codes "MOVE") refl
word_lacks kind.Fence = lacks_from_test (codes "FENCE") refl

some_word : (said : LineKind) → is_empty (kind_word said) ≡ false
some_word (kind.S11 octets) = refl
some_word (kind.S1u octets) = refl
some_word (kind.Sgi octets) = refl
some_word (kind.Attach imsi enb up down) = refl
some_word (kind.Bearer imsi qci mbr_up mbr_down gbr_up gbr_down tft) = refl
some_word (kind.Filters imsi ebi tft) = refl
some_word (kind.Drop imsi ebi) = refl
some_word (kind.Ambr imsi up down) = refl
some_word (kind.Move imsi slice) = refl
some_word kind.Fence = refl

-- fields lack a space, are some, and stand in lower case
field_lacks : (text : List ℕ) → IsField text → All (λ octet. octet ≢ 32) text
field_lacks text field k d inside = (field.plain k d inside).0

fields_lack : (texts : List (List ℕ)) → AreFields texts → AllLack space texts
fields_lack [] fields = tt
fields_lack (text ∷ texts) fields = (field_lacks text fields.0, fields_lack texts fields.1)

fields_kept : (texts : List (List ℕ)) → AreFields texts → map in_lower_case texts ≡ texts
fields_kept [] fields = refl
fields_kept (text ∷ texts) fields =
    let first = kept text fields.0.plain in
    let rest = fields_kept texts fields.1 in
    cc

not_empty : (text : List ℕ) → 0 < length text → is_empty text ≡ false
not_empty [] some = absurd (omega arith)
not_empty (octet ∷ text) some = refl

none_empty : (texts others : List (List ℕ)) → AreFields others → map in_lower_case texts ≡ others
    → list_any is_empty texts ≡ false
none_empty [] others fields same = refl
none_empty (text ∷ texts) [] fields same = cc
none_empty (text ∷ texts) (other ∷ others) fields same =
    let first : in_lower_case text ≡ other = cc in
    let rest : map in_lower_case texts ≡ others = cc in
    let long = fields.0.some in
    let some : 0 < length text = omega (arith, length-map text lower, ap length first) in
    rw (not_empty text some) (none_empty texts others fields.1 rest)

-- lower case takes no space away and puts none there
lower_lacks : (text : List ℕ) → All (λ octet. octet ≢ 32) text → All (λ octet. octet ≢ 32) (in_lower_case text)
lower_lacks text lacks =
    All-map (λ octet. octet ≢ 32) lower text (λ k d inside. lower_other (get_or text k d) (lacks k d inside))

all_lower_lack : (texts : List (List ℕ)) → AllLack space texts → AllLack space (map in_lower_case texts)
all_lower_lack [] lack = tt
all_lower_lack (text ∷ texts) lack = (lower_lacks text lack.0, all_lower_lack texts lack.1)

lowered_lack : (texts : List (List ℕ)) → AllLack space texts → AllLack space (lowered_fields texts)
lowered_lack [] lack = tt
lowered_lack (moment ∷ []) lack = lack
lowered_lack (moment ∷ word ∷ texts) lack = (lack.0, (lack.1.0, all_lower_lack texts lack.1.1))

lowered_some : (texts : List (List ℕ)) → 0 < length texts → 0 < length (lowered_fields texts)
lowered_some [] some = some
lowered_some (moment ∷ []) some = some
lowered_some (moment ∷ word ∷ texts) some = omega arith

-- fields that are joined come apart again
apart : (texts : List (List ℕ)) → 0 < length texts → AllLack space texts → fields_of (joined texts) ≡ texts
apart [] some lack = absurd (omega arith)
apart (text ∷ texts) some lack = pieces-joined space text texts lack

line_lacks : (line : Line) → IsLine line → AllLack space (line_fields line)
line_lacks line is = (
  field_lacks (decimal line.moment) (field-decimal line.moment (omega (arith, is.moment))),
  (word_lacks line.kind, fields_lack (arguments line.kind) (fields_of_kind line.kind is.kind)),
)

line_apart : (line : Line) → IsLine line → fields_of (line_text line) ≡ line_fields line
line_apart line is = apart (line_fields line) (omega arith) (line_lacks line is)

text_apart : (text : List ℕ) → fields_of (lowered text) ≡ lowered_fields (fields_of text)
text_apart text =
    apart (lowered_fields (fields_of text))
    (lowered_some (fields_of text) (omega (arith, length-slice_split (λ octet. octet == space) text)))
    (lowered_lack (fields_of text) (pieces_lack space text))

-- a text of the line has the line's fields, up to the case of hexadecimal digits
same_fields : (text : List ℕ) (line : Line) → Means text line → lowered_fields (fields_of text) ≡ line_fields line
same_fields text line means =
    sym (text_apart text) ∙ ap fields_of means.is_text ∙ line_apart line means.is_line

-- fields of a line are read as it
composed : (moment : Option ℕ) (said : Result LineKind LineBad) (least number at : ℕ) (kind : LineKind)
    → moment ≡ Some at → said ≡ Ok kind
    → nat_lt at least ≡ false
    → (ok_or moment Number >>= (λ m. said >>= (λ k. moment_meaning least number m k)))
    ≡ Ok (record { number = number; moment = at; kind = kind })
composed moment said least number at kind is_moment is_said forward = rw (is_moment, is_said, forward) refl

not_below : (moment least : ℕ) → least ≤ moment → nat_lt moment least ≡ false
not_below moment least above = grind (arith, nat_tests)

moment_read : (moment : ℕ) (text : List ℕ) → moment < 2 ^ 50 → text ≡ decimal moment
    → number_in 0 (2 ^ 50 - 1) text ≡ Some moment
moment_read moment text fits same =
    ap (number_in 0 (2 ^ 50 - 1)) same ∙ number_read 0 (2 ^ 50 - 1) moment (omega arith) (omega arith) (omega arith)

fields_taken : (least : ℕ) (texts : List (List ℕ)) (line : Line) → IsLine line
    → lowered_fields texts ≡ line_fields line → least ≤ line.moment
    → line_of_fields least line.number texts ≡ Ok line
fields_taken least [] line is same above = cc
fields_taken least (moment ∷ []) line is same above = cc
fields_taken least (moment ∷ word ∷ texts) line is same above =
    let first : moment ≡ decimal line.moment = cc in
    let second : word ≡ kind_word line.kind = cc in
    let rest : map in_lower_case texts ≡ arguments line.kind = cc in
    let said = ap (λ w. kind_meaning w texts) second ∙ kind_taken line.kind texts is.kind rest in
    composed (number_in 0 (2 ^ 50 - 1) moment) (kind_meaning word texts) least line.number line.moment line.kind
    (moment_read line.moment moment is.moment first) said (not_below line.moment least above)

fields_some : (texts : List (List ℕ)) (line : Line) → IsLine line → lowered_fields texts ≡ line_fields line
    → list_any is_empty texts ≡ false
fields_some [] line is same = refl
fields_some (moment ∷ []) line is same = cc
fields_some (moment ∷ word ∷ texts) line is same =
    let first : moment ≡ decimal line.moment = cc in
    let second : word ≡ kind_word line.kind = cc in
    let rest : map in_lower_case texts ≡ arguments line.kind = cc in
    let number = field-decimal line.moment (omega (arith, is.moment)) in
    let first_some = ap is_empty first ∙ not_empty (decimal line.moment) number.some in
    let second_some = ap is_empty second ∙ some_word line.kind in
    rw (first_some, second_some) (none_empty texts (arguments line.kind) (fields_of_kind line.kind is.kind) rest)

pub meaning_taken : (least : ℕ) (text : List ℕ) (line : Line) → Means text line → least ≤ line.moment
    → line_meaning least line.number text ≡ Ok line
meaning_taken least text line means above =
    let same = same_fields text line means in
    ap (λ b. cond b (Err Field) (line_of_fields least line.number (fields_of text)))
    (fields_some (fields_of text) line means.is_line same)
    ∙ fields_taken least (fields_of text) line means.is_line same above

-- fields that are read as a line are its fields
pub record Given (least number : ℕ) (texts : List (List ℕ)) (line : Line) : Type 0 where
  pub same : lowered_fields texts ≡ line_fields line
  pub is_line : IsLine line
  pub numbered : line.number ≡ number
  pub in_order : least ≤ line.moment

forward_line : (back : Bool) (line other : Line) → cond back (Err MomentBack) (Ok line) ≡ Ok other → (back ≡ false)
    × (line ≡ other)
forward_line true line other read = cc
forward_line false line other read = (refl, cc)

above_least : (moment least : ℕ) → nat_lt moment least ≡ false → least ≤ moment
above_least moment least forward = grind (arith, nat_tests)

given_fields : (moment word : List ℕ) (texts : List (List ℕ)) (at : ℕ) (said : LineKind) (least number : ℕ)
    → moment ≡ decimal at
    → at ≤ 2 ^ 50 - 1 → Says word texts said → least ≤ at
    → Given least number (moment ∷ word ∷ texts) (record { number = number; moment = at; kind = said })
given_fields moment word texts at said least number is_moment fits says above =
    let second : word ≡ kind_word said = sym says.is_word in
    let rest = says.are_arguments in
    record {
      same = cc;
      is_line = record { moment = omega arith; kind = says.is_kind };
      numbered = refl;
      in_order = above;
    }

pub fields_given : (least number : ℕ) (texts : List (List ℕ)) (line : Line)
    → line_of_fields least number texts ≡ Ok line
    → Given least number texts line
fields_given least number [] line read = cc
fields_given least number (moment ∷ []) line read = cc
fields_given least number (moment ∷ word ∷ texts) line read =
    let at = taken (number_in 0 (2 ^ 50 - 1) moment) Number _ line read in
    let said = bound (kind_meaning word texts) _ line at.2 in
    let forward = forward_line (nat_lt at.0 least) (record { number = number; moment = at.0; kind = said.0 }) line
    said.2 in
    let is_moment = number_only 0 (2 ^ 50 - 1) at.0 moment (lit< tt) at.1 in
    let same : record { number = number; moment = at.0; kind = said.0 } ≡ line = forward.1 in
    rw (← same)
    (given_fields moment word texts at.0 said.0 least number is_moment.0 is_moment.2
    (kind_given word texts said.0 said.1) (above_least at.0 least forward.0))

if_some : (b : Bool) (read : Result Line LineBad) (line : Line) → cond b (Err Field) read ≡ Ok line → read ≡ Ok line
if_some true read line is = cc
if_some false read line is = is

pub meaning_given : (least number : ℕ) (text : List ℕ) (line : Line) → line_meaning least number text ≡ Ok line
    → Means text line × (line.number ≡ number) × (least ≤ line.moment)
meaning_given least number text line read =
    let given = fields_given least number (fields_of text) line (if_some (has_empty_field text) _ line read) in
    (record { is_line = given.is_line; is_text = ap joined given.same }, given.numbered, given.in_order)

-- where the fields are read, none is empty
pub read_some : (least number : ℕ) (text : List ℕ) (line : Line)
    → line_of_fields least number (fields_of text) ≡ Ok line
    → line_meaning least number text ≡ Ok line
read_some least number text line read =
    let given = fields_given least number (fields_of text) line read in
    ap (λ b. cond b (Err Field) (line_of_fields least number (fields_of text)))
    (fields_some (fields_of text) line given.is_line given.same) ∙ read

-- the text of a line means it
pub text_means : (line : Line) → IsLine line → Means (line_text line) line
text_means line is = record {
  is_line = is;
  is_text = ap (λ texts. joined (lowered_fields texts)) (line_apart line is)
      ∙ ap (λ texts. joined (decimal line.moment ∷ kind_word line.kind ∷ texts))
      (fields_kept (arguments line.kind) (fields_of_kind line.kind is.kind));
}

pub one_meaning : (text : List ℕ) (line other : Line) → Means text line → Means text other
    → line.number ≡ other.number → line ≡ other
one_meaning text line other means also numbers =
    let first = meaning_taken 0 text line means (omega arith) in
    let second = meaning_taken 0 text other also (omega arith) in
    let again : line_meaning 0 line.number text ≡ line_meaning 0 other.number text =
    ap (λ n. line_meaning 0 n text) numbers in
    ok_same (line_meaning 0 line.number text) (line_meaning 0 other.number text) line other first second again

-- a text is as long as that of the line that it means
joined_length : (at : ℕ) (texts : List (List ℕ)) → length (join_with_byte at (map in_lower_case texts))
    ≡ length (join_with_byte at texts)
joined_length at [] = refl
joined_length at (text ∷ []) = length-map text lower
joined_length at (text ∷ next ∷ texts) =
    let rest = joined_length at (next ∷ texts) in
    omega (
      arith,
      rest,
      length-map text lower,
      length-append (in_lower_case text) (at ∷ join_with_byte at (map in_lower_case (next ∷ texts))),
      length-append text (at ∷ join_with_byte at (next ∷ texts)),
    )

lowered_length : (texts : List (List ℕ)) → length (joined (lowered_fields texts)) ≡ length (joined texts)
lowered_length [] = refl
lowered_length (moment ∷ []) = refl
lowered_length (moment ∷ word ∷ []) = refl
lowered_length (moment ∷ word ∷ text ∷ texts) =
    let rest = joined_length space (text ∷ texts) in
    let lowers = map in_lower_case (text ∷ texts) in
    omega (
      arith,
      rest,
      length-append moment (space ∷ joined (word ∷ lowers)),
      length-append moment (space ∷ joined (word ∷ text ∷ texts)),
      length-append word (space ∷ joined lowers),
      length-append word (space ∷ joined (text ∷ texts)),
    )

pub length-line_text : (text : List ℕ) (line : Line) → Means text line → length (line_text line) ≡ length text
length-line_text text line means =
    ap length (sym means.is_text) ∙ lowered_length (fields_of text) ∙ ap length (joined-pieces space text)
