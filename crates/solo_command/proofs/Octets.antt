-- What octets say that end with whole lines, and what those behind them say.
use Rattle.std.proofs.Common.{◌≡◌, ◌≢◌, ℕ, ◌+◌, ◌≤◌, ◌==◌, Bool, true, false, List, [], ◌∷◌, ◌++◌, length, Result, Ok, Err, refl, sym, ap, ◌∙◌, subst, arith, inl, inr, append_assoc, length-append, eq-eqb}
use Rattle.std.proofs.lemmas.Bool.{cases_lt, eqb-true, false≢true}
use Rattle.std.proofs.lemmas.List.Elements.{All-nil, All-push}
use Rattle.pc_outside.specs.Limits.{line_max, newline}
use Rattle.pc_outside.specs.Line.{NoNewline}
use Rattle.trace_lines.specs.Input.{Input, after_lines, ended, input_within, line_then, long, stopped}
use Rattle.trace_lines.specs.Line.{Line}
use Rattle.trace_lines.specs.Meaning.{line_meaning}
use Rattle.trace_lines.specs.declared.bad.LineBad.{LineBad}
use Rattle.trace_lines.proofs.InputLemmas.{line_long, whole_line}
use Rattle.at_rest.specs.Coming.{latest_behind}

-- the octets say these lines, and then what those behind them say
pub record Say (number least : ℕ) (octets : List ℕ) : Type 0 where
  pub lines : List Line
  pub says : (room : ℕ) (behind : List ℕ) → input_within (length octets + room) number least (octets ++ behind)
      ≡ after_lines lines (input_within room (number + length lines) (latest_behind least lines) behind)

-- octets behind the start of a line end with a newline, or there are none
abbrev pub either : Bool → Type 0 → Type 0 → Type 0
either true X Y = X
either false X Y = Y

abbrev pub Ends : List ℕ → List ℕ → Type 0
Ends prefix [] = prefix ≡ []
Ends prefix (octet ∷ octets) = either (octet == newline) (Ends [] octets) (Ends (prefix ++ octet ∷ []) octets)

abbrev EndsSo : Bool → List ℕ → ℕ → List ℕ → Type 0
EndsSo is prefix octet octets = either is (Ends [] octets) (Ends (prefix ++ octet ∷ []) octets)

same_test : (octet : ℕ) → octet ≡ newline → (octet == newline) ≡ true
same_test octet same = eq-eqb octet newline same

say_nothing : (number least : ℕ) → Say number least []
say_nothing number least = record {
  lines = [];
  says = λ room behind.
      let rooms : 0 + room ≡ room = omega arith in
      let numbers : number ≡ number + 0 = omega arith in
      ap (λ r. input_within r number least behind) rooms ∙ ap (λ n. input_within room n least behind) numbers;
}

-- a line and its newline, and what comes behind
then_say : (number least : ℕ) (line rest : List ℕ) (said : Line) → NoNewline line → length line ≤ line_max
    → line_meaning least number line ≡ Ok said → Say (number + 1) said.moment rest
    → Say number least (line ++ newline ∷ rest)
then_say number least line rest said no_newline short means later = record {
  lines = said ∷ later.lines;
  says = λ room behind.
      let rooms : length (line ++ newline ∷ rest) + room ≡ length line + 1 + (length rest + room) =
      omega (arith, length-append line (newline ∷ rest)) in
      let numbers : number + 1 + length later.lines ≡ number + length (said ∷ later.lines) = omega arith in
      let now : ℕ → Input = λ n. input_within room n (latest_behind said.moment later.lines) behind in
      ap (λ r. input_within r number least ((line ++ newline ∷ rest) ++ behind)) rooms
      ∙ ap (input_within (length line + 1 + (length rest + room)) number least)
      (append_assoc line (newline ∷ rest) behind)
      ∙ whole_line (length rest + room) number least line (rest ++ behind) no_newline short
      ∙ ap (λ read. line_then number read (λ l. input_within (length rest + room) (number + 1) l.moment (rest ++ behind)))
      means
      ∙ ap (after_lines (said ∷ [])) (later.says room behind)
      ∙ ap (λ n. record { lines = said ∷ later.lines ++ (now n).lines; stop = (now n).stop }) numbers;
}

-- a refused or a long line stops otherwise
not_refused : (number : ℕ) (why : LineBad) (behind : Line → Input) → (line_then number (Err why) behind).stop ≡ ended
    → ⊥
not_refused number why behind is = cc

not_long : (number : ℕ) → (stopped (long number)).stop ≡ ended → ⊥
not_long number is = cc

-- octets stop nowhere, where so many more could come
abbrev StopsNowhere : (number least extra : ℕ) → List ℕ → Type 0
StopsNowhere number least extra octets = (input_within (length octets + extra) number least octets).stop ≡ ended

first_line : (number least extra : ℕ) (prefix octets : List ℕ) → NoNewline prefix → length prefix ≤ line_max
    → input_within (length (prefix ++ newline ∷ octets) + extra) number least (prefix ++ newline ∷ octets)
    ≡ line_then number (line_meaning least number prefix)
    (λ l. input_within (length octets + extra) (number + 1) l.moment octets)
first_line number least extra prefix octets no_newline short =
    let rooms : length (prefix ++ newline ∷ octets) + extra ≡ length prefix + 1 + (length octets + extra) =
    omega (arith, length-append prefix (newline ∷ octets)) in
    ap (λ r. input_within r number least (prefix ++ newline ∷ octets)) rooms
    ∙ whole_line (length octets + extra) number least prefix octets no_newline short

-- a line ends here, and what comes behind it says lines
line_ends : (number least extra : ℕ) (prefix octets : List ℕ) → NoNewline prefix → length prefix ≤ line_max
    → StopsNowhere number least extra (prefix ++ newline ∷ octets)
    → ((n l : ℕ) → StopsNowhere n l extra octets → Say n l octets) → (read : Result Line LineBad)
    → line_meaning least number prefix ≡ read → Say number least (prefix ++ newline ∷ octets)
line_ends number least extra prefix octets no_newline short stops later (Err why) means =
    let behind : Line → Input = λ l. input_within (length octets + extra) (number + 1) l.moment octets in
    let said = first_line number least extra prefix octets no_newline short
    ∙ ap (λ (read : Result Line LineBad). line_then number read behind) means in
    absurd (not_refused number why behind (sym (ap (λ (i : Input). i.stop) said) ∙ stops))
line_ends number least extra prefix octets no_newline short stops later (Ok now) means =
    let behind : Line → Input = λ l. input_within (length octets + extra) (number + 1) l.moment octets in
    let said = first_line number least extra prefix octets no_newline short
    ∙ ap (λ (read : Result Line LineBad). line_then number read behind) means in
    then_say number least prefix octets now no_newline short means
    (later (number + 1) now.moment (sym (ap (λ (i : Input). i.stop) said) ∙ stops))

short_or_long : (number least extra : ℕ) (prefix octets : List ℕ) → NoNewline prefix
    → StopsNowhere number least extra (prefix ++ newline ∷ octets) → length prefix ≤ line_max
short_or_long number least extra prefix octets no_newline stops = elim (cases_lt line_max (length prefix)) [
  | inl too_long ↦
      let stopped_long = line_long (length (prefix ++ newline ∷ octets) + extra) number least prefix (newline ∷ octets)
      no_newline too_long (omega (arith, length-append prefix (newline ∷ octets))) in
      absurd (not_long number (sym (ap (λ (i : Input). i.stop) stopped_long) ∙ stops))
  | inr short ↦ short
]

-- one octet more
one_octet : (number least extra : ℕ) (prefix : List ℕ) (octet : ℕ) (octets : List ℕ) → NoNewline prefix
    → StopsNowhere number least extra (prefix ++ octet ∷ octets)
    → ((n l : ℕ) → Ends [] octets → StopsNowhere n l extra octets → Say n l octets)
    → (NoNewline (prefix ++ octet ∷ []) → Ends (prefix ++ octet ∷ []) octets
    → StopsNowhere number least extra ((prefix ++ octet ∷ []) ++ octets)
    → Say number least ((prefix ++ octet ∷ []) ++ octets))
    → (is : Bool) → (octet == newline) ≡ is → EndsSo is prefix octet octets
    → Say number least (prefix ++ octet ∷ octets)
one_octet number least extra prefix octet octets no_newline stops later longer true is ends =
    let same : octet ≡ newline = eqb-true octet newline is in
    let stops_so : StopsNowhere number least extra (prefix ++ newline ∷ octets) =
    subst (λ first. StopsNowhere number least extra (prefix ++ first ∷ octets)) same stops in
    subst (λ first. Say number least (prefix ++ first ∷ octets)) (sym same)
    (line_ends number least extra prefix octets no_newline
    (short_or_long number least extra prefix octets no_newline stops_so) stops_so (λ n l stop. later n l ends stop)
    (line_meaning least number prefix) refl)
one_octet number least extra prefix octet octets no_newline stops later longer false is ends =
    let grown : (prefix ++ octet ∷ []) ++ octets ≡ prefix ++ octet ∷ octets = append_assoc prefix (octet ∷ []) octets in
    let other : octet ≢ newline = λ same. false≢true (sym is ∙ same_test octet same) in
    subst (Say number least) grown
    (longer (All-push (λ o. o ≢ newline) prefix octet no_newline other) ends
    (subst (StopsNowhere number least extra) (sym grown) stops))

-- octets that stop nowhere and end with a newline
pub all_said : (number least extra : ℕ) (prefix octets : List ℕ) → NoNewline prefix → Ends prefix octets
    → StopsNowhere number least extra (prefix ++ octets) → Say number least (prefix ++ octets)
all_said number least extra prefix [] no_newline ends stops =
    subst (λ (f : List ℕ). Say number least (f ++ [])) (sym ends) (say_nothing number least)
all_said number least extra prefix (octet ∷ octets) no_newline ends stops =
    one_octet number least extra prefix octet octets no_newline stops
    (λ n l ends_now stop. all_said n l extra [] octets (All-nil (λ o. o ≢ newline)) ends_now stop)
    (λ none ends_now stop. all_said number least extra (prefix ++ octet ∷ []) octets none ends_now stop)
    (octet == newline) refl ends

-- octets that end with a newline
either_way : (is : Bool) (X Y : Type 0) → X → Y → either is X Y
either_way true X Y x y = x
either_way false X Y x y = y

ends_behind : (before prefix : List ℕ) → Ends before (prefix ++ newline ∷ [])
ends_behind before [] = refl
ends_behind before (octet ∷ prefix) =
    either_way (octet == newline) (Ends [] (prefix ++ newline ∷ [])) (Ends (before ++ octet ∷ []) (prefix ++ newline ∷ []))
    (ends_behind [] prefix) (ends_behind (before ++ octet ∷ []) prefix)

pub ends_at_last : (octets prefix : List ℕ) → octets ≡ prefix ++ newline ∷ [] → Ends [] octets
ends_at_last octets prefix is = subst (Ends []) (sym is) (ends_behind [] prefix)
