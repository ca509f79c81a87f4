-- What is next in an input, by what reading a line found and what the line means.
use Rattle.std.proofs.Common.{◌≡◌, ℕ, ◌+◌, ◌<◌, Bool, decimal, length, length-append, true, false, List, [], ◌∷◌, ◌++◌, Option, None, Some, Ok, Err, ◌⊎◌, inl, inr, ap, ◌∙◌, arith}
use Rattle.pc_outside.specs.Line.{HoldsLine}
use Rattle.pc_outside.specs.LineReads.{Reads}
use Rattle.pc_outside.specs.declared.reading.LineRead.TheVariants as read
use Rattle.pc_outside.specs.Limits.{newline}
use Rattle.trace_lines.specs.Input.{bad, ended, stopped, after_lines, line_then, input_within}
use Rattle.trace_lines.specs.Line.{Line}
use Rattle.text_fields.specs.Fields.{joined}
use Rattle.trace_lines.specs.Text.{arguments, kind_word, line_text}
use Rattle.trace_lines.specs.Meaning.{line_meaning}
use Rattle.trace_lines.specs.declared.bad.LineBad.{LineBad}
use Rattle.trace_lines.specs.declared.bad.LineBad.TheVariants as why
use Rattle.trace_lines.proofs.InputLemmas.{whole_line, last_line, at_end, line_long, input_big}
use Rattle.trace_run.specs.Next.{Gives, IsNext, SaysLine, Says, Tells, TakesRoom, given_as, refused_as}
use Rattle.trace_run.specs.Coming as next

-- a line and its newline say what the line means, and then what stands behind them says
says_whole : (number least room after : ℕ) (octets rest line : List ℕ) → HoldsLine room after octets rest line false
    → (behind : List ℕ)
    → input_within room number least (line ++ newline ∷ behind)
    ≡ line_then number (line_meaning least number line) (λ l. input_within after (number + 1) l.moment behind)
says_whole number least room after octets rest line holds behind =
    rw (holds.form.given) (whole_line after number least line behind holds.no_newline holds.short)

-- octets with a line in front say what the line means, and then what the rest says
says_held : (number least room after : ℕ) (octets rest line : List ℕ) (last : Bool)
    → HoldsLine room after octets rest line last
    → input_within room number least octets ≡ line_then number (line_meaning least number line)
    (λ l. input_within after (number + 1) l.moment rest)
says_held number least room after octets rest line false holds =
    rw (holds.form.parts) (says_whole number least room after octets rest line holds rest)
says_held number least room after octets rest line true holds =
    rw (holds.form.given, holds.form.whole, holds.form.none_left)
    (last_line after number least line holds.no_newline holds.short holds.form.some holds.form.more)

says_line : (number least room after : ℕ) (octets rest text : List ℕ) (line : Line)
    → HoldsLine room after octets rest text false → line_meaning least number text ≡ Ok line
    → SaysLine line number least room after octets rest
says_line number least room after octets rest text line holds means = record {
  text = text;
  parts = holds.form.parts;
  given = holds.form.given;
  says = λ behind. says_whole number least room after octets rest text holds behind
      ∙ ap (λ m. line_then number m (λ l. input_within after (number + 1) l.moment behind)) means;
}

says_last : (number least room after : ℕ) (octets rest text : List ℕ) (line : Line)
    → HoldsLine room after octets rest text true → line_meaning least number text ≡ Ok line
    → input_within room number least octets ≡ after_lines (line ∷ []) (stopped ended)
says_last number least room after octets rest text line holds means =
    says_held number least room after octets rest text true holds
    ∙ ap (λ m. line_then number m (λ l. input_within after (number + 1) l.moment rest)) means
    ∙ ap (λ behind. after_lines (line ∷ []) (input_within after (number + 1) line.moment behind)) holds.form.none_left
    ∙ ap (after_lines (line ∷ [])) (at_end after (number + 1) line.moment holds.form.more)

-- a line that was read, the last one or not
says_given : (number least room after : ℕ) (octets rest text : List ℕ) (last : Bool) (line : Line) (len : ℕ)
    → HoldsLine room after octets rest text last → line_meaning least number text ≡ Ok line
    → Says (given_as line len last) number least room after octets rest
says_given number least room after octets rest text true line len holds means =
    (says_last number least room after octets rest text line holds means, holds.form.none_left)
says_given number least room after octets rest text false line len holds means =
    says_line number least room after octets rest text line holds means

pub tells_given : (number least room after : ℕ) (octets rest : Option (List ℕ)) (text : List ℕ) (last : Bool)
    (line : Line) (len : ℕ)
    → Reads read.Line room after octets rest text last → line_meaning least number text ≡ Ok line
    → Tells (given_as line len last) number least room after octets rest
tells_given number least room after None rest text last line len reads means = tt
tells_given number least room after (Some octets) None text last line len reads means = absurd reads
tells_given number least room after (Some octets) (Some rest) text last line len reads means =
    says_given number least room after octets rest text last line len reads means

-- the text of a line isn't empty
text_some : (line : Line) → 0 < length (line_text line)
text_some line = behind_space (decimal line.moment) (joined (kind_word line.kind ∷ arguments line.kind))
  where
    behind_space : (prefix rest : List ℕ) → 0 < length (prefix ++ 32 ∷ rest)
    behind_space prefix rest = omega (arith, length-append prefix (32 ∷ rest))

-- and takes room
pub takes_given : (room after : ℕ) (octets rest text : List ℕ) (last : Bool) (line : Line) (len : ℕ)
    → HoldsLine room after octets rest text last → length (line_text line) ≡ length text
    → TakesRoom (given_as line len last) room after
takes_given room after octets rest text true line len holds as_long =
    let some = text_some line in
    (omega (arith, holds.form.given, holds.form.some), omega (arith, holds.form.given, holds.form.more))
takes_given room after octets rest text false line len holds as_long =
    let some = text_some line in omega (arith, holds.form.given)

-- and comes with its number and its length, in its order
pub gives_given : (line : Line) (len number least : ℕ) (last : Bool) → IsNext line len number least
    → Gives (given_as line len last) number least
gives_given line len number least true is = is
gives_given line len number least false is = is

-- and is no fault
pub given-no_fault : (last : Bool) (line : Line) (len : ℕ) → given_as line len last ≡ next.ReadFault → ⊥
given-no_fault true line len is = cc
given-no_fault false line len is = cc

pub refused-no_fault : (bad_one : LineBad) → refused_as bad_one ≡ next.ReadFault → ⊥
refused-no_fault why.Field is = cc
refused-no_fault why.Number is = cc
refused-no_fault why.Kind is = cc
refused-no_fault why.Hex is = cc
refused-no_fault why.MomentBack is = cc
refused-no_fault why.NoMemory is = cc

-- a refusal gives no line
pub gives_refused : (bad_one : LineBad) (number least : ℕ) → Gives (refused_as bad_one) number least
gives_refused why.Field number least = tt
gives_refused why.Number number least = tt
gives_refused why.Kind number least = tt
gives_refused why.Hex number least = tt
gives_refused why.MomentBack number least = tt
gives_refused why.NoMemory number least = tt

says_refused : (number least room after : ℕ) (octets rest text : List ℕ) (last : Bool) (bad_one : LineBad)
    → HoldsLine room after octets rest text last → line_meaning least number text ≡ Err bad_one
    → input_within room number least octets ≡ stopped (bad number bad_one)
says_refused number least room after octets rest text last bad_one holds means =
    says_held number least room after octets rest text last holds
    ∙ ap (λ m. line_then number m (λ l. input_within after (number + 1) l.moment rest)) means

says_refused_as : (number least room after : ℕ) (octets rest text : List ℕ) (last : Bool) (bad_one : LineBad)
    → HoldsLine room after octets rest text last
    → (bad_one ≡ why.NoMemory) ⊎ (line_meaning least number text ≡ Err bad_one)
    → Says (refused_as bad_one) number least room after octets rest
says_refused_as number least room after octets rest text last why.Field holds (inr means) =
    says_refused number least room after octets rest text last why.Field holds means
says_refused_as number least room after octets rest text last why.Number holds (inr means) =
    says_refused number least room after octets rest text last why.Number holds means
says_refused_as number least room after octets rest text last why.Kind holds (inr means) =
    says_refused number least room after octets rest text last why.Kind holds means
says_refused_as number least room after octets rest text last why.Hex holds (inr means) =
    says_refused number least room after octets rest text last why.Hex holds means
says_refused_as number least room after octets rest text last why.MomentBack holds (inr means) =
    says_refused number least room after octets rest text last why.MomentBack holds means
says_refused_as number least room after octets rest text last why.NoMemory holds (inr means) = tt
says_refused_as number least room after octets rest text last why.Field holds (inl is) = cc
says_refused_as number least room after octets rest text last why.Number holds (inl is) = cc
says_refused_as number least room after octets rest text last why.Kind holds (inl is) = cc
says_refused_as number least room after octets rest text last why.Hex holds (inl is) = cc
says_refused_as number least room after octets rest text last why.MomentBack holds (inl is) = cc
says_refused_as number least room after octets rest text last why.NoMemory holds (inl is) = tt

pub tells_refused : (number least room after : ℕ) (octets rest : Option (List ℕ)) (text : List ℕ) (last : Bool)
    (bad_one : LineBad)
    → Reads read.Line room after octets rest text last
    → (bad_one ≡ why.NoMemory) ⊎ (line_meaning least number text ≡ Err bad_one)
    → Tells (refused_as bad_one) number least room after octets rest
tells_refused number least room after None rest text last bad_one reads means = tt
tells_refused number least room after (Some octets) None text last bad_one reads means = absurd reads
tells_refused number least room after (Some octets) (Some rest) text last bad_one reads means =
    says_refused_as number least room after octets rest text last bad_one reads means

pub tells_end : (number least room after : ℕ) (octets rest : Option (List ℕ)) (text : List ℕ) (last : Bool)
    → Reads read.End room after octets rest text last → Tells next.End number least room after octets rest
tells_end number least room after None rest text last reads = tt
tells_end number least room after (Some octets) None text last reads = absurd reads
tells_end number least room after (Some octets) (Some rest) text last reads =
    (rw (reads.1) (at_end room number least reads.2), reads.0.octets_stay ∙ reads.1)

pub tells_long : (number least room after : ℕ) (octets rest : Option (List ℕ)) (text : List ℕ) (last : Bool)
    → Reads read.LineLong room after octets rest text last → Tells next.LineLong number least room after octets rest
tells_long number least room after None rest text last reads = tt
tells_long number least room after (Some octets) None text last reads = absurd reads
tells_long number least room after (Some octets) (Some rest) text last reads =
    rw (reads.1.parts) (line_long room number least reads.1.prefix reads.1.rest reads.1.no_newline reads.1.long
    reads.1.within)

pub tells_big : (number least room after : ℕ) (octets rest : Option (List ℕ)) (text : List ℕ) (last : Bool)
    → Reads read.TooLong room after octets rest text last → Tells next.TooLong number least room after octets rest
tells_big number least room after None rest text last reads = tt
tells_big number least room after (Some octets) None text last reads = absurd reads
tells_big number least room after (Some octets) (Some rest) text last reads =
    rw (reads.1.parts, ← reads.1.full) (input_big number least reads.1.prefix reads.1.rest reads.1.no_newline
    reads.1.short)

pub tells_fault : (number least room after : ℕ) (octets rest : Option (List ℕ)) (text : List ℕ) (last : Bool)
    → Reads read.ReadFault room after octets rest text last → Tells next.ReadFault number least room after octets rest
tells_fault number least room after None rest text last reads = tt
tells_fault number least room after (Some octets) None text last reads = absurd reads
tells_fault number least room after (Some octets) (Some rest) text last reads = (reads.octets_stay, reads.room_stays)
