-- The lines of a trace stand in their order.
use Rattle.std.proofs.Common.{◌≡◌, ℕ, ◌+◌, ◌^◌, Bool, true, false, ◌==◌, List, [], ◌∷◌, length, take, nat_le, nat_lt, if◌then◌else◌, Result, Ok, Err, refl, ap, ◌∙◌, arith}
use Rattle.std.specs.List.{slice_split}
use Rattle.std.proofs.lemmas.Bool.Decides.{nat_tests}
use Rattle.std.proofs.lemmas.List.{take_all}
use Rattle.pc_outside.specs.Limits.{newline, line_max, input_max}
use Rattle.text_fields.specs.Fields.{is_empty}
use Rattle.trace_lines.specs.declared.bad.LineBad.{LineBad}
use Rattle.trace_lines.specs.Input.{Input, big, ended, input_of, input_within, line_then, long, pieces_meaning, stopped}
use Rattle.trace_lines.specs.Line.{Line}
use Rattle.trace_lines.specs.Meaning.{line_meaning}
use Rattle.trace_lines.proofs.MeaningLemmas.{meaning_given}
use Rattle.pcap_form.specs.Capture.{Capture, capture_of, input_capture, stop_at}
use Rattle.pcap_form.specs.Trace.{lines_of}
use Rattle.pcap_form.specs.Export.{export_of}
use Rattle.pcap_form.specs.Law.{InOrder, TraceComesBack}
use Rattle.pcap_form.proofs.ExportLemmas.{comes_back}

-- a line that is read, and those behind it
then_in_order : (number least : ℕ) (text : List ℕ) (meaning : Result Line LineBad) (behind : Line → Input)
    → line_meaning least number text ≡ meaning → ((line : Line) → InOrder line.moment (behind line).lines)
    → InOrder least (line_then number meaning behind).lines
then_in_order number least text (Ok line) behind is in_order =
    let given = meaning_given least number text line is in
    (given.0.is_line, given.2, in_order line)
then_in_order number least text (Err why) behind is in_order = tt

rest_by : (over full empty : Bool) (number least : ℕ) (rest : List ℕ)
    → InOrder least (if over then stopped (long number) else if full then stopped big else if empty then stopped ended
    else line_then number (line_meaning least number rest) (λ _. stopped ended)).lines
rest_by true full empty number least rest = tt
rest_by false true empty number least rest = tt
rest_by false false true number least rest = tt
rest_by false false false number least rest =
    then_in_order number least rest (line_meaning least number rest) (λ _. stopped ended) refl (λ line. tt)

line_by : (over : Bool) (number least : ℕ) (text : List ℕ) (behind : Line → Input)
    → ((line : Line) → InOrder line.moment (behind line).lines)
    → InOrder least (if over then stopped (long number) else line_then number
    (line_meaning least number text) behind).lines
line_by true number least text behind in_order = tt
line_by false number least text behind in_order =
    then_in_order number least text (line_meaning least number text) behind refl in_order

pieces_in_order : (full : Bool) (number least : ℕ) (pieces : List (List ℕ))
    → InOrder least (pieces_meaning full number least pieces).lines
pieces_in_order full number least [] = tt
pieces_in_order full number least (rest ∷ []) =
    rest_by (nat_lt line_max (length rest)) full (is_empty rest) number least rest
pieces_in_order full number least (text ∷ next ∷ pieces) =
    line_by (nat_lt line_max (length text)) number least text
    (λ line. pieces_meaning full (number + 1) line.moment (next ∷ pieces))
    (λ line. pieces_in_order full (number + 1) line.moment (next ∷ pieces))

-- the lines of a trace
pub trace_in_order : (octets : List ℕ) → InOrder 0 (input_of octets).lines
unfolding input_within
trace_in_order octets =
    pieces_in_order (nat_le input_max (length octets)) 1 0 (slice_split (λ octet. octet == newline)
    (take input_max octets))

-- what is shorter than what is looked at is read whole
pub trace_comes_back : (octets : List ℕ) → TraceComesBack octets
trace_comes_back octets short =
    let lines = (input_of octets).lines in
    let capture = export_of lines in
    let back = comes_back lines (trace_in_order octets) in
    let all : input_capture capture ≡ capture_of capture = ap capture_of
    (take_all (2 ^ 40) capture (omega (arith, short))) in
    let below : nat_le (2 ^ 40) (length capture) ≡ false = grind (arith, nat_tests) in (
      ap (λ full. stop_at full (input_capture capture).tail) below
          ∙ ap (λ (c : Capture). stop_at false c.tail) all ∙ ap (stop_at false) back.tail,
      ap (λ (c : Capture). lines_of c.records) all ∙ back.again,
    )
