-- The steps of `read_line` make its answer.
use Rattle.std.proofs.Common.{◌≡◌, ◌≢◌, ℕ, ◌≤◌, false, List, [], ◌∷◌, ◌++◌, length, take, Option, None, Some, sym, ◌∙◌, ap, refl, subst, append_assoc, arith, length-append}
use Rattle.std.proofs.lemmas.List.{append-nil, take_all, take_at}
use Rattle.std.proofs.lemmas.List.Elements.{All-nil}
use Rattle.std.specs.Io.KnownBytes.{Consumes, prepend_known}
use Rattle.pc_outside.specs.Limits.{newline, line_max}
use Rattle.pc_outside.specs.declared.reading.LineRead.{LineRead}
use Rattle.pc_outside.specs.declared.reading.LineRead.TheVariants.{Line, End, ReadFault, LineLong, TooLong}
use Rattle.pc_outside.specs.Line.{NoNewline, HoldsLine}
use Rattle.pc_outside.specs.LineReads.{GivesNone, Answers, Reads}
use Rattle.pc_outside.specs.Held.{Held, HasStopped, IsUnfinished}
use Rattle.pc_outside.specs.Steps.{Settles, Gains}
use Rattle.pc_outside.proofs.KnownOctets.{consumes_both, consumes_none}
use Rattle.pc_outside.proofs.Newlines.{newline_within}

-- since the start of the call some octets came, and the first `seen` of those held end no line
pub record IsReading (start now : Held) (left left_now : Option (List ℕ)) (seen : ℕ) : Type 0 where
  pub given : List ℕ
  pub buffered : now.buffered ≡ start.buffered ++ given
  pub consumed : Consumes left left_now given
  pub room : now.room ≡ start.room
  pub line : now.line ≡ []
  pub not_last : now.last ≡ false
  pub held : seen ≤ length now.buffered
  pub short : seen ≤ line_max
  pub no_newline : NoNewline (take seen now.buffered)

-- at the start of the call nothing came, and nothing is seen
pub reading-new : (start now : Held) (left : Option (List ℕ)) → now ≡ record start { line = []; last = false }
    → IsReading start now left left 0
reading-new start now left is = record {
  given = [];
  buffered = ap (λ held. held.buffered) is ∙ sym (append-nil start.buffered);
  consumed = consumes_none left;
  room = ap (λ held. held.room) is;
  line = ap (λ held. held.line) is;
  not_last = ap (λ held. held.last) is;
  held = omega arith;
  short = omega arith;
  no_newline = All-nil (λ octet. octet ≢ newline);
}

-- where those held end no line, no octet came yet, and all of them are seen
pub reading-begun : (held : Held) (left : Option (List ℕ)) → held.line ≡ [] → held.last ≡ false → IsUnfinished held
    → IsReading held held left left (length held.buffered)
reading-begun held left line not_last unfinished = record {
  given = [];
  buffered = sym (append-nil held.buffered);
  consumed = consumes_none left;
  room = refl;
  line = line;
  not_last = not_last;
  held = omega arith;
  short = unfinished.short;
  no_newline = subst (λ xs. NoNewline xs) (sym (take_all (length held.buffered) held.buffered (omega arith)))
      unfinished.no_newline;
}

-- octets came behind those that were seen
pub reading-gained : (start now next : Held) (left left_now left_next : Option (List ℕ)) (seen count : ℕ)
    → IsReading start now left left_now seen → seen ≡ length now.buffered → Gains now next left_now left_next count
    → IsReading start next left left_next seen
reading-gained start now next left left_now left_next seen count so_far all gains = record {
  given = so_far.given ++ gains.given;
  buffered = gains.buffered ∙ ap (λ xs. xs ++ gains.given) so_far.buffered
      ∙ append_assoc start.buffered so_far.given gains.given;
  consumed = consumes_both left left_now left_next so_far.given gains.given so_far.consumed gains.consumed;
  room = gains.room ∙ so_far.room;
  line = gains.line ∙ so_far.line;
  not_last = gains.last ∙ so_far.not_last;
  held = omega (arith, ap length gains.buffered, length-append now.buffered gains.given);
  short = so_far.short;
  no_newline = subst (λ xs. NoNewline xs)
      (take_all seen now.buffered (omega arith)
      ∙ sym (ap (take seen) gains.buffered ∙ take_at now.buffered gains.given seen (sym all))) so_far.no_newline;
}

-- an unfinished line hasn't stopped
pub unfinished-goes_on : (stop : LineRead) (held : Held) → HasStopped stop held → IsUnfinished held → ⊥
unfinished-goes_on Line held stopped unfinished = stopped
unfinished-goes_on End held stopped unfinished = stopped
unfinished-goes_on ReadFault held stopped unfinished = stopped
unfinished-goes_on LineLong held long unfinished =
    omega (arith, long.long, unfinished.short, ap length long.parts, length-append long.prefix long.rest)
unfinished-goes_on TooLong held full unfinished =
    omega (arith, full.full, unfinished.more, ap length full.parts, length-append full.prefix full.rest)

-- an answer about the octets held, whatever is left behind them, is one about all that was left
pub reads-of_answers : (read : LineRead) (start now new : Held) (left left_now : Option (List ℕ)) (seen : ℕ)
    → IsReading start now left left_now seen
    → ((behind : List ℕ) → left_now ≡ Some behind
    → Answers read now.room new.room (now.buffered ++ behind) (new.buffered ++ behind) new.line new.last)
    → Reads read start.room new.room (prepend_known start.buffered left)
    (prepend_known new.buffered left_now) new.line new.last
reads-of_answers read start now new None left_now seen so_far answers = tt
reads-of_answers read start now new (Some xs) None seen so_far answers = absurd so_far.consumed
reads-of_answers read start now new (Some xs) (Some ys) seen so_far answers =
    let all : now.buffered ++ ys ≡ start.buffered ++ xs =
    ap (λ buffered. buffered ++ ys) so_far.buffered ∙ append_assoc start.buffered so_far.given ys
    ∙ ap (λ rest. start.buffered ++ rest) (sym so_far.consumed) in
    rw (← all, ← so_far.room) (answers ys refl)

-- nothing is given
gives_none : (now new : Held) (behind : List ℕ) → now.line ≡ [] → now.last ≡ false → new ≡ now
    → GivesNone now.room new.room (now.buffered ++ behind) (new.buffered ++ behind) new.line new.last
gives_none now new behind line not_last same = record {
  octets_stay = ap (λ held. held.buffered ++ behind) same;
  room_stays = ap (λ held. held.room) same;
  no_line = ap (λ held. held.line) same ∙ line;
  not_last = ap (λ held. held.last) same ∙ not_last;
}

-- what is held gives the answer, whatever comes behind it
pub settles-behind : (read : LineRead) (now new : Held) (behind : List ℕ) → now.line ≡ [] → now.last ≡ false
    → Settles read now new
    → Answers read now.room new.room (now.buffered ++ behind) (new.buffered ++ behind) new.line new.last
settles-behind Line now new behind line not_last gives =
    subst (λ last. HoldsLine now.room new.room (now.buffered ++ behind) (new.buffered ++ behind) new.line last)
    (sym (gives.last ∙ not_last))
    (record {
      no_newline = gives.no_newline;
      short = gives.short;
      form = record {
        parts = ap (λ xs. xs ++ behind) gives.whole.parts ∙ append_assoc new.line (newline ∷ new.buffered) behind;
        given = gives.whole.given;
      };
    })
settles-behind End now new behind line not_last gives = absurd gives
settles-behind ReadFault now new behind line not_last gives = absurd gives
settles-behind LineLong now new behind line not_last gives =
    let long = gives.1 in (
      gives_none now new behind line not_last gives.0,
      record {
        prefix = long.prefix;
        rest = long.rest ++ behind;
        parts = ap (λ xs. xs ++ behind) long.parts ∙ append_assoc long.prefix long.rest behind;
        no_newline = long.no_newline;
        long = long.long;
        within = long.within;
      },
    )
settles-behind TooLong now new behind line not_last gives =
    let full = gives.1 in (
      gives_none now new behind line not_last gives.0,
      record {
        prefix = full.prefix;
        rest = full.rest ++ behind;
        parts = ap (λ xs. xs ++ behind) full.parts ∙ append_assoc full.prefix full.rest behind;
        no_newline = full.no_newline;
        short = full.short;
        full = full.full;
      },
    )

-- of those held by now, behind the ones at the start of the call
pub settles-held : (read : LineRead) (start now new : Held) (left left_now : Option (List ℕ)) (seen : ℕ)
    → IsReading start now left left_now seen → Settles read now new
    → (given : List ℕ) × Answers read start.room new.room (start.buffered ++ given) new.buffered new.line new.last
settles-held read start now new left left_now seen so_far settled = (
  so_far.given,
  subst (λ room. Answers read room new.room (start.buffered ++ so_far.given) new.buffered new.line new.last) so_far.room
      (subst (λ buffered. Answers read now.room new.room buffered new.buffered new.line new.last)
      (append-nil now.buffered ∙ so_far.buffered)
      (subst (λ rest. Answers read now.room new.room (now.buffered ++ []) rest new.line new.last) (append-nil new.buffered)
      (settles-behind read now new [] so_far.line so_far.not_last settled))),
)

-- and gives its answer
pub settles-stays : (stop read : LineRead) (now new : Held) → HasStopped stop now → Settles read now new
    → (read ≡ stop) × (new.buffered ≡ now.buffered)
settles-stays Line read now new stopped gives = absurd stopped
settles-stays End read now new stopped gives = absurd stopped
settles-stays ReadFault read now new stopped gives = absurd stopped
settles-stays LineLong Line now new long gives =
    absurd (newline_within now.buffered new.line new.buffered long.prefix long.rest gives.whole.parts long.parts
    (omega (arith, long.long, gives.short)) long.no_newline)
settles-stays LineLong End now new long gives = absurd gives
settles-stays LineLong ReadFault now new long gives = absurd gives
settles-stays LineLong LineLong now new long gives = (refl, ap (λ held. held.buffered) gives.0)
settles-stays LineLong TooLong now new long gives =
    absurd (omega (arith, long.long, long.within, gives.1.short, gives.1.full))
settles-stays TooLong Line now new full gives =
    absurd (newline_within now.buffered new.line new.buffered full.prefix full.rest gives.whole.parts full.parts
    (omega (arith, full.full, gives.whole.given)) full.no_newline)
settles-stays TooLong End now new full gives = absurd gives
settles-stays TooLong ReadFault now new full gives = absurd gives
settles-stays TooLong LineLong now new full gives =
    absurd (omega (arith, gives.1.long, gives.1.within, full.short, full.full))
settles-stays TooLong TooLong now new full gives = (refl, ap (λ held. held.buffered) gives.0)

-- a state that has stopped is known by its octets and room
pub stopped-now : (stop : LineRead) (start now : Held) → HasStopped stop start → now.buffered ≡ start.buffered
    → now.room ≡ start.room
    → HasStopped stop now
stopped-now Line start now stopped buffered room = stopped
stopped-now End start now stopped buffered room = stopped
stopped-now ReadFault start now stopped buffered room = stopped
stopped-now LineLong start now stopped buffered room = rw (buffered, room) stopped
stopped-now TooLong start now stopped buffered room = rw (buffered, room) stopped
