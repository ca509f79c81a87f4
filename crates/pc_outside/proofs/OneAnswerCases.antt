-- No two answers fit the same octets, case by case.
use Rattle.std.proofs.Common.{◌≡◌, ℕ, suc, ◌<◌, Bool, true, false, List, [], ◌∷◌, ◌++◌, length, sym, ◌∙◌, ap, refl, arith, length-append}
use Rattle.std.proofs.lemmas.List.{append-nil}
use Rattle.pc_outside.specs.declared.reading.LineRead.{LineRead}
use Rattle.pc_outside.specs.declared.reading.LineRead.TheVariants.{Line, End, ReadFault, LineLong, TooLong}
use Rattle.pc_outside.specs.Line.{NoNewline, HoldsLine, BeginsLong, FillsRoom}
use Rattle.pc_outside.specs.LineReads.{GivesNone}
use Rattle.pc_outside.specs.OneAnswer.{AreOne, OneAnswer}
use Rattle.pc_outside.proofs.Newlines.{newline_within}

-- the first newline ends the line
same_line : (line line' rest rest' : List ℕ) → line ++ 10 ∷ rest ≡ line' ++ 10 ∷ rest' → NoNewline line
    → NoNewline line'
    → (line ≡ line') × (rest ≡ rest')
same_line [] [] rest rest' same none none' = (refl, cc)
same_line [] (y ∷ ys) rest rest' same none none' = absurd (none' 0 0 (omega arith) (cc))
same_line (x ∷ xs) [] rest rest' same none none' = absurd (none 0 0 (omega arith) (cc))
same_line (x ∷ xs) (y ∷ ys) rest rest' same none none' =
    let head : x ≡ y = cc in
    let tail : xs ++ 10 ∷ rest ≡ ys ++ 10 ∷ rest' = cc in
    let both = same_line xs ys rest rest' tail (λ k d within. none (suc k) d (omega arith))
    (λ k d within. none' (suc k) d (omega arith)) in
    (cc (both.0, head), both.1)

-- a last line has no newline
whole_or_last : (octets line rest line' : List ℕ) → octets ≡ line ++ 10 ∷ rest → octets ≡ line' → NoNewline line' → ⊥
whole_or_last octets line rest line' ends last none =
    newline_within octets line rest line' [] ends (last ∙ sym (append-nil line'))
    (omega (arith, ap length (sym last ∙ ends), length-append line (10 ∷ rest))) none

same_lines_held : (room after after' : ℕ) (octets rest rest' line line' : List ℕ) (last last' : Bool)
    → HoldsLine room after octets rest line last
    → HoldsLine room after' octets rest' line' last' → AreOne Line Line after after' rest rest' line line' last last'
same_lines_held room after after' octets rest rest' line line' false false one other =
    let same = same_line line line' rest rest' (sym one.form.parts
    ∙ other.form.parts) one.no_newline other.no_newline in
    record {
      read = refl;
      room = omega (arith, ap length same.0, one.form.given, other.form.given);
      left = same.1;
      given = same.0;
      same_last = refl;
    }
same_lines_held room after after' octets rest rest' line line' false true one other =
    absurd (whole_or_last octets line rest line' one.form.parts other.form.whole other.no_newline)
same_lines_held room after after' octets rest rest' line line' true false one other =
    absurd (whole_or_last octets line' rest' line other.form.parts one.form.whole one.no_newline)
same_lines_held room after after' octets rest rest' line line' true true one other =
    let same : line ≡ line' = sym one.form.whole ∙ other.form.whole in
    record {
      read = refl;
      room = omega (arith, ap length same, one.form.given, other.form.given);
      left = one.form.none_left ∙ sym other.form.none_left;
      given = same;
      same_last = refl;
    }

none_at_end : (room after : ℕ) (octets rest line : List ℕ) (last : Bool) → HoldsLine room after octets rest line last
    → octets ≡ [] → ⊥
none_at_end room after octets rest line false holds end =
    omega (arith, ap length (sym end ∙ holds.form.parts), length-append line (10 ∷ rest))
none_at_end room after octets rest line true holds end =
    omega (arith, holds.form.some, ap length (sym end ∙ holds.form.whole))

none_of_long : (room after : ℕ) (octets rest line : List ℕ) (last : Bool) → HoldsLine room after octets rest line last
    → BeginsLong room octets → ⊥
none_of_long room after octets rest line false holds long =
    newline_within octets line rest long.prefix long.rest holds.form.parts long.parts
    (omega (arith, holds.short, long.long)) long.no_newline
none_of_long room after octets rest line true holds long =
    omega (
      arith,
      holds.short,
      long.long,
      ap length (sym holds.form.whole
          ∙ long.parts),
      length-append long.prefix long.rest,
    )

none_in_full : (room after : ℕ) (octets rest line : List ℕ) (last : Bool) → HoldsLine room after octets rest line last
    → FillsRoom room octets → ⊥
none_in_full room after octets rest line false holds full =
    newline_within octets line rest full.prefix full.rest holds.form.parts full.parts
    (omega (arith, holds.form.given, full.full)) full.no_newline
none_in_full room after octets rest line true holds full =
    omega (
      arith,
      holds.form.given,
      holds.form.more,
      full.full,
      ap length (sym holds.form.whole ∙ full.parts),
      length-append full.prefix full.rest,
    )

end_or_long : (room : ℕ) (octets : List ℕ) → octets ≡ [] → BeginsLong room octets → ⊥
end_or_long room octets end long =
    omega (arith, long.long, ap length (sym end ∙ long.parts), length-append long.prefix long.rest)

end_or_full : (room : ℕ) (octets : List ℕ) → octets ≡ [] → 0 < room → FillsRoom room octets → ⊥
end_or_full room octets end more full =
    omega (arith, more, full.full, ap length (sym end ∙ full.parts), length-append full.prefix full.rest)

long_or_full : (room : ℕ) (octets : List ℕ) → BeginsLong room octets → FillsRoom room octets → ⊥
long_or_full room octets long full = omega (arith, long.long, long.within, full.short, full.full)

-- where nothing is given, the rest is settled
same_none : (read : LineRead) (room after after' : ℕ) (octets rest rest' line line' : List ℕ) (last last' : Bool)
    → GivesNone room after octets rest line last
    → GivesNone room after' octets rest' line' last' → AreOne read read after after' rest rest' line line' last last'
same_none read room after after' octets rest rest' line line' last last' one other = record {
  read = refl;
  room = one.room_stays ∙ sym other.room_stays;
  left = one.octets_stay ∙ sym other.octets_stay;
  given = one.no_line ∙ sym other.no_line;
  same_last = one.not_last ∙ sym other.not_last;
}

pub one_answer : OneAnswer
one_answer Line Line m a b o r s l k e d f g one other = same_lines_held m a b o r s l k e d one other
one_answer Line End m a b o r s l k e d f g one other = absurd (none_at_end m a o r l e one other.1)
one_answer Line ReadFault m a b o r s l k e d f g one other = absurd (g refl)
one_answer Line LineLong m a b o r s l k e d f g one other = absurd (none_of_long m a o r l e one other.1)
one_answer Line TooLong m a b o r s l k e d f g one other = absurd (none_in_full m a o r l e one other.1)
one_answer End Line m a b o r s l k e d f g one other = absurd (none_at_end m b o s k d other one.1)
one_answer End End m a b o r s l k e d f g one other = same_none End m a b o r s l k e d one.0 other.0
one_answer End ReadFault m a b o r s l k e d f g one other = absurd (g refl)
one_answer End LineLong m a b o r s l k e d f g one other = absurd (end_or_long m o one.1 other.1)
one_answer End TooLong m a b o r s l k e d f g one other = absurd (end_or_full m o one.1 one.2 other.1)
one_answer ReadFault second m a b o r s l k e d f g one other = absurd (f refl)
one_answer LineLong Line m a b o r s l k e d f g one other = absurd (none_of_long m b o s k d other one.1)
one_answer LineLong End m a b o r s l k e d f g one other = absurd (end_or_long m o other.1 one.1)
one_answer LineLong ReadFault m a b o r s l k e d f g one other = absurd (g refl)
one_answer LineLong LineLong m a b o r s l k e d f g one other = same_none LineLong m a b o r s l k e d one.0 other.0
one_answer LineLong TooLong m a b o r s l k e d f g one other = absurd (long_or_full m o one.1 other.1)
one_answer TooLong Line m a b o r s l k e d f g one other = absurd (none_in_full m b o s k d other one.1)
one_answer TooLong End m a b o r s l k e d f g one other = absurd (end_or_full m o other.1 other.2 one.1)
one_answer TooLong ReadFault m a b o r s l k e d f g one other = absurd (g refl)
one_answer TooLong LineLong m a b o r s l k e d f g one other = absurd (long_or_full m o other.1 one.1)
one_answer TooLong TooLong m a b o r s l k e d f g one other = same_none TooLong m a b o r s l k e d one.0 other.0
