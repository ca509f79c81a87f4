-- Lines that were read apart, behind others and before more octets.
use Rattle.std.proofs.Common.{◌≡◌, ℕ, suc, ◌+◌, ◌⊎◌, Bool, true, false, List, [], ◌∷◌, ◌++◌, length, drop, Option, None, Some, Result, Ok, Err, IfOk, IfErr, ap, sym, ◌∙◌, refl, subst, arith, append_assoc, true≢false, not}
use Rattle.std.proofs.lemmas.List.{drop-drop}
use Rattle.std.specs.Io.KnownBytes.{prepend_known}
use Rattle.pc_outside.specs.Limits.{newline}
use Rattle.pc_outside.specs.Line.{HoldsLine}
use Rattle.pc_outside.specs.LineReads.{Reads}
use Rattle.pc_outside.specs.declared.reading.LineRead.TheVariants as read
use Rattle.trace_lines.specs.Line.{Line}
use Rattle.trace_lines.specs.Meaning.{line_meaning}
use Rattle.trace_lines.specs.declared.bad.LineBad.{LineBad}
use Rattle.trace_lines.specs.declared.bad.LineBad.TheVariants.{NoMemory}
use Rattle.replay_command.specs.declared.line_blocks.Apart.{Apart}
use Rattle.replay_command.specs.declared.line_blocks.LineBlock.{LineBlock}
use Rattle.replay_command.specs.Apart.{AreFirst, IsFirst, IsPart, MeansApart}

-- more octets stand behind
first-more : (one : Apart) (octets behind more : List ℕ) → IsFirst one octets behind
    → IsFirst one (octets ++ more) (behind ++ more)
first-more one octets behind more is = record {
  text = is.text;
  parts = ap (λ xs. xs ++ more) is.parts ∙ append_assoc is.text (newline ∷ behind) more;
  no_newline = is.no_newline;
  short = is.short;
  long = is.long;
  means = is.means;
}

pub more_behind : (lines : List Apart) (octets behind more : List ℕ) → AreFirst lines octets behind
    → AreFirst lines (octets ++ more) (behind ++ more)
more_behind [] octets behind more are = ap (λ xs. xs ++ more) are
more_behind (one ∷ lines) octets behind more are =
    (are.0 ++ more, first-more one octets are.0 more are.1, more_behind lines are.0 behind more are.2)

-- more lines stand behind
pub append_first : (lines more : List Apart) (octets middle behind : List ℕ) → AreFirst lines octets middle
    → AreFirst more middle behind → AreFirst (lines ++ more) octets behind
append_first [] more octets middle behind first second = subst (λ xs. AreFirst more xs behind) (sym first) second
append_first (one ∷ lines) more octets middle behind first second =
    (first.0, first.1, append_first lines more first.0 middle behind first.2 second)

pub push_first : (lines : List Apart) (one : Apart) (octets middle behind : List ℕ) → AreFirst lines octets middle
    → IsFirst one middle behind → AreFirst (lines ++ one ∷ []) octets behind
push_first lines one octets middle behind first second =
    append_first lines (one ∷ []) octets middle behind first (behind, second, refl)

-- the lines of all of some octets, and those of the octets behind them
pub joined_first : (lines more : List Apart) (prefix back left behind : List ℕ) → AreFirst lines prefix left → left ≡ []
    → AreFirst more back behind → AreFirst (lines ++ more) (prefix ++ back) behind
joined_first lines more prefix back left behind first none second =
    append_first lines more (prefix ++ back) back behind
    (subst (λ xs. AreFirst lines (prefix ++ back) (xs ++ back)) none (more_behind lines prefix left back first)) second

-- a line of octets from some place on
pub at_place : (one : Apart) (octets : List ℕ) (at : ℕ) (rest : List ℕ) → rest ≡ drop at octets
    → IsFirst one rest (drop (one.len + 1) rest) → IsFirst one (drop at octets) (drop (at + (one.len + 1)) octets)
at_place one octets at rest is first =
    subst (λ xs. IsFirst one (drop at octets) xs) (drop-drop (one.len + 1) at octets)
    (subst (λ xs. IsFirst one xs (drop (one.len + 1) xs)) is first)

-- what is read means what the text does
pub means_read : (answer : Result Line LineBad) (text : List ℕ)
    → IfOk answer (λ line. line_meaning 0 0 text ≡ Ok line)
    → IfErr answer (λ why. (why ≡ NoMemory) ⊎ (line_meaning 0 0 text ≡ Err why)) → MeansApart answer text
means_read (Ok line) text means refused = means
means_read (Err why) text means refused = refused

-- what is behind a line
pub behind_is : (one : Apart) (octets behind : List ℕ) → IsFirst one octets behind → drop (one.len + 1) octets ≡ behind
behind_is one octets behind is =
    let size : one.len + 1 ≡ suc (length is.text) = omega (arith, is.long) in
    ap (λ xs. drop (one.len + 1) xs) is.parts ∙ ap (λ n. drop n (is.text ++ newline ∷ behind)) size ∙ past is.text
  where
    past : (text : List ℕ) → drop (suc (length text)) (text ++ newline ∷ behind) ≡ behind
    past [] = refl
    past (octet ∷ text) = past text

-- a reader of lines would find it, whatever stands behind the octets
pub reads_first : (one : Apart) (prefix behind : List ℕ) (room after : ℕ) (left : Option (List ℕ))
    (is : IsFirst one prefix behind) → room ≡ one.len + 1 + after
    → Reads read.Line room after (prepend_known prefix left) (prepend_known behind left) is.text false
reads_first one prefix behind room after None is given = tt
reads_first one prefix behind room after (Some left) is given = record {
  no_newline = is.no_newline;
  short = is.short;
  form = record {
    parts = ap (λ xs. xs ++ left) is.parts ∙ append_assoc is.text (newline ∷ behind) left;
    given = given ∙ ap (λ n. n + 1 + after) is.long;
  };
}

pub holds_first : (one : Apart) (prefix behind : List ℕ) (room after : ℕ) (is : IsFirst one prefix behind)
    → room ≡ one.len + 1 + after → HoldsLine room after prefix behind is.text false
holds_first one prefix behind room after is given = record {
  no_newline = is.no_newline;
  short = is.short;
  form = record { parts = is.parts; given = given ∙ ap (λ n. n + 1 + after) is.long };
}

-- no line was read yet
pub none_first : (lines : List Apart) (octets : List ℕ) → lines ≡ []
    → (behind : List ℕ) × AreFirst lines octets behind
none_first lines octets none = (octets, rw none refl)

-- a part that breaks off, whatever stands behind it
pub breaks_off : (first : LineBlock) (prefix back : List ℕ) → IsPart first prefix → not first.whole ≡ true
    → IsPart first (prefix ++ back)
breaks_off first prefix back is broken = record {
  behind = is.behind ++ back;
  lines = more_behind first.lines.items prefix is.behind back is.lines;
  whole = λ whole. absurd (true≢false (sym (sym (ap not whole) ∙ broken)));
}

pub is_whole : (whole : Bool) → not whole ≡ false → whole ≡ true
is_whole true is = refl
is_whole false is = absurd (true≢false is)
