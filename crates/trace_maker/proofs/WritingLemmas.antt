-- What stands written while lines are made: the text of some first lines, and that of the next ones waits.
use Rattle.std.proofs.Common.{◌≡◌, ℕ, ◌<◌, ◌≤◌, List, [], ◌∷◌, ◌++◌, length, Option, refl, sym, ap, subst, ◌∙◌, arith, append_assoc, append-nil, length-append, inl, inr, Result, Ok, Err, OnOk, OnErr}
use Rattle.std.proofs.lemmas.Grind.{flat_map-append}
use Rattle.std.specs.Io.KnownBytes.{Appends}
use Rattle.pc_outside.specs.Faults.{Rises}
use Rattle.pc_outside.specs.Prefixes.{AppendsPrefix}
use Rattle.pc_outside.proofs.KnownOctets.{appends_both, appends_none}
use Rattle.trace_lines.specs.Line.{Line}
use Rattle.trace_maker.specs.Generated.{row_of, text_of}
use Rattle.trace_maker.specs.Written.{AppendsLines, PushesLine}

pub record IsMade (old new : Option (List ℕ)) (text : List ℕ) (left all : List Line) : Type 0 where
  pub prefix : List Line
  pub waiting : List Line
  pub parts : all ≡ prefix ++ waiting ++ left
  pub written : Appends old new (text_of prefix)
  pub waits : text ≡ text_of waiting

pub begins : (known : Option (List ℕ)) (text : List ℕ) (all : List Line) → text ≡ [] → IsMade known known text all all
begins known text all empty = record {
  prefix = [];
  waiting = [];
  parts = refl;
  written = appends_none known;
  waits = empty;
}

-- no line was left
pub stays : (old new : Option (List ℕ)) (text next : List ℕ) (left all : List Line) → IsMade old new text left all
    → next ≡ text → IsMade old new next left all
stays old new text next left all made same =
    subst (λ t. IsMade old new t left all) (sym same) made

text_of-push : (lines : List Line) (line : Line) → text_of (lines ++ line ∷ []) ≡ text_of lines ++ row_of line
text_of-push lines line =
    flat_map-append row_of lines (line ∷ []) ∙ ap (λ text. text_of lines ++ text) (append-nil (row_of line))

moved_over : (prefix waiting left : List Line) (line : Line)
    → prefix ++ waiting ++ line ∷ left ≡ prefix ++ (waiting ++ line ∷ []) ++ left
moved_over prefix waiting left line =
    sym (append_assoc (prefix ++ waiting) (line ∷ []) left)
    ∙ ap (λ lines. lines ++ left) (append_assoc prefix waiting (line ∷ []))

pub pushes : (old new : Option (List ℕ)) (text next : List ℕ) (left rest all : List Line) → IsMade old new text left all
    → PushesLine text next left rest → IsMade old new next rest all
pushes old new text next left rest all made pushed = record {
  prefix = made.prefix;
  waiting = made.waiting ++ pushed.line ∷ [];
  parts = made.parts ∙ ap (λ lines. made.prefix ++ made.waiting ++ lines) pushed.made
      ∙ moved_over made.prefix made.waiting rest pushed.line;
  written = made.written;
  waits = pushed.pushed ∙ ap (λ t. t ++ row_of pushed.line) made.waits ∙ sym (text_of-push made.waiting pushed.line);
}

both : (old mid new : Option (List ℕ)) (text : List ℕ) (left all : List Line) (made : IsMade old mid text left all)
    → Appends mid new text → Appends old new (text_of (made.prefix ++ made.waiting))
both old mid new text left all made sent =
    let all_sent = appends_both old mid new (text_of made.prefix) text made.written sent in
    let says : text_of made.prefix ++ text ≡ text_of (made.prefix ++ made.waiting) =
    ap (λ t. text_of made.prefix ++ t) made.waits ∙ sym (flat_map-append row_of made.prefix made.waiting)
    in subst (Appends old new) says all_sent

pub sends : (old mid new : Option (List ℕ)) (text emptied : List ℕ) (left all : List Line) → IsMade old mid text left all
    → Appends mid new text → emptied ≡ [] → IsMade old new emptied left all
sends old mid new text emptied left all made sent empty = record {
  prefix = made.prefix ++ made.waiting;
  waiting = [];
  parts = made.parts ∙ ap (λ lines. lines ++ left) (sym (append-nil (made.prefix ++ made.waiting)));
  written = both old mid new text left all made sent;
  waits = empty;
}

-- no lines are left, and the rest was written
pub whole : (old mid new : Option (List ℕ)) (text : List ℕ) (left all : List Line) → IsMade old mid text left all
    → left ≡ [] → Appends mid new text → Appends old new (text_of all)
whole old mid new text left all made none sent =
    let is_all : made.prefix ++ made.waiting ≡ all =
    sym (append-nil (made.prefix ++ made.waiting)) ∙ ap (λ lines. made.prefix ++ made.waiting ++ lines) (sym none) ∙ sym made.parts
    in subst (λ lines. Appends old new (text_of lines)) is_all (both old mid new text left all made sent)

-- a prefix of the rest was written
pub cut : (old mid new : Option (List ℕ)) (text : List ℕ) (left all : List Line) → IsMade old mid text left all
    → AppendsPrefix mid new text → AppendsPrefix old new (text_of all)
cut old mid new text left all made sent = record {
  prefix = text_of made.prefix ++ sent.prefix;
  rest = sent.rest ++ text_of left;
  parts = ap text_of made.parts ∙ flat_map-append row_of (made.prefix ++ made.waiting) left
      ∙ ap (λ t. t ++ text_of left) (flat_map-append row_of made.prefix made.waiting
      ∙ ap (λ t. text_of made.prefix ++ t) (sym made.waits ∙ sent.parts)
      ∙ sym (append_assoc (text_of made.prefix) sent.prefix sent.rest))
      ∙ append_assoc (text_of made.prefix ++ sent.prefix) sent.rest (text_of left);
  some_left = omega (arith, sent.some_left, length-append sent.rest (text_of left));
  appended = appends_both old mid new (text_of made.prefix) sent.prefix made.written sent.appended;
}

-- what waits isn't written
pub some_lines : (old new : Option (List ℕ)) (text : List ℕ) (left all : List Line) → IsMade old new text left all
    → 0 < length left → AppendsLines old new all
some_lines old new text left all made some = record {
  prefix = made.prefix;
  rest = made.waiting ++ left;
  parts = made.parts ∙ append_assoc made.prefix made.waiting left;
  some_left = omega (arith, some, length-append made.waiting left);
  appended = made.written;
}

pub rises_later : (before mid now : ℕ) → before ≤ mid → Rises mid now → Rises before now
rises_later before mid now later rises =
    elim rises [ inl more ↦ inl (omega (arith, later, more)) | inr most ↦ inr most ]

pub on_err : {T E : Type 0} {P : Type 0} {e : E} (r : Result T E) → r ≡ Err e → OnErr r P → P
on_err {T} {E} {P} {e} r is p = subst (λ (o : Result T E). OnErr o P) is p

pub on_ok : {T E : Type 0} {P Q : Type 0} (r : Result T E) → (P → Q) → OnOk r P → OnOk r Q
on_ok (Ok value) then p = then p
on_ok (Err why) then p = p
