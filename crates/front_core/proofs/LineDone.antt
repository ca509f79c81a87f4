-- A line that was taken, by what the body of `line` has of it.
use Rattle.std.proofs.Common.{◌≡◌, ℕ, ◌+◌, ◌^◌, ◌<◌, ◌≤◌, List, [], ◌∷◌, ◌++◌, Result, Ok, Err, IfOk}
use Rattle.std.proofs.Common.{sym, ap, subst, ◌∙◌, arith}
use Rattle.trace_lines.specs.Line.{Line}
use Rattle.demux.specs.Meant.{meaning_of}
use Rattle.demux.specs.declared.meant.Meant.{Meant}
use Rattle.subscriber.specs.Standing.{SubscriberState}
use Rattle.at_rest.specs.Meant.{Turned}
use Rattle.at_rest.specs.Rest.{Rest}
use Rattle.front_core.specs.declared.halves.Halves.{Halves}
use Rattle.front_core.specs.Steps.{Pumps, Settles}
use Rattle.front_core.specs.declared.taken.OpenEntry.{OpenEntry}
use Rattle.front_core.specs.declared.taken.Taken.{Taken}
use Rattle.front_core.specs.Entries.{lines_of}
use Rattle.front_core.specs.Keeping.{FrontKeeps}
use Rattle.front_core.specs.Taking.{Takes}
use Rattle.front_core.specs.Words.{TakesAtOnce, TakesLine}
use Rattle.front_core.specs.declared.front.Front.{Front}
use Rattle.front_core.specs.declared.took.Took.{Took}
use Rattle.front_core.proofs.Fronts.{line_keeps, lines_push}

-- the subscribers as they were lent, and as they came back
pub takes_as : (n tries : ℕ) (it : Meant) (open_ : OpenEntry) (turned lent after now : List SubscriberState) (old new : Halves)
    → lent ≡ turned → now ≡ after → Takes n tries (meaning_of it) open_ lent after old new
    → Takes n tries (meaning_of it) open_ turned now old new
takes_as n tries it open_ turned lent after now old new lent_is now_is takes =
    subst (λ (s : List SubscriberState). Takes n tries (meaning_of it) open_ turned s old new) (sym now_is)
    (subst (λ (s : List SubscriberState). Takes n tries (meaning_of it) open_ s after old new) lent_is takes)

pub line_done : (opened : Rest) (slices lane lines latest tries : ℕ) (book book_now : List (List ℕ))
    (subs turned now : List SubscriberState) (old mid new : Halves) (entries more : List Taken) (taken : Taken)
    (line : Line) (it : Meant) (moment : ℕ) → FrontKeeps opened slices lane lines latest book subs old entries
    → lines < 2 ^ 39 → latest ≤ line.moment → Settles old mid → Turned slices book subs line it book_now turned
    → Takes (lines + 1) tries (meaning_of it) taken.open turned now mid new → taken.line.value ≡ line
    → moment ≡ line.moment → more ≡ entries ++ taken ∷ []
    → FrontKeeps opened slices lane (lines + 1) moment book_now now new more
line_done opened slices lane lines latest tries book book_now subs turned now old mid new entries more taken line it moment
    keeps few late pump turns takes line_is moment_is more_is =
    let at : taken.line.value.moment ≡ line.moment = ap (λ (l : Line). l.moment) line_is in
    let kept = line_keeps opened slices lane lines latest tries book book_now subs turned now old mid new entries taken it
    keeps few (omega (arith, late, at)) pump
    (subst (λ (l : Line). Turned slices book subs l it book_now turned) (sym line_is) turns) takes in
    subst (λ (e : List Taken). FrontKeeps opened slices lane (lines + 1) moment book_now now new e) (sym more_is)
    (subst (λ (m : ℕ). FrontKeeps opened slices lane (lines + 1) m book_now now new (entries ++ taken ∷ []))
    (at ∙ sym moment_is) kept)

pub taken_more : (entries kept more : List Taken) (taken : Taken) (line : Line) → kept ≡ entries
    → more ≡ kept ++ taken ∷ [] → taken.line.value ≡ line → lines_of more ≡ lines_of entries ++ line ∷ []
taken_more entries kept more taken line same more_is line_is =
    ap lines_of more_is ∙ ap (λ (k : List Taken). lines_of (k ++ taken ∷ [])) same ∙ lines_push entries taken
    ∙ ap (λ (l : Line). lines_of entries ++ l ∷ []) line_is

-- a fact of a result follows from another
pub if_ok : {T E : Type 0} {P Q : T → Type 0} (r : Result T E) → ((x : T) → P x → Q x) → IfOk r P → IfOk r Q
if_ok (Ok x) gives one = gives x one
if_ok (Err e) gives one = tt

-- a line that is taken at once, behind a pump of the halves
pub pumped_before : (line : Line) (tries : ℕ) (took : Took) (old new : Front) (pumped : Halves) → Pumps old.halves pumped
    → TakesAtOnce line tries took (record old { halves = pumped }) new → TakesLine line tries took old new
pumped_before line tries took old new pumped pumps takes = record {
  taken = takes.taken;
  entries = takes.entries;
  line_is = takes.line_is;
  took_is = takes.took_is;
  pumped = pumped;
  pumps = pumps;
  now = takes.now;
  turned = takes.turned;
  turns = takes.turns;
  takes = takes.takes;
}
