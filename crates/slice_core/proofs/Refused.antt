-- What holds of an epoch that was closed.
use Rattle.std.proofs.Common.{◌≡◌, ℕ, length, ◌+◌, List, [], ◌++◌, map, Result}
use Rattle.std.proofs.Common.{Ok, Err, IfOk, sym, ap, subst, ◌∙◌}
use Rattle.std.specs.List.{All, count_by}
use Rattle.trace_lines.specs.Line.{Line}
use Rattle.lawful_run.specs.Accepted.{is_refused}
use Rattle.at_rest.specs.Coming.{latest_behind}
use Rattle.at_rest.specs.Rest.{Rest}
use Rattle.front_core.specs.declared.front.Front.{Front}
use Rattle.front_core.specs.declared.taken.Taken.{Taken}
use Rattle.front_core.specs.Entries.{lines_of}
use Rattle.front_core.specs.Words.{entries_in, fulls_in, latest_in, lines_in, opened_of, taken_by}
use Rattle.front_core.specs.Closing.{Closes}
use Rattle.front_core.specs.Filled.{took_told, told_by}
use Rattle.front_core.specs.Placed.{IsEntryBelow}
use Rattle.front_core.specs.declared.epoch.Ended.{Ended}
use Rattle.slice_core.specs.Lines.{Counted, TakesAll, fulls_among, in_among, is_answered}
use Rattle.slice_core.proofs.Rising.{answer_of, told_in, told_so}

module _ {E : Type 0} where
  -- what holds of the front that took the lines
  pub front_of : (P : Front → Type 0) (served : Result Front E) (front : Front) → served ≡ Ok front → IfOk served P
      → P front
  front_of P served front is holds = subst (λ r. IfOk r P) is holds

  -- a front that was opened with no entries took lines, and was closed
  pub refusals_are : (tries fulls : ℕ) (lines : List Line) (old new : Front) (closed : Result Ended E)
      → entries_in old ≡ [] → fulls_in old ≡ fulls → TakesAll tries lines old new
      → IfOk closed (λ ended. (ended.rest.lines ≡ lines_in new) × (ended.rest.latest ≡ latest_in new)
      × (ended.rest.fulls ≡ fulls_in new))
      → IfOk closed (λ ended. map took_told (told_by ended.epoch).lines ≡ map answer_of (entries_in new))
      → IfOk closed (λ ended. Counted tries (count_by is_refused (told_by ended.epoch).lines)
      (count_by is_answered (told_by ended.epoch).lines) fulls ended.rest.fulls)
  refusals_are tries fulls lines old new (Err e) none at takes counts answered = tt
  refusals_are tries fulls lines old new (Ok ended) none at takes counts answered =
      let all : entries_in new ≡ takes.entries =
      takes.entries_are ∙ ap (λ (es : List Taken). es ++ takes.entries) none in
      let same = answered ∙ ap (map answer_of) all in
      let many = told_so (told_by ended.epoch).lines takes.entries same in
      let up = told_in (told_by ended.epoch).lines takes.entries same in
      subst (λ n. Counted tries n (count_by is_answered (told_by ended.epoch).lines) fulls ended.rest.fulls) (sym many)
      (subst (λ n. Counted tries (fulls_among takes.entries) n fulls ended.rest.fulls) (sym up)
      (subst (λ n. Counted tries (fulls_among takes.entries) (in_among takes.entries) fulls n) (sym counts.2)
      (subst (λ n. Counted tries (fulls_among takes.entries) (in_among takes.entries) n (fulls_in new)) at
      takes.fulls)))

  -- its report is of these lines, and it began with this gateway
  pub closes_are : (tries : ℕ) (rest : Rest) (lines : List Line) (old new : Front) (closed : Result Ended E)
      → opened_of old ≡ rest → entries_in old ≡ [] → TakesAll tries lines old new
      → IfOk closed (λ ended. Closes (opened_of new) (taken_by new) ended.rest (told_by ended.epoch))
      → IfOk closed (λ ended. Closes rest lines ended.rest (told_by ended.epoch))
  closes_are tries rest lines old new (Err e) is none takes closes = tt
  closes_are tries rest lines old new (Ok ended) is none takes closes =
      let taken : taken_by new ≡ lines =
      takes.taken ∙ ap (λ (es : List Taken). lines_of es ++ lines) none in
      subst (λ r. Closes r lines ended.rest (told_by ended.epoch)) (takes.opened ∙ is)
      (subst (λ ls. Closes (opened_of new) ls ended.rest (told_by ended.epoch)) taken closes)

  -- counts go on from those before
  pub count_is : (tries count : ℕ) (lines : List Line) (old new : Front) (closed : Result Ended E)
      → lines_in old ≡ count → TakesAll tries lines old new
      → IfOk closed (λ ended. (ended.rest.lines ≡ lines_in new) × (ended.rest.latest ≡ latest_in new)
      × (ended.rest.fulls ≡ fulls_in new))
      → IfOk closed (λ ended. ended.rest.lines ≡ count + length lines)
  count_is tries count lines old new (Err e) at takes counts = tt
  count_is tries count lines old new (Ok ended) at takes counts =
      counts.0 ∙ (takes.count ∙ ap (λ n. n + length lines) at)

  pub latest_is : (tries latest : ℕ) (lines : List Line) (old new : Front) (closed : Result Ended E)
      → latest_in old ≡ latest → TakesAll tries lines old new
      → IfOk closed (λ ended. (ended.rest.lines ≡ lines_in new) × (ended.rest.latest ≡ latest_in new)
      × (ended.rest.fulls ≡ fulls_in new))
      → IfOk closed (λ ended. ended.rest.latest ≡ latest_behind latest lines)
  latest_is tries latest lines old new (Err e) at takes counts = tt
  latest_is tries latest lines old new (Ok ended) at takes counts =
      counts.1 ∙ (takes.latest ∙ ap (λ n. latest_behind n lines) at)

  pub placed_are : (rest : Rest) (front : Front) (closed : Result Ended E) → opened_of front ≡ rest
      → IfOk closed (λ ended. All (IsEntryBelow (opened_of front).slices) (told_by ended.epoch).lines)
      → IfOk closed (λ ended. All (IsEntryBelow rest.slices) (told_by ended.epoch).lines)
  placed_are rest front closed is placed =
      subst (λ (r : Rest). IfOk closed (λ ended. All (IsEntryBelow r.slices) (told_by ended.epoch).lines)) is placed
