use Rattle.std.proofs.Common.{sym, ap, ◌∙◌, arith, length}
use Rattle.std.proofs.lemmas.Result.{err_from_is_err_and}
use Rattle.record_codec.specs.Spelling.{format_version}
use Rattle.record_codec.proofs.WholeLemmas.{file_fails, book_fails, rest_fails, file_found, file_kept}
use Rattle.record_codec.proofs.reading.file_of.Goals as goal

pub returns-in_err-found : goal.returns-in_err-found
returns-in_err-found c =
    let p = err_from_is_err_and c.from_residual-in_err-found.result c.from_residual-in_err-found.ensures.1 in
    rw (p.1, p.2)
    (file_fails c.args.octets.now c.version_at.new.input.rest.now c.count_at.new.input.rest.now
    c.moment_at.new.input.rest.now c.pool_at.new.input.rest.now format_version c.in_ok-lines.lines
    c.in_ok-moment.moment c.in_ok-count.count c.in_err-found.field-0.0 c.in_ok-version_at.ensures
    c.in_ok-lines.ensures.read c.in_ok-moment.ensures.read c.in_ok-count.ensures.read c.in_err-found.ensures.read)

pub returns-in_err-book : goal.returns-in_err-book
returns-in_err-book c =
    let p = err_from_is_err_and c.from_residual-in_err-book.result c.from_residual-in_err-book.ensures.1 in
    let found = c.in_ok-found.ensures in
    rw (p.1, p.2)
    (book_fails c.args.octets.now c.version_at.new.input.rest.now c.count_at.new.input.rest.now
    c.moment_at.new.input.rest.now c.pool_at.new.input.rest.now c.subscribers_at.new.input.rest.now format_version
    c.in_ok-lines.lines c.in_ok-moment.moment c.in_ok-count.count c.in_ok-found.found.imsis.items
    c.in_ok-found.found.subscribers.items c.in_err-book.field-0.0 c.in_ok-version_at.ensures
    c.in_ok-lines.ensures.read c.in_ok-moment.ensures.read c.in_ok-count.ensures.read found.read
    (found.imsis ∙ sym found.each) (rw c.deref.ensures.value at c.in_err-book.ensures))

pub returns-then-not-is_empty : goal.returns-then-not-is_empty
returns-then-not-is_empty c =
    let found = c.in_ok-found.ensures in
    let made = rw c.deref.ensures.value at c.in_ok-book.ensures in
    rest_fails c.args.octets.now c.version_at.new.input.rest.now c.count_at.new.input.rest.now
    c.moment_at.new.input.rest.now c.pool_at.new.input.rest.now c.subscribers_at.new.input.rest.now format_version
    c.in_ok-lines.lines c.in_ok-moment.moment c.in_ok-count.count c.in_ok-found.found.imsis.items
    c.in_ok-found.found.subscribers.items c.in_ok-version_at.ensures c.in_ok-lines.ensures.read
    c.in_ok-moment.ensures.read c.in_ok-count.ensures.read found.read (found.imsis ∙ sym found.each) made.0
    (sym c.is_empty.ensures ∙ c.if-not-is_empty.true)

pub invariant_of-result : goal.invariant_of-result
invariant_of-result c =
    let found = c.in_ok-found.ensures in
    let made = rw c.deref.ensures.value at c.in_ok-book.ensures in
    let read = file_found c.args.octets.now c.version_at.new.input.rest.now c.count_at.new.input.rest.now
    c.moment_at.new.input.rest.now c.pool_at.new.input.rest.now c.subscribers_at.new.input.rest.now format_version
    c.in_ok-lines.lines c.in_ok-moment.moment c.in_ok-count.count c.in_ok-found.found.imsis.items c.in_ok-book.book
    c.in_ok-found.found.subscribers.items c.in_ok-version_at.ensures c.in_ok-lines.ensures.read
    c.in_ok-moment.ensures.read c.in_ok-count.ensures.read found.read (found.imsis ∙ sym found.each) made.0 made.1
    (sym c.is_empty.ensures ∙ c.if-not-is_empty.false) in (
      file_kept c.args.octets.now c.in_ok-lines.lines c.in_ok-moment.moment c.in_ok-book.book
          c.in_ok-found.found.subscribers.items (λ at. omega (arith, c.type_inv.octets at)) read,
      found.each ∙ sym found.imsis ∙ ap length (sym made.1),
      found.resting,
    )

pub returns : goal.returns
returns c =
    let found = c.in_ok-found.ensures in
    let made = rw c.deref.ensures.value at c.in_ok-book.ensures in
    file_found c.args.octets.now c.version_at.new.input.rest.now c.count_at.new.input.rest.now
    c.moment_at.new.input.rest.now c.pool_at.new.input.rest.now c.subscribers_at.new.input.rest.now format_version
    c.in_ok-lines.lines c.in_ok-moment.moment c.in_ok-count.count c.in_ok-found.found.imsis.items c.in_ok-book.book
    c.in_ok-found.found.subscribers.items c.in_ok-version_at.ensures c.in_ok-lines.ensures.read
    c.in_ok-moment.ensures.read c.in_ok-count.ensures.read found.read (found.imsis ∙ sym found.each) made.0 made.1
    (sym c.is_empty.ensures ∙ c.if-not-is_empty.false)
