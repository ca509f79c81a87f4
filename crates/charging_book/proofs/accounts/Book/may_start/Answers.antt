use Rattle.charging_book.proofs.PostingLemmas.{start_told}
use Rattle.charging_book.proofs.accounts.Book.may_start.Goals as goal

pub returns-then-life-le-LAST_LIFE : goal.returns-then-life-le-LAST_LIFE
returns-then-life-le-LAST_LIFE c =
    start_told c.args.self.now c.args.life c.is_open.result c.if-life-le-LAST_LIFE.true c.is_open.ensures
