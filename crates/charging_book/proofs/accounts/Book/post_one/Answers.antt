use Rattle.std.proofs.Common.{◌≢◌, ℕ, ◌<◌, List, length, map, get_or, All, sym, ◌∙◌, ap, subst}
use Rattle.std.proofs.lemmas.Bool.{false≢true}
use Rattle.std.proofs.lemmas.List.{get_or-map}
use Rattle.charging_book.specs.Rows.{Counters}
use Rattle.charging_book.specs.Counters.{HasRoom}
use Rattle.charging_book.specs.Accounts.{Accounts}
use Rattle.charging_book.specs.Postings.{happening_of, MayFollow, MayBePosted}
use Rattle.charging_book.proofs.PostingLemmas.{may_start, may_go_on}
use Rattle.charging_book.proofs.accounts.Book.post_one.Goals as goal

abbrev life_of : Counters → ℕ
life_of counters = counters.life

pub returns-then-not-may_start-clause-stands : goal.returns-then-not-may_start-clause-stands
returns-then-not-may_start-clause-stands c = λ happened taken stands may.
    let follow = subst (λ posting. MayFollow happened (happening_of posting)) c.in-Start.is may in
    absurd (false≢true (sym c.if-not-may_start.true
    ∙ c.may_start.ensures.1 (may_start c.args.self.now happened taken c.in-Start.life stands follow.may
    follow.in_range)))

pub returns-then-not-may_go_on-clause-stands : goal.returns-then-not-may_go_on-clause-stands
returns-then-not-may_go_on-clause-stands c = λ happened taken stands may.
    let follow = subst (λ posting. MayFollow happened (happening_of posting)) c.in-Close.is may in
    absurd (false≢true (sym c.if-not-may_go_on.true
    ∙ c.may_go_on.ensures.1 (may_go_on c.args.self.now happened taken c.in-Close.life stands follow.may follow.few)))

pub returns-in_default-clause-stands : goal.returns-in_default-clause-stands
returns-in_default-clause-stands c = λ happened taken stands may.
    let follow = subst (λ posting. MayFollow happened (happening_of posting)) c.in-Packet.is may in
    let opens = c.deref.ensures.value ∙ ap (λ (book : Accounts). book.opens) c.self.view_is in
    let there = (may_go_on c.args.self.now happened taken c.in-Packet.life stands follow.may follow.few).is_open in
    let none = subst (λ xs. All (λ other. other ≢ c.in-Packet.life) (map life_of xs)) opens c.in_default.ensures.none in
    absurd (none there.0 c.in-Packet.life there.1 there.2)

pub returns-then-not-has_room-clause-stands : goal.returns-then-not-has_room-clause-stands
returns-then-not-has_room-clause-stands c = λ happened taken stands may.
    let old = c.args.self.now in
    let place = c.in-Some.place in
    let counters = c.index.result.now in
    let follow = subst (λ posting. MayFollow happened (happening_of posting)) c.in-Packet.is may in
    let inside = ap (λ (book : Accounts). book.opens) c.self.view_is in
    let opens = c.deref.ensures.value ∙ inside in
    let within = subst (λ (xs : List Counters). place < length xs) opens c.in-Some.ensures.within in
    let same = sym (get_or-map life_of old.opens place counters 0 within)
    ∙ ap (λ xs. get_or (map life_of xs) place 0) (sym opens) ∙ c.in-Some.ensures.found in
    let room = (may_go_on old happened taken c.in-Packet.life stands follow.may follow.few).room place counters within same in
    absurd (false≢true (sym c.if-not-has_room.true
    ∙ c.has_room.ensures.1 (subst HasRoom (sym (c.index.ensures ∙ ap (λ xs. get_or xs place counters) inside)) room)))

pub returns-then-not-may_start-clause-pieces : goal.returns-then-not-may_start-clause-pieces
returns-then-not-may_start-clause-pieces c = λ may.
    absurd (false≢true (sym c.if-not-may_start.true
    ∙ c.may_start.ensures.1 (subst (λ posting. MayBePosted c.args.self.now (happening_of posting)) c.in-Start.is may)))

pub returns-then-not-may_go_on-clause-pieces : goal.returns-then-not-may_go_on-clause-pieces
returns-then-not-may_go_on-clause-pieces c = λ may.
    absurd (false≢true (sym c.if-not-may_go_on.true
    ∙ c.may_go_on.ensures.1 (subst (λ posting. MayBePosted c.args.self.now (happening_of posting)) c.in-Close.is may)))

pub returns-in_default-clause-pieces : goal.returns-in_default-clause-pieces
returns-in_default-clause-pieces c = λ may.
    let there = (subst (λ posting. MayBePosted c.args.self.now (happening_of posting)) c.in-Packet.is may).is_open in
    let opens = c.deref.ensures.value ∙ ap (λ (book : Accounts). book.opens) c.self.view_is in
    let none = subst (λ xs. All (λ other. other ≢ c.in-Packet.life) (map life_of xs)) opens c.in_default.ensures.none in
    absurd (none there.0 c.in-Packet.life there.1 there.2)

pub returns-then-not-has_room-clause-pieces : goal.returns-then-not-has_room-clause-pieces
returns-then-not-has_room-clause-pieces c = λ may.
    let old = c.args.self.now in
    let place = c.in-Some.place in
    let counters = c.index.result.now in
    let goes = subst (λ posting. MayBePosted old (happening_of posting)) c.in-Packet.is may in
    let inside = ap (λ (book : Accounts). book.opens) c.self.view_is in
    let opens = c.deref.ensures.value ∙ inside in
    let within = subst (λ (xs : List Counters). place < length xs) opens c.in-Some.ensures.within in
    let same = sym (get_or-map life_of old.opens place counters 0 within)
    ∙ ap (λ xs. get_or (map life_of xs) place 0) (sym opens) ∙ c.in-Some.ensures.found in
    absurd (false≢true (sym c.if-not-has_room.true
    ∙ c.has_room.ensures.1 (subst HasRoom (sym (c.index.ensures ∙ ap (λ xs. get_or xs place counters) inside))
    (goes.room place counters within same))))
