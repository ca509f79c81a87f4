use Rattle.std.proofs.Common.{◌≡◌, ◌+◌, ◌<◌, ◌∙◌, length, get_or, refl, sym, ap, subst, arith}
use Rattle.std.specs.Global.{Vec}
use Rattle.std.specs.List.{All}
use Rattle.std.proofs.lemmas.List.{length-map}
use Rattle.std.proofs.lemmas.List.Elements.{All-get_or}
use Rattle.at_rest.specs.Rest.{IsAtRest}
use Rattle.audit_core.specs.Meant.{StandsTold, line_told, lines_of, share}
use Rattle.audit_core.specs.Played.{AreShares, PlaysBelow, latest_of}
use Rattle.audit_core.specs.declared.told_line.ToldLine.{ToldLine}
use Rattle.audit_core.proofs.PlayLemmas.{half_none, half_step, own_lines, plays_all, share_at, shares_many, stands_beyond}
use Rattle.audit_core.proofs.slots.play.Goals as goal

pub loop-place-init : goal.loop-place-init
loop-place-init c =
    half_none (lines_of c.args.lines.now) c.args.subscribers.now.items _ refl refl c.new.ensures.items
    c.new-2.ensures.items

pub index-requires : goal.index-requires
index-requires c =
    let old = c.args.subscribers.now.items in
    let lines = lines_of c.args.lines.now in
    let slots : c.len.result ≡ length old = omega (arith, c.len.ensures, c.args.subscribers.now.ok.0) in
    let many = shares_many c.in_ok-shares.shares.items c.len.result lines c.in_ok-shares.ensures.shares in
    omega (
      arith,
      many,
      slots,
      c.in_ok-shares.shares.ok.0,
      c.loop-place-test.true,
      c.len-place-end.ensures,
      c.args.subscribers.now.ok.0,
    )

pub add-requires-clause-stand : goal.add-requires-clause-stand
add-requires-clause-stand c =
    let lines = lines_of c.args.lines.now in
    let shares = c.in_ok-shares.shares.items in
    let many = shares_many shares c.len.result lines c.in_ok-shares.ensures.shares in
    let within : c.loop-place.place < length shares =
    omega (
      arith,
      many,
      c.len.ensures,
      c.loop-place-test.true,
      c.len-place-end.ensures,
      c.args.subscribers.now.ok.0,
    ) in
    let own : All StandsTold c.index.result.now.items =
    subst (λ (v : Vec ToldLine). All StandsTold v.items) (sym c.index.ensures)
    (All-get_or (λ (v : Vec ToldLine). All StandsTold v.items) shares c.loop-place.place c.index.result.now within
    (c.in_ok-shares.ensures.stand c.requires.stand)) in
    subst (All StandsTold) (sym c.as_slice.ensures.value) own

pub add-requires-clause-rest : goal.add-requires-clause-rest
add-requires-clause-rest c =
    let i = c.loop-place.place in
    let old = c.args.subscribers.now.items in
    let lines = lines_of c.args.lines.now in
    let slots : c.len.result ≡ length old = omega (arith, c.len.ensures, c.args.subscribers.now.ok.0) in
    let are : AreShares c.in_ok-shares.shares.items (length old) lines =
    subst (λ k. AreShares c.in_ok-shares.shares.items k lines) slots c.in_ok-shares.ensures.shares in
    let low : i < length old =
    omega (arith, c.loop-place-test.true, c.len-place-end.ensures, c.args.subscribers.now.ok.0) in
    let its : lines_of c.as_slice.result.now ≡ share i lines =
    ap lines_of c.as_slice.ensures.value
    ∙ share_at c.in_ok-shares.shares.items (length old) lines i c.index.result.now are low c.index.ensures in
    let subscriber = c.index_mut.result.now in
    let from : subscriber ≡ get_or old i subscriber =
    c.index_mut.ensures.value ∙ c.loop-place.invariant.later i subscriber (omega arith) in
    let rest = c.requires.rest in
    let own = own_lines lines rest.0 rest.1 rest.2 i subscriber c.as_slice.result.now its
    (subst (IsAtRest rest.0 rest.1 rest.2 i) (sym from) (rest.3 i subscriber low)) rest.4
    (omega (arith, rest.5, length-map c.args.lines.now line_told)) in
    (rest.0, rest.1, rest.2, own.0, own.1, own.2)

pub loop-place-preserved : goal.loop-place-preserved
loop-place-preserved c =
    let i = c.loop-place.place in
    let old = c.args.subscribers.now.items in
    let lines = lines_of c.args.lines.now in
    let slots : c.len.result ≡ length old = omega (arith, c.len.ensures, c.args.subscribers.now.ok.0) in
    let are : AreShares c.in_ok-shares.shares.items (length old) lines =
    subst (λ k. AreShares c.in_ok-shares.shares.items k lines) slots c.in_ok-shares.ensures.shares in
    let low : i < length old =
    omega (arith, c.loop-place-test.true, c.len-place-end.ensures, c.args.subscribers.now.ok.0) in
    let its : lines_of c.as_slice.result.now ≡ share i lines =
    ap lines_of c.as_slice.ensures.value
    ∙ share_at c.in_ok-shares.shares.items (length old) lines i c.index.result.now are low c.index.ensures in
    half_step lines old c.loop-place.subscribers.items _ i c.index_mut.result.now c.add.new.subscriber
    c.as_slice.result.now c.loop-place.played c.add.new.self c.loop-place.invariant low c.index_mut.ensures.value refl its
    c.in_ok-add.ensures.plays c.in_ok-add.ensures.represents c.in_ok-add.ensures.rest
    c.in_ok-add.ensures.destination

pub returns-clause-plays : goal.returns-clause-plays
returns-clause-plays c = λ first histories stand are.
    let lines = lines_of c.args.lines.now in
    let end : c.loop-place.place ≡ c.args.subscribers.now.len =
    omega (arith, c.loop-place-test.false, c.loop-place.auto.place-end, c.len-place-end.ensures) in
    plays_all c.args.subscribers.now.len first histories lines are c.requires.known c.loop-place.played
    (subst (λ k. PlaysBelow k histories lines c.loop-place.played) end
    (c.loop-place.invariant.plays first histories stand are))

pub returns-clause-stands : goal.returns-clause-stands
returns-clause-stands c = λ histories stand.
    let lines = lines_of c.args.lines.now in
    let end : c.loop-place.place ≡ length c.args.subscribers.now.items =
    omega (
      arith,
      c.loop-place-test.false,
      c.loop-place.auto.place-end,
      c.len-place-end.ensures,
      c.args.subscribers.now.ok.0,
    ) in
    record {
      each = λ slot none low. c.loop-place.invariant.stands histories stand slot none
          (omega (arith, low, end, c.loop-place.invariant.many));
      beyond = λ slot past. stands_beyond c.args.subscribers.now.len slot (histories slot) lines c.requires.known
          (omega (arith, past, c.loop-place.invariant.many, c.args.subscribers.now.ok.0))
          (stand.beyond slot (omega (arith, past, c.loop-place.invariant.many)));
    }

pub returns-clause-rest : goal.returns-clause-rest
returns-clause-rest c = λ slices count latest are late slot none low.
    let lines = lines_of c.args.lines.now in
    let end : c.loop-place.place ≡ length c.args.subscribers.now.items =
    omega (
      arith,
      c.loop-place-test.false,
      c.loop-place.auto.place-end,
      c.len-place-end.ensures,
      c.args.subscribers.now.ok.0,
    ) in
    subst (λ n. IsAtRest slices (count + n) (latest_of latest lines) slot
    (get_or c.loop-place.subscribers.items slot none)) (length-map c.args.lines.now line_told)
    (c.loop-place.invariant.rest slices count latest are late slot none
    (omega (arith, low, end, c.loop-place.invariant.many)))

pub returns-clause-bound : goal.returns-clause-bound
returns-clause-bound c = λ slot none low.
    let end : c.loop-place.place ≡ length c.args.subscribers.now.items =
    omega (
      arith,
      c.loop-place-test.false,
      c.loop-place.auto.place-end,
      c.len-place-end.ensures,
      c.args.subscribers.now.ok.0,
    ) in
    c.loop-place.invariant.bound slot none (omega (arith, low, end))
