use Rattle.std.proofs.Common.{◌≡◌, length, arith}
use Rattle.std.proofs.lemmas.List.{nil_from_length}
use base.Stored.{coded_list}
use Rattle.gather_home.proofs.DataLaid.{all_are_home}
use Rattle.gather_home.proofs.data_parts.DataParts.bring_all.Goals as goal

pub returns-clause-home : goal.returns-clause-home
returns-clause-home g c =
    let now = c.loop.self in
    let kept = c.loop.invariant in
    let none : length now.hand.found.items ≡ 0 = let a = now.hand.found.ok in omega arith in
    all_are_home g.H.DataTraveller.name g.H.DataTraveller.slot_at g.H.DataTraveller.item_slot g.H.DataTraveller.handled _ now.desks.items now.homes.items
    (coded_list g.row.H-Item.coded) now.places.items now.aside.items now.hand now.opened kept.2.0 kept.4 kept.2.1
    kept.2.2 now.laid
    (nil_from_length now.hand.found.items none) kept.3

pub returns-clause-bare : goal.returns-clause-bare
returns-clause-bare g c =
    let now = c.loop.self in
    let kept = c.loop.invariant in
    let none : length now.hand.found.items ≡ 0 = let a = now.hand.found.ok in omega arith in
    record {
      closed = kept.2;
      found = nil_from_length now.hand.found.items none;
      aside = kept.3;
      places = kept.4;
    }
