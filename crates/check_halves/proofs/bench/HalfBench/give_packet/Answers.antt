use Rattle.std.proofs.Common.{◌≡◌, ℕ, ◌≤◌, arith, unwrap_or, List, [], ◌∷◌, ◌++◌, All, ap, sym, ◌∙◌, subst, append_assoc, rules}
use Rattle.std.proofs.lemmas.List.Elements.{All-push, All-weaker}
use Rattle.pc_base.specs.declared.packet.Packet.{Packet}
use Rattle.subscriber.specs.Standing.{last_of}
use Rattle.counter_half.specs.Half.{handled_by}
use Rattle.counter_half.specs.declared.items.DataItem.{DataItem}
use Rattle.split_record.specs.Rejoined.{unbound, AreAccepted}
use Rattle.split_record.proofs.Accepting.{accepted_packet}
use Rattle.check_halves.proofs.bench.HalfBench.give_packet.Goals as goal

pub invariant_of-self-2 : goal.invariant_of-self-2
invariant_of-self-2 c =
    let old = c.args.self.now in
    let item = c.packet_item-item.result in
    let made = c.packet_item-item.ensures.made in
    let same = c.accepted.ensures.same in
    let items = handled_by old.data_half ++ old.left.items in
    let at : c.packet-inside.inside.0.1.0.0 ≡ c.args.packet.moment = search rules in
    let carried = ap (λ (p : Packet). p.moment) made.packet_is in
    let number = ap (λ (p : Packet). p.number) made.packet_is in
    let high : old.last ≤ item.packet.moment = omega (arith, at, carried, c.if-moment-self.false) in
    let more : c.push_reserved.new.self.items ≡ old.left.items ++ item ∷ [] = c.push_reserved.ensures.items
    ∙ ap (λ (l : List DataItem). l ++ item ∷ []) c.reserve.ensures.items in
    let whole : items ++ item ∷ [] ≡ handled_by old.data_half ++ c.push_reserved.new.self.items =
    append_assoc (handled_by old.data_half) old.left.items (item ∷ [])
    ∙ ap (λ (l : List DataItem). handled_by old.data_half ++ l) (sym more) in
    record {
      one = record {
        session = old.one.session ∙ (λ i. (unbound (sym same.started i).value).session);
        number = old.one.number ∙ (λ i. (sym same.started i).value.version.number);
        commands = old.one.commands ∙ sym same.lane;
        versions = old.one.versions;
        started = old.one.started ∙ (λ i. unbound (sym same.started i).value);
      };
      accepted = subst (AreAccepted c.accepted.new.self) whole
          (accepted_packet old.front c.accepted.new.self items same old.accepted item old.last
          c.accepted.ensures.commands.0 c.accepted.ensures.packets made.slot made.number number
          c.packet_item-item.ensures.standing old.begun old.late high);
      begun = subst (λ (n : ℕ). n ≤ c.packet-inside.inside.0.1.0.0)
          (λ i. unwrap_or (last_of (unbound (sym same.started i).value)) 0)
          (omega (arith, old.begun, high, at, carried));
      late = subst (All (λ (i : DataItem). i.packet.moment ≤ c.packet-inside.inside.0.1.0.0)) whole
          (All-push (λ (i : DataItem). i.packet.moment ≤ c.packet-inside.inside.0.1.0.0) items item
          (All-weaker (λ (i : DataItem). i.packet.moment ≤ old.last)
          (λ (i : DataItem). i.packet.moment ≤ c.packet-inside.inside.0.1.0.0)
          (λ i low. omega (arith, low, high, at, carried)) items old.late) (omega (arith, at, carried)));
      moved = c.accepted.ensures.hop ∙ old.moved;
    }
