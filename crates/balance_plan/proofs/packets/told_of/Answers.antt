use Rattle.std.proofs.Common.{◌≡◌, ℕ, map, sym, ap, ◌∙◌, arith, length}
use Rattle.std.specs.Global.{Vec}
use Rattle.std.specs.List.{filter_map}
use Rattle.std.proofs.lemmas.List.{length-map}
use Rattle.audit_core.specs.Sharing.{shares}
use Rattle.balance_plan.specs.Packets.{packet_in}
use Rattle.balance_plan.proofs.PacketLemmas.{length-shares, told_each}
use Rattle.balance_plan.proofs.packets.told_of.Goals as goal

pub returns-clause-told : goal.returns-clause-told
returns-clause-told c =
    let are : map (λ (v : Vec ℕ). v.items) c.in_ok-lines.lines.items
    ≡ shares c.args.count (filter_map packet_in c.args.entries.now) =
    c.in_ok-lines.ensures ∙ ap (shares c.args.count) (c.deref.ensures.value ∙ c.in_ok-keyed.ensures) in
    let many : length c.in_ok-lines.lines.items ≡ c.args.count =
    sym (length-map c.in_ok-lines.lines.items (λ (v : Vec ℕ). v.items)) ∙ ap length are
    ∙ length-shares (filter_map packet_in c.args.entries.now) 0 c.args.count in
    record {
      few = omega arith;
      each = λ n slot none within.
          told_each c.in_ok-lines.lines.items c.args.count c.args.entries.now are n slot none within
          (omega (arith, within, many));
    }

pub returns-clause-many : goal.returns-clause-many
returns-clause-many c =
    sym (length-map c.in_ok-lines.lines.items (λ (v : Vec ℕ). v.items)) ∙ ap length c.in_ok-lines.ensures
    ∙ length-shares c.deref.result.now 0 c.args.count
