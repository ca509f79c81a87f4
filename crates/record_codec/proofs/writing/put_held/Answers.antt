use Rattle.std.proofs.Common.{◌++◌, ◌∙◌, ap, length, List, ℕ}
use Rattle.packet_steps.specs.Rows.{HeldRow}
use Rattle.record_codec.specs.Spelling.{u32, u64}
use Rattle.record_codec.proofs.PutLemmas.{put_5}
use Rattle.record_codec.proofs.writing.put_held.Goals as goal

pub returns : goal.returns
returns c =
    let row = c.args.row.now in
    let is = c.row.view_is in
    let t0 = c.args.text.now.items in
    let t1 = c.put_u64.new.text.items in
    let t2 = c.put_moment.new.text.items in
    let t3 = c.put_u64-2.new.text.items in
    let t4 = c.put_u32.new.text.items in
    let octets = c.as_slice-octets.ensures ∙ ap (λ (r : HeldRow). r.packet.octets) is in
    put_5 t0 t1 t2 t3 t4 c.extend_from_slice.new.self.items (u64 row.packet.number) (u64 row.packet.moment)
    (u64 row.life) (u32 (length row.packet.octets)) row.packet.octets
    (c.in_ok-put_u64.ensures ∙ ap (λ (r : HeldRow). t0 ++ u64 r.packet.number) is)
    (c.in_ok-put_moment.ensures ∙ ap (λ (r : HeldRow). t1 ++ u64 r.packet.moment) is)
    (c.in_ok-put_u64-2.ensures ∙ ap (λ (r : HeldRow). t2 ++ u64 r.life) is)
    (c.in_ok-put_u32.ensures ∙ ap (λ (xs : List ℕ). t3 ++ u32 (length xs)) octets)
    (c.in_ok-extend_from_slice.ensures.items ∙ ap (λ (xs : List ℕ). t4 ++ xs) octets)
