use Rattle.std.proofs.Common.{◌≡◌, ◌++◌, ◌∷◌, [], sym, ◌∙◌, append_assoc, arith}
use Rattle.std.proofs.lemmas.List.{take-append-drop}
use Rattle.pc_outside.specs.Limits.{newline}
use Rattle.record_codec.specs.StateText.{piece_len, trace_word}
use Rattle.record_codec.proofs.TextLemmas.{written_none, written_more, written_whole}
use Rattle.record_codec.proofs.saving.text_of.Goals as goal

pub loop-left-init : goal.loop-left-init
loop-left-init c = rw c.new-text.ensures (written_none c.args.octets.now c.requires)

pub loop-left-preserved : goal.loop-left-preserved
loop-left-preserved c =
    let left = c.loop-left.left.now in
    let parted : left ≡ c.split_at.result.0.now ++ c.split_at.result.1.now =
    rw (c.split_at.ensures.front, c.split_at.ensures.back) (sym (take-append-drop piece_len left)) in
    written_more c.args.octets.now left c.loop-left.text c.split_at.result.0.now c.split_at.result.1.now
    c.push_line.new.text c.loop-left.invariant parted c.split_at.ensures.front_len
    (omega (arith, c.split_at.ensures.back_len, c.loop-left-test.true)) c.in_ok-push_line.ensures

pub returns : goal.returns
returns c =
    written_whole c.args.octets.now c.loop-left.left.now c.loop-left.text c.push_line-2.new.text
    c.extend_from_slice.new.self c.loop-left.invariant c.loop-left-test.false c.in_ok-push_line-2.ensures
    (c.in_ok-extend_from_slice.ensures.appended ∙ sym (append_assoc c.push_line-2.new.text trace_word (newline ∷ [])))
