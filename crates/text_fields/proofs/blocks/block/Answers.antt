use Rattle.std.proofs.Common.{◌≡◌, ◌&&◌, length, sym, ap, ◌∙◌, arith}
use Rattle.std.proofs.lemmas.Simd.{put_chunk_whole}
use Rattle.std.proofs.lemmas.List.Folds.{list_all-append}
use Rattle.text_fields.specs.Blocks.{values_of, is_small, are_small, packed}
use Rattle.text_fields.proofs.BlockLemmas.{block_values, length-packed, length-values}
use Rattle.text_fields.proofs.blocks.block.Goals as goal

pub returns-clause-octets : goal.returns-clause-octets
returns-clause-octets c =
    let digits = c.args.digits.now in
    let joined = block_values digits c.values-first.result c.values-second.result c.requires.digits c.values-first.ensures c.values-second.ensures in
    let is : c.packed.result ≡ packed (values_of digits) = c.packed.ensures ∙ ap packed joined in
    let long : length c.packed.result ≡ 16 =
    ap length is ∙ length-packed 16 (values_of digits) (omega (arith, length-values digits)) in
    put_chunk_whole c.args.octets.now c.packed.result (omega arith) ∙ is

pub returns-clause-worst : goal.returns-clause-worst
returns-clause-worst c =
    let digits = c.args.digits.now in
    let joined = block_values digits c.values-first.result c.values-second.result c.requires.digits c.values-first.ensures c.values-second.ensures in
    c.greater-2.ensures
    ∙ ap (λ b. are_small c.args.worst && b) (c.greater.ensures
    ∙ sym (list_all-append is_small c.values-first.result c.values-second.result) ∙ ap are_small joined)
