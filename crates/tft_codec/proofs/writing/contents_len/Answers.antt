use Rattle.std.proofs.Common.{arith}
use Rattle.tft_codec.specs.declared.component.Component.TheVariants.{RemoteAddr}
use Rattle.tft_codec.proofs.Bounds.{prefix_bound, whole_bound}
use Rattle.tft_codec.proofs.writing.contents_len.Goals as goal

pub overflow_add-len : goal.overflow_add-len
overflow_add-len c =
    omega (
      arith,
      prefix_bound c.args.components.now c.loop-component.component-index
          (RemoteAddr 0 0) c.loop-component-test.true c.requires,
      c.loop-component.invariant,
      c.text_len-len.ensures,
    )

pub overflow_cast-result : goal.overflow_cast-result
overflow_cast-result c =
    omega (
      arith,
      whole_bound c.args.components.now c.loop-component.component-index c.loop-component-test.false c.requires,
      c.loop-component.invariant,
    )
