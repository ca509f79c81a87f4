-- What is always true of a block's fields.
use Rattle.std.specs.Prelude.{◌≡◌, ◌-◌, ◌≤◌, vec_len}
use Rattle.pc_outside.specs.Limits.{input_max}
use Rattle.pcap_form.specs.declared.block.Block.TheInside.{Inside}
use Rattle.pcap_form.specs.declared.block.TheConstants.{BLOCK_LEN}

-- what is held lies in the block, and was taken
pub record IsSound (block : Inside) : Type 0 where
  pub size : vec_len block.octets ≡ BLOCK_LEN
  pub ordered : block.from ≤ block.to
  pub within : block.to ≤ BLOCK_LEN
  pub held : block.to - block.from ≤ block.taken
  pub taken : block.taken ≤ input_max
