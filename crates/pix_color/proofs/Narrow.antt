-- A maximum that has a depth is below 2^16.
use Rattle.std.proofs.Common.{◌≡◌, ℕ, ◌<◌, ◌*◌, ◌/◌, arith}
use Rattle.pix_chan.specs.Laws.{ChannelLaws, known_laws}

pub narrow : (max : ℕ) → ChannelLaws max → max < 65536
narrow max laws =
    let whole : 65535 / max * max ≡ 65535 = (known_laws max laws).depth.max_to_16_bit in
    grind (arith, whole)
