-- The laws of depth, for both widths. No public clause cites this file.
use Rattle.std.specs.Prelude.{refl}
use Rattle.std.proofs.Common.{arith}
use Rattle.pix_chan.specs.Depth.{IsDepth}

pub depth_of_eight : IsDepth 255
depth_of_eight = record { round_trip = λ x h. omega arith; max_to_16_bit = refl; max_from_16_bit = refl }

pub depth_of_sixteen : IsDepth 65535
depth_of_sixteen = record { round_trip = λ x h. omega arith; max_to_16_bit = refl; max_from_16_bit = refl }
