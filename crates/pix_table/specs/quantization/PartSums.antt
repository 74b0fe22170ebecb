-- The sums of few seen colors as those of any number of them. No clause of a public call cites this file.
use Rattle.std.specs.Prelude.{◌≡◌}
use Rattle.pix_table.specs.declared.rgba.part_sums.PartSums32.{PartSums32}
use Rattle.pix_table.specs.declared.rgba.sums.SeenSums.{SeenSums}

-- the same sums
abbrev pub few_sums : PartSums32 → SeenSums
few_sums s = record { count = s.count; red = s.red; green = s.green; blue = s.blue; alpha = s.alpha }

-- the sums of no colors
pub record AreNone (sums : SeenSums) : Type 0 where
  pub count : sums.count ≡ 0
  pub red : sums.red ≡ 0
  pub green : sums.green ≡ 0
  pub blue : sums.blue ≡ 0
  pub alpha : sums.alpha ≡ 0
