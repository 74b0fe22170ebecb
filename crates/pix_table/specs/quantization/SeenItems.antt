-- Items of seen colors. No clause of a public call cites this file.
use Rattle.std.specs.Prelude.{ℕ, List, take}
use Rattle.pix_table.specs.quantization.Items.{IsItem}
use Rattle.pix_table.specs.SeenPixels.{AreSeen}

-- an item whose color is seen
pub record IsSeenItem (item : List ℕ) : Type 0 where
  pub is : IsItem 4 item
  pub seen : AreSeen (take 4 item)
