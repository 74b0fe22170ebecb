-- What the program keeps of a box of colors that is joined. No clause of a public call cites this file.
use Rattle.std.specs.Prelude.{◌≡◌, ℕ, ◌*◌, ◌<◌, ◌≤◌, List, All, length, true}
use Rattle.pix_table.specs.quantization.BestPlaces.{AreBytes, AreSums}
use Rattle.pix_table.specs.SeenPixels.{AreSeen}
use Rattle.pix_table.specs.quantization.SeenSums.{AreSeenSums}
use Rattle.pix_table.specs.declared.quantization.box_sums.Sums.{Sums}
use Rattle.pix_table.specs.declared.quantization.group.Group.{Group}
use Rattle.pix_table.specs.declared.rgba.sums.SeenSums.{SeenSums}

-- the sums of a box, and what it weighs, which is little
pub record IsGroup {S : Type 0} (are : List (List ℕ) → S → Type 0) (weigh : List (List ℕ) → ℕ) (box : List (List ℕ)) (group : Group S)
    : Type 0 where
  pub sums : are box group.sums
  pub weight : group.weight ≡ weigh box
  pub little : group.weight ≤ 390150 * length box

-- the sums of a box that has a color
pub record AreBoxSums (box : List (List ℕ)) (sums : Sums) : Type 0 where
  pub some : 0 < length box
  pub bytes : All AreBytes box
  pub whole : AreSums (λ color. true) box sums

-- the same for colors that are seen
pub record AreSeenBoxSums (box : List (List ℕ)) (sums : SeenSums) : Type 0 where
  pub some : 0 < length box
  pub seen : All AreSeen box
  pub whole : AreSeenSums (λ color. true) box sums
