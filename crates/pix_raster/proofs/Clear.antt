-- Rasters of one pixel.
use Rattle.std.proofs.Common.{◌≡◌, ℕ, ◌*◌, ◌<◌, List, map, replicate, get_or, refl, ap, ◌∙◌, Result, Ok, Err}
use Rattle.std.proofs.lemmas.List.{get_or-replicate}
use Rattle.std.specs.Prelude.{IfOk}
use Rattle.pix_el.specs.PixelLaws.{map_replicate}
use Rattle.pix_raster.specs.Image.{Image}

-- an image of one pixel whose channels are all 0 is clear
pub clear_from_filled : {P E : Type 0} (numbers : P → List ℕ) (count width height : ℕ) (clr : P) (result : Result (Image P) E)
    → numbers clr ≡ replicate count 0
    → IfOk result (λ r. (r.width ≡ width) × (r.height ≡ height) × (r.pixels ≡ replicate (height * width) clr))
    → IfOk result (λ r. (r.width ≡ width) × (r.height ≡ height) × (map numbers r.pixels ≡ replicate (height * width) (replicate count 0)))
clear_from_filled numbers count width height clr (Ok r) is filled =
    (filled.0, filled.1, ap (map numbers) filled.2 ∙ map_replicate numbers clr (replicate count 0) (height * width) is)
clear_from_filled numbers count width height clr (Err e) is filled = filled

-- what stands at a place of a list of one pixel
pub cleared_place : {P X : Type 0} (n : P → X) (clr : P) (k place : ℕ) (d : X) → place < k → get_or (map n (replicate k clr)) place d ≡ n clr
cleared_place n clr k place d lt = ap (λ l. get_or l place d) (map_replicate n clr (n clr) k refl) ∙ get_or-replicate k place (n clr) d lt
