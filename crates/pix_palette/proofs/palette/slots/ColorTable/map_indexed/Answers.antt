-- Of `ColorTable::map_indexed`: the clause `mapped`.
use Rattle.std.proofs.Common.{◌≡◌, ◌∙◌, length, map, ap, ◌*◌, sym}
use Rattle.pix_palette.specs.Palette.{numbers}
use Rattle.pix_palette.proofs.IndexingSets.{refilled}
use Rattle.pix_palette.proofs.Mapped.{mapped}
use Rattle.pix_palette.proofs.NoPoints.{sized}
use Rattle.pix_palette.proofs.palette.slots.ColorTable.map_indexed.Goals as goal

pub returns-in-Ok-clause-mapped : goal.returns-in-Ok-clause-mapped
returns-in-Ok-clause-mapped g c =
    let made = c.in-Ok.image in
    let indices = c.map_pixels.new.indices in
    let long : length indices ≡ length made.pixels = cc in
    let wide : made.width ≡ c.args.raster.now.width = c.in-Ok.ensures.ok.0 ∙ c.width.ensures.value in
    let high : made.height ≡ c.args.raster.now.height = c.in-Ok.ensures.ok.1 ∙ c.height.ensures.value in
    rw (refilled made.pixels indices long) (mapped _ _ _ _ _ _ _ _ (record { width = made.width; height = made.height; pixels = indices }) wide high
    c.pixels-pixels.ensures.pixels (ap (map numbers) c.colors-colors.ensures) c.map_pixels.ensures.gray c.map_pixels.ensures.nearest)

pub returns-in-Err-clause-no_room : goal.returns-in-Err-clause-no_room
returns-in-Err-clause-no_room g c = λ none.
    let points : c.height.result * c.width.result ≡ 0 =
    rw (c.height.ensures.value, c.width.ensures.value) (sym c.pixels-pixels.ensures.count ∙ ap length c.pixels-pixels.ensures.pixels ∙ none) in
    c.in-Err.ensures.no_room (sized c.width.result c.height.result c.width.ensures.limited c.height.ensures.limited points) points
