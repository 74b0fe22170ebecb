-- Of `Palette::index_raster`: the clause `indexed`.
use Rattle.std.proofs.Common.{◌≡◌, ◌∙◌, length}
use Rattle.pix_raster.specs.Image.{Image}
use Rattle.pix_palette.proofs.IndexingLaws.{all_indexed}
use Rattle.pix_palette.proofs.IndexingSets.{refilled}
use Rattle.pix_palette.proofs.palette.table.Palette.index_raster.Goals as goal

pub returns-then-index_pixels-clause-indexed : goal.returns-then-index_pixels-clause-indexed
returns-then-index_pixels-clause-indexed g c =
    let made = c.in-Ok.image in
    let indices = c.index_pixels.new.indices in
    let long : length indices ≡ length made.pixels = cc in
    let image : Image g.row.P.Denot = record { width = made.width; height = made.height; pixels = indices } in
    let wide : made.width ≡ c.args.raster.width = c.in-Ok.ensures.ok.0 ∙ c.width.ensures.value in
    let high : made.height ≡ c.args.raster.height = c.in-Ok.ensures.ok.1 ∙ c.height.ensures.value in
    let set = rw (c.pixels.ensures.pixels, c.if-index_pixels.true) at c.index_pixels.ensures.indexed in
    rw (refilled made.pixels indices long) (all_indexed _ _ _ _ _ _ _ _ _ image _ wide high set (c.index_pixels.ensures.gray c.if-index_pixels.true))
