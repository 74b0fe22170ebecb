use Rattle.std.proofs.Common.{refl}
use Rattle.pix_el.specs.PixelComposite.{matte_numbers, matted_composite, matte_value}
use Rattle.pix_raster.specs.Run.{Matted}
use Rattle.pix_raster.proofs.Opacity.{changed_by_one, masked_change}
use Rattle.pix_raster.proofs.raster.Raster.composite_raster_matte.Goals as goal

pub returns-clause-change : goal.returns-clause-change
returns-clause-change g c = rw (c.source.ensures.image, c.source.ensures.region, c.source-2.ensures.image, c.source-2.ensures.region) at c.draw.ensures

pub returns-clause-opacity : goal.returns-clause-opacity
returns-clause-opacity g c alpha one there =
    let layout = g.P.Pixel.layout in
    let n = g.P.Pixel.numbers in
    let m = matte_numbers g.P.Chan.Channel.number in
    let op = g.O.Blend.op in
    let old = c.args.self.now in
    let new = c.draw.new.self in
    let changed = masked_change layout n m old new c.args.to c.args.from c.args.src c.args.mask_from c.args.mask op
    (rw (c.source.ensures.image, c.source.ensures.region, c.source-2.ensures.image, c.source-2.ensures.region) at c.draw.ensures) in
    changed_by_one layout n n m old new c.args.to c.args.from c.args.src.now c.args.mask_from c.args.mask.now (λ t. matted_composite layout op (matte_value layout t))
    (Matted op) (m alpha) changed (λ m s p. refl) one there
