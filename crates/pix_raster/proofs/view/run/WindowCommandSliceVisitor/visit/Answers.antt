use Rattle.std.proofs.Common.{◌≡◌, ◌+◌, ℕ, List, replicate, length, arith, refl, ap, sym, ◌∙◌}
use Rattle.pix_el.specs.Pixel.{Layout, channel}
use Rattle.pix_el.specs.PixelComposite.{pixel_composite, matted_composite, matte_value}
use Rattle.pix_el.proofs.Written.{replaced}
use Rattle.pix_raster.specs.View.{where_covered, picture, IsShaped}
use Rattle.pix_raster.specs.Run.{Cleared, Copied, Composited, Matted}
use Rattle.pix_raster.proofs.Draws.{made_as_told}
use Rattle.pix_raster.proofs.Shaped.{changed_alike}
use Rattle.pix_raster.proofs.Steps.{whole_effect, covered_effect}
use Rattle.pix_raster.proofs.ViewEffects.{paired_effect, masked_effect}
use Rattle.pix_raster.proofs.view.run.WindowCommandSliceVisitor.visit.Goals as goal

pub returns-in-Clear : goal.returns-in-Clear
returns-in-Clear g c =
    let layout = g.P.Pixel.layout in
    let n = g.D.Stored.reads in
    let window = c.args.self.now.window in
    let fits = c.requires.1 in
    let clear : List ℕ = replicate layout.count 0 in
    made_as_told layout n g.M.Coverage.numbers window c.args.pixels.now c.fill_window.new.pixels g.O.Blend.op c.read-draw.result (g.C.ReadDraw.command c.args.self.now.command.now) c.requires.3 c.read-draw.ensures.same
    (rw c.in-Clear.is (changed_alike n window.shape c.args.pixels.now c.fill_window.new.pixels _ _
    (λ x y pixel lx ly.
    ap (λ r. where_covered r (λ p. clear) (window.left + x) (window.top + y) pixel) c.picture_of-all.ensures
    ∙ whole_effect layout (window.left + window.shape.width) (window.top + window.shape.height) (λ p. clear) Cleared (window.left + x) (window.top + y) pixel
    fits.across fits.down (omega arith) (omega arith) (λ p. refl)) c.fill_window.ensures))

pub returns-in-CopyColor : goal.returns-in-CopyColor
returns-in-CopyColor g c =
    let layout = g.P.Pixel.layout in
    let n = g.D.Stored.reads in
    let window = c.args.self.now.window in
    let it = c.in-CopyColor in
    made_as_told layout n g.M.Coverage.numbers window c.args.pixels.now c.fill_window-in-CopyColor.new.pixels g.O.Blend.op c.read-draw.result (g.C.ReadDraw.command c.args.self.now.command.now) c.requires.3 c.read-draw.ensures.same
    (rw it.is (changed_alike n window.shape c.args.pixels.now c.fill_window-in-CopyColor.new.pixels _ _
    (λ x y pixel lx ly. covered_effect layout it.reg (λ p. n it.clr.now) (Copied (n it.clr.now)) (window.left + x) (window.top + y) pixel (λ p. refl))
    c.fill_window-in-CopyColor.ensures))

pub returns-in-CopyImage : goal.returns-in-CopyImage
returns-in-CopyImage g c =
    let layout = g.P.Pixel.layout in
    let n = g.D.Stored.reads in
    let window = c.args.self.now.window in
    let it = c.in-CopyImage in
    let shaped : IsShaped it.src.shape (length it.src.pixels.now) = rw it.is at c.read-draw.ensures.sound in
    made_as_told layout n g.M.Coverage.numbers window c.args.pixels.now c.blit_window.new.pixels g.O.Blend.op c.read-draw.result (g.C.ReadDraw.command c.args.self.now.command.now) c.requires.3 c.read-draw.ensures.same
    (rw it.is (changed_alike n window.shape c.args.pixels.now c.blit_window.new.pixels _ _
    (λ x y pixel lx ly. paired_effect layout it.to (picture window) it.src.from n it.src.shape.width it.src.shape.height it.src.shape.stride it.src.pixels.now
    (λ s p. s) Copied (window.left + x) (window.top + y) pixel shaped (λ s p. refl))
    c.blit_window.ensures))

pub returns-in-Color : goal.returns-in-Color
returns-in-Color g c =
    let layout = g.P.Pixel.layout in
    let n = g.D.Stored.reads in
    let op = g.O.Blend.op in
    let window = c.args.self.now.window in
    let it = c.in-Color in
    made_as_told layout n g.M.Coverage.numbers window c.args.pixels.now c.fill_window-in-Color.new.pixels g.O.Blend.op c.read-draw.result (g.C.ReadDraw.command c.args.self.now.command.now) c.requires.3 c.read-draw.ensures.same
    (rw it.is (changed_alike n window.shape c.args.pixels.now c.fill_window-in-Color.new.pixels _ _
    (λ x y pixel lx ly. covered_effect layout it.reg (pixel_composite layout op (g.P.Pixel.numbers c.load-clr.result)) (Composited op (n it.clr.now)) (window.left + x) (window.top + y) pixel
    (λ p. ap (λ (z : List ℕ). pixel_composite layout op z p) c.load-clr.ensures))
    c.fill_window-in-Color.ensures))

pub returns-in-Image : goal.returns-in-Image
returns-in-Image g c =
    let layout = g.P.Pixel.layout in
    let n = g.D.Stored.reads in
    let op = g.O.Blend.op in
    let window = c.args.self.now.window in
    let it = c.in-Image in
    let shaped : IsShaped it.src.shape (length it.src.pixels.now) = rw it.is at c.read-draw.ensures.sound in
    made_as_told layout n g.M.Coverage.numbers window c.args.pixels.now c.blit_window-in-Image.new.pixels g.O.Blend.op c.read-draw.result (g.C.ReadDraw.command c.args.self.now.command.now) c.requires.3 c.read-draw.ensures.same
    (rw it.is (changed_alike n window.shape c.args.pixels.now c.blit_window-in-Image.new.pixels _ _
    (λ x y pixel lx ly. paired_effect layout it.to (picture window) it.src.from n it.src.shape.width it.src.shape.height it.src.shape.stride it.src.pixels.now
    (pixel_composite layout op) (Composited op) (window.left + x) (window.top + y) pixel shaped (λ s p. refl))
    c.blit_window-in-Image.ensures))

pub returns-in-Matte : goal.returns-in-Matte
returns-in-Matte g c =
    let layout = g.P.Pixel.layout in
    let n = g.D.Stored.reads in
    let m = g.M.Coverage.numbers in
    let op = g.O.Blend.op in
    let window = c.args.self.now.window in
    let it = c.in-Matte in
    let shaped : IsShaped it.src.shape (length it.src.pixels.now) = rw it.is at c.read-draw.ensures.sound in
    made_as_told layout n g.M.Coverage.numbers window c.args.pixels.now c.blit_window-in-Matte.new.pixels g.O.Blend.op c.read-draw.result (g.C.ReadDraw.command c.args.self.now.command.now) c.requires.3 c.read-draw.ensures.same
    (rw it.is (changed_alike n window.shape c.args.pixels.now c.blit_window-in-Matte.new.pixels _ _
    (λ x y pixel lx ly. paired_effect layout it.to (picture window) it.src.from m it.src.shape.width it.src.shape.height it.src.shape.stride it.src.pixels.now
    (λ s. matted_composite layout op (matte_value layout s) (g.P.Pixel.numbers c.load-clr-in-Matte.result)) (λ s. Matted op s (n it.clr.now)) (window.left + x) (window.top + y) pixel shaped
    (λ s p. ap (λ (z : List ℕ). matted_composite layout op (matte_value layout s) z p) c.load-clr-in-Matte.ensures))
    c.blit_window-in-Matte.ensures))

pub returns-in-ImageMatte : goal.returns-in-ImageMatte
returns-in-ImageMatte g c =
    let layout = g.P.Pixel.layout in
    let n = g.D.Stored.reads in
    let m = g.M.Coverage.numbers in
    let op = g.O.Blend.op in
    let window = c.args.self.now.window in
    let it = c.in-ImageMatte in
    let shaped : IsShaped it.src.shape (length it.src.pixels.now) × IsShaped it.mask.shape (length it.mask.pixels.now) = rw it.is at c.read-draw.ensures.sound in
    made_as_told layout n g.M.Coverage.numbers window c.args.pixels.now c.blit_masked.new.pixels g.O.Blend.op c.read-draw.result (g.C.ReadDraw.command c.args.self.now.command.now) c.requires.3 c.read-draw.ensures.same
    (rw it.is (changed_alike n window.shape c.args.pixels.now c.blit_masked.new.pixels _ _
    (λ x y pixel lx ly. masked_effect layout it.to (picture window) it.src.from it.mask.from n it.src.shape.width it.src.shape.height it.src.shape.stride it.src.pixels.now
    m it.mask.shape.width it.mask.shape.height it.mask.shape.stride it.mask.pixels.now
    (λ t. matted_composite layout op (matte_value layout t)) (Matted op) (window.left + x) (window.top + y) pixel shaped.0 shaped.1 (λ t s p. refl))
    c.blit_masked.ensures))

pub returns-in-ImageAlpha : goal.returns-in-ImageAlpha
returns-in-ImageAlpha g c =
    let layout : Layout = g.P.Pixel.layout in
    let n = g.D.Stored.reads in
    let m = g.M.Coverage.numbers in
    let op = g.O.Blend.op in
    let top = g.P.Chan.Channel.max in
    let number = g.P.Chan.Channel.number in
    let window = c.args.self.now.window in
    let it = c.in-ImageAlpha in
    let matte : List ℕ = m it.alpha.now in
    let max : top ≡ layout.max = sym (ap (λ (l : Layout). l.max) g.met.P.Pixel.laid_out) in
    let value : number c.coverage-alpha.result ≡ matte_value layout matte = replaced (λ r. channel r matte 0) top layout.max (number c.coverage-alpha.result) c.coverage-alpha.ensures max in
    let shaped : IsShaped it.src.shape (length it.src.pixels.now) = rw it.is at c.read-draw.ensures.sound in
    made_as_told layout n g.M.Coverage.numbers window c.args.pixels.now c.blit_window-in-ImageAlpha.new.pixels g.O.Blend.op c.read-draw.result (g.C.ReadDraw.command c.args.self.now.command.now) c.requires.3 c.read-draw.ensures.same
    (rw it.is (changed_alike n window.shape c.args.pixels.now c.blit_window-in-ImageAlpha.new.pixels _ _
    (λ x y pixel lx ly. paired_effect layout it.to (picture window) it.src.from n it.src.shape.width it.src.shape.height it.src.shape.stride it.src.pixels.now
    (matted_composite layout op (number c.coverage-alpha.result)) (Matted op matte) (window.left + x) (window.top + y) pixel shaped
    (λ s p. ap (λ z. matted_composite layout op z s p) value))
    c.blit_window-in-ImageAlpha.ensures))
