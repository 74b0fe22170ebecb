-- Of `paint` of a command of 16 bits: its mattes of 8 bits are read as ones of 16.
use Rattle.std.proofs.Common.{◌≡◌, ◌+◌, true, sym, ◌∙◌}
use Rattle.pix_raster.specs.View.{largest}
use Rattle.pix_raster.proofs.Shaped.{changed_alike}
use Rattle.pix_flat.specs.Format.{rgba16, rgba16_numbers}
use Rattle.pix_flat.specs.Command.{is_narrow}
use Rattle.pix_flat.proofs.Narrow.{narrow_run}
use Rattle.pix_flat.proofs.flatten.PixCommandRgba16FlattenRgba16pPixRgba16U16.paint.Goals as goal

pub returns-then-is_narrow : goal.returns-then-is_narrow
returns-then-is_narrow c =
    let window = c.args.window in
    let narrow : is_narrow c.args.self.now ≡ true = sym c.is_narrow.ensures ∙ c.if-is_narrow.true in
    changed_alike rgba16_numbers window.shape c.args.pixels.now c.paint_command.new.pixels _ _
    (λ x y pixel lx ly. narrow_run rgba16 largest c.args.self.now (window.left + x) (window.top + y) pixel narrow)
    c.paint_command.ensures
