-- Of `glazed`: the clause `pixel`.
use Rattle.std.proofs.Common.{◌≡◌, ◌<◌, ◌+◌, ◌*◌, arith, refl, sym, ap, ◌∙◌, pos, true}
use Rattle.pix_ops.specs.declared.ops.Op.TheVariants.{SrcOver}
use Rattle.pix_el.specs.PixelComposite.{pixel_composite}
use Rattle.pix.specs.Image.{point}
use Rattle.pix.specs.Region.{covers}
use Rattle.pix.specs.Run.{Composited}
use Rattle.pix_uses.specs.Rgba.{rgba8, numbers}
use Rattle.pix_uses.proofs.Points.{read_at, point_of_one}
use Rattle.pix_uses.proofs.Reached.{reached_run}
use Rattle.pix_uses.proofs.colors.glazed.Goals as goal

pub returns-clause-pixel : goal.returns-clause-pixel
returns-clause-pixel c =
    let old = c.in_ok-picture.picture in
    let made = c.composite_color.new.self in
    let wide : 2 < old.width = omega (arith, c.in_ok-picture.ensures.ok.0) in
    let high : 1 < old.height = omega (arith, c.in_ok-picture.ensures.ok.1) in
    let before : point numbers old 2 1 ≡ numbers c.args.ground =
    point_of_one numbers old c.args.ground 3 4 2 1 c.in_ok-picture.ensures.ok.0 c.in_ok-picture.ensures.ok.2 (omega arith) in
    let after : point numbers made 2 1 ≡ numbers c.pixel.result = read_at numbers made.pixels (1 * made.width + 2) c.pixel.result (c.pixel.ensures 2 1 refl refl) in
    let there : covers c.new.result (pos 2) (pos 1) ≡ true = rw c.new.ensures refl in
    sym after ∙ c.composite_color.ensures.points 2 1 wide high
    ∙ reached_run rgba8 (point numbers old 2 1) (covers c.new.result (pos 2) (pos 1)) (Composited SrcOver (numbers c.args.glaze)) there
    ∙ ap (pixel_composite rgba8 SrcOver (numbers c.args.glaze)) before
