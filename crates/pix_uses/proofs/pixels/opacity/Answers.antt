-- Of `opacity`: the clause `inside`.
use Rattle.std.proofs.Common.{◌+◌, ◌*◌, ap, sym, ◌∙◌}
use Rattle.std.proofs.lemmas.Int.{to_z-of_z}
use mir.Syntax.{w32}
use Rattle.pix_el.specs.Pixel.{alpha_of}
use Rattle.pix_uses.specs.Rgba.{rgba8, numbers}
use Rattle.pix_uses.proofs.Points.{read_at}
use Rattle.pix_uses.proofs.pixels.opacity.Goals as goal

pub returns-clause-inside : goal.returns-clause-inside
returns-clause-inside c = λ column row ex ey _.
    c.from.ensures ∙ c.alpha.ensures ∙ ap (alpha_of rgba8)
    (sym (read_at numbers c.args.picture.now.pixels (row * c.args.picture.now.width + column) c.pixel.result (c.pixel.ensures column row
    (to_z-of_z w32 c.args.x c.ranges.x ∙ ex) (to_z-of_z w32 c.args.y c.ranges.y ∙ ey))))
