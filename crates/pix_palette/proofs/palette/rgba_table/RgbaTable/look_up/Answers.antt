-- Of `RgbaTable::look_up`: that no picture without points is refused.
use Rattle.std.proofs.Common.{◌≡◌, ◌*◌, ◌∙◌, ap, length, sym}
use Rattle.pix_palette.proofs.NoPoints.{sized}
use Rattle.pix_palette.proofs.palette.rgba_table.RgbaTable.look_up.Goals as goal

pub returns-in-Err-clause-no_room : goal.returns-in-Err-clause-no_room
returns-in-Err-clause-no_room c = λ none.
    let points : c.height.result * c.width.result ≡ 0 =
    rw (c.height.ensures.value, c.width.ensures.value) (sym c.pixels-pixels.ensures.count ∙ ap length c.pixels-pixels.ensures.pixels ∙ none) in
    c.in-Err.ensures.no_room (sized c.width.result c.height.result c.width.ensures.limited c.height.ensures.limited points) points
