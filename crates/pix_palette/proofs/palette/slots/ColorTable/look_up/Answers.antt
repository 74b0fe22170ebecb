-- Of `ColorTable::look_up`: the clause `colors`.
use Rattle.std.proofs.Common.{◌≡◌, ◌∙◌, length, refl, ◌*◌, ap, sym}
use Rattle.pix_palette.proofs.IndexingSets.{refilled}
use Rattle.pix_palette.proofs.Mapped.{looked_up}
use Rattle.pix_palette.proofs.NoPoints.{sized}
use Rattle.pix_palette.proofs.palette.slots.ColorTable.look_up.Goals as goal

pub returns-then-look_up_pixels-clause-colors : goal.returns-then-look_up_pixels-clause-colors
returns-then-look_up_pixels-clause-colors c =
    let made = c.in-Ok.image in
    let colors = c.look_up_pixels.new.pixels in
    let long : length colors ≡ length made.pixels = cc in
    let wide : made.width ≡ c.args.indices.now.width = c.in-Ok.ensures.ok.0 ∙ c.width.ensures.value in
    let high : made.height ≡ c.args.indices.now.height = c.in-Ok.ensures.ok.1 ∙ c.height.ensures.value in
    let found = rw (c.pixels-pixels.ensures.pixels) at (c.look_up_pixels.ensures.found c.if-look_up_pixels.true) in
    rw (refilled made.pixels colors long) (looked_up _ _ _ _ _ _ (record { width = made.width; height = made.height; pixels = colors }) wide high
    c.colors.ensures refl found)

pub returns-in-Err-clause-no_room : goal.returns-in-Err-clause-no_room
returns-in-Err-clause-no_room c = λ none.
    let points : c.height.result * c.width.result ≡ 0 =
    rw (c.height.ensures.value, c.width.ensures.value) (sym c.pixels-pixels.ensures.count ∙ ap length c.pixels-pixels.ensures.pixels ∙ none) in
    c.in-Err.ensures.no_room (sized c.width.result c.height.result c.width.ensures.limited c.height.ensures.limited points) points
