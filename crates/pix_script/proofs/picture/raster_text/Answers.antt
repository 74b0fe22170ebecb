-- Of `raster_text`: that the text is that of the picture, and of one that is 0 columns wide.
use Rattle.std.proofs.Common.{◌≡◌, ℕ, ◌*◌, length, ◌∙◌, sym, ap, arith}
use Rattle.std.specs.Prelude.{replicate}
use Rattle.pix_raster.specs.Image.{point}
use Rattle.pix_script.specs.Pixels.{color_numbers}
use Rattle.pix_script.proofs.RowLemmas.{rows_text, empty_lines}
use Rattle.pix_script.proofs.picture.raster_text.Goals as goal

pub returns-then-width-eq0 : goal.returns-then-width-eq0
returns-then-width-eq0 c =
    let image = c.args.raster.now in
    c.in_ok-lines.ensures.items_if_clones_equal (λ y e. e) ∙ ap (λ (h : ℕ). replicate h 10) c.height.ensures.value
    ∙ sym (empty_lines image.width image.height (point color_numbers image) (omega arith))

pub returns : goal.returns
returns c =
    let image = c.args.raster.now in
    let long : length image.pixels ≡ image.height * image.width = ap length (sym c.pixels-2.ensures.pixels) ∙ c.pixels-2.ensures.count in
    c.in_ok-push_rows.ensures
    ∙ rw (c.in_ok-out.ensures.items, c.width-width.ensures.value, c.pixels-2.ensures.pixels) (rows_text color_numbers image (omega arith) long)
