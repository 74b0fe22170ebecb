use Rattle.std.proofs.Common.{◌∷◌, ◌∙◌, refl, sym, ap}
use Rattle.pix_script.specs.declared.command.Line.{Line}
use Rattle.pix_script.specs.Pixels.{color_numbers}
use Rattle.pix_script.specs.Picture.{new_images}
use Rattle.pix_script.specs.Script.{text_of}
use Rattle.pix_script.proofs.DrawLemmas.{clear_shows, shown_text}
use Rattle.pix_script.proofs.script.render_from.Goals as goal

pub returns-clause-text : goal.returns-clause-text
unfolding color_numbers
returns-clause-text c =
    let width = c.in-Image.width in
    let height = c.in-Image.height in
    let clear = c.in-Ok.ensures.ok in
    let shows = clear_shows c.in-Ok.image width height clear.0 clear.1 clear.2 in
    c.in_ok-raster_text.ensures
    ∙ shown_text c.draw.new.image width height c.args.others.now (c.in_ok-draw.ensures.drawn (new_images width height) refl shows)
    ∙ ap (λ (l : Line). text_of (l ∷ c.args.others.now)) (sym c.in-Image.is)
