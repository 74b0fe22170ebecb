use Rattle.std.proofs.Common.{◌≡◌, ◌∙◌, ap, map, arith, List, ℕ}
use Rattle.std.proofs.lemmas.List.{length-map}
use Rattle.pix_chan.specs.Product.{channel_quotient}
use Rattle.pix_el.specs.Conversion.{Format}
use Rattle.pix_el.specs.Light.{as_srgb}
use Rattle.pix_el.specs.LightBlocks.{changed_four}
use Rattle.pix_el.specs.Planes.{by_fours}
use Rattle.pix_el.proofs.LightBlocks.{all_shown, fours_made, straight_four}
use Rattle.pix_el.proofs.light.blocks.encode_unmultiplied.Goals as goal

pub returns : goal.returns
returns g c =
    let format : Format = g.P.Pixel.format in
    let to : Format = g.D.Pixel.format in
    let max = g.P.Chan.Channel.max in
    let mode = g.P.Alpha.Alpha.mode in
    let to_mode = g.D.Alpha.Alpha.mode in
    let v = g.P.Chan.Channel.number in
    let cs : List ℕ = map v c.four_pixels-c.result in
    let long = length-map c.four_pixels-c.result v ∙ omega arith in
    let from_is = g.met.P.Pixel.formatted in
    let to_is = g.met.D.Pixel.formatted in
    let xs : List ℕ = map v c.unmultiplied4.result in
    let long_xs = length-map c.unmultiplied4.result v ∙ omega arith in
    let from = g.met.P.Alpha.Alpha.tabled ∙ c.requires.premultiplied in
    let into = g.met.D.Alpha.Alpha.tabled ∙ c.requires.straight in
    let colors = ap by_fours c.unmultiplied4.ensures
    ∙ fours_made (changed_four max mode to_mode) (channel_quotient max) (λ w x y z. straight_four max mode to_mode w x y z from into) 4 cs long in
    c.put_encoded.ensures
    ∙ all_shown format to max g.D.Chan.Channel.max mode to_mode 4 xs cs
    (ap (λ (f : Format). f.layout.max) from_is) (ap (λ (f : Format). f.alpha_mode) from_is)
    (ap (λ (f : Format). f.layout.max) to_is) (ap (λ (f : Format). f.alpha_mode) to_is)
    (ap (λ (f : Format). f.layout.alpha) to_is ∙ c.requires.alpha) (ap (λ (f : Format). f.colors.start) to_is ∙ c.requires.start)
    (ap (λ (f : Format). f.colors.end) to_is ∙ c.requires.end) (ap (λ (f : Format). f.layout.count) to_is ∙ c.requires.to_count)
    long_xs long colors
    ∙ ap (map (as_srgb format to)) c.four_pixels-c.ensures
