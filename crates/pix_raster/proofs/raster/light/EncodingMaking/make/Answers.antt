use Rattle.std.proofs.Common.{◌∙◌, sym, arith, map, List, ℕ}
use Rattle.std.proofs.lemmas.List.{length-map}
use Rattle.pix_el.specs.Light.{as_srgb}
use Rattle.pix_el.proofs.Written.{same_over, over_written}
use Rattle.pix_raster.proofs.raster.light.EncodingMaking.make.Goals as goal

pub returns : goal.returns
returns g c =
    let f : List ℕ → List ℕ = as_srgb g.S.Pixel.format g.P.Pixel.format in
    let src = map g.S.Pixel.numbers c.args.src.now in
    let dst = map g.P.Pixel.numbers c.args.dst.now in
    c.encode_srgb_slice.ensures
    ∙ sym (same_over (λ p d. f p) src dst)
    ∙ over_written f src dst (omega (arith, length-map c.args.src.now g.S.Pixel.numbers, length-map c.args.dst.now g.P.Pixel.numbers))
