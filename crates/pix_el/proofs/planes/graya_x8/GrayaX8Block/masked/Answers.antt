use Rattle.std.proofs.Common.{◌≡◌, ◌∙◌, ap, arith, length, map, take, replicate}
use Rattle.std.proofs.lemmas.List.{length-map, take_at}
use Rattle.pix_el.specs.Planes.{coverage_of}
use Rattle.pix_el.proofs.MaskedBlocks.{made_masked}
use Rattle.pix_el.proofs.planes.graya_x8.GrayaX8Block.masked.Goals as goal

pub returns : goal.returns
returns g c =
    let value = coverage_of g.P.Chan.Channel.max g.M.Coverage.numbers in
    let v = g.P.Chan.Channel.number in
    let s = g.S.Stored.reads in
    let values = c.eight_mattes.result in
    let ms = map value c.args.mattes.now in
    let long : length ms ≡ 8 = length-map c.args.mattes.now value ∙ c.requires.mattes_size in
    let first : take 8 (map v values) ≡ ms = ap (take 8) c.eight_mattes.ensures ∙ take_at ms (replicate 8 0) 8 long in
    made_masked g.P.Pixel.layout g.O.Blend.op (take 8 (map v values)) ms _ _ (map s c.args.src.now) _ _
    (omega (arith, ap length first ∙ long, length-map c.args.src.now s, c.requires.src_size)) c.composite_eight.ensures c.masked_channels-colors.ensures c.eight_pixels.ensures first
