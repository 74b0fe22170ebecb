use Rattle.std.proofs.Common.{◌≡◌, ◌∙◌, ap, length, map, take, replicate}
use Rattle.std.proofs.lemmas.List.{length-map, take_at}
use Rattle.pix_el.specs.Planes.{coverage_of}
use Rattle.pix_el.proofs.MaskedBlocks.{made_matted}
use Rattle.pix_el.proofs.planes.graya_x8.GrayaX8Block.matted.Goals as goal

pub returns : goal.returns
returns g c =
    let value = coverage_of g.P.Chan.Channel.max g.M.Coverage.numbers in
    let v = g.P.Chan.Channel.number in
    let values = c.eight_mattes.result in
    let ms = map value c.args.src.now in
    let long : length ms ≡ 8 = length-map c.args.src.now value ∙ c.requires.src_size in
    let first : take 8 (map v values) ≡ ms = ap (take 8) c.eight_mattes.ensures ∙ take_at ms (replicate 8 0) 8 long in
    made_matted g.P.Pixel.layout g.O.Blend.op 8 (take 8 (map v values)) ms (g.P.Pixel.numbers c.args.clr.now) _ _ _ _
    (ap length first ∙ long) c.composite_eight.ensures c.masked_channels-colors.ensures c.eight_times.ensures first
