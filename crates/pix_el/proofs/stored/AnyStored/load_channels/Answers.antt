-- Of `load_channels`: that a pixel's channels lie within all, and that the invariant of its loop over
-- `i` stays.
use Rattle.std.proofs.Common.{◌≡◌, ◌≤◌, ◌*◌, ◌∙◌, arith, rules, map, length, ap, sym}
use borrow.Author.Rules.{scaled_fits≤}
use Rattle.pix_el.proofs.InPixels.{pixel_ends, pixel_read}
use Rattle.pix_el.proofs.stored.AnyStored.load_channels.Goals as goal

pub offset_bounds-to-n : goal.offset_bounds-to-n
offset_bounds-to-n g c =
    let n = length c.channels-c.result.now in
    let ends = pixel_ends n g.P.Pixel.layout.count (length c.args.p.now) c.loop-i.i c.channels-c.ensures.count c.loop-i-test.true in
    let fits : n * c.loop-i.i ≤ length c.loop-i.to = omega (arith, ends, c.requires) in
    scaled_fits≤ _ (length c.loop-i.to) _ fits (search rules)

pub loop-i-preserved : goal.loop-i-preserved
loop-i-preserved g c =
    let v = g.P.Chan.Channel.number in
    let item = c.index-p-i.result in
    let same = c.channels-c.ensures.count in
    let own_is = c.copy_channels.ensures in
    pixel_read v g.P.Pixel.numbers g.P.Pixel.layout.count (length c.channels-c.result.now) c.loop-i.i c.args.p.now item c.loop-i.to c.copy_channels.new.to
    same (omega (arith, c.requires)) c.loop-i-test.true c.index-p-i.is (ap length own_is ∙ same)
    (ap (map v) (own_is ∙ c.channels-c.ensures.channels) ∙ sym (g.met.P.Pixel.numbered item)) c.loop-i.invariant
