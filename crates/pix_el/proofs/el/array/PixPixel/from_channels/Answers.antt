use Rattle.std.proofs.Common.{map, sym, ◌∙◌, ap}
use Rattle.std.proofs.lemmas.List.{take-map}
use Rattle.pix_el.proofs.el.array.PixPixel.from_channels.Goals as goal

pub returns : goal.returns
returns g c =
    ap (map g.C.Channel.number) (c.with_channels.ensures ∙ c.copy_from_slice.ensures.after)
    ∙ sym (take-map g.C.Channel.number g.row.N c.args.channels.now)
