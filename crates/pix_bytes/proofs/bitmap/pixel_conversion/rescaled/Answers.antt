use Rattle.std.proofs.Common.{◌∙◌, List, ℕ}
use Rattle.pix_el.specs.Pixel.{Layout, channel}
use Rattle.pix_el.specs.Conversion.{at_depth}
use Rattle.pix_bytes.specs.FourChannels.{as_list}
use Rattle.pix_bytes.proofs.FourChannels.{four_made, channel_made}
use Rattle.pix_bytes.proofs.bitmap.pixel_conversion.rescaled.Goals as goal

pub returns : goal.returns
returns g c = λ (layout to : Layout) e t n ch.
    let max : ℕ = g.C.Channel.max in
    let to_max : ℕ = g.D.Channel.max in
    let pixel : List ℕ = as_list g.C.Channel.number c.args.pixel in
    let f : ℕ → ℕ = λ k. at_depth max to_max (channel max pixel k) in
    rw (e, t, n) (four_made to_max _ _ _ _ c.args.count f c.requires.few
    (c.depth_or_max.ensures ∙ channel_made to_max c.args.count f 0) (c.depth_or_max-2.ensures ∙ channel_made to_max c.args.count f 1)
    (c.depth_or_max-3.ensures ∙ channel_made to_max c.args.count f 2) (c.depth_or_max-4.ensures ∙ channel_made to_max c.args.count f 3) ch)
