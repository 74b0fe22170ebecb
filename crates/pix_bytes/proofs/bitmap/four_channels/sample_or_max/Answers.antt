use Rattle.std.proofs.Common.{sym, ap, ◌∙◌}
use Rattle.pix_bytes.specs.BitmapFormats.{sample_at}
use Rattle.pix_bytes.proofs.FourChannels.{channel_within, channel_past}
use Rattle.pix_bytes.proofs.bitmap.four_channels.sample_or_max.Goals as goal

pub returns-then-number-count : goal.returns-then-number-count
returns-then-number-count g c =
    c.read.ensures ∙ sym (channel_within g.C.Channel.max c.args.count (sample_at g.C.Channel.max c.args.bytes.now) c.args.number c.if-number-count.true)

pub returns-else-number-count : goal.returns-else-number-count
returns-else-number-count g c =
    ap g.C.Channel.number c.MAX.ensures ∙ g.met.C.Channel.max_is_maximum
    ∙ sym (channel_past g.C.Channel.max c.args.count (sample_at g.C.Channel.max c.args.bytes.now) c.args.number c.if-number-count.false)
