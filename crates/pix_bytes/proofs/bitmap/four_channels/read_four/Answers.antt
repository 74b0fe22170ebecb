use Rattle.pix_bytes.specs.BitmapFormats.{sample_at}
use Rattle.pix_bytes.proofs.FourChannels.{four_made}
use Rattle.pix_bytes.proofs.bitmap.four_channels.read_four.Goals as goal

pub returns : goal.returns
returns g c =
    four_made g.C.Channel.max _ _ _ _ c.args.count (sample_at g.C.Channel.max c.args.bytes.now) c.requires.few
    c.sample_or_max.ensures c.sample_or_max-2.ensures c.sample_or_max-3.ensures c.sample_or_max-4.ensures
