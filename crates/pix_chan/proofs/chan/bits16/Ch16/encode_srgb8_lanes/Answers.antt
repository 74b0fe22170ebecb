use Rattle.pix_chan.proofs.SrgbLanes.{levels_are}
use Rattle.pix_chan.proofs.chan.bits16.Ch16.encode_srgb8_lanes.Goals as goal

pub returns : goal.returns
returns c = levels_are c.args.channels c.entries.result c.fits-channels.0 c.fits-channels.1 c.entries.ensures
