-- Of `load_channels`: that the invariant of its loop over `i` stays.
use Rattle.std.proofs.Common.{[], arith}
use Rattle.pix_chan.specs.declared.chan.bits16.Ch16.{Ch16}
use Rattle.pix_flat.specs.Format.{rgba16_numbers}
use Rattle.pix_flat.specs.declared.format.PixRgba16.{PixRgba16}
use Rattle.pix_flat.proofs.Channels.{four_loaded}
use Rattle.pix_flat.proofs.format.PixRgba16StoredRgba16p.load_channels.Goals as goal

pub loop-i-preserved : goal.loop-i-preserved
loop-i-preserved c =
    let d : PixRgba16 = record { channels = [] } in
    let r = c.four_channels.result in
    four_loaded (λ (x : Ch16). x.value) rgba16_numbers c.loop-i.i c.args.p.now d c.loop-i.to r.0 r.1 r.2 r.3 (omega (arith, c.requires)) c.loop-i-test.true c.four_channels.ensures c.loop-i.invariant
