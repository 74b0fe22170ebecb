-- Of `load_channels`: that the invariant of its loop over `i` stays.
use Rattle.std.proofs.Common.{[], arith}
use Rattle.pix_chan.specs.declared.chan.bits8.Ch8.{Ch8}
use Rattle.pix_flat.specs.Format.{graya8_numbers}
use Rattle.pix_flat.specs.declared.format.PixGraya8.{PixGraya8}
use Rattle.pix_flat.proofs.Channels.{two_loaded}
use Rattle.pix_flat.proofs.format.PixGraya8StoredGraya8p.load_channels.Goals as goal

pub loop-i-preserved : goal.loop-i-preserved
loop-i-preserved c =
    let d : PixGraya8 = record { channels = [] } in
    let r = c.two_channels.result in
    two_loaded (λ (x : Ch8). x.value) graya8_numbers c.loop-i.i c.args.p.now d c.loop-i.to r.0 r.1 (omega (arith, c.requires)) c.loop-i-test.true c.two_channels.ensures c.loop-i.invariant
