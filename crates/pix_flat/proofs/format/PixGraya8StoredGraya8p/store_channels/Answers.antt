-- Of `store_channels`: that the invariant of its loop over `i` stays.
use Rattle.std.proofs.Common.{[], ◌∷◌, arith}
use Rattle.pix_chan.specs.declared.chan.bits8.Ch8.{Ch8}
use Rattle.pix_flat.specs.Format.{graya8_numbers}
use Rattle.pix_flat.specs.declared.format.PixGraya8.{PixGraya8}
use Rattle.pix_flat.proofs.Channels.{two_stored, not_cut}
use Rattle.pix_flat.proofs.format.PixGraya8StoredGraya8p.store_channels.Goals as goal

pub loop-i-preserved : goal.loop-i-preserved
loop-i-preserved c =
    let a = c.index-c-i.result in
    let b = c.index-c-i-in-loop-i.result in
    let made : PixGraya8 = record { channels = c.from.result ∷ c.from-in-loop-i.result ∷ [] } in
    let first = not_cut 255 c.from.result a.value c.from.type_inv c.from.ensures in
    let second = not_cut 255 c.from-in-loop-i.result b.value c.from-in-loop-i.type_inv c.from-in-loop-i.ensures in
    two_stored (λ (x : Ch8). x.value) graya8_numbers c.loop-i.i c.loop-i.p made c.args.c.now a b (omega (arith, c.requires)) (omega arith)
    c.index-c-i.is c.index-c-i-in-loop-i.is (λ k. first k ∷ second k ∷ []) c.loop-i.invariant
