-- Of `store_channels`: that the invariant of its loop over `i` stays.
use Rattle.std.proofs.Common.{[], ◌∷◌, arith}
use Rattle.pix_chan.specs.declared.chan.bits8.Ch8.{Ch8}
use Rattle.pix_flat.specs.Format.{rgba8_numbers}
use Rattle.pix_flat.specs.declared.format.PixRgba8.{PixRgba8}
use Rattle.pix_flat.proofs.Channels.{four_stored, not_cut}
use Rattle.pix_flat.proofs.format.PixRgba8StoredRgba8p.store_channels.Goals as goal

pub loop-i-preserved : goal.loop-i-preserved
loop-i-preserved c =
    let a = c.index-c-i.result in
    let b = c.index-c-i-in-loop-i.result in
    let d = c.index-c-i-in-loop-i-2.result in
    let e = c.index-c-i-in-loop-i-3.result in
    let made : PixRgba8 = record { channels = c.from.result ∷ c.from-in-loop-i.result ∷ c.from-in-loop-i-2.result ∷ c.from-in-loop-i-3.result ∷ [] } in
    let first = not_cut 255 c.from.result a.value c.from.type_inv c.from.ensures in
    let second = not_cut 255 c.from-in-loop-i.result b.value c.from-in-loop-i.type_inv c.from-in-loop-i.ensures in
    let third = not_cut 255 c.from-in-loop-i-2.result d.value c.from-in-loop-i-2.type_inv c.from-in-loop-i-2.ensures in
    let fourth = not_cut 255 c.from-in-loop-i-3.result e.value c.from-in-loop-i-3.type_inv c.from-in-loop-i-3.ensures in
    four_stored (λ (x : Ch8). x.value) rgba8_numbers c.loop-i.i c.loop-i.p made c.args.c.now a b d e (omega (arith, c.requires)) (omega arith)
    c.index-c-i.is c.index-c-i-in-loop-i.is c.index-c-i-in-loop-i-2.is c.index-c-i-in-loop-i-3.is (λ k. first k ∷ second k ∷ third k ∷ fourth k ∷ []) c.loop-i.invariant
