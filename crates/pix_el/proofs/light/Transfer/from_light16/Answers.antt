use Rattle.std.proofs.Common.{◌∙◌, arith, sym}
use Rattle.std.proofs.lemmas.Simd.{map-map}
use Rattle.pix_chan.specs.Srgb16.{srgb_encoded8}
use Rattle.pix_el.proofs.LightBlocks.{mapped16}
use Rattle.pix_el.proofs.light.Transfer.from_light16.Goals as goal

pub returns : goal.returns
returns g c =
    mapped16 (λ x. srgb_encoded8 (g.D.Channel.number x)) c.args.c _ _ _ _ _ _ _ _ _ _ _ _ _ _ _ _ (omega arith)
    c.from_light.ensures c.from_light-2.ensures c.from_light-3.ensures c.from_light-4.ensures c.from_light-5.ensures c.from_light-6.ensures c.from_light-7.ensures c.from_light-8.ensures
    c.from_light-9.ensures c.from_light-10.ensures c.from_light-11.ensures c.from_light-12.ensures c.from_light-13.ensures c.from_light-14.ensures c.from_light-15.ensures c.from_light-16.ensures
    ∙ sym (map-map srgb_encoded8 g.D.Channel.number c.args.c)
