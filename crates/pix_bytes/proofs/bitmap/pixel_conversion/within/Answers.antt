use Rattle.std.proofs.Common.{◌∙◌, refl, List, ℕ}
use Rattle.pix_el.specs.Conversion.{Format, of_depth, channel_reencoded}
use Rattle.pix_el.proofs.Conversions.{four_channels}
use Rattle.pix_bytes.specs.FourChannels.{as_list}
use Rattle.pix_bytes.proofs.Steps.{step_converted}
use Rattle.pix_bytes.proofs.bitmap.pixel_conversion.within.Goals as goal

pub returns : goal.returns
returns g c = λ (format to : Format) step.
    let pixel : List ℕ = as_list g.C.Channel.number c.args.pixel in
    let deep : List ℕ = of_depth format.layout to.layout pixel in
    let same = c.rescaled-deep.ensures format.layout to.layout step.from_max step.max_is step.count_is in
    let f : ℕ → ℕ = channel_reencoded format g.G.Gamma.mode to g.H.Gamma.mode deep in
    let alpha = c.at-alpha.ensures ∙ same c.args.step.end in
    four_channels f _ _ _ _ c.args.step.count c.requires.few
    (c.channel_of.ensures ∙ step_converted format to _ _ _ _ _ _ _ _ _ step deep 0 _ _ (c.at.ensures ∙ same 0) alpha)
    (c.channel_of-2.ensures ∙ step_converted format to _ _ _ _ _ _ _ _ _ step deep 1 _ _ (c.at-2.ensures ∙ same 1) alpha)
    (c.channel_of-3.ensures ∙ step_converted format to _ _ _ _ _ _ _ _ _ step deep 2 _ _ (c.at-3.ensures ∙ same 2) alpha)
    (c.channel_of-4.ensures ∙ step_converted format to _ _ _ _ _ _ _ _ _ step deep 3 _ _ (c.at-4.ensures ∙ same 3) alpha)
    ∙ rw step.count_is refl
