use Rattle.std.proofs.Common.{◌∙◌, List, ℕ, ap, bit_or}
use Rattle.std.specs.Simd.Lanes.{zip2}
use Rattle.pix_bytes.specs.Recolored.{last_channels}
use Rattle.pix_bytes.proofs.Recolorings.{made_opaque}
use Rattle.pix_bytes.proofs.bitmap.eights.opaque.Goals as goal

pub returns : goal.returns
returns g c =
    ap (λ (l : List ℕ). zip2 bit_or l (last_channels 8)) c.entries.ensures
    ∙ made_opaque g.T.Table.curve c.args.is_reversed c.args.size c.args.bytes.now 0 8
