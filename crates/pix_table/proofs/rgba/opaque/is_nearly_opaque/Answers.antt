-- Of `is_nearly_opaque`: that any other entry stays.
use Rattle.std.proofs.Common.{◌≡◌, arith, ltb-false}
use Rattle.pix_table.specs.SeenPixels.{seen_numbers}
use Rattle.pix_table.proofs.lemmas.quantization.SeenShares.{stays_low, stays_opaque}
use Rattle.pix_table.proofs.rgba.opaque.is_nearly_opaque.Goals as goal

pub returns-then-entry-ge-NEARLY : goal.returns-then-entry-ge-NEARLY
returns-then-entry-ge-NEARLY c = λ e group.
    let full : c.args.entry.alpha ≡ 255 = omega (arith, ltb-false _ _ e, c.requires.alpha) in
    stays_opaque (seen_numbers c.args.entry) group c.requires full

pub returns-else-entry-ge-NEARLY : goal.returns-else-entry-ge-NEARLY
returns-else-entry-ge-NEARLY c = λ e group. stays_low (seen_numbers c.args.entry) group (omega (arith, c.if-entry-ge-NEARLY.false))
