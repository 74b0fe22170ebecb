use Rattle.std.proofs.Common.{List, ℕ, subst, sym}
use Rattle.pix_bytes.specs.Rows.{IsEach}
use Rattle.pix_bytes.specs.Recolored.{recolored}
use Rattle.pix_bytes.proofs.Recolorings.{eight_mapped}
use Rattle.pix_bytes.proofs.bitmap.eights.map_eight.Goals as goal

pub returns-in-Some : goal.returns-in-Some
returns-in-Some g c =
    let curve = g.T.Table.curve in
    let r = c.args.is_reversed in
    let m = c.args.is_premultiplied in
    subst (λ (dst : List ℕ). IsEach 255 255 4 4 4 4 (recolored curve r m) c.args.src.now dst 8) (sym c.mapped.ensures) (eight_mapped curve r m c.args.src.now)
