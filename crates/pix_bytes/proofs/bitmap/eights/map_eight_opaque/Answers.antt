use Rattle.std.proofs.Common.{List, ℕ, subst, sym, Bool}
use Rattle.pix_bytes.specs.Rows.{IsEach}
use Rattle.pix_bytes.specs.Recolored.{recolored}
use Rattle.pix_bytes.proofs.Recolorings.{eight_opaque}
use Rattle.pix_bytes.proofs.bitmap.eights.map_eight_opaque.Goals as goal

pub returns-in-Some : goal.returns-in-Some
returns-in-Some g c = λ (m : Bool).
    let curve = g.T.Table.curve in
    let r = c.args.is_reversed in
    subst (λ (dst : List ℕ). IsEach 255 255 3 4 3 4 (recolored curve r m) c.args.src.now dst 8) (sym c.opaque.ensures) (eight_opaque curve r m c.args.src.now)
