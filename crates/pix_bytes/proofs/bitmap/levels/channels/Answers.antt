use Rattle.std.proofs.Common.{◌∙◌, List, ℕ, ap, arith, subst, Fits}
use mir.Syntax.{w8}
use lib.Lanes.{Each1, number_l, digits_l}
use Rattle.std.proofs.lemmas.List.{take_all}
use Rattle.std.proofs.lemmas.Simd.{chunk-fits}
use Rattle.pix_bytes.proofs.ShownFours.{channels_are}
use Rattle.pix_bytes.proofs.bitmap.levels.channels.Goals as goal

pub returns : goal.returns
returns c =
    let bytes = c.args.bytes.now in
    let whole = take_all 32 bytes (omega arith) in
    ap (λ (l : List ℕ). digits_l 65536 16 (number_l 256 l)) whole
    ∙ channels_are bytes 16 (omega arith) (subst (Each1 (Fits w8)) whole (chunk-fits w8 0 32 bytes c.type_inv.bytes))
