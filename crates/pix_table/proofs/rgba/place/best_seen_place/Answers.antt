-- Of `best_seen_place`: its clause where there is one color, or none.
use Rattle.std.proofs.Common.{arith, map}
use Rattle.std.proofs.lemmas.List.{length-map}
use Rattle.pix_table.specs.SeenPixels.{seen_numbers}
use Rattle.pix_table.proofs.lemmas.quantization.PlaceSteps.{one_alone}
use Rattle.pix_table.proofs.rgba.place.best_seen_place.Goals as goal

pub returns-then-colors-lt2 : goal.returns-then-colors-lt2
returns-then-colors-lt2 c =
    one_alone (map seen_numbers c.args.colors.now) (omega (arith, c.if-colors-lt2.true, length-map c.args.colors.now seen_numbers))
