-- Of `is_nearer`: that what is nearer to the corner is nearer to each color of the cell.
use Rattle.std.proofs.Common.{◌<◌}
use Rattle.std.proofs.lemmas.Bool.{ltb-true}
use Rattle.pix_table.specs.matching.Nearest.{numbers}
use Rattle.pix_table.specs.declared.color.Color.{Color}
use Rattle.pix_table.proofs.lemmas.matching.Corners.{nearer_inside}
use Rattle.pix_table.proofs.matching.cell_place.is_nearer.Goals as goal

pub returns : goal.returns
returns c = λ yes color inside.
    let less : c.distance.result < c.distance-2.result = ltb-true _ _ yes in
    let both = rw (c.distance.ensures.distance, c.distance-2.ensures.distance) at less in
    let corner : Color = record { red = c.end.result; green = c.end-2.result; blue = c.end-3.result } in
    nearer_inside c.args.reach (numbers c.args.low) (numbers c.args.near) (numbers c.args.far) (numbers corner) c.end.ensures c.end-2.ensures c.end-3.ensures both color inside
