use Rattle.std.proofs.Common.{map, rules, ◌∙◌}
use Rattle.pix_scale.specs.Axis.{channel_at}
use Rattle.pix_scale.proofs.SignedRows.{same_cut}
use Rattle.pix_scale.proofs.WeightedTables.{whole, sound_parts, same_parts}
use Rattle.pix_scale.proofs.weighted_draw.draw_weighted.Goals as goal

pub cut_rows-requires-clause-across : goal.cut_rows-requires-clause-across
cut_rows-requires-clause-across g c =
    let across = whole c.args.source.width c.args.rows.width c.args.firsts.now c.args.taps c.args.weights.now c.requires.across in
    sound_parts c.args.source.width c.args.rows.width c.args.firsts.now c.args.taps c.args.weights.now c.part_weights.new.plus c.part_weights.new.minus across
    (search rules) (search rules) c.part_weights.ensures.plus c.part_weights.ensures.minus

pub cut_rows-requires-clause-down : goal.cut_rows-requires-clause-down
cut_rows-requires-clause-down g c =
    let down = whole c.args.source.height c.args.rows.height c.args.lines.now c.args.lines_taps c.args.lines_weights.now c.requires.down in
    sound_parts c.args.source.height c.args.rows.height c.args.lines.now c.args.lines_taps c.args.lines_weights.now c.part_weights-2.new.plus c.part_weights-2.new.minus down
    (search rules) (search rules) c.part_weights-2.ensures.plus c.part_weights-2.ensures.minus

pub returns : goal.returns
returns g c =
    let across = whole c.args.source.width c.args.rows.width c.args.firsts.now c.args.taps c.args.weights.now c.requires.across in
    let down = whole c.args.source.height c.args.rows.height c.args.lines.now c.args.lines_taps c.args.lines_weights.now c.requires.down in
    record {
      pixels = λ x y ch lx ly lc.
          c.cut_rows.ensures.pixels x y ch lx ly lc
          ∙ same_cut g.P.Pixel.layout _ _ _ _ (channel_at (map g.D.Stored.reads c.args.from.now) c.args.source.stride) ch
          (same_parts c.args.source.width c.args.rows.width c.args.firsts.now c.args.taps c.args.weights.now c.part_weights.new.plus c.part_weights.new.minus x across
          c.part_weights.ensures.plus c.part_weights.ensures.minus lx)
          (same_parts c.args.source.height c.args.rows.height c.args.lines.now c.args.lines_taps c.args.lines_weights.now c.part_weights-2.new.plus c.part_weights-2.new.minus y down
          c.part_weights-2.ensures.plus c.part_weights-2.ensures.minus ly);
      stays = c.cut_rows.ensures.stays;
    }
