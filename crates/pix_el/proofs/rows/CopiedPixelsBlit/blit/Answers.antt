use Rattle.std.proofs.Common.{ap, map, ◌∙◌}
use Rattle.pix_el.proofs.Copies.{map_over}
use Rattle.pix_el.proofs.rows.CopiedPixelsBlit.blit.Goals as goal

pub returns : goal.returns
returns g c =
    let n = g.D.Stored.reads in
    ap (map n) c.copy_row.ensures ∙ map_over n c.args.src.now c.args.row.now
