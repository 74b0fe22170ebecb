use Rattle.std.proofs.Common.{map, ap, ◌∙◌}
use Rattle.pix_el.proofs.Copies.{map_color}
use Rattle.pix_el.proofs.rows.CopiedColorFill.fill.Goals as goal

pub returns : goal.returns
returns g c =
    let n = g.D.Stored.reads in
    ap (map n) c.write_all.ensures ∙ map_color n c.args.self.now.clr c.args.row.now
