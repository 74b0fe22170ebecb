use Rattle.std.proofs.Common.{◌∙◌}
use Rattle.pix_el.proofs.Copies.{colored}
use Rattle.pix_el.proofs.filled.clear_long.Goals as goal

pub returns : goal.returns
returns g c = colored g.D.Stored.reads c.store.result _ c.args.row.now _ c.fill_parts.ensures (c.store.ensures ∙ g.met.P.Pixel.default_is_clear c.default.result c.default.ensures)
