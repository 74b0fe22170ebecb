use Rattle.pix_el.proofs.rows.ClearedPixelsFill.fill.Goals as goal

pub returns : goal.returns
returns g c = c.clear_row.ensures
