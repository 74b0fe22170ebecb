-- Of `Palette::standing`: that the entry stands by the threshold that is answered.
use Rattle.pix_palette.proofs.Thresholds.{standing_by}
use Rattle.pix_palette.proofs.palette.table.Palette.standing.Goals as goal

pub returns : goal.returns
returns g c =
    standing_by _ _ _ _ _ c.args.self.now.colors.items _ c.standing.result c.deref.ensures.value c.color-2.ensures c.color.ensures c.threshold.ensures c.standing.ensures
