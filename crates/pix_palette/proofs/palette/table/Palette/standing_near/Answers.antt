-- Of `Palette::standing_near`: that none stands by a threshold of 0, and else the one that is found
-- by the threshold which is answered.
use Rattle.pix_palette.proofs.Thresholds.{none_by, standing_by}
use Rattle.pix_palette.proofs.palette.table.Palette.standing_near.Goals as goal

pub returns-then-is_zero-clause-standing : goal.returns-then-is_zero-clause-standing
returns-then-is_zero-clause-standing g c =
    none_by _ _ _ _ c.args.self.now.colors.items c.requires.nowhere c.color-threshold.ensures (c.is_zero.ensures c.if-is_zero.true) c.threshold.ensures

pub returns-clause-standing : goal.returns-clause-standing
returns-clause-standing g c =
    standing_by _ _ _ _ _ c.args.self.now.colors.items _ c.standing.result c.deref.ensures.value c.color-threshold.ensures c.color.ensures c.threshold.ensures c.standing.ensures.standing

pub returns-clause-near : goal.returns-clause-near
returns-clause-near g c = rw (c.deref.ensures.value) at c.standing.ensures.near

pub standing-requires : goal.standing-requires
standing-requires g c = rw (c.deref.ensures.value) c.requires.near
