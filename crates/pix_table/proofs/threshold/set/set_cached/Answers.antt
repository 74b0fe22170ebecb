-- Of `set_cached`: the clauses `set` and `right`, and the condition of its call of `keep`.
use Rattle.pix_table.proofs.lemmas.threshold.CachedColors.{kept_is_set, set_below, set_right, set_kept_right}
use Rattle.pix_table.proofs.lemmas.threshold.Settings.{set_grows}
use Rattle.pix_table.proofs.lemmas.threshold.SmallBlocks.{blocks_grow}
use Rattle.pix_table.proofs.threshold.set.set_cached.Goals as goal

pub returns-in-Some-clause-set : goal.returns-in-Some-clause-set
returns-in-Some-clause-set g c =
    kept_is_set g.C.TableColor.channels _ _ _ c.args.len _ c.args.clr _ c.in-Some.index c.requires.within c.requires.right.right c.in-Some.ensures c.color-color.ensures

pub keep-requires : goal.keep-requires
keep-requires g c =
    set_below g.C.TableColor.channels _ _ _ _ c.in-Some-answer.index _ (rw c.in-Some-answer.is at c.set_by-answer.ensures.set)

pub returns-in-Some-answer-clause-right : goal.returns-in-Some-answer-clause-right
returns-in-Some-answer-clause-right g c = record {
  right = set_kept_right g.C.TableColor.channels _ _ _ c.args.clr _ c.in-Some-answer.index _ _ _ (rw c.in-Some-answer.is at c.set_by-answer.ensures.set) c.requires.right.right
      c.color-color.ensures c.keep.ensures;
  blocks = blocks_grow g.C.TableColor.channels _ _ c.standing-at.new.self
      (set_grows g.C.TableColor.channels _ _ _ _ _ _ c.set_by-answer.ensures.set) c.standing-at.ensures.has;
}

pub returns-in_default-answer-clause-right : goal.returns-in_default-answer-clause-right
returns-in_default-answer-clause-right g c = record {
  right = set_right g.C.TableColor.channels _ _ _ c.args.clr _ _ _ c.set_by-answer.ensures.set c.requires.right.right;
  blocks = blocks_grow g.C.TableColor.channels _ _ c.standing-at.new.self
      (set_grows g.C.TableColor.channels _ _ _ _ _ _ c.set_by-answer.ensures.set) c.standing-at.ensures.has;
}
