-- Of `Palette::set_known`: its clauses, and the condition of its call of `keep`.
use Rattle.std.proofs.Common.{◌<◌, length, sym, subst, arith}
use Rattle.pix_palette.specs.Palette.{numbers}
use Rattle.pix_table.proofs.lemmas.threshold.CachedColors.{all_kept_is_set, set_below, set_kept_right, set_right}
use Rattle.pix_table.proofs.lemmas.threshold.Settings.{set_grows}
use Rattle.pix_palette.proofs.Finders.{follows_grown}
use Rattle.pix_palette.proofs.palette.table.Palette.set_known.Goals as goal

pub returns-in-Some-clause-set : goal.returns-in-Some-clause-set
returns-in-Some-clause-set g c =
    all_kept_is_set numbers _ _ c.args.self.now.colors.items _ _ c.args.clr _ c.in-Some.index (omega arith) c.requires.right c.in-Some.ensures c.color-color.ensures

pub returns-in_err-index-clause-right : goal.returns-in_err-index-clause-right
returns-in_err-index-clause-right g c = set_right numbers _ _ _ c.args.clr _ _ _ c.set_by.ensures.set c.requires.right

pub returns-in_err-index-clause-finder : goal.returns-in_err-index-clause-finder
returns-in_err-index-clause-finder g c =
    follows_grown numbers _ _ (set_grows numbers _ _ _ c.args.clr _ _ c.set_by.ensures.set) _ c.standing_known-standing.ensures.finder

pub keep-requires : goal.keep-requires
keep-requires g c =
    subst (λ l. c.in_ok-index.index < length l) (sym c.deref.ensures.value) (set_below numbers _ _ _ _ c.in_ok-index.index _ c.in_ok-index.ensures.set)

pub returns-clause-right : goal.returns-clause-right
returns-clause-right g c =
    set_kept_right numbers _ _ _ c.args.clr _ c.in_ok-index.index _ _ _ c.in_ok-index.ensures.set c.requires.right c.color-color.ensures
    (rw (c.deref.ensures.value) at c.keep.ensures)

pub returns-clause-finder : goal.returns-clause-finder
returns-clause-finder g c =
    follows_grown numbers _ _ (set_grows numbers _ _ _ c.args.clr _ _ c.in_ok-index.ensures.set) _ c.standing_known-standing.ensures.finder
