-- Of `Palette::set_entries`: the clause `set`, and that the invariant of its loop over `i` holds at
-- first and stays.
use Rattle.std.proofs.Common.{map, refl, ◌∙◌, arith}
use Rattle.pix_table.proofs.lemmas.threshold.CachedColors.{none_right}
use Rattle.pix_palette.specs.Palette.{numbers}
use Rattle.pix_palette.proofs.Entries.{no_entry, one_entry, all_entries}
use Rattle.pix_palette.proofs.palette.table.Palette.set_entries.Goals as goal

pub loop-i-init : goal.loop-i-init
loop-i-init g c = record {
  set = no_entry _ _ _ _;
  right = none_right _ (map numbers c.args.self.now.colors.items) _ c.new-cache.ensures;
  finder = c.finder_of-finder.ensures (map numbers c.args.self.now.colors.items);
  limit = refl;
  threshold = refl;
}

pub loop-i-preserved : goal.loop-i-preserved
loop-i-preserved g c =
    let s = rw (c.loop-i.invariant.threshold, c.loop-i.invariant.limit) at c.set_known.ensures.set in
    record {
      set = one_entry _ _ _ c.loop-i.i _ _ c.index-colors-i.result c.set_known.result _ c.loop-i.invariant.set (omega arith) (omega arith) c.index-colors-i.is s;
      right = rw (c.loop-i.invariant.threshold) at c.set_known.ensures.right;
      finder = c.set_known.ensures.finder;
      limit = c.set_known.ensures.limit ∙ c.loop-i.invariant.limit;
      threshold = c.set_known.ensures.threshold ∙ c.loop-i.invariant.threshold;
    }

pub returns-clause-set : goal.returns-clause-set
returns-clause-set g c = all_entries _ _ _ c.loop-i.i _ _ c.loop-i.invariant.set (omega arith) (omega arith)

pub set_known-requires-clause-right : goal.set_known-requires-clause-right
set_known-requires-clause-right g c = rw (c.loop-i.invariant.threshold) c.loop-i.invariant.right

pub set_known-requires-clause-finder : goal.set_known-requires-clause-finder
set_known-requires-clause-finder g c = c.loop-i.invariant.finder
