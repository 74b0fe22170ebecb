-- What holds at each turn of the loop over `i` in `Palette::set_entries`.
use Rattle.std.proofs.Common.{◌≡◌, map}
use Rattle.std.specs.Option.{option_map}
use Rattle.pix_table.specs.threshold.ColorCache.{AreRight}
use Rattle.pix_table.specs.threshold.Setting.{IsSet}
use Rattle.pix_palette.specs.Palette.{Answers, numbers}
use Rattle.pix_palette.specs.Finder.{Follows}
use Rattle.pix_palette.proofs.Entries.{AreEntriesBelow}
use Rattle.pix_palette.specs.contracts.palette.table.Palette.set_entries.fn-1 as pointer
use Rattle.pix_palette.proofs.palette.table.Palette.set_entries.Given as goal

-- the first i colors have been set
abbrev pub invariant-loop-i : goal.invariant-loop-i
invariant-loop-i g l = record {
  set : AreEntriesBelow (IsSet numbers (Answers (pointer.words g.fn-1.I (pointer.members g.fn-1)).post (option_map (λ chosen. chosen.f) l.fn.self.threshold)) l.fn.self.limit)
      l.fn.self.colors.items l.colors l.i l.answers l.self.colors.items;
  right : AreRight (Answers (pointer.words g.fn-1.I (pointer.members g.fn-1)).post (option_map (λ chosen. chosen.f) l.fn.self.threshold)) (map numbers l.self.colors.items) l.cache.cached;
  finder : Follows (map numbers l.self.colors.items) l.finder;
  limit : l.self.limit ≡ l.fn.self.limit;
  threshold : l.self.threshold ≡ l.fn.self.threshold;
}
