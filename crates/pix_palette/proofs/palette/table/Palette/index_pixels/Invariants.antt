-- What holds at each turn of the loop over `i` in `Palette::index_pixels`.
use Rattle.std.proofs.Common.{◌≡◌, ◌∷◌, [], map, take}
use Rattle.std.specs.Option.{option_map}
use Rattle.pix_table.specs.threshold.ColorCache.{AreRight}
use Rattle.pix_table.specs.threshold.Setting.{IsSet}
use Rattle.pix_table.proofs.lemmas.threshold.IndexingSets.{AreSetBelow}
use Rattle.pix_palette.specs.Palette.{Answers, numbers}
use Rattle.pix_palette.specs.Finder.{Follows}
use Rattle.pix_palette.specs.Indexing.{colors_of, values}
use Rattle.pix_palette.specs.contracts.palette.table.Palette.index_pixels.fn-1 as pointer
use Rattle.pix_palette.proofs.palette.table.Palette.index_pixels.Given as goal

-- the first i pixels have been set
abbrev pub invariant-loop-i : goal.invariant-loop-i
invariant-loop-i g l = record {
  set : AreSetBelow numbers
      (IsSet numbers (Answers (pointer.words g.row.S g.row.P g.row.S-Chan g.row.S-Model g.row.S-Alpha g.row.S-Gamma g.row.P-Chan g.row.P-Model g.row.P-Alpha g.row.P-Gamma g.fn-1.I
      (pointer.members g.row.S g.row.P g.row.S-Chan g.row.S-Model g.row.S-Alpha g.row.S-Gamma g.row.P-Chan g.row.P-Model g.row.P-Alpha g.row.P-Gamma g.fn-1)).post
      (option_map (λ chosen. chosen.f) l.fn.self.threshold)) l.fn.self.limit)
      g.P.IndexPixel.GREATEST l.fn.self.colors.items (colors_of g.S.Pixel.format g.S.Gamma.Gamma-2.mode g.S.Pixel.numbers l.fn.pixels) l.i (values g.P.Pixel.numbers l.indices) l.self.colors.items;
  gray : take l.i (map g.P.Pixel.numbers l.indices) ≡ take l.i (map (λ n. n ∷ []) (values g.P.Pixel.numbers l.indices));
  right : AreRight (Answers (pointer.words g.row.S g.row.P g.row.S-Chan g.row.S-Model g.row.S-Alpha g.row.S-Gamma g.row.P-Chan g.row.P-Model g.row.P-Alpha g.row.P-Gamma g.fn-1.I
      (pointer.members g.row.S g.row.P g.row.S-Chan g.row.S-Model g.row.S-Alpha g.row.S-Gamma g.row.P-Chan g.row.P-Model g.row.P-Alpha g.row.P-Gamma g.fn-1)).post
      (option_map (λ chosen. chosen.f) l.fn.self.threshold))
      (map numbers l.self.colors.items) l.cache.cached;
  finder : Follows (map numbers l.self.colors.items) l.finder;
  limit : l.self.limit ≡ l.fn.self.limit;
  threshold : l.self.threshold ≡ l.fn.self.threshold;
}
