-- Of `Cache::new`: that no place has a color.
use Rattle.std.proofs.Common.{◌≡◌, refl}
use Rattle.std.proofs.lemmas.List.Elements.{All-replicate}
use Rattle.pix_table.proofs.threshold.color_cache.Cache.new.Goals as goal

pub returns : goal.returns
returns c = All-replicate (λ kept. kept.count ≡ 0) 2056 _ refl
