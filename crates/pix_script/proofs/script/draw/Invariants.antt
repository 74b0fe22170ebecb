-- What holds at each turn of the loop over `line` in `draw`.
use Rattle.std.proofs.Common.{◌≡◌, take, fold, true}
use Rattle.pix_script.specs.Picture.{Images, after, clear_picture}
use Rattle.pix_script.specs.Seen.{Shows}
use Rattle.pix_script.proofs.DrawLemmas.{IsCleared, Show}
use Rattle.pix_script.proofs.script.draw.Given as goal

-- the image and the kept one after the commands so far, which are equal where nothing was drawn
-- since the last `keep`; and whether all pixels are clear
abbrev pub invariant-loop-line : goal.invariant-loop-line
invariant-loop-line l =
    ((images : Images) → images.kept ≡ clear_picture 0 0 → Shows l.fn.image images.image →
    Show l.image l.kept (fold after images (take l.line-index l.commands)))
    × (l.is_kept ≡ true → l.kept ≡ l.image)
    × (l.is_clear ≡ true → IsCleared l.image)
