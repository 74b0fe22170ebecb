-- What holds at each turn of the loop over `word` in `has_side_above`.
use Rattle.std.proofs.Common.{◌≡◌, take, map, false}
use Rattle.pix_script.specs.Commands.{any_side_above}
use Rattle.pix_script.proofs.parse.has_side_above.Given as goal

-- none of the words so far is above
abbrev pub invariant-loop-word : goal.invariant-loop-word
invariant-loop-word l = any_side_above 1024 (map (λ word. word.now) (take l.word-index l.arguments)) ≡ false
