-- What holds at each turn of the loop over `word` in `OneWordFillU32::fill`.
use Rattle.pix_el.proofs.Written.{Written}
use Rattle.pix_uses.proofs.frames.OneWordFillU32.fill.Given as goal

-- the words below the index are the one
abbrev pub invariant-loop-word : goal.invariant-loop-word
invariant-loop-word l = Written (λ _ _. l.self.word) l.self.word l.initial.row l.row l.word-index
