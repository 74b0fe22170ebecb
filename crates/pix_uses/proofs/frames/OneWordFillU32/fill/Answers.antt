use Rattle.std.proofs.Common.{arith, refl, map, ap, ◌∙◌, List, ℕ, [], ◌∷◌}
use Rattle.pix_el.proofs.Written.{written_none, written_more, written_same}
use Rattle.pix_el.proofs.Copies.{map_color}
use Rattle.pix_uses.proofs.frames.OneWordFillU32.fill.Goals as goal

pub loop-word-init : goal.loop-word-init
loop-word-init c = written_none _ _ _

pub loop-word-preserved : goal.loop-word-preserved
loop-word-preserved c = written_more _ _ _ _ c.loop-word.word-index _ c.loop-word.invariant (omega arith) refl

pub returns : goal.returns
returns c =
    ap (map (λ (w : ℕ). w ∷ [])) (written_same _ _ _ _ c.loop-word.word-index c.loop-word.invariant (omega arith))
    ∙ map_color (λ (w : ℕ). w ∷ []) c.args.self.now.word c.args.row.now
