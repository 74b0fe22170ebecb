use Rattle.std.proofs.Common.{◌≡◌, ◌∙◌, ◌+◌, ◌*◌, ◌/◌, ◌%◌, ℕ, max, ap, arith}
use Rattle.pix_chan.proofs.Reciprocals16.{in_words}
use Rattle.pix_chan.proofs.quotients16.lanes.whole_reciprocal.Goals as goal

pub returns : goal.returns
returns c =
    let d : c.from-d.result ≡ max c.args.alpha 1 = c.from-d.ensures ∙ c.max.ensures in
    in_words (max c.args.alpha 1) c.from.result c.from-2.result (omega arith) (omega (arith, c.ranges.alpha.fits))
    (c.from.ensures ∙ ap (λ (n : ℕ). 4294967295 / n) d)
    (c.from-2.ensures ∙ ap (λ (n : ℕ). (4294967295 % n + 1) * 65536 % 4294967296 / n) d)
