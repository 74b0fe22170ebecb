use Rattle.std.proofs.Common.{arith, ap, ◌∙◌}
use Rattle.std.specs.Prelude.{pos}
use Rattle.std.proofs.lemmas.List.{length-map, map-set}
use Rattle.pix_chan.specs.Nearest.{nearest}
use Rattle.pix_scale.proofs.Terms.{made_none, made_more}
use Rattle.pix_scale.proofs.pixels.write_four.Goals as goal

pub mean-requires : goal.mean-requires
mean-requires g c = omega (arith, c.sum_lanes.ensures.sums c.loop-c.c (omega arith), c.requires.bound c.loop-c.c (omega arith))

pub loop-c-init : goal.loop-c-init
loop-c-init g c = made_none _ _

pub loop-c-preserved : goal.loop-c-preserved
loop-c-preserved g c = rw map-set (made_more _ _ _ _ (omega (arith, length-map c.loop-c.to g.C.Channel.number)) c.loop-c.invariant c.mean.ensures)

pub returns : goal.returns
returns g c = λ ch lt.
    c.loop-c.invariant.at ch (omega arith) ∙ ap (λ s. nearest g.C.Channel.max (pos s) (pos c.args.by.whole)) (c.sum_lanes.ensures.sums ch lt)
