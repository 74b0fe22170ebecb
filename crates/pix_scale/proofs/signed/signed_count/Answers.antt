use Rattle.pix_scale.proofs.SignedCalls.{count_is}
use Rattle.pix_scale.proofs.signed.signed_count.Goals as goal

pub returns-clause-value : goal.returns-clause-value
returns-clause-value c =
    count_is c.args.filter c.args.places c.args.size c.new-side.result.n c.new-side.result.m c.taps.result c.new-side.ensures.n c.new-side.ensures.m c.taps.ensures.value
