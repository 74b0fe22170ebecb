-- Of `copy_channels`: that the invariant of its loop over `i` stays, and that all are copied.
use Rattle.std.proofs.Common.{◌∙◌, sym, ap, arith, take, [], ◌∷◌, ◌++◌, List}
use Rattle.std.proofs.lemmas.List.{take_all, take_more, take_more_set}
use Rattle.pix_chan.proofs.Planes.{same_pair}
use Rattle.pix_el.proofs.stored.copy_channels.Goals as goal

pub loop-i-preserved : goal.loop-i-preserved
loop-i-preserved g c =
    let i = c.loop-i.i in
    let item = c.index-from-i.result in
    take_more_set c.loop-i.to i item (omega arith)
    ∙ same_pair c.loop-i.invariant (ap (λ x. x ∷ []) c.index-from-i.is)
    ∙ sym (take_more c.args.from.now i item (omega arith))

pub returns : goal.returns
returns g c =
    let i = c.loop-i.i in
    sym (take_all i c.loop-i.to (omega arith)) ∙ c.loop-i.invariant ∙ take_all i c.args.from.now (omega arith)
