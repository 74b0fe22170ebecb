-- Of `restored`: both clauses, by the law of the quotient.
use Rattle.pix.specs.Laws.{known_laws}
use Rattle.pix_uses.proofs.channels.restored.Goals as goal

pub returns-clause-above : goal.returns-clause-above
returns-clause-above g c =
    let laws = g.met.C.Channel in
    rw (laws.multiplies _ _ _ c.mul.ensures, laws.divides _ _ _ c.div.ensures)
    ((known_laws _ laws.laws).quotient.above _ _ c.requires (laws.numbered.fits c.args.whole))

pub returns-clause-below : goal.returns-clause-below
returns-clause-below g c =
    let laws = g.met.C.Channel in
    rw (laws.multiplies _ _ _ c.mul.ensures, laws.divides _ _ _ c.div.ensures)
    ((known_laws _ laws.laws).quotient.below _ _ c.requires (laws.numbered.fits c.args.whole))
