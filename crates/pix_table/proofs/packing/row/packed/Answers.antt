-- Of `packed`: what the places hold, since no index is cut.
use Rattle.std.proofs.Common.{◌≡◌, ◌+◌, true, arith, ◌∙◌}
use Rattle.pix_table.specs.declared.packing.row.IndexDepth.TheVariants.{One, Two, Four}
use Rattle.pix_table.specs.packing.LookUp.{all_below}
use Rattle.pix_table.proofs.Below.{at_below}
use Rattle.pix_table.proofs.packing.row.packed.Goals as goal

pub returns-in-One : goal.returns-in-One
returns-in-One c =
    let depth : c.args.depth ≡ One = c.in-One.is in
    let below : all_below 2 c.args.indices.now ≡ true = rw depth at c.requires.below in
    rw depth (λ t inside. c.eight.ensures t inside ∙ omega (arith, at_below 2 c.args.indices.now (omega arith) below (c.args.first + t)))

pub returns-in-Two : goal.returns-in-Two
returns-in-Two c =
    let depth : c.args.depth ≡ Two = c.in-Two.is in
    let below : all_below 4 c.args.indices.now ≡ true = rw depth at c.requires.below in
    rw depth (λ t inside. c.four.ensures t inside ∙ omega (arith, at_below 4 c.args.indices.now (omega arith) below (c.args.first + t)))

pub returns-in-Four : goal.returns-in-Four
returns-in-Four c =
    let depth : c.args.depth ≡ Four = c.in-Four.is in
    let below : all_below 16 c.args.indices.now ≡ true = rw depth at c.requires.below in
    rw depth (λ t inside. c.two.ensures t inside ∙ omega (arith, at_below 16 c.args.indices.now (omega arith) below (c.args.first + t)))
