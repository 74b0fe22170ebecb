-- Of `settled`: where the entry goes.
use Rattle.std.proofs.Common.{◌∙◌, arith, false, sym, true}
use Rattle.pix_table.specs.SeenPixels.{seen_numbers}
use Rattle.pix_table.proofs.lemmas.quantization.SeenErrors.{settled_some}
use Rattle.pix_table.proofs.rgba.groups.settled.Goals as goal

pub returns-then-is_no_worse-clause-settled : goal.returns-then-is_no_worse-clause-settled
returns-then-is_no_worse-clause-settled c = λ group h.
    settled_some (seen_numbers c.args.entry) (seen_numbers c.mean_of-mean.result) group c.args.sums true h (omega arith) (c.mean_of-mean.ensures.mean group h)
    (sym c.if-is_no_worse.true ∙ c.is_no_worse.ensures group h)

pub returns-else-is_no_worse-clause-settled : goal.returns-else-is_no_worse-clause-settled
returns-else-is_no_worse-clause-settled c = λ group h.
    settled_some (seen_numbers c.args.entry) (seen_numbers c.mean_of-mean.result) group c.args.sums false h (omega arith) (c.mean_of-mean.ensures.mean group h)
    (sym c.if-is_no_worse.false ∙ c.is_no_worse.ensures group h)
