use Rattle.std.proofs.Common.{◌/◌, ap, sym, ◌∙◌}
use Rattle.pix_scale.specs.Axis.{axis_of, kernel_of, lowest}
use Rattle.pix_scale.specs.declared.filter.Kernel.{Kernel}
use Rattle.std.proofs.Math.Nat.{div-mul_cancel}
use Rattle.std.proofs.lemmas.Nat.Gcd.{IsGcd-swap}
use Rattle.pix_scale.proofs.Ratios.{lowest_is, side_by, some_part, shrinks_of}
use Rattle.pix_scale.proofs.side.Side.new.Goals as goal

pub nonzero_div-result : goal.nonzero_div-result
nonzero_div-result c = c.gcd-by.ensures.some

pub nonzero_div-result-2 : goal.nonzero_div-result-2
nonzero_div-result-2 c = c.gcd-by.ensures.some

pub returns-clause-m : goal.returns-clause-m
returns-clause-m c =
    lowest_is c.args.m c.args.n c.gcd-by.result c.requires.m c.requires.n c.gcd-by.ensures.some (IsGcd-swap c.args.n c.args.m c.gcd-by.result c.gcd-by.ensures.divides)

pub returns-clause-side : goal.returns-clause-side
returns-clause-side c = λ few.
    side_by c.kernel_of.result c.args.n c.args.m c.gcd-by.result c.requires.n c.requires.m c.gcd-by.ensures.some few c.gcd-by.ensures.divides
    (λ e. shrinks_of c.args.filter c.args.n c.args.m (sym c.kernel_of.ensures ∙ e))

pub returns-clause-some_n : goal.returns-clause-some_n
returns-clause-some_n c = some_part c.args.n c.gcd-by.result c.requires.n (div-mul_cancel c.gcd-by.result c.gcd-by.ensures.divides.0)

pub returns-clause-some_m : goal.returns-clause-some_m
returns-clause-some_m c = some_part c.args.m c.gcd-by.result c.requires.m (div-mul_cancel c.gcd-by.result c.gcd-by.ensures.divides.1)

pub returns-clause-axis : goal.returns-clause-axis
returns-clause-axis c =
    let e = lowest_is c.args.n c.args.m c.gcd-by.result c.requires.n c.requires.m c.gcd-by.ensures.some c.gcd-by.ensures.divides in
    let f = lowest_is c.args.m c.args.n c.gcd-by.result c.requires.m c.requires.n c.gcd-by.ensures.some (IsGcd-swap c.args.n c.args.m c.gcd-by.result c.gcd-by.ensures.divides) in
    ap (λ (k : Kernel). axis_of k c.args.n (c.args.n / c.gcd-by.result) (c.args.m / c.gcd-by.result)) c.kernel_of.ensures
    ∙ ap (λ a. axis_of (kernel_of c.args.filter c.args.n c.args.m) c.args.n a (c.args.m / c.gcd-by.result)) e
    ∙ ap (λ b. axis_of (kernel_of c.args.filter c.args.n c.args.m) c.args.n (lowest c.args.n c.args.m) b) f
