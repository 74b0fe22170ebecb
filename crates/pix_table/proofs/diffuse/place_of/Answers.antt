-- Of `place_of`: that the place is no greater than a `usize` can be.
use Rattle.std.proofs.Common.{◌≡◌, ◌+◌, ◌-◌, ◌%◌, ◌^◌, ◌<◌, true, arith, sym, ◌∙◌, subst, if◌then◌else◌}
use Rattle.pix_table.specs.diffuse.Diffusion.{is_back}
use Rattle.pix_table.proofs.diffuse.place_of.Goals as goal

pub overflow_add-result-then-back : goal.overflow_add-result-then-back
overflow_add-result-then-back c =
    let b : is_back c.args.how.scan c.args.how.width c.args.k ≡ true = sym c.requires.back ∙ c.if-back.true in
    let e : c.args.k - c.args.k % c.args.how.width + (c.args.how.width - (c.args.k % c.args.how.width + 1)) < 2 ^ 64 =
    subst (λ t. (if t then c.args.k - c.args.k % c.args.how.width + (c.args.how.width - (c.args.k % c.args.how.width + 1)) else c.args.k) < 2 ^ 64) b c.requires.few in
    omega (arith, e, c.requires.column)
