-- Of `weighted`: the clauses `value` and `small`.
use Rattle.std.specs.Prelude.{pos, unsigned_abs, ◌*ℤ◌}
use Rattle.std.proofs.Common.{◌≡◌, ◌<◌, ◌∙◌, ap, w64, to_z, of_z, arith, to_z-of_z}
use Rattle.std.proofs.lemmas.Int.{ints}
use Rattle.pix_color.proofs.Narrow.{narrow}
use Rattle.pix_color.proofs.Sums.{stays, product_small}
use Rattle.pix_color.proofs.linear.weighted.Given.{Over}
use Rattle.pix_color.proofs.linear.weighted.Goals as goal
use Rattle.pix_color.proofs.linear.weighted.Goals.{After-from}

-- the number of the channel
number_is : (g : Over) (c : After-from g) → c.from.result ≡ pos (g.C.Channel.number c.args.channel)
number_is g c = c.from.ensures ∙ ap (λ n. pos n) c.to_u32.ensures

-- the product is small
small : (g : Over) (c : After-from g) → unsigned_abs (c.args.weight *ℤ pos (g.C.Channel.number c.args.channel)) < 274877906944
small g c = product_small c.args.weight (g.C.Channel.number c.args.channel) c.requires
    (omega (arith, g.met.C.Channel.numbered.fits c.args.channel, narrow g.C.Channel.max g.met.C.Channel.laws))

-- the code's product is that product
product_is : (g : Over) (c : After-from g) →
    to_z w64 (of_z w64 (to_z w64 (of_z w64 c.args.weight) *ℤ to_z w64 (of_z w64 c.from.result)))
    ≡ c.args.weight *ℤ pos (g.C.Channel.number c.args.channel)
product_is g c =
    let n = g.C.Channel.number c.args.channel in
    let w : to_z w64 (of_z w64 c.args.weight) ≡ c.args.weight = to_z-of_z c.ranges.weight in
    let r : to_z w64 (of_z w64 (pos n)) ≡ pos n =
    stays (pos n) (omega (arith, ints, g.met.C.Channel.numbered.fits c.args.channel, narrow g.C.Channel.max g.met.C.Channel.laws)) in
    rw (number_is g c, w, r) (stays (c.args.weight *ℤ pos n) (omega (arith, small g c)))

pub returns-clause-value : goal.returns-clause-value
returns-clause-value g c = product_is g c

pub returns-clause-small : goal.returns-clause-small
returns-clause-small g c = rw (product_is g c) (small g c)
