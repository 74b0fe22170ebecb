use Rattle.std.proofs.Common.{◌*◌, length, arith, ap}
use Rattle.pix_scale.specs.Axis.{Axis}
use Rattle.pix_scale.proofs.Calls.{sizes, memory, are_sides}
use Rattle.pix_scale.proofs.draw.draw.Goals as goal

pub draw_points-requires-clause-sides : goal.draw_points-requires-clause-sides
draw_points-requires-clause-sides g c =
    let few = sizes g.P.Chan.Channel.max c.args.filter c.args.view c.args.source c.requires.sizes in
    let fits = memory g.P.Pixel.layout.count c.args.filter c.args.view c.args.rows c.args.source (length c.args.to.now) (length c.args.from.now) (length c.args.work.now) c.requires.memory in
    are_sides g.P.Chan.Channel.max c.args.filter c.args.view c.args.source c.new-across.result c.new-down.result (length c.args.from.now) few fits.source
    c.new-across.ensures.side c.new-across.ensures.places c.new-across.ensures.axis
    c.new-down.ensures.side c.new-down.ensures.places c.new-down.ensures.axis

pub draw_points-requires-clause-fit : goal.draw_points-requires-clause-fit
draw_points-requires-clause-fit g c =
    let fits = memory g.P.Pixel.layout.count c.args.filter c.args.view c.args.rows c.args.source (length c.args.to.now) (length c.args.from.now) (length c.args.work.now) c.requires.memory in
    fits.rows.last

pub draw_in-requires-clause-sides : goal.draw_in-requires-clause-sides
draw_in-requires-clause-sides g c =
    let few = sizes g.P.Chan.Channel.max c.args.filter c.args.view c.args.source c.requires.sizes in
    let fits = memory g.P.Pixel.layout.count c.args.filter c.args.view c.args.rows c.args.source (length c.args.to.now) (length c.args.from.now) (length c.args.work.now) c.requires.memory in
    are_sides g.P.Chan.Channel.max c.args.filter c.args.view c.args.source c.new-across.result c.new-down.result (length c.args.from.now) few fits.source
    c.new-across.ensures.side c.new-across.ensures.places c.new-across.ensures.axis
    c.new-down.ensures.side c.new-down.ensures.places c.new-down.ensures.axis

pub draw_in-requires-clause-fit : goal.draw_in-requires-clause-fit
draw_in-requires-clause-fit g c =
    let fits = memory g.P.Pixel.layout.count c.args.filter c.args.view c.args.rows c.args.source (length c.args.to.now) (length c.args.from.now) (length c.args.work.now) c.requires.memory in
    fits.rows.last

pub draw_in-requires-clause-work : goal.draw_in-requires-clause-work
draw_in-requires-clause-work g c =
    let fits = memory g.P.Pixel.layout.count c.args.filter c.args.view c.args.rows c.args.source (length c.args.to.now) (length c.args.from.now) (length c.args.work.now) c.requires.memory in
    let x = ap (λ (a : Axis). c.args.rows.width * a.taps) c.new-across.ensures.axis in
    let y = ap (λ (a : Axis). a.taps) c.new-down.ensures.axis in
    let z = ap (λ p. p * g.P.Pixel.layout.count) c.new-across.ensures.places in
    omega (arith, fits.work, x, y, z)
