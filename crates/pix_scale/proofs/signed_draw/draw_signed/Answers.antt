use Rattle.std.proofs.Common.{◌*◌, length, arith, ap}
use Rattle.pix_scale.proofs.SignedCalls.{signed_sizes, signed_memory, point_side, count_is, cut_is}
use Rattle.pix_scale.proofs.signed_draw.draw_signed.Goals as goal

pub draw_split-requires-clause-across : goal.draw_split-requires-clause-across
draw_split-requires-clause-across g c =
    let few = signed_sizes c.args.view c.args.source c.requires.sizes in
    point_side c.new-across.result.kernel c.new-across.result.places c.args.source.width c.args.view.across c.new-across.result.n c.new-across.result.m
    c.new-across.ensures.kernel c.new-across.ensures.places c.new-across.ensures.side few.few_columns

pub draw_split-requires-clause-down : goal.draw_split-requires-clause-down
draw_split-requires-clause-down g c =
    let few = signed_sizes c.args.view c.args.source c.requires.sizes in
    point_side c.new-down.result.kernel c.new-down.result.places c.args.source.height c.args.view.down c.new-down.result.n c.new-down.result.m
    c.new-down.ensures.kernel c.new-down.ensures.places c.new-down.ensures.side few.few_rows

pub draw_split-requires-clause-source : goal.draw_split-requires-clause-source
draw_split-requires-clause-source g c =
    let fits = signed_memory g.P.Pixel.layout.count c.args.filter c.args.view c.args.rows c.args.source (length c.args.to.now) (length c.args.from.now) (length c.args.work.now) c.requires.memory in
    fits.source.last

pub draw_split-requires-clause-fit : goal.draw_split-requires-clause-fit
draw_split-requires-clause-fit g c =
    let fits = signed_memory g.P.Pixel.layout.count c.args.filter c.args.view c.args.rows c.args.source (length c.args.to.now) (length c.args.from.now) (length c.args.work.now) c.requires.memory in
    fits.rows.last

pub draw_split-requires-clause-work : goal.draw_split-requires-clause-work
draw_split-requires-clause-work g c =
    let fits = signed_memory g.P.Pixel.layout.count c.args.filter c.args.view c.args.rows c.args.source (length c.args.to.now) (length c.args.from.now) (length c.args.work.now) c.requires.memory in
    let a = ap (λ z. c.args.rows.width * z)
    (count_is c.args.filter c.args.source.width c.args.view.across c.new-across.result.n c.new-across.result.m c.taps-a.result c.new-across.ensures.n c.new-across.ensures.m c.taps-a.ensures.value) in
    let b = ap (λ z. c.args.rows.height * z)
    (count_is c.args.filter c.args.source.height c.args.view.down c.new-down.result.n c.new-down.result.m c.taps-b.result c.new-down.ensures.n c.new-down.ensures.m c.taps-b.ensures.value) in
    omega (arith, fits.work, a, b)

pub returns : goal.returns
returns g c =
    cut_is g.D.Stored.reads g.P.Pixel.layout c.args.filter c.args.view c.args.rows c.args.source c.args.from.now c.args.to.now c.draw_split.new.to
    c.new-across.result.n c.new-across.result.m c.new-down.result.n c.new-down.result.m
    c.new-across.ensures.n c.new-across.ensures.m c.new-down.ensures.n c.new-down.ensures.m c.draw_split.ensures
