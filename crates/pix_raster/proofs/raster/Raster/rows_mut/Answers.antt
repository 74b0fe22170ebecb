use Rattle.std.proofs.Common.{arith, ◌∙◌}
use borrow.Author.Rules.{scaled_fits≤}
use Rattle.pix_raster.specs.Image.{Image}
use Rattle.pix_raster.proofs.WrittenLemmas.{walk_fits, walk_is, row_begins}
use Rattle.pix_raster.proofs.raster.Raster.rows_mut.Goals as goal

pub invariant_of-result : goal.invariant_of-result
invariant_of-result g c =
    let f = c.new-clipped.ensures in
    walk_fits c.deref_mut.result.now c.self.inside.width c.self.inside.height c.new-clipped.result (c.deref_mut.ensures.len ∙ c.self.invariant.0) f.ordered f.from_top f.in_width f.in_height

pub slice_bounds-result-count : goal.slice_bounds-result-count
slice_bounds-result-count g c =
    row_begins c.deref_mut.result.now c.self.inside.width c.self.inside.height c.new-clipped.result.rows.start
    (c.deref_mut.ensures.len ∙ c.self.invariant.0) (omega (arith, c.new-clipped.ensures))

pub offset_bounds-deref_mut-clipped : goal.offset_bounds-deref_mut-clipped
offset_bounds-deref_mut-clipped g c =
    let before = row_begins c.deref_mut.result.now c.self.inside.width c.self.inside.height c.new-clipped.result.rows.start
    (c.deref_mut.ensures.len ∙ c.self.invariant.0) (omega (arith, c.new-clipped.ensures)) in
    scaled_fits≤ _ _ _ before c.deref_mut.type_inv.1

pub returns : goal.returns
returns g c =
    let f = c.new-clipped.ensures in
    let a = c.self.inside in
    let image : Image g.row.P.Denot = record { width = a.width; height = a.height; pixels = a.pixels.items } in
    let fits = walk_fits c.deref_mut.result.now a.width a.height c.new-clipped.result (c.deref_mut.ensures.len ∙ c.self.invariant.0) f.ordered f.from_top f.in_width f.in_height in
    let walk = walk_is image c.args.reg c.new-clipped.result c.deref_mut.result.now c.deref_mut.ensures.value f.left f.right f.top f.bottom f.in_width fits.2 in
    rw (← c.self.view_is) (record { rows = walk.rows; count = walk.count; wide = walk.wide })
