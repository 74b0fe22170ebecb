-- Of `RowsIterator::next`: the clauses `steps` and `goes`.
use Rattle.std.proofs.Common.{◌-◌, ◌<◌, length, arith}
use Rattle.pix_raster.specs.Clip.{row_parts}
use Rattle.pix_raster.proofs.WrittenLemmas.{row_parts-first, length-row_parts}
use Rattle.pix_raster.proofs.rows.RowsIterator.next.Goals as goal

pub returns-clause-steps : goal.returns-clause-steps
returns-clause-steps g c =
    let a = c.self.inside in
    rw (← c.self.view_is) (row_parts-first a.left a.width a.columns.start a.columns.end a.rest.now _ _ (omega arith)
    c.self.invariant.0 c.self.invariant.1 c.split_at.ensures.front c.split_at.ensures.back)

pub returns-clause-goes : goal.returns-clause-goes
returns-clause-goes g c =
    let a = c.self.inside in
    let some : length (row_parts (a.left - 1) a.width a.columns.start a.columns.end c.split_at.result.1.now) < length (row_parts a.left a.width a.columns.start a.columns.end a.rest.now) =
    omega (arith, length-row_parts a.left a.width a.columns.start a.columns.end a.rest.now, length-row_parts (a.left - 1) a.width a.columns.start a.columns.end c.split_at.result.1.now) in
    rw (← c.self.view_is) (record { on = λ _. (tt, tt, some); keeps = tt; rests = λ _. tt })
