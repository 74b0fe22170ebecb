use Rattle.std.proofs.Common.{ℕ, ◌+◌, ◌-◌, ◌*◌, ◌<◌, length, replicate, arith}
use Rattle.std.proofs.lemmas.List.{length-replicate}
use Rattle.pix_el.proofs.Copies.{copied_part, part_begins}
use Rattle.pix_el.proofs.OneValue.{filled_part}
use Rattle.pix_el.proofs.filled.fill_parts.Goals as goal

pub loop-k-preserved : goal.loop-k-preserved
loop-k-preserved g c =
    let x = c.args.value in
    let part = c.args.part in
    let old = c.args.row.now in
    let at = c.min-at.result in
    let count : ℕ = length old in
    let next : c.loop-k.k * part < count = part_begins c.loop-k.k part count c.div_ceil-k-end.result c.requires.some c.div_ceil-k-end.ensures c.loop-k-test.true in
    copied_part c.loop-k.k part count at (replicate count x) old c.loop-k.row _ c.requires.has_one (omega (arith, length-replicate count x)) next
    c.min-at.ensures c.loop-k.invariant
    (filled_part x at (at + part - at) count c.loop-k.row _ (omega (arith, c.min-at.ensures, c.requires.has_one)) c.loop-k.auto.row c.write_all.ensures)
