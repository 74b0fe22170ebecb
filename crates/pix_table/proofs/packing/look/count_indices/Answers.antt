-- Of `count`: that each index has a count.
use Rattle.std.proofs.Common.{◌≡◌, true, length, arith}
use Rattle.pix_table.specs.packing.LookUp.{all_below}
use Rattle.pix_table.proofs.Below.{each_below}
use Rattle.pix_table.proofs.packing.look.count_indices.Goals as goal

pub bounds-counts-from : goal.bounds-counts-from
bounds-counts-from c =
    let inside : all_below (length c.args.counts.now) c.args.indices.now ≡ true = cc in
    omega (arith, each_below (length c.args.counts.now) c.args.indices.now inside c.loop-i.i (omega arith))

pub bounds-counts-from-in-loop-i : goal.bounds-counts-from-in-loop-i
bounds-counts-from-in-loop-i c =
    let inside : all_below (length c.args.counts.now) c.args.indices.now ≡ true = cc in
    omega (arith, each_below (length c.args.counts.now) c.args.indices.now inside c.loop-i.i (omega arith))
