-- Of `look_up`: that each index is an entry's, and that the invariant of its loop over `k` holds
-- after each turn.
use Rattle.std.proofs.Common.{◌≡◌, true, length, get_or, arith, ap, ◌∙◌}
use Rattle.pix_table.specs.packing.LookUp.{all_below}
use Rattle.pix_table.proofs.Below.{each_below}
use Rattle.pix_table.proofs.Writes.{looked_more}
use Rattle.pix_table.proofs.packing.look.look_up.Goals as goal

pub offset_bounds-entries-from : goal.offset_bounds-entries-from
offset_bounds-entries-from g c =
    let inside : all_below (length c.args.entries.now) c.args.indices.now ≡ true = cc in
    omega (arith, each_below (length c.args.entries.now) c.args.indices.now inside c.loop-k.k (omega arith))

pub bounds-entries-from : goal.bounds-entries-from
bounds-entries-from g c =
    let inside : all_below (length c.args.entries.now) c.args.indices.now ≡ true = cc in
    omega (arith, each_below (length c.args.entries.now) c.args.indices.now inside c.loop-k.k (omega arith))

pub loop-k-preserved : goal.loop-k-preserved
loop-k-preserved g c =
    let inside : all_below (length c.args.entries.now) c.args.indices.now ≡ true = cc in
    looked_more c.args.entries.now c.loop-k.colors (λ j. get_or c.args.indices.now j 0) c.loop-k.k c.index-entries-from.result (omega arith)
    (each_below (length c.args.entries.now) c.args.indices.now inside c.loop-k.k (omega arith))
    (c.index-entries-from.is ∙ ap (λ at. get_or c.args.entries.now at c.index-entries-from.result) c.from.ensures) c.loop-k.invariant
