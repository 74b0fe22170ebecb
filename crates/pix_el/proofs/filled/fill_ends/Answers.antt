use Rattle.std.proofs.Common.{arith}
use Rattle.pix_el.proofs.OneValue.{filled_rest, first_filled, all_filled}
use Rattle.pix_el.proofs.filled.fill_ends.Goals as goal

pub returns-then-count-part : goal.returns-then-count-part
returns-then-count-part g c =
    let x = c.args.value in
    let part = c.args.part in
    let old = c.args.row.now in
    filled_rest x part _ old _ c.write_all-then-count-part.new.row (omega arith) (omega arith)
    (first_filled x part old c.write_all.new.row (omega arith) c.write_all.ensures) c.write_all-then-count-part.ensures

pub returns-else-count-part : goal.returns-else-count-part
returns-else-count-part g c =
    let x = c.args.value in
    let part = c.args.part in
    let old = c.args.row.now in
    all_filled x part old _ (omega arith) (first_filled x part old c.write_all.new.row (omega arith) c.write_all.ensures)
