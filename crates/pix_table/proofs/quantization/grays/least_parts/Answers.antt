-- Of `least_parts`: that the table has the least squared error.
use Rattle.std.proofs.Common.{◌≡◌, length, map, take, arith, subst, length-take}
use Rattle.std.proofs.lemmas.List.{length-map}
use Rattle.pix_table.specs.quantization.GrayLevels.{AreLeast, error_by, error_of}
use Rattle.pix_table.specs.matching.Nearest.{numbers}
use Rattle.pix_table.proofs.lemmas.quantization.GrayTables.{is_least}
use Rattle.pix_table.proofs.quantization.grays.least_parts.Goals as goal

pub returns-clause-table : goal.returns-clause-table
returns-clause-table c = λ w x of colors grays are.
    let d = c.args.len in
    let e = error_of c.args.sums.now in
    let starts = c.find_starts.new.starts in
    let room = length c.args.entries.now in
    let table = take c.write_parts.result c.write_parts.new.entries in
    let shown = c.write_parts.ensures in
    let kept : length c.args.starts.now ≡ length c.find_starts.new.starts = omega arith in
    let fits : length c.find_starts.new.starts ≡ length c.args.entries.now = omega (arith, c.requires.room) in
    let by_parts = subst (λ k. AreLeast w x d k (error_by e starts k)) kept (c.find_starts.ensures.least w x of) in
    let by_entries = subst (λ k. AreLeast w x d k (error_by e starts (length starts))) fits by_parts in
    is_least w x d colors grays are room (error_by e starts (length starts)) (map numbers table) by_entries
    (omega (arith, shown.some, shown.within, length-map table numbers, length-take c.write_parts.result c.write_parts.new.entries))
    (omega (arith, length-map table numbers, length-take c.write_parts.result c.write_parts.new.entries)) (shown.error w x of)
