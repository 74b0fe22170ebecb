-- Of `pix_raw_map_indexed_alpha`: that pixels which are all transparent are matched, whatever the
-- entries are.
use Rattle.std.proofs.Common.{map}
use Rattle.pix_table.specs.matching.Nearest.{numbers}
use Rattle.pix_c.proofs.table.pix_raw_map_indexed_alpha.Goals as goal

pub returns-then-map_transparent-clause-done : goal.returns-then-map_transparent-clause-done
returns-then-map_transparent-clause-done c = λ done.
    c.map_transparent.ensures.matched c.if-map_transparent.true (map numbers c.args.entries.now)
