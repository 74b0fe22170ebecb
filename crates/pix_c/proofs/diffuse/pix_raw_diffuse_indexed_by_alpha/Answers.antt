-- Of `pix_raw_diffuse_indexed_by_alpha`: that a table without an entry serves pixels which are all
-- transparent.
use Rattle.std.proofs.Common.{rules, ◌≡◌, length, map, ◌∙◌}
use Rattle.std.proofs.lemmas.List.{length-map}
use Rattle.pix_table.specs.matching.Nearest.{numbers}
use Rattle.pix_c.proofs.diffuse.pix_raw_diffuse_indexed_by_alpha.Goals as goal

pub returns-then-is_empty-clause-done : goal.returns-then-is_empty-clause-done
returns-then-is_empty-clause-done c = λ done.
    let empty : length c.args.entries.now ≡ 0 = search rules in
    rw c.scan_of.ensures at (c.diffuse_transparent.ensures.done done (map numbers c.args.entries.now) (length-map c.args.entries.now numbers ∙ empty))

pub returns-then-is_empty-clause-near : goal.returns-then-is_empty-clause-near
returns-then-is_empty-clause-near c = λ done. c.diffuse_transparent.ensures.near done (map numbers c.args.entries.now)
