-- Of `table_and_bytes`: the clause `exact`.
use Rattle.std.proofs.Common.{map, ap, ◌∙◌}
use Rattle.std.specs.Option.{option_map}
use Rattle.pix.specs.Palette.{numbers}
use Rattle.pix_uses.proofs.Grays.{exact_bytes}
use Rattle.pix_uses.proofs.tables.table_and_bytes.Goals as goal

pub returns-clause-exact : goal.returns-clause-exact
returns-clause-exact c =
    let h = rw c.in-Ok-Some.field-0-is at (c.in-Ok-Some.ensures.indexed.equal (ap (option_map (λ threshold. threshold.f)) c.in_ok-palette.ensures.threshold)) in
    let gray = rw c.in-Ok-Some.field-0-is at c.in-Ok-Some.ensures.indexed.gray in
    exact_bytes _ _ _ _ _ _ h gray (ap (map numbers) (c.in-Ok.ensures.items ∙ c.colors.ensures)) c.in_ok-bytes-in-Ok-Some.ensures.ok
