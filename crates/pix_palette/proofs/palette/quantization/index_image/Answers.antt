-- Of `index_image`: its clauses.
use Rattle.std.proofs.Common.{◌≡◌, ◌∙◌, length}
use Rattle.pix_palette.proofs.IndexingSets.{refilled}
use Rattle.pix_palette.proofs.palette.quantization.index_image.Goals as goal

pub returns-in-Ok-clause-image : goal.returns-in-Ok-clause-image
returns-in-Ok-clause-image c =
    let made = c.in-Ok.image in
    let pixels = c.write_indices.new.pixels in
    let long : length pixels ≡ length made.pixels = cc in
    let wide : made.width ≡ c.args.size.now.width = c.in-Ok.ensures.ok.0 ∙ c.width.ensures.value in
    let high : made.height ≡ c.args.size.now.height = c.in-Ok.ensures.ok.1 ∙ c.height.ensures.value in
    rw (refilled made.pixels pixels long) (record { wide = wide; high = high; gray = c.write_indices.ensures.gray })

pub returns-in-Ok-clause-indices : goal.returns-in-Ok-clause-indices
returns-in-Ok-clause-indices c =
    let made = c.in-Ok.image in
    let pixels = c.write_indices.new.pixels in
    let long : length pixels ≡ length made.pixels = cc in
    rw (refilled made.pixels pixels long) c.write_indices.ensures.indices
