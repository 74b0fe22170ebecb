-- Of `diffused_image`: that its pixels are whole rows.
use Rattle.std.proofs.Common.{◌≡◌, ◌*◌, ◌%◌, length, ap, ◌∙◌}
use Rattle.std.proofs.Math.Nat.{mul-mod_left}
use Rattle.pix_palette.proofs.palette.quantization.diffused_image.Goals as goal

pub diffused-requires-clause-whole : goal.diffused-requires-clause-whole
diffused-requires-clause-whole g c =
    let wide : c.width.result ≡ c.in_ok-shades.shades.width = cc in
    let many : length c.pixels.result.now ≡ c.in_ok-shades.shades.height * c.width.result = cc in
    ap (λ n. n % c.width.result) many ∙ mul-mod_left c.in_ok-shades.shades.height c.width.result
