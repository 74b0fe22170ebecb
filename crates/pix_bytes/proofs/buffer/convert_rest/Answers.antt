use Rattle.std.proofs.Common.{◌≡◌, ℕ, ◌≤◌, ◌+◌, ◌-◌, ◌*◌, ◌∙◌, length, ap, arith}
use Rattle.std.specs.Prelude.{Option}
use Rattle.std.specs.Option.{option_map_or}
use Rattle.pix_bytes.specs.Formats.{BufferFormat, channels}
use Rattle.pix_bytes.proofs.ConvertedAhead.{converted_rest}
use Rattle.pix_bytes.proofs.buffer.convert_rest.Goals as goal

pub returns : goal.returns
returns c = λ format target found to_found.
    let first = c.args.first in
    let count = c.args.count in
    let wide : c.args.wide ≡ channels format = c.requires.wide ∙ ap (λ (o : Option BufferFormat). option_map_or channels o 0) found in
    let to_wide : c.args.to_wide ≡ channels target = c.requires.to_wide ∙ ap (λ (o : Option BufferFormat). option_map_or channels o 0) to_found in
    let at : first * c.args.wide ≡ first * channels format = ap (λ (m : ℕ). first * m) wide in
    let end : length c.args.src.now ≡ count * channels format = c.requires.src ∙ ap (λ (m : ℕ). count * m) wide in
    let to_at : first * c.args.to_wide ≡ first * channels target = ap (λ (m : ℕ). first * m) to_wide in
    let to_end : length c.args.dst.now ≡ count * channels target = c.requires.dst ∙ ap (λ (m : ℕ). count * m) to_wide in
    let rest : ℕ = count - first in
    let all : count ≡ first + rest = omega (arith, c.requires.some) in
    let parts : count * channels target ≡ first * channels target + rest * channels target =
    ap (λ (m : ℕ). m * channels target) all ∙ (let e : (first + rest) * channels target ≡ first * channels target + rest * channels target = omega arith in e) in
    let span : length c.args.dst.now - first * c.args.to_wide ≡ rest * channels target = omega (arith, to_end, to_at, parts) in
    let within : first * c.args.to_wide ≤ length c.args.dst.now = omega (arith, to_end, to_at, parts) in
    let long : length c.convert.new.dst ≡ length c.args.dst.now - first * c.args.to_wide = omega arith in
    converted_rest format target c.args.src.now c.args.dst.now c.convert.new.dst first count (first * c.args.wide) (length c.args.src.now) (first * c.args.to_wide) (length c.args.dst.now - first * c.args.to_wide)
    (c.requires.ahead format target found to_found) at end to_at span c.requires.some within long (c.convert.ensures format target found to_found)
