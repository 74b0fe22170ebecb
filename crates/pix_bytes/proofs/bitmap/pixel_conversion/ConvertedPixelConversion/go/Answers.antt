use Rattle.std.proofs.Common.{◌∙◌, ap, sym, refl, take, List, ℕ, arith}
use Rattle.std.specs.Prelude.{◌≢◌}
use Rattle.pix_el.specs.Color.{of_rgba}
use Rattle.pix_el.specs.Conversion.{Format, rgba_format}
use Rattle.pix_el.proofs.Conversions.{converted_same, converted_other, across_is}
use Rattle.pix_bytes.specs.FourChannels.{as_list}
use Rattle.pix_bytes.specs.Models.{model_of}
use Rattle.pix_bytes.specs.Rows.{IsStep, alpha_mode_of, format_at}
use Rattle.pix_bytes.specs.BitmapFormats.{out_of_rgb}
use Rattle.pix_bytes.specs.declared.bitmap.pixel_conversion.Step.{Step}
use Rattle.pix_bytes.proofs.FourChannels.{take_four, same_converted}
use Rattle.pix_bytes.proofs.ModelsByName.{channels_of_rgba, at_most_four}
use Rattle.pix_bytes.proofs.bitmap.pixel_conversion.ConvertedPixelConversion.go.Goals as goal

pub returns-then-kind : goal.returns-then-kind
returns-then-kind g c = λ q same.
    let format : Format = format_at g.C.Channel.max c.args.from in
    let to : Format = format_at g.D.Channel.max c.args.to in
    let s = c.between.result in
    let is = c.between.ensures in
    let step : IsStep format to g.C.Channel.max g.D.Channel.max s.count s.first s.end (alpha_mode_of s.is_premultiplied) (alpha_mode_of s.to_premultiplied) = record {
      from_max = refl;
      from_mode = ap alpha_mode_of (sym is.from_mode);
      max_is = refl;
      count_is = sym is.count;
      colors_are = rw (is.first, is.end) refl;
      alpha_is = sym is.alpha;
      mode_is = ap alpha_mode_of (sym is.to_mode);
    } in
    let p : List ℕ = as_list g.C.Channel.number c.args.pixel in
    let made : List ℕ = as_list g.D.Channel.number c.within.result in
    converted_same format to format to g.G.Gamma.mode g.H.Gamma.mode p (take c.args.to.count made) refl refl (sym c.kind.ensures ∙ c.if-kind.true ∙ c.kind-2.ensures)
    (ap (λ (n : ℕ). take n made) (sym is.count) ∙ c.within.ensures format to step)
    ∙ same_converted format to g.G.Gamma.mode g.H.Gamma.mode p q same

pub returns-else-kind : goal.returns-else-kind
returns-else-kind g c = λ q same.
    let format : Format = format_at g.C.Channel.max c.args.from in
    let to : Format = format_at g.D.Channel.max c.args.to in
    let kinds : format.kind ≢ to.kind = λ same. c.if-kind.false (c.kind.ensures ∙ same ∙ sym c.kind-2.ensures) in
    let s = c.of_rgba.result in
    let step : IsStep (rgba_format format) (rgba_format to) g.C.Channel.max g.D.Channel.max s.count s.first s.end (alpha_mode_of s.is_premultiplied) (alpha_mode_of s.to_premultiplied) =
    rw c.of_rgba.ensures (record {
      from_max = refl;
      from_mode = refl;
      max_is = refl;
      count_is = refl;
      colors_are = refl;
      alpha_is = refl;
      mode_is = refl;
    }) in
    let p : List ℕ = as_list g.C.Channel.number c.args.pixel in
    let rgba : List ℕ = as_list g.C.Channel.number c.into_rgb-rgba.result in
    let told : List ℕ = as_list g.D.Channel.number c.within-rgba.result in
    let made : List ℕ = as_list g.D.Channel.number c.out_of_rgb.result in
    let model = model_of c.args.to.model in
    let list : List ℕ = of_rgba (out_of_rgb model) g.D.Channel.max told in
    converted_other format to format to g.G.Gamma.mode g.H.Gamma.mode p (take c.args.to.count made) refl refl kinds
    (across_is format to format to g.G.Gamma.mode g.H.Gamma.mode p rgba told (take c.args.to.count made) refl refl c.into_rgb-rgba.ensures
    (ap (λ (n : ℕ). take n told) (sym (ap (λ (t : Step). t.count) c.of_rgba.ensures)) ∙ c.within-rgba.ensures (rgba_format format) (rgba_format to) step)
    (ap (take c.args.to.count) c.out_of_rgb.ensures
    ∙ take_four g.D.Channel.max c.args.to.count list (omega (arith, channels_of_rgba model g.D.Channel.max told, c.requires)) (omega (arith, at_most_four model, c.requires))))
    ∙ same_converted format to g.G.Gamma.mode g.H.Gamma.mode p q same
