-- Red, green and blue in another format. No public clause cites this file.
use Rattle.std.specs.Prelude.{ℕ, List}
use Rattle.pix_chan.specs.Modes.{GammaMode}
use Rattle.pix_el.specs.Color.{rgba_of}
use Rattle.pix_el.specs.Conversion.{Format, rgba_format, within_model}

-- red, green, blue and alpha of a pixel as another format has them
abbrev pub rgba_converted : Format → GammaMode → Format → GammaMode → List ℕ → List ℕ
rgba_converted format gamma to to_gamma pixel =
    within_model (rgba_format format) gamma (rgba_format to) to_gamma (rgba_of format.to_rgb format.layout.alpha format.layout.max pixel)
