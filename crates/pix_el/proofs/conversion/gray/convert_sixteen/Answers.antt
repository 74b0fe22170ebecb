-- Of `convert_sixteen`: its clause, and that the invariants of its loops hold at first and stay.
use Rattle.std.proofs.Common.{get_or, arith, ◌∙◌, sym, refl, [], ◌∷◌}
use Rattle.pix_el.specs.Conversion.{Format, converted}
use Rattle.pix_el.proofs.Conversions.{fits_model}
use Rattle.pix_el.proofs.Gray.{none_apart, one_more, made_of_rgba}
use Rattle.pix_el.proofs.Made.{none_made, one_made, all_made}
use borrow.Author.Rules.{scaled_fits≤}
use Rattle.pix_el.proofs.conversion.gray.convert_sixteen.Goals as goal

pub offset_bounds-reds-k : goal.offset_bounds-reds-k
offset_bounds-reds-k g c = scaled_fits≤ _ 32 _ (omega arith) g.met.D.Chan.Channel.small

pub offset_bounds-greens-k : goal.offset_bounds-greens-k
offset_bounds-greens-k g c = scaled_fits≤ _ 32 _ (omega arith) g.met.D.Chan.Channel.small

pub offset_bounds-blues-k : goal.offset_bounds-blues-k
offset_bounds-blues-k g c = scaled_fits≤ _ 32 _ (omega arith) g.met.D.Chan.Channel.small

pub offset_bounds-alphas-k : goal.offset_bounds-alphas-k
offset_bounds-alphas-k g c = scaled_fits≤ _ 32 _ (omega arith) g.met.D.Chan.Channel.small

pub from_four-requires : goal.from_four-requires
from_four-requires g c = fits_model g.D.Pixel.layout _ g.met.D.Pixel.laid_out c.requires.few

pub loop-k-init : goal.loop-k-init
loop-k-init g c = none_apart _ _ _ _ _ _ _ _ refl refl refl refl

pub loop-k-preserved : goal.loop-k-preserved
loop-k-preserved g c =
    let four = c.rgba_converted-red.result in
    one_more _ _ _ c.loop-k.k c.loop-k.reds c.loop-k.greens c.loop-k.blues c.loop-k.alphas c.args.src.now four.0 four.1 four.2 four.3 c.index-src-k.result
    c.loop-k.invariant (omega arith) c.requires.src_size c.index-src-k.is c.rgba_converted-red.ensures

pub loop-i-init : goal.loop-i-init
loop-i-init g c = none_made _ _ _ _ _ _ c.requires.dst_size

pub loop-i-preserved : goal.loop-i-preserved
loop-i-preserved g c =
    let own : Format = record { layout = record { max = g.P.Chan.Channel.max; count = g.P.Pixel.layout.count; hues = g.P.Model.ColorModel.CIRCULAR; alpha = g.P.Model.ColorModel.ALPHA }; kind = g.P.Model.ColorModel.KIND; colors = g.P.Model.ColorModel.LINEAR; to_rgb = g.P.Model.ColorModel.to_rgb; of_rgb = g.P.Model.ColorModel.of_rgb; alpha_mode = g.P.Alpha.Alpha.mode } in
    let to_own : Format = record { layout = record { max = g.D.Chan.Channel.max; count = g.D.Pixel.layout.count; hues = g.D.Model.ColorModel.CIRCULAR; alpha = g.D.Model.ColorModel.ALPHA }; kind = g.D.Model.ColorModel.KIND; colors = g.D.Model.ColorModel.LINEAR; to_rgb = g.D.Model.ColorModel.to_rgb; of_rgb = g.D.Model.ColorModel.of_rgb; alpha_mode = g.D.Alpha.Alpha.mode } in
    let gamma = g.P.Gamma.Gamma-2.mode in
    let to_gamma = g.D.Gamma.Gamma.mode in
    let w = g.D.Chan.Channel.number in
    let i = c.loop-i.i in
    let red = c.index-reds-i.result in
    let green = c.index-greens-i.result in
    let blue = c.index-blues-i.result in
    let alpha = c.index-alphas-i.result in
    let rgba = w (get_or c.loop-k.reds i red) ∷ w (get_or c.loop-k.greens i green) ∷ w (get_or c.loop-k.blues i blue) ∷ w (get_or c.loop-k.alphas i alpha) ∷ [] in
    one_made g.D.Pixel.numbers g.P.Pixel.numbers (converted g.P.Pixel.format gamma g.D.Pixel.format to_gamma) 16 i c.loop-i.dst c.args.src.now c.from_four.result
    c.loop-i.invariant (omega arith)
    (λ p. made_of_rgba g.P.Pixel.format g.D.Pixel.format own to_own gamma to_gamma (g.P.Pixel.numbers (get_or c.args.src.now i p)) rgba (g.D.Pixel.numbers c.from_four.result)
    g.met.P.Pixel.formatted g.met.D.Pixel.formatted c.requires.other
    (c.loop-k.invariant.done i (omega arith) red green blue alpha p)
    c.from_four.ensures)

pub returns : goal.returns
returns g c = all_made _ _ _ _ _ (c.loop-i.invariant.long ∙ sym c.requires.src_size) (λ j lt d p. c.loop-i.invariant.done j (omega (arith, lt, c.loop-i.invariant.long)) d p)
