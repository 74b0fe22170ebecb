-- Of `scaled_raster`: that the memory of both rasters fits, and that the pixels are those of the
-- window.
use Rattle.std.proofs.Common.{◌≡◌, ◌*◌, ◌++◌, length, take, drop, ap, ◌∙◌, arith, rules}
use Rattle.std.proofs.lemmas.List.{take-append-le}
use Rattle.std.proofs.Math.Seq.{take-length}
use Rattle.pix_scale.specs.Call.{whole_rows, words}
use Rattle.pix_scale.proofs.WholeRows.{memory_fits, whole_pixels}
use Rattle.pix_scale.proofs.scaled.scaled_raster.Goals as goal

pub draw-requires-clause-memory : goal.draw-requires-clause-memory
draw-requires-clause-memory g c =
    let source : c.whole_rows-source.result ≡ whole_rows c.args.picture.now.width c.args.picture.now.height =
    c.whole_rows-source.ensures ∙ ap (λ n. whole_rows n c.height.result) c.width.ensures.value ∙ ap (whole_rows c.args.picture.now.width) c.height.ensures.value in
    let wide : c.in_ok-made.made.width ≡ c.args.width = search rules in
    let high : c.in_ok-made.made.height ≡ c.args.height = search rules in
    let to_count : length c.pixels_mut.result.now ≡ c.args.height * c.args.width =
    c.pixels_mut.ensures.count ∙ ap (λ n. n * c.in_ok-made.made.width) high ∙ ap (λ n. c.args.height * n) wide in
    let words_count : length c.deref_mut.result.now ≡ c.words.result = c.deref_mut.ensures.len ∙ c.in_ok-work.ensures.count in
    rw (to_count, c.pixels.ensures.count)
    (memory_fits g.P.Chan.Channel.max g.P.Pixel.layout.count c.args.filter c.args.view _ _ _ _ _ _ _ c.whole_rows-rows.ensures source search rules (words_count ∙ c.words.ensures
    ∙ ap (λ n. words n c.args.filter c.args.view c.whole_rows-rows.result c.whole_rows-source.result) c.channels-count.ensures.count))

pub returns-clause-pixels : goal.returns-clause-pixels
returns-clause-pixels g c =
    let source : c.whole_rows-source.result ≡ whole_rows c.args.picture.now.width c.args.picture.now.height =
    c.whole_rows-source.ensures ∙ ap (λ n. whole_rows n c.height.result) c.width.ensures.value ∙ ap (whole_rows c.args.picture.now.width) c.height.ensures.value in
    let long : length c.in_ok-made.made.pixels ≡ length c.draw.new.to = search rules in
    let same : take (length c.in_ok-made.made.pixels) (c.draw.new.to ++ drop (length c.draw.new.to) c.in_ok-made.made.pixels) ≡ c.draw.new.to =
    take-append-le _ c.draw.new.to (drop (length c.draw.new.to) c.in_ok-made.made.pixels) (omega arith) ∙ ap (λ m. take m c.draw.new.to) long ∙ take-length c.draw.new.to in
    whole_pixels g.P.Pixel.numbers _ _ _ _ _ _ _ _ _ _ _ _ _ c.draw.new.to _ c.whole_rows-rows.ensures source c.pixels.ensures.pixels same c.draw.ensures
