-- Of `map_transparent`: that each index is the transparent one.
use Rattle.std.proofs.Common.{map, length, sym, ◌∙◌}
use Rattle.std.proofs.lemmas.List.{length-map}
use Rattle.pix_table.proofs.lemmas.matching.TransparentPixels.{all_transparent}
use Rattle.pix_table.proofs.matching.transparent.map_transparent.Goals as goal

pub returns-clause-matched : goal.returns-clause-matched
returns-clause-matched g c = λ all entries.
    all_transparent entries c.args.alpha c.args.transparent_index (map g.P.TablePixel.values c.args.pixels.now) c.fill.new.self (length c.args.indices.now)
    (c.requires.many ∙ sym (length-map c.args.pixels.now g.P.TablePixel.values)) (c.fill.ensures.after (λ y same. same))
    (sym c.are_transparent.ensures ∙ c.if-not-are_transparent.false)
