-- Of `closest_of_one`: that entry 0 is the first candidate.
use Rattle.std.proofs.Common.{◌≡◌, [], map, get_or, sym, ap, ◌∙◌, arith}
use Rattle.std.proofs.lemmas.List.{get_or-map}
use Rattle.pix_table.specs.matching.Nearest.{numbers}
use Rattle.pix_table.specs.threshold.PaletteMatch.{color_difference}
use Rattle.pix_table.proofs.lemmas.threshold.PaletteMatches.{best_first}
use Rattle.pix_table.proofs.threshold.closest_of_one.Goals as goal

pub returns : goal.returns
returns g c =
    let entry : numbers c.color.result ≡ get_or (map g.C.TableColor.channels c.args.colors.now) 0 [] =
    c.color.ensures ∙ ap g.C.TableColor.channels c.index-colors-0.is ∙ sym (get_or-map g.C.TableColor.channels c.args.colors.now 0 c.index-colors-0.result [] (omega arith)) in
    best_first _ _ _ (c.apart.ensures ∙ ap (λ p. color_difference p (numbers c.args.clr)) entry)
