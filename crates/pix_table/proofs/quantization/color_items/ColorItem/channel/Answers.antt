-- Of `channel`: that the count stands behind the numbers of the color.
use Rattle.std.proofs.Common.{◌∷◌, [], sym, ◌∙◌}
use Rattle.std.proofs.lemmas.List.{get_or_append_left}
use Rattle.pix_table.specs.matching.Nearest.{numbers}
use Rattle.pix_table.proofs.quantization.color_items.ColorItem.channel.Goals as goal

pub returns : goal.returns
returns c = c.channel.ensures ∙ sym (get_or_append_left (numbers c.args.self) (1 ∷ []) 0 c.args.k c.requires)
