-- Of `channel`: that the count stands behind the numbers of the color.
use Rattle.std.proofs.Common.{◌∷◌, [], sym, ◌∙◌}
use Rattle.std.proofs.lemmas.List.{get_or_append_left}
use Rattle.pix_table.specs.SeenPixels.{seen_numbers}
use Rattle.pix_table.proofs.rgba.items.SeenColorItem.channel.Goals as goal

pub returns : goal.returns
returns c = c.seen_channel.ensures ∙ sym (get_or_append_left (seen_numbers c.args.self) (1 ∷ []) 0 c.args.k c.requires)
