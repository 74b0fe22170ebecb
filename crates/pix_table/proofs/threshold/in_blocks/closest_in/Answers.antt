-- Of `closest_in`: the clause `found`.
use Rattle.std.proofs.Common.{arith}
use Rattle.std.proofs.lemmas.List.{length-map}
use Rattle.pix_table.proofs.lemmas.threshold.PaletteMatches.{best_match}
use Rattle.pix_table.proofs.threshold.in_blocks.closest_in.Goals as goal

pub returns-clause-found : goal.returns-clause-found
returns-clause-found g c =
    best_match _ _ _ c.closest_between.result.0 _ (omega (arith, length-map c.args.colors.now g.C.TableColor.channels)) c.closest_between.ensures
