use Rattle.std.proofs.Common.{refl, arith}
use Rattle.std.proofs.lemmas.List.{nil_from_length}
use Rattle.pix_script.specs.Commands.{problem_of}
use Rattle.pix_script.specs.Commands.{meaning_of}
use Rattle.pix_script.proofs.parse.parse.Goals as goal

pub returns-in-empty : goal.returns-in-empty
unfolding problem_of meaning_of
returns-in-empty c = rw (nil_from_length c.args.words.now (omega (arith, c.in-empty.len_below))) (refl, refl)
