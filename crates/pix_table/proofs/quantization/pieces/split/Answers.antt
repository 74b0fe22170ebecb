-- Of `split`: which pieces there are then.
use Rattle.std.proofs.Common.{refl}
use Rattle.pix_table.proofs.lemmas.quantization.Splits.{split_at}
use Rattle.pix_table.proofs.quantization.pieces.split.Goals as goal

pub returns : goal.returns
returns c =
    split_at c.args.pieces.now c.rotate_right.new.self c.args.at c.args.count _ c.args.low c.args.high c.args.low c.requires.inside c.requires.room refl
    c.rotate_right.ensures.after
