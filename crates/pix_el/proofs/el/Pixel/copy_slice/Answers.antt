use Rattle.std.proofs.Common.{drop, ◌++◌, ap, ◌∙◌, List}
use Rattle.pix_el.proofs.Written.{over_copied}
use Rattle.pix_el.proofs.el.Pixel.copy_slice.Goals as goal

pub returns : goal.returns
returns g c =
    ap (λ (l : List g.row.Self.Denot). l ++ drop c.min-count.result c.args.dst.now) c.copy_from_slice.ensures.after
    ∙ rw c.min-count.ensures (over_copied c.args.src.now c.args.dst.now)
