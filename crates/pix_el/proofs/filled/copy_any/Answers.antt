use Rattle.std.proofs.Common.{◌++◌, ◌∙◌, List, ap, drop}
use Rattle.pix_el.proofs.Written.{over_copied}
use Rattle.pix_el.proofs.filled.copy_any.Goals as goal

pub returns : goal.returns
returns g c =
    let source = c.args.src.now in
    let row = c.args.row.now in
    ap (λ (l : List g.row.D.Denot). l ++ drop c.min-count.result row) c.copy_from_slice.ensures.after
    ∙ rw c.min-count.ensures (over_copied source row)
