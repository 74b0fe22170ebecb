-- What holds at each turn of the loop over `y` in `cut_rows`.
use Rattle.std.proofs.Common.{map}
use Rattle.pix_scale.specs.Axis.{channel_at}
use Rattle.pix_scale.specs.Signed.{cut_by, sum_by}
use Rattle.pix_scale.specs.SignedTable.{taps_at}
use Rattle.pix_scale.proofs.Written.{Rows}
use Rattle.pix_scale.proofs.signed_rows.cut_rows.Given as goal

-- the rows before y are written, and everything else stays
abbrev pub invariant-loop-y : goal.invariant-loop-y
invariant-loop-y g l =
    Rows (map g.D.Stored.reads l.initial.to) (map g.D.Stored.reads l.to) l.rows.width l.rows.stride g.P.Pixel.layout.count
    (λ x y c. cut_by g.P.Pixel.layout (λ ch. sum_by (taps_at l.firsts l.plus l.minus l.taps x) (taps_at l.lines l.lines_plus l.lines_minus l.lines_taps y)
    (channel_at (map g.D.Stored.reads l.from) l.stride ch)) c) l.y
