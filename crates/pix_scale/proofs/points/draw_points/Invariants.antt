-- What holds at each turn of the loop over `y` in `draw_points`.
use Rattle.std.proofs.Common.{◌+◌, map}
use Rattle.pix_scale.specs.Axis.{scaled, channel_at}
use Rattle.pix_scale.specs.Table.{side_axis}
use Rattle.pix_scale.proofs.Written.{Rows}
use Rattle.pix_scale.proofs.points.draw_points.Given as goal

-- the rows before y are written, and everything else stays
abbrev pub invariant-loop-y : goal.invariant-loop-y
invariant-loop-y g l =
    Rows (map g.D.Stored.reads l.initial.to) (map g.D.Stored.reads l.to) l.rows.width l.rows.stride g.P.Pixel.layout.count
    (λ x y c. scaled g.P.Chan.Channel.max (side_axis l.fn.across) (side_axis l.down) (channel_at (map g.D.Stored.reads l.from) l.stride c) (l.view.left + x) (l.view.top + y)) l.y
