-- Of `ClippedRect::new`: the clauses `right`, `bottom`, `in_width` and `in_height`, and the
-- condition of its call of `rows_of`.
use Rattle.std.proofs.Common.{◌≡◌, ◌≤◌, ◌+◌, pos}
use Rattle.pix_raster.specs.Region.{Rectangle, right, bottom, whole, intersection_of}
use Rattle.pix_raster.specs.Reach.{natural}
use Rattle.pix_raster.proofs.Rectangles.{clipped_in, far_edge}
use Rattle.pix_raster.proofs.clip.ClippedRect.new.Goals as goal

pub rows_of-requires : goal.rows_of-requires
rows_of-requires c = rw c.clip-clipped.ensures (clipped_in c.args.reg c.args.width c.args.height).top

-- the far edges of the clipped rectangle
across : (c : goal.After-rows_of)
    → (c.columns_of.result.end ≡ natural (intersection_of c.args.reg (whole c.args.width c.args.height)).left + (intersection_of c.args.reg (whole c.args.width c.args.height)).width) × (c.columns_of.result.end ≤ c.args.width)
across c =
    let k : Rectangle = intersection_of c.args.reg (whole c.args.width c.args.height) in
    let i = clipped_in c.args.reg c.args.width c.args.height in
    let e : pos c.columns_of.result.end ≡ right k = rw c.clip-clipped.ensures at c.columns_of.ensures.end in
    far_edge k.left k.width c.args.width c.columns_of.result.end c.requires.wide i.left i.across e

down : (c : goal.After-rows_of)
    → (c.rows_of.result.end ≡ natural (intersection_of c.args.reg (whole c.args.width c.args.height)).top + (intersection_of c.args.reg (whole c.args.width c.args.height)).height) × (c.rows_of.result.end ≤ c.args.height)
down c =
    let k : Rectangle = intersection_of c.args.reg (whole c.args.width c.args.height) in
    let i = clipped_in c.args.reg c.args.width c.args.height in
    let e : pos c.rows_of.result.end ≡ bottom k = rw c.clip-clipped.ensures at c.rows_of.ensures.end in
    far_edge k.top k.height c.args.height c.rows_of.result.end c.requires.high i.top i.down e

pub returns-clause-right : goal.returns-clause-right
returns-clause-right c = (across c).0

pub returns-clause-bottom : goal.returns-clause-bottom
returns-clause-bottom c = (down c).0

pub returns-clause-in_width : goal.returns-clause-in_width
returns-clause-in_width c = (across c).1

pub returns-clause-in_height : goal.returns-clause-in_height
returns-clause-in_height c = (down c).1
