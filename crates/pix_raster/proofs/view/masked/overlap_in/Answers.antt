-- Of `overlap_in`: what it returns is the overlap, from both axes.
use Rattle.std.proofs.Common.{◌≡◌, pos, ◌+◌, ◌-ℤ◌, sym, FitsSigned, w32, rules}
use Rattle.std.specs.Prelude.{◌&&◌}
use Rattle.std.proofs.lemmas.Int.{to_z-of_z}
use Rattle.pix_el.specs.Pixel.{lies_in}
use Rattle.pix_raster.specs.Clip.{is_offset}
use Rattle.pix_raster.proofs.Overlaps.{is_paired_by_axes}
use Rattle.pix_raster.proofs.view.masked.overlap_in.Goals as goal

pub returns : goal.returns
returns c =
    let to = c.args.to in
    let from = c.args.from in
    let window = c.args.window in
    let left = window.left in
    let top = window.top in
    let right = left + window.shape.width in
    let bottom = top + window.shape.height in
    let src = c.args.src in
    let f : FitsSigned w32 c.left.result = search rules in
    let g : FitsSigned w32 c.left-2.result = search rules in
    let f2 : FitsSigned w32 c.top.result = search rules in
    let g2 : FitsSigned w32 c.top-2.result = search rules in
    let columns = c.axis_overlap.ensures in
    let rows = c.axis_overlap-2.ensures in
    record {
      ordered = columns.ordered;
      from_top = rows.ordered;
      in_width = columns.in_dst;
      in_height = rows.in_dst;
      in_src_width = columns.in_src;
      in_src_height = rows.in_src;
      points = λ x y.
          let i = pos (left + x) -ℤ to.left in
          let j = pos (top + y) -ℤ to.top in
          let across : lies_in c.axis_overlap.result.dst x ≡ (is_offset to.left to.width right i && is_offset from.left from.width src.width i) =
          rw (c.left.ensures, c.left-2.ensures, c.width.ensures.value, c.width-2.ensures.value) at (simp to_z-of_z at columns.points x) in
          let down : lies_in c.axis_overlap-2.result.dst y ≡ (is_offset to.top to.height bottom j && is_offset from.top from.height src.height j) =
          rw (c.top.ensures, c.top-2.ensures, c.height.ensures.value, c.height-2.ensures.value) at (simp to_z-of_z at rows.points y) in
          rw (across, down) (sym (is_paired_by_axes to from right bottom src.width src.height i j c.requires.across c.requires.down c.requires.src_wide c.requires.src_high));
      src_columns = λ x here. rw (c.left.ensures, c.left-2.ensures) at (simp to_z-of_z at columns.sources x here);
      src_rows = λ y here. rw (c.top.ensures, c.top-2.ensures) at (simp to_z-of_z at rows.sources y here);
    }
