-- Of `masked_overlap_in`: what it returns is the overlap, from both axes.
use Rattle.std.proofs.Common.{◌≡◌, pos, ◌+◌, ◌-ℤ◌, FitsSigned, w32, rules, Bool}
use Rattle.std.specs.Prelude.{◌&&◌}
use Rattle.std.proofs.lemmas.Int.{to_z-of_z}
use Rattle.pix_el.specs.Pixel.{lies_in}
use Rattle.pix_raster.specs.Clip.{is_offset}
use Rattle.pix_raster.proofs.Overlaps.{is_paired_by_axes}
use Rattle.pix_raster.proofs.MaskedOverlaps.{paired_twice}
use Rattle.pix_raster.proofs.view.masked.masked_overlap_in.Goals as goal

pub returns : goal.returns
returns c =
    let to = c.args.to in
    let from = c.args.from in
    let mask_from = c.args.mask_from in
    let window = c.args.window in
    let left = window.left in
    let top = window.top in
    let right = left + window.shape.width in
    let bottom = top + window.shape.height in
    let src = c.args.src in
    let mask = c.args.mask in
    let f : FitsSigned w32 c.left.result = search rules in
    let f2 : FitsSigned w32 c.top.result = search rules in
    let columns = c.masked_overlap-mask_column.ensures in
    let rows = c.masked_overlap-mask_row.ensures in
    let src_left = c.across.ensures in
    let mask_left = c.across-2.ensures in
    let src_top = c.down.ensures in
    let mask_top = c.down-2.ensures in
    record {
      ordered = columns.ordered;
      from_top = rows.ordered;
      in_width = columns.in_dst;
      in_height = rows.in_dst;
      in_src_width = rw src_left.count at columns.in_src;
      in_src_height = rw src_top.count at rows.in_src;
      in_mask_width = rw mask_left.count at columns.in_mask;
      in_mask_height = rw mask_top.count at rows.in_mask;
      points = λ x y.
          let i = pos (left + x) -ℤ to.left in
          let j = pos (top + y) -ℤ to.top in
          let a : Bool = is_offset to.left to.width right i in
          let b : Bool = is_offset from.left from.width src.width i in
          let d : Bool = is_offset mask_from.left mask_from.width mask.width i in
          let a' : Bool = is_offset to.top to.height bottom j in
          let b' : Bool = is_offset from.top from.height src.height j in
          let d' : Bool = is_offset mask_from.top mask_from.height mask.height j in
          let across : lies_in c.masked_overlap-mask_column.result.0.dst x ≡ ((a && b) && d) =
          rw (c.left.ensures, c.width.ensures.value, src_left.start, src_left.len, src_left.count, mask_left.start, mask_left.len, mask_left.count) at (simp to_z-of_z at columns.points x) in
          let down : lies_in c.masked_overlap-mask_row.result.0.dst y ≡ ((a' && b') && d') =
          rw (c.top.ensures, c.height.ensures.value, src_top.start, src_top.len, src_top.count, mask_top.start, mask_top.len, mask_top.count) at (simp to_z-of_z at rows.points y) in
          rw (
            across,
            down,
            is_paired_by_axes to from right bottom src.width src.height i j c.requires.across c.requires.down c.requires.src_wide c.requires.src_high,
            is_paired_by_axes to mask_from right bottom mask.width mask.height i j c.requires.across c.requires.down c.requires.mask_wide c.requires.mask_high,
          ) (paired_twice a b d a' b' d');
      src_columns = λ x here. rw (c.left.ensures, src_left.start) at (simp to_z-of_z at columns.sources x here);
      src_rows = λ y here. rw (c.top.ensures, src_top.start) at (simp to_z-of_z at rows.sources y here);
      mask_columns = λ x here. rw (c.left.ensures, mask_left.start) at (simp to_z-of_z at columns.masks x here);
      mask_rows = λ y here. rw (c.top.ensures, mask_top.start) at (simp to_z-of_z at rows.masks y here);
    }
