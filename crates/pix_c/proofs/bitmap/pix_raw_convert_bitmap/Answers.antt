-- Of `pix_raw_convert_bitmap`: that it answers what the call below it does.
use Rattle.std.proofs.Common.{◌≡◌, w64, to_z, of_z, to_z-of_z}
use Rattle.pix_c.proofs.bitmap.pix_raw_convert_bitmap.Goals as goal

pub returns-clause-done : goal.returns-clause-done
returns-clause-done c =
    let src : to_z w64 (of_z w64 c.args.src_stride) ≡ c.args.src_stride = to_z-of_z c.ranges.src_stride in
    let dst : to_z w64 (of_z w64 c.args.dst_stride) ≡ c.args.dst_stride = to_z-of_z c.ranges.dst_stride in
    rw (src, dst) at c.convert_bitmap.ensures.done
