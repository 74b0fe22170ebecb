use Rattle.std.proofs.Common.{◌*◌, ◌^◌, length, slice_index, arith}
use Rattle.pix_scale.proofs.Sums.{room, summed_more, below_32, at_of_part}
use Rattle.pix_scale.proofs.pixels.sum_pixels.Goals as goal

pub add_pixel-requires-clause-fits : goal.add_pixel-requires-clause-fits
add_pixel-requires-clause-fits c = λ x lt.
    omega (
      arith,
      c.requires.fits,
      room c.loop-k.to c.args.weights.now (slice_index c.args.sums.now) (length c.args.to.now) c.loop-k.k (2 ^ 32) (omega arith)
          (below_32 c.args.sums.now c.type_inv.sums) c.loop-k.invariant x lt,
    )

pub loop-k-preserved : goal.loop-k-preserved
loop-k-preserved c =
    summed_more c.loop-k.to _ _ _ _ _ _ (omega arith) c.loop-k.invariant
    (λ x lt. at_of_part c.args.sums.now (c.loop-k.k * length c.args.to.now) _ x (omega arith))
    c.add_pixel.ensures
