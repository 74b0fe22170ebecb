-- What holds at each turn of the loop over `i` in `composite_each`.
use Rattle.std.proofs.Common.{◌≡◌, ◌<◌, ◌-◌, ℕ, map, true, if◌then◌else◌}
use Rattle.pix_ops.specs.Composite.{channel_composite}
use Rattle.pix_ops.specs.Hue.{hue_composite, hue_weight, IsHueMove}
use Rattle.pix_el.specs.Pixel.{lies_in, channel}
use Rattle.pix_el.proofs.Written.{Written}
use Rattle.pix_el.proofs.each.composite_each.Given as goal

-- the channels below i are composited, and the hues among them have moved
abbrev pub invariant-loop-i : goal.invariant-loop-i
invariant-loop-i g l =
    let max = g.C.Channel.max in
    let op = g.O.Blend.op in
    let n = g.C.Channel.number in
    let hues = g.M.ColorModel.CIRCULAR in
    let sa = n l.sa in
    let da = max - n l.da1 in
    let s = λ (k : ℕ). channel max (map n l.src) k in
    record {
      composited : Written
          (λ k d. if lies_in hues k then hue_composite max op (s k) sa d da else channel_composite max op (s k) sa d da)
          max (map n l.initial.dst) (map n l.dst) l.i;
      moved : (k : ℕ) → k < l.i → lies_in hues k ≡ true
          → IsHueMove max (hue_weight max op sa da) (channel max (map n l.initial.dst) k) (s k) (channel max (map n l.dst) k);
    }
