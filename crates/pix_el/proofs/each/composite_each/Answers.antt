use Rattle.std.proofs.Common.{◌≡◌, ◌-◌, length, map, get_or, true, arith, sym, ap, ◌∙◌, refl}
use Rattle.std.proofs.lemmas.List.{length-map, map-set, get_or-map}
use Rattle.pix_ops.specs.Hue.{hue_weight, IsHueMove}
use Rattle.pix_el.specs.Pixel.{lies_in, channel}
use Rattle.pix_el.proofs.Written.{written_none, written_more, written_all, each_more}
use Rattle.pix_el.proofs.each.composite_each.Goals as goal

pub loop-i-init : goal.loop-i-init
loop-i-init g c = record { composited = written_none _ _ _; moved = λ k h hue. absurd (omega arith) }

pub loop-i-preserved : goal.loop-i-preserved
loop-i-preserved g c =
    let max = g.C.Channel.max in
    let n = g.C.Channel.number in
    let i = c.loop-i.i in
    let src = c.args.src.now in
    let old = c.args.dst.now in
    let now = c.loop-i.dst in
    let weight = hue_weight max g.O.Blend.op (n c.args.sa) (max - n c.args.da1) in
    let so_far = c.loop-i.invariant in
    let long : length now ≡ length old = sym (length-map now n) ∙ so_far.composited.long ∙ length-map old n in
    let s : n c.index-src-i.result ≡ channel max (map n src) i = ap n c.index-src-i.is ∙ sym (get_or-map n src i c.index-src-i.result max (omega arith)) in
    let d : get_or (map n now) i max ≡ n (get_or now i c.index-dst-i.result) = get_or-map n now i c.index-dst-i.result max (omega arith) in
    let first : channel max (map n old) i ≡ n (get_or now i c.index-dst-i.result) = sym (so_far.composited.rest i (omega arith)) ∙ d in
    rw map-set (record {
      composited = written_more _ _ _ _ i (n c.composite_channel.new.dst) so_far.composited (omega (arith, length-map old n)) (c.composite_channel.ensures.composite ∙ rw (s, d) refl);
      moved = each_more
          (λ k x. lies_in g.M.ColorModel.CIRCULAR k ≡ true → IsHueMove max weight (channel max (map n old) k) (channel max (map n src) k) x)
          max (map n now) i (n c.composite_channel.new.dst) (omega (arith, length-map now n)) so_far.moved
          (rw (first, ← s) c.composite_channel.ensures.moves);
    })

pub returns : goal.returns
returns g c = record {
  composite = written_all _ _ _ _ c.loop-i.i _ c.loop-i.invariant.composited (length-map c.args.dst.now g.C.Channel.number) (omega arith);
  moves = λ ch lt hue. c.loop-i.invariant.moved ch (omega arith) hue;
}
