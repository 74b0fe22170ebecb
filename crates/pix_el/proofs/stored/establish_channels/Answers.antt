-- Of `establish_channels`: that the invariant of its loop over `i` stays.
use Rattle.std.proofs.Common.{◌≡◌, ◌∙◌, [], length, sym, ap, arith, inl, inr}
use Rattle.std.proofs.lemmas.Bool.{cases_lt}
use Rattle.std.proofs.lemmas.List.{length-map, get_or-map}
use Rattle.pix_el.proofs.stored.establish_channels.Goals as goal

pub loop-i-preserved : goal.loop-i-preserved
loop-i-preserved g c = λ k h.
    let v = g.D.Stored.reads in
    let item = c.index-pixels-i.result in
    let p = c.load-p.result in
    let number = g.P.Chan.Channel.number in
    elim (cases_lt k c.loop-i.i) [
      | inl below ↦ c.loop-i.invariant k below
      | inr past ↦
          let at : k ≡ c.loop-i.i = omega arith in
          let long : length (v item) ≡ g.P.Pixel.layout.count =
          ap length (sym c.load-p.ensures ∙ g.met.P.Pixel.numbered p) ∙ length-map (g.P.Pixel.channel_list p) number ∙ ap length (sym c.channels.ensures.channels) ∙ c.channels.ensures.count in
          rw at (ap length (get_or-map v c.args.pixels.now c.loop-i.i item [] c.loop-i-test.true ∙ ap v (sym c.index-pixels-i.is)) ∙ long)
    ]
