-- Of `fill`: the clause `filled`, and that the invariant of its loop over `x` holds after each
-- turn.
use Rattle.std.proofs.Common.{◌≡◌, ◌+◌, ◌*◌, pos, arith, ◌∙◌, ap, rules}
use Rattle.std.proofs.lemmas.Int.{to_z_pos}
use mir.Val.{to_z}
use mir.Syntax.{w32}
use Rattle.pix.specs.Region.{Rectangle}
use Rattle.pix_uses.specs.Rgba.{numbers}
use Rattle.pix_uses.proofs.Points.{read_at, one_more_at, place_in}
use Rattle.pix_uses.proofs.pixels.fill.Goals as goal

pub loop-x-preserved : goal.loop-x-preserved
loop-x-preserved c =
    let x : to_z w32 c.loop-x.x ≡ pos c.loop-x.x = to_z_pos w32 c.loop-x.x (omega arith) in
    let y : to_z w32 c.loop-y.y ≡ pos c.loop-y.y = to_z_pos w32 c.loop-y.y (omega arith) in (
      search rules,
      search rules,
      one_more_at c.loop-x.picture.pixels c.args.clr c.pixel_mut.result.now c.loop-x.picture.width c.loop-x.x c.loop-y.y
          (to_z w32 c.loop-x.x) (to_z w32 c.loop-y.y) x y (c.pixel_mut.ensures.now c.loop-x.x c.loop-y.y x y) c.loop-x.invariant.2,
    )

pub returns-clause-filled : goal.returns-clause-filled
returns-clause-filled c = λ x y hx hy.
    let high : c.height-y-end.result ≡ c.args.picture.now.height = c.height-y-end.ensures.value ∙ ap (λ (r : Rectangle). r.height) c.region-area.ensures in
    let wide : c.loop-y.picture.width ≡ c.args.picture.now.width = c.loop-y.invariant.0 in
    read_at numbers c.loop-y.picture.pixels (y * c.loop-y.picture.width + x) c.args.clr
    (c.loop-y.invariant.2 (y * c.loop-y.picture.width + x) (place_in c.loop-y.picture.width c.loop-y.y x y (omega arith) (omega arith)))
