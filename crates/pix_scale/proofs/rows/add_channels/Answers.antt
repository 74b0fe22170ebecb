use Rattle.std.proofs.Common.{◌≡◌, map, get_or, arith, sym, ap, ◌∙◌}
use Rattle.std.proofs.lemmas.List.{get_or-map}
use Rattle.pix_scale.proofs.Terms.{term_small, added_none, added_more}
use Rattle.pix_scale.proofs.rows.add_channels.Goals as goal

pub overflow_mul-sums : goal.overflow_mul-sums
overflow_mul-sums g c =
    let small = term_small c.args.weight _ g.C.Channel.max (g.met.C.Channel.numbered.fits c.index-row-x.result) in
    let room = c.requires.fits c.loop-x.x (omega arith) in
    record { fits = rw c.to_u32.ensures (omega (arith, small, room)) }

pub overflow_add-sums : goal.overflow_add-sums
overflow_add-sums g c =
    let small = term_small c.args.weight _ g.C.Channel.max (g.met.C.Channel.numbered.fits c.index-row-x.result) in
    let room = c.requires.fits c.loop-x.x (omega arith) in
    let same = c.loop-x.invariant.rest c.loop-x.x (omega arith) in
    record { fits = rw c.to_u32.ensures (omega (arith, small, room, same)) }

pub loop-x-init : goal.loop-x-init
loop-x-init g c = added_none _ _

pub loop-x-preserved : goal.loop-x-preserved
loop-x-preserved g c =
    let n = g.C.Channel.number in
    let e : get_or (map n c.args.row.now) c.loop-x.x 0 ≡ c.to_u32.result =
    get_or-map n c.args.row.now c.loop-x.x c.index-row-x.result 0 (omega arith) ∙ ap n (sym c.index-row-x.is) ∙ sym c.to_u32.ensures in
    added_more _ _ _ _ _ (omega arith) c.loop-x.invariant (rw e (omega arith))

pub returns : goal.returns
returns g c = λ x lt. c.loop-x.invariant.done x (omega arith)
