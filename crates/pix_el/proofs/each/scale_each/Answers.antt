use Rattle.std.proofs.Common.{◌≡◌, length, map, get_or, arith, sym, ap, ◌∙◌, refl}
use Rattle.std.proofs.lemmas.List.{length-map, map-set, get_or-map}
use Rattle.pix_el.proofs.Written.{written_none, written_more, written_all}
use Rattle.pix_el.proofs.each.scale_each.Goals as goal

pub loop-i-init : goal.loop-i-init
loop-i-init g c = written_none _ _ _

pub loop-i-preserved : goal.loop-i-preserved
loop-i-preserved g c =
    let n = g.C.Channel.number in
    let i = c.loop-i.i in
    let old = c.args.channels.now in
    let now = c.loop-i.channels in
    let long : length now ≡ length old = sym (length-map now n) ∙ c.loop-i.invariant.long ∙ length-map old n in
    let d : get_or (map n now) i g.C.Channel.max ≡ n c.index-channels-i.result =
    get_or-map n now i c.index-channels-i.result g.C.Channel.max (omega arith) ∙ ap n (sym c.index-channels-i.is) in
    rw map-set
    (written_more _ _ _ _ i (n c.scaled.result) c.loop-i.invariant (omega (arith, length-map old n)) (c.scaled.ensures ∙ rw d refl))

pub returns : goal.returns
returns g c = written_all _ _ _ _ c.loop-i.i _ c.loop-i.invariant (length-map c.args.channels.now g.C.Channel.number) (omega arith)
