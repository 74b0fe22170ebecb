-- Of `step_over`: that the numbers of the first color stand behind the others.
use Rattle.std.proofs.Common.{◌≡◌, ◌+◌, [], map, set, get_or, arith, sym, ap, ◌∙◌}
use Rattle.std.proofs.lemmas.List.{map-set, get_or-map}
use Rattle.pix_table.proofs.quantization.items.step_over.Goals as goal

pub returns : goal.returns
returns g c =
    let read : g.C.Counted.parts c.index-colors-at.result ≡ get_or (map g.C.Counted.parts c.args.colors.now) c.args.at [] =
    ap g.C.Counted.parts c.index-colors-at.is
    ∙ sym (get_or-map g.C.Counted.parts c.args.colors.now c.args.at c.index-colors-at.result [] (omega arith)) in
    map-set g.C.Counted.parts c.args.colors.now (c.args.at + c.args.len) c.index-colors-at.result
    ∙ ap (set (map g.C.Counted.parts c.args.colors.now) (c.args.at + c.args.len)) read
