-- Of `levels`: that the invariant of its loop over `i` holds at first and after each turn.
use Rattle.std.proofs.Common.{◌≡◌, ◌<◌, [], length, map, get_or, ap, sym, ◌∙◌, arith}
use Rattle.std.specs.Prelude.{slice_index}
use Rattle.std.proofs.lemmas.List.{length-map, get_or-map}
use Rattle.pix_table.proofs.lemmas.diffuse.ErrorBounds.{none_marked, one_marked}
use Rattle.pix_table.proofs.diffuse.error_bound.levels.Goals as goal

pub loop-i-init : goal.loop-i-init
loop-i-init g c = record { marked = none_marked (map g.C.ShownAs.shown c.args.entries.now) c.args.channel }

pub loop-i-preserved : goal.loop-i-preserved
loop-i-preserved g c =
    let f = g.C.ShownAs.shown in
    let e = c.index-entries-i.result in
    let inside : c.loop-i.i < length c.args.entries.now = omega (arith, c.loop-i-test.true) in
    let entry : g.S.DiffusedColor.spread c.shown.result ≡ get_or (map g.C.ShownAs.shown c.args.entries.now) c.loop-i.i [] =
    c.shown.ensures ∙ ap f c.index-entries-i.is ∙ sym (get_or-map f c.args.entries.now c.loop-i.i e [] inside) in
    let is : c.from.result ≡ slice_index (get_or (map g.C.ShownAs.shown c.args.entries.now) c.loop-i.i []) c.args.channel =
    c.from.ensures ∙ c.number.ensures ∙ ap (λ l. slice_index l c.args.channel) entry in
    record {
      marked = one_marked (map g.C.ShownAs.shown c.args.entries.now) c.args.channel c.loop-i.i c.from.result c.loop-i.is_level
          (omega (arith, inside, length-map c.args.entries.now f)) is (omega (arith, c.from.ensures)) c.loop-i.invariant.marked;
    }
