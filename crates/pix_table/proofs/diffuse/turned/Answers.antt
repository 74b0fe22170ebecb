-- Of `turned`: in which direction the next row goes, and that the colors of a row are put in its order.
use Rattle.std.proofs.Common.{◌≡◌, ◌+◌, ◌-◌, ◌%◌, map, not, arith, sym, ap, ◌∙◌, subst}
use Rattle.pix_table.specs.diffuse.Diffusion.{is_back}
use Rattle.pix_table.specs.diffuse.Done.{AreLatest}
use Rattle.pix_table.proofs.lemmas.diffuse.Diffused.{on_in_row, straight_on, turned_round}
use Rattle.pix_table.proofs.lemmas.diffuse.ScanOrders.{goes_on, keeps_on, at_end, turns}
use Rattle.pix_table.proofs.diffuse.turned.Goals as goal

pub returns-then-next-gt0-clause-back : goal.returns-then-next-gt0-clause-back
returns-then-next-gt0-clause-back g c =
    c.requires.back ∙ sym (keeps_on c.args.how.scan c.args.k c.args.how.width (goes_on c.args.k c.args.how.width c.requires.row (omega (arith, c.requires.next, c.if-next-gt0.true))))

pub returns-then-next-gt0-clause-wanted : goal.returns-then-next-gt0-clause-wanted
returns-then-next-gt0-clause-wanted g c = λ ws h. on_in_row c.args.how.scan ws c.args.how.width c.args.k c.args.next _ c.requires.row c.requires.next (omega (arith, c.if-next-gt0.true)) h

pub returns-then-next-gt0-clause-found : goal.returns-then-next-gt0-clause-found
returns-then-next-gt0-clause-found g c = λ gs h. on_in_row c.args.how.scan gs c.args.how.width c.args.k c.args.next _ c.requires.row c.requires.next (omega (arith, c.if-next-gt0.true)) h

pub returns-in-LeftToRight-clause-wanted : goal.returns-in-LeftToRight-clause-wanted
returns-in-LeftToRight-clause-wanted g c = λ ws.
    subst (λ scan. AreLatest scan ws c.args.how.width (c.args.k - c.args.k % c.args.how.width) (c.args.k % c.args.how.width + 1) (map g.S.DiffusedColor.spread c.args.wanted.now)
    → AreLatest scan ws c.args.how.width (c.args.k + 1 - c.args.next) c.args.next (map g.S.DiffusedColor.spread c.args.wanted.now)) (sym c.in-LeftToRight.is)
    (straight_on ws c.args.how.width c.args.k c.args.next _ c.requires.row c.requires.next (omega (arith, c.if-next-gt0.false)))

pub returns-in-LeftToRight-clause-found : goal.returns-in-LeftToRight-clause-found
returns-in-LeftToRight-clause-found g c = λ gs.
    subst (λ scan. AreLatest scan gs c.args.how.width (c.args.k - c.args.k % c.args.how.width) (c.args.k % c.args.how.width + 1) (map g.S.DiffusedColor.spread c.args.found.now)
    → AreLatest scan gs c.args.how.width (c.args.k + 1 - c.args.next) c.args.next (map g.S.DiffusedColor.spread c.args.found.now)) (sym c.in-LeftToRight.is)
    (straight_on gs c.args.how.width c.args.k c.args.next _ c.requires.row c.requires.next (omega (arith, c.if-next-gt0.false)))

pub returns-in-Serpentine-clause-back : goal.returns-in-Serpentine-clause-back
returns-in-Serpentine-clause-back g c =
    let end : c.args.k % c.args.how.width + 1 ≡ c.args.how.width =
    at_end c.args.k c.args.how.width c.requires.row (omega (arith, c.requires.next, c.if-next-gt0.false)) in
    ap not c.requires.back
    ∙ subst (λ scan. not (is_back scan c.args.how.width c.args.k) ≡ is_back scan c.args.how.width (c.args.k + 1)) (sym c.in-Serpentine.is)
    (sym (turns c.args.k c.args.how.width c.requires.row end))

pub returns-in-Serpentine-clause-wanted : goal.returns-in-Serpentine-clause-wanted
returns-in-Serpentine-clause-wanted g c = λ ws.
    subst (λ scan. AreLatest scan ws c.args.how.width (c.args.k - c.args.k % c.args.how.width) (c.args.k % c.args.how.width + 1) (map g.S.DiffusedColor.spread c.args.wanted.now)
    → AreLatest scan ws c.args.how.width (c.args.k + 1 - c.args.next) c.args.next (map g.S.DiffusedColor.spread c.reverse.new.self)) (sym c.in-Serpentine.is)
    (turned_round g.S.DiffusedColor.spread ws c.args.how.width c.args.k c.args.next c.args.wanted.now c.reverse.new.self c.requires.row c.requires.next
    (omega (arith, c.if-next-gt0.false)) c.requires.wanted c.reverse.ensures.after)

pub returns-in-Serpentine-clause-found : goal.returns-in-Serpentine-clause-found
returns-in-Serpentine-clause-found g c = λ gs.
    subst (λ scan. AreLatest scan gs c.args.how.width (c.args.k - c.args.k % c.args.how.width) (c.args.k % c.args.how.width + 1) (map g.S.DiffusedColor.spread c.args.found.now)
    → AreLatest scan gs c.args.how.width (c.args.k + 1 - c.args.next) c.args.next (map g.S.DiffusedColor.spread c.reverse-in-Serpentine.new.self)) (sym c.in-Serpentine.is)
    (turned_round g.S.DiffusedColor.spread gs c.args.how.width c.args.k c.args.next c.args.found.now c.reverse-in-Serpentine.new.self c.requires.row c.requires.next
    (omega (arith, c.if-next-gt0.false)) c.requires.found c.reverse-in-Serpentine.ensures.after)
