-- Of `least_of`: that no number is below it after each turn.
use Rattle.std.proofs.Common.{◌≤◌, All, arith, ap, get_or, subst}
use Rattle.std.proofs.lemmas.List.Elements.{All-nil}
use Rattle.pix_table.specs.quantization.Items.{spread}
use Rattle.pix_table.proofs.lemmas.quantization.ColorItems.{items_all, least_next}
use Rattle.pix_table.proofs.quantization.color_items.least_of.Goals as goal

pub loop-i-init : goal.loop-i-init
loop-i-init c = record {
  red = All-nil (λ color. 255 ≤ get_or color 0 0);
  green = All-nil (λ color. 255 ≤ get_or color 1 0);
  blue = All-nil (λ color. 255 ≤ get_or color 2 0);
}

pub loop-i-preserved : goal.loop-i-preserved
loop-i-preserved c =
    let h = c.loop-i.invariant in
    let x = c.item_at.result in
    let old = c.loop-i.least in
    let next = least_next c.args.items.now c.loop-i.i x.1 x.0 c.loop-i-test.true c.item_at.ensures in
    record {
      red = next 0 old.red c.min.result (omega (arith, c.min.ensures)) (omega (arith, c.min.ensures)) h.red;
      green = next 1 old.green c.min-in-loop-i.result (omega (arith, c.min-in-loop-i.ensures)) (omega (arith, c.min-in-loop-i.ensures)) h.green;
      blue = next 2 old.blue c.min-in-loop-i-2.result (omega (arith, c.min-in-loop-i-2.ensures)) (omega (arith, c.min-in-loop-i-2.ensures)) h.blue;
    }

pub returns : goal.returns
returns c =
    let h = c.loop-i.invariant in
    let all = ap (spread 3) (items_all c.args.items.now c.loop-i.i (omega arith)) in
    record {
      red = subst (All (λ color. c.loop-i.least.red ≤ get_or color 0 0)) all h.red;
      green = subst (All (λ color. c.loop-i.least.green ≤ get_or color 1 0)) all h.green;
      blue = subst (All (λ color. c.loop-i.least.blue ≤ get_or color 2 0)) all h.blue;
    }
