-- Of `put_out_all`: that the invariant of its loop stays, and that at last no color is counted.
use Rattle.std.proofs.Common.{◌≡◌, drop, refl, arith, ap}
use Rattle.std.proofs.lemmas.List.{drop_all}
use Rattle.pix_table.specs.quantization.Items.{counted_sum}
use Rattle.pix_table.specs.declared.quantization.items.ColorCount.{ColorCount}
use Rattle.pix_table.proofs.lemmas.quantization.ItemSums.{counted_next}
use Rattle.pix_table.proofs.quantization.items.put_out_all.Goals as goal

abbrev none : ColorCount
none = record { key = 0; count = 0 }

pub loop-i-init : goal.loop-i-init
loop-i-init g c = record { room = c.requires; items = λ f. refl }

pub put_item-all-requires : goal.put_item-all-requires
put_item-all-requires g c =
    omega (arith, c.loop-i.invariant.room, counted_next g.C.Counted.key_parts (λ q. 1) c.args.counts.now c.loop-i.i none c.loop-i-test.true)

pub loop-i-preserved : goal.loop-i-preserved
loop-i-preserved g c = record {
  room = omega (arith, c.loop-i.invariant.room, c.put_item-all.ensures.room, c.put_item-all.auto.colors, counted_next g.C.Counted.key_parts (λ q. 1) c.args.counts.now c.loop-i.i none c.loop-i-test.true);
  items = λ f. omega (arith, c.loop-i.invariant.items f, c.put_item-all.ensures.items f, counted_next g.C.Counted.key_parts f c.args.counts.now c.loop-i.i none c.loop-i-test.true);
}

pub returns-clause-room : goal.returns-clause-room
returns-clause-room g c = omega (arith, c.loop-i.invariant.room)

pub returns-clause-items : goal.returns-clause-items
returns-clause-items g c = λ f.
    let none : counted_sum g.C.Counted.key_parts f (drop c.loop-i.i c.args.counts.now) ≡ 0 =
    ap (counted_sum g.C.Counted.key_parts f) (drop_all c.loop-i.i c.args.counts.now c.loop-i-test.false) in
    omega (arith, c.loop-i.invariant.items f, none)
