-- Of `add_item_words`: that the words are those of one item more after each turn.
use Rattle.std.proofs.Common.{◌≤◌, ◌+◌, All, arith, ap, length, subst, sym, take}
use Rattle.std.proofs.lemmas.List.Elements.{All-nil}
use Rattle.pix_table.specs.matching.Nearest.{numbers}
use Rattle.pix_table.specs.quantization.BestPlaces.{AreBytes, AreWords}
use Rattle.pix_table.specs.quantization.Items.{pair_items, spread}
use Rattle.pix_table.proofs.lemmas.quantization.ColorItems.{items_all, spread_bytes, spread_next, spread_room}
use Rattle.pix_table.proofs.quantization.color_items.add_item_words.Goals as goal

pub loop-i-init : goal.loop-i-init
loop-i-init c =
    let r = c.requires in
    record { reds = r.red_none; greens = r.green_none; blues = r.blue_none; bytes = All-nil AreBytes }

pub add_word-requires-clause-words : goal.add_word-requires-clause-words
add_word-requires-clause-words c =
    let h = c.loop-i.invariant in
    let x = c.item_at-count.result in
    let room : length (spread 3 (take c.loop-i.i (pair_items numbers c.args.items.now))) + c.item_at-count.result.1 ≤ 65535 =
    omega (arith, c.requires.few, spread_room c.args.items.now c.loop-i.i x.1 x.0 c.loop-i-test.true c.item_at-count.ensures) in
    (spread 3 (take c.loop-i.i (pair_items numbers c.args.items.now)), h.reds, h.bytes, room)

pub add_word-requires-in-loop-i-clause-words : goal.add_word-requires-in-loop-i-clause-words
add_word-requires-in-loop-i-clause-words c =
    let h = c.loop-i.invariant in
    let x = c.item_at-count.result in
    let room : length (spread 3 (take c.loop-i.i (pair_items numbers c.args.items.now))) + c.item_at-count.result.1 ≤ 65535 =
    omega (arith, c.requires.few, spread_room c.args.items.now c.loop-i.i x.1 x.0 c.loop-i-test.true c.item_at-count.ensures) in
    (spread 3 (take c.loop-i.i (pair_items numbers c.args.items.now)), h.greens, h.bytes, room)

pub add_word-requires-in-loop-i-2-clause-words : goal.add_word-requires-in-loop-i-2-clause-words
add_word-requires-in-loop-i-2-clause-words c =
    let h = c.loop-i.invariant in
    let x = c.item_at-count.result in
    let room : length (spread 3 (take c.loop-i.i (pair_items numbers c.args.items.now))) + c.item_at-count.result.1 ≤ 65535 =
    omega (arith, c.requires.few, spread_room c.args.items.now c.loop-i.i x.1 x.0 c.loop-i-test.true c.item_at-count.ensures) in
    (spread 3 (take c.loop-i.i (pair_items numbers c.args.items.now)), h.blues, h.bytes, room)

pub loop-i-preserved : goal.loop-i-preserved
loop-i-preserved c =
    let h = c.loop-i.invariant in
    let x = c.item_at-count.result in
    let before = spread 3 (take c.loop-i.i (pair_items numbers c.args.items.now)) in
    let grown = spread_next c.args.items.now c.loop-i.i x.1 x.0 c.loop-i-test.true c.item_at-count.ensures in
    record {
      reds = subst (λ l. AreWords 0 l c.add_word.new.words) (sym grown) (c.add_word.ensures.words before h.reds);
      greens = subst (λ l. AreWords 1 l c.add_word-in-loop-i.new.words) (sym grown) (c.add_word-in-loop-i.ensures.words before h.greens);
      blues = subst (λ l. AreWords 2 l c.add_word-in-loop-i-2.new.words) (sym grown) (c.add_word-in-loop-i-2.ensures.words before h.blues);
      bytes = spread_bytes c.args.items.now c.loop-i.i x.1 x.0 c.loop-i-test.true c.item_at-count.ensures h.bytes c.add_word.ensures.bytes;
    }

pub returns : goal.returns
returns c =
    let h = c.loop-i.invariant in
    let all = ap (spread 3) (items_all c.args.items.now c.loop-i.i (omega arith)) in
    record {
      reds = subst (λ l. AreWords 0 l c.loop-i.reds) all h.reds;
      greens = subst (λ l. AreWords 1 l c.loop-i.greens) all h.greens;
      blues = subst (λ l. AreWords 2 l c.loop-i.blues) all h.blues;
      bytes = subst (All AreBytes) all h.bytes;
    }
