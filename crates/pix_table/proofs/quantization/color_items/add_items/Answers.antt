-- Of `add_items`: that a block of items fits, and that the sums are those of its colors too after each turn.
use Rattle.std.proofs.Common.{All, arith, ap, subst, sym, take}
use Rattle.std.proofs.lemmas.List.Elements.{All-append, All-nil}
use Rattle.pix_table.specs.matching.Nearest.{numbers}
use Rattle.pix_table.specs.quantization.BestPlaces.{AreByValue, AreBytes}
use Rattle.pix_table.specs.quantization.Items.{pair_items, spread}
use Rattle.pix_table.proofs.lemmas.quantization.ColorItems.{block, block_few, block_fits, block_grown, block_within, block_words, items_all}
use Rattle.pix_table.proofs.lemmas.quantization.WordLemmas.{words_none}
use Rattle.pix_table.proofs.quantization.color_items.add_items.Goals as goal

pub loop-start-init : goal.loop-start-init
loop-start-init c =
    let r = c.requires in
    record { within = omega arith; reds = r.red_none; greens = r.green_none; blues = r.blue_none; bytes = All-nil AreBytes }

pub add_item_words-requires-clause-few : goal.add_item_words-requires-clause-few
add_item_words-requires-clause-few c =
    let e = c.block_len.ensures in block_few c.args.items.now c.loop-start.start c.block_len.result e.within e.few

pub add_item_words-requires-clause-red_none : goal.add_item_words-requires-clause-red_none
add_item_words-requires-clause-red_none c = words_none 0

pub add_item_words-requires-clause-green_none : goal.add_item_words-requires-clause-green_none
add_item_words-requires-clause-green_none c = words_none 1

pub add_item_words-requires-clause-blue_none : goal.add_item_words-requires-clause-blue_none
add_item_words-requires-clause-blue_none c = words_none 2

pub add_block-requires-clause-boxes : goal.add_block-requires-clause-boxes
add_block-requires-clause-boxes c =
    let xs = c.args.items.now in
    let e = c.block_len.ensures in
    let w = c.add_item_words.ensures in
    let h = c.loop-start.invariant in
    let i = c.loop-start.start in
    let n = c.block_len.result in
    let few = block_few xs i n e.within e.few in
    let before = spread 3 (take i (pair_items numbers xs)) in
    let added = spread 3 (pair_items numbers (block xs i n e.within)) in (
      before,
      added,
      block_words (block xs i n e.within) 0 c.add_item_words.new.reds few w.bytes w.reds,
      h.reds,
      h.bytes,
      block_fits xs i n e.within c.requires.few,
    )

pub add_block-requires-in-loop-start-clause-boxes : goal.add_block-requires-in-loop-start-clause-boxes
add_block-requires-in-loop-start-clause-boxes c =
    let xs = c.args.items.now in
    let e = c.block_len.ensures in
    let w = c.add_item_words.ensures in
    let h = c.loop-start.invariant in
    let i = c.loop-start.start in
    let n = c.block_len.result in
    let few = block_few xs i n e.within e.few in
    let before = spread 3 (take i (pair_items numbers xs)) in
    let added = spread 3 (pair_items numbers (block xs i n e.within)) in (
      before,
      added,
      block_words (block xs i n e.within) 1 c.add_item_words.new.greens few w.bytes w.greens,
      h.greens,
      h.bytes,
      block_fits xs i n e.within c.requires.few,
    )

pub add_block-requires-in-loop-start-2-clause-boxes : goal.add_block-requires-in-loop-start-2-clause-boxes
add_block-requires-in-loop-start-2-clause-boxes c =
    let xs = c.args.items.now in
    let e = c.block_len.ensures in
    let w = c.add_item_words.ensures in
    let h = c.loop-start.invariant in
    let i = c.loop-start.start in
    let n = c.block_len.result in
    let few = block_few xs i n e.within e.few in
    let before = spread 3 (take i (pair_items numbers xs)) in
    let added = spread 3 (pair_items numbers (block xs i n e.within)) in (
      before,
      added,
      block_words (block xs i n e.within) 2 c.add_item_words.new.blues few w.bytes w.blues,
      h.blues,
      h.bytes,
      block_fits xs i n e.within c.requires.few,
    )

pub loop-start-preserved : goal.loop-start-preserved
loop-start-preserved c =
    let xs = c.args.items.now in
    let e = c.block_len.ensures in
    let w = c.add_item_words.ensures in
    let h = c.loop-start.invariant in
    let i = c.loop-start.start in
    let n = c.block_len.result in
    let few = block_few xs i n e.within e.few in
    let before = spread 3 (take i (pair_items numbers xs)) in
    let added = spread 3 (pair_items numbers (block xs i n e.within)) in
    let grown = sym (block_grown xs i n e.within) in
    record {
      within = block_within xs i n e.within h.within;
      reds = subst (λ l. AreByValue 0 l c.add_block.new.parts) grown
          (c.add_block.ensures before added (block_words (block xs i n e.within) 0 c.add_item_words.new.reds few w.bytes w.reds) h.reds);
      greens = subst (λ l. AreByValue 1 l c.add_block-in-loop-start.new.parts) grown
          (c.add_block-in-loop-start.ensures before added (block_words (block xs i n e.within) 1 c.add_item_words.new.greens few w.bytes w.greens) h.greens);
      blues = subst (λ l. AreByValue 2 l c.add_block-in-loop-start-2.new.parts) grown
          (c.add_block-in-loop-start-2.ensures before added (block_words (block xs i n e.within) 2 c.add_item_words.new.blues few w.bytes w.blues) h.blues);
      bytes = subst (All AreBytes) grown (All-append AreBytes before added h.bytes w.bytes);
    }

pub returns : goal.returns
returns c =
    let h = c.loop-start.invariant in
    let all = ap (spread 3) (items_all c.args.items.now c.loop-start.start (omega arith)) in
    record {
      reds = subst (λ l. AreByValue 0 l c.loop-start.reds) all h.reds;
      greens = subst (λ l. AreByValue 1 l c.loop-start.greens) all h.greens;
      blues = subst (λ l. AreByValue 2 l c.loop-start.blues) all h.blues;
      bytes = subst (All AreBytes) all h.bytes;
    }
