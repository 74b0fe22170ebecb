-- Of `best_of_many`: that the sums are those of no colors at first, and of the colors then.
use Rattle.std.proofs.Common.{ℕ, List, arith, get_or}
use Rattle.pix_table.specs.matching.Nearest.{numbers}
use Rattle.pix_table.specs.quantization.BestPlaces.{AreByValue}
use Rattle.pix_table.specs.quantization.Items.{pair_items, spread}
use Rattle.pix_table.specs.declared.quantization.box_sums.Sums.{Sums}
use Rattle.pix_table.proofs.lemmas.quantization.ColorItems.{colors_fit, known}
use Rattle.pix_table.proofs.lemmas.quantization.PlaceSteps.{none_first}
use Rattle.pix_table.proofs.lemmas.quantization.PartedSums.{parted_none}
use Rattle.pix_table.proofs.quantization.color_items.best_of_many.Goals as goal

pub add_items-requires-clause-red_none : goal.add_items-requires-clause-red_none
add_items-requires-clause-red_none c =
    let e = c.none-reds.ensures in
    parted_none (λ x. get_or x 0 0) 256 c.none-reds.result e.count e.red e.green e.blue

pub add_items-requires-clause-green_none : goal.add_items-requires-clause-green_none
add_items-requires-clause-green_none c =
    let e = c.none-reds.ensures in
    parted_none (λ x. get_or x 1 0) 256 c.none-reds.result e.count e.red e.green e.blue

pub add_items-requires-clause-blue_none : goal.add_items-requires-clause-blue_none
add_items-requires-clause-blue_none c =
    let e = c.none-reds.ensures in
    parted_none (λ x. get_or x 2 0) 256 c.none-reds.result e.count e.red e.green e.blue

abbrev by_value : List Sums → ℕ → List (List ℕ) → Type 0
by_value parts k box = AreByValue k box parts

pub total-all-requires : goal.total-all-requires
total-all-requires c =
    let are = c.add_items.ensures in
    (spread 3 (pair_items numbers c.args.items.now), are.reds, are.bytes, colors_fit c.args.items.now c.requires.few)

pub best_in-best-requires-clause-sums : goal.best_in-best-requires-clause-sums
best_in-best-requires-clause-sums c =
    let are = c.add_items.ensures in
    let box = spread 3 (pair_items numbers c.args.items.now) in
    let all = c.total-all.ensures box are.reds are.bytes in
    (box, known c.args.items.now c.requires.some c.requires.fit are.bytes by_value _ 0 0 _ (λ j d inside. omega arith) are.reds all)

pub best_in-best-requires-2-clause-sums : goal.best_in-best-requires-2-clause-sums
best_in-best-requires-2-clause-sums c =
    let are = c.add_items.ensures in
    let box = spread 3 (pair_items numbers c.args.items.now) in
    let all = c.total-all.ensures box are.reds are.bytes in
    (box, known c.args.items.now c.requires.some c.requires.fit are.bytes by_value _ 1 0 _ (λ j d inside. omega arith) are.greens all)

pub best_in-requires-clause-sums : goal.best_in-requires-clause-sums
best_in-requires-clause-sums c =
    let are = c.add_items.ensures in
    let box = spread 3 (pair_items numbers c.args.items.now) in
    let all = c.total-all.ensures box are.reds are.bytes in
    (box, known c.args.items.now c.requires.some c.requires.fit are.bytes by_value _ 2 0 _ (λ j d inside. omega arith) are.blues all)

pub returns : goal.returns
returns c =
    let are = c.add_items.ensures in
    let box = spread 3 (pair_items numbers c.args.items.now) in
    let all = c.total-all.ensures box are.reds are.bytes in
    let of = known c.args.items.now c.requires.some c.requires.fit are.bytes by_value in
    c.best_in.ensures box (of _ 2 0 _ (λ j d inside. omega arith) are.blues all)
    (c.best_in-best-2.ensures box (of _ 1 0 _ (λ j d inside. omega arith) are.greens all) (c.best_in-best.ensures box (of _ 0 0 _ (λ j d inside. omega arith) are.reds all) (none_first 3 box)))
