-- Of `ThresholdSearch::follow_cells`: that it follows where memory is refused, and that the invariant of its
-- loop over `i` holds at first and stays.
use Rattle.std.proofs.Common.{◌≡◌, [], length, map, get_or, refl, sym, ap, ◌∙◌, arith}
use Rattle.std.proofs.lemmas.List.{length-map, get_or-map}
use Rattle.pix_table.specs.matching.Nearest as nearest
use Rattle.pix_palette.specs.Palette.{numbers}
use Rattle.pix_palette.specs.Finder.{cell, place_at}
use Rattle.pix_palette.proofs.palette.threshold_search.ThresholdSearch.follow_cells.Goals as goal

pub returns-then-not-take_memory-clause-near : goal.returns-then-not-take_memory-clause-near
returns-then-not-take_memory-clause-near c = record {
  cells = c.take_memory.ensures.lists cell (map numbers c.args.colors.now) c.requires.cells;
  blocks = c.requires.blocks;
}

pub loop-i-init : goal.loop-i-init
loop-i-init c = record {
  near = record {
    cells = c.take_memory.ensures.lists cell (map numbers c.args.colors.now) c.requires.cells;
    blocks = c.requires.blocks;
  };
  made = c.if-not-take_memory.ensures.made cell (map numbers c.args.colors.now) c.requires.cells refl;
  count = omega (arith, c.len-i.ensures);
}

pub returns-then-not-add-clause-near : goal.returns-then-not-add-clause-near
returns-then-not-add-clause-near c =
    let colors = map numbers c.args.colors.now in
    let entry : get_or colors (length c.loop-i.self.cells.earlier.items) [] ≡ nearest.numbers c.color.result =
    ap (λ k. get_or colors k []) c.loop-i.invariant.count
    ∙ get_or-map numbers c.args.colors.now c.loop-i.i c.index-colors-i.result [] (omega arith) ∙ sym (ap numbers c.index-colors-i.is) ∙ sym c.color.ensures in
    let at : place_at cell colors (length c.loop-i.self.cells.earlier.items) ≡ c.cell_of.result = ap cell entry ∙ sym c.cell_of.ensures.cell in
    record {
      cells = c.add.ensures.added cell colors c.loop-i.invariant.near.cells
          (omega (arith, c.loop-i.invariant.count, length-map c.args.colors.now numbers)) at;
      blocks = c.loop-i.invariant.near.blocks;
    }

pub loop-i-preserved : goal.loop-i-preserved
loop-i-preserved c =
    let colors = map numbers c.args.colors.now in
    let entry : get_or colors (length c.loop-i.self.cells.earlier.items) [] ≡ nearest.numbers c.color.result =
    ap (λ k. get_or colors k []) c.loop-i.invariant.count
    ∙ get_or-map numbers c.args.colors.now c.loop-i.i c.index-colors-i.result [] (omega arith) ∙ sym (ap numbers c.index-colors-i.is) ∙ sym c.color.ensures in
    let at : place_at cell colors (length c.loop-i.self.cells.earlier.items) ≡ c.cell_of.result = ap cell entry ∙ sym c.cell_of.ensures.cell in
    record {
      near = record {
        cells = c.add.ensures.added cell colors c.loop-i.invariant.near.cells
            (omega (arith, c.loop-i.invariant.count, length-map c.args.colors.now numbers)) at;
        blocks = c.loop-i.invariant.near.blocks;
      };
      made = c.add.ensures.made;
      count = omega (arith, c.loop-i.invariant.count, c.if-not-add.ensures.one refl);
    }
