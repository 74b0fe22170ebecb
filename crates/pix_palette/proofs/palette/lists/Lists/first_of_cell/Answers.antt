-- Of `Lists::first_of_cell`: that the invariant of its loop holds at first and stays, and what it
-- tells at its end.
use Rattle.std.proofs.Common.{◌≡◌, ◌-◌, [], length, map, arith, sym, ap, ◌∙◌, subst}
use Rattle.std.proofs.lemmas.List.{length-map, get_or-map}
use Rattle.std.specs.Prelude.{slice_index_or}
use Rattle.pix_table.specs.matching.Nearest as nearest
use Rattle.pix_table.specs.threshold.PaletteMatch.{color_difference, difference_to, is_within}
use Rattle.pix_palette.specs.Palette.{numbers}
use Rattle.pix_palette.specs.Finder.{IsLatest, cell, place_at}
use Rattle.pix_palette.proofs.Cells.{cell_begun, cell_far, cell_near}
use Rattle.pix_palette.proofs.palette.lists.Lists.first_of_cell.Goals as goal
use Rattle.pix_palette.proofs.palette.lists.Lists.first_of_cell.Goals.{then-is_near, else-is_near}

pub loop-at-init : goal.loop-at-init
loop-at-init c =
    let colors = map numbers c.args.colors.now in
    let latest : IsLatest cell colors c.args.place (length c.args.self.now.earlier.items) c.index.result.now =
    subst (IsLatest cell colors c.args.place (length c.args.self.now.earlier.items)) (sym c.index.ensures)
    (c.requires.lists.last c.args.place c.index.result.now (omega (arith, c.requires.whole.made, c.requires.below))) in
    record {
      within = omega (arith, latest.within, c.requires.whole.all);
      placed = λ some. latest.placed some;
      from = c.requires.from;
      end = omega arith;
      far = cell_begun colors (nearest.numbers c.args.sought.clr) (nearest.numbers c.args.sought.least) c.args.place _ _ c.args.«end» latest (omega (arith, c.requires.whole.all, length-map c.args.colors.now numbers));
    }

pub bounds-colors-i : goal.bounds-colors-i
bounds-colors-i c = omega (arith, c.loop-at.invariant.within, length-map c.args.colors.now numbers)

pub index-requires-in-loop-at : goal.index-requires-in-loop-at
index-requires-in-loop-at c = omega (arith, c.loop-at.invariant.within, c.requires.whole.all)

pub loop-at-smaller : goal.loop-at-smaller
loop-at-smaller c =
    let colors = map numbers c.args.colors.now in
    let i = c.loop-at.at - 1 in
    let latest : IsLatest cell colors (place_at cell colors i) i c.index-in-loop-at.result.now =
    subst (IsLatest cell colors (place_at cell colors i) i) (sym c.index-in-loop-at.ensures)
    (c.requires.lists.before i c.index-in-loop-at.result.now (omega (arith, c.loop-at.invariant.within, c.requires.whole.all))) in
    omega (arith, latest.within, c.loop-at-test.true)

pub loop-at-preserved : goal.loop-at-preserved
loop-at-preserved c =
    let colors = map numbers c.args.colors.now in
    let clr = nearest.numbers c.args.sought.clr in
    let least = nearest.numbers c.args.sought.least in
    let i = c.loop-at.at - 1 in
    let some = c.loop-at-test.true in
    let within = c.loop-at.invariant.within in
    let placed = c.loop-at.invariant.placed (omega (arith, some)) in
    let latest : IsLatest cell colors (place_at cell colors i) i c.index-in-loop-at.result.now =
    subst (IsLatest cell colors (place_at cell colors i) i) (sym c.index-in-loop-at.ensures)
    (c.requires.lists.before i c.index-in-loop-at.result.now (omega (arith, within, c.requires.whole.all))) in
    let entry : nearest.numbers c.color.result ≡ slice_index_or colors i [] =
    c.color.ensures ∙ ap numbers c.index-colors-i.is ∙ sym (get_or-map numbers c.args.colors.now i c.index-colors-i.result [] (omega (arith, within, length-map c.args.colors.now numbers))) in
    let test : c.is_near.result ≡ is_within (difference_to colors clr i) least =
    c.is_near.ensures ∙ ap (λ p. is_within (color_difference p clr) least) entry in
    elim c.if-is_near.branch [
      | then-is_near w ↦ record {
        within = omega (arith, latest.within, within);
        placed = λ more. latest.placed more ∙ placed;
        from = rw (w.found-is, w.min-found.ensures) (omega (arith, c.loop-at.invariant.from, some));
        end = rw (w.found-is, w.min-found.ensures) (omega (arith, c.loop-at.invariant.end));
        far = rw (w.found-is, w.min-found.ensures) (cell_near colors clr least c.args.place c.loop-at.at _ c.loop-at.found placed latest);
      }
      | else-is_near w ↦ record {
        within = omega (arith, latest.within, within);
        placed = λ more. latest.placed more ∙ placed;
        from = rw (w.found-is) c.loop-at.invariant.from;
        end = rw (w.found-is) c.loop-at.invariant.end;
        far = rw (w.found-is) (cell_far colors clr least c.args.place c.loop-at.at _ c.loop-at.found (omega (arith, some)) placed latest (sym test ∙ w.if-is_near.false) c.loop-at.invariant.far);
      }
    ]

pub returns-clause-far : goal.returns-clause-far
returns-clause-far c = λ k from below here. c.loop-at.invariant.far k (omega (arith, c.loop-at-test.false, from)) below here
