-- Of `Finder::first`: what it answers, and that the invariant of its loop holds at first and stays.
use Rattle.std.proofs.Common.{◌≡◌, ◌≢◌, ◌-◌, ◌∷◌, [], length, map, true, false, None, refl, arith, sym, ap, ◌∙◌, subst}
use Rattle.std.proofs.lemmas.List.{length-map, get_or-map}
use Rattle.std.specs.Prelude.{slice_index_or}
use Rattle.pix_table.specs.quantization.Quantization.{same_color}
use Rattle.pix_table.specs.matching.Nearest as nearest
use Rattle.pix_table.specs.threshold.PaletteMatch.{color_difference, difference_to}
use Rattle.pix_palette.specs.Palette.{numbers}
use Rattle.pix_palette.specs.Finder.{place, place_at, IsLatest}
use Rattle.pix_palette.proofs.Finders.{IsFoundFrom, found_first, found_here, found_elsewhere, found_of_all, same_difference, other_difference, same_by}
use Rattle.pix_palette.proofs.palette.finder.Finder.first.Goals as goal
use Rattle.pix_palette.proofs.palette.finder.Finder.first.Goals.{then-eq, else-eq}

-- the entry before number `at`, and the one before that of its place
pub loop-at-init : goal.loop-at-init
loop-at-init c =
    let latest : IsLatest place (map numbers c.args.colors.now) c.place_of.result (length c.args.self.now.lists.earlier.items) c.index-at.result.now =
    subst (IsLatest place (map numbers c.args.colors.now) c.place_of.result (length c.args.self.now.lists.earlier.items)) (sym c.index-at.ensures)
    (c.requires.lists.last c.place_of.result c.index-at.result.now (omega (arith, c.requires.whole.made, c.place_of.ensures.below))) in
    record {
      color = c.color-color.ensures;
      within = omega (arith, latest.within, c.requires.whole.all);
      placed = λ some. latest.placed some ∙ c.place_of.ensures.place;
      found = subst (λ n. IsFoundFrom (map numbers c.args.colors.now) (numbers c.args.clr) c.index-at.result.now n None) c.requires.whole.all
          (found_first (map numbers c.args.colors.now) (numbers c.args.clr) c.place_of.result _ _ c.place_of.ensures.place latest);
    }

pub bounds-colors-i : goal.bounds-colors-i
bounds-colors-i c = omega (arith, c.loop-at.invariant.within, length-map c.args.colors.now numbers)

pub index-at-requires-in-loop-at : goal.index-at-requires-in-loop-at
index-at-requires-in-loop-at c = omega (arith, c.loop-at.invariant.within, c.requires.whole.all)

pub loop-at-smaller : goal.loop-at-smaller
loop-at-smaller c =
    let i = c.loop-at.at - 1 in
    let latest : IsLatest place (map numbers c.args.colors.now) (place_at place (map numbers c.args.colors.now) i) i c.index-at-in-loop-at.result.now =
    subst (IsLatest place (map numbers c.args.colors.now) (place_at place (map numbers c.args.colors.now) i) i) (sym c.index-at-in-loop-at.ensures)
    (c.requires.lists.before i c.index-at-in-loop-at.result.now (omega (arith, c.loop-at.invariant.within, c.requires.whole.all))) in
    omega (arith, latest.within, c.loop-at-test.true)

pub loop-at-preserved : goal.loop-at-preserved
loop-at-preserved c =
    let colors = map numbers c.args.colors.now in
    let color = numbers c.args.clr in
    let i = c.loop-at.at - 1 in
    let some = c.loop-at-test.true in
    let within = c.loop-at.invariant.within in
    let placed = c.loop-at.invariant.placed some in
    let latest : IsLatest place colors (place_at place colors i) i c.index-at-in-loop-at.result.now =
    subst (IsLatest place colors (place_at place colors i) i) (sym c.index-at-in-loop-at.ensures)
    (c.requires.lists.before i c.index-at-in-loop-at.result.now (omega (arith, c.loop-at.invariant.within, c.requires.whole.all))) in
    let entry : nearest.numbers c.color.result ≡ slice_index_or colors i [] =
    c.color.ensures ∙ ap numbers c.index-colors-i.is ∙ sym (get_or-map numbers c.args.colors.now i c.index-colors-i.result []
    (omega (arith, c.loop-at.invariant.within, length-map c.args.colors.now numbers))) in
    record {
      color = c.loop-at.invariant.color;
      within = omega (arith, latest.within, c.loop-at.invariant.within);
      placed = λ more. latest.placed more ∙ placed;
      found = elim c.if-eq.branch [
        | then-eq w ↦
            let same : same_color (nearest.numbers c.color.result) (nearest.numbers c.color-color.result) ≡ true =
            same_by c.color.result.red c.color.result.green c.color.result.blue c.color-color.result.red c.color-color.result.green c.color-color.result.blue true (sym c.eq.ensures ∙ w.if-eq.true) in
            let none : difference_to colors color i ≡ 0 ∷ 0 ∷ 0 ∷ [] =
            subst (λ q. color_difference (slice_index_or colors i []) q ≡ 0 ∷ 0 ∷ 0 ∷ []) c.loop-at.invariant.color
            (subst (λ p. color_difference p (nearest.numbers c.color-color.result) ≡ 0 ∷ 0 ∷ 0 ∷ []) entry (same_difference (nearest.numbers c.color.result) (nearest.numbers c.color-color.result) same)) in
            rw (w.found-is) (found_here colors color c.loop-at.at _ _ some within placed latest none)
        | else-eq w ↦
            let other : same_color (nearest.numbers c.color.result) (nearest.numbers c.color-color.result) ≡ false =
            same_by c.color.result.red c.color.result.green c.color.result.blue c.color-color.result.red c.color-color.result.green c.color-color.result.blue false (sym c.eq.ensures ∙ w.if-eq.false) in
            let differs : difference_to colors color i ≢ 0 ∷ 0 ∷ 0 ∷ [] =
            subst (λ q. color_difference (slice_index_or colors i []) q ≢ 0 ∷ 0 ∷ 0 ∷ []) c.loop-at.invariant.color
            (subst (λ p. color_difference p (nearest.numbers c.color-color.result) ≢ 0 ∷ 0 ∷ 0 ∷ []) entry (other_difference (nearest.numbers c.color.result) (nearest.numbers c.color-color.result) other)) in
            rw (w.found-is) (found_elsewhere colors color c.loop-at.at _ _ c.loop-at.found some within placed latest differs c.loop-at.invariant.found)
      ];
    }

pub returns : goal.returns
returns c =
    found_of_all (map numbers c.args.colors.now) (numbers c.args.clr) _ c.loop-at.at c.loop-at.found refl (omega arith) c.loop-at.invariant.found
