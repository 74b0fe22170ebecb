-- Of `sums_of`: that the sums are those of no colors at first, and of one color more after each turn.
use Rattle.std.proofs.Common.{◌≡◌, ◌+◌, ◌*◌, ◌≤◌, ◌∷◌, ◌++◌, [], true, map, take, get_or, All, refl, sym, subst}
use Rattle.std.proofs.lemmas.List.{get_or_default}
use Rattle.std.proofs.lemmas.List.Elements.{All-nil, All-push}
use Rattle.pix_table.specs.matching.Nearest.{numbers}
use Rattle.pix_table.specs.quantization.BestPlaces.{AreBytes, AreSums}
use Rattle.pix_table.specs.declared.color.Color.{Color}
use Rattle.pix_table.proofs.lemmas.quantization.BoxSpans.{map_more}
use Rattle.pix_table.proofs.lemmas.quantization.BoxSumLemmas.{are_few}
use Rattle.pix_table.proofs.lemmas.quantization.PartedSums.{sums_more}
use Rattle.pix_table.proofs.quantization.box_sums.sums_of.Goals as goal

abbrev black : Color
black = record { red = 0; green = 0; blue = 0 }

pub loop-i-init : goal.loop-i-init
loop-i-init c =
    let e = c.none-sums.ensures in
    record { sums = record { count = e.count; red = e.red; green = e.green; blue = e.blue }; bytes = All-nil AreBytes }

pub loop-i-preserved : goal.loop-i-preserved
loop-i-preserved c =
    let xs = c.args.colors.now in
    let p : Color = get_or xs c.loop-i.i black in
    let read : p ≡ get_or xs c.loop-i.i p = get_or_default xs c.loop-i.i black p c.loop-i-test.true in
    let grown : map numbers (take (c.loop-i.i + 1) xs) ≡ map numbers (take c.loop-i.i xs) ++ numbers p ∷ [] =
    map_more numbers xs c.loop-i.i p c.loop-i-test.true read in
    let e = c.with-sums.ensures in
    record {
      sums = subst (λ l. AreSums (λ color. true) l c.with-sums.result) (sym grown)
          (sums_more (λ color. true) (map numbers (take c.loop-i.i xs)) p c.loop-i.sums c.with-sums.result refl c.loop-i.invariant.sums e.count e.red e.green e.blue);
      bytes = subst (All AreBytes) (sym grown) (All-push AreBytes (map numbers (take c.loop-i.i xs)) (numbers p) c.loop-i.invariant.bytes e.bytes);
    }

few : (c : goal.After-with-arg-1)
    → (c.loop-i.sums.red ≤ 255 * c.loop-i.sums.count) × (c.loop-i.sums.green ≤ 255 * c.loop-i.sums.count) × (c.loop-i.sums.blue ≤ 255 * c.loop-i.sums.count)
few c = are_few (λ color. true) (map numbers (take c.loop-i.i c.args.colors.now)) c.loop-i.sums c.loop-i.invariant.bytes c.loop-i.invariant.sums

pub with-sums-requires-clause-red : goal.with-sums-requires-clause-red
with-sums-requires-clause-red c = (few c).0

pub with-sums-requires-clause-green : goal.with-sums-requires-clause-green
with-sums-requires-clause-green c = (few c).1

pub with-sums-requires-clause-blue : goal.with-sums-requires-clause-blue
with-sums-requires-clause-blue c = (few c).2
