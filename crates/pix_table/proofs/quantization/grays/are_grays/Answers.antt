-- Of `are_grays`: that the invariant of its loop over `i` holds at first and after each turn, and what it returns.
use Rattle.std.proofs.Common.{ℕ, ◌<◌, All, List, length, get_or, map, arith, subst}
use Rattle.std.proofs.lemmas.List.{get_or-map, length-map, take_all}
use Rattle.std.proofs.lemmas.List.Elements.{All-map, All-more, All-nil}
use Rattle.pix_table.specs.quantization.Grays.{AreGrays, IsGray}
use Rattle.pix_table.specs.matching.Nearest.{numbers}
use Rattle.pix_table.specs.declared.color.Color.{Color}
use Rattle.pix_table.proofs.quantization.grays.are_grays.Goals as goal

abbrev black : Color
black = record { red = 0; green = 0; blue = 0 }

gray_at : (colors : List Color) (i : ℕ) → i < length colors → AreGrays (map numbers colors) → IsGray (numbers (get_or colors i black))
gray_at colors i l all =
    subst IsGray (get_or-map numbers colors i black (numbers black) l) (all i (numbers black) (omega (arith, length-map colors numbers)))

pub loop-i-init : goal.loop-i-init
loop-i-init c = All-nil (λ (color : Color). IsGray (numbers color))

pub loop-i-preserved : goal.loop-i-preserved
loop-i-preserved c =
    All-more (λ (color : Color). IsGray (numbers color)) c.args.colors.now c.loop-i.i black c.loop-i-test.true c.loop-i.invariant c.if-not-is_gray.ensures

pub returns-then-not-is_gray : goal.returns-then-not-is_gray
returns-then-not-is_gray c = λ all. c.if-not-is_gray.ensures (gray_at c.args.colors.now c.loop-i.i c.loop-i-test.true all)

pub returns : goal.returns
returns c =
    All-map IsGray numbers c.args.colors.now
    (subst (All (λ (color : Color). IsGray (numbers color))) (take_all c.loop-i.i c.args.colors.now (omega arith)) c.loop-i.invariant)
