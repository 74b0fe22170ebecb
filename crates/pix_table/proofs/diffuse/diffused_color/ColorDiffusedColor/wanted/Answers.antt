-- Of `wanted` of a color: the color, channel by channel.
use Rattle.std.proofs.Common.{ℕ, zero, suc, ◌≤◌, List, [], ◌∷◌, arith, ap, ap₂, ◌∙◌}
use Rattle.std.specs.Prelude.{slice_index}
use Rattle.pix_table.specs.diffuse.NearLaws.{AreBytes}
use Rattle.pix_table.specs.diffuse.Diffusion.{corrected, handed}
use Rattle.pix_table.proofs.lemmas.diffuse.Diffused.{together, in_channel}
use Rattle.pix_table.proofs.diffuse.diffused_color.ColorDiffusedColor.wanted.Goals as goal

pub returns-clause-wanted : goal.returns-clause-wanted
returns-clause-wanted g c = λ width ws gs first place near right_above.
    let scan = c.args.how.scan in
    ap₂ (λ x l. x ∷ l)
    (c.corrected.ensures (handed scan width ws first place 0) (handed scan width gs first place 0)
    (in_channel _ _ _ _ c.handed.ensures.sum (together scan ws gs width first place 0 _ _ _ _ near.left.red near.left_above.red near.above.red right_above.red))
    ∙ ap (λ n. corrected c.args.how.strength n (handed scan width ws first place 0) (handed scan width gs first place 0)) c.rgb-own.ensures.red)
    (ap₂ (λ x y. x ∷ y ∷ [])
    (c.corrected-2.ensures (handed scan width ws first place 1) (handed scan width gs first place 1)
    (in_channel _ _ _ _ c.handed-2.ensures.sum (together scan ws gs width first place 1 _ _ _ _ near.left.green near.left_above.green near.above.green right_above.green))
    ∙ ap (λ n. corrected c.args.how.strength n (handed scan width ws first place 1) (handed scan width gs first place 1)) c.rgb-own.ensures.green)
    (c.corrected-3.ensures (handed scan width ws first place 2) (handed scan width gs first place 2)
    (in_channel _ _ _ _ c.handed-3.ensures.sum (together scan ws gs width first place 2 _ _ _ _ near.left.blue near.left_above.blue near.above.blue right_above.blue))
    ∙ ap (λ n. corrected c.args.how.strength n (handed scan width ws first place 2) (handed scan width gs first place 2)) c.rgb-own.ensures.blue))

three : (color : List ℕ) → slice_index color 0 ≤ 255 → slice_index color 1 ≤ 255 → slice_index color 2 ≤ 255 → AreBytes color
three color red green blue zero few = red
three color red green blue (suc zero) few = green
three color red green blue (suc (suc zero)) few = blue
three color red green blue (suc (suc (suc c))) few = absurd (omega (arith, few))

pub returns-clause-given : goal.returns-clause-given
returns-clause-given g c =
    three (g.P.TablePixel.values c.args.pixel) (omega (arith, c.rgb-own.ensures.red)) (omega (arith, c.rgb-own.ensures.green)) (omega (arith, c.rgb-own.ensures.blue))
