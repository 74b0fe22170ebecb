-- Of `wanted` of a color that is seen: the color, channel by channel.
use Rattle.std.proofs.Common.{◌≡◌, ℕ, [], ◌∷◌, min, ap, ap₂, ◌∙◌, subst}
use Rattle.std.specs.Prelude.{slice_index}
use Rattle.pix_table.specs.SeenPixels.{AreSeen, seen}
use Rattle.pix_table.specs.diffuse.Diffusion.{corrected, handed}
use Rattle.pix_table.proofs.lemmas.diffuse.Diffused.{together, in_channel}
use Rattle.pix_table.proofs.rgba.diffuse.SeenColorDiffusedColor.wanted.Goals as goal

of_four : (a b c d e f g h : ℕ) → a ≡ e → b ≡ f → c ≡ g → d ≡ h → a ∷ b ∷ c ∷ d ∷ [] ≡ e ∷ f ∷ g ∷ h ∷ []
of_four a b c d e f g h p q r s = ap₂ (λ x l. x ∷ l) p (ap₂ (λ x l. x ∷ l) q (ap₂ (λ x y. x ∷ y ∷ []) r s))

pub returns-clause-wanted : goal.returns-clause-wanted
returns-clause-wanted g c = λ width ws gs first place near right_above.
    let scan = c.args.how.scan in
    let alpha : c.corrected-alpha.result
    ≡ corrected c.args.how.strength (slice_index (seen (g.P.TablePixel.values c.args.pixel)) 3) (handed c.args.how.scan width ws first place 3) (handed c.args.how.scan width gs first place 3) =
    c.corrected-alpha.ensures (handed scan width ws first place 3) (handed scan width gs first place 3)
    (in_channel _ _ _ _ c.handed.ensures.sum (together scan ws gs width first place 3 _ _ _ _ near.left.alpha near.left_above.alpha near.above.alpha right_above.alpha))
    ∙ ap (λ l. corrected c.args.how.strength (slice_index l 3) (handed scan width ws first place 3) (handed scan width gs first place 3)) c.seen_of-own.ensures.numbers in
    let red : c.corrected-red.result
    ≡ corrected c.args.how.strength (slice_index (seen (g.P.TablePixel.values c.args.pixel)) 0) (handed c.args.how.scan width ws first place 0) (handed c.args.how.scan width gs first place 0) =
    c.corrected-red.ensures (handed scan width ws first place 0) (handed scan width gs first place 0)
    (in_channel _ _ _ _ c.handed-2.ensures.sum (together scan ws gs width first place 0 _ _ _ _ near.left.red near.left_above.red near.above.red right_above.red))
    ∙ ap (λ l. corrected c.args.how.strength (slice_index l 0) (handed scan width ws first place 0) (handed scan width gs first place 0)) c.seen_of-own.ensures.numbers in
    let green : c.corrected-green.result
    ≡ corrected c.args.how.strength (slice_index (seen (g.P.TablePixel.values c.args.pixel)) 1) (handed c.args.how.scan width ws first place 1) (handed c.args.how.scan width gs first place 1) =
    c.corrected-green.ensures (handed scan width ws first place 1) (handed scan width gs first place 1)
    (in_channel _ _ _ _ c.handed-3.ensures.sum (together scan ws gs width first place 1 _ _ _ _ near.left.green near.left_above.green near.above.green right_above.green))
    ∙ ap (λ l. corrected c.args.how.strength (slice_index l 1) (handed scan width ws first place 1) (handed scan width gs first place 1)) c.seen_of-own.ensures.numbers in
    let blue : c.corrected-blue.result
    ≡ corrected c.args.how.strength (slice_index (seen (g.P.TablePixel.values c.args.pixel)) 2) (handed c.args.how.scan width ws first place 2) (handed c.args.how.scan width gs first place 2) =
    c.corrected-blue.ensures (handed scan width ws first place 2) (handed scan width gs first place 2)
    (in_channel _ _ _ _ c.handed-4.ensures.sum (together scan ws gs width first place 2 _ _ _ _ near.left.blue near.left_above.blue near.above.blue right_above.blue))
    ∙ ap (λ l. corrected c.args.how.strength (slice_index l 2) (handed scan width ws first place 2) (handed scan width gs first place 2)) c.seen_of-own.ensures.numbers in
    of_four _ _ _ _ _ _ _ _ (c.at_most.ensures ∙ ap₂ (λ x y. min x y) alpha red) (c.at_most-2.ensures ∙ ap₂ (λ x y. min x y) alpha green)
    (c.at_most-3.ensures ∙ ap₂ (λ x y. min x y) alpha blue) alpha

pub returns-clause-given : goal.returns-clause-given
returns-clause-given g c = subst AreSeen c.seen_of-own.ensures.numbers c.seen_of-own.ensures.seen
