-- Of `index_of`: that the pixel of its place is the same, or that the index is searched for and kept.
use Rattle.std.proofs.Common.{◌≡◌, ◌/◌, ◌<◌, arith, ap, get_or, length, subst, sym, ◌∙◌}
use Rattle.std.proofs.lemmas.List.Elements.{All-set}
use Rattle.std.proofs.Math.Nat.{div-mul-le_self}
use Rattle.pix_table.specs.matching.Nearest.{IsNearestBy}
use Rattle.pix_table.specs.SeenPixels.{seen, seen_distance, seen_numbers}
use Rattle.pix_table.specs.quantization.SeenGroups.{seen_key_numbers}
use Rattle.pix_table.specs.declared.rgba.matched.MatchedPixel.{MatchedPixel}
use Rattle.pix_table.proofs.rgba.matched.index_of.Goals as goal

abbrev clear : MatchedPixel
clear = record { key = 0; index = 0 }

pub returns-then-place-key-clause-nearest : goal.returns-then-place-key-clause-nearest
returns-then-place-key-clause-nearest g c = λ entries are places.
    let place : MatchedPixel = get_or c.args.places.now (c.place_of-at.result / 4) clear in
    let small : c.place_of-at.result / 4 < length c.args.places.now =
    omega (arith, c.requires.many, div-mul-le_self c.place_of-at.result 4, c.place_of-at.ensures) in
    let pixel : seen (seen_key_numbers place.key) ≡ seen (g.P.TablePixel.values c.args.pixel) =
    ap (λ k. seen (seen_key_numbers k)) c.if-place-key.true ∙ ap seen c.key_of-key.ensures in
    subst (λ l. IsNearestBy seen_distance entries l place.index) pixel (places (c.place_of-at.result / 4) clear small)

pub returns-clause-nearest : goal.returns-clause-nearest
returns-clause-nearest g c = λ entries are places.
    subst (λ l. IsNearestBy seen_distance entries l c.nearest_by_cell-index.result) c.seen_of.ensures.numbers (c.nearest_by_cell-index.ensures entries are)

pub returns-clause-places : goal.returns-clause-places
returns-clause-places g c = λ entries are places.
    let pixel : seen_numbers c.seen_of.result ≡ seen (seen_key_numbers c.key_of-key.result) = c.seen_of.ensures.numbers ∙ ap seen (sym c.key_of-key.ensures) in
    All-set (λ p. IsNearestBy seen_distance entries (seen (seen_key_numbers p.key)) p.index) _ _ _
    (subst (λ l. IsNearestBy seen_distance entries l c.nearest_by_cell-index.result) pixel (c.nearest_by_cell-index.ensures entries are)) places
