-- Of `pixels_made`: the clause `pixels`.
use Rattle.std.proofs.Common.{◌≡◌, ℕ, List, [], ◌∷◌, ◌++◌, length, map, sym, ◌∙◌, arith, rules}
use Rattle.std.proofs.lemmas.List.{append-nil, length-map}
use Rattle.pix_raster.proofs.raster.making.pixels_made.Goals as goal

-- where none is left, the whole is there
none_left : {S X : Type 0} (f : S → X) (made whole : List X) (left : List S) → length left ≡ 0 → made ++ map f left ≡ whole → made ≡ whole
none_left f made whole [] none so_far = sym (append-nil made) ∙ so_far
none_left f made whole (s ∷ left) none so_far = absurd (omega (arith, none))

pub returns-clause-pixels : goal.returns-clause-pixels
returns-clause-pixels g c =
    let empty : length c.loop-left.left.now ≡ 0 = search rules in
    none_left g.M.Making.made (map g.P.Pixel.numbers c.loop-left.pixels.items) (map g.M.Making.made (map g.S.Pixel.numbers c.args.src.now))
    (map g.S.Pixel.numbers c.loop-left.left.now) (length-map c.loop-left.left.now g.S.Pixel.numbers ∙ empty) c.loop-left.invariant.0
