-- Of `cut`: the clauses `even` and `odd`, and that its numbers fit.
use Rattle.std.proofs.Common.{◌++◌, ap, List, ℕ, map, refl, subst, sym, w8, Fits}
use lib.Lanes.{Each1, pick_l}
use Rattle.std.specs.List.{range_with_len}
use Rattle.pix_chan.proofs.Lanes.{same}
use Rattle.pix_chan.proofs.Planes.{low, high, lows, highs, Each1-joined, Each1-picked, Each1-of_pairs}
use Rattle.pix_chan.proofs.chan.bits8.planes.cut.Goals as goal

-- the lanes of both in order
abbrev all : List ℕ → List ℕ → List ℕ
all a b = pick_l 0 (a ++ b) (range_with_len 0 32)

fits : (a b : List ℕ) → Each1 (Fits w8) a → Each1 (Fits w8) b → Each1 (Fits w8) (all a b)
fits a b f g = Each1-picked (a ++ b) (range_with_len 0 32) (Each1-joined a b f g)

pub overflow_cast-result : goal.overflow_cast-result
overflow_cast-result c =
    let f = fits c.args.a c.args.b c.fits-a.1 c.fits-b.1 in
    subst (Each1 (Fits w8)) (sym (lows 16 (all c.args.a c.args.b) refl f)) (Each1-of_pairs low (λ x y p q. p) (all c.args.a c.args.b) f)

pub overflow_cast-result-2 : goal.overflow_cast-result-2
overflow_cast-result-2 c =
    let f = fits c.args.a c.args.b c.fits-a.1 c.fits-b.1 in
    subst (Each1 (Fits w8)) (sym (highs 16 (all c.args.a c.args.b) refl f)) (Each1-of_pairs high (λ x y p q. q) (all c.args.a c.args.b) f)

pub returns-clause-even : goal.returns-clause-even
returns-clause-even c = ap (map same) (lows 16 (all c.args.a c.args.b) refl (fits c.args.a c.args.b c.fits-a.1 c.fits-b.1))

pub returns-clause-odd : goal.returns-clause-odd
returns-clause-odd c = ap (map same) (highs 16 (all c.args.a c.args.b) refl (fits c.args.a c.args.b c.fits-a.1 c.fits-b.1))
