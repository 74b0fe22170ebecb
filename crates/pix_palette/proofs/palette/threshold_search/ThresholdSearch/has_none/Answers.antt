-- Of `ThresholdSearch::has_none`: that no entry is within the threshold.
use Rattle.std.proofs.Common.{◌≡◌, length, arith}
use Rattle.std.proofs.lemmas.Bool.Decides.{nat_tests}
use Rattle.std.proofs.lemmas.List.{length-map}
use Rattle.pix_palette.specs.Palette.{numbers}
use Rattle.pix_palette.proofs.palette.threshold_search.ThresholdSearch.has_none.Goals as goal

pub returns : goal.returns
returns c = λ same k below.
    let all : c.next_near.result ≡ length c.args.colors.now = grind (arith, nat_tests) in
    c.next_near.ensures.far k (omega arith) (omega (arith, all, below, length-map c.args.colors.now numbers))
