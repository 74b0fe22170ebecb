use Rattle.std.proofs.Common.{◌≡◌, ◌∙◌, ℕ, List, ◌++◌, ◌+◌, ◌-◌, ◌%◌, ◌^◌, map, replicate, cond, leb, ap, refl, get_or}
use mir.Syntax.{w16}
use mir.Val.{hbits, bits}
use lib.Lanes.{zip2, pick_l, sel_l, top}
use Rattle.pix_chan.specs.LaneQuotients.{alphas_in, parts, for_each_channel}
use Rattle.pix_chan.proofs.LaneQuotients.{divided_are, alphas_fit, lower_fit, firsts_of, seconds_of, thirds_of}
use Rattle.pix_chan.proofs.quotients16.lanes.divided_by.Goals as goal

-- a lane of each pixel, for each of its channels
abbrev spread : ℕ → List ℕ → List ℕ
spread k lanes = pick_l 0 (lanes ++ lanes) (for_each_channel k (4 + k) (8 + k) (12 + k))

pub returns : goal.returns
returns c = λ f divide same.
    let x : List ℕ = c.args.x in
    let alphas : List ℕ = alphas_in x in
    let ys : List ℕ = map (λ a. f a % 2 ^ 48) alphas in
    let of : ℕ → List ℕ = λ k. parts (f (get_or x k 0)) in
    let part : (k : ℕ) → spread k c.args.r ≡ spread k (of 3 ++ (of 7 ++ (of 11 ++ of 15))) = λ k. ap (spread k) same in
    let made = c.scaled.ensures ys refl (lower_fit f alphas) (part 0 ∙ firsts_of f alphas) (part 1 ∙ seconds_of f alphas) (part 2 ∙ thirds_of f alphas) in
    ap (λ (l : List ℕ). sel_l (map (top (hbits w16)) (zip2 (λ x y. cond (leb x y) (2 ^ bits w16 - 1) 0) x (zip2 (λ x y. (x + (65536 - y)) % 65536) l (replicate 16 1)))) c.scaled.result (replicate 16 65535)) c.alphas.ensures
    ∙ divided_are f x alphas c.scaled.result c.fits-x.0 c.fits-x.1 (alphas_fit x c.fits-x.1) divide made
