use Rattle.std.proofs.Common.{◌∙◌, ◌++◌, List, ℕ, map, replicate, ap, sym, subst, Fits}
use Rattle.std.proofs.lemmas.List.{map-id}
use Rattle.std.proofs.lemmas.Simd.{zip2_splat}
use mir.Syntax.{w8}
use lib.Lanes.{zip2, Each1, pick_l}
use Rattle.pix_chan.proofs.Lanes.{same, shr}
use Rattle.pix_chan.specs.Srgb16.{srgb_encoded8}
use Rattle.pix_bytes.specs.Shown.{shown_places}
use Rattle.pix_bytes.proofs.ShownFours.{encoded_fit}
use Rattle.pix_bytes.proofs.bitmap.levels.encoded.Goals as goal

pub overflow_cast-result : goal.overflow_cast-result
overflow_cast-result c =
    let places : List ℕ = shown_places c.args.is_reversed in
    let is = c.arranged.ensures ∙ ap (λ (l : List ℕ). pick_l 0 (l ++ zip2 shr c.args.channels (replicate 16 8)) places) c.encode_srgb8_lanes-levels.ensures
    ∙ ap (λ (l : List ℕ). pick_l 0 (map srgb_encoded8 c.args.straight ++ l) places) (zip2_splat shr c.args.channels 16 8 c.fits-channels.0) in
    subst (Each1 (Fits w8)) (sym is) (encoded_fit c.args.straight c.args.channels places c.fits-straight.1 c.fits-channels.1)

pub returns : goal.returns
returns c =
    let places : List ℕ = shown_places c.args.is_reversed in
    let is = c.arranged.ensures ∙ ap (λ (l : List ℕ). pick_l 0 (l ++ zip2 shr c.args.channels (replicate 16 8)) places) c.encode_srgb8_lanes-levels.ensures
    ∙ ap (λ (l : List ℕ). pick_l 0 (map srgb_encoded8 c.args.straight ++ l) places) (zip2_splat shr c.args.channels 16 8 c.fits-channels.0) in
    ap (map same) is ∙ map-id _
