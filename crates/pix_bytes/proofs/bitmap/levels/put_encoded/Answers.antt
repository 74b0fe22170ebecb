use Rattle.std.proofs.Common.{◌∙◌, ◌++◌, ◌/◌, List, ℕ, map, ap, subst, sym}
use lib.Lanes.{pick_l}
use Rattle.pix_chan.specs.Srgb16.{srgb_encoded8}
use Rattle.pix_bytes.specs.Rows.{IsEach}
use Rattle.pix_bytes.specs.Shown.{shown, shown_places, straight_light}
use Rattle.pix_bytes.proofs.ShownFours.{four_shown}
use Rattle.pix_bytes.proofs.bitmap.levels.put_encoded.Goals as goal

pub returns-in-Some : goal.returns-in-Some
returns-in-Some c =
    let src : List ℕ = c.args.src.now in
    let places : List ℕ = shown_places c.args.is_reversed in
    let is = c.encoded.ensures
    ∙ ap (λ (l : List ℕ). pick_l 0 (map srgb_encoded8 l ++ map (λ x. x / 256) c.channels.result) places) c.requires.straight
    ∙ ap (λ (l : List ℕ). pick_l 0 (map srgb_encoded8 (straight_light src) ++ map (λ x. x / 256) l) places) c.channels.ensures in
    subst (λ (dst : List ℕ). IsEach 65535 255 4 4 8 4 (shown c.args.is_reversed) src dst 4) (sym is) (four_shown c.args.is_reversed src)
