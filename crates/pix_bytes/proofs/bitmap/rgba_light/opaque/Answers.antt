use Rattle.std.proofs.Common.{◌≡◌, ◌+◌, ◌∙◌, ℕ, List, ap, refl, get_or}
use Rattle.pix_chan.specs.Srgb16.{srgb_decoded16}
use Rattle.pix_chan.proofs.Planes.{cons}
use Rattle.pix_bytes.specs.Lit.{light_at}
use Rattle.pix_bytes.proofs.bitmap.rgba_light.opaque.Goals as goal

-- the light of a byte, at its place
at : (p xs : List ℕ) (k place made : ℕ) → p ≡ xs → k ≡ place → made ≡ srgb_decoded16 (get_or p k 0) → made ≡ light_at xs place
at p xs k place made same here is = is ∙ ap (λ (l : List ℕ). light_at l k) same ∙ ap (light_at xs) here

pub returns : goal.returns
returns c =
    let at : (k place made : ℕ) → k ≡ place → made ≡ srgb_decoded16 (get_or c.pixels-p.result k 0) → made ≡ light_at c.args.bytes.now place =
    λ k place made. at c.pixels-p.result c.args.bytes.now k place made c.pixels-p.ensures in
    let first = c.ends-first.ensures.first in
    let last = c.ends-first.ensures.last in
    cons (at _ _ _ first c.light.ensures) (cons (at _ _ _ refl c.light-2.ensures) (cons (at _ _ _ last c.light-3.ensures) (cons refl
    (cons (at _ _ _ (ap (λ n. 4 + n) first) c.light-4.ensures) (cons (at _ _ _ refl c.light-5.ensures) (cons (at _ _ _ (ap (λ n. 4 + n) last) c.light-6.ensures) (cons refl
    (cons (at _ _ _ (ap (λ n. 8 + n) first) c.light-7.ensures) (cons (at _ _ _ refl c.light-8.ensures) (cons (at _ _ _ (ap (λ n. 8 + n) last) c.light-9.ensures) (cons refl
    (cons (at _ _ _ (ap (λ n. 12 + n) first) c.light-10.ensures) (cons (at _ _ _ refl c.light-11.ensures) (cons (at _ _ _ (ap (λ n. 12 + n) last) c.light-12.ensures) (cons refl refl)))))))))))))))
