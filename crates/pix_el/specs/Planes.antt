-- Pixels by planes: a plane holds the channels of one number. No public clause cites this file.
use Rattle.std.specs.Prelude.{◌≡◌, ◌≤◌, ℕ, ◌-◌, List, [], ◌∷◌, length, map, replicate, if◌then◌else◌}
use Rattle.std.specs.declared.ops.Range.{Range}
use Rattle.pix_ops.specs.declared.ops.Op.{Op}
use Rattle.pix_chan.specs.Product.{channel_product}
use Rattle.pix_ops.specs.Hue.{hue_composite, hue_weight}
use Rattle.pix_ops.specs.Composite.{channel_composite, run_composite}
use Rattle.pix_el.specs.Pixel.{Layout, lies_in, channel}
use Rattle.pix_el.specs.PixelComposite.{pixel_composite}
use Rattle.pix_el.specs.Conversion.{at_depth}

-- the channels of pixels of four channels, pixel by pixel
abbrev pub by_fours : {A : Type 0} → List A → List (List A)
by_fours [] = []
by_fours (w ∷ []) = []
by_fours (w ∷ x ∷ []) = []
by_fours (w ∷ x ∷ y ∷ []) = []
by_fours (w ∷ x ∷ y ∷ z ∷ r) = (w ∷ x ∷ y ∷ z ∷ []) ∷ by_fours r

-- the channels of pixels of two channels, pixel by pixel
abbrev pub by_twos : {A : Type 0} → List A → List (List A)
by_twos [] = []
by_twos (w ∷ []) = []
by_twos (w ∷ x ∷ r) = (w ∷ x ∷ []) ∷ by_twos r

-- the channels of pixels of one channel, pixel by pixel
abbrev pub by_ones : List ℕ → List (List ℕ)
by_ones channels = map (λ c. c ∷ []) channels

-- the plane of a channel number
abbrev pub plane_of : ℕ → List (List ℕ) → ℕ → List ℕ
plane_of max pixels ch = map (λ p. channel max p ch) pixels

-- the value of a matte, by its numbers
abbrev pub coverage_of : {M : Type 0} → ℕ → (M → List ℕ) → M → ℕ
coverage_of max numbers matte = channel max (numbers matte) 0

-- the lists are the planes of pixels of four channels
pub record ArePlanes (max : ℕ) (pixels : List (List ℕ)) (one two three four : List ℕ) : Type 0 where
  pub first : one ≡ plane_of max pixels 0
  pub second : two ≡ plane_of max pixels 1
  pub third : three ≡ plane_of max pixels 2
  pub fourth : four ≡ plane_of max pixels 3

-- the source's hue s composited with the destination's hue d, where da1 and sa1 are one minus the
-- alphas
abbrev pub run_hue : ℕ → Op → ℕ × ℕ × ℕ → ℕ → ℕ
run_hue max op (da1, s, sa1) d = hue_composite max op s (max - sa1) d (max - da1)

-- the same for the first channel, a hue or not
abbrev pub run_first : ℕ → Range ℕ → Op → ℕ × ℕ × ℕ → ℕ → ℕ
run_first max hues op t d = if lies_in hues 0 then run_hue max op t d else run_composite max op t d

-- the first channel x multiplied by a matte, but a hue as it is
abbrev pub matted_first : ℕ → Range ℕ → ℕ → ℕ → ℕ
matted_first max hues matte x = if lies_in hues 0 then x else channel_product max x matte

-- the source's channel s, of alpha sa, leaves each channel of a destination as it is, and moves no
-- hue
abbrev pub Keeps : ℕ → Op → ℕ → ℕ → Type 0
Keeps max op s sa = (d da : ℕ) → d ≤ max → da ≤ max → (channel_composite max op s sa d da ≡ d) × (hue_weight max op sa da ≡ 0)

-- any source does
abbrev pub KeepsAll : ℕ → Op → Type 0
KeepsAll max op = (s sa : ℕ) → Keeps max op s sa

-- a clear source leaves nothing of a destination's channel
abbrev pub Empties : ℕ → Op → Type 0
Empties max op = (d da : ℕ) → d ≤ max → da ≤ max → channel_composite max op 0 0 d da ≡ 0

-- each pixel is replaced with the source
abbrev pub Replaces : Layout → Op → Type 0
Replaces layout op = (source dest : List ℕ) → length source ≡ layout.count → ((ch : ℕ) → channel layout.max source ch ≤ layout.max)
    → source ≡ pixel_composite layout op source dest

-- each pixel is made clear
abbrev pub Clears : Layout → Op → Type 0
Clears layout op = (source dest : List ℕ) → replicate layout.count 0 ≡ pixel_composite layout op source dest

-- a straight pixel of four channels, premultiplied
abbrev pub premultiplied_four : ℕ → List ℕ → List ℕ
premultiplied_four max pixel =
    channel_product max (channel max pixel 0) (channel max pixel 3) ∷ channel_product max (channel max pixel 1) (channel max pixel 3)
    ∷ channel_product max (channel max pixel 2) (channel max pixel 3) ∷ channel max pixel 3 ∷ []

-- a pixel of four channels at another depth, its colors linear by a curve
abbrev pub linear_four : ℕ → ℕ → (ℕ → ℕ) → List ℕ → List ℕ
linear_four max to_max curve pixel =
    curve (channel max pixel 0) ∷ curve (channel max pixel 1) ∷ curve (channel max pixel 2) ∷ at_depth max to_max (channel max pixel 3) ∷ []
