-- Linear pixels as sRGB by blocks. No public clause cites this file.
use Rattle.std.specs.Prelude.{◌≡◌, ◌≤◌, ℕ, List, [], ◌∷◌, get_or}
use Rattle.pix_chan.specs.Modes.{AlphaMode}
use Rattle.pix_chan.specs.Srgb16.{srgb_encoded8}
use Rattle.pix_el.specs.Pixel.{channel}
use Rattle.pix_el.specs.Light.{mode_changed}

-- at an alpha, each color is the same in both alpha modes
abbrev pub IsSameInBothModes : ℕ → AlphaMode → AlphaMode → ℕ → Type 0
IsSameInBothModes max mode to_mode alpha = (x : ℕ) → x ≤ max → mode_changed max mode to_mode alpha x ≡ x

-- the same at the alpha of each of four pixels
pub record AreSameInBothModes (max : ℕ) (mode to_mode : AlphaMode) (alpha : ℕ) (pixels : List (List ℕ)) : Type 0 where
  pub first : IsSameInBothModes max mode to_mode (channel max (get_or pixels 0 []) alpha)
  pub second : IsSameInBothModes max mode to_mode (channel max (get_or pixels 1 []) alpha)
  pub third : IsSameInBothModes max mode to_mode (channel max (get_or pixels 2 []) alpha)
  pub fourth : IsSameInBothModes max mode to_mode (channel max (get_or pixels 3 []) alpha)

-- a linear pixel of four channels, its colors in another alpha mode
abbrev pub changed_four : ℕ → AlphaMode → AlphaMode → List ℕ → List ℕ
changed_four max mode to_mode pixel =
    mode_changed max mode to_mode (channel max pixel 3) (channel max pixel 0) ∷ mode_changed max mode to_mode (channel max pixel 3) (channel max pixel 1)
    ∷ mode_changed max mode to_mode (channel max pixel 3) (channel max pixel 2) ∷ channel max pixel 3 ∷ []

-- three levels of a pixel
pub record AreLevels (max : ℕ) (pixel : List ℕ) (one two three : ℕ) : Type 0 where
  pub first : one ≡ srgb_encoded8 (channel max pixel 0)
  pub second : two ≡ srgb_encoded8 (channel max pixel 1)
  pub third : three ≡ srgb_encoded8 (channel max pixel 2)
