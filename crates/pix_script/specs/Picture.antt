-- Pictures, and what the commands of a script make of them.
use Rattle.std.specs.Prelude.{ℕ, pos, List, [], ◌∷◌, if◌then◌else◌, fold}
use Rattle.pix_el.specs.Pixel.{Layout}
use Rattle.pix_raster.specs.Region.{Rectangle, covers}
use Rattle.pix_raster.specs.Reach.{from_pair}
use Rattle.pix_raster.specs.Run.{Effect, Cleared, Copied, Composited, apply}
use Rattle.pix_script.specs.declared.command.Line.{Line}
use Rattle.pix_script.specs.declared.command.Line.TheVariants.{Image, Clear, Fill, Paint, Keep, Copy, Comp}

-- a picture: the numbers of the pixel at each point (x, y), where x is below the width and y below
-- the height
pub record Picture : Type 0 where
  pub width : ℕ
  pub height : ℕ
  pub at : ℕ → ℕ → List ℕ

-- the layout of a picture's pixels: four channels of eight bits, of which none is a hue and the
-- last is the alpha
abbrev pub rgba8 : Layout
rgba8 = record { max = 255; count = 4; hues = record { start = 0; end = 0 }; alpha = 3 }

-- the picture whose pixels are all clear
abbrev pub clear_picture : ℕ → ℕ → Picture
clear_picture width height = record { width = width; height = height; at = λ x y. 0 ∷ 0 ∷ 0 ∷ 0 ∷ [] }

-- the rectangle of all points of a picture
abbrev pub all_of : Picture → Rectangle
all_of picture = record { left = pos 0; top = pos 0; width = picture.width; height = picture.height }

-- what a command brings to the point (x, y) of the image: nothing where it does not reach the
-- point; `all` is the rectangle of the image's points
abbrev pub effect_of : (kept : Picture) (all : Rectangle) → ℕ → ℕ → Line → List Effect
effect_of kept all x y (Image width height) = []
effect_of kept all x y Clear = Cleared ∷ []
effect_of kept all x y (Fill reg color) = if covers reg (pos x) (pos y) then Copied color ∷ [] else []
effect_of kept all x y (Paint op reg color) = if covers reg (pos x) (pos y) then Composited op color ∷ [] else []
effect_of kept all x y Keep = []
effect_of kept all x y (Copy to from) = from_pair to all from (all_of kept) (λ a b. Copied (kept.at a b)) x y
effect_of kept all x y (Comp op to from) = from_pair to all from (all_of kept) (λ a b. Composited op (kept.at a b)) x y

-- the image after a command: at each point the pixel that was there, with what the command brings
-- to it
abbrev pub drawn : (kept image : Picture) → Line → Picture
drawn kept image line = record {
  width = image.width;
  height = image.height;
  at = λ x y. fold (apply rgba8) (image.at x y) (effect_of kept (all_of image) x y line);
}

-- the image, and the picture that was kept last
pub record Images : Type 0 where
  pub image : Picture
  pub kept : Picture

-- the images after a command: `keep` keeps the image as it is then, and each other command draws on
-- the image and leaves the kept one
abbrev pub after : Images → Line → Images
after images Keep = record { image = images.image; kept = images.image }
after images line = record { image = drawn images.kept images.image line; kept = images.kept }

-- a clear image, before anything is kept
abbrev pub new_images : ℕ → ℕ → Images
new_images width height = record { image = clear_picture width height; kept = clear_picture 0 0 }

-- the image after the commands, one after the other
abbrev pub run_of : ℕ → ℕ → List Line → Picture
run_of width height commands = (fold after (new_images width height) commands).image
