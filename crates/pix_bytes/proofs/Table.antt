-- The table of formats.
use Rattle.std.proofs.Common.{◌≡◌, ℕ, zero, suc, ◌<◌, List, [], ◌∷◌, length, map, get_or, refl, sym, ap, ◌∙◌, arith, Bool, true, false}
use Rattle.std.specs.Prelude.{slice_get, Some, ◌&&◌}
use Rattle.std.proofs.lemmas.Option.{slice_get_within, get_or_from_slice_get}
use Rattle.pix_bytes.specs.declared.bitmap.format.Line.{Line}
use Rattle.pix_bytes.specs.declared.bitmap.format.FormatParts.{FormatParts}
use Rattle.pix_bytes.specs.declared.bitmap.format.TheConstants.{FORMATS}
use Rattle.pix_bytes.specs.BitmapFormats.{stored_formats}
use Rattle.pix_bytes.specs.Rows.{stored_of, is_sound}

-- a line of the table, by its fields
abbrev pub line : Line → FormatParts
line r = record { model = r.0; count = r.1; is_premultiplied = r.2; depth = r.3; spare = r.4 }

pub lines_are : map (λ (r : Line). stored_of (line r)) FORMATS ≡ stored_formats
lines_are = refl

abbrev every : {X : Type 0} → (X → Bool) → List X → Bool
every test [] = true
every test (x ∷ xs) = test x && every test xs

pub left : (a b : Bool) → (a && b) ≡ true → a ≡ true
left true b e = refl
left false b e = e

pub right : (a b : Bool) → (a && b) ≡ true → b ≡ true
right true b e = e
right false b e = absurd (grind (arith, e))

every_at : {X : Type 0} (test : X → Bool) (xs : List X) (i : ℕ) (d : X) → every test xs ≡ true → i < length xs → test (get_or xs i d) ≡ true
every_at test [] i d e lt = absurd (omega (arith, lt))
every_at test (x ∷ xs) zero d e lt = left (test x) (every test xs) e
every_at test (x ∷ xs) (suc i) d e lt = every_at test xs i d (right (test x) (every test xs) e) (omega (arith, lt))

all_sound : every (λ (r : Line). is_sound (line r)) FORMATS ≡ true
all_sound = refl

-- each line is sound
pub sound_at : (i : ℕ) (r : Line) → slice_get FORMATS i ≡ Some r → is_sound (line r) ≡ true
sound_at i r e =
    ap (λ (r : Line). is_sound (line r)) (sym (get_or_from_slice_get FORMATS i r r e))
    ∙ every_at (λ (r : Line). is_sound (line r)) FORMATS i r all_sound (slice_get_within FORMATS i r e)
