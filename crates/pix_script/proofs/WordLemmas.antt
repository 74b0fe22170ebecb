-- The words of a line that was read as a command: none is bad in its place.
use Rattle.std.proofs.Common.{◌≡◌, ℕ, List, [], ◌∷◌, Bool, true, false, Option, Some, None, refl, ap, subst}
use Rattle.std.specs.Prelude.{IfSome, ◌||◌, if◌then◌else◌, is_none}
use Rattle.std.specs.Str.{bytes_eq}
use Rattle.std.specs.Option.{option_map}
use Rattle.pix_raster.specs.Region.{Rectangle}
use Rattle.pix_ops.specs.OperatorNames.{operator_of}
use Rattle.pix_script.specs.declared.command.Earlier.{Earlier}
use Rattle.pix_script.specs.declared.command.Kind.{Kind}
use Rattle.pix_script.specs.declared.command.Kind.TheVariants.{Operator, Coordinate, Side, Color}
use Rattle.pix_script.specs.declared.command.Line.{Line}
use Rattle.pix_script.specs.declared.parse.Row.{Row}
use Rattle.pix_script.specs.Commands.{Command, Shape, commands, named, is_comment, problem_of_shape, problem_of, meaning_of}
use Rattle.pix_script.specs.Meaning.{rectangle_of, image_of, fill_of, paint_of, copy_of, comp_of}
use Rattle.pix_script.specs.Numbers.{side_of, coordinate_of, color_of, ◌>>=◌}
use Rattle.pix_script.specs.Reading.{NoneBad, IsRowOf, shape_of}

-- a value that is there
is_there : {A : Type 0} (value : Option A) (a : A) → value ≡ Some a → is_none value ≡ false
is_there value a e = ap is_none e

-- a second value made from a first one was made from one that is there
made_from : {A B : Type 0} (value : Option A) (next : A → Option B) (b : B) → (value >>= next) ≡ Some b
    → (a : A) × (value ≡ Some a) × (next a ≡ Some b)
made_from None next b e = absurd cc
made_from (Some a) next b e = (a, refl, e)

-- four words that spell a region
record IsRegion (x y w h : List ℕ) : Type 0 where
  left : is_none (coordinate_of x) ≡ false
  top : is_none (coordinate_of y) ≡ false
  width : is_none (side_of w) ≡ false
  height : is_none (side_of h) ≡ false

is_region : (x y w h : List ℕ) (r : Rectangle) → rectangle_of x y w h ≡ Some r → IsRegion x y w h
unfolding rectangle_of
is_region x y w h r e =
    let a = made_from (coordinate_of x) _ r e in
    let b = made_from (coordinate_of y) _ r a.2 in
    let c = made_from (side_of w) _ r b.2 in
    let d = made_from (side_of h) _ r c.2 in
    record {
      left = is_there (coordinate_of x) a.0 a.1;
      top = is_there (coordinate_of y) b.0 b.1;
      width = is_there (side_of w) c.0 c.1;
      height = is_there (side_of h) d.0 d.1;
    }

-- neither of two
neither : (a b : Bool) → a ≡ false → false ≡ b → false ≡ (a || b)
neither true b e h = absurd cc
neither false b e h = h

-- the words of a line that a command's reading gave
abbrev Reads : Command → Type 0
Reads command = (words : List (List ℕ)) (line : Line) → command.reading words ≡ Some line → NoneBad command.shape.words words

image_reads : (words : List (List ℕ)) (line : Line) → image_of words ≡ Some line → NoneBad (Side ∷ Side ∷ []) words
unfolding image_of
image_reads [] line e = absurd cc
image_reads (w ∷ []) line e = absurd cc
image_reads (w ∷ h ∷ []) line e =
    let a = made_from (side_of w) _ line e in
    let b = made_from (side_of h) _ line a.2 in
    record {
      operator = refl;
      number = neither _ _ (is_there (side_of w) a.0 a.1) (neither _ _ (is_there (side_of h) b.0 b.1) refl);
      color = refl;
    }
image_reads (w ∷ h ∷ x ∷ more) line e = absurd cc

fill_reads : (words : List (List ℕ)) (line : Line) → fill_of words ≡ Some line → NoneBad (Coordinate ∷ Coordinate ∷ Side ∷ Side ∷ Color ∷ []) words
unfolding fill_of
fill_reads [] line e = absurd cc
fill_reads (x ∷ []) line e = absurd cc
fill_reads (x ∷ y ∷ []) line e = absurd cc
fill_reads (x ∷ y ∷ w ∷ []) line e = absurd cc
fill_reads (x ∷ y ∷ w ∷ h ∷ []) line e = absurd cc
fill_reads (x ∷ y ∷ w ∷ h ∷ c ∷ []) line e =
    let a = made_from (rectangle_of x y w h) _ line e in
    let b = made_from (color_of c) _ line a.2 in
    let r = is_region x y w h a.0 a.1 in
    record {
      operator = refl;
      number = neither _ _ r.left (neither _ _ r.top (neither _ _ r.width (neither _ _ r.height refl)));
      color = neither _ _ (is_there (color_of c) b.0 b.1) refl;
    }
fill_reads (x ∷ y ∷ w ∷ h ∷ c ∷ z ∷ more) line e = absurd cc

paint_reads : (words : List (List ℕ)) (line : Line) → paint_of words ≡ Some line → NoneBad (Operator ∷ Coordinate ∷ Coordinate ∷ Side ∷ Side ∷ Color ∷ []) words
unfolding paint_of
paint_reads [] line e = absurd cc
paint_reads (o ∷ []) line e = absurd cc
paint_reads (o ∷ x ∷ []) line e = absurd cc
paint_reads (o ∷ x ∷ y ∷ []) line e = absurd cc
paint_reads (o ∷ x ∷ y ∷ w ∷ []) line e = absurd cc
paint_reads (o ∷ x ∷ y ∷ w ∷ h ∷ []) line e = absurd cc
paint_reads (o ∷ x ∷ y ∷ w ∷ h ∷ c ∷ []) line e =
    let p = made_from (operator_of o) _ line e in
    let a = made_from (rectangle_of x y w h) _ line p.2 in
    let b = made_from (color_of c) _ line a.2 in
    let r = is_region x y w h a.0 a.1 in
    record {
      operator = neither _ _ (is_there (operator_of o) p.0 p.1) refl;
      number = neither _ _ r.left (neither _ _ r.top (neither _ _ r.width (neither _ _ r.height refl)));
      color = neither _ _ (is_there (color_of c) b.0 b.1) refl;
    }
paint_reads (o ∷ x ∷ y ∷ w ∷ h ∷ c ∷ z ∷ more) line e = absurd cc

copy_reads : (words : List (List ℕ)) (line : Line) → copy_of words ≡ Some line
    → NoneBad (Coordinate ∷ Coordinate ∷ Coordinate ∷ Coordinate ∷ Side ∷ Side ∷ []) words
unfolding copy_of
copy_reads [] line e = absurd cc
copy_reads (x ∷ []) line e = absurd cc
copy_reads (x ∷ y ∷ []) line e = absurd cc
copy_reads (x ∷ y ∷ u ∷ []) line e = absurd cc
copy_reads (x ∷ y ∷ u ∷ v ∷ []) line e = absurd cc
copy_reads (x ∷ y ∷ u ∷ v ∷ w ∷ []) line e = absurd cc
copy_reads (x ∷ y ∷ u ∷ v ∷ w ∷ h ∷ []) line e =
    let a = made_from (rectangle_of x y w h) _ line e in
    let b = made_from (rectangle_of u v w h) _ line a.2 in
    let r = is_region x y w h a.0 a.1 in
    let s = is_region u v w h b.0 b.1 in
    record {
      operator = refl;
      number = neither _ _ r.left (neither _ _ r.top (neither _ _ s.left (neither _ _ s.top (neither _ _ r.width (neither _ _ r.height refl)))));
      color = refl;
    }
copy_reads (x ∷ y ∷ u ∷ v ∷ w ∷ h ∷ z ∷ more) line e = absurd cc

comp_reads : (words : List (List ℕ)) (line : Line) → comp_of words ≡ Some line
    → NoneBad (Operator ∷ Coordinate ∷ Coordinate ∷ Coordinate ∷ Coordinate ∷ Side ∷ Side ∷ []) words
unfolding comp_of
comp_reads [] line e = absurd cc
comp_reads (o ∷ []) line e = absurd cc
comp_reads (o ∷ x ∷ []) line e = absurd cc
comp_reads (o ∷ x ∷ y ∷ []) line e = absurd cc
comp_reads (o ∷ x ∷ y ∷ u ∷ []) line e = absurd cc
comp_reads (o ∷ x ∷ y ∷ u ∷ v ∷ []) line e = absurd cc
comp_reads (o ∷ x ∷ y ∷ u ∷ v ∷ w ∷ []) line e = absurd cc
comp_reads (o ∷ x ∷ y ∷ u ∷ v ∷ w ∷ h ∷ []) line e =
    let p = made_from (operator_of o) _ line e in
    let a = made_from (rectangle_of x y w h) _ line p.2 in
    let b = made_from (rectangle_of u v w h) _ line a.2 in
    let r = is_region x y w h a.0 a.1 in
    let s = is_region u v w h b.0 b.1 in
    record {
      operator = neither _ _ (is_there (operator_of o) p.0 p.1) refl;
      number = neither _ _ r.left (neither _ _ r.top (neither _ _ s.left (neither _ _ s.top (neither _ _ r.width (neither _ _ r.height refl)))));
      color = refl;
    }
comp_reads (o ∷ x ∷ y ∷ u ∷ v ∷ w ∷ h ∷ z ∷ more) line e = absurd cc

-- a command without words after its name has no bad one
none_reads : (words : List (List ℕ)) → NoneBad [] words
none_reads words = record { operator = refl; number = refl; color = refl }

-- what holds of each command
abbrev Each : (Command → Type 0) → List Command → Type 0
Each P [] = Unit {0}
Each P (command ∷ more) = P command × Each P more

-- holds of one that is named
named_is : (P : Command → Type 0) (name : List ℕ) (all : List Command) (command : Command) → Each P all → named name all ≡ Some command → P command
named_is P name [] command each e = absurd cc
named_is P name (first ∷ more) command each e = here (bytes_eq name first.name) each.0 (λ h. named_is P name more command each.1 h) e
  where
    here : (b : Bool) → P first → (named name more ≡ Some command → P command) → (if b then Some first else named name more) ≡ Some command → P command
    here true holds later h = let same : first ≡ command = cc h in subst P same holds
    here false holds later h = later h

all_read : Each Reads commands
all_read = (image_reads, (λ words line e. none_reads words, (fill_reads, (paint_reads, (λ words line e. none_reads words, (copy_reads, (comp_reads, tt)))))))

-- the row of a command that is named is one of the words that were read for it
pub row_of_named : (name : List ℕ) (words : List (List ℕ)) (row : Row)
    → Some (shape_of row) ≡ option_map (λ c. c.shape) (named name commands) → Some row.line ≡ option_map (λ c. c.reading words) (named name commands)
    → IsRowOf row words
row_of_named name words row shape reads = found (named name commands) refl shape reads
  where
    found : (one : Option Command) → named name commands ≡ one → Some (shape_of row) ≡ option_map (λ c. c.shape) one
        → Some row.line ≡ option_map (λ c. c.reading words) one → IsRowOf row words
    found None is s l = absurd cc
    found (Some command) is s l = of_line row.line refl
      where
        of_line : (line : Option Line) → row.line ≡ line → IfSome line (λ m. NoneBad row.words.now words)
        of_line None e = tt
        of_line (Some m) e =
            let read : command.reading words ≡ Some m = cc (l, e) in
            let same : command.shape ≡ shape_of row = cc s in
            subst (λ (k : List Kind). NoneBad k words) (ap (λ (s : Shape). s.words) same)
            (named_is Reads name commands command all_read is words m read)

-- the problem of a line whose first word names the command of a row
pub problem_is : (earlier : Earlier) (name : List ℕ) (words : List (List ℕ)) (row : Row) → is_comment name ≡ false
    → Some (shape_of row) ≡ option_map (λ c. c.shape) (named name commands)
    → problem_of earlier (name ∷ words) ≡ problem_of_shape earlier words (Some (shape_of row))
unfolding problem_of
problem_is earlier name words row other shape = rw (other, ← shape) refl

-- and what it means
pub meaning_is : (name : List ℕ) (words : List (List ℕ)) (row : Row) → Some row.line ≡ option_map (λ c. c.reading words) (named name commands)
    → row.line ≡ meaning_of (name ∷ words)
unfolding meaning_of
meaning_is name words row reads = found (named name commands) reads
  where
    found : (one : Option Command) → Some row.line ≡ option_map (λ c. c.reading words) one → row.line ≡ (one >>= λ c. c.reading words)
    found None e = absurd cc
    found (Some command) e = cc e
