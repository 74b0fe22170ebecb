-- changes of rows that lie a stride apart
use Rattle.std.proofs.Common.{◌≡◌, ℕ, ◌<◌, ◌≤◌, ◌+◌, ◌*◌, ◌/◌, ◌%◌, List, false, cond, ◌⊎◌, inl, inr, arith, refl, ap, ◌∙◌}
use Rattle.std.proofs.lemmas.Bool.{cases_lt}
use Rattle.std.proofs.lemmas.Bool.Decides.{nat_tests}
use Rattle.std.specs.declared.ops.Range.{Range}
use Rattle.pix_raster.specs.Image.{Changed}
use Rattle.pix_raster.specs.View.{read_at, ChangedIn}
use Rattle.pix_raster.specs.Clip.{in_box, where_in}
use Rattle.pix_raster.specs.declared.view.Shape.{Shape}

-- a point to the right of an image or below it lies in no part of the image
outside : (columns rows : Range ℕ) (width height x y : ℕ) → columns.end ≤ width → rows.end ≤ height → (width ≤ x) ⊎ (height ≤ y) → in_box columns rows x y ≡ false
outside columns rows width height x y across down (inl h) = grind (arith, nat_tests)
outside columns rows width height x y across down (inr h) = grind (arith, nat_tests)

-- a place of no point is to the right of the image or below it, with any coordinates
far : (shape : Shape) (x y : ℕ) → (x < shape.width → y < shape.height → ⊥) → (shape.width ≤ x) ⊎ (shape.height ≤ y)
far shape x y none = elim (cases_lt x shape.width) [
  | inl lx ↦ elim (cases_lt y shape.height) [
    | inl ly ↦ absurd (none lx ly)
    | inr below ↦ inr below
  ]
  | inr right ↦ inl right
]

-- what is changed in a part of an image is changed at each of its points, and stays elsewhere
pub changed_in_box : {D : Type 0} (reads : D → List ℕ) (shape : Shape) (old new : List D) (columns rows : Range ℕ) (f g : ℕ → ℕ → List ℕ → List ℕ)
    → columns.end ≤ shape.width → rows.end ≤ shape.height → shape.width ≤ shape.stride → 0 < shape.width
    → ((x y : ℕ) → x < shape.stride → read_at reads shape.stride new x y ≡ where_in columns rows f x y (read_at reads shape.stride old x y))
    → ((x y : ℕ) (pixel : List ℕ) → x < shape.width → y < shape.height → where_in columns rows f x y pixel ≡ g x y pixel)
    → ChangedIn reads shape old new g
changed_in_box reads shape old new columns rows f g across down apart some changed is = record {
  points = λ x y lx ly. changed x y (omega arith) ∙ is x y (read_at reads shape.stride old x y) lx ly;
  stays = λ place none.
      let x : ℕ = place % shape.stride in
      let y : ℕ = place / shape.stride in
      let e : y * shape.stride + x ≡ place = omega arith in
      let stood = read_at reads shape.stride old x y in
      let stays : read_at reads shape.stride new x y ≡ stood = changed x y (omega arith)
      ∙ ap (λ b. cond b (f x y stood) stood) (outside columns rows shape.width shape.height x y across down (far shape x y (λ lx ly. none x y lx ly e))) in
      rw e at stays;
}

-- a change that makes the same of each point of an image
pub changed_alike : {D : Type 0} (reads : D → List ℕ) (shape : Shape) (old new : List D) (f g : ℕ → ℕ → List ℕ → List ℕ)
    → ((x y : ℕ) (pixel : List ℕ) → x < shape.width → y < shape.height → f x y pixel ≡ g x y pixel)
    → ChangedIn reads shape old new f → ChangedIn reads shape old new g
changed_alike reads shape old new f g alike changed = record {
  points = λ x y lx ly. changed.points x y lx ly ∙ alike x y (read_at reads shape.stride old x y) lx ly;
  stays = changed.stays;
}

-- what is changed in rows that follow one another is changed in an image
pub changed_rows : {P : Type 0} (n : P → List ℕ) (width height : ℕ) (before after : List P) (f : ℕ → ℕ → ℕ → ℕ → List ℕ → List ℕ)
    → ChangedIn n (record { width = width; height = height; stride = width }) before after (λ x y. f (0 + width) (0 + height) (0 + x) (0 + y))
    → Changed n (record { width = width; height = height; pixels = before }) (record { width = width; height = height; pixels = after }) (f width height)
changed_rows n width height before after f changed = record {
  same_width = refl;
  same_height = refl;
  points = λ x y lx ly.
      let column : 0 + x ≡ x = omega arith in
      let row : 0 + y ≡ y = omega arith in
      let wide : 0 + width ≡ width = omega arith in
      let high : 0 + height ≡ height = omega arith in
      rw (column, row, wide, high) at (changed.points x y lx ly);
}
