-- Windows that are painted band by band.
use Rattle.std.proofs.Common.{◌≡◌, ℕ, ◌<◌, ◌≤◌, ◌+◌, ◌-◌, ◌*◌, List, [], ◌++◌, length, get_or, take, drop, map, inl, inr, arith, sym, ap, ◌∙◌, length-drop}
use Rattle.std.proofs.lemmas.List.{length-map, length-take-le, take-map, drop-map, take_all, drop_all, map-append, append-nil, get_or_append_left, get_or-append_right, get_or-take, get_or-drop}
use Rattle.std.proofs.lemmas.Bool.{cases_lt}
use Rattle.std.proofs.Math.Nat.{mul-le-mul_right}
use borrow.Rule.Slice.PartMut.{put_mid}
use Rattle.pix_raster.specs.View.{read_at, IsWindow, ChangedIn, in_window}
use Rattle.pix_raster.specs.declared.view.Window.{Window}

-- `part` in the place of all elements from a on
module _ {D : Type 0} (n : D → List ℕ) (a k : ℕ) (xs part : List D) (to_end : a + k ≡ length xs) where
  put : map n (put_mid a k xs part) ≡ take a (map n xs) ++ map n part
  put =
      ap (λ l. map n (take a xs ++ (part ++ l))) (drop_all k (drop a xs) (omega (arith, length-drop a xs)))
      ∙ ap (λ l. map n (take a xs ++ l)) (append-nil part)
      ∙ map-append n (take a xs) part
      ∙ ap (λ l. l ++ map n part) (sym (take-map n a xs))

  -- those before a stay
  stays_before : (p : ℕ) → p < a → get_or (map n (put_mid a k xs part)) p [] ≡ get_or (map n xs) p []
  stays_before p h =
      let long : length (take a (map n xs)) ≡ a = length-take-le a (map n xs) (omega (arith, length-map xs n)) in
      ap (λ l. get_or l p []) put ∙ get_or_append_left (take a (map n xs)) (map n part) [] p (omega arith) ∙ get_or-take a (map n xs) p [] h

  put_there : (p : ℕ) → a ≤ p → get_or (map n (put_mid a k xs part)) p [] ≡ get_or (map n part) (p - a) []
  put_there p h =
      let long : length (take a (map n xs)) ≡ a = length-take-le a (map n xs) (omega (arith, length-map xs n)) in
      ap (λ l. get_or l p []) put ∙ get_or-append_right (take a (map n xs)) (map n part) a p [] long h

  -- what stood there
  stood_there : (i : ℕ) → get_or (map n (take k (drop a xs))) i [] ≡ get_or (map n xs) (a + i) []
  stood_there i =
      ap (λ l. get_or (map n l) i []) (take_all k (drop a xs) (omega (arith, length-drop a xs)))
      ∙ ap (λ l. get_or l i []) (sym (drop-map n a xs))
      ∙ get_or-drop a (map n xs) i []

-- a band of a window: so many of its rows, from the row `first` on
abbrev pub band : Window → ℕ → ℕ → Window
band window first height = record {
  left = window.left;
  top = window.top + first;
  shape = record { width = window.shape.width; height = height; stride = window.shape.stride };
}

-- it is a window itself
pub band_fits : {D : Type 0} (window : Window) (first height a k : ℕ) (now : List D) → IsWindow window (length now) → first + height ≤ window.shape.height
    → a ≡ first * window.shape.stride → a + k ≡ length now → IsWindow (band window first height) (length (take k (drop a now)))
band_fits window first height a k now fits below start to_end =
    let shape = window.shape in
    let long : length (take k (drop a now)) ≡ k = length-take-le k (drop a now) (omega (arith, length-drop a now)) in
    record {
      shaped = record {
        wide = fits.shaped.wide;
        high = omega (arith, fits.shaped.high);
        apart = fits.shaped.apart;
        last = λ y ly.
            let row : (first + y) * shape.stride + shape.width ≤ length now = fits.shaped.last (first + y) (omega arith) in
            let down : (first + y) * shape.stride ≡ first * shape.stride + y * shape.stride = omega arith in
            omega arith;
      };
      across = fits.across;
      down = omega (arith, fits.down);
    }

module _ {D : Type 0} (n : D → List ℕ) (window : Window) (f : ℕ → ℕ → List ℕ → List ℕ) (first height a k : ℕ) (old now part : List D) where
  abbrev width : ℕ
  width = window.shape.width

  abbrev stride : ℕ
  stride = window.shape.stride

  -- so many rows of the window are painted
  abbrev pub Painted : ℕ → List D → Type 0
  Painted rows new = ChangedIn n (record { width = width; height = rows; stride = stride }) old new (in_window window f)

  -- where the first rows are, and then a band of those that follow, the rows of both are
  pub band_more : width ≤ stride → a ≡ first * stride → a + k ≡ length now → Painted first now
      → ChangedIn n (band window first height).shape (take k (drop a now)) part (in_window (band window first height) f)
      → Painted (first + height) (put_mid a k now part)
  band_more apart start to_end before changed =
      let above : (x y : ℕ) → x < width → y < first → y * stride + x < a =
      λ x y lx ly. let up : (y + 1) * stride ≤ first * stride = mul-le-mul_right stride (let le : y + 1 ≤ first = omega arith in le) in omega arith in
      let kept : (place : ℕ) → a ≤ place → get_or (map n now) place [] ≡ get_or (map n old) place [] =
      λ place h. before.stays place (λ x y lx ly e. let lt = above x y lx ly in omega arith) in
      record {
        points = λ x y lx ly. elim (cases_lt y first) [
          | inl over ↦ stays_before n a k now part to_end (y * stride + x) (above x y lx over) ∙ before.points x y lx over
          | inr under ↦
              let j : ℕ = y - first in
              let row : window.top + first + j ≡ window.top + y = omega arith in
              let down : first * stride + j * stride ≡ y * stride = (let d : first * stride + j * stride ≡ (first + j) * stride = omega arith in d ∙ ap (λ r. r * stride) (let e : first + j ≡ y = omega arith in e)) in
              let place : y * stride + x - a ≡ j * stride + x = omega arith in
              let there : a + (j * stride + x) ≡ y * stride + x = omega arith in
              put_there n a k now part to_end (y * stride + x) (omega arith)
              ∙ ap (λ p. get_or (map n part) p []) place
              ∙ changed.points x j lx (omega arith)
              ∙ ap (f (window.left + x) (window.top + first + j)) (stood_there n a k now part to_end (j * stride + x) ∙ ap (λ p. get_or (map n now) p []) there ∙ kept (y * stride + x) (omega arith))
              ∙ ap (λ r. f (window.left + x) r (read_at n stride old x y)) row
        ];
        stays = λ place none. elim (cases_lt place a) [
          | inl over ↦ stays_before n a k now part to_end place over ∙ before.stays place (λ x y lx ly. none x y lx (omega arith))
          | inr under ↦
              let there : a + (place - a) ≡ place = omega arith in
              put_there n a k now part to_end place under
              ∙ changed.stays (place - a) (λ x y lx ly e.
              let down : (first + y) * stride ≡ first * stride + y * stride = omega arith in
              none x (first + y) lx (omega arith) (omega arith))
              ∙ stood_there n a k now part to_end (place - a)
              ∙ ap (λ p. get_or (map n now) p []) there
              ∙ kept place under
        ];
      }
