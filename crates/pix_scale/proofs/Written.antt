-- Pixels that are written one after the other, and rows of them.
use Rattle.std.proofs.Common.{◌≡◌, ◌≢◌, ℕ, zero, suc, ◌+◌, ◌-◌, ◌*◌, ◌<◌, ◌≤◌, inl, inr, List, [], ◌∷◌, ◌++◌, length, get_or, map, take, set, arith, refl, sym, ap, subst, ◌∙◌, get_or-set_other, get_or-set_same}
use borrow.Rule.Slice.PartMut.{put_mid}
use Rattle.std.proofs.Math.Nat.{mul-le-mul_right}
use Rattle.std.proofs.lemmas.Bool.{cases_lt}
use Rattle.std.proofs.lemmas.List.{length-map, map-set, get_or-take, get_or-map}
use Rattle.pix_chan.proofs.Slices.{map-put_mid}
use Rattle.pix_scale.proofs.Parts.{before_part, in_part, after_part}

-- the pixels below i are written: channel c of pixel j is f j c
pub record Written (pixels : List (List ℕ)) (n : ℕ) (f : ℕ → ℕ → ℕ) (i : ℕ) : Type 0 where
  pub at : (j c : ℕ) → j < i → c < n → get_or (get_or pixels j []) c 0 ≡ f j c

pub written_none : (pixels : List (List ℕ)) (n : ℕ) (f : ℕ → ℕ → ℕ) → Written pixels n f 0
written_none pixels n f = record { at = λ j c h k. absurd (omega arith) }

pub written_more : (pixels : List (List ℕ)) (n : ℕ) (f : ℕ → ℕ → ℕ) (i : ℕ) (pixel : List ℕ) → i < length pixels
    → Written pixels n f i → ((c : ℕ) → c < n → get_or pixel c 0 ≡ f i c) → Written (set pixels i pixel) n f (i + 1)
written_more pixels n f i pixel lt w more = record {
  at = λ j c h k. elim (cases_lt j i) [
    | inl l ↦ let ne : j ≢ i = omega arith in rw get_or-set_other (w.at j c l k)
    | inr l ↦ let e : j ≡ i = omega arith in
        subst (λ j. get_or (get_or (set pixels i pixel) j []) c 0 ≡ f j c) (sym e) (rw get_or-set_same (more c k))
  ];
}

-- the pixels below i are those of the places
pub record Copied {D : Type 0} (r : D → List ℕ) (to from : List D) (places : List ℕ) (i : ℕ) : Type 0 where
  pub at : (k : ℕ) → k < i → get_or (map r to) k [] ≡ get_or (map r from) (get_or places k 0) []

pub copied_none : {D : Type 0} (r : D → List ℕ) (to from : List D) (places : List ℕ) → Copied r to from places 0
copied_none r to from places = record { at = λ k lt. absurd (omega arith) }

pub copied_more : {D : Type 0} (r : D → List ℕ) (to from : List D) (places : List ℕ) (i : ℕ) (pixel : D) → i < length to → get_or places i 0 < length from
    → pixel ≡ get_or from (get_or places i 0) pixel → Copied r to from places i → Copied r (set to i pixel) from places (i + 1)
copied_more r to from places i pixel lt in_ is copied =
    let long : i < length (map r to) = omega (arith, length-map to r) in record {
      at = λ k l. rw map-set (elim (cases_lt k i) [
        | inl u ↦ let ne : k ≢ i = omega arith in rw get_or-set_other (copied.at k u)
        | inr u ↦ let e : k ≡ i = omega arith in
            subst (λ k. get_or (set (map r to) i (r pixel)) k [] ≡ get_or (map r from) (get_or places k 0) []) (sym e)
            (rw get_or-set_same (ap r is ∙ sym (get_or-map r from (get_or places i 0) pixel [] in_)))
      ]);
    }

-- the rows before y of a window are written, and everything else stays
pub record Rows (old new : List (List ℕ)) (width stride n : ℕ) (f : ℕ → ℕ → ℕ → ℕ) (y : ℕ) : Type 0 where
  pub pixels : (x j c : ℕ) → x < width → j < y → c < n → get_or (get_or new (j * stride + x) []) c 0 ≡ f x j c
  pub stays : (place : ℕ) → ((x j : ℕ) → x < width → j < y → j * stride + x ≢ place) → get_or new place [] ≡ get_or old place []

pub rows_none : (old : List (List ℕ)) (width stride n : ℕ) (f : ℕ → ℕ → ℕ → ℕ) → Rows old old width stride n f 0
rows_none old width stride n f = record { pixels = λ x j c h k l. absurd (omega arith); stays = λ place h. refl }

-- a row more is written
pub rows_more : {D : Type 0} (r : D → List ℕ) (old : List (List ℕ)) (now part : List D) (width stride n : ℕ) (f : ℕ → ℕ → ℕ → ℕ) (y k : ℕ)
    → width ≤ stride → y * stride + width ≤ length now → length part ≡ width → k ≡ width
    → Rows old (map r now) width stride n f y
    → ((x c : ℕ) → x < width → c < n → get_or (get_or (map r part) x []) c 0 ≡ f x y c)
    → Rows old (map r (put_mid (y * stride) k now part)) width stride n f (y + 1)
rows_more r old now part width stride n f y k apart le long e rows more =
    let xs : List (List ℕ) = map r now in
    let ys : List (List ℕ) = map r part in
    let few : y * stride ≤ length xs = omega (arith, length-map now r) in
    let all : y * stride + k ≤ length xs = omega (arith, length-map now r) in
    let size : length ys ≡ k = omega (arith, length-map part r) in
    let same : map r (put_mid (y * stride) k now part) ≡ put_mid (y * stride) k xs ys = map-put_mid {B = List ℕ} r (λ x z. x) (y * stride) k now part in
    subst (λ (l : List (List ℕ)). Rows old l width stride n f (y + 1)) (sym same) (record {
      pixels = λ x j c lx lj lc. elim (cases_lt j y) [
        | inl l ↦
            let s : suc j * stride ≤ y * stride = mul-le-mul_right stride (let w : suc j ≤ y = omega arith in w) in
            ap (λ p. get_or p c 0) (before_part (y * stride) k xs ys (j * stride + x) [] (omega (arith, s)) few) ∙ rows.pixels x j c lx l lc
        | inr l ↦
            let g : j ≡ y = omega arith in
            subst (λ j. get_or (get_or (put_mid (y * stride) k xs ys) (j * stride + x) []) c 0 ≡ f x j c) (sym g)
            (ap (λ p. get_or p c 0) (in_part (y * stride) k xs ys x [] (omega (arith, size)) few) ∙ more x c lx lc)
      ];
      stays = λ place none.
          let before = rows.stays place (λ x j lx lj. none x j lx (omega arith)) in
          elim (cases_lt place (y * stride)) [
            | inl l ↦ before_part (y * stride) k xs ys place [] l few ∙ before
            | inr l ↦ elim (cases_lt place (y * stride + k)) [
              | inl u ↦
                  let x : ℕ = place - y * stride in
                  absurd (none x y (omega arith) (omega arith) (omega arith))
              | inr u ↦ after_part (y * stride) k xs ys place [] u size all ∙ before
            ]
          ];
    })

-- the first channels of a part that was written at the begin
pub first_channels : {C : Type 0} (number : C → ℕ) (n count : ℕ) (new rest : List C) → length new ≡ n → n ≡ count → (ch : ℕ) → ch < count
    → get_or (take count (map number (take n (new ++ rest)))) ch 0 ≡ get_or (map number new) ch 0
first_channels number n count new rest long same ch lt =
    get_or-take count (map number (take n (new ++ rest))) ch 0 lt
    ∙ ap (λ l. get_or (map number l) ch 0) (take-append n new rest long)
  where
    take-append : {C : Type 0} (n : ℕ) (a b : List C) → length a ≡ n → take n (a ++ b) ≡ a
    take-append zero [] b e = refl
    take-append zero (x ∷ a) b e = absurd (omega arith)
    take-append (suc n) [] b e = absurd (omega arith)
    take-append {C = C} (suc n) (x ∷ a) b e = ap (λ (l : List C). x ∷ l) (take-append n a b (omega arith))
