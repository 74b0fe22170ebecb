-- Pixels by error diffusion, one after the other.
use Rattle.std.proofs.Common.{◌≡◌, ◌≢◌, ℕ, ◌+◌, ◌-◌, ◌*◌, ◌%◌, ◌<◌, ◌≤◌, List, [], ◌∷◌, ◌++◌, length, map, get_or, set, reverse, Bool, true, false, ◌&&◌, nat_lt, nat_le, refl, arith, sym, ap, ap₂, ◌∙◌, subst, inl, inr, length-append, mod-lt}
use mathlib.Core.List.{reverse_aux}
use Rattle.std.proofs.lemmas.Bool.{cases_lt, lt-ltb, leb-true}
use Rattle.std.proofs.Math.Nat.{zero-mod, mod-le}
use Rattle.std.proofs.lemmas.List.{length-map, map-set, get_or_append_left, get_or_push, get_or-reverse, get_or-set_same, get_or-set_other}
use Rattle.pix_table.specs.matching.Nearest.{IsNearestBy, alpha_of}
use Rattle.pix_table.specs.diffuse.Diffusion.{IsDiffused, none, clear, shown, held_to, in_picture, number_above, wanted_at, part, handed, share_before, share_next}
use Rattle.pix_table.specs.diffuse.Done.{AreLatest, AreDone, AreNeighborErrors, IsColorErrorAbove, IsColorError}
use Rattle.pix_table.specs.declared.diffuse.ScanOrder.{ScanOrder}
use Rattle.pix_table.specs.declared.diffuse.ScanOrder.TheVariants.{LeftToRight, Serpentine}
use Rattle.pix_table.specs.declared.diffuse.diffused_color.ColorError.{ColorError}
use Rattle.pix_table.specs.declared.diffuse.diffused_color.NeighborErrors.{NeighborErrors}
use Rattle.pix_table.proofs.lemmas.diffuse.ScanOrders.{above_before, same_begin, goes_on, at_end, places_apart}
use Rattle.pix_table.proofs.Rows.{next_in_turn}

-- with one color more
pub latest_more : (scan : ScanOrder) (all : List (List ℕ)) (w : List ℕ) (width first count : ℕ) (xs : List (List ℕ)) → count < width → length all ≡ first + count → length xs ≡ width
    → AreLatest scan all width first count xs → AreLatest scan (all ++ w ∷ []) width first (count + 1) (set xs count w)
latest_more scan all w width first count xs some many long h = record {
  row = λ p before inside. elim (cases_lt p count) [
    | inl b ↦
        let other : p ≢ count = λ e. absurd (omega arith) in
        get_or-set_other xs count p w [] other ∙ h.row p b inside ∙ sym (get_or_append_left all (w ∷ []) [] (first + p) (omega arith))
    | inr b ↦
        let e : count ≡ p = omega arith in
        subst (λ i. get_or (set xs count w) i [] ≡ get_or (all ++ w ∷ []) (first + i) []) e
        (get_or-set_same xs count w [] (omega arith) ∙ sym (get_or_push all w [] (first + count) many))
  ];
  above = λ p after inside past.
      let other : p ≢ count = λ e. absurd (omega arith) in
      get_or-set_other xs count p w [] other ∙ h.above p (omega arith) inside past
      ∙ sym (get_or_append_left all (w ∷ []) [] (number_above scan width first p) (omega (arith, many, above_before scan width first p inside past)));
}

-- the same within a row, at the next pixel
pub on_in_row : (scan : ScanOrder) (all : List (List ℕ)) (width k next : ℕ) (xs : List (List ℕ)) → 0 < width → next ≡ (k + 1) % width → 0 < next
    → AreLatest scan all width (k - k % width) (k % width + 1) xs → AreLatest scan all width (k + 1 - next) next xs
on_in_row scan all width k next xs some is on h =
    let inside : k % width + 1 < width = goes_on k width some (omega (arith, is)) in
    let place : k % width + 1 ≡ next = next_in_turn k width (k % width) refl inside ∙ sym is in
    let begin : k - k % width ≡ k + 1 - next = sym (same_begin k width inside) ∙ ap (λ n. k + 1 - n) (sym is) in
    subst (λ f. AreLatest scan all width f next xs) begin (subst (λ p. AreLatest scan all width (k - k % width) p xs) place h)

-- a whole row is above the next one: from left to right, and in the other order
pub straight_on : (all : List (List ℕ)) (width k next : ℕ) (xs : List (List ℕ)) → 0 < width → next ≡ (k + 1) % width → next ≡ 0
    → AreLatest LeftToRight all width (k - k % width) (k % width + 1) xs → AreLatest LeftToRight all width (k + 1 - next) next xs
straight_on all width k next xs some is end h =
    let whole : k % width + 1 ≡ width = at_end k width some (sym is ∙ end) in
    record {
      row = λ p before inside. absurd (omega arith);
      above = λ p after inside past. h.row p (omega arith) inside ∙ ap (λ i. get_or all i []) (omega (arith, mod-le k width));
    }

map_aux : {X : Type 0} (f : X → List ℕ) (xs ys : List X) → map f (reverse_aux xs ys) ≡ reverse_aux (map f xs) (map f ys)
map_aux f [] ys = refl
map_aux f (x ∷ xs) ys = map_aux f xs (x ∷ ys)

pub turned_round : {X : Type 0} (f : X → List ℕ) (all : List (List ℕ)) (width k next : ℕ) (xs ys : List X) → 0 < width → next ≡ (k + 1) % width → next ≡ 0 → length xs ≡ width → ys ≡ reverse xs
    → AreLatest Serpentine all width (k - k % width) (k % width + 1) (map f xs) → AreLatest Serpentine all width (k + 1 - next) next (map f ys)
turned_round f all width k next xs ys some is end long turned h =
    let whole : k % width + 1 ≡ width = at_end k width some (sym is ∙ end) in
    let same : map f ys ≡ reverse (map f xs) = ap (map f) turned ∙ map_aux f xs [] in
    let many : length (map f xs) ≡ width = length-map xs f ∙ long in
    record {
      row = λ p before inside. absurd (omega arith);
      above = λ p after inside past. ap (λ l. get_or l p []) same ∙ get_or-reverse (map f xs) p [] (omega (arith, many))
          ∙ h.row (length (map f xs) - 1 - p) (omega (arith, many)) (omega (arith, many))
          ∙ ap (λ i. get_or all i []) (omega (arith, many, mod-le k width));
    }

-- what is said of the last colors with one more, where it is said of the colors that have these numbers
pub turned_as : {X : Type 0} (f : X → List ℕ) (scan : ScanOrder) (width k next column : ℕ) (xs ys zs : List X) (x : X) (w : List ℕ) → ys ≡ set xs column x → column ≡ k % width → f x ≡ w → next ≡ (k + 1) % width
    → ((all : List (List ℕ)) → AreLatest scan all width (k - k % width) (k % width + 1) (map f ys) → AreLatest scan all width (k + 1 - next) next (map f zs))
    → (all : List (List ℕ)) → AreLatest scan all width (k - k % width) (k % width + 1) (set (map f xs) (k % width) w)
    → AreLatest scan all width (k + 1 - (k + 1) % width) ((k + 1) % width) (map f zs)
turned_as f scan width k next column xs ys zs x w is place number after turned =
    let e : map f ys ≡ set (map f xs) (k % width) w =
    ap (map f) is ∙ map-set f xs column x ∙ ap (λ n. set (map f xs) n (f x)) place ∙ ap (λ v. set (map f xs) (k % width) v) number in
    λ all h. subst (λ n. AreLatest scan all width (k + 1 - n) n (map f zs)) after
    (turned all (subst (λ l. AreLatest scan all width (k - k % width) (k % width + 1) l) (sym e) h))

-- so many sixteenths are so many times one
scaled : (there : Bool) (n : ℕ) (color : List ℕ) (c : ℕ) → part there n color c ≡ n * part there 1 color c
scaled true n color c = ap (λ x. n * x) (omega arith)
scaled false n color c = omega arith

-- the sums of four errors, each of which is 255 too great, and of the parts of four colors
sum_of : (scan : ScanOrder) (left left_above above right_above a b c d w x y z : ℕ) → left + a ≡ 255 + w → left_above + b ≡ 255 + x → above + c ≡ 255 + y → right_above + d ≡ 255 + z
    → 7 * left + share_before scan * left_above + 5 * above + share_next scan * right_above + (7 * a + share_before scan * b + 5 * c + share_next scan * d)
    ≡ 4080 + (7 * w + share_before scan * x + 5 * y + share_next scan * z)
sum_of LeftToRight left left_above above right_above a b c d w x y z e f g h = omega arith
sum_of Serpentine left left_above above right_above a b c d w x y z e f g h = omega arith

-- a pixel's share is that of four parts
pub in_parts : (scan : ScanOrder) (colors : List (List ℕ)) (width first place c : ℕ)
    → handed scan width colors first place c
    ≡ 7 * part (nat_lt 0 place) 1 (get_or colors (first + place - 1) []) c
    + share_before scan * part (nat_lt 0 place && nat_le width first) 1 (get_or colors (number_above scan width first (place - 1)) []) c
    + 5 * part (nat_le width first) 1 (get_or colors (number_above scan width first place) []) c
    + share_next scan * part (nat_lt (place + 1) width && nat_le width first) 1 (get_or colors (number_above scan width first (place + 1)) []) c
in_parts scan colors width first place c =
    ap₂ (λ x y. x + y)
    (ap₂ (λ x y. x + y)
    (ap₂ (λ x y. x + y) (scaled (nat_lt 0 place) 7 (get_or colors (first + place - 1) []) c)
    (scaled (nat_lt 0 place && nat_le width first) (share_before scan) (get_or colors (number_above scan width first (place - 1)) []) c))
    (scaled (nat_le width first) 5 (get_or colors (number_above scan width first place) []) c))
    (scaled (nat_lt (place + 1) width && nat_le width first) (share_next scan) (get_or colors (number_above scan width first (place + 1)) []) c)

-- what a pixel gets in a channel of the four errors around it, each of which is 255 too great
pub together : (scan : ScanOrder) (ws gs : List (List ℕ)) (width first place c left left_above above right_above : ℕ)
    → left + part (nat_lt 0 place) 1 (get_or gs (first + place - 1) []) c ≡ 255 + part (nat_lt 0 place) 1 (get_or ws (first + place - 1) []) c
    → left_above + part (nat_lt 0 place && nat_le width first) 1 (get_or gs (number_above scan width first (place - 1)) []) c
    ≡ 255 + part (nat_lt 0 place && nat_le width first) 1 (get_or ws (number_above scan width first (place - 1)) []) c
    → above + part (nat_le width first) 1 (get_or gs (number_above scan width first place) []) c
    ≡ 255 + part (nat_le width first) 1 (get_or ws (number_above scan width first place) []) c
    → right_above + part (nat_lt (place + 1) width && nat_le width first) 1 (get_or gs (number_above scan width first (place + 1)) []) c
    ≡ 255 + part (nat_lt (place + 1) width && nat_le width first) 1 (get_or ws (number_above scan width first (place + 1)) []) c
    → 7 * left + share_before scan * left_above + 5 * above + share_next scan * right_above + handed scan width gs first place c ≡ 4080 + handed scan width ws first place c
together scan ws gs width first place c left left_above above right_above a b d e =
    ap (λ x. 7 * left + share_before scan * left_above + 5 * above + share_next scan * right_above + x) (in_parts scan gs width first place c)
    ∙ sum_of scan left left_above above right_above _ _ _ _ _ _ _ _ a b d e
    ∙ ap (λ x. 4080 + x) (sym (in_parts scan ws width first place c))

-- the same sum by another name
pub in_channel : (h s f w : ℕ) → h ≡ s → s + f ≡ 4080 + w → h + f ≡ 4080 + w
in_channel h s f w e all = omega arith

-- no error where a color is both wanted and found
pub no_miss : (color : List ℕ) → IsColorError true color color (record { red = 255; green = 255; blue = 255; alpha = 255; spare = 0 })
no_miss color = record { red = refl; green = refl; blue = refl; alpha = refl }

-- the same error, of the same pixel if it is there
pub moved : (s t : Bool) (w f x g : List ℕ) (miss : ColorError) → t ≡ s → (t ≡ true → x ≡ w) → (t ≡ true → g ≡ f) → IsColorError s w f miss → IsColorError t x g miss
moved true true w f x g miss e a b h = subst (λ y. IsColorError true y g miss) (sym (a refl)) (subst (λ y. IsColorError true w y miss) (sym (b refl)) h)
moved false false w f x g miss e a b h = record { red = h.red; green = h.green; blue = h.blue; alpha = h.alpha }
moved true false w f x g miss e a b h = cc
moved false true w f x g miss e a b h = cc

-- an error above a row stays when one color comes after it
kept_above : (scan : ScanOrder) (ws gs : List (List ℕ)) (w g : List ℕ) (width first p place : ℕ) (s t : Bool) (miss : ColorError) → p < width → length ws ≡ first + place → length gs ≡ first + place
    → t ≡ s → (t ≡ true → width ≤ first) → IsColorError s (get_or ws (number_above scan width first p) []) (get_or gs (number_above scan width first p) []) miss
    → IsColorError t (get_or (ws ++ w ∷ []) (number_above scan width first p) []) (get_or (gs ++ g ∷ []) (number_above scan width first p) []) miss
kept_above scan ws gs w g width first p place s t miss inside many_wanted many_found e there h =
    moved s t _ _ _ _ miss e
    (λ y. get_or_append_left ws (w ∷ []) [] (number_above scan width first p) (omega (arith, above_before scan width first p inside (there y))))
    (λ y. get_or_append_left gs (g ∷ []) [] (number_above scan width first p) (omega (arith, above_before scan width first p inside (there y)))) h

-- what is near the next pixel of a row
near_more : (scan : ScanOrder) (ws gs : List (List ℕ)) (w g : List ℕ) (width first place : ℕ) (near : NeighborErrors) (left right_above : ColorError)
    → length ws ≡ first + place → length gs ≡ first + place → place + 1 < width
    → AreNeighborErrors scan ws gs width first place near → IsColorErrorAbove scan ws gs width first place right_above → IsColorError true w g left
    → AreNeighborErrors scan (ws ++ w ∷ []) (gs ++ g ∷ []) width first (place + 1) (record { left = left; left_above = near.above; above = right_above })
near_more scan ws gs w g width first place near left right_above many_wanted many_found inside h above here =
    let begun : nat_lt 0 (place + 1) ≡ true = lt-ltb 0 (place + 1) (omega arith) in
    let inner : nat_lt (place + 1) width ≡ true = lt-ltb (place + 1) width inside in
    let last : first + (place + 1) - 1 ≡ first + place = omega arith in
    let before : place + 1 - 1 ≡ place = omega arith in
    let row : nat_lt 0 (place + 1) && nat_le width first ≡ nat_le width first = rw begun refl in
    let up : nat_le width first ≡ nat_lt (place + 1) width && nat_le width first = rw inner refl in
    record {
      left = moved true _ w g _ _ left begun (λ t. ap (λ n. get_or (ws ++ w ∷ []) n []) last ∙ get_or_push ws w [] (first + place) many_wanted)
          (λ t. ap (λ n. get_or (gs ++ g ∷ []) n []) last ∙ get_or_push gs g [] (first + place) many_found) here;
      left_above = subst (λ q. IsColorError (nat_lt 0 (place + 1) && nat_le width first) (get_or (ws ++ w ∷ []) (number_above scan width first q) [])
          (get_or (gs ++ g ∷ []) (number_above scan width first q) []) near.above) (sym before)
          (kept_above scan ws gs w g width first place place _ _ near.above (omega arith) many_wanted many_found row
          (λ t. leb-true width first (sym row ∙ t)) h.above);
      above = kept_above scan ws gs w g width first (place + 1) place _ _ right_above inside many_wanted many_found up (λ t. leb-true width first t) above;
    }

pub none_done : (color : (ℕ → ℕ) → List ℕ) (apart : List ℕ → List ℕ → ℕ) (scan : ScanOrder) (bound strength : ℕ) (entries : List (List ℕ)) (alpha transparent_index width : ℕ) (pixels wanted found : List (List ℕ)) (near : NeighborErrors) (indices : List ℕ) → 0 < width
    → AreDone color apart scan bound strength entries alpha transparent_index width pixels 0 wanted found near indices
none_done color apart scan bound strength entries alpha transparent_index width pixels wanted found near indices some = record {
  all_wanted = [];
  all_found = [];
  along = [];
  diffused = none;
  many = refl;
  many_wanted = refl;
  many_found = refl;
  last_wanted = record { row = λ p before inside. absurd (omega (arith, zero-mod width)); above = λ p after inside past. absurd (omega (arith, zero-mod width)) };
  last_found = record { row = λ p before inside. absurd (omega (arith, zero-mod width)); above = λ p after inside past. absurd (omega (arith, zero-mod width)) };
  near_within = λ within. absurd (omega (arith, zero-mod width));
  each = λ j before. absurd (omega arith);
}

module _ (color : (ℕ → ℕ) → List ℕ) (apart : List ℕ → List ℕ → ℕ) (scan : ScanOrder) (bound strength : ℕ) (entries : List (List ℕ)) (alpha transparent_index width : ℕ) (pixels : List (List ℕ)) (k : ℕ)
    (wanted found : List (List ℕ)) (near around : NeighborErrors) (indices : List ℕ) (right_above left : ColorError)
    (some : 0 < width) (inside : in_picture scan width k < length indices) (long_wanted : length wanted ≡ width) (long_found : length found ≡ width)
    (h : AreDone color apart scan bound strength entries alpha transparent_index width pixels k wanted found near indices)
    (is_around : AreNeighborErrors scan h.all_wanted h.all_found width (k - k % width) (k % width) around)
    (is_above : IsColorErrorAbove scan h.all_wanted h.all_found width (k - k % width) (k % width) right_above) where
  -- with a color that is wanted, one that is found, and an index more; the rows are put in the order of
  -- the next pixel
  more : (w g : List ℕ) (i : ℕ) (next_wanted next_found : List (List ℕ))
      → IsDiffused color apart scan bound strength entries alpha transparent_index width pixels (h.all_wanted ++ w ∷ []) (h.all_found ++ g ∷ []) (h.along ++ i ∷ [])
      → IsColorError true w g left
      → ((ws : List (List ℕ)) → AreLatest scan ws width (k - k % width) (k % width + 1) (set wanted (k % width) w)
      → AreLatest scan ws width (k + 1 - (k + 1) % width) ((k + 1) % width) next_wanted)
      → ((gs : List (List ℕ)) → AreLatest scan gs width (k - k % width) (k % width + 1) (set found (k % width) g)
      → AreLatest scan gs width (k + 1 - (k + 1) % width) ((k + 1) % width) next_found)
      → AreDone color apart scan bound strength entries alpha transparent_index width pixels (k + 1) next_wanted next_found
      (record { left = left; left_above = around.above; above = right_above }) (set indices (in_picture scan width k) i)
  more w g i next_wanted next_found diffused missed turned_wanted turned_found =
      let here : k ≡ k - k % width + k % width = omega (arith, mod-le k width) in
      let column : k % width < width = mod-lt k {m = width} some in
      record {
        all_wanted = h.all_wanted ++ w ∷ [];
        all_found = h.all_found ++ g ∷ [];
        along = h.along ++ i ∷ [];
        diffused = diffused;
        many = omega (arith, length-append h.along (i ∷ []), h.many);
        many_wanted = omega (arith, length-append h.all_wanted (w ∷ []), h.many_wanted);
        many_found = omega (arith, length-append h.all_found (g ∷ []), h.many_found);
        last_wanted = turned_wanted (h.all_wanted ++ w ∷ [])
            (latest_more scan h.all_wanted w width (k - k % width) (k % width) wanted column (h.many_wanted ∙ here) long_wanted h.last_wanted);
        last_found = turned_found (h.all_found ++ g ∷ [])
            (latest_more scan h.all_found g width (k - k % width) (k % width) found column (h.many_found ∙ here) long_found h.last_found);
        near_within = λ within.
            let on : k % width + 1 < width = goes_on k width some within in
            let begin : k + 1 - (k + 1) % width ≡ k - k % width = same_begin k width on in
            let place : (k + 1) % width ≡ k % width + 1 = sym (next_in_turn k width (k % width) refl on) in
            subst (λ f. AreNeighborErrors scan (h.all_wanted ++ w ∷ []) (h.all_found ++ g ∷ []) width f ((k + 1) % width)
            (record { left = left; left_above = around.above; above = right_above })) (sym begin)
            (subst (λ p. AreNeighborErrors scan (h.all_wanted ++ w ∷ []) (h.all_found ++ g ∷ []) width (k - k % width) p
            (record { left = left; left_above = around.above; above = right_above })) (sym place)
            (near_more scan h.all_wanted h.all_found w g width (k - k % width) (k % width) around left right_above (h.many_wanted ∙ here) (h.many_found ∙ here) on
            is_around is_above missed));
        each = λ j before. elim (cases_lt j k) [
          | inl b ↦ get_or-set_other indices (in_picture scan width k) (in_picture scan width j) i 0 (places_apart scan width j k some b)
              ∙ h.each j b ∙ sym (get_or_append_left h.along (i ∷ []) 0 j (omega (arith, h.many)))
          | inr b ↦
              let e : k ≡ j = omega arith in
              subst (λ n. get_or (set indices (in_picture scan width k) i) (in_picture scan width n) 0 ≡ get_or (h.along ++ i ∷ []) n 0) e
              (get_or-set_same indices (in_picture scan width k) i 0 inside ∙ sym (get_or_push h.along i 0 k h.many))
        ];
      }

  pub clear_done : (next_wanted next_found : List (List ℕ)) → IsColorError true (color (λ c. 0)) (color (λ c. 0)) left
      → alpha_of (get_or pixels (in_picture scan width k) []) < alpha
      → ((ws : List (List ℕ)) → AreLatest scan ws width (k - k % width) (k % width + 1) (set wanted (k % width) (color (λ c. 0)))
      → AreLatest scan ws width (k + 1 - (k + 1) % width) ((k + 1) % width) next_wanted)
      → ((gs : List (List ℕ)) → AreLatest scan gs width (k - k % width) (k % width + 1) (set found (k % width) (color (λ c. 0)))
      → AreLatest scan gs width (k + 1 - (k + 1) % width) ((k + 1) % width) next_found)
      → AreDone color apart scan bound strength entries alpha transparent_index width pixels (k + 1) next_wanted next_found
      (record { left = left; left_above = around.above; above = right_above }) (set indices (in_picture scan width k) transparent_index)
  clear_done next_wanted next_found missed below turned_wanted turned_found =
      more (color (λ c. 0)) (color (λ c. 0)) transparent_index next_wanted next_found
      (clear h.all_wanted h.all_found h.along h.diffused (subst (λ n. alpha_of (get_or pixels (in_picture scan width n) []) < alpha) (sym h.many) below))
      missed turned_wanted turned_found

  pub shown_done : (w g : List ℕ) (i : ℕ) (next_wanted next_found : List (List ℕ))
      → w ≡ wanted_at color scan strength width h.all_wanted h.all_found (k - k % width) (k % width) (get_or pixels (in_picture scan width k) [])
      → alpha ≤ alpha_of (get_or pixels (in_picture scan width k) []) → IsNearestBy apart entries w i → g ≡ held_to bound w (get_or entries i []) → IsColorError true w g left
      → ((ws : List (List ℕ)) → AreLatest scan ws width (k - k % width) (k % width + 1) (set wanted (k % width) w)
      → AreLatest scan ws width (k + 1 - (k + 1) % width) ((k + 1) % width) next_wanted)
      → ((gs : List (List ℕ)) → AreLatest scan gs width (k - k % width) (k % width + 1) (set found (k % width) g)
      → AreLatest scan gs width (k + 1 - (k + 1) % width) ((k + 1) % width) next_found)
      → AreDone color apart scan bound strength entries alpha transparent_index width pixels (k + 1) next_wanted next_found
      (record { left = left; left_above = around.above; above = right_above }) (set indices (in_picture scan width k) i)
  shown_done w g i next_wanted next_found is above nearest entry missed turned_wanted turned_found =
      more w g i next_wanted next_found
      (subst (λ f. IsDiffused color apart scan bound strength entries alpha transparent_index width pixels (h.all_wanted ++ w ∷ []) (h.all_found ++ f ∷ []) (h.along ++ i ∷ [])) (sym entry)
      (shown h.all_wanted h.all_found h.along w i h.diffused
      (subst (λ n. alpha ≤ alpha_of (get_or pixels (in_picture scan width n) [])) (sym h.many) above)
      (subst (λ n. w ≡ wanted_at color scan strength width h.all_wanted h.all_found (n - n % width) (n % width) (get_or pixels (in_picture scan width n) [])) (sym h.many) is)
      nearest))
      missed turned_wanted turned_found

-- the same lists are done alike
pub alike : (color : (ℕ → ℕ) → List ℕ) (apart : List ℕ → List ℕ → ℕ) (scan : ScanOrder) (bound strength : ℕ) (entries : List (List ℕ)) (alpha transparent_index width : ℕ) (pixels : List (List ℕ)) (k : ℕ)
    (ws gs : List (List ℕ)) (near : NeighborErrors) (is js : List ℕ) → js ≡ is
    → AreDone color apart scan bound strength entries alpha transparent_index width pixels k ws gs near is → AreDone color apart scan bound strength entries alpha transparent_index width pixels k ws gs near js
alike color apart scan bound strength entries alpha transparent_index width pixels k ws gs near is js e h =
    subst (λ j. AreDone color apart scan bound strength entries alpha transparent_index width pixels k ws gs near j) (sym e) h
