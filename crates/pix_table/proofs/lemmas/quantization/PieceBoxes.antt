-- Pieces of a list of colors, and their boxes.
use Rattle.std.specs.List.{AllZip}
use Rattle.std.specs.Prelude.{Option, Some, None, IfSome}
use Rattle.std.proofs.Common.{◌≡◌, ◌⊎◌, inl, inr, ℕ, ◌+◌, ◌<◌, ◌≤◌, List, [], ◌∷◌, ◌++◌, length, map, take, drop, set, get_or, All, refl, arith, sym, ap, ap₂, ◌∙◌, subst, take-append-drop, length-append, length-drop, length-take, take_all}
use Rattle.std.proofs.lemmas.List.{length-map, drop-drop, drop_at, take-append-le, drop-append-le, drop_more, map-append, take_more, take_more_set}
use Rattle.std.proofs.lemmas.List.Elements.{All-cons, All-nil, All-head, All-tail, All-append, All-take, All-drop}
use Rattle.std.proofs.lemmas.List.Sums.{sum_by-cons, sum_by-append, sum_by_more_le}
use Rattle.pix_table.specs.quantization.Places.{CannotBeCutBy, HasBestBy, IsBestPlaceBy, IsCutBy, gain_by}
use Rattle.pix_table.specs.quantization.Cut.{AreBoxesBy, IsNextCutBy, one, cut}
use Rattle.pix_table.specs.quantization.Pieces.{ArePieces, AreWhole, IsKnown, IsNext, IsPlaceOf, boxes_of, total}
use Rattle.pix_table.specs.declared.quantization.pieces.Piece.{Piece}
use Rattle.pix_table.specs.declared.quantization.pieces.Next.{Next}
use Rattle.pix_table.specs.declared.quantization.place.Place.{Place}

-- there are as many boxes as pieces
pub length-boxes : {X : Type 0} (numbers : X → List ℕ) (xs : List X) (ps : List Piece) → length (boxes_of numbers xs ps) ≡ length ps
length-boxes numbers xs [] = refl
length-boxes numbers xs (p ∷ ps) = let e = length-boxes numbers (drop p.len xs) ps in omega (arith, e)

-- the boxes of two lists of pieces
pub boxes_joined : {X : Type 0} (numbers : X → List ℕ) (xs : List X) (ls rs : List Piece) → boxes_of numbers xs (ls ++ rs) ≡ boxes_of numbers xs ls ++ boxes_of numbers (drop (total ls) xs) rs
boxes_joined numbers xs [] rs = refl
boxes_joined numbers xs (p ∷ ls) rs =
    let after : drop (total ls) (drop p.len xs) ≡ drop (total (p ∷ ls)) xs =
    drop-drop (total ls) p.len xs ∙ ap (λ n. drop n xs) (sym (sum_by-cons (λ (q : Piece). q.len) p ls)) in
    ap (λ bs. map numbers (take p.len xs) ∷ bs)
    (boxes_joined numbers (drop p.len xs) ls rs ∙ ap (λ l. boxes_of numbers (drop p.len xs) ls ++ boxes_of numbers l rs) after)

-- colors past the pieces do not count
boxes_front : {X : Type 0} (numbers : X → List ℕ) (xs ys : List X) (ps : List Piece) → total ps ≤ length xs → boxes_of numbers (xs ++ ys) ps ≡ boxes_of numbers xs ps
boxes_front numbers xs ys [] h = refl
boxes_front {X = X} numbers xs ys (p ∷ ps) h =
    let sum : total (p ∷ ps) ≡ p.len + total ps = sum_by-cons (λ (q : Piece). q.len) p ps in
    let fit : p.len ≤ length xs = omega (arith, sum, h) in
    ap₂ (λ (b : List X) (bs : List (List (List ℕ))). map numbers b ∷ bs) (take-append-le p.len xs ys fit)
    (ap (λ l. boxes_of numbers l ps) (drop-append-le p.len xs ys fit)
    ∙ boxes_front numbers (drop p.len xs) ys ps (omega (arith, length-drop p.len xs, sum, h)))

boxes-append : {X : Type 0} (numbers : X → List ℕ) (xs ys : List X) (ls rs : List Piece) → total ls ≡ length xs → boxes_of numbers (xs ++ ys) (ls ++ rs) ≡ boxes_of numbers xs ls ++ boxes_of numbers ys rs
boxes-append numbers xs ys ls rs e =
    boxes_joined numbers (xs ++ ys) ls rs
    ∙ ap₂ (λ (b c : List (List (List ℕ))). b ++ c) (boxes_front numbers xs ys ls (omega (arith, e))) (ap (λ l. boxes_of numbers l rs) (drop_at xs ys (total ls) (sym e)))

-- the boxes of pieces among others
boxes_around : {X : Type 0} (numbers : X → List ℕ) (a m z : List X) (ls mids rs : List Piece) → total ls ≡ length a → total mids ≡ length m
    → boxes_of numbers (a ++ (m ++ z)) (ls ++ (mids ++ rs)) ≡ boxes_of numbers a ls ++ (boxes_of numbers m mids ++ boxes_of numbers z rs)
boxes_around numbers a m z ls mids rs e g = boxes-append numbers a (m ++ z) ls (mids ++ rs) e ∙ ap (λ l. boxes_of numbers a ls ++ l) (boxes-append numbers m z mids rs g)

-- what holds of each pair of two lists holds of those of their parts, and the other way round
zip_front : {X Y : Type 0} (R : X → Y → Type 0) (bs cs : List X) (ps qs : List Y) → length bs ≡ length ps → AllZip R (bs ++ cs) (ps ++ qs) → AllZip R bs ps
zip_front R [] cs [] qs e h = tt
zip_front R [] cs (p ∷ ps) qs e h = absurd (omega arith)
zip_front R (b ∷ bs) cs [] qs e h = absurd (omega arith)
zip_front R (b ∷ bs) cs (p ∷ ps) qs e h = (h.0, zip_front R bs cs ps qs (omega arith) h.1)

zip_back : {X Y : Type 0} (R : X → Y → Type 0) (bs cs : List X) (ps qs : List Y) → length bs ≡ length ps → AllZip R (bs ++ cs) (ps ++ qs) → AllZip R cs qs
zip_back R [] cs [] qs e h = h
zip_back R [] cs (p ∷ ps) qs e h = absurd (omega arith)
zip_back R (b ∷ bs) cs [] qs e h = absurd (omega arith)
zip_back R (b ∷ bs) cs (p ∷ ps) qs e h = zip_back R bs cs ps qs (omega arith) h.1

pub zip-append : {X Y : Type 0} (R : X → Y → Type 0) (bs cs : List X) (ps qs : List Y) → AllZip R bs ps → AllZip R cs qs → AllZip R (bs ++ cs) (ps ++ qs)
zip-append R [] cs [] qs h g = g
zip-append R [] cs (p ∷ ps) qs h g = absurd h
zip-append R (b ∷ bs) cs [] qs h g = absurd h
zip-append R (b ∷ bs) cs (p ∷ ps) qs h g = (h.0, zip-append R bs cs ps qs h.1 g)

-- what a cut of a box gains at most
below_most : (x most top : ℕ) → x ≤ most → most < top → x < top
below_most x most top h g = omega arith

within_most : (x most top : ℕ) → x ≤ most → most ≤ top → x ≤ top
within_most x most top h g = omega arith

-- the boxes of one piece more
pub boxes_more : {X : Type 0} (numbers : X → List ℕ) (xs : List X) (ps : List Piece) (i : ℕ) (d : Piece) → i < length ps
    → boxes_of numbers xs (take (i + 1) ps) ≡ boxes_of numbers xs (take i ps) ++ map numbers (take (get_or ps i d).len (drop (total (take i ps)) xs)) ∷ []
boxes_more numbers xs ps i d inside =
    ap (boxes_of numbers xs) (take_more ps i d inside) ∙ boxes_joined numbers xs (take i ps) (get_or ps i d ∷ [])

-- pieces of colors of some kind
module _ {X : Type 0} (numbers : X → List ℕ) (channels : ℕ) (weigh : List (List ℕ) → ℕ) where
  gain_below : (top : ℕ) (b : List (List ℕ)) (o : Option Place) → IsPlaceOf channels weigh b o → IfSome o (λ p. p.gain < top)
      → (c v : ℕ) (l h : List (List ℕ)) → IsCutBy channels b c v l h → gain_by weigh b l h < top
  gain_below top b None known less c v l h is = absurd (known c v l h is)
  gain_below top b (Some p) known less c v l h is = below_most _ _ _ (known.place.best c v l h is) less

  gain_within : (top : ℕ) (b : List (List ℕ)) (o : Option Place) → IsPlaceOf channels weigh b o → IfSome o (λ p. p.gain ≤ top)
      → (c v : ℕ) (l h : List (List ℕ)) → IsCutBy channels b c v l h → gain_by weigh b l h ≤ top
  gain_within top b None known less c v l h is = absurd (known c v l h is)
  gain_within top b (Some p) known less c v l h is = within_most _ _ _ (known.place.best c v l h is) less

  -- what holds of each box, since it holds of what its piece knows
  from_known : (Q : Option Place → Type 0) (P : List (List ℕ) → Type 0) → ((b : List (List ℕ)) (o : Option Place) → IsPlaceOf channels weigh b o → Q o → P b)
      → (bs : List (List (List ℕ))) (ps : List Piece) → AllZip (IsKnown channels weigh) bs ps → All (λ p. Q p.place) ps → All P bs
  from_known Q P f [] ps h g = All-nil P
  from_known Q P f (b ∷ bs) [] h g = absurd h
  from_known Q P f (b ∷ bs) (p ∷ ps) h g =
      All-cons P b bs (f b p.place h.0 (All-head (λ q. Q q.place) p ps g)) (from_known Q P f bs ps h.1 (All-tail (λ q. Q q.place) p ps g))

  -- the piece that is cut next, in the place of which two come
  module _ (xs : List X) (ps : List Piece) (next : Next) (d : Piece) (n : ℕ) (stand : ArePieces channels weigh numbers xs ps) (is : IsNext ps next)
      (long : n ≡ (get_or ps next.at d).len) where
    abbrev here : Piece
    here = get_or ps next.at d

    abbrev ls : List Piece
    ls = take next.at ps

    abbrev rs : List Piece
    rs = drop (next.at + 1) ps

    abbrev before : List X
    before = take next.start xs

    abbrev inside : List X
    inside = take n (drop next.start xs)

    abbrev after : List X
    after = drop n (drop next.start xs)

    all_pieces : ls ++ here ∷ rs ≡ ps
    all_pieces = ap (λ l. ls ++ l) (sym (drop_more ps next.at d is.stands)) ∙ take-append-drop next.at ps

    all_colors : before ++ (inside ++ after) ≡ xs
    all_colors = ap (λ l. before ++ l) (take-append-drop n (drop next.start xs)) ∙ take-append-drop next.start xs

    pub next_within : next.start + n ≤ length xs
    next_within =
        let sum = sum_by_more_le (λ (p : Piece). p.len) ps next.at d is.stands in
        omega (arith, sum, is.start, long, stand.all)

    before_long : total ls ≡ length before
    before_long = omega (arith, length-take next.start xs, is.start, next_within)

    inside_long : length inside ≡ n
    inside_long = omega (arith, length-take n (drop next.start xs), length-drop next.start xs, next_within)

    inside_whole : take here.len inside ≡ inside
    inside_whole = take_all here.len inside (omega (arith, inside_long, long))

    old_boxes : boxes_of numbers xs ps ≡ boxes_of numbers before ls ++ map numbers inside ∷ boxes_of numbers after rs
    old_boxes =
        let one : total (here ∷ []) ≡ length inside = omega (arith, sum_by-cons (λ (p : Piece). p.len) here [], inside_long, long) in
        ap₂ (λ (l : List X) (k : List Piece). boxes_of numbers l k) (sym all_colors) (sym all_pieces)
        ∙ boxes_around numbers before inside after ls (here ∷ []) rs before_long one
        ∙ ap (λ b. boxes_of numbers before ls ++ map numbers b ∷ boxes_of numbers after rs) inside_whole

    old_known : AllZip (IsKnown channels weigh) (boxes_of numbers before ls ++ map numbers inside ∷ boxes_of numbers after rs) (ls ++ here ∷ rs)
    old_known = subst (λ bs. AllZip (IsKnown channels weigh) bs (ls ++ here ∷ rs)) old_boxes (subst (λ l. AllZip (IsKnown channels weigh) (boxes_of numbers xs ps) l) (sym all_pieces) stand.known)

    known_before : AllZip (IsKnown channels weigh) (boxes_of numbers before ls) ls
    known_before = zip_front (IsKnown channels weigh) (boxes_of numbers before ls) (map numbers inside ∷ boxes_of numbers after rs) ls (here ∷ rs) (length-boxes numbers before ls) old_known

    known_rest : AllZip (IsKnown channels weigh) (map numbers inside ∷ boxes_of numbers after rs) (here ∷ rs)
    known_rest = zip_back (IsKnown channels weigh) (boxes_of numbers before ls) (map numbers inside ∷ boxes_of numbers after rs) ls (here ∷ rs) (length-boxes numbers before ls) old_known

    pub next_known : HasBestBy channels weigh (map numbers inside) next.place.channel next.place.value next.place.gain
    next_known = subst (IsPlaceOf channels weigh (map numbers inside)) (is.place d) known_rest.0

    module _ (mid : List X) (low high : Piece) (same : length mid ≡ length inside) (all : low.len + high.len ≡ length mid)
        (low_known : IsKnown channels weigh (map numbers (take low.len mid)) low) (high_known : IsKnown channels weigh (map numbers (drop low.len mid)) high)
        (parted : IsCutBy channels (map numbers inside) next.place.channel next.place.value (map numbers (take low.len mid)) (map numbers (drop low.len mid))) where
      next_stands : IsNextCutBy channels weigh (boxes_of numbers before ls) (map numbers inside) (map numbers (take low.len mid)) (map numbers (drop low.len mid)) (boxes_of numbers after rs)
      next_stands =
          let top : ℕ = next.place.gain in
          let gains : gain_by weigh (map numbers inside) (map numbers (take low.len mid)) (map numbers (drop low.len mid)) ≡ next.place.gain = next_known.gains _ _ parted in
          record {
            channel = next.place.channel;
            value = next.place.value;
            cut = parted;
            place = subst (IsBestPlaceBy channels weigh (map numbers inside) next.place.channel next.place.value) (sym gains) next_known.place;
            best = subst (λ (g : ℕ). All (λ b. (c v : ℕ) (l h : List (List ℕ)) → IsCutBy channels b c v l h → gain_by weigh b l h ≤ g) (boxes_of numbers after rs)) (sym gains)
                (from_known (λ o. IfSome o (λ p. p.gain ≤ next.place.gain)) (λ b. (c v : ℕ) (l h : List (List ℕ)) → IsCutBy channels b c v l h → gain_by weigh b l h ≤ next.place.gain)
                (gain_within next.place.gain) (boxes_of numbers after rs) rs known_rest.1
                (All-drop (λ p. IfSome p.place (λ q. q.gain ≤ next.place.gain)) (next.at + 1) ps is.best));
            first = subst (λ (g : ℕ). All (λ b. (c v : ℕ) (l h : List (List ℕ)) → IsCutBy channels b c v l h → gain_by weigh b l h < g) (boxes_of numbers before ls)) (sym gains)
                (from_known (λ o. IfSome o (λ p. p.gain < next.place.gain)) (λ b. (c v : ℕ) (l h : List (List ℕ)) → IsCutBy channels b c v l h → gain_by weigh b l h < next.place.gain)
                (gain_below next.place.gain) (boxes_of numbers before ls) ls known_before is.first);
          }

      new_boxes : boxes_of numbers (before ++ (mid ++ after)) (ls ++ low ∷ high ∷ rs)
          ≡ boxes_of numbers before ls ++ map numbers (take low.len mid) ∷ map numbers (drop low.len mid) ∷ boxes_of numbers after rs
      new_boxes =
          let two : total (low ∷ high ∷ []) ≡ length mid = omega (arith, sum_by-cons (λ (p : Piece). p.len) low (high ∷ []), sum_by-cons (λ (p : Piece). p.len) high [], all) in
          boxes_around numbers before mid after ls (low ∷ high ∷ []) rs before_long two
          ∙ ap (λ b. boxes_of numbers before ls ++ map numbers (take low.len mid) ∷ map numbers b ∷ boxes_of numbers after rs)
          (take_all high.len (drop low.len mid) (omega (arith, length-drop low.len mid, all)))

      pub boxes_stand : (start : List (List ℕ)) → AreBoxesBy channels weigh start (boxes_of numbers xs ps) → AreBoxesBy channels weigh start (boxes_of numbers (before ++ (mid ++ after)) (ls ++ low ∷ high ∷ rs))
      boxes_stand start h =
          subst (AreBoxesBy channels weigh start) (sym new_boxes)
          (cut start (map numbers inside) (map numbers (take low.len mid)) (map numbers (drop low.len mid)) (boxes_of numbers before ls) (boxes_of numbers after rs)
          (subst (AreBoxesBy channels weigh start) old_boxes h) next_stands)

      pub pieces_stand : ArePieces channels weigh numbers (before ++ (mid ++ after)) (ls ++ low ∷ high ∷ rs)
      pieces_stand = record {
        all =
            let pieces : total (ls ++ here ∷ rs) ≡ length xs = ap total all_pieces ∙ stand.all in
            omega (
              arith,
              pieces,
              sum_by-append (λ (p : Piece). p.len) ls (here ∷ rs),
              sum_by-cons (λ (p : Piece). p.len) here rs,
              sum_by-append (λ (p : Piece). p.len) ls (low ∷ high ∷ rs),
              sum_by-cons (λ (p : Piece). p.len) low (high ∷ rs),
              sum_by-cons (λ (p : Piece). p.len) high rs,
              length-append before (mid ++ after),
              length-append mid after,
              length-drop n (drop next.start xs),
              length-drop next.start xs,
              length-take next.start xs,
              next_within,
              all,
              same,
              inside_long,
              long,
            );
        some = All-append (λ p. 0 < p.len) ls (low ∷ high ∷ rs) (All-take (λ p. 0 < p.len) next.at ps stand.some)
            (All-cons (λ p. 0 < p.len) low (high ∷ rs) (omega (arith, parted.some_below, length-map (take low.len mid) numbers, length-take low.len mid))
            (All-cons (λ p. 0 < p.len) high rs (omega (arith, parted.some_others, length-map (drop low.len mid) numbers, length-drop low.len mid, all))
            (All-drop (λ p. 0 < p.len) (next.at + 1) ps stand.some)));
        known = subst (λ bs. AllZip (IsKnown channels weigh) bs (ls ++ low ∷ high ∷ rs)) (sym new_boxes)
            (zip-append (IsKnown channels weigh) (boxes_of numbers before ls) (map numbers (take low.len mid) ∷ map numbers (drop low.len mid) ∷ boxes_of numbers after rs) ls (low ∷ high ∷ rs)
            known_before (low_known, (high_known, known_rest.1)));
      }

  -- the piece of all colors
  pub one_stands : (xs : List X) (p : Piece) → 0 < length xs → p.len ≡ length xs → IsKnown channels weigh (map numbers xs) p → ArePieces channels weigh numbers xs (p ∷ [])
  one_stands xs p some whole known = record {
    all = omega (arith, sum_by-cons (λ (q : Piece). q.len) p [], whole);
    some = All-cons (λ q. 0 < q.len) p [] (omega (arith, some, whole)) (All-nil (λ q. 0 < q.len));
    known = (subst (λ l. IsKnown channels weigh (map numbers l) p) (sym (take_all p.len xs (omega (arith, whole)))) known, tt);
  }

  pub one_box : (xs : List X) (p : Piece) → 0 < length xs → p.len ≡ length xs → AreBoxesBy channels weigh (map numbers xs) (boxes_of numbers xs (p ∷ []))
  one_box xs p some whole =
      subst (λ l. AreBoxesBy channels weigh (map numbers xs) (map numbers l ∷ [])) (sym (take_all p.len xs (omega (arith, whole))))
      (one (map numbers xs) (omega (arith, length-map xs numbers, some)))

  -- boxes of pieces that cannot be cut
  pub whole_boxes : (xs : List X) (ps : List Piece) → AllZip (IsKnown channels weigh) (boxes_of numbers xs ps) ps → AreWhole ps → All (CannotBeCutBy channels) (boxes_of numbers xs ps)
  whole_boxes xs ps known whole =
      from_known (λ o. o ≡ None) (CannotBeCutBy channels) (λ b o k e. subst (IsPlaceOf channels weigh b) e k) (boxes_of numbers xs ps) ps known whole
