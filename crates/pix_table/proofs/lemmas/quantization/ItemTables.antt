-- The table of items is one of their colors.
use Rattle.std.specs.List.{AllZip}
use Rattle.std.specs.Prelude.{min}
use Rattle.std.proofs.Common.{◌≡◌, inl, inr, ℕ, zero, suc, ◌+◌, ◌-◌, ◌<◌, ◌≤◌, List, [], ◌∷◌, ◌++◌, length, map, take, get_or, All, IsPermutation, refl, arith, sym, ap, ap₂, ◌∙◌, subst}
use Rattle.std.proofs.lemmas.List.{take_at}
use Rattle.std.proofs.lemmas.List.Elements.{All-append, All-cons, All-head, All-nil, All-tail}
use Rattle.std.proofs.lemmas.List.Sorted.{All-permutation, IsPermutation-append, IsPermutation-refl, length_permutation}
use Rattle.pix_table.specs.quantization.Cut.{AreBoxesBy, IsCutTableBy, IsNextCutBy, more_boxes, cut, one}
use Rattle.pix_table.specs.quantization.Items.{IsItem, IsItemTable, spread, weigh_items}
use Rattle.pix_table.specs.quantization.Joins.{AreJoinedBy, IsNextPairBy, cost_at, cost_by, join, none}
use Rattle.pix_table.specs.quantization.Places.{CannotBeCutBy, IsCutBy, gain_by}
use Rattle.pix_table.proofs.lemmas.quantization.ItemCuts.{all_left, all_right, cut_items, cut_spread, high_spread, highs, low_spread, lows}
use Rattle.pix_table.proofs.lemmas.quantization.ItemLists.{some_spread, spread-append}
use Rattle.pix_table.proofs.lemmas.quantization.PieceBoxes.{zip-append}

-- two lists whose elements stand for one another, one by one
record Parts {X Y : Type 0} (R : X → Y → Type 0) (before : List X) (box : X) (after : List X) (cs : List Y) : Type 0 where
  pub front : List Y
  pub mid : Y
  pub back : List Y
  pub is : front ++ mid ∷ back ≡ cs
  pub fronts : AllZip R before front
  pub mids : R box mid
  pub backs : AllZip R after back

zip_parts : {X Y : Type 0} (R : X → Y → Type 0) (before : List X) (box : X) (after : List X) (cs : List Y) → AllZip R (before ++ box ∷ after) cs
    → Parts R before box after cs
zip_parts R [] box after [] h = absurd h
zip_parts R [] box after (c ∷ cs) h = record { front = []; mid = c; back = cs; is = refl; fronts = tt; mids = h.0; backs = h.1 }
zip_parts R (b ∷ before) box after [] h = absurd h
zip_parts R (b ∷ before) box after (c ∷ cs) h =
    let rest : Parts R before box after cs = zip_parts R before box after cs h.1 in
    record {
      front = c ∷ rest.front;
      mid = rest.mid;
      back = rest.back;
      is = ap (λ l. c ∷ l) rest.is;
      fronts = (h.0, rest.fronts);
      mids = rest.mids;
      backs = rest.backs;
    }

zip_long : {X Y : Type 0} (R : X → Y → Type 0) (bs : List X) (cs : List Y) → AllZip R bs cs → length cs ≡ length bs
zip_long R [] [] h = refl
zip_long R [] (c ∷ cs) h = absurd h
zip_long R (b ∷ bs) [] h = absurd h
zip_long R (b ∷ bs) (c ∷ cs) h = let e : length cs ≡ length bs = zip_long R bs cs h.1 in omega (arith, e)

zip_at : {X Y : Type 0} (R : X → Y → Type 0) (bs : List X) (cs : List Y) (k : ℕ) (d : X) (e : Y) → AllZip R bs cs → k < length bs
    → R (get_or bs k d) (get_or cs k e)
zip_at R [] cs k d e h inside = absurd (omega arith)
zip_at R (b ∷ bs) [] k d e h inside = absurd h
zip_at R (b ∷ bs) (c ∷ cs) zero d e h inside = h.0
zip_at R (b ∷ bs) (c ∷ cs) (suc k) d e h inside = zip_at R bs cs k d e h.1 (omega arith)

-- what holds of each of the one, since it holds of each of the other
zip_all : {X Y : Type 0} (R : X → Y → Type 0) (P : X → Type 0) (Q : Y → Type 0) → ((x : X) (y : Y) → R x y → P x → Q y) → (bs : List X) (cs : List Y)
    → AllZip R bs cs → All P bs → All Q cs
zip_all R P Q f [] [] h g = All-nil Q
zip_all R P Q f [] (c ∷ cs) h g = absurd h
zip_all R P Q f (b ∷ bs) [] h g = absurd h
zip_all R P Q f (b ∷ bs) (c ∷ cs) h g = All-cons Q c cs (f b c h.0 (All-head P b bs g)) (zip_all R P Q f bs cs h.1 (All-tail P b bs g))

-- a box of items, and one of their colors
record IsSpread (channels : ℕ) (items colors : List (List ℕ)) : Type 0 where
  pub are : All (IsItem channels) items
  pub moved : IsPermutation colors (spread channels items)

module _ (channels : ℕ) (weigh : List (List ℕ) → ℕ) (same_weight : (a b : List (List ℕ)) → IsPermutation a b → weigh a ≡ weigh b) where
  abbrev Stand : (bs cs : List (List (List ℕ))) → Type 0
  Stand bs cs = AllZip (IsSpread channels) bs cs

  -- the parts of a cut
  parts_spread : (box low high : List (List ℕ)) (c v : ℕ) → All (IsItem channels) box → IsCutBy channels box c v low high
      → IsSpread channels low (spread channels low) × IsSpread channels high (spread channels high)
  parts_spread box low high c v are is =
      let both : All (IsItem channels) (low ++ high) = All-permutation (IsItem channels) box (low ++ high) is.all are in (
        record { are = all_left (IsItem channels) low high both; moved = IsPermutation-refl (spread channels low) },
        record { are = all_right (IsItem channels) low high both; moved = IsPermutation-refl (spread channels high) },
      )

  gain_same : (box low high colors l h : List (List ℕ)) → IsPermutation colors (spread channels box) → IsPermutation l (spread channels low)
      → IsPermutation h (spread channels high) → gain_by weigh colors l h ≡ gain_by (weigh_items channels weigh) box low high
  gain_same box low high colors l h whole first second =
      ap₂ (λ (m n : ℕ). m + n - weigh colors) (same_weight l (spread channels low) first) (same_weight h (spread channels high) second)
      ∙ ap (λ n. weigh (spread channels low) + weigh (spread channels high) - n) (same_weight colors (spread channels box) whole)

  -- what a cut of the colors gains, a cut of the items does
  gains_bounded : (B : ℕ → Type 0) (box colors : List (List ℕ)) (c v : ℕ) → IsSpread channels box colors
      → ((low high : List (List ℕ)) → IsCutBy channels box c v low high → B (gain_by (weigh_items channels weigh) box low high))
      → (l h : List (List ℕ)) → IsCutBy channels colors c v l h → B (gain_by weigh colors l h)
  gains_bounded B box colors c v stand each l h is =
      subst B
      (sym (gain_same box (lows c v box) (highs c v box) colors l h stand.moved (low_spread channels c v box colors l h stand.moved is)
      (high_spread channels c v box colors l h stand.moved is)))
      (each (lows c v box) (highs c v box) (cut_items channels c v box colors l h stand.moved is))

  next_spread : (before after front back : List (List (List ℕ))) (box low high colors : List (List ℕ)) → Stand before front → IsSpread channels box colors
      → Stand after back → IsNextCutBy channels (weigh_items channels weigh) before box low high after
      → IsNextCutBy channels weigh front colors (spread channels low) (spread channels high) back
  next_spread before after front back box low high colors fronts stand backs next =
      let top : ℕ = gain_by (weigh_items channels weigh) box low high in
      let gain : gain_by weigh colors (spread channels low) (spread channels high) ≡ gain_by (weigh_items channels weigh) box low high =
      gain_same box low high colors (spread channels low) (spread channels high) stand.moved (IsPermutation-refl (spread channels low))
      (IsPermutation-refl (spread channels high)) in
      record {
        channel = next.channel;
        value = next.value;
        cut = cut_spread channels next.channel next.value box low high colors stand.are stand.moved next.cut;
        place = record {
          best = λ c v l h is.
              subst (λ g. gain_by weigh colors l h ≤ g) (sym gain)
              (gains_bounded (λ g. g ≤ gain_by (weigh_items channels weigh) box low high) box colors c v stand (λ a b i. next.place.best c v a b i) l h is);
          first = λ c v l h is earlier.
              subst (λ g. gain_by weigh colors l h < g) (sym gain)
              (gains_bounded (λ g. g < gain_by (weigh_items channels weigh) box low high) box colors c v stand (λ a b i. next.place.first c v a b i earlier) l h is);
        };
        best = subst (λ (g : ℕ). All (λ b. (c v : ℕ) (l h : List (List ℕ)) → IsCutBy channels b c v l h → gain_by weigh b l h ≤ g) back) (sym gain)
            (zip_all (IsSpread channels)
            (λ b. (c v : ℕ) (l h : List (List ℕ)) → IsCutBy channels b c v l h
            → gain_by (weigh_items channels weigh) b l h ≤ gain_by (weigh_items channels weigh) box low high)
            (λ b. (c v : ℕ) (l h : List (List ℕ)) → IsCutBy channels b c v l h → gain_by weigh b l h ≤ gain_by (weigh_items channels weigh) box low high)
            (λ b d s each c v l h is. gains_bounded (λ g. g ≤ gain_by (weigh_items channels weigh) box low high) b d c v s (each c v) l h is) after back backs next.best);
        first = subst (λ (g : ℕ). All (λ b. (c v : ℕ) (l h : List (List ℕ)) → IsCutBy channels b c v l h → gain_by weigh b l h < g) front) (sym gain)
            (zip_all (IsSpread channels)
            (λ b. (c v : ℕ) (l h : List (List ℕ)) → IsCutBy channels b c v l h
            → gain_by (weigh_items channels weigh) b l h < gain_by (weigh_items channels weigh) box low high)
            (λ b. (c v : ℕ) (l h : List (List ℕ)) → IsCutBy channels b c v l h → gain_by weigh b l h < gain_by (weigh_items channels weigh) box low high)
            (λ b d s each c v l h is. gains_bounded (λ g. g < gain_by (weigh_items channels weigh) box low high) b d c v s (each c v) l h is) before front fronts next.first);
      }

  -- boxes of the colors
  boxes_spread : (colors items : List (List ℕ)) (boxes : List (List (List ℕ))) → IsSpread channels items colors → 0 < length colors
      → AreBoxesBy channels (weigh_items channels weigh) items boxes
      → (cs : List (List (List ℕ))) × AreBoxesBy channels weigh colors cs × Stand boxes cs
  boxes_spread colors _ _ stand some (one items there) = (colors ∷ [], one colors some, (stand, tt))
  boxes_spread colors _ _ stand some (cut items box low high before after are next) =
      let h = boxes_spread colors items (before ++ box ∷ after) stand some are in
      let s : Parts (IsSpread channels) before box after h.0 = zip_parts (IsSpread channels) before box after h.0 h.2 in
      let parts = parts_spread box low high next.channel next.value s.mids.are next.cut in (
        s.front ++ spread channels low ∷ spread channels high ∷ s.back,
        cut colors s.mid (spread channels low) (spread channels high) s.front s.back (subst (AreBoxesBy channels weigh colors) (sym s.is) h.1)
            (next_spread before after s.front s.back box low high s.mid s.fronts s.mids s.backs next),
        zip-append (IsSpread channels) before (low ∷ high ∷ after) s.front (spread channels low ∷ spread channels high ∷ s.back) s.fronts
            (parts.0, (parts.1, s.backs)),
      )

  -- joins of boxes of the same colors in another order
  abbrev Moved : (p a : List (List ℕ)) → Type 0
  Moved p a = IsPermutation a p

  cost_same : (p q a b : List (List ℕ)) → IsPermutation a p → IsPermutation b q → cost_by weigh a b ≡ cost_by weigh p q
  cost_same p q a b h g =
      ap₂ (λ (m n : ℕ). m + n - weigh (a ++ b)) (same_weight a p h) (same_weight b q g)
      ∙ ap (λ n. weigh p + weigh q - n) (same_weight (a ++ b) (p ++ q) (IsPermutation-append a p b q h g))

  pair_moved : (bs cs : List (List (List ℕ))) (i j : ℕ) → AllZip Moved bs cs → IsNextPairBy weigh bs i j → IsNextPairBy weigh cs i j
  pair_moved bs cs i j stand next =
      let long : length cs ≡ length bs = zip_long Moved bs cs stand in
      let at : (k : ℕ) → k < length bs → Moved (get_or bs k []) (get_or cs k []) = (λ k b. zip_at Moved bs cs k [] [] stand b) in
      let same : (k l : ℕ) → k < l → l < length bs → cost_at weigh cs k l ≡ cost_at weigh bs k l =
      (λ k l a b. cost_same (get_or bs k []) (get_or bs l []) (get_or cs k []) (get_or cs l []) (at k (omega arith)) (at l b)) in
      let here : cost_at weigh cs i j ≡ cost_at weigh bs i j = same i j next.order next.within in
      record {
        order = next.order;
        within = omega (arith, next.within, long);
        least = λ k l a b.
            let inside : l < length bs = omega (arith, b, long) in
            omega (arith, here, same k l a inside, next.least k l a inside);
        first = λ k l a b earlier.
            let inside : l < length bs = omega (arith, b, long) in
            omega (arith, here, same k l a inside, next.first k l a inside earlier);
      }

  joined_moved : (cs boxes groups : List (List (List ℕ))) → AllZip Moved boxes cs → AreJoinedBy weigh boxes groups
      → (ds : List (List (List ℕ))) × AreJoinedBy weigh cs ds × AllZip Moved groups ds
  joined_moved cs _ _ stand (none boxes) = (cs, none cs, stand)
  joined_moved cs _ _ stand (join boxes before between after p q are next) =
      let h = joined_moved cs boxes (before ++ p ∷ (between ++ q ∷ after)) stand are in
      let s : Parts Moved before p (between ++ q ∷ after) h.0 = zip_parts Moved before p (between ++ q ∷ after) h.0 h.2 in
      let t : Parts Moved between q after s.back = zip_parts Moved between q after s.back s.backs in
      let is : s.front ++ s.mid ∷ (t.front ++ t.mid ∷ t.back) ≡ h.0 = ap (λ l. s.front ++ s.mid ∷ l) t.is ∙ s.is in
      let first : length s.front ≡ length before = zip_long Moved before s.front s.fronts in
      let second : length t.front ≡ length between = zip_long Moved between t.front t.fronts in
      let pair : IsNextPairBy weigh h.0 (length s.front) (length s.front + 1 + length t.front) =
      subst (λ n. IsNextPairBy weigh h.0 n (n + 1 + length t.front)) (sym first)
      (subst (λ n. IsNextPairBy weigh h.0 (length before) (length before + 1 + n)) (sym second)
      (pair_moved (before ++ p ∷ (between ++ q ∷ after)) h.0 (length before) (length before + 1 + length between) h.2 next)) in (
        s.front ++ (s.mid ++ t.mid) ∷ (t.front ++ t.back),
        join cs s.front t.front t.back s.mid t.mid (subst (AreJoinedBy weigh cs) (sym is) h.1)
            (subst (λ l. IsNextPairBy weigh l (length s.front) (length s.front + 1 + length t.front)) (sym is) pair),
        zip-append Moved before ((p ++ q) ∷ (between ++ after)) s.front ((s.mid ++ t.mid) ∷ (t.front ++ t.back)) s.fronts
            (IsPermutation-append s.mid p t.mid q s.mids t.mids, zip-append Moved between after t.front t.back t.fronts t.backs),
      )

  colors_moved : (bs cs : List (List (List ℕ))) → Stand bs cs → AllZip Moved (map (spread channels) bs) cs
  colors_moved [] [] h = tt
  colors_moved [] (c ∷ cs) h = absurd h
  colors_moved (b ∷ bs) [] h = absurd h
  colors_moved (b ∷ bs) (c ∷ cs) h = let first : IsSpread channels b c = h.0 in (first.moved, colors_moved bs cs h.1)

  -- a box that cannot be cut
  whole_spread : (box colors : List (List ℕ)) → IsSpread channels box colors → CannotBeCutBy channels box → CannotBeCutBy channels colors
  whole_spread box colors stand h = λ c v low high is.
      h c v (lows c v box) (highs c v box) (cut_items channels c v box colors low high stand.moved is)

-- the means
means_moved : (middle : List (List ℕ) → List ℕ) → ((a b : List (List ℕ)) → IsPermutation a b → middle a ≡ middle b) → (bs cs : List (List (List ℕ)))
    → AllZip (λ (b c : List (List ℕ)). IsPermutation c b) bs cs → map middle bs ≡ map middle cs
means_moved middle same [] [] h = refl
means_moved middle same [] (c ∷ cs) h = absurd h
means_moved middle same (b ∷ bs) [] h = absurd h
means_moved middle same (b ∷ bs) (c ∷ cs) h =
    ap₂ (λ (m : List ℕ) (l : List (List ℕ)). m ∷ l) (sym (same c b h.0)) (means_moved middle same bs cs h.1)

-- the first box has a color
some_boxes : {channels : ℕ} {weigh : List (List ℕ) → ℕ} (items : List (List ℕ)) (boxes : List (List (List ℕ))) → AreBoxesBy channels weigh items boxes
    → 0 < length items
some_boxes _ _ (one items some) = some
some_boxes _ _ (cut items box low high before after are next) = some_boxes items (before ++ box ∷ after) are

pub table_of_items : (channels : ℕ) (weigh : List (List ℕ) → ℕ) (middle : List (List ℕ) → List ℕ)
    → ((a b : List (List ℕ)) → IsPermutation a b → weigh a ≡ weigh b) → ((a b : List (List ℕ)) → IsPermutation a b → middle a ≡ middle b)
    → (room : ℕ) (items table : List (List ℕ)) → All (IsItem channels) items → IsItemTable channels weigh middle room items table
    → (colors : List (List ℕ)) → IsPermutation colors (spread channels items) → IsCutTableBy channels weigh middle room colors table
table_of_items channels weigh middle same_weight same_middle room items table are is colors moved =
    let stand : IsSpread channels items colors = record { are = are; moved = moved } in
    let some : 0 < length colors =
    omega (
      arith,
      some_spread channels items are (some_boxes items is.boxes is.are),
      length_permutation colors (spread channels items) moved,
    ) in
    let b = boxes_spread channels weigh same_weight colors items is.boxes stand some is.are in
    let j = joined_moved channels weigh same_weight b.0 (map (spread channels) is.boxes) is.groups
    (colors_moved channels weigh same_weight is.boxes b.0 b.2) is.joined in
    let many : length b.0 ≡ length is.boxes = zip_long (IsSpread channels) is.boxes b.0 b.2 in
    let fewer : length j.0 ≡ length is.groups = zip_long (λ (p a : List (List ℕ)). IsPermutation a p) is.groups j.0 j.2 in
    record {
      boxes = b.0;
      are = b.1;
      few = subst (λ n. n ≤ more_boxes room) (sym many) is.few;
      full = elim is.full [
        | inl e ↦ inl (many ∙ e)
        | inr all ↦
            inr (zip_all (IsSpread channels) (CannotBeCutBy channels) (CannotBeCutBy channels) (whole_spread channels weigh same_weight) is.boxes b.0 b.2 all)
      ];
      groups = j.0;
      joined = j.1;
      many = fewer ∙ is.many ∙ ap (min room) (sym many);
      means = is.means ∙ means_moved middle same_middle is.groups j.0 j.2;
    }
