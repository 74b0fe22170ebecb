-- How many colors of an entry are opaque, with one item more, and what the entry becomes.
use Rattle.std.proofs.Common.{◌≡◌, ℕ, zero, suc, ◌+◌, ◌*◌, ◌/◌, ◌<◌, ◌≤◌, Bool, true, false, cond, count_by, filter, List, [], ◌∷◌, length, set, replicate, get_or, nat_le, nat_lt, ◌&&◌, if◌then◌else◌, refl, arith, sym, ap, ◌∙◌, lt-ltb}
use Rattle.std.proofs.Math.Bool.{and-false}
use Rattle.std.proofs.lemmas.Bool.{lt-leb, le-ltb, le-leb}
use Rattle.std.proofs.lemmas.Nat.{mul-le}
use Rattle.std.proofs.lemmas.List.Sums.{length-filter}
use Rattle.pix_table.specs.matching.Nearest.{IsNearestBy}
use Rattle.pix_table.specs.quantization.Items.{AreItemsOf, item_color, item_count, item_sum}
use Rattle.pix_table.specs.SeenPixels.{AreSeen, made_opaque, over_alpha, seen_distance}
use Rattle.pix_table.specs.quantization.SeenGroups.{AreSeenGrouped}
use Rattle.pix_table.specs.quantization.SeenShares.{AreItemShares, AreItemSharesOf, AreShares, opacity}
use Rattle.pix_table.specs.quantization.SeenTables.{is_opaque, opaque_settled}
use Rattle.pix_table.specs.declared.rgba.opaque.Share.{Share}
use Rattle.pix_table.proofs.lemmas.quantization.ItemGroups.{left_out, passed, room_for}
use Rattle.pix_table.proofs.lemmas.quantization.Rounds.{sum_kept}
use Rattle.pix_table.proofs.lemmas.quantization.SeenParts.{not_counted, part_at, parts_more, parts_none, parts_then}

-- the counts of no items
pub shares_none : (entries items : List (List ℕ)) (pairs n : ℕ) (none : Share) → n ≡ length entries → none.all ≡ 0 → none.opaque ≡ 0
    → AreItemSharesOf entries items pairs 0 (replicate n none)
shares_none entries items pairs n none e all opaque =
    parts_none (λ p s. AreItemShares p items pairs 0 s) entries n none e (λ p. record { few = omega (arith, opaque); all = all; opaque = opaque })

-- the counts with one item more
opacity_few : (b : Bool) → cond b 1 0 ≤ 1
opacity_few true = omega arith
opacity_few false = omega arith

share_few : (n : ℕ) (x : List ℕ) (old new : Share) → old.opaque ≤ old.all → new.all ≡ old.all + n → new.opaque ≡ old.opaque + n * opacity x
    → new.opaque ≤ new.all
share_few n x old new few all opaque =
    omega (arith, few, all, opaque, mul-le n (opacity x) n 1 (omega arith) (opacity_few (is_opaque x)))

pub shares_more : (entries items : List (List ℕ)) (pairs k n v : ℕ) (shares : List Share) (x : List ℕ) (old new : Share) → item_count items pairs k ≡ n
    → item_color items pairs k ≡ x → IsNearestBy seen_distance entries x v → old ≡ get_or shares v old → new.all ≡ old.all + n
    → new.opaque ≡ old.opaque + n * opacity x → AreItemSharesOf entries items pairs k shares → AreItemSharesOf entries items pairs (k + 1) (set shares v new)
shares_more entries items pairs k n v shares x old new often is near read all opaque h =
    parts_more (λ p s. AreItemShares p items pairs k s) (λ p s. AreItemShares p items pairs (k + 1) s) entries x v shares old new near read
    (λ p passes was. record {
      few = share_few n x old new was.few all opaque;
      all = omega (arith, all, was.all, passed items pairs k n x often is p (λ c. 1) passes);
      opaque = opaque ∙ ap (λ m. m + n * opacity x) was.opaque ∙ sym (passed items pairs k n x often is p opacity passes);
    })
    (λ p s fails was. record {
      few = was.few;
      all = was.all ∙ left_out items pairs k n x often is p (λ c. 1) fails;
      opaque = was.opaque ∙ left_out items pairs k n x often is p opacity fails;
    }) h

pub shares_same : (entries items : List (List ℕ)) (pairs k : ℕ) (shares : List Share) → item_count items pairs k ≡ 0
    → AreItemSharesOf entries items pairs k shares → AreItemSharesOf entries items pairs (k + 1) shares
shares_same entries items pairs k shares none h =
    parts_then (λ p s. AreItemShares p items pairs k s) (λ p s. AreItemShares p items pairs (k + 1) s) entries shares
    (λ p s was. record {
      few = was.few;
      all = was.all ∙ not_counted (λ c. cond (p c) 1 0) items pairs k none;
      opaque = was.opaque ∙ not_counted (λ c. cond (p c) (opacity c) 0) items pairs k none;
    }) h

-- there is room for an item
pub shares_open : (entries items : List (List ℕ)) (pairs k all n v most : ℕ) (shares : List Share) (d : Share) → v < length entries → k < all
    → item_count items pairs k ≡ n → item_sum (λ c. 1) items pairs all < most → AreItemSharesOf entries items pairs k shares
    → ((get_or shares v d).opaque ≤ (get_or shares v d).all) × ((get_or shares v d).all + n < most)
shares_open entries items pairs k all n v most shares d inside more often few h =
    let s = part_at (λ p s. AreItemShares p items pairs k s) entries shares d v inside h in
    (s.1.few, room_for s.0 items pairs k all n most (get_or shares v d).all more often few s.1.all)

-- the counts of the items are those of the colors
pub shares_of_items : (entries all items : List (List ℕ)) (pairs singles : ℕ) (shares : List Share) → AreItemsOf all items pairs singles
    → AreItemSharesOf entries items pairs (pairs + singles) shares → AreSeenGrouped AreShares entries all shares
shares_of_items entries all items pairs singles shares are h =
    parts_then (λ p s. AreItemShares p items pairs (pairs + singles) s) (λ p s. AreShares (filter p all) s) entries shares
    (λ p s was. record {
      all = was.all ∙ sym (are (λ c. cond (p c) 1 0)) ∙ sym (length-filter p all);
      opaque = was.opaque ∙ sym (are (λ c. cond (p c) (opacity c) 0)) ∙ sum_kept p opacity all;
    }) h

-- an opaque color stays one
over_opaque : (n a : ℕ) → a ≡ 255 → over_alpha n a ≡ n
over_opaque n zero full = absurd (omega (arith, full))
over_opaque n (suc a) full = rw full (let e : (510 * n + 255) / (2 * 255) ≡ n = omega arith in e)

opaque_stays : (color : List ℕ) → AreSeen color → get_or color 3 0 ≡ 255 → made_opaque color ≡ color
opaque_stays [] h full = absurd (let e = h.many in omega (arith, e))
opaque_stays (r ∷ []) h full = absurd (let e = h.many in omega (arith, e))
opaque_stays (r ∷ g ∷ []) h full = absurd (let e = h.many in omega (arith, e))
opaque_stays (r ∷ g ∷ b ∷ []) h full = absurd (let e = h.many in omega (arith, e))
opaque_stays (r ∷ g ∷ b ∷ a ∷ []) h full = rw (over_opaque r a full, over_opaque g a full, over_opaque b a full, full) refl
opaque_stays (r ∷ g ∷ b ∷ a ∷ x ∷ xs) h full = absurd (let e : length (r ∷ g ∷ b ∷ a ∷ x ∷ xs) ≡ 4 = h.many in omega (arith, e))

-- of two that are the same either one is the second
either : (b : Bool) {x y : List ℕ} → x ≡ y → (if b then x else y) ≡ y
either true e = e
either false e = refl

-- where an entry stays, and where it becomes opaque
module _ (entry : List ℕ) (group : List (List ℕ)) where
  abbrev nearly : Bool
  nearly = nat_le 250 (get_or entry 3 0)

  abbrev mostly : Bool
  mostly = nat_lt (length group) (2 * count_by is_opaque group)

  pub stays_low : get_or entry 3 0 < 250 → opaque_settled entry group ≡ entry
  stays_low low = ap (λ b. if b && mostly then made_opaque entry else entry) (lt-leb 250 (get_or entry 3 0) low)

  pub stays_few : (share : Share) → AreShares group share → share.opaque ≤ share.all / 2 → opaque_settled entry group ≡ entry
  stays_few share are few =
      let not_most : 2 * count_by is_opaque group ≤ length group = omega (arith, few, are.all, are.opaque) in
      ap (λ b. if nearly && b then made_opaque entry else entry) (le-ltb (length group) (2 * count_by is_opaque group) not_most)
      ∙ ap (λ b. if b then made_opaque entry else entry) (and-false nearly)

  pub becomes : (share : Share) → AreShares group share → 250 ≤ get_or entry 3 0 → share.all / 2 < share.opaque → opaque_settled entry group ≡ made_opaque entry
  becomes share are near most =
      let more : length group < 2 * count_by is_opaque group = omega (arith, most, are.all, are.opaque) in
      ap (λ b. if b && mostly then made_opaque entry else entry) (le-leb 250 (get_or entry 3 0) near)
      ∙ ap (λ b. if true && b then made_opaque entry else entry) (lt-ltb (length group) (2 * count_by is_opaque group) more)

  pub stays_opaque : AreSeen entry → get_or entry 3 0 ≡ 255 → opaque_settled entry group ≡ entry
  stays_opaque seen full = either (nearly && mostly) (opaque_stays entry seen full)
