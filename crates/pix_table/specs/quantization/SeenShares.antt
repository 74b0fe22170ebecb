-- How many colors of an entry are opaque. No clause of a public call cites this file.
use Rattle.std.specs.Prelude.{◌≡◌, ℕ, ◌≤◌, Bool, List, cond, count_by, length}
use Rattle.pix_table.specs.quantization.Items.{item_sum}
use Rattle.pix_table.specs.quantization.SeenGroups.{AreSeenParts}
use Rattle.pix_table.specs.quantization.SeenTables.{is_opaque}
use Rattle.pix_table.specs.declared.rgba.opaque.Share.{Share}

-- how many colors a group has, and how many of them are opaque
pub record AreShares (group : List (List ℕ)) (share : Share) : Type 0 where
  pub all : share.all ≡ length group
  pub opaque : share.opaque ≡ count_by is_opaque group

-- 1 of a color that is opaque, and 0 of any other
abbrev pub opacity : List ℕ → ℕ
opacity color = cond (is_opaque color) 1 0

-- the counts of those colors of the first n items that pass a test
pub record AreItemShares (p : List ℕ → Bool) (items : List (List ℕ)) (pairs n : ℕ) (share : Share) : Type 0 where
  pub few : share.opaque ≤ share.all
  pub all : share.all ≡ item_sum (λ color. cond (p color) 1 0) items pairs n
  pub opaque : share.opaque ≡ item_sum (λ color. cond (p color) (opacity color) 0) items pairs n

-- for each entry the counts of those colors of the first n items to which it is the nearest, the first of equals
abbrev pub AreItemSharesOf : (entries items : List (List ℕ)) (pairs n : ℕ) (shares : List Share) → Type 0
AreItemSharesOf entries items pairs n shares = AreSeenParts (λ p s. AreItemShares p items pairs n s) entries shares
