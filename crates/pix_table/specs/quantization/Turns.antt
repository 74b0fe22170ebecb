-- The least errors of the first levels in so many parts, and where the last part begins. The error of a part is a
-- function of its two ends. No clause of a public call cites this file.
use Rattle.std.specs.Prelude.{◌≡◌, ℕ, suc, ◌+◌, ◌<◌, ◌≤◌}

-- all levels in one part
abbrev pub IsFirst : (c : ℕ → ℕ → ℕ) (d : ℕ) → (ℕ → ℕ) → Type 0
IsFirst c d e = (b : ℕ) → b ≤ d → e b ≡ c 0 b

-- in one part more, which begins where that is the least
pub record IsNext (c : ℕ → ℕ → ℕ) (d : ℕ) (e f start : ℕ → ℕ) : Type 0 where
  pub none : f 0 ≡ 0
  pub stands : (b : ℕ) → b < d → start b ≤ b
  pub made : (b : ℕ) → b < d → f (suc b) ≡ e (start b) + c (start b) (suc b)
  pub least : (a b : ℕ) → a ≤ b → b < d → f (suc b) ≤ e a + c a (suc b)

-- with one part more, the last one begins no sooner
abbrev pub NoneSooner : (c : ℕ → ℕ → ℕ) (d : ℕ) → (e start : ℕ → ℕ) → Type 0
NoneSooner c d e start = (a b : ℕ) → b < d → a < start b → e (start b) + c (start b) (suc b) ≤ e a + c a (suc b)
