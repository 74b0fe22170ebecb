-- Of `Region::intersection`: the clauses `value`, `points`, `commutative` and `associative`, and
-- that the result keeps the invariant of its type.
use Rattle.std.proofs.Common.{◌≡◌, ◌≤◌, ◌≤ℤ◌, arith, ◌<ℤ◌, ap, ◌∙◌, FitsSigned, w32, inl, inr, ◌⊎◌, rules}
use Rattle.std.specs.Int.{int_min, int_max, int_gap}
use Rattle.std.proofs.lemmas.Int.{ints, clamps, to_z-of_z}
use Rattle.pix_raster.specs.Region.{covers, right, bottom}
use Rattle.pix_raster.proofs.Rectangles.{gap_is, covers-intersection_of, between_is, between_none, side_limited, intersection_of-comm, intersection_of-assoc, below_is, not_below_is}
use Rattle.pix_raster.proofs.region.Region.intersection.Goals as goal
use Rattle.pix_raster.proofs.region.Region.intersection.Goals.{else-left-right-via-then-left-right+else-top-bottom, else-left-right-via-else-left-right}

across : (c : goal.After-abs_diff-then-top-bottom) → (c.max-left.result <ℤ c.min-right.result) × (c.abs_diff.result ≡ int_gap c.max-left.result c.min-right.result)
across c =
    let f : FitsSigned w32 c.max-left.result = search rules in
    let g : FitsSigned w32 c.min-right.result = search rules in
    let h : c.max-left.result <ℤ c.min-right.result = below_is _ _ (simp to_z-of_z at c.if-left-right.true) in
    (h, (simp to_z-of_z at c.abs_diff.ensures) ∙ gap_is c.max-left.result c.min-right.result (omega (arith, ints)))

down : (c : goal.After-abs_diff-then-top-bottom) → (c.max-top.result <ℤ c.min-bottom.result) × (c.abs_diff-then-top-bottom.result ≡ int_gap c.max-top.result c.min-bottom.result)
down c =
    let f : FitsSigned w32 c.max-top.result = search rules in
    let g : FitsSigned w32 c.min-bottom.result = search rules in
    let h : c.max-top.result <ℤ c.min-bottom.result = below_is _ _ (simp to_z-of_z at c.if-top-bottom.true) in
    (h, (simp to_z-of_z at c.abs_diff-then-top-bottom.ensures) ∙ gap_is c.max-top.result c.min-bottom.result (omega (arith, ints)))

pub invariant_of-result : goal.invariant_of-result
invariant_of-result c =
    let sx : c.self.inside.x ≡ c.args.self.left = ap (λ r. r.left) c.self.view_is in
    let sy : c.self.inside.y ≡ c.args.self.top = ap (λ r. r.top) c.self.view_is in
    let sw : c.self.inside.width ≡ c.args.self.width = ap (λ r. r.width) c.self.view_is in
    let sh : c.self.inside.height ≡ c.args.self.height = ap (λ r. r.height) c.self.view_is in
    let rx : c.rhs.inside.x ≡ c.args.rhs.left = ap (λ r. r.left) c.rhs.view_is in
    let ry : c.rhs.inside.y ≡ c.args.rhs.top = ap (λ r. r.top) c.rhs.view_is in
    let wide : c.args.self.width ≤ 2147483647 = let k = c.self.invariant.0 in omega arith in
    let high : c.args.self.height ≤ 2147483647 = let k = c.self.invariant.1 in omega arith in
    let l : c.max-left.result ≡ int_max c.args.self.left c.args.rhs.left = omega (arith, ints, clamps) in
    let t : c.max-top.result ≡ int_max c.args.self.top c.args.rhs.top = omega (arith, ints, clamps) in
    let r : c.min-right.result ≡ int_min (right c.args.self) (right c.args.rhs) = omega (arith, ints, clamps) in
    let b : c.min-bottom.result ≡ int_min (bottom c.args.self) (bottom c.args.rhs) = omega (arith, ints, clamps) in
    let h = across c in
    let k = down c in
    let h0 : c.max-left.result <ℤ c.min-right.result = h.0 in
    let k0 : c.max-top.result <ℤ c.min-bottom.result = k.0 in (
      rw h.1 (side_limited c.args.self.left c.args.rhs.left (right c.args.rhs) _ _ c.args.self.width wide l r (omega (arith, ints))),
      rw k.1 (side_limited c.args.self.top c.args.rhs.top (bottom c.args.rhs) _ _ c.args.self.height high t b (omega (arith, ints))),
    )

pub returns-then-top-bottom-clause-value : goal.returns-then-top-bottom-clause-value
returns-then-top-bottom-clause-value c =
    let sx : c.self.inside.x ≡ c.args.self.left = ap (λ r. r.left) c.self.view_is in
    let sy : c.self.inside.y ≡ c.args.self.top = ap (λ r. r.top) c.self.view_is in
    let rx : c.rhs.inside.x ≡ c.args.rhs.left = ap (λ r. r.left) c.rhs.view_is in
    let ry : c.rhs.inside.y ≡ c.args.rhs.top = ap (λ r. r.top) c.rhs.view_is in
    let l : c.max-left.result ≡ int_max c.args.self.left c.args.rhs.left = omega (arith, ints, clamps) in
    let t : c.max-top.result ≡ int_max c.args.self.top c.args.rhs.top = omega (arith, ints, clamps) in
    let r : c.min-right.result ≡ int_min (right c.args.self) (right c.args.rhs) = omega (arith, ints, clamps) in
    let b : c.min-bottom.result ≡ int_min (bottom c.args.self) (bottom c.args.rhs) = omega (arith, ints, clamps) in
    let h = across c in
    let k = down c in
    rw (← l, ← t, ← r, ← b) (between_is _ _ _ _ _ h.0 k.0 (omega (arith, ints)) (omega (arith, ints)) h.1 k.1)

pub returns-then-top-bottom-clause-points : goal.returns-then-top-bottom-clause-points
returns-then-top-bottom-clause-points c x y = ap (λ r. covers r x y) (returns-then-top-bottom-clause-value c) ∙ covers-intersection_of c.args.self c.args.rhs x y

pub returns-else-left-right-clause-value : goal.returns-else-left-right-clause-value
returns-else-left-right-clause-value c =
    let sx : c.self.inside.x ≡ c.args.self.left = ap (λ r. r.left) c.self.view_is in
    let sy : c.self.inside.y ≡ c.args.self.top = ap (λ r. r.top) c.self.view_is in
    let rx : c.rhs.inside.x ≡ c.args.rhs.left = ap (λ r. r.left) c.rhs.view_is in
    let ry : c.rhs.inside.y ≡ c.args.rhs.top = ap (λ r. r.top) c.rhs.view_is in
    let l : c.max-left.result ≡ int_max c.args.self.left c.args.rhs.left = omega (arith, ints, clamps) in
    let t : c.max-top.result ≡ int_max c.args.self.top c.args.rhs.top = omega (arith, ints, clamps) in
    let r : c.min-right.result ≡ int_min (right c.args.self) (right c.args.rhs) = omega (arith, ints, clamps) in
    let b : c.min-bottom.result ≡ int_min (bottom c.args.self) (bottom c.args.rhs) = omega (arith, ints, clamps) in
    let f : FitsSigned w32 c.max-left.result = search rules in
    let g : FitsSigned w32 c.min-right.result = search rules in
    let f2 : FitsSigned w32 c.max-top.result = search rules in
    let g2 : FitsSigned w32 c.min-bottom.result = search rules in
    let o : (c.min-right.result ≤ℤ c.max-left.result) ⊎ (c.min-bottom.result ≤ℤ c.max-top.result) =
    elim c.else-left-right.branch [ else-left-right-via-then-left-right+else-top-bottom w ↦ inr (not_below_is _ _ (simp to_z-of_z at w.if-top-bottom.false)) | else-left-right-via-else-left-right w ↦ inl (not_below_is _ _ (simp to_z-of_z at w.if-left-right.false)) ] in
    c.default.ensures ∙ rw (← l, ← t, ← r, ← b) (between_none c.max-left.result c.max-top.result c.min-right.result c.min-bottom.result o)

pub returns-else-left-right-clause-points : goal.returns-else-left-right-clause-points
returns-else-left-right-clause-points c x y = ap (λ r. covers r x y) (returns-else-left-right-clause-value c) ∙ covers-intersection_of c.args.self c.args.rhs x y

pub returns-then-top-bottom-clause-commutative : goal.returns-then-top-bottom-clause-commutative
returns-then-top-bottom-clause-commutative c = intersection_of-comm

pub returns-then-top-bottom-clause-associative : goal.returns-then-top-bottom-clause-associative
returns-then-top-bottom-clause-associative c = intersection_of-assoc

pub returns-else-left-right-clause-commutative : goal.returns-else-left-right-clause-commutative
returns-else-left-right-clause-commutative c = intersection_of-comm

pub returns-else-left-right-clause-associative : goal.returns-else-left-right-clause-associative
returns-else-left-right-clause-associative c = intersection_of-assoc
