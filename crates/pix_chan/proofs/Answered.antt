-- What the numbers that `lerp` and `from_ratio` answer keep, as their clauses say it.
use Rattle.std.specs.Prelude.{◌≡◌, ℕ, ℤ, pos, ◌+ℤ◌, ◌-ℤ◌, ◌*ℤ◌, ◌<ℤ◌, ◌+◌, ◌-◌, ◌*◌, ◌<◌, ◌≤◌}
use Rattle.std.proofs.Common.{arith, ap, subst, sym, ◌∙◌}
use Rattle.std.proofs.lemmas.Int.{ints}
use Rattle.pix_chan.specs.Step.{channel_lerp, IsBetween, IsLerp}
use Rattle.pix_chan.specs.StepLaws.{lerp_laws, times_sum, back_at}
use Rattle.pix_chan.specs.Nearest.{nearest, distance}
use Rattle.pix_chan.specs.NearestLaws.{nearest_laws}

-- z lies t / max of the way from a to b
pub record Lerped (max a b t z : ℕ) : Type 0 where
  pub between : IsBetween (pos a) (pos b) (pos z)
  pub ends : (t ≡ 0 → z ≡ a) × (t ≡ max → z ≡ b)
  pub above : max * z < (max - t) * a + t * b + max
  pub below : (max - t) * a + t * b < max * z + max

-- the exact place on the way, times the maximum
place_is : (m a b t : ℕ) → t ≤ m → pos m *ℤ pos a +ℤ pos t *ℤ (pos b -ℤ pos a) ≡ pos ((m - t) * a + t * b)
place_is m a b t h =
    let parts : pos t *ℤ pos b ≡ pos t *ℤ pos a +ℤ pos t *ℤ (pos b -ℤ pos a) =
    ap (λ z. pos t *ℤ z) (sym (back_at (pos a) (pos b))) ∙ times_sum t (pos a) (pos b -ℤ pos a) in
    let split : m ≡ m - t + t = omega arith in
    let whole : m * a ≡ (m - t + t) * a = ap (λ n. n * a) split in
    omega (arith, ints)

pub lerped : (m a b t z : ℕ) → 1 < m → t ≤ m → pos z ≡ channel_lerp m a b t → Lerped m a b t z
lerped m a b t z hm h e =
    let laws : IsLerp m (channel_lerp m) = lerp_laws m hm in
    let place : ℕ = (m - t) * a + t * b in
    let at_zero : t ≡ 0 → pos z ≡ pos a = λ s. e ∙ ap (channel_lerp m a b) s ∙ laws.at_zero a b in
    let at_max : t ≡ m → pos z ≡ pos b = λ s. e ∙ ap (channel_lerp m a b) s ∙ laws.at_max a b in
    let above : (pos m *ℤ pos z) <ℤ (pos place +ℤ pos m) = subst (λ v. (pos m *ℤ v) <ℤ (pos place +ℤ pos m)) (sym e)
    (subst (λ v. (pos m *ℤ channel_lerp m a b t) <ℤ (v +ℤ pos m)) (place_is m a b t h) (laws.above a b t)) in
    let below : pos place <ℤ (pos m *ℤ pos z +ℤ pos m) = subst (λ v. pos place <ℤ (pos m *ℤ v +ℤ pos m)) (sym e)
    (subst (λ v. v <ℤ (pos m *ℤ channel_lerp m a b t +ℤ pos m)) (place_is m a b t h) (laws.below a b t)) in
    record {
      between = rw e (laws.between a b t h);
      ends = (λ s. let u : pos z ≡ pos a = at_zero s in omega (arith, ints), λ s. let u : pos z ≡ pos b = at_max s in omega (arith, ints));
      above = omega (arith, ints);
      below = omega (arith, ints);
    }

-- r is the nearest to n / d
pub record Rounded (max : ℕ) (n d : ℤ) (r : ℕ) : Type 0 where
  pub none_nearer : (k : ℕ) → k ≤ max → distance n d r ≤ distance n d k
  pub ties_up : (k : ℕ) → k ≤ max → r < k → distance n d r < distance n d k

pub rounded : (max : ℕ) (n d : ℤ) (r : ℕ) → pos 0 <ℤ d → r ≡ nearest max n d → Rounded max n d r
rounded max n d r h e = subst (Rounded max n d) (sym e) (record {
  none_nearer = λ k u. (nearest_laws max).none_nearer n d k h u;
  ties_up = λ k u l. (nearest_laws max).ties_up n d k h u l;
})
