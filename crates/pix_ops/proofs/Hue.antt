-- Hues: the shorter arc, the two ways in which a hue is moved along it, and what every move keeps.
use Rattle.std.specs.Ordering.{nat_cmp, is_some_and, is_lt, is_le}
use Rattle.std.specs.declared.cmp.Ordering.{Ordering}
use Rattle.std.specs.declared.cmp.Ordering.TheVariants.{Less, Equal, Greater}
use Rattle.std.specs.Prelude.{◌≡◌, Bool, Option, Some, MatchBool, ℕ, ℤ, suc, pos, negsuc, ◌+ℤ◌, ◌-ℤ◌, ◌*ℤ◌, ◌≤ℤ◌, ◌+◌, ◌-◌, ◌*◌, ◌%◌, ◌<◌, ◌≤◌, ◌⊎◌, refl}
use Rattle.std.proofs.Common.{arith, ap, sym, ◌∙◌, inl, inr}
use Rattle.std.proofs.lemmas.Cmp.{ranked}
use Rattle.std.proofs.lemmas.Bool.{cases_lt, cond_below, cond_above}
use Rattle.std.proofs.lemmas.Nat.{mod-mul-add, mod_below}
use Rattle.std.proofs.lemmas.Int.{ints}
use borrow.Author.Differences.{up, down}
use Rattle.pix_ops.specs.declared.ops.Op.{Op}
use Rattle.pix_chan.specs.Number.{wrapping_sum, wrapping_difference}
use Rattle.pix_chan.specs.Product.{channel_product, IsProduct}
use Rattle.pix_chan.specs.Step.{step, channel_lerp, IsBetween, IsLerp}
use Rattle.pix_ops.specs.Operators.{Coefficient, Zero, One, OtherAlpha, OneMinusAlpha, row}
use Rattle.pix_ops.specs.Composite.{channel_composite}
use Rattle.pix_chan.specs.Laws.{ChannelLaws, known_laws}
use Rattle.pix_ops.specs.Hue.{half_turn, shorter_arc, hue_after, hue_weight, hue_steps, IsHueMove}
use Rattle.pix_ops.proofs.Terms.{term_by, term_is}

-- a remainder, by how many wholes are left out
rest_of : (n k x whole : ℕ) → x < whole → n ≡ k * whole + x → n % whole ≡ x
rest_of n k x whole h e = rw e (mod-mul-add k whole x h)

-- x lies that many steps on from d, around a whole
abbrev Lands : ℕ → ℕ → ℤ → ℕ → Type 0
Lands whole d z x = (x + down z ≡ d + up z) ⊎ ((x + whole + down z ≡ d + up z) ⊎ (x + down z ≡ d + up z + whole))

-- where a turn lands
turned_lands : (max d x : ℕ) (z : ℤ) → d < max + 1 → x < max + 1 → down z ≤ (max + 1) → Lands (max + 1) d z x → hue_after max d z ≡ x
turned_lands max d x (pos n) hd hx hz (inl e) = rest_of (d + n) 0 x (max + 1) hx (omega arith)
turned_lands max d x (pos n) hd hx hz (inr (inl e)) = rest_of (d + n) 1 x (max + 1) hx (omega arith)
turned_lands max d x (pos n) hd hx hz (inr (inr e)) = absurd (omega arith)
turned_lands max d x (negsuc n) hd hx hz (inl e) = rest_of (d + ((max + 1) - suc n)) 1 x (max + 1) hx (omega arith)
turned_lands max d x (negsuc n) hd hx hz (inr (inl e)) = absurd (omega arith)
turned_lands max d x (negsuc n) hd hx hz (inr (inr e)) = rest_of (d + ((max + 1) - suc n)) 0 x (max + 1) hx (omega arith)

-- half a turn, by its double
half_is : (max m : ℕ) → 2 * m ≡ max + 1 → half_turn max ≡ m
half_is max m e = omega arith

-- the arc, where the way that does not pass 0 is the shorter one
arc_direct : (max m d s : ℕ) → 2 * m ≡ max + 1 → s - d ≤ m → d - s ≤ m → pos s -ℤ pos d ≡ shorter_arc max d s
unfolding shorter_arc
arc_direct max m d s e hs hd =
    cond_above (half_turn max) (s - d) _ _ _ (omega arith) (cond_above (half_turn max) (d - s) _ _ _ (omega arith) refl)

-- the arc, where the shorter way goes from d down past 0 to s
arc_down : (max m d s : ℕ) → 2 * m ≡ max + 1 → m < s - d → (pos s -ℤ pos d) -ℤ pos (max + 1) ≡ shorter_arc max d s
unfolding shorter_arc
arc_down max m d s e h = cond_below (half_turn max) (s - d) _ _ (omega arith)

-- the arc, where the shorter way goes from d up past the max to s
arc_up : (max m d s : ℕ) → 2 * m ≡ max + 1 → m < d - s → (pos s -ℤ pos d) +ℤ pos (max + 1) ≡ shorter_arc max d s
unfolding shorter_arc
arc_up max m d s e h =
    cond_above (half_turn max) (s - d) _ _ _ (omega arith) (cond_below (half_turn max) (d - s) _ _ (omega arith))

-- The arc is at most half a turn, and leads from d to s.
record IsArc (max m d s : ℕ) (arc : ℤ) : Type 0 where
  pub forwards : up arc ≤ m + down arc
  pub backwards : down arc ≤ m + up arc
  pub leads : Lands (max + 1) d arc s

-- the shorter arc is one
arc_is : (max m d s : ℕ) → 2 * m ≡ max + 1 → d < max + 1 → s < max + 1 → IsArc max m d s (shorter_arc max d s)
arc_is max m d s e hd hs = elim (cases_lt m (s - d)) [
  | inl past ↦
      let a = arc_down max m d s e past in
      record { forwards = omega (arith, ints); backwards = omega (arith, ints); leads = inr (inr (omega (arith, ints))) }
  | inr le ↦ elim (cases_lt m (d - s)) [
    | inl past ↦
        let a = arc_up max m d s e past in
        record { forwards = omega (arith, ints); backwards = omega (arith, ints); leads = inr (inl (omega (arith, ints))) }
    | inr le' ↦
        let a = arc_direct max m d s e le le' in
        record { forwards = omega (arith, ints); backwards = omega (arith, ints); leads = inl (omega (arith, ints)) }
  ]
]

-- of the two parts of a whole number one is 0
parted : (z : ℤ) (m : ℕ) → down z ≤ m + up z → down z ≤ m
parted (pos n) m h = omega arith
parted (negsuc n) m h = omega arith

-- a part of an arc goes back no further than the arc
part_within : (m : ℕ) (arc z : ℤ) → down arc ≤ m + up arc → IsBetween (pos 0) arc z → down z ≤ m
part_within m arc z h (inl k) = let lo : pos 0 ≤ℤ z = k.0 in parted z m (omega (arith, ints))
part_within m arc z h (inr k) = let lo : arc ≤ℤ z = k.0 in parted z m (omega (arith, ints))

-- a channel is less than a turn
below_turn : (max d : ℕ) → 1 < max → d ≤ max → d < max + 1
below_turn max d wide h = omega arith

-- Hues d and s and a weight of one width, in which half a turn is m.
pub record IsMovable (max m d s weight : ℕ) : Type 0 where
  pub wide : 1 < max
  pub half : 2 * m ≡ max + 1
  pub laws : ChannelLaws max
  pub starts : d ≤ max
  pub ends : s ≤ max
  pub part : weight ≤ max

-- both hues are less than a turn, the arc is one, and the steps go back no further than half a turn
record IsOnArc (max m d s weight : ℕ) : Type 0 where
  pub start : d < max + 1
  pub end : s < max + 1
  pub arc : IsArc max m d s (shorter_arc max d s)
  pub between : IsBetween (pos 0) (shorter_arc max d s) (hue_steps max weight d s)
  pub steps : down (hue_steps max weight d s) ≤ m

-- so it is with hues that can be moved
on_arc : {max m d s weight : ℕ} → IsMovable max m d s weight → IsOnArc max m d s weight
on_arc {max} {m} {d} {s} {weight} k =
    let start = below_turn max d k.wide k.starts in
    let end = below_turn max s k.wide k.ends in
    let arc = arc_is max m d s k.half start end in
    let between = (known_laws max k.laws).step.between weight (shorter_arc max d s) k.part in
    record { start = start; end = end; arc = arc; between = between; steps = part_within m (shorter_arc max d s) _ arc.backwards between }

-- A lerp is the move, where the shorter way does not pass 0.
pub moved_directly : {max m d s weight : ℕ} (v x : ℕ) → IsMovable max m d s weight → v ≡ weight → x ≤ max
    → (d - s) + (s - d) ≤ m → pos x ≡ channel_lerp max d s v → x ≡ hue_after max d (hue_steps max weight d s)
unfolding channel_lerp
moved_directly {max} {m} {d} {s} {weight} v x k same fits near is =
    let a = on_arc k in
    let way = arc_direct max m d s k.half (omega arith) (omega arith) in
    let at : pos x ≡ pos d +ℤ hue_steps max weight d s = is ∙ ap (λ n. pos d +ℤ step max (pos n *ℤ (pos s -ℤ pos d))) same ∙ ap (λ z. pos d +ℤ step max (pos weight *ℤ z)) way in
    sym (turned_lands max d x (hue_steps max weight d s) a.start (below_turn max x k.wide fits) (omega (arith, a.steps)) (inl (omega (arith, ints))))

-- half a turn on from a hue before the middle
half_on : (max m d : ℕ) → 2 * m ≡ max + 1 → d < m → wrapping_sum max d m ≡ d + m
half_on max m d e h = rest_of (d + m) 0 (d + m) (max + 1) (omega arith) (omega arith)

-- half a turn on from the middle or a hue past it
half_past : (max m d : ℕ) → 2 * m ≡ max + 1 → m ≤ d → d < max + 1 → wrapping_sum max d m ≡ d - m
half_past max m d e h l = rest_of (d + m) 1 (d - m) (max + 1) (omega arith) (omega arith)

-- half a turn back from the middle or a hue past it
back_half : (max m y : ℕ) → 2 * m ≡ max + 1 → m ≤ y → y < max + 1 → wrapping_difference max y m ≡ y - m
back_half max m y e h l = rest_of (y + ((max + 1) - m)) 1 (y - m) (max + 1) (omega arith) (omega arith)

-- half a turn back from a hue before the middle
back_past : (max m y : ℕ) → 2 * m ≡ max + 1 → y < m → wrapping_difference max y m ≡ y + m
back_past max m y e h = rest_of (y + ((max + 1) - m)) 0 (y + m) (max + 1) (omega arith) (omega arith)

-- where the shorter way passes 0, it is the way between the hues half a turn on
way_past_zero : (max m d s t u : ℕ) → 2 * m ≡ max + 1 → d < max + 1 → s < max + 1 → m < (d - s) + (s - d)
    → t ≡ wrapping_sum max d m → u ≡ wrapping_sum max s m → pos u -ℤ pos t ≡ shorter_arc max d s
way_past_zero max m d s t u e hd hs far et eu = elim (cases_lt d s) [
  | inl lt ↦
      let a = half_on max m d e (omega arith) in
      let b = half_past max m s e (omega arith) hs in
      let c = arc_down max m d s e (omega arith) in
      omega (arith, ints)
  | inr le ↦
      let a = half_past max m d e (omega arith) hd in
      let b = half_on max m s e (omega arith) in
      let c = arc_up max m d s e (omega arith) in
      omega (arith, ints)
]

-- half a turn back from what lies z steps on from the hue half a turn on from d
lands_back : (max m d t y x : ℕ) (z : ℤ) → 2 * m ≡ max + 1 → d < max + 1 → t ≡ wrapping_sum max d m → pos y ≡ pos t +ℤ z
    → y < max + 1 → x ≡ wrapping_difference max y m → Lands (max + 1) d z x
lands_back max m d t y x z e hd ht at hy hx = elim (cases_lt d m) [
  | inl low ↦
      let a = half_on max m d e low in
      elim (cases_lt y m) [
        | inl l ↦ let b = back_past max m y e l in inr (inr (omega (arith, ints)))
        | inr g ↦ let b = back_half max m y e g hy in inl (omega (arith, ints))
      ]
  | inr high ↦
      let a = half_past max m d e high hd in
      elim (cases_lt y m) [
        | inl l ↦ let b = back_past max m y e l in inl (omega (arith, ints))
        | inr g ↦ let b = back_half max m y e g hy in inr (inl (omega (arith, ints)))
      ]
]

-- A lerp between the hues half a turn on, taken half a turn back, is the move where the shorter way
-- passes 0.
pub moved_past_zero : {max m d s weight : ℕ} (v t u y x : ℕ) → IsMovable max m d s weight → v ≡ weight → y ≤ max
    → m < (d - s) + (s - d) → t ≡ wrapping_sum max d m → u ≡ wrapping_sum max s m → pos y ≡ channel_lerp max t u v
    → x ≡ wrapping_difference max y m → x ≡ hue_after max d (hue_steps max weight d s)
unfolding channel_lerp
moved_past_zero {max} {m} {d} {s} {weight} v t u y x k same fits far et eu is back =
    let a = on_arc k in
    let way = way_past_zero max m d s t u k.half a.start a.end far et eu in
    let at : pos y ≡ pos t +ℤ hue_steps max weight d s = is ∙ ap (λ n. pos t +ℤ step max (pos n *ℤ (pos u -ℤ pos t))) same ∙ ap (λ z. pos t +ℤ step max (pos weight *ℤ z)) way in
    let bx : x < max + 1 = omega (arith, mod_below (y + ((max + 1) - m)) (max + 1) (omega (arith, a.start))) in
    sym (turned_lands max d x (hue_steps max weight d s) a.start bx (omega (arith, a.steps))
    (lands_back max m d t y x (hue_steps max weight d s) k.half a.start et at (below_turn max y k.wide fits) back))

-- a whole number, by its two parts
by_parts : (z : ℤ) → pos (up z) -ℤ pos (down z) ≡ z
by_parts z = omega (arith, ints)

-- the same start, taken away
from_same : (a s b : ℤ) → a +ℤ s ≡ a +ℤ b → s ≡ b
from_same a s b e = omega (arith, ints)

-- no weight moves no step
no_step : (max : ℕ) (way : ℤ) → IsLerp max (channel_lerp max) → step max (pos 0 *ℤ way) ≡ pos 0
unfolding channel_lerp
no_step max way laws =
    let a = pos (down way) in
    let b : a +ℤ step max (pos 0 *ℤ way) ≡ a = ap (λ z. a +ℤ step max (pos 0 *ℤ z)) (sym (by_parts way)) ∙ laws.at_zero (down way) (up way) in
    from_same a _ _ (b ∙ omega (arith, ints))

-- all of the weight moves all of the way
all_steps : (max : ℕ) (way : ℤ) → IsLerp max (channel_lerp max) → step max (pos max *ℤ way) ≡ way
unfolding channel_lerp
all_steps max way laws =
    let a = pos (down way) in
    let b : a +ℤ step max (pos max *ℤ way) ≡ pos (up way) = ap (λ z. a +ℤ step max (pos max *ℤ z)) (sym (by_parts way)) ∙ laws.at_max (down way) (up way) in
    from_same a _ _ (b ∙ omega (arith, ints))

-- A hue that is moved by a weight keeps to the shorter arc.
pub hue_moves : {max m d s weight : ℕ} (x : ℕ) → IsMovable max m d s weight → x ≡ hue_after max d (hue_steps max weight d s) → IsHueMove max weight d s x
hue_moves {max} {m} {d} {s} {weight} x k is =
    let laws = known_laws max k.laws in
    let a = on_arc k in
    let arc = shorter_arc max d s in
    let half = half_is max m k.half in
    let led : hue_after max d arc ≡ s = turned_lands max d s arc a.start a.end (parted arc (max + 1) (omega (arith, a.arc.backwards))) a.arc.leads in
    let same : hue_after max d (pos 0) ≡ d = rest_of (d + 0) 0 d (max + 1) a.start (omega arith) in
    record {
      steps = is;
      forwards = omega (arith, ints, a.arc.forwards);
      backwards = omega (arith, ints, a.arc.backwards);
      between = a.between;
      leads = led;
      stays = λ z. is ∙ ap (λ v. hue_after max d (hue_steps max v d s)) z ∙ ap (λ v. hue_after max d v) (no_step max arc laws.lerp) ∙ same;
      arrives = λ z. is ∙ ap (λ v. hue_after max d (hue_steps max v d s)) z ∙ ap (λ v. hue_after max d v) (all_steps max arc laws.lerp) ∙ led;
    }

-- a term is at most its channel
term_lesser : (a : Coefficient) (fine max x alpha : ℕ) (product : ℕ → ℕ → ℕ) → IsProduct fine max product → x ≤ max → alpha ≤ max → term_by product max a x alpha ≤ x
term_lesser Zero fine max x alpha product laws l k = omega arith
term_lesser One fine max x alpha product laws l k = omega arith
term_lesser OtherAlpha fine max x alpha product laws l k = laws.at_most_operand x alpha l k
term_lesser OneMinusAlpha fine max x alpha product laws l k = laws.at_most_operand x (max - alpha) l (omega arith)

-- The composite of the source's alpha with no channel is the weight of a hue.
pub weight_is : (op : Op) (fine max sa sa1 none da weight : ℕ) → IsProduct fine max (channel_product max) → sa ≤ max → da ≤ max
    → sa1 ≡ max - sa → none ≡ 0 → weight ≡ channel_composite max op sa (max - sa1) none da → weight ≡ hue_weight max op sa da
weight_is op fine max sa sa1 none da weight laws ls ld is empty made =
    let a = (row op).source in
    let b = (row op).dest in
    let p = term_lesser a fine max sa da (channel_product max) laws ls ld in
    let q = term_lesser b fine max none (max - sa1) (channel_product max) laws (omega arith) (omega arith) in
    omega (arith, term_is a max sa da, term_is b max none (max - sa1))

-- The weight of a hue is a channel.
pub weight_fits : (op : Op) (fine max sa da : ℕ) → IsProduct fine max (channel_product max) → sa ≤ max → da ≤ max → hue_weight max op sa da ≤ max
weight_fits op fine max sa da laws ls ld =
    let a = (row op).source in
    let p = term_lesser a fine max sa da (channel_product max) laws ls ld in
    rw (term_is a max sa da) (omega arith)

-- an answer of `cmp` at two numbers, tested for less
less_by : (a b : ℕ) (o : Ordering) → o ≡ nat_cmp a b → MatchBool (is_lt o) (a < b) (b ≤ a)
less_by a b Less e = ranked a b Less e
less_by a b Equal e = let h : a ≡ b = ranked a b Equal e in omega arith
less_by a b Greater e = let h : b < a = ranked a b Greater e in omega arith

-- the same answer, tested for at most
at_most_by : (a b : ℕ) (o : Ordering) → o ≡ nat_cmp a b → MatchBool (is_le o) (a ≤ b) (b < a)
at_most_by a b Less e = let h : a < b = ranked a b Less e in omega arith
at_most_by a b Equal e = let h : a ≡ b = ranked a b Equal e in omega arith
at_most_by a b Greater e = ranked a b Greater e

-- What `<` says of the numbers a and b of two channels, where `partial_cmp` answers p.
pub less : (a b : ℕ) (o : Ordering) (p : Option Ordering) (r : Bool) → o ≡ nat_cmp a b → p ≡ Some o → r ≡ is_some_and is_lt p → MatchBool r (a < b) (b ≤ a)
less a b o p r eo ep er = rw (er, ep) (less_by a b o eo)

-- What `<=` says of those numbers.
pub at_most : (a b : ℕ) (o : Ordering) (p : Option Ordering) (r : Bool) → o ≡ nat_cmp a b → p ≡ Some o → r ≡ is_some_and is_le p → MatchBool r (a ≤ b) (b < a)
at_most a b o p r eo ep er = rw (er, ep) (at_most_by a b o eo)
