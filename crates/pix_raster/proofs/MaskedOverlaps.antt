-- The overlap of three regions: each axis from the places of its first point and its last, and the
-- points from both axes.
use Rattle.std.proofs.Common.{◌≡◌, ℕ, ◌<◌, ◌≤◌, ◌+◌, ◌-◌, ℤ, pos, ◌+ℤ◌, ◌-ℤ◌, ◌<ℤ◌, ◌≤ℤ◌, Bool, true, false, arith, min, refl, subst}
use Rattle.std.specs.Bool.{Decides}
use Rattle.std.specs.Prelude.{◌&&◌}
use Rattle.std.proofs.lemmas.Bool.Decides.{Decides-and, Decides-like, same_from_decides}
use Rattle.std.proofs.lemmas.Int.{ints}
use Rattle.std.specs.declared.ops.Range.{Range}
use Rattle.pix_el.specs.Pixel.{lies_in}
use Rattle.pix_raster.specs.Reach.{natural}
use Rattle.pix_raster.specs.Clip.{is_offset}
use Rattle.pix_raster.proofs.Overlaps.{IsOffset, Decides-offset, Decides-in, natural_is}
use Rattle.pix_raster.proofs.Rectangles.{both}

-- the offsets of three axes, between the places of the first and the last in all
module _ (to from mask : ℤ) (to_len first count from_len src_count mask_len mask_count near src_near mask_near start end : ℕ)
    (place : pos (first + near) ≡ to +ℤ pos 4294967296) (src_place : pos src_near ≡ from +ℤ pos 4294967296) (mask_place : pos mask_near ≡ mask +ℤ pos 4294967296)
    (es : start ≡ 4294967296 - min (min near src_near) mask_near)
    (ee : end ≡ min (min (min (min (min to_len from_len) mask_len) (4294967296 + count - near)) (4294967296 + src_count - src_near)) (4294967296 + mask_count - mask_near)) where
  -- the offset i lies in all three
  abbrev Meets : ℤ → Type 0
  Meets i = (IsOffset to to_len (first + count) i × IsOffset from from_len src_count i) × IsOffset mask mask_len mask_count i

  -- the offset of a column of the window
  abbrev offset : ℕ → ℤ
  offset x = pos (first + x) -ℤ to

  -- the test whether it lies in all three
  abbrev is_met : ℕ → Bool
  is_met x = (is_offset to to_len (first + count) (offset x) && is_offset from from_len src_count (offset x)) && is_offset mask mask_len mask_count (offset x)

  Decides-met : (x : ℕ) → Decides (is_met x) (Meets (offset x))
  Decides-met x = Decides-and _ _ (Decides-and _ _ (Decides-offset to to_len (first + count) (offset x)) (Decides-offset from from_len src_count (offset x)))
      (Decides-offset mask mask_len mask_count (offset x))

  -- what lies between them does
  meets : (n : ℕ) → start ≤ n → n < end → Meets (pos n)
  meets n h k = (
    (
      ((omega (arith, ints), omega (arith, ints, ee, k)), (omega (arith, ints, place, es, h), omega (arith, ints, place, ee, k))),
      ((omega (arith, ints), omega (arith, ints, ee, k)), (omega (arith, ints, src_place, es, h), omega (arith, ints, src_place, ee, k))),
    ),
    ((omega (arith, ints), omega (arith, ints, ee, k)), (omega (arith, ints, mask_place, es, h), omega (arith, ints, mask_place, ee, k))),
  )

  -- and what does lies between them
  met : (x : ℕ) → Meets (offset x) → (offset x ≡ pos (natural (offset x))) × (start ≤ natural (offset x)) × (natural (offset x) < end)
  met x h =
      let n : ℕ = natural (offset x) in
      let e : offset x ≡ pos n = natural_is (offset x) h.0.0.0.0 in
      let a : offset x <ℤ pos to_len = h.0.0.0.1 in
      let b : (to +ℤ offset x) <ℤ pos (first + count) = h.0.0.1.1 in
      let c : offset x <ℤ pos from_len = h.0.1.0.1 in
      let d : pos 0 ≤ℤ (from +ℤ offset x) = h.0.1.1.0 in
      let f : (from +ℤ offset x) <ℤ pos src_count = h.0.1.1.1 in
      let i : offset x <ℤ pos mask_len = h.1.0.1 in
      let j : pos 0 ≤ℤ (mask +ℤ offset x) = h.1.1.0 in
      let k : (mask +ℤ offset x) <ℤ pos mask_count = h.1.1.1 in
      (e, omega (arith, ints, place, src_place, mask_place, es, e, d, j), omega (arith, ints, place, src_place, mask_place, ee, e, a, b, c, f, i, k))

  -- where there is none, nothing is paired
  pub none_meet : end ≤ start → (x : ℕ) → lies_in (record { start = 0; end = 0 }) x ≡ is_met x
  none_meet h x =
      same_from_decides _ _ (Decides-in (record { start = 0; end = 0 }) x)
      (Decides-like _ (λ k. let m = met x k in let m1 = m.1 in let m2 = m.2 in absurd (omega arith)) (λ k. let l : x < 0 = k.1 in absurd (omega arith)) (Decides-met x))

  -- the first coordinates in all three
  module _ (some : start < end) (d s k : ℕ) (hd : d + 4294967296 ≡ near + start) (hs : s + 4294967296 ≡ src_near + start) (hk : k + 4294967296 ≡ mask_near + start) where
    -- the coordinates of the destination
    abbrev dst : Range ℕ
    dst = record { start = d; end = d + (end - start) }

    there : (x : ℕ) → (d ≤ x) × (x < d + (end - start)) → Meets (offset x)
    there x h =
        let h0 : d ≤ x = h.0 in let h1 : x < d + (end - start) = h.1 in
        let e : pos (start + (x - d)) ≡ offset x = omega (arith, ints, place, hd, h0) in
        subst Meets e (meets (start + (x - d)) (omega arith) (omega (arith, some)))

    back : (x : ℕ) → Meets (offset x) → (d ≤ x) × (x < d + (end - start))
    back x h =
        let m = met x h in
        let e : offset x ≡ pos (natural (offset x)) = m.0 in let m1 : start ≤ natural (offset x) = m.1 in let m2 : natural (offset x) < end = m.2 in
        (omega (arith, ints, place, hd, e, m1), omega (arith, ints, place, hd, e, m1, m2, some))

    -- just those of offsets in all three
    pub points_meet : (x : ℕ) → lies_in dst x ≡ is_met x
    points_meet x = same_from_decides _ _ (Decides-in dst x) (Decides-like _ (back x) (there x) (Decides-met x))

    -- each with the coordinate of the source at that offset
    pub sources_meet : (x : ℕ) → lies_in dst x ≡ true → s + (x - d) ≡ natural (from +ℤ offset x)
    sources_meet x e =
        let h = (Decides-in dst x).0 e in let h0 : d ≤ x = h.0 in
        let i : (from +ℤ offset x) ≡ pos (s + (x - d)) = omega (arith, ints, place, src_place, hd, hs, h0) in
        rw i refl

    -- and with that of the mask
    pub masks_meet : (x : ℕ) → lies_in dst x ≡ true → k + (x - d) ≡ natural (mask +ℤ offset x)
    masks_meet x e =
        let h = (Decides-in dst x).0 e in let h0 : d ≤ x = h.0 in
        let i : (mask +ℤ offset x) ≡ pos (k + (x - d)) = omega (arith, ints, place, mask_place, hd, hk, h0) in
        rw i refl

-- tests of both axes in three rasters, as those of the first with either of the others
pub paired_twice : (a b c d e f : Bool) → (((a && b) && c) && ((d && e) && f)) ≡ (((a && b) && (d && e)) && ((a && c) && (d && f)))
paired_twice true b c true e f = both b c e f
paired_twice true true true false e f = refl
paired_twice true true false false e f = refl
paired_twice true false c false e f = refl
paired_twice false b c d e f = refl
