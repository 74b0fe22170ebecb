-- Tables of the rows of a filter.
use Rattle.std.specs.Prelude.{◌≡◌, ◌≢◌, ℕ, ◌+◌, ◌*◌, ◌<◌, ◌≤◌, List, length, slice_index, refl}
use Rattle.std.proofs.Common.{inl, inr, suc, get_or, set, arith, sym, subst, get_or-set_other, get_or-set_same}
use borrow.Rule.Slice.PartMut.{put_mid}
use Rattle.std.proofs.Math.Nat.{mul-le-mul_right}
use Rattle.std.proofs.lemmas.Bool.{cases_lt}
use Rattle.pix_scale.specs.Table.{tap}
use Rattle.pix_scale.specs.Signed.{taps_by}
use Rattle.pix_scale.specs.SignedTable.{IsFilterRow, IsSound, taps_at}
use Rattle.pix_scale.specs.declared.filter.SignedFilter.{SignedFilter}
use Rattle.pix_scale.proofs.Parts.{in_part, before_part}
use Rattle.pix_scale.proofs.SignedRows.{SameTaps}
use Rattle.pix_scale.proofs.SignedWeights.{row_again}

-- the rows below i are written
pub record FilterRows (filter : SignedFilter) (places n m at taps : ℕ) (firsts plus minus : List ℕ) (i : ℕ) : Type 0 where
  pub rows : (j : ℕ) → j < i → IsFilterRow filter places n m (at + j) (get_or firsts j 0) taps (tap plus taps j) (tap minus taps j)

pub rows_none : (filter : SignedFilter) (places n m at taps : ℕ) (firsts plus minus : List ℕ) → FilterRows filter places n m at taps firsts plus minus 0
rows_none filter places n m at taps firsts plus minus = record { rows = λ j lt. absurd (omega arith) }

-- what a row before that which is written is, and that row
tap_before : (plus new : List ℕ) (taps i j k q : ℕ) → j < i → i * taps + taps ≤ length plus → k < taps → tap (put_mid (i * taps) q plus new) taps j k ≡ tap plus taps j k
tap_before plus new taps i j k q l fits lt =
    let s : suc j * taps ≤ i * taps = mul-le-mul_right taps (let w : suc j ≤ i = omega arith in w) in
    let b : j * taps + k < i * taps = omega (arith, s) in
    before_part (i * taps) q plus new (j * taps + k) 0 b (omega arith)

tap_written : (plus new : List ℕ) (taps i k q : ℕ) → i * taps + taps ≤ length plus → length new ≡ taps → k < taps → tap (put_mid (i * taps) q plus new) taps i k ≡ get_or new k 0
tap_written plus new taps i k q fits long lt = in_part (i * taps) q plus new k 0 (omega arith) (omega arith)

pub rows_more : (filter : SignedFilter) (places n m at taps : ℕ) (firsts plus minus new_plus new_minus : List ℕ) (i k q v : ℕ) → i < length firsts
    → i * taps + taps ≤ length plus → i * taps + taps ≤ length minus → length new_plus ≡ taps → length new_minus ≡ taps
    → FilterRows filter places n m at taps firsts plus minus i
    → IsFilterRow filter places n m (at + i) v taps (slice_index new_plus) (slice_index new_minus)
    → FilterRows filter places n m at taps (set firsts i v) (put_mid (i * taps) k plus new_plus) (put_mid (i * taps) q minus new_minus) (i + 1)
rows_more filter places n m at taps firsts plus minus new_plus new_minus i k q v in_ a b long short rows row = record {
  rows = λ j lt. elim (cases_lt j i) [
    | inl l ↦
        let ne : j ≢ i = omega arith in
        let same : get_or (set firsts i v) j 0 ≡ get_or firsts j 0 = rw get_or-set_other refl in
        subst (λ f. IsFilterRow filter places n m (at + j) f taps (tap (put_mid (i * taps) k plus new_plus) taps j) (tap (put_mid (i * taps) q minus new_minus) taps j)) (sym same)
        (row_again filter places n m (at + j) (get_or firsts j 0) taps (tap plus taps j) (tap minus taps j) (tap (put_mid (i * taps) k plus new_plus) taps j) (tap (put_mid (i * taps) q minus new_minus) taps j)
        (λ x lx. tap_before plus new_plus taps i j x k l a lx) (λ x lx. tap_before minus new_minus taps i j x q l b lx) (rows.rows j l))
    | inr l ↦
        let e : j ≡ i = omega arith in
        let same : get_or (set firsts i v) i 0 ≡ v = rw get_or-set_same refl in
        subst (λ z. IsFilterRow filter places n m (at + z) (get_or (set firsts i v) z 0) taps (tap (put_mid (i * taps) k plus new_plus) taps z) (tap (put_mid (i * taps) q minus new_minus) taps z)) (sym e)
        (subst (λ f. IsFilterRow filter places n m (at + i) f taps (tap (put_mid (i * taps) k plus new_plus) taps i) (tap (put_mid (i * taps) q minus new_minus) taps i)) (sym same)
        (row_again filter places n m (at + i) v taps (slice_index new_plus) (slice_index new_minus) (tap (put_mid (i * taps) k plus new_plus) taps i) (tap (put_mid (i * taps) q minus new_minus) taps i)
        (λ x lx. tap_written plus new_plus taps i x k a long lx) (λ x lx. tap_written minus new_minus taps i x q b short lx) row))
  ];
}

-- the rows of a filter are a sound table
pub rows_sound : (filter : SignedFilter) (places n m at taps : ℕ) (firsts plus minus : List ℕ) → length plus ≡ length firsts * taps → length minus ≡ length firsts * taps
    → ((i : ℕ) → i < length firsts → IsFilterRow filter places n m (at + i) (get_or firsts i 0) taps (tap plus taps i) (tap minus taps i))
    → IsSound places firsts plus minus taps
rows_sound filter places n m at taps firsts plus minus a b rows = record {
  long_plus = a;
  long_minus = b;
  inside = λ i lt. (rows i lt).inside;
  adds_up = λ i lt. (rows i lt).adds_up;
  small = λ i lt. (rows i lt).small;
}

-- a row of the table is that of the filter
pub row_is_by : (filter : SignedFilter) (places n m at taps : ℕ) (firsts plus minus : List ℕ) (i : ℕ)
    → IsFilterRow filter places n m (at + i) (get_or firsts i 0) taps (tap plus taps i) (tap minus taps i)
    → SameTaps (taps_at firsts plus minus taps i) (taps_by filter places n m (at + i))
row_is_by filter places n m at taps firsts plus minus i row = record { first = row.begins; count = row.many; weight = row.weighs }
