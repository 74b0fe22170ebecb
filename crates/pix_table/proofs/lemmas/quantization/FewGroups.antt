-- The sums of the items of each entry, where those of the last few items stand beside those of the others.
use Rattle.std.proofs.Common.{◌≡◌, ℕ, ◌+◌, ◌*◌, ◌<◌, ◌≤◌, List, length, set, replicate, get_or, refl, arith, sym, ap, ◌∙◌, inl, inr, length-set}
use Rattle.std.proofs.lemmas.Bool.{cases_eq}
use Rattle.std.proofs.lemmas.List.{get_or-set_same, get_or-set_other, get_or-replicate, get_or_default, length-replicate}
use Rattle.pix_table.specs.quantization.Groups.{AreItemGroups, AreOfFewBytes, IsTogether}
use Rattle.pix_table.specs.declared.quantization.box_sums.Sums.{Sums}
use Rattle.pix_table.specs.declared.quantization.sums64.Sums64.{Sums64}

-- at each place the sums of the two lists are together those of the third
pub record AreTogether (sums : List Sums) (few : List Sums64) (all : List Sums) : Type 0 where
  pub many : length all ≡ length sums
  pub each : (k : ℕ) (d : Sums) (e : Sums64) (f : Sums) → k < length sums → IsTogether (get_or sums k d) (get_or few k e) (get_or all k f)

-- none is of more than so many colors, and all are those of bytes
pub record AreLittle (most : ℕ) (few : List Sums64) : Type 0 where
  pub count : (k : ℕ) (e : Sums64) → k < length few → (get_or few k e).count ≤ most
  pub bytes : (k : ℕ) (e : Sums64) → k < length few → AreOfFewBytes (get_or few k e)

-- none beside the others
pub together_none : (sums : List Sums) (n : ℕ) (none : Sums64) → length sums ≤ n → none.count ≡ 0 → none.red ≡ 0 → none.green ≡ 0 → none.blue ≡ 0
    → AreTogether sums (replicate n none) sums
together_none sums n none many count red green blue = record {
  many = refl;
  each = λ k d e f inside. rw (get_or-replicate n k none e (omega (arith, many, inside)), get_or_default sums k f d inside)
      (record { count = omega (arith, count); red = omega (arith, red); green = omega (arith, green); blue = omega (arith, blue) });
}

pub little_none : (most n : ℕ) (none : Sums64) → none.count ≡ 0 → none.red ≡ 0 → none.green ≡ 0 → none.blue ≡ 0 → AreLittle most (replicate n none)
little_none most n none count red green blue = record {
  count = λ k e inside. rw (get_or-replicate n k none e (omega (arith, inside, length-replicate n none))) (omega (arith, count));
  bytes = λ k e inside. rw (get_or-replicate n k none e (omega (arith, inside, length-replicate n none)))
      (record { red = omega (arith, red); green = omega (arith, green); blue = omega (arith, blue) });
}

-- one item more at a place, whose sums grow by so much
module _ (sums all : List Sums) (few : List Sums64) (v n r g b : ℕ) (old x : Sums64) (was new : Sums) (stands : v < length sums)
    (room : v < length few) (read : old ≡ get_or few v old) (seen : was ≡ get_or all v was) (count : x.count ≡ old.count + n) (red : x.red ≡ old.red + r)
    (green : x.green ≡ old.green + g) (blue : x.blue ≡ old.blue + b) where
  pub together_more : new.count ≡ was.count + n → new.red ≡ was.red + r → new.green ≡ was.green + g → new.blue ≡ was.blue + b → AreTogether sums few all
      → AreTogether sums (set few v x) (set all v new)
  together_more more_count more_red more_green more_blue h = record {
    many = length-set all v new ∙ h.many;
    each = λ k d e f inside. elim (cases_eq k v) [
      | inl same ↦
          let t = h.each k d old was inside in
          let one : get_or few k old ≡ old = ap (λ i. get_or few i old) same ∙ sym read in
          let both : get_or all k was ≡ was = ap (λ i. get_or all i was) same ∙ sym seen in
          let here : get_or (set few v x) k e ≡ x = ap (λ i. get_or (set few v x) i e) same ∙ get_or-set_same few v x e room in
          let there : get_or (set all v new) k f ≡ new =
          ap (λ i. get_or (set all v new) i f) same ∙ get_or-set_same all v new f (omega (arith, h.many, stands)) in
          rw (here, there)
          (record {
            count = omega (arith, t.count, count, more_count, ap (λ s. s.count) one, ap (λ s. s.count) both);
            red = omega (arith, t.red, red, more_red, ap (λ s. s.red) one, ap (λ s. s.red) both);
            green = omega (arith, t.green, green, more_green, ap (λ s. s.green) one, ap (λ s. s.green) both);
            blue = omega (arith, t.blue, blue, more_blue, ap (λ s. s.blue) one, ap (λ s. s.blue) both);
          })
      | inr apart ↦ rw (get_or-set_other few v k x e apart, get_or-set_other all v k new f apart) (h.each k d e f inside)
    ];
  }

-- the same of how few they are
module _ (few : List Sums64) (v n r g b : ℕ) (old x : Sums64) (room : v < length few) (read : old ≡ get_or few v old) (count : x.count ≡ old.count + n)
    (red : x.red ≡ old.red + r) (green : x.green ≡ old.green + g) (blue : x.blue ≡ old.blue + b) where
  pub little_more : (most more : ℕ) → most + n ≤ more → r ≤ 255 * n → g ≤ 255 * n → b ≤ 255 * n → AreLittle most few → AreLittle more (set few v x)
  little_more most more fit red_few green_few blue_few h =
      let own = h.bytes v old room in
      let at_most = h.count v old room in record {
        count = λ k e inside. elim (cases_eq k v) [
          | inl same ↦
              let here : get_or (set few v x) k e ≡ x = ap (λ i. get_or (set few v x) i e) same ∙ get_or-set_same few v x e room in
              rw here (omega (arith, count, at_most, fit, ap (λ s. s.count) read))
          | inr apart ↦
              let before = h.count k e (omega (arith, inside, length-set few v x)) in
              rw (get_or-set_other few v k x e apart) (omega (arith, before, fit))
        ];
        bytes = λ k e inside. elim (cases_eq k v) [
          | inl same ↦
              let here : get_or (set few v x) k e ≡ x = ap (λ i. get_or (set few v x) i e) same ∙ get_or-set_same few v x e room in
              rw here
              (record {
                red = omega (arith, count, red, red_few, own.red, ap (λ s. s.count) read, ap (λ s. s.red) read);
                green = omega (arith, count, green, green_few, own.green, ap (λ s. s.count) read, ap (λ s. s.green) read);
                blue = omega (arith, count, blue, blue_few, own.blue, ap (λ s. s.count) read, ap (λ s. s.blue) read);
              })
          | inr apart ↦ rw (get_or-set_other few v k x e apart) (h.bytes k e (omega (arith, inside, length-set few v x)))
        ];
      }

-- sums of the items of each entry, where others are the same
pub grouped_same : (entries items : List (List ℕ)) (pairs n : ℕ) (sums all new : List Sums) (few : List Sums64) (none : Sums64)
    → length sums ≡ length entries → AreTogether sums few all
    → ((k : ℕ) (d : Sums) (e : Sums64) → k < length sums → IsTogether (get_or sums k d) (get_or few k e) (get_or new k d))
    → AreItemGroups entries items pairs n all → AreItemGroups entries items pairs n new
grouped_same entries items pairs n sums all new few none many together added h = record {
  bytes = λ k d inside.
      let t = together.each k d none d (omega (arith, many, inside)) in
      let a = added k d none (omega (arith, many, inside)) in
      let o = h.bytes k d inside in
      record {
        red = omega (arith, t.count, a.count, t.red, a.red, o.red);
        green = omega (arith, t.count, a.count, t.green, a.green, o.green);
        blue = omega (arith, t.count, a.count, t.blue, a.blue, o.blue);
      };
  parts = λ at nearest k d inside.
      let t = together.each k d none d (omega (arith, many, inside)) in
      let a = added k d none (omega (arith, many, inside)) in
      let o = h.parts at nearest k d inside in
      record {
        count = a.count ∙ sym t.count ∙ o.count;
        red = a.red ∙ sym t.red ∙ o.red;
        green = a.green ∙ sym t.green ∙ o.green;
        blue = a.blue ∙ sym t.blue ∙ o.blue;
      };
}
