-- Sums whose weights may be negative.
use Rattle.std.specs.Prelude.{◌≡◌, ◌≢◌, ℕ, ℤ, zero, suc, pos, negsuc, ◌+ℤ◌, ◌-ℤ◌, ◌*ℤ◌, ◌+◌, ◌-◌, ◌*◌, ◌/◌, ◌^◌, ◌<◌, ◌≤◌, List, length, map, slice_index, refl, Bool, nat_lt, if◌then◌else◌}
use Rattle.std.proofs.Common.{inl, inr, min, get_or, take, drop, set, Fits, w32, get_or-set_other, get_or-set_same, below_more, arith, ap, sym, ◌∙◌}
use borrow.Author.Differences.{up, down}
use Rattle.std.proofs.lemmas.Int.{ints}
use Rattle.std.proofs.lemmas.Bool.{cases_lt, cases_Bool, ltb-true}
use Rattle.std.proofs.lemmas.List.{get_or-take, take-map}
use Rattle.pix_el.specs.Pixel.{Layout}
use Rattle.std.proofs.lemmas.Nat.{div_below}
use Rattle.pix_chan.specs.Nearest.{nearest}
use Rattle.pix_chan.specs.NearestLaws.{nearest_natural, nearest_negative}
use Rattle.pix_scale.specs.Axis.{total}
use Rattle.pix_scale.specs.Table.{row_term}
use Rattle.pix_scale.specs.Signed.{total_of, top_by, cut_by}
use Rattle.pix_scale.specs.SignedTable.{left, left_at}
use Rattle.pix_scale.proofs.Sums.{sum_small, below_32, part_by}

-- a difference times a number, and times a difference
times_one : (a b c : ℕ) → (pos a -ℤ pos b) *ℤ pos c ≡ pos (a * c) -ℤ pos (b * c)
times_one a b c =
    let x : ℤ = pos a -ℤ pos b in
    let e : up x + b ≡ down x + a = omega (arith, ints) in
    omega (arith, ints, ap (λ z. z * c) e)

times_both : (a b c d : ℕ) → (pos a -ℤ pos b) *ℤ (pos c -ℤ pos d) ≡ pos (a * c + b * d) -ℤ pos (a * d + b * c)
times_both a b c d =
    let x : ℤ = pos a -ℤ pos b in
    let y : ℤ = pos c -ℤ pos d in
    let e : up x + b ≡ down x + a = omega (arith, ints) in
    let f : up y + d ≡ down y + c = omega (arith, ints) in
    omega (arith, ints, ap (λ z. z * up y) e, ap (λ z. z * down y) e, ap (λ z. a * z) f, ap (λ z. b * z) f)

-- what is left of two sums
pub total_left : (n : ℕ) (a t f : ℕ → ℕ) → total_of n (λ k. (pos (a k) -ℤ pos (t k)) *ℤ pos (f k)) ≡ pos (total n (λ k. a k * f k)) -ℤ pos (total n (λ k. t k * f k))
total_left zero a t f = omega (arith, ints)
total_left (suc n) a t f = omega (arith, ints, total_left n a t f, times_one (a n) (t n) (f n))

-- a product with a difference that is raised by r
raised_times : (a t d p q r : ℕ) → d + q ≡ r + p → (pos a -ℤ pos t) *ℤ (pos p -ℤ pos q) ≡ pos (a * d + t * r) -ℤ pos (t * d + a * r)
raised_times a t d p q r e = times_both a t p q ∙ omega (arith, ints, ap (λ z. a * z) e, ap (λ z. t * z) e)

raised_total : (n r : ℕ) (a t d p q : ℕ → ℕ) → ((k : ℕ) → k < n → d k + q k ≡ r + p k)
    → total_of n (λ k. (pos (a k) -ℤ pos (t k)) *ℤ (pos (p k) -ℤ pos (q k)))
    ≡ pos (total n (λ k. a k * d k) + total n t * r) -ℤ pos (total n (λ k. t k * d k) + total n a * r)
raised_total zero r a t d p q h = omega (arith, ints)
raised_total (suc n) r a t d p q h =
    omega (arith, ints, raised_total n r a t d p q (λ k l. h k (omega arith)), raised_times (a n) (t n) (d n) (p n) (q n) r (h n (omega arith)))

-- the same where the weights add up to w
pub whole_total : (n r w : ℕ) (a t d p q : ℕ → ℕ) → ((k : ℕ) → k < n → d k + q k ≡ r + p k) → total n a ≡ w + total n t
    → total_of n (λ k. (pos (a k) -ℤ pos (t k)) *ℤ (pos (p k) -ℤ pos (q k)))
    ≡ pos (total n (λ k. a k * d k)) -ℤ pos (total n (λ k. t k * d k) + w * r)
whole_total n r w a t d p q h e = raised_total n r a t d p q h ∙ omega (arith, ints, ap (λ z. z * r) e)

-- sums of the same terms are the same
pub total_of_same : (n : ℕ) (f g : ℕ → ℤ) → ((k : ℕ) → k < n → f k ≡ g k) → total_of n f ≡ total_of n g
total_of_same zero f g h = refl
total_of_same (suc n) f g h =
    ap (λ z. z +ℤ f n) (total_of_same n f g (λ k l. h k (omega arith))) ∙ ap (λ z. total_of n g +ℤ z) (h n (omega arith))

-- below a sum there is nothing left
pub nearest_left : (max a b d : ℕ) → 0 < d → nearest max (pos (a - b)) (pos d) ≡ nearest max (pos a -ℤ pos b) (pos d)
nearest_left max a b d some = elim (cases_lt a b) [
  | inl l ↦
      let e : pos a -ℤ pos b ≡ negsuc (b - a - 1) = omega (arith, ints) in
      let z : a - b ≡ 0 = omega arith in
      let q : (2 * 0 + d) / (2 * d) < 1 = div_below (2 * 0 + d) (2 * d) 1 (omega arith) (omega arith) in
      let none : nearest max (pos 0) (pos d) ≡ 0 = nearest_natural max 0 d ∙ omega (arith, q) in
      ap (λ n. nearest max (pos n) (pos d)) z ∙ none ∙ sym (ap (λ n. nearest max n (pos d)) e ∙ nearest_negative max (b - a - 1) d some)
  | inr l ↦ let e : pos a -ℤ pos b ≡ pos (a - b) = omega (arith, ints) in sym (ap (λ n. nearest max n (pos d)) e)
]

-- cut at a lower number
pub nearest_lower : (top max : ℕ) (n : ℤ) (d : ℤ) → top ≤ max → nearest top n d ≡ min top (nearest max n d)
unfolding nearest
nearest_lower top max n d le = omega arith

-- what a cut takes of its sums
top_same : (layout : Layout) (f g : ℕ → ℤ) → (layout.alpha < layout.count → f layout.alpha ≡ g layout.alpha) → top_by layout f ≡ top_by layout g
top_same layout f g h =
    let top : (ℕ → ℤ) → Bool → ℕ = λ s b. if b then nearest layout.max (s layout.alpha) (pos 268435456) else layout.max in
    elim (cases_Bool (nat_lt layout.alpha layout.count)) [
      | inl t ↦ ap (top f) t ∙ ap (λ z. nearest layout.max z (pos 268435456)) (h (ltb-true layout.alpha layout.count t)) ∙ sym (ap (top g) t)
      | inr e ↦ ap (top f) e ∙ sym (ap (top g) e)
    ]

pub cut_same : (layout : Layout) (f g : ℕ → ℤ) (c : ℕ) → (layout.alpha < layout.count → f layout.alpha ≡ g layout.alpha) → f c ≡ g c
    → cut_by layout f c ≡ cut_by layout g c
cut_same layout f g c h e =
    ap (λ t. nearest t (f c) (pos 268435456)) (top_same layout f g h) ∙ ap (λ s. nearest (top_by layout g) s (pos 268435456)) e

-- a cut at a top that is known
pub cut_at : (layout : Layout) (f g : ℕ → ℤ) (c top value : ℕ) → top ≡ top_by layout f → value ≡ nearest top (f c) (pos 268435456)
    → (layout.alpha < layout.count → f layout.alpha ≡ g layout.alpha) → f c ≡ g c → value ≡ cut_by layout g c
cut_at layout f g c top value t v h e = v ∙ ap (λ t. nearest t (f c) (pos 268435456)) t ∙ cut_same layout f g c h e

-- the first channels of a list
pub first_numbers : {C : Type 0} (number : C → ℕ) (n count : ℕ) (own : List C) → n ≡ count → (ch : ℕ) → ch < count
    → get_or (take count (map number (take n own))) ch 0 ≡ get_or (map number own) ch 0
first_numbers number n count own same ch lt =
    get_or-take count (map number (take n own)) ch 0 lt
    ∙ ap (λ l. get_or l ch 0) (sym (take-map number n own)) ∙ get_or-take n (map number own) ch 0 (omega arith)

-- weighted sums fit
pub sums_fit : (weights sums : List ℕ) (n c : ℕ) → ((k : ℕ) → Fits w32 (get_or sums k 0)) → total (length weights) (slice_index weights) < 32768
    → total (length weights) (row_term weights (slice_index sums) n c) < 281474976710656
sums_fit weights sums n c fits few =
    let s = sum_small weights (slice_index sums) n c (length weights) (2 ^ 32) (below_32 sums fits) in
    omega (arith, s, few)

-- what is left, where the number of channels has another name
pub left_by : (plus minus sums : List ℕ) (m n c a t : ℕ) → m ≡ n
    → a ≡ total (length plus) (row_term plus (slice_index sums) m c) → t ≡ total (length minus) (row_term minus (slice_index sums) m c)
    → pos a -ℤ pos (t + 2 ^ 45) ≡ left plus minus sums n c
left_by plus minus sums m n c a t same e f =
    let x = ap (λ k. total (length plus) (row_term plus (slice_index sums) k c)) same in
    let y = ap (λ k. total (length minus) (row_term minus (slice_index sums) k c)) same in
    let p = e ∙ x in
    let q = f ∙ y in
    rw (p, q) refl

-- the numbers below i are what is left of the sums, and the others are as they were
pub record TakenAway (old new taken : List ℕ) (i : ℕ) : Type 0 where
  pub done : (k : ℕ) → k < i → get_or new k 0 + get_or taken k 0 ≡ 2 ^ 31 + get_or old k 0
  pub rest : (k : ℕ) → i ≤ k → get_or new k 0 ≡ get_or old k 0

pub taken_none : (old taken : List ℕ) → TakenAway old old taken 0
taken_none old taken = record { done = λ k h. absurd (omega arith); rest = λ k h. refl }

pub taken_more : (old new taken : List ℕ) (i v : ℕ) → i < length new → TakenAway old new taken i
    → v + get_or taken i 0 ≡ 2 ^ 31 + get_or new i 0 → TakenAway old (set new i v) taken (i + 1)
taken_more old new taken i v lt a e = record {
  done = below_more _ _
      (λ k h. let ne : k ≢ i = omega arith in rw get_or-set_other (a.done k h))
      (rw get_or-set_same (omega (arith, a.rest i (omega arith), e)));
  rest = λ k h. let ne : k ≢ i = omega arith in rw get_or-set_other (a.rest k (omega arith));
}

-- what is left by a row of a table, as lists of its own
pub left_part : (plus minus sums : List ℕ) (taps n k i first c m q p : ℕ) → k ≡ n → m ≡ taps → q ≡ taps → p ≡ taps * k → c < n
    → i * taps + taps ≤ length plus → i * taps + taps ≤ length minus
    → left (take m (drop (i * taps) plus)) (take q (drop (i * taps) minus)) (take p (drop (first * k) sums)) n c ≡ left_at plus minus taps i sums n first c
left_part plus minus sums taps n k i first c m q p same e f size lt a b =
    let x = part_by plus sums taps n k i first c m p same e size lt a in
    let y = part_by minus sums taps n k i first c q p same f size lt b in
    rw (x, y) refl

-- a pixel, cut by what is left by a row of a table
pub cut_part : (layout : Layout) (plus minus sums : List ℕ) (taps k i first m q p c : ℕ) → k ≡ layout.count → m ≡ taps → q ≡ taps → p ≡ taps * k → c < layout.count
    → i * taps + taps ≤ length plus → i * taps + taps ≤ length minus
    → cut_by layout (left (take m (drop (i * taps) plus)) (take q (drop (i * taps) minus)) (take p (drop (first * k) sums)) layout.count) c
    ≡ cut_by layout (left_at plus minus taps i sums layout.count first) c
cut_part layout plus minus sums taps k i first m q p c same e f size lt a b =
    cut_same layout (left (take m (drop (i * taps) plus)) (take q (drop (i * taps) minus)) (take p (drop (first * k) sums)) layout.count)
    (left_at plus minus taps i sums layout.count first) c
    (λ in_. left_part plus minus sums taps layout.count k i first layout.alpha m q p same e f size in_ a b)
    (left_part plus minus sums taps layout.count k i first c m q p same e f size lt a b)
