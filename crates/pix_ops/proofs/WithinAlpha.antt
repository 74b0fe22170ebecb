-- Channels that do not pass their alpha.
use Rattle.std.specs.Prelude.{true, ◌||◌}
use Rattle.std.proofs.Common.{◌≡◌, ℕ, ◌+◌, ◌-◌, ◌≤◌, inl, inr, arith}
use Rattle.std.proofs.lemmas.Bool.{or_cases}
use Rattle.pix_ops.specs.declared.ops.Op.{Op}
use Rattle.pix_chan.specs.Product.{channel_product, IsProduct}
use Rattle.pix_ops.specs.Operators.{Coefficient, Zero, One, OtherAlpha, OneMinusAlpha, row, leaves_room, sum_fits}
use Rattle.pix_ops.specs.Composite.{term_sum, channel_composite}
use Rattle.pix_ops.proofs.Terms.{term_by, term_is}

-- a greater channel has a greater term
pub term_grows : (a : Coefficient) (fine max s t alpha : ℕ) (product : ℕ → ℕ → ℕ) → IsProduct fine max product → s ≤ t → term_by product max a s alpha ≤ term_by product max a t alpha
term_grows Zero fine max s t alpha product laws l = omega arith
term_grows One fine max s t alpha product laws l = l
term_grows OtherAlpha fine max s t alpha product laws l = laws.monotone s t alpha l
term_grows OneMinusAlpha fine max s t alpha product laws l = laws.monotone s t (max - alpha) l

-- a product is at most its second operand
lesser_right : (fine max x y : ℕ) (product : ℕ → ℕ → ℕ) → IsProduct fine max product → x ≤ max → y ≤ max → product x y ≤ y
lesser_right fine max x y product laws lx ly = rw (laws.commutes x y) (laws.at_most_operand y x ly lx)

-- a term is at most its channel
term_small : (a : Coefficient) (fine max x alpha : ℕ) (product : ℕ → ℕ → ℕ) → IsProduct fine max product → x ≤ max → alpha ≤ max → term_by product max a x alpha ≤ x
term_small Zero fine max x alpha product laws lx la = omega arith
term_small One fine max x alpha product laws lx la = omega arith
term_small OtherAlpha fine max x alpha product laws lx la = laws.at_most_operand x alpha lx la
term_small OneMinusAlpha fine max x alpha product laws lx la = laws.at_most_operand x (max - alpha) lx (omega arith)

-- a side that leaves room keeps to what the other side's alpha leaves of the max
leaves_rest : (a : Coefficient) (fine max x alpha : ℕ) (product : ℕ → ℕ → ℕ) → IsProduct fine max product → leaves_room a ≡ true → x ≤ max → alpha ≤ max
    → term_by product max a x alpha + alpha ≤ max
leaves_rest Zero fine max x alpha product laws room lx la = omega arith
leaves_rest One fine max x alpha product laws room lx la = absurd (cc)
leaves_rest OtherAlpha fine max x alpha product laws room lx la = absurd (cc)
leaves_rest OneMinusAlpha fine max x alpha product laws room lx la = omega (arith, lesser_right fine max x (max - alpha) product laws lx (omega arith))

-- the alphas' terms fit together where one side leaves room for the other
alphas_fit : (a b : Coefficient) (fine max sa da : ℕ) (product : ℕ → ℕ → ℕ) → IsProduct fine max product → sa ≤ max → da ≤ max
    → (leaves_room a || leaves_room b) ≡ true → term_by product max a sa da + term_by product max b da sa ≤ max
alphas_fit a b fine max sa da product laws ls ld fits =
    let source = term_small a fine max sa da product laws ls ld in
    let dest = term_small b fine max da sa product laws ld ls in
    elim (or_cases (leaves_room a) (leaves_room b) fits) [
      | inl room ↦ omega (arith, leaves_rest a fine max sa da product laws room ls ld)
      | inr room ↦ omega (arith, leaves_rest b fine max da sa product laws room ld ls)
    ]

-- the sum of a channel's terms is at most the sum of its alpha's terms
pub sum_grows : (op : Op) (fine max s sa d da : ℕ) → IsProduct fine max (channel_product max) → s ≤ sa → d ≤ da
    → term_sum max op s sa d da ≤ term_sum max op sa sa da da
sum_grows op fine max s sa d da laws ls ld =
    let a = (row op).source in
    let b = (row op).dest in
    let p = term_grows a fine max s sa da (channel_product max) laws ls in
    let q = term_grows b fine max d da sa (channel_product max) laws ld in
    rw (term_is a max s da, term_is b max d sa, term_is a max sa da, term_is b max da sa) (omega arith)

-- a channel that does not pass its alpha does not after a composite
pub composite_grows : (op : Op) (fine max s sa d da : ℕ) → IsProduct fine max (channel_product max) → s ≤ sa → d ≤ da
    → channel_composite max op s sa d da ≤ channel_composite max op sa sa da da
composite_grows op fine max s sa d da laws ls ld = omega (arith, sum_grows op fine max s sa d da laws ls ld)

-- of such channels no sum is cut where one side leaves room for the other
pub sums_fit : (op : Op) (fine max s sa d da : ℕ) → IsProduct fine max (channel_product max) → s ≤ sa → sa ≤ max → d ≤ da → da ≤ max → sum_fits op ≡ true
    → term_sum max op s sa d da ≤ max
sums_fit op fine max s sa d da laws ls lsa ld lda fits =
    let a = (row op).source in
    let b = (row op).dest in
    let fit : term_sum max op sa sa da da ≤ max = rw (term_is a max sa da, term_is b max da sa) (alphas_fit a b fine max sa da (channel_product max) laws lsa lda fits) in
    omega (arith, sum_grows op fine max s sa d da laws ls ld)
