-- Blocks and their bounds, with one more.
use Rattle.std.proofs.Common.{◌≡◌, ◌≢◌, ℕ, ◌+◌, ◌*◌, ◌<◌, ◌≤◌, List, [], ◌∷◌, ◌++◌, length, arith, sym, ap, ◌∙◌, subst, inl, inr, get_or, set, length-append, length-set}
use Rattle.std.specs.Prelude.{◌/◌, ◌%◌}
use Rattle.std.proofs.lemmas.Bool.{cases_lt, cases_eq}
use Rattle.std.proofs.lemmas.List.{get_or_default, get_or-set_same, get_or-set_other, get_or_append_left}
use Rattle.std.proofs.Math.Seq.{get_or-append_seam}
use Rattle.pix_table.specs.threshold.ColorBlocks.{AreBlocks, IsBlock}
use Rattle.pix_table.specs.matching.BlockBounds.{AreBlockBounds, Covers}
use Rattle.pix_table.specs.declared.matching.block_bounds.BlockBounds.{BlockBounds}
use Rattle.pix_table.specs.declared.threshold.color_block.ColorBlock.{ColorBlock}

-- what stands at the end of a list with one more
last_there : (blocks : List ColorBlock) (block d : ColorBlock) (k : ℕ) → length blocks ≡ k → get_or (blocks ++ block ∷ []) k d ≡ block
last_there blocks block d k same = ap (λ j. get_or (blocks ++ block ∷ []) j d) (sym same) ∙ get_or-append_seam blocks block [] d

is_last : (blocks : List ColorBlock) (block : ColorBlock) (k : ℕ) → k < length (blocks ++ block ∷ []) → length blocks ≤ k → length blocks ≡ k
is_last blocks block k below b = let n : length (blocks ++ block ∷ []) ≡ length blocks + 1 = length-append blocks (block ∷ []) in omega arith

pub blocks_more : (entries : List (List ℕ)) (blocks : List ColorBlock) (block : ColorBlock) → AreBlocks entries blocks
    → IsBlock entries (16 * length blocks) block → AreBlocks entries (blocks ++ block ∷ [])
blocks_more entries blocks block h is = λ k d below. elim (cases_lt k (length blocks)) [
  | inl b ↦ subst (IsBlock entries (16 * k)) (sym (get_or_append_left blocks (block ∷ []) d k b)) (h k d b)
  | inr b ↦
      let same : length blocks ≡ k = is_last blocks block k below b in
      subst (IsBlock entries (16 * k)) (sym (last_there blocks block d k same)) (subst (λ j. IsBlock entries (16 * j) block) same is)
]

-- no block is one of the first entries, and needs no bounds
pub no_blocks : (entries : List (List ℕ)) (blocks : List ColorBlock) → blocks ≡ [] → AreBlocks entries blocks
no_blocks entries blocks e = subst (AreBlocks entries) (sym e) (λ k d below. absurd (omega arith))

pub no_spans : (blocks : List ColorBlock) (spans : List BlockBounds) → blocks ≡ [] → AreBlockBounds blocks spans
no_spans blocks spans e =
    subst (λ b. AreBlockBounds b spans) (sym e) (record { enough = λ k below. absurd (omega arith); each = λ k b s below. absurd (omega arith) })

-- the bounds of the block after the last, of number k, are set, and the others stay
pub span_set : (blocks : List ColorBlock) (spans : List BlockBounds) (k : ℕ) (old new : BlockBounds) → AreBlockBounds blocks spans → k ≡ length blocks
    → k / 16 < length spans → old ≡ get_or spans (k / 16) old
    → ((i : ℕ) (other : ColorBlock) → i ≢ k % 16 → Covers old i other → Covers new i other) → AreBlockBounds blocks (set spans (k / 16) new)
span_set blocks spans k old new h count within is others = record {
  enough = λ j below.
      let n : length (set spans (k / 16) new) ≡ length spans = length-set spans (k / 16) new in
      omega (arith, h.enough j below);
  each = λ j b s below. elim (cases_eq (j / 16) (k / 16)) [
    | inl same ↦
        let there : get_or (set spans (k / 16) new) (j / 16) s ≡ new =
        ap (λ g. get_or (set spans (k / 16) new) g s) same ∙ get_or-set_same spans (k / 16) new s within in
        let before : get_or spans (j / 16) s ≡ old = ap (λ g. get_or spans g s) same ∙ get_or_default spans (k / 16) s old within ∙ sym is in
        let other : j % 16 ≢ k % 16 = λ e. absurd (omega (arith, same, e, below, count)) in
        subst (λ g. Covers g (j % 16) (get_or blocks j b)) (sym there)
        (others (j % 16) (get_or blocks j b) other (subst (λ g. Covers g (j % 16) (get_or blocks j b)) before (h.each j b s below)))
    | inr other ↦
        subst (λ g. Covers g (j % 16) (get_or blocks j b)) (sym (get_or-set_other spans (k / 16) (j / 16) new s other)) (h.each j b s below)
  ];
}

-- and then that block comes
pub span_more : (blocks : List ColorBlock) (spans : List BlockBounds) (k : ℕ) (block : ColorBlock) → AreBlockBounds blocks spans → k ≡ length blocks
    → k / 16 < length spans → ((s : BlockBounds) → Covers (get_or spans (k / 16) s) (k % 16) block) → AreBlockBounds (blocks ++ block ∷ []) spans
span_more blocks spans k block h count within own = record {
  enough = λ j below. elim (cases_lt j (length blocks)) [
    | inl before ↦ h.enough j before
    | inr after ↦ subst (λ n. n / 16 < length spans) (count ∙ is_last blocks block j below after) within
  ];
  each = λ j b s below. elim (cases_lt j (length blocks)) [
    | inl before ↦
        subst (λ c. Covers (get_or spans (j / 16) s) (j % 16) c) (sym (get_or_append_left blocks (block ∷ []) b j before)) (h.each j b s before)
    | inr after ↦
        let same : length blocks ≡ j = is_last blocks block j below after in
        subst (λ c. Covers (get_or spans (j / 16) s) (j % 16) c) (sym (last_there blocks block b j same))
        (subst (λ n. Covers (get_or spans (n / 16) s) (n % 16) block) (count ∙ same) (own s))
  ];
}
