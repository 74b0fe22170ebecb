-- Blocks of the entries of a small table, with one more, and while the table grows.
use Rattle.std.specs.Prelude.{◌/◌, ◌%◌}
use Rattle.std.proofs.Common.{◌≡◌, ℕ, ◌+◌, ◌*◌, ◌<◌, ◌≤◌, List, [], ◌∷◌, ◌++◌, length, length-append, map, take, get_or, set, length-set, refl, sym, ap, ◌∙◌, subst, arith, inl, inr}
use Rattle.std.proofs.lemmas.Bool.{cases_lt}
use Rattle.std.proofs.lemmas.List.{get_or_default, get_or-take, length-take-le, get_or_append_left, map-append}
use Rattle.pix_table.specs.threshold.ColorBlocks.{AreBlocks, IsBlock}
use Rattle.pix_table.specs.matching.BlockBounds.{AreBlockBounds, Covers}
use Rattle.pix_table.specs.threshold.TableBlocks.{HasBlocks}
use Rattle.pix_table.specs.declared.matching.block_bounds.BlockBounds.{BlockBounds}
use Rattle.pix_table.specs.declared.threshold.color_block.ColorBlock.{ColorBlock}
use Rattle.pix_table.specs.declared.threshold.table_blocks.TableBlocks.{TableBlocks}
use Rattle.pix_table.proofs.lemmas.threshold.Settings.{Grows}
use Rattle.pix_table.proofs.lemmas.matching.LaneEntries.{set_below, set_there}

-- the blocks of a table are those of its first entries
pub are_blocks : (entries : List (List ℕ)) (has : TableBlocks) → HasBlocks entries has → AreBlocks entries (take has.len has.blocks)
are_blocks entries has h = λ k d below.
    let few : has.len ≤ 16 = h.few in
    let long : length (take has.len has.blocks) ≡ has.len = length-take-le has.len has.blocks (omega (arith, h.long)) in
    let inside : k < has.len = omega arith in
    subst (IsBlock entries (16 * k)) (sym (get_or-take has.len has.blocks k d inside)) (h.blocks k d inside)

pub are_spans : (entries : List (List ℕ)) (has : TableBlocks) → HasBlocks entries has → AreBlockBounds (take has.len has.blocks) has.spans
are_spans entries has h =
    let few : has.len ≤ 16 = h.few in
    let long : length (take has.len has.blocks) ≡ has.len = length-take-le has.len has.blocks (omega (arith, h.long)) in
    record {
      enough = λ k below. omega (arith, h.one, long);
      each = λ k b s below.
          let inside : k < has.len = omega arith in
          let zero_is : 0 ≡ k / 16 = omega arith in
          let same : k ≡ k % 16 = omega arith in
          subst (λ g. Covers (get_or has.spans g s) (k % 16) (get_or (take has.len has.blocks) k b)) zero_is
          (subst (λ i. Covers (get_or has.spans 0 s) i (get_or (take has.len has.blocks) k b)) same
          (subst (Covers (get_or has.spans 0 s) k) (sym (get_or-take has.len has.blocks k b inside)) (h.spans k b s inside)));
    }

-- one block more; `old` and `new` are the bounds before and afterwards
pub block_added : (entries : List (List ℕ)) (has : TableBlocks) (block : ColorBlock) (old new : BlockBounds) → HasBlocks entries has → has.len < 16
    → IsBlock entries (16 * has.len) block → old ≡ get_or has.spans 0 old → Covers new has.len block
    → ((i : ℕ) (other : ColorBlock) → (i ≡ has.len → ⊥) → Covers old i other → Covers new i other)
    → HasBlocks entries (record { spans = set has.spans 0 new; blocks = set has.blocks has.len block; len = has.len + 1 })
block_added entries has block old new h room is was own others =
    let long : length has.blocks ≡ 16 = h.long in
    let one : length has.spans ≡ 1 = h.one in
    record {
      few = omega arith;
      long = length-set has.blocks has.len block ∙ long;
      one = length-set has.spans 0 new ∙ one;
      blocks = λ k d b. elim (cases_lt k has.len) [
        | inl c ↦ subst (IsBlock entries (16 * k)) (sym (set_below has.blocks has.len k block d c)) (h.blocks k d c)
        | inr c ↦
            let z : has.len ≡ k = omega arith in
            subst (IsBlock entries (16 * k)) (sym (set_there has.blocks has.len k block d (omega arith) z)) (subst (λ n. IsBlock entries (16 * n) block) z is)
      ];
      spans = λ k d s b.
          let there : get_or (set has.spans 0 new) 0 s ≡ new = set_there has.spans 0 0 new s (omega arith) refl in
          elim (cases_lt k has.len) [
            | inl c ↦
                let before : get_or has.spans 0 s ≡ old = get_or_default has.spans 0 s old (omega arith) ∙ sym was in
                let covered : Covers old k (get_or has.blocks k d) = subst (λ g. Covers g k (get_or has.blocks k d)) before (h.spans k d s c) in
                subst (λ g. Covers g k (get_or (set has.blocks has.len block) k d)) (sym there)
                (subst (Covers new k) (sym (set_below has.blocks has.len k block d c)) (others k (get_or has.blocks k d) (λ e. omega arith) covered))
            | inr c ↦
                let z : has.len ≡ k = omega arith in
                subst (λ g. Covers g k (get_or (set has.blocks has.len block) k d)) (sym there)
                (subst (Covers new k) (sym (set_there has.blocks has.len k block d (omega arith) z)) (subst (λ n. Covers new n block) z own))
          ];
    }

-- while entries are added
pub blocks_stay : (old new : List (List ℕ)) (has : TableBlocks) → length old ≤ length new → ((k : ℕ) → k < length old → get_or new k [] ≡ get_or old k [])
    → HasBlocks old has → HasBlocks new has
blocks_stay old new has longer same h = record {
  few = h.few;
  long = h.long;
  one = h.one;
  blocks = λ k d b.
      let is = h.blocks k d b in
      let within : 16 * k + 16 ≤ length old = is.within in
      record {
        within = omega arith;
        each = λ i c. is.each i c ∙ ap (λ l. get_or l 0 0 ∷ get_or l 1 0 ∷ get_or l 2 0 ∷ []) (sym (same (16 * k + i) (omega arith)));
      };
  spans = h.spans;
}

pub blocks_grow : {C : Type 0} (read : C → List ℕ) (old new : List C) (has : TableBlocks) → Grows old new → HasBlocks (map read old) has
    → HasBlocks (map read new) has
blocks_grow read old new has g h =
    let e : map read new ≡ map read old ++ map read g.more = ap (map read) g.same ∙ map-append read old g.more in
    let long : length (map read new) ≡ length (map read old) + length (map read g.more) = ap length e ∙ length-append (map read old) (map read g.more) in
    blocks_stay (map read old) (map read new) has (omega arith)
    (λ k b. ap (λ l. get_or l k []) e ∙ get_or_append_left (map read old) (map read g.more) [] k b) h
