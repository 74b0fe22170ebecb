-- Of `index_pixels`: the clause `indexed`.
use Rattle.std.specs.Prelude.{take}
use Rattle.std.proofs.Common.{◌≡◌, ℕ, List, map, length, refl, sym, subst, inl, inr}
use Rattle.std.proofs.lemmas.Bool.{cases_Bool}
use Rattle.pix_table.specs.matching.Nearest.{numbers}
use Rattle.pix_table.specs.threshold.Setting.{Always, IsSet}
use Rattle.pix_table.specs.threshold.Indexing.{AreSet}
use Rattle.pix_table.specs.declared.color.Color.{Color}
use Rattle.pix_table.proofs.lemmas.threshold.OneAnswer.{not_stopped}
use Rattle.pix_table.proofs.threshold.index.index_pixels.Goals as goal

-- what is set in a copy is set in the slots
in_copy : (slots copy : List Color) (threshold : List ℕ) (len : ℕ) (pixels : List (List ℕ)) (all : List ℕ) (new : List Color) → copy ≡ slots
    → AreSet numbers (IsSet numbers (Always threshold) (length copy)) 255 (take len copy) pixels all new
    → AreSet numbers (IsSet numbers (Always threshold) (length slots)) 255 (take len slots) pixels all new
in_copy slots copy threshold len pixels all new e h =
    subst (λ l. AreSet numbers (IsSet numbers (Always threshold) (length l)) 255 (take len l) pixels all new) e h

pub returns-then-set_pixels-clause-indexed : goal.returns-then-set_pixels-clause-indexed
returns-then-set_pixels-clause-indexed c =
    let first = c.set_pixels.ensures.set c.if-set_pixels.true in
    elim (cases_Bool c.set_pixels-used.result.0) [
      | inl all ↦
          let second = c.set_pixels-used.ensures.set all in (
            c.set_pixels-used.ensures.within,
            subst (λ l. AreSet numbers (IsSet numbers (Always (numbers c.args.threshold)) (length c.args.slots.now)) 255 (take c.args.len c.args.slots.now)
                (map numbers c.args.pixels.now) l (take c.set_pixels-used.result.1 c.set_pixels-used.new.slots)) (sym (second.2 refl)) second.1,
          )
      | inr stopped ↦ absurd (not_stopped numbers _ _ 255 _ _ first.0 _ _
          (in_copy c.args.slots.now _ _ c.args.len _ _ _ c.copy_from_slice.ensures.after first.1) (c.set_pixels-used.ensures.stopped stopped))
    ]
