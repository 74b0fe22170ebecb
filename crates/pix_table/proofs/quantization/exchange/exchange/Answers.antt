-- Of `exchange`: that the two items stand in each other's place.
use Rattle.std.proofs.Common.{◌≡◌, List, ℕ, ◌<◌, get_or, length, length-set, set, ap, ap₂, ◌∙◌, inl, inr, arith}
use Rattle.std.specs.List.{SwappedAt, swap}
use Rattle.std.proofs.lemmas.Bool.{cases_eq}
use Rattle.std.proofs.lemmas.List.{get_or_default, get_or-set_same, get_or-set_other}
use Rattle.std.proofs.lemmas.List.Edits.{swap_is}
use Rattle.std.proofs.lemmas.List.Sorted.{IsPermutation-swap}
use Rattle.pix_table.proofs.quantization.exchange.exchange.Goals as goal

-- a list after two writes
module _ {X : Type 0} (xs ys : List X) (i j : ℕ) (first : i < length xs) (second : j < length xs)
    (sets : (d : X) → ys ≡ set (set xs i (get_or xs j d)) j (get_or xs i d)) where
  later : (d : X) → get_or ys j d ≡ get_or xs i d
  later d =
      ap (λ l. get_or l j d) (sets d) ∙ get_or-set_same (set xs i (get_or xs j d)) j (get_or xs i d) d
      (omega (arith, length-set xs i (get_or xs j d)))

  earlier : (d : X) → get_or ys i d ≡ get_or xs j d
  earlier d = elim (cases_eq i j) [
    | inl e ↦ ap (λ k. get_or ys k d) e ∙ later d ∙ ap (λ k. get_or xs k d) e
    | inr apart ↦
        ap (λ l. get_or l i d) (sets d) ∙ get_or-set_other (set xs i (get_or xs j d)) j i (get_or xs i d) d apart
        ∙ get_or-set_same xs i (get_or xs j d) d first
  ]

  exchanged : SwappedAt xs ys i j
  exchanged = (
    earlier,
    later,
    (λ k d s t. ap (λ l. get_or l k d) (sets d) ∙ get_or-set_other (set xs i (get_or xs j d)) j k (get_or xs i d) d t
        ∙ get_or-set_other xs i k (get_or xs j d) d s),
    sets,
  )

  after : (d : X) → ys ≡ swap xs i j
  after d = sets d ∙ swap_is xs i j d first second

pub returns-clause-permutation : goal.returns-clause-permutation
returns-clause-permutation g c =
    let xs = c.args.items.now in
    let x = c.index-items-i.result in
    let y = c.index-items-j.result in
    IsPermutation-swap xs _ c.args.i c.args.j c.requires.first c.requires.second
    (after xs _ c.args.i c.args.j c.requires.first c.requires.second
    (λ d. ap₂ (λ a b. set (set c.args.items.now c.args.i a) c.args.j b) (c.kept-second.ensures ∙ c.index-items-j.is ∙ get_or_default xs c.args.j y d c.requires.second)
    (c.kept-first.ensures ∙ c.index-items-i.is ∙ get_or_default xs c.args.i x d c.requires.first)) x)

pub returns-clause-by_index : goal.returns-clause-by_index
returns-clause-by_index g c =
    let xs = c.args.items.now in
    let x = c.index-items-i.result in
    let y = c.index-items-j.result in
    exchanged xs _ c.args.i c.args.j c.requires.first c.requires.second
    (λ d. ap₂ (λ a b. set (set c.args.items.now c.args.i a) c.args.j b) (c.kept-second.ensures ∙ c.index-items-j.is ∙ get_or_default xs c.args.j y d c.requires.second)
    (c.kept-first.ensures ∙ c.index-items-i.is ∙ get_or_default xs c.args.i x d c.requires.first))
