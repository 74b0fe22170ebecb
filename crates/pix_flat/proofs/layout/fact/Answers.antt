use Rattle.std.proofs.Common.{arith, ◌≡◌, slice_get, unwrap_or, ℕ, List, [], ◌∷◌, Option, Some, None, option_copied, refl, sym, subst, ap, ◌∙◌}
use Rattle.std.proofs.lemmas.Option.{unwrap_or-slice_get}
use Rattle.std.specs.Slice.{IsItemAt}
use denote.Ref.{Bor}
use Rattle.pix_flat.specs.Layout.{facts, no_fact}
use Rattle.pix_flat.proofs.layout.fact.Goals as goal

-- the sizes and the offsets as numbers
abbrev numbers : List ℕ
numbers = 4 ∷ 4 ∷ 8 ∷ 2 ∷ 16 ∷ 0 ∷ 4 ∷ 8 ∷ 12
    ∷ 128 ∷ 0 ∷ 4 ∷ 8 ∷ 24 ∷ 40 ∷ 48 ∷ 56 ∷ 64 ∷ 72 ∷ 80 ∷ 84 ∷ 88 ∷ 92 ∷ 108 ∷ 112 ∷ 116 ∷ 120
    ∷ 144 ∷ 0 ∷ 4 ∷ 8 ∷ 24 ∷ 40 ∷ 48 ∷ 56 ∷ 64 ∷ 72 ∷ 80 ∷ 84 ∷ 88 ∷ 92 ∷ 108 ∷ 112 ∷ 116 ∷ 120 ∷ 128 ∷ 136
    ∷ 128 ∷ 0 ∷ 4 ∷ 8 ∷ 24 ∷ 40 ∷ 48 ∷ 56 ∷ 64 ∷ 72 ∷ 80 ∷ 84 ∷ 88 ∷ 92 ∷ 108 ∷ 112 ∷ 116 ∷ 120 ∷ []

facts_are : facts ≡ numbers
facts_are = refl

-- a look-up that copies the number, in any list
copied : (l : List ℕ) (i d : ℕ) (r : Option (Bor ℕ)) → IsItemAt l i r → unwrap_or (option_copied r) d ≡ unwrap_or (slice_get l i) d
copied l i d None h = h.4 (omega arith) d ∙ sym (unwrap_or-slice_get l i d)
copied l i d (Some x) h = h.4 (omega arith) d ∙ sym (unwrap_or-slice_get l i d)

pub returns : goal.returns
returns c = subst (λ (l : List ℕ). c.unwrap_or.result ≡ unwrap_or (slice_get l c.args.index) no_fact) (sym facts_are)
    (c.unwrap_or.ensures ∙ ap (λ (o : Option ℕ). unwrap_or o no_fact) c.copied.ensures
    ∙ copied numbers c.args.index no_fact c.get.result c.get.ensures.lookup)
