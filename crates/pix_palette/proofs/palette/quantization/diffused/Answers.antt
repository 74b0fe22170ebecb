-- Of `diffused`: that without pixels there is no index, whatever the width of a row.
use Rattle.std.proofs.Common.{◌≡◌, ◌∙◌, List, ℕ, [], ◌∷◌, length, map, refl, arith, rules}
use Rattle.std.proofs.lemmas.List.{length-map}
use Rattle.pix_table.specs.diffuse.Diffusion.{AreDiffusedBy, none}
use Rattle.pix_table.specs.SrgbColor.{srgba_numbers}
use Rattle.pix_table.specs.declared.diffuse.ScanOrder.{ScanOrder}
use Rattle.pix_palette.specs.Palette.{numbers}
use Rattle.pix_palette.proofs.IndexingSets.{rewritten}
use Rattle.pix_palette.proofs.palette.quantization.diffused.Goals as goal

none_diffused : (scan : ScanOrder) (strength : ℕ) (entries : List (List ℕ)) (alpha transparent_index w width : ℕ) (pixels : List (List ℕ)) (indices : List ℕ) → length pixels ≡ 0
    → AreDiffusedBy scan strength entries alpha transparent_index w pixels indices → AreDiffusedBy scan strength entries alpha transparent_index width pixels indices
none_diffused scan strength entries alpha transparent_index w width (p ∷ pixels) indices e h = absurd (omega arith)
none_diffused scan strength entries alpha transparent_index w width [] (i ∷ indices) e h = let many : length (i ∷ indices) ≡ 0 = h.many in absurd (omega arith)
none_diffused scan strength entries alpha transparent_index w width [] [] e h =
    record { bound = h.bound; is_bound = h.is_bound; wanted = []; found = []; along = []; diffused = none; whole = refl; many = refl; each = λ k less. absurd (omega arith) }

pub returns-then-is_empty-2-clause-diffused : goal.returns-then-is_empty-2-clause-diffused
returns-then-is_empty-2-clause-diffused c =
    let none : length c.args.pixels.now ≡ 0 = search rules in
    let indices : List ℕ = c.diffuse_indexed.new.indices in
    let long : c.in_ok-indices.indices.len ≡ length indices = cc in
    rw (rewritten c.in_ok-indices.indices.len c.in_ok-indices.indices.items indices long)
    (none_diffused c.args.how.scan c.args.how.strength (map numbers c.args.colors.now) c.args.how.alpha c.args.how.transparent_index 1 c.args.how.width (map srgba_numbers c.args.pixels.now) indices
    (length-map c.args.pixels.now srgba_numbers ∙ none) c.diffuse_indexed.ensures.diffused)

pub returns-then-is_empty-2-clause-near : goal.returns-then-is_empty-2-clause-near
returns-then-is_empty-2-clause-near c =
    let none : length c.args.pixels.now ≡ 0 = search rules in
    λ k less. absurd (omega (arith, less, none, length-map c.args.pixels.now srgba_numbers))
