-- Of `rgba_diffused`: that without pixels there is no index, whatever the width of a row.
use Rattle.std.proofs.Common.{◌≡◌, ℕ, List, [], ◌∷◌, length, map, refl, ◌∙◌, arith, rules}
use Rattle.std.proofs.lemmas.List.{length-map}
use Rattle.pix_table.specs.diffuse.Diffusion.{none}
use Rattle.pix_table.specs.diffuse.SeenDiffusion.{AreSeenDiffused}
use Rattle.pix_table.specs.SrgbColor.{srgba_numbers}
use Rattle.pix_table.specs.declared.diffuse.ScanOrder.{ScanOrder}
use Rattle.pix_palette.proofs.IndexingSets.{rewritten}
use Rattle.pix_palette.proofs.palette.rgba_table.rgba_diffused.Goals as goal

no_pixels : (scan : ScanOrder) (strength w width : ℕ) (entries pixels : List (List ℕ)) (indices : List ℕ) → length pixels ≡ 0
    → AreSeenDiffused scan strength w entries pixels indices → AreSeenDiffused scan strength width entries pixels indices
no_pixels scan strength w width entries (p ∷ pixels) indices e h = absurd (omega arith)
no_pixels scan strength w width entries [] (i ∷ indices) e h = let many : length (i ∷ indices) ≡ 0 = h.diffused.many in absurd (omega arith)
no_pixels scan strength w width entries [] [] e h = record {
  clear = h.clear;
  nearest = h.nearest;
  diffused = record { bound = h.diffused.bound; is_bound = h.diffused.is_bound; wanted = []; found = []; along = []; diffused = none; whole = refl; many = refl; each = λ k less. absurd (omega arith) };
}

pub returns-then-is_empty-2-clause-diffused : goal.returns-then-is_empty-2-clause-diffused
returns-then-is_empty-2-clause-diffused c =
    let none : length c.args.pixels.now ≡ 0 = search rules in
    let indices : List ℕ = c.diffuse_indexed_rgba.new.indices in
    let long : c.in_ok-indices.indices.len ≡ length indices = cc in
    rw (rewritten c.in_ok-indices.indices.len c.in_ok-indices.indices.items indices long)
    (no_pixels c.args.how.scan c.args.how.strength 1 c.args.how.width _ (map srgba_numbers c.args.pixels.now) indices
    (length-map c.args.pixels.now srgba_numbers ∙ none) c.diffuse_indexed_rgba.ensures.diffused)

pub returns-clause-diffused : goal.returns-clause-diffused
returns-clause-diffused c =
    let indices : List ℕ = c.diffuse_indexed_rgba-2.new.indices in
    let long : c.in_ok-indices.indices.len ≡ length indices = cc in
    rw (rewritten c.in_ok-indices.indices.len c.in_ok-indices.indices.items indices long) c.diffuse_indexed_rgba-2.ensures.diffused

pub returns-then-is_empty-2-clause-near : goal.returns-then-is_empty-2-clause-near
returns-then-is_empty-2-clause-near c =
    let none : length c.args.pixels.now ≡ 0 = search rules in
    λ k less. absurd (omega (arith, less, none, length-map c.args.pixels.now srgba_numbers))

pub returns-clause-near : goal.returns-clause-near
returns-clause-near c =
    let indices : List ℕ = c.diffuse_indexed_rgba-2.new.indices in
    let long : c.in_ok-indices.indices.len ≡ length indices = cc in
    rw (rewritten c.in_ok-indices.indices.len c.in_ok-indices.indices.items indices long) c.diffuse_indexed_rgba-2.ensures.near
