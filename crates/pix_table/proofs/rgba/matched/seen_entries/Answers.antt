-- Of `seen_entries`: that the invariant of its loop over `i` holds after each turn, and that all
-- entries are there.
use Rattle.std.proofs.Common.{arith, ◌≡◌, ◌+◌, ◌∷◌, ◌++◌, [], All, map, take, set, get_or, length, length-set, ap, sym, ◌∙◌, subst, take_all}
use Rattle.std.proofs.lemmas.List.{map-append, take_more_set}
use Rattle.std.proofs.lemmas.Simd.{map-map}
use Rattle.std.proofs.lemmas.List.Elements.{All-append, All-from_get_or}
use Rattle.pix_table.specs.SeenPixels.{AreSeen, seen, seen_numbers}
use Rattle.pix_table.proofs.Writes.{copy_more}
use Rattle.pix_table.proofs.rgba.matched.seen_entries.Goals as goal

pub loop-i-preserved : goal.loop-i-preserved
loop-i-preserved g c =
    let colors = c.loop-i.colors in
    let i = c.loop-i.i in
    let one : All AreSeen (seen_numbers c.seen_of.result ∷ []) =
    All-from_get_or AreSeen (seen_numbers c.seen_of.result ∷ []) []
    (λ k b. let z : 0 ≡ k = omega arith in subst (λ j. AreSeen (get_or (seen_numbers c.seen_of.result ∷ []) j [])) z c.seen_of.ensures.seen) in
    let more : map seen_numbers (take (i + 1) (set colors i c.seen_of.result)) ≡ map seen_numbers (take i colors) ++ seen_numbers c.seen_of.result ∷ [] =
    ap (map seen_numbers) (take_more_set colors i c.seen_of.result (omega arith)) ∙ map-append seen_numbers (take i colors) (c.seen_of.result ∷ []) in
    record {
      copied = copy_more seen_numbers (λ entry. seen (g.E.TablePixel.values entry)) colors c.args.entries.now i c.seen_of.result c.index-entries-i.result
          (omega arith) (omega arith) c.index-entries-i.is c.seen_of.ensures.numbers c.loop-i.invariant.copied;
      seen = subst (All AreSeen) (sym more) (All-append AreSeen _ _ c.loop-i.invariant.seen one);
      long = length-set _ _ _ ∙ c.loop-i.invariant.long;
    }

pub returns-clause-numbers : goal.returns-clause-numbers
returns-clause-numbers g c =
    let entries = c.args.entries.now in
    let all : c.loop-i.i ≡ length entries = omega arith in
    ap (λ n. map seen_numbers (take n c.loop-i.colors)) (sym all) ∙ c.loop-i.invariant.copied
    ∙ ap (map (λ entry. seen (g.E.TablePixel.values entry))) (take_all c.loop-i.i entries (omega arith))
    ∙ sym (map-map seen g.E.TablePixel.values entries)
