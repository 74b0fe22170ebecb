-- Of `gather`: that one color more is written.
use Rattle.std.proofs.Common.{◌∷◌, ◌++◌, [], ◌∙◌, All, ap, ap₂, arith, map, subst, sym, take}
use Rattle.std.proofs.lemmas.List.{map-append}
use Rattle.std.proofs.lemmas.List.Elements.{All-push}
use Rattle.pix_table.specs.SeenPixels.{AreSeen, seen, seen_numbers}
use Rattle.pix_table.proofs.lemmas.quantization.BoxSpans.{map_more}
use Rattle.pix_table.proofs.lemmas.quantization.SeenMade.{pushed}
use Rattle.pix_table.proofs.rgba.quantization.gather.Goals as goal

pub loop-i-preserved : goal.loop-i-preserved
loop-i-preserved g c =
    let before = map g.P.TablePixel.values (take c.loop-i.i c.args.pixels.now) in
    record {
      gathered =
          pushed seen_numbers c.loop-i.colors c.loop-i.i c.seen_of.result (omega arith)
          ∙ ap₂ (λ l x. l ++ x ∷ []) c.loop-i.invariant.gathered c.seen_of.ensures.numbers
          ∙ sym (ap (map seen) (map_more g.P.TablePixel.values c.args.pixels.now c.loop-i.i c.index-pixels-i.result c.loop-i-test.true c.index-pixels-i.is)
          ∙ map-append seen before (g.P.TablePixel.values c.index-pixels-i.result ∷ []));
      seen = subst (All AreSeen) (sym (pushed seen_numbers c.loop-i.colors c.loop-i.i c.seen_of.result (omega arith)))
          (All-push AreSeen (map seen_numbers (take c.loop-i.i c.loop-i.colors)) (seen_numbers c.seen_of.result) c.loop-i.invariant.seen c.seen_of.ensures.seen);
    }
