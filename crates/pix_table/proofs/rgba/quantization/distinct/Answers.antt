-- Of `distinct`: what it answers where there is no room, and that the invariant of its loop holds after each turn.
use Rattle.std.proofs.Common.{◌≡◌, ◌+◌, ◌∷◌, ◌++◌, [], false, map, take, set, true, arith, sym, ap, ap₂, ◌∙◌, length-set, length-take}
use Rattle.std.specs.List.{list_any}
use Rattle.std.proofs.lemmas.List.{length-map, map-append}
use Rattle.std.proofs.lemmas.List.Folds.{list_any_at}
use Rattle.pix_table.specs.SeenPixels.{rgba_numbers, seen, seen_numbers}
use Rattle.pix_table.specs.quantization.SeenTables.{four_of, same_seen}
use Rattle.pix_table.proofs.lemmas.quantization.SeenMade.{known_by, pixel_known, pixel_more, pixel_new, pushed}
use Rattle.pix_table.proofs.rgba.quantization.distinct.Goals as goal
use Rattle.pix_table.proofs.rgba.quantization.distinct.Goals.{in-Some, in-None+else-count-entries}

pub returns-then-count-entries : goal.returns-then-count-entries
returns-then-count-entries g c =
    let table = map rgba_numbers (take c.loop-i.count c.loop-i.entries) in
    let x = c.index-pixels-i.result in
    let none : false ≡ list_any (λ p. same_seen (seen p) (seen (g.P.TablePixel.values c.index-pixels-i.result))) (map rgba_numbers (take c.loop-i.count c.loop-i.entries)) =
    known_by table (map seen_numbers (take c.loop-i.count c.loop-i.table)) (g.P.TablePixel.values x) (seen_numbers c.seen_of-clr.result) false
    c.loop-i.invariant.shown c.seen_of-clr.ensures.numbers (sym c.in-None.ensures) in
    omega (
      arith,
      pixel_more g.P.TablePixel.values c.args.pixels.now c.loop-i.i x c.loop-i-test.true c.index-pixels-i.is table c.loop-i.invariant.written (sym none),
      length-map (take c.loop-i.count c.loop-i.entries) rgba_numbers,
      length-take c.loop-i.count c.loop-i.entries,
      c.if-count-entries.true,
      c.loop-i.auto.entries,
    )

pub loop-i-preserved : goal.loop-i-preserved
loop-i-preserved g c =
    let count = c.loop-i.count in
    let table = map rgba_numbers (take c.loop-i.count c.loop-i.entries) in
    let shown = map seen_numbers (take c.loop-i.count c.loop-i.table) in
    let x = c.index-pixels-i.result in
    elim c.match-entry_of.branch [
      | in-Some w ↦
          let found = w.in-Some.ensures in
          let some : true ≡ list_any (λ p. same_seen (seen p) (seen (g.P.TablePixel.values c.index-pixels-i.result))) (map rgba_numbers (take c.loop-i.count c.loop-i.entries)) =
          known_by table shown (g.P.TablePixel.values x) (seen_numbers c.seen_of-clr.result) true c.loop-i.invariant.shown c.seen_of-clr.ensures.numbers
          (sym (list_any_at (λ e. same_seen e (seen_numbers c.seen_of-clr.result)) shown w.in-Some.at []
          (omega (arith, found.0, length-map (take count c.loop-i.table) seen_numbers)) found.1)) in
          rw (w.count-is, w.entries-is, w.table-is)
          (record {
            within = c.loop-i.invariant.within;
            many = c.loop-i.invariant.many;
            written = pixel_known g.P.TablePixel.values c.args.pixels.now c.loop-i.i x c.loop-i-test.true c.index-pixels-i.is table c.loop-i.invariant.written (sym some);
            shown = c.loop-i.invariant.shown;
          })
      | in-None+else-count-entries w ↦
          let y = w.rgba_of.result in
          let none : false ≡ list_any (λ p. same_seen (seen p) (seen (g.P.TablePixel.values c.index-pixels-i.result))) (map rgba_numbers (take c.loop-i.count c.loop-i.entries)) =
          known_by table shown (g.P.TablePixel.values x) (seen_numbers c.seen_of-clr.result) false c.loop-i.invariant.shown c.seen_of-clr.ensures.numbers
          (sym w.in-None.ensures) in
          let written : map rgba_numbers (take (c.loop-i.count + 1) (set c.loop-i.entries c.loop-i.count w.rgba_of.result))
          ≡ map rgba_numbers (take c.loop-i.count c.loop-i.entries) ++ four_of (g.P.TablePixel.values c.index-pixels-i.result) ∷ [] =
          pushed rgba_numbers c.loop-i.entries count y (omega arith) ∙ ap (λ z. table ++ z ∷ []) w.rgba_of.ensures in
          rw (w.count-is, w.entries-is, w.table-is)
          (record {
            within = omega (arith, length-set c.loop-i.entries count y);
            many = length-set c.loop-i.table count c.seen_of-clr.result ∙ c.loop-i.invariant.many;
            written = written
                ∙ pixel_new g.P.TablePixel.values c.args.pixels.now c.loop-i.i x c.loop-i-test.true c.index-pixels-i.is table c.loop-i.invariant.written (sym none);
            shown = pushed seen_numbers c.loop-i.table count c.seen_of-clr.result (omega arith)
                ∙ ap₂ (λ l z. l ++ z ∷ []) c.loop-i.invariant.shown c.seen_of-clr.ensures.numbers
                ∙ sym (ap (map seen) written ∙ map-append seen table (four_of (g.P.TablePixel.values x) ∷ []));
          })
    ]
