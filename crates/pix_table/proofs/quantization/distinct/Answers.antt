-- Of `distinct`: what it answers where there is no room, and that the invariant of its loop over
-- `i` holds after each turn.
use Rattle.std.proofs.Common.{◌≡◌, ◌+◌, [], ◌∷◌, ◌++◌, length, map, take, drop, set, get_or, true, arith, sym, ap, ◌∙◌, length-append, length-take, length-set}
use Rattle.std.specs.List.{list_any}
use Rattle.std.proofs.lemmas.List.{length-map, map-append, take_more_set, get_or_default}
use Rattle.std.proofs.lemmas.List.Folds.{list_any_at}
use Rattle.pix_table.specs.matching.Nearest.{numbers}
use Rattle.pix_table.specs.quantization.Quantization.{distinct, same_color}
use Rattle.pix_table.specs.declared.color.Color.{Color}
use Rattle.pix_table.proofs.lemmas.quantization.BoxSpans.{map_more}
use Rattle.pix_table.proofs.lemmas.matching.Distinct.{known_more, new_more, distinct_first, parted_at}
use Rattle.pix_table.proofs.quantization.distinct.Goals as goal
use Rattle.pix_table.proofs.quantization.distinct.Goals.{in-Some, in-None+else-count-entries}

pub returns-then-count-entries : goal.returns-then-count-entries
returns-then-count-entries c =
    let p : Color = get_or c.args.colors.now c.loop-i.i (record { red = 0; green = 0; blue = 0 }) in
    let more : map numbers (take (c.loop-i.i + 1) c.args.colors.now) ≡ map numbers (take c.loop-i.i c.args.colors.now) ++ numbers p ∷ [] =
    map_more numbers c.args.colors.now c.loop-i.i p (omega arith) (get_or_default c.args.colors.now c.loop-i.i _ p (omega arith)) in
    let table : map numbers (take c.loop-i.count c.loop-i.entries) ++ numbers p ∷ [] ≡ distinct (map numbers (take (c.loop-i.i + 1) c.args.colors.now)) =
    new_more same_color _ _ _ (numbers p) more c.loop-i.invariant.written c.in-None.ensures in
    omega (
      arith,
      ap length table,
      distinct_first same_color (map numbers c.args.colors.now) (map numbers (take (c.loop-i.i + 1) c.args.colors.now)) (map numbers (drop (c.loop-i.i + 1) c.args.colors.now))
          (parted_at numbers c.args.colors.now (c.loop-i.i + 1)),
      length-append (map numbers (take c.loop-i.count c.loop-i.entries)) (numbers p ∷ []),
      length-map (take c.loop-i.count c.loop-i.entries) numbers,
      length-take c.loop-i.count c.loop-i.entries,
    )

pub loop-i-preserved : goal.loop-i-preserved
loop-i-preserved c =
    let p : Color = get_or c.args.colors.now c.loop-i.i (record { red = 0; green = 0; blue = 0 }) in
    let before = map numbers (take c.loop-i.count c.loop-i.entries) in
    let more : map numbers (take (c.loop-i.i + 1) c.args.colors.now) ≡ map numbers (take c.loop-i.i c.args.colors.now) ++ numbers p ∷ [] =
    map_more numbers c.args.colors.now c.loop-i.i p (omega arith) (get_or_default c.args.colors.now c.loop-i.i _ p (omega arith)) in
    elim c.match-entry_of.branch [
      | in-Some w ↦
          let found = w.in-Some.ensures in
          let some : list_any (λ e. same_color e (numbers p)) (map numbers (take c.loop-i.count c.loop-i.entries)) ≡ true =
          list_any_at (λ e. same_color e (numbers p)) before w.in-Some.at []
          (omega (arith, found.0, length-map (take c.loop-i.count c.loop-i.entries) numbers)) found.1 in
          rw (w.count-is, w.entries-is)
          (record {
            within = c.loop-i.invariant.within;
            written = known_more same_color _ _ _ (numbers p) more c.loop-i.invariant.written some;
          })
      | in-None+else-count-entries w ↦
          let table : map numbers (take c.loop-i.count c.loop-i.entries) ++ numbers p ∷ [] ≡ distinct (map numbers (take (c.loop-i.i + 1) c.args.colors.now)) =
          new_more same_color _ _ _ (numbers p) more c.loop-i.invariant.written w.in-None.ensures in
          rw (w.count-is, w.entries-is)
          (record {
            within = omega (arith, length-set c.loop-i.entries c.loop-i.count p);
            written = ap (map numbers) (take_more_set c.loop-i.entries c.loop-i.count p (omega arith)) ∙ map-append numbers (take c.loop-i.count c.loop-i.entries) (p ∷ []) ∙ table;
          })
    ]
