-- Of `cut_items`: that the boxes are joined, and its clause `table`.
use Rattle.std.proofs.Common.{◌∙◌, length, map, sym, ap}
use Rattle.std.proofs.lemmas.List.{length-map}
use Rattle.std.specs.Prelude.{min}
use Rattle.pix_table.specs.quantization.Items.{spread}
use Rattle.pix_table.proofs.quantization.cut.cut_items.Goals as goal

pub join_boxes-joined-requires-clause-boxes : goal.join_boxes-joined-requires-clause-boxes
join_boxes-joined-requires-clause-boxes g c =
    let h = c.cut_groups-count.ensures.boxes in
    (map (spread g.C.Counted.channels) h.0, h.4, h.5)

pub write_means-requires-clause-boxes : goal.write_means-requires-clause-boxes
write_means-requires-clause-boxes g c =
    let h = c.cut_groups-count.ensures.boxes in
    let j = c.join_boxes-joined.ensures.joined (map (spread g.C.Counted.channels) h.0) h.4 h.5 in
    (j.0, j.2)

pub returns-clause-table : goal.returns-clause-table
returns-clause-table g c =
    let h = c.cut_groups-count.ensures.boxes in
    let j = c.join_boxes-joined.ensures.joined (map (spread g.C.Counted.channels) h.0) h.4 h.5 in
    record {
      boxes = h.0;
      are = h.1;
      few = h.2;
      full = h.3;
      groups = j.0;
      joined = j.1;
      many = j.2.many ∙ c.join_boxes-joined.ensures.many
          ∙ ap (λ n. min (length c.args.entries.now) n) (sym h.4.many ∙ length-map h.0 (spread g.C.Counted.channels));
      means = c.write_means.ensures j.0 j.2;
    }
