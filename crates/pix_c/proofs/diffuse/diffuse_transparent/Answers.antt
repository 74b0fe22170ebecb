-- Of `diffuse_transparent`: that pixels which are all transparent are diffused, whatever the entries are.
use Rattle.std.proofs.Common.{◌%◌, length, map, sym, ap, ◌∙◌}
use Rattle.std.proofs.lemmas.List.{length-map}
use Rattle.pix_table.specs.SeenPixels.{rgba_numbers}
use Rattle.pix_c.proofs.Transparent.{rows_whole, transparent_diffused, transparent_shown}
use Rattle.pix_c.proofs.diffuse.diffuse_transparent.Goals as goal

pub returns-then-map_transparent-clause-done : goal.returns-then-map_transparent-clause-done
returns-then-map_transparent-clause-done c = λ done entries empty.
    let rows =
    rows_whole c.args.how.scan (length c.args.pixels.now) c.args.how.width c.args.work (length c.args.indices.now) (sym c.are_rows.ensures ∙ c.if-not-are_rows.false) in
    transparent_diffused c.args.how.scan c.args.how.strength entries c.args.how.alpha c.args.how.transparent_index c.args.how.width
    (map rgba_numbers c.args.pixels.now) c.map_transparent.new.indices empty rows.0
    (λ e. ap (λ n. n % c.args.how.width) (length-map c.args.pixels.now rgba_numbers) ∙ rows.1 e)
    (sym c.map_transparent.ensures.transparent ∙ c.if-map_transparent.true)
    (c.map_transparent.ensures.matched c.if-map_transparent.true entries)

pub returns-then-map_transparent-clause-near : goal.returns-then-map_transparent-clause-near
returns-then-map_transparent-clause-near c = λ done entries.
    transparent_shown entries c.args.how.alpha c.args.how.transparent_index (map rgba_numbers c.args.pixels.now) c.map_transparent.new.indices
    (sym c.map_transparent.ensures.transparent ∙ c.if-map_transparent.true)
    (c.map_transparent.ensures.matched c.if-map_transparent.true entries)
