use Rattle.std.proofs.Common.{◌≡◌, ◌<◌, length, sym, ap, ◌∙◌}
use Rattle.std.specs.Prelude.{slice_get, Some, unwrap_or}
use Rattle.std.specs.Option.{option_map}
use Rattle.std.proofs.lemmas.Option.{slice_get-map, slice_get-get_or, slice_get_past, unwrap_or-slice_get}
use Rattle.pix_bytes.specs.Table.{first_line}
use Rattle.pix_bytes.specs.Rows.{stored_of, is_sound}
use Rattle.pix_bytes.specs.BitmapFormats.{stored_formats}
use Rattle.pix_bytes.specs.declared.bitmap.format.Line.{Line}
use Rattle.pix_bytes.specs.declared.bitmap.format.TheConstants.{FORMATS}
use Rattle.pix_bytes.proofs.Table.{line, lines_are, sound_at}
use Rattle.pix_bytes.proofs.bitmap.format.FormatParts.from_number.Goals as goal

pub returns-then-number-lt81-clause-value : goal.returns-then-number-lt81-clause-value
returns-then-number-lt81-clause-value c =
    let r = c.line_or_first-row.result in
    let there : c.args.number < length FORMATS = c.if-number-lt81.true in
    let found : slice_get FORMATS c.args.number ≡ Some r =
    slice_get-get_or FORMATS c.args.number first_line there ∙ ap (λ (x : Line). Some x) (sym (c.line_or_first-row.ensures ∙ unwrap_or-slice_get FORMATS c.args.number first_line)) in
    sym (ap (λ l. slice_get l c.args.number) (sym lines_are) ∙ slice_get-map (λ r. stored_of (line r)) FORMATS c.args.number ∙ ap (option_map (λ r. stored_of (line r))) found)

pub returns-then-number-lt81-clause-sound : goal.returns-then-number-lt81-clause-sound
returns-then-number-lt81-clause-sound c = λ stored e.
    let r = c.line_or_first-row.result in
    let there : c.args.number < length FORMATS = c.if-number-lt81.true in
    let found : slice_get FORMATS c.args.number ≡ Some r =
    slice_get-get_or FORMATS c.args.number first_line there ∙ ap (λ (x : Line). Some x) (sym (c.line_or_first-row.ensures ∙ unwrap_or-slice_get FORMATS c.args.number first_line)) in
    let same : line r ≡ stored = ap (λ o. unwrap_or o (line r)) e in
    ap is_sound (sym same) ∙ sound_at c.args.number r found

pub returns-else-number-lt81-clause-value : goal.returns-else-number-lt81-clause-value
returns-else-number-lt81-clause-value c = sym (slice_get_past stored_formats c.args.number c.if-number-lt81.false)
