-- Of `line_or_first`: its line, in a table of any length.
use Rattle.std.proofs.Common.{◌≡◌, slice_get, unwrap_or, ℕ, List, Option, Some, None, option_copied, arith, sym, ap, ◌∙◌}
use Rattle.std.proofs.lemmas.Option.{unwrap_or-slice_get}
use Rattle.std.specs.Slice.{IsItemAt}
use denote.Ref.{Bor}
use Rattle.pix_bytes.specs.Table.{first_line}
use Rattle.pix_bytes.specs.declared.bitmap.format.Line.{Line}
use Rattle.pix_bytes.specs.declared.bitmap.format.TheConstants.{FORMATS}
use Rattle.pix_bytes.proofs.bitmap.format.line_or_first.Goals as goal

-- a look-up that copies the line, in any list
copied : (l : List Line) (i : ℕ) (d : Line) (r : Option (Bor Line)) → IsItemAt l i r → unwrap_or (option_copied r) d ≡ unwrap_or (slice_get l i) d
copied l i d None h = h.4 (omega arith) d ∙ sym (unwrap_or-slice_get l i d)
copied l i d (Some x) h = h.4 (omega arith) d ∙ sym (unwrap_or-slice_get l i d)

pub returns : goal.returns
returns c =
    c.unwrap_or.ensures ∙ ap (λ (o : Option Line). unwrap_or o first_line) c.copied.ensures
    ∙ copied FORMATS c.args.number first_line c.get.result c.get.ensures.lookup
