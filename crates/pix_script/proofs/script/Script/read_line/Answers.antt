-- Of `read_line`: that a comment changes nothing.
use Rattle.std.proofs.Common.{◌≡◌, true, rules}
use Rattle.std.specs.Str.Lines.{strip_carriage_return}
use Rattle.pix_script.specs.Commands.{is_comment}
use Rattle.pix_script.specs.Reading.{held}
use Rattle.pix_script.proofs.ReadingLemmas.{comment_read}
use Rattle.pix_script.proofs.script.Script.read_line.Goals as goal

pub returns-then-eq : goal.returns-then-eq
returns-then-eq c =
    let comment : is_comment c.without_return-line.result.now ≡ true = search rules in
    comment_read (held c.args.self.now) (strip_carriage_return c.args.line.now) (rw c.without_return-line.ensures at comment)
