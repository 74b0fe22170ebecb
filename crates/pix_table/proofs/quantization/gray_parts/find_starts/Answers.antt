-- Of `find_starts`: that the invariant of its loop holds at first and after each turn, and what it leaves.
use Rattle.std.proofs.Common.{length-set, arith, ◌∙◌}
use Rattle.pix_table.specs.quantization.GrayLevels.{error_of}
use Rattle.pix_table.proofs.lemmas.quantization.PartLemmas.{all_parts, errors_none, first_parts, parts_more}
use Rattle.pix_table.proofs.quantization.gray_parts.find_starts.Goals as goal

pub loop-k-init : goal.loop-k-init
loop-k-init c =
    let r = c.requires.levels in
    let e = c.first-parts.ensures in
    first_parts r.0 r.1 c.args.len c.args.sums.now r.2 c.args.starts.now c.first-parts.result.errors c.first-parts.result.starts c.requires.room e.first e.starts e.small

pub next-parts-requires-clause-before : goal.next-parts-requires-clause-before
next-parts-requires-clause-before c =
    c.loop-k.invariant.same 0 (omega arith) ∙ errors_none (error_of c.args.sums.now) c.loop-k.starts c.loop-k.k

pub next-parts-requires-clause-sooner : goal.next-parts-requires-clause-sooner
next-parts-requires-clause-sooner c = c.loop-k.invariant.sooner

pub next-parts-requires-clause-stand : goal.next-parts-requires-clause-stand
next-parts-requires-clause-stand c = c.loop-k.invariant.stands

pub next-parts-requires-clause-small : goal.next-parts-requires-clause-small
next-parts-requires-clause-small c = c.loop-k.invariant.small

pub loop-k-preserved : goal.loop-k-preserved
loop-k-preserved c =
    let r = c.requires.levels in
    let e = c.next-parts.ensures in
    parts_more r.0 r.1 c.args.len c.args.sums.now r.2 c.loop-k.starts c.loop-k.parts.errors c.loop-k.parts.starts c.next-parts.result.errors c.next-parts.result.starts
    c.loop-k.k (omega arith) (omega arith) c.loop-k.invariant e.next e.small

pub returns-clause-stand : goal.returns-clause-stand
returns-clause-stand c = λ k b l m. c.loop-k.invariant.stand k b (omega (arith, length-set c.args.starts.now 0 c.first-parts.result.starts)) m

pub returns-clause-first : goal.returns-clause-first
returns-clause-first c = c.loop-k.invariant.first

pub returns-clause-least : goal.returns-clause-least
returns-clause-least c =
    all_parts (error_of c.args.sums.now) c.args.len c.args.sums.now c.loop-k.starts c.loop-k.parts.errors c.loop-k.parts.starts c.loop-k.k _
    (omega (arith, length-set c.args.starts.now 0 c.first-parts.result.starts)) c.loop-k.invariant
