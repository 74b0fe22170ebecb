use Rattle.std.proofs.Common.{ℕ, ◌≡◌, ◌∙◌, ◌*◌, ◌<◌, ◌≤◌, length, min, arith}
use Rattle.std.proofs.lemmas.Grind.{div_ceil_times}
use Rattle.pix_el.proofs.Copies.{copied_part, part_begins}
use Rattle.pix_el.proofs.Written.{over_copied}
use Rattle.pix_el.proofs.filled.copy_parts.Goals as goal

pub loop-k-preserved : goal.loop-k-preserved
loop-k-preserved g c =
    let part = g.row.PART in
    let source = c.args.src.now in
    let old = c.args.row.now in
    let count : ℕ = min (length old) (length source) in
    let shorter : c.min-count.result ≡ count = c.min-count.ensures in
    let next : c.loop-k.k * part < count =
    rw shorter at (part_begins c.loop-k.k part c.min-count.result c.div_ceil-k-end.result c.requires.some c.div_ceil-k-end.ensures c.loop-k-test.true) in
    copied_part c.loop-k.k part count c.min-at.result source old c.loop-k.row _ c.requires.has_one (omega arith) next
    (rw shorter at c.min-at.ensures) c.loop-k.invariant c.copy_part.ensures

pub returns : goal.returns
returns g c =
    let part = g.row.PART in
    let source = c.args.src.now in
    let old = c.args.row.now in
    let count : ℕ = min (length old) (length source) in
    let shorter : c.min-count.result ≡ count = c.min-count.ensures in
    let most : count ≤ c.div_ceil-k-end.result * part = rw (c.div_ceil-k-end.ensures, shorter) (div_ceil_times count part c.requires.some).0 in
    let ended : c.loop-k.k ≡ c.div_ceil-k-end.result = omega arith in
    let whole : min (c.loop-k.k * part) count ≡ count = rw ended (omega (arith, most)) in
    (rw whole at c.loop-k.invariant) ∙ over_copied source old
