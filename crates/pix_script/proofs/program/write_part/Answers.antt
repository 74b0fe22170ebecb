use Rattle.std.proofs.Common.{◌+◌, arith}
use Rattle.pix_script.proofs.ReportLemmas.{appends_next, appends_kept, appends_all, rest_length}
use Rattle.pix_script.proofs.program.write_part.Goals as goal
use Rattle.pix_script.proofs.program.write_part.Goals.{in-Ok, in-Err+else-ne}

pub parts-preserved : goal.parts-preserved
parts-preserved g c =
    elim c.match-write.branch [
      | in-Ok w ↦
          rw w.done-is
          (record {
            within = omega (arith, rest_length c.args.bytes.now c.parts.done, w.in-Ok.ensures.bound);
            taken = appends_next _ _ _ c.args.bytes.now c.parts.done w.in-Ok.count c.parts.invariant.taken w.in-Ok.ensures.bytes;
          })
      | in-Err+else-ne w ↦
          rw w.done-is
          (record {
            within = c.parts.invariant.within;
            taken = appends_kept _ _ _ _ c.parts.invariant.taken w.in-Err.ensures.bytes;
          })
    ]

pub returns-then-done-bytes : goal.returns-then-done-bytes
returns-then-done-bytes g c = appends_all _ _ _ c.parts.done (omega arith) c.parts.invariant.taken

pub returns-in-Ok-eq0 : goal.returns-in-Ok-eq0
returns-in-Ok-eq0 g c =
    (c.parts.done + c.in-Ok-eq0.field-0, appends_next _ _ _ c.args.bytes.now c.parts.done c.in-Ok-eq0.field-0 c.parts.invariant.taken c.in-Ok-eq0.ensures.bytes)

pub returns-then-ne : goal.returns-then-ne
returns-then-ne g c = (c.parts.done, appends_kept _ _ _ _ c.parts.invariant.taken c.in-Err.ensures.bytes)

pub returns : goal.returns
returns g c = (c.parts.done, c.parts.invariant.taken)
