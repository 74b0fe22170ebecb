-- Of `first_fault`: the clauses `fault` and `done`, and that the invariant of its loop over `index`
-- holds after each turn.
use Rattle.std.proofs.Common.{◌≡◌, ℕ, ◌+◌, map, drop, ap, sym, ◌∙◌, arith}
use Rattle.pix_flat.specs.Status.{fault_of, first_fault, count_before_fault}
use Rattle.pix_flat.proofs.Faults.{first_fault_on, first_fault_here, count_on, count_here, left_from}
use Rattle.pix_flat.proofs.status.first_fault.Goals as goal

pub loop-index-preserved : goal.loop-index-preserved
loop-index-preserved g c =
    let flat = g.C.Flatten.flat in
    let command = c.index-commands-index.result in
    let i : ℕ = c.loop-index.index in
    let rest = drop (i + 1) (map flat c.args.commands.now) in
    let left = left_from flat c.args.commands.now i command c.loop-index-test.true c.index-commands-index.is in
    let none : fault_of (flat command) ≡ 0 = sym c.fault-fault.ensures ∙ c.if-fault-ne-DONE.false in
    record {
      fault = c.loop-index.invariant.fault ∙ ap first_fault left ∙ first_fault_on (flat command) rest none;
      count = c.loop-index.invariant.count ∙ ap (λ n. i + n) (ap count_before_fault left ∙ count_on (flat command) rest none) ∙ omega arith;
    }

pub returns-then-fault-ne-DONE-clause-fault : goal.returns-then-fault-ne-DONE-clause-fault
returns-then-fault-ne-DONE-clause-fault g c =
    let flat = g.C.Flatten.flat in
    let command = c.index-commands-index.result in
    let i : ℕ = c.loop-index.index in
    let rest = drop (i + 1) (map flat c.args.commands.now) in
    let left = left_from flat c.args.commands.now i command c.loop-index-test.true c.index-commands-index.is in
    let fault : c.fault-fault.result ≡ fault_of (flat command) = c.fault-fault.ensures in
    sym (c.loop-index.invariant.fault ∙ ap first_fault left ∙ first_fault_here (flat command) rest (λ e. c.if-fault-ne-DONE.true (fault ∙ e)) ∙ sym fault)

pub returns-then-fault-ne-DONE-clause-done : goal.returns-then-fault-ne-DONE-clause-done
returns-then-fault-ne-DONE-clause-done g c =
    let flat = g.C.Flatten.flat in
    let command = c.index-commands-index.result in
    let i : ℕ = c.loop-index.index in
    let rest = drop (i + 1) (map flat c.args.commands.now) in
    let left = left_from flat c.args.commands.now i command c.loop-index-test.true c.index-commands-index.is in
    let fault : c.fault-fault.result ≡ fault_of (flat command) = c.fault-fault.ensures in
    sym (c.loop-index.invariant.count ∙ ap (λ n. i + n) (ap count_before_fault left ∙ count_here (flat command) rest (λ e. c.if-fault-ne-DONE.true (fault ∙ e))) ∙ omega arith)
