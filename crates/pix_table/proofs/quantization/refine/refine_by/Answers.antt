-- Of `refine_by`: that its rounds are as many as were asked for.
use Rattle.std.proofs.Common.{◌≡◌, ◌+◌, ◌-◌, suc, map, refl, arith, sym, subst}
use Rattle.pix_table.specs.matching.Nearest.{distance, numbers}
use Rattle.pix_table.specs.quantization.Refine.{AreRounds, IsRound, refined}
use Rattle.pix_table.proofs.lemmas.quantization.TableRounds.{none_move}
use Rattle.pix_table.proofs.quantization.refine.refine_by.Goals as goal

pub loop-done-init : goal.loop-done-init
loop-done-init c = λ all are new h.
    let e : c.args.rounds - 0 ≡ c.args.rounds = omega arith in
    subst (λ n. AreRounds n all (map numbers c.args.entries.now) new) e h

pub loop-done-preserved : goal.loop-done-preserved
loop-done-preserved c = λ all are new h.
    let e : suc (c.args.rounds - (c.loop-done.done + 1)) ≡ c.args.rounds - c.loop-done.done = omega arith in
    c.loop-done.invariant all are new
    (subst (λ n. AreRounds n all (map numbers c.loop-done.entries) new) e
    (map numbers c.round-is_moved.new.entries, c.round-is_moved.ensures.round all are, h))

pub returns-then-not-is_moved : goal.returns-then-not-is_moved
returns-then-not-is_moved c = record {
  rounds = λ all are.
      let new = map numbers c.round-is_moved.new.entries in
      let same : map numbers c.round-is_moved.new.entries ≡ map numbers c.loop-done.entries = c.round-is_moved.ensures.same c.if-not-is_moved.true in
      let round : IsRound all new new =
      subst (λ l. IsRound all l (map numbers c.round-is_moved.new.entries)) (sym same) (c.round-is_moved.ensures.round all are) in
      c.loop-done.invariant all are new
      (subst (λ l. AreRounds (c.args.rounds - c.loop-done.done) all l (map numbers c.round-is_moved.new.entries)) same
      (none_move distance refined (c.args.rounds - c.loop-done.done) all new round));
}

pub returns : goal.returns
returns c = record {
  rounds = λ all are.
      let e : 0 ≡ c.args.rounds - c.loop-done.done = omega arith in
      c.loop-done.invariant all are (map numbers c.loop-done.entries)
      (subst (λ n. AreRounds n all (map numbers c.loop-done.entries) (map numbers c.loop-done.entries)) e refl);
}
