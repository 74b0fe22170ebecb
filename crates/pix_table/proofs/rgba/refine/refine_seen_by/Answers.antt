-- Of `refine_seen_by`: that its rounds are as many as were asked for.
use Rattle.std.proofs.Common.{◌≡◌, ◌+◌, ◌-◌, suc, drop, length, map, refl, rules, arith, sym, subst, length-append, length-drop, length-take}
use Rattle.pix_table.specs.quantization.Refine.{AreRoundsBy, IsRoundBy}
use Rattle.pix_table.specs.SeenPixels.{seen_distance, seen_numbers}
use Rattle.pix_table.specs.quantization.SeenTables.{seen_settled}
use Rattle.pix_table.proofs.lemmas.quantization.TableRounds.{none_move}
use Rattle.pix_table.proofs.rgba.refine.refine_seen_by.Goals as goal

pub returns-then-not-is_moved-clause-rounds : goal.returns-then-not-is_moved-clause-rounds
returns-then-not-is_moved-clause-rounds c = λ all are seen.
    let new = map seen_numbers c.seen_round-is_moved.new.entries in
    let same : map seen_numbers c.seen_round-is_moved.new.entries ≡ map seen_numbers c.loop-done.entries =
    c.seen_round-is_moved.ensures.same c.if-not-is_moved.true in
    let round : IsRoundBy seen_distance seen_settled all new new =
    subst (λ l. IsRoundBy seen_distance seen_settled all l (map seen_numbers c.seen_round-is_moved.new.entries)) (sym same)
    (c.seen_round-is_moved.ensures.round all are seen) in
    c.loop-done.invariant.rounds all are seen new
    (subst
    (λ l. AreRoundsBy seen_distance seen_settled (c.args.rounds - c.loop-done.done) all l (map seen_numbers c.seen_round-is_moved.new.entries)) same
    (none_move seen_distance seen_settled (c.args.rounds - c.loop-done.done) all new round))

pub returns-clause-rounds : goal.returns-clause-rounds
returns-clause-rounds c = λ all are seen.
    let e : 0 ≡ c.args.rounds - c.loop-done.done = omega arith in
    c.loop-done.invariant.rounds all are seen (map seen_numbers c.loop-done.entries)
    (subst (λ n. AreRoundsBy seen_distance seen_settled n all (map seen_numbers c.loop-done.entries) (map seen_numbers c.loop-done.entries)) e refl)

pub loop-done-init : goal.loop-done-init
loop-done-init c =
    let e : c.args.rounds - 0 ≡ c.args.rounds = omega arith in
    record {
      rounds = λ all are seen new h. subst (λ n. AreRoundsBy seen_distance seen_settled n all (map seen_numbers c.args.entries.now) new) e h;
      seen = c.requires.entries;
      room = search rules;
    }

pub loop-done-preserved : goal.loop-done-preserved
loop-done-preserved c =
    let e : suc (c.args.rounds - (c.loop-done.done + 1)) ≡ c.args.rounds - c.loop-done.done = omega arith in
    record {
      rounds = λ all are seen new h.
          c.loop-done.invariant.rounds all are seen new
          (subst (λ n. AreRoundsBy seen_distance seen_settled n all (map seen_numbers c.loop-done.entries) new) e
          (map seen_numbers c.seen_round-is_moved.new.entries, c.seen_round-is_moved.ensures.round all are seen, h));
      seen = c.seen_round-is_moved.ensures.seen;
      room = omega (
        arith,
        c.requires.few,
        c.loop-done.invariant.room,
        c.loop-done.auto.entries,
        c.seen_round-is_moved.auto.sums,
        length-append c.seen_round-is_moved.new.sums (drop (length c.args.entries.now) c.loop-done.sums),
        length-drop (length c.args.entries.now) c.loop-done.sums,
        length-take (length c.args.entries.now) c.loop-done.sums,
      );
    }
