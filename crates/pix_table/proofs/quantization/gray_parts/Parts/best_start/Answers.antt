-- Of `best_start`: that the sums fit, and that the invariant of its loop over `level` holds at first and after each turn.
use Rattle.std.proofs.Common.{◌≡◌, ◌+◌, get_or, arith, ap, inl, inr}
use Rattle.std.proofs.lemmas.Bool.{cases_lt}
use Rattle.pix_table.proofs.quantization.gray_parts.Parts.best_start.Goals as goal

pub error-error-requires : goal.error-error-requires
error-error-requires c = c.requires.between c.args.first c.requires.order

pub overflow_add-whole : goal.overflow_add-whole
overflow_add-whole c = omega (arith, c.error-error.ensures, c.requires.small c.args.first, c.requires.small_parts c.args.first c.requires.order)

pub loop-level-init : goal.loop-level-init
loop-level-init c =
    let made = ap (λ k. get_or c.args.self.now.errors c.args.first 0 + k) c.error-error.ensures in
    record {
      first = omega arith;
      last = omega arith;
      made = made;
      least = λ a p q. let same : a ≡ c.args.first = omega arith in rw same (omega (arith, made));
    }

pub error-part-requires : goal.error-part-requires
error-part-requires c = c.requires.between c.loop-level.level (omega arith)

pub overflow_add-found : goal.overflow_add-found
overflow_add-found c =
    omega (arith, c.error-part.ensures, c.requires.small c.loop-level.level, c.requires.small_parts c.loop-level.level (omega arith))

pub loop-level-preserved : goal.loop-level-preserved
loop-level-preserved c =
    let h = c.loop-level.invariant in
    let e = c.or-best.ensures in
    let made = ap (λ k. get_or c.args.self.now.errors c.loop-level.level 0 + k) c.error-part.ensures in
    record {
      first = elim e.one [ inl k ↦ omega (arith, k.0, h.first) | inr k ↦ omega (arith, k.0) ];
      last = elim e.one [ inl k ↦ omega (arith, k.0, h.last) | inr k ↦ omega (arith, k.0) ];
      made = elim e.one [ inl k ↦ rw (k.0, k.1) h.made | inr k ↦ rw (k.0, k.1) made ];
      least = λ a p q. elim (cases_lt a c.loop-level.level) [
        | inl l ↦ omega (arith, h.least a p l, e.first)
        | inr l ↦ let same : a ≡ c.loop-level.level = omega arith in rw same (omega (arith, e.second, made))
      ];
    }

pub returns-clause-least : goal.returns-clause-least
returns-clause-least c = λ a p q. c.loop-level.invariant.least a p (omega arith)
