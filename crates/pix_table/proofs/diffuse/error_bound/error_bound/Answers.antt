-- Of `error_bound`: that the invariant of its loop over `channel` holds after each turn, and the bound at last.
use Rattle.std.proofs.Common.{◌≡◌, ◌-◌, ◌/◌, map, inl, inr, subst, arith, ◌∙◌}
use Rattle.std.proofs.lemmas.Bool.{cases_lt}
use Rattle.pix_table.specs.diffuse.ErrorBound.{IsStep}
use Rattle.pix_table.proofs.diffuse.error_bound.error_bound.Goals as goal

pub loop-channel-preserved : goal.loop-channel-preserved
loop-channel-preserved g c =
    let entries = map g.C.ShownAs.shown c.args.entries.now in
    let h = c.loop-channel.invariant in
    let step = c.widest_step-step in
    record {
      least = omega (arith, h.least, c.max-bound.ensures);
      wide = λ k low high less is. elim (cases_lt k c.loop-channel.channel) [
        | inl l ↦ (let old = h.wide k low high l is in omega (arith, old, c.max-bound.ensures))
        | inr l ↦
            let e : k ≡ c.loop-channel.channel = omega (arith, less, l) in
            let new = step.ensures.wide low high (subst (λ n. IsStep entries n low high) e is) in
            omega (arith, new, c.max-bound.ensures)
      ];
      reached = elim (cases_lt c.loop-channel.bound (c.widest_step-step.result - c.widest_step-step.result / 2)) [
        | inl l ↦
            let r = step.ensures.reached (omega (arith, l)) in
            let is = r.3 in
            inr (c.loop-channel.channel, r.0, r.1, r.2, omega (arith, l, is, c.max-bound.ensures))
        | inr l ↦ (let same : c.max-bound.result ≡ c.loop-channel.bound = omega (arith, l, c.max-bound.ensures) in
            elim h.reached [
              | inl e ↦ inl (same ∙ e)
              | inr r ↦ inr (r.0, r.1, r.2, r.3, same ∙ r.4)
            ])
      ];
    }

pub returns : goal.returns
returns g c = record {
  least = c.loop-channel.invariant.least;
  wide = λ k low high few is. c.loop-channel.invariant.wide k low high (omega (arith, few, c.loop-channel-test.false)) is;
  reached = c.loop-channel.invariant.reached;
}
