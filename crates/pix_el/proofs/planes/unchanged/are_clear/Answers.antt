use Rattle.std.proofs.Common.{◌≡◌, ◌∙◌, map, length, sym, ap, arith, inl, inr, eqb-true}
use Rattle.std.proofs.lemmas.Bool.{cases_lt}
use Rattle.std.proofs.lemmas.List.{length-map, get_or-map, get_or_past}
use Rattle.std.proofs.lemmas.Nat.{le_or_l, le_or_r}
use Rattle.pix_el.specs.Planes.{coverage_of}
use Rattle.pix_el.proofs.planes.unchanged.are_clear.Goals as goal

pub loop-i-init : goal.loop-i-init
loop-i-init g c = λ e k h. absurd (omega arith)

pub loop-i-preserved : goal.loop-i-preserved
loop-i-preserved g c = λ e k h.
    let f = (coverage_of g.C.Channel.max g.M.Coverage.numbers) in
    let item = c.index-src-i.result in
    let units = c.to_u32-any.result in
    elim (cases_lt k c.loop-i.i) [
      | inl below ↦ c.loop-i.invariant (omega (arith, e, le_or_l c.loop-i.any units)) k below
      | inr past ↦
          let at : k ≡ c.loop-i.i = omega arith in
          let none : units ≡ 0 = omega (arith, e, le_or_r c.loop-i.any units) in
          rw at (get_or-map f c.args.src.now c.loop-i.i item 0 c.loop-i-test.true ∙ ap f (sym c.index-src-i.is) ∙ sym (c.to_u32-any.ensures ∙ c.coverage.ensures) ∙ none)
    ]

pub returns : goal.returns
returns g c = λ e k.
    let f = (coverage_of g.C.Channel.max g.M.Coverage.numbers) in
    elim (cases_lt k (length c.args.src.now)) [
      | inl below ↦ c.loop-i.invariant (eqb-true c.loop-i.any 0 e) k (omega (arith, c.loop-i-test.false))
      | inr past ↦ get_or_past (map f c.args.src.now) k 0 (omega (arith, length-map c.args.src.now f))
    ]
