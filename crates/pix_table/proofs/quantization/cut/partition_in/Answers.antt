-- Of `partition_in`: that the invariant of its loop over `i` holds after each turn.
use Rattle.std.proofs.Common.{◌≡◌, ℕ, ◌+◌, ◌<◌, ◌≤◌, get_or, length, arith, sym, ap, ◌∙◌, subst, inl, inr, lt-ltb, le-ltb}
use Rattle.std.proofs.lemmas.Bool.{cases_lt}
use Rattle.std.proofs.lemmas.List.{get_or_default}
use Rattle.std.proofs.lemmas.List.Sorted.{IsPermutation-trans}
use mir.Val.{bool_byte}
use Rattle.pix_table.proofs.lemmas.quantization.Parts.{AreBelow, AreOthers, below_swapped, others_swapped, below_kept, others_kept}
use Rattle.pix_table.proofs.quantization.cut.partition_in.Goals as goal

pub loop-i-preserved : goal.loop-i-preserved
loop-i-preserved g c =
    let f : g.row.I.Denot → ℕ = (λ p. get_or (g.I.Item.numbers p) c.args.k 0) in
    let at : ℕ = c.loop-i.at in
    let inside : c.loop-i.i < length c.loop-i.items = omega arith in
    let here : (d : g.row.I.Denot) → c.channel.result ≡ f (get_or c.loop-i.items c.loop-i.i d) =
    (λ d. c.channel.ensures ∙ ap f (c.kept.ensures ∙ c.index-items-i.is ∙ get_or_default c.loop-i.items c.loop-i.i _ d inside)) in
    elim (cases_lt c.channel.result c.args.value) [
      | inl b ↦
          let one : c.from-at.result ≡ 1 = c.from-at.ensures ∙ ap bool_byte (lt-ltb _ _ b) in
          record {
            within = omega (arith, c.loop-i.invariant.within, one);
            moved = IsPermutation-trans _ _ _ c.loop-i.invariant.moved c.exchange.ensures.permutation;
            front = subst (λ n. AreBelow f c.args.value c.exchange.new.items (at + n)) (sym one)
                (below_swapped f c.args.value c.loop-i.items c.exchange.new.items at c.loop-i.i c.loop-i.invariant.within c.exchange.ensures.by_index
                c.loop-i.invariant.front (λ d. subst (λ n. n < c.args.value) (here d) b));
            back = subst (λ n. AreOthers f c.args.value c.exchange.new.items (at + n) (c.loop-i.i + 1)) (sym one)
                (others_swapped f c.args.value c.loop-i.items c.exchange.new.items at c.loop-i.i c.loop-i.invariant.within c.exchange.ensures.by_index
                c.loop-i.invariant.back);
          }
      | inr b ↦
          let none : c.from-at.result ≡ 0 = c.from-at.ensures ∙ ap bool_byte (le-ltb _ _ b) in
          let same : at + c.from-at.result ≡ at = omega (arith, none) in
          record {
            within = omega (arith, c.loop-i.invariant.within, none);
            moved = IsPermutation-trans _ _ _ c.loop-i.invariant.moved c.exchange.ensures.permutation;
            front = subst (λ n. AreBelow f c.args.value c.exchange.new.items n) (sym same)
                (below_kept f c.args.value c.loop-i.items c.exchange.new.items at c.loop-i.i c.loop-i.invariant.within c.exchange.ensures.by_index
                c.loop-i.invariant.front);
            back = subst (λ n. AreOthers f c.args.value c.exchange.new.items n (c.loop-i.i + 1)) (sym same)
                (others_kept f c.args.value c.loop-i.items c.exchange.new.items at c.loop-i.i c.loop-i.invariant.within c.exchange.ensures.by_index
                c.loop-i.invariant.back (λ d. subst (λ n. c.args.value ≤ n) (here d) b));
          }
    ]
