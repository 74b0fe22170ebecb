-- Of `widest_step`: that the invariant of its loop over `level` holds after each turn.
use Rattle.std.proofs.Common.{◌≡◌, ◌+◌, ◌-◌, ℕ, length, max, map, sym, subst, ◌∙◌, arith}
use Rattle.std.proofs.lemmas.List.{length-map}
use Rattle.pix_table.specs.diffuse.ErrorBound.{AreLevels}
use Rattle.pix_table.proofs.lemmas.diffuse.ErrorBounds.{IsWidest, passed, taken}
use Rattle.pix_table.proofs.diffuse.error_bound.widest_step.Goals as goal
use Rattle.pix_table.proofs.diffuse.error_bound.widest_step.Goals.{then-is_level-level, else-is_level-level}

pub loop-level-preserved : goal.loop-level-preserved
loop-level-preserved g c =
    let entries = map g.C.ShownAs.shown c.args.entries.now in
    let flags = c.levels-is_level.result in
    let n : ℕ = c.loop-level.level in
    let h = c.loop-level.invariant.done in
    let marked : AreLevels (map g.C.ShownAs.shown c.args.entries.now) c.args.channel (length (map g.C.ShownAs.shown c.args.entries.now)) c.levels-is_level.result =
    subst (λ k. AreLevels entries c.args.channel k flags) (sym (length-map c.args.entries.now g.C.ShownAs.shown)) c.levels-is_level.ensures in
    elim c.if-is_level-level.branch [
      | then-is_level-level w ↦
          let widest : c.if-is_level-level.widest ≡ max (c.loop-level.level - c.loop-level.last) c.loop-level.widest =
          w.widest-is ∙ omega (arith, w.max-widest.ensures, w.saturating_sub.ensures) in
          record {
            done = subst (λ m. IsWidest entries c.args.channel flags (n + 1) m c.if-is_level-level.widest) (sym w.last-is)
                (subst (λ m. IsWidest entries c.args.channel flags (n + 1) n m) (sym widest)
                (taken entries c.args.channel flags marked n c.loop-level.last c.loop-level.widest h w.if-is_level-level.true (omega (arith, c.loop-level-test.true))));
          }
      | else-is_level-level w ↦
          record {
            done = subst (λ m. IsWidest entries c.args.channel flags (n + 1) m c.if-is_level-level.widest) (sym w.last-is)
                (subst (λ m. IsWidest entries c.args.channel flags (n + 1) c.loop-level.last m) (sym w.widest-is)
                (passed entries c.args.channel flags marked n c.loop-level.last c.loop-level.widest h w.if-is_level-level.false));
          }
    ]
