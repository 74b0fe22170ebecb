use Rattle.std.proofs.Common.{◌≤◌, length, sym, ◌∙◌, arith}
use Rattle.std.proofs.lemmas.List.{take_all}
use Rattle.pix_script.proofs.DrawLemmas.{keep_more, other_more, cleared_by, clear_again, unchanged}
use Rattle.pix_script.proofs.script.draw.Goals as goal
use Rattle.pix_script.proofs.script.draw.Goals.{then-keeps+then-not-is_kept+in_ok-keep, then-keeps+else-not-is_kept, else-keeps+then-changes, else-keeps+else-changes}

pub loop-line-preserved : goal.loop-line-preserved
loop-line-preserved c =
    elim c.if-keeps.branch [
      | then-keeps+then-not-is_kept+in_ok-keep w ↦ (
        λ images none shows. rw (w.image-is, w.kept-is)
            (keep_more c.args.commands.now c.loop-line.line-index c.line-item.result images c.loop-line.image c.loop-line.kept w.keep.new.kept
            c.loop-line-test.true c.line-item.is (sym c.keeps.ensures ∙ w.if-keeps.true) w.in_ok-keep.ensures.kept (c.loop-line.invariant.0 images none shows)),
        λ is. rw (w.image-is, w.kept-is) w.in_ok-keep.ensures.kept,
        λ is. rw w.image-is (c.loop-line.invariant.2 (sym w.is_clear-is ∙ is)),
      )
      | then-keeps+else-not-is_kept w ↦
          let same = c.loop-line.invariant.1 w.if-not-is_kept.false in (
            λ images none shows. rw (w.image-is, w.kept-is)
                (keep_more c.args.commands.now c.loop-line.line-index c.line-item.result images c.loop-line.image c.loop-line.kept c.loop-line.kept
                c.loop-line-test.true c.line-item.is (sym c.keeps.ensures ∙ w.if-keeps.true) same (c.loop-line.invariant.0 images none shows)),
            λ is. rw (w.image-is, w.kept-is) same,
            λ is. rw w.image-is (c.loop-line.invariant.2 (sym w.is_clear-is ∙ is)),
          )
      | else-keeps+then-changes w ↦ (
        λ images none shows. rw (w.image-is, w.kept-is)
            (other_more c.args.commands.now c.loop-line.line-index c.line-item.result images c.loop-line.image w.draw_line.new.image c.loop-line.kept
            c.loop-line-test.true c.line-item.is (sym c.keeps.ensures ∙ w.if-keeps.false) (c.loop-line.invariant.0 images none shows) w.draw_line.ensures),
        λ is. absurd cc (w.is_kept-is, is),
        λ is. rw w.image-is
            (cleared_by c.loop-line.image w.draw_line.new.image c.loop-line.kept c.line-item.result (sym w.clears-is_clear.ensures ∙ sym w.is_clear-is ∙ is) w.draw_line.ensures),
      )
      | else-keeps+else-changes w ↦
          let both = unchanged c.loop-line.is_clear _ (sym w.changes.ensures ∙ w.if-changes.false) in (
            λ images none shows. rw (w.image-is, w.kept-is)
                (other_more c.args.commands.now c.loop-line.line-index c.line-item.result images c.loop-line.image c.loop-line.image c.loop-line.kept
                c.loop-line-test.true c.line-item.is (sym c.keeps.ensures ∙ w.if-keeps.false) (c.loop-line.invariant.0 images none shows)
                (clear_again c.loop-line.image c.loop-line.kept c.line-item.result both.1 (c.loop-line.invariant.2 both.0))),
            λ is. rw (w.image-is, w.kept-is) (c.loop-line.invariant.1 (sym w.is_kept-is ∙ is)),
            λ is. rw w.image-is (c.loop-line.invariant.2 both.0),
          )
    ]

pub returns-clause-drawn : goal.returns-clause-drawn
returns-clause-drawn c = λ images none shows.
    let h = c.loop-line.invariant.0 images none shows in
    let le : length c.args.commands.now ≤ c.loop-line.line-index = omega arith in
    rw (take_all c.loop-line.line-index c.args.commands.now le) at h.0
