use Rattle.std.proofs.Common.{ℕ, List}
use Rattle.pix_chan.specs.declared.chan.bits8.Ch8.{Ch8}
use Rattle.pix_el.specs.PixelComposite.{matte_numbers}
use Rattle.pix_script.specs.Pixels.{Matte8, color_numbers}
use Rattle.pix_script.proofs.DrawLemmas.{run_shows, none_shows}
use Rattle.pix_script.proofs.script.draw_line.Goals as goal

pub returns-in-Some : goal.returns-in-Some
unfolding color_numbers
returns-in-Some c = λ images shows keeps.
    let mattes : Matte8 → List ℕ = matte_numbers (λ (ch : Ch8). ch.value) in
    run_shows mattes c.args.image.now c.run.new.self c.args.kept.now c.args.line.now c.in-Some.command
    (rw c.in-Some.is at c.drawing.ensures) c.run.ensures.fold images shows keeps

pub returns-in-None : goal.returns-in-None
returns-in-None c = λ images shows keeps.
    none_shows c.args.image.now c.args.kept.now c.args.line.now (rw c.in-None.is at c.drawing.ensures) images shows keeps
