use Rattle.pix_uses.proofs.lists.draw_with_tile.Goals as goal

pub returns : goal.returns
returns c = λ part. c.run_window.ensures.tile c.args.picture.now c.run.new.self part c.run.ensures.fold
