-- Of `fade`: the clauses `faded` and `stays`.
use Rattle.std.proofs.Common.{◌≡◌, ◌++◌, [], ◌∙◌, ap, List}
use Rattle.std.specs.Prelude.{fold}
use Rattle.std.proofs.lemmas.Int.{to_z-of_z}
use mir.Syntax.{w32}
use Rattle.pix_ops.specs.declared.ops.Op.TheVariants.{SrcOver}
use Rattle.pix.specs.Image.{point}
use Rattle.pix.specs.Run.{Effect, Matted, apply}
use Rattle.pix_uses.specs.Rgba.{rgba8, numbers, mattes}
use Rattle.pix_uses.proofs.Reached.{onwards, corner_is, reached_by, missed_by, column_is, row_is}
use Rattle.pix_uses.proofs.sprites.fade.Goals as goal

pub returns-clause-faded : goal.returns-clause-faded
returns-clause-faded c = λ column row i j hd hs ec er.
    let old = c.args.picture.now in
    let src = c.args.sprite.now in
    let corner : c.from-to.result ≡ onwards c.args.x c.args.y =
    c.from-to.ensures ∙ corner_is _ _ c.args.x c.args.y (to_z-of_z w32 c.args.x c.ranges.x) (to_z-of_z w32 c.args.y c.ranges.y) in
    c.composite_raster_alpha.ensures.change.points column row (column_is old.width old.height column row hd) (row_is old.width old.height column row hd)
    ∙ ap (λ (effects : List Effect). fold (apply rgba8) (point numbers old column row) (effects ++ []))
    (reached_by c.from-to.result c.from-all.result c.args.x c.args.y old.width old.height src.width src.height (λ a b. Matted SrcOver (mattes c.args.opacity) (point numbers src a b)) column row i j corner c.from-all.ensures hd hs ec er)

pub returns-clause-stays : goal.returns-clause-stays
returns-clause-stays c = λ column row hd outside.
    let old = c.args.picture.now in
    let src = c.args.sprite.now in
    let corner : c.from-to.result ≡ onwards c.args.x c.args.y =
    c.from-to.ensures ∙ corner_is _ _ c.args.x c.args.y (to_z-of_z w32 c.args.x c.ranges.x) (to_z-of_z w32 c.args.y c.ranges.y) in
    c.composite_raster_alpha.ensures.change.points column row (column_is old.width old.height column row hd) (row_is old.width old.height column row hd)
    ∙ ap (λ (effects : List Effect). fold (apply rgba8) (point numbers old column row) (effects ++ []))
    (missed_by c.from-to.result c.from-all.result c.args.x c.args.y old.width old.height src.width src.height (λ a b. Matted SrcOver (mattes c.args.opacity) (point numbers src a b)) column row corner c.from-all.ensures outside)
