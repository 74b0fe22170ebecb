-- Of `linear_pixels`: its clauses, and that the invariant of its loop over `i` holds at first and
-- stays.
use Rattle.std.proofs.Common.{map, take, get_or, arith, sym, List, ℕ}
use Rattle.std.proofs.lemmas.List.{length-map, get_or_default}
use Rattle.pix_el.specs.Planes.{linear_four}
use Rattle.pix_chan.proofs.Slices.{over-nil}
use Rattle.pix_el.proofs.Blocks.{next_pixel, whole_run}
use Rattle.pix_el.proofs.Written.{length_written, written_whole}
use Rattle.pix_el.proofs.conversion.blocks.linear_pixels.Goals as goal

pub loop-i-init : goal.loop-i-init
loop-i-init g c =
    let f = linear_four g.P.Chan.Channel.max g.D.Chan.Channel.max g.K.Curve.curve in
    sym (over-nil (λ (d s : List ℕ). f s) (map g.D.Pixel.numbers c.args.dst.now))

pub loop-i-preserved : goal.loop-i-preserved
loop-i-preserved g c =
    let linear = linear_four g.P.Chan.Channel.max g.D.Chan.Channel.max g.K.Curve.curve in
    let f = λ (d s : List ℕ). linear s in
    let i = c.loop-i.i in
    let item = c.index-src-i.result in
    let new = c.linear_pixel.result in
    let was = get_or c.loop-i.dst i new in
    next_pixel g.D.Pixel.numbers g.P.Pixel.numbers f c.args.dst.now c.args.src.now i c.loop-i.dst new was item c.loop-i.invariant (omega arith) (omega arith)
    c.index-src-i.is (get_or_default c.loop-i.dst i new was (omega arith)) c.linear_pixel.ensures

pub returns-clause-size : goal.returns-clause-size
returns-clause-size g c =
    let linear = linear_four g.P.Chan.Channel.max g.D.Chan.Channel.max g.K.Curve.curve in
    length_written g.D.Pixel.numbers (λ (s d : List ℕ). linear s) c.args.dst.now c.loop-i.dst (take c.loop-i.i (map g.P.Pixel.numbers c.args.src.now)) c.loop-i.invariant

pub returns-clause-pixels : goal.returns-clause-pixels
returns-clause-pixels g c =
    let n = g.D.Pixel.numbers in
    let m = g.P.Pixel.numbers in
    let linear = linear_four g.P.Chan.Channel.max g.D.Chan.Channel.max g.K.Curve.curve in
    let ds = map n c.args.dst.now in
    let ss = map m c.args.src.now in
    written_whole linear ss ds (map n c.loop-i.dst)
    (whole_run n m (λ (d s : List ℕ). linear s) c.args.dst.now c.args.src.now c.loop-i.i c.loop-i.dst c.loop-i.invariant (omega arith))
    (omega (arith, length-map c.args.dst.now n, length-map c.args.src.now m))
