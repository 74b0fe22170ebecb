-- Of `matted_blocks`: that a block lies within both slices, and that the invariant of its loop over
-- `i` holds at first and stays, whether a block is skipped, becomes clear, or is composited.
use Rattle.std.proofs.Common.{◌≡◌, ◌≤◌, ◌+◌, ◌-◌, ◌*◌, ◌∙◌, ℕ, List, arith, rules, map, take, drop, length, get_or, sym, ap, subst, replicate}
use borrow.Author.Rules.{scaled_fits≤}
use Rattle.std.proofs.lemmas.List.{length-map, length-drop, length-take-le}
use Rattle.pix_el.specs.Pixel.{Layout}
use Rattle.pix_el.specs.PixelComposite.{matted_composite}
use Rattle.pix_el.specs.Planes.{coverage_of}
use Rattle.pix_el.specs.Premultiplied.{IsBounded}
use Rattle.pix_chan.proofs.Slices.{next_mapped_block}
use Rattle.pix_el.proofs.Blocks.{block_ends, none_yet}
use Rattle.pix_el.proofs.Models.{placed_by_row}
use Rattle.pix_el.proofs.Composited.{Fits, channels_fit, alpha_bounded}
use Rattle.pix_el.proofs.Replaced.{emptied_clear, over_emptied}
use Rattle.pix_el.proofs.Unchanged.{kept_clear, kept_always, over_kept}
use Rattle.pix_el.proofs.Written.{length-over}
use Rattle.pix_el.proofs.planes.block.matted_blocks.Goals as goal
use Rattle.pix_el.proofs.planes.block.matted_blocks.Goals.{then-keeps_all, else-keeps_all+then-keeps_under_clear+then-are_clear, else-keeps_all+else-keeps_under_clear+then-saves_products+then-empties_under_clear+then-are_clear-2, else-keeps_all+else-keeps_under_clear+else-saves_products}

pub loop-i-init : goal.loop-i-init
loop-i-init g c =
    let v = g.P.Pixel.numbers in
    none_yet (λ (d : List ℕ) (m : ℕ). matted_composite g.P.Pixel.layout g.O.Blend.op m (v c.args.clr.now) d) c.SIZE-size.result (map g.D.Stored.reads c.args.dst.now) (map (coverage_of g.P.Chan.Channel.max g.M.Coverage.numbers) c.args.src.now)

pub offset_bounds-dst-at : goal.offset_bounds-dst-at
offset_bounds-dst-at g c =
    let ends = block_ends c.args.count c.SIZE-size.result c.loop-i.i c.loop-i-test.true in
    let fits : c.SIZE-size.result * c.loop-i.i ≤ length c.loop-i.dst = omega (arith, ends, c.requires.dst_has) in
    scaled_fits≤ _ (length c.loop-i.dst) _ fits (search rules)

pub loop-i-preserved : goal.loop-i-preserved
loop-i-preserved g c =
    let v = g.P.Pixel.numbers in
    let d = g.D.Stored.reads in
    let op = g.O.Blend.op in
    let top = g.P.Chan.Channel.max in
    let value = coverage_of top g.M.Coverage.numbers in
    let clr = c.args.clr.now in
    let color = v clr in
    let size = c.SIZE-size.result in
    let at : ℕ = size * c.loop-i.i in
    let k : ℕ = at + size - at in
    let ends = block_ends c.args.count size c.loop-i.i c.loop-i-test.true in
    let wide : at + size ≤ length c.args.dst.now = omega (arith, ends, c.requires.dst_has) in
    let long : at + size ≤ length c.args.src.now = omega (arith, ends, c.requires.src_has) in
    let part = take k (drop at c.loop-i.dst) in
    let by = take k (drop at c.args.src.now) in
    let mattes = map value by in
    let layout : Layout = record { max = top; count = g.P.Pixel.layout.count; hues = g.P.Model.ColorModel.CIRCULAR; alpha = g.P.Model.ColorModel.ALPHA } in
    let laid_out : g.P.Pixel.layout ≡ layout = g.met.P.Pixel.laid_out in
    let has_alpha : layout.count ≡ layout.alpha + 1 = c.requires.has_alpha ∙ ap (λ (l : Layout). l.alpha + 1) laid_out in
    let alpha : IsBounded layout layout.alpha = alpha_bounded layout g.P.Model.ColorModel.LINEAR (placed_by_row g.P.Model.ColorModel.model _ g.met.P.Model.ColorModel.stands) has_alpha in
    let color_fits : Fits layout.max color = rw (g.met.P.Pixel.numbered clr) (channels_fit layout.max g.P.Chan.Channel.number (g.P.Pixel.channel_list clr) g.met.P.Chan.Channel.numbered) in
    let made = λ (m : ℕ) (p : List ℕ). matted_composite g.P.Pixel.layout op m color p in
    let next = next_mapped_block d (λ (p : List ℕ) (m : ℕ). made m p) value size c.loop-i.i c.args.dst.now c.loop-i.dst in
    elim c.if-keeps_all.branch [
      | then-keeps_all w ↦ rw w.dst-is (next part c.args.src.now c.loop-i.invariant wide long
          (over_kept made d g.P.Pixel.layout.count mattes part
          (λ j p many.
          let fits : Fits layout.max (d p) = subst (λ (l : Layout). Fits l.max (d p)) laid_out (record { at = g.met.D.Stored.fits p }) in
          subst (λ (l : Layout). d p ≡ matted_composite l op (get_or mattes j 0) color (d p)) (sym laid_out)
          (kept_always layout op g.met.P.Chan.Channel.product_law alpha color (d p) (get_or mattes j 0) (c.keeps_all.ensures w.if-keeps_all.true) many fits))
          w.establish_channels.ensures))
      | else-keeps_all+then-keeps_under_clear+then-are_clear w ↦ rw w.dst-is (next part c.args.src.now c.loop-i.invariant wide long
          (over_kept made d g.P.Pixel.layout.count mattes part
          (λ j p many.
          let fits : Fits layout.max (d p) = subst (λ (l : Layout). Fits l.max (d p)) laid_out (record { at = g.met.D.Stored.fits p }) in
          subst (λ (l : Layout). d p ≡ matted_composite l op 0 color (d p)) (sym laid_out)
          (kept_clear layout op g.met.P.Chan.Channel.product_law alpha color (d p) (w.keeps_under_clear.ensures w.if-keeps_under_clear.true) many color_fits fits)
          ∙ ap (λ (m : ℕ). made m (d p)) (sym (w.are_clear.ensures w.if-are_clear.true j)))
          w.establish_channels-then-are_clear.ensures))
      | else-keeps_all+else-keeps_under_clear+then-saves_products+then-empties_under_clear+then-are_clear-2 w ↦
          let no_hue : layout.hues.end ≡ 0 = sym (ap (λ (l : Layout). l.hues.end) laid_out) ∙ w.empties_under_clear.ensures.no_hue w.if-empties_under_clear.true in
          let same : length c.loop-i.dst ≡ length c.args.dst.now = sym (length-map c.loop-i.dst d) ∙ ap length c.loop-i.invariant ∙ length-over made (take (size * c.loop-i.i) (map value c.args.src.now)) (map d c.args.dst.now) ∙ length-map c.args.dst.now d in
          let each : (j : ℕ) (p : _) → replicate g.P.Pixel.layout.count 0 ≡ made (get_or mattes j 0) (d p) =
          λ j p.
          let fits : Fits layout.max (d p) = subst (λ (l : Layout). Fits l.max (d p)) laid_out (record { at = g.met.D.Stored.fits p }) in
          subst (λ (l : Layout). replicate l.count 0 ≡ matted_composite l op 0 color (d p)) (sym laid_out)
          (emptied_clear layout op g.met.P.Chan.Channel.product_law alpha color (d p) no_hue (w.empties_under_clear.ensures.empties w.if-empties_under_clear.true) color_fits fits)
          ∙ ap (λ (m : ℕ). made m (d p)) (sym (w.are_clear-then-empties_under_clear.ensures w.if-are_clear-2.true j)) in
          rw w.dst-is (next w.clear_row.new.row c.args.src.now c.loop-i.invariant wide long
          (w.clear_row.ensures
          ∙ over_emptied made d (replicate g.P.Pixel.layout.count 0) mattes part
          (omega (arith, same, wide, long, length-map by value, length-take-le k (drop at c.args.src.now) (omega (arith, long, length-drop at c.args.src.now)), length-take-le k (drop at c.loop-i.dst) (omega (arith, same, wide, length-drop at c.loop-i.dst)))) each))
      | else-keeps_all+else-keeps_under_clear+else-saves_products w ↦ rw w.dst-is (next w.matted.new.dst c.args.src.now c.loop-i.invariant wide long w.matted.ensures)
    ]

pub nonzero_div-i-end : goal.nonzero_div-i-end
nonzero_div-i-end g c = omega (arith, c.SIZE-size.ensures, g.B.Block.some)

pub nonzero_div-result : goal.nonzero_div-result
nonzero_div-result g c = omega (arith, c.SIZE-size.ensures, g.B.Block.some)
