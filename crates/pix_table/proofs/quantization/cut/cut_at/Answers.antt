-- Of `cut_at`: that the pieces are boxes of the colors.
use Rattle.std.proofs.Common.{◌≡◌, ℕ, ◌+◌, ◌-◌, ◌<◌, ◌++◌, ◌∷◌, List, None, length, take, drop, get_or, arith, sym, ap, ◌∙◌, subst, length-take}
use Rattle.std.proofs.lemmas.List.{get_or-take, take-take}
use Rattle.pix_table.specs.quantization.Items.{times_of, weigh_items}
use Rattle.pix_table.specs.quantization.Cut.{AreBoxesBy}
use Rattle.pix_table.specs.quantization.Pieces.{ArePieces, boxes_of}
use Rattle.pix_table.specs.declared.quantization.pieces.Piece.{Piece}
use Rattle.pix_table.proofs.lemmas.quantization.CutBoxes.{few_piece, fit_piece}
use Rattle.pix_table.proofs.lemmas.quantization.PieceBoxes.{next_known, boxes_stand, pieces_stand}
use borrow.Rule.Slice.PartMut.{put_mid}
use Rattle.pix_table.proofs.quantization.cut.cut_at.Given as given
use Rattle.pix_table.proofs.quantization.cut.cut_at.Goals as goal
use Rattle.pix_table.proofs.quantization.cut.cut_at.Goals.{After-pieces-1}

abbrev none : Piece
none = record { len = 0; place = None }

-- how many colors the piece has
width : (pieces : List Piece) (count at start : ℕ) → at < length (take count pieces)
    → start + (get_or pieces at none).len - start ≡ (get_or (take count pieces) at none).len
width pieces count at start stands =
    let e : (get_or (take count pieces) at none).len ≡ (get_or pieces at none).len =
    ap (λ (p : Piece). p.len) (get_or-take count pieces at none (omega (arith, stands, length-take count pieces))) in
    omega (arith, e)

-- the pieces after the split
pieces_are : (g : given.Over) (c : After-pieces-1 g)
    → take c.args.next.at (take c.args.count c.args.pieces.now) ++ c.cut_piece.result.0 ∷ c.cut_piece.result.1 ∷ drop (c.args.next.at + 1) (take c.args.count c.args.pieces.now)
    ≡ take (c.args.count + 1) c.split.new.pieces
pieces_are g c =
    ap (λ l. l ++ c.cut_piece.result.0 ∷ c.cut_piece.result.1 ∷ drop (c.args.next.at + 1) (take c.args.count c.args.pieces.now))
    (take-take c.args.next.at c.args.count c.args.pieces.now (omega (arith, c.requires.next.stands, length-take c.args.count c.args.pieces.now)))
    ∙ sym c.split.ensures

pub cut_piece-requires-clause-fit : goal.cut_piece-requires-clause-fit
cut_piece-requires-clause-fit g c = fit_piece g.I.Item.numbers g.C.Cutting.fits c.args.items.now c.args.next.start _ c.requires.fit

pub cut_piece-requires-clause-few_colors : goal.cut_piece-requires-clause-few_colors
cut_piece-requires-clause-few_colors g c = few_piece g.I.Item.numbers (times_of g.C.Counted.channels) c.args.items.now c.args.next.start _ _ c.requires.few_colors

pub cut_piece-requires-clause-best : goal.cut_piece-requires-clause-best
cut_piece-requires-clause-best g c =
    next_known g.I.Item.numbers g.C.Counted.channels (weigh_items g.C.Counted.channels g.C.Sums.BoxSums.weigh) c.args.items.now (take c.args.count c.args.pieces.now) c.args.next none _
    c.requires.stand c.requires.next (width c.args.pieces.now c.args.count c.args.next.at c.args.next.start c.requires.next.stands)

pub returns-clause-stand : goal.returns-clause-stand
returns-clause-stand g c =
    let colors : List g.row.I.Denot =
    put_mid c.args.next.start (c.args.next.start + (get_or c.args.pieces.now c.args.next.at none).len - c.args.next.start) c.args.items.now c.cut_piece.new.items in
    subst (λ l. ArePieces g.C.Counted.channels (weigh_items g.C.Counted.channels g.C.Sums.BoxSums.weigh) g.I.Item.numbers colors l) (pieces_are g c)
    (pieces_stand g.I.Item.numbers g.C.Counted.channels (weigh_items g.C.Counted.channels g.C.Sums.BoxSums.weigh) c.args.items.now (take c.args.count c.args.pieces.now) c.args.next none _
    c.requires.stand c.requires.next (width c.args.pieces.now c.args.count c.args.next.at c.args.next.start c.requires.next.stands)
    c.cut_piece.new.items c.cut_piece.result.0 c.cut_piece.result.1 c.cut_piece.auto.items c.cut_piece.ensures.all c.cut_piece.ensures.low
    c.cut_piece.ensures.high c.cut_piece.ensures.cut)

pub returns-clause-boxes : goal.returns-clause-boxes
returns-clause-boxes g c start h =
    let colors : List g.row.I.Denot =
    put_mid c.args.next.start (c.args.next.start + (get_or c.args.pieces.now c.args.next.at none).len - c.args.next.start) c.args.items.now c.cut_piece.new.items in
    subst (λ l. AreBoxesBy g.C.Counted.channels (weigh_items g.C.Counted.channels g.C.Sums.BoxSums.weigh) start (boxes_of g.I.Item.numbers colors l)) (pieces_are g c)
    (boxes_stand g.I.Item.numbers g.C.Counted.channels (weigh_items g.C.Counted.channels g.C.Sums.BoxSums.weigh) c.args.items.now (take c.args.count c.args.pieces.now) c.args.next none _
    c.requires.stand c.requires.next (width c.args.pieces.now c.args.count c.args.next.at c.args.next.start c.requires.next.stands)
    c.cut_piece.new.items c.cut_piece.result.0 c.cut_piece.result.1 c.cut_piece.auto.items c.cut_piece.ensures.all c.cut_piece.ensures.low
    c.cut_piece.ensures.high c.cut_piece.ensures.cut start h)
