use Rattle.std.proofs.Common.{◌≡◌, ℕ, ◌≤◌, ◌+◌, ◌-◌, ◌*◌, length, ap, ◌∙◌, arith, rules}
use Rattle.pix_bytes.specs.Rows.{stored_of}
use Rattle.pix_bytes.specs.BitmapFormats.{pixel_size}
use Rattle.pix_bytes.proofs.Bitmaps.{held_apart, held_end, written_more}
use Rattle.pix_bytes.proofs.bitmap.convert_rows.Goals as goal

pub overflow_add-row : goal.overflow_add-row
overflow_add-row c =
    let wide : c.args.width * c.size.result ≡ c.args.width * pixel_size (stored_of c.args.from) = ap (λ (n : ℕ). c.args.width * n) c.size.ensures in
    let end = held_end c.args.width c.args.height (c.args.width * pixel_size (stored_of c.args.from)) c.args.src_lines.stride (length c.args.src.now) c.loop-y.y c.requires.src c.loop-y-test.true in
    let fits : c.row_start-start.result + c.args.width * c.size.result ≤ length c.args.src.now = rw (c.row_start-start.ensures, wide) end in
    search rules

pub slice_bounds-row-end : goal.slice_bounds-row-end
slice_bounds-row-end c =
    let wide : c.args.width * c.size.result ≡ c.args.width * pixel_size (stored_of c.args.from) = ap (λ (n : ℕ). c.args.width * n) c.size.ensures in
    let end = held_end c.args.width c.args.height (c.args.width * pixel_size (stored_of c.args.from)) c.args.src_lines.stride (length c.args.src.now) c.loop-y.y c.requires.src c.loop-y-test.true in
    let fits : c.row_start-start.result + c.args.width * c.size.result ≤ length c.args.src.now = rw (c.row_start-start.ensures, wide) end in
    search rules

pub overflow_add-to_row : goal.overflow_add-to_row
overflow_add-to_row c =
    let wide : c.args.width * c.size-2.result ≡ c.args.width * pixel_size (stored_of c.args.to) = ap (λ (n : ℕ). c.args.width * n) c.size-2.ensures in
    let end = held_end c.args.width c.args.height (c.args.width * pixel_size (stored_of c.args.to)) c.args.dst_lines.stride (length c.args.dst.now) c.loop-y.y c.requires.dst c.loop-y-test.true in
    let there : c.row_start-start-in-loop-y.result + c.args.width * c.size-2.result ≤ length c.args.dst.now = rw (c.row_start-start-in-loop-y.ensures, wide) end in
    let fits : c.row_start-start-in-loop-y.result + c.args.width * c.size-2.result ≤ length c.loop-y.dst = omega (arith, there, c.loop-y.auto.dst) in
    search rules

pub slice_bounds-to_row-end : goal.slice_bounds-to_row-end
slice_bounds-to_row-end c =
    let wide : c.args.width * c.size-2.result ≡ c.args.width * pixel_size (stored_of c.args.to) = ap (λ (n : ℕ). c.args.width * n) c.size-2.ensures in
    let end = held_end c.args.width c.args.height (c.args.width * pixel_size (stored_of c.args.to)) c.args.dst_lines.stride (length c.args.dst.now) c.loop-y.y c.requires.dst c.loop-y-test.true in
    let there : c.row_start-start-in-loop-y.result + c.args.width * c.size-2.result ≤ length c.args.dst.now = rw (c.row_start-start-in-loop-y.ensures, wide) end in
    let fits : c.row_start-start-in-loop-y.result + c.args.width * c.size-2.result ≤ length c.loop-y.dst = omega (arith, there, c.loop-y.auto.dst) in
    search rules

pub loop-y-preserved : goal.loop-y-preserved
loop-y-preserved c =
    let from_wide : c.args.width * c.size.result ≡ c.args.width * pixel_size (stored_of c.args.from) = ap (λ (n : ℕ). c.args.width * n) c.size.ensures in
    let wide : c.args.width * c.size-2.result ≡ c.args.width * pixel_size (stored_of c.args.to) = ap (λ (n : ℕ). c.args.width * n) c.size-2.ensures in
    let end = held_end c.args.width c.args.height (c.args.width * pixel_size (stored_of c.args.to)) c.args.dst_lines.stride (length c.args.dst.now) c.loop-y.y c.requires.dst c.loop-y-test.true in
    let apart = held_apart c.args.width c.args.height (c.args.width * pixel_size (stored_of c.args.to)) c.args.dst_lines.stride (length c.args.dst.now) c.requires.dst in
    let there : c.row_start-start-in-loop-y.result + c.args.width * c.size-2.result ≤ length c.args.dst.now = rw (c.row_start-start-in-loop-y.ensures, wide) end in
    let within : c.row_start-start-in-loop-y.result ≤ length c.loop-y.dst = omega (arith, there, c.loop-y.auto.dst) in
    let start : ℕ = c.row_start-start-in-loop-y.result in
    let span : start + c.args.width * c.size-2.result - start ≡ c.args.width * c.size-2.result = omega arith in
    let long : length c.convert_numbered.new.dst ≡ start + c.args.width * c.size-2.result - start = omega arith in
    written_more (stored_of c.args.from) (stored_of c.args.to) c.args.width c.args.height c.args.src_lines.stride c.args.dst_lines.stride c.args.src.now c.args.dst.now c.loop-y.dst c.convert_numbered.new.dst c.loop-y.y _ _
    c.loop-y.invariant c.loop-y-test.true apart c.row_start-start-in-loop-y.ensures (span ∙ wide) within long
    (rw (c.row_start-start.ensures, from_wide) at c.convert_numbered.ensures)

pub returns : goal.returns
returns c =
    let done : c.loop-y.y ≡ c.args.height = omega arith in
    record {
      rows = λ y below. c.loop-y.invariant.rows y (omega (arith, done, below));
      stays = c.loop-y.invariant.stays;
    }
