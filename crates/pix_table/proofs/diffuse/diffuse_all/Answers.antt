-- Of `diffuse_all`: that its places are within the picture, and that the invariant of its loop over
-- `k` holds at first and after each turn.
use Rattle.std.proofs.Common.{◌≡◌, ◌+◌, ◌-◌, ◌%◌, ◌<◌, ◌≤◌, ℕ, [], true, length, map, set, get_or, inl, inr, refl, arith, sym, ap, ◌∙◌, subst}
use Rattle.std.proofs.Math.Nat.{zero-mod}
use Rattle.std.proofs.lemmas.Bool.{cases_lt}
use Rattle.std.proofs.lemmas.List.{length-map, get_or-map}
use Rattle.pix_table.specs.matching.Nearest.{IsNearestBy, alpha_of}
use Rattle.pix_table.specs.diffuse.Diffusion.{in_picture, wanted_at, held_to}
use Rattle.pix_table.specs.diffuse.Done.{AreLatest, AreNeighborErrors, IsColorError, IsColorErrorAbove}
use Rattle.pix_table.proofs.lemmas.diffuse.Diffused.{none_done, no_miss, clear_done, shown_done, alike, turned_as}
use Rattle.pix_table.proofs.lemmas.diffuse.NearErrors.{everywhere}
use Rattle.pix_table.proofs.lemmas.diffuse.ScanOrders.{begins, in_picture_below}
use Rattle.pix_table.proofs.diffuse.diffuse_all.Goals as goal
use Rattle.pix_table.proofs.diffuse.diffuse_all.Goals.{then-clear, else-clear}

pub loop-k-init : goal.loop-k-init
loop-k-init g c = record {
  done = none_done _ _ _ _ _ _ _ _ _ _ _ _ _ _ c.requires.row;
  can = λ j before above. absurd (omega (arith, before));
  same = c.requires.entries;
  column = sym (zero-mod c.args.how.width);
  back = begins c.args.how.scan c.args.how.width;
}

pub place_of-at-requires-clause-few : goal.place_of-at-requires-clause-few
place_of-at-requires-clause-few g c =
    omega (arith, in_picture_below c.args.how.scan c.args.how.width (length c.args.pixels.now) c.loop-k.k c.requires.row c.loop-k-test.true c.requires.whole)

pub offset_bounds-pixels-at : goal.offset_bounds-pixels-at
offset_bounds-pixels-at g c =
    omega (arith, c.place_of-at.ensures, in_picture_below c.args.how.scan c.args.how.width (length c.args.pixels.now) c.loop-k.k c.requires.row c.loop-k-test.true c.requires.whole)

pub bounds-pixels-at : goal.bounds-pixels-at
bounds-pixels-at g c =
    omega (arith, c.place_of-at.ensures, in_picture_below c.args.how.scan c.args.how.width (length c.args.pixels.now) c.loop-k.k c.requires.row c.loop-k-test.true c.requires.whole)

pub bounds-indices-at : goal.bounds-indices-at
bounds-indices-at g c =
    omega (
      arith,
      c.place_of-at.ensures,
      c.loop-k.auto.indices,
      c.requires.many,
      in_picture_below c.args.how.scan c.args.how.width (length c.args.pixels.now) c.loop-k.k c.requires.row c.loop-k-test.true c.requires.whole,
    )

pub offset_bounds-pixels-at-else-clear : goal.offset_bounds-pixels-at-else-clear
offset_bounds-pixels-at-else-clear g c =
    omega (arith, c.place_of-at.ensures, in_picture_below c.args.how.scan c.args.how.width (length c.args.pixels.now) c.loop-k.k c.requires.row c.loop-k-test.true c.requires.whole)

pub bounds-pixels-at-else-clear : goal.bounds-pixels-at-else-clear
bounds-pixels-at-else-clear g c =
    omega (arith, c.place_of-at.ensures, in_picture_below c.args.how.scan c.args.how.width (length c.args.pixels.now) c.loop-k.k c.requires.row c.loop-k-test.true c.requires.whole)

pub offset_bounds-entries-from : goal.offset_bounds-entries-from
offset_bounds-entries-from g c =
    let nearest = c.find-index.ensures.nearest (map g.C.ShownAs.shown c.args.entries.now) c.loop-k.invariant.same in
    omega (arith, c.from.ensures, nearest.stands, length-map c.args.entries.now g.C.ShownAs.shown)

pub bounds-entries-from : goal.bounds-entries-from
bounds-entries-from g c =
    let nearest = c.find-index.ensures.nearest (map g.C.ShownAs.shown c.args.entries.now) c.loop-k.invariant.same in
    omega (arith, c.from.ensures, nearest.stands, length-map c.args.entries.now g.C.ShownAs.shown)

pub bounds-indices-at-else-clear : goal.bounds-indices-at-else-clear
bounds-indices-at-else-clear g c =
    omega (
      arith,
      c.place_of-at.ensures,
      c.loop-k.auto.indices,
      c.requires.many,
      in_picture_below c.args.how.scan c.args.how.width (length c.args.pixels.now) c.loop-k.k c.requires.row c.loop-k-test.true c.requires.whole,
    )

pub loop-k-preserved : goal.loop-k-preserved
loop-k-preserved g c =
    let scan = c.args.how.scan in
    let width : ℕ = c.args.how.width in
    let k : ℕ = c.loop-k.k in
    let f = g.S.DiffusedColor.spread in
    let entries = map g.C.ShownAs.shown c.args.entries.now in
    let pixels = map (λ pixel. g.S.DiffusedColor.given (g.P.TablePixel.values pixel)) c.args.pixels.now in
    let place : c.loop-k.column ≡ c.loop-k.k % c.args.how.width = c.loop-k.invariant.column in
    let within : c.place_of-at.result < length c.args.pixels.now =
    omega (arith, c.place_of-at.ensures, in_picture_below c.args.how.scan c.args.how.width (length c.args.pixels.now) c.loop-k.k c.requires.row c.loop-k-test.true c.requires.whole) in
    let inside : in_picture c.args.how.scan c.args.how.width c.loop-k.k < length c.loop-k.indices =
    omega (arith, c.place_of-at.ensures, within, c.loop-k.auto.indices, c.requires.many) in
    let pixel : g.S.DiffusedColor.given (g.P.TablePixel.values c.index-pixels-at.result)
    ≡ get_or (map (λ pixel. g.S.DiffusedColor.given (g.P.TablePixel.values pixel)) c.args.pixels.now) (in_picture c.args.how.scan c.args.how.width c.loop-k.k) [] =
    ap (λ v. g.S.DiffusedColor.given (g.P.TablePixel.values v)) c.index-pixels-at.is ∙ sym (get_or-map (λ v. g.S.DiffusedColor.given (g.P.TablePixel.values v)) c.args.pixels.now c.place_of-at.result c.index-pixels-at.result [] within)
    ∙ ap (λ n. get_or pixels n []) c.place_of-at.ensures in
    let alpha : alpha_of (g.S.DiffusedColor.given (g.P.TablePixel.values c.index-pixels-at.result)) ≡ c.alpha.result =
    g.met.S.DiffusedColor.same_alpha (g.P.TablePixel.values c.index-pixels-at.result) ∙ sym c.alpha.ensures in
    let long_wanted : length (map g.S.DiffusedColor.spread c.loop-k.wanted) ≡ c.args.how.width = length-map c.loop-k.wanted f ∙ c.loop-k.auto.wanted ∙ c.requires.wanted in
    let long_found : length (map g.S.DiffusedColor.spread c.loop-k.found) ≡ c.args.how.width = length-map c.loop-k.found f ∙ c.loop-k.auto.found ∙ c.requires.found in
    let next : c.next_place-column.result ≡ (c.loop-k.k + 1) % c.args.how.width = c.next_place-column.ensures.next c.loop-k.k c.loop-k.invariant.column in
    let done = c.loop-k.invariant.done in
    let last_wanted : AreLatest c.args.how.scan done.all_wanted c.args.how.width (c.loop-k.k - c.loop-k.column) c.loop-k.column (map g.S.DiffusedColor.spread c.loop-k.wanted) =
    subst (λ n. AreLatest scan done.all_wanted width (k - n) n (map f c.loop-k.wanted)) (sym place) done.last_wanted in
    let last_found : AreLatest c.args.how.scan done.all_found c.args.how.width (c.loop-k.k - c.loop-k.column) c.loop-k.column (map g.S.DiffusedColor.spread c.loop-k.found) =
    subst (λ n. AreLatest scan done.all_found width (k - n) n (map f c.loop-k.found)) (sym place) done.last_found in
    let around : AreNeighborErrors c.args.how.scan done.all_wanted done.all_found c.args.how.width (c.loop-k.k - c.loop-k.k % c.args.how.width) (c.loop-k.k % c.args.how.width) c.begun-around.result =
    subst (λ n. AreNeighborErrors scan done.all_wanted done.all_found width (k - n) n c.begun-around.result) place
    (c.begun-around.ensures done.all_wanted done.all_found last_wanted last_found
    (λ some. subst (λ n. AreNeighborErrors scan done.all_wanted done.all_found width (k - n) n c.loop-k.near) (sym place) (done.near_within (subst (λ n. 0 < n) place some)))) in
    let above_right : IsColorErrorAbove c.args.how.scan done.all_wanted done.all_found c.args.how.width (c.loop-k.k - c.loop-k.k % c.args.how.width) (c.loop-k.k % c.args.how.width) c.right_above-right_above.result =
    subst (λ n. IsColorErrorAbove scan done.all_wanted done.all_found width (k - n) n c.right_above-right_above.result) place
    (c.right_above-right_above.ensures done.all_wanted done.all_found last_wanted last_found) in
    elim c.if-clear.branch [
      | then-clear w ↦
          let below : alpha_of (g.S.DiffusedColor.given (g.P.TablePixel.values c.index-pixels-at.result)) < c.args.how.alpha = omega (arith, alpha, w.if-clear.true) in
          record {
            done = alike _ _ _ _ _ _ _ _ _ _ _ _ _ _ _ _
                (w.indices-is ∙ ap (λ n. set c.loop-k.indices n c.args.how.transparent_index) c.place_of-at.ensures)
                (clear_done _ _ _ _ _ _ _ _ _ _ _ _ _ _ _ _ _ _ c.requires.row inside long_wanted long_found done around above_right _ _
                (subst (λ m. IsColorError true (g.S.DiffusedColor.of_channels (λ c. 0)) (g.S.DiffusedColor.of_channels (λ c. 0)) m) (sym w.left-is) (no_miss (g.S.DiffusedColor.of_channels (λ c. 0))))
                (subst (λ v. alpha_of v < c.args.how.alpha) pixel below)
                (turned_as f scan width k _ _ c.loop-k.wanted _ _ _ _ w.wanted-is place c.none-black.ensures next c.turned-back.ensures.wanted)
                (turned_as f scan width k _ _ c.loop-k.found _ _ _ _ w.found-is place c.none-black.ensures next c.turned-back.ensures.found));
            can = λ j before shown. elim (cases_lt j c.loop-k.k) [
              | inl b ↦ c.loop-k.invariant.can j b shown
              | inr b ↦
                  let e : j ≡ c.loop-k.k = omega (arith, before, b) in
                  let low = subst (λ v. alpha_of v < c.args.how.alpha) pixel below in
                  let high = subst (λ n. c.args.how.alpha ≤ alpha_of (get_or pixels (in_picture scan width n) [])) e shown in
                  absurd (omega (arith, low, high))
            ];
            same = subst (λ m. g.N.FindsNearest.among m entries) (sym w.search-is) c.loop-k.invariant.same;
            column = next;
            back = c.turned-back.ensures.back;
          }
      | else-clear w ↦
          let i : ℕ = w.find-index.result in
          let e = w.index-entries-from.result in
          let again : g.S.DiffusedColor.given (g.P.TablePixel.values w.index-pixels-at-else-clear.result)
          ≡ get_or (map (λ pixel. g.S.DiffusedColor.given (g.P.TablePixel.values pixel)) c.args.pixels.now) (in_picture c.args.how.scan c.args.how.width c.loop-k.k) [] =
          ap (λ v. g.S.DiffusedColor.given (g.P.TablePixel.values v)) w.index-pixels-at-else-clear.is
          ∙ sym (get_or-map (λ v. g.S.DiffusedColor.given (g.P.TablePixel.values v)) c.args.pixels.now c.place_of-at.result w.index-pixels-at-else-clear.result [] within)
          ∙ ap (λ n. get_or pixels n []) c.place_of-at.ensures in
          let above : c.args.how.alpha ≤ alpha_of (g.S.DiffusedColor.given (g.P.TablePixel.values c.index-pixels-at.result)) = omega (arith, alpha, w.if-clear.false) in
          let nearest : IsNearestBy g.S.DiffusedColor.apart entries (g.S.DiffusedColor.spread w.wanted-color.result) w.find-index.result =
          w.find-index.ensures.nearest entries c.loop-k.invariant.same in
          let stands : w.find-index.result < length c.args.entries.now =
          omega (arith, nearest.stands, length-map c.args.entries.now g.C.ShownAs.shown) in
          let entry : g.S.DiffusedColor.spread w.shown.result ≡ get_or entries w.find-index.result [] =
          w.shown.ensures ∙ ap g.C.ShownAs.shown w.index-entries-from.is ∙ ap (λ j. g.C.ShownAs.shown (get_or c.args.entries.now j e)) w.from.ensures
          ∙ sym (get_or-map g.C.ShownAs.shown c.args.entries.now w.find-index.result e [] stands) in
          record {
            done = alike _ _ _ _ _ _ _ _ _ _ _ _ _ _ _ _
                (w.indices-is ∙ ap (λ n. set c.loop-k.indices n i) c.place_of-at.ensures)
                (shown_done _ _ _ _ _ _ _ _ _ _ _ _ _ _ _ _ _ _ c.requires.row inside long_wanted long_found done around above_right _ _ _ _ _
                (w.wanted-color.ensures.wanted width done.all_wanted done.all_found (k - k % width) (k % width) around above_right
                ∙ ap (wanted_at g.S.DiffusedColor.of_channels scan c.args.how.strength width done.all_wanted done.all_found (k - k % width) (k % width)) again)
                (subst (λ v. c.args.how.alpha ≤ alpha_of v) pixel above) nearest (w.held-entry.ensures ∙ ap (held_to c.error_bound-bound.result (f w.wanted-color.result)) entry)
                (subst (λ m. IsColorError true (f w.wanted-color.result) (f w.held-entry.result) m) (sym w.left-is) w.missed-left.ensures)
                (turned_as f scan width k _ _ c.loop-k.wanted _ _ _ _ w.wanted-is place refl next c.turned-back.ensures.wanted)
                (turned_as f scan width k _ _ c.loop-k.found _ _ _ _ w.found-is place refl next c.turned-back.ensures.found));
            can = λ j before shown. elim (cases_lt j c.loop-k.k) [
              | inl b ↦ c.loop-k.invariant.can j b shown
              | inr b ↦
                  let e : c.loop-k.k ≡ j = omega (arith, before, b) in
                  subst (λ n. g.S.DiffusedColor.can_be_given (get_or pixels (in_picture scan width n) [])) e
                  (subst (λ v. g.S.DiffusedColor.can_be_given v) again w.wanted-color.ensures.given)
            ];
            same = subst (λ m. g.N.FindsNearest.among m entries) (sym w.search-is) (w.find-index.ensures.same entries c.loop-k.invariant.same);
            column = next;
            back = c.turned-back.ensures.back;
          }
    ]

pub returns-clause-diffused : goal.returns-clause-diffused
returns-clause-diffused g c =
    let done = c.loop-k.invariant.done in
    let many : c.loop-k.k ≡ length (map (λ pixel. g.S.DiffusedColor.given (g.P.TablePixel.values pixel)) c.args.pixels.now) =
    omega (arith, length-map c.args.pixels.now (λ pixel. g.S.DiffusedColor.given (g.P.TablePixel.values pixel))) in
    record {
      bound = c.error_bound-bound.result;
      is_bound = c.error_bound-bound.ensures;
      wanted = done.all_wanted;
      found = done.all_found;
      along = done.along;
      diffused = done.diffused;
      whole = done.many ∙ many;
      many = omega (arith, many, c.loop-k.auto.indices, c.requires.many);
      each = λ j b. done.each j (omega (arith, b, many));
    }

pub returns-clause-near : goal.returns-clause-near
returns-clause-near g c =
    let many = length-map c.args.pixels.now (λ pixel. g.S.DiffusedColor.given (g.P.TablePixel.values pixel)) in
    everywhere g.S.DiffusedColor.of_channels g.S.DiffusedColor.apart c.args.how.scan c.error_bound-bound.result c.args.how.strength (map g.C.ShownAs.shown c.args.entries.now) c.args.how.alpha
    c.args.how.transparent_index c.args.how.width (map (λ pixel. g.S.DiffusedColor.given (g.P.TablePixel.values pixel)) c.args.pixels.now)
    g.S.DiffusedColor.channels g.S.DiffusedColor.can_be_given c.requires.strength c.error_bound-bound.ensures (g.met.S.DiffusedColor.stays_near c.error_bound-bound.result)
    c.loop-k.k _ _ _ _ c.requires.row (λ s. ap (λ n. n % c.args.how.width) many ∙ c.requires.whole s) (omega (arith, many)) c.loop-k.invariant.done c.loop-k.invariant.can
