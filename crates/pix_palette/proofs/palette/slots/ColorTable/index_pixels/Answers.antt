-- Of `ColorTable::index_pixels`: the clause `indexed`.
use Rattle.std.proofs.Common.{◌≡◌, length, take, sym, ap, ◌∙◌, ◌*◌}
use Rattle.std.proofs.lemmas.List.{with_items_is}
use Rattle.pix_palette.proofs.IndexingSets.{refilled}
use Rattle.pix_palette.proofs.IndexingLaws.{all_in}
use Rattle.pix_palette.proofs.NoPoints.{sized}
use Rattle.pix_palette.proofs.palette.slots.ColorTable.index_pixels.Goals as goal

pub returns-then-not-all-clause-indexed : goal.returns-then-not-all-clause-indexed
returns-then-not-all-clause-indexed g c =
    let slots = c.args.self.now.slots in
    let s = rw (c.deref_mut.ensures.value, c.pixels-pixels.ensures.pixels, c.if-not-all.true) at c.index_in-all.ensures.indexed in
    let b = rw (c.deref_mut.ensures.value) at c.index_in-all.ensures.before in
    let long : length c.index_in-all.new.slots ≡ slots.len = c.index_in-all.ensures.room ∙ ap length c.deref_mut.ensures.value ∙ sym slots.ok.0 in
    record {
      set = take c.index_in-all.result.1 c.index_in-all.new.slots;
      indices = s;
      entries = ap (take c.args.self.now.len) (with_items_is slots c.index_in-all.new.slots long) ∙ b;
      represented = tt;
      equal = λ _. tt;
    }

pub returns-else-not-all-clause-indexed : goal.returns-else-not-all-clause-indexed
returns-else-not-all-clause-indexed g c =
    let slots = c.args.self.now.slots in
    let made = c.in-Ok.image in
    let indices = c.index_in-all.new.indices in
    let long : length indices ≡ length made.pixels = cc in
    let as_long : length c.index_in-all.new.slots ≡ slots.len = c.index_in-all.ensures.room ∙ ap length c.deref_mut.ensures.value ∙ sym slots.ok.0 in
    let s = rw (c.deref_mut.ensures.value, c.pixels-pixels.ensures.pixels, c.if-not-all.false) at c.index_in-all.ensures.indexed in
    rw (refilled made.pixels indices long) (all_in _ _ _ _ _ _ _ s (ap (take c.index_in-all.result.1) (with_items_is slots c.index_in-all.new.slots as_long)))

pub returns-in-Err-clause-no_room : goal.returns-in-Err-clause-no_room
returns-in-Err-clause-no_room g c = λ none.
    let points : c.height.result * c.width.result ≡ 0 =
    rw (c.height.ensures.value, c.width.ensures.value) (sym c.pixels-pixels.ensures.count ∙ ap length c.pixels-pixels.ensures.pixels ∙ none) in
    c.in-Err.ensures.no_room (sized c.width.result c.height.result c.width.ensures.limited c.height.ensures.limited points) points
