-- Of `set_pixels`: the clause `stopped`, and that the invariant of its loop over `i` holds at first
-- and stays.
use Rattle.std.specs.Prelude.{IfSome}
use Rattle.std.proofs.Common.{◌≡◌, ℕ, ◌+◌, ◌<◌, List, [], ◌∷◌, ◌++◌, length, map, take, get_or, Some, Option, None, refl, sym, ap, ◌∙◌, subst, arith, length-append}
use Rattle.std.proofs.lemmas.List.{length-map, get_or-map}
use Rattle.pix_table.specs.matching.Nearest.{numbers}
use Rattle.pix_table.specs.declared.color.Color.{Color}
use Rattle.pix_table.proofs.lemmas.threshold.IndexingSets.{none_set, one_set, stopped, take_snoc, take_written}
use Rattle.pix_table.proofs.threshold.index.set_pixels.Goals as goal

-- the color at a place, as its numbers
at_place : (pixels : List Color) (i : ℕ) (black : Color) → i < length pixels → numbers (get_or pixels i black) ≡ get_or (map numbers pixels) i []
at_place pixels i black below = sym (get_or-map numbers pixels i black [] below)

above : (answer : Option ℕ) (i : ℕ) → answer ≡ Some i → 255 < i → IfSome answer (λ k. 255 < k)
above answer i e h = subst (λ a. IfSome a (λ k. 255 < k)) (sym e) h

none_above : (answer : Option ℕ) → answer ≡ None → IfSome answer (λ k. 255 < k)
none_above answer e = subst (λ a. IfSome a (λ k. 255 < k)) (sym e) tt

pub returns-in_default-clause-stopped : goal.returns-in_default-clause-stopped
returns-in_default-clause-stopped c = λ _.
    let s = rw (c.loop-i.invariant.room) at c.set_cached-answer.ensures.set in
    stopped _ _ _ _ _ c.loop-i.i _ _ _ _ c.loop-i.invariant.set (omega (arith, length-map c.args.pixels.now numbers))
    (at_place c.args.pixels.now c.loop-i.i (record { red = 0; green = 0; blue = 0 }) c.loop-i-test.true)
    (get_or c.args.pixels.now c.loop-i.i (record { red = 0; green = 0; blue = 0 }), c.set_cached-answer.result.0, refl, s, above _ c.in-Some.index c.in-Some.is c.if-index-le255.false)

pub returns-in_default-2-clause-stopped : goal.returns-in_default-2-clause-stopped
returns-in_default-2-clause-stopped c = λ _.
    let s = rw (c.loop-i.invariant.room) at c.set_cached-answer.ensures.set in
    stopped _ _ _ _ _ c.loop-i.i _ _ _ _ c.loop-i.invariant.set (omega (arith, length-map c.args.pixels.now numbers))
    (at_place c.args.pixels.now c.loop-i.i (record { red = 0; green = 0; blue = 0 }) c.loop-i-test.true)
    (get_or c.args.pixels.now c.loop-i.i (record { red = 0; green = 0; blue = 0 }), c.set_cached-answer.result.0, refl, s, none_above _ c.in_default.is)

pub loop-i-init : goal.loop-i-init
loop-i-init c = record {
  all = [];
  many = refl;
  set = none_set _ _ _ _ _ _;
  written = λ w. refl;
  unwritten = λ w. refl;
  long = refl;
  right = c.new-beside.ensures _ _;
  within = c.requires.within;
  room = refl;
}

pub loop-i-preserved : goal.loop-i-preserved
loop-i-preserved c =
    let some : c.set_cached-answer.result.0 ≡ Some c.in-Some.index = c.in-Some.is in
    let s = rw (c.loop-i.invariant.room, some) at c.set_cached-answer.ensures.set in
    record {
      all = c.loop-i.invariant.all ++ c.in-Some.index ∷ [];
      many = length-append c.loop-i.invariant.all (c.in-Some.index ∷ []) ∙ ap (λ n. n + 1) c.loop-i.invariant.many;
      set = one_set _ _ _ _ _ c.loop-i.i _ _ _ c.in-Some.index _ c.loop-i.invariant.set (omega (arith, length-map c.args.pixels.now numbers))
          (at_place c.args.pixels.now c.loop-i.i (record { red = 0; green = 0; blue = 0 }) c.loop-i-test.true)
          (get_or c.args.pixels.now c.loop-i.i (record { red = 0; green = 0; blue = 0 }), refl, s, c.if-index-le255.true)
          _ (take_snoc c.loop-i.invariant.all c.in-Some.index c.loop-i.i c.loop-i.invariant.many);
      written = λ w. ap (take (c.loop-i.i + 1)) (c.write_index.ensures.written w) ∙ take_written c.loop-i.indices c.loop-i.invariant.all c.in-Some.index c.loop-i.i
          (omega (arith, c.loop-i.invariant.long, c.requires.many)) (c.loop-i.invariant.written w);
      unwritten = λ w. c.write_index.ensures.unwritten w ∙ c.loop-i.invariant.unwritten w;
      long = c.write_index.ensures.long ∙ c.loop-i.invariant.long;
      right = c.set_cached-answer.ensures.right;
      within = c.set_cached-answer.ensures.within;
      room = c.set_cached-answer.ensures.room ∙ c.loop-i.invariant.room;
    }
