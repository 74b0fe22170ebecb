-- Of `write_parts`: that a part has levels, that the invariant of its loop holds at first and after each turn, and what it returns.
use Rattle.std.proofs.Common.{◌≡◌, ◌+◌, ◌-◌, ◌∷◌, ◌++◌, [], length, map, take, set, arith, refl, ap, ◌∙◌, sym, subst}
use Rattle.std.proofs.lemmas.List.{map-append, take_more_set}
use Rattle.pix_table.specs.quantization.GrayLevels.{mean_of, start_at}
use Rattle.pix_table.specs.matching.Nearest.{numbers}
use Rattle.pix_table.specs.declared.color.Color.{Color}
use Rattle.pix_table.proofs.lemmas.quantization.LevelLemmas.{between}
use Rattle.pix_table.proofs.lemmas.quantization.PartLemmas.{AreShown, all_shown, gray, none_shown, one_shown}
use Rattle.pix_table.proofs.quantization.grays.write_parts.Goals as goal

pub loop-i-init : goal.loop-i-init
loop-i-init c = record {
  few = omega arith;
  begun = λ q. refl;
  done = λ q. absurd (omega (arith, c.requires.some, c.requires.room));
  shown = none_shown c.args.len c.args.sums.now c.args.starts.now _;
}

pub mean-level-requires : goal.mean-level-requires
mean-level-requires c =
    let r = c.requires.sums in
    let h = c.loop-i.invariant in
    let at = c.loop-i.end - 1 in
    let n = length c.args.starts.now - 1 - c.loop-i.i in
    between r.0 r.1 c.args.len c.args.sums.now r.2 c.start_of-start.result c.loop-i.end
    (omega (arith, c.start_of-start.ensures, c.requires.stand n at (omega (arith, c.requires.room, c.requires.some)) (omega (arith, h.few)))) (omega (arith, h.few))

pub loop-i-preserved : goal.loop-i-preserved
loop-i-preserved c =
    let h = c.loop-i.invariant in
    let starts = c.args.starts.now in
    let at = c.loop-i.end - 1 in
    let n = length starts - 1 - c.loop-i.i in
    let level = c.mean-level.result in
    let e : Color = record { red = c.mean-level.result; green = c.mean-level.result; blue = c.mean-level.result } in
    let stands = c.requires.stand n at (omega (arith, c.requires.room, c.requires.some)) (omega (arith, h.few)) in
    let written : map numbers (take (c.loop-i.i + 1) (set c.loop-i.entries c.loop-i.i e)) ≡ map numbers (take c.loop-i.i c.loop-i.entries) ++ gray c.mean-level.result ∷ [] =
    ap (map numbers) (take_more_set c.loop-i.entries c.loop-i.i e (omega arith)) ∙ map-append numbers (take c.loop-i.i c.loop-i.entries) (e ∷ []) in
    record {
      few = omega (arith, c.start_of-start.ensures, stands, h.few);
      begun = λ q. absurd (omega arith);
      done = λ q. (let row : n ≡ 0 = omega (arith, q) in c.start_of-start.ensures ∙ ap (λ k. start_at starts k at) row ∙ c.requires.first at);
      shown = subst (λ l. AreShown c.args.len c.args.sums.now starts l (c.loop-i.i + 1) c.start_of-start.result) (sym written)
          (subst (λ k. AreShown c.args.len c.args.sums.now starts (map numbers (take c.loop-i.i c.loop-i.entries) ++ gray c.mean-level.result ∷ []) (c.loop-i.i + 1) k)
          (sym c.start_of-start.ensures)
          (one_shown c.args.len c.args.sums.now starts (map numbers (take c.loop-i.i c.loop-i.entries)) c.mean-level.result c.loop-i.i (c.loop-i.i + 1) n at c.loop-i.end
          (omega arith) (omega (arith, c.requires.room, c.requires.some)) (omega arith) h.few stands
          (c.mean-level.ensures ∙ ap (λ k. mean_of c.args.sums.now k c.loop-i.end) c.start_of-start.ensures) h.shown));
    }

pub returns-then-end-eq0-clause-error : goal.returns-then-end-eq0-clause-error
returns-then-end-eq0-clause-error c =
    all_shown c.args.len c.args.sums.now c.args.starts.now (map numbers (take c.loop-i.i c.loop-i.entries)) c.loop-i.i c.loop-i.end (omega arith)
    (omega (arith, c.requires.room)) c.loop-i.invariant.shown

pub returns-clause-error : goal.returns-clause-error
returns-clause-error c =
    let h = c.loop-i.invariant in
    let i_is : c.loop-i.i ≡ length c.loop-i.entries = omega arith in
    let shown = subst (λ k. AreShown c.args.len c.args.sums.now c.args.starts.now (map numbers (take k c.loop-i.entries)) c.loop-i.i c.loop-i.end) i_is h.shown in
    all_shown c.args.len c.args.sums.now c.args.starts.now (map numbers (take (length c.loop-i.entries) c.loop-i.entries)) c.loop-i.i c.loop-i.end
    (h.done (omega (arith, c.requires.room))) (omega (arith, c.requires.room)) shown
