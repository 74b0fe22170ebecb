-- Of `sift`: that the nearest entry is one, what stands in the list, and that the invariant of its loop over
-- `p` holds at first and after each turn.
use Rattle.std.proofs.Common.{◌≡◌, ◌≢◌, ◌<◌, ◌≤◌, ◌+◌, ℕ, length, map, get_or, set, refl, ap, ◌∙◌, subst, arith}
use Rattle.std.proofs.lemmas.List.{length-map, get_or-set_other}
use Rattle.pix_table.specs.declared.color.Color.{Color}
use Rattle.pix_table.specs.matching.Nearest.{distance, numbers}
use Rattle.pix_table.proofs.lemmas.matching.ShortLists.{AreSifted, IsFarther, none_sifted, sifted_in, sifted_out, all_sifted, entry_distance}
use Rattle.pix_table.proofs.lemmas.matching.Words.{entry_word}
use Rattle.pix_table.proofs.matching.inverse_map.sift.Goals as goal
use Rattle.pix_table.proofs.matching.inverse_map.sift.Goals.{then-not-is_nearer, else-not-is_nearer}

pub bounds-entries-at : goal.bounds-entries-at
bounds-entries-at c =
    omega (
      arith,
      c.from-at.ensures,
      length-map c.args.entries.now numbers,
      (c.nearest_from.ensures (map numbers c.args.entries.now) c.requires.lanes c.requires.words (c.requires.short_list (numbers c.middle.result) c.middle.ensures)).stands,
    )

pub loop-p-init : goal.loop-p-init
loop-p-init c = record { sifted = none_sifted _ _ _ _ _ _; few = omega arith; before = λ k b. refl }

pub loop-p-preserved : goal.loop-p-preserved
loop-p-preserved c =
    let entries = map numbers c.args.entries.now in
    let start = c.args.start in
    let count = c.loop-p.count in
    let p = c.loop-p.p in
    let near = c.from-at.result in
    let from : ℕ → ℕ = (λ q. get_or c.args.lists.now (c.args.from.start + q) 0) in
    let d : Color = record { red = 0; green = 0; blue = 0 } in
    let index : ℕ = get_or c.loop-p.lists (c.from.result + c.loop-p.p) 0 in
    let few : c.loop-p.count ≤ c.loop-p.p = c.loop-p.invariant.few in
    let room : start + count < length c.loop-p.lists = omega arith in
    let lists = set c.loop-p.lists (start + count) index in
    let is : index ≡ from p =
    ap (λ i. get_or c.loop-p.lists (i + c.loop-p.p) 0) c.from.ensures ∙ c.loop-p.invariant.before (c.args.from.start + c.loop-p.p) (omega arith) in
    let inside : from p < length (map numbers c.args.entries.now) = (c.requires.short_list (numbers c.middle.result) c.middle.ensures).inside p (omega arith) in
    let before : (k : ℕ) → k < start → get_or lists k 0 ≡ get_or c.args.lists.now k 0 =
    (λ k b. let apart : k ≢ start + count = (λ e. omega arith) in get_or-set_other c.loop-p.lists (start + count) k index 0 apart ∙ c.loop-p.invariant.before k b) in
    elim c.if-not-is_nearer.branch [
      | then-not-is_nearer w ↦
          let new : AreSifted entries c.args.reach (numbers c.args.low) near from (p + 1) (λ q. get_or lists (start + q) 0) (count + 1) =
          sifted_in entries c.args.reach (numbers c.args.low) near from p index c.loop-p.lists start count room is (omega (arith, is, inside)) c.loop-p.invariant.sifted in
          let more : count + 1 ≤ c.loop-p.p + 1 = omega arith in
          rw (w.count-is) (record { sifted = new; few = more; before = before })
      | else-not-is_nearer w ↦
          let stands : c.from-at.result < length c.args.entries.now = omega (arith, (c.nearest_from.ensures (map numbers c.args.entries.now) c.requires.lanes c.requires.words (c.requires.short_list (numbers c.middle.result) c.middle.ensures)).stands, length-map c.args.entries.now numbers) in
          let there : c.from-in-loop-p.result < length c.args.entries.now = omega (arith, c.from-in-loop-p.ensures, is, inside, length-map c.args.entries.now numbers) in
          let far : IsFarther entries c.args.reach (numbers c.args.low) near c.from-in-loop-p.result =
          (λ color inside. omega (
            arith,
            c.is_nearer.ensures w.if-not-is_nearer.false color inside,
            entry_distance c.args.entries.now color c.from-at.result d stands,
            ap (λ n. distance n color) c.color_of.ensures,
            entry_word (map numbers c.args.entries.now) color c.args.words.now c.from-in-loop-p.result c.requires.words (omega (arith, there, c.requires.few))
                (omega (arith, there, length-map c.args.entries.now numbers)),
          )) in
          let farther : IsFarther entries c.args.reach (numbers c.args.low) near (from p) =
          subst (λ j. IsFarther entries c.args.reach (numbers c.args.low) near j) (c.from-in-loop-p.ensures ∙ is) far in
          let new : AreSifted entries c.args.reach (numbers c.args.low) near from (p + 1) (λ q. get_or lists (start + q) 0) count =
          sifted_out entries c.args.reach (numbers c.args.low) near from p index c.loop-p.lists start count c.loop-p.invariant.sifted farther in
          let more : count ≤ c.loop-p.p + 1 = omega arith in
          rw (w.count-is) (record { sifted = new; few = more; before = before })
    ]

pub returns-clause-short_list : goal.returns-clause-short_list
returns-clause-short_list c =
    let from : ℕ → ℕ = (λ q. get_or c.args.lists.now (c.args.from.start + q) 0) in
    let end : c.loop-p.p ≡ c.args.from.count = omega arith in
    all_sifted (map numbers c.args.entries.now) c.args.reach (numbers c.args.low) c.from-at.result from c.loop-p.p (λ q. get_or c.loop-p.lists (c.args.start + q) 0) c.loop-p.count
    (omega (arith, length-map c.args.entries.now numbers, (c.nearest_from.ensures (map numbers c.args.entries.now) c.requires.lanes c.requires.words (c.requires.short_list (numbers c.middle.result) c.middle.ensures)).stands))
    (omega (arith, length-map c.args.entries.now numbers)) (rw (end) c.requires.short_list) c.loop-p.invariant.sifted

pub returns-clause-some : goal.returns-clause-some
returns-clause-some c = (returns-clause-short_list c (numbers c.middle.result) c.middle.ensures).some
