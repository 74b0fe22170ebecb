-- Of `nearest_in_list`: its clause, and that the invariant of its loop over `q` holds at first and
-- after each turn.
use Rattle.std.proofs.Common.{◌≡◌, ◌+◌, ◌*◌, ◌/◌, ◌<◌, ◌∙◌, ℕ, get_or, arith, ap, subst}
use Rattle.std.specs.Prelude.{min}
use Rattle.pix_table.specs.matching.Nearest.{numbers}
use Rattle.pix_table.proofs.lemmas.matching.ShortLists.{IsLeastKey, nearest_of_keys}
use Rattle.pix_table.proofs.lemmas.matching.Words.{short_list, keyed_at, first_four, next_four, enough_words}
use Rattle.pix_table.proofs.matching.word.nearest_in_list.Goals as goal

pub loop-q-init : goal.loop-q-init
loop-q-init c = λ entries h.
    let ws = c.args.words.now in
    let ls = c.args.lists.now in
    let s = c.args.known.start in
    let n = (c.args.known.count + 3) / 4 * 4 in
    let bytes : (i : ℕ) → get_or c.args.lists.now i 0 < 256 = (λ i. omega (arith, c.type_inv.lists i)) in
    let at = keyed_at entries (numbers c.args.clr) ws ls s n h bytes in
    first_four entries (numbers c.args.clr) ws ls s n h bytes _ _ _ _ _ (omega arith) (at _ 0 (omega arith)) (at _ 1 (omega arith)) (at _ 2 (omega arith)) (at _ 3 (omega arith))
    c.least_of_four-least.ensures

pub loop-q-preserved : goal.loop-q-preserved
loop-q-preserved c = λ entries h.
    let ws = c.args.words.now in
    let ls = c.args.lists.now in
    let s = c.args.known.start in
    let n = (c.args.known.count + 3) / 4 * 4 in
    let bytes : (i : ℕ) → get_or c.args.lists.now i 0 < 256 = (λ i. omega (arith, c.type_inv.lists i)) in
    let at = keyed_at entries (numbers c.args.clr) ws ls s n h bytes in
    let new : IsLeastKey entries (numbers c.args.clr) (short_list entries (numbers c.args.clr) ws ls s n h bytes) n (4 * c.loop-q.q + 4) c.min-least.result =
    next_four entries (numbers c.args.clr) ws ls s n h bytes (4 * c.loop-q.q) c.loop-q.least _ _ _ _ c.min-least.result (c.loop-q.invariant entries h) (omega arith)
    (at _ _ (omega arith)) (at _ _ (omega arith)) (at _ _ (omega arith)) (at _ _ (omega arith)) (c.min-least.ensures ∙ ap (min c.loop-q.least) c.least_of_four.ensures) in
    let more : 4 * c.loop-q.q + 4 ≡ 4 * (c.loop-q.q + 1) = omega arith in
    subst (λ i. IsLeastKey entries (numbers c.args.clr) (short_list entries (numbers c.args.clr) ws ls s n h bytes) n i c.min-least.result) more new

pub returns : goal.returns
returns c = λ entries h enough.
    let ws = c.args.words.now in
    let ls = c.args.lists.now in
    let s = c.args.known.start in
    let n = (c.args.known.count + 3) / 4 * 4 in
    let bytes : (i : ℕ) → get_or c.args.lists.now i 0 < 256 = (λ i. omega (arith, c.type_inv.lists i)) in
    nearest_of_keys entries (numbers c.args.clr) (short_list entries (numbers c.args.clr) ws ls s n h bytes) n (4 * c.loop-q.q) c.loop-q.least h.few (omega arith)
    (enough_words entries (numbers c.args.clr) ws ls s n h bytes c.args.known.count (omega arith) enough) (λ p. omega arith) (c.loop-q.invariant entries h)
