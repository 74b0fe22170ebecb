-- Of `Sums::of_word`: its clause for no colors, and for each channel.
use Rattle.std.proofs.Common.{◌≡◌, ◌*◌, ◌/◌, arith, sym, subst}
use Rattle.pix_table.specs.quantization.BestPlaces.{AreSums, is_at, sum_of, word_of}
use Rattle.pix_table.specs.declared.quantization.box_sums.Sums.{Sums}
use Rattle.pix_table.proofs.lemmas.quantization.WordLemmas.{word_blue, word_green, word_none, word_red}
use Rattle.pix_table.proofs.quantization.box_sums.Sums.of_word.Goals as goal

pub returns-then-word-eq0 : goal.returns-then-word-eq0
returns-then-word-eq0 c = λ box few bytes h.
    let e = c.none.ensures in
    word_none (is_at c.args.k c.args.value) c.args.k box c.args.word c.none.result bytes h c.if-word-eq0.true e.count e.red e.green e.blue

pub returns-in-0 : goal.returns-in-0
returns-in-0 c = λ box few bytes h.
    let e : c.args.k ≡ 0 = omega (arith, c.in-0.is) in
    let sums : Sums = record { count = c.args.word / 281474976710656; red = c.args.value * (c.args.word / 281474976710656); green = c.from-high.result; blue = c.from-low.result } in
    subst (λ j. AreSums (is_at j c.args.value) box sums) (sym e) (word_red c.args.value c.args.word box _ _ few bytes c.from-high.ensures c.from-low.ensures
    (subst (λ j. c.args.word ≡ sum_of (is_at j c.args.value) (word_of j) box) e h))

pub returns-in-1 : goal.returns-in-1
returns-in-1 c = λ box few bytes h.
    let e : c.args.k ≡ 1 = omega (arith, c.in-1.is) in
    let sums : Sums = record { count = c.args.word / 281474976710656; red = c.from-high.result; green = c.args.value * (c.args.word / 281474976710656); blue = c.from-low.result } in
    subst (λ j. AreSums (is_at j c.args.value) box sums) (sym e) (word_green c.args.value c.args.word box _ _ few bytes c.from-high.ensures c.from-low.ensures
    (subst (λ j. c.args.word ≡ sum_of (is_at j c.args.value) (word_of j) box) e h))

pub returns-in_default : goal.returns-in_default
returns-in_default c = λ box few bytes h.
    let e : c.args.k ≡ 2 = omega (arith, c.requires.channel) in
    let sums : Sums = record { count = c.args.word / 281474976710656; red = c.from-high.result; green = c.from-low.result; blue = c.args.value * (c.args.word / 281474976710656) } in
    subst (λ j. AreSums (is_at j c.args.value) box sums) (sym e) (word_blue c.args.value c.args.word box _ _ few bytes c.from-high.ensures c.from-low.ensures
    (subst (λ j. c.args.word ≡ sum_of (is_at j c.args.value) (word_of j) box) e h))
