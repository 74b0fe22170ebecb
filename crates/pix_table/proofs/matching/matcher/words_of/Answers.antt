-- Of `words_of`: that the invariant of its loop over `i` holds at first and after each turn.
use Rattle.std.proofs.Common.{◌≡◌, ◌≢◌, ◌%◌, ◌∙◌, ℕ, map, get_or, set, length-set, refl, ap, sym, subst, arith, inl, inr}
use Rattle.std.proofs.lemmas.Bool.{cases_lt, cases_order}
use Rattle.std.proofs.lemmas.List.{get_or-set_other}
use Rattle.std.proofs.lemmas.Grind.{get_or-set_at}
use Rattle.std.proofs.lemmas.Simd.{get_or-replicate}
use Rattle.pix_table.specs.declared.color.Color.{Color}
use Rattle.pix_table.specs.matching.Nearest.{numbers}
use Rattle.pix_table.specs.matching.InverseMap.{IsWord}
use Rattle.pix_table.proofs.lemmas.matching.Words.{word_stands}
use Rattle.pix_table.proofs.matching.matcher.words_of.Goals as goal

pub loop-i-init : goal.loop-i-init
loop-i-init c =
    let d : Color = record { red = 0; green = 0; blue = 0 } in
    let w = c.word_of-words.result in
    let first : IsWord (map numbers c.args.entries.now) c.word_of-words.result =
    word_stands c.args.entries.now d 0 c.word_of-words.result (omega arith) c.word_of-words.ensures.color c.word_of-words.ensures.index in
    record {
      many = refl;
      each = λ k b. subst (IsWord (map numbers c.args.entries.now)) (sym (get_or-replicate 256 k w 0 b)) first;
      own = λ k b. absurd (omega arith);
    }

pub loop-i-preserved : goal.loop-i-preserved
loop-i-preserved c =
    let d : Color = record { red = 0; green = 0; blue = 0 } in
    let words = c.loop-i.words in
    let i = c.loop-i.i in
    let w = c.word_of.result in
    let new : IsWord (map numbers c.args.entries.now) c.word_of.result =
    word_stands c.args.entries.now d c.loop-i.i c.word_of.result (omega arith) c.word_of.ensures.color c.word_of.ensures.index in
    let here : (k : ℕ) → k ≡ c.loop-i.i → get_or (set c.loop-i.words c.loop-i.i c.word_of.result) k 0 ≡ c.word_of.result =
    (λ k e. get_or-set_at words i k w 0 e (omega (arith, c.loop-i.invariant.many))) in
    let there : (k : ℕ) → k ≢ c.loop-i.i → get_or (set c.loop-i.words c.loop-i.i c.word_of.result) k 0 ≡ get_or c.loop-i.words k 0 =
    (λ k apart. get_or-set_other words i k w 0 apart) in
    record {
      many = length-set _ _ _ ∙ c.loop-i.invariant.many;
      each = λ k b. elim (cases_order k c.loop-i.i) [
        | inl e ↦ subst (IsWord (map numbers c.args.entries.now)) (sym (here k e)) new
        | inr o ↦
            let apart : k ≢ c.loop-i.i = (λ e. elim o [ inl l ↦ omega arith | inr l ↦ omega arith ]) in
            subst (IsWord (map numbers c.args.entries.now)) (sym (there k apart)) (c.loop-i.invariant.each k b)
      ];
      own = λ k b. elim (cases_lt k c.loop-i.i) [
        | inl l ↦ (let apart : k ≢ c.loop-i.i = (λ e. omega arith) in ap (λ n. n % 256) (there k apart) ∙ c.loop-i.invariant.own k l)
        | inr l ↦ (let e : k ≡ c.loop-i.i = omega arith in ap (λ n. n % 256) (here k e) ∙ c.word_of.ensures.index ∙ sym e)
      ];
    }
