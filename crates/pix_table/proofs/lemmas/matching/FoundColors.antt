-- Colors that were found, each with the index of its nearest entry.
use Rattle.std.proofs.Common.{◌≡◌, ℕ, ◌/◌, ◌%◌, List, [], ◌∷◌, set, replicate, sym, ap, ◌∙◌, subst}
use Rattle.std.proofs.Math.Nat.{div-div-eq-div-mul}
use Rattle.std.proofs.lemmas.List.Elements.{All-replicate, All-set}
use Rattle.pix_table.specs.matching.FoundColors.{AreAnswers}
use Rattle.pix_table.specs.matching.InverseMap.{word_color}
use Rattle.pix_table.specs.matching.Nearest.{IsNearest}

-- numbers that differ in the index alone have the same color
pub same_word : (w k : ℕ) → w / 256 ≡ k / 256 → word_color w ≡ word_color k
same_word w k h =
    let second : w / 65536 ≡ k / 65536 =
    sym (div-div-eq-div-mul w 256 256) ∙ ap (λ n. n / 256) h ∙ div-div-eq-div-mul k 256 256 in
    let first : w / 16777216 ≡ k / 16777216 =
    sym (div-div-eq-div-mul w 256 65536) ∙ ap (λ n. n / 65536) h ∙ div-div-eq-div-mul k 256 65536 in
    ap (λ n. n ∷ w / 65536 % 256 ∷ w / 256 % 256 ∷ []) first ∙ ap (λ n. k / 16777216 ∷ n % 256 ∷ w / 256 % 256 ∷ []) second
    ∙ ap (λ n. k / 16777216 ∷ k / 65536 % 256 ∷ n % 256 ∷ []) h

-- a color that was found, with the index of its nearest entry
pub answered : (entries : List (List ℕ)) (words : List ℕ) (i word index : ℕ) (color : List ℕ) → word_color word ≡ color → word % 256 ≡ index
    → IsNearest entries color index → AreAnswers entries words → AreAnswers entries (set words i word)
answered entries words i word index color is at near h =
    All-set (λ w. IsNearest entries (word_color w) (w % 256)) words i word
    (subst (λ n. IsNearest entries (word_color word) n) (sym at) (subst (λ c. IsNearest entries c index) (sym is) near)) h

-- at first all have one color
pub answered_first : (entries : List (List ℕ)) (n word index : ℕ) (color : List ℕ) → word_color word ≡ color → word % 256 ≡ index
    → IsNearest entries color index → AreAnswers entries (replicate n word)
answered_first entries n word index color is at near =
    All-replicate (λ w. IsNearest entries (word_color w) (w % 256)) n word
    (subst (λ n. IsNearest entries (word_color word) n) (sym at) (subst (λ c. IsNearest entries c index) (sym is) near))
