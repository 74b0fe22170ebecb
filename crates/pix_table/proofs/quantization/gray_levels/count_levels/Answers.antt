-- Of `count_levels`: that the invariant of its loop over `i` holds at first and after each turn, and that no count is
-- too large.
use Rattle.std.proofs.Common.{◌≡◌, ℕ, ◌+◌, ◌<◌, List, length, get_or, set, take, nat_eq, true, false, arith, ap, sym, ◌∙◌, inl, inr, eq-eqb, ne_eqb, length-set, get_or-set_other, get_or-set_same}
use Rattle.std.proofs.lemmas.Bool.{cases_eq}
use Rattle.std.proofs.lemmas.List.{length-replicate, get_or-replicate}
use Rattle.std.proofs.lemmas.List.Elements.{All-nil, All-more}
use Rattle.std.proofs.lemmas.List.Sums.{count_by_more_no, count_by_more_yes}
use Rattle.pix_table.specs.declared.color.Color.{Color}
use Rattle.pix_table.proofs.lemmas.quantization.LevelLemmas.{having}
use Rattle.pix_table.proofs.quantization.gray_levels.count_levels.Goals as goal

abbrev black : Color
black = record { red = 0; green = 0; blue = 0 }

counted : (xs : List Color) (i level : ℕ) (counts : List ℕ) → i < length xs → level ≡ (get_or xs i black).red → level < 256 → length counts ≡ 256
    → ((v : ℕ) → v < 256 → get_or counts v 0 ≡ having (take i xs) v) → (v : ℕ) → v < 256
    → get_or (set counts level (get_or counts level 0 + 1)) v 0 ≡ having (take (i + 1) xs) v
counted xs i level counts in' red small long each v h = elim (cases_eq v level) [
  | inl e ↦
      let yes' : nat_eq (get_or xs i black).red level ≡ true = eq-eqb (get_or xs i black).red level (sym red) in
      rw e
      (get_or-set_same counts level (get_or counts level 0 + 1) 0 (omega (arith, long, small)) ∙ ap (λ n. n + 1) (each level small)
      ∙ sym (count_by_more_yes (λ (color : Color). nat_eq color.red level) xs i black in' yes'))
  | inr o ↦
      let no' : nat_eq (get_or xs i black).red v ≡ false = ne_eqb (get_or xs i black).red v (λ q. o (omega (arith, q, red))) in
      get_or-set_other counts level v (get_or counts level 0 + 1) 0 o ∙ each v h
      ∙ sym (count_by_more_no (λ (color : Color). nat_eq color.red v) xs i black in' no')
]

pub loop-i-init : goal.loop-i-init
loop-i-init c = record {
  long = length-replicate {A = ℕ} 256 0;
  each = λ v h. get_or-replicate {A = ℕ} 256 v 0 0 h;
  bytes = All-nil (λ (color : Color). color.red < 256);
}

pub loop-i-preserved : goal.loop-i-preserved
loop-i-preserved c =
    let e = c.level_of-level.ensures in
    record {
      long = length-set c.loop-i.counts c.level_of-level.result (get_or c.loop-i.counts c.level_of-level.result 0 + 1) ∙ c.loop-i.invariant.long;
      each = counted c.args.colors.now c.loop-i.i c.level_of-level.result c.loop-i.counts c.loop-i-test.true e.red e.byte c.loop-i.invariant.long c.loop-i.invariant.each;
      bytes = All-more (λ (color : Color). color.red < 256) c.args.colors.now c.loop-i.i black c.loop-i-test.true c.loop-i.invariant.bytes (omega (arith, e.red, e.byte));
    }
