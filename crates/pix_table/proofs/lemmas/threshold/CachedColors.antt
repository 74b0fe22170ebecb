-- What is cached stays right while the table grows.
use Rattle.std.specs.Prelude.{All, take}
use Rattle.std.proofs.Common.{◌≡◌, ℕ, ◌+◌, ◌-◌, ◌<◌, ◌≤◌, true, List, [], ◌∷◌, ◌++◌, length, map, get_or, refl, arith, sym, ap, ◌∙◌, subst, inl, inr, Some, Option, length-append}
use Rattle.std.proofs.lemmas.Bool.{cases_eq}
use Rattle.std.proofs.lemmas.Bool.Decides.{nat_tests}
use Rattle.std.proofs.lemmas.List.{length-map, append-nil, length-take-le}
use Rattle.std.proofs.lemmas.List.Elements.{All-set}
use Rattle.std.proofs.lemmas.Option.{get_or_from_slice_get, slice_get_within}
use Rattle.pix_table.specs.quantization.Quantization.{same_color}
use Rattle.pix_table.specs.matching.Nearest.{numbers}
use Rattle.pix_table.specs.threshold.PaletteMatch.{color_difference, IsFirstOf}
use Rattle.pix_table.specs.threshold.Setting.{StandsFor, IsSet}
use Rattle.pix_table.specs.threshold.ColorCache.{serves, IsCached, IsPut, IsCaching, IsRight, AreRight}
use Rattle.pix_table.specs.declared.threshold.color_cache.CacheEntry.{CacheEntry}
use Rattle.pix_table.proofs.lemmas.threshold.Settings.{Grows, longer, first_stays, first_stands, standing_first, standing_is_set, set_grows, set_stands, match_below}

-- a table that is as long as it was is as it was
as_long : {C : Type 0} (read : C → List ℕ) (old new more : List C) → new ≡ old ++ more → length (map read new) ≤ length (map read old) → new ≡ old
as_long read old new [] e less = e ∙ append-nil old
as_long read old new (c ∷ more) e less =
    let long : length new ≡ length old + length (c ∷ more) = ap length e ∙ length-append old (c ∷ more) in
    absurd (omega (arith, length-map old read, length-map new read))

right_stays : {C : Type 0} (read : C → List ℕ) (answers : ℕ → List ℕ → Type 0) (old new : List C) (kept : CacheEntry) → Grows old new
    → IsRight answers (map read old) kept → IsRight answers (map read new) kept
right_stays read answers old new kept g h =
    let long : length (map read old) ≤ length (map read new) = longer read old new g in
    record {
      always = λ e. first_stays read old new (numbers kept.clr) kept.index g (h.always e);
      while = λ some few.
          let both = h.while some few in (
            omega (arith, both.0),
            λ e.
                let same : new ≡ old = as_long read old new g.more g.same (omega (arith, both.0, e)) in
                subst (λ l. StandsFor answers (map read l) (numbers kept.clr) (Some kept.index)) (sym same)
                (both.1 (omega (arith, both.0, e))),
          );
    }

pub are_right_stays : {C : Type 0} (read : C → List ℕ) (answers : ℕ → List ℕ → Type 0) (old new : List C) (places : List CacheEntry) → Grows old new
    → AreRight answers (map read old) places → AreRight answers (map read new) places
are_right_stays read answers old new places g h = λ k d below. right_stays read answers old new (get_or places k d) g (h k d below)

-- a color that is the same in each channel does not differ
same_difference : (p q : List ℕ) → same_color p q ≡ true → color_difference p q ≡ 0 ∷ 0 ∷ 0 ∷ []
same_difference p q h =
    let red : get_or p 0 0 - get_or q 0 0 + (get_or q 0 0 - get_or p 0 0) ≡ 0 = grind (arith, nat_tests) in
    let green : get_or p 1 0 - get_or q 1 0 + (get_or q 1 0 - get_or p 1 0) ≡ 0 = grind (arith, nat_tests) in
    let blue : get_or p 2 0 - get_or q 2 0 + (get_or q 2 0 - get_or p 2 0) ≡ 0 = grind (arith, nat_tests) in
    rw (red, green, blue) refl

-- a color that is cached has its entry stand for it
right_serves : (answers : ℕ → List ℕ → Type 0) (entries : List (List ℕ)) (kept : CacheEntry) → IsRight answers entries kept
    → serves kept.count (length entries) ≡ true → StandsFor answers entries (numbers kept.clr) (Some kept.index)
right_serves answers entries kept h e = elim (cases_eq kept.count 65535) [
  | inl always ↦ first_stands answers entries (numbers kept.clr) kept.index (h.always always)
  | inr other ↦
      let same : kept.count ≡ length entries = grind (arith, nat_tests) in
      let some : 0 < kept.count = grind (arith, nat_tests) in
      (h.while some other).1 same
]

pub kept_stands : (answers : ℕ → List ℕ → Type 0) (entries : List (List ℕ)) (places : List CacheEntry) (color : List ℕ) (i : ℕ) → AreRight answers entries places
    → IsCached places color (length entries) i → StandsFor answers entries color (Some i)
kept_stands answers entries places color i h k =
    let right : IsRight answers entries k.kept = subst (IsRight answers entries) (get_or_from_slice_get places k.at k.kept k.kept k.stands)
    (h k.at k.kept (slice_get_within places k.at k.kept k.stands)) in
    subst (λ n. StandsFor answers entries color (Some n)) k.index
    (subst (λ p. StandsFor answers entries p (Some k.kept.index)) k.same (right_serves answers entries k.kept right k.valid))

-- what is put is right, and so are the places then
put_right : (answers : ℕ → List ℕ → Type 0) (entries : List (List ℕ)) (old new : List CacheEntry) (color : List ℕ) (i n : ℕ) → AreRight answers entries old
    → (h : IsPut old color i n new) → IsRight answers entries h.kept → AreRight answers entries new
put_right answers entries old new color i n right h put =
    subst (AreRight answers entries) (sym h.put) (All-set (IsRight answers entries) old h.at h.kept put right)

put_always : (answers : ℕ → List ℕ → Type 0) (entries : List (List ℕ)) (old new : List CacheEntry) (color : List ℕ) (i : ℕ) → AreRight answers entries old
    → IsFirstOf entries color i → IsPut old color i 65535 new → AreRight answers entries new
put_always answers entries old new color i right first h =
    let kept : IsFirstOf entries (numbers h.kept.clr) h.kept.index =
    subst (IsFirstOf entries (numbers h.kept.clr)) (sym h.index) (subst (λ p. IsFirstOf entries p i) (sym h.same) first) in
    put_right answers entries old new color i 65535 right h (record { always = λ _. kept; while = λ _ other. absurd (other h.count) })

put_while : (answers : ℕ → List ℕ → Type 0) (entries : List (List ℕ)) (old new : List CacheEntry) (color : List ℕ) (i : ℕ) → AreRight answers entries old
    → StandsFor answers entries color (Some i) → length entries < 65535 → IsPut old color i (length entries) new → AreRight answers entries new
put_while answers entries old new color i right stands few h =
    let kept : StandsFor answers entries (numbers h.kept.clr) (Some h.kept.index) =
    subst (λ k. StandsFor answers entries (numbers h.kept.clr) (Some k)) (sym h.index) (subst (λ p. StandsFor answers entries p (Some i)) (sym h.same) stands) in
    put_right answers entries old new color i (length entries) right h (record {
      always = λ e. absurd (omega (arith, h.count, e));
      while = λ _ _. (omega (arith, h.count), λ _. kept);
    })

pub keeping_right : (answers : ℕ → List ℕ → Type 0) (entries : List (List ℕ)) (old new : List CacheEntry) (color : List ℕ) (i : ℕ) → AreRight answers entries old
    → StandsFor answers entries color (Some i) → IsCaching entries color i old new → AreRight answers entries new
keeping_right answers entries old new color i right stands (inl same) = subst (AreRight answers entries) (sym same) right
keeping_right answers entries old new color i right stands (inr (inl both)) =
    put_always answers entries old new color i right
    (standing_first answers entries color i stands (same_difference (get_or entries i []) color both.0)) both.1
keeping_right answers entries old new color i right stands (inr (inr both)) = put_while answers entries old new color i right stands both.0 both.1

-- no place is anything but right at first
pub none_right : (answers : ℕ → List ℕ → Type 0) (entries : List (List ℕ)) (places : List CacheEntry) → All (λ kept. kept.count ≡ 0) places → AreRight answers entries places
none_right answers entries places h = λ k d below.
    let none : (get_or places k d).count ≡ 0 = h k d below in
    record { always = λ e. absurd (omega (arith, none, e)); while = λ some _. absurd (omega (arith, none, some)) }

-- setting a color that is cached answers its index
pub kept_is_set : {C : Type 0} (read : C → List ℕ) (answers : ℕ → List ℕ → Type 0) (limit : ℕ) (slots : List C) (len : ℕ) (places : List CacheEntry) (clr : C)
    (color : List ℕ) (i : ℕ) → len ≤ length slots → AreRight answers (map read (take len slots)) places → IsCached places color len i → color ≡ read clr
    → IsSet read answers limit (take len slots) clr (Some i) (take len slots)
kept_is_set read answers limit slots len places clr color i within right kept e =
    let long : len ≡ length (map read (take len slots)) = sym (length-map (take len slots) read ∙ length-take-le len slots within) in
    let here : IsCached places (read clr) (length (map read (take len slots))) i =
    subst (λ n. IsCached places (read clr) n i) long (subst (λ p. IsCached places p len i) e kept) in
    standing_is_set read answers limit (take len slots) clr i (kept_stands answers (map read (take len slots)) places (read clr) i right here)

-- an index that is answered has an entry
pub set_below : {C : Type 0} (read : C → List ℕ) (answers : ℕ → List ℕ → Type 0) (limit : ℕ) (old : List C) (color : C) (i : ℕ) (new : List C)
    → IsSet read answers limit old color (Some i) new → i < length new
set_below read answers limit old color i new h =
    let below : i < length (map read new) = match_below (map read new) (read color) i (set_stands read answers limit old color i new h).match in
    omega (arith, length-map new read)

-- what is cached after a color was set is right
pub set_right : {C : Type 0} (read : C → List ℕ) (answers : ℕ → List ℕ → Type 0) (limit : ℕ) (old : List C) (clr : C) (answer : Option ℕ) (new : List C)
    (places : List CacheEntry) → IsSet read answers limit old clr answer new → AreRight answers (map read old) places → AreRight answers (map read new) places
set_right read answers limit old clr answer new places h right =
    are_right_stays read answers old new places (set_grows read answers limit old clr answer new h) right

pub set_kept_right : {C : Type 0} (read : C → List ℕ) (answers : ℕ → List ℕ → Type 0) (limit : ℕ) (old : List C) (clr : C) (color : List ℕ) (i : ℕ) (new : List C)
    (before after : List CacheEntry) → IsSet read answers limit old clr (Some i) new → AreRight answers (map read old) before → color ≡ read clr
    → IsCaching (map read new) color i before after → AreRight answers (map read new) after
set_kept_right read answers limit old clr color i new before after h right e kept =
    keeping_right answers (map read new) before after (read clr) i (set_right read answers limit old clr (Some i) new before h right)
    (set_stands read answers limit old clr i new h) (subst (λ p. IsCaching (map read new) p i before after) e kept)

-- the same where the whole list is the table
pub all_kept_is_set : {C : Type 0} (read : C → List ℕ) (answers : ℕ → List ℕ → Type 0) (limit : ℕ) (old : List C) (len : ℕ) (places : List CacheEntry) (clr : C)
    (color : List ℕ) (i : ℕ) → len ≡ length old → AreRight answers (map read old) places → IsCached places color len i → color ≡ read clr
    → IsSet read answers limit old clr (Some i) old
all_kept_is_set read answers limit old len places clr color i long right kept e =
    let here : IsCached places (read clr) (length (map read old)) i =
    subst (λ n. IsCached places (read clr) n i) (long ∙ sym (length-map old read)) (subst (λ p. IsCached places p len i) e kept) in
    standing_is_set read answers limit old clr i (kept_stands answers (map read old) places (read clr) i right here)
