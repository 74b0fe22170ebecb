-- Items, each a color that stands some times: the colors of lists of them.
use Rattle.std.specs.Prelude.{Bool, cond, false, replicate, sum_by, true}
use Rattle.std.specs.List.{filter}
use Rattle.std.proofs.Common.{◌≡◌, ℕ, zero, suc, ◌+◌, ◌*◌, ◌<◌, List, [], ◌∷◌, ◌++◌, length, take, drop, get_or, All, IsPermutation, refl, arith, sym, ap, ap₂, ◌∙◌, length-append, take-append-drop}
use Rattle.std.proofs.lemmas.List.{get_or-take, length-replicate}
use Rattle.std.proofs.lemmas.List.Elements.{All-append, All-head, All-nil, All-replicate, All-tail, filter-append}
use Rattle.std.proofs.lemmas.List.Folds.{sum_by-replicate}
use Rattle.std.proofs.lemmas.List.Sums.{sum_by-cons, sum_by-append}
use Rattle.std.proofs.lemmas.Grind.{flat_map-append}
use Rattle.pix_table.specs.quantization.Items.{IsItem, spread, times_of}
use Rattle.pix_table.proofs.lemmas.quantization.Moved.{flat_map_moved}

-- the number of an item in a channel is that of its color
pub item_channel : (channels k : ℕ) (item : List ℕ) → k < channels → get_or (take channels item) k 0 ≡ get_or item k 0
item_channel channels k item inside = get_or-take channels item k 0 inside

-- the colors of two lists of items
pub spread-append : (channels : ℕ) (xs ys : List (List ℕ)) → spread channels (xs ++ ys) ≡ spread channels xs ++ spread channels ys
spread-append channels xs ys = flat_map-append (λ item. replicate (times_of channels item) (take channels item)) xs ys

pub spread-parts : (channels k : ℕ) (xs : List (List ℕ)) → spread channels (take k xs) ++ spread channels (drop k xs) ≡ spread channels xs
spread-parts channels k xs = sym (spread-append channels (take k xs) (drop k xs)) ∙ ap (spread channels) (take-append-drop k xs)

-- items in another order have the same colors
pub spread-moved : (channels : ℕ) (xs ys : List (List ℕ)) → IsPermutation xs ys → IsPermutation (spread channels xs) (spread channels ys)
spread-moved channels xs ys moved = flat_map_moved (λ item. replicate (times_of channels item) (take channels item)) xs ys moved

-- how many they are
pub length-spread : (channels : ℕ) (items : List (List ℕ)) → length (spread channels items) ≡ sum_by (times_of channels) items
length-spread channels [] = refl
length-spread channels (item ∷ items) =
    omega (
      arith,
      length-append (replicate (times_of channels item) (take channels item)) (spread channels items),
      length-replicate (times_of channels item) (take channels item),
      sum_by-cons (times_of channels) item items,
      length-spread channels items,
    )

-- what a function makes of them
pub sum_by-spread : (channels : ℕ) (f : List ℕ → ℕ) (items : List (List ℕ))
    → sum_by f (spread channels items) ≡ sum_by (λ item. times_of channels item * f (take channels item)) items
sum_by-spread channels f [] = refl
sum_by-spread channels f (item ∷ items) =
    sum_by-append f (replicate (times_of channels item) (take channels item)) (spread channels items)
    ∙ ap₂ (λ (m n : ℕ). m + n) (sum_by-replicate f (times_of channels item) (take channels item)) (sum_by-spread channels f items)
    ∙ sym (sum_by-cons (λ i. times_of channels i * f (take channels i)) item items)

-- what holds of the color of each item
pub All-spread : (channels : ℕ) (P : List ℕ → Type 0) (items : List (List ℕ)) → All (λ item. P (take channels item)) items → All P (spread channels items)
All-spread channels P [] h = All-nil P
All-spread channels P (item ∷ items) h =
    All-append P (replicate (times_of channels item) (take channels item)) (spread channels items)
    (All-replicate P (times_of channels item) (take channels item) (All-head (λ i. P (take channels i)) item items h))
    (All-spread channels P items (All-tail (λ i. P (take channels i)) item items h))

-- those that pass a test are those of the items whose colors do
one_more : (b : Bool) (n : ℕ) (c : List ℕ) (l : List (List ℕ)) → l ≡ cond b (replicate n c) [] → cond b (c ∷ l) l ≡ cond b (c ∷ replicate n c) []
one_more true n c l e = ap (λ m. c ∷ m) e
one_more false n c l e = e

none_left : (b : Bool) (c : List ℕ) → [] ≡ cond b (replicate 0 c) []
none_left true c = refl
none_left false c = refl

filter-replicate : (p : List ℕ → Bool) (n : ℕ) (c : List ℕ) → filter p (replicate n c) ≡ cond (p c) (replicate n c) []
filter-replicate p zero c = none_left (p c) c
filter-replicate p (suc n) c = one_more (p c) n c (filter p (replicate n c)) (filter-replicate p n c)

all_or_none : (channels : ℕ) (b : Bool) (item : List ℕ) (items : List (List ℕ))
    → cond b (replicate (times_of channels item) (take channels item)) [] ++ spread channels items ≡ spread channels (cond b (item ∷ items) items)
all_or_none channels true item items = refl
all_or_none channels false item items = refl

pub filter-spread : (channels : ℕ) (p : List ℕ → Bool) (items : List (List ℕ))
    → filter p (spread channels items) ≡ spread channels (filter (λ item. p (take channels item)) items)
filter-spread channels p [] = refl
filter-spread channels p (item ∷ items) =
    filter-append p (replicate (times_of channels item) (take channels item)) (spread channels items)
    ∙ ap₂ (λ (l m : List (List ℕ)). l ++ m) (filter-replicate p (times_of channels item) (take channels item)) (filter-spread channels p items)
    ∙ all_or_none channels (p (take channels item)) item (filter (λ i. p (take channels i)) items)

-- some items have a color, and some colors an item
pub some_spread : (channels : ℕ) (items : List (List ℕ)) → All (IsItem channels) items → 0 < length items → 0 < length (spread channels items)
some_spread channels [] are some = absurd (omega arith)
some_spread channels (item ∷ items) are some =
    let first : IsItem channels item = All-head (IsItem channels) item items are in
    omega (
      arith,
      first.some,
      length-append (replicate (times_of channels item) (take channels item)) (spread channels items),
      length-replicate (times_of channels item) (take channels item),
    )

pub some_items : (channels : ℕ) (items : List (List ℕ)) → 0 < length (spread channels items) → 0 < length items
some_items channels [] some = some
some_items channels (item ∷ items) some = omega arith
