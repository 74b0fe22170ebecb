-- Levels of gray in so many parts, as they are found and written.
use Rattle.std.proofs.Common.{◌⊎◌, ◌≡◌, ℕ, zero, suc, ◌+◌, ◌*◌, ◌-◌, ◌<◌, ◌≤◌, ◌≢◌, List, [], ◌∷◌, ◌++◌, length, set, get_or, min, replicate, All, refl, arith, ap, sym, ◌∙◌, inl, inr, length-set, get_or-set_other, get_or-set_same}
use Rattle.std.proofs.lemmas.Bool.{cases_lt, cases_eq}
use Rattle.std.proofs.lemmas.List.{get_or-replicate, get_or_past, length-replicate}
use Rattle.std.proofs.lemmas.List.Elements.{All-cons, All-head, All-nil, All-tail}
use Rattle.pix_table.specs.matching.Nearest.{distance, squared_difference}
use Rattle.pix_table.specs.quantization.Totals.{total, error_between}
use Rattle.pix_table.specs.quantization.Turns.{IsFirst, IsNext, NoneSooner}
use Rattle.pix_table.specs.quantization.GrayLevels.{AreLeast, AreSumsOf, error_by, error_of, mean_of, near, start_at}
use Rattle.pix_table.specs.declared.quantization.gray_levels.LevelSums.{LevelSums}
use Rattle.pix_table.proofs.lemmas.quantization.Totals.{grows}
use Rattle.pix_table.proofs.lemmas.quantization.SpanErrors.{error_to, made}
use Rattle.pix_table.proofs.lemmas.quantization.Turns.{AreCrossed, CanTurn, best_of_all, first_turns, next_turns, no_sooner, no_worse, none_later}
use Rattle.pix_table.proofs.lemmas.quantization.LeastParts.{first_least, next_least}
use Rattle.pix_table.proofs.lemmas.quantization.LevelLemmas.{error_is, errors_crossed, mean_is, no_error}

-- a number written into a list
pub written_here : (xs : List ℕ) (i v : ℕ) → i < length xs → get_or (set xs i v) i 0 ≡ v
written_here xs i v h = get_or-set_same xs i v 0 h

pub written_there : (xs : List ℕ) (i k v : ℕ) → k ≢ i → get_or (set xs i v) k 0 ≡ get_or xs k 0
written_there xs i k v o = get_or-set_other xs i k v 0 o

-- what holds of each number of a list, and of one that is written
pub still_small : (xs : List ℕ) (i v m : ℕ) → i < length xs → v ≤ m → ((k : ℕ) → get_or xs k 0 ≤ m) → (k : ℕ) → get_or (set xs i v) k 0 ≤ m
still_small xs i v m in' h all k = elim (cases_eq k i) [
  | inl e ↦ rw e (omega (arith, written_here xs i v in', h))
  | inr o ↦ omega (arith, written_there xs i k v o, all k)
]

-- one part more of the last i numbers of levels is found, where the levels before are those in one part less. latest is where the part begins of the fewest levels
pub record AreFound (c : ℕ → ℕ → ℕ) (d : ℕ) (e : ℕ → ℕ) (errors starts : List ℕ) (late i : ℕ) : Type 0 where
  pub long_errors : length errors ≡ 257
  pub long_starts : length starts ≡ 256
  pub none : get_or errors 0 0 ≡ 0
  pub small : (b : ℕ) → get_or errors b 0 ≤ 1267650600228229401496703205376
  pub stands : (b : ℕ) → b < d → d ≤ b + i → get_or starts b 0 ≤ b
  pub made : (b : ℕ) → b < d → d ≤ b + i → get_or errors (suc b) 0 ≡ e (get_or starts b 0) + c (get_or starts b 0) (suc b)
  pub least : (a b : ℕ) → a ≤ b → b < d → d ≤ b + i → get_or errors (suc b) 0 ≤ e a + c a (suc b)
  pub begun : i ≡ 0 → late ≡ d
  pub latest : (b : ℕ) → b < d → b + i ≡ d → late ≡ get_or starts b 0

-- one number of levels more
pub one_found : (c : ℕ → ℕ → ℕ) (d : ℕ) (e : ℕ → ℕ) (errors starts : List ℕ) (latest i b error level : ℕ) → d ≤ 256 → b + suc i ≡ d
    → AreFound c d e errors starts latest i → level ≤ b → error ≤ 1267650600228229401496703205376 → error ≡ e level + c level (suc b)
    → ((a : ℕ) → a ≤ b → error ≤ e a + c a (suc b))
    → AreFound c d e (set errors (suc b) error) (set starts b level) level (suc i)
one_found c d e errors starts latest i b error level few q h stands small made least =
    let in_errors : suc b < length errors = omega (arith, h.long_errors) in
    let in_starts : b < length starts = omega (arith, h.long_starts) in
    let error_there : (k : ℕ) → k ≢ b → get_or (set errors (suc b) error) (suc k) 0 ≡ get_or errors (suc k) 0 =
    (λ k o. written_there errors (suc b) (suc k) error (λ r. o (omega arith))) in
    let error_here : get_or (set errors (suc b) error) (suc b) 0 ≡ error = written_here errors (suc b) error in_errors in
    let start_there : (k : ℕ) → k ≢ b → get_or (set starts b level) k 0 ≡ get_or starts k 0 = (λ k o. written_there starts b k level o) in
    let start_here : get_or (set starts b level) b 0 ≡ level = written_here starts b level in_starts in
    record {
      long_errors = length-set errors (suc b) error ∙ h.long_errors;
      long_starts = length-set starts b level ∙ h.long_starts;
      none = written_there errors (suc b) 0 error (λ r. omega arith) ∙ h.none;
      small = still_small errors (suc b) error 1267650600228229401496703205376 in_errors small h.small;
      stands = λ k l m. elim (cases_eq k b) [
        | inl s ↦ rw s (omega (arith, start_here, stands))
        | inr o ↦ omega (arith, start_there k o, h.stands k l (omega arith))
      ];
      made = λ k l m. elim (cases_eq k b) [
        | inl s ↦ rw (s, start_here) (error_here ∙ made)
        | inr o ↦ rw (start_there k o) (error_there k o ∙ h.made k l (omega arith))
      ];
      least = λ a k p l m. elim (cases_eq k b) [
        | inl s ↦ rw s (omega (arith, error_here, least a (omega arith)))
        | inr o ↦ omega (arith, error_there k o, h.least a k p l (omega arith))
      ];
      begun = λ r. absurd (omega arith);
      latest = λ k l m. let s : k ≡ b = omega arith in rw s (sym start_here);
    }

pub all_found : (c : ℕ → ℕ → ℕ) (d : ℕ) (e : ℕ → ℕ) (errors starts : List ℕ) (late i : ℕ) → d ≤ i → AreFound c d e errors starts late i
    → IsNext c d e (λ b. get_or errors b 0) (λ b. get_or starts b 0)
all_found c d e errors starts late i all h = record {
  none = h.none;
  stands = λ b l. h.stands b l (omega arith);
  made = λ b l. h.made b l (omega arith);
  least = λ a b p l. h.least a b p l (omega arith);
}

-- the errors of the starts don't change where those of fewer parts don't
pub errors_same : (c : ℕ → ℕ → ℕ) (old new : List (List ℕ)) (k b : ℕ) → ((j i : ℕ) → j < k → start_at new j i ≡ start_at old j i) → error_by c new k b ≡ error_by c old k b
errors_same c old new zero b same = refl
errors_same c old new (suc k) zero same = refl
errors_same c old new (suc k) (suc b) same =
    let here : start_at new k b ≡ start_at old k b = same k b (omega arith) in
    let before : error_by c new k (start_at old k b) ≡ error_by c old k (start_at old k b) =
    errors_same c old new k (start_at old k b) (λ j i h. same j i (omega arith)) in
    rw (here, before) refl

-- the starts of so many parts are found
pub record HasParts (c : ℕ → ℕ → ℕ) (d : ℕ) (sums : LevelSums) (starts : List (List ℕ)) (errors last : List ℕ) (k : ℕ) : Type 0 where
  pub stand : (j b : ℕ) → j < k → b < d → start_at starts j b ≤ b
  pub first : (b : ℕ) → start_at starts 0 b ≡ 0
  pub same : (b : ℕ) → b ≤ d → get_or errors b 0 ≡ error_by c starts k b
  pub turns : CanTurn c d (λ b. get_or errors b 0)
  pub sooner : NoneSooner c d (λ b. get_or errors b 0) (λ b. get_or last b 0)
  pub stands : (b : ℕ) → b < d → get_or last b 0 ≤ b
  pub small : (b : ℕ) → get_or errors b 0 ≤ 1267650600228229401496703205376
  pub least : (w x : ℕ → ℕ) → AreSumsOf w x d sums → AreLeast w x d k (λ b. get_or errors b 0)

-- a part is written: an entry that is gray, of the mean of its levels
pub times : (w x f : ℕ → ℕ) (k n : ℕ) → total w x (λ v. k * f v) n ≡ k * total w x f n
times w x f k zero = omega arith
times w x f k (suc n) = omega (arith, times w x f k n)

abbrev pub gray : ℕ → List ℕ
gray v = v ∷ v ∷ v ∷ []

-- the sum of a function that is at most the distance to each of the entries, of which the last is that of the levels a up to b
pub part_more : (w x : ℕ → ℕ) (d : ℕ) (all : LevelSums) → AreSumsOf w x d all → (g : ℕ → ℕ) (m a b : ℕ) → a ≤ b → b ≤ d → m ≡ mean_of all a b
    → ((v : ℕ) → g v ≤ distance (gray m) (gray v)) → total w x g b ≤ total w x g a + 3 * error_of all a b
part_more w x d all h g m a b p q m_is less =
    let more : total w x g b + total w x (λ v. 3 * squared_difference m v) a ≤ total w x g a + total w x (λ v. 3 * squared_difference m v) b =
    grows w x g (λ v. 3 * squared_difference m v) a b p (λ i r s. omega (arith, less (x i))) in
    let same : error_between w x a b + error_to w x m a ≡ error_to w x m b = rw (m_is ∙ mean_is w x d all h a b (omega arith) q) (made w x a b p) in
    omega (arith, more, times w x (squared_difference m) 3 a, times w x (squared_difference m) 3 b, same, error_is w x d all h a b (omega arith) q)

-- numbers that are all 0
pub zeros : (n b : ℕ) → get_or {A = ℕ} (replicate {A = ℕ} n 0) b 0 ≡ 0
zeros n b = elim (cases_lt b n) [
  | inl l ↦ get_or-replicate {A = ℕ} n b 0 0 l
  | inr l ↦ get_or_past {X = ℕ} (replicate {A = ℕ} n 0) b 0 (omega (arith, length-replicate {A = ℕ} n 0))
]

-- one number more that is written in order
pub made_more : (c : ℕ → ℕ) (errors : List ℕ) (end v : ℕ) → end < length errors → v ≡ c end → ((b : ℕ) → b < end → get_or errors b 0 ≡ c b)
    → (b : ℕ) → b < end + 1 → get_or (set errors end v) b 0 ≡ c b
made_more c errors end v in' is h b l = elim (cases_lt b end) [
  | inl m ↦ let o : b ≢ end = (λ q. omega arith) in written_there errors end b v o ∙ h b m
  | inr m ↦ let same : b ≡ end = omega arith in rw same (written_here errors end v in' ∙ is)
]

-- the lesser of two numbers is one of them
pub min_cases : (m a b : ℕ) → m ≡ min a b → ((m ≡ a) × (m ≤ b)) ⊎ ((m ≡ b) × (m ≤ a))
min_cases m a b e = elim (cases_lt a b) [
  | inl l ↦ inl (omega arith, omega arith)
  | inr l ↦ inr (omega arith, omega arith)
]

module _ (c : ℕ → ℕ → ℕ) (d : ℕ) (none : (a : ℕ) → a ≤ d → c a a ≡ 0) (crossed : AreCrossed c d) (e start : ℕ → ℕ) (sooner : NoneSooner c d e start)
    (stands : (b : ℕ) → b < d → start b ≤ b) where
  later_of : (errors starts : List ℕ) (late i at : ℕ) → AreFound c d e errors starts late i → at + suc i ≡ d
      → (a : ℕ) → late < a → a ≤ at → e late + c late (suc at) ≤ e a + c a (suc at)
  later_of errors starts late i at h q a l m = elim (cases_lt 0 i) [
    | inl some ↦
        let in' : suc at < d = omega arith in
        let late_is : late ≡ get_or starts (suc at) 0 = h.latest (suc at) in' (omega arith) in
        let moved : e late + c late (suc (suc at)) ≡ e (get_or starts (suc at) 0) + c (get_or starts (suc at) 0) (suc (suc at)) =
        ap (λ k. e k + c k (suc (suc at))) late_is in
        let stood : late ≤ suc at = omega (arith, late_is, h.stands (suc at) in' (omega arith)) in
        none_later c d none crossed e start sooner stands at late in' stood
        (λ k p. omega (arith, moved, h.made (suc at) in' (omega arith), h.least k (suc at) p in' (omega arith))) a l m
    | inr zero' ↦ absurd (omega (arith, h.begun (omega arith)))
  ]

  pub next_found : (errors starts : List ℕ) (late i j at end last first level error : ℕ) → d ≤ 256 → at + suc i ≡ d → end ≡ suc at → j ≡ suc i
      → AreFound c d e errors starts late i → last ≡ min late at → first ≡ min (start at) last → first ≤ level → level ≤ last
      → error ≡ e level + c level end → ((a : ℕ) → first ≤ a → a ≤ last → error ≤ e a + c a end) → e 0 ≡ 0
      → ((b : ℕ) → b ≤ d → c 0 b ≤ 1267650600228229401496703205376) → AreFound c d e (set errors end error) (set starts at level) level j
  next_found errors starts late i j at end last first level error few q end_is j_is h last_is first_is low high made least zero_is small =
      let best : (a : ℕ) → a ≤ at → error ≤ e a + c a (suc at) =
      best_of_all c d none crossed e start sooner stands at late first last error (omega arith) (later_of errors starts late i at h q)
      (min_cases last late at last_is) (min_cases first (start at) last first_is)
      (λ a p r. omega (arith, least a p r, ap (c a) end_is)) in
      let within : level ≤ at = omega (arith, high, last_is) in
      rw (end_is, j_is)
      (one_found c d e errors starts late i at error level few q h within
      (omega (arith, best 0 (omega arith), zero_is, small (suc at) (omega arith)))
      (made ∙ ap (λ k. e level + c level k) end_is) best)

-- the same where the errors are those of levels
pub next_by : (w x : ℕ → ℕ) (d : ℕ) (all : LevelSums) → AreSumsOf w x d all → (e f start : ℕ → ℕ) → IsNext (error_of all) d e f start
    → IsNext (error_between w x) d e f start
next_by w x d all h e f start next = record {
  none = next.none;
  stands = next.stands;
  made = λ b l. omega (arith, next.made b l, error_is w x d all h (start b) (suc b) (omega (arith, next.stands b l)) l);
  least = λ a b p l. omega (arith, next.least a b p l, error_is w x d all h a (suc b) (omega arith) l);
}

-- a row of starts is written
row_there : (starts : List (List ℕ)) (k j b : ℕ) (row : List ℕ) → j ≢ k → start_at (set starts k row) j b ≡ start_at starts j b
row_there starts k j b row o = ap (λ l. get_or l b 0) (get_or-set_other starts k j row [] o)

row_here : (starts : List (List ℕ)) (k b : ℕ) (row : List ℕ) → k < length starts → start_at (set starts k row) k b ≡ get_or row b 0
row_here starts k b row l = ap (λ r. get_or r b 0) (get_or-set_same starts k row [] l)

-- no levels have no error
pub errors_none : (c : ℕ → ℕ → ℕ) (starts : List (List ℕ)) (k : ℕ) → error_by c starts k 0 ≡ 0
errors_none c starts zero = refl
errors_none c starts (suc k) = refl

first_same : (c : ℕ → ℕ → ℕ) (d : ℕ) (starts : List (List ℕ)) (errors : List ℕ) → c 0 0 ≡ 0 → IsFirst c d (λ b. get_or errors b 0) → ((i : ℕ) → start_at starts 0 i ≡ 0)
    → (b : ℕ) → b ≤ d → get_or errors b 0 ≡ error_by c starts 1 b
first_same c d starts errors none first here zero p = first 0 p ∙ none
first_same c d starts errors none first here (suc b) p = rw (here b) (omega (arith, first (suc b) p))

more_same : (c : ℕ → ℕ → ℕ) (d : ℕ) (starts : List (List ℕ)) (errors more row : List ℕ) (k : ℕ) → k < length starts → get_or more 0 0 ≡ 0
    → ((b : ℕ) → b < d → get_or row b 0 ≤ b) → ((b : ℕ) → b < d → get_or more (suc b) 0 ≡ get_or errors (get_or row b 0) 0 + c (get_or row b 0) (suc b))
    → ((b : ℕ) → b ≤ d → get_or errors b 0 ≡ error_by c starts k b) → (b : ℕ) → b ≤ d → get_or more b 0 ≡ error_by c (set starts k row) (suc k) b
more_same c d starts errors more row k in' none stands made same zero p = none
more_same c d starts errors more row k in' none stands made same (suc b) p =
    let here : start_at (set starts k row) k b ≡ get_or row b 0 = row_here starts k b row in' in
    let before : error_by c (set starts k row) k (get_or row b 0) ≡ error_by c starts k (get_or row b 0) =
    errors_same c starts (set starts k row) k (get_or row b 0) (λ j i l. row_there starts k j i row (λ r. omega arith)) in
    made b p ∙ rw (here, before, same (get_or row b 0) (omega (arith, stands b p))) refl

module _ (w x : ℕ → ℕ) (d : ℕ) (all : LevelSums) (h : AreSumsOf w x d all) where
  -- one part
  pub first_parts : (starts : List (List ℕ)) (errors row : List ℕ) → 0 < length starts → IsFirst (error_of all) d (λ b. get_or errors b 0) → ((b : ℕ) → get_or row b 0 ≡ 0)
      → ((b : ℕ) → get_or errors b 0 ≤ 1267650600228229401496703205376) → HasParts (error_of all) d all (set starts 0 row) errors row 1
  first_parts starts errors row some first zero' small =
      let here : (b : ℕ) → start_at (set starts 0 row) 0 b ≡ 0 = (λ b. row_here starts 0 b row some ∙ zero' b) in
      record {
        stand = λ j b p q. let j_is : j ≡ 0 = omega arith in rw j_is (omega (arith, here b));
        first = here;
        same = first_same (error_of all) d (set starts 0 row) errors (no_error w x d all h 0 (omega arith)) first here;
        turns = first_turns (error_of all) d (no_error w x d all h) (errors_crossed w x d all h) (λ b. get_or errors b 0) first;
        sooner = λ a b p q. absurd (omega (arith, q, zero' b));
        stands = λ b p. omega (arith, zero' b);
        small = small;
        least = λ v y of. first_least v y d of.levels.some of.levels.falls (λ b. get_or errors b 0)
            (λ b p. first b p ∙ error_is v y d all of 0 b (omega arith) p);
      }

  -- one part more
  pub parts_more : (starts : List (List ℕ)) (errors last more row : List ℕ) (k : ℕ) → 0 < k → k < length starts → HasParts (error_of all) d all starts errors last k
      → IsNext (error_of all) d (λ b. get_or errors b 0) (λ b. get_or more b 0) (λ b. get_or row b 0)
      → ((b : ℕ) → get_or more b 0 ≤ 1267650600228229401496703205376) → HasParts (error_of all) d all (set starts k row) more row (k + 1)
  parts_more starts errors last more row k some in' parts next small =
      let before : get_or errors 0 0 ≡ 0 = parts.same 0 (omega arith) ∙ errors_none (error_of all) starts k in
      let next_is : k + 1 ≡ suc k = omega arith in
      let none : (a : ℕ) → a ≤ d → error_of all a a ≡ 0 = no_error w x d all h in
      let crossed : AreCrossed (error_of all) d = errors_crossed w x d all h in
      record {
        stand = λ j b p q. elim (cases_lt j k) [
          | inl l ↦ let o : j ≢ k = (λ r. omega arith) in omega (arith, row_there starts k j b row o, parts.stand j b l q)
          | inr l ↦ let j_is : j ≡ k = omega arith in rw j_is (omega (arith, row_here starts k b row in', next.stands b q))
        ];
        first = λ b. let o : 0 ≢ k = (λ r. omega arith) in row_there starts k 0 b row o ∙ parts.first b;
        same = λ b p. rw next_is (more_same (error_of all) d starts errors more row k in' next.none next.stands next.made parts.same b p);
        turns = next_turns (error_of all) d none crossed (λ b. get_or errors b 0) (λ b. get_or more b 0) (λ b. get_or row b 0) parts.turns before next;
        sooner = no_sooner (error_of all) d none crossed (λ b. get_or errors b 0) (λ b. get_or more b 0) (λ b. get_or row b 0) parts.turns before next;
        stands = next.stands;
        small = small;
        least = λ v y of. rw next_is
            (next_least v y d of.levels.some of.levels.falls k (λ b. get_or errors b 0) (λ b. get_or more b 0) (λ b. get_or row b 0)
            (next_by v y d all of (λ b. get_or errors b 0) (λ b. get_or more b 0) (λ b. get_or row b 0) next)
            (no_worse (error_of all) d none crossed (λ b. get_or errors b 0) (λ b. get_or more b 0) (λ b. get_or row b 0) parts.turns before next)
            (parts.least v y of) some);
      }

-- none is found yet
pub none_found : (c : ℕ → ℕ → ℕ) (d : ℕ) (e : ℕ → ℕ) → AreFound c d e (replicate {A = ℕ} 257 0) (replicate {A = ℕ} 256 0) d 0
none_found c d e = record {
  long_errors = length-replicate {A = ℕ} 257 0;
  long_starts = length-replicate {A = ℕ} 256 0;
  none = zeros 257 0;
  small = λ b. omega (arith, zeros 257 b);
  stands = λ b l m. absurd (omega arith);
  made = λ b l m. absurd (omega arith);
  least = λ a b p l m. absurd (omega arith);
  begun = λ r. refl;
  latest = λ b l m. absurd (omega arith);
}

-- all parts are found
pub all_parts : (c : ℕ → ℕ → ℕ) (d : ℕ) (all : LevelSums) (starts : List (List ℕ)) (errors last : List ℕ) (k room : ℕ) → k ≡ room → HasParts c d all starts errors last k
    → (w x : ℕ → ℕ) → AreSumsOf w x d all → AreLeast w x d room (error_by c starts room)
all_parts c d all starts errors last k room e h w x of n es b p q =
    rw (← e)
    (let least : get_or errors b 0 ≤ total w x (near n es) b = h.least w x of n es b p (omega (arith, e)) in
    omega (arith, h.same b p, least))

-- so many parts are written, those of the levels from end on: the sum of a function that is at most the distance to each of their entries is at most three times their error
pub AreShown : (d : ℕ) (all : LevelSums) (starts : List (List ℕ)) (entries : List (List ℕ)) (i end : ℕ) → Type 0
AreShown d all starts entries i end = (w x : ℕ → ℕ) → AreSumsOf w x d all → (g : ℕ → ℕ) → All (λ (e : List ℕ). (v : ℕ) → g v ≤ distance e (gray v)) entries
    → (k : ℕ) → k + i ≡ length starts → total w x g d + 3 * error_by (error_of all) starts k end ≤ 3 * error_by (error_of all) starts (length starts) d + total w x g end

pub none_shown : (d : ℕ) (all : LevelSums) (starts entries : List (List ℕ)) → AreShown d all starts entries 0 d
unfolding AreShown
none_shown d all starts entries w x of g each k e =
    let whole : k ≡ length starts = omega arith in
    rw whole (omega arith)

-- what holds of all of some entries and of one more
front : (P : List ℕ → Type 0) (xs ys : List (List ℕ)) → All P (xs ++ ys) → All P xs
front P [] ys h = All-nil P
front P (x ∷ xs) ys h = All-cons P x xs (All-head P x (xs ++ ys) h) (front P xs ys (All-tail P x (xs ++ ys) h))

last_one : (P : List ℕ → Type 0) (xs : List (List ℕ)) (y : List ℕ) → All P (xs ++ y ∷ []) → P y
last_one P [] y h = All-head P y [] h
last_one P (x ∷ xs) y h = last_one P xs y (All-tail P x (xs ++ y ∷ []) h)

-- one part more
pub one_shown : (d : ℕ) (all : LevelSums) (starts old : List (List ℕ)) (m i j n at end : ℕ) → j ≡ suc i → n + suc i ≡ length starts → end ≡ suc at → end ≤ d
    → start_at starts n at ≤ at → m ≡ mean_of all (start_at starts n at) end → AreShown d all starts old i end
    → AreShown d all starts (old ++ gray m ∷ []) j (start_at starts n at)
unfolding AreShown
one_shown d all starts old m i j n at end j_is n_is end_is few stands m_is h w x of g each k e =
    let k_is : k ≡ n = omega arith in
    let mine : (v : ℕ) → g v ≤ distance (gray m) (gray v) = last_one (λ (p : List ℕ). (v : ℕ) → g v ≤ distance p (gray v)) old (gray m) each in
    let part : total w x g end ≤ total w x g (start_at starts n at) + 3 * error_of all (start_at starts n at) end =
    part_more w x d all of g m (start_at starts n at) end (omega (arith, stands)) few m_is mine in
    let before : total w x g d + 3 * error_by (error_of all) starts (suc n) end ≤ 3 * error_by (error_of all) starts (length starts) d + total w x g end =
    h w x of g (front (λ (p : List ℕ). (v : ℕ) → g v ≤ distance p (gray v)) old (gray m ∷ []) each) (suc n) (omega arith) in
    let error : error_by (error_of all) starts (suc n) end ≡ error_by (error_of all) starts n (start_at starts n at) + error_of all (start_at starts n at) end =
    rw end_is refl in
    rw k_is (omega (arith, part, before, error))

-- all levels are shown
pub all_shown : (d : ℕ) (all : LevelSums) (starts entries : List (List ℕ)) (i end : ℕ) → end ≡ 0 → i ≤ length starts → AreShown d all starts entries i end
    → (w x : ℕ → ℕ) → AreSumsOf w x d all → (g : ℕ → ℕ) → All (λ (e : List ℕ). (v : ℕ) → g v ≤ distance e (gray v)) entries
    → total w x g d ≤ 3 * error_by (error_of all) starts (length starts) d
unfolding AreShown
all_shown d all starts entries i end none few h w x of g each =
    let shown : total w x g d + 3 * error_by (error_of all) starts (length starts - i) end ≤ 3 * error_by (error_of all) starts (length starts) d + total w x g end =
    h w x of g each (length starts - i) (omega arith) in
    omega (arith, shown, ap (total w x g) none)
