-- The items that `extend` adds, where what reads each of them is given.
use Rattle.std.proofs.Common.{◌≡◌, List, Option, Result, map}
use Rattle.std.specs.Prelude.{OnOk, MatchResult}
use Rattle.std.specs.Iterator.{Yields, Drains}
use Rattle.std.proofs.lemmas.Iterator.{YieldsList}
use Rattle.std.proofs.lemmas.Iterator.Consumers.{YieldsList-at}
use Rattle.std.proofs.lemmas.Iterator.Adapters.{fact_from_extend}

-- what the clause `ran` of `extend` says at `Ok`, where the chain that it was passed gives these
-- values
pub added_by_extend : {T A C E Q : Type 0} {steps : T → Option A → T → Type 0} {P : List A → Type 0} {s : T} {all : List C} (r : Result (Unit {0}) E)
    → ((it : T) × (xs : List A) × (it ≡ s) × P xs × MatchResult r (λ _. Drains steps it xs) (λ _. (t : T) × Yields steps it xs t))
    → (v : A → C) → YieldsList steps v s all → ((xs : List A) → map v xs ≡ all → P xs → Q) → OnOk r Q
added_by_extend r ran v road says = fact_from_extend v r ran (λ it b. YieldsList-at b road) says
