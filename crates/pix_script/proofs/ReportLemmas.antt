-- What a writer holds that took some first bytes.
use Rattle.std.proofs.Common.{◌≡◌, ℕ, ◌+◌, ◌-◌, ◌≤◌, List, ◌++◌, length, take, drop, Option, Some, None, Result, Ok, Err, sym, ap, ◌∙◌, subst, append_assoc, length-drop, arith}
use Rattle.std.proofs.Math.Seq.{take-add}
use Rattle.std.proofs.lemmas.List.{take_all, append-nil}
use Rattle.std.specs.Io.KnownBytes.{Keeps, Appends}
use Rattle.pix_script.specs.Run.{AppendsPart, AppendsOrPart}

-- before the first byte
pub appends_none : (a : Option (List ℕ)) (bytes : List ℕ) → Appends a a (take 0 bytes)
appends_none None bytes = tt
appends_none (Some x) bytes = sym (append-nil x)

-- some bytes more
appends_more : (a b c : Option (List ℕ)) (bytes : List ℕ) (n m : ℕ) → Appends a b (take n bytes) → Appends b c (take m (drop n bytes)) → Appends a c (take (n + m) bytes)
appends_more None b c bytes n m p q = tt
appends_more (Some x) None c bytes n m p q = absurd p
appends_more (Some x) (Some y) None bytes n m p q = absurd q
appends_more (Some x) (Some y) (Some z) bytes n m p q =
    q ∙ ap (λ (l : List ℕ). l ++ take m (drop n bytes)) p ∙ append_assoc x (take n bytes) (take m (drop n bytes)) ∙ ap (λ (l : List ℕ). x ++ l) (sym (take-add n m bytes))

-- the bytes from n on, as the code cuts them
rest_of : (bytes : List ℕ) (n : ℕ) → take (length bytes - n) (drop n bytes) ≡ drop n bytes
rest_of bytes n = take_all (length bytes - n) (drop n bytes) (omega (arith, length-drop n bytes))

pub rest_length : (bytes : List ℕ) (n : ℕ) → length (take (length bytes - n) (drop n bytes)) ≡ length bytes - n
rest_length bytes n = ap length (rest_of bytes n) ∙ length-drop n bytes

-- the same for some of these
pub appends_next : (a b c : Option (List ℕ)) (bytes : List ℕ) (n m : ℕ)
    → Appends a b (take n bytes) → Appends b c (take m (take (length bytes - n) (drop n bytes))) → Appends a c (take (n + m) bytes)
appends_next a b c bytes n m p q = appends_more a b c bytes n m p (let P : List ℕ → Type 0 = λ l. Appends b c (take m l) in subst P (rest_of bytes n) q)

-- no byte more
pub appends_kept : (a b c : Option (List ℕ)) (bytes : List ℕ) → Appends a b bytes → Keeps b c → Appends a c bytes
appends_kept None b c bytes p q = tt
appends_kept (Some x) None c bytes p q = absurd p
appends_kept (Some x) (Some y) None bytes p q = absurd q
appends_kept (Some x) (Some y) (Some z) bytes p q = q ∙ p

-- all bytes
pub appends_all : (a b : Option (List ℕ)) (bytes : List ℕ) (n : ℕ) → length bytes ≤ n → Appends a b (take n bytes) → Appends a b bytes
appends_all a b bytes n le p = let P : List ℕ → Type 0 = λ l. Appends a b l in subst P (take_all n bytes le) p

-- all bytes are a part of themselves
pub appends_whole : (a b : Option (List ℕ)) (bytes : List ℕ) → Appends a b bytes → AppendsPart a b bytes
appends_whole a b bytes p = let P : List ℕ → Type 0 = λ l. Appends a b l in (length bytes, subst P (sym (take_all (length bytes) bytes (omega arith))) p)

-- what was written is a part, whatever was answered
pub appends_part : {E : Type 0} (a b : Option (List ℕ)) (bytes : List ℕ) (r : Result (Unit {0}) E) → AppendsOrPart a b bytes r → AppendsPart a b bytes
appends_part a b bytes (Ok done) p = appends_whole a b bytes p
appends_part a b bytes (Err error) p = p

-- after a line was written and the writer flushed
pub report_done : {E : Type 0} (a b c : Option (List ℕ)) (bytes line : List ℕ) (r : Result (Unit {0}) E) → line ≡ bytes → Appends a b line → Keeps b c → AppendsOrPart a c bytes r
report_done a b c bytes line (Ok done) is p q = appends_kept a b c bytes (let P : List ℕ → Type 0 = λ l. Appends a b l in subst P is p) q
report_done a b c bytes line (Err error) is p q = appends_whole a c bytes (appends_kept a b c bytes (let P : List ℕ → Type 0 = λ l. Appends a b l in subst P is p) q)
