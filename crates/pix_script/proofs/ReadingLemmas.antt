-- What a script's lines mean, one line on.
use Rattle.std.proofs.Common.{◌≡◌, ℕ, ◌+◌, ◌<◌, ◌≤◌, List, [], ◌∷◌, ◌++◌, length, get_or, take, drop, Bool, true, false, eqb, ltb, filter, zero-add, Option, Some, None, Err, refl, sym, ap, ◌∙◌, arith}
use Rattle.std.specs.Prelude.{codes, ◌||◌, if◌then◌else◌}
use Rattle.std.specs.List.{slice_split, enumerate_from}
use Rattle.std.specs.Str.Lines.{strip_carriage_return}
use Rattle.std.proofs.lemmas.Bool.{eqb-true, lt-ltb}
use Rattle.std.proofs.lemmas.List.{take_more, drop_more, take_all, drop_all, length-take-le, length-map, get_or-map, append-nil}
use Rattle.std.proofs.lemmas.List.Elements.{filter_map-append}
use Rattle.std.proofs.lemmas.List.FromFn.{length-enumerate_from, get_or-enumerate_from}
use Rattle.std.proofs.lemmas.List.Folds.{list_any-append}
use Rattle.pix_script.specs.declared.command.Earlier.{Earlier}
use Rattle.pix_script.specs.declared.command.Line.{Line}
use Rattle.pix_script.specs.declared.fault.Problem.{Problem}
use Rattle.pix_script.specs.declared.fault.PaintFault.{PaintFault}
use Rattle.pix_script.specs.declared.fault.PaintFault.TheVariants as faults
use Rattle.pix_script.specs.declared.script.Script.{Script}
use Rattle.pix_script.specs.Commands.{problem_of, meaning_of, is_comment}
use Rattle.pix_script.specs.Lines.{words_of, lines_of}
use Rattle.pix_script.specs.Script.{begins_with, earlier_of, or_later, first_fault, meanings}
use Rattle.pix_script.specs.Reading.{Held, with_line, with_words, ReadsLine, ReadsLines}

or_false : (b : Bool) → (b || false) ≡ b
or_false true = refl
or_false false = refl

-- the meanings of the lines, with one line more that means nothing, and that means m
none_more : (lines : List (List (List ℕ))) (words : List (List ℕ)) → meaning_of words ≡ None → meanings (lines ++ words ∷ []) ≡ meanings lines
none_more lines words is = filter_map-append meaning_of lines (words ∷ []) ∙ rw is (append-nil (meanings lines))

one_more : (lines : List (List (List ℕ))) (words : List (List ℕ)) (m : Line) → meaning_of words ≡ Some m → meanings (lines ++ words ∷ []) ≡ meanings lines ++ m ∷ []
one_more lines words m is = filter_map-append meaning_of lines (words ∷ []) ∙ rw is refl

-- the same for what it means
meanings_more : (lines : List (List (List ℕ))) (words : List (List ℕ)) (meaning : Option Line) → meaning_of words ≡ meaning
    → with_line (meanings lines) meaning ≡ meanings (lines ++ words ∷ [])
meanings_more lines words None is = sym (none_more lines words is)
meanings_more lines words (Some m) is = sym (one_more lines words m is)

-- the words of a comment: the first one begins by '#'
comment_words : (line : List ℕ) → is_comment line ≡ true
    → (word : List ℕ) × (more : List (List ℕ)) × (words_of line ≡ (35 ∷ word) ∷ more)
unfolding words_of
comment_words [] is = absurd cc
comment_words (byte ∷ bytes) is = split (slice_split (λ b. eqb b 32) bytes) refl (eqb-true byte 35 is)
  where
    split : (parts : List (List ℕ)) → slice_split (λ b. eqb b 32) bytes ≡ parts → byte ≡ 35
        → (word : List ℕ) × (more : List (List ℕ)) × (words_of (byte ∷ bytes) ≡ (35 ∷ word) ∷ more)
    split [] e first = ([], [], rw (first, e) refl)
    split (part ∷ parts) e first =
        let rest : List (List ℕ) = filter (λ p. ltb 0 (length p)) parts in
        let word : List ℕ = 35 ∷ part in
        let some : ltb 0 (length word) ≡ true = lt-ltb _ _ (omega arith) in
        (part, rest, rw (first, e) (ap (λ (b : Bool). if b then word ∷ rest else rest) some))

-- a comment has no problem, and nothing is held for it
pub comment_read : (old : Held) (line : List ℕ) → is_comment line ≡ true
    → (problem_of old.earlier (words_of line) ≡ None) × (old ≡ with_words old (words_of line))
unfolding problem_of meaning_of
comment_read old line is =
    let c = comment_words line is in
    rw (c.2, or_false, or_false) (refl, refl)

-- what the first k lines have given
pub record SoFar (lines : List (List (List ℕ))) (k : ℕ) (read : Held) : Type 0 where
  pub commands : read.commands ≡ meanings (take k lines)
  pub earlier : read.earlier ≡ earlier_of (take k lines)
  pub faults : first_fault (take k lines) (drop k lines) ≡ first_fault [] lines

-- the faults of the lines from k on, by the line at k
at_line : (lines : List (List (List ℕ))) (k : ℕ) (read : Held) (words : List (List ℕ)) → SoFar lines k read → k < length lines → words ≡ get_or lines k words
    → first_fault [] lines ≡ or_later (k + 1) (problem_of read.earlier words) (first_fault (take (k + 1) lines) (drop (k + 1) lines))
at_line lines k read words so_far lt is =
    let t : take (k + 1) lines ≡ take k lines ++ words ∷ [] = take_more lines k words lt ∙ ap (λ (w : List (List ℕ)). take k lines ++ w ∷ []) (sym is) in
    let d : drop k lines ≡ words ∷ drop (k + 1) lines = drop_more lines k words lt ∙ ap (λ (w : List (List ℕ)). w ∷ drop (k + 1) lines) (sym is) in
    let len : length (take k lines) ≡ k = length-take-le k lines (omega arith) in
    sym so_far.faults ∙ rw (d, t, so_far.earlier, len) refl

pub line_fails : (lines : List (List (List ℕ))) (k : ℕ) (read : Held) (words : List (List ℕ)) (problem : Problem) → SoFar lines k read → k < length lines → words ≡ get_or lines k words
    → problem_of read.earlier words ≡ Some problem → first_fault [] lines ≡ Some (k + 1, problem)
line_fails lines k read words problem so_far lt is h = at_line lines k read words so_far lt is ∙ rw h refl

-- which commands there are in the lines and one line more
earlier_more : (lines : List (List (List ℕ))) (words : List (List ℕ)) (earlier : Earlier) → earlier ≡ earlier_of lines
    → ◌≡◌ {A = Earlier} (record { image = earlier.image || begins_with (codes "image") words; keep = earlier.keep || begins_with (codes "keep") words }) (earlier_of (lines ++ words ∷ []))
earlier_more lines words earlier is = rw (is, list_any-append, list_any-append, or_false, or_false) refl

pub line_done : (lines : List (List (List ℕ))) (k : ℕ) (read new : Held) (words : List (List ℕ)) → SoFar lines k read → k < length lines → words ≡ get_or lines k words
    → problem_of read.earlier words ≡ None → new ≡ with_words read words → SoFar lines (k + 1) new
line_done lines k read new words so_far lt is none new_is =
    let before = take k lines in
    let t : take (k + 1) lines ≡ before ++ words ∷ [] = take_more lines k words lt ∙ ap (λ (w : List (List ℕ)). before ++ w ∷ []) (sym is) in
    record {
      commands = rw (new_is, t, so_far.commands) (meanings_more before words (meaning_of words) refl);
      earlier = rw (new_is, t) (earlier_more before words read.earlier so_far.earlier);
      faults = sym (at_line lines k read words so_far lt is ∙ rw none refl);
    }

pub all_done : (lines : List (List (List ℕ))) (k : ℕ) (read : Held) → SoFar lines k read → length lines ≤ k → (first_fault [] lines ≡ None) × (read.commands ≡ meanings lines)
all_done lines k read so_far le = (sym so_far.faults ∙ rw (drop_all k lines le) refl, so_far.commands ∙ ap meanings (take_all k lines le))

-- a line as the loop meets it: its place, its number from 0 on, and its words
pub record IsLine (script : List ℕ) (k index : ℕ) (line : List ℕ) : Type 0 where
  pub within : k < length (lines_of script)
  pub number : index ≡ k
  pub words : words_of (strip_carriage_return line) ≡ get_or (lines_of script) k (words_of (strip_carriage_return line))

pub line_at : (script : List ℕ) (k index : ℕ) (line : List ℕ) → (k < length (enumerate_from 0 (slice_split (λ b. eqb b 10) script))) × ((index, line) ≡ get_or (enumerate_from 0 (slice_split (λ b. eqb b 10) script)) k (index, line))
    → IsLine script k index line
unfolding lines_of
line_at script k index line h =
    let parts = slice_split (λ b. eqb b 10) script in
    let lt : k < length parts = omega (arith, length-enumerate_from 0 parts, h.0) in
    let e : ◌≡◌ {A = ℕ × List ℕ} (index, line) (0 + k, get_or parts k line) = h.1 ∙ get_or-enumerate_from 0 parts k (index, line) lt in
    let f : List ℕ → List (List ℕ) = λ l. words_of (strip_carriage_return l) in
    record {
      within = omega (arith, length-map parts f);
      number = ap (λ (p : ℕ × List ℕ). p.0) e ∙ zero-add k;
      words = ap f (ap (λ (p : ℕ × List ℕ). p.1) e) ∙ sym (get_or-map f parts k line (f line) lt);
    }

pub lines_len : (script : List ℕ) → length (lines_of script) ≡ length (enumerate_from 0 (slice_split (λ b. eqb b 10) script))
unfolding lines_of
lines_len script =
    let parts = slice_split (λ b. eqb b 10) script in
    let f : List ℕ → List (List ℕ) = λ l. words_of (strip_carriage_return l) in
    omega (arith, length-map parts f, length-enumerate_from 0 parts)

-- what a line's fault makes of the whole
pub read_fails : (script : List ℕ) (fault : PaintFault) (k index : ℕ) (line : List ℕ) (read new : Held) → SoFar (lines_of script) k read → IsLine script k index line
    → ReadsLine read new (index + 1) (words_of (strip_carriage_return line)) (Err fault) → ReadsLines (λ (s : Script). s.commands.items) (lines_of script) (Err fault)
read_fails script faults.OutOfMemory k index line read new so_far is h = tt
read_fails script faults.TooLong k index line read new so_far is h = absurd h
read_fails script (faults.Line n problem) k index line read new so_far is h =
    let number : n ≡ k + 1 = h.0 ∙ ap (λ (i : ℕ). i + 1) is.number in
    line_fails (lines_of script) k read (words_of (strip_carriage_return line)) problem so_far is.within is.words h.1
    ∙ ap (λ (m : ℕ). let found : Option (ℕ × Problem) = Some (m, problem) in found) (sym number)
