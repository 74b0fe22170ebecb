-- What holds at each turn of the loop over `place` in `bad_words`.
use Rattle.std.proofs.Common.{◌≡◌, take, map}
use Rattle.pix_script.specs.Commands.{any_fails, is_bad_operator, is_bad_number, is_bad_color}
use Rattle.pix_script.proofs.parse.bad_words.Given as goal

-- the words in the places before this one
abbrev pub invariant-loop-place : goal.invariant-loop-place
invariant-loop-place l = record {
  operator : l.bad.operator ≡ any_fails is_bad_operator (take l.place l.kinds) (map (λ word. word.now) l.arguments);
  number : l.bad.number ≡ any_fails is_bad_number (take l.place l.kinds) (map (λ word. word.now) l.arguments);
  color : l.bad.color ≡ any_fails is_bad_color (take l.place l.kinds) (map (λ word. word.now) l.arguments);
}
