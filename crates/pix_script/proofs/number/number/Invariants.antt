-- What holds at each turn of the loop over `byte` in `number`.
use Rattle.std.proofs.Common.{◌≡◌, ◌≤◌, take}
use Rattle.std.specs.Str.Parse.{digits_value, AllDigits}
use Rattle.pix_script.proofs.number.number.Given as goal

abbrev pub invariant-loop-byte : goal.invariant-loop-byte
invariant-loop-byte l = record {
  digits : AllDigits 10 (take l.byte-index l.word);
  value_is : l.value ≡ digits_value 10 (take l.byte-index l.word);
  small : l.value ≤ l.limit;
}
