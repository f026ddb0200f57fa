use Rattle.std.proofs.Common.{◌≡◌, take, true}
use Rattle.std.specs.List.{list_all}
use Rattle.std.specs.Str.Parse.{digits_value}
use Rattle.seam_value.specs.Numerals.{is_digit}
use Rattle.seam_value.proofs.reading.number_of_few_digits.Given as goal

abbrev pub invariant-loop-byte : goal.invariant-loop-byte
invariant-loop-byte l = record {
  all : list_all is_digit (take l.byte-index l.bytes) ≡ true;
  value : l.number ≡ digits_value 10 (take l.byte-index l.bytes);
}
