-- `geodetic::line::value` meets its contract. Assumes nothing.
use mathlib.Core.Path.{◌≡◌, refl, ◌∙◌}
use lib.Ieee.{nan, of_bits}
use Rattle.std.proofs.Common.{Ok, Err}
use Rattle.std.specs.Result.{result_unwrap_or}
use Rattle.decimal.specs.Read.{Number}
use Rattle.decimal.specs.declared.read.NumberError.TheVariants.{NotANumber, TooLong}
use Rattle.geodetic.specs.Line.{field_value}
use Rattle.geodetic.proofs.line.value.Goals as goal

value_is : (n : Number) → result_unwrap_or n nan ≡ field_value n
value_is (Ok v) = refl
value_is (Err NotANumber) = refl
value_is (Err TooLong) = refl

pub returns : goal.returns
unfolding of_bits
returns c = c.unwrap_or.ensures ∙ value_is c.args.n
