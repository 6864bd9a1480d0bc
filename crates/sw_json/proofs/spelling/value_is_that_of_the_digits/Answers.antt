use Rattle.sw_json.proofs.WholeNumbers.{plain_value, no_value}
use Rattle.sw_json.proofs.spelling.value_is_that_of_the_digits.Goals as goal

pub returns-clause-digits : goal.returns-clause-digits
returns-clause-digits c = plain_value

pub returns-clause-none : goal.returns-clause-none
returns-clause-none c = no_value
