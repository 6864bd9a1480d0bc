use Rattle.sw_json.proofs.Keys.{unprinted, refused_key}
use Rattle.sw_json.proofs.spelling.refused_keys_are_those_of_other_kinds.Goals as goal

pub returns : goal.returns
returns c = λ t. (unprinted t, refused_key t)
