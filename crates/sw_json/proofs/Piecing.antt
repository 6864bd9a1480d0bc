-- One text behind another.
use Rattle.std.proofs.lemmas.List.{append-nil}
use Rattle.sw_json.proofs.Pushing.{pushed-then, pushed-refused}

pub ruleset pieces = (append-nil, pushed-then, pushed-refused)
