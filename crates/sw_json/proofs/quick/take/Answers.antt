use Rattle.std.proofs.Common.{length}
use Rattle.std.specs.Prelude.{reverse}
use Rattle.sw_json.specs.Token.{Token}
use Rattle.sw_json.proofs.Taking.{comma_found, colon_found, comma_built, colon_built, first_can}
use Rattle.sw_json.proofs.quick.take.Goals as goal

pub take_text-requires : goal.take_text-requires
take_text-requires c = record { can = first_can c.args.at c.args.place (reverse c.args.levels.now.items) c.args.bytes.now c.in-Some.rest.now c.in-Some.first.now 34 c.args.fault c.args.builder.now c.in-Some.ensures.cases.0 c.in-34.is c.requires.can }

pub take_opening-requires : goal.take_opening-requires
take_opening-requires c = record { can = first_can c.args.at c.args.place (reverse c.args.levels.now.items) c.args.bytes.now c.in-Some.rest.now c.in-Some.first.now 91 c.args.fault c.args.builder.now c.in-Some.ensures.cases.0 c.in-91.is c.requires.can }

pub take_closing-requires : goal.take_closing-requires
take_closing-requires c = record { can = first_can c.args.at c.args.place (reverse c.args.levels.now.items) c.args.bytes.now c.in-Some.rest.now c.in-Some.first.now 93 c.args.fault c.args.builder.now c.in-Some.ensures.cases.0 c.in-93.is c.requires.can }

pub take_opening-requires-in-123 : goal.take_opening-requires-in-123
take_opening-requires-in-123 c = record { can = first_can c.args.at c.args.place (reverse c.args.levels.now.items) c.args.bytes.now c.in-Some.rest.now c.in-Some.first.now 123 c.args.fault c.args.builder.now c.in-Some.ensures.cases.0 c.in-123.is c.requires.can }

pub take_closing-requires-in-125 : goal.take_closing-requires-in-125
take_closing-requires-in-125 c = record { can = first_can c.args.at c.args.place (reverse c.args.levels.now.items) c.args.bytes.now c.in-Some.rest.now c.in-Some.first.now 125 c.args.fault c.args.builder.now c.in-Some.ensures.cases.0 c.in-125.is c.requires.can }

pub returns-in-Some-behind_comma : goal.returns-in-Some-behind_comma
returns-in-Some-behind_comma c = record {
  token = Token.comma;
  found = comma_found c.args.at c.args.bytes.now c.in-Some.rest.now c.in-Some.first.now c.in-Some.ensures.cases.0 c.in-44.is;
  leads = c.in-Some-behind_comma.ensures;
  builds = comma_built c.args.fault (length (reverse c.args.levels.now.items)) c.args.builder.now;
}

pub returns-in-Some-behind_colon : goal.returns-in-Some-behind_colon
returns-in-Some-behind_colon c = record {
  token = Token.colon;
  found = colon_found c.args.at c.args.bytes.now c.in-Some.rest.now c.in-Some.first.now c.in-Some.ensures.cases.0 c.in-58.is;
  leads = c.in-Some-behind_colon.ensures (reverse c.args.levels.now.items);
  builds = colon_built c.args.fault (length (reverse c.args.levels.now.items)) c.args.builder.now;
}
