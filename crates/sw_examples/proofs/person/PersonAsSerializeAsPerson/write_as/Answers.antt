use Rattle.std.proofs.Common.{[], ◌∷◌, refl}
use Rattle.sw_tree.specs.Meant.{text_meaning, unsigned_meaning, list_meaning}
use Rattle.sw_core.specs.Laws.Record.{record_put}
use Rattle.sw_examples.specs.Person.{person_names}
use Rattle.sw_examples.proofs.person.PersonAsSerializeAsPerson.write_as.Goals as goal

pub returns : goal.returns
returns g c =
    let person = c.args.source.now in
    record_put g.O.Builds.put g.O.Builds.opened g.O.Builds.closed g.met.O.Builds.maps person_names (g.A.SerializeAs.writes ∷ g.B.SerializeAs.writes ∷ g.C.SerializeAs.writes ∷ []) c.args.mode
    (text_meaning person.name ∷ unsigned_meaning person.age ∷ list_meaning unsigned_meaning person.tags.items ∷ []) c.args.out.now c.open_map.new.self c.write_field-3.new.out c.close.new.self c.close.result c.in_ok-open_map.ensures
    (c.write_field.new.out, c.in_ok-write_field.ensures, (c.write_field-2.new.out, c.in_ok-write_field-2.ensures, (c.write_field-3.new.out, c.in_ok-write_field-3.ensures, refl))) c.close.ensures
