use Rattle.sw_tool.proofs.report.note_outcome.Goals as goal

pub returns-in-Unwritable : goal.returns-in-Unwritable
returns-in-Unwritable g c = rw (c.in-Unwritable.is, ← c.reason_name.ensures) c.note_pair.ensures

pub returns-in-NotWhole : goal.returns-in-NotWhole
returns-in-NotWhole g c = rw c.in-NotWhole.is c.note_offset.ensures

pub returns-in-TooDeep : goal.returns-in-TooDeep
returns-in-TooDeep g c = rw c.in-TooDeep.is c.note_offset-in-TooDeep.ensures

pub returns-in-Usage : goal.returns-in-Usage
returns-in-Usage g c = rw c.in-Usage.is c.note_word.ensures
