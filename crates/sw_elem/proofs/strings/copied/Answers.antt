use Rattle.std.proofs.Common.{string_bytes}
use Rattle.sw_tree.specs.Meaning.{text}
use Rattle.sw_tree.specs.Laws.Meant.{text_meaning-is}
use Rattle.sw_elem.specs.Laws.Text.{text_lawful}
use Rattle.sw_elem.proofs.strings.copied.Goals as goal

pub returns-in-Ok : goal.returns-in-Ok
returns-in-Ok c = rw (← c.in-Ok.ensures.ok) (text_lawful.shown (text (string_bytes c.in-Ok.copy)) (text_meaning-is c.in-Ok.copy))
