-- A choice by the wire.
use Rattle.sw_tree.specs.declared.mode.WireKind.{WireKind}
use Rattle.sw_tree.specs.declared.mode.WireKind.TheVariants.{Json, Compact}

-- the first on JSON, the second on Compact
abbrev pub on_wire : {A : Type 0} → WireKind → A → A → A
on_wire Json a b = a
on_wire Compact a b = b
