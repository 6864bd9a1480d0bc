-- Sources and sinks in memory: what a call of them answers, and what it leaves.
use Rattle.std.specs.Prelude.{ℕ, ◌-◌, ◌==◌, min, max, List, ◌++◌, length, take, drop, Bool, ◌||◌, Result, Ok, Err, if◌then◌else◌}
use Rattle.std.specs.List.{list_any}
use Rattle.sw_tool.specs.declared.source.Failed.{Failed}
use Rattle.sw_tool.specs.Faults.{next}

-- the calls that were made, the numbers of those that fail, from 1, and how many calls failed
pub record Called : Type 0 where
  pub fails : List ℕ
  pub made : ℕ
  pub faults : ℕ

abbrev pub is_listed : Called → Bool
is_listed c = list_any (λ n. n == next c.made) c.fails

abbrev pub called : Called → Called
called c = record c { made = next c.made }

abbrev pub faulted : Called → Called
faulted c = record c { faults = next c.faults }

-- a source: the bytes that are left, and how many it gives at most in a call, where 0 means 1
pub record Supply : Type 0 where
  pub left : List ℕ
  pub most : ℕ
  pub calls : Called

-- how many bytes a call gives into so much room
abbrev pub given : Supply → ℕ → ℕ
given s room = min room (min (max s.most 1) (length s.left))

abbrev pub supplied : Supply → ℕ → Result ℕ Failed
supplied s room = if is_listed s.calls then Err (record {}) else Ok (given s room)

abbrev pub supply_after : Supply → ℕ → Supply
supply_after s room =
    if is_listed s.calls
    then record s { calls = faulted (called s.calls) }
    else record s { left = drop (given s room) s.left; calls = called s.calls }

-- a sink: the bytes that it took, and how many it can take in all
pub record Storage : Type 0 where
  pub taken : List ℕ
  pub room : ℕ
  pub calls : Called

-- how many bytes can still be taken
abbrev pub spare : Storage → ℕ
spare s = s.room - length s.taken

abbrev pub refuses : Storage → Bool
refuses s = is_listed s.calls || (spare s == 0)

-- how many bytes of the piece a call takes
abbrev pub fitting : Storage → List ℕ → ℕ
fitting s piece = min (length piece) (spare s)

abbrev pub stored : Storage → List ℕ → Result ℕ Failed
stored s piece = if refuses s then Err (record {}) else Ok (fitting s piece)

abbrev pub storage_after : Storage → List ℕ → Storage
storage_after s piece =
    if refuses s
    then record s { calls = faulted (called s.calls) }
    else record s { taken = s.taken ++ take (fitting s piece) piece; calls = called s.calls }
