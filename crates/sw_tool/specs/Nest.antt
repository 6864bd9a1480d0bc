-- When each outcome comes.
use Rattle.std.specs.Prelude.{ℕ, ◌≡◌, ◌<◌, List, [], ◌∷◌, length, Option, Some, None, Result, Ok, Err, IsOkAnd, Vec, String, string_bytes}
use Rattle.std.specs.declared.alloc.Global.{Global}
use Rattle.sw_tree.specs.Building.{within}
use Rattle.sw_tree.specs.Fail.{kind_of_error}
use Rattle.sw_tree.specs.Tree.{Tree}
use Rattle.sw_tree.specs.declared.fail.SerError.{SerError}
use Rattle.sw_tree.specs.declared.fail.SerError.TheVariants as reason
use Rattle.sw_tree.specs.declared.fail.DeKind.{DeKind}
use Rattle.sw_tree.specs.declared.fail.Refusal.{Refusal}
use Rattle.sw_core.specs.declared.recode.RecodeError.TheVariants as error
use Rattle.sw_tool.specs.Faults.{HasRisen}
use Rattle.sw_tool.specs.Change.{Change, Kept}
use Rattle.sw_check.specs.PathText.{path_text as blame_path}
use Rattle.sw_check.specs.declared.blame.Blame.{Blame}
use Rattle.sw_check.specs.declared.grade.Grade.{Grade}
use Rattle.sw_json.specs.Text.{json_text}
use Rattle.sw_tool.specs.Log.{IsLogText}
use Rattle.sw_tool.specs.Names.{grade_name}
use Rattle.sw_tool.specs.Path.{IsPathTo}
use Rattle.sw_tool.specs.Input.{limit, IsWhole, Gives}
use Rattle.sw_tool.specs.Output.{Gains, GainsFront, line}
use Rattle.sw_tool.specs.Nests.{Answer}
use Rattle.sw_tool.specs.declared.outcome.Outcome.{Outcome}
use Rattle.sw_tool.specs.declared.outcome.Outcome.TheVariants as outcome

-- the nest refuses the tree, by an error of that kind, at the node of that path
pub record IsRefused (answer : Answer) (bytes : List ℕ) (kind : DeKind) (path : List ℕ) : Type 0 where
  pub refusal : Refusal
  pub answered : answer ≡ Err (error.Refused refusal)
  pub named : kind ≡ kind_of_error refusal.error
  pub found : IsPathTo bytes refusal.place path

-- the kind and the path of a refusal, or want of memory
abbrev pub IsTraced : Outcome → List ℕ → Refusal → Type 0
IsTraced (outcome.Refused kind path) bytes refusal = (kind ≡ kind_of_error refusal.error) × IsPathTo bytes refusal.place (string_bytes path)
IsTraced outcome.Memory bytes refusal = Unit {0}
IsTraced _ bytes refusal = ⊥

-- why the nest gives no text for the bytes
abbrev pub Fails : Outcome → Answer → List ℕ → Type 0
Fails outcome.Syntax answer bytes = answer ≡ Err error.Syntax
Fails (outcome.NotWhole at) answer bytes = answer ≡ Err (error.NotWhole at)
Fails (outcome.TooDeep at) answer bytes = answer ≡ Err (error.TooDeep at)
Fails (outcome.Refused kind path) answer bytes = IsRefused answer bytes kind (string_bytes path)
Fails (outcome.Unwritable reason) answer bytes = answer ≡ Err (error.Unwritable reason)
Fails outcome.Memory answer bytes = Unit {0}
Fails _ answer bytes = ⊥

-- the nest's text for the bytes and the text of its log, or why there is none
abbrev pub IsConverted : Result (Vec ℕ Global × String Global) Outcome → Answer → List Refusal → List ℕ → Type 0
IsConverted (Ok texts) answer log bytes = IsOkAnd answer (λ p. p.1 ≡ texts.0.items) × IsLogText bytes log (string_bytes texts.1)
IsConverted (Err o) answer log bytes = Fails o answer bytes

-- the output was written whole, and the outcome has that text of a log; or a front of the output was written
abbrev pub IsPut : Outcome → List ℕ → Change → List ℕ → Type 0
IsPut (outcome.Done log) told sink output = (string_bytes log ≡ told) × Gains sink output
IsPut outcome.WriteFault told sink output = GainsFront sink output × HasRisen sink.before sink.after
IsPut _ told sink output = ⊥

-- what an outcome says of the bytes that the source gave, of the nest's answer to them and what it passed over in them, and of the sink;
-- the last row is that of the outcomes for which the nest gives no text
abbrev pub IsOutcomeOf : Outcome → Change → Change → List ℕ → Answer → List Refusal → Type 0
IsOutcomeOf (outcome.Done told) source sink gave answer log = IsWhole source gave × IsOkAnd answer (λ p. Gains sink (line (p.1 ∷ []))) × IsLogText gave log (string_bytes told)
IsOutcomeOf outcome.WriteFault source sink gave answer log = IsWhole source gave × IsOkAnd answer (λ p. GainsFront sink (line (p.1 ∷ [])) × HasRisen sink.before sink.after)
IsOutcomeOf outcome.ReadFault source sink gave answer log = (length gave < limit) × HasRisen source.before source.after × Kept sink
IsOutcomeOf outcome.TooLong source sink gave answer log = (length gave ≡ limit) × Kept sink
IsOutcomeOf outcome.Memory source sink gave answer log = (length gave < limit) × Kept sink
IsOutcomeOf outcome.Usage source sink gave answer log = ⊥
IsOutcomeOf (outcome.Blamed rule path) source sink gave answer log = ⊥
IsOutcomeOf o source sink gave answer log = IsWhole source gave × Fails o answer gave × Kept sink

-- the rule of a blame and the text of its path, or want of memory
abbrev pub Blames : Outcome → Blame → Type 0
Blames (outcome.Blamed rule path) b = (rule ≡ b.rule) × (string_bytes path ≡ blame_path b.path)
Blames outcome.Memory b = Unit {0}
Blames _ b = ⊥

-- the outcome of a blame, if there is one, or want of memory
pub record IsBlamed (o : Outcome) (found : Option Blame) : Type 0 where
  pub blame : Blame
  pub is : found ≡ Some blame
  pub says : Blames o blame

abbrev pub IsUnsound : Outcome → Option Blame → Type 0
IsUnsound outcome.Memory found = Unit {0}
IsUnsound o found = IsBlamed o found

-- a token, where nothing is blamed; else the outcome of the blame, or want of memory
abbrev pub IsVetted : {T : Type 0} → Result T Outcome → Option Blame → Type 0
IsVetted (Ok token) found = found ≡ None
IsVetted (Err o) found = IsUnsound o found

-- Where the nest is blamed, nothing is read and nothing written; else the source gave some bytes, which the nest answers.
abbrev pub Recoded : Outcome → Change → Change → Option Blame → (List ℕ → Answer) → (List ℕ → List Refusal) → Type 0
Recoded o source sink (Some b) answer log = Blames o b × Kept source × Kept sink
Recoded o source sink None answer log = Gives source (λ gave. IsOutcomeOf o source sink gave (answer gave) (log gave))

-- the grade's line was written whole and there is no log, or a front of the line, or nothing for want of memory
abbrev IsGradePut : Outcome → Change → Grade → Type 0
IsGradePut outcome.Memory sink g = Kept sink
IsGradePut o sink g = IsPut o [] sink (line (grade_name g ∷ []))

-- Where the nest is blamed, nothing is written; else its grade is.
abbrev pub Graded : Outcome → Change → Option Blame → Grade → Type 0
Graded o sink (Some b) g = Blames o b × Kept sink
Graded o sink None g = IsGradePut o sink g

-- why a tree has no line of JSON: it has more than 128 levels, or a key without an image
abbrev pub IsUnprinted : SerError → Tree → Type 0
IsUnprinted reason.TooDeep t = within t ≡ Err reason.TooDeep
IsUnprinted reason.Key t = json_text t ≡ None
IsUnprinted _ t = ⊥

-- the outcome of that, or want of memory
abbrev pub IsUntold : Outcome → Tree → Type 0
IsUntold (outcome.Unwritable e) t = IsUnprinted e t
IsUntold outcome.Memory t = Unit {0}
IsUntold _ t = ⊥

-- the JSON text of the tree, or why there is none
abbrev pub IsTold : Result (Vec ℕ Global) Outcome → Tree → Type 0
IsTold (Ok text) t = json_text t ≡ Some text.items
IsTold (Err o) t = IsUntold o t

-- the line of that text was written whole and there is no log, or a front of the line
abbrev IsLinePut : Outcome → Change → Option (List ℕ) → Type 0
IsLinePut o sink (Some text) = IsPut o [] sink (line (text ∷ []))
IsLinePut o sink None = ⊥

-- The JSON text of the tree and a line feed are written; or nothing, where there is none.
abbrev pub Published : Outcome → Change → Tree → Type 0
Published (outcome.Unwritable e) sink t = IsUnprinted e t × Kept sink
Published outcome.Memory sink t = Kept sink
Published o sink t = IsLinePut o sink (json_text t)
