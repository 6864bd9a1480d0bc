-- What a run of the program does.
use Rattle.std.specs.Prelude.{ℕ, ◌≡◌, List, Option, Some, None}
use Rattle.sw_tool.specs.Change.{Change, Kept}
use Rattle.sw_tool.specs.Command.{command_in}
use Rattle.sw_tool.specs.Nest.{Recoded, Graded, Published}
use Rattle.sw_tool.specs.Outcome.{status_of, line_of}
use Rattle.sw_tool.specs.Nests.{blame_of, grade_of, answer_of, log_of}
use Rattle.sw_schema.specs.SchemaTree.{schema_tree}
use Rattle.sw_tool.specs.Schemas.{schema_of}
use Rattle.sw_tool.specs.Output.{Notes}
use Rattle.sw_tool.specs.declared.command.Command.{Command}
use Rattle.sw_tool.specs.declared.command.Command.TheVariants.{Recode, Check, Schema}
use Rattle.sw_tool.specs.declared.command.Profile.{Profile}
use Rattle.sw_tool.specs.declared.outcome.Outcome.{Outcome}
use Rattle.sw_tool.specs.declared.outcome.Outcome.TheVariants as outcome
use Rattle.sw_tool.specs.declared.status.Status.{Status}

-- the words, the status, and what became of the source, the sink and the notes
pub record Run : Type 0 where
  pub words : List (List ℕ)
  pub status : Status
  pub source : Change
  pub sink : Change
  pub notes : Change

-- the status and the line on the notes are those of the outcome; a fault of the notes changes no status
pub record Ends (o : Outcome) (r : Run) : Type 0 where
  pub status : r.status ≡ status_of o
  pub notes : Notes r.notes (line_of o)

-- nothing is read and nothing written
pub record IsUsage (r : Run) : Type 0 where
  pub ends : Ends outcome.Usage r
  pub source : Kept r.source
  pub sink : Kept r.sink

-- what the source gives is recoded through the profile's nest, and what was passed over is told
pub record IsRecoding (p : Profile) (r : Run) : Type 0 where
  pub outcome : Outcome
  pub ends : Ends outcome r
  pub recoded : Recoded outcome r.source r.sink (blame_of p) (answer_of p) (log_of p)

-- nothing is read, and the grade of the profile's nest is written
pub record IsGrading (p : Profile) (r : Run) : Type 0 where
  pub outcome : Outcome
  pub ends : Ends outcome r
  pub source : Kept r.source
  pub graded : Graded outcome r.sink (blame_of p) (grade_of p)

-- nothing is read, and the schema of the profile's nest is written
pub record IsPublishing (p : Profile) (r : Run) : Type 0 where
  pub outcome : Outcome
  pub ends : Ends outcome r
  pub source : Kept r.source
  pub published : Published outcome r.sink (schema_tree (schema_of p))

abbrev pub IsRunOf : Option Command → Run → Type 0
IsRunOf None r = IsUsage r
IsRunOf (Some (Recode p)) r = IsRecoding p r
IsRunOf (Some (Check p)) r = IsGrading p r
IsRunOf (Some (Schema p)) r = IsPublishing p r

-- the command that the words are decides
abbrev pub IsRun : Run → Type 0
IsRun r = IsRunOf (command_in r.words) r
