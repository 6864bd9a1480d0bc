-- The nodes of the tree that bytes spell, and the texts of the paths to them.
use Rattle.std.specs.Prelude.{ℕ, ◌≡◌, ◌<◌, List, true, Ok}
use Rattle.sw_tree.specs.Path.{Leads}
use Rattle.sw_tree.specs.PathText.{path_text}
use Rattle.sw_tree.specs.Seen.{Seen}
use Rattle.sw_tree.specs.Tree.{Tree, size}
use Rattle.sw_tree.specs.declared.path.Step.{Step}
use Rattle.sw_json.specs.Spelled.{spelled}

-- the bytes spell a tree that has a node of that number
pub record HasNode (bytes : List ℕ) (number : ℕ) : Type 0 where
  pub tree : Tree
  pub spells : spelled bytes ≡ Ok tree
  pub inside : number < size tree

-- the text is that of steps that lead to the node of that place in what is shown
pub record IsPathIn (s : Seen) (place : ℕ) (path : List ℕ) : Type 0 where
  pub steps : List Step
  pub leads : Leads s place steps
  pub printed : path ≡ path_text steps

-- the text is that of steps that lead to the node of that number in the tree that the bytes spell
pub record IsPathTo (bytes : List ℕ) (number : ℕ) (path : List ℕ) : Type 0 where
  pub tree : Tree
  pub spells : spelled bytes ≡ Ok tree
  pub leads : IsPathIn (record { tree = tree; place = 0; counts = true }) number path
