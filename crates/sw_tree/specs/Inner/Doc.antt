-- How the logic stores what a document means.
use Rattle.std.specs.Prelude.{ℕ, refl}
use Rattle.std.specs.Coded.{Coded, code_by, coded×, coded_ℕ}
use Rattle.sw_tree.specs.Tree.{Tree}
use Rattle.sw_tree.specs.Doc.{Document}
use Rattle.sw_tree.specs.Inner.TreeCode.{coded_tree}

abbrev pub coded_document : Coded Document
coded_document = code_by (Tree × ℕ) (coded× coded_tree coded_ℕ) (λ d. (d.tree, d.side_len)) (λ p. record { tree = p.0; side_len = p.1 }) (λ _. refl)
