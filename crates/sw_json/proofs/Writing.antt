-- What was put into a fresh writer is its text.
use Rattle.std.proofs.Common.{◌≡◌, [], Some, ap, ◌∙◌}
use Rattle.sw_tree.specs.Tree.{Tree}
use Rattle.sw_json.specs.Text.{json_text}
use Rattle.sw_json.specs.Inner.Pushed.{joined}
use Rattle.sw_json.specs.Inner.Written.{Written, fresh, put}
use Rattle.sw_json.specs.Laws.Writing.{nil-joined}

-- ---- the whole text
pub fresh_text : (w : Written) (t : Tree) → w ≡ put t fresh → w.text ≡ json_text t
fresh_text w t e = ap (λ (v : Written). v.text) e ∙ nil-joined (joined (Some []) (json_text t)) ∙ nil-joined (json_text t)
