-- Whether all bytes pass, by what is behind the front that does.
use Rattle.std.proofs.Common.{◌≡◌, ℕ, eqb, List, [], ◌∷◌, Bool, true, false, cond, length, refl}
use Rattle.std.proofs.Math.Dec.{eqb-suc-zero}
use Rattle.std.specs.Prelude.{◌&&◌}
use Rattle.std.specs.List.{list_all}
use Rattle.sw_json.specs.Bytes.{behind}

module _ (p : ℕ → Bool) where
  none_step : (t : Bool) (b : ℕ) (bs : List ℕ) → eqb (length (behind p bs)) 0 ≡ list_all p bs → eqb (length (cond t (behind p bs) (b ∷ bs))) 0 ≡ (t && list_all p bs)
  none_step true b bs h = h
  none_step false b bs h = eqb-suc-zero (length bs)

  pub none_behind : (bs : List ℕ) → eqb (length (behind p bs)) 0 ≡ list_all p bs
  none_behind [] = refl
  none_behind (b ∷ bs) = none_step (p b) b bs (none_behind bs)
