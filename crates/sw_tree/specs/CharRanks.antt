-- The order of characters, whose meanings are their texts.
use Rattle.std.specs.Prelude.{ℕ, ◌+◌, ◌-◌, ◌*◌, List, [], ◌∷◌}
use Rattle.std.specs.Ordering.{nat_cmp}
use Rattle.sw_tree.specs.Ranks.{Order}
use Rattle.sw_tree.specs.LeafRanks.{text_of}

-- the number that up to four bytes encode
abbrev pub decoded : List ℕ → ℕ
decoded [] = 0
decoded (a ∷ []) = a
decoded (a ∷ b ∷ []) = (a - 192) * 64 + (b - 128)
decoded (a ∷ b ∷ c ∷ []) = (a - 224) * 4096 + ((b - 128) * 64 + (c - 128))
decoded (a ∷ b ∷ c ∷ d ∷ es) = (a - 240) * 262144 + ((b - 128) * 4096 + ((c - 128) * 64 + (d - 128)))

-- by the numbers of the characters
abbrev pub char_order : Order
char_order x y = nat_cmp (decoded (text_of x)) (decoded (text_of y))
