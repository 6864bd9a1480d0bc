-- Parts of a text that are spelled by themselves are read as themselves.
use Rattle.std.specs.Prelude.{◌||◌}
use Rattle.std.specs.List.{list_all}
use Rattle.std.proofs.Common.{◌≡◌, ℕ, ◌<◌, List, length, Some, ap, arith, Bool, true, false, [], ◌∷◌, eqb, refl, sym, ◌∙◌}
use Rattle.sw_json.specs.Bytes.{is_plain}
use Rattle.sw_json.specs.Quoted.{piece_at, Piece, plain, short, unit, pair, spelling_of, ArePieces, meanings, has_escape, IsQuoted}
use Rattle.sw_json.specs.Laws.Fronts.{and_left, and_right}
use Rattle.sw_json.specs.Laws.Quoting.{spelled_longer, piece_taken, plain_byte}

pub piece_shorter : (bs : List ℕ) (y : List ℕ × List ℕ) → piece_at bs ≡ Some y → length y.1 < length bs
piece_shorter bs y h = let t = piece_taken bs y h in omega (arith, spelled_longer t.piece y.1, ap length t.spells)

-- ---- texts without a backslash
or_right : (a b : Bool) → (a || b) ≡ false → b ≡ false
or_right true b h = cc
or_right false b h = h

pieces_plain : (ps : List Piece) → ArePieces ps → has_escape (spelling_of ps []) ≡ false → (meanings ps ≡ spelling_of ps []) × (list_all is_plain (spelling_of ps []) ≡ true)
pieces_plain [] h e = (refl, refl)
pieces_plain (plain b ∷ ps) h e =
    let i = pieces_plain ps h.1 (or_right (eqb b 92) (has_escape (spelling_of ps [])) e) in
    (ap (λ x. b ∷ x) i.0, rw h.0 i.1)
pieces_plain (short b ∷ ps) h e = cc
pieces_plain (unit d ∷ ps) h e = cc
pieces_plain (pair d l ∷ ps) h e = cc

pub unescaped_plain : (s t : List ℕ) → IsQuoted s t → has_escape s ≡ false → list_all is_plain s ≡ true
unescaped_plain s t q e = ap (list_all is_plain) q.spells ∙ (pieces_plain q.pieces q.lawful (ap has_escape (sym q.spells) ∙ e)).1

pub plain_has_none : (s : List ℕ) → list_all is_plain s ≡ true → has_escape s ≡ false
plain_has_none [] h = refl
plain_has_none (b ∷ bs) h =
    rw (plain_byte b (and_left (is_plain b) (list_all is_plain bs) h)).0 (plain_has_none bs (and_right (is_plain b) (list_all is_plain bs) h))
