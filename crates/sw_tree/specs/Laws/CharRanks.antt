-- Characters are in order as their numbers are, and their texts tell them apart.
use Rattle.std.specs.Prelude.{◌≡◌, ℕ, ◌+◌, ◌-◌, ◌*◌, ◌/◌, ◌%◌, Bool, true, false, cond, [], ◌∷◌, nat_lt, List}
use Rattle.std.specs.Char.{encode_utf8}
use Rattle.std.specs.Ordering.{nat_cmp}
use Rattle.std.specs.Cmp.{on_total, nat_cmp_total}
use Rattle.std.proofs.Common.{arith, refl, sym, ap, ◌∙◌}
use Rattle.std.proofs.lemmas.Map.Lookups.{exact_unsigned}
use Rattle.sw_tree.specs.Meaning.{Meaning, text}
use Rattle.sw_tree.specs.Meant.{char_meaning, IsCharText}
use Rattle.sw_tree.specs.Ranks.{IsOrderOf, Ranks, TellsApart}
use Rattle.sw_tree.specs.LeafRanks.{text_of}
use Rattle.sw_tree.specs.CharRanks.{decoded, char_order}
use Rattle.sw_tree.specs.Laws.Ranks.{Of, ranks_from_total}

two : (c : ℕ) → ((192 + c / 64) - 192) * 64 + ((128 + c % 64) - 128) ≡ c
two c = omega arith

three : (c : ℕ) → ((224 + c / 4096) - 224) * 4096 + (((128 + (c / 64) % 64) - 128) * 64 + ((128 + c % 64) - 128)) ≡ c
three c = omega arith

four : (c : ℕ) → ((240 + c / 262144) - 240) * 262144 + (((128 + (c / 4096) % 64) - 128) * 4096 + (((128 + (c / 64) % 64) - 128) * 64 + ((128 + c % 64) - 128))) ≡ c
four c = omega arith

by : (c : ℕ) (x y z : Bool) →
    decoded
    (cond x (c ∷ [])
    (cond y ((192 + c / 64) ∷ (128 + c % 64) ∷ [])
    (cond z ((224 + c / 4096) ∷ (128 + (c / 64) % 64) ∷ (128 + c % 64) ∷ [])
    ((240 + c / 262144) ∷ (128 + (c / 4096) % 64) ∷ (128 + (c / 64) % 64) ∷ (128 + c % 64) ∷ []))))
    ≡ c
by c true y z = refl
by c false true z = two c
by c false false true = three c
by c false false false = four c

pub decoded-encode : (c : ℕ) → decoded (encode_utf8 c) ≡ c
unfolding encode_utf8
decoded-encode c = by c (nat_lt c 128) (nat_lt c 2048) (nat_lt c 65536)

pub char_order-is : IsOrderOf nat_cmp char_meaning char_order
char_order-is x y = sym (λ i. nat_cmp (decoded-encode x i) (decoded-encode y i))

pub char_ranks : (P : Meaning → Type 0) → Ranks P char_order
char_ranks P = ranks_from_total P char_order (on_total (λ (a : Of P). decoded (text_of a.0)) nat_cmp_total)

same_text : (s t : List ℕ) (c d : ℕ) → s ≡ encode_utf8 c → t ≡ encode_utf8 d → decoded s ≡ decoded t → s ≡ t
same_text s t c d p q e =
    let same : c ≡ d = sym (ap decoded p ∙ decoded-encode c) ∙ e ∙ ap decoded q ∙ decoded-encode d in
    p ∙ ap encode_utf8 same ∙ sym q

pub chars_apart : TellsApart IsCharText char_order
chars_apart (text s) (text t) h k e = ap text (same_text s t h.0 k.0 h.2 k.2 (exact_unsigned (decoded s) (decoded t) e))
chars_apart (text s) _ h k e = absurd k
chars_apart _ y h k e = absurd h
