-- What stays of bytes with marks as more is appended.
use Rattle.std.proofs.Common.{◌≡◌, ◌≤◌, ◌<◌, ◌^◌, ℕ, List, [], ◌∷◌, ◌++◌, ◌+◌, ◌-◌, Result, Ok, Err, Bool, true, refl, ap, sym, subst, ◌∙◌, append_assoc, length, take, drop, max, arith, length-append}
use Rattle.std.proofs.lemmas.List.{take-append-le, drop-append-le}
use Rattle.std.specs.Prelude.{Vec, is_ok, is_err, if◌then◌else◌}
use Rattle.std.specs.declared.alloc.Global.{Global}
use Rattle.sw_tree.specs.Tree.{Tree, depth}
use Rattle.sw_tree.specs.declared.fail.SerFail.{SerFail}
use Rattle.sw_tree.specs.declared.fail.SerFail.TheVariants.{Unwritable, Memory}
use Rattle.sw_compact.specs.Spelling.{spelling}
use Rattle.sw_compact.specs.Lengths.{length_bytes}
use Rattle.sw_compact.specs.Inner.Appended.{opening_tag, IsTurned}
use Rattle.sw_compact.specs.Inner.Written.{Written, frame, frames, shown, with_part, longer, put, IsLaid, AreLaid}
use Rattle.sw_compact.specs.declared.version.Version.{Version}
use Rattle.sw_compact.specs.declared.writer.Open.{Open}

-- with so many parts and levels
abbrev pub grown : Open → ℕ → ℕ → Open
grown o parts height = record o { parts = parts; height = height }

-- where the tag stands within the bytes
tag_within : (v : Version) (b : List ℕ) (o : Open) → IsLaid v b o → o.tag ≤ length b
tag_within v b o h = omega (arith, h.start_in, h.tag_in)

taken-behind : (v : Version) (b s : List ℕ) (o : Open) → IsLaid v b o → take o.tag (b ++ s) ≡ take o.tag b
taken-behind v b s o h = take-append-le o.tag b s (tag_within v b o h)

pub parts_within : (v : Version) (b : List ℕ) (o : Open) (os : List Open) → AreLaid v b o os → o.parts ≤ length b
parts_within v b o [] h = h.parts_in
parts_within v b o (p ∷ os) h = omega (arith, h.0.parts_in)

pub shallow : (v : Version) (b : List ℕ) (o : Open) (os : List Open) → AreLaid v b o os → o.height ≤ 128
shallow v b o [] h = h.shallow
shallow v b o (p ∷ os) h = h.0.shallow

pub start_within : (v : Version) (b : List ℕ) (o : Open) (os : List Open) → AreLaid v b o os → o.start ≤ length b
start_within v b o [] h = omega (arith, h.start_is)
start_within v b o (p ∷ os) h = h.0.start_in

one-behind : (v : Version) (b s : List ℕ) (o : Open) (parts height : ℕ) → parts ≤ o.parts + length s → height ≤ 128 → IsLaid v b o → IsLaid v (b ++ s) (grown o parts height)
one-behind v b s o parts height k l h = record {
  start_in = omega (arith, length-append b s, h.start_in);
  tag_in = h.tag_in;
  told =
      drop-append-le o.tag b s (tag_within v b o h)
      ∙ ap (λ x. x ++ s) h.told
      ∙ append_assoc (opening_tag o.is_map ∷ length_bytes v o.told) (drop o.start b) s
      ∙ ap (λ x. opening_tag o.is_map ∷ length_bytes v o.told ++ x) (sym (drop-append-le o.start b s h.start_in));
  parts_in = omega (arith, length-append b s, h.parts_in, k);
  shallow = l;
}

-- each part that is new has a byte at least
pub laid-behind : (v : Version) (b s : List ℕ) (o : Open) (os : List Open) (parts height : ℕ) → parts ≤ o.parts + length s → height ≤ 128 → AreLaid v b o os → AreLaid v (b ++ s) (grown o parts height) os
laid-behind v b s o [] parts height k l h = record { start_is = h.start_is; parts_in = omega (arith, length-append b s, h.parts_in, k); shallow = l }
laid-behind v b s o (p ∷ os) parts height k l h = (one-behind v b s o parts height k l h.0, subst (λ x. AreLaid v x p os) (sym (taken-behind v b s o h.0)) h.1)

-- the same with more bytes behind
pub laid-more : (v : Version) (b s : List ℕ) (o : Open) (os : List Open) → AreLaid v b o os → AreLaid v (b ++ s) o os
laid-more v b s o os h = laid-behind v b s o os o.parts o.height (omega arith) (shallow v b o os h) h

frames-behind : (v : Version) (b s : List ℕ) (o : Open) (os : List Open) (h : ℕ) → AreLaid v b o os → frames (b ++ s) (longer o h) os ≡ frames b o os
frames-behind v b s o [] h laid = refl
frames-behind v b s o (p ∷ os) h laid = ap (λ x. frame x p ∷ frames x p os) (taken-behind v b s o laid.0)

-- a part is put in where its bytes are appended
pub shown-behind : (v : Version) (b s : List ℕ) (o : Open) (os : List Open) (h : ℕ) → AreLaid v b o os → shown v (b ++ s) (longer o h) os ≡ record { version = v; top = with_part s h (frame b o); outer = frames b o os }
shown-behind v b s o os h laid =
    ap (λ x. record { version = v; top = record { is_map = o.is_map; parts = o.parts + 1; height = max o.height h; bytes = x }; outer = frames (b ++ s) (longer o h) os }) (drop-append-le o.start b s (start_within v b o os laid))
    ∙ ap (λ x. record { version = v; top = with_part s h (frame b o); outer = x }) (frames-behind v b s o os h laid)

-- a vector has fewer items than 2^63
pub few_items : (w : Vec ℕ Global) → length w.items < 2 ^ 63
few_items w = omega (arith, w.ok.0, w.ok.1, w.small)

-- there is room for the count of a further part
pub counts_on : (v : Version) (b s : List ℕ) (o : Open) (os : List Open) (w : Vec ℕ Global) → AreLaid v b o os → w.items ≡ b ++ s → 1 ≤ length s → o.parts < 2 ^ 64 - 1
counts_on v b s o os w h e k = omega (arith, parts_within v b o os h, few_items w, ap length e, length-append b s)

-- want of memory leaves the marks right
pub laid-refused : (v : Version) (e : SerFail) (b b' s : List ℕ) (o : Open) (os : List Open) → AreLaid v b o os → IsTurned (Err e) b b' s → AreLaid v b' o os
laid-refused v (Unwritable x) b b' s o os h k = absurd k
laid-refused v Memory b b' s o os h k = subst (λ x. AreLaid v x o os) (sym k.1) (laid-more v b k.0 o os h)

-- a further part leaves the marks right
pub laid-put : (v : Version) (b b' s : List ℕ) (o o' : Open) (os : List Open) (h : ℕ) → AreLaid v b o os → b' ≡ b ++ s → o' ≡ longer o h → 1 ≤ length s → h ≤ 128 → AreLaid v b' o' os
laid-put v b b' s o o' os h laid e k some low =
    let both : max o.height h ≤ 128 = omega (arith, shallow v b o os laid) in
    let there = laid-behind v b s o os (o.parts + 1) (max o.height h) (omega arith) both laid in
    let moved = subst (λ x. AreLaid v x (longer o h) os) (sym e) there in
    subst (λ x. AreLaid v b' x os) (sym k) moved

-- what was put in stands there
pub put_there : (v : Version) (b b' s : List ℕ) (o o' : Open) (os : List Open) (t : Tree) (w : Written) → AreLaid v b o os → shown v b o os ≡ w → b' ≡ b ++ s → o' ≡ longer o (depth t) → s ≡ spelling v t [] → put t w ≡ shown v b' o' os
put_there v b b' s o o' os t w h is e k f =
    ap (put t) (sym is)
    ∙ sym (shown-behind v b (spelling v t []) o os (depth t) h)
    ∙ ap (λ x. shown v (b ++ x) (longer o (depth t)) os) (sym f)
    ∙ ap (λ x. shown v x (longer o (depth t)) os) (sym e)
    ∙ ap (λ x. shown v b' x os) (sym k)

-- where it is refused, a vector is as it was
pub refused-kept : {A E X : Type 0} (r : Result A E) (x : Bool) (with_it old new : List X) → x ≡ is_err r → x ≡ true → new ≡ (if is_ok r then with_it else old) → new ≡ old
refused-kept (Ok a) x with_it old new h k e = absurd (cc)
refused-kept (Err a) x with_it old new h k e = e

pub ruleset marking = (counts_on, laid-refused, laid-put, put_there)
