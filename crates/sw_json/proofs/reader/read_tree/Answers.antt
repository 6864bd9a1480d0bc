use Rattle.std.proofs.Common.{◌≡◌, Bor, ℕ, ◌+◌, ◌-◌, ◌<◌, ◌^◌, List, length, sym, ap, ◌∙◌, arith}
use Rattle.std.proofs.lemmas.List.{length-reverse}
use Rattle.std.specs.Prelude.{Ok, reverse}
use Rattle.sw_tree.specs.Tree.{Tree}
use Rattle.sw_tree.specs.declared.fail.WireError.TheVariants.{Syntax}
use Rattle.sw_json.specs.Token.{Token}
use Rattle.sw_json.specs.Grammar.{skip}
use Rattle.sw_json.specs.Inner.Lexeme.{token_of}
use Rattle.sw_json.specs.Spelled.{spelled}
use Rattle.sw_json.specs.declared.lexer.Lexeme.{Lexeme}
use Rattle.sw_json.specs.Laws.Completion.{shorter}
use Rattle.sw_json.proofs.Completion.{tree_spelled, err_spelled, refused_by}
use Rattle.sw_tree.specs.Laws.Options.{some_is}
use Rattle.sw_json.proofs.Stands as stands
use Rattle.sw_json.proofs.Taking.{next_found, took, turn_taken, still_stands}
use Rattle.sw_json.proofs.reader.read_tree.Goals as goal

-- what a lexeme and what is behind it stand for
abbrev told : List ℕ → ℕ → Lexeme × Bor (List ℕ) → Token × List ℕ
told buffer at x = (token_of buffer at x.0, x.1.now)

pub tokens-init : goal.tokens-init
tokens-init c = rw (c.new-levels.ensures.items, c.reserve.ensures, c.new-builder.ensures) (stands.at_start c.args.bytes.now)

pub returns-in_default-token-clause-found : goal.returns-in_default-token-clause-found
returns-in_default-token-clause-found c =
    let was = still_stands c.args.bytes.now c.tokens.place (reverse c.tokens.levels.items) c.tokens.fault c.tokens.builder c.tokens.rest.now c.tokens.invariant _ c.skip_blanks-ahead.result.now (reverse c.take.new.levels.items) c.take.new.builder c.in-Ok.taken c.in-Ok.ensures c.in_default-taken.is in
    stands.none_judged c.args.bytes.now
    (stands.no_lexeme c.args.bytes.now c.tokens.place (reverse c.take.new.levels.items) c.tokens.fault c.take.new.builder c.tokens.rest.now was
    (stands.none_next (0 + length c.args.bytes.now) c.tokens.rest.now _ c.in-Ok-read_lexeme.token (told c.read_lexeme.new.buffer.items) c.skip_blanks-ahead.ensures c.in-Ok-read_lexeme.ensures.token c.in_default-token.is)
    (stands.some_left c.tokens.rest.now _ c.skip_blanks-ahead.ensures c.if-is_empty.ensures))

pub returns-in_default-token-clause-refused : goal.returns-in_default-token-clause-refused
returns-in_default-token-clause-refused c = err_spelled c.args.bytes.now Syntax (returns-in_default-token-clause-found c)

pub returns-in_default-stepped-clause-found : goal.returns-in_default-stepped-clause-found
returns-in_default-stepped-clause-found c =
    let was = still_stands c.args.bytes.now c.tokens.place (reverse c.tokens.levels.items) c.tokens.fault c.tokens.builder c.tokens.rest.now c.tokens.invariant _ c.skip_blanks-ahead.result.now (reverse c.take.new.levels.items) c.take.new.builder c.in-Ok.taken c.in-Ok.ensures c.in_default-taken.is in
    let end = 0 + length c.args.bytes.now in
    stands.none_judged c.args.bytes.now
    (stands.cant_come c.args.bytes.now c.tokens.place (reverse c.take.new.levels.items) c.tokens.fault c.take.new.builder c.tokens.rest.now was _ c.in-Some-token.behind.now
    (stands.token_next end c.tokens.rest.now _ c.in-Ok-read_lexeme.token (told c.read_lexeme.new.buffer.items) (c.in-Some-token.lexeme, c.in-Some-token.behind) c.skip_blanks-ahead.ensures c.in-Ok-read_lexeme.ensures.token c.in-Some-token.is)
    (stands.leads_none _ (reverse c.step.new.levels.items) c.in-Ok-step.stepped (c.in-Ok-step.ensures c.read_lexeme.new.buffer.items (end - length (skip c.tokens.rest.now))) c.in_default-stepped.is))

pub returns-in_default-stepped-clause-refused : goal.returns-in_default-stepped-clause-refused
returns-in_default-stepped-clause-refused c = err_spelled c.args.bytes.now Syntax (returns-in_default-stepped-clause-found c)

pub overflow_sub-at : goal.overflow_sub-at
overflow_sub-at c =
    omega (arith, stands.ahead_inside c.args.bytes.now c.tokens.place (reverse c.tokens.levels.items) c.tokens.fault c.tokens.builder c.tokens.rest.now c.tokens.invariant, ap length c.skip_blanks-ahead.ensures)

pub take-requires : goal.take-requires
take-requires c =
    let off : length c.args.bytes.now - length c.skip_blanks-ahead.result.now ≡ 0 + length c.args.bytes.now - length (skip c.tokens.rest.now) = omega (arith, ap length c.skip_blanks-ahead.ensures) in
    let small : length c.args.bytes.now < 2 ^ 64 = omega arith in
    record {
      can = λ token behind next later found leads none.
          stands.can_build c.args.bytes.now c.tokens.place (reverse c.tokens.levels.items) c.tokens.fault c.tokens.builder c.tokens.rest.now c.tokens.invariant token behind next later
          (next_found c.args.bytes.now c.tokens.rest.now _ c.skip_blanks-ahead.result.now token behind c.skip_blanks-ahead.ensures off found) leads small none;
    }

pub tokens-smaller-in-Some : goal.tokens-smaller-in-Some
tokens-smaller-in-Some c =
    let off : length c.args.bytes.now - length c.skip_blanks-ahead.result.now ≡ 0 + length c.args.bytes.now - length (skip c.tokens.rest.now) = omega (arith, ap length c.skip_blanks-ahead.ensures) in
    let took = took _ c.tokens.place (reverse c.tokens.levels.items) (reverse c.take.new.levels.items) c.skip_blanks-ahead.result.now c.tokens.fault c.tokens.builder c.take.new.builder c.in-Ok.taken (c.in-Some.next, c.in-Some.behind) c.in-Ok.ensures c.in-Some.is in
    shorter (0 + length c.args.bytes.now) c.tokens.rest.now (took.token, c.in-Some.behind.now)
    (next_found c.args.bytes.now c.tokens.rest.now _ c.skip_blanks-ahead.result.now took.token c.in-Some.behind.now c.skip_blanks-ahead.ensures off took.found)

pub tokens-preserved-in-Some : goal.tokens-preserved-in-Some
tokens-preserved-in-Some c =
    let off : length c.args.bytes.now - length c.skip_blanks-ahead.result.now ≡ 0 + length c.args.bytes.now - length (skip c.tokens.rest.now) = omega (arith, ap length c.skip_blanks-ahead.ensures) in
    turn_taken c.args.bytes.now c.tokens.place (reverse c.tokens.levels.items) c.tokens.fault c.tokens.builder c.tokens.rest.now c.tokens.invariant _ c.skip_blanks-ahead.result.now (reverse c.take.new.levels.items) c.take.new.builder c.in-Some.next c.in-Some.behind.now c.skip_blanks-ahead.ensures off
    (took _ c.tokens.place (reverse c.tokens.levels.items) (reverse c.take.new.levels.items) c.skip_blanks-ahead.result.now c.tokens.fault c.tokens.builder c.take.new.builder c.in-Ok.taken (c.in-Some.next, c.in-Some.behind) c.in-Ok.ensures c.in-Some.is)

pub keep-requires-clause-can : goal.keep-requires-clause-can
keep-requires-clause-can c =
    let was = still_stands c.args.bytes.now c.tokens.place (reverse c.tokens.levels.items) c.tokens.fault c.tokens.builder c.tokens.rest.now c.tokens.invariant _ c.skip_blanks-ahead.result.now (reverse c.take.new.levels.items) c.take.new.builder c.in-Ok.taken c.in-Ok.ensures c.in_default-taken.is in
    let end = 0 + length c.args.bytes.now in
    let off : end - length (skip c.tokens.rest.now) ≡ length c.args.bytes.now - length c.skip_blanks-ahead.result.now = omega (arith, ap length c.skip_blanks-ahead.ensures) in
    let small : length c.args.bytes.now < 2 ^ 64 = omega arith in
    let depth : length (reverse c.take.new.levels.items) ≡ c.len-depth.result = omega (arith, length-reverse c.take.new.levels.items, c.len-depth.ensures, c.take.new.levels.ok) in
    let token = λ (buffer : List ℕ) (at : ℕ). token_of buffer at c.in-Some-token.lexeme in
    λ z.
    rw (c.deref.ensures.value, ← off, ← depth)
    (stands.can_build c.args.bytes.now c.tokens.place (reverse c.take.new.levels.items) c.tokens.fault c.take.new.builder c.tokens.rest.now was _ c.in-Some-token.behind.now c.in-Some-stepped.next (reverse c.step.new.levels.items)
    (stands.token_next end c.tokens.rest.now _ c.in-Ok-read_lexeme.token (told c.read_lexeme.new.buffer.items) (c.in-Some-token.lexeme, c.in-Some-token.behind) c.skip_blanks-ahead.ensures c.in-Ok-read_lexeme.ensures.token c.in-Some-token.is)
    (stands.leads_some _ (reverse c.step.new.levels.items) c.in-Ok-step.stepped c.in-Some-stepped.next (c.in-Ok-step.ensures c.read_lexeme.new.buffer.items (end - length (skip c.tokens.rest.now))) c.in-Some-stepped.is) small z)

pub tokens-smaller : goal.tokens-smaller
tokens-smaller c =
    shorter (0 + length c.args.bytes.now) c.tokens.rest.now _
    (stands.token_next (0 + length c.args.bytes.now) c.tokens.rest.now _ c.in-Ok-read_lexeme.token (told c.read_lexeme.new.buffer.items) (c.in-Some-token.lexeme, c.in-Some-token.behind) c.skip_blanks-ahead.ensures c.in-Ok-read_lexeme.ensures.token c.in-Some-token.is)

pub tokens-preserved : goal.tokens-preserved
tokens-preserved c =
    let was = still_stands c.args.bytes.now c.tokens.place (reverse c.tokens.levels.items) c.tokens.fault c.tokens.builder c.tokens.rest.now c.tokens.invariant _ c.skip_blanks-ahead.result.now (reverse c.take.new.levels.items) c.take.new.builder c.in-Ok.taken c.in-Ok.ensures c.in_default-taken.is in
    let end = 0 + length c.args.bytes.now in
    let off : length c.args.bytes.now - length c.skip_blanks-ahead.result.now ≡ end - length (skip c.tokens.rest.now) = omega (arith, ap length c.skip_blanks-ahead.ensures) in
    let depth : c.len-depth.result ≡ length (reverse c.take.new.levels.items) = omega (arith, length-reverse c.take.new.levels.items, c.len-depth.ensures, c.take.new.levels.ok) in
    stands.turn c.args.bytes.now c.tokens.place (reverse c.take.new.levels.items) c.tokens.fault c.take.new.builder c.tokens.rest.now was _ c.in-Some-token.behind.now c.in-Some-stepped.next (reverse c.step.new.levels.items) c.in-Ok-keep.first c.keep.new.builder
    (stands.token_next end c.tokens.rest.now _ c.in-Ok-read_lexeme.token (told c.read_lexeme.new.buffer.items) (c.in-Some-token.lexeme, c.in-Some-token.behind) c.skip_blanks-ahead.ensures c.in-Ok-read_lexeme.ensures.token c.in-Some-token.is)
    (stands.leads_some _ (reverse c.step.new.levels.items) c.in-Ok-step.stepped c.in-Some-stepped.next (c.in-Ok-step.ensures c.read_lexeme.new.buffer.items (end - length (skip c.tokens.rest.now))) c.in-Some-stepped.is)
    (rw (c.deref.ensures.value, off, depth) at c.in-Ok-keep.ensures)

pub returns-then-not-is_end-clause-found : goal.returns-then-not-is_end-clause-found
returns-then-not-is_end-clause-found c =
    stands.none_judged c.args.bytes.now
    (stands.not_end c.args.bytes.now c.tokens.place (reverse c.tokens.levels.items) c.tokens.fault c.tokens.builder c.tokens.rest.now c.tokens.invariant
    (stands.nothing_left c.tokens.rest.now _ c.skip_blanks-ahead.ensures c.if-is_empty.ensures)
    (sym c.is_end.ensures ∙ grind arith))

pub returns-then-not-is_end-clause-refused : goal.returns-then-not-is_end-clause-refused
returns-then-not-is_end-clause-refused c = err_spelled c.args.bytes.now Syntax (returns-then-not-is_end-clause-found c)

pub returns-in-Some-fault-clause-found : goal.returns-in-Some-fault-clause-found
returns-in-Some-fault-clause-found c =
    stands.found_err c.in-Some-fault.fault (spelled c.args.bytes.now)
    (stands.faulty c.args.bytes.now c.tokens.place (reverse c.tokens.levels.items) c.tokens.fault c.tokens.builder c.tokens.rest.now c.tokens.invariant c.in-Some-fault.fault
    (stands.nothing_left c.tokens.rest.now _ c.skip_blanks-ahead.ensures c.if-is_empty.ensures)
    (sym c.is_end.ensures ∙ c.if-not-is_end.false) c.in-Some-fault.is)

pub returns-in-Some-fault-clause-refused : goal.returns-in-Some-fault-clause-refused
returns-in-Some-fault-clause-refused c =
    refused_by c.args.bytes.now c.in-Some-fault.fault
    (stands.faulty c.args.bytes.now c.tokens.place (reverse c.tokens.levels.items) c.tokens.fault c.tokens.builder c.tokens.rest.now c.tokens.invariant c.in-Some-fault.fault
    (stands.nothing_left c.tokens.rest.now _ c.skip_blanks-ahead.ensures c.if-is_empty.ensures)
    (sym c.is_end.ensures ∙ c.if-not-is_end.false) c.in-Some-fault.is)

pub finish-requires : goal.finish-requires
finish-requires c =
    let g = stands.good c.args.bytes.now c.tokens.place (reverse c.tokens.levels.items) c.tokens.fault c.tokens.builder c.tokens.rest.now c.tokens.invariant
    (stands.nothing_left c.tokens.rest.now _ c.skip_blanks-ahead.ensures c.if-is_empty.ensures)
    (sym c.is_end.ensures ∙ c.if-not-is_end.false) c.in_default-fault.is in
    record { root = stands.root_some c.tokens.builder.root g.0 g.2 }

pub returns-clause-found : goal.returns-clause-found
returns-clause-found c =
    let g = stands.good c.args.bytes.now c.tokens.place (reverse c.tokens.levels.items) c.tokens.fault c.tokens.builder c.tokens.rest.now c.tokens.invariant
    (stands.nothing_left c.tokens.rest.now _ c.skip_blanks-ahead.ensures c.if-is_empty.ensures)
    (sym c.is_end.ensures ∙ c.if-not-is_end.false) c.in_default-fault.is in
    rw c.in-Ok-shared.ensures (g.1 ∙ ap (λ (t : Tree). Ok t) (sym (some_is (c.finish.ensures.tree ∙ g.2))))

pub returns-clause-tree : goal.returns-clause-tree
returns-clause-tree c = tree_spelled c.args.bytes.now c.in-Ok-shared.document.tree (returns-clause-found c)

pub returns-clause-side : goal.returns-clause-side
returns-clause-side c =
    let g = stands.good c.args.bytes.now c.tokens.place (reverse c.tokens.levels.items) c.tokens.fault c.tokens.builder c.tokens.rest.now c.tokens.invariant
    (stands.nothing_left c.tokens.rest.now _ c.skip_blanks-ahead.ensures c.if-is_empty.ensures)
    (sym c.is_end.ensures ∙ c.if-not-is_end.false) c.in_default-fault.is in
    rw (c.in-Ok-shared.ensures, c.finish.ensures.side) g.3
