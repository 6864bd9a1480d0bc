-- A log that grows by a part of the refusals at a time.
use Rattle.std.proofs.Common.{List, [], append-nil, refl, sym, ◌++◌, ◌≡◌, append_assoc, ap, ◌∙◌}
use Rattle.sw_tree.specs.declared.fail.Refusal.{Refusal}
use Rattle.sw_tree.specs.Logged.{HasGained, IsCut}

pub gained_none : (old gains : List Refusal) → HasGained old old gains gains
gained_none old gains = record { part = []; log = sym (append-nil old); split = refl }

pub gained_more : (old now new gains first rest : List Refusal) → HasGained old now gains (first ++ rest) → new ≡ now ++ first → HasGained old new gains rest
gained_more old now new gains first rest h e =
    record {
      part = h.part ++ first;
      log = e ∙ ap (λ l. l ++ first) h.log ∙ append_assoc old h.part first;
      split = h.split ∙ sym (append_assoc h.part first rest);
    }

pub gained_all : (old new gains : List Refusal) → HasGained old new gains [] → new ≡ old ++ gains
gained_all old new gains h = h.log ∙ ap (λ l. old ++ l) (sym (h.split ∙ append-nil h.part))

-- want of memory before anything is logged
pub cut_at_start : (old gains : List Refusal) → IsCut old old gains
cut_at_start old gains = record { rest = gains; gained = gained_none old gains }

pub cut_here : (old new gains rest : List Refusal) → HasGained old new gains rest → IsCut old new gains
cut_here old new gains rest h = record { rest = rest; gained = h }

-- or after all is logged
pub cut_at_end : (old new gains : List Refusal) → new ≡ old ++ gains → IsCut old new gains
cut_at_end old new gains e = record { rest = []; gained = record { part = gains; log = e; split = sym (append-nil gains) } }

pub cut_within : (old now new gains first rest : List Refusal) → HasGained old now gains (first ++ rest) → IsCut now new first → IsCut old new gains
cut_within old now new gains first rest h c =
    record {
      rest = c.rest ++ rest;
      gained = record {
        part = h.part ++ c.gained.part;
        log = c.gained.log ∙ ap (λ l. l ++ c.gained.part) h.log ∙ append_assoc old h.part c.gained.part;
        split = h.split ∙ ap (λ l. h.part ++ (l ++ rest)) c.gained.split ∙ ap (λ l. h.part ++ l) (append_assoc c.gained.part c.rest rest) ∙ sym (append_assoc h.part c.gained.part (c.rest ++ rest));
      };
    }

pub ruleset gains = (gained_none, gained_more, gained_all, cut_at_start, cut_at_end, cut_here, cut_within)
