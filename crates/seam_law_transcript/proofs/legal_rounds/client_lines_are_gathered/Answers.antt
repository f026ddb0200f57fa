use Rattle.seam_law_transcript.proofs.Prelude.{◌≡◌, ℕ, Bool, false, List, [], ◌∷◌, map, Some, refl, sym, ap, ◌∙◌, subst, Contains, IsTrue}
use Rattle.seam_law_transcript.proofs.Prelude.{filter, All, AllByRecursion, Division, Create, Line, World, Header, created_as, is_shown}
use Rattle.seam_law_transcript.proofs.Prelude.{Standing, IsPlayed, lines_told, filter_has}
use Rattle.seam_law_transcript.proofs.Gathered.{Rises, rises, rises_kept, all_pass, all_in, all_of, lines_rise, lines_found, none_of}
use Rattle.seam_law_transcript.proofs.Gathered.{line_of_each}
use Rattle.seam_law_transcript.proofs.legal_rounds.client_lines_are_gathered.Goals as goal

module _ (h : Header) (s : Standing) (tree : Division) (w v : World) (p : IsPlayed h s tree w v) where
  abbrev shows : Create → Bool
  shows c = is_shown s.book c.entity

  abbrev told : ℕ → List Line
  told = lines_told h s.book p.round.called v

  -- the entities that have a client in the round
  abbrev clients : List Create
  clients = filter shows p.made

  in_order : Rises clients
  in_order = rises_kept shows p.made (rises p.made p.made_listed.rising)

  there : (c : Create) → created_as s.book c.entity ≡ Some c → IsTrue (is_shown s.book c.entity) → Contains clients c
  there c is shown = filter_has shows p.made c shown ((p.made_listed.exact c).1 is)

pub returns-clause-rising : goal.returns-clause-rising
returns-clause-rising c h s tree w v p bounds = lines_rise (told h s tree w v p) (clients h s tree w v p) (in_order h s tree w v p)

pub returns-clause-only : goal.returns-clause-only
returns-clause-only c h s tree w v p bounds =
    all_in (told h s tree w v p) (λ e. IsTrue (is_shown s.book e)) (clients h s tree w v p) (all_pass (shows h s tree w v p) p.made)

pub returns-clause-types : goal.returns-clause-types
returns-clause-types c h s tree w v p bounds x is shown =
    subst (All (λ l. l.ty ≡ x.ty))
    (sym (lines_found (told h s tree w v p) (clients h s tree w v p) x (in_order h s tree w v p) (there h s tree w v p x is shown)))
    (all_of (told h s tree w v p) (λ l. l.ty ≡ x.ty) x (told h s tree w v p x.entity) (λ l. refl))

pub returns-clause-told : goal.returns-clause-told
returns-clause-told c h s tree w v p bounds x is shown =
    ap (map (λ l. l.line))
    (lines_found (told h s tree w v p) (clients h s tree w v p) x (in_order h s tree w v p) (there h s tree w v p x is shown))
    ∙ line_of_each x (told h s tree w v p x.entity)

apart : (p : ℕ → Bool) (e : ℕ) (cs : List Create) → p e ≡ false → AllByRecursion (λ x. IsTrue (p x.entity)) cs →
    AllByRecursion (λ x. x.entity ≡ e → ⊥) cs
apart p e [] not all = tt
apart p e (x ∷ cs) not all = ((λ same. let z = sym not ∙ (ap p (sym same) ∙ all.0) in cc), apart p e cs not all.1)

pub returns-clause-none : goal.returns-clause-none
returns-clause-none c h s tree w v p bounds e not =
    ap (map (λ l. l.line))
    (none_of (told h s tree w v p) e (clients h s tree w v p)
    (apart (λ n. is_shown s.book n) e (clients h s tree w v p) not (all_pass (shows h s tree w v p) p.made)))
