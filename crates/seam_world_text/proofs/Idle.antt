-- Who was dead before a round executes nothing in it.
use Rattle.std.proofs.Common.{◌≡◌, ℕ, Bool, true, false, cond, List, [], ◌∷◌, ◌++◌, refl, sym, ap, ◌∙◌, subst, inl, inr, append-nil}
use Rattle.std.specs.Prelude.{◌==◌, ◌&&◌, filter}
use Rattle.std.specs.List.{AllByRecursion, list_any}
use Rattle.std.proofs.lemmas.Bool.{eqb-true}
use Rattle.std.proofs.lemmas.List.Elements.{filter-append, filter_map-append}
use Rattle.seam_node_steps.specs.Prelude.{Part, is_from, same_part, same_sender, Call, Create, Sender}
use Rattle.seam_rule_rounds.specs.Prelude.{Header, Book, called, calls_of, destroys, accepted, was_dead, of_sender, IsFull}
use Rattle.seam_law_book.specs.Prelude.{as_begun, IsPresent, IsFitCall, HasFitRound}
use Rattle.seam_rule_lines.proofs.OneSender.{same_sender_of_itself}
use Rattle.seam_law_book.proofs.Present.{alive}
use Rattle.seam_world_text.proofs.Keeping.{MakesNew}
use Rattle.seam_world_text.proofs.Gathering.{nothing_more}

-- an order of which no sender has a call
pub no_call : (order : List Call) → ((s : Sender) → of_sender s order ≡ []) → order ≡ []
no_call [] none = refl
no_call (c ∷ order) none =
    let own = ap (λ b. cond b (c ∷ of_sender c.sender order) (of_sender c.sender order)) (same_sender_of_itself c.sender) in
    absurd (let z = sym own ∙ none c.sender in cc)

module _ (h : Header) (b : Book) (R : HasFitRound h b) (fresh : MakesNew b) (e : ℕ) (dead : was_dead b e ≡ true) where
  not_there : (c : Create) → IsPresent b e c → ⊥
  not_there c (inl lives) =
      let z = sym (ap (list_any (destroys e)) (append-nil b.past)) ∙ alive (as_begun b) e c lives in
      let y = sym dead ∙ z in cc
  not_there c (inr now) = let z = sym dead ∙ (fresh e c now).1 in cc

  -- no call of the round is for it
  module _ (q : Part) (s : Sender) where
    none_by : (c : Call) (cs : List Call) (x : Bool) → (c.entity == e) ≡ x → IsFitCall h b c → filter (is_from q e s) cs ≡ [] →
        cond (x && same_part c.part q && same_sender c.sender s) (c ∷ filter (is_from q e s) cs) (filter (is_from q e s) cs) ≡ []
    none_by c cs true at fit rest =
        absurd (not_there fit.made
        (let P : ℕ → Type 0 = λ n. IsPresent b n fit.made in subst P (eqb-true c.entity e at) fit.present))
    none_by c cs false at fit rest = rest

    none_for : (cs : List Call) → AllByRecursion (IsFitCall h b) cs → filter (is_from q e s) cs ≡ []
    none_for [] fit = refl
    none_for (c ∷ cs) fit = none_by c cs (c.entity == e) refl fit.0 (none_for cs fit.1)

    same_accepted : accepted b q e s ≡ accepted (as_begun b) q e s
    same_accepted =
        ap (filter (is_from q e s)) (filter_map-append called b.past b.current)
        ∙ filter-append (is_from q e s) (calls_of b.past) (calls_of b.current)
        ∙ ap (λ l. filter (is_from q e s) (calls_of b.past) ++ l) (none_for (calls_of b.current) R.calls)
        ∙ append-nil (filter (is_from q e s) (calls_of b.past))
        ∙ sym (ap (λ xs. filter (is_from q e s) (calls_of xs)) (append-nil b.past))

  module _ (q : Part) (before done : List Call) (was : IsFull (accepted (as_begun b) q e) before)
      (full : IsFull (accepted b q e) (before ++ done)) where
    nothing_of : (s : Sender) → of_sender s done ≡ []
    nothing_of s =
        nothing_more (of_sender s before) (of_sender s done)
        (sym (filter-append (λ c. same_sender c.sender s) before done) ∙ full s ∙ same_accepted q s ∙ sym (was s))

    pub idle : done ≡ []
    idle = no_call done nothing_of
