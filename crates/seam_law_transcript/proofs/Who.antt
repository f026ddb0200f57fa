-- Which entities have a client in a round: they are there in it, and those that get one were told nothing before.
use Rattle.seam_law_transcript.proofs.Prelude.{◌≡◌, ℕ, Bool, true, false, cond, List, [], ◌∷◌, Option, None, Some, refl, sym, ap, ◌∙◌}
use Rattle.seam_law_transcript.proofs.Prelude.{subst, inl, inr, is_some, IsTrue, not, ◌&&◌, ◌||◌, ◌==◌, AllByRecursion, list_any}
use Rattle.seam_law_transcript.proofs.Prelude.{filter_map, option_or, eqb-true, none-some, Create, ProxyView, Header, Book, entries}
use Rattle.seam_law_transcript.proofs.Prelude.{creates_of, created_as, live_as, destroys, joins, was_dead, is_shown, as_begun, IsPresent}
use Rattle.seam_law_transcript.proofs.Prelude.{GetsClient, IsNewEntity, IsUntouched, HasFitRound, made_among, joined, any_split, any_begun}
use Rattle.seam_law_transcript.proofs.Prelude.{created_split, created_begun, unjoined, alive, live_is_created, both, is_among}
use Rattle.seam_law_calls.proofs.Holds.{not_true}

module _ (b : Book) (e : ℕ) (c : Create) (made : created_as b e ≡ Some c) (shown : IsTrue (is_shown b e)) where
  first_two : (is_some (created_as b e) && list_any (joins e) (entries b)) ≡ true
  first_two = (both (is_some (created_as b e) && list_any (joins e) (entries b)) (not (was_dead b e)) shown).0

  pub was_joined : list_any (joins e) (entries b) ≡ true
  was_joined = (both (is_some (created_as b e)) (list_any (joins e) (entries b)) first_two).1

  not_dead : list_any (destroys e) b.past ≡ false
  not_dead =
      not_true (was_dead b e) (both (is_some (created_as b e) && list_any (joins e) (entries b)) (not (was_dead b e)) shown).1

  present_by : (o p : Option Create) → made_among (creates_of b.past) e ≡ o → made_among (creates_of b.current) e ≡ p →
      created_as b e ≡ Some c → IsPresent b e c
  present_by None p first second is =
      inr (sym (created_split b e ∙ ap (λ o. option_or o (made_among (creates_of b.current) e)) first) ∙ is)
  present_by (Some d) p first second is =
      inl (ap (λ x. cond x None (created_as (as_begun b) e)) (any_begun b e (destroys e) ∙ not_dead) ∙ created_begun b e ∙ first
      ∙ sym (created_split b e ∙ ap (λ o. option_or o (made_among (creates_of b.current) e)) first) ∙ is)

  pub is_present : IsPresent b e c
  is_present = present_by (made_among (creates_of b.past) e) (made_among (creates_of b.current) e) refl refl made

  -- one that does not die in the round lives at its end
  pub lives_on : list_any (destroys e) b.current ≡ false → live_as b e ≡ Some c
  lives_on not_now =
      ap (λ x. cond x None (created_as b e)) (any_split b e (destroys e) ∙ (λ i. not_dead i || not_now i)) ∙ made

-- ---- those that get a client

among_by : (P : ℕ → Type 0) (e d : ℕ) (y z : Bool) → (d == e) ≡ y → P d → (z ≡ true → P e) → (y || z) ≡ true → P e
among_by P e d true z at here rest is = subst P (eqb-true d e at) here
among_by P e d false z at here rest is = rest is

among_has : (P : ℕ → Type 0) (e : ℕ) (xs : List ℕ) → AllByRecursion P xs → is_among e xs ≡ true → P e
among_has P e [] all is = absurd (let z = is in cc)
among_has P e (d ∷ xs) all is = among_by P e d (d == e) (is_among e xs) refl all.0 (among_has P e xs all.1) is

made_by : (P : Create → Type 0) (e : ℕ) (x d : Create) (cs : List Create) (y : Bool) → (x.entity == e) ≡ y → P x →
    (made_among cs e ≡ Some d → P d × (d.entity ≡ e)) → cond y (Some x) (made_among cs e) ≡ Some d → P d × (d.entity ≡ e)
made_by P e x d cs true at here rest is =
    let same : x ≡ d = cc in (subst P same here, ap (λ (c : Create). c.entity) (sym same) ∙ eqb-true x.entity e at)
made_by P e x d cs false at here rest is = rest is

made_has : (P : Create → Type 0) (e : ℕ) (d : Create) (cs : List Create) → AllByRecursion P cs → made_among cs e ≡ Some d →
    P d × (d.entity ≡ e)
made_has P e d [] all is = absurd (none-some d is)
made_has P e d (x ∷ cs) all is = made_by P e x d cs (x.entity == e) refl all.0 (made_has P e d cs all.1) is

module _ (h : Header) (b : Book) (R : HasFitRound h b)
    (untouched : (e : ℕ) → created_as (as_begun b) e ≡ None → IsUntouched (as_begun b) e) where
  alone_by : (e : ℕ) (g : GetsClient b e) → IsPresent b e g.made → list_any (joins e) b.past ≡ false
  alone_by e g (inl lives) = (unjoined (as_begun b) e g.made lives g.clientless).0
  alone_by e g (inr now) =
      let d = made_has (IsNewEntity h b) e g.made (creates_of b.current) R.creates now in
      sym (any_begun b e (joins e)) ∙ (untouched e (subst (λ n. created_as (as_begun b) n ≡ None) d.1 d.0.new)).client

  -- one that gets a client in the round had none before
  pub unjoined_before : (e : ℕ) → is_among e (filter_map joined b.current) ≡ true → list_any (joins e) b.past ≡ false
  unjoined_before e is =
      let g = among_has (GetsClient b) e (filter_map joined b.current) R.clients is in alone_by e g g.present

pub client_by : (o : Option ProxyView) → is_some o ≡ true → (x : ProxyView) × (o ≡ Some x)
client_by None is = absurd (let z = is in cc)
client_by (Some x) is = (x, refl)

created_by : (o : Option Create) → is_some o ≡ true → (c : Create) × (o ≡ Some c)
created_by None is = absurd (let z = is in cc)
created_by (Some c) is = (c, refl)

-- one that has a client in the round was created
pub was_created : (b : Book) (e : ℕ) → IsTrue (is_shown b e) → (c : Create) × (created_as b e ≡ Some c)
was_created b e shown =
    let first = (both (is_some (created_as b e) && list_any (joins e) (entries b)) (not (was_dead b e)) shown).0 in
    created_by (created_as b e) (both (is_some (created_as b e)) (list_any (joins e) (entries b)) first).0

-- one that is there in the round was created so, and was not dead before
module _ (h : Header) (b : Book) (R : HasFitRound h b)
    (untouched : (e : ℕ) → created_as (as_begun b) e ≡ None → IsUntouched (as_begun b) e) (e : ℕ) (c : Create) where
  new_one : made_among (creates_of b.current) e ≡ Some c → created_as (as_begun b) e ≡ None
  new_one now =
      let d = made_has (IsNewEntity h b) e c (creates_of b.current) R.creates now in
      subst (λ n. created_as (as_begun b) n ≡ None) d.1 d.0.new

  pub there_created : IsPresent b e c → created_as b e ≡ Some c
  there_created (inl lives) =
      created_split b e
      ∙ ap (λ o. option_or o (made_among (creates_of b.current) e)) (sym (created_begun b e) ∙ live_is_created (as_begun b) e c lives)
  there_created (inr now) =
      created_split b e
      ∙ ap (λ o. option_or o (made_among (creates_of b.current) e)) (sym (created_begun b e) ∙ new_one now) ∙ now

  pub there_alive : IsPresent b e c → was_dead b e ≡ false
  there_alive (inl lives) = sym (any_begun b e (destroys e)) ∙ alive (as_begun b) e c lives
  there_alive (inr now) = sym (any_begun b e (destroys e)) ∙ (untouched e (new_one now)).end
