-- Which base parts of a loaded world have a client.
use Rattle.seam_law_book.proofs.Prelude.{◌≡◌, ℕ, ◌≤◌, Bool, true, false, Some, None, refl, sym, ap, ◌∙◌, is_some, ◌&&◌, ◌||◌, list_any}
use Rattle.seam_law_book.proofs.Prelude.{Division, Create, Batch, RealView, PartView, holders, loaded, World, Header, Book, entries}
use Rattle.seam_law_book.proofs.Prelude.{created_as, live_as, has_client, joins, ClientReplica, entity_flow, KeepsRecords, MayBeGiven}
use Rattle.seam_law_book.proofs.Prelude.{as_begun, IsPresent, HasFitRound, IsUntouched, frame_of, base_node, GoesWith, HasRoomForCalls}
use Rattle.seam_law_book.proofs.Prelude.{batch_of}
use Rattle.seam_law_book.proofs.Present.{any_split, any_begun}
use Rattle.seam_law_book.proofs.Fitting.{new_number}
use Rattle.seam_law_book.proofs.Origins.{RealFrom, was, made}
use Rattle.seam_law_book.proofs.Parts.{both_seen, among_joined, client_kept, client_made}

or_turned : (x y : Bool) → (x || y) ≡ (y || x)
or_turned true true = refl
or_turned true false = refl
or_turned false true = refl
or_turned false false = refl

client_begun : (b : Book) (e : ℕ) (c : Create) → live_as (as_begun b) e ≡ Some c → has_client (as_begun b) e ≡ list_any (joins e) b.past
client_begun b e c lives = ap (λ o. is_some o && list_any (joins e) (entries (as_begun b))) lives ∙ any_begun b e (joins e)

module _ (h : Header) (some : 1 ≤ h.settings.bases) (b : Book) (t : Division) (clients : ℕ → ClientReplica) (w : World)
    (keeps : KeepsRecords (frame_of h t) clients w) (may : MayBeGiven (frame_of h t) w (batch_of h b)) (goes : GoesWith h (as_begun b) t w)
    (R : HasFitRound h b) (untouched : (e : ℕ) → created_as (as_begun b) e ≡ None → IsUntouched (as_begun b) e) (few : HasRoomForCalls b)
    (present : (e : ℕ) (c : Create) → IsPresent b e c → holders (loaded w (batch_of h b)) e ≡ 1) (e : ℕ) (p : PartView)
    (here : ((entity_flow e (loaded w (batch_of h b))).slot (base_node h e)).base.part ≡ Some p) where
  abbrev B : Batch
  B = batch_of h b

  begun_client : (k : ℕ) (r : RealView) → RealFrom w B.creates e k r →
      is_some p.proxy ≡ (list_any (joins e) b.current || list_any (joins e) b.past)
  begun_client k r (was others q x at is) =
      let l = goes.reals e k q at in
      let held = goes.live e l.0 l.1 in
      client_kept (frame_of h t) w B keeps.reals e (base_node h e) p here others held.base held.base_here
      ∙ ap (λ y. y || is_some held.base.proxy) (among_joined e b.current)
      ∙ ap (λ y. list_any (joins e) b.current || y)
      (sym (both_seen held.real.witness held.base.proxy held.base.version
      (keeps.parts.clients e held.cell held.real held.here held.base held.base_here)) ∙ held.client ∙ client_begun b e l.0 l.1)
  begun_client k r (made x i ty orders) =
      let none = new_number h b t w keeps.reals goes R untouched e x i in
      client_made (frame_of h t) w B keeps.reals e (base_node h e) p here
      (ap (λ a. a.base.part) (goes.known e none (base_node h e)))
      ∙ ap (λ y. y || false) (among_joined e b.current)
      ∙ ap (λ y. list_any (joins e) b.current || y) (sym (untouched e none).client ∙ any_begun b e (joins e))

  -- the part has one where the entity was given one, before or in the round
  pub client_given : (k : ℕ) (r : RealView) → RealFrom w B.creates e k r → is_some p.proxy ≡ list_any (joins e) (entries b)
  client_given k r from =
      begun_client k r from ∙ or_turned (list_any (joins e) b.current) (list_any (joins e) b.past) ∙ sym (any_split b e (joins e))
