-- Where the entities of a loaded world come from, where the batch is that of a book's open round.
use Rattle.seam_law_book.proofs.Prelude.{◌≡◌, ℕ, ◌≤◌, Option, Some, None, refl, ap, ◌∙◌, arith, inl, inr, Division, Create, Batch, RealView}
use Rattle.seam_law_book.proofs.Prelude.{PartView, holders, World, loaded, Header, Book, created_as, ClientReplica, letters_of, entity_flow}
use Rattle.seam_law_book.proofs.Prelude.{real_of, real_at, KeepsRecords, MayBeGiven, may_begin, as_begun, made_among, IsPresent}
use Rattle.seam_law_book.proofs.Prelude.{HasFitRound, IsUntouched, frame_of, GoesWith, HasRoomForCalls, batch_of, none_counts, no_mail}
use Rattle.seam_law_book.proofs.Prelude.{Nowhere}
use Rattle.seam_law_book.proofs.Origins.{RealFrom, real_from, PartFrom, had, comes, part_from, IsCreate}
use Rattle.seam_law_book.proofs.Fitting.{found_by}

module _ (h : Header) (some : 1 ≤ h.settings.bases) (b : Book) (t : Division) (clients : ℕ → ClientReplica) (w : World)
    (keeps : KeepsRecords (frame_of h t) clients w) (may : MayBeGiven (frame_of h t) w (batch_of h b)) (goes : GoesWith h (as_begun b) t w)
    (R : HasFitRound h b) (untouched : (e : ℕ) → created_as (as_begun b) e ≡ None → IsUntouched (as_begun b) e) (few : HasRoomForCalls b)
    (present : (e : ℕ) (c : Create) → IsPresent b e c → holders (loaded w (batch_of h b)) e ≡ 1) where
  abbrev pub B : Batch
  B = batch_of h b

  pub real_comes : (e k : ℕ) (r : RealView) → real_at e (loaded w B) k ≡ Some r → RealFrom w B.creates e k r
  real_comes = real_from (frame_of h t) w B keeps.reals may.reals.tree may.reals.creates may.reals.spares may.reals.once

  pub part_comes : (e k : ℕ) (p : PartView) → ((entity_flow e (loaded w B)).slot k).base.part ≡ Some p →
      PartFrom (frame_of h t) w B.creates e k p
  part_comes = part_from (frame_of h t) w B keeps.reals may.reals.tree may.reals.creates may.reals.spares may.reals.once

  pub made_now : (e : ℕ) (x : Create) → IsCreate e B.creates x → made_among B.creates e ≡ Some x
  made_now e x i = ap (λ l. made_among l e) i.is ∙ found_by e x i.before i.later i.first i.entity

  pub nobody : (e : ℕ) → Nowhere e (loaded w B) → holders (loaded w B) e ≡ 0
  nobody e n = none_counts (loaded w B) e (record {
    slots = n;
    mail = λ x y. ap (letters_of real_of) (no_mail (frame_of h t) w B (may_begin keeps may) e x y);
  })

  pub no_one : (e : ℕ) → Nowhere e (loaded w B) → holders (loaded w B) e ≡ 1 → ⊥
  no_one e n one = let zero_ = nobody e n in omega (arith, one, zero_)

  pub no_part_there : (e : ℕ) → Nowhere e (loaded w B) → (k : ℕ) (o : Option PartView) →
      ((entity_flow e (loaded w B)).slot k).base.part ≡ o → o ≡ None
  no_part_there e n k None at = refl
  no_part_there e n k (Some p) at = absurd (by (part_comes e k p at))
    where
      by : PartFrom (frame_of h t) w B.creates e k p → ⊥
      by (had others q x there is) =
          let l = goes.parts e k q there in
          no_one e n (present e l.0 (inl l.1))
      by (comes x i y is) = no_one e n (present e x (inr (made_now e x i)))
