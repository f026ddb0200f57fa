-- After a round each base part is what the flat table has of it.
use Rattle.seam_law_book.proofs.Prelude.{◌≡◌, ℕ, ◌≤◌, List, [], ◌∷◌, ◌++◌, length, fold, Some, None, sym, ap, ◌∙◌, subst, arith, inl, inr}
use Rattle.seam_law_book.proofs.Prelude.{length-append, ◌⊎◌, AllByRecursion, none-some, Division, Value, after, type_of, Part, State, Deed}
use Rattle.seam_law_book.proofs.Prelude.{TypeDef, Call as CallData, Create, Batch, PartView, holders, loaded, World, Header, Book, entries}
use Rattle.seam_law_book.proofs.Prelude.{calls_of, created_as, accepted, flat, Orders, IsFull, ClientReplica, here_at, entity_flow}
use Rattle.seam_law_book.proofs.Prelude.{KeepsRecords, MayBeGiven, as_begun, IsPresent, HasFitRound, IsUntouched, frame_of, base_node}
use Rattle.seam_law_book.proofs.Prelude.{GoesWith, HasRoomForCalls, IsPartInTable, ArePartsInTable, BeginsPart, live_is_created, batch_of}
use Rattle.seam_law_book.proofs.Prelude.{Somewhere, Nowhere}
use Rattle.seam_defs.specs.declared.flags.Part.TheVariants as part
use Rattle.seam_defs.specs.declared.states.Deed.TheVariants as deed
use Rattle.seam_law_book.proofs.Untouched.{IsFromSender}
use Rattle.seam_law_book.proofs.Origins.{PartFrom, had, comes}
use Rattle.seam_law_book.proofs.Fitting.{others_none, made_is, new_number, part_type_by}
use Rattle.seam_law_book.proofs.Started.{part_comes, no_one}
use Rattle.seam_law_book.proofs.Accounts.{done_deed, flat_more}
use Rattle.seam_law_book.proofs.Table.{none_ordered}
use Rattle.seam_law_book.proofs.Bases.{Became}

-- what a deed makes of values does not depend on the position
module _ (t : TypeDef) where
  pub same_props : (s u : State) (d : Deed) → s.props ≡ u.props → (after t s d).props ≡ (after t u d).props
  same_props s u (deed.Move p) same = same
  same_props s u (deed.Method m args) same = ap (λ (ps : List Value). (after t (record s { props = ps }) (deed.Method m args)).props) same

  same_after : (s u : State) (ks : List CallData) → s.props ≡ u.props → (fold (done_deed t) s ks).props ≡ (fold (done_deed t) u ks).props
  same_after s u [] same = same
  same_after s u (k ∷ ks) same = same_after (done_deed t s k) (done_deed t u k) ks (same_props s u k.deed same)

module _ (h : Header) (some : 1 ≤ h.settings.bases) (b : Book) (t : Division) (clients : ℕ → ClientReplica) (w : World)
    (keeps : KeepsRecords (frame_of h t) clients w) (may : MayBeGiven (frame_of h t) w (batch_of h b)) (goes : GoesWith h (as_begun b) t w)
    (R : HasFitRound h b) (untouched : (e : ℕ) → created_as (as_begun b) e ≡ None → IsUntouched (as_begun b) e) (few : HasRoomForCalls b)
    (present : (e : ℕ) (c : Create) → IsPresent b e c → holders (loaded w (batch_of h b)) e ≡ 1)
    (senders : AllByRecursion IsFromSender (calls_of (entries (as_begun b)))) (orders : Orders)
    (full : (p : Part) (e : ℕ) → IsFull (accepted (as_begun b) p e) (orders p e)) (rows : ArePartsInTable h (as_begun b) orders w) (e : ℕ)
    (c : Create) (there : IsPresent b e c) where
  abbrev B : Batch
  B = batch_of h b

  abbrev before : List CallData
  before = orders part.Base e

  -- a live entity has a real as the batch is loaded
  pub began_somewhere : Somewhere e (loaded w B) ⊎ Nowhere e (loaded w B) → Somewhere e (loaded w B)
  began_somewhere (inl p) = p
  began_somewhere (inr n) =
      absurd (no_one h some b t clients w keeps may goes R untouched few present e n (present e c there))

  module _ (p : PartView) (here : ((entity_flow e (loaded w B)).slot (base_node h e)).base.part ≡ Some p) where
    abbrev origin : PartFrom (frame_of h t) w B.creates e (base_node h e) p
    origin = part_comes h some b t clients w keeps may goes R untouched few present e (base_node h e) p here

    start_by : PartFrom (frame_of h t) w B.creates e (base_node h e) p → IsPresent b e c → IsPartInTable h c before p
    start_by (had others q x at is) (inl lived) =
        let row = rows e q c at lived in
        record {
          version = sym (ap (λ (y : PartView). y.version) is) ∙ row.version;
          props = sym (ap (λ (y : PartView). y.state.props) is) ∙ row.props;
        }
    start_by (had others q x at is) (inr now) = absurd (none-some c (sym (others_none e B.creates others) ∙ now))
    start_by (comes x i y is) (inl lived) =
        absurd (none-some c (sym (new_number h b t w keeps.reals goes R untouched e x i) ∙ live_is_created (as_begun b) e c lived))
    start_by (comes x i y is) (inr now) =
        let none = none_ordered part.Base e (calls_of (entries (as_begun b))) senders
        ((untouched e (new_number h b t w keeps.reals goes R untouched e x i)).calls part.Base) before (full part.Base e) in
        subst (λ z. IsPartInTable h z before p) (made_is e B.creates x c i now) (record {
          version = sym (ap (λ (z : PartView). z.version) is) ∙ ap length (sym none);
          props = sym (ap (λ (z : PartView). z.state.props) is) ∙ ap (λ o. (flat h part.Base x o (length o)).props) (sym none);
        })

    idle_by : PartFrom (frame_of h t) w B.creates e (base_node h e) p → p.done ≡ []
    idle_by (had others q x at is) = sym (ap (λ (y : PartView). y.done) is)
    idle_by (comes x i y is) = sym (ap (λ (z : PartView). z.done) is)

    type : p.ty ≡ c.ty
    type = part_type_by h b t w keeps.reals goes R untouched e p origin c there

    pub begins_part : BeginsPart h c before p
    begins_part = record { type = type; idle = idle_by origin; row = start_by origin there }

    -- what it became after the load
    module _ (v : World)
        (became : Became (here_at (frame_of h B.tree) (base_node h e)) p ((entity_flow e v).slot (base_node h e)).base.part)
        (q : PartView) (at : ((entity_flow e v).slot (base_node h e)).base.part ≡ Some q) where
      same : became.part ≡ q
      same = let z = sym became.is ∙ at in cc

      calls_are : became.calls ≡ q.done
      calls_are =
          ap (λ l. l ++ became.calls) (sym (idle_by origin)) ∙ sym became.done ∙ ap (λ (y : PartView). y.done) same

      pub part_in_table : IsPartInTable h c (before ++ q.done) q
      part_in_table =
          let start = start_by origin there in
          record {
            version =
                let risen = became.version in
                let first = start.version in
                let long = length-append before became.calls in
                let total : became.part.version ≡ length (before ++ became.calls) = omega (arith, risen, first, long) in
                sym (ap (λ (y : PartView). y.version) same) ∙ total ∙ ap (λ l. length (before ++ l)) calls_are;
            props = sym (ap (λ (y : PartView). y.state.props) same) ∙ ap (λ (s : State). s.props) became.state
                ∙ ap (λ y. (fold (done_deed (type_of h.defs y)) p.state became.calls).props) type
                ∙ same_after (type_of h.defs c.ty) p.state (flat h part.Base c before (length before)) became.calls start.props
                ∙ ap (λ (s : State). s.props) (sym (flat_more h part.Base c before became.calls))
                ∙ ap (λ l. (flat h part.Base c (before ++ l) (length (before ++ l))).props) calls_are;
          }
