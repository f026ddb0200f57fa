-- A round's text, piece by piece.
use Rattle.std.proofs.Common.{◌≡◌, ℕ, ◌+◌, List, ◌++◌, map, length, refl, sym, ap, ◌∙◌, append_assoc}
use Rattle.std.specs.Prelude.{codes, pos, Option, None, Some}
use Rattle.std.specs.List.{flat_map, fold, sum_by}
use Rattle.std.specs.BTreeMap.{BTreeMap, values}
use Rattle.std.proofs.lemmas.List.{length-map}
use Rattle.std.proofs.lemmas.List.Concat.{length-flat_map}
use Rattle.std.proofs.lemmas.List.Folds.{flat_map-map, fold-map}
use Rattle.seam_defs.specs.declared.flags.Part.TheVariants as part
use Rattle.seam_node_steps.specs.Prelude.{TypeDef, RealView, Map, World}
use Rattle.seam_rule_rounds.specs.Prelude.{DoneLine, HomeLine, number_text, done_text, home_text, base_text, RoundData, ghost_text}
use Rattle.seam_rule_rounds.specs.Prelude.{client_text, bounds_text}
use Rattle.seam_world_text.specs.Finding.{home_found, done_found, home_line_at, homes_found, bases_found, ghosts_found, position_at}
use Rattle.seam_world_text.specs.Finding.{positions_found}
use Rattle.seam_world_text.specs.RoundParts.{calls_text, ends_text, done_of_type, all_done_of, left_of, shown_of}
use Rattle.seam_world_text.specs.declared.farewells.Farewell.{Farewell}
use Rattle.seam_world_text.specs.Sums.{did_count, and_hp, and_hp_found}
use Rattle.seam_world_text.specs.declared.residents.Resident.{Resident}
use Rattle.seam_world_text.proofs.Gathering.{same_of_each, same_number_of_each, gathered_twice, map_gathered, folded_gathered}

module _ (m : BTreeMap ℕ Resident) (rs : List Resident) (is : values m ≡ rs) where
  -- what is gathered over the residents by number is gathered over their list
  pub of_list : {X : Type 0} (f : Resident → List X) → flat_map (λ x. f x.1) m.entries ≡ flat_map f rs
  of_list f = sym (flat_map-map f (λ (x : ℕ × Resident). x.1) m.entries) ∙ ap (flat_map f) is

  position_by : (e : ℕ) (o : Option (ℕ × RealView)) → position_at o ≡ map (λ (l : HomeLine). l.state.pos) (home_line_at e o)
  position_by e None = refl
  position_by e (Some p) = refl

  -- the positions of each are those of all home lines
  pub positions_are : (v : World) (homes : List HomeLine) → flat_map (λ r. homes_found v r.made.entity) rs ≡ homes →
      flat_map (λ x. positions_found v x.1.made.entity) m.entries ≡ map (λ l. l.state.pos) homes
  positions_are v homes same =
      of_list (λ r. positions_found v r.made.entity)
      ∙ same_of_each (λ (r : Resident). positions_found v r.made.entity) (λ r. map (λ l. l.state.pos) (homes_found v r.made.entity)) rs
      (λ r has. position_by r.made.entity (home_found v r.made.entity))
      ∙ sym (map_gathered (λ (l : HomeLine). l.state.pos) (λ (r : Resident). homes_found v r.made.entity) rs)
      ∙ ap (map (λ l. l.state.pos)) same

  -- ---- what is counted

  -- a sum over the residents by number is that over their list
  pub of_sum : (f : Resident → ℕ) → sum_by (λ x. f x.1) m.entries ≡ sum_by f rs
  of_sum f = sym (fold-map (λ n r. n + f r) (λ (x : ℕ × Resident). x.1) 0 m.entries) ∙ ap (sum_by f) is

  pub did_counted : (u : World) (did : List DoneLine) →
      flat_map (λ r. done_of_type r.made.ty (done_found part.Cell u r.made.entity)) rs ≡ did →
      sum_by (λ x. did_count u x.1) m.entries ≡ length did
  did_counted u did same =
      let lines : Resident → List DoneLine = λ r. done_of_type r.made.ty (done_found part.Cell u r.made.entity) in
      of_sum (did_count u)
      ∙ same_number_of_each (did_count u) (λ r. length (lines r)) rs (λ r has. sym (length-map (done_found part.Cell u r.made.entity) _))
      ∙ sym (length-flat_map lines rs) ∙ ap length same

  pub hp_summed : (v : World) (homes : List HomeLine) → flat_map (λ r. homes_found v r.made.entity) rs ≡ homes →
      fold (λ z x. and_hp_found v z x.1) (pos 0) m.entries ≡ fold and_hp (pos 0) homes
  hp_summed v homes same =
      folded_gathered and_hp (λ (x : ℕ × Resident). homes_found v x.1.made.entity) (pos 0) m.entries
      ∙ ap (fold and_hp (pos 0)) (of_list (λ r. homes_found v r.made.entity) ∙ same)

-- ---- what is written

-- the texts of the lines of each are those of all lines
of_lines : {L : Type 0} (rs : List Resident) (text : L → List ℕ) (lines : Resident → List L) (all : List L) → flat_map lines rs ≡ all →
    flat_map (λ r. flat_map text (lines r)) rs ≡ flat_map text all
of_lines rs text lines all same = sym (gathered_twice text lines rs) ∙ ap (flat_map text) same

module _ (rs : List Resident) (defs : List TypeDef) (d : RoundData) where
  pub calls_written : (u : World) →
      flat_map (λ r. done_of_type r.made.ty (done_found part.Cell u r.made.entity)) rs ≡ d.did →
      flat_map (λ r. done_of_type r.made.ty (done_found part.Base u r.made.entity)) rs ≡ d.dob → all_done_of defs u rs ≡ calls_text defs d
  calls_written u did dob =
      (λ i. of_lines rs (done_text (codes "did ") defs) (λ r. done_of_type r.made.ty (done_found part.Cell u r.made.entity)) d.did did i
      ++ of_lines rs (done_text (codes "dob ") defs) (λ r. done_of_type r.made.ty (done_found part.Base u r.made.entity)) d.dob dob i)

  pub ends_written : (v : World) (kept : Map Farewell) (number : ℕ) → number ≡ d.number →
      flat_map (λ r. homes_found v r.made.entity) rs ≡ d.homes → flat_map (λ r. bases_found v r.made.entity) rs ≡ d.bases →
      flat_map (λ r. ghosts_found v r.made.entity) rs ≡ d.ghosts →
      flat_map (shown_of defs kept v) rs ≡ flat_map (client_text defs) d.shown →
      (left_of defs kept v rs ++ bounds_text d.bounds) ++ number_text (codes "end ") number ≡ ends_text defs d
  ends_written v kept number same homes bases ghosts shown =
      let H = of_lines rs (home_text defs) (λ r. homes_found v r.made.entity) d.homes homes in
      let B = of_lines rs (base_text defs) (λ r. bases_found v r.made.entity) d.bases bases in
      let G = of_lines rs ghost_text (λ r. ghosts_found v r.made.entity) d.ghosts ghosts in
      (λ i. ((H i ++ (B i ++ (G i ++ shown i))) ++ bounds_text d.bounds) ++ number_text (codes "end ") (same i)) ∙ simp append_assoc
