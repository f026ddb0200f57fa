-- In the phase of looks each client is shown exactly one look.
use Rattle.seam_law_clients.proofs.Prelude.{◌≡◌, ℕ, ◌+◌, ◌⊎◌, Bool, true, false, cond, eqb, ◌||◌, is_some, List, [], ◌∷◌, ◌++◌, length}
use Rattle.seam_law_clients.proofs.Prelude.{Option, None, Some, refl, sym, ap, ◌∙◌, subst, arith, inl, inr, option_map, slice_get, nat_cmp}
use Rattle.seam_law_clients.proofs.Prelude.{eq_by_cmp, nat_tests, length-append, append-nil, IsQuiet, Event, Shown, cell_count, RealView}
use Rattle.seam_law_clients.proofs.Prelude.{WitnessView, has_any, ProxyView, shown_of, CellView, known_to, cell_has_work, ready_entity}
use Rattle.seam_law_clients.proofs.Prelude.{ordered_at, look_loaded, NodeView, World, node_steps, node_has_work, Cell, Base, slot_at}
use Rattle.seam_law_clients.proofs.Prelude.{letters_of, Frame, Has, one_more_if, times, has_of, has_none, entity_flow, real_in, real_of}
use Rattle.seam_law_clients.proofs.Prelude.{home_of, sent_of, sent_by, proxy_of, order_in, shown_in, lines_in, shown_at, HasClient}
use Rattle.seam_law_clients.proofs.Prelude.{HasToldAtMost, RunsTo, real_at, IsBetweenRounds, HasSettledPart, HasPartsBetweenRounds}
use Rattle.seam_law_clients.proofs.Prelude.{HasSmallNumbers, AreInStep, AreFor, IsServed, bare, served, witness_looked, looked_by}
use Rattle.seam_law_clients.proofs.Prelude.{having_looked, HaveRoomToLook, ComesBetween, quiet_tasks, leads_nowhere, sole_here, neither}
use Rattle.seam_law_clients.proofs.Prelude.{none_left, look_framed, look_given, tick, client_leads, one_of, parts_ordered, most_told}
use Rattle.seam_law_clients.proofs.Prelude.{look_serves, look_numbers}
use Rattle.std.specs.FinMap as table
use Rattle.std.proofs.lemmas.List.{append_assoc}
use Rattle.seam_law_rounds.proofs.Looking as looking
use Rattle.seam_law_rounds.proofs.Serving.{HasItStill, HasNumbers, each_real}
use Rattle.seam_law_rounds.proofs.Idling.{still_then}
use Rattle.seam_law_clients.proofs.OneLook.{same_real}
use Rattle.seam_law_clients.proofs.LookCells.{is_in, IsMidway, known_to_same}
use Rattle.seam_law_clients.proofs.LookRuns.{unready, CellAt, ordered, told, midway, IsLooking}
use Rattle.seam_law_clients.proofs.LookEnds as ends
use Rattle.seam_law_clients.proofs.Starts.{none_of, all_told}
use Rattle.seam_law_clients.proofs.Tells.{Tells, AsksOfLook, tells_lead}

-- ---- who waits to look

tied : (e y : ℕ) → eq_by_cmp nat_cmp e y ≡ eqb y e
tied e y = grind (arith, nat_tests)

waits_in : (e n : ℕ) (ys : List ℕ) → times e ys ≡ n + 1 → is_in e ys ≡ true
waits_in e n [] is = absurd (omega (arith, is))
waits_in e n (y ∷ ys) is = ap (λ b. b || is_in e ys) (tied e y) ∙ by (eqb y e) (waits_in e n ys) is
  where
    by : (b : Bool) → (times e ys ≡ n + 1 → is_in e ys ≡ true) → one_more_if b (times e ys) ≡ n + 1 → (b || is_in e ys) ≡ true
    by true later h = refl
    by false later h = later h

same_cell : {c d : CellView} → Some (Cell c) ≡ Some (Cell d) → c ≡ d
same_cell is = cc

same_witness : {x y : WitnessView} → Some x ≡ Some y → x ≡ y
same_witness is = cc

no_looks : (c : CellView) → cell_has_work c ≡ false → c.looks ≡ []
no_looks c idle = none_left c.looks (neither (is_some (ready_entity c)) _ (neither (has_any c.survey) _ idle).1).1

-- where a real is
pub cell_at : (e k : ℕ) (u : World) (r : RealView) (o : Option NodeView) → slice_get u.nodes k ≡ o →
    real_in (slot_at (has_of e) has_none o) ≡ Some r → (c : CellView) × (slice_get u.nodes k ≡ Some (Cell c))
cell_at e k u r None at here = absurd (let z = here in cc)
cell_at e k u r (Some (Cell c)) at here = (c, at)
cell_at e k u r (Some (Base b)) at here = absurd (let z = here in cc)

-- ---- the client of an entity

module _ (f : Frame) (u : World) (between : IsBetweenRounds f u) (parts : HasPartsBetweenRounds f u) (small : HasSmallNumbers f u)
    (room : HaveRoomToLook u) (e home : ℕ) (r : RealView) (here : real_at e u home ≡ Some r) (v : WitnessView)
    (seen : r.witness ≡ Some v) (cell : CellView) (node : slice_get u.nodes home ≡ Some (Cell cell)) where
  abbrev start : World
  start = look_loaded u

  abbrev there : Has
  there = (entity_flow e start).slot (home_of f e)

  -- what was shown before, and what the look tells
  abbrev pub before : List Shown
  before = shown_at ((entity_flow e u).slot (home_of f e))

  abbrev pub look : List Shown
  look = shown_of cell.here r v (known_to cell e)

  had : HasSettledPart f e r.ty u
  had = parts.parts e home r here

  still : HasItStill f e r.ty r had.part start
  still =
      still_then f u between e home r here had small (ordered_at tick) (look_framed f u between.nodes tick refl)
      (λ k s at. look_given e f k cell_count s (quiet_tasks node_has_work u between.quiet k s at)) (λ s. parts_ordered e (tick ∷ []) s)
      (looking.calm f u between e home r here)

  proxy_by : (o : Option WitnessView) (b : Option ProxyView) (version : ℕ) → o ≡ Some v → AreFor o b version →
      (x : ProxyView) × (b ≡ Some x) × AreInStep v x version
  proxy_by None b version is are = absurd (let z = is in cc)
  proxy_by (Some w) None version is are = absurd are
  proxy_by (Some w) (Some x) version is are = (x, refl, subst (λ y. AreInStep y x version) (same_witness is) are)

  proxy : (x : ProxyView) × (had.part.proxy ≡ Some x) × AreInStep v x had.part.version
  proxy = proxy_by r.witness had.part.proxy had.part.version seen (parts.clients e home r here had.part had.here)

  same_lines : shown_at there ≡ before
  same_lines = ap (λ o. letters_of shown_in (lines_in (proxy_of o))) (still.here ∙ sym had.here)

  -- ---- from the load on

  module _ (first : ℕ) (client : HasClient f e r.ty first start) where
    next_is : v.sent + 1 ≡ first + length before
    next_is =
        let next = client.delivery.next in
        let same = ap (λ o. (order_in (proxy_of o)).next) still.here in
        let its = ap (λ o. (order_in o).next) proxy.1 in
        let step = proxy.2.next in
        let lines = ap length same_lines in
        omega (arith, next, same, its, step, lines)

    its : client.one.real.witness ≡ Some v
    its =
        one_of (λ q. q.witness ≡ Some v) e start client.one.place client.one.real client.one.one
        (each_real f e r.ty r had.part start still (λ q. q.witness ≡ Some v) seen)

    number : v.sent + 1 ≡ first + length client.issued
    number =
        let sent =
        one_of (λ q. sent_by q + 1 ≡ first + length client.issued) e start client.one.place client.one.real client.one.one client.told in
        let is = ap sent_of its in
        omega (arith, sent, is)

    issued_is : client.issued ≡ before
    issued_is =
        let many = ap length client.delivery.parts in
        let two = length-append (shown_at there) client.delivery.rest in
        let lines = ap length same_lines in
        let a = number in
        let b = next_is in
        let none = none_of client.delivery.rest (omega (arith, many, two, lines, a, b)) in
        client.delivery.parts ∙ ap (λ l. shown_at there ++ l) none ∙ append-nil (shown_at there) ∙ same_lines

    -- nothing more was told, or the look
    abbrev IsTold : List Shown → RealView → WitnessView → Type 0
    IsTold us q y = (us ≡ before) ⊎ (us ≡ before ++ look)

    begins : Tells f e r.ty first IsTold start
    begins = record {
      one = client.one;
      witness = v;
      has = its;
      told = client.issued;
      number = number;
      delivery = client.delivery;
      holds = inl issued_is;
    }

    no_look : (us : List Shown) → us ≡ before ++ look → v.sent + 1 ≡ first + length us → look ≡ []
    no_look us is due =
        let many = ap length is in
        let two = length-append before look in
        let b = next_is in
        none_of look (omega (arith, many, two, due, b))

    told_more : (us more : List Shown) → more ≡ look → v.sent + 1 ≡ first + length us → (us ≡ before) ⊎ (us ≡ before ++ look) →
        (us ++ more ≡ before) ⊎ (us ++ more ≡ before ++ look)
    told_more us more same due (inl is) = inr (ap (λ l. l ++ more) is ∙ ap (λ l. before ++ l) same)
    told_more us more same due (inr is) =
        inr (ap (λ l. us ++ l) (same ∙ no_look us is due) ∙ append-nil us ∙ is)

    -- ---- a look

    module _ (w : World) (k : ℕ) (d : CellView) (at_d : slice_get w.nodes k ≡ Some (Cell d)) (q : RealView) (at : real_at e w k ≡ Some q)
        (y : WitnessView) (q_seen : q.witness ≡ Some y) (n : ℕ) (waits : ((entity_flow e w).slot k).cell.looks ≡ n + 1) (us : List Shown)
        (due : y.sent + 1 ≡ first + length us) (so : IsTold us q y) (c : CellView) (at_c : slice_get u.nodes k ≡ Some (Cell c)) where
      idle : cell_has_work c ≡ false
      idle = quiet_tasks node_has_work u between.quiet k (Cell c) at_c

      node_is : (entity_flow e w).slot k ≡ has_of e (Cell d)
      node_is = ap (slot_at (has_of e) has_none) at_d

      many : times e d.looks ≡ n + 1
      many = sym (ap (λ (s : Has). s.cell.looks) node_is) ∙ waits

      waits_not : slice_get w.nodes k ≡ Some (Cell c) → ⊥
      waits_not too =
          let same : d ≡ c = same_cell (sym at_d ∙ too) in
          let none : times e d.looks ≡ 0 = ap (λ z. times e z.looks) same ∙ ap (times e) (no_looks c idle) in
          let m = many in
          omega (arith, none, m)

      looks_so : (rest : List ℕ) → IsMidway c d rest → (us ++ shown_of d.here q y (known_to d e) ≡ before)
          ⊎ (us ++ shown_of d.here q y (known_to d e) ≡ before ++ look)
      looks_so rest mid =
          let in_rest : is_in e rest ≡ true = waits_in e n rest (ap (times e) (sym mid.looks) ∙ many) in
          let has_d : table.get d.reals e ≡ Some q = sym (ap real_in node_is) ∙ at in
          let was : table.get c.reals e ≡ Some q =
          sym (mid.reals e ∙ ap (λ b. cond b (table.get c.reals e) (option_map (having_looked c e) (table.get c.reals e))) in_rest)
          ∙ has_d in
          let one = same_real f u between e home k r q here
          (ap (λ o. real_in (slot_at (has_of e) has_none o)) at_c ∙ was) in
          let there_too : c ≡ cell = same_cell (sym at_c ∙ ap (slice_get u.nodes) one.0 ∙ node) in
          let witness : y ≡ v = same_witness (sym q_seen ∙ ap (λ (z : RealView). z.witness) one.1 ∙ seen) in
          let same : shown_of d.here q y (known_to d e) ≡ look =
          ap (λ h. shown_of h q y (known_to d e)) mid.here
          ∙ ap (shown_of c.here q y) (known_to_same c (unready c idle) d rest mid e)
          ∙ ap (λ (z : CellView). shown_of z.here q y (known_to z e)) there_too
          ∙ ap (λ z. shown_of cell.here z y (known_to cell e)) one.1
          ∙ ap (λ z. shown_of cell.here r z (known_to cell e)) witness in
          told_more us (shown_of d.here q y (known_to d e)) same
          (subst (λ (z : WitnessView). z.sent + 1 ≡ first + length us) witness due) so

      looks_by : (os : List _) → CellAt f u between (ends.may f u between room) k c os w →
          (us ++ shown_of d.here q y (known_to d e) ≡ before) ⊎ (us ++ shown_of d.here q y (known_to d e) ≡ before ++ look)
      looks_by os (ordered is too empty) = absurd (waits_not too)
      looks_by os (told is too one others) = absurd (waits_not too)
      looks_by os (midway x rest is too mid empty) =
          looks_so rest (subst (λ z. IsMidway c z rest) (same_cell (sym too ∙ at_d)) mid)

    -- ---- on the way, and to the quiet end

    module _ (vs : List Event) (end : World) (run : RunsTo start vs end) where
      most : (w : World) → ComesBetween start end w → HasToldAtMost e (sent_by r + most_told) w
      most w m = (look_numbers f u between parts small m.before w m.from e home r here).most

      numbers : HasNumbers e (sent_by r + most_told) start end
      numbers = look_numbers f u between parts small vs end run e home r here

      asks : (w : World) → ComesBetween start end w → (k : ℕ) (d : CellView) → slice_get w.nodes k ≡ Some (Cell d) →
          AsksOfLook f e first IsTold w k d
      asks w m k d at_d at_here q at y q_seen n waits us due so =
          let phase : IsLooking f u between (ends.may f u between room) w = ends.looking f u between room m.before w m.from in
          let was = phase.there k d at_d in
          looks_by w k d at_d q at y q_seen n waits us due so was.0 was.1 phase.orders
          (phase.cells k was.0 (phase.frame.nodes k (Cell d) at_d).low was.1)

      tells_end : Tells f e r.ty first IsTold end
      tells_end =
          tells_lead f e r.ty first (sent_by r + most_told) IsTold (λ us q p y z so. so) start end most asks vs begins client still.spared
          numbers.room run

      -- what was shown is a first part of it
      first_part : (us : List Shown) → shown_at ((entity_flow e end).slot (home_of f e)) ++ us ≡ tells_end.told →
          (tells_end.told ≡ before) ⊎ (tells_end.told ≡ before ++ look) →
          (rest : List Shown) × (shown_at ((entity_flow e end).slot (home_of f e)) ++ rest ≡ before ++ look)
      first_part us parts (inr is) = (us, parts ∙ is)
      first_part us parts (inl is) = (
        us ++ look,
        sym (append_assoc (shown_at ((entity_flow e end).slot (home_of f e))) us look) ∙ ap (λ l. l ++ look) (parts ∙ is),
      )

      shown_part : (rest : List Shown) × (shown_at ((entity_flow e end).slot (home_of f e)) ++ rest ≡ before ++ look)
      shown_part = first_part tells_end.delivery.rest (sym tells_end.delivery.parts) tells_end.holds

      module _ (quiet : IsQuiet node_has_work end) where
        sent_end : v.sent + length look ≡ tells_end.witness.sent
        sent_end =
            let at = ends.looked f u between room vs end run quiet e home r here cell node in
            let same =
            (sole_here real_in real_of (entity_flow e end) tells_end.one.place tells_end.one.real (having_looked cell e r) home
            tells_end.one.one at).1 in
            let is : Some (witness_looked cell e r v) ≡ Some tells_end.witness =
            sym (ap (λ o. (looked_by cell e r o).witness) seen) ∙ ap (λ (z : RealView). z.witness) same ∙ tells_end.has in
            ap (λ (z : WitnessView). z.sent) (same_witness is)

        told_end : (us : List Shown) → us ≡ tells_end.told → (us ≡ before) ⊎ (us ≡ before ++ look) → us ≡ before ++ look
        told_end us same (inr is) = is
        told_end us same (inl is) =
            let a = sent_end in
            let b = tells_end.number in
            let c = next_is in
            let d = ap length same in
            let g = ap length is in
            let none = none_of look (omega (arith, a, b, c, d, g)) in
            is ∙ sym (append-nil before) ∙ ap (λ l. before ++ l) (sym none)

        shown_end : shown_at ((entity_flow e end).slot (home_of f e)) ≡ before ++ look
        shown_end =
            all_told f e r.ty first IsTold end tells_end
            (client_leads f e r.ty first (sent_by r + most_told) start end vs client still.spared numbers.room run numbers.most) quiet
            ∙ told_end tells_end.told refl tells_end.holds

  module _ (vs : List Event) (end : World) (run : RunsTo start vs end) where
    served_at : IsServed f e r.ty start
    served_at = look_serves f u between parts small [] start (leads_nowhere node_has_work node_steps start) e home r here

    part_by : IsServed f e r.ty start → (rest : List Shown) × (shown_at ((entity_flow e end).slot (home_of f e)) ++ rest ≡ before ++ look)
    part_by (bare none unseen) = absurd (let z = sym (none (home_of f e) had.part still.here) ∙ proxy.1 in cc)
    part_by (served first low client some) = shown_part first client vs end run

    pub shown_until : (rest : List Shown) × (shown_at ((entity_flow e end).slot (home_of f e)) ++ rest ≡ before ++ look)
    shown_until = part_by served_at

    module _ (quiet : IsQuiet node_has_work end) where
      shown_by : IsServed f e r.ty start → shown_at ((entity_flow e end).slot (home_of f e)) ≡ before ++ look
      shown_by (bare none unseen) = absurd (let z = sym (none (home_of f e) had.part still.here) ∙ proxy.1 in cc)
      shown_by (served first low client some) = shown_end first client vs end run quiet

      pub shown_once : shown_at ((entity_flow e end).slot (home_of f e)) ≡ before ++ look
      shown_once = shown_by served_at
