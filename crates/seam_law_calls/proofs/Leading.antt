-- Whatever leads to a cell still leads to one after an event.
use Rattle.seam_law_calls.proofs.Prelude.{◌≡◌, ℕ, Bool, true, false, not, ◌&&◌, ◌||◌, ◌⊎◌, List, [], ◌∷◌, ◌++◌, map, Option, None, Some}
use Rattle.seam_law_calls.proofs.Prelude.{refl, sym, ap, ◌∙◌, subst, inl, inr, AllByRecursion, cases_eq, items_to, Call as CallData}
use Rattle.seam_law_calls.proofs.Prelude.{RealView, Boundaries, Msg, Hand, Current, NextPlace, RouteView, Flow, Goes, comes, IsSilent, Has}
use Rattle.seam_law_calls.proofs.Prelude.{is_visited, is_call, is_hand, has_hand, follow, NamesVisited, AllLead, Rest, whole, tail, More}
use Rattle.seam_law_calls.proofs.Prelude.{own, none, change, came, one_here, one_there, sent_kept, items_fit}
use Rattle.seam_machine.proofs.SendLemmas.{items_to-append}
use Rattle.seam_entity.specs.declared.message.Msg.TheVariants.{Call}
use Rattle.seam_law_calls.proofs.Holds.{both, either, or_left, or_right}
use Rattle.seam_law_calls.proofs.Following.{follow_more, follow_append, has_append, has_later}
use Rattle.seam_law_calls.proofs.WayMoves.{kept, call_in, route_in, Way, by_next, by_route, Sends, plain, tells, one_call, Leads}

hand_of : (m : Msg) → is_hand m ≡ true → (r : RealView) × (bs : Option Boundaries) × (m ≡ Hand r bs)
hand_of (Hand r bs) h = (r, bs, refl)
hand_of _ h = cc

no_call_by : (m : Msg) (b : Bool) → is_call m ≡ b → call_in m ≡ None → is_call m ≡ false
no_call_by m true c h = let z = sym (ap kept c) ∙ h in cc
no_call_by m false c h = c

-- where no call is, all follow
pub none_follow : (v : Bool) (ms : List Msg) → AllByRecursion (λ m. is_call m ≡ false) ms → follow v ms ≡ true
none_follow v [] h = refl
none_follow v (m ∷ ms) h = by (is_call m) h.0 (none_follow (v || is_hand m) ms h.1)
  where
    by : (b : Bool) → b ≡ false → follow (v || is_hand m) ms ≡ true → ((not b || v) && follow (v || is_hand m) ms) ≡ true
    by true c more = cc
    by false c more = more

silent_calls : (ps : List (ℕ × Msg)) → IsSilent call_in ps → AllByRecursion (λ p. is_call p.1 ≡ false) ps
silent_calls [] h = tt
silent_calls (p ∷ ps) h = (no_call_by p.1 (is_call p.1) refl h.0, silent_calls ps h.1)

no_route : (m : Msg) → route_in m ≡ None → (e j g : ℕ) → m ≡ Current e j g → ⊥
no_route m h e j g is = let z = sym (ap route_in is) ∙ h in cc

module _ {Moves : ℕ → Has → Option Msg → Has → (ℕ → List Msg) → Type 0} {w v : Flow Has Msg} (g : Goes Moves w v) (sent : List (ℕ × Msg))
    (items : (j : ℕ) → g.out j ≡ items_to j sent) (lead : Leads g.k (w.slot g.k) (comes g.input) (v.slot g.k) sent) (all : AllLead w) where
  stays : (j : ℕ) → is_visited (w.slot j) ≡ true → is_visited (v.slot j) ≡ true
  stays j h = elim (cases_eq j g.k) [
    | inl is ↦ ap (λ x. is_visited (v.slot x)) is ∙ lead.visited (sym (ap (λ x. is_visited (w.slot x)) is) ∙ h)
    | inr n ↦ ap is_visited (g.others j n) ∙ h
  ]

  -- the letter that came is a hand-over: the real is here
  hand_lands : (p : ℕ × Msg) → g.input ≡ Some p → is_hand p.1 ≡ true → is_visited (v.slot g.k) ≡ true
  hand_lands p at h =
      let r = hand_of p.1 h in
      lead.landed r.0 r.1 (ap comes at ∙ ap Some r.2)

  -- ---- routes

  names_by : (m : Msg) → NamesVisited w m → NamesVisited v m
  names_by m h e j gen is = stays j (h e j gen is)

  names_all : (ms : List Msg) → AllByRecursion (NamesVisited w) ms → AllByRecursion (NamesVisited v) ms
  names_all [] h = tt
  names_all (m ∷ ms) h = (names_by m h.0, names_all ms h.1)

  silent_names : (ps : List (ℕ × Msg)) → IsSilent route_in ps → AllByRecursion (λ p. NamesVisited v p.1) ps
  silent_names [] h = tt
  silent_names (p ∷ ps) h = ((λ e j gen is. absurd (no_route p.1 h.0 e j gen is)), silent_names ps h.1)

  told_names : (r : RealView) (ks : List ℕ) → is_visited (v.slot g.k) ≡ true →
      AllByRecursion {X = ℕ × Msg} (λ p. NamesVisited v p.1) (map (λ b. (b, Current r.entity g.k r.generation)) ks)
  told_names r [] h = tt
  told_names r (b ∷ ks) h =
      ((λ e j gen is. let z : g.k ≡ j = cc in subst (λ x. is_visited (v.slot x) ≡ true) z h), told_names r ks h)

  sent_names : Sends g.k (w.slot g.k) (comes g.input) (v.slot g.k) sent → AllByRecursion (λ p. NamesVisited v p.1) sent
  sent_names (plain a b) = silent_names sent b
  sent_names (tells r ks is h) = subst (AllByRecursion (λ p. NamesVisited v p.1)) (sym is) (told_names r ks h)
  sent_names (one_call c j is way) =
      subst (AllByRecursion (λ p. NamesVisited v p.1)) (sym is) ((λ e x gen at. absurd (let z = at in cc)), tt)

  currents_next : (a k : ℕ) → AllByRecursion (NamesVisited v) (v.mail a k)
  currents_next =
      sent_kept (λ a k m. NamesVisited v m) g sent items (λ a k. names_all (w.mail a k) (all.currents a k)) (sent_names lead.sends)

  route_here : (r : RouteView) → (w.slot g.k).base.route ≡ Some r ⊎ ((e : ℕ) × (comes g.input ≡ Some (Current e r.cell r.generation))) →
      is_visited (v.slot r.cell) ≡ true
  route_here r (inl h) = stays r.cell (all.routes g.k r h)
  route_here r (inr p) =
      let names = (came (λ a k m. NamesVisited w m) g (Current p.0 r.cell r.generation) p.1 all.currents).1 in
      stays r.cell (names p.0 r.cell r.generation refl)

  routes_next : (k : ℕ) (r : RouteView) → (v.slot k).base.route ≡ Some r → is_visited (v.slot r.cell) ≡ true
  routes_next k r h = elim (cases_eq k g.k) [
    | inl is ↦ route_here r (lead.route r (sym (ap (λ x. (v.slot x).base.route) is) ∙ h))
    | inr n ↦ stays r.cell (all.routes k r (sym (ap (λ x. x.base.route) (g.others k n)) ∙ h))
  ]

  -- ---- next places

  rest_has : (x y : ℕ) (l : List Msg) → Rest w g.k g.input x y l → has_hand (w.mail x y) ≡ true →
      (has_hand l ≡ true) ⊎ (is_visited (v.slot y) ≡ true)
  rest_has x y l (whole is n) h = inl (ap has_hand is ∙ h)
  rest_has x y l (tail p at a b is) h = by (either (is_hand p.1) (has_hand l) (sym (ap has_hand is) ∙ h))
    where
      by : (is_hand p.1 ≡ true) ⊎ (has_hand l ≡ true) → (has_hand l ≡ true) ⊎ (is_visited (v.slot y) ≡ true)
      by (inl hand) = inr (ap (λ z. is_visited (v.slot z)) b ∙ hand_lands p at hand)
      by (inr more) = inl more

  next_kept : (k c : ℕ) → (is_visited (w.slot c) || has_hand (w.mail k c)) ≡ true → (is_visited (v.slot c) || has_hand (v.mail k c)) ≡ true
  next_kept k c h = by (either (is_visited (w.slot c)) (has_hand (w.mail k c)) h)
    where
      there : (has_hand (change g k c).l ≡ true) ⊎ (is_visited (v.slot c) ≡ true) → (is_visited (v.slot c) || has_hand (v.mail k c)) ≡ true
      there (inl more) =
          or_right (is_visited (v.slot c)) (has_hand (v.mail k c))
          (ap has_hand (change g k c).is ∙ has_append (change g k c).l (change g k c).m more)
      there (inr seen) = or_left (is_visited (v.slot c)) (has_hand (v.mail k c)) seen

      by : (is_visited (w.slot c) ≡ true) ⊎ (has_hand (w.mail k c) ≡ true) → (is_visited (v.slot c) || has_hand (v.mail k c)) ≡ true
      by (inl seen) = or_left (is_visited (v.slot c)) (has_hand (v.mail k c)) (stays c seen)
      by (inr more) = there (rest_has k c (change g k c).l (change g k c).rest more)

  more_has : (c : ℕ) (m : List Msg) → More g.out g.k g.k c m → has_hand (g.out c) ≡ true → has_hand m ≡ true
  more_has c m (own a is) h = ap has_hand is ∙ h
  more_has c m (none n is) h = absurd (n refl)

  new_has : (c : ℕ) (xs : List (ℕ × Msg)) (r : RealView) → sent ≡ xs ++ (c, Hand r None) ∷ [] → has_hand (g.out c) ≡ true
  new_has c xs r is =
      ap has_hand (items c ∙ (ap (items_to c) is ∙ items_to-append c xs ((c, Hand r None) ∷ [])))
      ∙ has_later (items_to c xs) (items_to c ((c, Hand r None) ∷ [])) (ap has_hand (one_here c (Hand r None)))

  next_here : (n : NextPlace) → ((w.slot g.k).cell.slot.next ≡ Some n) ⊎
      ((xs : List (ℕ × Msg)) × (r : RealView) × (sent ≡ xs ++ (n.cell, Hand r None) ∷ [])) →
      (is_visited (v.slot n.cell) || has_hand (v.mail g.k n.cell)) ≡ true
  next_here n (inl h) = next_kept g.k n.cell (all.nexts g.k n h)
  next_here n (inr p) =
      let c = change g g.k n.cell in
      or_right (is_visited (v.slot n.cell)) (has_hand (v.mail g.k n.cell))
      (ap has_hand c.is ∙ has_later c.l c.m (more_has n.cell c.m c.more (new_has n.cell p.0 p.1 p.2)))

  nexts_next : (k : ℕ) (n : NextPlace) → (v.slot k).cell.slot.next ≡ Some n →
      (is_visited (v.slot n.cell) || has_hand (v.mail k n.cell)) ≡ true
  nexts_next k n h = elim (cases_eq k g.k) [
    | inl is ↦
        subst (λ x. (is_visited (v.slot n.cell) || has_hand (v.mail x n.cell)) ≡ true) (sym is)
        (next_here n (lead.next n (sym (ap (λ x. (v.slot x).cell.slot.next) is) ∙ h)))
    | inr other ↦ next_kept k n.cell (all.nexts k n (sym (ap (λ x. x.cell.slot.next) (g.others k other)) ∙ h))
  ]

  -- ---- calls

  rest_follows : (x y : ℕ) (l : List Msg) → Rest w g.k g.input x y l → follow (is_visited (v.slot y)) l ≡ true
  rest_follows x y l (whole is n) =
      follow_more (is_visited (w.slot y)) (is_visited (v.slot y)) l (stays y)
      (ap (follow (is_visited (w.slot y))) is ∙ all.calls x y)
  rest_follows x y l (tail p at a b is) =
      follow_more (is_visited (w.slot y) || is_hand p.1) (is_visited (v.slot y)) l seen
      (both (not (is_call p.1) || is_visited (w.slot y)) (follow (is_visited (w.slot y) || is_hand p.1) l)
      (sym (ap (follow (is_visited (w.slot y))) is) ∙ all.calls x y)).1
    where
      by : (is_visited (w.slot y) ≡ true) ⊎ (is_hand p.1 ≡ true) → is_visited (v.slot y) ≡ true
      by (inl h) = stays y h
      by (inr h) = ap (λ z. is_visited (v.slot z)) b ∙ hand_lands p at h

      seen : (is_visited (w.slot y) || is_hand p.1) ≡ true → is_visited (v.slot y) ≡ true
      seen h = by (either (is_visited (w.slot y)) (is_hand p.1) h)

  -- the call goes where the real is or was, or after the hand-over
  way_leads : (j : ℕ) (l : List Msg) → Rest w g.k g.input g.k j l → Way (w.slot g.k) (comes g.input) j →
      (is_visited (v.slot j) || has_hand l) ≡ true
  way_leads j l rest (by_route r has is) =
      or_left (is_visited (v.slot j)) (has_hand l) (subst (λ x. is_visited (v.slot x) ≡ true) is (stays r.cell (all.routes g.k r has)))
  way_leads j l rest (by_next n has is nh) =
      by (either (is_visited (w.slot j)) (has_hand (w.mail g.k j))
      (subst (λ x. (is_visited (w.slot x) || has_hand (w.mail g.k x)) ≡ true) is (all.nexts g.k n has)))
    where
      there : (has_hand l ≡ true) ⊎ (is_visited (v.slot j) ≡ true) → (is_visited (v.slot j) || has_hand l) ≡ true
      there (inl more) = or_right (is_visited (v.slot j)) (has_hand l) more
      there (inr seen) = or_left (is_visited (v.slot j)) (has_hand l) seen

      by : (is_visited (w.slot j) ≡ true) ⊎ (has_hand (w.mail g.k j) ≡ true) → (is_visited (v.slot j) || has_hand l) ≡ true
      by (inl seen) = or_left (is_visited (v.slot j)) (has_hand l) (stays j seen)
      by (inr more) = there (rest_has g.k j l rest more)

  one_follows : (b : Bool) (c : CallData) → b ≡ true → follow b (Call c ∷ []) ≡ true
  one_follows true c h = refl
  one_follows false c h = cc

  out_follows : (y : ℕ) (l : List Msg) → Rest w g.k g.input g.k y l → Sends g.k (w.slot g.k) (comes g.input) (v.slot g.k) sent →
      follow (is_visited (v.slot y) || has_hand l) (g.out y) ≡ true
  out_follows y l rest (plain a b) =
      none_follow _ (g.out y)
      (subst (AllByRecursion (λ m. is_call m ≡ false)) (sym (items y)) (items_fit (λ k m. is_call m ≡ false) y sent (silent_calls sent a)))
  out_follows y l rest (tells r ks is h) =
      none_follow _ (g.out y)
      (subst (AllByRecursion (λ m. is_call m ≡ false)) (sym (items y ∙ ap (items_to y) is))
      (items_fit (λ k m. is_call m ≡ false) y (map (λ b. (b, Current r.entity g.k r.generation)) ks) (told ks)))
    where
      told : (ks : List ℕ) → AllByRecursion {X = ℕ × Msg} (λ p. is_call p.1 ≡ false) (map (λ b. (b, Current r.entity g.k r.generation)) ks)
      told [] = tt
      told (b ∷ ks) = (refl, told ks)
  out_follows y l rest (one_call c j is way) = elim (cases_eq y j) [
    | inl same ↦
        subst (λ x. follow (is_visited (v.slot y) || has_hand l) x ≡ true)
        (sym (items y ∙ (ap (items_to y) is ∙ (ap (λ z. items_to z ((j, Call c) ∷ [])) same ∙ one_here j (Call c)))))
        (one_follows (is_visited (v.slot y) || has_hand l) c
        (subst (λ z. (is_visited (v.slot z) || has_hand l) ≡ true) (sym same)
        (way_leads j l (subst (λ z. Rest w g.k g.input g.k z l) same rest) way)))
    | inr n ↦
        subst (λ x. follow (is_visited (v.slot y) || has_hand l) x ≡ true) (sym (items y ∙ (ap (items_to y) is ∙ one_there j y (Call c) n)))
        refl
  ]

  more_follows : (x y : ℕ) (l m : List Msg) → Rest w g.k g.input x y l → More g.out g.k x y m →
      follow (is_visited (v.slot y) || has_hand l) m ≡ true
  more_follows x y l m rest (none n is) = ap (follow (is_visited (v.slot y) || has_hand l)) is
  more_follows x y l m rest (own at is) =
      ap (follow (is_visited (v.slot y) || has_hand l)) is
      ∙ out_follows y l (subst (λ z. Rest w g.k g.input z y l) at rest) lead.sends

  calls_next : (x y : ℕ) → follow (is_visited (v.slot y)) (v.mail x y) ≡ true
  calls_next x y =
      let c = change g x y in
      ap (follow (is_visited (v.slot y))) c.is
      ∙ follow_append (is_visited (v.slot y)) c.l c.m (rest_follows x y c.l c.rest) (more_follows x y c.l c.m c.rest c.more)

  pub lead_goes : AllLead v
  lead_goes = record { nexts = nexts_next; routes = routes_next; currents = currents_next; calls = calls_next }
