-- The links with what waits for room in them.
use Rattle.std.proofs.Common.{◌≡◌, ◌≢◌, ℕ, zero, suc, ◌+◌, ◌-◌, ◌<◌, ◌≤◌, Bool, true, false, cond, eqb, List, [], ◌∷◌, ◌++◌, length, None}
use Rattle.std.proofs.Common.{get_or, set, drop, refl, sym, ap, ◌∙◌, subst, arith, inl, inr}
use Rattle.std.specs.Prelude.{slice_get}
use Rattle.std.specs.List.{All}
use Rattle.std.proofs.lemmas.Bool.{cases_eq, cases_lt}
use Rattle.std.proofs.lemmas.List.{length-set, set-set, set-get_or, get_or_read, get_or-set_same, get_or-set_other, get_or_past}
use Rattle.std.proofs.lemmas.List.{length-append, append-nil}
use Rattle.std.proofs.lemmas.List.Elements.{All-set, All-head, All-nil}
use Rattle.std.proofs.lemmas.Option.{slice_get_past}
use Rattle.seam_machine.specs.Sends.{items_to, AllBelow}
use Rattle.seam_machine.specs.Nets.{link, put_all, send_all, row_less, rows_less}
use Rattle.seam_machine.specs.Events.{link_added}
use Rattle.seam_machine.specs.Inside.{is_empty, filled, filled_to, CountsFit, Delivers, IsLinks}
use Rattle.seam_machine.proofs.Totals.{total-set, total-le-others, get_or-le-total}
use Rattle.seam_machine.proofs.Counting.{filled_one, filled-length}
use Rattle.seam_machine.proofs.Puts.{link-send_all, equal_is, apart_is, link_holds_in}
use Rattle.seam_machine.proofs.Writes.{slice_get-append_left, slice_get-append_right}

module _ {M : Type 0} where
  -- with nothing that waits it does not matter who sent last
  pub nothing_waits : (rows : List (List (List M))) (a : ℕ) → send_all rows a [] ≡ rows
  nothing_waits rows a = set-get_or rows a []

  pub empty_is : (out : List (ℕ × M)) → is_empty out ≡ true → out ≡ []
  empty_is [] e = refl
  empty_is (p ∷ ps) e = cc

  pub clear_rows : (rows : List (List (List M))) (a : ℕ) (out : List (ℕ × M)) → is_empty out ≡ true → send_all rows a out ≡ rows
  clear_rows rows a out e = ap (send_all rows a) (empty_is out e) ∙ nothing_waits rows a

  pub sender_within : (rows : List (List (List M))) (busy : List ℕ) (sender : ℕ) (out : List (ℕ × M)) → IsLinks rows busy sender out →
      is_empty out ≡ false → sender < length rows
  sender_within rows busy sender [] q e = cc
  sender_within rows busy sender (p ∷ ps) q e =
      let t = All-head (λ p. p.0 < length rows) p ps q.targets in
      q.sender_in (omega (arith, t))

  -- what waits is at the ends of the sender's links
  view_step : (rows : List (List (List M))) (busy : List ℕ) (sender : ℕ) (out : List (ℕ × M)) (b : Bool) → is_empty out ≡ b →
      IsLinks rows busy sender out → (x y : ℕ) → link (send_all rows sender out) x y ≡ link rows x y ++ link_added sender out x y
  view_step rows busy sender out true e q x y =
      let none = empty_is out e in
      let added : link_added sender out x y ≡ [] = ap (λ o. link_added sender o x y) none ∙ nothing_added (eqb x sender) in
      ap (λ r. link r x y) (clear_rows rows sender out e) ∙ (sym (append-nil (link rows x y)) ∙ ap (λ l. link rows x y ++ l) (sym added))
    where
      nothing_added : (b : Bool) → ◌≡◌ {A = List M} (cond b [] []) []
      nothing_added true = refl
      nothing_added false = refl
  view_step rows busy sender out false e q x y =
      let lt = sender_within rows busy sender out q e in
      link-send_all rows sender out x y (rw (q.square sender [] lt) q.targets) lt

  pub link-view : (rows : List (List (List M))) (busy : List ℕ) (sender : ℕ) (out : List (ℕ × M)) → IsLinks rows busy sender out →
      (x y : ℕ) → link (send_all rows sender out) x y ≡ link rows x y ++ link_added sender out x y
  link-view rows busy sender out q x y = view_step rows busy sender out (is_empty out) refl q x y

  module _ (rows : List (List (List M))) (busy : List ℕ) (sender : ℕ) (out : List (ℕ × M)) (q : IsLinks rows busy sender out) (a b : ℕ)
      (row : List (List M)) (lt : a < length rows) (is_row : row ≡ get_or rows a row) where
    pub link_own : a ≡ sender → link (send_all rows sender out) a b ≡ get_or row b [] ++ items_to b out
    link_own e =
        let at : row ≡ get_or rows a [] = get_or_read rows a row lt is_row [] in
        link-view rows busy sender out q a b
        ∙ (ap (λ t. link rows a b ++ cond t (items_to b out) []) (equal_is a sender e)
        ∙ ap (λ r. get_or r b [] ++ items_to b out) (sym at))

    pub link_other : a ≢ sender → link (send_all rows sender out) a b ≡ get_or row b []
    link_other n =
        let at : row ≡ get_or rows a [] = get_or_read rows a row lt is_row [] in
        link-view rows busy sender out q a b
        ∙ (ap (λ t. link rows a b ++ cond t (items_to b out) []) (apart_is a sender n)
        ∙ (append-nil (link rows a b) ∙ ap (λ r. get_or r b []) (sym at)))

    pub waits_own : (held more : ℕ) → a ≡ sender → held ≡ length (get_or row b []) → more ≡ length (items_to b out) →
        held + more ≡ length (link (send_all rows sender out) a b)
    waits_own held more e h m =
        let one = ap length (link_own e) in
        let two = length-append (get_or row b []) (items_to b out) in
        omega (arith, one, two, h, m)

    pub waits_other : (held : ℕ) → a ≢ sender → held ≡ length (get_or row b []) → held ≡ length (link (send_all rows sender out) a b)
    waits_other held n h = h ∙ sym (ap length (link_other n))

    pub shows_first : (i : ℕ) → i < length (get_or row b []) →
        slice_get (get_or row b []) i ≡ slice_get (link (send_all rows sender out) a b) i
    shows_first i h = elim (cases_eq a sender) [
      | inl e ↦ sym (ap (λ l. slice_get l i) (link_own e) ∙ slice_get-append_left (get_or row b []) (items_to b out) i h)
      | inr n ↦ sym (ap (λ l. slice_get l i) (link_other n))
    ]

    pub shows_own : (i k : ℕ) → a ≡ sender → i ≡ length (get_or row b []) + k →
        slice_get (items_to b out) k ≡ slice_get (link (send_all rows sender out) a b) i
    shows_own i k e h = sym (ap (λ l. slice_get l i) (link_own e) ∙ slice_get-append_right (get_or row b []) (items_to b out) i k h)

    pub shows_none : (i : ℕ) → a ≢ sender → length (get_or row b []) ≤ i → None ≡ slice_get (link (send_all rows sender out) a b) i
    shows_none i n h = sym (ap (λ l. slice_get l i) (link_other n) ∙ slice_get_past (get_or row b []) i h)

  filled_zero : (l : List M) (n : ℕ) → filled l + n ≡ 0 → l ≡ []
  filled_zero [] n e = refl
  filled_zero (x ∷ xs) n e = absurd (omega (arith, e))

  pub filled_none : (b : ℕ) (rows : List (List (List M))) → filled_to b rows ≡ 0 → (a : ℕ) → link rows a b ≡ []
  filled_none b [] e a = refl
  filled_none b (r ∷ rs) e zero = filled_zero (get_or r b []) (filled_to b rs) e
  filled_none b (r ∷ rs) e (suc a) = filled_none b rs (omega (arith, e)) a

  nothing_to : (l : List M) → length l ≡ 0 → l ≡ []
  nothing_to [] e = refl
  nothing_to (x ∷ xs) e = absurd (omega (arith, e))

  either_none : (t : Bool) (l : List M) → l ≡ [] → cond t l [] ≡ []
  either_none true l e = e
  either_none false l e = refl

  -- with no count and nothing that waits for the node, each link to it is empty
  pub idle : (rows : List (List (List M))) (busy : List ℕ) (sender : ℕ) (out : List (ℕ × M)) → IsLinks rows busy sender out → (b : ℕ) →
      b < length busy → get_or busy b 0 ≡ 0 → length (items_to b out) ≡ 0 → (a : ℕ) → link (send_all rows sender out) a b ≡ []
  idle rows busy sender out q b lt z n a =
      let n_rows = q.busy_len in
      let within : b < length rows = omega (arith, lt, n_rows) in
      let one = filled_none b rows (sym (q.busy_is b within) ∙ z) a in
      let two = either_none (eqb a sender) (items_to b out) (nothing_to (items_to b out) n) in
      link-view rows busy sender out q a b ∙ (ap (λ l. l ++ link_added sender out a b) one ∙ two)

  pub none_sent : (b : ℕ) (out : List (ℕ × M)) → is_empty out ≡ true → length (items_to b out) ≡ 0
  none_sent b out e = ap (λ o. length (items_to b o)) (empty_is out e)

  none_filled : (b : ℕ) (rows : List (List (List M))) → ((a : ℕ) → link rows a b ≡ []) → filled_to b rows ≡ 0
  none_filled b [] none = refl
  none_filled b (r ∷ rs) none =
      let first : filled (get_or r b []) ≡ 0 = ap filled (none zero) in
      let others = none_filled b rs (λ a. none (suc a)) in
      omega (arith, first, others)

  both_none : (l m : List M) → l ++ m ≡ [] → (l ≡ []) × (m ≡ [])
  both_none [] m e = (refl, e)
  both_none (x ∷ xs) m e = cc

  -- where each link to the node is empty, its count is 0 and nothing waits for it
  pub idle_back : (rows : List (List (List M))) (busy : List ℕ) (sender : ℕ) (out : List (ℕ × M)) → IsLinks rows busy sender out → (b : ℕ) →
      b < length busy → ((a : ℕ) → link (send_all rows sender out) a b ≡ []) → (get_or busy b 0 ≡ 0) × (items_to b out ≡ [])
  idle_back rows busy sender out q b lt none =
      let within : b < length rows = omega (arith, lt, q.busy_len) in
      let parts : (a : ℕ) → (link rows a b ≡ []) × (link_added sender out a b ≡ []) =
      λ a. both_none (link rows a b) (link_added sender out a b) (sym (link-view rows busy sender out q a b) ∙ none a) in
      let own : link_added sender out sender b ≡ items_to b out = ap (λ t. cond t (items_to b out) []) (equal_is sender sender refl) in
      (q.busy_is b within ∙ none_filled b rows (λ a. (parts a).0), sym own ∙ (parts sender).1)

  -- the counts leave room for the links of one row
  pub counts_fit : (rows : List (List (List M))) (busy : List ℕ) (sender : ℕ) (out : List (ℕ × M)) → IsLinks rows busy sender out →
      (a : ℕ) → a < length rows → CountsFit busy (get_or rows a [])
  counts_fit rows busy sender out q a lt b =
      let few = q.few in
      let n = q.busy_len in
      let others = total-le-others (λ r. filled (get_or r b [])) rows a [] (λ r. filled_one (get_or r b [])) lt in
      elim (cases_lt b (length rows)) [
        | inl in' ↦ let is = q.busy_is b in' in omega (arith, is, others, few)
        | inr past ↦ let z : get_or busy b 0 ≡ 0 = get_or_past busy b 0 (omega (arith, past, n)) in omega (arith, z)
      ]

  module _ (rows : List (List (List M))) (busy busy' : List ℕ) (sender : ℕ) (out out' : List (ℕ × M)) (q : IsLinks rows busy sender out)
      (a : ℕ) (row' : List (List M)) (lt : a < length rows) (wide : length row' ≡ length rows) (len : length busy' ≡ length busy)
      (counts : (b : ℕ) → get_or busy' b 0 + filled (get_or (get_or rows a []) b []) ≡ get_or busy b 0 + filled (get_or row' b []))
      (targets : AllBelow (length rows) out') where
    -- one row was changed, and the counts with it
    pub links_changed : (s : ℕ) → s < length rows → IsLinks (set rows a row') busy' s out'
    links_changed s within =
        let n = length-set rows a row' in
        record {
          few = omega (arith, n, q.few);
          square =
              (let P : ℕ → Type 0 = λ m. All (λ r. length r ≡ m) (set rows a row') in
              subst P (sym n) (All-set (λ r. length r ≡ length rows) rows a row' wide q.square));
          busy_len = omega (arith, n, len, q.busy_len);
          busy_is = λ b h.
              let one = total-set (λ r. filled (get_or r b [])) rows a row' [] lt in
              let two = counts b in
              let three = q.busy_is b (omega (arith, h, n)) in
              omega (arith, one, two, three);
          targets = rw n targets;
          sender_in = λ _. omega (arith, n, within);
        }

  -- what waited was delivered, as far as there was room
  pub links_delivered : (rows : List (List (List M))) (busy busy' : List ℕ) (sender : ℕ) (out out' : List (ℕ × M))
      (row row' : List (List M)) → IsLinks rows busy sender out → sender < length rows → row ≡ get_or rows sender row →
      Delivers row out busy row' out' busy' → IsLinks (set rows sender row') busy' sender out'
  links_delivered rows busy busy' sender out out' row row' q lt h d =
      let at : row ≡ get_or rows sender [] = get_or_read rows sender row lt h [] in
      let wide : length row ≡ length rows = ap length at ∙ q.square sender [] lt in
      links_changed rows busy busy' sender out out' q sender row' lt (d.wide ∙ wide) d.busy_len
      (λ b. ap (λ r. get_or busy' b 0 + filled (get_or r b [])) (sym at) ∙ d.counts b) (rw (← wide) d.targets) sender lt

  -- and the links are the same
  pub delivering : (rows : List (List (List M))) (sender : ℕ) (out rest : List (ℕ × M)) (row row' : List (List M)) → sender < length rows →
      row ≡ get_or rows sender row → put_all row' rest ≡ put_all row out →
      send_all (set rows sender row') sender rest ≡ send_all rows sender out
  delivering rows sender out rest row row' lt h moved =
      let at : row ≡ get_or rows sender [] = get_or_read rows sender row lt h [] in
      let there : get_or (set rows sender row') sender [] ≡ row' = get_or-set_same rows sender row' [] lt in
      rw there (rw set-set (ap (λ r. set rows sender r) (moved ∙ ap (λ r. put_all r out) at)))

  -- the first item of a link to node b was fed to it: its count falls as nothing is left
  module _ (rows : List (List (List M))) (busy : List ℕ) (sender : ℕ) (out : List (ℕ × M)) (q : IsLinks rows busy sender out) (a b : ℕ)
      (row : List (List M)) (at : row ≡ get_or rows a []) (holds : 0 < length (get_or row b [])) where
    serves_in : (a < length rows) × (b < length rows)
    serves_in =
        let h = link_holds_in rows a b (get_or row b []) (ap (λ r. get_or r b []) (sym at)) holds in
        let wide = q.square a [] h.0 in
        let lt = h.1 in
        (h.0, omega (arith, lt, wide))

    pub sends_in : a < length rows
    sends_in = serves_in.0

    pub takes_in : b < length rows
    takes_in = serves_in.1

    pub counted_some : 0 < get_or busy b 0
    counted_some =
        let one = get_or-le-total (λ r. filled (get_or r b [])) rows a [] serves_in.0 in
        let two = q.busy_is b serves_in.1 in
        let three = filled-length (get_or row b []) in
        let four = ap (λ r. filled (get_or r b [])) at in
        omega (arith, one, two, three, four, holds)

    count_less : (row' : List (List M)) (busy' : List ℕ) (left : ℕ) → row' ≡ row_less row b → left ≡ length (get_or row' b []) →
        busy' ≡ set busy b (get_or busy b 0 - (1 - left)) → (k : ℕ) →
        get_or busy' k 0 + filled (get_or (get_or rows a []) k []) ≡ get_or busy k 0 + filled (get_or row' k [])
    count_less row' busy' left less l c k = elim (cases_eq k b) [
      | inl e ↦
          let within : b < length row = omega (arith, serves_in.1, ap length at, q.square a [] serves_in.0) in
          let some = counted_some in
          let one = filled-length (get_or row b []) in
          let two = filled-length (get_or row' b []) in
          let new =
          ap (λ r. get_or r b 0) c ∙ get_or-set_same busy b (get_or busy b 0 - (1 - left)) 0 (omega (arith, serves_in.1, q.busy_len)) in
          let old = ap (λ r. filled (get_or r b [])) (sym at) in
          rw e (omega (arith, one, two, new, old, l, some, holds))
      | inr n ↦
          let one = ap (λ r. get_or r k 0) c ∙ get_or-set_other busy b k (get_or busy b 0 - (1 - left)) 0 n in
          let two = ap (λ r. filled (get_or r k [])) less ∙ ap filled (get_or-set_other row b k (drop 1 (get_or row b [])) [] n) in
          let old = ap (λ r. filled (get_or r k [])) (sym at) in
          omega (arith, one, two, old)
    ]

    pub links_served : (row' : List (List M)) (busy' : List ℕ) (left : ℕ) (out' : List (ℕ × M)) → row' ≡ row_less row b →
        left ≡ length (get_or row' b []) → busy' ≡ set busy b (get_or busy b 0 - (1 - left)) → AllBelow (length rows) out' →
        IsLinks (set rows a row') busy' b out'
    links_served row' busy' left out' less l c t =
        let wide = ap length less ∙ (length-set row b (drop 1 (get_or row b [])) ∙ (ap length at ∙ q.square a [] serves_in.0)) in
        links_changed rows busy busy' sender out out' q a row' serves_in.0 wide (ap length c
        ∙ length-set busy b (get_or busy b 0 - (1 - left))) (count_less row' busy' left less l c) t b serves_in.1

  -- the targets of what waits after a step from nothing that waits
  pub below_sent : (n peers : ℕ) (rest sent out : List (ℕ × M)) → peers ≡ n → rest ≡ [] → AllBelow peers sent → out ≡ rest ++ sent →
      AllBelow n out
  below_sent n peers rest sent out e none h o = rw (o, none, ← e) h

  pub below_peers : (n peers : ℕ) (out : List (ℕ × M)) → peers ≡ n → AllBelow peers out → AllBelow n out
  below_peers n peers out e h = rw (← e) h

  pub below_none : (n : ℕ) (rest : List (ℕ × M)) → rest ≡ [] → AllBelow n rest
  below_none n rest none = rw none (All-nil (λ p. p.0 < n))

  -- the row of a link that holds something, as it was read
  pub read_row : (rows : List (List (List M))) (a b : ℕ) (row : List (List M)) → 0 < length (link rows a b) → row ≡ get_or rows a row →
      row ≡ get_or rows a []
  read_row rows a b row h e = get_or_read rows a row (link_holds_in rows a b (link rows a b) refl h).0 e []

  -- what a served node sent is in its links
  pub served_rows : (rows now : List (List (List M))) (a b : ℕ) (row row' : List (List M)) (out rest sent : List (ℕ × M)) → now ≡ rows →
      row ≡ get_or rows a [] → row' ≡ row_less row b → out ≡ rest ++ sent → rest ≡ [] →
      send_all (set rows a row') b out ≡ send_all (rows_less now a b) b sent
  served_rows rows now a b row row' out rest sent same at less o none =
      let all : out ≡ sent = o ∙ ap (λ r. r ++ sent) none in
      let here : row' ≡ row_less (get_or now a []) b =
      less ∙ (ap (λ r. row_less r b) at ∙ ap (λ x. row_less (get_or x a []) b) (sym same)) in
      rw (all, here, ← same) refl

  pub worked_rows : (rows now : List (List (List M))) (b : ℕ) (out rest sent : List (ℕ × M)) → now ≡ rows → out ≡ rest ++ sent → rest ≡ [] →
      send_all rows b out ≡ send_all now b sent
  worked_rows rows now b out rest sent same o none =
      let all : out ≡ sent = o ∙ ap (λ r. r ++ sent) none in
      rw (all, ← same) refl
